-- Worked examples: what `open` decides and comes to, with leases, durable seconds and overwriting. 1 is R, 3 RH, 5 RW and 7 RWH. Worker 101
-- lives in session 1 and 102 in session 3; session 1 of 102 has ended. Call 9 of worker 102 opens, for the client with guid 2.
use Rattle.std.specs.Prelude.{◌≡◌, ℕ, Bool, true, false, List, [], ◌∷◌, None, Some, map, refl}
use Rattle.sid_core.specs.declared.call.Call.TheVariants.{OpenFile}
use Rattle.sid_core.specs.declared.entry.Letter.TheVariants.{Break}
use Rattle.sid_core.specs.declared.entry.Post.{Post}
use Rattle.sid_core.specs.declared.ids.LeaseName.{LeaseName}
use Rattle.sid_core.specs.declared.ids.Spot.TheVariants.{OpenOf, RangesOf}
use Rattle.sid_core.specs.declared.reply.Reply.TheVariants.{Granted, Pending, InvalidParameter, SharingViolation}
use Rattle.serial_table.specs.declared.change.Change.TheVariants as c
use Rattle.serial_table.specs.declared.decision.Decision.{Decision}
use Rattle.serial_table.specs.declared.rows.LeaseRow.{LeaseRow}
use Rattle.serial_table.specs.declared.rows.OpenRow.{OpenRow}
use Rattle.serial_table.specs.declared.table.Table.{Table}
use Rattle.serial_table.specs.Asked.{is_stat}
use Rattle.serial_table.proofs.CallsAt.{decision_at, outcome_at}
use Rattle.serial_table.proofs.Samples.{id, name, at, state, nothing_open, plain, leased, durable, lease, breaking, breaks, range, waits, wakes, opens}
use Rattle.serial_table.proofs.SampleCalls.{us, them, their_call, opens_leased, opens_durable, overwrites}

-- the lease that call 9 may ask for with key 7, and one of the other client
abbrev own : LeaseName
own = name 2 7

abbrev other : LeaseName
other = name 1 7

-- an open that lets nobody do anything
abbrev alone : OpenRow → OpenRow
alone open_row = record open_row { share = record { 0 = 0 } }

abbrev only_attributes : OpenRow → OpenRow
only_attributes open_row = record open_row { access = record { 0 = 0x80 } }

-- ours is connected, and lost isn't
abbrev ours : OpenRow
ours = leased other (plain 101 1 4 1)

abbrev lost : LeaseName → OpenRow
lost lease_name = durable (leased lease_name (plain 102 1 4 1))

abbrev table : List OpenRow → List LeaseRow → Table
table opens leases = record nothing_open { opens = opens; leases = leases }

-- the open that call 9 makes
abbrev opened : ℕ → ℕ → OpenRow
opened access share = record {
  id = id 102 9;
  owner = them;
  handle = 9;
  file = 1;
  access = record { 0 = access };
  share = record { 0 = share };
  lease = None;
  durable = 0;
  opened = at 70;
  marked = false;
}

abbrev letter : ℕ → ℕ → Bool → Post
letter from target ack = record { to = us; letter = Break 1 7 (state from) (state target) ack }

-- ---- which lease may be asked for

-- A lease of another file is refused before anything else. The caller waits no more for the file's opens, and nothing else changes.
lease_of_another_file : decision_at (record (table (alone (plain 101 1 4 1) ∷ leased own (plain 101 1 5 2) ∷ []) (lease own 2 3 ∷ [])) {
  waiters = waits them 5 (OpenOf 1) us ∷ waits them 6 (OpenOf 2) us ∷ [];
}) their_call (opens_leased 1 0x1 7 7 3)
    ≡ record { changes = c.DropWaiter them 5 ∷ []; reply = InvalidParameter; posts = []; spots = []; waits = None }
unfolding decision_at
lease_of_another_file = refl

-- The same key of another client is another lease.
key_of_another_client : (decision_at (table (leased other (plain 101 1 5 2) ∷ []) (lease other 2 3 ∷ [])) their_call (opens_leased 1 0x1 7 7 3)).reply
    ≡ Granted (Some (state 3)) false
unfolding decision_at
key_of_another_client = refl

-- ---- which opens refuse

-- A lease without HANDLE can't make its open go.
lease_without_handle_refuses : decision_at (record (table (alone ours ∷ []) (lease other 1 5 ∷ [])) { waiters = waits them 5 (OpenOf 1) us ∷ [] }) their_call (opens 1 0x1 7)
    ≡ record { changes = c.DropWaiter them 5 ∷ []; reply = SharingViolation; posts = []; spots = []; waits = None }
unfolding decision_at
lease_without_handle_refuses = refl

-- Nor is the asked lease broken where it has a connected open.
asked_lease_refuses : (decision_at (table (alone (leased own (plain 101 1 4 1)) ∷ []) (lease own 1 7 ∷ [])) their_call (opens_leased 1 0x1 7 7 7)).reply ≡ SharingViolation
unfolding decision_at
asked_lease_refuses = refl

-- An open that doesn't conflict refuses nobody, whatever its lease.
no_conflict_no_refusal : (decision_at (table (leased own (plain 101 1 4 1) ∷ []) (lease own 1 7 ∷ [])) their_call (opens_leased 1 0x1 7 7 7)).reply
    ≡ Granted (Some (state 7)) false
unfolding decision_at
no_conflict_no_refusal = refl

-- Where one refuses, no lease breaks.
one_refuses_and_none_breaks : (decision_at (table (alone ours ∷ alone (plain 101 1 5 1) ∷ []) (lease other 1 7 ∷ [])) their_call (opens 1 0x1 7)).changes ≡ []
unfolding decision_at
one_refuses_and_none_breaks = refl

-- ---- breaks

-- A conflict with a lease that holds HANDLE takes HANDLE alone, and the caller waits for it.
handle_first : decision_at (record (table (alone ours ∷ []) (lease other 1 7 ∷ [])) { waiters = waits them 5 (OpenOf 1) us ∷ [] }) their_call (opens 1 0x1 7) ≡ record {
  changes = c.DropWaiter them 5 ∷ c.SetLease 1 other (state 7) (Some (breaking 5 5)) ∷ [];
  reply = Pending;
  posts = letter 7 5 true ∷ [];
  spots = OpenOf 1 ∷ RangesOf 1 ∷ [];
  waits = Some (waits them 9 (OpenOf 1) us);
}
unfolding decision_at
handle_first = refl

-- While it is breaking, the caller waits again, and no second letter is sent.
no_second_letter : decision_at (table (alone ours ∷ []) (breaks 5 5 (lease other 1 7) ∷ [])) their_call (opens 1 0x1 7) ≡ record {
  changes = c.SetLease 1 other (state 7) (Some (breaking 5 5)) ∷ [];
  reply = Pending;
  posts = [];
  spots = OpenOf 1 ∷ RangesOf 1 ∷ [];
  waits = Some (waits them 9 (OpenOf 1) us);
}
unfolding decision_at
no_second_letter = refl

-- Without a conflict WRITE is taken.
write_is_taken : (decision_at (table (ours ∷ []) (lease other 1 7 ∷ [])) their_call (opens 1 0x1 7)).posts ≡ letter 7 3 true ∷ []
unfolding decision_at
write_is_taken = refl

-- The opens of a lease that lost its session go once HANDLE is broken. What breaks then is what is left.
disconnected_open_goes : decision_at (table (alone (lost (name 3 9)) ∷ ours ∷ []) (lease (name 3 9) 1 7 ∷ lease other 1 7 ∷ [])) their_call (opens 1 0x1 7) ≡ record {
  changes =
      c.SetLease 1 (name 3 9) (state 5) None ∷ c.Settle ∷ c.SetLease 1 other (state 7) (Some (breaking 3 3)) ∷ [];
  reply = Pending;
  posts = letter 7 3 true ∷ [];
  spots = OpenOf 1 ∷ RangesOf 1 ∷ [];
  waits = Some (waits them 9 (OpenOf 1) us);
}
unfolding decision_at
disconnected_open_goes = refl

-- A lease of the conflict that doesn't block, since it isn't connected, keeps no other from blocking.
second_conflict_blocks : (decision_at (table (alone (lost (name 3 9)) ∷ alone ours ∷ []) (lease (name 3 9) 1 7 ∷ lease other 1 7 ∷ [])) their_call (opens 1 0x1 7)).waits
    ≡ Some (waits them 9 (OpenOf 1) us)
unfolding decision_at
second_conflict_blocks = refl

-- The access that breaks nothing: to read and write attributes, and to wait.
stat_access : map is_stat (record { 0 = 0x80 } ∷ record { 0 = 0x100 } ∷ record { 0 = 0x100000 } ∷ record { 0 = 0x100180 } ∷ []) ≡ true ∷ true ∷ true ∷ true ∷ []
stat_access = refl

-- Each other right is more than that: data, extended attributes, the rights to delete, and the rights of the security descriptor.
more_than_stat : map is_stat (
    record { 0 = 0x81 } ∷ record { 0 = 0x82 } ∷ record { 0 = 0x84 } ∷ record { 0 = 0x88 } ∷ record { 0 = 0x90 } ∷ record { 0 = 0xA0 } ∷ record { 0 = 0xC0 }
    ∷ record { 0 = 0x10080 } ∷ record { 0 = 0x20080 } ∷ record { 0 = 0x40080 } ∷ record { 0 = 0x80080 } ∷ []
    ) ≡ false ∷ false ∷ false ∷ false ∷ false ∷ false ∷ false ∷ false ∷ false ∷ false ∷ false ∷ []
more_than_stat = refl

stat_breaks_nothing : decision_at (table (alone ours ∷ []) (lease other 1 7 ∷ [])) their_call (opens 1 0x100180 0) ≡ record {
  changes = c.AddOpen (opened 0x100180 0) ∷ [];
  reply = Granted None false;
  posts = [];
  spots = OpenOf 1 ∷ RangesOf 1 ∷ [];
  waits = None;
}
unfolding decision_at
stat_breaks_nothing = refl

-- To overwrite takes all bits, even by an open that asks for attributes alone.
overwriting_breaks_all : decision_at (table (ours ∷ []) (lease other 1 3 ∷ [])) their_call (overwrites 1 0x80 7) ≡ record {
  changes = c.SetLease 1 other (state 3) (Some (breaking 0 0)) ∷ [];
  reply = Pending;
  posts = letter 3 0 true ∷ [];
  spots = OpenOf 1 ∷ RangesOf 1 ∷ [];
  waits = Some (waits them 9 (OpenOf 1) us);
}
unfolding decision_at
overwriting_breaks_all = refl

-- R goes with a letter, and the open is granted.
overwriting_over_read : decision_at (table (ours ∷ []) (lease other 1 1 ∷ [])) their_call (overwrites 1 0x2 7) ≡ record {
  changes = c.SetLease 1 other (state 0) None ∷ c.AddOpen (opened 0x2 7) ∷ [];
  reply = Granted None false;
  posts = letter 1 0 false ∷ [];
  spots = OpenOf 1 ∷ RangesOf 1 ∷ [];
  waits = None;
}
unfolding decision_at
overwriting_over_read = refl

-- The asked lease isn't broken by its own client.
own_lease_stays : decision_at (table (leased own (plain 102 3 4 1) ∷ []) (lease own 1 7 ∷ [])) their_call (opens_leased 1 0x3 7 7 7) ≡ record {
  changes = c.SetLease 1 own (state 7) None ∷ c.AddOpen (leased own (opened 0x3 7)) ∷ [];
  reply = Granted (Some (state 7)) false;
  posts = [];
  spots = OpenOf 1 ∷ RangesOf 1 ∷ [];
  waits = None;
}
unfolding decision_at
own_lease_stays = refl

-- ---- what is granted

-- the state that a new lease gets beside these opens, asked for RWH
abbrev granted_beside : List OpenRow → List LeaseRow → Decision
granted_beside opens leases = decision_at (table opens leases) their_call (opens_leased 1 0x1 7 7 7)

-- A new lease beside nothing holds what is asked.
new_lease_holds_all : granted_beside [] [] ≡ record {
  changes = c.AddLease (lease own 1 7) ∷ c.AddOpen (leased own (opened 0x1 7)) ∷ [];
  reply = Granted (Some (state 7)) false;
  posts = [];
  spots = OpenOf 1 ∷ RangesOf 1 ∷ [];
  waits = None;
}
unfolding decision_at
new_lease_holds_all = refl

-- Beside an open without a lease it gets no WRITE, though the open be of the same session ..
no_write_beside_a_plain_open : granted_beside (plain 102 3 4 1 ∷ []) [] ≡ record {
  changes = c.AddLease (lease own 1 3) ∷ c.AddOpen (leased own (opened 0x1 7)) ∷ [];
  reply = Granted (Some (state 3)) false;
  posts = [];
  spots = OpenOf 1 ∷ RangesOf 1 ∷ [];
  waits = None;
}
unfolding decision_at
no_write_beside_a_plain_open = refl

-- .. or under another lease, though that be disconnected.
no_write_beside_another_lease : (granted_beside (lost other ∷ []) (lease other 1 3 ∷ [])).reply ≡ Granted (Some (state 3)) false
unfolding decision_at
no_write_beside_another_lease = refl

-- Of RW, R is left.
read_is_left : (decision_at (table (plain 102 3 4 1 ∷ []) []) their_call (opens_leased 1 0x1 7 7 5)).reply ≡ Granted (Some (state 1)) false
unfolding decision_at
read_is_left = refl

-- Beside an open that asks for attributes alone it gets WRITE.
write_beside_attributes : (granted_beside (only_attributes (plain 101 1 4 1) ∷ only_attributes (leased other (plain 101 1 5 1)) ∷ []) (lease other 1 3 ∷ [])).reply
    ≡ Granted (Some (state 7)) false
unfolding decision_at
write_beside_attributes = refl

-- A lease that holds more than is asked stays as it is.
more_is_held : decision_at (table (leased own (plain 102 3 4 1) ∷ []) (lease own 1 7 ∷ [])) their_call (opens_leased 1 0x3 7 7 1) ≡ record {
  changes = c.AddOpen (leased own (opened 0x3 7)) ∷ [];
  reply = Granted (Some (state 7)) false;
  posts = [];
  spots = OpenOf 1 ∷ RangesOf 1 ∷ [];
  waits = None;
}
unfolding decision_at
more_is_held = refl

-- One that holds less holds what is allowed besides: R and RH are RH.
lease_grows : decision_at (table (leased own (plain 102 3 4 1) ∷ plain 101 1 5 1 ∷ []) (lease own 1 1 ∷ [])) their_call (opens_durable 1 0x3 7 7 7 60) ≡ record {
  changes = c.SetLease 1 own (state 3) None ∷ c.AddOpen (durable (leased own (opened 0x3 7))) ∷ [];
  reply = Granted (Some (state 3)) true;
  posts = [];
  spots = OpenOf 1 ∷ RangesOf 1 ∷ [];
  waits = None;
}
unfolding decision_at
lease_grows = refl

-- An open under the asked lease itself takes no WRITE from it.
write_beside_the_same_lease : decision_at (table (leased own (plain 102 3 4 1) ∷ []) (lease own 1 1 ∷ [])) their_call (opens_leased 1 0x3 7 7 7) ≡ record {
  changes = c.SetLease 1 own (state 7) None ∷ c.AddOpen (leased own (opened 0x3 7)) ∷ [];
  reply = Granted (Some (state 7)) false;
  posts = [];
  spots = OpenOf 1 ∷ RangesOf 1 ∷ [];
  waits = None;
}
unfolding decision_at
write_beside_the_same_lease = refl

-- It keeps the WRITE that it holds.
write_is_kept : decision_at (table (leased own (plain 102 3 4 1) ∷ plain 101 1 5 1 ∷ []) (lease own 1 5 ∷ [])) their_call (opens_leased 1 0x3 7 7 7) ≡ record {
  changes = c.SetLease 1 own (state 7) None ∷ c.AddOpen (leased own (opened 0x3 7)) ∷ [];
  reply = Granted (Some (state 7)) false;
  posts = [];
  spots = OpenOf 1 ∷ RangesOf 1 ∷ [];
  waits = None;
}
unfolding decision_at
write_is_kept = refl

-- While the lease is breaking it stays, and the open isn't durable.
breaking_lease_stays : decision_at (table (leased own (plain 102 3 4 1) ∷ []) (breaks 3 3 (lease own 1 7) ∷ [])) their_call (opens_durable 1 0x3 7 7 7 60) ≡ record {
  changes = c.AddOpen (leased own (opened 0x3 7)) ∷ [];
  reply = Granted (Some (state 7)) false;
  posts = [];
  spots = OpenOf 1 ∷ RangesOf 1 ∷ [];
  waits = None;
}
unfolding decision_at
breaking_lease_stays = refl

-- ---- what lasts

-- Under a lease that holds HANDLE the open is durable, for the seconds that were asked ..
durable_under_handle : decision_at (table [] []) their_call (opens_durable 1 0x3 7 7 3 90) ≡ record {
  changes = c.AddLease (lease own 1 3) ∷ c.AddOpen (record (leased own (opened 0x3 7)) { durable = 90 }) ∷ [];
  reply = Granted (Some (state 3)) true;
  posts = [];
  spots = OpenOf 1 ∷ RangesOf 1 ∷ [];
  waits = None;
}
unfolding decision_at
durable_under_handle = refl

-- .. under one that holds RW it isn't, and has no seconds ..
not_durable_without_handle : decision_at (table [] []) their_call (opens_durable 1 0x3 7 7 5 90) ≡ record {
  changes = c.AddLease (lease own 1 5) ∷ c.AddOpen (leased own (opened 0x3 7)) ∷ [];
  reply = Granted (Some (state 5)) false;
  posts = [];
  spots = OpenOf 1 ∷ RangesOf 1 ∷ [];
  waits = None;
}
unfolding decision_at
not_durable_without_handle = refl

-- .. nor without a lease.
not_durable_without_a_lease : decision_at (table [] []) their_call (OpenFile 1 (record { 0 = 0x3 }) (record { 0 = 7 }) None 90 false false) ≡ record {
  changes = c.AddOpen (opened 0x3 7) ∷ [];
  reply = Granted None false;
  posts = [];
  spots = OpenOf 1 ∷ RangesOf 1 ∷ [];
  waits = None;
}
unfolding decision_at
not_durable_without_a_lease = refl

-- A lease of no state is a lease.
empty_lease : (decision_at (table [] []) their_call (opens_durable 1 0x3 7 7 0 90)).reply ≡ Granted (Some (state 0)) false
unfolding decision_at
empty_lease = refl

-- ---- one's own disconnected open in the way

-- It goes, since HANDLE of its lease is broken, and with it the lease. The name begins anew.
lease_begins_anew : decision_at (table (alone (lost own) ∷ []) (lease own 1 7 ∷ [])) their_call (opens_durable 1 0x1 7 7 3 60) ≡ record {
  changes =
      c.SetLease 1 own (state 5) None ∷ c.Settle ∷ c.AddLease (lease own 1 3) ∷ c.AddOpen (durable (leased own (opened 0x1 7))) ∷ [];
  reply = Granted (Some (state 3)) true;
  posts = [];
  spots = OpenOf 1 ∷ RangesOf 1 ∷ [];
  waits = None;
}
unfolding decision_at
lease_begins_anew = refl

-- Who waits for its ranges is woken, after who waits for the file's opens. The caller's own waiter comes last.
open_that_goes_wakes : outcome_at (record (table (alone (lost (name 3 9)) ∷ ours ∷ []) (lease (name 3 9) 1 7 ∷ lease other 1 7 ∷ [])) {
  ranges = range (id 102 4) 1 0 ∷ [];
  waiters = waits us 6 (RangesOf 1) them ∷ waits us 5 (OpenOf 1) them ∷ waits us 7 (OpenOf 2) them ∷ [];
}) their_call (opens 1 0x1 7) ≡ record {
  changes =
      c.SetLease 1 (name 3 9) (state 5) None ∷ c.Settle ∷ c.SetLease 1 other (state 7) (Some (breaking 3 3)) ∷ c.Settle ∷ c.DropWaiter us 5
      ∷ c.DropWaiter us 6 ∷ c.AddWaiter (waits them 9 (OpenOf 1) us) ∷ c.Send (letter 7 3 true) ∷ c.Send (wakes us 5) ∷ c.Send (wakes us 6) ∷ [];
  reply = Pending;
  posts = letter 7 3 true ∷ wakes us 5 ∷ wakes us 6 ∷ [];
}
unfolding outcome_at
open_that_goes_wakes = refl

-- Worked examples: what an acknowledgement decides and comes to. 1 is R, 3 RH, 5 RW and 7 RWH.
use Rattle.std.specs.Prelude.{◌≡◌, true, false, [], ◌∷◌, None, Some, refl}
use Rattle.sid_core.specs.declared.call.Call.TheVariants.{Ack}
use Rattle.sid_core.specs.declared.entry.Letter.TheVariants.{Break}
use Rattle.sid_core.specs.declared.ids.LeaseName.{LeaseName}
use Rattle.sid_core.specs.declared.ids.Spot.TheVariants.{OpenOf, RangesOf}
use Rattle.sid_core.specs.declared.reply.Reply.TheVariants.{Done, ObjectNameNotFound, Unsuccessful, RequestNotAccepted}
use Rattle.serial_table.specs.declared.change.Change.TheVariants as c
use Rattle.serial_table.specs.declared.rows.LeaseRow.{LeaseRow}
use Rattle.serial_table.specs.declared.table.Table.{Table}
use Rattle.serial_table.specs.Decision.{only_reply}
use Rattle.serial_table.proofs.CallsAt.{decision_at, outcome_at}
use Rattle.serial_table.proofs.Samples.{name, state, nothing_open, plain, leased, lease, breaking, breaks, waits, just_waits, wakes}
use Rattle.serial_table.proofs.SampleCalls.{us, them, our_call, their_call}

abbrev seven : LeaseName
seven = name 1 7

-- The lease has two connected opens, of which the first is theirs.
abbrev under : LeaseRow → Table
under row = record nothing_open { opens = leased seven (plain 102 3 4 1) ∷ leased seven (plain 101 1 6 1) ∷ []; leases = row ∷ [] }

-- The break is over with the state that is needed.
break_is_over : decision_at (under (breaks 3 3 (lease seven 1 7))) our_call (Ack 7 (state 3))
    ≡ record { changes = c.Acknowledge 1 seven (state 3) ∷ []; reply = Done; posts = []; spots = OpenOf 1 ∷ RangesOf 1 ∷ []; waits = None }
unfolding decision_at
break_is_over = refl

-- Less than is needed may stay, too.
less_stays : decision_at (under (breaks 3 3 (lease seven 1 7))) our_call (Ack 7 (state 1))
    ≡ record { changes = c.Acknowledge 1 seven (state 1) ∷ []; reply = Done; posts = []; spots = OpenOf 1 ∷ RangesOf 1 ∷ []; waits = None }
unfolding decision_at
less_stays = refl

-- What was asked is accepted, though less is needed by now, and breaks again at once. The letter goes to the owner of the first connected
-- open, whoever acknowledges.
breaks_again : decision_at (under (breaks 3 1 (lease seven 1 7))) our_call (Ack 7 (state 3)) ≡ record {
  changes = c.Acknowledge 1 seven (state 3) ∷ c.SetLease 1 seven (state 3) (Some (breaking 1 1)) ∷ [];
  reply = Done;
  posts = record { to = them; letter = Break 1 7 (state 3) (state 1) true } ∷ [];
  spots = OpenOf 1 ∷ RangesOf 1 ∷ [];
  waits = None;
}
unfolding decision_at
breaks_again = refl

-- R that isn't needed goes without another acknowledgement.
read_goes_at_once : decision_at (under (breaks 3 0 (lease seven 1 7))) our_call (Ack 7 (state 1)) ≡ record {
  changes = c.Acknowledge 1 seven (state 1) ∷ c.SetLease 1 seven (state 0) None ∷ [];
  reply = Done;
  posts = record { to = them; letter = Break 1 7 (state 1) (state 0) false } ∷ [];
  spots = OpenOf 1 ∷ RangesOf 1 ∷ [];
  waits = None;
}
unfolding decision_at
read_goes_at_once = refl

-- More than was asked isn't accepted, though it is held.
more_than_asked : decision_at (under (breaks 3 3 (lease seven 1 7))) our_call (Ack 7 (state 5)) ≡ only_reply RequestNotAccepted
unfolding decision_at
more_than_asked = refl

-- Without a break there is nothing to acknowledge, whatever the state.
nothing_to_acknowledge : decision_at (under (lease seven 1 3)) our_call (Ack 7 (state 7)) ≡ only_reply Unsuccessful
unfolding decision_at
nothing_to_acknowledge = refl

-- A lease goes by its client and key.
lease_of_another_client : decision_at (under (breaks 3 3 (lease seven 1 7))) their_call (Ack 7 (state 3)) ≡ only_reply ObjectNameNotFound
unfolding decision_at
lease_of_another_client = refl

another_key : decision_at (under (breaks 3 3 (lease seven 1 7))) our_call (Ack 8 (state 3)) ≡ only_reply ObjectNameNotFound
unfolding decision_at
another_key = refl

-- Who waits for the file's opens is woken though the lease breaks again; who waits for its ranges or for another file isn't.
acknowledgement_wakes : outcome_at (record (under (breaks 3 1 (lease seven 1 7))) {
  waiters = just_waits them 5 (RangesOf 1) ∷ waits them 6 (OpenOf 1) us ∷ waits them 7 (OpenOf 2) us ∷ [];
}) our_call (Ack 7 (state 3)) ≡ record {
  changes =
      c.Acknowledge 1 seven (state 3) ∷ c.SetLease 1 seven (state 3) (Some (breaking 1 1)) ∷ c.Settle ∷ c.DropWaiter them 6
      ∷ c.Send (record { to = them; letter = Break 1 7 (state 3) (state 1) true }) ∷ c.Send (wakes them 6) ∷ [];
  reply = Done;
  posts = record { to = them; letter = Break 1 7 (state 3) (state 1) true } ∷ wakes them 6 ∷ [];
}
unfolding outcome_at
acknowledgement_wakes = refl

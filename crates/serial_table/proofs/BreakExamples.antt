-- Worked examples: what breaking a lease comes to. 1 is R, 3 RH, 5 RW and 7 RWH. Worker 101 lives in session 1 and 102 in session 3;
-- session 1 of 102 has ended.
use Rattle.std.specs.Prelude.{◌≡◌, ◌-◌, ◌^◌, ℕ, Bool, true, false, List, [], ◌∷◌, None, Some, refl}
use Rattle.sid_core.specs.declared.entry.Letter.TheVariants.{Break}
use Rattle.sid_core.specs.declared.entry.Post.{Post}
use Rattle.sid_core.specs.declared.ids.LeaseName.{LeaseName}
use Rattle.sid_core.specs.declared.ids.Sid.{Sid}
use Rattle.serial_table.specs.declared.change.Change.TheVariants.{SetLease, Settle}
use Rattle.serial_table.specs.declared.rows.LeaseRow.{LeaseRow}
use Rattle.serial_table.specs.declared.rows.OpenRow.{OpenRow}
use Rattle.serial_table.specs.View.{view}
use Rattle.serial_table.specs.File.{FileView, file_view}
use Rattle.serial_table.specs.Change.{set_lease}
use Rattle.serial_table.specs.Settle.{settle_file}
use Rattle.serial_table.specs.Break.{no_break, until_of, break_lease, break_each, break_others, names_of, all_but_handle, all_but_write, none_of_them}
use Rattle.serial_table.proofs.Samples.{name, at, state, nothing_open, plain, leased, durable, lease, breaking, breaks}
use Rattle.serial_table.proofs.SampleCalls.{us, them}

abbrev seven : LeaseName
seven = name 1 7

abbrev eight : LeaseName
eight = name 2 8

-- disconnected, ours and theirs, under the first lease
abbrev lost : OpenRow
lost = durable (leased seven (plain 102 1 4 1))

abbrev ours : OpenRow
ours = leased seven (plain 101 1 4 1)

abbrev theirs : OpenRow
theirs = leased seven (plain 102 3 6 1)

-- under the second
abbrev beside : OpenRow
beside = leased eight (plain 102 3 7 1)

abbrev file_1 : List OpenRow → List LeaseRow → FileView
file_1 opens leases = file_view 1 (view (record nothing_open { opens = opens; leases = leases }))

abbrev two_connected : FileView
two_connected = file_1 (lost ∷ ours ∷ theirs ∷ []) []

abbrev letter : Sid → ℕ → ℕ → ℕ → Bool → Post
letter to key from target ack = record { to = to; letter = Break 1 key (state from) (state target) ack }

-- ---- which bits stay

kept_bits : all_but_handle ∷ all_but_write ∷ none_of_them ∷ [] ≡ 5 ∷ 3 ∷ 0 ∷ []
kept_bits = refl

-- ---- until when a break lasts

-- 35 seconds, and never beyond the numbers of 64 bits
lasts_35_seconds : until_of (at 1) ≡ at 36
lasts_35_seconds = refl

lasts_to_the_end : until_of (at (2 ^ 64 - 3)) ≡ at (2 ^ 64 - 1)
lasts_to_the_end = refl

-- ---- a lease that isn't breaking, at moment 70

-- The letter goes to the owner of the first connected open, who is waited for. Until then the lease holds what it held.
handle_is_broken : break_lease (at 70) 1 two_connected all_but_handle (lease seven 1 7) ≡ record {
  changes = SetLease 1 seven (state 7) (Some (breaking 5 5)) ∷ [];
  posts = letter us 7 7 5 true ∷ [];
  blocker = Some us;
}
unfolding break_lease
handle_is_broken = refl

write_is_broken : break_lease (at 70) 1 two_connected all_but_write (lease seven 1 7) ≡ record {
  changes = SetLease 1 seven (state 7) (Some (breaking 3 3)) ∷ [];
  posts = letter us 7 7 3 true ∷ [];
  blocker = Some us;
}
unfolding break_lease
write_is_broken = refl

all_is_broken : break_lease (at 70) 1 two_connected none_of_them (lease seven 1 3) ≡ record {
  changes = SetLease 1 seven (state 3) (Some (breaking 0 0)) ∷ [];
  posts = letter us 7 3 0 true ∷ [];
  blocker = Some us;
}
unfolding break_lease
all_is_broken = refl

-- R goes at once. The letter asks for no acknowledgement, and nobody is waited for.
read_is_broken : break_lease (at 70) 1 two_connected none_of_them (lease seven 1 1) ≡ record {
  changes = SetLease 1 seven (state 0) None ∷ [];
  posts = letter us 7 1 0 false ∷ [];
  blocker = None;
}
unfolding break_lease
read_is_broken = refl

-- What it doesn't hold can't be broken.
nothing_is_broken_of_read : break_lease (at 70) 1 two_connected all_but_write (lease seven 1 1) ≡ no_break
unfolding break_lease
nothing_is_broken_of_read = refl

nothing_is_broken_of_read_write : break_lease (at 70) 1 two_connected all_but_handle (lease seven 1 5) ≡ no_break
unfolding break_lease
nothing_is_broken_of_read_write = refl

nothing_is_broken_of_none : break_lease (at 70) 1 two_connected none_of_them (lease seven 1 0) ≡ no_break
unfolding break_lease
nothing_is_broken_of_none = refl

-- With no connected open nobody is told: the bits go at once, and the table settles.
nobody_is_told : break_lease (at 70) 1 (file_1 (lost ∷ beside ∷ []) []) all_but_handle (lease seven 1 7) ≡ record {
  changes = SetLease 1 seven (state 5) None ∷ Settle ∷ [];
  posts = [];
  blocker = None;
}
unfolding break_lease
nobody_is_told = refl

nobody_is_told_of_read : break_lease (at 70) 1 (file_1 (lost ∷ []) []) none_of_them (lease seven 1 1) ≡ record {
  changes = SetLease 1 seven (state 0) None ∷ Settle ∷ [];
  posts = [];
  blocker = None;
}
unfolding break_lease
nobody_is_told_of_read = refl

-- ---- a lease that is breaking: less is needed, what was asked stays, and nobody is told

-- It blocks, since it holds HANDLE.
less_is_needed : break_lease (at 70) 1 two_connected all_but_handle (breaks 3 3 (lease seven 1 7)) ≡ record {
  changes = SetLease 1 seven (state 7) (Some (breaking 3 1)) ∷ [];
  posts = [];
  blocker = Some us;
}
unfolding break_lease
less_is_needed = refl

-- It blocks though no more is needed, since it still holds WRITE.
waits_for_the_first_break : break_lease (at 70) 1 two_connected all_but_write (breaks 3 1 (lease seven 1 7)) ≡ record {
  changes = SetLease 1 seven (state 7) (Some (breaking 3 1)) ∷ [];
  posts = [];
  blocker = Some us;
}
unfolding break_lease
waits_for_the_first_break = refl

-- It holds no WRITE, and so doesn't block.
breaking_lease_lets_pass : break_lease (at 70) 1 two_connected all_but_write (breaks 1 1 (lease seven 1 3)) ≡ record {
  changes = SetLease 1 seven (state 3) (Some (breaking 1 1)) ∷ [];
  posts = [];
  blocker = None;
}
unfolding break_lease
breaking_lease_lets_pass = refl

-- Nothing is needed any more. The moment of the break stays.
nothing_is_needed : break_lease (at 70) 1 two_connected none_of_them (record (lease seven 1 7) { breaking = Some (record (breaking 5 5) { until = at 40 }) }) ≡ record {
  changes = SetLease 1 seven (state 7) (Some (record (breaking 5 0) { until = at 40 })) ∷ [];
  posts = [];
  blocker = Some us;
}
unfolding break_lease
nothing_is_needed = refl

-- ---- several leases

abbrev two_leases : ℕ → ℕ → FileView
two_leases first second = file_1 (ours ∷ beside ∷ []) (lease seven 1 first ∷ lease eight 1 second ∷ [])

-- Each is broken in turn, and the first that blocks is waited for.
both_are_broken : break_each (at 70) 1 (two_leases 7 7) all_but_write (eight ∷ seven ∷ []) ≡ record {
  changes = SetLease 1 eight (state 7) (Some (breaking 3 3)) ∷ SetLease 1 seven (state 7) (Some (breaking 3 3)) ∷ [];
  posts = letter them 8 7 3 true ∷ letter us 7 7 3 true ∷ [];
  blocker = Some them;
}
unfolding break_each break_lease set_lease
both_are_broken = refl

-- The first doesn't block, and the second does.
second_blocks : break_each (at 70) 1 (two_leases 1 3) none_of_them (seven ∷ eight ∷ []) ≡ record {
  changes = SetLease 1 seven (state 0) None ∷ SetLease 1 eight (state 3) (Some (breaking 0 0)) ∷ [];
  posts = letter us 7 1 0 false ∷ letter them 8 3 0 true ∷ [];
  blocker = Some them;
}
unfolding break_each break_lease set_lease
second_blocks = refl

-- A name that is no lease of the file, and one that the settling before it has taken away.
no_such_lease : break_each (at 70) 1 (two_leases 7 7) none_of_them (name 2 7 ∷ []) ≡ no_break
unfolding break_each
no_such_lease = refl

taken_away_before : break_each (at 70) 1 (file_1 (lost ∷ []) (lease seven 1 7 ∷ [])) all_but_handle (seven ∷ seven ∷ []) ≡ record {
  changes = SetLease 1 seven (state 5) None ∷ Settle ∷ [];
  posts = [];
  blocker = None;
}
unfolding break_each break_lease set_lease settle_file
taken_away_before = refl

-- The names of a list of opens: each once, by the first open of the list that carries it. A name is a guid and a key.
names_each_once : names_of ((file_1 (beside ∷ plain 101 1 8 1 ∷ ours ∷ lost ∷ beside ∷ leased (name 2 7) (plain 102 3 8 1) ∷ []) []).opens)
    ≡ eight ∷ seven ∷ name 2 7 ∷ []
names_each_once = refl

-- The others are broken in the order of the file's opens, connected or not.
others_are_broken : break_others (at 70) 1 (two_leases 7 7) all_but_write (Some seven) ≡ record {
  changes = SetLease 1 eight (state 7) (Some (breaking 3 3)) ∷ [];
  posts = letter them 8 7 3 true ∷ [];
  blocker = Some them;
}
unfolding break_each break_lease set_lease
others_are_broken = refl

all_are_others : (break_others (at 70) 1 (two_leases 7 7) all_but_write None).posts ≡ letter us 7 7 3 true ∷ letter them 8 7 3 true ∷ []
unfolding break_each break_lease set_lease
all_are_others = refl

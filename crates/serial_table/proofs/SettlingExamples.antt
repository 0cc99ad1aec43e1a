-- Worked examples: what settles. Worker 101 lives in session 1; session 1 of 102 has ended, and 103 is dead.
use Rattle.std.specs.Prelude.{◌≡◌, ℕ, ◌==◌, [], ◌∷◌, refl}
use Rattle.sid_core.specs.declared.ids.LeaseName.{LeaseName}
use Rattle.serial_table.specs.declared.rows.OpenRow.{OpenRow}
use Rattle.serial_table.specs.declared.table.Table.{Table}
use Rattle.serial_table.specs.View.{view}
use Rattle.serial_table.specs.File.{FileView, file_view}
use Rattle.serial_table.specs.Settle.{settle, settle_where, settle_file}
use Rattle.serial_table.proofs.Samples.{id, name, nothing_open, plain, leased, durable, lease, breaks, range}

abbrev seven : LeaseName
seven = name 2 7

-- an open of file 1 under the lease, that lost its session
abbrev lost : OpenRow
lost = durable (leased seven (plain 102 1 4 1))

-- and one whose session lives
abbrev kept : OpenRow
kept = durable (leased seven (plain 101 1 6 1))

-- ---- the first sentence

-- The break of a lease with no connected open is over, with the state that was needed. It still holds HANDLE, so its open stays.
break_is_over : settle (record nothing_open { opens = lost ∷ []; leases = breaks 3 3 (lease seven 1 7) ∷ [] })
    ≡ record nothing_open { opens = lost ∷ []; leases = lease seven 1 3 ∷ [] }
unfolding settle_where
break_is_over = refl

-- A lease that has a connected open goes on breaking, and keeps what it holds.
break_goes_on : settle (record nothing_open { opens = lost ∷ kept ∷ []; leases = breaks 3 1 (lease seven 1 7) ∷ [] })
    ≡ record nothing_open { opens = lost ∷ kept ∷ []; leases = breaks 3 1 (lease seven 1 7) ∷ [] }
unfolding settle_where
break_goes_on = refl

-- A connected open under another name doesn't hold the break up.
abbrev beside : OpenRow
beside = leased (name 2 8) (plain 101 1 6 1)

break_is_over_beside_another : settle (record nothing_open { opens = lost ∷ beside ∷ []; leases = breaks 3 3 (lease seven 1 7) ∷ breaks 5 1 (lease (name 2 8) 1 7) ∷ [] })
    ≡ record nothing_open { opens = lost ∷ beside ∷ []; leases = lease seven 1 3 ∷ breaks 5 1 (lease (name 2 8) 1 7) ∷ [] }
unfolding settle_where
break_is_over_beside_another = refl

-- ---- the second

-- A lease of R loses its disconnected opens with their byte ranges. Connected ones stay, and so do theirs.
disconnected_opens_go : settle (record nothing_open {
  opens = lost ∷ kept ∷ [];
  leases = lease seven 1 1 ∷ [];
  ranges = range (id 102 4) 1 0 ∷ range (id 101 6) 1 10 ∷ range (id 102 4) 1 20 ∷ [];
}) ≡ record nothing_open { opens = kept ∷ []; leases = lease seven 1 1 ∷ []; ranges = range (id 101 6) 1 10 ∷ [] }
unfolding settle_where
disconnected_opens_go = refl

-- A lease of RH loses none, and its open keeps its ranges.
handle_keeps_opens : settle (record nothing_open { opens = lost ∷ []; leases = lease seven 1 3 ∷ []; ranges = range (id 102 4) 1 0 ∷ [] })
    ≡ record nothing_open { opens = lost ∷ []; leases = lease seven 1 3 ∷ []; ranges = range (id 102 4) 1 0 ∷ [] }
unfolding settle_where
handle_keeps_opens = refl

-- READ and WRITE without HANDLE are not enough.
write_keeps_no_open : settle (record nothing_open { opens = lost ∷ kept ∷ []; leases = lease seven 1 5 ∷ [] })
    ≡ record nothing_open { opens = kept ∷ []; leases = lease seven 1 5 ∷ [] }
unfolding settle_where
write_keeps_no_open = refl

-- While a lease that holds HANDLE breaks to R, its disconnected open stays: what counts is what it holds.
breaking_lease_keeps_opens : settle (record nothing_open { opens = lost ∷ kept ∷ []; leases = breaks 1 1 (lease seven 1 3) ∷ []; ranges = range (id 102 4) 1 0 ∷ [] })
    ≡ record nothing_open { opens = lost ∷ kept ∷ []; leases = breaks 1 1 (lease seven 1 3) ∷ []; ranges = range (id 102 4) 1 0 ∷ [] }
unfolding settle_where
breaking_lease_keeps_opens = refl

-- ---- the third

-- A lease without opens is gone, whatever it holds, and its neighbours stay.
lease_without_opens_goes : settle (record nothing_open { opens = kept ∷ []; leases = lease (name 2 8) 1 7 ∷ lease seven 1 7 ∷ lease (name 3 7) 1 7 ∷ [] })
    ≡ record nothing_open { opens = kept ∷ []; leases = lease seven 1 7 ∷ [] }
unfolding settle_where
lease_without_opens_goes = refl

-- ---- one after another

abbrev lost_of : ℕ → OpenRow
lost_of file = durable (leased (name 2 file) (plain 102 1 file file))

-- in each of two files: a lease that breaks to R with R needed, and its only open is disconnected and has a range
abbrev two_to_settle : Table
two_to_settle = record nothing_open {
  opens = lost_of 1 ∷ lost_of 2 ∷ [];
  leases = breaks 3 1 (lease (name 2 1) 1 7) ∷ breaks 3 1 (lease (name 2 2) 2 7) ∷ [];
  ranges = range (id 102 2) 2 0 ∷ range (id 102 1) 1 0 ∷ [];
}

-- What is needed lacks HANDLE, though what was asked has it: the open goes, its range with it, and so the lease too.
break_takes_all : settle two_to_settle ≡ nothing_open
unfolding settle_where
break_takes_all = refl

-- Where file 1 alone settles, the rows of file 2 stay as they are.
other_file_stays : settle_where (λ file. file == 1) two_to_settle
    ≡ record nothing_open { opens = lost_of 2 ∷ []; leases = breaks 3 1 (lease (name 2 2) 2 7) ∷ []; ranges = range (id 102 2) 2 0 ∷ [] }
unfolding settle_where
other_file_stays = refl

-- ---- a file by itself

abbrev file_1 : FileView
file_1 = file_view 1 (view (record two_to_settle { opens = lost_of 1 ∷ plain 101 1 9 1 ∷ lost_of 2 ∷ [] }))

-- Of the opens of the file, the one under the lease goes and the other stays.
open_of_the_file_goes : (settle_file file_1).opens ≡ (file_view 1 (view (record nothing_open { opens = plain 101 1 9 1 ∷ [] }))).opens
unfolding settle_file
open_of_the_file_goes = refl

range_of_the_file_goes : (settle_file file_1).ranges ≡ []
unfolding settle_file
range_of_the_file_goes = refl

lease_of_the_file_goes : (settle_file file_1).leases (name 2 1) ≡ []
unfolding settle_file
lease_of_the_file_goes = refl

-- A lease of the file that takes what was needed.
lease_takes_what_is_needed : (settle_file (file_view 1 (view (record nothing_open { opens = lost ∷ []; leases = breaks 3 3 (lease seven 1 7) ∷ [] })))).leases seven
    ≡ lease seven 1 3 ∷ []
unfolding settle_file
lease_takes_what_is_needed = refl

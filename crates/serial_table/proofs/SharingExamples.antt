-- Worked examples: which opens conflict. Access 0x1 reads, 0x2 writes, 0x4 appends, 0x20 executes and 0x10000 deletes; 0x8 and 0x80
-- are of attributes. Share 1 is for readers, 2 for writers and 4 for deleters.
use Rattle.std.specs.Prelude.{◌≡◌, true, false, refl}
use Rattle.serial_table.specs.Share.{share_conflict}

-- To execute counts as to read: beside an open that lets others only write and delete ..
executing_is_hindered : share_conflict 0x20 7 0x1 6 ≡ true
executing_is_hindered = refl

-- .. and the other way round.
executing_asks_to_share_reading : share_conflict 0x1 6 0x20 7 ≡ true
executing_asks_to_share_reading = refl

-- An open that executes beside one that lets others read.
executing_goes_beside : share_conflict 0x20 1 0x1 1 ≡ false
executing_goes_beside = refl

-- To append counts as to write.
appending_is_hindered : share_conflict 0x4 7 0x1 5 ≡ true
appending_is_hindered = refl

-- An open that appends beside one that lets others write.
appending_goes_beside : share_conflict 0x4 1 0x1 2 ≡ false
appending_goes_beside = refl

-- To delete asks for the third bit alone.
deleting_is_hindered : share_conflict 0x10000 7 0x1 3 ≡ true
deleting_is_hindered = refl

deleting_goes_beside : share_conflict 0x10000 1 0x1 4 ≡ false
deleting_goes_beside = refl

-- An open that only reads attributes takes no part, whatever either of the two shares.
attributes_take_no_part : share_conflict 0x188 0 0x10027 0 ≡ false
attributes_take_no_part = refl

-- The other way round.
nobody_is_hindered_by_attributes : share_conflict 0x10027 0 0x188 0 ≡ false
nobody_is_hindered_by_attributes = refl

-- Both share all, and both do all.
all_is_shared : share_conflict 0x10027 7 0x10027 7 ≡ false
all_is_shared = refl

-- One that reads beside one that writes: each lets the other do so, and neither lets others do as itself.
each_shares_what_the_other_does : share_conflict 0x1 2 0x2 1 ≡ false
each_shares_what_the_other_does = refl

-- It is enough that one of the two is hindered: the second lets nobody read.
one_is_hindered : share_conflict 0x1 7 0x2 2 ≡ true
one_is_hindered = refl

-- Worked examples: the spelling of a share mode record in both versions, and the sets of the newer fields.
use Rattle.std.specs.Prelude.{◌≡◌, ℕ, true, false, List, [], ◌∷◌, ◌++◌, Ok, Err, None, codes, refl}
use Rattle.record_codec.specs.declared.fault.Unpack.TheVariants.{BadField}
use Rattle.record_codec.specs.declared.share_rec.ShareEntry.{ShareEntry}
use Rattle.record_codec.specs.declared.share_rec.ShareRec.{ShareRec}
use Rattle.record_codec.specs.Codec.{raw}
use Rattle.record_codec.specs.Fields.{truth_in, zero_unless}
use Rattle.record_codec.specs.LeaseRec.{expires}
use Rattle.record_codec.specs.ShareRec.{has_delete, unmarked_entry, share_entry, old_share_fields, share_fields, share_rec}

-- an open of pid 101 with access to read and delete, shared fully, without a lease
abbrev entry : ShareEntry
entry = record {
  id = record { pid = 101; call = 2 };
  owner = record { pid = 101; session = 3 };
  handle = 4;
  access = record { 0 = 0x10001 };
  share = record { 0 = 7 };
  lease = None;
  durable = 0;
  opened = 5;
  marked = false;
}

abbrev share : ShareRec
share = record { file = 6; path = codes "/d"; name = codes "a"; pending = false; entries = entry ∷ []; watchers = [] }

-- the header's first four bytes, and what the entry's fields are without its mark
abbrev magic : List ℕ
magic = 83 ∷ 72 ∷ 65 ∷ 82 ∷ []

abbrev file : List ℕ
file = 6 ∷ 0 ∷ 0 ∷ 0 ∷ 2 ∷ 0 ∷ 47 ∷ 100 ∷ 1 ∷ 0 ∷ 97 ∷ []

abbrev unmarked : List ℕ
unmarked =
    101 ∷ 0 ∷ 0 ∷ 0 ∷ 2 ∷ 0 ∷ 0 ∷ 0 ∷ 101 ∷ 0 ∷ 0 ∷ 0 ∷ 3 ∷ 0 ∷ 0 ∷ 0 ∷ 4 ∷ 0 ∷ 0 ∷ 0 ∷ 1 ∷ 0 ∷ 1 ∷ 0 ∷ 7
    ∷ 0 ∷ 0 ∷ 0 ∷ 0 ∷ 0 ∷ 0 ∷ 0 ∷ 0 ∷ 0 ∷ 0 ∷ 0 ∷ 0 ∷ 0 ∷ 0 ∷ 0 ∷ 0 ∷ 0 ∷ 0 ∷ 0 ∷ 0 ∷ 0
    ∷ 5 ∷ 0 ∷ 0 ∷ 0 ∷ 0 ∷ 0 ∷ 0 ∷ 0 ∷ []

-- Version 1: neither the pending flag nor the mark has a byte.
in_version_1 : share_rec.spell (1, share) ≡ magic ++ (1 ∷ 0 ∷ []) ++ file ++ (1 ∷ 0 ∷ 0 ∷ 0 ∷ []) ++ unmarked ++ (0 ∷ 0 ∷ 0 ∷ 0 ∷ [])
unfolding old_share_fields unmarked_entry
in_version_1 = refl

-- Version 2: the pending flag stands before the entries, and the mark at the end of an entry.
in_version_2 : share_rec.spell (2, share) ≡ magic ++ (2 ∷ 0 ∷ []) ++ file ++ (0 ∷ 1 ∷ 0 ∷ 0 ∷ 0 ∷ []) ++ unmarked ++ (0 ∷ 0 ∷ 0 ∷ 0 ∷ 0 ∷ [])
unfolding share_fields share_entry unmarked_entry
in_version_2 = refl

-- pending, and the open is marked
in_version_2_marked : share_rec.spell (2, record share { pending = true; entries = record entry { marked = true } ∷ [] }) ≡ magic ++ (2 ∷ 0 ∷ []) ++ file ++ (1 ∷ 1 ∷ 0 ∷ 0 ∷ 0 ∷ []) ++ unmarked ++ (1 ∷ 0 ∷ 0 ∷ 0 ∷ 0 ∷ [])
unfolding share_fields share_entry unmarked_entry
in_version_2_marked = refl

-- ---- marks

-- 0x10000 is DELETE.
delete : has_delete (record { 0 = 0x10001 }) ≡ true
delete = refl

no_delete : has_delete (record { 0 = 0x1E01FF }) ≡ false
no_delete = refl

-- With DELETE an open may be marked, without it may not.
mark_with_delete : (truth_in 20 (zero_unless true)).read (1 ∷ []) ≡ Ok (true, [])
unfolding raw
mark_with_delete = refl

mark_without_delete : (truth_in 20 (zero_unless false)).read (1 ∷ []) ≡ Err (BadField 20)
unfolding raw
mark_without_delete = refl

no_mark_without_delete : (truth_in 20 (zero_unless false)).read (0 ∷ []) ≡ Ok (false, [])
unfolding raw
no_mark_without_delete = refl

-- ---- the moment at which a break expires

too_early : expires true 34 ≡ false
too_early = refl

first : expires true 35 ≡ true
first = refl

last : expires true 10000000034 ≡ true
last = refl

too_late : expires true 10000000035 ≡ false
too_late = refl

none_without_break : expires false 35 ≡ false
none_without_break = refl

zero_without_break : expires false 0 ≡ true
zero_without_break = refl

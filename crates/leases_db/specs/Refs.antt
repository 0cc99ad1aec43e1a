-- References that come and go.
use Rattle.std.specs.Prelude.{ℕ, Bool, not, ◌==◌, if◌then◌else◌, List, [], ◌∷◌, Option, Some, None, filter}
use Rattle.sid_core.specs.declared.ids.OpenId.{OpenId}
use Rattle.sid_core.specs.Ids.{same_id}
use Rattle.record_codec.specs.declared.lease_rec.LeaseRef.{LeaseRef}
use Rattle.record_codec.specs.declared.lease_rec.LeaseRec.{LeaseRec}

abbrev pub is_of : OpenId → LeaseRef → Bool
is_of id ref = same_id ref.id id

abbrev pub without : OpenId → LeaseRec → LeaseRec
without id rec = record rec { refs = filter (λ ref. not (is_of id ref)) rec.refs }

-- the references of a record, if it is there
abbrev pub refs_of : Option LeaseRec → List LeaseRef
refs_of None = []
refs_of (Some rec) = rec.refs

-- the file of a lease that is of another file than this
abbrev pub file_unless : ℕ → ℕ → List LeaseRef → Option ℕ
file_unless file own [] = None
file_unless file own (ref ∷ refs) = if own == file then None else Some own

abbrev pub other_file : ℕ → LeaseRec → Option ℕ
other_file file rec = file_unless file rec.file rec.refs

-- A break that is over.
use Rattle.std.specs.Prelude.{false}
use Rattle.record_codec.specs.declared.lease_rec.LeaseRec.{LeaseRec}

-- The lease holds what was needed.
abbrev pub broken : LeaseRec → LeaseRec
broken rec = record { file = rec.file; held = rec.needed; breaking = false; asked = record { 0 = 0 }; needed = record { 0 = 0 }; until = 0; refs = rec.refs }

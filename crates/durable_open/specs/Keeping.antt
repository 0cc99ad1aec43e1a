-- Opens that outlast their sessions.
use Rattle.std.specs.Prelude.{ℕ, Bool, ◌&&◌, not, ◌==◌, Some}
use Rattle.std.specs.Ordering.{nat_cmp}
use Rattle.std.specs.FinMap.{FinMap}
use Rattle.record_codec.specs.declared.share_rec.ShareEntry.{ShareEntry}
use Rattle.record_codec.specs.declared.lease_rec.LeaseRec.{LeaseRec}
use Rattle.record_codec.specs.declared.register_rec.RegisterRec.{RegisterRec}
use Rattle.record_codec.specs.Counts.{keeps}
use Rattle.server_ids.specs.Sessions.{registered}

-- It is durable, and this record of its lease keeps it.
abbrev pub is_kept_by : FinMap nat_cmp RegisterRec → LeaseRec → ℕ → ShareEntry → Bool
is_kept_by register lease file e = not (e.durable == 0) && keeps (registered register) file e.id (Some lease)

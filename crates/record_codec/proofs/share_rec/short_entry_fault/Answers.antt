use Rattle.std.proofs.Common.{arith}
use Rattle.record_codec.specs.ShareRec.{share_entry}
use Rattle.record_codec.proofs.Sizes.{holds_all}
use Rattle.record_codec.proofs.ShareExact.{share_entry_exact, share_entry_size}
use Rattle.record_codec.proofs.share_rec.short_entry_fault.Goals as goal

pub unreachable-requires : goal.unreachable-requires
unreachable-requires c =
    omega (arith, c.requires, holds_all share_entry 55 share_entry_exact share_entry_size c.args.bytes.now _ (λ i. omega (arith, c.type_inv.bytes i)) c.in-Ok.ensures)

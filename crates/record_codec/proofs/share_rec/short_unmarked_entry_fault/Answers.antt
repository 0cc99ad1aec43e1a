use Rattle.std.proofs.Common.{arith}
use Rattle.record_codec.specs.ShareRec.{unmarked_entry}
use Rattle.record_codec.proofs.Sizes.{holds_all}
use Rattle.record_codec.proofs.ShareExact.{unmarked_entry_exact, unmarked_entry_size}
use Rattle.record_codec.proofs.share_rec.short_unmarked_entry_fault.Goals as goal

pub unreachable-requires : goal.unreachable-requires
unreachable-requires c =
    omega (arith, c.requires, holds_all (unmarked_entry 7) 54 (unmarked_entry_exact 7) (unmarked_entry_size 7) c.args.bytes.now _ (λ i. omega (arith, c.type_inv.bytes i)) c.in-Ok.ensures)

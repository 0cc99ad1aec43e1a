use Rattle.std.proofs.Common.{◌++◌}
use Rattle.record_codec.specs.Fields.{u32, u64, state, truth, list}
use Rattle.record_codec.specs.LeaseRec.{lease_ref, lease_fields}
use Rattle.record_codec.proofs.Append.{appended, appended_to_four}
use Rattle.record_codec.proofs.lease_rec.LeaseRecPacked.put_fields.Goals as goal

pub returns : goal.returns
unfolding lease_fields
returns c =
    let r = c.args.self.now in
    let one = c.put_u32.new.out.items in
    let two = c.put_state.new.out.items in
    let three = c.put_break.new.out.items in
    let last = c.put_list.new.out.items in
    let held = (state 4).spell r.held in
    let breaking = (truth 5).spell r.breaking in
    let asked = (state 6).spell r.asked in
    let needed = (state 7).spell r.needed in
    let until = (u64 8).spell r.until in
    let refs = (list 9 lease_ref).spell r.refs in
    appended c.args.out.now.items one last ((u32 3).spell r.file) (held ++ (breaking ++ (asked ++ (needed ++ (until ++ refs))))) c.put_u32.ensures.items
    (appended one two last held (breaking ++ (asked ++ (needed ++ (until ++ refs)))) c.put_state.ensures.items
    (appended_to_four two three last breaking asked needed until refs c.put_break.ensures.items (rw c.as_slice.ensures at c.put_list.ensures.items)))

use Rattle.std.proofs.Common.{◌++◌}
use Rattle.record_codec.specs.Fields.{u64, state, truth}
use Rattle.record_codec.proofs.Append.{appended}
use Rattle.record_codec.proofs.mail_rec.put_end.Goals as goal

pub returns-clause-items : goal.returns-clause-items
returns-clause-items c =
    let one = c.put_u64.new.out.items in
    let two = c.put_state.new.out.items in
    let three = c.put_state-2.new.out.items in
    let last = c.put_truth.new.out.items in
    let from = (state 13).spell c.args.from in
    let to = (state 14).spell c.args.to in
    let ack = (truth 15).spell c.args.ack in
    appended c.args.out.now.items one last ((u64 12).spell c.args.key) (from ++ (to ++ ack)) c.put_u64.ensures.items
    (appended one two last from (to ++ ack) c.put_state.ensures.items
    (appended two three last to ack c.put_state-2.ensures.items c.put_truth.ensures.items))

use Rattle.std.proofs.Common.{◌≡◌, ◌-◌, ◌++◌, length, replicate, ap, ◌∙◌, arith}
use Rattle.serial_table.proofs.Adding.{column_of_two}
use Rattle.serial_table.proofs.show.column.push_two.Goals as goal

pub returns : goal.returns
returns c =
    let first = c.args.first.now in
    let second = c.args.second.now in
    let room : c.saturating_sub-room.result ≡ (c.args.width - length first) - length second = omega arith in
    column_of_two c.args.out.now.items _ _ _ _ first second c.args.width c.in_ok-extend_from_slice.ensures.items c.in_ok-extend_from_slice-2.ensures.items
    (c.in_ok-push_times.ensures ∙ ap (λ n. c.extend_from_slice-2.new.self.items ++ replicate n 32) room) c.in_ok-push.ensures.items

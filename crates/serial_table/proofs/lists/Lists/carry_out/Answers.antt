use Rattle.std.proofs.Common.{◌∙◌, ℕ, ◌+◌, ◌≤◌, length, drop, arith, length-drop}
use Rattle.serial_table.specs.InPlace.{table_of, HasRoom}
use Rattle.serial_table.proofs.Room.{used_one, room_for_fewer}
use Rattle.serial_table.proofs.Woken.{performed_more, judged_more_at, rest_made, rest_enough}
use Rattle.serial_table.proofs.lists.Lists.carry_out.Goals as goal

one_more : (a b l i : ℕ) → a ≤ l + i → b ≤ a + 1 → b ≤ l + (i + 1)
one_more a b l i h e = omega (arith, h, e)

pub perform-requires-clause-room : goal.perform-requires-clause-room
perform-requires-clause-room c =
    let changes = c.args.changes.now in
    let start : HasRoom c.args.self.now (length changes + 0) = room_for_fewer _ _ _ (omega arith) c.requires.room in
    room_for_fewer _ 1 (length (drop c.loop-change.change-index changes) + 0) (omega (arith, length-drop c.loop-change.change-index changes, c.loop-change-test.true)) (c.loop-change.invariant.room 0 start)

pub loop-change-preserved : goal.loop-change-preserved
loop-change-preserved c =
    let changes = c.args.changes.now in
    let at = c.loop-change.change-index in
    record {
      table = performed_more changes at _ (table_of c.args.self.now) (table_of c.loop-change.self) (table_of c.perform.new.self) c.loop-change-test.true c.loop-change.invariant.table c.perform.ensures.table;
      judged = λ spots fresh. c.judge_all.ensures.items
          ∙ judged_more_at changes at _ (table_of c.args.self.now) (table_of c.loop-change.self) spots _ c.loop-change-test.true c.loop-change.invariant.table (c.loop-change.invariant.judged spots fresh);
      len = c.judge_all.ensures.len ∙ c.loop-change.invariant.len;
      room = λ more room. used_one _ _ (length (drop (at + 1) changes) + more) c.perform.ensures.room
          (room_for_fewer _ _ _ (omega (arith, length-drop at changes, length-drop (at + 1) changes, c.loop-change-test.true)) (c.loop-change.invariant.room more room));
      waiters = one_more _ _ _ _ c.loop-change.invariant.waiters c.perform.ensures.room.waiters.1;
      made = rest_made changes at c.loop-change-test.true c.loop-change.invariant.made;
      enough = rest_enough c.args.scope changes at _ (table_of c.loop-change.self) (table_of c.perform.new.self) c.loop-change-test.true c.loop-change.invariant.enough c.perform.ensures.table;
    }

pub returns-clause-room : goal.returns-clause-room
returns-clause-room c = λ more room. room_for_fewer _ more _ (omega arith) (c.loop-change.invariant.room more room)

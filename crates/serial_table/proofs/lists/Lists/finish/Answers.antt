use Rattle.std.proofs.Common.{◌≡◌, ◌∙◌, ◌+◌, ◌*◌, ◌++◌, ap, length, map, vec_len, vec_capacity, arith}
use Rattle.std.specs.List.{flat_map}
use Rattle.serial_table.specs.declared.change.Change.TheVariants.{Send}
use Rattle.serial_table.specs.View.{view}
use Rattle.serial_table.specs.Change.{perform_all}
use Rattle.serial_table.specs.Wake.{wake}
use Rattle.serial_table.specs.Decision.{waits_no_more, waits_now, conclude}
use Rattle.serial_table.specs.InPlace.{table_of, freed_watches}
use Rattle.serial_table.proofs.Room.{room_for_fewer, letters_fit}
use Rattle.serial_table.proofs.Finishing.{concluded}
use Rattle.serial_table.proofs.lists.Lists.finish.Goals as goal

pub add_wait-requires : goal.add_wait-requires
add_wait-requires c = record {
  room = room_for_fewer _ 1 _ (omega arith) (c.drop_woken.ensures.room (1 + vec_capacity c.args.ready.posts)
      (c.carry_out.ensures.room (1 + vec_capacity c.args.ready.posts)
      (room_for_fewer _ _ _ (omega (arith, c.as_slice.ensures.len)) c.requires.room)));
}

pub send_all-requires : goal.send_all-requires
send_all-requires c =
    let counted : length c.as_slice-3.result.now * length c.as_slice-2.result.now ≡ vec_len c.args.ready.candidates * length c.as_slice-2.result.now =
    ap (λ n. n * length c.as_slice-2.result.now) (c.as_slice-3.ensures.len ∙ c.carry_out.ensures.len) in
    record {
      room = room_for_fewer _ _ (vec_capacity c.args.ready.posts)
          (letters_fit (vec_capacity c.args.ready.posts) (vec_len c.args.ready.candidates) (length c.as_slice-2.result.now)
          (vec_len c.args.self.now.waiters + vec_len c.args.ready.changes) (length c.args.decision.now.posts) (length c.as_slice-5.result.now) (length c.as_slice-7.result.now)
          (omega (arith, c.as_slice-2.ensures.len, c.carry_out.ensures.waiters, c.as_slice.ensures.len))
          (omega (arith, c.as_slice-5.ensures.len, c.push_woken.ensures.len, c.requires.ready.woken.1.0, counted))
          c.requires.ready.posts.1.1
          (omega (arith, c.as_slice-7.ensures.len, c.push_wakes.ensures.len, c.push_posts.ensures.len, c.requires.ready.posts.1.0, ap length c.as_slice-4.ensures)))
          (c.add_wait.ensures.room (vec_capacity c.args.ready.posts) (c.drop_woken.ensures.room (1 + vec_capacity c.args.ready.posts)
          (c.carry_out.ensures.room (1 + vec_capacity c.args.ready.posts)
          (room_for_fewer _ _ _ (omega (arith, c.as_slice.ensures.len)) c.requires.room))));
    }

whole : (c : goal.After-drop-changes) → (table_of c.send_all.new.self ≡ perform_all (conclude (view (table_of c.args.self.now)) c.args.decision.now).changes (table_of c.args.self.now))
    × (c.push_wakes.new.posts.items ≡ (conclude (view (table_of c.args.self.now)) c.args.decision.now).posts)
whole c =
    let t = table_of c.args.self.now in
    let d = c.args.decision.now in
    concluded d t (table_of c.carry_out.new.self) (table_of c.send_all.new.self) c.as_slice.result.now c.carry_out.new.candidates.items c.push_woken.new.woken.items c.push_wakes.new.posts.items
    (c.as_slice.ensures.value ∙ c.requires.ready.changes)
    c.carry_out.ensures.table
    (c.carry_out.ensures.judged d.spots c.requires.ready.candidates)
    (c.push_woken.ensures.items ∙ (λ i. c.requires.ready.woken.0 i ++ flat_map (freed_watches (c.as_slice-2.ensures.value i)) (c.as_slice-3.ensures.value i)))
    (c.push_wakes.ensures.items ∙ (λ i. (c.push_posts.ensures.items ∙ (λ i. c.requires.ready.posts.0 i ++ c.as_slice-4.ensures i)) i ++ map wake (c.as_slice-5.ensures.value i)))
    (c.send_all.ensures.table
    ∙ (λ i. perform_all (map (λ post. Send post) (c.as_slice-7.ensures.value i)) ((c.add_wait.ensures.table ∙ ap (perform_all (waits_now d.waits))
    (c.drop_woken.ensures.table ∙ (λ i. perform_all (map waits_no_more (c.as_slice-6.ensures.value i)) (table_of c.carry_out.new.self)))) i)))

pub returns-clause-table : goal.returns-clause-table
returns-clause-table c = (whole c).0

pub returns-clause-posts : goal.returns-clause-posts
returns-clause-posts c = (whole c).1

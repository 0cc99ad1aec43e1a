-- Changes that neither end nor begin a session leave the workers as they are.
use Rattle.std.proofs.Common.{◌≡◌, Bool, true, false, cond, List, [], ◌∷◌, map, refl, ◌∙◌}
use Rattle.std.specs.List.{list_all, list_any}
use Rattle.std.proofs.lemmas.Bool.{and_parts}
use Rattle.serial_table.specs.declared.table.Table.{Table}
use Rattle.serial_table.specs.declared.change.Change.{Change}
use Rattle.serial_table.specs.declared.change.Change.TheVariants as c
use Rattle.serial_table.specs.View.{is_of_handle}
use Rattle.serial_table.specs.Settle.{settle_where}
use Rattle.serial_table.specs.Change.{perform, perform_all, new_owner}

abbrev pub keeps_workers : Change → Bool
keeps_workers (c.EndSession sid moment) = false
keeps_workers (c.NextSession sid moment) = false
keeps_workers _ = true

same_workers : (b : Bool) (t u : Table) → u.workers ≡ t.workers → (cond b t u).workers ≡ t.workers
same_workers true t u e = refl
same_workers false t u e = e

pub workers-perform : (change : Change) (t : Table) → keeps_workers change ≡ true → (perform change t).workers ≡ t.workers
unfolding settle_where
workers-perform (c.TakeOver file id owner handle) t e = same_workers (list_any (is_of_handle owner handle) t.opens) t (record t { opens = map (new_owner file id owner handle) t.opens }) refl
workers-perform (c.EndSession sid moment) t e = absurd cc
workers-perform (c.NextSession sid moment) t e = absurd cc
workers-perform (c.AddOpen row) t e = refl
workers-perform (c.DropOpen file id) t e = refl
workers-perform (c.AddLease lease) t e = refl
workers-perform (c.SetLease file name held breaking) t e = refl
workers-perform (c.Acknowledge file name state) t e = refl
workers-perform (c.AddRange range) t e = refl
workers-perform (c.DropRange range) t e = refl
workers-perform (c.AddPending file) t e = refl
workers-perform (c.DropPending file) t e = refl
workers-perform (c.AddHold hold) t e = refl
workers-perform (c.SetHold key owner mode) t e = refl
workers-perform (c.DropHold key owner) t e = refl
workers-perform (c.AddWaiter waiter) t e = refl
workers-perform (c.DropWaiter sid call) t e = refl
workers-perform (c.Send post) t e = refl
workers-perform (c.TakeLetter to) t e = refl
workers-perform c.Settle t e = refl

pub workers-perform_all : (cs : List Change) (t : Table) → list_all keeps_workers cs ≡ true → (perform_all cs t).workers ≡ t.workers
workers-perform_all [] t e = refl
workers-perform_all (change ∷ cs) t e =
    let both = and_parts (keeps_workers change) (list_all keeps_workers cs) e in
    workers-perform_all cs (perform change t) both.1 ∙ workers-perform change t both.0

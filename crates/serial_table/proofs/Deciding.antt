-- What a death owes so that it is concluded in place.
use Rattle.std.proofs.Common.{◌≡◌, true, List, [], ◌∷◌, map, refl, ◌∙◌}
use Rattle.std.proofs.lemmas.Bool.{and_from}
use Rattle.std.proofs.lemmas.List.Folds.{list_all-append}
use Rattle.std.specs.List.{list_all}
use Rattle.sid_core.specs.declared.ids.Sid.{Sid}
use Rattle.sid_core.specs.declared.ids.Moment.{Moment}
use Rattle.serial_table.specs.declared.table.Table.{Table}
use Rattle.serial_table.specs.declared.change.Change.{Change}
use Rattle.serial_table.specs.declared.change.Change.TheVariants as c
use Rattle.serial_table.specs.declared.lists.Scope.TheVariants as scope
use Rattle.serial_table.specs.View.{View}
use Rattle.serial_table.specs.Change.{perform}
use Rattle.serial_table.specs.Decision.{waits_no_more}
use Rattle.serial_table.specs.Session.{end_of_session}
use Rattle.serial_table.specs.InPlace.{is_made, IsEnough, AreEnough}
use Rattle.serial_table.proofs.Concluding.{PassesFinishing, no_more_all}
use Rattle.serial_table.proofs.SameWorkers.{keeps_workers}

pub made_waits : PassesFinishing is_made
made_waits = record { comes = λ _. refl; goes = λ _ _. refl; sent = λ _. refl }

-- what keeps the workers begins no session
pub kept_made : (change : Change) → keeps_workers change ≡ true → is_made change ≡ true
kept_made (c.NextSession sid moment) e = absurd cc
kept_made _ e = refl

pub dying_made : (v : View) (sid : Sid) (moment : Moment) → list_all is_made (end_of_session v sid moment []).changes ≡ true
unfolding end_of_session
dying_made v sid moment =
    list_all-append is_made (map waits_no_more (v.watches_behind sid)) (c.EndSession sid moment ∷ [])
    ∙ and_from (list_all is_made (map waits_no_more (v.watches_behind sid))) true (no_more_all is_made made_waits (v.watches_behind sid)) refl

-- all files are always enough
enough_all : (change : Change) (t : Table) → IsEnough scope.All change t
enough_all c.Settle t = refl
enough_all _ t = tt

pub all_enough : (cs : List Change) (t : Table) → AreEnough scope.All cs t
all_enough [] t = tt
all_enough (change ∷ cs) t = (enough_all change t, all_enough cs (perform change t))

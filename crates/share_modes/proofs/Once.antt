-- A loop that lists each lease of the opens in conflict once.
use Rattle.std.proofs.Common.{◌≡◌, ℕ, ◌+◌, ◌<◌, ◌||◌, Bool, true, false, not, cond, is_none, List, [], ◌∷◌, ◌++◌, length, get_or, drop, reverse, Option, Some, None, refl, sym, ap, ◌∙◌, arith}
use Rattle.std.specs.List.{list_any, filter_map, cons_option}
use Rattle.std.specs.FinMap.{FinMap, get, insert, empty, get-empty}
use Rattle.std.proofs.lemmas.List.Folds.{list_any-append}
use Rattle.std.proofs.lemmas.List.{at_drop_more}
use Rattle.sid_core.specs.declared.ids.LeaseName.{LeaseName}
use Rattle.sid_core.specs.Ids.{same_name}
use Rattle.serial_table.specs.Break.{each_once}
use Rattle.serial_table.proofs.Broken.{once_more}
use Rattle.leases_db.specs.Names.{name_cmp}
use Rattle.leases_db.proofs.Maps.{get_inserted}
use Rattle.share_modes.specs.Sharing.{with_lease, AreMet}

lease_next : (lease : Option LeaseName) (names rest : List LeaseName)
    → with_lease lease names ++ each_once (reverse (with_lease lease names)) rest ≡ names ++ each_once (reverse names) (cons_option lease rest)
lease_next None names rest = refl
lease_next (Some name) names rest = once_more (name ∷ rest) names (with_lease (Some name) names) _ 0 name (omega arith) refl refl

-- a loop over the first i entries meets the next
pub lease_more : {X : Type 0} (lease : X → Option LeaseName) (xs : List X) (i : ℕ) (d : X) (names next once : List LeaseName) → i < length xs
    → next ≡ with_lease (lease (get_or xs i d)) names → names ++ each_once (reverse names) (filter_map lease (drop i xs)) ≡ once
    → next ++ each_once (reverse next) (filter_map lease (drop (i + 1) xs)) ≡ once
lease_more lease xs i d names next once lt more e =
    ap (λ ns. ns ++ each_once (reverse ns) (filter_map lease (drop (i + 1) xs))) more
    ∙ lease_next (lease (get_or xs i d)) names (filter_map lease (drop (i + 1) xs))
    ∙ sym (at_drop_more (λ ys. names ++ each_once (reverse names) (filter_map lease ys)) xs i d lt) ∙ e

-- the map of the names that were met, after one more
pub met_more : (name : LeaseName) (names next : List LeaseName) (met more : FinMap name_cmp (Unit {0})) → AreMet names met → more ≡ insert met name tt → next ≡ names ++ name ∷ [] → AreMet next more
met_more name names next met more before put is q =
    ap (λ (m : FinMap name_cmp (Unit {0})). is_none (get m q)) put ∙ ap is_none (get_inserted met name tt q)
    ∙ one_more (same_name q name) (get met q) (list_any (same_name q) names) (before q)
    ∙ sym (ap not (ap (list_any (same_name q)) is ∙ list_any-append (same_name q) names (name ∷ [])))
  where
    one_more : (b : Bool) (o : Option (Unit {0})) (met : Bool) → is_none o ≡ not met → is_none (cond b (Some tt) o) ≡ not (met || (b || false))
    one_more true o true e = refl
    one_more true o false e = refl
    one_more false o true e = e
    one_more false o false e = e

-- and the one before any
pub none_met : (names : List LeaseName) (met : FinMap name_cmp (Unit {0})) → names ≡ [] → met ≡ empty → AreMet names met
none_met names met none is name = ap (λ (m : FinMap name_cmp (Unit {0})). is_none (get m name)) is ∙ ap is_none (get-empty name_cmp name) ∙ sym (ap (λ ns. not (list_any (same_name name) ns)) none)

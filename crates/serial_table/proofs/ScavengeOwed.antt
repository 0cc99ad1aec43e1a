-- `scavenge` drops the opens whose deadline has come.
use Rattle.std.proofs.Common.{◌≡◌, ◌==◌, ◌≤◌, ◌<◌, ◌+◌, ℕ, zero, suc, Bool, true, false, List, [], ◌∷◌, filter, length, map, refl, sym, ap, ◌∙◌, inl, inr, arith}
use Rattle.std.specs.List.{list_all, AllByRecursion, IsDistinct, sum_by, flat_map, range_with_len}
use Rattle.std.proofs.lemmas.Bool.{eqb-true, false_from_ne_true}
use Rattle.std.proofs.lemmas.List.Folds.{list_all-map}
use Rattle.sid_core.specs.declared.ids.Spot.{Spot}
use Rattle.sid_core.specs.declared.ids.Spot.TheVariants.{OpenOf, RangesOf}
use Rattle.sid_core.specs.declared.setup.Setup.{Setup}
use Rattle.sid_core.specs.Ids.{same_spot}
use Rattle.serial_table.specs.declared.rows.OpenRow.{OpenRow}
use Rattle.serial_table.specs.declared.table.Table.{Table}
use Rattle.serial_table.specs.declared.change.Change.{Change}
use Rattle.serial_table.specs.declared.decision.Caller.{Caller}
use Rattle.serial_table.specs.View.{View, view}
use Rattle.serial_table.specs.Decision.{spots_of}
use Rattle.serial_table.specs.Scavenge.{files_of, has_expired, all_expired, goes, scavenge}
use Rattle.serial_table.specs.Sound.{Fits, AllFit}
use Rattle.serial_table.specs.InSets.{Brings}
use Rattle.serial_table.specs.InPlace.{is_made}
use Rattle.serial_table.proofs.Every.{all_pass}
use Rattle.serial_table.proofs.Members.{IsIn, all_of, all_by, in_flat_map, distinct_filtered}
use Rattle.serial_table.proofs.Counting.{sum_mapped}
use Rattle.serial_table.proofs.Waits.{adds_waits}
use Rattle.serial_table.proofs.Losing.{adds_bits}
use Rattle.serial_table.proofs.Numbered.{Numbers}
use Rattle.serial_table.proofs.Fitting.{along_mapped}
use Rattle.serial_table.proofs.SameWorkers.{keeps_workers}
use Rattle.serial_table.proofs.Owing.{IsCalling, DecisionHolds, DecisionBrings, brings, begins, adds_rows}

-- ---- the spots of files that differ

other_files : (first : ℕ) (low n : ℕ) → first < low → AllByRecursion (λ other. (first == other) ≡ false) (range_with_len low n)
other_files first low zero h = tt
other_files first low (suc n) h = (
  false_from_ne_true (first == low) (λ e. let same : first ≡ low = eqb-true first low e in absurd (omega arith)),
  other_files first (low + 1) n (omega arith),
)

files_differ : (low n : ℕ) → IsDistinct (λ a b. a == b) (range_with_len low n)
unfolding IsDistinct
files_differ low zero = tt
files_differ low (suc n) = (other_files low (low + 1) n (omega arith), files_differ (low + 1) n)

-- spots of another file than this one
apart : (file other : ℕ) → (file == other) ≡ false → (spot : Spot) → IsIn spot (spots_of other) → (same_spot (OpenOf file) spot ≡ false) × (same_spot (RangesOf file) spot ≡ false)
apart file other d spot (inl e) = (ap (same_spot (OpenOf file)) (sym e) ∙ d, ap (same_spot (RangesOf file)) (sym e))
apart file other d spot (inr (inl e)) = (ap (same_spot (OpenOf file)) (sym e), ap (same_spot (RangesOf file)) (sym e) ∙ d)
apart file other d spot (inr (inr e)) = absurd e

apart_all : (file : ℕ) (files : List ℕ) → AllByRecursion (λ other. (file == other) ≡ false) files → (spot : Spot) → IsIn spot (flat_map spots_of files)
    → (same_spot (OpenOf file) spot ≡ false) × (same_spot (RangesOf file) spot ≡ false)
apart_all file files d spot i =
    let of = in_flat_map spots_of files spot i in apart file of.0 (all_of (λ other. (file == other) ≡ false) files d of.0 of.1) spot of.2

all_spots_differ : (files : List ℕ) → IsDistinct (λ a b. a == b) files → IsDistinct same_spot (flat_map spots_of files)
unfolding IsDistinct
all_spots_differ [] d = tt
all_spots_differ (file ∷ files) d =
    let others = flat_map spots_of files in (
      (refl, all_by (λ spot. same_spot (OpenOf file) spot ≡ false) others (λ spot i. (apart_all file files d.0 spot i).0)),
      (
        all_by (λ spot. same_spot (RangesOf file) spot ≡ false) others (λ spot i. (apart_all file files d.0 spot i).1),
        all_spots_differ files d.1,
      ),
    )

-- ---- what it owes

-- what its changes add, where a dropped open adds nothing
sum_scavenged : (adds : Change → ℕ) → ((row : OpenRow) → adds (goes row) ≡ 0) → (setup : Setup) (v : View) (caller : Caller) → sum_by adds (scavenge setup v caller).changes ≤ 0
unfolding scavenge
sum_scavenged adds none setup v caller = omega (arith, sum_mapped adds goes none (all_expired setup v caller.moment))

pub scavenge_holds : (low : ℕ → ℕ) (t : Table) (setup : Setup) (caller : Caller) → IsCalling low t caller → DecisionHolds low t (scavenge setup (view t) caller)
unfolding scavenge
scavenge_holds low t setup caller k =
    let gone = all_expired setup (view t) caller.moment in
    let fit : AllFit (map goes gone) t = along_mapped Fits goes gone t (λ row i u. tt) in
    record {
      fits = record { changes = fit; waits = tt; posts = refl };
      numbers = record { changes = along_mapped (Numbers low) goes gone t (λ row i u. tt); waits = λ u. tt };
      adds = adds_rows t (scavenge setup (view t) caller) k.consistent fit
          (let none = sum_scavenged brings (λ row. refl) setup (view t) caller in omega (arith, none)) (sum_scavenged begins (λ row. refl) setup (view t) caller)
          (sum_scavenged adds_waits (λ row. refl) setup (view t) caller) (sum_scavenged adds_bits (λ row. refl) setup (view t) caller) (omega arith)
          (all_spots_differ (filter (has_expired (view t) caller.moment) (files_of setup)) (distinct_filtered (λ a b. a == b) (has_expired (view t) caller.moment) (files_of setup) (files_differ 1 (length setup.files))));
    }

pub scavenge_brings : (setup : Setup) (t : Table) (caller : Caller) → DecisionBrings setup t (scavenge setup (view t) caller)
unfolding scavenge
scavenge_brings setup t caller = record { changes = along_mapped (Brings setup) goes (all_expired setup (view t) caller.moment) t (λ row i u. tt); waits = λ u. tt; letters = λ post i. absurd i }

-- ---- in place

scavenge_all : (p : Change → Bool) → ((row : OpenRow) → p (goes row) ≡ true) → (setup : Setup) (v : View) (caller : Caller) → list_all p (scavenge setup v caller).changes ≡ true
unfolding scavenge
scavenge_all p h setup v caller =
    let gone = all_expired setup v caller.moment in list_all-map p goes gone ∙ all_pass (λ row. p (goes row)) h gone

pub scavenge_made : (setup : Setup) (v : View) (caller : Caller) → list_all is_made (scavenge setup v caller).changes ≡ true
scavenge_made setup v caller = scavenge_all is_made (λ row. refl) setup v caller

pub scavenge_keeps : (setup : Setup) (v : View) (caller : Caller) → list_all keeps_workers (scavenge setup v caller).changes ≡ true
scavenge_keeps setup v caller = scavenge_all keeps_workers (λ row. refl) setup v caller

-- What the row declares can be declared, and cells over it begin behind no entry.
use Rattle.std.specs.Prelude.{◌≡◌, ℕ, zero, suc, ◌<◌, List, [], ◌∷◌, length, codes, replicate, IfOk}
use Rattle.std.specs.List.{IsDistinct}
use Rattle.std.proofs.Common as std
use Rattle.std.proofs.Common.{refl, sym, ap, ◌∙◌, subst, arith}
use mathlib.Core.Option.{some, some-ne-none, some-injective}
use lib.ListN.{get_elem?}
use Rattle.sid_core.specs.declared.setup.Setup.{Setup}
use Rattle.sid_core.specs.Setup.{IsSetup}
use Rattle.sid_core.specs.Values.{IsText}
use Rattle.turn_types.specs.Journal.{Chains}
use Rattle.turn_types.specs.Shown.{Shown, Nothing}
use Rattle.turn_types.specs.Calls.{Able}
use Rattle.turn_types.specs.declared.replay.Replay.{Ghosts}
use Rattle.dbwrap_core.specs.Begun.{Begun}
use Rattle.dbwrap_core.specs.Plain.{beside_of, shown_at}
use Rattle.dbwrap_core.specs.Shows.{blank}
use Rattle.dbwrap_core.specs.declared.plain.PlainCells.{PlainCells}
use Rattle.stored_table.specs.Move.{first_chains}
use Rattle.records_replay.specs.Rule.{IsFirst}
use Rattle.databases.specs.declared.rule.BySetup.{BySetup}
use Rattle.by_hand.specs.Worked.{row, IsBehind}
use Rattle.by_hand.proofs.Deciding.{place_is}

-- ---- what is declared

share_is : IsText (codes "data")
share_is = record { some = omega arith; short = omega arith; printable = ((omega arith, omega arith), ((omega arith, omega arith), ((omega arith, omega arith), ((omega arith, omega arith), tt)))) }

path_is : IsText (codes "/srv/data")
path_is = record { some = omega arith; short = omega arith; printable = ((omega arith, omega arith), ((omega arith, omega arith), ((omega arith, omega arith), ((omega arith, omega arith), ((omega arith, omega arith), ((omega arith, omega arith), ((omega arith, omega arith), ((omega arith, omega arith), ((omega arith, omega arith), tt))))))))) }

hosta : IsText (codes "hostA")
hosta = record { some = omega arith; short = omega arith; printable = ((omega arith, omega arith), ((omega arith, omega arith), ((omega arith, omega arith), ((omega arith, omega arith), ((omega arith, omega arith), tt))))) }

hostb : IsText (codes "hostB")
hostb = record { some = omega arith; short = omega arith; printable = ((omega arith, omega arith), ((omega arith, omega arith), ((omega arith, omega arith), ((omega arith, omega arith), ((omega arith, omega arith), tt))))) }

hostc : IsText (codes "hostC")
hostc = record { some = omega arith; short = omega arith; printable = ((omega arith, omega arith), ((omega arith, omega arith), ((omega arith, omega arith), ((omega arith, omega arith), ((omega arith, omega arith), tt))))) }

a_txt : IsText (codes "a.txt")
a_txt = record { some = omega arith; short = omega arith; printable = ((omega arith, omega arith), ((omega arith, omega arith), ((omega arith, omega arith), ((omega arith, omega arith), ((omega arith, omega arith), tt))))) }

b_txt : IsText (codes "b.txt")
b_txt = record { some = omega arith; short = omega arith; printable = ((omega arith, omega arith), ((omega arith, omega arith), ((omega arith, omega arith), ((omega arith, omega arith), ((omega arith, omega arith), tt))))) }

pub row_declared : IsSetup row
unfolding IsDistinct
row_declared = record {
  few_workers = omega arith;
  few_files = omega arith;
  workers = (record { pid = (omega arith, omega arith); uid = omega arith; guid = omega arith; machine = hosta; share = share_is }, (record { pid = (omega arith, omega arith); uid = omega arith; guid = omega arith; machine = hostb; share = share_is }, (record { pid = (omega arith, omega arith); uid = omega arith; guid = omega arith; machine = hostc; share = share_is }, tt)));
  files = (record { dev = omega arith; inode = omega arith; path = path_is; name = a_txt }, (record { dev = omega arith; inode = omega arith; path = path_is; name = b_txt }, tt));
  pids_differ = ((refl, (refl, tt)), ((refl, tt), (tt, tt)));
  files_differ = ((refl, tt), (tt, tt));
}

pub row_first : (setup : Setup) (first : Chains) → setup ≡ row → first ≡ first_chains row 8 → IsFirst setup first
row_first setup first is first_is = subst (λ (s : Setup). IsFirst s first) (sym is) (subst (λ (k : Chains). IsFirst row k) (sym first_is) (record {
  declared = row_declared;
  some = omega arith;
  few = omega arith;
  is = refl;
}))

-- ---- cells that begin

below : {A : Type 0} (xs : List A) (n : ℕ) (x : A) → get_elem? xs n ≡ some x → n < length xs
below [] n x e = absurd (some-ne-none x (sym e))
below (y ∷ xs) zero x e = omega arith
below (y ∷ xs) (suc n) x e = let b = below xs n x e in omega arith

pub begins : {g : Ghosts BySetup} (p : PlainCells BySetup g) (rule : BySetup) (first : Chains) → rule.setup.now ≡ row → first ≡ first_chains row 8 → Begun rule first 4 (beside_of p) → IsBehind [] (beside_of p) (shown_at p 1)
begins p rule first is first_is begun = record {
  rule = ap (λ (v : Shown BySetup). v.rule.setup.now) shows ∙ is;
  number = ap (λ (v : Shown BySetup). v.number) shows;
  own = ap (λ (v : Shown BySetup). v.own) shows;
  journal = begun.journal;
  chains = begun.chains ∙ first_is;
  passes = let m = begun.many in omega arith;
  idle = record { each = idle };
} where
  shows : shown_at p 1 ≡ blank rule first 1 (replicate 4 std.false)
  shows = place_is (beside_of p).passes 1 (blank rule first 1 (replicate 4 std.false)) _ (begun.passes 1 (omega arith))

  idle : (n : ℕ) (v : Shown BySetup) → get_elem? (beside_of p).passes n ≡ some v → Able v × (v.held ≡ []) × (v.plan ≡ Nothing)
  idle n v at = let m = begun.many in let l = below (beside_of p).passes n v at in
      let is : blank rule first n (replicate 4 std.false) ≡ v = some-injective _ v (sym (begun.passes n (omega arith)) ∙ at) in
      subst (λ (x : Shown BySetup). Able x × (x.held ≡ []) × (x.plan ≡ Nothing)) is (record { lives = refl; recovers_none = refl }, refl, refl)

pub if_ok : {T E : Type 0} {P Q : T → Type 0} (r : std.Result T E) → IfOk r P → ((x : T) → P x → Q x) → IfOk r Q
if_ok (std.Ok x) p so = so x p
if_ok (std.Err e) p so = tt

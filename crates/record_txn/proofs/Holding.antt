-- What a pass shows when its transaction holds one more chain, or has ended.
use Rattle.std.proofs.Common.{◌≡◌, ℕ, zero, suc, ◌+◌, ◌<◌, ◌≤◌, ◌^◌, Bool, true, false, ◌&&◌, cond, eqb, eq-eqb, ne_eqb, List, [], ◌∷◌, ◌++◌, length, slice_set, sym, refl, ap, ◌∙◌, subst, arith, inl, inr}
use Rattle.std.proofs.Common as std
use mathlib.Core.Option.{none, some, some-injective}
use Rattle.sid_core.specs.declared.entry.Entry.{Entry}
use Rattle.sid_core.specs.declared.outside.Point.{Point}
use Rattle.sid_core.specs.declared.outside.Point.TheVariants.{Take, Intent, Commit, Store, Release, Mourn}
use Rattle.chain_map.specs.Pairs.{Pairs}
use Rattle.turn_types.specs.Journal.{Chains}
use Rattle.turn_types.specs.Shown.{Shown, Numbered, Nothing, AllBelow, RisesFrom, look, knows_dead, knows_freed}
use Rattle.turn_types.specs.Calls.{Tried, Learnt, RoseBy}
use Rattle.turn_types.specs.Ends.{Recovered}
use Rattle.turn_types.specs.declared.answers.Take as answer
use Rattle.turn_types.specs.declared.answers.Take.TheVariants as take
use Rattle.turn_types.specs.declared.answers.Recover.{Recover}
use Rattle.turn_types.specs.declared.answers.Recover.TheVariants as recover
use Rattle.record_txn.specs.Holding.{Holds, Ended, EndsRecovery, HasMet, most_steps, is_take, dies_at_first}
use Rattle.record_txn.specs.Hand.{IsHandOf, chains_of}
use Rattle.record_txn.specs.Open.{IsOpen}
use Rattle.record_txn.specs.declared.hand.Held.{Held}
use Rattle.record_txn.proofs.Hands.{hand_snoc, rises_snoc, same_none}
use Rattle.record_txn.specs.declared.hold.TxnEnd.{TxnEnd}
use Rattle.record_txn.specs.declared.hold.TxnEnd.TheVariants as ends

pub number_tried : {R : Type 0} (c : ℕ) (v w : Shown R) (r : answer.Take) → Tried c v w r → w.number ≡ v.number
number_tried {R} c v w take.Taken t = ap (λ (s : Shown R). s.number) t.1
number_tried {R} c v w (take.Busy h) t = ap (λ (s : Shown R). s.number) t.1
number_tried {R} c v w (take.Orphan h) t = ap (λ (s : Shown R). s.number) t.3.2

pub number_recovered : {R : Type 0} (d : ℕ) (stop : std.Option ℕ) (v w : Shown R) (r : Recover) → Recovered d stop v w r → w.number ≡ v.number
number_recovered {R} d stop v w recover.Freed t = ap (λ (s : Shown R). s.number) t.shown
number_recovered {R} d stop v w (recover.Other by) t = ap (λ (s : Shown R). s.number) t.1
number_recovered {R} d stop v w recover.Stopped t = ap (λ (s : Shown R). s.number) t.shown

look_last : (c : ℕ) (y : Pairs) (xs : Numbered) → AllBelow c xs → look c (xs ++ (c, y) ∷ []) ≡ some y
look_last c y [] b = ap (λ t. cond t (some y) none) (eq-eqb c c refl)
look_last c y (x ∷ xs) b = ap (λ t. cond t (some x.1) (look c (xs ++ (c, y) ∷ []))) (ne_eqb x.0 c (λ e. let l = b.0 in omega arith)) ∙ look_last c y xs b.1

-- a chain that was taken is found
pub taken_found : {R : Type 0} (c : ℕ) (v u : Shown R) → AllBelow c v.held → (t : Tried c v u take.Taken) → look c u.held ≡ some t.0
taken_found {R} c v u b t = ap (λ (s : Shown R). look c s.held) t.1 ∙ look_last c t.0 v.held b

module _ {R : Type 0} (step : R → Chains → Entry → Chains) (legal : R → Chains → Entry → Type 0) (follows : R → List Entry → Entry → Type 0) (buries : R → Entry → std.Option ℕ) where
  -- a chain that was taken and read is held
  pub taken_read : (c : ℕ) (v u w : Shown R) (chain : Pairs) → AllBelow c v.held → Tried c v u take.Taken → Learnt step legal follows buries c u w chain → Holds step legal follows buries c v w chain
  taken_read c v u w chain b t l = let p = l.shown in let back = sym p in let is = taken_found c v u b t in
      let same : t.0 ≡ chain = some-injective t.0 chain (sym is ∙ ap (λ (s : Shown R). look c s.held) back ∙ l.contents) in
      let shows : w ≡ record v { held = v.held ++ (c, chain) ∷ []; seen = w.seen; looked = w.looked; taken = w.taken; done = w.done } = p ∙ ap (λ (s : Shown R). record s { seen = w.seen; looked = w.looked }) t.1
      ∙ (λ j. record v { held = v.held ++ (c, same j) ∷ []; seen = w.seen; looked = w.looked; taken = (back j).taken; done = (back j).done }) in
      record {
        shown = shows;
        seen = (l.old.0, l.old.1 ∙ ap (λ (s : Shown R). s.seen ++ l.old.0) t.1);
        taken = subst (λ n. RoseBy 1 v.taken n) (ap (λ (s : Shown R). s.taken) back) t.2;
        parts = l.parts;
        law = l.law;
      }

abbrev or_none : std.Option ℕ → ℕ
or_none std.None = 0
or_none (std.Some n) = n

-- where a recovery is bounded, by one step
only_one : (stop : std.Option Point) (n : ℕ) → most_steps stop ≡ std.Some n → n ≡ 1
only_one (std.Some Mourn) n e = sym (ap or_none e)
only_one (std.Some Take) n e = absurd cc
only_one (std.Some Intent) n e = absurd cc
only_one (std.Some Commit) n e = absurd cc
only_one (std.Some Store) n e = absurd cc
only_one (std.Some Release) n e = absurd cc
only_one std.None n e = absurd cc

-- an orphan's pass was recovered, or the pass died in that
pub met_orphan : {R : Type 0} (c h : ℕ) (stop : std.Option Point) (v u w : Shown R) (end : TxnEnd) → v.plan ≡ Nothing → Tried c v u (take.Orphan h) → EndsRecovery h stop u w end → Ended v w c stop end
met_orphan {R} c h stop v u w ends.Died p t e = let q = t.3.2 in let x = e.0 in let s = e.1 in let died = e.2 in let n = only_one stop (s.stored + s.freed) s.allowed in inr (
  s.allowed ∙ ap (λ k. std.Some k) n,
  record {
    dead = h;
    other = t.0;
    unknown = t.1;
    shown = died ∙ ap (λ (r : Shown R). record r { alive = false; looked = w.looked }) s.shown
        ∙ ap (λ (r : Shown R). record r { alive = false; recovering = std.Some h; looked = w.looked; given_back = x.given_back; done = x.done }) q
        ∙ (λ j. record v { alive = false; dead = slice_set v.dead h true; recovering = std.Some h; looked = w.looked; given_back = (sym died j).given_back; done = (sym died j).done });
    done = subst (λ k. RoseBy 1 v.done k) (ap (λ (r : Shown R). r.done) (sym died)) (subst (λ k. RoseBy 1 k x.done) (ap (λ (r : Shown R). r.done) q) (subst (λ k. RoseBy k u.done x.done) n s.done));
  },
)
met_orphan {R} c h stop v u w (ends.Met d) p t e = let q = t.3.2 in let x = e.1.0 in let f = e.1.1 in let given = e.1.2 in
    let back = sym given in
    subst (λ n. HasMet v w stop n) (sym e.0) (record {
      other = t.0;
      unknown = t.1;
      known = (ap (λ (s : Shown R). knows_dead h s) (given ∙ ap (λ (s : Shown R). record s { held = []; plan = Nothing; looked = w.looked; done = w.done }) f.shown) ∙ t.2, ap (λ (s : Shown R). knows_freed h s) given ∙ f.knows);
      stored = f.stored;
      freed = f.freed;
      allowed = f.allowed;
      shown = given ∙ ap (λ (s : Shown R). record s { held = []; plan = Nothing; looked = w.looked; done = w.done }) f.shown
          ∙ ap (λ (s : Shown R). record s { held = []; plan = Nothing; freed = slice_set s.freed h true; looked = w.looked; given_back = x.given_back; done = w.done }) q
          ∙ (λ j. record v { held = []; plan = Nothing; dead = slice_set v.dead h true; freed = slice_set v.freed h true; looked = w.looked; given_back = (back j).given_back; done = w.done });
      given_back = subst (λ n. RoseBy f.freed v.given_back n) (ap (λ (s : Shown R). s.given_back) back) (subst (λ n. RoseBy f.freed n x.given_back) (ap (λ (s : Shown R). s.given_back) q) f.given_back);
    })
met_orphan {R} c h stop v u w ends.OutOfMemory p t e = absurd e

-- whether the pass dies goes by what is in hand
pub same_death : (stop : std.Option Point) (hand : List Held) (held : Numbered) → IsHandOf hand held → dies_at_first stop (chains_of hand) ≡ dies_at_first stop held
same_death stop hand held o = ap (λ b. is_take stop && b) (same_none hand held o)

takes_first : (stop : std.Option Point) (held : Numbered) → (0 < length held → is_take stop ≡ false) → dies_at_first stop held ≡ false → is_take stop ≡ false
takes_first stop [] b e = and_true (is_take stop) e where
  and_true : (a : Bool) → a && true ≡ false → a ≡ false
  and_true true e = e
  and_true false e = e
takes_first stop (x ∷ held) b e = b (omega arith)

module _ {R : Type 0} (step : R → Chains → Entry → Chains) (legal : R → Chains → Entry → Type 0) (follows : R → List Entry → Entry → Type 0) (buries : R → Entry → std.Option ℕ) where
  -- a transaction that holds one more chain can go on
  pub opens_more : (quiet now : Type 0) (count many chains : ℕ) (stop : std.Option Point) (hand : List Held) (c : ℕ) (chain : Pairs) (v w : Shown R)
      → IsOpen step legal follows buries quiet count chains stop hand v → now → many ≡ count → AllBelow c v.held → dies_at_first stop v.held ≡ false
      → Holds step legal follows buries c v w chain → IsOpen step legal follows buries now many chains stop (hand ++ record { number = c; chain = chain; is_changed = false } ∷ []) w
  opens_more quiet now count many chains stop hand c chain v w o q m below lives h = let held = ap (λ (s : Shown R). s.held) h.shown in record {
    able = record { lives = ap (λ (s : Shown R). s.alive) h.shown ∙ o.able.lives; recovers_none = ap (λ (s : Shown R). s.recovering) h.shown ∙ o.able.recovers_none };
    unplanned = ap (λ (s : Shown R). s.plan) h.shown ∙ o.unplanned;
    quiet = q;
    databases = (o.databases.0, o.databases.1, m ∙ o.databases.2);
    hand = subst (λ (t : Numbered). IsHandOf (hand ++ record { number = c; chain = chain; is_changed = false } ∷ []) t) (sym held) (hand_snoc hand v.held (record { number = c; chain = chain; is_changed = false }) (c, chain) refl refl o.hand);
    rising = subst (λ (t : Numbered). RisesFrom 0 t) (sym held) (rises_snoc 0 c chain v.held (omega arith) o.rising below);
    parts = h.parts;
    law = λ l. h.law;
    before_first = λ l. takes_first stop v.held o.before_first lives;
  }

  -- a transaction with other chains in hand can go on
  pub opens_with : (quiet : Type 0) (count chains : ℕ) (stop : std.Option Point) (hand more : List Held) (v : Shown R) → IsOpen step legal follows buries quiet count chains stop hand v → IsHandOf more v.held
      → IsOpen step legal follows buries quiet count chains stop more v
  opens_with quiet count chains stop hand more v o m = record { able = o.able; unplanned = o.unplanned; quiet = o.quiet; databases = o.databases; hand = m; rising = o.rising; parts = o.parts; law = o.law; before_first = o.before_first }

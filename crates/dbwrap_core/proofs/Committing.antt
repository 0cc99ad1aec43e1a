-- What holds of plain cells holds after a commit.
use Rattle.std.proofs.Common.{◌≡◌, ℕ, zero, suc, ◌+◌, ◌<◌, ◌≤◌, Bool, true, false, cond, eqb, ne_eqb, eq-eqb, List, [], ◌∷◌, ◌++◌, length, slice_set, slice_index_or, take, sym, refl, ap, ◌∙◌, subst, arith, length-set, length-append, append-nil, Some}
use Rattle.std.proofs.Common as std
use Rattle.std.proofs.lemmas.List.{take-append-le, take_all}
use Rattle.std.proofs.lemmas.List.Sums.{fold_push}
use Rattle.std.specs.Prelude.{fold}
use mathlib.Core.Option.{some, some-injective}
use mathlib.Core.Logic.{dite}
use native.Mathlib.Decide.{ℕ_discrete, dec_le}
use lib.ListN.{get_elem?}
use Rattle.chain_map.specs.Pairs.{Pairs}
use Rattle.sid_core.specs.declared.entry.Entry.{Entry}
use Rattle.turn_types.specs.Journal.{Chains, Legal, Lawful, Reached, Agree, of_pass, has}
use Rattle.turn_types.specs.Shown.{Numbered, look, or_else, due, planned, is_made}
use Rattle.turn_types.specs.Calls.{Fits, Stands, RoseBy}
use Rattle.turn_types.specs.Shown as plan
use Rattle.dbwrap_core.specs.declared.pass.PlainPass.{PlainPass}
use Rattle.dbwrap_core.specs.declared.pass.Stage.{Stage}
use Rattle.dbwrap_core.specs.declared.pass.Stage.TheVariants as stage
use Rattle.dbwrap_core.specs.Shows.{plan_of, held_by}
use Rattle.dbwrap_core.proofs.Showing.{shown_living}
use Rattle.dbwrap_core.proofs.Keeping as keep
use Rattle.turn_types.specs.Shown.{Shown}
use Rattle.turn_types.specs.declared.replay.Replay.{Ghosts}
use Rattle.dbwrap_core.specs.declared.plain.PlainCells.{PlainCells}
use Rattle.dbwrap_core.specs.Plain.{shown_at}
use Rattle.dbwrap_core.proofs.Here.{Here, living, showing}
use Rattle.dbwrap_core.specs.Sound.{Sound, PassOk, due_of, plans_of}
use Rattle.dbwrap_core.proofs.Lists.{set_same, set_other, within, take_prefix, is_there}
use Rattle.dbwrap_core.proofs.Keeping.{Place}
use Rattle.dbwrap_core.proofs.Planning as plans
use Rattle.dbwrap_core.proofs.Holding as holding
use Rattle.dbwrap_core.proofs.Counting.{counted_more, pass_else, pass_more}
use Rattle.turn_types.proofs.Runs as runs

-- what is planned is due once it is committed
made_due : (s : Stage) (xs : Numbered) → is_made (plan_of s xs) ≡ true → (planned (plan_of s xs) ≡ xs) × (due (plan_of stage.Committed xs) ≡ planned (plan_of s xs))
made_due stage.Nothing xs e = absurd cc
made_due stage.Made xs e = (refl, refl)
made_due stage.Committed xs e = absurd cc

module _ {R : Type 0} (first : R → Chains → Type 0) (step : R → Chains → Entry → Chains) (legal : R → Chains → Entry → Type 0) (follows : R → List Entry → Entry → Type 0) (buries : R → Entry → std.Option ℕ) (names : R → Chains → Entry → List ℕ) (rule : R) (k0 : Chains)
    (law : Lawful (first rule) (step rule) (legal rule) (names rule) (follows rule)) (ks : Chains) (hs : List ℕ) (js : List Entry) (ps : List PlainPass) (n : ℕ) (p p' : PlainPass) (e : Entry)
    (ok : Sound first step legal follows buries rule k0 ks hs js ps) (at : Place ps n p) (lives : p.death ≡ std.None) (fits : Fits step legal follows buries names (shown_living rule k0 ks hs js n p) e)
    (ends : p'.seen ≡ length js + 1) (same : p' ≡ record p { seen = p'.seen; commits = e.seq; stage = stage.Committed; looked = p'.looked; done = p'.done }) where
  own_part : PassOk (buries rule) (fold (step rule) k0 js) ks hs js (length ps) n p
  own_part = ok.each n p at

  idle : due_of p ≡ []
  idle = plans.none_due (plan_of p.stage p.new.items) (plans.made_uncommitted (plan_of p.stage p.new.items) fits.made)

  -- the journal as far as the pass has seen it, and what that makes
  abbrev ks1 : List Entry
  ks1 = take p.seen js

  abbrev k : Chains
  k = fold (step rule) k0 ks1

  abbrev l : Chains
  l = fold (step rule) k0 js

  seen_legal : Legal (step rule) (legal rule) (follows rule) k0 ks1
  seen_legal = let r = take_prefix p.seen js in runs.legal_front (step rule) (legal rule) (follows rule) k0 ks1 r.0 (subst (λ (t : List Entry). Legal (step rule) (legal rule) (follows rule) k0 t) r.1 ok.is_legal)

  reach_k : Reached (step rule) (legal rule) (follows rule) (first rule) k
  reach_k = runs.reached (step rule) (legal rule) (follows rule) k0 (first rule) (names rule) law ok.began ks1 seen_legal

  reach_l : Reached (step rule) (legal rule) (follows rule) (first rule) l
  reach_l = runs.reached (step rule) (legal rule) (follows rule) k0 (first rule) (names rule) law ok.began js ok.is_legal

  as_long : length k ≡ length l
  as_long = runs.legal_length (step rule) (legal rule) (follows rule) k0 (first rule) (names rule) law ok.began ks1 seen_legal ∙ sym (runs.legal_length (step rule) (legal rule) (follows rule) k0 (first rule) (names rule) law ok.began js ok.is_legal)

  -- what the pass holds is its part of both
  held_k : (c : ℕ) (y : Pairs) → look c (held_by (n + 1) 0 ks hs) ≡ some y → get_elem? k c ≡ some y
  held_k c y f = fits.was c y f

  held_l : (c : ℕ) (y : Pairs) → look c (held_by (n + 1) 0 ks hs) ≡ some y → get_elem? l c ≡ some y
  held_l c y f = let t = holding.found_at (n + 1) c ks hs y f in subst (λ (d : Numbered). get_elem? l c ≡ some (or_else (look c d) y)) idle (own_part.parts c y t.0 t.1)

  agree : Agree (names rule k e) k l
  agree c h = let y = fits.has_all c h in held_k c y.0 y.1 ∙ sym (held_l c y.0 y.1)

  moved : (names rule l e ≡ names rule k e) × (legal rule k e → legal rule l e)
  moved = law.local k l e reach_k reach_l as_long agree

  may : legal rule l e
  may = moved.1 fits.may

  after_seen : follows rule (of_pass e.by ks1) e
  after_seen = subst (λ (z : ℕ). follows rule (of_pass z ks1) e) (sym fits.by_pass) fits.after_own

  after_all : follows rule (of_pass e.by js) e
  after_all = subst (λ (t : List Entry). follows rule t e) (own_part.own ∙ ap (λ (z : ℕ). of_pass z js) (sym fits.by_pass)) fits.after_own

  made : Agree (names rule k e) (step rule k e) (step rule l e)
  made = law.made k l e (k0, ks1, ok.began, seen_legal, after_seen, refl) (k0, js, ok.began, ok.is_legal, after_all, refl) as_long agree fits.may

  pub still_legal : Legal (step rule) (legal rule) (follows rule) k0 (js ++ e ∷ [])
  still_legal = runs.legal_snoc (step rule) (legal rule) (follows rule) k0 js e ok.is_legal may after_all

  after : fold (step rule) k0 (js ++ e ∷ []) ≡ step rule l e
  after = fold_push (step rule) k0 js e

  -- a chain that the pass doesn't hold stays
  aside : (c w : ℕ) → get_elem? hs c ≡ some w → (w ≡ n + 1 → ⊥) → get_elem? (fold (step rule) k0 (js ++ e ∷ [])) c ≡ get_elem? l c
  aside c w at_c other = ap (λ (z : Chains). get_elem? z c) after ∙ (law.frame l e reach_l may).1 c (unnamed (has c (names rule l e)) refl) where
    unnamed : (t : Bool) → has c (names rule l e) ≡ t → t ≡ false
    unnamed false h = refl
    unnamed true h = let y = fits.has_all c (ap (λ (z : List ℕ). has c z) (sym moved.0) ∙ h) in let f = holding.found_at (n + 1) c ks hs y.0 y.1 in absurd (other (some-injective w (n + 1) (sym at_c ∙ f.0)))

  -- a chain that it holds is what is planned for it, or stays
  held_after : (c : ℕ) (y : Pairs) → get_elem? hs c ≡ some (n + 1) → get_elem? ks c ≡ some y → get_elem? (fold (step rule) k0 (js ++ e ∷ [])) c ≡ some (or_else (look c (plans_of p)) y)
  held_after c y at_c is = ap (λ (z : Chains). get_elem? z c) after ∙ go (has c (names rule k e)) refl where
    found : look c (held_by (n + 1) 0 ks hs) ≡ some y
    found = holding.found_here (n + 1) c ks hs y at_c is

    go : (t : Bool) → has c (names rule k e) ≡ t → get_elem? (step rule l e) c ≡ some (or_else (look c (plans_of p)) y)
    go true h = sym (made c h) ∙ fits.will c y found
    go false h = (law.frame l e reach_l may).1 c (ap (λ (z : List ℕ). has c z) moved.0 ∙ h) ∙ held_l c y found ∙ sym (held_k c y found) ∙ sym ((law.frame k e reach_k fits.may).1 c h) ∙ fits.will c y found

  abbrev q : PlainPass
  q = record p { seen = p'.seen; commits = e.seq; stage = stage.Committed; looked = p'.looked; done = p'.done }

  longer : length (js ++ e ∷ []) ≡ length js + 1
  longer = length-append js (e ∷ [])

  whole : take p'.seen (js ++ e ∷ []) ≡ js ++ e ∷ []
  whole = take_all p'.seen (js ++ e ∷ []) (let z = longer in let y = ends in omega arith)

  plans_same : plans_of q ≡ plans_of p
  plans_same = (made_due p.stage p.new.items fits.made).1

  own_after : PassOk (buries rule) (fold (step rule) k0 (js ++ e ∷ [])) ks hs (js ++ e ∷ []) (length ps) n q
  own_after = record {
    parts = λ c y at_c is. held_after c y at_c is ∙ ap (λ (d : Numbered). some (or_else (look c d) y)) (sym plans_same);
    planned = λ i x f. own_part.planned i x (subst (λ (d : Numbered). get_elem? d i ≡ some x) plans_same f);
    rising = λ i j x y f g. own_part.rising i j x y (subst (λ (d : Numbered). get_elem? d i ≡ some x) plans_same f) (subst (λ (d : Numbered). get_elem? d j ≡ some y) plans_same g);
    idle = λ z. absurd cc;
    deaths = own_part.deaths;
    frees = own_part.frees;
    recovered = own_part.recovered;
    seen = (let z = longer in let y = ends in omega arith);
    own = ap (λ (t : List Entry). of_pass n t) whole;
    commits = fits.next ∙ ap (λ (t : List Entry). length t + 1) own_part.own ∙ sym (length-append (of_pass n js) (e ∷ [])) ∙ ap (λ (t : List Entry). length t) (sym (pass_more n js e fits.by_pass));
    at_death = λ d is. keep.living_not_dead p d lives is;
    unburied = λ i x lives f b. dite (dec_le (suc i) (length js)) (λ inside. own_part.unburied i x lives (runs.at_front js (e ∷ []) i x inside f) b)
        (λ out. let t = runs.at_end js e i x (omega arith) f in (fits.buried n (ap (λ (z : Entry). buries rule z) t.1 ∙ b)).0 refl);
  }

  other_after : (m : ℕ) (r : PlainPass) → Place ps m r → (m ≡ n → ⊥) → PassOk (buries rule) (fold (step rule) k0 (js ++ e ∷ [])) ks hs (js ++ e ∷ []) (length ps) m r
  other_after m r at_m other = let o = ok.each m r at_m in let early = take-append-le r.seen js (e ∷ []) o.seen in let no_more = pass_else m js e (λ z. other (sym z ∙ fits.by_pass)) in record {
    parts = λ c y at_c is. aside c (m + 1) at_c (λ z. other (omega arith)) ∙ o.parts c y at_c is;
    planned = o.planned;
    rising = o.rising;
    idle = o.idle;
    deaths = o.deaths;
    frees = o.frees;
    recovered = o.recovered;
    seen = (let z = longer in let s = o.seen in omega arith);
    own = ap (of_pass m) early ∙ o.own ∙ sym no_more;
    commits = o.commits ∙ ap (λ (t : List Entry). length t) (sym no_more);
    at_death = o.at_death;
    unburied = λ i x lives f b. dite (dec_le (suc i) (length js)) (λ inside. o.unburied i x lives (runs.at_front js (e ∷ []) i x inside f) b)
        (λ out. let t = runs.at_end js e i x (omega arith) f in let d = (fits.buried m (ap (λ (z : Entry). buries rule z) t.1 ∙ b)).1 in
        ok.dead_known n m p r at at_m (is_there p.dead.items m d) lives);
  }

  many : length (slice_set ps n p') ≡ length ps
  many = length-set ps n p'

  is_new : (m : ℕ) (a : PlainPass) → m ≡ n → get_elem? (slice_set ps n p') m ≡ some a → a ≡ q
  is_new m a is f = sym (some-injective p' a (sym (set_same ps n p' (within ps n p at)) ∙ subst (λ z. get_elem? (slice_set ps n p') z ≡ some a) is f)) ∙ same

  before : (m : ℕ) (a : PlainPass) → get_elem? (slice_set ps n p') m ≡ some a → (b : PlainPass) × (get_elem? ps m ≡ some b) × (a.death ≡ b.death) × (a.dead.items ≡ b.dead.items) × (a.freed.items ≡ b.freed.items)
  before m a f = dite (ℕ_discrete m n)
      (λ is. let z = is_new m a is f in (p, subst (λ w. get_elem? ps w ≡ some p) (sym is) at, ap (λ (w : PlainPass). w.death) z, ap (λ (w : PlainPass). w.dead.items) z, ap (λ (w : PlainPass). w.freed.items) z))
      (λ other. (a, sym (set_other ps n m p' other) ∙ f, refl, refl, refl))

  pub commits : Sound first step legal follows buries rule k0 ks hs (js ++ e ∷ []) (slice_set ps n p')
  commits = record {
    began = ok.began;
    is_legal = still_legal;
    counted = counted_more js e ok.counted (fits.next ∙ ap (λ (t : List Entry). length t + 1) (own_part.own ∙ ap (λ m. of_pass m js) (sym fits.by_pass)));
    as_many = ok.as_many;
    each_held = ok.each_held;
    few_chains = ok.few_chains;
    few_passes = subst (λ z. z ≤ 65) (sym many) ok.few_passes;
    named = λ x h f. subst (λ z. h ≤ z) (sym many) (ok.named x h f);
    free = λ c y at_c is. aside c 0 at_c (λ z. omega arith) ∙ ok.free c y at_c is;
    dead_known = λ m h a b fa fb d lives. let ra = before m a fa in let rb = before h b fb in ok.dead_known m h ra.0 rb.0 ra.1 rb.1 (subst (λ (z : List Bool). get_elem? z h ≡ some true) ra.3 d) (sym rb.2 ∙ lives);
    freed_known = λ m h a b fa fb d lives. let ra = before m a fa in let rb = before h b fb in ok.freed_known m h ra.0 rb.0 ra.1 rb.1 (subst (λ (z : List Bool). get_elem? z h ≡ some true) ra.4 d) (sym rb.2 ∙ lives);
    each = λ m a f. subst (λ z. PassOk (buries rule) (fold (step rule) k0 (js ++ e ∷ [])) ks hs (js ++ e ∷ []) z m a) (sym many) (dite (ℕ_discrete m n)
        (λ is. subst (λ (w : ℕ × PlainPass). PassOk (buries rule) (fold (step rule) k0 (js ++ e ∷ [])) ks hs (js ++ e ∷ []) (length ps) w.0 w.1) (λ j. (sym is j, sym (is_new m a is f) j)) own_after)
        (λ other. other_after m a (sym (set_other ps n m p' other) ∙ f) other));
  }

  pub gains : of_pass n (take p'.seen (js ++ e ∷ [])) ≡ of_pass n (take p.seen js) ++ e ∷ []
  gains = ap (λ (t : List Entry). of_pass n t) whole ∙ pass_more n js e fits.by_pass ∙ ap (λ (t : List Entry). t ++ e ∷ []) (sym own_part.own)

  pub stands : (place : ℕ) → place ≡ length js → RoseBy 1 p.done p'.done → Stands step legal follows buries (shown_living rule k0 ks hs js n p) (shown_living rule k0 ks hs (js ++ e ∷ []) n p') e place
  stands place is rose = subst (λ (z : PlainPass). Stands step legal follows buries (shown_living rule k0 ks hs js n p) (shown_living rule k0 ks hs (js ++ e ∷ []) n z) e place) (sym same) (record {
    before = js;
    old = take_prefix p.seen js;
    shown = λ j. record (shown_living rule k0 ks hs (js ++ e ∷ []) n q) { seen = whole j; own = gains j; plan = plan.Committed (plans_same' j) };
    done = rose;
    at = is;
    was = held_l;
    law = record {
      is_legal = subst (λ (t : List Entry). Legal (step rule) (legal rule) (follows rule) k0 t) (sym whole) still_legal;
      own = refl;
      unburied = λ i x f b. own_after.unburied i x lives (subst (λ (t : List Entry). get_elem? t i ≡ some x) whole f) b;
    };
  }) where
    plans_same' : p.new.items ≡ planned (plan_of p.stage p.new.items)
    plans_same' = sym (made_due p.stage p.new.items fits.made).0

-- what a commit leaves
pub record Committed {R : Type 0} {g : Ghosts R} (cells : PlainCells R g) (n : ℕ) (me p' : PlainPass) (e : Entry) (js : List Entry) : Type 0 where
  pub sound : Sound g.first g.step g.legal g.follows g.buries cells.rule cells.first.value.items cells.chains.items cells.words.items js (slice_set cells.passes.items n p')
  pub gains : of_pass n (take p'.seen js) ≡ of_pass n (take me.seen cells.journal.items) ++ e ∷ []
  pub others : (m : ℕ) (q : PlainPass) → Place cells.passes.items m q → take q.seen js ≡ take q.seen cells.journal.items
  pub stands : (place : ℕ) → place ≡ length cells.journal.items → RoseBy 1 me.done p'.done → Stands g.step g.legal g.follows g.buries (showing cells n me) (living cells n cells.chains.items cells.words.items js p') e place

pub committed : {R : Type 0} {g : Ghosts R} (cells : PlainCells R g) (n : ℕ) (me : PlainPass) → Here cells n me → (p' : PlainPass) (e : Entry) (js : List Entry) → Lawful (g.first cells.rule) (g.step cells.rule) (g.legal cells.rule) (g.names cells.rule) (g.follows cells.rule)
    → Fits g.step g.legal g.follows g.buries g.names (shown_at cells n) e → p'.seen ≡ length cells.journal.items + 1 → p' ≡ record me { seen = p'.seen; commits = e.seq; stage = stage.Committed; looked = p'.looked; done = p'.done } → js ≡ cells.journal.items ++ e ∷ []
    → Committed cells n me p' e js
committed {R} {g} cells n me h p' e js law fits ends same more =
    let fits' = subst (λ (v : Shown R). Fits g.step g.legal g.follows g.buries g.names v e) h.old fits in
    subst (λ (t : List Entry). Committed cells n me p' e t) (sym more) (record {
      sound = commits g.first g.step g.legal g.follows g.buries g.names cells.rule cells.first.value.items law cells.chains.items cells.words.items cells.journal.items cells.passes.items n me p' e cells.sound h.at h.lives fits' ends same;
      gains = gains g.first g.step g.legal g.follows g.buries g.names cells.rule cells.first.value.items law cells.chains.items cells.words.items cells.journal.items cells.passes.items n me p' e cells.sound h.at h.lives fits' ends same;
      others = λ m q at. take-append-le q.seen cells.journal.items (e ∷ []) (cells.sound.each m q at).seen;
      stands = stands g.first g.step g.legal g.follows g.buries g.names cells.rule cells.first.value.items law cells.chains.items cells.words.items cells.journal.items cells.passes.items n me p' e cells.sound h.at h.lives fits' ends same;
    })

-- The pass at a place of plain cells, and what becomes of them when it becomes another.
use Rattle.std.proofs.Common.{◌≡◌, ℕ, ◌+◌, ◌<◌, Bool, true, List, [], ◌++◌, length, slice_set, slice_index_or, take, None, sym, refl, ap, ◌∙◌, subst, length-set, append-nil, arith}
use mathlib.Core.Option.{some}
use lib.ListN.{get_elem?}
use Rattle.sid_core.specs.declared.entry.Entry.{Entry}
use Rattle.turn_types.specs.Journal.{Chains, of_pass}
use Rattle.turn_types.specs.Shown.{Shown}
use Rattle.turn_types.specs.Beside.{Lives}
use Rattle.turn_types.specs.declared.replay.Replay.{Ghosts}
use Rattle.dbwrap_core.specs.declared.plain.PlainCells.{PlainCells}
use Rattle.dbwrap_core.specs.declared.pass.PlainPass.{PlainPass}
use Rattle.dbwrap_core.specs.Plain.{Still, beside_of, shown_at}
use Rattle.dbwrap_core.specs.Shows.{all_shown, blank, held_by, lives, shown_of}
use Rattle.dbwrap_core.proofs.Lists.{at_place, set_same, set_self, there, within}
use Rattle.dbwrap_core.proofs.Showing as show

module _ {R : Type 0} {g : Ghosts R} (cells : PlainCells R g) (n : ℕ) where
  -- what a living pass shows with these chains, words and journal
  abbrev pub living : Chains → List ℕ → List Entry → PlainPass → Shown R
  living ks hs js p = show.shown_living cells.rule cells.first.value.items ks hs js n p

  -- the same with those of the cells
  abbrev pub showing : PlainPass → Shown R
  showing p = living cells.chains.items cells.words.items cells.journal.items p

  -- the pass at place n lives
  pub record Here (me : PlainPass) : Type 0 where
    pub at : get_elem? cells.passes.items n ≡ some me
    pub lives : me.death ≡ None
    pub old : shown_at cells n ≡ showing me

  lives_here : (me : PlainPass) → get_elem? cells.passes.items n ≡ some me → (shown_at cells n).alive ≡ true → Here me
  lives_here me at alive = record { at = at; lives = show.is_living cells n me at alive; old = show.living_is cells n me at alive }

  pub here : (me : PlainPass) → n < length cells.passes.items → me ≡ slice_index_or cells.passes.items n me → (shown_at cells n).alive ≡ true → Here me
  here me inside is alive = lives_here me (at_place cells.passes.items n me inside is) alive

  pub somewhere : n < length cells.passes.items → (shown_at cells n).alive ≡ true → (me : PlainPass) × Here me
  somewhere inside alive = let t = there cells.passes.items n inside in (t.0, lives_here t.0 t.1 alive)

  -- what pass p shows, dead or alive
  abbrev pub shown : PlainPass → Shown R
  shown p = shown_of cells.rule cells.first.value.items cells.chains.items cells.words.items cells.journal.items n p

  pub shown_there : (p : PlainPass) → get_elem? cells.passes.items n ≡ some p → get_elem? (beside_of cells).passes n ≡ some (shown p)
  shown_there p at = show.shown_there cells.rule cells.first.value.items cells.chains.items cells.words.items cells.journal.items cells.passes.items n p at

  pub tells : (p : PlainPass) (alive : Bool) → get_elem? cells.passes.items n ≡ some p → lives p.death ≡ alive → Lives n alive (beside_of cells)
  tells p alive at is = (shown p, shown_there p at, is)

  module _ (me : PlainPass) (h : Here me) where
    -- a pass of which it may know that it is dead is there
    pub known_place : (m : ℕ) → m < length (shown_at cells n).dead → m < length cells.passes.items
    known_place m l = let inside = subst (λ (v : Shown R). m < length v.dead) h.old l in let deaths = (cells.sound.each n me h.at).deaths in omega arith

    -- the pass, chains, words and the journal become others
    pub moves : (q : PlainCells R g) (p' : PlainPass) (gained : List Entry) → q.rule ≡ cells.rule → q.first.value.items ≡ cells.first.value.items → length q.chains.items ≡ length cells.chains.items → q.passes.items ≡ slice_set cells.passes.items n p'
        → q.journal.items ≡ cells.journal.items ++ gained → of_pass n (take p'.seen q.journal.items) ≡ of_pass n (take me.seen cells.journal.items) ++ gained
        → ((m : ℕ) (p : PlainPass) → get_elem? cells.passes.items m ≡ some p → (m ≡ n → ⊥) → show.SameFor cells.rule cells.first.value.items cells.chains.items cells.words.items cells.journal.items q.chains.items q.words.items q.journal.items m p) → Still cells q n
    moves q p' gained rule first chains passes journal own others = record {
      rule = rule;
      chains = chains;
      passes = ap (λ (t : List PlainPass). length t) passes ∙ length-set _ _ _;
      leaves = record {
        gained = gained;
        own = ap (λ (v : Shown R). v.own) new ∙ own ∙ ap (λ (v : Shown R). v.own ++ gained) (sym old);
        journal = journal;
        passes = (λ j. all_shown (rule j) (first j) q.chains.items q.words.items q.journal.items 0 (passes j))
            ∙ show.all_set cells.rule cells.first.value.items cells.chains.items q.chains.items cells.words.items q.words.items cells.journal.items q.journal.items n cells.passes.items p' others
            ∙ (λ j. slice_set (beside_of cells).passes (sym (ap (λ (v : Shown R). v.number) old) j) (sym new j));
      };
    } where
      old : shown_at cells n ≡ shown me
      old = show.shown_is cells n me h.at

      new : shown_at q n ≡ shown_of cells.rule cells.first.value.items q.chains.items q.words.items q.journal.items n p'
      new = show.shown_is q n p' (ap (λ (t : List PlainPass). get_elem? t n) passes ∙ set_same cells.passes.items n p' (within cells.passes.items n me h.at)) ∙ (λ j. shown_of (rule j) (first j) q.chains.items q.words.items q.journal.items n p')

    -- the pass becomes another, and nothing else changes
    pub still : (q : PlainCells R g) (p' : PlainPass) → q.rule ≡ cells.rule → q.first.value.items ≡ cells.first.value.items → q.chains.items ≡ cells.chains.items → q.words.items ≡ cells.words.items → q.journal.items ≡ cells.journal.items
        → q.passes.items ≡ slice_set cells.passes.items n p' → of_pass n (take p'.seen cells.journal.items) ≡ of_pass n (take me.seen cells.journal.items) → Still cells q n
    still q p' rule first chains words journal passes own = moves q p' [] rule first (ap (λ (t : Chains). length t) chains) passes (journal ∙ sym (append-nil _)) (ap (λ (t : List Entry). of_pass n (take p'.seen t)) journal ∙ own ∙ sym (append-nil _))
        (λ m p e d. (ap (λ (t : List Entry). take p.seen t) journal, λ j. held_by (m + 1) 0 (chains j) (words j)))

    pub unmoved : Still cells cells n
    unmoved = still cells me refl refl refl refl refl (sym (set_self cells.passes.items n me h.at)) refl

    -- what relates the two living passes relates what is shown
    pub becomes : (ks : Chains) (hs : List ℕ) (js : List Entry) (p' : PlainPass) (Rel : Shown R → Shown R → Type 0) → p'.death ≡ None → Rel (showing me) (living ks hs js p')
        → Rel (shown_at cells n) (slice_index_or (all_shown cells.rule cells.first.value.items ks hs js 0 (slice_set cells.passes.items n p')) n (blank cells.rule [] 0 []))
    becomes ks hs js p' Rel e k = show.of_living cells.rule cells.first.value.items cells.chains.items ks cells.words.items hs cells.journal.items js n cells.passes.items me p' (blank cells.rule [] 0 []) Rel h.at h.lives e k

    pub alters : (p' : PlainPass) (Rel : Shown R → Shown R → Type 0) → p'.death ≡ None → Rel (showing me) (showing p')
        → Rel (shown_at cells n) (slice_index_or (all_shown cells.rule cells.first.value.items cells.chains.items cells.words.items cells.journal.items 0 (slice_set cells.passes.items n p')) n (blank cells.rule [] 0 []))
    alters p' Rel e k = becomes cells.chains.items cells.words.items cells.journal.items p' Rel e k

    -- the same where the pass may be dead then
    pub ends : (p' : PlainPass) (Rel : Shown R → Shown R → Type 0) → Rel (showing me) (shown p')
        → Rel (shown_at cells n) (slice_index_or (all_shown cells.rule cells.first.value.items cells.chains.items cells.words.items cells.journal.items 0 (slice_set cells.passes.items n p')) n (blank cells.rule [] 0 []))
    ends p' Rel k = show.of_shown cells.rule cells.first.value.items cells.chains.items cells.chains.items cells.words.items cells.words.items cells.journal.items cells.journal.items n cells.passes.items me p' (blank cells.rule [] 0 []) Rel h.at
        (subst (λ (v : Shown R). Rel v (shown p')) (sym (show.living cells.rule cells.first.value.items cells.chains.items cells.words.items cells.journal.items n me h.lives)) k)

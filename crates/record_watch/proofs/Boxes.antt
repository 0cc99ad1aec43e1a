-- Mailboxes by pid, one of which changes, and tokens of calls that wait no more.
use Rattle.std.proofs.Common.{◌≡◌, ℕ, ◌+◌, ◌<◌, Bool, true, false, cond, not, ◌&&◌, ◌==◌, List, [], ◌∷◌, ◌++◌, length, get_or, take, filter, map, Option, Some, None, Result, Ok, Err, OnOk, refl, ap, sym, subst, ◌∙◌}
use Rattle.std.specs.Option.{option_map, OnSome}
use Rattle.std.specs.List.{list_all}
use Rattle.std.specs.Ordering.{nat_cmp}
use Rattle.std.specs.Cmp.{unsigned_tied, nat_cmp_total}
use Rattle.std.specs.FinMap.{FinMap, get, insert, get-insert}
use Rattle.std.proofs.lemmas.Bool.{eq-eqb, eqb-true, and_right, false_from_ne_true, false≢true}
use Rattle.std.proofs.lemmas.List.{append-nil, take_more, map-append}
use Rattle.std.proofs.lemmas.List.Folds.{list_all-append}
use Rattle.serial_table.proofs.Filters.{filter_all}
use Rattle.sid_core.specs.declared.ids.Sid.{Sid}
use Rattle.sid_core.specs.declared.entry.Post.{Post}
use Rattle.sid_core.specs.Ids.{same_sid}
use Rattle.serial_table.specs.declared.rows.Watch.{Watch}
use Rattle.record_codec.specs.declared.watch.WatchRec.{WatchRec}
use Rattle.record_codec.specs.declared.mail_rec.Token.{Token}
use Rattle.record_codec.specs.declared.mail_rec.MailRec.{MailRec}
use Rattle.record_rows.specs.Rows.{watch_row}
use Rattle.record_watch.specs.Mails.{receiver, still_waits, without_waits, with_letter, ChangesEach}

-- ---- results and options

pub on_ok_then : {A E : Type 0} (r : Result A E) (P Q : Type 0) → (P → Q) → OnOk r P → OnOk r Q
on_ok_then (Ok x) P Q f h = f h
on_ok_then (Err e) P Q f h = h

pub on_some_at : {A : Type 0} (r : Option A) (x : A) (P : Type 0) → r ≡ Some x → OnSome r P → P
on_some_at r x P e h = subst (λ o. OnSome o P) e h

kept : (g : MailRec → MailRec) (o : Option MailRec) → ((m : MailRec) → g m ≡ m) → o ≡ option_map g o
kept g None h = refl
kept g (Some m) h = ap Some (sym (h m))

flipped : (a b : ℕ) → (a == b) ≡ false → (b == a) ≡ false
flipped a b e = false_from_ne_true (b == a) (λ h. absurd (false≢true (sym e ∙ eq-eqb a b (sym (eqb-true b a h)))))

-- ---- one mailbox changes

get_inserted : (m : FinMap nat_cmp MailRec) (k : ℕ) (w : MailRec) (q : ℕ) → get (insert m k w) q ≡ cond (q == k) (Some w) (get m q)
get_inserted m k w q = get-insert nat_cmp_total m k w q ∙ ap (λ b. cond b (Some w) (get m q)) (unsigned_tied q k)

module _ (f : ℕ → MailRec → MailRec) (old new : FinMap nat_cmp MailRec) (k : ℕ) where
  at_pid : (q : ℕ) (b : Bool) → (q == k) ≡ b → get new k ≡ option_map (f k) (get old k)
      → ((q == k) ≡ false → get new q ≡ option_map (f q) (get old q)) → get new q ≡ option_map (f q) (get old q)
  at_pid q true e here there = subst (λ x. get new x ≡ option_map (f x) (get old x)) (sym (eqb-true q k e)) here
  at_pid q false e here there = there e

  -- what is said of this mailbox is said of each, where it leaves every other as it is
  pub changed_at : (w v : MailRec) → get old k ≡ Some v → w ≡ f k v → new ≡ insert old k w
      → ((q : ℕ) (m : MailRec) → (q == k) ≡ false → f q m ≡ m) → ChangesEach f old new
  changed_at w v has is ins others = λ q. at_pid q (q == k) refl
      (ap (λ m. get m k) ins ∙ get_inserted old k w k ∙ ap (λ b. cond b (Some w) (get old k)) (eq-eqb k k refl) ∙ ap Some is ∙ ap (option_map (f k)) (sym has))
      (λ e. ap (λ m. get m q) ins ∙ get_inserted old k w q ∙ ap (λ b. cond b (Some w) (get old q)) e ∙ kept (f q) (get old q) (λ m. others q m e))

  pub changed_nowhere : get old k ≡ None → new ≡ old → ((q : ℕ) (m : MailRec) → (q == k) ≡ false → f q m ≡ m) → ChangesEach f old new
  changed_nowhere none same others = λ q. at_pid q (q == k) refl
      (ap (λ m. get m k) same ∙ none ∙ ap (option_map (f k)) (sym none))
      (λ e. ap (λ m. get m q) same ∙ kept (f q) (get old q) (λ m. others q m e))

-- ---- a letter to another is no letter

pub not_to : (post : Post) (q : ℕ) (m : MailRec) → (q == post.to.pid) ≡ false → with_letter post q m ≡ m
not_to post q m e =
    ap (λ b. record m { letters = m.letters ++ map (λ (p : Post). p.letter) (cond (b && (post.to.session == m.session)) (post ∷ []) []) }) (flipped q post.to.pid e)
    ∙ ap (λ ls. record m { letters = ls }) (append-nil m.letters)

-- ---- the wait of another goes on

stays : (w : Watch) (sid : Sid) (t : Token) → same_sid sid w.sid ≡ false → still_waits (w ∷ []) sid t ≡ true
stays w sid t e = ap (λ b. not (b && (t.call == w.call)) && true) e

pub not_its_wait : (w : Watch) (q : ℕ) (m : MailRec) → same_sid (receiver q m) w.sid ≡ false → without_waits (w ∷ []) q m ≡ m
not_its_wait w q m e = ap (λ ts. record m { tokens = ts }) (filter_all (still_waits (w ∷ []) (receiver q m)) (λ t. stays w (receiver q m) t e) m.tokens)

pub not_its_pid : (w : Watch) (q : ℕ) (m : MailRec) → (q == w.sid.pid) ≡ false → without_waits (w ∷ []) q m ≡ m
not_its_pid w q m e = not_its_wait w q m (ap (λ b. b && (m.session == w.sid.session)) e)

pub not_its_session : (w : Watch) (q : ℕ) (m : MailRec) → (m.session == w.sid.session) ≡ false → without_waits (w ∷ []) q m ≡ m
not_its_session w q m e = not_its_wait w q m (and_right (q == w.sid.pid) (m.session == w.sid.session) e)

-- ---- several waits end one after another

step : {X : Type 0} (b c : Bool) (x : X) (ys zs : List X) (q : X → Bool) → q x ≡ c → filter q ys ≡ zs → filter q (cond b (x ∷ ys) ys) ≡ cond (b && c) (x ∷ zs) zs
step true c x ys zs q e h = ap (λ d. cond d (x ∷ filter q ys) (filter q ys)) e ∙ ap (λ w. cond c (x ∷ w) w) h
step false c x ys zs q e h = h

both : {X : Type 0} (p q r : X → Bool) → ((x : X) → r x ≡ (p x && q x)) → (xs : List X) → filter q (filter p xs) ≡ filter r xs
both p q r same [] = refl
both p q r same (x ∷ xs) =
    step (p x) (q x) x (filter p xs) (filter r xs) q refl (both p q r same xs)
    ∙ ap (λ d. cond d (x ∷ filter r xs) (filter r xs)) (sym (same x))

one_more : (ws : List Watch) (w : Watch) (q : ℕ) (m : MailRec) → without_waits (w ∷ []) q (without_waits ws q m) ≡ without_waits (ws ++ w ∷ []) q m
one_more ws w q m = ap (λ ts. record m { tokens = ts })
    (both (still_waits ws (receiver q m)) (still_waits (w ∷ []) (receiver q m)) (still_waits (ws ++ w ∷ []) (receiver q m))
    (λ t. list_all-append _ ws (w ∷ [])) m.tokens)

composed : (ws : List Watch) (w : Watch) (q : ℕ) (o : Option MailRec) → option_map (without_waits (w ∷ []) q) (option_map (without_waits ws q) o) ≡ option_map (without_waits (ws ++ w ∷ []) q) o
composed ws w q None = refl
composed ws w q (Some m) = ap Some (one_more ws w q m)

pub waits_none : (m : FinMap nat_cmp MailRec) → ChangesEach (without_waits []) m m
waits_none m = λ q. kept (without_waits [] q) (get m q) (λ r. ap (λ ts. record r { tokens = ts }) (filter_all (still_waits [] (receiver q r)) (λ t. refl) r.tokens))

pub waits_more : (xs : List WatchRec) (i : ℕ) (d : WatchRec) (a b c : FinMap nat_cmp MailRec) → i < length xs
    → ChangesEach (without_waits (map watch_row (take i xs))) a b → ChangesEach (without_waits (watch_row (get_or xs i d) ∷ [])) b c
    → ChangesEach (without_waits (map watch_row (take (i + 1) xs))) a c
waits_more xs i d a b c lt before one = λ q.
    one q ∙ ap (option_map (without_waits (watch_row (get_or xs i d) ∷ []) q)) (before q)
    ∙ composed (map watch_row (take i xs)) (watch_row (get_or xs i d)) q (get a q)
    ∙ ap (λ ws. option_map (without_waits ws q) (get a q)) (sym (ap (map watch_row) (take_more xs i d lt) ∙ map-append watch_row (take i xs) (get_or xs i d ∷ [])))

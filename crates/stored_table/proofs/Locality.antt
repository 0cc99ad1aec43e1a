-- An entry reads and writes the chains of its footprint alone.
use Rattle.std.proofs.Common.{◌≡◌, ℕ, zero, suc, ◌+◌, ◌*◌, ◌/◌, ◌<◌, ◌≤◌, Bool, true, false, cond, ◌&&◌, eqb, List, [], ◌∷◌, length, map, get_or, Option, Some, None, refl, sym, ap, subst, ◌∙◌, arith, ◌⊎◌, inl, inr}
use Rattle.std.specs.List.{list_any, filter, AllByRecursion}
use Rattle.std.proofs.lemmas.Bool.{eqb-true, eq-eqb, or_parts, or_cases, or_left, or_right, both_ways, cases_eq, cases_lt}
use Rattle.std.proofs.lemmas.List.{get_or-set_same, get_or-set_other}
use Rattle.sid_core.specs.declared.entry.Entry.{Entry}
use Rattle.sid_core.specs.declared.entry.Event.{Event}
use Rattle.sid_core.specs.declared.entry.Event.TheVariants.{Called, Died, Tidied}
use Rattle.sid_core.specs.declared.call.Call.{Call}
use Rattle.sid_core.specs.declared.call.Call.TheVariants as call
use Rattle.sid_core.specs.declared.setup.Setup.{Setup}
use Rattle.serial_table.specs.View.{View}
use Rattle.chain_map.specs.declared.db.Db.{Db}
use Rattle.chain_map.specs.declared.db.Db.TheVariants as db
use Rattle.chain_map.specs.Pairs.{Pairs, find}
use Rattle.record_codec.specs.OpenRec.{open_rec}
use Rattle.stored_table.specs.Keys.{is_key}
use Rattle.stored_table.specs.Places.{Chains, Place, place, same_place, chain_of, chain_at, value_at, with_value, write_at, write_all, HasChains}
use Rattle.stored_table.specs.Met.{Met, met, all_met, places_in, count_from}
use Rattle.stored_table.specs.Footprint.{own_chain, footprint_list, footprint, has_number}
use Rattle.stored_table.specs.Move.{AddedOpen, added, is_by_old, still_open, new_open_record, new_in, new_at, places_written, places_written_by, move, if_writes, db_of_number}
use Rattle.stored_table.specs.Stands.{IsWellFormed, IsPlaced, LookAlikeIn, LookAlike}
use Rattle.stored_table.proofs.Writing.{chain_below, has_chains-write, has_chains-write_all}
use Rattle.stored_table.proofs.Meeting.{SameChains, SameChainOf, same_met, same_footprint_list, footprint_parts}

-- ---- other chains stay

pub frame : (n : ℕ) (new : Place → Option (List ℕ)) (ps : List Place) (k : Chains) (c : ℕ) → list_any (λ p. eqb (chain_of n p) c) ps ≡ false → chain_at (write_all n new ps k) c ≡ chain_at k c
frame n new [] k c h = refl
frame n new (p ∷ ps) k c h =
    let parts = or_parts (eqb (chain_of n p) c) (list_any (λ q. eqb (chain_of n q) c) ps) h in
    frame n new ps (write_at n p (new p) k) c parts.1
    ∙ get_or-set_other k (chain_of n p) c (with_value p.key (new p) (chain_at k (chain_of n p))) [] (λ e. both_ways _ parts.0 (eq-eqb _ _ (sym e)))

-- ---- chains that are the same stay the same

one_local : (n : ℕ) (p : Place) (value : Option (List ℕ)) (k j : Chains) (c : ℕ) → HasChains n k → HasChains n j → chain_at k c ≡ chain_at j c → chain_at (write_at n p value k) c ≡ chain_at (write_at n p value j) c
one_local n p value k j c a b same = go (cases_eq c (chain_of n p))
  where
    go : (c ≡ chain_of n p) ⊎ (c ≡ chain_of n p → ⊥) → chain_at (write_at n p value k) c ≡ chain_at (write_at n p value j) c
    go (inl at) =
        ap (λ d. get_or (write_at n p value k) d []) at
        ∙ get_or-set_same k (chain_of n p) (with_value p.key value (chain_at k (chain_of n p))) [] (subst (λ m. chain_of n p < m) (sym a.count) (chain_below n p a.some))
        ∙ ap (with_value p.key value) (subst (λ d. chain_at k d ≡ chain_at j d) at same)
        ∙ sym (get_or-set_same j (chain_of n p) (with_value p.key value (chain_at j (chain_of n p))) [] (subst (λ m. chain_of n p < m) (sym b.count) (chain_below n p b.some)))
        ∙ ap (λ d. get_or (write_at n p value j) d []) (sym at)
    go (inr apart) =
        get_or-set_other k (chain_of n p) c (with_value p.key value (chain_at k (chain_of n p))) [] apart
        ∙ same
        ∙ sym (get_or-set_other j (chain_of n p) c (with_value p.key value (chain_at j (chain_of n p))) [] apart)

pub local : (n : ℕ) (new : Place → Option (List ℕ)) (ps : List Place) (k j : Chains) (c : ℕ) → HasChains n k → HasChains n j → chain_at k c ≡ chain_at j c → chain_at (write_all n new ps k) c ≡ chain_at (write_all n new ps j) c
local n new [] k j c a b same = same
local n new (p ∷ ps) k j c a b same =
    local n new ps (write_at n p (new p) k) (write_at n p (new p) j) c (has_chains-write n p (new p) k a) (has_chains-write n p (new p) j b) (one_local n p (new p) k j c a b same)

pub same_new : (n : ℕ) (f g : Place → Option (List ℕ)) (ps : List Place) (k : Chains) → AllByRecursion (λ p. f p ≡ g p) ps → write_all n f ps k ≡ write_all n g ps k
same_new n f g [] k h = refl
same_new n f g (p ∷ ps) k h = ap (λ value. write_all n f ps (write_at n p value k)) h.0 ∙ same_new n f g ps (write_at n p (g p) k) h.1

-- ---- the new values

same_open : (v w : View) (a : Option AddedOpen) (p : Place) → ((value : Option (List ℕ)) → still_open v value ≡ still_open w value) → (value : Option (List ℕ)) → new_open_record v a p value ≡ new_open_record w a p value
same_open v w None p f value = f value
same_open v w (Some a) p f value = ap (cond (is_key db.Opens a.key && same_place (place db.Opens a.key) p) (Some (open_rec.spell (1, a.value)))) (f value)

same_new_in : (setup : Setup) (old : Bool) (v w : View) (a : Option AddedOpen) (d : Db) (p : Place) (value : Option (List ℕ)) → LookAlikeIn setup old v w d p → new_in setup old v a d p value ≡ new_in setup old w a d p value
same_new_in setup old v w a db.Opens p value h = same_open v w a p h value
same_new_in setup old v w a db.GLock p value h = h
same_new_in setup old v w a db.Locking p value h = h
same_new_in setup old v w a db.Leases p value h = h
same_new_in setup old v w a db.Register p value h = h
same_new_in setup old v w a db.Brlock p value h = h
same_new_in setup old v w a db.Mailbox p value h = h

same_new_all : (setup : Setup) (n : ℕ) (k j : Chains) (old : Bool) (v w : View) (a b : Option AddedOpen) (ps : List Place) → a ≡ b → AllByRecursion (SameChainOf n k j) ps → AllByRecursion (LookAlike setup old v w) ps
    → AllByRecursion (λ p. new_at setup n k old v a p ≡ new_at setup n j old w b p) ps
same_new_all setup n k j old v w a b [] e h l = tt
same_new_all setup n k j old v w a b (p ∷ ps) e h l = (
  ap (λ pairs. new_in setup old v a p.db p (find p.key pairs)) h.0 ∙ same_new_in setup old v w a p.db p (value_at n j p) l.0 ∙ ap (λ (x : Option AddedOpen). new_at setup n j old w x p) e,
  same_new_all setup n k j old v w a b ps e h.1 l.1,
)

-- ---- what is written is in the footprint

past : {A : Type 0} (xs : List A) (i : ℕ) (d : A) → length xs ≤ i → get_or xs i d ≡ d
past [] i d h = refl
past (x ∷ xs) zero d h = absurd (omega (arith, h))
past (x ∷ xs) (suc i) d h = past xs i d (omega (arith, h))

no_chain : (n : ℕ) (k : Chains) (c : ℕ) → HasChains n k → 7 * n ≤ c → chain_at k c ≡ []
no_chain n k c h above = past k c [] (omega (arith, h.count, above))

all_here : (n : ℕ) (P : ℕ → Type 0) (c : ℕ) (pairs : Pairs) → P c → AllByRecursion (IsPlaced n c) pairs → AllByRecursion (λ p. P (chain_of n p)) (places_in (db_of_number (c / n)) (map (λ pair. pair.0) pairs))
all_here n P c [] p h = tt
all_here n P c (pair ∷ pairs) p h = (subst P (sym h.0.at_home) p, all_here n P c pairs p h.1)

-- a chain that isn't there has no places
pub all_placed : (n : ℕ) (k : Chains) (c : ℕ) → IsWellFormed n k → AllByRecursion (IsPlaced n c) (chain_at k c)
all_placed n k c w = elim (cases_lt c (7 * n)) [
  | inl below ↦ w.placed c below
  | inr above ↦ subst (AllByRecursion (IsPlaced n c)) (sym (no_chain n k c w.chains above)) tt
]

all_if_writes : (P : Place → Type 0) (call : Call) (ps : List Place) → AllByRecursion P ps → AllByRecursion P (if_writes call ps)
all_if_writes P (call.OpenFile file access share lease durable overwrite delete) ps h = h
all_if_writes P (call.Close handle) ps h = h
all_if_writes P (call.Delete handle on) ps h = h
all_if_writes P (call.Ack key state) ps h = h
all_if_writes P (call.Lock handle span mode wait) ps h = h
all_if_writes P (call.Unlock handle span) ps h = h
all_if_writes P (call.Read handle span) ps h = h
all_if_writes P (call.Write handle span) ps h = h
all_if_writes P (call.GLock key mode wait) ps h = h
all_if_writes P (call.GUnlock key) ps h = h
all_if_writes P call.Recv ps h = h
all_if_writes P call.Disconnect ps h = h
all_if_writes P (call.Reconnect worker made key) ps h = h
all_if_writes P call.Scavenge ps h = h
all_if_writes P call.Tidy ps h = tt
all_if_writes P (call.Status tables) ps h = tt

all_written_by : (n : ℕ) (k : Chains) (P : ℕ → Type 0) (m : Met) (event : Event) → IsWellFormed n k → AllByRecursion P (own_chain event) → AllByRecursion (λ p. P (chain_of n p)) (all_met m)
    → AllByRecursion (λ p. P (chain_of n p)) (places_written_by n k m event)
all_written_by n k P m (Called number moment call reply) w own h = all_if_writes (λ p. P (chain_of n p)) call (all_met m) h
all_written_by n k P m (Died worker moment) w own h = h
all_written_by n k P m (Tidied c) w own h = all_here n P c (chain_at k c) own.0 (all_placed n k c w)

-- what holds of each chain of the footprint holds of the chains of what is written
all_written : (setup : Setup) (n : ℕ) (k : Chains) (e : Entry) (P : ℕ → Type 0) → IsWellFormed n k → AllByRecursion P (footprint_list setup n k e)
    → AllByRecursion (λ p. P (chain_of n p)) (places_written setup n k e)
all_written setup n k e P w h =
    let parts = footprint_parts setup n k e P h in
    all_written_by n k P (met setup n k e) e.what w parts.1.1 parts.0

same_written_by : (n : ℕ) (k j : Chains) (m : Met) (event : Event) → SameChains k j (own_chain event) → places_written_by n k m event ≡ places_written_by n j m event
same_written_by n k j m (Called number moment call reply) h = refl
same_written_by n k j m (Died worker moment) h = refl
same_written_by n k j m (Tidied c) h = ap (λ (pairs : Pairs). places_in (db_of_number (c / n)) (map (λ pair. pair.0) pairs)) h.0

same_written : (setup : Setup) (n : ℕ) (k j : Chains) (e : Entry) → 1 ≤ n → SameChains k j (footprint_list setup n k e) → places_written setup n k e ≡ places_written setup n j e
same_written setup n k j e some h =
    let parts = footprint_parts setup n k e (λ c. chain_at k c ≡ chain_at j c) h in
    same_written_by n k j (met setup n k e) e.what parts.1.1 ∙ ap (λ (m : Met). places_written_by n j m e.what) (same_met setup n k j e some h)

-- ---- the two halves

-- what is written by an entry of one view in chains that another view's entry would write alike
moves_alike_by : (setup : Setup) (n : ℕ) (k j : Chains) (e : Entry) (v w : View) (c : ℕ) → IsWellFormed n k → HasChains n j
    → SameChains k j (footprint_list setup n k e) → added setup v e ≡ added setup w e → AllByRecursion (LookAlike setup (is_by_old setup e) v w) (places_written setup n k e)
    → chain_at k c ≡ chain_at j c → chain_at (move setup n k e v) c ≡ chain_at (move setup n j e w) c
moves_alike_by setup n k j e v w c wf b h a alike same =
    let old = is_by_old setup e in
    let ps = places_written setup n k e in
    let f = new_at setup n k old v (added setup v e) in
    let g = new_at setup n j old w (added setup w e) in
    ap (λ (x : Chains). chain_at x c) (same_new n f g ps k (same_new_all setup n k j old v w (added setup v e) (added setup w e) ps a (all_written setup n k e (λ d. chain_at k d ≡ chain_at j d) wf h) alike))
    ∙ local n g ps k j c wf.chains b same
    ∙ ap (λ (qs : List Place). chain_at (write_all n g qs j) c) (same_written setup n k j e wf.chains.some h)

none_at : (n c : ℕ) (ps : List Place) → AllByRecursion (λ p. eqb (chain_of n p) c ≡ false) ps → list_any (λ p. eqb (chain_of n p) c) ps ≡ false
none_at n c [] h = refl
none_at n c (p ∷ ps) h = rw h.0 (none_at n c ps h.1)

all_others : (cs : List ℕ) (c : ℕ) → has_number cs c ≡ false → AllByRecursion (λ d. eqb d c ≡ false) cs
all_others [] c h = tt
all_others (d ∷ cs) c h = let p = or_parts (eqb d c) (has_number cs c) h in (p.0, all_others cs c p.1)

others_stay_by : (setup : Setup) (n : ℕ) (k : Chains) (e : Entry) (v : View) (c : ℕ) → IsWellFormed n k → has_number (footprint_list setup n k e) c ≡ false
    → chain_at (move setup n k e v) c ≡ chain_at k c
others_stay_by setup n k e v c w h =
    frame n (new_at setup n k (is_by_old setup e) v (added setup v e)) (places_written setup n k e) k c
    (none_at n c (places_written setup n k e) (all_written setup n k e (λ d. eqb d c ≡ false) w (all_others (footprint_list setup n k e) c h)))

-- ---- the footprint as a rising list

in_count : (low n c : ℕ) → low ≤ c → c < low + n → has_number (count_from low n) c ≡ true
in_count low zero c a b = absurd (omega (arith, a, b))
in_count low (suc n) c a b = elim (cases_eq low c) [
  | inl same ↦ or_left (eqb low c) (has_number (count_from (suc low) n) c) (eq-eqb low c same)
  | inr apart ↦ elim (cases_lt low c) [
    | inl less ↦ or_right (eqb low c) (has_number (count_from (suc low) n) c) (in_count (suc low) n c (omega (arith, less)) (omega (arith, b)))
    | inr more ↦ absurd (apart (omega (arith, a, more)))
  ]
]

in_kept : (b : Bool) (p : ℕ → Bool) (x c : ℕ) (ys : List ℕ) → p x ≡ b → p c ≡ true → eqb x c ≡ true → has_number (cond b (x ∷ ys) ys) c ≡ true
in_kept true p x c ys e h same = or_left (eqb x c) (has_number ys c) same
in_kept false p x c ys e h same = absurd (both_ways (p x) e (ap p (eqb-true x c same) ∙ h))

in_later : (b : Bool) (x c : ℕ) (ys : List ℕ) → has_number ys c ≡ true → has_number (cond b (x ∷ ys) ys) c ≡ true
in_later true x c ys h = or_right (eqb x c) (has_number ys c) h
in_later false x c ys h = h

in_filter : (p : ℕ → Bool) (xs : List ℕ) (c : ℕ) → p c ≡ true → has_number xs c ≡ true → has_number (filter p xs) c ≡ true
in_filter p [] c h e = e
in_filter p (x ∷ xs) c h e = elim (or_cases (eqb x c) (has_number xs c) e) [
  | inl same ↦ in_kept (p x) p x c (filter p xs) refl h same
  | inr more ↦ in_later (p x) x c (filter p xs) (in_filter p xs c h more)
]

in_footprint : (setup : Setup) (n : ℕ) (k : Chains) (e : Entry) (c : ℕ) → c < 7 * n → has_number (footprint_list setup n k e) c ≡ true → has_number (footprint setup n k e) c ≡ true
in_footprint setup n k e c below h = in_filter (has_number (footprint_list setup n k e)) (count_from 0 (7 * n)) c h (in_count 0 (7 * n) c (omega arith) (omega (arith, below)))

all_in : (P : ℕ → Type 0) (xs : List ℕ) → ((c : ℕ) → has_number xs c ≡ true → P c) → AllByRecursion P xs
all_in P [] f = tt
all_in P (x ∷ xs) f = (f x (or_left (eqb x x) (has_number xs x) (eq-eqb x x refl)), all_in P xs (λ c h. f c (or_right (eqb x c) (has_number xs c) h)))

of_one : (P : ℕ → Type 0) (xs : List ℕ) (c : ℕ) → AllByRecursion P xs → has_number xs c ≡ true → P c
of_one P [] c all h = absurd cc
of_one P (x ∷ xs) c all h = elim (or_cases (eqb x c) (has_number xs c) h) [
  | inl same ↦ subst P (eqb-true x c same) all.0
  | inr more ↦ of_one P xs c all.1 more
]

-- chains that are the same on the footprint, as a rising list, are so on the list with repetitions
same_list : (setup : Setup) (n : ℕ) (k j : Chains) (e : Entry) → HasChains n k → HasChains n j → SameChains k j (footprint setup n k e) → SameChains k j (footprint_list setup n k e)
same_list setup n k j e a b h = all_in (λ c. chain_at k c ≡ chain_at j c) (footprint_list setup n k e) (λ c f. elim (cases_lt c (7 * n)) [
  | inl below ↦ of_one (λ d. chain_at k d ≡ chain_at j d) (footprint setup n k e) c h (in_footprint setup n k e c below f)
  | inr above ↦ no_chain n k c a above ∙ sym (no_chain n j c b above)
])

-- ---- the laws

pub same_met_by_footprint : (setup : Setup) (n : ℕ) (k j : Chains) (e : Entry) → HasChains n k → HasChains n j → SameChains k j (footprint setup n k e) → met setup n k e ≡ met setup n j e
same_met_by_footprint setup n k j e a b h = same_met setup n k j e a.some (same_list setup n k j e a b h)

pub same_footprint : (setup : Setup) (n : ℕ) (k j : Chains) (e : Entry) → HasChains n k → HasChains n j → SameChains k j (footprint setup n k e) → footprint setup n k e ≡ footprint setup n j e
same_footprint setup n k j e a b h = ap (λ (cs : List ℕ). filter (has_number cs) (count_from 0 (7 * n))) (same_footprint_list setup n k j e a.some (same_list setup n k j e a b h))

-- Chains that are the same on the footprint, and tables that look alike at each place that is written, give the same new chains.
pub moves_alike : (setup : Setup) (n : ℕ) (k j : Chains) (e : Entry) (v w : View) (c : ℕ) → IsWellFormed n k → HasChains n j
    → SameChains k j (footprint setup n k e) → added setup v e ≡ added setup w e → AllByRecursion (LookAlike setup (is_by_old setup e) v w) (places_written setup n k e)
    → chain_at k c ≡ chain_at j c → chain_at (move setup n k e v) c ≡ chain_at (move setup n j e w) c
moves_alike setup n k j e v w c wf b h a alike same = moves_alike_by setup n k j e v w c wf b (same_list setup n k j e wf.chains b h) a alike same

not_listed : (b : Bool) (setup : Setup) (n : ℕ) (k : Chains) (e : Entry) (c : ℕ) → has_number (footprint_list setup n k e) c ≡ b → c < 7 * n → has_number (footprint setup n k e) c ≡ false → has_number (footprint_list setup n k e) c ≡ false
not_listed true setup n k e c listed below h = absurd (both_ways (has_number (footprint setup n k e) c) h (in_footprint setup n k e c below listed))
not_listed false setup n k e c listed below h = listed

-- all other chains stay
pub others_stay : (setup : Setup) (n : ℕ) (k : Chains) (e : Entry) (v : View) (c : ℕ) → IsWellFormed n k → has_number (footprint setup n k e) c ≡ false → chain_at (move setup n k e v) c ≡ chain_at k c
others_stay setup n k e v c w h = elim (cases_lt c (7 * n)) [
  | inl below ↦ others_stay_by setup n k e v c w (not_listed (has_number (footprint_list setup n k e) c) setup n k e c refl below h)
  | inr above ↦
      no_chain n (move setup n k e v) c (has_chains-write_all n (new_at setup n k (is_by_old setup e) v (added setup v e)) (places_written setup n k e) k w.chains) above
      ∙ sym (no_chain n k c w.chains above)
]

-- A call that ends no session: what expires before it, and what it then decides, do nothing beside the places that are written.
use Rattle.std.proofs.Common.{◌≡◌, ℕ, Bool, true, false, cond, ◌==◌, ◌&&◌, List, [], ◌∷◌, ◌++◌, map, Option, Some, None, refl, sym, ap, ◌∙◌, subst, inl, inr}
use Rattle.std.specs.List.{list_any, list_all, filter_map}
use Rattle.std.specs.Option.{option_map, option_map_or}
use Rattle.std.proofs.lemmas.Bool.{and_parts, and_from, eqb-true}
use Rattle.std.proofs.lemmas.List.Folds.{list_all-append, list_all-map}
use Rattle.sid_core.specs.declared.call.Call.{Call}
use Rattle.sid_core.specs.declared.entry.Event.TheVariants.{Called}
use Rattle.sid_core.specs.declared.ids.LeaseName.{LeaseName}
use Rattle.sid_core.specs.declared.ids.Moment.{Moment}
use Rattle.sid_core.specs.declared.ids.Spot.{Spot}
use Rattle.sid_core.specs.declared.reply.Reply.{Reply}
use Rattle.sid_core.specs.declared.setup.Setup.{Setup}
use Rattle.sid_core.specs.Ids.{same_name}
use Rattle.serial_table.specs.declared.rows.OpenRow.{OpenRow}
use Rattle.serial_table.specs.declared.rows.LeaseRow.{LeaseRow}
use Rattle.serial_table.specs.declared.rows.Watch.{Watch}
use Rattle.serial_table.specs.declared.table.Table.{Table}
use Rattle.serial_table.specs.declared.change.Change.{Change}
use Rattle.serial_table.specs.declared.decision.Caller.{Caller}
use Rattle.serial_table.specs.View.{view, has_name}
use Rattle.serial_table.specs.Settle.{settle}
use Rattle.serial_table.specs.Change.{perform_all}
use Rattle.serial_table.specs.Break.{each_once}
use Rattle.serial_table.specs.Decision.{Outcome, conclude}
use Rattle.serial_table.specs.Decide.{decide, outcome}
use Rattle.serial_table.specs.Expire.{carried_by, look, expires, due, expired_by}
use Rattle.serial_table.specs.History.{after_event}
use Rattle.serial_table.specs.Step.{caller_of}
use Rattle.serial_table.specs.Sound.{IsSound, has_its_lease}
use Rattle.serial_table.proofs.Members.{IsIn, each, all_each, one_of, passes_in}
use Rattle.serial_table.proofs.Views.{view-perform_all}
use Rattle.serial_table.proofs.Broken.{filter_map-map}
use Rattle.serial_table.proofs.Concluding.{conclude_all}
use Rattle.serial_table.proofs.Expiring.{settles_all, expired_all}
use Rattle.stored_table.specs.Places.{Place, among}
use Rattle.stored_table.specs.Decoded.{AllRecords}
use Rattle.table_laws.proofs.Lists.{all_joined}
use Rattle.table_laws.proofs.Contained.{share_place, ranges_place, IsMetName, Contained}
use Rattle.table_laws.proofs.Exactly.{single}
use Rattle.table_laws.proofs.Touching.{touches, reaches, IsNewIn, contained}
use Rattle.table_laws.proofs.Deciding.{adds_no_waiter, watch_before, none_new, AreContained, IsContained, concluded}
use Rattle.table_laws.proofs.Chains.{adds_no_open, all_still_in}

-- ---- names that a call looks at

once_in_cond : (b : Bool) (met names : List LeaseName) (own name : LeaseName) → IsIn name (cond b (each_once met names) (own ∷ each_once (own ∷ met) names))
    → (IsIn name (each_once met names) → IsIn name names) → (IsIn name (each_once (own ∷ met) names) → IsIn name names) → IsIn name (own ∷ names)
once_in_cond true met names own name i f g = inr (f i)
once_in_cond false met names own name (inl e) f g = inl e
once_in_cond false met names own name (inr i) f g = inr (g i)

pub once_in : (met names : List LeaseName) (name : LeaseName) → IsIn name (each_once met names) → IsIn name names
once_in met [] name i = i
once_in met (own ∷ names) name i = once_in_cond (list_any (same_name own) met) met names own name i (once_in met names name) (once_in (own ∷ met) names name)

carried_either : (o : OpenRow) (os : List OpenRow) (lease : Option LeaseName) (name : LeaseName) → o.lease ≡ lease → IsIn name (filter_map (λ (y : Option LeaseName). y) (lease ∷ map (λ (x : OpenRow). x.lease) os))
    → (IsIn name (filter_map (λ (y : Option LeaseName). y) (map (λ (x : OpenRow). x.lease) os)) → (x : OpenRow) × IsIn x os × (x.lease ≡ Some name)) → (x : OpenRow) × IsIn x (o ∷ os) × (x.lease ≡ Some name)
carried_either o os None name e i f = let l = f i in (l.0, inr l.1, l.2)
carried_either o os (Some own) name e (inl h) f = (o, inl refl, e ∙ ap Some h)
carried_either o os (Some own) name e (inr i) f = let l = f i in (l.0, inr l.1, l.2)

carried_among : (os : List OpenRow) (name : LeaseName) → IsIn name (filter_map (λ (y : Option LeaseName). y) (map (λ (x : OpenRow). x.lease) os)) → (x : OpenRow) × IsIn x os × (x.lease ≡ Some name)
carried_among [] name i = absurd i
carried_among (o ∷ os) name i = carried_either o os o.lease name refl i (carried_among os name)

pub carried_in : (os : List OpenRow) (name : LeaseName) → IsIn name (carried_by os) → (x : OpenRow) × IsIn x os × (x.lease ≡ Some name)
carried_in os name i = carried_among os name (subst (IsIn name) (sym (filter_map-map (λ (y : Option LeaseName). y) (λ (x : OpenRow). x.lease) os)) i)

-- the lease of a sound table that an open carries is of its file
pub lease_of_file : (t : Table) → IsSound t → (o : OpenRow) (name : LeaseName) (l : LeaseRow) → IsIn o t.opens → o.lease ≡ Some name → IsIn l ((view t).leases_of name) → l.file ≡ o.file
lease_of_file t sound o name l i is j =
    let own = one_of (λ x. (x.file == o.file) && same_name x.name name) t.leases (ap (λ lease. option_map_or (λ n. list_any (λ x. (x.file == o.file) && same_name x.name n) t.leases) lease true) (sym is) ∙ each (has_its_lease t.leases) t.opens sound.rows.opens_have_leases o i) in
    let p = and_parts (own.0.file == o.file) (same_name own.0.name name) own.2 in
    ap (λ (x : LeaseRow). x.file) (first_is l own.0 (sym (single t sound name l j) ∙ single t sound name own.0 (passes_in (has_name name) t.leases own.0 own.1 p.1)))
    ∙ eqb-true own.0.file o.file p.0
  where
    first_is : (a b : LeaseRow) → ◌≡◌ {A = List LeaseRow} (a ∷ []) (b ∷ []) → a ≡ b
    first_is a b e = cc

-- ---- the whole call

-- what expires before it, and then what its decision comes to at the table behind
pub changes_are : (setup : Setup) (t : Table) (caller : Caller) (call : Call) → (outcome setup (view t) caller call).changes
    ≡ expired_by setup (view t) caller call
    ++ (conclude (view (perform_all (expired_by setup (view t) caller call) t)) (decide setup (view (perform_all (expired_by setup (view t) caller call) t)) caller call)).changes
changes_are setup t caller call = ap (λ v. expired_by setup (view t) caller call ++ (conclude v (decide setup v caller call)).changes) (sym (view-perform_all (expired_by setup (view t) caller call) t))

module _ (setup : Setup) (ps : List Place) (s : AllRecords) (here : ℕ → Bool) (t : Table) (caller : Caller) (call : Call)
    (written : (file : ℕ) → here file ≡ true → (among (share_place setup file) ps ≡ true) × (among (ranges_place setup file) ps ≡ true))
    (names : (o : OpenRow) → IsIn o t.opens → here o.file ≡ true → IsMetName ps o.lease)
    (settled : settle t ≡ t)
    (looked : (l : LeaseRow) → IsIn l (due (view t) caller.moment (look setup (view t) caller call)) → here l.file ≡ true) where
  abbrev pub first : List Change
  first = expired_by setup (view t) caller call

  -- the table that the call decides at
  abbrev pub behind : Table
  behind = perform_all (expired_by setup (view t) caller call) t

  first_touched : list_all (touches here) (expired_by setup (view t) caller call) ≡ true
  unfolding expired_by
  first_touched =
      let rows = due (view t) caller.moment (look setup (view t) caller call) in
      settles_all (touches here) refl (map expires rows) (list_all-map (touches here) expires rows ∙ all_each (λ l. here l.file) rows looked)

  first_reached : list_all (reaches setup ps) (expired_by setup (view t) caller call) ≡ true
  first_reached = expired_all (reaches setup ps) (λ l. refl) refl setup (view t) caller call

  first_no_waiter : list_all adds_no_waiter (expired_by setup (view t) caller call) ≡ true
  first_no_waiter = expired_all adds_no_waiter (λ l. refl) refl setup (view t) caller call

  first_no_open : list_all adds_no_open (expired_by setup (view t) caller call) ≡ true
  first_no_open = expired_all adds_no_open (λ l. refl) refl setup (view t) caller call

  -- an open behind it was there before
  pub open_behind : (o : OpenRow) → IsIn o behind.opens → IsIn o t.opens
  open_behind o i = all_still_in here (expired_by setup (view t) caller call) t o first_no_open first_touched i

  pub watch_behind : (spot : Spot) (y : Watch) → IsIn y ((view behind).watches_on spot) → IsIn y ((view t).watches_on spot)
  watch_behind spot y i = watch_before (expired_by setup (view t) caller call) t spot y first_no_waiter i

  module _ (h : IsContained setup ps s here t (decide setup (view behind) caller call)) where
    later : AreContained setup ps s here (conclude (view behind) (decide setup (view behind) caller call)).changes
    later = concluded setup ps s here t behind watch_behind (decide setup (view behind) caller call) h

    abbrev all_changes : List Change
    all_changes = expired_by setup (view t) caller call ++ (conclude (view behind) (decide setup (view behind) caller call)).changes

    touched : list_all (touches here) all_changes ≡ true
    touched = list_all-append (touches here) (expired_by setup (view t) caller call) _ ∙ and_from (list_all (touches here) (expired_by setup (view t) caller call)) _ first_touched later.touched

    pub call_touches : list_all (touches here) (outcome setup (view t) caller call).changes ≡ true
    call_touches = ap (list_all (touches here)) (changes_are setup t caller call) ∙ touched

    pub call_contained : Contained setup ps s t (perform_all (outcome setup (view t) caller call).changes t)
    call_contained =
        subst (λ cs. Contained setup ps s t (perform_all cs t)) (sym (changes_are setup t caller call))
        (contained setup ps s here t all_changes written names settled touched
        (list_all-append (reaches setup ps) (expired_by setup (view t) caller call) _ ∙ and_from (list_all (reaches setup ps) (expired_by setup (view t) caller call)) _ first_reached later.reached)
        (all_joined (IsNewIn s) (expired_by setup (view t) caller call) _ (none_new s (expired_by setup (view t) caller call) first_no_waiter) later.new))

    -- where it adds none, all opens were there before
    module _ (none : list_all adds_no_open (decide setup (view behind) caller call).changes ≡ true) where
      pub call_adds_none : list_all adds_no_open (outcome setup (view t) caller call).changes ≡ true
      call_adds_none =
          ap (list_all adds_no_open) (changes_are setup t caller call)
          ∙ list_all-append adds_no_open (expired_by setup (view t) caller call) _
          ∙ and_from (list_all adds_no_open (expired_by setup (view t) caller call)) _ first_no_open
          (conclude_all adds_no_open (record { comes = λ x. refl; goes = λ sid call. refl; sent = λ post. refl }) refl (view behind) (decide setup (view behind) caller call) none)

      pub call_opens : (o : OpenRow) → IsIn o (perform_all (outcome setup (view t) caller call).changes t).opens → IsIn o t.opens
      call_opens o i = all_still_in here (outcome setup (view t) caller call).changes t o call_adds_none call_touches i

-- the table after a call
pub after_call : (setup : Setup) (t : Table) (by number : ℕ) (moment : Moment) (call : Call) (reply : Reply) (caller : Caller) → caller_of setup (view t) by number moment ≡ Some caller
    → after_event setup t by (Called number moment call reply) ≡ perform_all (outcome setup (view t) caller call).changes t
after_call setup t by number moment call reply caller is =
    ap (λ o. perform_all (option_map_or (λ (done : Outcome). done.changes) (option_map (λ caller. outcome setup (view t) caller call) o) []) t) is

-- `open` keeps what the databases stand for, where no register record watches the call yet.
--
-- The file's records, those of its leases and of the asked one, the caller's own, and those of the owners and watchers of all these are
-- written whatever the call decides. All that it decides stays there. What expires before may be the asked lease of another file: that
-- file's own records aren't written, and its disconnected opens under the lease then count no longer.
use Rattle.std.proofs.Common.{◌≡◌, ℕ, ◌≤◌, Bool, true, false, cond, not, ◌==◌, ◌&&◌, List, [], ◌∷◌, ◌++◌, filter, Option, Some, None, refl, sym, ap, ◌∙◌, subst, inl, inr, ◌⊎◌, arith, map}
use Rattle.std.specs.Prelude.{IfSome}
use Rattle.std.specs.List.{list_any, list_all, AllByRecursion, flat_map}
use Rattle.std.specs.Option.{option_map, option_map_or, option_and_then}
use Rattle.std.proofs.lemmas.Bool.{and_parts, and_from, cond_both, eqb-true, eq-eqb}
use Rattle.std.proofs.lemmas.List.Folds.{list_all-append}
use Rattle.sid_core.specs.declared.bits.Access.{Access}
use Rattle.sid_core.specs.declared.bits.Share.{Share}
use Rattle.sid_core.specs.declared.bits.LeaseState.{LeaseState}
use Rattle.sid_core.specs.declared.call.Call.{Call}
use Rattle.sid_core.specs.declared.call.Call.TheVariants as call
use Rattle.sid_core.specs.declared.call.LeaseAsk.{LeaseAsk}
use Rattle.sid_core.specs.declared.entry.Entry.{Entry}
use Rattle.sid_core.specs.declared.ids.LeaseName.{LeaseName}
use Rattle.sid_core.specs.declared.ids.Moment.{Moment}
use Rattle.sid_core.specs.declared.ids.Sid.{Sid}
use Rattle.sid_core.specs.declared.ids.Spot.{Spot}
use Rattle.sid_core.specs.declared.reply.Reply.{Reply}
use Rattle.sid_core.specs.declared.reply.Reply.TheVariants.{Granted, AccessDenied, InvalidParameter, DeletePending, SharingViolation}
use Rattle.sid_core.specs.declared.setup.Setup.{Setup}
use Rattle.sid_core.specs.declared.setup.WorkerInfo.{WorkerInfo}
use Rattle.sid_core.specs.Setup.{IsSetup}
use Rattle.sid_core.specs.Ids.{same_id}
use Rattle.sid_core.specs.Values.{IsU32}
use Rattle.serial_table.specs.declared.rows.OpenRow.{OpenRow}
use Rattle.serial_table.specs.declared.rows.LeaseRow.{LeaseRow}
use Rattle.serial_table.specs.declared.rows.Breaking.{Breaking}
use Rattle.serial_table.specs.declared.rows.Watch.{Watch}
use Rattle.serial_table.specs.declared.table.Table.{Table}
use Rattle.serial_table.specs.declared.change.Change.{Change}
use Rattle.serial_table.specs.declared.change.Change.TheVariants as c
use Rattle.serial_table.specs.declared.decision.Caller.{Caller}
use Rattle.serial_table.specs.declared.decision.Decision.{Decision}
use Rattle.serial_table.specs.View.{View, view, lives, has_name, is_of_file}
use Rattle.serial_table.specs.File.{FileView, FileOpen, file_view, file_open}
use Rattle.serial_table.specs.Settle.{settle}
use Rattle.serial_table.specs.Change.{perform_all}
use Rattle.serial_table.specs.Local.{perform_all_in_file}
use Rattle.serial_table.specs.Break.{Breaks, no_break, all_but_handle, all_but_write, none_of_them, both, first_of, names_of, each_once}
use Rattle.table_laws.proofs.Asking.{Asked}
use Rattle.serial_table.specs.Asked.{own_lease, asked_of, is_stat, deletes_without_right, is_elsewhere, in_conflict, refuses}
use Rattle.serial_table.specs.Grant.{grant_lease, is_durable, new_open, grant_plain, grant_under, grant_by, grant}
use Rattle.serial_table.specs.Open.{handle_breaks, other_breaks, wait_for_open, wait_or_grant, go_on, open_by, open_file}
use Rattle.serial_table.specs.Decision.{Outcome, only_reply, spots_of, no_longer_waits, conclude}
use Rattle.serial_table.specs.Decide.{decide, outcome}
use Rattle.serial_table.specs.Expire.{carried_by, asked_names, look, due, is_due, expires, then_settles, expired_by}
use Rattle.serial_table.specs.History.{start, after, IsLegal, IsLegalCall}
use Rattle.serial_table.specs.Step.{caller_of, declared_at}
use Rattle.serial_table.specs.Sound.{AllFit, AreBelow, IsSound}
use Rattle.serial_table.specs.InSets.{IsInSets}
use Rattle.serial_table.proofs.Entries.{call_is_new}
use Rattle.serial_table.proofs.Living.{lives_among}
use Rattle.serial_table.proofs.SameIds.{same_id-eq, same_name-eq}
use Rattle.serial_table.proofs.Members.{IsIn, in_append, in_filter, in_flat_map, in_map, passes_in, some_same}
use Rattle.serial_table.proofs.Along.{legal_before}
use Rattle.serial_table.proofs.Alike.{after_all-append}
use Rattle.serial_table.proofs.Callers.{IsCallerOf, is_caller_of}
use Rattle.serial_table.proofs.Concluding.{no_more_all, conclude_all, start-settled}
use Rattle.serial_table.proofs.Consistent.{consistent-perform_all}
use Rattle.serial_table.proofs.Expiring.{due_there, expired_all, expired_settled, after_all-settled, outcome_table, behind_copy_reply}
use Rattle.serial_table.proofs.ExpiringFits.{expired_fits}
use Rattle.serial_table.proofs.GrantOwed.{of_lease}
use Rattle.serial_table.proofs.InSets.{sid_of}
use Rattle.serial_table.proofs.SettledSound.{settled-sound}
use Rattle.chain_map.specs.declared.db.Db.TheVariants as db
use Rattle.stored_table.specs.Keys.{open_key, name_key}
use Rattle.stored_table.specs.Places.{Chains, Place, place, among}
use Rattle.stored_table.specs.Decoded.{AllRecords, records_of}
use Rattle.stored_table.specs.Met.{asked_name, met_by_call, met_by_open, all_met, nothing_met}
use Rattle.stored_table.specs.Move.{added, added_by_call, added_by_caller, added_for, id_by, move, places_written}
use Rattle.stored_table.specs.Moved.{moved}
use Rattle.stored_table.specs.Stands.{AgreeWith, HasOpenRecords, StandsFor}
use Rattle.table_laws.specs.Standing.{IsUnwatched, KeepsStandingIfNew}
use Rattle.table_laws.proofs.Contained.{share_place, ranges_place, lease_place, register_place, mail_place, IsMetName, Contained}
use Rattle.table_laws.proofs.Lessened.{Lessened, lessened}
use Rattle.table_laws.proofs.Fading.{Fades, expired, settles_to, fades, lessened_behind}
use Rattle.table_laws.proofs.Exactly.{in_opens}
use Rattle.table_laws.proofs.FirstKeys.{FirstKeys, keys_of_open}
use Rattle.table_laws.proofs.Meets.{is_among, own_mail, name_met, files_written, leases_met, owner_register, owner_mail, open_watcher_met, range_watcher_met}
use Rattle.table_laws.proofs.Touching.{touches, reaches, meets_name, contained}
use Rattle.table_laws.proofs.Deciding.{adds_no_waiter, watch_before, AreContained, AreWatchersMet, IsContained, reply_contained, concluded}
use Rattle.table_laws.proofs.Breaking.{AreBreaks, OwnersHave, no_breaks, both_breaks, each_breaks, open_in, breaks_touch, breaks_reach, breaks_wait, breaks_open}
use Rattle.table_laws.proofs.Chains.{IsFine, legal_is_fine, legal_start, adds_no_open, old_opens, chains_stand_less}
use Rattle.table_laws.proofs.AddedOpens.{IsNewNumber, new_above}
use Rattle.table_laws.proofs.OpenRecords.{IsOwnOpen, opens_from, added_opens}
use Rattle.table_laws.proofs.Calls.{once_in, carried_in, after_call}
use Rattle.table_laws.proofs.HandleEvents.{entry}
use Rattle.table_laws.proofs.LockEvents.{after_own_waits}

-- ---- what it can decide

-- the file once HANDLE is broken, the breaks of both steps, and the file as they leave it
abbrev pub first_broken : FileView → Asked → FileView
first_broken f asked = perform_all_in_file (handle_breaks f asked).changes f

abbrev pub all_breaks : FileView → Asked → Breaks
all_breaks f asked = both (handle_breaks f asked) (other_breaks (first_broken f asked) asked)

abbrev pub all_broken : FileView → Asked → FileView
all_broken f asked = perform_all_in_file (all_breaks f asked).changes f

-- what holds of each decision of `open`
pub record HoldsOfEach (P : Decision → Type 0) (f : FileView) (caller : Caller) (asked : Asked) : Type 0 where
  pub denied : P (only_reply AccessDenied)
  pub wrong : P (only_reply InvalidParameter)
  pub going : P (only_reply DeletePending)
  pub refused : P (only_reply SharingViolation)
  pub waits_first : (blocker : Sid) → (handle_breaks f asked).blocker ≡ Some blocker → P (wait_for_open caller asked (handle_breaks f asked) blocker)
  pub waits : (blocker : Sid) → (all_breaks f asked).blocker ≡ Some blocker → P (wait_for_open caller asked (all_breaks f asked) blocker)
  pub plain : P (grant_plain caller asked (all_breaks f asked))
  pub under : (name : LeaseName) → P (grant_under caller asked (all_breaks f asked) (grant_lease (all_broken f asked) asked name) (is_durable asked (grant_lease (all_broken f asked) asked name)))

module _ (P : Decision → Type 0) (elsewhere : Bool) (f : FileView) (caller : Caller) (asked : Asked) (h : HoldsOfEach P f caller asked) where
  of_grant : P (grant (all_broken f asked) caller asked (all_breaks f asked))
  unfolding grant
  of_grant = by_lease asked.lease
    where
      by_lease : (lease : Option LeaseName) → P (grant_by (all_broken f asked) caller asked (all_breaks f asked) lease)
      by_lease None = h.plain
      by_lease (Some name) = h.under name

  of_later : (handle_breaks f asked).blocker ≡ None → (blocker : Option Sid) → (other_breaks (first_broken f asked) asked).blocker ≡ blocker → P (wait_or_grant f caller asked (all_breaks f asked) blocker)
  of_later first None later = of_grant
  of_later first (Some blocker) later = h.waits blocker (λ i. first_of (first i) (later i))

  of_first : (blocker : Option Sid) → (handle_breaks f asked).blocker ≡ blocker → P (go_on f caller asked (handle_breaks f asked) blocker)
  of_first (Some blocker) first = h.waits_first blocker first
  of_first None first = of_later first (other_breaks (first_broken f asked) asked).blocker refl

  pub of_open : P (open_by elsewhere f caller asked)
  unfolding open_by
  of_open =
      cond_both (deletes_without_right asked) (only_reply AccessDenied) _ P (λ _. h.denied)
      (λ _. cond_both elsewhere (only_reply InvalidParameter) _ P (λ _. h.wrong)
      (λ _. cond_both f.pending (only_reply DeletePending) _ P (λ _. h.going)
      (λ _. cond_both (list_any (refuses f asked) (in_conflict f asked)) (only_reply SharingViolation) (go_on f caller asked (handle_breaks f asked) (handle_breaks f asked).blocker) P (λ _. h.refused)
      (λ _. of_first (handle_breaks f asked).blocker refl))))

-- ---- the open that it makes

abbrev pub is_grant : Reply → Bool
is_grant (Granted state stays) = true
is_grant _ = false

abbrev pub is_own_open : ℕ → ℕ → ℕ → OpenRow → Bool
is_own_open pid number file o = same_id o.id (record { pid = pid; call = number }) && ((o.owner.pid == pid) && ((o.handle == number) && (o.file == file)))

-- no open comes but such, where one is granted
abbrev pub adds_only : Bool → (OpenRow → Bool) → Change → Bool
adds_only granted own (c.AddOpen row) = granted && own row
adds_only granted own _ = true

adds_none : (granted : Bool) (own : OpenRow → Bool) (change : Change) → adds_no_open change ≡ true → adds_only granted own change ≡ true
adds_none granted own (c.AddOpen row) e = absurd cc
adds_none granted own _ e = refl

pub all_add_none : (granted : Bool) (own : OpenRow → Bool) (cs : List Change) → list_all adds_no_open cs ≡ true → list_all (adds_only granted own) cs ≡ true
all_add_none granted own [] e = refl
all_add_none granted own (change ∷ cs) e = let p = and_parts (adds_no_open change) (list_all adds_no_open cs) e in and_from _ _ (adds_none granted own change p.0) (all_add_none granted own cs p.1)

pub own_open : (pid number file : ℕ) (o : OpenRow) → is_own_open pid number file o ≡ true → IsOwnOpen pid number file o
own_open pid number file o e =
    let a = and_parts (same_id o.id (record { pid = pid; call = number })) _ e in
    let b = and_parts (o.owner.pid == pid) _ a.1 in
    let d = and_parts (o.handle == number) (o.file == file) b.1 in
    record {
      id = same_id-eq o.id (record { pid = pid; call = number }) a.0;
      owner = eqb-true o.owner.pid pid b.0;
      handle = eqb-true o.handle number d.0;
      file_is = eqb-true o.file file d.1;
    }

-- ---- what it meets

module _ (setup : Setup) (n : ℕ) (k : Chains) (t : Table) (stands : StandsFor setup n k (view t)) (fine : IsFine setup t) (settled : settle t ≡ t)
    (caller : Caller) (info : WorkerInfo) (pid : caller.sid.pid ≡ info.pid) (guid : caller.guid ≡ info.guid) (number : ℕ) (number_is : caller.number ≡ number) (file : ℕ) (lease : Option LeaseAsk) where
  abbrev s : AllRecords
  s = records_of setup n k

  abbrev keys : FirstKeys
  keys = keys_of_open setup info number file lease

  abbrev pub open_places : List Place
  open_places = all_met (met_by_open setup n k info number file lease)

  abbrev pub here : ℕ → Bool
  here g = file == g

  own_file : here file ≡ true
  own_file = eq-eqb file file refl

  written : (g : ℕ) → here g ≡ true → (among (share_place setup g) open_places ≡ true) × (among (ranges_place setup g) open_places ≡ true)
  written g e =
      subst (λ g. (among (share_place setup g) open_places ≡ true) × (among (ranges_place setup g) open_places ≡ true)) (eqb-true file g e)
      (files_written setup n k t stands.agree fine.sound fine.sets keys.opens [] keys.files keys.names keys.own file (inl refl))

  met_names : (o : OpenRow) → IsIn o t.opens → here o.file ≡ true → IsMetName open_places o.lease
  met_names o i e =
      leases_met setup n k t stands.agree fine.sound fine.sets keys.opens [] keys.files keys.names keys.own file (inl refl) o
      (subst (λ g. IsIn o ((view t).opens_of g)) (sym (eqb-true file o.file e)) (in_opens t fine.sound o i))

  -- the record of the call's open is met
  pub own_record_met : among (place db.Opens (open_key info.pid number)) open_places ≡ true
  own_record_met = is_among (place db.Opens (open_key info.pid number)) open_places (inl refl)

  own_mail_met : among (mail_place caller.sid.pid) open_places ≡ true
  own_mail_met = ap (λ p. among (mail_place p) open_places) pid ∙ own_mail setup n k t stands.agree fine.sound fine.sets keys.opens [] keys.files keys.names keys.own info.pid (inl refl)

  -- so is the asked lease
  asked_met : (name : LeaseName) → IsIn name (asked_names caller lease) → among (lease_place name) open_places ≡ true
  asked_met name i = by lease refl i
    where
      by : (l : Option LeaseAsk) → lease ≡ l → IsIn name (asked_names caller l) → among (lease_place name) open_places ≡ true
      by None is i = absurd i
      by (Some ask) is (inr i) = absurd i
      by (Some ask) is (inl e) =
          let declared : LeaseName = record { guid = info.guid; key = ask.key } in
          let same : name ≡ declared = sym e ∙ (λ j. record { guid = guid j; key = ask.key }) in
          ap (λ m. among (lease_place m) open_places) same
          ∙ name_met setup n k t stands.agree fine.sound fine.sets keys.opens [] keys.files keys.names keys.own declared (subst (λ l. IsIn (name_key declared) (asked_name info l)) (sym is) (inl refl))

  asked_name_met : IsMetName open_places (option_map (λ (ask : LeaseAsk). own_lease caller ask.key) lease)
  asked_name_met = by lease refl
    where
      by : (l : Option LeaseAsk) → lease ≡ l → IsMetName open_places (option_map (λ (ask : LeaseAsk). own_lease caller ask.key) l)
      by None is = tt
      by (Some ask) is = asked_met (own_lease caller ask.key) (subst (λ l. IsIn (own_lease caller ask.key) (asked_names caller l)) (sym is) (inl refl))

  spots_met : (spot : Spot) → IsIn spot (spots_of file) → AreWatchersMet setup open_places s here t spot
  spots_met spot (inl e) y j = open_watcher_met setup n k t stands.agree fine.sound fine.sets keys.opens [] keys.files keys.names keys.own file (inl refl) y (subst (λ z. IsIn y ((view t).watches_on z)) (sym e) j)
  spots_met spot (inr (inl e)) y j = range_watcher_met setup n k t stands.agree fine.sound fine.sets keys.opens [] keys.files keys.names keys.own file (inl refl) y (subst (λ z. IsIn y ((view t).watches_on z)) (sym e) j)
  spots_met spot (inr (inr e)) y j = absurd e

  -- ---- behind what expires

  module _ (access : Access) (share : Share) (durable : ℕ) (overwrite delete : Bool) where
    abbrev which : Call
    which = call.OpenFile file access share lease durable overwrite delete

    abbrev asked : Asked
    asked = asked_of caller file access share lease durable overwrite delete

    abbrev rows : List LeaseRow
    rows = due (view t) caller.moment (look setup (view t) caller which)

    abbrev pub behind : Table
    behind = perform_all (expired_by setup (view t) caller (call.OpenFile file access share lease durable overwrite delete)) t

    looked_met : (name : LeaseName) → IsIn name (carried_by ((view t).opens_of file)) ⊎ IsIn name (asked_names caller lease) → among (lease_place name) open_places ≡ true
    looked_met name (inl i) =
        let o = carried_in ((view t).opens_of file) name i in
        subst (IsMetName open_places) o.2 (leases_met setup n k t stands.agree fine.sound fine.sets keys.opens [] keys.files keys.names keys.own file (inl refl) o.0 o.1)
    looked_met name (inr i) = asked_met name i

    row_met : (l : LeaseRow) → IsIn l rows → among (lease_place l.name) open_places ≡ true
    row_met l i =
        let names = carried_by ((view t).opens_of file) ++ asked_names caller lease in
        let at = (in_filter (is_due caller.moment) (flat_map (λ name. (view t).leases_of name) (each_once [] names)) l i).0 in
        let name = in_flat_map (λ name. (view t).leases_of name) (each_once [] names) l at in
        ap (λ m. among (lease_place m) open_places) (same_name-eq l.name name.0 (in_filter (has_name name.0) t.leases l name.2).1)
        ∙ looked_met name.0 (in_append (carried_by ((view t).opens_of file)) (asked_names caller lease) name.0 (once_in [] names name.0 name.1))

    behind_is : behind ≡ settle (expired rows t)
    unfolding expired_by
    behind_is = settles_to rows t settled

    rows_fit : AllFit (then_settles (map expires rows)) t
    unfolding expired_by
    rows_fit = expired_fits setup t caller which fine.sound.rows

    pub behind_settled : settle behind ≡ behind
    behind_settled = expired_settled setup t caller which settled

    pub behind_sound : IsSound behind
    behind_sound = settled-sound behind (consistent-perform_all (expired_by setup (view t) caller which) t fine.sound.rows (expired_fits setup t caller which fine.sound.rows)) behind_settled

    pub behind_fades : Fades open_places t behind
    behind_fades =
        subst (Fades open_places t) (sym behind_is)
        (fades t fine.sound settled rows (λ l i. (due_there t caller.moment (look setup (view t) caller which) l i).0) rows_fit (subst IsSound behind_is behind_sound) open_places row_met)

    watch_was : (spot : Spot) (y : Watch) → IsIn y ((view behind).watches_on spot) → IsIn y ((view t).watches_on spot)
    watch_was spot y i = watch_before (expired_by setup (view t) caller which) t spot y (expired_all adds_no_waiter (λ l. refl) refl setup (view t) caller which) i

    -- ---- what it decides there

    abbrev f : FileView
    f = file_view file (view behind)

    abbrev IsMet : Sid → Type 0
    IsMet sid = (among (mail_place sid.pid) open_places ≡ true) × (among (register_place sid.pid) open_places ≡ true)

    owners : OwnersHave here IsMet f
    owners o j =
        let x = in_map (file_open (lives (view behind))) ((view behind).opens_of file) o j in
        let at = in_filter (is_of_file file) behind.opens x.0 x.1 in
        let i = passes_in (is_of_file file) t.opens x.0 (behind_fades.opens x.0 at.0) at.1 in
        subst (λ (y : FileOpen). IsMet y.row.owner) x.2 (
          owner_mail setup n k t stands.agree fine.sound fine.sets keys.opens [] keys.files keys.names keys.own file (inl refl) x.0 i,
          owner_register setup n k t stands.agree fine.sound fine.sets keys.opens [] keys.files keys.names keys.own file (inl refl) x.0 i,
        )

    handles_are : AreBreaks here IsMet (handle_breaks f asked)
    unfolding handle_breaks
    handles_are = each_breaks here IsMet caller.moment file all_but_handle own_file f owners (names_of (in_conflict f asked))

    others_are : (g : FileView) → OwnersHave here IsMet g → AreBreaks here IsMet (other_breaks g asked)
    unfolding other_breaks
    others_are g own =
        cond_both (is_stat access && not overwrite) no_break _ (AreBreaks here IsMet) (λ _. no_breaks here IsMet) (λ _. each_breaks here IsMet caller.moment file (cond overwrite none_of_them all_but_write) own_file g own _)

    breaks_are : AreBreaks here IsMet (all_breaks f asked)
    breaks_are =
        both_breaks here IsMet (handle_breaks f asked) (other_breaks (first_broken f asked) asked) handles_are
        (others_are (first_broken f asked) (λ o i. owners o (open_in here (handle_breaks f asked).changes f o handles_are.changes i)))

    abbrev Inside : Decision → Type 0
    Inside d = IsContained setup open_places s here t d × (list_all (adds_only (is_grant d.reply) (is_own_open info.pid number file)) d.changes ≡ true)

    replies : (reply : Reply) → Inside (only_reply reply)
    replies reply = (reply_contained setup open_places s here t reply, refl)

    waits_inside : IsUnwatched setup n k caller.sid caller.number → (b : Breaks) → AreBreaks here IsMet b → (blocker : Sid) → b.blocker ≡ Some blocker → Inside (wait_for_open caller asked b blocker)
    waits_inside fresh b are blocker e = (
      record {
        touched = breaks_touch here b.changes are.changes;
        reached = breaks_reach here setup open_places b.changes are.changes;
        none_waits = breaks_wait here b.changes are.changes;
        posts = λ post i. (are.posts post i).0;
        spots = spots_met;
        waits = (and_from _ _ own_mail_met (and_from _ _ (written file own_file).0 (subst (λ o. IfSome o IsMet) e are.blocker).1), fresh);
      },
      all_add_none false (is_own_open info.pid number file) b.changes (breaks_open here b.changes are.changes),
    )

    -- ---- what it grants

    is_new_open : (stays : Bool) → is_own_open info.pid number file (new_open caller asked stays) ≡ true
    is_new_open stays =
        and_from (same_id (record { pid = caller.sid.pid; call = caller.number }) (record { pid = info.pid; call = number })) _
        (and_from (caller.sid.pid == info.pid) (caller.number == number) (eq-eqb caller.sid.pid info.pid pid) (eq-eqb caller.number number number_is))
        (and_from (caller.sid.pid == info.pid) _ (eq-eqb caller.sid.pid info.pid pid) (and_from (caller.number == number) (file == file) (eq-eqb caller.number number number_is) own_file))

    asked_reached : meets_name open_places asked.lease ≡ true
    asked_reached = by asked.lease asked_name_met
      where
        by : (l : Option LeaseName) → IsMetName open_places l → meets_name open_places l ≡ true
        by None h = refl
        by (Some name) h = h

    -- what holds of the lease that comes, of setting one, and of the open
    granted_all : (p : Change → Bool) → ((held : LeaseState) (name : LeaseName) → p (c.AddLease (record { name = name; file = file; held = held; breaking = None })) ≡ true)
        → ((name : LeaseName) (held : LeaseState) (breaking : Option Breaking) → p (c.SetLease file name held breaking) ≡ true) → ((stays : Bool) → p (c.AddOpen (new_open caller asked stays)) ≡ true)
        → list_all p (all_breaks f asked).changes ≡ true → (name : LeaseName) (stays : Bool)
        → list_all p (grant_under caller asked (all_breaks f asked) (grant_lease (all_broken f asked) asked name) stays).changes ≡ true
    granted_all p leased set opened broken name stays =
        let g = grant_lease (all_broken f asked) asked name in
        let row = c.AddOpen (new_open caller asked stays) in
        list_all-append p (all_breaks f asked).changes (g.changes ++ row ∷ [])
        ∙ and_from (list_all p (all_breaks f asked).changes) _ broken
        (list_all-append p g.changes (row ∷ [])
        ∙ and_from (list_all p g.changes) (list_all p (row ∷ []))
        (of_lease (λ g. list_all p g.changes ≡ true) (all_broken f asked) asked name (record {
          made = λ none. and_from _ true (leased _ name) refl;
          more = λ l i. and_from _ true (set l.name _ None) refl;
          same = λ l i. refl;
        }))
        (and_from (p row) true (opened stays) refl))

    plain_all : (p : Change → Bool) → ((stays : Bool) → p (c.AddOpen (new_open caller asked stays)) ≡ true) → list_all p (all_breaks f asked).changes ≡ true → list_all p (grant_plain caller asked (all_breaks f asked)).changes ≡ true
    plain_all p opened broken =
        let row = c.AddOpen (new_open caller asked false) in
        list_all-append p (all_breaks f asked).changes (row ∷ []) ∙ and_from (list_all p (all_breaks f asked).changes) (list_all p (row ∷ [])) broken (and_from (p row) true (opened false) refl)

    abbrev own_opens_only : Change → Bool
    own_opens_only = adds_only true (is_own_open info.pid number file)

    broken_own : list_all own_opens_only (all_breaks f asked).changes ≡ true
    broken_own = all_add_none true (is_own_open info.pid number file) (all_breaks f asked).changes (breaks_open here (all_breaks f asked).changes breaks_are.changes)

    plain_inside : Inside (grant_plain caller asked (all_breaks f asked))
    plain_inside = (
      record {
        touched = plain_all (touches here) (λ stays. own_file) (breaks_touch here (all_breaks f asked).changes breaks_are.changes);
        reached = plain_all (reaches setup open_places) (λ stays. asked_reached) (breaks_reach here setup open_places (all_breaks f asked).changes breaks_are.changes);
        none_waits = plain_all adds_no_waiter (λ stays. refl) (breaks_wait here (all_breaks f asked).changes breaks_are.changes);
        posts = λ post i. (breaks_are.posts post i).0;
        spots = spots_met;
        waits = tt;
      },
      plain_all own_opens_only is_new_open broken_own,
    )

    under_inside : (name : LeaseName) (stays : Bool) → Inside (grant_under caller asked (all_breaks f asked) (grant_lease (all_broken f asked) asked name) stays)
    under_inside name stays = (
      record {
        touched = granted_all (touches here) (λ held name. own_file) (λ name held breaking. own_file) (λ stays. own_file) (breaks_touch here (all_breaks f asked).changes breaks_are.changes) name stays;
        reached = granted_all (reaches setup open_places) (λ held name. refl) (λ name held breaking. refl) (λ stays. asked_reached) (breaks_reach here setup open_places (all_breaks f asked).changes breaks_are.changes) name stays;
        none_waits = granted_all adds_no_waiter (λ held name. refl) (λ name held breaking. refl) (λ stays. refl) (breaks_wait here (all_breaks f asked).changes breaks_are.changes) name stays;
        posts = λ post i. (breaks_are.posts post i).0;
        spots = spots_met;
        waits = tt;
      },
      granted_all own_opens_only (λ held name. refl) (λ name held breaking. refl) is_new_open broken_own name stays,
    )

    -- ---- whatever it decides

    own_waits_first : (watches : List Watch) (d : Decision) → Inside d → Inside (no_longer_waits caller watches d)
    own_waits_first watches d h =
        let p = adds_only (is_grant d.reply) (is_own_open info.pid number file) in
        let first = filter (λ (watch : Watch). Rattle.sid_core.specs.Ids.same_sid watch.sid caller.sid) watches in (
          after_own_waits setup open_places s here t caller own_mail_met watches d h.0,
          list_all-append p (Rattle.serial_table.specs.Decision.own_waits_end caller watches) d.changes
              ∙ and_from (list_all p (Rattle.serial_table.specs.Decision.own_waits_end caller watches)) (list_all p d.changes)
              (no_more_all p (record { comes = λ x. refl; goes = λ sid call. refl; sent = λ post. refl }) first) h.1,
        )

    pub open_inside : IsUnwatched setup n k caller.sid caller.number → Inside (open_file (view behind) caller asked)
    unfolding open_file
    open_inside fresh =
        own_waits_first f.open_watches (open_by (is_elsewhere (view behind) asked) f caller asked)
        (of_open Inside (is_elsewhere (view behind) asked) f caller asked (record {
          denied = replies AccessDenied;
          wrong = replies InvalidParameter;
          going = replies DeletePending;
          refused = replies SharingViolation;
          waits_first = waits_inside fresh (handle_breaks f asked) handles_are;
          waits = waits_inside fresh (all_breaks f asked) breaks_are;
          plain = plain_inside;
          under = λ name. under_inside name _;
        }))

    -- ---- all that it comes to

    abbrev pub end : Table
    end = perform_all (conclude (view behind) (decide setup (view behind) caller which)).changes behind

    module _ (fresh : IsUnwatched setup n k caller.sid caller.number) where
      are_contained : AreContained setup open_places s here (conclude (view behind) (decide setup (view behind) caller which)).changes
      are_contained = concluded setup open_places s here t behind watch_was (decide setup (view behind) caller which) (open_inside fresh).0

      later_contained : Contained setup open_places s behind end
      later_contained =
          contained setup open_places s here behind (conclude (view behind) (decide setup (view behind) caller which)).changes written (λ o i e. met_names o (behind_fades.opens o i) e) behind_settled
          are_contained.touched are_contained.reached are_contained.new

      pub open_lessens : IsSound end → Lessened setup open_places s t end
      open_lessens sound_after = lessened_behind setup open_places s t behind end behind_fades (λ sid e. ap (λ ws. lives_among ws sid) (sym later_contained.workers) ∙ e) (lessened setup open_places s behind end behind_sound sound_after later_contained)

      -- an open is an old one, or the call's own where it is granted
      pub opens_then : (o : OpenRow) → IsIn o end.opens → IsIn o t.opens ⊎ ((is_grant (decide setup (view behind) caller which).reply && is_own_open info.pid number file o) ≡ true)
      opens_then o i =
          let d = decide setup (view behind) caller which in
          let p = adds_only (is_grant d.reply) (is_own_open info.pid number file) in
          was (opens_from p here (conclude (view behind) d).changes behind o
          (conclude_all p (record { comes = λ x. refl; goes = λ sid call. refl; sent = λ post. refl }) refl (view behind) d (open_inside fresh).1) are_contained.touched i)
        where
          was : IsIn o behind.opens ⊎ ((is_grant (decide setup (view behind) caller which).reply && is_own_open info.pid number file o) ≡ true)
              → IsIn o t.opens ⊎ ((is_grant (decide setup (view behind) caller which).reply && is_own_open info.pid number file o) ≡ true)
          was (inl j) = inl (behind_fades.opens o j)
          was (inr e) = inr e

-- ---- open records

-- records that stand for a sound table
record StandFor (setup : Setup) (s : AllRecords) (t : Table) : Type 0 where
  agree : AgreeWith setup s (view t)
  sound : IsSound t
  sets : IsInSets setup t

-- where one is granted or none
open_records : (setup : Setup) (ps : List Place) (s : AllRecords) (t u : Table) (pid number file : ℕ) → StandFor setup s t → IsU32 pid → IsU32 number → among (place db.Opens (open_key pid number)) ps ≡ true
    → IsNewNumber pid number t → (granted : Bool) → ((o : OpenRow) → IsIn o u.opens → IsIn o t.opens ⊎ ((granted && is_own_open pid number file o) ≡ true)) → (g : ℕ)
    → AllByRecursion (HasOpenRecords (moved setup ps (cond granted (added_for (open_key pid number) ((view u).opens_of_id (record { pid = pid; call = number }))) None) (view u) s)) ((view u).opens_of g)
open_records setup ps s t u pid number file also small_pid small_number met new true from g =
    added_opens setup ps s t u also.agree also.sound also.sets pid number file small_pid small_number met new (λ o i. which o (from o i)) g
  where
    which : (o : OpenRow) → IsIn o t.opens ⊎ (is_own_open pid number file o ≡ true) → IsIn o t.opens ⊎ IsOwnOpen pid number file o
    which o (inl i) = inl i
    which o (inr e) = inr (own_open pid number file o e)
open_records setup ps s t u pid number file also small_pid small_number met new false from g =
    old_opens setup ps s t u also.agree also.sound (λ o i. was o (from o i)) g
  where
    was : (o : OpenRow) → IsIn o t.opens ⊎ ◌≡◌ {A = Bool} false true → IsIn o t.opens
    was o (inl i) = i
    was o (inr e) = absurd cc

-- ---- the law

module _ (setup : Setup) (n : ℕ) (is : IsSetup setup) (before : List Entry) (by seq number : ℕ) (moment : Moment) (file : ℕ) (access : Access) (share : Share) (lease : Option LeaseAsk) (durable : ℕ) (overwrite delete : Bool) (reply : Reply) where
  abbrev opening : Call
  opening = call.OpenFile file access share lease durable overwrite delete

  abbrev pub open_entry : Entry
  open_entry = entry setup n is before by seq number moment (call.OpenFile file access share lease durable overwrite delete) reply

  abbrev t : Table
  t = after setup before

  -- what the entry adds, by its answer
  added_is : (w : View) (info : WorkerInfo) → declared_at setup.workers by ≡ Some info → (r : Reply)
      → added_by_call setup w by number opening r ≡ cond (is_grant r) (added_for (open_key info.pid number) (w.opens_of_id (record { pid = info.pid; call = number }))) None
  added_is w info declared (Granted state stays) = ap (λ o. option_and_then (λ caller. added_by_caller w number (id_by number caller) caller) o) declared
  added_is w info declared _ = refl

  module _ (legal : IsLegal setup (before ++ open_entry ∷ [])) where
    fine : IsFine setup t
    fine = legal_is_fine setup before is (legal_start setup before open_entry legal)

    settled : settle t ≡ t
    settled = after_all-settled setup (start setup) before (start-settled setup)

    call_at : IsLegalCall setup t by number moment opening reply
    call_at = (legal_before setup (start setup) before [] open_entry legal.entries).1

    small_number : IsU32 number
    small_number = let most : number ≤ 20000 = call_at.numbered.1 in omega arith

    module _ (caller : Caller) (from : caller_of setup (view t) by number moment ≡ Some caller) (k : Chains) (stands : StandsFor setup n k (view t)) (fresh : IsUnwatched setup n k caller.sid caller.number) where
      of : IsCallerOf setup t by number moment caller
      of = is_caller_of setup t by number moment caller from

      abbrev ps : List Place
      ps = open_places setup n k t stands fine settled caller of.info of.pid of.guid_is number of.number_is file lease

      abbrev b : Table
      b = behind setup n k t stands fine settled caller of.info of.pid of.guid_is number of.number_is file lease access share durable overwrite delete

      abbrev u : Table
      u = end setup n k t stands fine settled caller of.info of.pid of.guid_is number of.number_is file lease access share durable overwrite delete

      after_is : after setup (before ++ open_entry ∷ []) ≡ u
      after_is =
          after_all-append setup (start setup) before open_entry
          ∙ after_call setup t by number moment opening reply caller from
          ∙ outcome_table setup t caller opening

      fine_after : IsFine setup u
      fine_after = subst (IsFine setup) after_is (legal_is_fine setup (before ++ open_entry ∷ []) is legal)

      writes : places_written setup n k open_entry ≡ ps
      writes = ap (λ o. all_met (option_map_or (λ caller. met_by_call setup n k caller number opening) o nothing_met)) of.declared

      reply_is : (decide setup (view b) caller opening).reply ≡ reply
      reply_is =
          sym (behind_copy_reply setup t b caller opening refl)
          ∙ some_same _ reply (ap (λ o. option_map (λ (done : Outcome). done.reply) (option_map (λ caller. outcome setup (view t) caller opening) o)) (sym from) ∙ call_at.answered)

      lessens : Lessened setup (places_written setup n k open_entry) (records_of setup n k) t u
      lessens =
          subst (λ qs. Lessened setup qs (records_of setup n k) t u) (sym writes)
          (open_lessens setup n k t stands fine settled caller of.info of.pid of.guid_is number of.number_is file lease access share durable overwrite delete fresh fine_after.sound)

      small_pid : IsU32 of.info.pid
      small_pid = subst IsU32 of.pid (sid_of setup t caller.sid fine.sets.workers of.alive).pid.number

      records_then : (g : ℕ) → AllByRecursion (HasOpenRecords (moved setup (places_written setup n k open_entry) (added setup (view u) open_entry) (view u) (records_of setup n k))) ((view u).opens_of g)
      records_then g =
          let first = added_for (open_key of.info.pid number) ((view u).opens_of_id (record { pid = of.info.pid; call = number })) in
          let all = open_records setup ps (records_of setup n k) t u of.info.pid number file (record { agree = stands.agree; sound = fine.sound; sets = fine.sets }) small_pid small_number
          (own_record_met setup n k t stands fine settled caller of.info of.pid of.guid_is number of.number_is file lease) (new_above of.info.pid number t (subst (λ p. AreBelow number p t) of.pid (call_is_new setup before [] by seq number moment opening reply caller is legal from))) (is_grant (decide setup (view b) caller opening).reply)
          (opens_then setup n k t stands fine settled caller of.info of.pid of.guid_is number of.number_is file lease access share durable overwrite delete fresh) g in
          subst (λ qs. AllByRecursion (HasOpenRecords (moved setup qs (added setup (view u) open_entry) (view u) (records_of setup n k))) ((view u).opens_of g)) (sym writes)
          (subst (λ a. AllByRecursion (HasOpenRecords (moved setup ps a (view u) (records_of setup n k))) ((view u).opens_of g))
          (ap (λ r. cond (is_grant r) first None) reply_is ∙ sym (added_is (view u) of.info of.declared reply)) all)

      stands_then : StandsFor setup n (move setup n k open_entry (view (after setup (before ++ open_entry ∷ [])))) (view (after setup (before ++ open_entry ∷ [])))
      stands_then =
          subst (λ x. StandsFor setup n (move setup n k open_entry (view x)) (view x)) (sym after_is)
          (chains_stand_less setup n k open_entry t u is stands fine fine_after lessens records_then)

    by_caller : (o : Option Caller) → caller_of setup (view t) by number moment ≡ o
        → option_map (λ (done : Outcome). done.reply) (option_map (λ caller. outcome setup (view t) caller opening) o) ≡ Some reply
        → (k : Chains) → StandsFor setup n k (view t) → ((caller : Caller) → caller_of setup (view t) by number moment ≡ Some caller → IsUnwatched setup n k caller.sid caller.number)
        → StandsFor setup n (move setup n k open_entry (view (after setup (before ++ open_entry ∷ [])))) (view (after setup (before ++ open_entry ∷ [])))
    by_caller None from e k stands fresh = absurd cc
    by_caller (Some caller) from e k stands fresh = stands_then caller from k stands (fresh caller from)

    pub open_stands : KeepsStandingIfNew setup n before by number moment open_entry
    open_stands = by_caller (caller_of setup (view t) by number moment) refl call_at.answered

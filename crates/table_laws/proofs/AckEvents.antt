-- `ack` keeps what the databases stand for.
use Rattle.std.proofs.Common.{◌≡◌, ℕ, Bool, true, ◌==◌, List, [], ◌∷◌, ◌++◌, map, Option, Some, None, refl, sym, ap, ◌∙◌, subst, inl, inr}
use Rattle.std.specs.List.{list_any, list_all, flat_map}
use Rattle.std.specs.Option.{option_map_or}
use Rattle.std.proofs.lemmas.Bool.{and_parts, and_from, cond_both, eqb-true, eq-eqb}
use Rattle.std.proofs.lemmas.List.Folds.{list_all-map}
use Rattle.sid_core.specs.declared.bits.LeaseState.{LeaseState}
use Rattle.sid_core.specs.declared.call.Call.TheVariants as call
use Rattle.sid_core.specs.declared.entry.Entry.{Entry}
use Rattle.sid_core.specs.declared.ids.LeaseName.{LeaseName}
use Rattle.sid_core.specs.declared.ids.Moment.{Moment}
use Rattle.sid_core.specs.declared.ids.Sid.{Sid}
use Rattle.sid_core.specs.declared.ids.Spot.{Spot}
use Rattle.sid_core.specs.declared.reply.Reply.{Reply}
use Rattle.sid_core.specs.declared.reply.Reply.TheVariants.{Unsuccessful, RequestNotAccepted, ObjectNameNotFound}
use Rattle.sid_core.specs.declared.setup.Setup.{Setup}
use Rattle.sid_core.specs.declared.setup.WorkerInfo.{WorkerInfo}
use Rattle.sid_core.specs.Setup.{IsSetup}
use Rattle.sid_core.specs.Values.{is_part_of}
use Rattle.serial_table.specs.declared.rows.OpenRow.{OpenRow}
use Rattle.serial_table.specs.declared.rows.LeaseRow.{LeaseRow}
use Rattle.serial_table.specs.declared.rows.Breaking.{Breaking}
use Rattle.serial_table.specs.declared.rows.Watch.{Watch}
use Rattle.serial_table.specs.declared.table.Table.{Table}
use Rattle.serial_table.specs.declared.decision.Caller.{Caller}
use Rattle.serial_table.specs.declared.decision.Decision.{Decision}
use Rattle.serial_table.specs.Ack.{acknowledged, accept, ack_lease, ack_first, ack}
use Rattle.serial_table.specs.Asked.{own_lease}
use Rattle.serial_table.specs.Break.{Breaks, break_lease}
use Rattle.serial_table.specs.View.{view, lives, carries, has_name, is_of_file}
use Rattle.serial_table.specs.File.{FileOpen, file_view, file_open}
use Rattle.serial_table.specs.Settle.{settle}
use Rattle.serial_table.specs.Change.{perform_all}
use Rattle.serial_table.specs.Decide.{outcome}
use Rattle.serial_table.specs.Decision.{only_reply, spots_of}
use Rattle.serial_table.specs.Expire.{look, due, is_due, expires, expired_by}
use Rattle.serial_table.specs.History.{after, IsLegal}
use Rattle.serial_table.specs.Sound.{has_open, is_open_under}
use Rattle.serial_table.proofs.SameIds.{same_name-eq}
use Rattle.serial_table.proofs.BreaksLeave.{from_breaks}
use Rattle.serial_table.proofs.Expiring.{settles_all}
use Rattle.serial_table.proofs.Members.{IsIn, each, all_each, any_of, one_of, in_filter, in_flat_map, in_map, passes_in}
use Rattle.serial_table.proofs.Shown.{is_of_break}
use Rattle.chain_map.specs.declared.db.Db.TheVariants as db
use Rattle.record_codec.specs.declared.share_rec.ShareEntry.{ShareEntry}
use Rattle.record_codec.specs.ShareRec.{share_rec}
use Rattle.stored_table.specs.Keys.{pid_key, name_key, file_key}
use Rattle.stored_table.specs.Places.{Chains, Place, among}
use Rattle.stored_table.specs.Decoded.{AllRecords, records_of}
use Rattle.record_rows.specs.Rows.{entry_of}
use Rattle.stored_table.specs.Met.{KeyList, all_keys, record_at, files_with, met_by_call, met_by_name, all_met, nothing_met}
use Rattle.stored_table.specs.Met as stored
use Rattle.stored_table.specs.Stands.{StandsFor}
use Rattle.table_laws.specs.Standing.{KeepsStanding}
use Rattle.table_laws.proofs.Contained.{share_place, ranges_place, mail_place, IsMetName}
use Rattle.table_laws.proofs.Exactly.{in_opens, single}
use Rattle.table_laws.proofs.Meets.{entry_recorded, files_written, leases_met, owner_mail, open_watcher_met, range_watcher_met}
use Rattle.table_laws.proofs.KeysThere.{recorded_key}
use Rattle.table_laws.proofs.Touching.{touches}
use Rattle.table_laws.proofs.Deciding.{IsContained, reply_contained}
use Rattle.table_laws.proofs.Chains.{IsFine, adds_no_open}
use Rattle.table_laws.proofs.Calls.{call_contained, call_touches, call_adds_none, call_opens, open_behind}
use Rattle.table_laws.proofs.Breaking.{AreBreaks, OwnersHave, lease_breaks, breaks_touch, breaks_reach, breaks_wait, breaks_open}
use Rattle.table_laws.proofs.HandleEvents.{entry, keeps_standing}

-- ---- the file of the lease

module _ (setup : Setup) (n : ℕ) (k : Chains) (t : Table) (stands : StandsFor setup n k (view t)) (fine : IsFine setup t) (settled : settle t ≡ t)
    (caller : Caller) (info : WorkerInfo) (guid : caller.guid ≡ info.guid) (pid : caller.sid.pid ≡ info.pid) (key : ℕ) where
  abbrev s : AllRecords
  s = records_of setup n k

  -- the lease's name, by the caller and by what is declared
  abbrev name : LeaseName
  name = own_lease caller key

  abbrev declared_name : LeaseName
  declared_name = record { guid = info.guid; key = key }

  name_is : name ≡ declared_name
  name_is = λ i. record { guid = guid i; key = key }

  abbrev pub files : KeyList
  files = files_with n k (record { guid = info.guid; key = key })

  abbrev pub names : KeyList
  names = name_key (record { guid = info.guid; key = key }) ∷ []

  abbrev pub own : KeyList
  own = pid_key info.pid ∷ []

  abbrev pub name_places : List Place
  name_places = all_met (met_by_name n k info (record { guid = info.guid; key = key }))

  -- the files of the leases of the name
  abbrev pub named_file : ℕ → Bool
  named_file file = list_any (λ (l : LeaseRow). l.file == file) ((view t).leases_of (own_lease caller key))

  open_of : (l : LeaseRow) → IsIn l ((view t).leases_of name) → (o : OpenRow) × IsIn o ((view t).opens_of l.file) × (carries name o.lease ≡ true)
  open_of l i =
      let at = in_filter (has_name name) t.leases l i in
      let o = one_of (is_open_under l) t.opens (each (has_open t.opens) t.leases fine.sound.leases_have_opens l at.0) in
      let p = and_parts (o.0.file == l.file) (carries l.name o.0.lease) o.2 in
      (o.0, passes_in (is_of_file l.file) t.opens o.0 o.1 p.0, ap (λ m. carries m o.0.lease) (sym (same_name-eq l.name name at.1)) ∙ p.1)

  pub file_there : (file : ℕ) → named_file file ≡ true → IsIn (file_key setup file) files
  file_there file e =
      let l = one_of (λ (l : LeaseRow). l.file == file) ((view t).leases_of name) e in
      let same : l.0.file ≡ file = eqb-true l.0.file file l.2 in
      let o = open_of l.0 l.1 in
      let r = entry_recorded setup n k t stands.agree fine.sound fine.sets file o.0 (subst (λ g. IsIn o.0 ((view t).opens_of g)) same o.1) in
      passes_in (λ key. stored.has_name declared_name (record_at share_rec n k db.Locking key)) (all_keys n k db.Locking) (file_key setup file)
      (recorded_key n k db.Locking (file_key setup file) share_rec r.0 stands.well_formed.chains.some r.1)
      (ap (stored.has_name declared_name) r.1
      ∙ any_of (λ (x : ShareEntry). carries declared_name x.lease) r.0.entries (entry_of o.0) r.2 (ap (λ m. carries m o.0.lease) (sym name_is) ∙ o.2))

  pub written : (file : ℕ) → named_file file ≡ true → (among (share_place setup file) name_places ≡ true) × (among (ranges_place setup file) name_places ≡ true)
  written file e = files_written setup n k t stands.agree fine.sound fine.sets [] [] files names own file (file_there file e)

  pub met_names : (o : OpenRow) → IsIn o t.opens → named_file o.file ≡ true → IsMetName name_places o.lease
  met_names o i e = leases_met setup n k t stands.agree fine.sound fine.sets [] [] files names own o.file (file_there o.file e) o (in_opens t fine.sound o i)

  own_file : (l : LeaseRow) → IsIn l ((view t).leases_of name) → named_file l.file ≡ true
  own_file l i = any_of (λ (x : LeaseRow). x.file == l.file) ((view t).leases_of name) l i (eq-eqb l.file l.file refl)

  module _ (state : LeaseState) where
    due_named : (l : LeaseRow) → IsIn l (due (view t) caller.moment (look setup (view t) caller (call.Ack key state))) → IsIn l ((view t).leases_of name)
    due_named l i =
        let at = (in_filter (is_due caller.moment) (flat_map (λ x. (view t).leases_of x) (name ∷ [])) l i).0 in
        let x = in_flat_map (λ x. (view t).leases_of x) (name ∷ []) l at in
        one x.0 x.1 x.2
      where
        one : (x : LeaseName) → IsIn x (name ∷ []) → IsIn l ((view t).leases_of x) → IsIn l ((view t).leases_of name)
        one x (inl e) j = subst (λ y. IsIn l ((view t).leases_of y)) (sym e) j
        one x (inr e) j = absurd e

    looked : (l : LeaseRow) → IsIn l (due (view t) caller.moment (look setup (view t) caller (call.Ack key state))) → named_file l.file ≡ true
    looked l i = own_file l (due_named l i)

    abbrev pub behind : Table
    behind = perform_all (expired_by setup (view t) caller (call.Ack key state)) t

    abbrev first_file : List LeaseRow → ℕ
    first_file [] = 0
    first_file (l ∷ ls) = l.file

    of_first : (l : LeaseRow) → IsIn l ((view t).leases_of name) → (l.file == first_file ((view t).leases_of name)) ≡ true
    of_first l i = eq-eqb l.file (first_file ((view t).leases_of name)) (ap first_file (sym (single t fine.sound name l i)))

    all_of_first : list_all (is_of_break (first_file ((view t).leases_of name))) (expired_by setup (view t) caller (call.Ack key state)) ≡ true
    unfolding expired_by
    all_of_first =
        let rows = due (view t) caller.moment (look setup (view t) caller (call.Ack key state)) in
        settles_all (is_of_break (first_file ((view t).leases_of name))) refl (map expires rows)
        (list_all-map (is_of_break (first_file ((view t).leases_of name))) expires rows ∙ all_each (λ l. l.file == first_file ((view t).leases_of name)) rows (λ l i. of_first l (due_named l i)))

    -- a lease of the name behind what expires is of the same file as before
    lease_behind : (l : LeaseRow) → IsIn l ((view behind).leases_of name) → named_file l.file ≡ true
    lease_behind l i =
        let at = in_filter (has_name name) behind.leases l i in
        let old = (from_breaks (first_file ((view t).leases_of name)) (expired_by setup (view t) caller (call.Ack key state)) t all_of_first).leases l at.0 in
        ap named_file old.1.file ∙ own_file old.0 (passes_in (has_name name) t.leases old.0 old.1.there (ap (λ m. Rattle.sid_core.specs.Ids.same_name m name) (sym old.1.name) ∙ at.1))

    abbrev Inside : Decision → Type 0
    Inside d = IsContained setup name_places (records_of setup n k) named_file t d × (list_all adds_no_open d.changes ≡ true)

    replies : (reply : Reply) → Inside (only_reply reply)
    replies reply = (reply_contained setup name_places (records_of setup n k) named_file t reply, refl)

    abbrev IsMet : Sid → Type 0
    IsMet sid = among (mail_place sid.pid) name_places ≡ true

    owners : (l : LeaseRow) → named_file l.file ≡ true → OwnersHave named_file IsMet (file_view l.file (view behind))
    owners l e o j =
        let x = in_map (file_open (lives (view behind))) ((view behind).opens_of l.file) o j in
        let at = in_filter (is_of_file l.file) behind.opens x.0 x.1 in
        subst (λ (y : FileOpen). IsMet y.row.owner) x.2
        (owner_mail setup n k t stands.agree fine.sound fine.sets [] [] files names own l.file (file_there l.file e) x.0
        (subst (λ g. IsIn x.0 ((view t).opens_of g)) (eqb-true x.0.file l.file at.1)
        (in_opens t fine.sound x.0 (open_behind setup name_places (records_of setup n k) named_file t caller (call.Ack key state) written met_names settled looked x.0 at.0))))

    spots_here : (file : ℕ) → named_file file ≡ true → (spot : Spot) → IsIn spot (spots_of file) → (y : Watch) → IsIn y ((view t).watches_on spot) → among (mail_place y.sid.pid) name_places ≡ true
    spots_here file e spot (inl h) y j = open_watcher_met setup n k t stands.agree fine.sound fine.sets [] [] files names own file (file_there file e) y (subst (λ z. IsIn y ((view t).watches_on z)) (sym h) j)
    spots_here file e spot (inr (inl h)) y j = range_watcher_met setup n k t stands.agree fine.sound fine.sets [] [] files names own file (file_there file e) y (subst (λ z. IsIn y ((view t).watches_on z)) (sym h) j)
    spots_here file e spot (inr (inr h)) y j = absurd h

    accepted : (l : LeaseRow) → named_file l.file ≡ true → (again : Breaks) → AreBreaks named_file IsMet again → Inside (accept l state again)
    accepted l e again are = (
      record {
        touched = and_from _ _ e (breaks_touch named_file again.changes are.changes);
        reached = breaks_reach named_file setup name_places again.changes are.changes;
        none_waits = breaks_wait named_file again.changes are.changes;
        posts = are.posts;
        spots = spots_here l.file e;
        waits = tt;
      },
      breaks_open named_file again.changes are.changes,
    )

    acked : (l : LeaseRow) → named_file l.file ≡ true → (breaking : Option Breaking) → Inside (ack_lease caller.moment (file_view l.file (view behind)) l state breaking)
    acked l e None = replies Unsuccessful
    acked l e (Some b) =
        let again = break_lease caller.moment l.file (file_view l.file (view behind)) b.needed.0 (acknowledged l state) in
        cond_both (is_part_of state.0 b.asked.0) (accept l state again) (only_reply RequestNotAccepted) Inside
        (λ _. accepted l e again (lease_breaks named_file IsMet caller.moment l.file b.needed.0 e (file_view l.file (view behind)) (owners l e) (acknowledged l state)))
        (λ _. replies RequestNotAccepted)

    first_acked : (ls : List LeaseRow) → ((l : LeaseRow) → IsIn l ls → named_file l.file ≡ true) → Inside (ack_first caller.moment (view behind) ls state)
    first_acked [] h = replies ObjectNameNotFound
    first_acked (l ∷ ls) h = acked l (h l (inl refl)) l.breaking

    pub ack_inside : Inside (ack_first caller.moment (view behind) ((view behind).leases_of (own_lease caller key)) state)
    ack_inside = first_acked ((view behind).leases_of name) lease_behind

    pub ack_touches : list_all (touches named_file) (outcome setup (view t) caller (call.Ack key state)).changes ≡ true
    unfolding ack
    ack_touches = call_touches setup name_places s named_file t caller (call.Ack key state) written met_names settled looked ack_inside.0

    pub ack_adds_none : list_all adds_no_open (outcome setup (view t) caller (call.Ack key state)).changes ≡ true
    unfolding ack
    ack_adds_none = call_adds_none setup name_places s named_file t caller (call.Ack key state) written met_names settled looked ack_inside.0 ack_inside.1

module _ (setup : Setup) (n : ℕ) (is : IsSetup setup) (before : List Entry) (by seq number : ℕ) (moment : Moment) (key : ℕ) (state : LeaseState) (reply : Reply) where
  pub ack_stands : IsLegal setup (before ++ entry setup n is before by seq number moment (call.Ack key state) reply ∷ [])
      → KeepsStanding setup n before (entry setup n is before by seq number moment (call.Ack key state) reply)
  unfolding ack
  ack_stands legal =
      keeps_standing setup n is before by seq number moment (call.Ack key state) reply legal (λ w. refl)
      (λ k stands fine settled caller info declared pid guid.
      let t = after setup before in
      let ps = name_places setup n k t stands fine settled caller info guid pid key in
      let here = named_file setup n k t stands fine settled caller info guid pid key in
      let h = ack_inside setup n k t stands fine settled caller info guid pid key state in
      record {
        places = ps;
        writes = ap (λ o. all_met (option_map_or (λ caller. met_by_call setup n k caller number (call.Ack key state)) o nothing_met)) declared;
        inside = call_contained setup ps (records_of setup n k) here t caller (call.Ack key state)
            (written setup n k t stands fine settled caller info guid pid key) (met_names setup n k t stands fine settled caller info guid pid key) settled (looked setup n k t stands fine settled caller info guid pid key state) h.0;
        opens = call_opens setup ps (records_of setup n k) here t caller (call.Ack key state)
            (written setup n k t stands fine settled caller info guid pid key) (met_names setup n k t stands fine settled caller info guid pid key) settled (looked setup n k t stands fine settled caller info guid pid key state) h.0 h.1;
      })

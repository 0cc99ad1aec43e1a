-- What `open` writes goes by the chains of its footprint alone. Where the asked lease is of another file and expires, what is left of its
-- record goes by the record.
use Rattle.std.proofs.Common.{◌≡◌, ℕ, Bool, true, false, ◌==◌, ◌&&◌, List, [], ◌∷◌, ◌++◌, Option, Some, refl, sym, ap, ◌∙◌, subst, inl, inr, ◌⊎◌}
use Rattle.std.specs.List.{AllByRecursion, list_all}
use Rattle.std.specs.Option.{option_and_then}
use Rattle.std.proofs.lemmas.Bool.{and_parts, eqb-true}
use Rattle.sid_core.specs.declared.bits.Access.{Access}
use Rattle.sid_core.specs.declared.bits.Share.{Share}
use Rattle.sid_core.specs.declared.call.Call.{Call}
use Rattle.sid_core.specs.declared.call.Call.TheVariants as call
use Rattle.sid_core.specs.declared.call.LeaseAsk.{LeaseAsk}
use Rattle.sid_core.specs.declared.ids.LeaseName.{LeaseName}
use Rattle.sid_core.specs.declared.ids.Moment.{Moment}
use Rattle.sid_core.specs.declared.ids.OpenId.{OpenId}
use Rattle.sid_core.specs.declared.ids.Sid.{Sid}
use Rattle.sid_core.specs.declared.ids.Spot.{Spot}
use Rattle.sid_core.specs.declared.reply.Reply.{Reply}
use Rattle.sid_core.specs.declared.reply.Reply.TheVariants.{Granted}
use Rattle.sid_core.specs.declared.setup.Setup.{Setup}
use Rattle.sid_core.specs.declared.setup.WorkerInfo.{WorkerInfo}
use Rattle.serial_table.specs.ByNumber.{declared_at}
use Rattle.serial_table.specs.declared.rows.OpenRow.{OpenRow}
use Rattle.serial_table.specs.declared.table.Table.{Table}
use Rattle.serial_table.specs.declared.change.Change.{Change}
use Rattle.serial_table.specs.declared.change.Change.TheVariants as c
use Rattle.serial_table.specs.declared.decision.Caller.{Caller}
use Rattle.serial_table.specs.declared.decision.Decision.{Decision}
use Rattle.serial_table.specs.Asked.{asked_of, is_elsewhere}
use Rattle.serial_table.specs.View.{View, view, lives, has_id}
use Rattle.serial_table.specs.File.{file_view}
use Rattle.serial_table.specs.InPlace.{lives_by}
use Rattle.serial_table.specs.Change.{perform_all}
use Rattle.serial_table.specs.Decide.{outcome}
use Rattle.serial_table.specs.Decision.{spots_of, conclude}
use Rattle.serial_table.specs.Expire.{look, due, expired_by}
use Rattle.serial_table.specs.Open.{open_file}
use Rattle.serial_table.specs.Settle.{settle}
use Rattle.serial_table.specs.Sound.{IsSound}
use Rattle.serial_table.proofs.Concluding.{conclude_all}
use Rattle.serial_table.proofs.Expiring.{expired_settled, expired_workers, outcome_table}
use Rattle.serial_table.proofs.Members.{IsIn}
use Rattle.serial_table.proofs.SameIds.{same_id-eq}
use Rattle.serial_table.proofs.Settled.{files_settled}
use Rattle.chain_map.specs.declared.db.Db.TheVariants as db
use Rattle.stored_table.specs.Keys.{open_key, file_key}
use Rattle.stored_table.specs.Places.{Chains, Place, place, among, value_at}
use Rattle.stored_table.specs.Decoded.{AllRecords, records_of}
use Rattle.stored_table.specs.Exact.{exact_lease}
use Rattle.stored_table.specs.Met.{met_by_open, all_met}
use Rattle.stored_table.specs.Move.{added_for, added_by_caller, id_by, added, new_open_record}
use Rattle.stored_table.specs.Stands.{StandsFor}
use Rattle.stored_table.proofs.Telling.{lives_alike}
use Rattle.table_laws.specs.ByFootprint.{IsWrittenByFootprint}
use Rattle.table_laws.specs.Standing.{IsUnwatched, call_entry}
use Rattle.table_laws.proofs.AddedOpens.{IsNewNumber}
use Rattle.table_laws.proofs.Asking.{Asked}
use Rattle.table_laws.proofs.Calls.{changes_are}
use Rattle.table_laws.proofs.CallWrites.{call_written}
use Rattle.table_laws.proofs.Chains.{IsFine}
use Rattle.table_laws.proofs.ExpiredLeases.{behind_sound, expired_alike, shown_behind, lease_behind}
use Rattle.table_laws.proofs.FilesAlike.{ComesAlike, file_alike, file_concluded}
use Rattle.table_laws.proofs.FileWrites.{LeftOrAlike, lease_alike, file_left, new_alike, file_before, records_alike}
use Rattle.table_laws.proofs.FirstKeys.{FirstKeys, keys_of_open}
use Rattle.table_laws.proofs.Footprints.{own_register_same, lease_same}
use Rattle.table_laws.proofs.NewKeys.{unread}
use Rattle.table_laws.proofs.OpenAnswers.{due_alike, open_decided}
use Rattle.table_laws.proofs.OpenEvents.{of_open, is_grant, is_own_open, adds_only, own_open, open_inside, opens_then}
use Rattle.table_laws.proofs.SameFiles.{rows_same}
use Rattle.table_laws.proofs.Showing.{SameLease, lives_same}
use Rattle.table_laws.proofs.Touching.{touches}

-- it may free spots of its file alone
own_spots : (v : View) (caller : Caller) (asked : Asked) (spot : Spot) → IsIn spot (open_file v caller asked).spots → IsIn spot (spots_of asked.file)
unfolding open_file
own_spots v caller asked =
    of_open (λ (d : Decision). (spot : Spot) → IsIn spot d.spots → IsIn spot (spots_of asked.file)) (is_elsewhere v asked) (file_view asked.file v) caller asked (record {
      denied = λ spot i. absurd i;
      wrong = λ spot i. absurd i;
      going = λ spot i. absurd i;
      refused = λ spot i. absurd i;
      waits_first = λ blocker e spot i. i;
      waits = λ blocker e spot i. i;
      plain = λ spot i. i;
      under = λ name spot i. i;
    })

-- the owners of opens that come live in both or in neither, where those of such opens do
owned_alike : (a b : Sid → Bool) (granted : Bool) (own : OpenRow → Bool) → ((row : OpenRow) → own row ≡ true → a row.owner ≡ b row.owner) → (cs : List Change) → list_all (adds_only granted own) cs ≡ true
    → AllByRecursion (ComesAlike a b) cs
owned_alike a b granted own h [] e = tt
owned_alike a b granted own h (change ∷ cs) e =
    let p = and_parts (adds_only granted own change) (list_all (adds_only granted own) cs) e in
    (one change p.0, owned_alike a b granted own h cs p.1)
  where
    one : (change : Change) → adds_only granted own change ≡ true → ComesAlike a b change
    one (c.AddOpen row) e = h row (and_parts granted (own row) e).1
    one _ e = tt

-- ---- the call, at two tables

module _ (setup : Setup) (n by seq number : ℕ) (moment : Moment) (file : ℕ) (access : Access) (share : Share) (lease : Option LeaseAsk) (durable : ℕ) (overwrite delete : Bool) (reply : Reply) where
  abbrev which : Call
  which = call.OpenFile file access share lease durable overwrite delete

  module _ (k j : Chains) (caller : Caller) (info : WorkerInfo) (pid : caller.sid.pid ≡ info.pid) (guid : caller.guid ≡ info.guid) (number_is : caller.number ≡ number)
      (same : (p : Place) → among p (all_met (met_by_open setup n k info number file lease)) ≡ true → value_at n k p ≡ value_at n j p)
      (t u : Table) (stands : StandsFor setup n k (view t)) (stands_other : StandsFor setup n j (view u)) (fine : IsFine setup t) (fine_other : IsFine setup u) (settled : settle t ≡ t) (settled_other : settle u ≡ u)
      (fresh : IsUnwatched setup n k caller.sid caller.number) (fresh_other : IsUnwatched setup n j caller.sid caller.number) where
    abbrev s : AllRecords
    s = records_of setup n k

    abbrev z : AllRecords
    z = records_of setup n j

    abbrev asked : Asked
    asked = asked_of caller file access share lease durable overwrite delete

    abbrev keys : FirstKeys
    keys = keys_of_open setup info number file lease

    abbrev here : ℕ → Bool
    here g = file == g

    abbrev behind : Table → Table
    behind x = perform_all (expired_by setup (view x) caller (call.OpenFile file access share lease durable overwrite delete)) x

    abbrev decision : Table → Decision
    decision x = open_file (view (behind x)) caller (asked_of caller file access share lease durable overwrite delete)

    -- what its decision comes to
    abbrev later : List Change
    later = (conclude (view (behind t)) (decision t)).changes

    -- ---- what expires before it

    rows_alike : due (view t) caller.moment (look setup (view t) caller which) ≡ due (view u) caller.moment (look setup (view u) caller which)
    rows_alike =
        due_alike setup n by seq number moment file access share lease durable overwrite delete reply k j caller info guid same t u stands stands_other fine fine_other settled settled_other

    files_behind : (g : ℕ) → IsIn (file_key setup g) keys.files → file_view g (view (behind t)) ≡ file_view g (view (behind u))
    files_behind g i = shown_behind setup caller which t u rows_alike g (file_before setup n k j t u stands stands_other fine fine_other keys.opens [] keys.files keys.names keys.own same g i)

    -- ---- what it decides

    decided_same : open_file (view (behind t)) caller asked ≡ open_file (view (behind u)) caller asked
    decided_same =
        open_decided setup n by seq number moment file access share lease durable overwrite delete reply k j caller info guid same t u stands stands_other fine fine_other settled settled_other

    -- the owner of its open lives in both or in neither
    owner_alike : (row : OpenRow) → is_own_open info.pid number file row ≡ true → lives (view (behind t)) row.owner ≡ lives (view (behind u)) row.owner
    owner_alike row e =
        let register : s.register row.owner.pid ≡ z.register row.owner.pid =
        subst (λ p. s.register p ≡ z.register p) (sym (own_open info.pid number file row e).owner) (own_register_same setup n k j keys.opens [] keys.files keys.names keys.own same info.pid (inl refl)) in
        ap (λ workers. lives_by workers row.owner) (expired_workers setup t caller which)
        ∙ sym (lives_alike setup s t stands.agree fine.sets fine.sound row.owner)
        ∙ lives_same s z row.owner register
        ∙ lives_alike setup z u stands_other.agree fine_other.sets fine_other.sound row.owner
        ∙ sym (ap (λ workers. lives_by workers row.owner) (expired_workers setup u caller which))

    touched : list_all (touches here) later ≡ true
    touched =
        conclude_all (touches here) (record { comes = λ x. refl; goes = λ sid call. refl; sent = λ post. refl }) refl (view (behind t)) (decision t)
        (open_inside setup n k t stands fine settled caller info pid guid number number_is file lease access share durable overwrite delete fresh).0.touched

    comes : AllByRecursion (ComesAlike (lives (view (behind t))) (lives (view (behind u)))) later
    comes =
        let p = adds_only (is_grant (decision t).reply) (is_own_open info.pid number file) in
        owned_alike (lives (view (behind t))) (lives (view (behind u))) (is_grant (decision t).reply) (is_own_open info.pid number file) owner_alike later
        (conclude_all p (record { comes = λ x. refl; goes = λ sid call. refl; sent = λ post. refl }) refl (view (behind t)) (decision t)
        (open_inside setup n k t stands fine settled caller info pid guid number number_is file lease access share durable overwrite delete fresh).1)

    later_alike : (conclude (view (behind t)) (decision t)).changes ≡ (conclude (view (behind u)) (decision u)).changes
    later_alike =
        let inside = open_inside setup n k t stands fine settled caller info pid guid number number_is file lease access share durable overwrite delete fresh in
        file_concluded here file (decision t) (behind t) (behind u) inside.0.touched
        (owned_alike (lives (view (behind t))) (lives (view (behind u))) (is_grant (decision t).reply) (is_own_open info.pid number file) owner_alike (decision t).changes inside.1)
        (own_spots (view (behind t)) caller asked) (files_behind file (inl refl))
        ∙ ap (λ d. (conclude (view (behind u)) d).changes) decided_same

    changes_alike : (outcome setup (view t) caller which).changes ≡ (outcome setup (view u) caller which).changes
    changes_alike = changes_are setup t caller which ∙ (λ i. expired_alike setup caller which t u rows_alike i ++ later_alike i) ∙ sym (changes_are setup u caller which)

    -- ---- the tables after it

    abbrev end : Table
    end = perform_all later (behind t)

    abbrev end_other : Table
    end_other = perform_all later (behind u)

    end_is : perform_all (outcome setup (view t) caller which).changes t ≡ end
    end_is = outcome_table setup t caller which

    end_other_is : perform_all (outcome setup (view t) caller which).changes u ≡ end_other
    end_other_is = ap (λ cs. perform_all cs u) changes_alike ∙ outcome_table setup u caller which ∙ ap (λ cs. perform_all cs (behind u)) (sym later_alike)

    shown_end : (g : ℕ) → IsIn (file_key setup g) keys.files → file_view g (view end) ≡ file_view g (view end_other)
    shown_end g i = file_alike here g (lives (view (behind t))) (lives (view (behind u))) later (behind t) (behind u) refl refl touched comes (files_behind g i)

    left_or_alike : (g : ℕ) → LeftOrAlike (behind t) (behind u) end end_other g
    left_or_alike g = which_file (file == g) refl
      where
        which_file : (b : Bool) → (file == g) ≡ b → LeftOrAlike (behind t) (behind u) end end_other g
        which_file true e = inl (subst (λ f. file_view f (view end) ≡ file_view f (view end_other)) (eqb-true file g e) (shown_end file (inl refl)))
        which_file false e = inr (
          file_left here g e later (behind t) touched (files_settled (behind t) (expired_settled setup t caller which settled) g),
          file_left here g e later (behind u) touched (files_settled (behind u) (expired_settled setup u caller which settled_other) g),
        )

    lease_end : IsSound end → IsSound end_other → (name : LeaseName) → SameLease s z name → exact_lease (view end) name ≡ exact_lease (view end_other) name
    lease_end sound sound_other name both =
        lease_alike (behind t) (behind u) end end_other (behind_sound setup caller which t fine settled) (behind_sound setup caller which u fine_other settled_other) sound sound_other left_or_alike name
        (lease_behind setup s z t u stands.agree stands_other.agree fine fine_other name both caller which settled settled_other rows_alike)

    -- ---- the open that it makes

    abbrev id : OpenId
    id = record { pid = info.pid; call = number }

    -- the open with its id is new, and of its file
    new_file : (x : Table) → IsNewNumber info.pid number x → (granted : Bool) (o : OpenRow) → has_id id o ≡ true → IsIn o x.opens ⊎ ((granted && is_own_open info.pid number file o) ≡ true) → o.file ≡ file
    new_file x new granted o e (inl i) = let own : o.id ≡ id = same_id-eq o.id id e in absurd (new.ids o i (ap (λ (x : OpenId). x.pid) own) (ap (λ (x : OpenId). x.call) own))
    new_file x new granted o e (inr h) = (own_open info.pid number file o (and_parts granted (is_own_open info.pid number file o) h).1).file_is

    ids_end : IsNewNumber info.pid number t → IsNewNumber info.pid number u → (view end).opens_of_id id ≡ (view end_other).opens_of_id id
    ids_end new new_other =
        rows_same (has_id id) file end end_other
        (λ o i e. new_file t new (is_grant (decision t).reply) o e (opens_then setup n k t stands fine settled caller info pid guid number number_is file lease access share durable overwrite delete fresh o i))
        (λ o i e. new_file u new_other (is_grant (decision u).reply) o e
        (opens_then setup n j u stands_other fine_other settled_other caller info pid guid number number_is file lease access share durable overwrite delete fresh_other o (subst (λ cs. IsIn o (perform_all cs (behind u)).opens) later_alike i)))
        (shown_end file (inl refl))

  -- ---- the open record that it adds

  added_alike : (info : WorkerInfo) → declared_at setup.workers by ≡ Some info → (v w : View) → v.opens_of_id (record { pid = info.pid; call = number }) ≡ w.opens_of_id (record { pid = info.pid; call = number })
      → added setup v (call_entry by seq number moment which reply) ≡ added setup w (call_entry by seq number moment which reply)
  added_alike info declared v w ids = answered reply
    where
      answered : (r : Reply) → added setup v (call_entry by seq number moment which r) ≡ added setup w (call_entry by seq number moment which r)
      answered (Granted state stays) =
          ap (λ o. option_and_then (λ (caller : WorkerInfo). added_by_caller v number (id_by number caller) caller) o) declared
          ∙ ap (added_for (open_key info.pid number)) ids
          ∙ sym (ap (λ o. option_and_then (λ (caller : WorkerInfo). added_by_caller w number (id_by number caller) caller) o) declared)
      answered _ = refl

  -- ---- the law

  pub open_written : IsWrittenByFootprint setup n (call_entry by seq number moment (call.OpenFile file access share lease durable overwrite delete) reply)
  open_written =
      call_written setup n by seq number moment which reply (λ x t info session stands alive. inl refl) (λ x. refl) (λ k j t u caller info b.
      let e = call_entry by seq number moment which reply in
      let key = open_key info.pid number in
      let keys = keys_of_open setup info number file lease in
      let cs = (outcome setup (view t) caller which).changes in
      let x = perform_all cs t in
      let y = perform_all cs u in
      let changes = changes_alike k j caller info b.pid b.guid b.number_is b.same t u b.stands b.stands_other b.fine b.fine_other b.settled b.settled_other b.unwatched b.unwatched_other in
      let x_is = end_is k j caller info b.pid b.guid b.number_is b.same t u b.stands b.stands_other b.fine b.fine_other b.settled b.settled_other b.unwatched b.unwatched_other in
      let y_is = end_other_is k j caller info b.pid b.guid b.number_is b.same t u b.stands b.stands_other b.fine b.fine_other b.settled b.settled_other b.unwatched b.unwatched_other in
      let shown : (g : ℕ) → IsIn (file_key setup g) keys.files → file_view g (view x) ≡ file_view g (view y) =
      λ g i. ap (λ (a : Table). file_view g (view a)) x_is
      ∙ shown_end k j caller info b.pid b.guid b.number_is b.same t u b.stands b.stands_other b.fine b.fine_other b.settled b.settled_other b.unwatched b.unwatched_other g i
      ∙ sym (ap (λ (a : Table). file_view g (view a)) y_is) in
      let ids =
      ap (λ (a : Table). (view a).opens_of_id (record { pid = info.pid; call = number })) x_is
      ∙ ids_end k j caller info b.pid b.guid b.number_is b.same t u b.stands b.stands_other b.fine b.fine_other b.settled b.settled_other b.unwatched b.unwatched_other b.new b.new_other
      ∙ sym (ap (λ (a : Table). (view a).opens_of_id (record { pid = info.pid; call = number })) y_is) in
      record {
        changes = changes;
        exact = λ sound sound_other. records_alike setup n k j t u b.stands b.stands_other b.fine b.fine_other keys.opens [] keys.files keys.names keys.own b.same cs sound sound_other shown (λ name i.
            ap (λ (a : Table). exact_lease (view a) name) x_is
            ∙ lease_end k j caller info b.pid b.guid b.number_is b.same t u b.stands b.stands_other b.fine b.fine_other b.settled b.settled_other b.unwatched b.unwatched_other
            (subst IsSound x_is sound) (subst IsSound y_is sound_other) name (lease_same setup n k j keys.opens [] keys.files keys.names keys.own b.same name i)
            ∙ sym (ap (λ (a : Table). exact_lease (view a) name) y_is));
        opens = λ q i.
            subst (λ q. new_open_record (view x) (added setup (view x) e) (place db.Opens q) (value_at n k (place db.Opens q)) ≡ new_open_record (view y) (added setup (view y) e) (place db.Opens q) (value_at n j (place db.Opens q))) (only key q i)
            (ap (λ a. new_open_record (view x) a (place db.Opens key) (value_at n k (place db.Opens key))) (added_alike info b.declared (view x) (view y) ids)
            ∙ new_alike (view x) (view y) (added setup (view y) e) (place db.Opens key) (value_at n k (place db.Opens key)) (value_at n j (place db.Opens key))
            (unread (view x) (value_at n k (place db.Opens key)) b.free ∙ sym (unread (view y) (value_at n j (place db.Opens key)) b.free_other)));
      })
    where
      only : (key q : List ℕ) → IsIn q (key ∷ []) → key ≡ q
      only key q (inl same) = same
      only key q (inr none) = absurd none

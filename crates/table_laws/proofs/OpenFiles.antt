-- Along a history each open record names the file of its open, if there is one, and no record names an open that is yet to come.
use Rattle.std.proofs.Common.{◌≡◌, ℕ, suc, ◌<◌, ◌≤◌, Bool, true, false, cond, ◌==◌, ◌&&◌, List, [], ◌∷◌, ◌++◌, Option, Some, None, refl, sym, ap, ◌∙◌, subst, arith, inl, inr, ◌⊎◌}
use Rattle.std.specs.Prelude.{IfSome}
use Rattle.std.specs.List.{AllByRecursion, IsDistinct}
use Rattle.std.specs.Option.{option_map, option_map_or, option_and_then}
use Rattle.sid_core.specs.declared.call.Call.{Call}
use Rattle.sid_core.specs.declared.call.Call.TheVariants as call
use Rattle.sid_core.specs.declared.entry.Entry.{Entry}
use Rattle.sid_core.specs.declared.entry.Event.{Event}
use Rattle.sid_core.specs.declared.entry.Event.TheVariants.{Called, Died, Tidied}
use Rattle.sid_core.specs.declared.ids.Moment.{Moment}
use Rattle.sid_core.specs.declared.ids.OpenId.{OpenId}
use Rattle.sid_core.specs.declared.reply.Reply.{Reply}
use Rattle.sid_core.specs.declared.reply.Reply.TheVariants.{Granted}
use Rattle.sid_core.specs.declared.setup.Setup.{Setup}
use Rattle.sid_core.specs.declared.setup.WorkerInfo.{WorkerInfo}
use Rattle.sid_core.specs.Setup.{IsSetup}
use Rattle.sid_core.specs.Ids.{same_id}
use Rattle.serial_table.specs.declared.rows.OpenRow.{OpenRow}
use Rattle.serial_table.specs.declared.table.Table.{Table}
use Rattle.serial_table.specs.declared.decision.Caller.{Caller}
use Rattle.serial_table.specs.ByNumber.{declared_at}
use Rattle.serial_table.specs.View.{View, view, has_id}
use Rattle.serial_table.specs.Change.{perform_all}
use Rattle.serial_table.specs.Decision.{Outcome, conclude}
use Rattle.serial_table.specs.Decide.{outcome}
use Rattle.serial_table.specs.Session.{end_of_session}
use Rattle.serial_table.specs.Step.{caller_of}
use Rattle.serial_table.specs.History.{start, after, after_event, after_entry, IsLegal, numbers_of}
use Rattle.serial_table.specs.Sound.{have_same_id}
use Rattle.serial_table.proofs.Alike.{after_all-append}
use Rattle.serial_table.proofs.Along.{Rises, rises_at}
use Rattle.serial_table.proofs.Callers.{is_caller_of}
use Rattle.serial_table.proofs.Members.{IsIn, all_by, in_filter, one_in, some_same}
use Rattle.serial_table.proofs.SameIds.{same_id-eq, same_id-refl, eqb-flip}
use Rattle.serial_table.proofs.Soundness.{IsReached, start_reached}
use Rattle.chain_map.specs.declared.db.Db.TheVariants as db
use Rattle.record_codec.specs.declared.open_rec.OpenRec.{OpenRec}
use Rattle.record_codec.specs.OpenRec.{open_rec}
use Rattle.record_codec.proofs.OpenExact.{open_exact}
use Rattle.stored_table.specs.Keys.{is_key, open_key}
use Rattle.stored_table.specs.Places.{Chains, Place, HasChains, place, among, same_place, value_at}
use Rattle.stored_table.specs.Decoded.{decoded}
use Rattle.stored_table.specs.Exact.{always, is_empty}
use Rattle.stored_table.specs.Histories.{moved_by}
use Rattle.stored_table.specs.Met.{record_at}
use Rattle.stored_table.specs.Move.{AddedOpen, added_for, added_by_caller, added_by_call, added, if_open, still_open, new_open_record, move, places_written, first_chains}
use Rattle.stored_table.specs.Stands.{AddedHasSpelling, IsWellFormed}
use Rattle.stored_table.proofs.Bridging.{decoded_spelled, new_by}
use Rattle.stored_table.proofs.Keeping.{well_formed-move}
use Rattle.stored_table.proofs.Starting.{first_chains_stand}
use Rattle.stored_table.proofs.Writing.{value_at-write_all}
use Rattle.table_laws.specs.Standing.{NameTheirFiles}
use Rattle.table_laws.proofs.Lists.{append_nothing}
use Rattle.table_laws.proofs.FirstRecords.{no_open}
use Rattle.table_laws.proofs.HistoryEvents.{carried, next_step}
use Rattle.table_laws.proofs.OwnOpens.{IsOldOrOwn, called_opens, concluded_opens, ending_passes}

id_flip : (p q : OpenId) → same_id p q ≡ same_id q p
id_flip p q = λ i. eqb-flip p.pid q.pid i && eqb-flip p.call q.call i

-- ---- the record that is added

-- it is of an open
abbrev IsOfOpen : View → AddedOpen → Type 0
IsOfOpen v a = (id : OpenId) × (o : OpenRow) × IsIn o (v.opens_of_id id) × (a.value ≡ record { id = o.id; file = o.file })

of_first : (v : View) (id : OpenId) (key : List ℕ) (os : List OpenRow) → v.opens_of_id id ≡ os → IfSome (added_for key os) (IsOfOpen v)
of_first v id key [] e = tt
of_first v id key (o ∷ os) e = (id, o, subst (IsIn o) (sym e) (inl refl), refl)

of_caller : (v : View) (number : ℕ) (id : WorkerInfo → OpenId) (caller : Option WorkerInfo) → IfSome (option_and_then (λ caller. added_by_caller v number (id caller) caller) caller) (IsOfOpen v)
of_caller v number id None = tt
of_caller v number id (Some caller) = of_first v (id caller) (open_key caller.pid number) (v.opens_of_id (id caller)) refl

of_named : (v : View) (number made : ℕ) (caller named : Option WorkerInfo)
    → IfSome (option_and_then (λ (named : WorkerInfo). option_and_then (added_by_caller v number (record { pid = named.pid; call = made })) caller) named) (IsOfOpen v)
of_named v number made caller None = tt
of_named v number made caller (Some named) = of_caller v number (λ _. record { pid = named.pid; call = made }) caller

by_call : (setup : Setup) (v : View) (by number : ℕ) (which : Call) (reply : Reply) → IfSome (added_by_call setup v by number which reply) (IsOfOpen v)
by_call setup v by number (call.OpenFile file access share lease durable overwrite delete) (Granted state stays) = of_caller v number (λ caller. record { pid = caller.pid; call = number }) (declared_at setup.workers by)
by_call setup v by number (call.Reconnect worker made key) (Granted state stays) = of_named v number made (declared_at setup.workers by) (declared_at setup.workers worker)
by_call setup v by number _ _ = tt

by_event : (setup : Setup) (v : View) (by seq : ℕ) (what : Event) → IfSome (added setup v (record { by = by; seq = seq; what = what })) (IsOfOpen v)
by_event setup v by seq (Called number moment which reply) = by_call setup v by number which reply
by_event setup v by seq (Died worker moment) = tt
by_event setup v by seq (Tidied chain) = tt

-- ---- an open record behind an entry

-- it was there before, or it is the one that is added
abbrev IsAdded : Option AddedOpen → OpenRec → Type 0
IsAdded None r = ⊥
IsAdded (Some a) r = a.value ≡ r

abbrev IsOldOrAdded : Option AddedOpen → Option OpenRec → OpenRec → Type 0
IsOldOrAdded a old r = (old ≡ Some r) ⊎ IsAdded a r

still : (v : View) (bytes : List ℕ) (o : Option OpenRec) (r : OpenRec) → decoded open_rec (option_and_then (if_open v bytes) o) ≡ Some r → decoded open_rec (Some bytes) ≡ Some r
still v bytes None r e = absurd cc
still v bytes (Some x) r e = by (is_empty (v.opens_of_id x.id)) e
  where
    by : (b : Bool) → decoded open_rec (cond b None (Some bytes)) ≡ Some r → decoded open_rec (Some bytes) ≡ Some r
    by true e = absurd cc
    by false e = e

still_was : (v : View) (value : Option (List ℕ)) (r : OpenRec) → decoded open_rec (still_open v value) ≡ Some r → decoded open_rec value ≡ Some r
still_was v None r e = e
still_was v (Some bytes) r e = still v bytes (decoded open_rec (Some bytes)) r e

new_is : (v : View) (a : Option AddedOpen) (p : Place) (value : Option (List ℕ)) (r : OpenRec) → AddedHasSpelling a → decoded open_rec (new_open_record v a p value) ≡ Some r → IsOldOrAdded a (decoded open_rec value) r
new_is v None p value r valid e = inl (still_was v value r e)
new_is v (Some a) p value r valid e = by (is_key db.Opens a.key && same_place (place db.Opens a.key) p) e
  where
    by : (b : Bool) → decoded open_rec (cond b (Some (open_rec.spell (1, a.value))) (still_open v value)) ≡ Some r → IsOldOrAdded (Some a) (decoded open_rec value) r
    by true e = inr (some_same a.value r (sym (decoded_spelled open_rec open_exact (always 1) (Some a.value) valid) ∙ e))
    by false e = inl (still_was v value r e)

module _ (setup : Setup) (n : ℕ) (k : Chains) (e : Entry) (v : View) (h : HasChains n k) (valid : AddedHasSpelling (added setup v e)) (key : List ℕ) where
  moved_is : (r : OpenRec) → record_at open_rec n (move setup n k e v) db.Opens key ≡ Some r → IsOldOrAdded (added setup v e) (record_at open_rec n k db.Opens key) r
  moved_is r is =
      let p = place db.Opens key in
      by (among p (places_written setup n k e)) (ap (decoded open_rec) (sym (value_at-write_all n (new_by setup n k e v) (places_written setup n k e) k p h)) ∙ is)
    where
      by : (b : Bool) → decoded open_rec (cond b (new_open_record v (added setup v e) (place db.Opens key) (value_at n k (place db.Opens key))) (value_at n k (place db.Opens key))) ≡ Some r
          → IsOldOrAdded (added setup v e) (record_at open_rec n k db.Opens key) r
      by true d = new_is v (added setup v e) (place db.Opens key) (value_at n k (place db.Opens key)) r valid d
      by false d = inl d

-- ---- an open behind an entry

-- it was there before, or it has a number that is yet to come
abbrev IsOldOrAbove : (ℕ → ℕ) → Table → OpenRow → Type 0
IsOldOrAbove low t o = ((x : OpenRow) × IsIn x t.opens × (x.id ≡ o.id) × (x.file ≡ o.file)) ⊎ (low o.id.pid < o.id.call)

module _ (setup : Setup) (low : ℕ → ℕ) (t : Table) (o : OpenRow) where
  above : (own : OpenId) → low own.pid < own.call → IsOldOrOwn own t o → IsOldOrAbove low t o
  above own h (inl k) = inl k
  above own h (inr e) = inr (subst (λ (id : OpenId). low id.pid < id.call) (sym (same_id-eq o.id own e)) h)

  called : (by number : ℕ) (moment : Moment) (which : Call) (q : Option Caller) → caller_of setup (view t) by number moment ≡ q
      → ((caller : Caller) → caller_of setup (view t) by number moment ≡ Some caller → low caller.sid.pid < caller.number)
      → IsIn o (perform_all (option_map_or (λ (done : Outcome). done.changes) (option_map (λ caller. outcome setup (view t) caller which) q) []) t).opens → IsOldOrAbove low t o
  called by number moment which None is h i = inl (o, i, refl, refl)
  called by number moment which (Some caller) is h i = above (record { pid = caller.sid.pid; call = caller.number }) (h caller is) (called_opens caller setup t which o i)

  died : (moment : Moment) (q : Option Caller)
      → IsIn o (perform_all (option_map_or (λ (done : Outcome). done.changes) (option_map (λ (caller : Caller). conclude (view t) (end_of_session (view t) caller.sid moment [])) q) []) t).opens → IsOldOrAbove low t o
  died moment None i = inl (o, i, refl, refl)
  died moment (Some caller) i =
      let next : Caller = record caller { number = suc (low caller.sid.pid) } in
      above (record { pid = next.sid.pid; call = next.number }) (omega arith)
      (concluded_opens next (end_of_session (view t) caller.sid moment []) t (ending_passes next (view t) caller.sid moment [] refl) o i)

  event_opens : (by seq : ℕ) (what : Event) (rest : List Entry) → Rises setup low (record { by = by; seq = seq; what = what } ∷ rest) → IsIn o (after_event setup t by what).opens → IsOldOrAbove low t o
  event_opens by seq (Called number moment which reply) rest rises i =
      called by number moment which (caller_of setup (view t) by number moment) refl
      (λ caller from.
      let of = is_caller_of setup t by number moment caller from in
      let high : low of.info.pid < number = rises_at (low of.info.pid) by number (numbers_of by rest) (by == by) refl (rises by of.info of.declared) in
      subst (λ m. low caller.sid.pid < m) (sym of.number_is) (subst (λ pid. low pid < number) (sym of.pid) high)) i
  event_opens by seq (Died worker moment) rest rises i = died moment (caller_of setup (view t) worker 0 moment) i
  event_opens by seq (Tidied chain) rest rises i = inl (o, i, refl, refl)

-- ---- along a history

-- with the last numbers of calls, by pid
record FilesNamed (setup : Setup) (n : ℕ) (done rest : List Entry) (k : Chains) : Type 0 where
  low : ℕ → ℕ
  reached : IsReached low (after setup done)
  rises : Rises setup low rest
  formed : IsWellFormed n k
  -- The id of each open record is of a call that was made.
  known : (key : List ℕ) (r : OpenRec) → record_at open_rec n k db.Opens key ≡ Some r → r.id.call ≤ low r.id.pid
  named : (key : List ℕ) (r : OpenRec) → record_at open_rec n k db.Opens key ≡ Some r → (o : OpenRow) → IsIn o (after setup done).opens → o.id ≡ r.id → o.file ≡ r.file

module _ (setup : Setup) (n : ℕ) (is : IsSetup setup) where
  files_step : (done : List Entry) (e : Entry) (rest : List Entry) (k : Chains) → IsLegal setup (done ++ e ∷ rest) → FilesNamed setup n done (e ∷ rest) k
      → FilesNamed setup n (done ++ e ∷ []) rest (move setup n k e (view (after setup (done ++ e ∷ []))))
  files_step done e rest k legal q =
      let u = after setup (done ++ e ∷ []) in
      let next = next_step setup n is q.low done e rest legal q.reached q.rises in
      let moved_from : (key : List ℕ) (r : OpenRec) → record_at open_rec n (move setup n k e (view u)) db.Opens key ≡ Some r → IsOldOrAdded (added setup (view u) e) (record_at open_rec n k db.Opens key) r =
      λ key r is. moved_is setup n k e (view u) q.formed.chains next.added_spelled key r is in
      record {
        low = next.high;
        reached = next.reached;
        rises = next.rises;
        formed = well_formed-move setup n k e (view u) q.formed next.spelled next.added_spelled;
        known = λ key r is. now_known next.high next.more next.reached key r (moved_from key r is);
        named = λ key r is o i same. now_named next.fine.sound.rows.ids_differ (after_all-append setup (start setup) done e) key r (moved_from key r is) o i same;
      }
    where
      u : Table
      u = after setup (done ++ e ∷ [])

      open_of : (a : Option AddedOpen) (r : OpenRec) → IfSome a (IsOfOpen (view (after setup (done ++ e ∷ [])))) → IsAdded a r
          → (x : OpenRow) × IsIn x (after setup (done ++ e ∷ [])).opens × (record { id = x.id; file = x.file } ≡ r)
      open_of None r of is = absurd is
      open_of (Some a) r of is = (of.1, (in_filter (has_id of.0) u.opens of.1 of.2).0, sym of.3 ∙ is)

      added_open : (r : OpenRec) → IsAdded (added setup (view (after setup (done ++ e ∷ []))) e) r → (x : OpenRow) × IsIn x (after setup (done ++ e ∷ [])).opens × (record { id = x.id; file = x.file } ≡ r)
      added_open r is = open_of (added setup (view u) e) r (by_event setup (view u) e.by e.seq e.what) is

      now_known : (high : ℕ → ℕ) → ((pid : ℕ) → q.low pid ≤ high pid) → IsReached high (after setup (done ++ e ∷ [])) → (key : List ℕ) (r : OpenRec)
          → IsOldOrAdded (added setup (view (after setup (done ++ e ∷ []))) e) (record_at open_rec n k db.Opens key) r → r.id.call ≤ high r.id.pid
      now_known high more reached key r (inl old) = let a : r.id.call ≤ q.low r.id.pid = q.known key r old in let b : q.low r.id.pid ≤ high r.id.pid = more r.id.pid in omega (arith, a, b)
      now_known high more reached key r (inr new) =
          let x = added_open r new in
          subst (λ (id : OpenId). id.call ≤ high id.pid) (ap (λ (y : OpenRec). y.id) x.2) (reached.numbered.opens x.0 x.1).id

      old_named : (key : List ℕ) (r : OpenRec) → record_at open_rec n k db.Opens key ≡ Some r → (o : OpenRow) → o.id ≡ r.id → IsOldOrAbove q.low (after setup done) o → o.file ≡ r.file
      old_named key r old o same (inl (x, i, id, file)) = sym file ∙ q.named key r old x i (id ∙ same)
      old_named key r old o same (inr high) =
          let low : o.id.call ≤ q.low o.id.pid = subst (λ (id : OpenId). id.call ≤ q.low id.pid) (sym same) (q.known key r old) in absurd (omega (arith, low, high))

      now_named : IsDistinct have_same_id (after setup (done ++ e ∷ [])).opens → after setup (done ++ e ∷ []) ≡ after_entry setup (after setup done) e → (key : List ℕ) (r : OpenRec)
          → IsOldOrAdded (added setup (view (after setup (done ++ e ∷ []))) e) (record_at open_rec n k db.Opens key) r
          → (o : OpenRow) → IsIn o (after setup (done ++ e ∷ [])).opens → o.id ≡ r.id → o.file ≡ r.file
      now_named differ after_is key r (inl old) o i same =
          old_named key r old o same (event_opens setup q.low (after setup done) o e.by e.seq e.what rest q.rises (subst (λ (y : Table). IsIn o y.opens) after_is i))
      now_named differ after_is key r (inr new) o i same =
          let x = added_open r new in
          let id : o.id ≡ x.0.id = same ∙ sym (ap (λ (y : OpenRec). y.id) x.2) in
          let one : o ≡ x.0 = one_in have_same_id (λ p q. id_flip p.id q.id) u.opens differ o x.0 i x.1 (ap (λ m. same_id m x.0.id) id ∙ same_id-refl x.0.id) in
          ap (λ (y : OpenRow). y.file) one ∙ ap (λ (y : OpenRec). y.file) x.2

  files_first : 1 ≤ n → (history : List Entry) → IsLegal setup history → FilesNamed setup n [] history (first_chains setup n)
  files_first some history legal = record {
    low = λ pid. 0;
    reached = start_reached setup is;
    rises = λ worker info d. legal.rising worker;
    formed = (first_chains_stand setup n is some).well_formed;
    known = λ key r e. absurd (none r (sym (no_open setup n is some key) ∙ e));
    named = λ key r e. absurd (none r (sym (no_open setup n is some key) ∙ e));
  }
    where
      none : (r : OpenRec) → ◌≡◌ {A = Option OpenRec} None (Some r) → ⊥
      none r e = cc

  pub name_their_files : (history : List Entry) → 1 ≤ n → IsLegal setup history → NameTheirFiles n (moved_by setup n history) (view (after setup history))
  name_their_files history some legal key =
      let whole : IsLegal setup (history ++ []) = subst (IsLegal setup) (sym (append_nothing history)) legal in
      let q = carried setup n (FilesNamed setup n) files_step [] history [] (first_chains setup n) whole (files_first some (history ++ []) whole) in
      by q (record_at open_rec n (moved_by setup n history) db.Opens key) refl
    where
      by : FilesNamed setup n history [] (moved_by setup n history) → (o : Option OpenRec) → record_at open_rec n (moved_by setup n history) db.Opens key ≡ o
          → IfSome o (λ r. AllByRecursion (λ (x : OpenRow). x.file ≡ r.file) ((view (after setup history)).opens_of_id r.id))
      by q None e = tt
      by q (Some r) e =
          all_by (λ (x : OpenRow). x.file ≡ r.file) ((view (after setup history)).opens_of_id r.id) (λ x i.
          let at = in_filter (has_id r.id) (after setup history).opens x i in
          q.named key r e x at.0 (same_id-eq x.id r.id at.1))

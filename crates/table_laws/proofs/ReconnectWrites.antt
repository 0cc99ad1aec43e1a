-- What `reconnect` writes goes by the chains of its footprint alone.
use Rattle.std.proofs.Common.{◌≡◌, ℕ, true, [], ◌∷◌, ◌++◌, Option, Some, None, refl, sym, ap, ◌∙◌, subst, inl}
use Rattle.std.specs.List.{AllByRecursion}
use Rattle.std.specs.Option.{option_map_or, option_and_then}
use Rattle.sid_core.specs.declared.call.Call.{Call}
use Rattle.sid_core.specs.declared.call.Call.TheVariants as call
use Rattle.sid_core.specs.declared.ids.Moment.{Moment}
use Rattle.sid_core.specs.declared.reply.Reply.{Reply}
use Rattle.sid_core.specs.declared.reply.Reply.TheVariants.{Granted}
use Rattle.sid_core.specs.declared.setup.Setup.{Setup}
use Rattle.sid_core.specs.declared.setup.WorkerInfo.{WorkerInfo}
use Rattle.serial_table.specs.ByNumber.{declared_at}
use Rattle.serial_table.specs.declared.table.Table.{Table}
use Rattle.serial_table.specs.View.{View, view}
use Rattle.serial_table.specs.File.{file_view}
use Rattle.serial_table.specs.Change.{perform_all}
use Rattle.serial_table.specs.Decide.{outcome}
use Rattle.serial_table.specs.History.{start, after}
use Rattle.serial_table.specs.Sound.{IsSound}
use Rattle.serial_table.proofs.Along.{legal_before}
use Rattle.serial_table.proofs.Members.{IsIn}
use Rattle.chain_map.specs.declared.db.Db.TheVariants as db
use Rattle.stored_table.specs.Keys.{open_key, pid_key, file_key}
use Rattle.stored_table.specs.Places.{Chains, Place, place, among, chain_at, value_at}
use Rattle.stored_table.specs.Exact.{exact_lease}
use Rattle.stored_table.specs.Footprint.{footprint}
use Rattle.stored_table.specs.Histories.{moved_by}
use Rattle.stored_table.specs.Met.{Met, met_by_call, met_by_reconnect, all_met, nothing_met}
use Rattle.stored_table.specs.Move.{added_for, added_by_caller, added, still_open, new_open_record, move}
use Rattle.stored_table.proofs.Telling.{not_declared}
use Rattle.table_laws.specs.ByFootprint.{IsWrittenByFootprint}
use Rattle.table_laws.specs.Standing.{call_entry}
use Rattle.table_laws.proofs.AddedOpens.{IsNewNumber}
use Rattle.table_laws.proofs.CallWrites.{WritesAlike, call_written}
use Rattle.table_laws.proofs.FileWrites.{new_alike, records_alike}
use Rattle.table_laws.proofs.FirstKeys.{keys_of_reconnect}
use Rattle.table_laws.proofs.Footprints.{lease_same}
use Rattle.table_laws.proofs.ReconnectAnswers.{changes_alike, shown_end, lease_end, ids_end, still_end}

-- ---- the open record that it adds

added_alike : (setup : Setup) (by seq number : ℕ) (moment : Moment) (worker made key : ℕ) (named : WorkerInfo) → declared_at setup.workers worker ≡ Some named → (v w : View)
    → v.opens_of_id (record { pid = named.pid; call = made }) ≡ w.opens_of_id (record { pid = named.pid; call = made }) → (reply : Reply)
    → added setup v (call_entry by seq number moment (call.Reconnect worker made key) reply) ≡ added setup w (call_entry by seq number moment (call.Reconnect worker made key) reply)
added_alike setup by seq number moment worker made key named declared v w same (Granted state stays) =
    ap (λ o. option_and_then (λ (x : WorkerInfo). option_and_then (added_by_caller v number (record { pid = x.pid; call = made })) (declared_at setup.workers by)) o) declared
    ∙ (λ i. option_and_then (λ (caller : WorkerInfo). added_for (open_key caller.pid number) (same i)) (declared_at setup.workers by))
    ∙ sym (ap (λ o. option_and_then (λ (x : WorkerInfo). option_and_then (added_by_caller w number (record { pid = x.pid; call = made })) (declared_at setup.workers by)) o) declared)
added_alike setup by seq number moment worker made key named declared v w same _ = refl

-- ---- the law

module _ (setup : Setup) (n by seq number : ℕ) (moment : Moment) (worker made key : ℕ) (reply : Reply) where
  abbrev reconnecting : Call
  reconnecting = call.Reconnect worker made key

  -- where the named worker is declared
  declared_written : (named : WorkerInfo) → declared_at setup.workers worker ≡ Some named → IsWrittenByFootprint setup n (call_entry by seq number moment reconnecting reply)
  declared_written named declared =
      let meets : (x : Chains) (info : WorkerInfo) → met_by_call setup n x info number reconnecting ≡ met_by_reconnect setup n x info number made key named =
      λ x info. ap (λ o. option_map_or (met_by_reconnect setup n x info number made key) o nothing_met) declared in
      call_written setup n by seq number moment reconnecting reply (λ x t info session stands alive. subst (λ (m : Met). IsIn (pid_key info.pid) m.register) (sym (meets x info)) (inl refl)) (λ x. refl) (λ k j t u caller info b.
      let same : (p : Place) → among p (all_met (met_by_reconnect setup n k info number made key named)) ≡ true → value_at n k p ≡ value_at n j p = λ p h. b.same p (ap (λ m. among p (all_met m)) (meets k info) ∙ h) in
      let keys = keys_of_reconnect setup n k info number made key named in
      let handle : (x : Table) → IsNewNumber info.pid number x → IsNewNumber caller.sid.pid caller.number x =
      λ x new. subst (λ pid. IsNewNumber pid caller.number x) (sym b.pid) (subst (λ m. IsNewNumber info.pid m x) (sym b.number_is) new) in
      let changes = changes_alike setup n k j t u b.stands b.stands_other b.fine b.fine_other caller info named number worker made key declared same b.settled b.settled_other in
      let cs = (outcome setup (view t) caller reconnecting).changes in
      let same_end : perform_all (outcome setup (view u) caller reconnecting).changes u ≡ perform_all cs u = ap (λ ds. perform_all ds u) (sym changes) in
      let shown : (file : ℕ) → IsIn (file_key setup file) keys.files → file_view file (view (perform_all cs t)) ≡ file_view file (view (perform_all cs u)) =
      λ file i. shown_end setup n k j t u b.stands b.stands_other b.fine b.fine_other caller info named number worker made key declared same b.settled b.settled_other (handle t b.new) (handle u b.new_other) b.alive b.alive_other file i
      ∙ ap (λ (x : Table). file_view file (view x)) same_end in
      let ids =
      ids_end setup n k j t u b.stands b.stands_other b.fine b.fine_other caller info named number worker made key declared same b.settled b.settled_other (handle t b.new) (handle u b.new_other) b.alive b.alive_other
      ∙ ap (λ (x : Table). (view x).opens_of_id (record { pid = named.pid; call = made })) same_end in
      subst (λ (m : Met). WritesAlike setup n (call_entry by seq number moment reconnecting reply) m k j t u cs (outcome setup (view u) caller reconnecting).changes) (sym (meets k info)) (record {
        changes = changes;
        exact = λ sound sound_other. records_alike setup n k j t u b.stands b.stands_other b.fine b.fine_other keys.opens [] keys.files keys.names keys.own same cs sound sound_other shown (λ name i.
            lease_end setup n k j t u b.stands b.stands_other b.fine b.fine_other caller info named number worker made key declared same b.settled b.settled_other (handle t b.new) (handle u b.new_other) b.alive b.alive_other
            sound (subst IsSound (sym same_end) sound_other) name (lease_same setup n k j keys.opens [] keys.files keys.names keys.own same name i)
            ∙ ap (λ (x : Table). exact_lease (view x) name) same_end);
        opens = λ x i.
            ap (λ a. new_open_record (view (perform_all cs t)) a (place db.Opens x) (value_at n k (place db.Opens x))) (added_alike setup by seq number moment worker made key named declared (view (perform_all cs t)) (view (perform_all cs u)) ids reply)
            ∙ new_alike (view (perform_all cs t)) (view (perform_all cs u)) (added setup (view (perform_all cs u)) (call_entry by seq number moment reconnecting reply)) (place db.Opens x) (value_at n k (place db.Opens x)) (value_at n j (place db.Opens x))
            (still_end setup n k j t u b.stands b.stands_other b.fine b.fine_other caller info named number worker made key declared same b.settled b.settled_other (handle t b.new) (handle u b.new_other) b.alive b.alive_other
            b.names b.names_other b.free b.free_other x i
            ∙ ap (λ (y : Table). still_open (view y) (value_at n j (place db.Opens x))) same_end);
      }))

  pub reconnect_written : IsWrittenByFootprint setup n (call_entry by seq number moment (call.Reconnect worker made key) reply)
  reconnect_written before other is some legal legal_other agree = by_named (declared_at setup.workers worker) refl
    where
      by_named : (o : Option WorkerInfo) → declared_at setup.workers worker ≡ o
          → AllByRecursion (λ c. chain_at (move setup n (moved_by setup n before) (call_entry by seq number moment reconnecting reply) (view (after setup (before ++ call_entry by seq number moment reconnecting reply ∷ [])))) c
          ≡ chain_at (move setup n (moved_by setup n other) (call_entry by seq number moment reconnecting reply) (view (after setup (other ++ call_entry by seq number moment reconnecting reply ∷ [])))) c)
          (footprint setup n (moved_by setup n before) (call_entry by seq number moment reconnecting reply))
      by_named None none = absurd (not_declared setup.workers worker none (legal_before setup (start setup) before [] (call_entry by seq number moment reconnecting reply) legal.entries).1.in_sets.0)
      by_named (Some named) declared = declared_written named declared before other is some legal legal_other agree

-- Along a history each open record stands under the pid of a worker and the number of a call that it made. So none stands under the number of
-- a call that comes next.
use Rattle.std.proofs.Common.{◌≡◌, ℕ, ◌<◌, ◌≤◌, ◌^◌, Bool, true, false, cond, ◌&&◌, List, [], ◌∷◌, ◌++◌, drop, Option, Some, None, refl, sym, ap, ◌∙◌, subst, arith, inl, inr, ◌⊎◌}
use Rattle.std.specs.Prelude.{IfSome, nat_lt}
use Rattle.std.specs.Option.{option_and_then}
use Rattle.std.proofs.lemmas.Bool.{and_parts, eq-eqb, ltb-true}
use Rattle.byteorder.specs.Endian.{big_bytes, big_number}
use Rattle.sid_core.specs.declared.call.Call.{Call}
use Rattle.sid_core.specs.declared.call.Call.TheVariants as call
use Rattle.sid_core.specs.declared.entry.Entry.{Entry}
use Rattle.sid_core.specs.declared.entry.Event.{Event}
use Rattle.sid_core.specs.declared.entry.Event.TheVariants.{Called, Died, Tidied}
use Rattle.sid_core.specs.declared.ids.Moment.{Moment}
use Rattle.sid_core.specs.declared.ids.OpenId.{OpenId}
use Rattle.sid_core.specs.declared.reply.Reply.{Reply}
use Rattle.sid_core.specs.declared.reply.Reply.TheVariants.{Granted}
use Rattle.sid_core.specs.declared.setup.Setup.{Setup}
use Rattle.sid_core.specs.declared.setup.WorkerInfo.{WorkerInfo}
use Rattle.sid_core.specs.Counting.{RisesAbove}
use Rattle.sid_core.specs.Setup.{IsSetup, IsWorker}
use Rattle.serial_table.specs.declared.rows.OpenRow.{OpenRow}
use Rattle.serial_table.specs.ByNumber.{declared_at}
use Rattle.serial_table.specs.View.{View, view}
use Rattle.serial_table.specs.History.{start, after, IsLegal, call_number, own_number, numbers_of}
use Rattle.serial_table.proofs.Along.{legal_before}
use Rattle.serial_table.proofs.Bounds.{declared_within}
use Rattle.serial_table.proofs.Callers.{one_worker}
use Rattle.serial_table.proofs.Members.{IsIn, all_of, old_in}
use Rattle.chain_map.specs.declared.db.Db.TheVariants as db
use Rattle.record_codec.specs.OpenRec.{open_rec}
use Rattle.stored_table.specs.Keys.{fitting, is_key, open_key}
use Rattle.stored_table.specs.Places.{Chains, Place, HasChains, place, among, same_place, value_at}
use Rattle.stored_table.specs.Decoded.{decoded}
use Rattle.stored_table.specs.Histories.{moved_by}
use Rattle.stored_table.specs.Met.{record_at}
use Rattle.stored_table.specs.Move.{AddedOpen, added_for, added_by_caller, added_by_call, added_by, added, is_by_old, if_open, still_open, new_open_record, new_at, move, places_written, first_chains}
use Rattle.stored_table.proofs.Bridging.{new_by}
use Rattle.stored_table.proofs.Starting.{first_chains_stand}
use Rattle.stored_table.proofs.Writing.{has_chains-write_all, value_at-write_all, place_is}
use Rattle.table_laws.specs.Standing.{call_entry}
use Rattle.table_laws.proofs.AddedOpens.{is_open_key, key_pid, key_number}
use Rattle.table_laws.proofs.Chains.{flat_joined}
use Rattle.table_laws.proofs.FirstRecords.{no_open}
use Rattle.table_laws.proofs.HistoryEvents.{carried}
use Rattle.table_laws.proofs.Meets.{later_in, flat_mapped_in}

-- ---- the key of the record that is added

-- it is of a worker and of the number of its call
abbrev IsOfCall : Setup → ℕ → Event → AddedOpen → Type 0
IsOfCall setup by what a = (info : WorkerInfo) × (number : ℕ) × (declared_at setup.workers by ≡ Some info) × IsIn number (call_number what) × (a.key ≡ open_key info.pid number)

under_key : (key : List ℕ) (os : List OpenRow) → IfSome (added_for key os) (λ a. a.key ≡ key)
under_key key [] = tt
under_key key (o ∷ os) = refl

module _ (setup : Setup) (v : View) (by number : ℕ) (what : Event) (within : IsIn number (call_number what)) where
  of_worker : (info : WorkerInfo) → declared_at setup.workers by ≡ Some info → (q : Option AddedOpen) → IfSome q (λ a. a.key ≡ open_key info.pid number) → IfSome q (IsOfCall setup by what)
  of_worker info is None e = tt
  of_worker info is (Some a) e = (info, number, is, within, e)

  of_caller : (id : WorkerInfo → OpenId) (caller : Option WorkerInfo) → declared_at setup.workers by ≡ caller → IfSome (option_and_then (λ caller. added_by_caller v number (id caller) caller) caller) (IsOfCall setup by what)
  of_caller id None is = tt
  of_caller id (Some caller) is = of_worker caller is (added_by_caller v number (id caller) caller) (under_key (open_key caller.pid number) (v.opens_of_id (id caller)))

  of_named : (made : ℕ) (named : Option WorkerInfo)
      → IfSome (option_and_then (λ (named : WorkerInfo). option_and_then (added_by_caller v number (record { pid = named.pid; call = made })) (declared_at setup.workers by)) named) (IsOfCall setup by what)
  of_named made None = tt
  of_named made (Some named) = of_caller (λ _. record { pid = named.pid; call = made }) (declared_at setup.workers by) refl

added_of_call : (setup : Setup) (v : View) (by number : ℕ) (moment : Moment) (which : Call) (reply : Reply) → IfSome (added_by_call setup v by number which reply) (IsOfCall setup by (Called number moment which reply))
added_of_call setup v by number moment (call.OpenFile file access share lease durable overwrite delete) (Granted state stays) =
    of_caller setup v by number (Called number moment (call.OpenFile file access share lease durable overwrite delete) (Granted state stays)) (inl refl) (λ caller. record { pid = caller.pid; call = number }) (declared_at setup.workers by) refl
added_of_call setup v by number moment (call.Reconnect worker made key) (Granted state stays) =
    of_named setup v by number (Called number moment (call.Reconnect worker made key) (Granted state stays)) (inl refl) made (declared_at setup.workers worker)
added_of_call setup v by number moment _ _ = tt

added_of_event : (setup : Setup) (v : View) (by : ℕ) (what : Event) → IfSome (added_by setup v by what) (IsOfCall setup by what)
added_of_event setup v by (Called number moment which reply) = added_of_call setup v by number moment which reply
added_of_event setup v by (Died worker moment) = tt
added_of_event setup v by (Tidied chain) = tt

-- ---- along a history

-- the key of a worker and of a number that it used
abbrev IsUsed : Setup → List Entry → List ℕ → Type 0
IsUsed setup done key = (by : ℕ) × (info : WorkerInfo) × (number : ℕ) × (declared_at setup.workers by ≡ Some info) × IsIn number (numbers_of by done) × (key ≡ open_key info.pid number)

used_before : (setup : Setup) (done : List Entry) (e : Entry) (key : List ℕ) → IsUsed setup done key → IsUsed setup (done ++ e ∷ []) key
used_before setup done e key (by, info, number, is, within, same) =
    (by, info, number, is, subst (IsIn number) (sym (flat_joined (own_number by) done (e ∷ []))) (old_in (numbers_of by done) (numbers_of by (e ∷ [])) number within), same)

used_now : (setup : Setup) (done : List Entry) (e : Entry) (key : List ℕ) (a : AddedOpen) → a.key ≡ key → IsOfCall setup e.by e.what a → IsUsed setup (done ++ e ∷ []) key
used_now setup done e key a same (info, number, is, within, own) = (
  e.by,
  info,
  number,
  is,
  subst (IsIn number) (sym (flat_joined (own_number e.by) done (e ∷ [])))
      (later_in (numbers_of e.by done) (numbers_of e.by (e ∷ [])) number
      (flat_mapped_in (own_number e.by) (e ∷ []) e number (inl refl) (subst (λ b. IsIn number (cond b (call_number e.what) [])) (sym (eq-eqb e.by e.by refl)) within))),
  sym same ∙ own,
)

pub unread : (v : View) (value : Option (List ℕ)) → decoded open_rec value ≡ None → still_open v value ≡ None
unread v None e = refl
unread v (Some bytes) e = ap (option_and_then (if_open v bytes)) e

-- no record is there, or its key is used
abbrev IsUsedOrFree : Setup → List Entry → List ℕ → Option (List ℕ) → Type 0
IsUsedOrFree setup done key value = (decoded open_rec value ≡ None) ⊎ IsUsed setup done key

module _ (setup : Setup) (done : List Entry) (e : Entry) (v : View) (key : List ℕ) (value : Option (List ℕ)) (was : IsUsedOrFree setup done key value) where
  as_before : IsUsedOrFree setup (done ++ e ∷ []) key value
  as_before = by was
    where
      by : IsUsedOrFree setup done key value → IsUsedOrFree setup (done ++ e ∷ []) key value
      by (inl none) = inl none
      by (inr used) = inr (used_before setup done e key used)

  still_used : IsUsedOrFree setup (done ++ e ∷ []) key (still_open v value)
  still_used = by was
    where
      by : IsUsedOrFree setup done key value → IsUsedOrFree setup (done ++ e ∷ []) key (still_open v value)
      by (inl none) = inl (ap (decoded open_rec) (unread v value none))
      by (inr used) = inr (used_before setup done e key used)

  new_used : (q : Option AddedOpen) → IfSome q (IsOfCall setup e.by e.what) → IsUsedOrFree setup (done ++ e ∷ []) key (new_open_record v q (place db.Opens key) value)
  new_used None h = still_used
  new_used (Some a) h = by (is_key db.Opens a.key && same_place (place db.Opens a.key) (place db.Opens key)) refl
    where
      by : (b : Bool) → (is_key db.Opens a.key && same_place (place db.Opens a.key) (place db.Opens key)) ≡ b → IsUsedOrFree setup (done ++ e ∷ []) key (cond b (Some (open_rec.spell (1, a.value))) (still_open v value))
      by true is = inr (used_now setup done e key a (ap (λ (p : Place). p.key) (place_is (place db.Opens a.key) (place db.Opens key) (and_parts (is_key db.Opens a.key) _ is).1)) h)
      by false is = still_used

record Keyed (setup : Setup) (n : ℕ) (done rest : List Entry) (k : Chains) : Type 0 where
  chains : HasChains n k
  keys : (key : List ℕ) → IsUsedOrFree setup done key (value_at n k (place db.Opens key))

keyed_step : (setup : Setup) (n : ℕ) (done : List Entry) (e : Entry) (rest : List Entry) (k : Chains) → IsLegal setup (done ++ e ∷ rest) → Keyed setup n done (e ∷ rest) k
    → Keyed setup n (done ++ e ∷ []) rest (move setup n k e (view (after setup (done ++ e ∷ []))))
keyed_step setup n done e rest k legal q =
    let v = view (after setup (done ++ e ∷ [])) in
    record {
      chains = has_chains-write_all n (new_at setup n k (is_by_old setup e) v (added setup v e)) (places_written setup n k e) k q.chains;
      keys = λ key.
          let p = place db.Opens key in
          subst (IsUsedOrFree setup (done ++ e ∷ []) key) (sym (value_at-write_all n (new_by setup n k e v) (places_written setup n k e) k p q.chains))
          (by key (among p (places_written setup n k e)));
    }
  where
    v : View
    v = view (after setup (done ++ e ∷ []))

    by : (key : List ℕ) (b : Bool)
        → IsUsedOrFree setup (done ++ e ∷ []) key (cond b (new_open_record (view (after setup (done ++ e ∷ []))) (added setup (view (after setup (done ++ e ∷ []))) e) (place db.Opens key) (value_at n k (place db.Opens key))) (value_at n k (place db.Opens key)))
    by key true = new_used setup done e v key (value_at n k (place db.Opens key)) (q.keys key) (added setup v e) (added_of_event setup v e.by e.what)
    by key false = as_before setup done e v key (value_at n k (place db.Opens key)) (q.keys key)

-- ---- the next call

-- numbers that rise above others are not among them
last_above : (low : ℕ) (xs : List ℕ) (number : ℕ) → RisesAbove low (xs ++ number ∷ []) → low < number
last_above low [] number h = h.0
last_above low (x ∷ xs) number h = let a : low < x = h.0 in let b : x < number = last_above x xs number h.1 in omega (arith, a, b)

all_below : (low : ℕ) (xs : List ℕ) (number x : ℕ) → RisesAbove low (xs ++ number ∷ []) → IsIn x xs → x < number
all_below low [] number x h i = absurd i
all_below low (y ∷ xs) number x h (inl e) = subst (λ m. m < number) e (last_above y xs number h.1)
all_below low (y ∷ xs) number x h (inr i) = all_below y xs number x h.1 i

fits : (pid number : ℕ) → is_key db.Opens (open_key pid number) ≡ true → (pid < 2 ^ 32) × (number < 2 ^ 32)
fits pid number e = by (nat_lt pid (2 ^ 32) && nat_lt number (2 ^ 32)) refl e
  where
    by : (b : Bool) → (nat_lt pid (2 ^ 32) && nat_lt number (2 ^ 32)) ≡ b → is_key db.Opens (fitting b (big_bytes 4 pid ++ big_bytes 4 number)) ≡ true → (pid < 2 ^ 32) × (number < 2 ^ 32)
    by true is e = let p = and_parts (nat_lt pid (2 ^ 32)) (nat_lt number (2 ^ 32)) is in (ltb-true pid (2 ^ 32) p.0, ltb-true number (2 ^ 32) p.1)
    by false is e = absurd cc

module _ (setup : Setup) (n : ℕ) (is : IsSetup setup) (some : 1 ≤ n) (before : List Entry) (by seq number : ℕ) (moment : Moment) (which : Call) (reply : Reply)
    (legal : IsLegal setup (before ++ call_entry by seq number moment which reply ∷ [])) (info : WorkerInfo) (declared : declared_at setup.workers by ≡ Some info) where
  pub none_at_next : record_at open_rec n (moved_by setup n before) db.Opens (open_key info.pid number) ≡ None
  none_at_next = from (q.keys (open_key info.pid number))
    where
      e : Entry
      e = call_entry by seq number moment which reply

      q : Keyed setup n before (call_entry by seq number moment which reply ∷ []) (moved_by setup n before)
      q =
          carried setup n (Keyed setup n) (keyed_step setup n) [] before (call_entry by seq number moment which reply ∷ []) (first_chains setup n) legal
          (record { chains = (first_chains_stand setup n is some).well_formed.chains; keys = λ key. inl (no_open setup n is some key) })

      number_fits : number < 2 ^ 32
      number_fits = let low = (legal_before setup (start setup) before [] (call_entry by seq number moment which reply) legal.entries).1.numbered in omega (arith, low.1)

      pid_fits : info.pid < 2 ^ 32
      pid_fits = (all_of IsWorker setup.workers is.workers info (declared_within setup.workers by info declared)).pid.1

      rises : RisesAbove 0 (numbers_of by before ++ number ∷ [])
      rises = subst (RisesAbove 0) (flat_joined (own_number by) before (call_entry by seq number moment which reply ∷ []) ∙ ap (λ b. numbers_of by before ++ (cond b (number ∷ []) [] ++ [])) (eq-eqb by by refl)) (legal.rising by)

      from : IsUsedOrFree setup before (open_key info.pid number) (value_at n (moved_by setup n before) (place db.Opens (open_key info.pid number))) → record_at open_rec n (moved_by setup n before) db.Opens (open_key info.pid number) ≡ None
      from (inl none) = none
      from (inr (x, other, m, of, within, same)) =
          let f = fits other.pid m (ap (is_key db.Opens) (sym same) ∙ is_open_key info.pid number pid_fits number_fits) in
          let pid : other.pid ≡ info.pid = sym (key_pid other.pid m f.0 f.1) ∙ ap (big_number 4) (sym same) ∙ key_pid info.pid number pid_fits number_fits in
          let own : m ≡ number = sym (key_number other.pid m f.0 f.1) ∙ ap (λ key. big_number 4 (drop 4 key)) (sym same) ∙ key_number info.pid number pid_fits number_fits in
          let worker : x ≡ by = one_worker setup.workers x by other info is.pids_differ of declared pid in
          let less : m < number = all_below 0 (numbers_of by before) number m rises (subst (λ w. IsIn m (numbers_of w before)) worker within) in
          absurd (omega (arith, own, less))

-- `ack` is legal by the chains of its footprint alone, and changes the table by them alone.
use Rattle.std.proofs.Common.{◌≡◌, ℕ, Bool, true, ◌==◌, List, [], ◌∷◌, ◌++◌, map, filter, Option, Some, None, refl, sym, ap, ◌∙◌, subst, inl}
use Rattle.std.specs.List.{list_all}
use Rattle.std.specs.Option.{option_map_or, option_and_then}
use Rattle.std.proofs.lemmas.Bool.{and_parts, cond_both, eq-eqb}
use Rattle.sid_core.specs.declared.bits.LeaseState.{LeaseState}
use Rattle.sid_core.specs.declared.call.Call.{Call}
use Rattle.sid_core.specs.declared.call.Call.TheVariants as call
use Rattle.sid_core.specs.declared.ids.LeaseName.{LeaseName}
use Rattle.sid_core.specs.declared.ids.Moment.{Moment}
use Rattle.sid_core.specs.declared.ids.Spot.{Spot}
use Rattle.sid_core.specs.declared.reply.Reply.{Reply}
use Rattle.sid_core.specs.declared.reply.Reply.TheVariants.{RequestNotAccepted}
use Rattle.sid_core.specs.Values.{is_part_of}
use Rattle.sid_core.specs.declared.setup.Setup.{Setup}
use Rattle.sid_core.specs.declared.setup.WorkerInfo.{WorkerInfo}
use Rattle.serial_table.specs.declared.rows.OpenRow.{OpenRow}
use Rattle.serial_table.specs.declared.rows.LeaseRow.{LeaseRow}
use Rattle.serial_table.specs.declared.rows.Breaking.{Breaking}
use Rattle.serial_table.specs.declared.table.Table.{Table}
use Rattle.serial_table.specs.declared.decision.Caller.{Caller}
use Rattle.serial_table.specs.declared.decision.Decision.{Decision}
use Rattle.serial_table.specs.Ack.{acknowledged, accept, ack_lease, ack_first, ack}
use Rattle.serial_table.specs.Break.{break_lease}
use Rattle.serial_table.specs.Decision.{only_reply, spots_of, conclude}
use Rattle.serial_table.specs.Decide.{outcome}
use Rattle.serial_table.specs.Asked.{own_lease}
use Rattle.serial_table.specs.View.{View, view, lives, carries, has_name, is_of_file}
use Rattle.serial_table.specs.File.{FileView, file_view}
use Rattle.serial_table.specs.Change.{perform_all}
use Rattle.serial_table.specs.Expire.{look, due, is_due, expires, then_settles, expired_by}
use Rattle.serial_table.specs.Local.{perform_all_in_file}
use Rattle.serial_table.specs.Sound.{IsSound, has_open, is_open_under}
use Rattle.serial_table.proofs.SameIds.{same_name-eq}
use Rattle.serial_table.proofs.Members.{IsIn, any_of, each, in_filter, one_of, passes_in}
use Rattle.chain_map.specs.declared.db.Db.TheVariants as db
use Rattle.record_codec.specs.declared.share_rec.ShareEntry.{ShareEntry}
use Rattle.record_codec.specs.declared.lease_rec.LeaseRef.{LeaseRef}
use Rattle.record_codec.specs.Counts.{settled_lease}
use Rattle.record_codec.specs.ShareRec.{share_rec}
use Rattle.stored_table.specs.Keys.{pid_key, name_key, file_key}
use Rattle.stored_table.specs.Places.{Chains, Place, among, value_at}
use Rattle.stored_table.specs.Decoded.{AllRecords, deciding, records_of}
use Rattle.record_rows.specs.Rows.{entry_of, ref_of, lease_row}
use Rattle.stored_table.specs.Exact.{lease_with, opens_under, lease_of, exact_lease}
use Rattle.stored_table.specs.Met.{KeyList, all_keys, record_at, files_with, met_by_name, all_met}
use Rattle.stored_table.specs.Met as stored
use Rattle.stored_table.specs.Stands.{AgreeWith, StandsFor}
use Rattle.stored_table.proofs.Telling.{file_tells}
use Rattle.table_laws.specs.Standing.{call_entry}
use Rattle.table_laws.specs.ByFootprint.{IsLegalByFootprint}
use Rattle.table_laws.proofs.Lists.{append_nothing, filter_every}
use Rattle.table_laws.proofs.Calls.{changes_are}
use Rattle.table_laws.proofs.Chains.{IsFine, adds_no_open}
use Rattle.table_laws.proofs.FilesAlike.{none_comes, file_concluded}
use Rattle.table_laws.proofs.Keywise.{woken_alike, concluded_alike}
use Rattle.table_laws.proofs.Touching.{touches}
use Rattle.table_laws.proofs.Exactly.{single, exact_is, IsUnder}
use Rattle.table_laws.proofs.KeysThere.{recorded_key}
use Rattle.table_laws.proofs.Meets.{entry_recorded}
use Rattle.table_laws.proofs.Showing.{SameLease, settled_same, shown_same}
use Rattle.table_laws.proofs.Footprints.{own_register_same, asked_lease_same, file_same}
use Rattle.table_laws.proofs.SameFiles.{view_behind, from_behind}
use Rattle.table_laws.proofs.Answering.{legal_if}
use Rattle.table_laws.proofs.PlainAnswers.{at_met, by_declared}

-- ---- leases by their exact records

lease_back : (name : LeaseName) (l : LeaseRow) (breaking : Option Breaking) (refs : List LeaseRef) → l.name ≡ name → l.breaking ≡ breaking → lease_row name (lease_with l breaking refs) ≡ l
lease_back name l None refs named is = λ i. record { name = sym named i; file = l.file; held = l.held; breaking = sym is i }
lease_back name l (Some b) refs named is = λ i. record { name = sym named i; file = l.file; held = l.held; breaking = sym is i }

-- an open under a lease of the name
pub open_under : (t : Table) (sound : IsSound t) (name : LeaseName) (l : LeaseRow) → IsIn l ((view t).leases_of name) → (o : OpenRow) × IsUnder t sound name l o
open_under t sound name l i =
    let at = in_filter (has_name name) t.leases l i in
    let o = one_of (is_open_under l) t.opens (each (has_open t.opens) t.leases sound.leases_have_opens l at.0) in
    let p = and_parts (o.0.file == l.file) (carries l.name o.0.lease) o.2 in
    (o.0, record { lease = i; row = passes_in (is_of_file l.file) t.opens o.0 o.1 p.0; carried = ap (λ m. carries m o.0.lease) (sym (same_name-eq l.name name at.1)) ∙ p.1 })

-- the leases of a name are told by the exact record
leases_told : (t : Table) → IsSound t → (name : LeaseName) → (view t).leases_of name ≡ option_map_or (λ r. lease_row name r ∷ []) (exact_lease (view t) name) []
leases_told t sound name = by ((view t).leases_of name) refl
  where
    by : (ls : List LeaseRow) → (view t).leases_of name ≡ ls → (view t).leases_of name ≡ option_map_or (λ r. lease_row name r ∷ []) (exact_lease (view t) name) []
    by [] e = e ∙ sym (ap (λ ls. option_map_or (λ r. lease_row name r ∷ []) (lease_of (view t) name ls) []) e)
    by (l ∷ ls) e =
        let i : IsIn l ((view t).leases_of name) = subst (IsIn l) (sym e) (inl refl) in
        let o = open_under t sound name l i in
        single t sound name l i
        ∙ ap (λ x. x ∷ []) (sym (lease_back name l l.breaking (map ref_of (opens_under (view t) name l.file)) (same_name-eq l.name name (in_filter (has_name name) t.leases l i).1) refl))
        ∙ sym (ap (λ x. option_map_or (λ r. lease_row name r ∷ []) x []) (exact_is t sound name l o.0 o.1))

-- so they are the same where the lease's record is, with the register records of its owners
pub leases_same : (setup : Setup) (s z : AllRecords) (t u : Table) → AgreeWith setup s (view t) → AgreeWith setup z (view u) → IsSound t → IsSound u → (name : LeaseName) → SameLease s z name
    → (view t).leases_of name ≡ (view u).leases_of name
leases_same setup s z t u agree agree_other sound sound_other name same =
    leases_told t sound name
    ∙ ap (λ o. option_map_or (λ r. lease_row name r ∷ []) o [])
    (sym (agree.leases name) ∙ settled_same s z (s.leases name) same.1 ∙ ap (option_and_then (settled_lease (deciding z))) same.0 ∙ agree_other.leases name)
    ∙ sym (leases_told u sound_other name)

-- ---- what `ack` goes by

acked_same : (caller : Caller) (key : ℕ) (state : LeaseState) (v w : View) → v.leases_of (own_lease caller key) ≡ w.leases_of (own_lease caller key)
    → ((l : LeaseRow) → IsIn l (v.leases_of (own_lease caller key)) → file_view l.file v ≡ file_view l.file w) → ack v caller key state ≡ ack w caller key state
unfolding ack
acked_same caller key state v w e h = by (v.leases_of (own_lease caller key)) h ∙ ap (λ ls. ack_first caller.moment w ls state) e
  where
    by : (ls : List LeaseRow) → ((l : LeaseRow) → IsIn l ls → file_view l.file v ≡ file_view l.file w) → ack_first caller.moment v ls state ≡ ack_first caller.moment w ls state
    by [] h = refl
    by (l ∷ ls) h = ap (λ f. ack_lease caller.moment f l state l.breaking) (h l (inl refl))

-- each spot that it may free is of the file of a lease of the name
acked_spots : (caller : Caller) (key : ℕ) (state : LeaseState) (v : View) (spot : Spot) → IsIn spot (ack v caller key state).spots → (l : LeaseRow) × IsIn l (v.leases_of (own_lease caller key)) × IsIn spot (spots_of l.file)
unfolding ack
acked_spots caller key state v = by (v.leases_of (own_lease caller key))
  where
    of_lease : (f : FileView) (l : LeaseRow) (breaking : Option Breaking) (spot : Spot) → IsIn spot (ack_lease caller.moment f l state breaking).spots → IsIn spot (spots_of l.file)
    of_lease f l None = λ spot i. absurd i
    of_lease f l (Some b) =
        cond_both (is_part_of state.0 b.asked.0) (accept l state (break_lease caller.moment l.file f b.needed.0 (acknowledged l state))) (only_reply RequestNotAccepted)
        (λ (d : Decision). (spot : Spot) → IsIn spot d.spots → IsIn spot (spots_of l.file)) (λ _ spot i. i) (λ _ spot i. absurd i)

    by : (ls : List LeaseRow) (spot : Spot) → IsIn spot (ack_first caller.moment v ls state).spots → (l : LeaseRow) × IsIn l ls × IsIn spot (spots_of l.file)
    by [] spot i = absurd i
    by (l ∷ ls) spot i = (l, inl refl, of_lease (file_view l.file v) l l.breaking spot i)

module _ (setup : Setup) (caller : Caller) (key : ℕ) (state : LeaseState) where
  abbrev name : LeaseName
  name = own_lease caller key

  abbrev which : Call
  which = call.Ack key state

  abbrev behind : Table → Table
  behind t = perform_all (expired_by setup (view t) caller (call.Ack key state)) t

  due_named : (t : Table) (l : LeaseRow) → IsIn l (due (view t) caller.moment (look setup (view t) caller which)) → IsIn l ((view t).leases_of name)
  due_named t l i =
      let at = (in_filter (is_due caller.moment) ((view t).leases_of name ++ []) l i).0 in
      subst (IsIn l) (append_nothing ((view t).leases_of name)) at

  -- where the name has no lease, nothing expires
  none_behind : (t : Table) → (view t).leases_of name ≡ [] → (view (behind t)).leases_of name ≡ []
  unfolding expired_by
  none_behind t none = ap (λ ls. (view (perform_all (then_settles (map expires (filter (is_due caller.moment) (ls ++ [])))) t)).leases_of name) none ∙ none

  expired_same : (t u : Table) → (view t).leases_of name ≡ (view u).leases_of name → expired_by setup (view t) caller which ≡ expired_by setup (view u) caller which
  unfolding expired_by
  expired_same t u e = ap (λ ls. then_settles (map expires (filter (is_due caller.moment) (ls ++ [])))) e

  -- the first lease is of the file
  module _ (t : Table) (sound : IsSound t) (first : LeaseRow) (ls : List LeaseRow) (is : (view t).leases_of name ≡ first ∷ ls) where
    of_first : (l : LeaseRow) → IsIn l ((view t).leases_of name) → l.file ≡ first.file
    of_first l i = ap (λ (x : LeaseRow). x.file) (heads l first (sym (single t sound name l i) ∙ single t sound name first (subst (IsIn first) (sym is) (inl refl))))
      where
        heads : (a b : LeaseRow) → ◌≡◌ {A = List LeaseRow} (a ∷ []) (b ∷ []) → a ≡ b
        heads a b e = cc

    due_of_first : (l : LeaseRow) → IsIn l (due (view t) caller.moment (look setup (view t) caller which)) → l.file ≡ first.file
    due_of_first l i = of_first l (due_named t l i)

    behind_of_first : (l : LeaseRow) → IsIn l ((view (behind t)).leases_of name) → l.file ≡ first.file
    behind_of_first l i =
        let at = in_filter (has_name name) (behind t).leases l i in
        let old = (from_behind setup caller first.file which t due_of_first).leases l at.0 in
        old.1.file ∙ of_first old.0 (passes_in (has_name name) t.leases old.0 old.1.there (ap (λ m. Rattle.sid_core.specs.Ids.same_name m name) (sym old.1.name) ∙ at.1))

    -- so behind it the file shows its leases
    behind_leases : (view (behind t)).leases_of name ≡ (file_view first.file (view (behind t))).leases name
    behind_leases = sym (filter_every (λ (l : LeaseRow). l.file == first.file) ((view (behind t)).leases_of name) (λ l i. eq-eqb l.file first.file (behind_of_first l i)))

    file_behind : file_view first.file (view (behind t)) ≡ perform_all_in_file (expired_by setup (view t) caller which) (file_view first.file (view t))
    file_behind = view_behind setup caller first.file which t due_of_first

  module _ (t u : Table) (sound : IsSound t) (sound_other : IsSound u) (same : (view t).leases_of (own_lease caller key) ≡ (view u).leases_of (own_lease caller key))
      (shows : (l : LeaseRow) → IsIn l ((view t).leases_of (own_lease caller key)) → file_view l.file (view t) ≡ file_view l.file (view u)) where
    files_behind : (first : LeaseRow) (ls : List LeaseRow) → (view t).leases_of name ≡ first ∷ ls → file_view first.file (view (behind t)) ≡ file_view first.file (view (behind u))
    files_behind first ls is =
        file_behind t sound first ls is
        ∙ (λ i. perform_all_in_file (expired_same t u same i) (shows first (subst (IsIn first) (sym is) (inl refl)) i))
        ∙ sym (file_behind u sound_other first ls (sym same ∙ is))

    decided_by : (ls : List LeaseRow) → (view t).leases_of name ≡ ls → ack (view (behind t)) caller key state ≡ ack (view (behind u)) caller key state
    decided_by [] is =
        let a = none_behind t is in
        let b = none_behind u (sym same ∙ is) in
        acked_same caller key state (view (behind t)) (view (behind u)) (a ∙ sym b) (λ l i. absurd (subst (IsIn l) a i))
    decided_by (first ∷ ls) is =
        acked_same caller key state (view (behind t)) (view (behind u))
        (behind_leases t sound first ls is ∙ ap (λ (f : FileView). f.leases name) (files_behind first ls is) ∙ sym (behind_leases u sound_other first ls (sym same ∙ is)))
        (λ l i. subst (λ g. file_view g (view (behind t)) ≡ file_view g (view (behind u))) (sym (behind_of_first t sound first ls is l i)) (files_behind first ls is))

    -- ---- what it comes to, where it adds no open

    module _ (here : ℕ → Bool) (touched : list_all (touches here) (ack (view (behind t)) caller key state).changes ≡ true) (none : list_all adds_no_open (ack (view (behind t)) caller key state).changes ≡ true) where
      comes_to : (ls : List LeaseRow) → (view t).leases_of name ≡ ls → (conclude (view (behind t)) (ack (view (behind t)) caller key state)).changes ≡ (conclude (view (behind u)) (ack (view (behind t)) caller key state)).changes
      comes_to [] is =
          let d = ack (view (behind t)) caller key state in
          let no_spot : (spot : Spot) → IsIn spot d.spots → ⊥ = λ spot i. let l = acked_spots caller key state (view (behind t)) spot i in subst (IsIn l.0) (none_behind t is) l.1 in
          concluded_alike (view (behind t)) (view (behind u)) d (woken_alike (view (behind t)) (view (behind u)) d (λ spot i. absurd (no_spot spot i)) (λ spot i. absurd (no_spot spot i)))
      comes_to (first ∷ ls) is =
          let d = ack (view (behind t)) caller key state in
          file_concluded here first.file d (behind t) (behind u) touched (none_comes (lives (view (behind t))) (lives (view (behind u))) d.changes none)
          (λ spot i. let l = acked_spots caller key state (view (behind t)) spot i in subst (λ f. IsIn spot (spots_of f)) (behind_of_first t sound first ls is l.0 l.1) l.2)
          (files_behind first ls is)

      pub ack_changes_same : (outcome setup (view t) caller which).changes ≡ (outcome setup (view u) caller which).changes
      ack_changes_same =
          changes_are setup t caller which
          ∙ (λ i. expired_same t u same i ++ comes_to ((view t).leases_of name) refl i)
          ∙ ap (λ (d : Decision). expired_by setup (view u) caller which ++ (conclude (view (behind u)) d).changes) (decided_by ((view t).leases_of name) refl)
          ∙ sym (changes_are setup u caller which)

-- ---- the law

module _ (setup : Setup) (n by seq number : ℕ) (moment : Moment) (key : ℕ) (state : LeaseState) (reply : Reply) where
  module _ (k j : Chains) (caller : Caller) (info : WorkerInfo) (guid : caller.guid ≡ info.guid)
      (same : (p : Place) → among p (all_met (met_by_name n k info (record { guid = info.guid; key = key }))) ≡ true → value_at n k p ≡ value_at n j p)
      (t u : Table) (stands : StandsFor setup n k (view t)) (stands_other : StandsFor setup n j (view u)) (fine : IsFine setup t) (fine_other : IsFine setup u) where
    abbrev declared : LeaseName
    declared = record { guid = info.guid; key = key }

    name_is : own_lease caller key ≡ declared
    name_is = λ i. record { guid = guid i; key = key }

    abbrev files : KeyList
    files = files_with n k (record { guid = info.guid; key = key })

    abbrev names : KeyList
    names = name_key (record { guid = info.guid; key = key }) ∷ []

    abbrev own : KeyList
    own = pid_key info.pid ∷ []

    pub own_leases_same : (view t).leases_of (own_lease caller key) ≡ (view u).leases_of (own_lease caller key)
    own_leases_same =
        ap (view t).leases_of name_is
        ∙ leases_same setup (records_of setup n k) (records_of setup n j) t u stands.agree stands_other.agree fine.sound fine_other.sound declared (asked_lease_same setup n k j [] [] files names own same declared (inl refl))
        ∙ sym (ap (view u).leases_of name_is)

    file_there : (l : LeaseRow) → IsIn l ((view t).leases_of (own_lease caller key)) → IsIn (file_key setup l.file) files
    file_there l i =
        let o = open_under t fine.sound (own_lease caller key) l i in
        let r = entry_recorded setup n k t stands.agree fine.sound fine.sets l.file o.0 o.1.row in
        passes_in (λ key. stored.has_name declared (record_at share_rec n k db.Locking key)) (all_keys n k db.Locking) (file_key setup l.file)
        (recorded_key n k db.Locking (file_key setup l.file) share_rec r.0 stands.well_formed.chains.some r.1)
        (ap (stored.has_name declared) r.1
        ∙ any_of (λ (x : ShareEntry). carries declared x.lease) r.0.entries (entry_of o.0) r.2 (ap (λ m. carries m o.0.lease) (sym name_is) ∙ o.1.carried))

    pub files_shown : (l : LeaseRow) → IsIn l ((view t).leases_of (own_lease caller key)) → file_view l.file (view t) ≡ file_view l.file (view u)
    files_shown l i =
        sym (file_tells setup (records_of setup n k) t stands.agree fine.sets fine.sound l.file)
        ∙ shown_same (records_of setup n k) (records_of setup n j) l.file (file_same setup n k j [] [] files names own same l.file (file_there l i))
        ∙ file_tells setup (records_of setup n j) u stands_other.agree fine_other.sets fine_other.sound l.file

    ack_same : ack (view (behind setup caller key state t)) caller key state ≡ ack (view (behind setup caller key state u)) caller key state
    ack_same = decided_by setup caller key state t u fine.sound fine_other.sound own_leases_same files_shown ((view t).leases_of (own_lease caller key)) refl

  pub ack_legal : IsLegalByFootprint setup n (call_entry by seq number moment (call.Ack key state) reply)
  ack_legal =
      legal_if setup n by seq number moment (call.Ack key state) reply (λ k j a caller info declared pid guid in_sets same.
      let at = at_met setup n k j (call_entry by seq number moment (call.Ack key state) reply) (met_by_name n k info (record { guid = info.guid; key = key })) (by_declared setup n k by number (call.Ack key state) info declared) same in
      record {
        worker = λ t stands alive. own_register_same setup n k j [] [] (files_with n k (record { guid = info.guid; key = key })) (name_key (record { guid = info.guid; key = key }) ∷ []) (pid_key info.pid ∷ []) at info.pid (inl refl);
        answers = λ t u stands stands_other fine fine_other alive alive_other settled settled_other. ap (λ (d : Decision). d.reply) (ack_same k j caller info guid at t u stands stands_other fine fine_other);
      })

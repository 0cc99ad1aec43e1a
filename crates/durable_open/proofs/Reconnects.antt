-- What the table decides of a `reconnect` is what the records tell.
use Rattle.std.proofs.Common.{◌≡◌, ◌&&◌, ◌||◌, ◌==◌, not, ℕ, ◌+◌, ◌≤◌, Bool, true, false, cond, List, [], ◌∷◌, length, filter, map, Option, Some, None, refl, ap, sym, subst, ◌∙◌, eq-eqb, arith}
use Rattle.std.specs.Prelude.{nat_lt, find}
use Rattle.std.specs.List.{list_any, AllByRecursion}
use Rattle.std.specs.Option.{option_map, option_map_or}
use Rattle.std.specs.Ordering.{nat_cmp}
use Rattle.std.specs.FinMap as finmap
use Rattle.std.specs.FinMap.{FinMap}
use Rattle.std.proofs.lemmas.Bool.{and_parts}
use Rattle.std.proofs.lemmas.List.{length-map}
use Rattle.sid_core.specs.declared.ids.Sid.{Sid}
use Rattle.sid_core.specs.declared.ids.OpenId.{OpenId}
use Rattle.sid_core.specs.declared.ids.LeaseName.{LeaseName}
use Rattle.sid_core.specs.declared.ids.Moment.{Moment}
use Rattle.sid_core.specs.declared.setup.Setup.{Setup}
use Rattle.sid_core.specs.declared.reply.Reply.TheVariants.{Granted, ObjectNameNotFound}
use Rattle.sid_core.specs.Ids.{same_id, same_sid}
use Rattle.serial_table.specs.declared.rows.OpenRow.{OpenRow}
use Rattle.serial_table.specs.declared.rows.LeaseRow.{LeaseRow}
use Rattle.serial_table.specs.declared.rows.WorkerRow.{WorkerRow}
use Rattle.serial_table.specs.declared.change.Change.TheVariants.{TakeOver}
use Rattle.serial_table.specs.View.{View, carries, leases_at}
use Rattle.serial_table.specs.View as table
use Rattle.serial_table.specs.Change.{new_owner}
use Rattle.serial_table.specs.Decision.{only_reply}
use Rattle.serial_table.specs.Durable.{deadline, can_be_taken}
use Rattle.serial_table.specs.Reconnect.{take_over, reconnect_first, reconnect}
use Rattle.serial_table.proofs.SameIds.{same_id-eq, same_name-eq}
use Rattle.record_codec.specs.declared.share_rec.ShareEntry.{ShareEntry}
use Rattle.record_codec.specs.declared.share_rec.ShareRec.{ShareRec}
use Rattle.record_codec.specs.declared.lease_rec.LeaseRec.{LeaseRec}
use Rattle.record_codec.specs.declared.register_rec.RegisterRec.{RegisterRec}
use Rattle.record_codec.specs.Counts.{is_current, keeps, is_kept, entry_counts}
use Rattle.server_ids.specs.Sessions.{registered, worker_row}
use Rattle.record_rows.specs.Rows.{lease_row, open_row}
use Rattle.leases_db.proofs.Lists.{any_of_filter}
use Rattle.durable_open.specs.Deadlines.{ShowsSessions, sessions_of}
use Rattle.durable_open.specs.Taking.{settled, is_taken, with_owner, taken_over, row_after}
use Rattle.durable_open.specs.Naming.{recorded, caller_of, Names, answer}

-- ---- which entries are taken: of those with the id that count, those that can be taken

-- s: it has the id; l: its owner lives; d: its deadline is to come; c: it carries the name; u: it is durable; k: the lease keeps it
law : (s l d c u k kept : Bool) → (c ≡ true → kept ≡ k) → (s && ((not l && d) && (c && (u && k)))) ≡ ((s && (l || (u && kept))) && ((not l && d) && c))
law false l d c u k kept h = refl
law true true d c u k kept h = refl
law true false false c false k kept h = refl
law true false false c true k true h = refl
law true false false c true k false h = refl
law true false true false false k kept h = refl
law true false true false true k true h = refl
law true false true false true k false h = refl
law true false true true false k kept h = refl
law true false true true true k true h = sym (h refl)
law true false true true true k false h = sym (h refl)

pub lives_by : (pid session : ℕ) (o : Option RegisterRec) → option_map_or (λ (w : WorkerRow). w.alive && (w.session == session)) (option_map (worker_row pid) o) false ≡ is_current o session
lives_by pid session None = refl
lives_by pid session (Some rec) = refl

module _ (register : FinMap nat_cmp RegisterRec) (leases : LeaseName → Option LeaseRec) (lease : LeaseRec) (name : LeaseName) (file : ℕ) (now : Moment) (id : OpenId) where
  -- of the entries with the id, those that count
  abbrev counted : ShareEntry → Bool
  counted e = same_id e.id id && entry_counts (recorded register leases) file e

  -- of these, those that can be taken
  abbrev takeable : ShareEntry → Bool
  takeable e = can_be_taken (sessions_of register) now (open_row file e) && carries name e.lease

  kept_by_name : (e : ShareEntry) (o : Option LeaseName) → leases name ≡ Some lease → carries name o ≡ true
      → is_kept (recorded register leases) file e.id o ≡ keeps (registered register) file e.id (Some lease)
  kept_by_name e None has e0 = absurd cc
  kept_by_name e (Some own) has e0 = ap (λ n. keeps (recorded register leases) file e.id (leases n)) (same_name-eq own name e0) ∙ ap (keeps (recorded register leases) file e.id) has

  pub taken_is : leases name ≡ Some lease → (e : ShareEntry) → is_taken register lease name file now id e ≡ (counted e && takeable e)
  taken_is has e =
      law (same_id e.id id) (table.lives (sessions_of register) e.owner) (option_map_or (nat_lt now.0) (deadline (sessions_of register) (open_row file e)) false) (carries name e.lease) (not (e.durable == 0))
      (keeps (registered register) file e.id (Some lease)) (is_kept (recorded register leases) file e.id e.lease) (kept_by_name e e.lease has)
      ∙ ap (λ b. (same_id e.id id && (b || (not (e.durable == 0) && is_kept (recorded register leases) file e.id e.lease))) && takeable e) (lives_by e.owner.pid e.owner.session (finmap.get register e.owner.pid))

  pub taken_among : leases name ≡ Some lease → (entries : List ShareEntry) → list_any (is_taken register lease name file now id) entries ≡ list_any takeable (filter counted entries)
  taken_among has entries = ap (λ (p : ShareEntry → Bool). list_any p entries) (λ i e. taken_is has e i) ∙ sym (any_of_filter takeable counted entries)

-- ---- sessions

-- what is said of the deadline by the register record is said by the table
pub same_deadline : (register : FinMap nat_cmp RegisterRec) (v : View) (now : Moment) (open_row_ : OpenRow) → ShowsSessions register v open_row_.owner.pid
    → can_be_taken v now open_row_ ≡ can_be_taken (sessions_of register) now open_row_
same_deadline register v now o shows = λ i.
    not (option_map_or (λ (w : WorkerRow). w.alive && (w.session == o.owner.session)) (shows.worker i) false)
    && option_map_or (nat_lt now.0) (option_map (λ ended. ended.moment.0 + o.durable) (find (λ ended. same_sid ended.sid o.owner) (shows.ended i))) false

-- ---- the answer

or_none : (b : Bool) → (b || false) ≡ b
or_none true = refl
or_none false = refl

passing : {X : Type 0} (p q : X → Bool) (xs : List X) → AllByRecursion (λ x. p x ≡ true) (filter (λ x. p x && q x) xs)
passing p q [] = tt
passing p q (x ∷ xs) = here (p x) (q x) x (filter (λ x. p x && q x) xs) refl (passing p q xs)
  where
    here : (b c : Bool) (y : _) (ys : List _) → p y ≡ b → AllByRecursion (λ x. p x ≡ true) ys → AllByRecursion (λ x. p x ≡ true) (cond (b && c) (y ∷ ys) ys)
    here true true y ys e all = (e, all)
    here true false y ys e all = all
    here false c y ys e all = all

module _ (register : FinMap nat_cmp RegisterRec) (lease : LeaseRec) (name : LeaseName) (file : ℕ) (now : Moment) (id : OpenId) (owner : Sid) (handle : ℕ) (v : View) where
  with_lease : (e : ShareEntry) (rows : List LeaseRow) → rows ≡ lease_row name (settled register lease) ∷ [] → e.id ≡ id
      → take_over (caller_of name owner handle now) (open_row file e) rows ≡ answer true (settled register lease).held file id owner handle
  with_lease e rows is at =
      ap (take_over (caller_of name owner handle now) (open_row file e)) is
      ∙ ap (λ i. record (only_reply (Granted (Some (settled register lease).held) true)) { changes = TakeOver file i owner handle ∷ [] }) at

  by_first : (t : Bool) (e : ShareEntry) → (can_be_taken v now (open_row file e) && carries name e.lease) ≡ t → e.id ≡ id
      → (carries name e.lease ≡ true → leases_at v name file ≡ lease_row name (settled register lease) ∷ [])
      → cond t (take_over (caller_of name owner handle now) (open_row file e) (leases_at v name file)) (only_reply ObjectNameNotFound) ≡ answer t (settled register lease).held file id owner handle
  by_first true e is at shown = with_lease e (leases_at v name file) (shown (and_parts (can_be_taken v now (open_row file e)) (carries name e.lease) is).1) at
  by_first false e is at shown = refl

  decided : (rows : List ShareEntry) → length (map (open_row file) rows) ≤ 1 → AllByRecursion (λ e. same_id e.id id ≡ true) rows
      → AllByRecursion (λ (o : OpenRow). ShowsSessions register v o.owner.pid) (map (open_row file) rows)
      → (list_any (λ (o : OpenRow). carries name o.lease) (map (open_row file) rows) ≡ true → leases_at v name file ≡ lease_row name (settled register lease) ∷ [])
      → reconnect_first v (caller_of name owner handle now) name (map (open_row file) rows)
      ≡ answer (list_any (takeable register (λ _. None) lease name file now id) rows) (settled register lease).held file id owner handle
  decided [] one ids shows leased = refl
  decided (e ∷ []) one ids shows leased =
      let t : Bool = can_be_taken v now (open_row file e) && carries name e.lease in
      by_first t e refl (same_id-eq e.id id ids.0) (λ h. leased (or_none (carries name e.lease) ∙ h))
      ∙ ap (λ b. answer b (settled register lease).held file id owner handle)
      (ap (λ b. b && carries name e.lease) (same_deadline register v now (open_row file e) shows.0) ∙ sym (or_none _))
  decided (e ∷ f ∷ rows) one ids shows leased = absurd (omega (arith, one))

pub decides_so : (register : FinMap nat_cmp RegisterRec) (leases : LeaseName → Option LeaseRec) (lease : LeaseRec) (rec : ShareRec) (name : LeaseName) (id : OpenId) (setup : Setup) (v : View) (worker call : ℕ) (owner : Sid) (handle : ℕ) (now : Moment)
    → Names register leases lease rec name id setup v worker call
    → reconnect setup v (caller_of name owner handle now) worker call name.key
    ≡ answer (list_any (is_taken register lease name rec.file now id) rec.entries) (settled register lease).held rec.file id owner handle
unfolding reconnect
decides_so register leases lease rec name id setup v worker call owner handle now names =
    let q : ShareEntry → Bool = counted register leases lease name rec.file now id in
    let rows : List ShareEntry = filter q rec.entries in
    ap (reconnect_first v (caller_of name owner handle now) name) names.opens_are
    ∙ decided register lease name rec.file now id owner handle v rows
    (subst (λ (os : List OpenRow). length os ≤ 1) names.opens_are names.one)
    (passing (λ (e : ShareEntry). same_id e.id id) (entry_counts (recorded register leases) rec.file) rec.entries)
    (subst (AllByRecursion (λ (o : OpenRow). ShowsSessions register v o.owner.pid)) names.opens_are names.sessions_shown)
    (λ h. names.lease_shown (ap (list_any (λ (o : OpenRow). carries name o.lease)) names.opens_are ∙ h))
    ∙ ap (λ b. answer b (settled register lease).held rec.file id owner handle) (sym (taken_among register leases lease name rec.file now id names.lease_is rec.entries))

-- ---- the rows

module _ {X : Type 0} where
  none_pass : (q : X → Bool) (xs : List X) → length (filter q xs) ≤ 0 → AllByRecursion (λ x. q x ≡ false) xs
  none_pass q [] few = tt
  none_pass q (x ∷ xs) few = here (q x) refl few (none_pass q xs)
    where
      here : (b : Bool) → q x ≡ b → length (cond b (x ∷ filter q xs) (filter q xs)) ≤ 0 → (length (filter q xs) ≤ 0 → AllByRecursion (λ x. q x ≡ false) xs) → AllByRecursion (λ x. q x ≡ false) (x ∷ xs)
      here true e few then_ = absurd (omega (arith, few))
      here false e few then_ = (e, then_ few)

  both_false : (p q t : X → Bool) → ((x : X) → p x ≡ (q x && t x)) → (xs : List X) → AllByRecursion (λ x. q x ≡ false) xs → AllByRecursion (λ x. p x ≡ q x) xs
  both_false p q t is [] all = tt
  both_false p q t is (x ∷ xs) all = (is x ∙ ap (λ b. b && t x) all.0 ∙ sym all.0, both_false p q t is xs all.1)

  one_first : (p q t : X → Bool) → ((x : X) → p x ≡ (q x && t x)) → (x : X) (xs ys : List X) → q x ≡ true → filter q xs ≡ ys → length ys ≤ 0 → (t x || list_any t ys) ≡ true → AllByRecursion (λ x. p x ≡ q x) (x ∷ xs)
  one_first p q t is x xs [] e none few h = (is x ∙ ap (λ b. b && t x) e ∙ (sym (or_none (t x)) ∙ h) ∙ sym e, both_false p q t is xs (none_pass q xs (subst (λ (ys : List X). length ys ≤ 0) (sym none) few)))
  one_first p q t is x xs (y ∷ ys) e none few h = absurd (omega (arith, few))

  one_here : (p q t : X → Bool) → ((x : X) → p x ≡ (q x && t x)) → (x : X) (xs : List X) (b : Bool) → q x ≡ b → length (cond b (x ∷ filter q xs) (filter q xs)) ≤ 1 → list_any t (cond b (x ∷ filter q xs) (filter q xs)) ≡ true
      → (length (filter q xs) ≤ 1 → list_any t (filter q xs) ≡ true → AllByRecursion (λ x. p x ≡ q x) xs) → AllByRecursion (λ x. p x ≡ q x) (x ∷ xs)
  one_here p q t is x xs true e one some then_ = one_first p q t is x xs (filter q xs) e refl (omega (arith, one)) some
  one_here p q t is x xs false e one some then_ = (is x ∙ ap (λ b. b && t x) e ∙ sym e, then_ one some)

  -- Where one at most passes q, and one of these t, what passes both is what passes q.
  pub only_one : (p q t : X → Bool) → ((x : X) → p x ≡ (q x && t x)) → (xs : List X) → length (filter q xs) ≤ 1 → list_any t (filter q xs) ≡ true → AllByRecursion (λ x. p x ≡ q x) xs
  only_one p q t is [] one some = tt
  only_one p q t is (x ∷ xs) one some = one_here p q t is x xs (q x) refl one some (only_one p q t is xs)

same_row : (file : ℕ) (id : OpenId) (owner : Sid) (handle : ℕ) (e : ShareEntry) (s n b : Bool) → b ≡ (s && n)
    → open_row file (cond b (with_owner owner handle e) e) ≡ cond n (cond s (record (open_row file e) { owner = owner; handle = handle }) (open_row file e)) (open_row file e)
same_row file id owner handle e true true b is = ap (λ c. open_row file (cond c (with_owner owner handle e) e)) is
same_row file id owner handle e true false b is = ap (λ c. open_row file (cond c (with_owner owner handle e) e)) is
same_row file id owner handle e false true b is = ap (λ c. open_row file (cond c (with_owner owner handle e) e)) is
same_row file id owner handle e false false b is = ap (λ c. open_row file (cond c (with_owner owner handle e) e)) is

row_is : (p counts : ShareEntry → Bool) (file : ℕ) (id : OpenId) (owner : Sid) (handle : ℕ) (e : ShareEntry) → p e ≡ (same_id e.id id && counts e)
    → open_row file (taken_over p owner handle e) ≡ row_after counts file id owner handle e
unfolding new_owner
row_is p counts file id owner handle e is =
    same_row file id owner handle e (same_id e.id id) (counts e) (p e) is
    ∙ ap (λ b. cond (counts e) (cond (b && same_id e.id id) (record (open_row file e) { owner = owner; handle = handle }) (open_row file e)) (open_row file e)) (sym (eq-eqb file file refl))

rows_are : (p counts : ShareEntry → Bool) (file : ℕ) (id : OpenId) (owner : Sid) (handle : ℕ) (entries : List ShareEntry) → AllByRecursion (λ e. p e ≡ (same_id e.id id && counts e)) entries
    → map (open_row file) (map (taken_over p owner handle) entries) ≡ map (row_after counts file id owner handle) entries
rows_are p counts file id owner handle [] all = refl
rows_are p counts file id owner handle (e ∷ entries) all = λ i. row_is p counts file id owner handle e all.0 i ∷ rows_are p counts file id owner handle entries all.1 i

pub rows_so : (register : FinMap nat_cmp RegisterRec) (leases : LeaseName → Option LeaseRec) (lease : LeaseRec) (rec : ShareRec) (name : LeaseName) (id : OpenId) (setup : Setup) (v : View) (worker call : ℕ) (owner : Sid) (handle : ℕ) (now : Moment)
    → Names register leases lease rec name id setup v worker call → list_any (is_taken register lease name rec.file now id) rec.entries ≡ true
    → map (open_row rec.file) (map (taken_over (is_taken register lease name rec.file now id) owner handle) rec.entries)
    ≡ map (row_after (entry_counts (recorded register leases) rec.file) rec.file id owner handle) rec.entries
rows_so register leases lease rec name id setup v worker call owner handle now names some =
    let q : ShareEntry → Bool = counted register leases lease name rec.file now id in
    let t : ShareEntry → Bool = takeable register leases lease name rec.file now id in
    let one : length (filter q rec.entries) ≤ 1 = subst (λ n. n ≤ 1) (length-map (filter q rec.entries) (open_row rec.file)) (subst (λ (os : List OpenRow). length os ≤ 1) names.opens_are names.one) in
    rows_are (is_taken register lease name rec.file now id) (entry_counts (recorded register leases) rec.file) rec.file id owner handle rec.entries
    (only_one (is_taken register lease name rec.file now id) q t (taken_is register leases lease name rec.file now id names.lease_is) rec.entries one
    (sym (taken_among register leases lease name rec.file now id names.lease_is rec.entries) ∙ some))

-- What an entry does beside the places that it writes, where fewer may live afterwards: opens and holds of those who live no longer go,
-- with what depends on them, and nothing else that a record elsewhere tells.
use Rattle.std.proofs.Common.{◌≡◌, ℕ, Bool, true, false, ◌==◌, ◌&&◌, List, [], ◌∷◌, map, filter, find, Option, Some, None, refl, sym, ap, ◌∙◌, subst, inl, ◌⊎◌}
use Rattle.std.specs.List.{list_any}
use Rattle.std.specs.Option.{option_map_or, option_and_then}
use Rattle.std.proofs.lemmas.Bool.{and_parts, both_ways, eqb-true, eq-eqb, false_from_ne_true}
use Rattle.sid_core.specs.declared.ids.Sid.{Sid}
use Rattle.sid_core.specs.declared.ids.LeaseName.{LeaseName}
use Rattle.sid_core.specs.declared.setup.Setup.{Setup}
use Rattle.sid_core.specs.Ids.{same_id}
use Rattle.sid_core.specs.Values.{has}
use Rattle.serial_table.specs.declared.rows.OpenRow.{OpenRow}
use Rattle.serial_table.specs.declared.rows.LeaseRow.{LeaseRow}
use Rattle.serial_table.specs.declared.rows.HoldRow.{HoldRow}
use Rattle.serial_table.specs.declared.rows.WorkerRow.{WorkerRow}
use Rattle.serial_table.specs.declared.table.Table.{Table}
use Rattle.serial_table.specs.View as table
use Rattle.serial_table.specs.View.{View, view, is_of_file, is_range_of, is_hold_of, is_end_of, has_pid, has_name, names_file, carries, leases_at}
use Rattle.serial_table.specs.Sound.{IsSound, has_open, has_its_open, is_open_under, is_opened}
use Rattle.serial_table.proofs.SameIds.{same_name-eq}
use Rattle.serial_table.proofs.Members.{IsIn, each, any_of, one_of, in_filter, passes_in}
use Rattle.record_codec.specs.Counts.{Records, lives, settled_lease}
use Rattle.stored_table.specs.Places.{Place, among}
use Rattle.stored_table.specs.Decoded.{AllRecords}
use Rattle.record_rows.specs.Rows.{ref_of}
use Rattle.stored_table.specs.Exact.{lease_record, lease_of, exact_lease}
use Rattle.table_laws.specs.Standing.{IsUnnamed}
use Rattle.table_laws.proofs.Lists.{filter_every}
use Rattle.table_laws.proofs.Contained.{share_place, ranges_place, lock_place, lease_place, register_place, mail_place, SameFile, WaitsStep, IsMetName, Contained}
use Rattle.table_laws.proofs.Exactly.{single, exact_settled, in_opens}
pub use Rattle.table_laws.proofs.Settling.{KeepsHandle}

-- what stays of a file: opens go only whose owner lives no longer, with their ranges
pub record LessFile (file : ℕ) (v w : View) : Type 0 where
  pub stays : OpenRow → Bool
  pub opens : w.opens_of file ≡ filter stays (v.opens_of file)
  pub gone : (o : OpenRow) → IsIn o (v.opens_of file) → stays o ≡ false → table.lives w o.owner ≡ false
  pub ranges : w.ranges_of file ≡ filter (λ r. list_any (λ o. same_id o.id r.id) (w.opens_of file)) (v.ranges_of file)
  pub pending : w.is_pending file ≡ (v.is_pending file && list_any (λ o. true) (w.opens_of file))

pub record Lessened (setup : Setup) (ps : List Place) (s : AllRecords) (t u : Table) : Type 0 where
  -- the files whose records are written
  pub here : ℕ → Bool
  pub written : (file : ℕ) → here file ≡ true → (among (share_place setup file) ps ≡ true) × (among (ranges_place setup file) ps ≡ true)
  -- nobody comes to live whom a record names
  pub living : (sid : Sid) → table.lives (view u) sid ≡ true → (table.lives (view t) sid ≡ true) ⊎ IsUnnamed s sid
  pub worker_mail : (pid : ℕ) → among (mail_place pid) ps ≡ false → (view u).worker_of pid ≡ (view t).worker_of pid
  pub worker_register : (pid : ℕ) → among (register_place pid) ps ≡ false → ((view u).worker_of pid ≡ (view t).worker_of pid) × ((view u).ended_of pid ≡ (view t).ended_of pid)
  pub others : (file : ℕ) → here file ≡ false → LessFile file (view t) (view u)
  -- a lease elsewhere is what settling leaves of it
  pub leases : (name : LeaseName) → among (lease_place name) ps ≡ false → (r : Records) → ((sid : Sid) → lives r sid ≡ table.lives (view u) sid) → option_and_then (settled_lease r) (exact_lease (view t) name) ≡ exact_lease (view u) name
  -- no lease of another file gains HANDLE
  pub handles : (file : ℕ) → here file ≡ false → (name : LeaseName) (l : LeaseRow) → IsIn l (leases_at (view u) name file) → has l.held.0 2 ≡ true
      → (old : LeaseRow) × IsIn old (leases_at (view t) name file) × (has old.held.0 2 ≡ true)
  pub holds : (key : ℕ) → among (lock_place key) ps ≡ false → (view u).holds_of key ≡ filter (λ h. table.lives (view u) h.owner) ((view t).holds_of key)
  pub letters : (sid : Sid) → among (mail_place sid.pid) ps ≡ false → (view u).letters_of sid ≡ (view t).letters_of sid
  pub waits : WaitsStep setup ps s t u

-- ---- where all live on, and other files stay as they are

same_leases : (xs ys : List LeaseRow) → ((l : LeaseRow) → IsIn l xs → xs ≡ l ∷ []) → ((l : LeaseRow) → IsIn l ys → ys ≡ l ∷ []) → ((l : LeaseRow) → IsIn l xs → IsIn l ys) → ((l : LeaseRow) → IsIn l ys → IsIn l xs) → xs ≡ ys
same_leases [] [] a b f g = refl
same_leases (x ∷ xs) ys a b f g = a x (inl refl) ∙ sym (b x (f x (inl refl)))
same_leases [] (y ∷ ys) a b f g = absurd (g y (inl refl))

-- a file that is to go has an open
pub same_pending : (u : Table) → IsSound u → (file : ℕ) (b : Bool) → (view u).is_pending file ≡ b → b ≡ (b && list_any (λ o. true) ((view u).opens_of file))
same_pending u sound file false e = refl
same_pending u sound file true e =
    let p = one_of (names_file file) u.pending e in
    let o = one_of (is_of_file p.0) u.opens (each (is_opened u.opens) u.pending sound.pending_have_opens p.0 p.1) in
    sym (any_of (λ o. true) ((view u).opens_of file) o.0 (subst (λ g. IsIn o.0 ((view u).opens_of g)) (eqb-true o.0.file p.0 o.2 ∙ eqb-true p.0 file p.2) (in_opens u sound o.0 o.1)) refl)

module _ (setup : Setup) (ps : List Place) (s : AllRecords) (t u : Table) (sound : IsSound t) (sound_after : IsSound u) (c : Contained setup ps s t u) where
  abbrev v : View
  v = view t

  abbrev w : View
  w = view u

  -- a lease whose record isn't written is of none of the files
  elsewhere : (x : Table) → IsSound x → ((o : OpenRow) → IsIn o x.opens → c.here o.file ≡ true → IsMetName ps o.lease) → (name : LeaseName) → among (lease_place name) ps ≡ false
      → (l : LeaseRow) → IsIn l ((view x).leases_of name) → c.here l.file ≡ false
  elsewhere x fine names name unmet l i =
      let k = in_filter (has_name name) x.leases l i in
      let o = one_of (is_open_under l) x.opens (each (has_open x.opens) x.leases fine.leases_have_opens l k.0) in
      let p = and_parts (o.0.file == l.file) (carries l.name o.0.lease) o.2 in
      false_from_ne_true (c.here l.file) (λ e. met o.0.lease (ap (λ n. carries n o.0.lease) (sym (same_name-eq l.name name k.1)) ∙ p.1) (names o.0 o.1 (ap c.here (eqb-true o.0.file l.file p.0) ∙ e)))
    where
      met : (lease : Option LeaseName) → carries name lease ≡ true → IsMetName ps lease → ⊥
      met None e h = absurd cc
      met (Some own) e h = both_ways (among (lease_place name) ps) unmet (ap (λ n. among (lease_place n) ps) (sym (same_name-eq own name e)) ∙ h)

  leases_stay : (name : LeaseName) → among (lease_place name) ps ≡ false → v.leases_of name ≡ w.leases_of name
  leases_stay name unmet =
      same_leases (v.leases_of name) (w.leases_of name) (single t sound name) (single u sound_after name)
      (λ l i. (in_filter (λ (x : LeaseRow). x.file == l.file) (w.leases_of name) l
      (subst (IsIn l) (sym ((c.others l.file (elsewhere t sound c.names_before name unmet l i)).leases name)) (passes_in (λ (x : LeaseRow). x.file == l.file) (v.leases_of name) l i (eq-eqb l.file l.file refl)))).0)
      (λ l i. (in_filter (λ (x : LeaseRow). x.file == l.file) (v.leases_of name) l
      (subst (IsIn l) ((c.others l.file (elsewhere u sound_after c.names_after name unmet l i)).leases name) (passes_in (λ (x : LeaseRow). x.file == l.file) (w.leases_of name) l i (eq-eqb l.file l.file refl)))).0)

  exact_of_leases : (name : LeaseName) (ls : List LeaseRow) → ((l : LeaseRow) → IsIn l ls → c.here l.file ≡ false) → lease_of v name ls ≡ lease_of w name ls
  exact_of_leases name [] h = refl
  exact_of_leases name (l ∷ ls) h = ap (λ os. lease_record l (map ref_of (filter (λ (o : OpenRow). carries name o.lease) os))) (sym (c.others l.file (h l (inl refl))).opens)

  exact_lease_stays : (name : LeaseName) → among (lease_place name) ps ≡ false → exact_lease v name ≡ exact_lease w name
  exact_lease_stays name unmet = exact_of_leases name (v.leases_of name) (elsewhere t sound c.names_before name unmet) ∙ ap (lease_of w name) (leases_stay name unmet)

  worker_stays : (pid : ℕ) → w.worker_of pid ≡ v.worker_of pid
  worker_stays pid = ap (find (has_pid pid)) c.workers

  living_stays : (sid : Sid) → table.lives w sid ≡ table.lives v sid
  living_stays sid = ap (λ o. option_map_or (λ (worker : WorkerRow). worker.alive && (worker.session == sid.session)) o false) (worker_stays sid.pid)

  same_ranges : (file : ℕ) → filter (λ r. list_any (λ o. same_id o.id r.id) (w.opens_of file)) (w.ranges_of file) ≡ w.ranges_of file
  same_ranges file = filter_every (λ r. list_any (λ o. same_id o.id r.id) (w.opens_of file)) (w.ranges_of file) (λ r i.
      let k = in_filter (is_range_of file) u.ranges r i in
      let o = one_of (λ o. (o.file == r.file) && same_id o.id r.id) u.opens (each (has_its_open u.opens) u.ranges sound_after.rows.ranges_have_opens r k.0) in
      let p = and_parts (o.0.file == r.file) (same_id o.0.id r.id) o.2 in
      any_of (λ x. same_id x.id r.id) (w.opens_of file) o.0 (subst (λ g. IsIn o.0 (w.opens_of g)) (eqb-true o.0.file r.file p.0 ∙ eqb-true r.file file k.1) (in_opens u sound_after o.0 o.1)) p.1)

  other_file : (file : ℕ) → SameFile file v w → LessFile file v w
  other_file file same = record {
    stays = λ o. true;
    opens = same.opens ∙ sym (filter_every (λ o. true) (v.opens_of file) (λ o i. refl));
    gone = λ o i e. absurd cc;
    ranges = sym (ap (filter (λ r. list_any (λ o. same_id o.id r.id) (w.opens_of file))) (sym same.ranges) ∙ same_ranges file);
    pending = same_pending u sound_after file (w.is_pending file) refl ∙ ap (λ b. b && list_any (λ o. true) (w.opens_of file)) same.pending;
  }

  all_living : (xs : List HoldRow) → ((h : HoldRow) → IsIn h xs → table.lives w h.owner ≡ true) → filter (λ h. table.lives w h.owner) xs ≡ xs
  all_living xs h = filter_every (λ h. table.lives w h.owner) xs h

  pub lessened : Lessened setup ps s t u
  lessened = record {
    here = c.here;
    written = c.written;
    living = λ sid e. inl (sym (living_stays sid) ∙ e);
    worker_mail = λ pid unmet. worker_stays pid;
    worker_register = λ pid unmet. (worker_stays pid, ap (filter (is_end_of pid)) c.ended);
    others = λ file out. other_file file (c.others file out);
    leases = λ name unmet r living. ap (option_and_then (settled_lease r)) (exact_lease_stays name unmet) ∙ exact_settled u sound_after r living name;
    handles = λ file out name l i h. (l, subst (IsIn l) ((c.others file out).leases name) i, h);
    holds = λ key unmet. c.holds key unmet ∙ sym (all_living (v.holds_of key) (λ h i.
        living_stays h.owner ∙ each (λ x. table.lives v x.owner) t.holds sound.rows.holders_live h (in_filter (is_hold_of key) t.holds h i).0));
    letters = c.letters;
    waits = c.waits;
  }

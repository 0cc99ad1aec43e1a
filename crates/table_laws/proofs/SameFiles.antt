-- Two tables that show the same of a file: what expires before a call that looks at its leases is the same, and they show the same behind it.
use Rattle.std.proofs.Common.{◌≡◌, ℕ, Bool, true, ◌==◌, List, [], ◌∷◌, ◌++◌, map, filter, refl, sym, ap, ◌∙◌, subst, inl, inr}
use Rattle.std.specs.List.{list_all, flat_map}
use Rattle.std.proofs.lemmas.Bool.{and_parts, and_from, eqb-true, eq-eqb}
use Rattle.std.proofs.lemmas.List.Folds.{list_all-map}
use Rattle.sid_core.specs.declared.call.Call.{Call}
use Rattle.sid_core.specs.declared.ids.LeaseName.{LeaseName}
use Rattle.sid_core.specs.declared.ids.Sid.{Sid}
use Rattle.sid_core.specs.declared.setup.Setup.{Setup}
use Rattle.serial_table.specs.declared.rows.OpenRow.{OpenRow}
use Rattle.serial_table.specs.declared.rows.LeaseRow.{LeaseRow}
use Rattle.serial_table.specs.declared.table.Table.{Table}
use Rattle.serial_table.specs.declared.change.Change.{Change}
use Rattle.serial_table.specs.declared.decision.Caller.{Caller}
use Rattle.serial_table.specs.View.{View, view, lives, is_of_file}
use Rattle.serial_table.specs.File.{FileView, FileOpen, file_view, file_open}
use Rattle.serial_table.specs.Break.{each_once}
use Rattle.serial_table.specs.Change.{perform_all}
use Rattle.serial_table.specs.Expire.{carried_by, names_at, names_beside, look, due, is_due, expires, then_settles, expired_by}
use Rattle.serial_table.specs.Local.{is_in, all_in, perform_all_in_file}
use Rattle.serial_table.specs.Sound.{IsSound}
use Rattle.serial_table.proofs.BreaksLeave.{ComesFrom, from_breaks}
use Rattle.serial_table.proofs.Expiring.{settles_all}
use Rattle.serial_table.proofs.Files.{file_view-perform_all}
use Rattle.serial_table.proofs.Filters.{filter-filter}
use Rattle.serial_table.proofs.Members.{IsIn, all_each, in_filter, in_flat_map}
use Rattle.serial_table.proofs.Shown.{is_of_break, break_in}
use Rattle.table_laws.proofs.Lists.{filter_every}
use Rattle.table_laws.proofs.Calls.{once_in, carried_in, lease_of_file}

-- ---- one table

rows_back : (alive : Sid → Bool) (rows : List OpenRow) → map (λ (o : FileOpen). o.row) (map (file_open alive) rows) ≡ rows
rows_back alive [] = refl
rows_back alive (row ∷ rows) = ap (λ rs. row ∷ rs) (rows_back alive rows)

pub opens_told : (file : ℕ) (v : View) → map (λ (o : FileOpen). o.row) (file_view file v).opens ≡ v.opens_of file
opens_told file v = rows_back (lives v) (v.opens_of file)

-- the opens that pass are of the file
abbrev pub AreOfFile : (OpenRow → Bool) → ℕ → Table → Type 0
AreOfFile named file t = (o : OpenRow) → IsIn o t.opens → named o ≡ true → o.file ≡ file

-- so they are among the file's
named_rows : (named : OpenRow → Bool) (file : ℕ) (t : Table) → AreOfFile named file t → filter named t.opens ≡ filter named ((view t).opens_of file)
named_rows named file t of =
    sym (filter-filter named (is_of_file file) t.opens
    ∙ filter_every (is_of_file file) (filter named t.opens) (λ o i. let at = in_filter named t.opens o i in eq-eqb o.file file (of o at.0 at.1)))

-- so they are the same where the file shows the same
pub file_opens_same : (file : ℕ) (v w : View) → file_view file v ≡ file_view file w → v.opens_of file ≡ w.opens_of file
file_opens_same file v w same = sym (opens_told file v) ∙ ap (λ (f : FileView). map (λ (o : FileOpen). o.row) f.opens) same ∙ opens_told file w

pub rows_same : (named : OpenRow → Bool) (file : ℕ) (t u : Table) → AreOfFile named file t → AreOfFile named file u → file_view file (view t) ≡ file_view file (view u) → filter named t.opens ≡ filter named u.opens
rows_same named file t u of of_other same = named_rows named file t of ∙ ap (filter named) (file_opens_same file (view t) (view u) same) ∙ sym (named_rows named file u of_other)

all_inside : (alive : Sid → Bool) (file : ℕ) (cs : List Change) → list_all (is_of_break file) cs ≡ true → all_in alive file cs ≡ true
all_inside alive file [] e = refl
all_inside alive file (change ∷ cs) e =
    let p = and_parts (is_of_break file change) (list_all (is_of_break file) cs) e in
    and_from (is_in alive file change) (all_in alive file cs) (break_in alive file change p.0) (all_inside alive file cs p.1)

-- the leases of names that opens of the file carry are the file's
pub named_leases : (t : Table) → IsSound t → (file : ℕ) (name : LeaseName) → IsIn name (carried_by ((view t).opens_of file)) → (view t).leases_of name ≡ (file_view file (view t)).leases name
named_leases t sound file name i =
    let o = carried_in ((view t).opens_of file) name i in
    let at = in_filter (is_of_file file) t.opens o.0 o.1 in
    sym (filter_every (λ (l : LeaseRow). l.file == file) ((view t).leases_of name) (λ l j.
    eq-eqb l.file file (lease_of_file t sound o.0 name l at.0 o.2 j ∙ eqb-true o.0.file file at.1)))

-- the leases of names, where each name has the same
pub flat_same : (v w : View) (names : List LeaseName) → ((name : LeaseName) → IsIn name names → v.leases_of name ≡ w.leases_of name) → flat_map (λ name. v.leases_of name) names ≡ flat_map (λ name. w.leases_of name) names
flat_same v w [] h = refl
flat_same v w (name ∷ names) h = λ i. h name (inl refl) i ++ flat_same v w names (λ m j. h m (inr j)) i

-- ---- behind leases of the file that expire

module _ (setup : Setup) (caller : Caller) (file : ℕ) (call : Call) (t : Table) (own : (l : LeaseRow) → IsIn l (due (view t) caller.moment (look setup (view t) caller call)) → l.file ≡ file) where
  breaks : list_all (is_of_break file) (expired_by setup (view t) caller call) ≡ true
  unfolding expired_by
  breaks =
      let rows = due (view t) caller.moment (look setup (view t) caller call) in
      settles_all (is_of_break file) refl (map expires rows) (list_all-map (is_of_break file) expires rows ∙ all_each (λ (l : LeaseRow). l.file == file) rows (λ l i. eq-eqb l.file file (own l i)))

  pub view_behind : file_view file (view (perform_all (expired_by setup (view t) caller call) t)) ≡ perform_all_in_file (expired_by setup (view t) caller call) (file_view file (view t))
  view_behind = file_view-perform_all file (expired_by setup (view t) caller call) t (all_inside (lives (view t)) file (expired_by setup (view t) caller call) breaks)

  pub from_behind : ComesFrom t (perform_all (expired_by setup (view t) caller call) t)
  from_behind = from_breaks file (expired_by setup (view t) caller call) t breaks

-- ---- a call that looks at the leases of the file of such opens

module _ (setup : Setup) (caller : Caller) (named : OpenRow → Bool) (file : ℕ) (call : Call) (looks : (x : Table) → look setup (view x) caller call ≡ names_beside (view x) (filter named x.opens)) where
  module _ (t : Table) (sound : IsSound t) (of : AreOfFile named file t) where
    row_file : (row : OpenRow) → IsIn row (filter named t.opens) → row.file ≡ file
    row_file row i = let at = in_filter named t.opens row i in of row at.0 at.1

    name_there : (rows : List OpenRow) → ((row : OpenRow) → IsIn row rows → row.file ≡ file) → (name : LeaseName) → IsIn name (names_beside (view t) rows) → IsIn name (carried_by ((view t).opens_of file))
    name_there [] own name i = absurd i
    name_there (row ∷ rows) own name i =
        subst (λ g. IsIn name (carried_by ((view t).opens_of g))) (own row (inl refl)) (once_in [] (carried_by ((view t).opens_of row.file)) name i)

    due_of_file : (l : LeaseRow) → IsIn l (due (view t) caller.moment (look setup (view t) caller call)) → l.file ≡ file
    due_of_file l i =
        let at = (in_filter (is_due caller.moment) (flat_map (λ name. (view t).leases_of name) (look setup (view t) caller call)) l i).0 in
        let name = in_flat_map (λ name. (view t).leases_of name) (look setup (view t) caller call) l at in
        let carried = name_there (filter named t.opens) row_file name.0 (subst (IsIn name.0) (looks t) name.1) in
        let o = carried_in ((view t).opens_of file) name.0 carried in
        let own = in_filter (is_of_file file) t.opens o.0 o.1 in
        lease_of_file t sound o.0 name.0 l own.0 o.2 name.2 ∙ eqb-true o.0.file file own.1

    abbrev behind : Table
    behind = perform_all (expired_by setup (view t) caller call) t

    pub behind_view : file_view file (view behind) ≡ perform_all_in_file (expired_by setup (view t) caller call) (file_view file (view t))
    behind_view = view_behind setup caller file call t due_of_file

    pub behind_of_file : AreOfFile named file behind
    behind_of_file o i e = of o ((from_behind setup caller file call t due_of_file).opens o i) e

  -- ---- two tables

  module _ (t u : Table) (sound : IsSound t) (sound_other : IsSound u) (of : AreOfFile named file t) (of_other : AreOfFile named file u)
      (same : file_view file (view t) ≡ file_view file (view u)) where
    opens_same : (view t).opens_of file ≡ (view u).opens_of file
    opens_same = file_opens_same file (view t) (view u) same

    names_same : (rows : List OpenRow) → ((row : OpenRow) → IsIn row rows → row.file ≡ file) → names_beside (view t) rows ≡ names_beside (view u) rows
    names_same [] own = refl
    names_same (row ∷ rows) own =
        ap (names_at (view t)) (own row (inl refl)) ∙ ap (λ os. each_once [] (carried_by os)) opens_same ∙ sym (ap (names_at (view u)) (own row (inl refl)))

    looks_same : look setup (view t) caller call ≡ look setup (view u) caller call
    looks_same =
        looks t
        ∙ names_same (filter named t.opens) (row_file t sound of)
        ∙ ap (names_beside (view u)) (rows_same named file t u of of_other same)
        ∙ sym (looks u)

    leases_same : (name : LeaseName) → IsIn name (look setup (view t) caller call) → (view t).leases_of name ≡ (view u).leases_of name
    leases_same name i =
        let carried = name_there t sound of (filter named t.opens) (row_file t sound of) name (subst (IsIn name) (looks t) i) in
        named_leases t sound file name carried
        ∙ ap (λ (f : FileView). f.leases name) same
        ∙ sym (named_leases u sound_other file name (subst (λ os. IsIn name (carried_by os)) opens_same carried))

    pub due_same : due (view t) caller.moment (look setup (view t) caller call) ≡ due (view u) caller.moment (look setup (view u) caller call)
    due_same =
        ap (filter (is_due caller.moment)) (flat_same (view t) (view u) (look setup (view t) caller call) leases_same)
        ∙ ap (due (view u) caller.moment) looks_same

    pub expired_same : expired_by setup (view t) caller call ≡ expired_by setup (view u) caller call
    unfolding expired_by
    expired_same = ap (λ rows. then_settles (map expires rows)) due_same

    pub view_behind_same : file_view file (view (behind t sound of)) ≡ file_view file (view (behind u sound_other of_other))
    view_behind_same =
        behind_view t sound of
        ∙ (λ i. perform_all_in_file (expired_same i) (same i))
        ∙ sym (behind_view u sound_other of_other)

-- Rows that were made parts of records are read back, and lists of records that count.
use Rattle.std.proofs.Common.{◌≡◌, ℕ, ◌+◌, Bool, true, false, cond, ◌||◌, eqb, List, [], ◌∷◌, map, filter, find, Option, Some, None, refl, sym, ap₂, inl, inr}
use Rattle.std.specs.List.{list_any}
use Rattle.std.specs.Option.{option_map, option_and_then}
use Rattle.sid_core.specs.declared.entry.Letter.{Letter}
use Rattle.sid_core.specs.declared.entry.Post.{Post}
use Rattle.sid_core.specs.declared.ids.LeaseName.{LeaseName}
use Rattle.sid_core.specs.declared.ids.Sid.{Sid}
use Rattle.sid_core.specs.declared.ids.Spot.TheVariants.{LockOf}
use Rattle.sid_core.specs.Counting.{CountsFrom}
use Rattle.serial_table.specs.declared.rows.OpenRow.{OpenRow}
use Rattle.serial_table.specs.declared.rows.LeaseRow.{LeaseRow}
use Rattle.serial_table.specs.declared.rows.Breaking.{Breaking}
use Rattle.serial_table.specs.declared.rows.HoldRow.{HoldRow}
use Rattle.serial_table.specs.declared.rows.WorkerRow.{WorkerRow}
use Rattle.serial_table.specs.declared.rows.EndedRow.{EndedRow}
use Rattle.serial_table.specs.View.{View}
use Rattle.serial_table.proofs.Members.{IsIn}
use Rattle.record_codec.specs.declared.glock_rec.GLockRec.{GLockRec}
use Rattle.record_codec.specs.declared.lease_rec.LeaseRef.{LeaseRef}
use Rattle.record_codec.specs.declared.mail_rec.Token as mail
use Rattle.record_codec.specs.declared.register_rec.RegisterRec.{RegisterRec}
use Rattle.record_codec.specs.Counts.{Records, hold_counts, watch_counts, register_watch_counts}
use Rattle.record_rows.specs.Rows.{open_row, entry_of, lease_row, breaking_of, hold_row, hold_of}
use Rattle.stored_table.specs.Exact.{lease_with, mail_record, register_record}
use Rattle.stored_table.specs.Shown.{part_of}
use Rattle.stored_table.specs.Stands.{clean_lock, clean_register}
use Rattle.table_laws.proofs.Exactly.{held_back, file_back}
use Rattle.table_laws.proofs.Meets.{part_first, part_second}
use Rattle.stored_reading.specs.Reading.{if_of_session, post_to, worker_row, ended_rows}

-- ---- lists

pub map_back : {A B : Type 0} (f : A → B) (g : B → A) (xs : List A) → ((x : A) → IsIn x xs → g (f x) ≡ x) → map g (map f xs) ≡ xs
map_back f g [] h = refl
map_back f g (x ∷ xs) h = ap₂ (λ (y : _) (ys : List _). y ∷ ys) (h x (inl refl)) (map_back f g xs (λ y i. h y (inr i)))

none_later : {A : Type 0} (p : A → Bool) (b : Bool) (x : A) (xs : List A) → cond b (Some x) (find p xs) ≡ None → (find p xs ≡ None → list_any p xs ≡ false) → (b || list_any p xs) ≡ false
none_later p true x xs e h = absurd cc
none_later p false x xs e h = h e

pub none_found : {A : Type 0} (p : A → Bool) (xs : List A) → find p xs ≡ None → list_any p xs ≡ false
none_found p [] e = refl
none_found p (x ∷ xs) e = none_later p (p x) x xs e (none_found p xs)

-- ---- rows

pub open_back : (file : ℕ) (o : OpenRow) → o.file ≡ file → open_row file (entry_of o) ≡ o
open_back file o e = λ i. record o { file = sym e i }

pub hold_back : (key : ℕ) (h : HoldRow) → h.key ≡ key → hold_row key (hold_of h) ≡ h
hold_back key h e = λ i. record h { key = sym e i }

pub post_back : (sid : Sid) (post : Post) → post.to ≡ sid → post_to sid post.letter ≡ post
post_back sid post e = λ i. record post { to = sym e i }

breaking_back : (l : LeaseRow) (b : Option Breaking) (refs : List LeaseRef) → breaking_of (lease_with l b refs) ≡ b
breaking_back l None refs = refl
breaking_back l (Some b) refs = refl

pub lease_back : (name : LeaseName) (l : LeaseRow) (refs : List LeaseRef) → l.name ≡ name → lease_row name (lease_with l l.breaking refs) ≡ l
lease_back name l refs e = λ i. record { name = sym e i; file = file_back l l.breaking refs i; held = held_back l l.breaking refs i; breaking = breaking_back l l.breaking refs i }

pub worker_back : (v : View) (pid : ℕ) (o : Option WorkerRow) → ((row : WorkerRow) → o ≡ Some row → row.pid ≡ pid) → option_map (worker_row pid) (option_map (register_record v) o) ≡ o
worker_back v pid None h = refl
worker_back v pid (Some row) h = λ i. Some (record row { pid = sym (h row refl) i })

pub ended_back : (pid session : ℕ) (rows : List EndedRow) → CountsFrom session (map (λ row. row.sid.session) rows) → ((row : EndedRow) → IsIn row rows → row.sid.pid ≡ pid)
    → ended_rows pid session (map (λ row. row.moment.0) rows) ≡ rows
ended_back pid session [] counts h = refl
ended_back pid session (row ∷ rows) counts h =
    ap₂ (λ (x : EndedRow) (xs : List EndedRow). x ∷ xs) (λ i. record row { sid = record { pid = sym (h row (inl refl)) i; session = sym counts.0 i } })
    (ended_back pid (session + 1) rows counts.1 (λ x i. h x (inr i)))

-- ---- what cleaning leaves

pub holds_clean : (r : Records) (key : ℕ) (o : Option GLockRec) → part_of (λ x. x.holds) (option_and_then (clean_lock r key) o) ≡ part_of (λ x. filter (hold_counts r) x.holds) o
holds_clean r key None = refl
holds_clean r key (Some s) =
    let hs = filter (hold_counts r) s.holds in
    let ws = filter (watch_counts r (LockOf key)) s.watchers in
    part_first (λ (x : GLockRec). x.holds) hs ws (record s { holds = hs; watchers = ws }) refl

pub lock_watches_clean : (r : Records) (key : ℕ) (o : Option GLockRec) → part_of (λ x. x.watchers) (option_and_then (clean_lock r key) o) ≡ part_of (λ x. filter (watch_counts r (LockOf key)) x.watchers) o
lock_watches_clean r key None = refl
lock_watches_clean r key (Some s) =
    let hs = filter (hold_counts r) s.holds in
    let ws = filter (watch_counts r (LockOf key)) s.watchers in
    part_second (λ (x : GLockRec). x.watchers) hs ws (record s { holds = hs; watchers = ws }) refl

pub behind_clean : (r : Records) (o : Option RegisterRec) → part_of (λ x. x.watchers) (option_map (clean_register r) o) ≡ part_of (λ x. filter (register_watch_counts r) x.watchers) o
behind_clean r None = refl
behind_clean r (Some s) = refl

pub worker_clean : (r : Records) (pid : ℕ) (o : Option RegisterRec) → option_map (worker_row pid) (option_map (clean_register r) o) ≡ option_map (worker_row pid) o
worker_clean r pid None = refl
worker_clean r pid (Some s) = refl

pub ended_clean : (r : Records) (o : Option RegisterRec) → part_of (λ x. x.ended) (option_map (clean_register r) o) ≡ part_of (λ x. x.ended) o
ended_clean r None = refl
ended_clean r (Some s) = refl

-- ---- mailboxes

none_either_way : {A : Type 0} (b : Bool) → ◌≡◌ {A = Option A} (cond b None None) None
none_either_way true = refl
none_either_way false = refl

by_emptiness : (d : Bool) (session own : ℕ) (ts : List mail.Token) (ls : List Letter)
    → option_and_then (if_of_session session) (cond d None (Some (record { session = own; tokens = ts; letters = ls }))) ≡ cond (eqb own session) (cond d None (Some (record { session = own; tokens = ts; letters = ls }))) None
by_emptiness true session own ts ls = sym (none_either_way (eqb own session))
by_emptiness false session own ts ls = refl

-- a mailbox that is exact is one of a session where it is that session's
pub of_session : (session own : ℕ) (ts : List mail.Token) (ls : List Letter) → option_and_then (if_of_session session) (mail_record own ts ls) ≡ cond (eqb own session) (mail_record own ts ls) None
of_session session own ts ls = by_emptiness _ session own ts ls

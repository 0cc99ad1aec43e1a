-- Changes that touch the rows of certain files alone, and waiters, letters and holds whose records are written, do nothing beside.
use Rattle.std.proofs.Common.{◌≡◌, ℕ, Bool, true, false, cond, not, ◌==◌, ◌&&◌, ◌||◌, List, [], ◌∷◌, ◌++◌, map, filter, Option, Some, None, refl, sym, ap, ◌∙◌, subst, inl, inr, ◌⊎◌, eq-eqb}
use Rattle.std.specs.Prelude.{IfSome}
use Rattle.std.specs.List.{list_all, AllByRecursion}
use Rattle.std.specs.Option.{option_map_or}
use Rattle.std.proofs.lemmas.Bool.{and_parts, and_left, both_ways, eqb-true, cond-false, false_from_ne_true, not_from_false}
use Rattle.sid_core.specs.declared.ids.Sid.{Sid}
use Rattle.sid_core.specs.declared.ids.LeaseName.{LeaseName}
use Rattle.sid_core.specs.declared.setup.Setup.{Setup}
use Rattle.sid_core.specs.Ids.{same_sid}
use Rattle.serial_table.specs.declared.rows.OpenRow.{OpenRow}
use Rattle.serial_table.specs.declared.rows.HoldRow.{HoldRow}
use Rattle.serial_table.specs.declared.rows.WaiterRow.{WaiterRow}
use Rattle.serial_table.specs.declared.table.Table.{Table}
use Rattle.serial_table.specs.declared.change.Change.{Change}
use Rattle.serial_table.specs.declared.change.Change.TheVariants as c
use Rattle.serial_table.specs.View.{view, lives, is_of_file, is_hold_of, is_to}
use Rattle.serial_table.specs.File.{file_view, file_open}
use Rattle.serial_table.specs.Settle.{settle, settle_where}
use Rattle.serial_table.specs.Change.{perform, perform_all, is_hold, set_hold, is_other_wait}
use Rattle.serial_table.specs.Local.{is_in, perform_beside}
use Rattle.serial_table.proofs.Names.{same_sid-eq}
use Rattle.serial_table.proofs.Members.{IsIn, in_filter, in_push}
use Rattle.serial_table.proofs.Filters.{filter_one_out, filter_dropped_out, map_left_alone}
use Rattle.serial_table.proofs.Views.{view-perform}
use Rattle.serial_table.proofs.Files.{file_view-perform}
use Rattle.serial_table.proofs.Apart.{file_view-beside}
use Rattle.serial_table.proofs.Settled.{IsSettled, files_settled}
use Rattle.serial_table.proofs.OtherFiles.{leaves_others, leaves_settled}
use Rattle.stored_table.specs.Places.{Place, among}
use Rattle.stored_table.specs.Decoded.{AllRecords}
use Rattle.table_laws.proofs.Lists.{filter_every, filter_joined, filter_twice}
use Rattle.table_laws.proofs.Contained.{share_place, ranges_place, lock_place, lease_place, register_place, mail_place, spot_place, SameFile, register_watchers, IsMetWaiter, WaitsStep, IsMetName, Contained}

-- ---- what a change touches

-- its rows of opens, leases and ranges are of these files; no session ends or begins, and no open is taken over
abbrev pub touches : (ℕ → Bool) → Change → Bool
touches here (c.AddOpen row) = here row.file
touches here (c.DropOpen file id) = here file
touches here (c.TakeOver file id owner handle) = false
touches here (c.AddLease lease) = here lease.file
touches here (c.SetLease file name held breaking) = here file
touches here (c.Acknowledge file name state) = here file
touches here (c.AddRange range) = here range.file
touches here (c.DropRange range) = here range.file
touches here (c.AddPending file) = here file
touches here (c.DropPending file) = here file
touches here (c.EndSession sid moment) = false
touches here (c.NextSession sid moment) = false
touches here _ = true

abbrev pub meets_name : List Place → Option LeaseName → Bool
meets_name ps lease = option_map_or (λ name. among (lease_place name) ps) lease true

abbrev pub meets_waiter : Setup → List Place → WaiterRow → Bool
meets_waiter setup ps x = among (mail_place x.sid.pid) ps && (among (spot_place setup x.spot) ps && option_map_or (λ b. among (register_place b.pid) ps) x.blocker true)

-- the records of locks, waiters, letters and of the lease of an open that comes are written
abbrev pub reaches : Setup → List Place → Change → Bool
reaches setup ps (c.AddOpen row) = meets_name ps row.lease
reaches setup ps (c.AddHold hold) = among (lock_place hold.key) ps
reaches setup ps (c.SetHold key owner mode) = among (lock_place key) ps
reaches setup ps (c.DropHold key owner) = among (lock_place key) ps
reaches setup ps (c.AddWaiter x) = meets_waiter setup ps x
reaches setup ps (c.DropWaiter sid call) = among (mail_place sid.pid) ps
reaches setup ps (c.Send post) = among (mail_place post.to.pid) ps
reaches setup ps (c.TakeLetter to) = among (mail_place to.pid) ps
reaches setup ps _ = true

-- No register record watches the call of a waiter that comes.
abbrev pub IsNewWait : AllRecords → WaiterRow → Type 0
IsNewWait s x = (pid : ℕ) → AllByRecursion (λ w. (same_sid x.sid w.sid && (x.call == w.call)) ≡ false) (register_watchers s pid)

abbrev pub IsNewIn : AllRecords → Change → Type 0
IsNewIn s (c.AddWaiter x) = IsNewWait s x
IsNewIn s _ = Unit {0}

-- ---- files that aren't touched

rows_back : (alive : Sid → Bool) (rows : List OpenRow) → map (λ o. o.row) (map (file_open alive) rows) ≡ rows
rows_back alive [] = refl
rows_back alive (row ∷ rows) = ap (λ rs. row ∷ rs) (rows_back alive rows)

same_of : (g : ℕ) (t u : Table) → file_view g (view u) ≡ file_view g (view t) → SameFile g (view t) (view u)
same_of g t u e = record {
  opens = sym (rows_back (lives (view u)) ((view u).opens_of g)) ∙ ap (λ (f : Rattle.serial_table.specs.File.FileView). map (λ o. o.row) f.opens) e ∙ rows_back (lives (view t)) ((view t).opens_of g);
  ranges = ap (λ (f : Rattle.serial_table.specs.File.FileView). f.ranges) e;
  pending = ap (λ (f : Rattle.serial_table.specs.File.FileView). f.pending) e;
  leases = λ name. ap (λ (f : Rattle.serial_table.specs.File.FileView). f.leases name) e;
}

pub same_refl : (g : ℕ) (t : Table) → SameFile g (view t) (view t)
same_refl g t = record { opens = refl; ranges = refl; pending = refl; leases = λ name. refl }

pub same_then : (g : ℕ) (t u x : Table) → SameFile g (view t) (view u) → SameFile g (view u) (view x) → SameFile g (view t) (view x)
same_then g t u x a b = record { opens = b.opens ∙ a.opens; ranges = b.ranges ∙ a.ranges; pending = b.pending ∙ a.pending; leases = λ name. b.leases name ∙ a.leases name }

module _ (here : ℕ → Bool) (g : ℕ) (out : here g ≡ false) where
  other : (f : ℕ) → here f ≡ true → (f == g) ≡ false
  other f e = false_from_ne_true (f == g) (λ same. both_ways (here g) out (ap here (sym (eqb-true f g same)) ∙ e))

  beside : (f : ℕ) (change : Change) (t : Table) → here f ≡ true → is_in (lives (view t)) f change ≡ true → perform_beside change (file_view g (view t)) ≡ file_view g (view t) → IsSettled t g
      → SameFile g (view t) (view (perform change t))
  beside f change t h e same s = same_of g t (perform change t) (file_view-beside f g change t (other f h) e s ∙ same)

  pub file_stays : (change : Change) (t : Table) → touches here change ≡ true → IsSettled t g → SameFile g (view t) (view (perform change t))
  file_stays (c.AddOpen row) t h s = record {
    opens = filter_one_out (is_of_file g) row t.opens (other row.file h);
    ranges = refl;
    pending = refl;
    leases = λ name. refl;
  }
  file_stays (c.DropOpen f id) t h s = beside f (c.DropOpen f id) t h (eq-eqb f f refl) refl s
  file_stays (c.TakeOver f id owner handle) t h s = absurd cc
  file_stays (c.AddLease lease) t h s = beside lease.file (c.AddLease lease) t h (eq-eqb lease.file lease.file refl) refl s
  file_stays (c.SetLease f name held breaking) t h s = beside f (c.SetLease f name held breaking) t h (eq-eqb f f refl) refl s
  file_stays (c.Acknowledge f name state) t h s = beside f (c.Acknowledge f name state) t h (eq-eqb f f refl) refl s
  file_stays (c.AddRange range) t h s = beside range.file (c.AddRange range) t h (eq-eqb range.file range.file refl) refl s
  file_stays (c.DropRange range) t h s = beside range.file (c.DropRange range) t h (eq-eqb range.file range.file refl) refl s
  file_stays (c.AddPending f) t h s = beside f (c.AddPending f) t h (eq-eqb f f refl) refl s
  file_stays (c.DropPending f) t h s = beside f (c.DropPending f) t h (eq-eqb f f refl) refl s
  file_stays (c.AddHold hold) t h s = record { opens = refl; ranges = refl; pending = refl; leases = λ name. refl }
  file_stays (c.SetHold key owner mode) t h s = record { opens = refl; ranges = refl; pending = refl; leases = λ name. refl }
  file_stays (c.DropHold key owner) t h s = record { opens = refl; ranges = refl; pending = refl; leases = λ name. refl }
  file_stays (c.AddWaiter x) t h s = record { opens = refl; ranges = refl; pending = refl; leases = λ name. refl }
  file_stays (c.DropWaiter sid call) t h s = record { opens = refl; ranges = refl; pending = refl; leases = λ name. refl }
  file_stays (c.Send post) t h s = record { opens = refl; ranges = refl; pending = refl; leases = λ name. refl }
  file_stays (c.TakeLetter to) t h s = record { opens = refl; ranges = refl; pending = refl; leases = λ name. refl }
  file_stays (c.EndSession sid moment) t h s = absurd cc
  file_stays (c.NextSession sid moment) t h s = absurd cc
  file_stays c.Settle t h s = same_of g t (perform c.Settle t) (file_view-perform g c.Settle t refl ∙ s)

  still : (f : ℕ) (change : Change) (t : Table) → here f ≡ true → leaves_others f change ≡ true → IsSettled t g → IsSettled (perform change t) g
  still f change t h e s = leaves_settled f g change t (other f h) e s

  next_file : (x : ℕ) → (Rattle.std.proofs.Common.suc x == x) ≡ false
  next_file x = false_from_ne_true (Rattle.std.proofs.Common.suc x == x) (λ e. let k : Rattle.std.proofs.Common.suc x ≡ x = eqb-true (Rattle.std.proofs.Common.suc x) x e in omega (Rattle.std.proofs.Common.arith, k))

  -- a change of no file leaves each settled
  of_none : (change : Change) (t : Table) → leaves_others (Rattle.std.proofs.Common.suc g) change ≡ true → IsSettled t g → IsSettled (perform change t) g
  of_none change t e s = leaves_settled (Rattle.std.proofs.Common.suc g) g change t (next_file g) e s

  pub stays_settled : (change : Change) (t : Table) → touches here change ≡ true → IsSettled t g → IsSettled (perform change t) g
  stays_settled (c.AddOpen row) t h s = still row.file (c.AddOpen row) t h (eq-eqb row.file row.file refl) s
  stays_settled (c.DropOpen f id) t h s = still f (c.DropOpen f id) t h (eq-eqb f f refl) s
  stays_settled (c.TakeOver f id owner handle) t h s = absurd cc
  stays_settled (c.AddLease lease) t h s = still lease.file (c.AddLease lease) t h (eq-eqb lease.file lease.file refl) s
  stays_settled (c.SetLease f name held breaking) t h s = still f (c.SetLease f name held breaking) t h (eq-eqb f f refl) s
  stays_settled (c.Acknowledge f name state) t h s = still f (c.Acknowledge f name state) t h (eq-eqb f f refl) s
  stays_settled (c.AddRange range) t h s = of_none (c.AddRange range) t refl s
  stays_settled (c.DropRange range) t h s = of_none (c.DropRange range) t refl s
  stays_settled (c.AddPending f) t h s = still f (c.AddPending f) t h (eq-eqb f f refl) s
  stays_settled (c.DropPending f) t h s = still f (c.DropPending f) t h (eq-eqb f f refl) s
  stays_settled (c.AddHold hold) t h s = of_none (c.AddHold hold) t refl s
  stays_settled (c.SetHold key owner mode) t h s = of_none (c.SetHold key owner mode) t refl s
  stays_settled (c.DropHold key owner) t h s = of_none (c.DropHold key owner) t refl s
  stays_settled (c.AddWaiter x) t h s = of_none (c.AddWaiter x) t refl s
  stays_settled (c.DropWaiter sid call) t h s = of_none (c.DropWaiter sid call) t refl s
  stays_settled (c.Send post) t h s = of_none (c.Send post) t refl s
  stays_settled (c.TakeLetter to) t h s = of_none (c.TakeLetter to) t refl s
  stays_settled (c.EndSession sid moment) t h s = absurd cc
  stays_settled (c.NextSession sid moment) t h s = absurd cc
  stays_settled c.Settle t h s = of_none c.Settle t refl s

-- ---- workers

abbrev pub keeps_ended : (ℕ → Bool) → Change → Table → Type 0
keeps_ended here change t = ((perform change t).workers ≡ t.workers) × ((perform change t).ended ≡ t.ended)

sessions_stay : (here : ℕ → Bool) (change : Change) (t : Table) → touches here change ≡ true → keeps_ended here change t
unfolding settle_where
sessions_stay here (c.AddOpen row) t h = (refl, refl)
sessions_stay here (c.DropOpen f id) t h = (refl, refl)
sessions_stay here (c.TakeOver f id owner handle) t h = absurd cc
sessions_stay here (c.AddLease lease) t h = (refl, refl)
sessions_stay here (c.SetLease f name held breaking) t h = (refl, refl)
sessions_stay here (c.Acknowledge f name state) t h = (refl, refl)
sessions_stay here (c.AddRange range) t h = (refl, refl)
sessions_stay here (c.DropRange range) t h = (refl, refl)
sessions_stay here (c.AddPending f) t h = (refl, refl)
sessions_stay here (c.DropPending f) t h = (refl, refl)
sessions_stay here (c.AddHold hold) t h = (refl, refl)
sessions_stay here (c.SetHold key owner mode) t h = (refl, refl)
sessions_stay here (c.DropHold key owner) t h = (refl, refl)
sessions_stay here (c.AddWaiter x) t h = (refl, refl)
sessions_stay here (c.DropWaiter sid call) t h = (refl, refl)
sessions_stay here (c.Send post) t h = (refl, refl)
sessions_stay here (c.TakeLetter to) t h = (refl, refl)
sessions_stay here (c.EndSession sid moment) t h = absurd cc
sessions_stay here (c.NextSession sid moment) t h = absurd cc
sessions_stay here c.Settle t h = (refl, refl)

-- ---- opens

abbrev pub IsAdded : OpenRow → Change → Type 0
IsAdded o (c.AddOpen row) = row ≡ o
IsAdded o _ = ⊥

-- an open was there before, or is the one that comes
pub open_before : (here : ℕ → Bool) (change : Change) (t : Table) (o : OpenRow) → touches here change ≡ true → IsIn o (perform change t).opens → IsIn o t.opens ⊎ IsAdded o change
unfolding settle_where
open_before here (c.AddOpen row) t o h i = in_push t.opens row o i
open_before here (c.DropOpen f id) t o h i = inl (in_filter _ t.opens o i).0
open_before here (c.TakeOver f id owner handle) t o h i = absurd cc
open_before here (c.AddLease lease) t o h i = inl i
open_before here (c.SetLease f name held breaking) t o h i = inl i
open_before here (c.Acknowledge f name state) t o h i = inl i
open_before here (c.AddRange range) t o h i = inl i
open_before here (c.DropRange range) t o h i = inl i
open_before here (c.AddPending f) t o h i = inl i
open_before here (c.DropPending f) t o h i = inl i
open_before here (c.AddHold hold) t o h i = inl i
open_before here (c.SetHold key owner mode) t o h i = inl i
open_before here (c.DropHold key owner) t o h i = inl i
open_before here (c.AddWaiter x) t o h i = inl i
open_before here (c.DropWaiter sid call) t o h i = inl i
open_before here (c.Send post) t o h i = inl i
open_before here (c.TakeLetter to) t o h i = inl i
open_before here (c.EndSession sid moment) t o h i = absurd cc
open_before here (c.NextSession sid moment) t o h i = absurd cc
open_before here c.Settle t o h i = inl (in_filter _ t.opens o i).0

-- ---- holds and letters

hold_apart : (key k : ℕ) (ps : List Place) → among (lock_place k) ps ≡ false → among (lock_place key) ps ≡ true → (key == k) ≡ false
hold_apart key k ps unmet met = false_from_ne_true (key == k) (λ e. both_ways (among (lock_place k) ps) unmet (ap (λ x. among (lock_place x) ps) (sym (eqb-true key k e)) ∙ met))

-- a hold of one lock isn't one of another
not_it : (k key : ℕ) (owner : Sid) (hold : HoldRow) → (key == k) ≡ false → is_hold_of k hold ≡ true → is_hold key owner hold ≡ false
not_it k key owner hold apart e =
    and_left (hold.key == key) (same_sid hold.owner owner)
    (false_from_ne_true (hold.key == key) (λ same. both_ways (key == k) apart (ap (λ x. x == k) (sym (eqb-true hold.key key same)) ∙ e)))

module _ (setup : Setup) (ps : List Place) (k : ℕ) (unmet : among (lock_place k) ps ≡ false) where
  pub holds_stay : (change : Change) (t : Table) (here : ℕ → Bool) → touches here change ≡ true → reaches setup ps change ≡ true → (view (perform change t)).holds_of k ≡ (view t).holds_of k
  unfolding settle_where set_hold
  holds_stay (c.AddHold hold) t here h r = filter_one_out (is_hold_of k) hold t.holds (hold_apart hold.key k ps unmet r)
  holds_stay (c.SetHold key owner mode) t here h r =
      ap (λ v. v.holds_of k) (view-perform (c.SetHold key owner mode) t)
      ∙ map_left_alone (is_hold_of k) (set_hold key owner mode)
      (λ hold e. cond-false (is_hold key owner hold) (record hold { mode = mode }) hold (not_it k key owner hold (hold_apart key k ps unmet r) e)) t.holds
  holds_stay (c.DropHold key owner) t here h r =
      ap (λ v. v.holds_of k) (view-perform (c.DropHold key owner) t)
      ∙ filter_every (λ hold. not (is_hold key owner hold)) ((view t).holds_of k)
      (λ hold i. not_from_false (is_hold key owner hold) (not_it k key owner hold (hold_apart key k ps unmet r) (in_filter (is_hold_of k) t.holds hold i).1))
  holds_stay (c.AddOpen row) t here h r = refl
  holds_stay (c.DropOpen f id) t here h r = refl
  holds_stay (c.TakeOver f id owner handle) t here h r = absurd cc
  holds_stay (c.AddLease lease) t here h r = refl
  holds_stay (c.SetLease f name held breaking) t here h r = refl
  holds_stay (c.Acknowledge f name state) t here h r = refl
  holds_stay (c.AddRange range) t here h r = refl
  holds_stay (c.DropRange range) t here h r = refl
  holds_stay (c.AddPending f) t here h r = refl
  holds_stay (c.DropPending f) t here h r = refl
  holds_stay (c.AddWaiter x) t here h r = refl
  holds_stay (c.DropWaiter sid call) t here h r = refl
  holds_stay (c.Send post) t here h r = refl
  holds_stay (c.TakeLetter to) t here h r = refl
  holds_stay (c.EndSession sid moment) t here h r = absurd cc
  holds_stay (c.NextSession sid moment) t here h r = absurd cc
  holds_stay c.Settle t here h r = refl

module _ (setup : Setup) (ps : List Place) (sid : Sid) (unmet : among (mail_place sid.pid) ps ≡ false) where
  letter_apart : (to : Sid) → among (mail_place to.pid) ps ≡ true → same_sid to sid ≡ false
  letter_apart to met = false_from_ne_true (same_sid to sid) (λ e. both_ways (among (mail_place sid.pid) ps) unmet (ap (λ (k : Sid). among (mail_place k.pid) ps) (sym (same_sid-eq to sid e)) ∙ met))

  pub letters_stay : (change : Change) (t : Table) (here : ℕ → Bool) → touches here change ≡ true → reaches setup ps change ≡ true → (view (perform change t)).letters_of sid ≡ (view t).letters_of sid
  unfolding settle_where
  letters_stay (c.Send post) t here h r = filter_one_out (is_to sid) post t.letters (letter_apart post.to r)
  letters_stay (c.TakeLetter to) t here h r =
      filter_dropped_out (is_to to) (is_to sid) (λ post e. ap (λ (k : Sid). same_sid k sid) (same_sid-eq post.to to e) ∙ letter_apart to r) t.letters
  letters_stay (c.AddHold hold) t here h r = refl
  letters_stay (c.SetHold key owner mode) t here h r = refl
  letters_stay (c.DropHold key owner) t here h r = refl
  letters_stay (c.AddOpen row) t here h r = refl
  letters_stay (c.DropOpen f id) t here h r = refl
  letters_stay (c.TakeOver f id owner handle) t here h r = absurd cc
  letters_stay (c.AddLease lease) t here h r = refl
  letters_stay (c.SetLease f name held breaking) t here h r = refl
  letters_stay (c.Acknowledge f name state) t here h r = refl
  letters_stay (c.AddRange range) t here h r = refl
  letters_stay (c.DropRange range) t here h r = refl
  letters_stay (c.AddPending f) t here h r = refl
  letters_stay (c.DropPending f) t here h r = refl
  letters_stay (c.AddWaiter x) t here h r = refl
  letters_stay (c.DropWaiter own call) t here h r = refl
  letters_stay (c.EndSession own moment) t here h r = absurd cc
  letters_stay (c.NextSession own moment) t here h r = absurd cc
  letters_stay c.Settle t here h r = refl

-- ---- waiters

module _ (setup : Setup) (ps : List Place) (s : AllRecords) where
  pub waits_refl : (t : Table) → WaitsStep setup ps s t t
  waits_refl t = record {
    stays = λ sid call. true;
    new = [];
    rows = sym (Rattle.table_laws.proofs.Lists.append_nothing (filter (λ _. true) t.waiters) ∙ filter_every (λ _. true) t.waiters (λ x i. refl));
    dropped = λ x i e. absurd cc;
    added = λ x i. absurd i;
  }

  joined : (a b d : List WaiterRow) → (a ++ b) ++ d ≡ a ++ (b ++ d)
  joined [] b d = refl
  joined (x ∷ a) b d = ap (λ ys. x ∷ ys) (joined a b d)

  met_waiter : (x : WaiterRow) → meets_waiter setup ps x ≡ true → IsNewWait s x → IsMetWaiter setup ps s x
  met_waiter x m new =
      let p = and_parts (among (mail_place x.sid.pid) ps) _ m in
      let q = and_parts (among (spot_place setup x.spot) ps) _ p.1 in
      record { mail = p.0; spot = q.0; blocker = by x.blocker q.1; fresh = new }
    where
      by : (o : Option Sid) → option_map_or (λ b. among (register_place b.pid) ps) o true ≡ true → IfSome o (λ b. among (register_place b.pid) ps ≡ true)
      by None e = tt
      by (Some b) e = e

  pub same_waits : (t u x : Table) → x.waiters ≡ u.waiters → WaitsStep setup ps s t u → WaitsStep setup ps s t x
  same_waits t u x e w = record { stays = w.stays; new = w.new; rows = e ∙ w.rows; dropped = w.dropped; added = w.added }

  waiter_comes : (t u : Table) (x : WaiterRow) → IsMetWaiter setup ps s x → WaitsStep setup ps s t u → WaitsStep setup ps s t (perform (c.AddWaiter x) u)
  waiter_comes t u x m w = record {
    stays = w.stays;
    new = w.new ++ x ∷ [];
    rows = ap (λ xs. xs ++ x ∷ []) w.rows ∙ joined (filter (λ y. w.stays y.sid y.call) t.waiters) w.new (x ∷ []);
    dropped = w.dropped;
    added = λ y i. one y (in_push w.new x y i);
  }
    where
      one : (y : WaiterRow) → IsIn y w.new ⊎ (x ≡ y) → IsMetWaiter setup ps s y
      one y (inl i) = w.added y i
      one y (inr e) = subst (IsMetWaiter setup ps s) e m

  waiter_goes : (t u : Table) (sid : Sid) (call : ℕ) → among (mail_place sid.pid) ps ≡ true → WaitsStep setup ps s t u → WaitsStep setup ps s t (perform (c.DropWaiter sid call) u)
  waiter_goes t u sid call m w =
      let k : WaiterRow → Bool = λ x. is_other_wait sid call x.sid x.call in
      record {
        stays = λ own number. w.stays own number && is_other_wait sid call own number;
        new = filter k w.new;
        rows =
            ap (filter k) w.rows
            ∙ filter_joined k (filter (λ x. w.stays x.sid x.call) t.waiters) w.new
            ∙ ap (λ xs. xs ++ filter k w.new) (filter_twice (λ x. w.stays x.sid x.call) k t.waiters);
        dropped = λ x i e. gone x i (w.stays x.sid x.call) refl e;
        added = λ x i. w.added x (in_filter k w.new x i).0;
      }
    where
      gone : (x : WaiterRow) → IsIn x t.waiters → (b : Bool) → w.stays x.sid x.call ≡ b → (b && is_other_wait sid call x.sid x.call) ≡ false → among (mail_place x.sid.pid) ps ≡ true
      gone x i false st e = w.dropped x i st
      gone x i true st e = ap (λ (z : Sid). among (mail_place z.pid) ps) (same_sid-eq x.sid sid (and_parts (same_sid x.sid sid) (x.call == call) (twice (same_sid x.sid sid && (x.call == call)) e)).0) ∙ m
        where
          twice : (b : Bool) → not b ≡ false → b ≡ true
          twice true e = refl
          twice false e = absurd cc

  waits_step : (change : Change) (t u : Table) (here : ℕ → Bool) → touches here change ≡ true → reaches setup ps change ≡ true → IsNewIn s change → WaitsStep setup ps s t u → WaitsStep setup ps s t (perform change u)
  unfolding settle_where
  waits_step (c.AddWaiter x) t u here h r new w = waiter_comes t u x (met_waiter x r new) w
  waits_step (c.DropWaiter sid call) t u here h r new w = waiter_goes t u sid call r w
  waits_step (c.AddOpen row) t u here h r new w = same_waits t u (perform (c.AddOpen row) u) refl w
  waits_step (c.DropOpen f id) t u here h r new w = same_waits t u (perform (c.DropOpen f id) u) refl w
  waits_step (c.TakeOver f id owner handle) t u here h r new w = absurd cc
  waits_step (c.AddLease lease) t u here h r new w = same_waits t u (perform (c.AddLease lease) u) refl w
  waits_step (c.SetLease f name held breaking) t u here h r new w = same_waits t u (perform (c.SetLease f name held breaking) u) refl w
  waits_step (c.Acknowledge f name state) t u here h r new w = same_waits t u (perform (c.Acknowledge f name state) u) refl w
  waits_step (c.AddRange range) t u here h r new w = same_waits t u (perform (c.AddRange range) u) refl w
  waits_step (c.DropRange range) t u here h r new w = same_waits t u (perform (c.DropRange range) u) refl w
  waits_step (c.AddPending f) t u here h r new w = same_waits t u (perform (c.AddPending f) u) refl w
  waits_step (c.DropPending f) t u here h r new w = same_waits t u (perform (c.DropPending f) u) refl w
  waits_step (c.AddHold hold) t u here h r new w = same_waits t u (perform (c.AddHold hold) u) refl w
  waits_step (c.SetHold key owner mode) t u here h r new w = same_waits t u (perform (c.SetHold key owner mode) u) refl w
  waits_step (c.DropHold key owner) t u here h r new w = same_waits t u (perform (c.DropHold key owner) u) refl w
  waits_step (c.Send post) t u here h r new w = same_waits t u (perform (c.Send post) u) refl w
  waits_step (c.TakeLetter to) t u here h r new w = same_waits t u (perform (c.TakeLetter to) u) refl w
  waits_step (c.EndSession sid moment) t u here h r new w = absurd cc
  waits_step (c.NextSession sid moment) t u here h r new w = absurd cc
  waits_step c.Settle t u here h r new w = same_waits t u (perform c.Settle u) refl w

  -- ---- all of it, change by change

  abbrev pub Named : (ℕ → Bool) → Table → Type 0
  Named here t = (o : OpenRow) → IsIn o t.opens → here o.file ≡ true → IsMetName ps o.lease

  named_step : (here : ℕ → Bool) (change : Change) (t : Table) → touches here change ≡ true → reaches setup ps change ≡ true → Named here t → Named here (perform change t)
  named_step here change t h r names o i e = by change h r (open_before here change t o h i)
    where
      met : (lease : Option LeaseName) → meets_name ps lease ≡ true → IsMetName ps lease
      met None m = tt
      met (Some name) m = m

      by : (d : Change) → touches here d ≡ true → reaches setup ps d ≡ true → IsIn o t.opens ⊎ IsAdded o d → IsMetName ps o.lease
      by d h r (inl k) = names o k e
      by (c.AddOpen row) h r (inr k) = subst (λ (x : OpenRow). IsMetName ps x.lease) k (met row.lease r)
      by (c.DropOpen f id) h r (inr k) = absurd k
      by (c.TakeOver f id owner handle) h r (inr k) = absurd k
      by (c.AddLease lease) h r (inr k) = absurd k
      by (c.SetLease f name held breaking) h r (inr k) = absurd k
      by (c.Acknowledge f name state) h r (inr k) = absurd k
      by (c.AddRange range) h r (inr k) = absurd k
      by (c.DropRange range) h r (inr k) = absurd k
      by (c.AddPending f) h r (inr k) = absurd k
      by (c.DropPending f) h r (inr k) = absurd k
      by (c.AddHold hold) h r (inr k) = absurd k
      by (c.SetHold key owner mode) h r (inr k) = absurd k
      by (c.DropHold key owner) h r (inr k) = absurd k
      by (c.AddWaiter x) h r (inr k) = absurd k
      by (c.DropWaiter sid call) h r (inr k) = absurd k
      by (c.Send post) h r (inr k) = absurd k
      by (c.TakeLetter to) h r (inr k) = absurd k
      by (c.EndSession sid moment) h r (inr k) = absurd k
      by (c.NextSession sid moment) h r (inr k) = absurd k
      by c.Settle h r (inr k) = absurd k

  -- what is kept along the changes: all but which files are written
  pub record Along (here : ℕ → Bool) (t u : Table) : Type 0 where
    pub others : (file : ℕ) → here file ≡ false → SameFile file (view t) (view u)
    pub settled : (file : ℕ) → here file ≡ false → IsSettled u file
    pub names : Named here u
    pub workers : u.workers ≡ t.workers
    pub ended : u.ended ≡ t.ended
    pub holds : (key : ℕ) → among (lock_place key) ps ≡ false → (view u).holds_of key ≡ (view t).holds_of key
    pub letters : (sid : Sid) → among (mail_place sid.pid) ps ≡ false → (view u).letters_of sid ≡ (view t).letters_of sid
    pub waits : WaitsStep setup ps s t u

  step : (here : ℕ → Bool) (t u : Table) (change : Change) → touches here change ≡ true → reaches setup ps change ≡ true → IsNewIn s change → Along here t u → Along here t (perform change u)
  step here t u change h r new a =
      let same = sessions_stay here change u h in
      record {
        others = λ file out. same_then file t u (perform change u) (a.others file out) (file_stays here file out change u h (a.settled file out));
        settled = λ file out. stays_settled here file out change u h (a.settled file out);
        names = named_step here change u h r a.names;
        workers = same.0 ∙ a.workers;
        ended = same.1 ∙ a.ended;
        holds = λ key unmet. holds_stay setup ps key unmet change u here h r ∙ a.holds key unmet;
        letters = λ sid unmet. letters_stay setup ps sid unmet change u here h r ∙ a.letters sid unmet;
        waits = waits_step change t u here h r new a.waits;
      }

  pub along : (here : ℕ → Bool) (t u : Table) (cs : List Change) → list_all (touches here) cs ≡ true → list_all (reaches setup ps) cs ≡ true → AllByRecursion (IsNewIn s) cs → Along here t u → Along here t (perform_all cs u)
  along here t u [] h r new a = a
  along here t u (change ∷ cs) h r new a =
      let p = and_parts (touches here change) (list_all (touches here) cs) h in
      let q = and_parts (reaches setup ps change) (list_all (reaches setup ps) cs) r in
      along here t (perform change u) cs p.1 q.1 new.1 (step here t u change p.0 q.0 new.0 a)

  -- Such changes do nothing beside the places that are written.
  pub contained : (here : ℕ → Bool) (t : Table) (cs : List Change) → ((file : ℕ) → here file ≡ true → (among (share_place setup file) ps ≡ true) × (among (ranges_place setup file) ps ≡ true))
      → ((o : OpenRow) → IsIn o t.opens → here o.file ≡ true → IsMetName ps o.lease) → settle t ≡ t
      → list_all (touches here) cs ≡ true → list_all (reaches setup ps) cs ≡ true → AllByRecursion (IsNewIn s) cs → Contained setup ps s t (perform_all cs t)
  contained here t cs written names settled h r new =
      let a = along here t t cs h r new (record {
        others = λ file out. same_refl file t;
        settled = λ file out. files_settled t settled file;
        names = names;
        workers = refl;
        ended = refl;
        holds = λ key unmet. refl;
        letters = λ sid unmet. refl;
        waits = waits_refl t;
      }) in
      record {
        here = here;
        written = written;
        others = a.others;
        names_before = names;
        names_after = a.names;
        workers = a.workers;
        ended = a.ended;
        holds = a.holds;
        letters = a.letters;
        waits = a.waits;
      }

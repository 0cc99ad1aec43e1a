-- Numbers rise along a legal history: those of the table are at most the last ones used. By pid, low gives the last number of a call.
use Rattle.std.proofs.Common.{◌≡◌, ◌==◌, ◌+◌, ◌≤◌, ◌&&◌, not, ℕ, true, false, map, Option, Some, None, sym, subst, arith}
use Rattle.std.specs.Prelude.{IfSome}
use Rattle.std.specs.List.{list_any}
use Rattle.std.specs.Option.{option_map_or}
use Rattle.std.proofs.lemmas.Bool.{eqb-true, and_parts, cond_both}
use Rattle.std.proofs.lemmas.Option.{IfSome_then}
use Rattle.sid_core.specs.declared.ids.Sid.{Sid}
use Rattle.sid_core.specs.declared.ids.OpenId.{OpenId}
use Rattle.sid_core.specs.declared.ids.Moment.{Moment}
use Rattle.sid_core.specs.declared.call.Mode.{Mode}
use Rattle.sid_core.specs.declared.entry.Post.{Post}
use Rattle.sid_core.specs.Ids.{same_sid}
use Rattle.serial_table.specs.declared.rows.OpenRow.{OpenRow}
use Rattle.serial_table.specs.declared.rows.HoldRow.{HoldRow}
use Rattle.serial_table.specs.declared.rows.WaiterRow.{WaiterRow}
use Rattle.serial_table.specs.declared.rows.WorkerRow.{WorkerRow}
use Rattle.serial_table.specs.declared.rows.EndedRow.{EndedRow}
use Rattle.serial_table.specs.declared.table.Table.{Table}
use Rattle.serial_table.specs.declared.change.Change.{Change}
use Rattle.serial_table.specs.declared.change.Change.TheVariants as c
use Rattle.serial_table.specs.View.{view, lives, is_of_handle, is_to}
use Rattle.serial_table.specs.Settle.{settle, settle_where, row_stays}
use Rattle.serial_table.specs.Change.{perform, is_open, is_other_open, is_other_wait, new_owner, is_hold, set_hold, outlives, end_session, end_at, begin_session}
use Rattle.serial_table.specs.Sound.{Fits}
use Rattle.serial_table.proofs.Members.{IsIn}
use Rattle.serial_table.proofs.Listed.{Listed, more, kept, left, changed}
use Rattle.serial_table.proofs.Living.{row_of}

-- The first session has number 1, and each call begins one at most.
abbrev pub IsSessionUpTo : (ℕ → ℕ) → Sid → Type 0
IsSessionUpTo low sid = sid.session ≤ low sid.pid + 1

pub record IsNumberedOpen (low : ℕ → ℕ) (o : OpenRow) : Type 0 where
  pub id : o.id.call ≤ low o.id.pid
  pub handle : o.handle ≤ low o.owner.pid
  pub owner : IsSessionUpTo low o.owner

pub record IsNumberedWaiter (low : ℕ → ℕ) (w : WaiterRow) : Type 0 where
  pub call : w.call ≤ low w.sid.pid
  pub sid : IsSessionUpTo low w.sid
  pub blocker : IfSome w.blocker (IsSessionUpTo low)

pub record IsNumbered (low : ℕ → ℕ) (t : Table) : Type 0 where
  pub opens : (o : OpenRow) → IsIn o t.opens → IsNumberedOpen low o
  pub holds : (hold : HoldRow) → IsIn hold t.holds → IsSessionUpTo low hold.owner
  pub waiters : (w : WaiterRow) → IsIn w t.waiters → IsNumberedWaiter low w
  pub letters : (post : Post) → IsIn post t.letters → IsSessionUpTo low post.to
  pub workers : (worker : WorkerRow) → IsIn worker t.workers → worker.session ≤ low worker.pid + 1
  pub ended : (row : EndedRow) → IsIn row t.ended → IsSessionUpTo low row.sid

-- what a change asks of the table beside what it asks to fit
abbrev pub Numbers : (ℕ → ℕ) → Change → Table → Type 0
Numbers low (c.AddOpen o) t = (o.id.call ≤ low o.id.pid) × (o.handle ≤ low o.owner.pid)
Numbers low (c.TakeOver file id owner handle) t = handle ≤ low owner.pid
Numbers low (c.AddWaiter w) t = w.call ≤ low w.sid.pid
Numbers low (c.NextSession sid moment) t = sid.session ≤ low sid.pid
Numbers low _ t = Unit {0}

-- ---- higher numbers

at_least : (low high : ℕ → ℕ) → ((pid : ℕ) → low pid ≤ high pid) → (pid n : ℕ) → n ≤ low pid → n ≤ high pid
at_least low high h pid n e = let l : low pid ≤ high pid = h pid in omega arith

session_at_least : (low high : ℕ → ℕ) → ((pid : ℕ) → low pid ≤ high pid) → (pid n : ℕ) → n ≤ low pid + 1 → n ≤ high pid + 1
session_at_least low high h pid n e = let l : low pid ≤ high pid = h pid in omega arith

pub numbered_more : (low high : ℕ → ℕ) → ((pid : ℕ) → low pid ≤ high pid) → (t : Table) → IsNumbered low t → IsNumbered high t
numbered_more low high h t n =
    let session : (sid : Sid) → IsSessionUpTo low sid → IsSessionUpTo high sid = λ sid e. session_at_least low high h sid.pid sid.session e in
    record {
      opens = λ o i. let p = n.opens o i in record { id = at_least low high h o.id.pid o.id.call p.id; handle = at_least low high h o.owner.pid o.handle p.handle; owner = session o.owner p.owner };
      holds = λ hold i. session hold.owner (n.holds hold i);
      waiters = λ w i. let p = n.waiters w i in record { call = at_least low high h w.sid.pid w.call p.call; sid = session w.sid p.sid; blocker = IfSome_then w.blocker p.blocker session };
      letters = λ post i. session post.to (n.letters post i);
      workers = λ worker i. session_at_least low high h worker.pid worker.session (n.workers worker i);
      ended = λ row i. session row.sid (n.ended row i);
    }

-- ---- who lives has a session of these

pub session_of : (low : ℕ → ℕ) (t : Table) (sid : Sid) → IsNumbered low t → lives (view t) sid ≡ true → IsSessionUpTo low sid
session_of low t sid n e =
    let row = row_of t.workers sid e in
    let up : row.0.session ≤ low row.0.pid + 1 = n.workers row.0 row.1.within in
    subst (λ session. session ≤ low sid.pid + 1) row.1.session (subst (λ pid. row.0.session ≤ low pid + 1) row.1.pid up)

blocker_of : (low : ℕ → ℕ) (t : Table) (blocker : Option Sid) → IsNumbered low t → option_map_or (lives (view t)) blocker true ≡ true → IfSome blocker (IsSessionUpTo low)
blocker_of low t None n e = tt
blocker_of low t (Some sid) n e = session_of low t sid n e

-- ---- the lists of rows that have numbers, each with what holds of its rows; a change gives those that it alters

record Parts (low : ℕ → ℕ) : Type 0 where
  opens : Listed (IsNumberedOpen low)
  holds : Listed (λ (hold : HoldRow). IsSessionUpTo low hold.owner)
  waiters : Listed (IsNumberedWaiter low)
  letters : Listed (λ (post : Post). IsSessionUpTo low post.to)
  workers : Listed (λ (worker : WorkerRow). worker.session ≤ low worker.pid + 1)
  ended : Listed (λ (row : EndedRow). IsSessionUpTo low row.sid)

module _ {low : ℕ → ℕ} where
  abbrev parts : (t : Table) → IsNumbered low t → Parts low
  parts t n = record {
    opens = record { rows = t.opens; each = n.opens };
    holds = record { rows = t.holds; each = n.holds };
    waiters = record { rows = t.waiters; each = n.waiters };
    letters = record { rows = t.letters; each = n.letters };
    workers = record { rows = t.workers; each = n.workers };
    ended = record { rows = t.ended; each = n.ended };
  }

  abbrev with_parts : Table → Parts low → Table
  with_parts t p = record t { opens = p.opens.rows; holds = p.holds.rows; waiters = p.waiters.rows; letters = p.letters.rows; workers = p.workers.rows; ended = p.ended.rows }

  numbered : (t : Table) (p : Parts low) → IsNumbered low (with_parts t p)
  numbered t p = record { opens = p.opens.each; holds = p.holds.each; waiters = p.waiters.each; letters = p.letters.each; workers = p.workers.each; ended = p.ended.each }

-- ---- each change

open_taken : (low : ℕ → ℕ) (file : ℕ) (id : OpenId) (owner : Sid) (handle : ℕ) → IsSessionUpTo low owner → handle ≤ low owner.pid → (o : OpenRow) → IsNumberedOpen low o
    → IsNumberedOpen low (new_owner file id owner handle o)
unfolding new_owner
open_taken low file id owner handle session own o p =
    cond_both (is_open file id o) (record o { owner = owner; handle = handle }) o (IsNumberedOpen low) (λ _. record { id = p.id; handle = own; owner = session }) (λ _. p)

hold_set : (low : ℕ → ℕ) (key : ℕ) (owner : Sid) (mode : Mode) (hold : HoldRow) → IsSessionUpTo low hold.owner → IsSessionUpTo low (set_hold key owner mode hold).owner
unfolding set_hold
hold_set low key owner mode hold p = cond_both (is_hold key owner hold) (record hold { mode = mode }) hold (λ (x : HoldRow). IsSessionUpTo low x.owner) (λ _. p) (λ _. p)

worker_ends : (low : ℕ → ℕ) (sid : Sid) (w : WorkerRow) → w.session ≤ low w.pid + 1 → (end_session sid w).session ≤ low (end_session sid w).pid + 1
unfolding end_session
worker_ends low sid w p = cond_both ((w.pid == sid.pid) && (w.session == sid.session)) (record w { alive = false }) w (λ (x : WorkerRow). x.session ≤ low x.pid + 1) (λ _. p) (λ _. p)

worker_begins : (low : ℕ → ℕ) (sid : Sid) (moment : Moment) → sid.session ≤ low sid.pid → (w : WorkerRow) → w.session ≤ low w.pid + 1 → (begin_session sid moment w).session ≤ low (begin_session sid moment w).pid + 1
unfolding begin_session
worker_begins low sid moment next w p =
    cond_both ((w.pid == sid.pid) && (w.session == sid.session)) (record w { alive = true; session = sid.session + 1; connected = moment }) w (λ (x : WorkerRow). x.session ≤ low x.pid + 1)
    (λ e. let own : w.pid ≡ sid.pid = eqb-true w.pid sid.pid (and_parts (w.pid == sid.pid) (w.session == sid.session) e).0 in let below : sid.session ≤ low w.pid = subst (λ p. sid.session ≤ low p) (sym own) next in omega (arith, below)) (λ _. p)

pub numbered-perform : (low : ℕ → ℕ) (change : Change) (t : Table) → IsNumbered low t → Fits change t → Numbers low change t → IsNumbered low (perform change t)
unfolding settle_where
numbered-perform low (c.AddOpen o) t n fit own =
    let p = parts t n in numbered t (record p { opens = more p.opens o (record { id = own.0; handle = own.1; owner = session_of low t o.owner n fit.owner }) })
numbered-perform low (c.DropOpen file id) t n fit own = let p = parts t n in numbered (perform (c.DropOpen file id) t) (record p { opens = kept (is_other_open file id) p.opens })
numbered-perform low (c.TakeOver file id owner handle) t n fit own =
    let p = parts t n in
    cond_both (list_any (is_of_handle owner handle) t.opens) t (record t { opens = map (new_owner file id owner handle) t.opens }) (IsNumbered low) (λ _. n)
    (λ _. numbered t (record p { opens = changed (new_owner file id owner handle) (open_taken low file id owner handle (session_of low t owner n fit) own) p.opens }))
numbered-perform low (c.AddLease lease) t n fit own = numbered (perform (c.AddLease lease) t) (parts t n)
numbered-perform low (c.SetLease file name held breaking) t n fit own = numbered (perform (c.SetLease file name held breaking) t) (parts t n)
numbered-perform low (c.Acknowledge file name state) t n fit own = numbered (perform (c.Acknowledge file name state) t) (parts t n)
numbered-perform low (c.AddRange range) t n fit own = numbered (perform (c.AddRange range) t) (parts t n)
numbered-perform low (c.DropRange range) t n fit own = numbered (perform (c.DropRange range) t) (parts t n)
numbered-perform low (c.AddPending file) t n fit own = numbered (perform (c.AddPending file) t) (parts t n)
numbered-perform low (c.DropPending file) t n fit own = numbered (perform (c.DropPending file) t) (parts t n)
numbered-perform low (c.AddHold hold) t n fit own = let p = parts t n in numbered t (record p { holds = more p.holds hold (session_of low t hold.owner n fit.owner) })
numbered-perform low (c.SetHold key owner mode) t n fit own = let p = parts t n in numbered t (record p { holds = changed (set_hold key owner mode) (hold_set low key owner mode) p.holds })
numbered-perform low (c.DropHold key owner) t n fit own = let p = parts t n in numbered t (record p { holds = kept (λ hold. not (is_hold key owner hold)) p.holds })
numbered-perform low (c.AddWaiter w) t n fit own =
    let p = parts t n in
    let both = and_parts (lives (view t) w.sid) (option_map_or (lives (view t)) w.blocker true) fit.living in
    numbered t (record p { waiters = more p.waiters w (record { call = own; sid = session_of low t w.sid n both.0; blocker = blocker_of low t w.blocker n both.1 }) })
numbered-perform low (c.DropWaiter sid call) t n fit own = let p = parts t n in numbered t (record p { waiters = kept (λ w. is_other_wait sid call w.sid w.call) p.waiters })
numbered-perform low (c.Send post) t n fit own = let p = parts t n in numbered t (record p { letters = more p.letters post (session_of low t post.to n fit) })
numbered-perform low (c.TakeLetter to) t n fit own = let p = parts t n in numbered t (record p { letters = left (is_to to) p.letters })
numbered-perform low (c.EndSession sid moment) t n fit own =
    let p = parts t n in
    numbered (perform (c.EndSession sid moment) t) (record p {
      opens = kept (outlives sid) p.opens;
      holds = kept (λ hold. not (same_sid hold.owner sid)) p.holds;
      waiters = kept (λ w. not (same_sid w.sid sid)) p.waiters;
      letters = kept (λ post. not (is_to sid post)) p.letters;
      workers = changed (end_session sid) (worker_ends low sid) p.workers;
      ended = more p.ended (end_at sid moment) (session_of low t sid n fit.lives);
    })
numbered-perform low (c.NextSession sid moment) t n fit own = let p = parts t n in numbered t (record p { workers = changed (begin_session sid moment) (worker_begins low sid moment own) p.workers })
numbered-perform low c.Settle t n fit own = let p = parts t n in numbered (settle t) (record p { opens = kept (row_stays (λ file. true) (view t)) p.opens })

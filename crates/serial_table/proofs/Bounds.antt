-- Legal histories keep the table bounded.
use Rattle.std.proofs.Common.{◌≡◌, ◌==◌, ◌≤◌, ◌<◌, ◌+◌, ◌*◌, ℕ, zero, suc, Bool, true, false, cond, not, ◌&&◌, List, [], ◌∷◌, ◌++◌, length, filter, map, Option, Some, None, refl, ap, ◌∙◌, subst, inl, inr, arith}
use Rattle.std.specs.Prelude.{IfSome, slice_get}
use Rattle.std.specs.List.{IsDistinct, list_any, list_all, sum_by}
use Rattle.std.proofs.lemmas.Bool.{both_ways, cond_both, and_parts, and_from, eq-eqb, eqb-true}
use Rattle.std.proofs.lemmas.List.{length-map}
use Rattle.std.proofs.lemmas.List.Sums.{sum_by-cons, sum_by-append, sum_by-le}
use Rattle.std.proofs.lemmas.Option.{IfSome_then}
use Rattle.sid_core.specs.declared.call.Call.{Call}
use Rattle.sid_core.specs.declared.ids.Sid.{Sid}
use Rattle.sid_core.specs.declared.ids.Moment.{Moment}
use Rattle.sid_core.specs.declared.entry.Entry.{Entry}
use Rattle.sid_core.specs.declared.entry.Post.{Post}
use Rattle.sid_core.specs.declared.setup.Setup.{Setup}
use Rattle.sid_core.specs.declared.setup.WorkerInfo.{WorkerInfo}
use Rattle.sid_core.specs.Setup.{IsSetup}
use Rattle.sid_core.specs.Ids.{same_sid}
use Rattle.serial_table.specs.declared.rows.WaiterRow.{WaiterRow}
use Rattle.serial_table.specs.declared.rows.WorkerRow.{WorkerRow}
use Rattle.serial_table.specs.declared.table.Table.{Table}
use Rattle.serial_table.specs.declared.change.Change.{Change}
use Rattle.serial_table.specs.declared.change.Change.TheVariants as c
use Rattle.serial_table.specs.declared.decision.Caller.{Caller}
use Rattle.serial_table.specs.declared.decision.Decision.{Decision}
use Rattle.serial_table.specs.View.{View, view, is_of_handle, names_file}
use Rattle.serial_table.specs.Settle.{settle_where, row_stays, range_stays, lease_settles, lease_stays, pending_stays}
use Rattle.serial_table.specs.Wake.{wake}
use Rattle.serial_table.specs.Change.{perform, perform_all, is_other_open, is_other_range, new_owner, set_lease, same_range, is_hold, set_hold, with_pending, outlives, range_outlives, end_session, begin_session, end_at}
use Rattle.serial_table.specs.Decision.{waits_no_more, waits_now, settling, finishing, woken_by, conclude}
use Rattle.serial_table.specs.Session.{end_of_session}
use Rattle.serial_table.specs.Decide.{decide}
use Rattle.serial_table.specs.Expire.{expired_by}
use Rattle.serial_table.proofs.Expiring.{behind, expired_all}
use Rattle.serial_table.proofs.ExpiringFits.{expired_fits, expired_bits}
use Rattle.serial_table.specs.Step.{declared_at}
use Rattle.serial_table.specs.History.{start, start_workers, after, IsLegal}
use Rattle.serial_table.specs.Sound.{IsConsistent, Fits, AllFit}
use Rattle.serial_table.specs.Bounded.{IsSession, IsBounded}
use Rattle.serial_table.proofs.Members.{IsIn, all_by, some_same}
use Rattle.serial_table.proofs.Living.{row_of}
use Rattle.serial_table.proofs.Counting.{length_filtered, length_pushed, length_dropped, sum_more, sum_mapped}
use Rattle.serial_table.proofs.Waits.{waits_of, adds_waits, waits-perform, concluded_waits, ending_waits, grows}
use Rattle.serial_table.proofs.Losing.{to_lose, adds_bits, concluded_leases}
use Rattle.serial_table.proofs.Callers.{IsCallerOf}
use Rattle.serial_table.proofs.Numbered.{IsSessionUpTo}
use Rattle.serial_table.proofs.EndingSessions.{death_fits}
use Rattle.serial_table.proofs.Owing.{brings, begins, DecisionAdds, no_more_to_lose}
use Rattle.serial_table.proofs.Along.{raise, raised_more, raised_own, KeptByExpiry, KeptByCalls, KeptByDeaths, along_history}
use Rattle.serial_table.proofs.Soundness.{IsReached, call_holds, call_fits, dying_fits, expiries_reach, calls_reach, deaths_reach, start_reached}

-- ---- rows of opens, leases, ranges and holds, and files that are to go

opens-perform : (change : Change) (t : Table) → length (perform change t).opens ≤ length t.opens + brings change
unfolding settle_where
opens-perform (c.AddOpen o) t = omega (arith, length_pushed t.opens o)
opens-perform (c.DropOpen file id) t = omega (arith, length_filtered (is_other_open file id) t.opens)
opens-perform (c.TakeOver file id owner handle) t =
    cond_both (list_any (is_of_handle owner handle) t.opens) t (record t { opens = map (new_owner file id owner handle) t.opens }) (λ (u : Table). length u.opens ≤ length t.opens + 0) (λ _. omega arith)
    (λ _. omega (arith, length-map t.opens (new_owner file id owner handle)))
opens-perform (c.EndSession sid moment) t = omega (arith, length_filtered (outlives sid) t.opens)
opens-perform c.Settle t = omega (arith, length_filtered (row_stays (λ file. true) (view t)) t.opens)
opens-perform (c.AddLease lease) t = omega arith
opens-perform (c.AddRange range) t = omega arith
opens-perform (c.AddHold hold) t = omega arith
opens-perform _ t = omega arith

leases-perform : (change : Change) (t : Table) → length (perform change t).leases ≤ length t.leases + brings change
unfolding settle_where
leases-perform (c.AddLease lease) t = omega (arith, length_pushed t.leases lease)
leases-perform (c.SetLease file name held breaking) t = omega (arith, length-map t.leases (set_lease file name held breaking))
leases-perform (c.Acknowledge file name state) t = omega (arith, length-map t.leases (set_lease file name state None))
leases-perform (c.TakeOver file id owner handle) t =
    cond_both (list_any (is_of_handle owner handle) t.opens) t (record t { opens = map (new_owner file id owner handle) t.opens }) (λ (u : Table). length u.leases ≤ length t.leases + 0) (λ _. omega arith) (λ _. omega arith)
leases-perform c.Settle t =
    omega (arith, length_filtered (lease_stays (λ file. true) (view t)) (map (lease_settles (λ file. true) (view t)) t.leases), length-map t.leases (lease_settles (λ file. true) (view t)))
leases-perform _ t = omega arith

ranges-perform : (change : Change) (t : Table) → length (perform change t).ranges ≤ length t.ranges + brings change
unfolding settle_where
ranges-perform (c.AddRange range) t = omega (arith, length_pushed t.ranges range)
ranges-perform (c.DropRange range) t = omega (arith, length_dropped (same_range range) t.ranges)
ranges-perform (c.DropOpen file id) t = omega (arith, length_filtered (is_other_range file id) t.ranges)
ranges-perform (c.TakeOver file id owner handle) t =
    cond_both (list_any (is_of_handle owner handle) t.opens) t (record t { opens = map (new_owner file id owner handle) t.opens }) (λ (u : Table). length u.ranges ≤ length t.ranges + 0) (λ _. omega arith) (λ _. omega arith)
ranges-perform (c.EndSession sid moment) t = omega (arith, length_filtered (range_outlives (view t) sid) t.ranges)
ranges-perform c.Settle t = omega (arith, length_filtered (range_stays (λ file. true) (view t)) t.ranges)
ranges-perform _ t = omega arith

holds-perform : (change : Change) (t : Table) → length (perform change t).holds ≤ length t.holds + brings change
unfolding settle_where
holds-perform (c.AddHold hold) t = omega (arith, length_pushed t.holds hold)
holds-perform (c.SetHold key owner mode) t = omega (arith, length-map t.holds (set_hold key owner mode))
holds-perform (c.DropHold key owner) t = omega (arith, length_filtered (λ hold. not (is_hold key owner hold)) t.holds)
holds-perform (c.TakeOver file id owner handle) t =
    cond_both (list_any (is_of_handle owner handle) t.opens) t (record t { opens = map (new_owner file id owner handle) t.opens }) (λ (u : Table). length u.holds ≤ length t.holds + 0) (λ _. omega arith) (λ _. omega arith)
holds-perform (c.EndSession sid moment) t = omega (arith, length_filtered (λ hold. not (same_sid hold.owner sid)) t.holds)
holds-perform _ t = omega arith

pending-perform : (change : Change) (t : Table) → length (perform change t).pending ≤ length t.pending + brings change
unfolding settle_where with_pending
pending-perform (c.AddPending file) t =
    cond_both (list_any (names_file file) t.pending) t.pending (t.pending ++ file ∷ []) (λ (files : List ℕ). length files ≤ length t.pending + 1) (λ _. omega arith) (λ _. omega (arith, length_pushed t.pending file))
pending-perform (c.DropPending file) t = omega (arith, length_filtered (λ pending. not (names_file file pending)) t.pending)
pending-perform (c.TakeOver file id owner handle) t =
    cond_both (list_any (is_of_handle owner handle) t.opens) t (record t { opens = map (new_owner file id owner handle) t.opens }) (λ (u : Table). length u.pending ≤ length t.pending + 0) (λ _. omega arith) (λ _. omega arith)
pending-perform c.Settle t = omega (arith, length_filtered (pending_stays (λ file. true) (view t)) t.pending)
pending-perform _ t = omega arith

-- ---- workers

pub worker_count-perform : (change : Change) (t : Table) → length (perform change t).workers ≡ length t.workers
unfolding settle_where
worker_count-perform (c.TakeOver file id owner handle) t =
    cond_both (list_any (is_of_handle owner handle) t.opens) t (record t { opens = map (new_owner file id owner handle) t.opens }) (λ (u : Table). length u.workers ≡ length t.workers) (λ _. refl) (λ _. refl)
worker_count-perform (c.EndSession sid moment) t = length-map t.workers (end_session sid)
worker_count-perform (c.NextSession sid moment) t = length-map t.workers (begin_session sid moment)
worker_count-perform _ t = refl

worker_count-perform_all : (cs : List Change) (t : Table) → length (perform_all cs t).workers ≡ length t.workers
worker_count-perform_all [] t = refl
worker_count-perform_all (change ∷ cs) t = worker_count-perform_all cs (perform change t) ∙ worker_count-perform change t

-- ---- ended sessions, with the workers that live

abbrev living : List WorkerRow → ℕ
living workers = length (filter (λ (w : WorkerRow). w.alive) workers)

abbrev ended_and_living : Table → ℕ
ended_and_living t = length t.ended + living t.workers

end_here : (b : Bool) (x y : WorkerRow) (xs ys : List WorkerRow) → (y.alive ≡ true → x.alive ≡ true) → length ys + cond b 1 0 ≤ length xs
    → length (cond y.alive (y ∷ ys) ys) + cond b 1 0 ≤ length (cond x.alive (x ∷ xs) xs)
end_here b x y xs ys h l = cases y.alive x.alive h
  where
    cases : (p q : Bool) → (p ≡ true → q ≡ true) → length (cond p (y ∷ ys) ys) + cond b 1 0 ≤ length (cond q (x ∷ xs) xs)
    cases true true h = omega arith
    cases true false h = absurd (both_ways false refl (h refl))
    cases false true h = omega arith
    cases false false h = l

end_less : (sid : Sid) (w : WorkerRow) → (end_session sid w).alive ≡ true → w.alive ≡ true
unfolding end_session
end_less sid w = cond_both ((w.pid == sid.pid) && (w.session == sid.session)) (record w { alive = false }) w (λ (x : WorkerRow). x.alive ≡ true → w.alive ≡ true) (λ _ e. absurd cc) (λ _ e. e)

none_more : (sid : Sid) (workers : List WorkerRow) → living (map (end_session sid) workers) + 0 ≤ living workers
none_more sid [] = omega arith
none_more sid (w ∷ ws) = end_here false w (end_session sid w) (filter (λ (w : WorkerRow). w.alive) ws) (filter (λ (w : WorkerRow). w.alive) (map (end_session sid) ws)) (end_less sid w) (none_more sid ws)

ends_here : (x y : WorkerRow) (xs ys : List WorkerRow) → y.alive ≡ false → x.alive ≡ true → length ys + 0 ≤ length xs → length (cond y.alive (y ∷ ys) ys) + 1 ≤ length (cond x.alive (x ∷ xs) xs)
ends_here x y xs ys ey ex l = cases y.alive x.alive ey ex
  where
    cases : (p q : Bool) → p ≡ false → q ≡ true → length (cond p (y ∷ ys) ys) + 1 ≤ length (cond q (x ∷ xs) xs)
    cases false true f e = omega arith
    cases false false f e = absurd (both_ways false refl e)
    cases true q f e = absurd (both_ways true f refl)

ended_dead : (sid : Sid) (w : WorkerRow) → ((w.pid == sid.pid) && (w.session == sid.session)) ≡ true → (end_session sid w).alive ≡ false
unfolding end_session
ended_dead sid w e =
    cond_both ((w.pid == sid.pid) && (w.session == sid.session)) (record w { alive = false }) w (λ (x : WorkerRow). x.alive ≡ false) (λ _. refl) (λ f. absurd (both_ways ((w.pid == sid.pid) && (w.session == sid.session)) f e))

-- one that lived doesn't any more
one_less : (sid : Sid) (workers : List WorkerRow) (w : WorkerRow) → IsIn w workers → w.alive ≡ true → ((w.pid == sid.pid) && (w.session == sid.session)) ≡ true → living (map (end_session sid) workers) + 1 ≤ living workers
one_less sid [] w i a e = absurd i
one_less sid (x ∷ xs) w (inl h) a e =
    ends_here x (end_session sid x) (filter (λ (w : WorkerRow). w.alive) xs) (filter (λ (w : WorkerRow). w.alive) (map (end_session sid) xs))
    (ended_dead sid x (ap (λ (w : WorkerRow). (w.pid == sid.pid) && (w.session == sid.session)) h ∙ e)) (ap (λ (w : WorkerRow). w.alive) h ∙ a) (none_more sid xs)
one_less sid (x ∷ xs) w (inr i) a e =
    end_here true x (end_session sid x) (filter (λ (w : WorkerRow). w.alive) xs) (filter (λ (w : WorkerRow). w.alive) (map (end_session sid) xs)) (end_less sid x) (one_less sid xs w i a e)

ended-perform : (change : Change) (t : Table) → length t.workers ≤ 64 → Fits change t → ended_and_living (perform change t) ≤ ended_and_living t + begins change
unfolding settle_where
ended-perform (c.EndSession sid moment) t few fit =
    let row = row_of t.workers sid fit.lives in
    omega (
      arith,
      length_pushed t.ended (end_at sid moment),
      one_less sid t.workers row.0 row.1.within row.1.alive (and_from (row.0.pid == sid.pid) (row.0.session == sid.session) (eq-eqb row.0.pid sid.pid row.1.pid) (eq-eqb row.0.session sid.session row.1.session)),
    )
ended-perform (c.NextSession sid moment) t few fit =
    omega (arith, length_filtered (λ (w : WorkerRow). w.alive) (map (begin_session sid moment) t.workers), length-map t.workers (begin_session sid moment))
ended-perform (c.TakeOver file id owner handle) t few fit =
    cond_both (list_any (is_of_handle owner handle) t.opens) t (record t { opens = map (new_owner file id owner handle) t.opens }) (λ (u : Table). ended_and_living u ≤ ended_and_living t + 0) (λ _. omega arith) (λ _. omega arith)
ended-perform _ t few fit = omega arith

ended-perform_all : (cs : List Change) (t : Table) → length t.workers ≤ 64 → AllFit cs t → ended_and_living (perform_all cs t) ≤ ended_and_living t + sum_by begins cs
ended-perform_all [] t few fit = omega arith
ended-perform_all (change ∷ cs) t few fit =
    omega (arith, ended-perform change t few fit.0, ended-perform_all cs (perform change t) (let same : length (perform change t).workers ≡ length t.workers = worker_count-perform change t in omega arith) fit.1, sum_by-cons begins change cs)

-- ---- what a decision comes to

-- what is counted is none of what is added to a decision
record IsOwn (adds : Change → ℕ) : Type 0 where
  goes : (sid : Sid) (call : ℕ) → adds (c.DropWaiter sid call) ≡ 0
  comes : (waiter : WaiterRow) → adds (c.AddWaiter waiter) ≡ 0
  sent : (post : Post) → adds (c.Send post) ≡ 0
  settles : adds c.Settle ≡ 0

sum_waits : (adds : Change → ℕ) → IsOwn adds → (waits : Option WaiterRow) → sum_by adds (waits_now waits) ≡ 0
sum_waits adds own None = refl
sum_waits adds own (Some waiter) = omega (arith, own.comes waiter)

sum-conclude : (adds : Change → ℕ) → IsOwn adds → (v : View) (d : Decision) → sum_by adds (conclude v d).changes ≡ sum_by adds d.changes
unfolding conclude
sum-conclude adds own v d =
    let woken = woken_by v d in
    let posts = d.posts ++ map wake woken in
    let settle_none : sum_by adds (c.Settle ∷ []) ≡ 0 = omega (arith, sum_by-cons adds c.Settle [], own.settles) in
    omega (
      arith,
      sum_by-append adds (settling d) (finishing woken d.waits posts),
      sum_by-append adds d.changes (c.Settle ∷ []),
      sum_by-append adds (map waits_no_more woken) (waits_now d.waits ++ map (λ post. c.Send post) posts),
      sum_by-append adds (waits_now d.waits) (map (λ post. c.Send post) posts),
      sum_mapped adds waits_no_more (λ watch. own.goes watch.sid watch.call) woken,
      sum_waits adds own d.waits,
      sum_mapped adds (λ post. c.Send post) own.sent posts,
    )

brings_own : IsOwn brings
brings_own = record { goes = λ sid call. refl; comes = λ w. refl; sent = λ post. refl; settles = refl }

begins_own : IsOwn begins
begins_own = record { goes = λ sid call. refl; comes = λ w. refl; sent = λ post. refl; settles = refl }

-- ---- how large a table is, by the calls that were made

-- the last numbers of all workers together
abbrev total : Setup → (ℕ → ℕ) → ℕ
total setup low = sum_by (λ (info : WorkerInfo). low info.pid) setup.workers

-- Each call brings two rows of a list at most, and of letters, waiters and bits that leases can lose four together: a waiter or a
-- letter, and the bits of one state. A letter beyond that takes a bit from a lease.
record IsSmall (setup : Setup) (low : ℕ → ℕ) (t : Table) : Type 0 where
  opens : length t.opens ≤ 2 * total setup low
  leases : length t.leases ≤ 2 * total setup low
  ranges : length t.ranges ≤ 2 * total setup low
  holds : length t.holds ≤ 2 * total setup low
  waits : waits_of t + to_lose t.leases ≤ 4 * total setup low
  ended : ended_and_living t ≤ 64 + 64 * total setup low
  workers : length t.workers ≤ 64
  pending : length t.pending ≤ 2 * total setup low

declared_in : (infos : List WorkerInfo) (place : ℕ) (info : WorkerInfo) → slice_get infos place ≡ Some info → IsIn info infos
declared_in [] place info e = absurd cc
declared_in (first ∷ infos) zero info e = inl (some_same first info e)
declared_in (first ∷ infos) (suc place) info e = inr (declared_in infos place info e)

pub declared_within : (infos : List WorkerInfo) (worker : ℕ) (info : WorkerInfo) → declared_at infos worker ≡ Some info → IsIn info infos
declared_within infos zero info e = absurd cc
declared_within infos (suc place) info e = declared_in infos place info e

total_more : (setup : Setup) (low : ℕ → ℕ) (t : Table) (by number : ℕ) (moment : Moment) (caller : Caller) → IsCallerOf setup t by number moment caller → low caller.sid.pid < number
    → total setup low + 1 ≤ total setup (raise low caller.sid.pid number)
total_more setup low t by number moment caller of above =
    let high = raise low caller.sid.pid number in
    let own : high caller.sid.pid ≡ number = raised_own low caller.sid.pid number in
    let rises : low caller.sid.pid < high caller.sid.pid = omega arith in
    sum_more (λ info. low info.pid) (λ info. high info.pid) (λ info. raised_more low caller.sid.pid number above info.pid) setup.workers of.info (declared_within setup.workers by of.info of.declared)
    (subst (λ pid. low pid < high pid) of.pid rises)

-- ---- what a decision keeps small

small_after : (setup : Setup) (low high : ℕ → ℕ) (t : Table) (d : Decision) (n : ℕ) → DecisionAdds t d n → total setup low + n ≤ total setup high → AllFit (conclude (view t) d).changes t → IsSmall setup low t
    → IsSmall setup high (perform_all (conclude (view t) d).changes t)
small_after setup low high t d n adds more fit small =
    let cs = (conclude (view t) d).changes in
    let rows : sum_by brings cs ≤ 2 * n = omega (arith, sum-conclude brings brings_own (view t) d, adds.rows) in
    let sessions : sum_by begins cs ≤ 64 * n = omega (arith, sum-conclude begins begins_own (view t) d, adds.sessions) in
    record {
      opens = omega (arith, grows (λ u. length u.opens) brings opens-perform cs t, small.opens);
      leases = omega (arith, grows (λ u. length u.leases) brings leases-perform cs t, small.leases);
      ranges = omega (arith, grows (λ u. length u.ranges) brings ranges-perform cs t, small.ranges);
      holds = omega (arith, grows (λ u. length u.holds) brings holds-perform cs t, small.holds);
      waits = omega (arith, concluded_waits t d adds.spots, ap to_lose (concluded_leases t d), adds.waits, small.waits);
      ended = omega (arith, ended-perform_all cs t small.workers fit, small.ended);
      workers = omega (arith, worker_count-perform_all cs t, small.workers);
      pending = omega (arith, grows (λ u. length u.pending) brings pending-perform cs t, small.pending);
    }

-- a death
sum_ending : (adds : Change → ℕ) → IsOwn adds → (t : Table) (sid : Sid) (moment : Moment) → adds (c.EndSession sid moment) ≡ 0 → sum_by adds (end_of_session (view t) sid moment []).changes ≡ 0
unfolding end_of_session
sum_ending adds own t sid moment e =
    omega (
      arith,
      sum_by-append adds (map waits_no_more ((view t).watches_behind sid)) (c.EndSession sid moment ∷ []),
      sum_mapped adds waits_no_more (λ watch. own.goes watch.sid watch.call) ((view t).watches_behind sid),
      sum_by-cons adds (c.EndSession sid moment) [],
    )

bits_own : IsOwn adds_bits
bits_own = record { goes = λ sid call. refl; comes = λ w. refl; sent = λ post. refl; settles = refl }

ending_adds : (t : Table) (sid : Sid) (moment : Moment) → IsConsistent t → AllFit (end_of_session (view t) sid moment []).changes t → DecisionAdds t (end_of_session (view t) sid moment []) 0
unfolding end_of_session IsDistinct
ending_adds t sid moment k fit = record {
  rows = omega (arith, sum_ending brings brings_own t sid moment refl);
  sessions = omega (arith, sum_ending begins begins_own t sid moment refl);
  waits = (let none : sum_by adds_bits (end_of_session (view t) sid moment []).changes ≤ 0 = omega (arith, sum_ending adds_bits bits_own t sid moment refl) in omega (arith, ending_waits t sid moment [] (omega arith), no_more_to_lose t (end_of_session (view t) sid moment []) k fit none));
  spots = tt;
}

-- ---- what each event keeps

-- reached, and small
record IsCounted (setup : Setup) (low : ℕ → ℕ) (t : Table) : Type 0 where
  reached : IsReached low t
  small : IsSmall setup low t

sum_zero : (adds : Change → ℕ) (cs : List Change) → list_all (λ change. adds change == 0) cs ≡ true → sum_by adds cs ≡ 0
sum_zero adds [] e = refl
sum_zero adds (change ∷ cs) e =
    let all = and_parts (adds change == 0) (list_all (λ change. adds change == 0) cs) e in
    let here : adds change ≡ 0 = eqb-true (adds change) 0 all.0 in
    omega (arith, sum_by-cons adds change cs, sum_zero adds cs all.1)

-- what expires adds nothing, and takes bits from leases, if anything
expired_small : (setup : Setup) (low : ℕ → ℕ) (t : Table) (caller : Caller) (call : Call) → IsConsistent t → IsSmall setup low t → IsSmall setup low (behind setup t caller call)
expired_small setup low t caller call k small =
    let cs : List Change = expired_by setup (view t) caller call in
    let rows : sum_by brings cs ≡ 0 = sum_zero brings cs (expired_all (λ change. brings change == 0) (λ l. refl) refl setup (view t) caller call) in
    let sessions : sum_by begins cs ≡ 0 = sum_zero begins cs (expired_all (λ change. begins change == 0) (λ l. refl) refl setup (view t) caller call) in
    let waits : sum_by adds_waits cs ≡ 0 = sum_zero adds_waits cs (expired_all (λ change. adds_waits change == 0) (λ l. refl) refl setup (view t) caller call) in
    record {
      opens = omega (arith, grows (λ u. length u.opens) brings opens-perform cs t, small.opens);
      leases = omega (arith, grows (λ u. length u.leases) brings leases-perform cs t, small.leases);
      ranges = omega (arith, grows (λ u. length u.ranges) brings ranges-perform cs t, small.ranges);
      holds = omega (arith, grows (λ u. length u.holds) brings holds-perform cs t, small.holds);
      waits = omega (arith, grows waits_of adds_waits waits-perform cs t, expired_bits setup t caller call k, small.waits);
      ended = omega (arith, ended-perform_all cs t small.workers (expired_fits setup t caller call k), small.ended);
      workers = omega (arith, worker_count-perform_all cs t, small.workers);
      pending = omega (arith, grows (λ u. length u.pending) brings pending-perform cs t, small.pending);
    }

expiries_count : (setup : Setup) → KeptByExpiry setup (IsCounted setup)
expiries_count setup low t caller call k = record {
  reached = expiries_reach setup low t caller call k.reached;
  small = expired_small setup low t caller call k.reached.consistent k.small;
}

calls_count : (setup : Setup) → KeptByCalls setup (IsCounted setup)
calls_count setup low t by number moment call caller k legal of above = record {
  reached = calls_reach setup low t by number moment call caller k.reached legal of above;
  small = small_after setup low (raise low caller.sid.pid number) t (decide setup (view t) caller call) 1 (call_holds setup low t by number moment call caller k.reached legal of above).adds (total_more setup low t by number moment caller of above)
      (call_fits setup low t by number moment call caller k.reached legal of above) k.small;
}

deaths_count : (setup : Setup) → KeptByDeaths setup (IsCounted setup)
deaths_count setup low t worker moment caller k timed of = record {
  reached = deaths_reach setup low t worker moment caller k.reached timed of;
  small = small_after setup low low t (end_of_session (view t) caller.sid moment []) 0 (ending_adds t caller.sid moment k.reached.consistent (death_fits t caller.sid moment k.reached.consistent of.alive).changes) (omega arith) (dying_fits low t caller moment k.reached of.alive) k.small;
}

-- ---- a whole history

length-start_workers : (n : ℕ) (infos : List WorkerInfo) → length (start_workers n infos) ≡ length infos
length-start_workers n [] = refl
length-start_workers n (info ∷ infos) = ap suc (length-start_workers (suc n) infos)

start_counted : (setup : Setup) → IsSetup setup → IsCounted setup (λ pid. 0) (start setup)
start_counted setup s =
    let few : length (start setup).workers ≤ 64 = omega (arith, length-start_workers 1 setup.workers, s.few_workers) in
    record {
      reached = start_reached setup s;
      small = record {
        opens = omega arith;
        leases = omega arith;
        ranges = omega arith;
        holds = omega arith;
        waits = omega arith;
        ended = omega (arith, length_filtered (λ (w : WorkerRow). w.alive) (start setup).workers);
        workers = few;
        pending = omega arith;
      };
    }

counted_is_bounded : (setup : Setup) (low : ℕ → ℕ) (t : Table) → IsSetup setup → IsCounted setup low t → IsBounded t
counted_is_bounded setup low t s k =
    let most : total setup low ≤ length setup.workers * 20000 = sum_by-le (λ (info : WorkerInfo). low info.pid) 20000 setup.workers (λ place d h. k.reached.few _) in
    let few : length setup.workers ≤ 64 = s.few_workers in
    let n = k.reached.numbered in
    let session : (sid : Sid) → IsSessionUpTo low sid → IsSession sid.session = λ sid e. let l : low sid.pid ≤ 20000 = k.reached.few sid.pid in omega arith in
    record {
      opens = omega (arith, k.small.opens);
      leases = omega (arith, k.small.leases);
      ranges = omega (arith, k.small.ranges);
      holds = omega (arith, k.small.holds);
      waiters = omega (arith, k.small.waits);
      letters = omega (arith, k.small.waits);
      workers = omega (arith, k.small.workers);
      ended = omega (arith, k.small.ended);
      pending = omega (arith, k.small.pending);
      sessions = all_by (λ worker. IsSession worker.session) t.workers (λ w i. let l : low w.pid ≤ 20000 = k.reached.few w.pid in let up : w.session ≤ low w.pid + 1 = n.workers w i in omega arith);
      ended_sessions = all_by (λ row. IsSession row.sid.session) t.ended (λ row i. session row.sid (n.ended row i));
      owners = all_by (λ o. IsSession o.owner.session) t.opens (λ o i. session o.owner (n.opens o i).owner);
      holders = all_by (λ hold. IsSession hold.owner.session) t.holds (λ hold i. session hold.owner (n.holds hold i));
      waiting = all_by (λ w. IsSession w.sid.session) t.waiters (λ w i. session w.sid (n.waiters w i).sid);
      blockers = all_by (λ w. IfSome w.blocker (λ sid. IsSession sid.session)) t.waiters (λ w i. IfSome_then w.blocker (n.waiters w i).blocker session);
      receivers = all_by (λ post. IsSession post.to.session) t.letters (λ post i. session post.to (n.letters post i));
    }

pub legal_is_bounded : (setup : Setup) (history : List Entry) → IsSetup setup → IsLegal setup history → IsBounded (after setup history)
legal_is_bounded setup history s legal =
    let counted = along_history setup s (IsCounted setup) (expiries_count setup) (calls_count setup) (deaths_count setup) (λ pid. 0) (start setup) history (start_counted setup s) legal.entries (λ worker info d. legal.rising worker) in
    counted_is_bounded setup counted.0 (after setup history) s counted.1

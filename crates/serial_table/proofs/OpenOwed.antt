-- `open`, with its leases, durable seconds and overwriting.
use Rattle.std.proofs.Common.{◌≡◌, ◌≤◌, ◌&&◌, ◌++◌, ℕ, Bool, true, false, cond, not, List, [], ◌∷◌, Option, Some, None, refl, sym, ap, ◌∙◌, subst, arith, append-nil}
use Rattle.std.specs.Prelude.{length, IfSome}
use Rattle.std.specs.List.{list_all, list_any}
use Rattle.std.specs.Option.{option_map, option_map_or}
use Rattle.std.proofs.lemmas.Bool.{and_from, cond_both}
use Rattle.std.proofs.lemmas.List.Folds.{list_all-append}
use Rattle.std.proofs.lemmas.List.Sums.{sum_by-cons, sum_by-append}
use Rattle.sid_core.specs.declared.bits.Access.{Access}
use Rattle.sid_core.specs.declared.bits.Share.{Share}
use Rattle.sid_core.specs.declared.call.LeaseAsk.{LeaseAsk}
use Rattle.sid_core.specs.declared.call.Call.TheVariants.{OpenFile}
use Rattle.sid_core.specs.declared.ids.Sid.{Sid}
use Rattle.sid_core.specs.declared.ids.LeaseName.{LeaseName}
use Rattle.sid_core.specs.declared.ids.Spot.TheVariants.{OpenOf}
use Rattle.sid_core.specs.declared.reply.Reply.{Reply}
use Rattle.sid_core.specs.declared.reply.Reply.TheVariants.{SharingViolation, InvalidParameter, AccessDenied, DeletePending}
use Rattle.sid_core.specs.declared.setup.Setup.{Setup}
use Rattle.sid_core.specs.Setup.{IsSetup}
use Rattle.sid_core.specs.Call.{IsCall}
use Rattle.sid_core.specs.Words.{lease_state}
use Rattle.sid_core.specs.Values.{IsU32, IsU64, IsAccess, IsShare, IsState, IsMoment, is_state}
use Rattle.serial_table.specs.declared.rows.WaiterRow.{WaiterRow}
use Rattle.serial_table.specs.declared.table.Table.{Table}
use Rattle.serial_table.specs.declared.change.Change.{Change}
use Rattle.serial_table.specs.declared.change.Change.TheVariants as c
use Rattle.serial_table.specs.declared.decision.Caller.{Caller}
use Rattle.serial_table.specs.declared.decision.Decision.{Decision}
use Rattle.serial_table.specs.View.{View, view, lives}
use Rattle.serial_table.specs.File.{FileView, file_view}
use Rattle.serial_table.specs.Change.{perform_all}
use Rattle.serial_table.specs.Local.{perform_all_in_file}
use Rattle.serial_table.specs.Decision.{only_reply}
use Rattle.serial_table.specs.Break.{Breaks, no_break, both, first_of, names_of, all_but_handle, all_but_write, none_of_them}
use Rattle.serial_table.specs.Asked.{Asked, own_lease, asked_of, is_stat, deletes_without_right, is_elsewhere, in_conflict, refuses}
use Rattle.serial_table.specs.Grant.{LeaseGrant, grant_lease, is_durable, new_open, grant_plain, grant_under, grant_by, grant}
use Rattle.serial_table.specs.Open.{handle_breaks, other_breaks, wait_for_open, wait_or_grant, go_on, open_by, open_file}
use Rattle.serial_table.specs.Sound.{IsConsistent, IsNewOpen}
use Rattle.serial_table.specs.InSets.{IsFileNumber, IsLeaseName, IsOpenRow, IsInSets, Brings}
use Rattle.serial_table.specs.InPlace.{is_made}
use Rattle.serial_table.proofs.Members.{IsIn}
use Rattle.serial_table.proofs.SameWorkers.{keeps_workers}
use Rattle.serial_table.proofs.Consistent.{consistent-perform_all}
use Rattle.serial_table.proofs.Numbered.{Numbers}
use Rattle.serial_table.proofs.Losing.{adds_bits}
use Rattle.serial_table.proofs.InSets.{sid_of, in_sets-perform_all}
use Rattle.serial_table.proofs.Fitting.{along_append, fit_append}
use Rattle.serial_table.proofs.Shown.{Shows, shows_itself, shows-perform_all, lives-breaks}
use Rattle.serial_table.proofs.BreaksFit.{no_break_fits}
use Rattle.serial_table.proofs.BreaksBring.{BreaksBring, no_break_brings, both_bring, each_brings}
use Rattle.serial_table.proofs.Owing.{IsCalling, IsCallingInSets, brings, DecisionHolds, DecisionBrings, spots_differ, reply_holds, reply_brings}
use Rattle.serial_table.proofs.OwnWaits as own
use Rattle.serial_table.proofs.BreaksOwed.{PassesRows, rows_keep, rows_made, is_of_rows, one_passes, both_pass, own_pass, each_passes, same_rows, same_lives, BreaksHold, each_hold, both_hold, IsRound, round_holds, round_brings}
use Rattle.serial_table.proofs.BreaksLeave.{ComesFrom, from_breaks}
use Rattle.serial_table.proofs.GrantOwed.{lease_passes, LeaseHolds, lease_holds, lease_brought, plain_fits, under_fits}

-- ---- what it can decide

-- the file once HANDLE is broken, the breaks of both steps, and the file as they leave it
abbrev first_broken : FileView → Asked → FileView
first_broken f asked = perform_all_in_file (handle_breaks f asked).changes f

abbrev all_breaks : FileView → Asked → Breaks
all_breaks f asked = both (handle_breaks f asked) (other_breaks (first_broken f asked) asked)

abbrev all_broken : FileView → Asked → FileView
all_broken f asked = perform_all_in_file (all_breaks f asked).changes f

-- what holds of each decision of `open`
record HoldsOfEach (P : Decision → Type 0) (elsewhere : Bool) (f : FileView) (caller : Caller) (asked : Asked) : Type 0 where
  replies : (reply : Reply) → P (only_reply reply)
  waits_first : (blocker : Sid) → (handle_breaks f asked).blocker ≡ Some blocker → P (wait_for_open caller asked (handle_breaks f asked) blocker)
  waits : (blocker : Sid) → (all_breaks f asked).blocker ≡ Some blocker → P (wait_for_open caller asked (all_breaks f asked) blocker)
  plain : deletes_without_right asked ≡ false → asked.lease ≡ None → P (grant_plain caller asked (all_breaks f asked))
  under : deletes_without_right asked ≡ false → elsewhere ≡ false → (name : LeaseName) → asked.lease ≡ Some name
      → P (grant_under caller asked (all_breaks f asked) (grant_lease (all_broken f asked) asked name) (is_durable asked (grant_lease (all_broken f asked) asked name)))

module _ (P : Decision → Type 0) (elsewhere : Bool) (f : FileView) (caller : Caller) (asked : Asked) (h : HoldsOfEach P elsewhere f caller asked) where
  of_grant : deletes_without_right asked ≡ false → elsewhere ≡ false → P (grant (all_broken f asked) caller asked (all_breaks f asked))
  unfolding grant
  of_grant right e = by_lease asked.lease refl
    where
      by_lease : (lease : Option LeaseName) → asked.lease ≡ lease → P (grant_by (all_broken f asked) caller asked (all_breaks f asked) lease)
      by_lease None bare = h.plain right bare
      by_lease (Some name) is = h.under right e name is

  of_later : deletes_without_right asked ≡ false → elsewhere ≡ false → (handle_breaks f asked).blocker ≡ None → (blocker : Option Sid) → (other_breaks (first_broken f asked) asked).blocker ≡ blocker
      → P (wait_or_grant f caller asked (all_breaks f asked) blocker)
  of_later right e first None later = of_grant right e
  of_later right e first (Some blocker) later = h.waits blocker (λ i. first_of (first i) (later i))

  of_first : deletes_without_right asked ≡ false → elsewhere ≡ false → (blocker : Option Sid) → (handle_breaks f asked).blocker ≡ blocker → P (go_on f caller asked (handle_breaks f asked) blocker)
  of_first right e (Some blocker) first = h.waits_first blocker first
  of_first right e None first = of_later right e first (other_breaks (first_broken f asked) asked).blocker refl

  of_open : P (open_by elsewhere f caller asked)
  unfolding open_by
  of_open =
      cond_both (deletes_without_right asked) (only_reply AccessDenied) _ P (λ _. h.replies _)
      (λ right. cond_both elsewhere (only_reply InvalidParameter) _ P (λ _. h.replies _)
      (λ e. cond_both f.pending (only_reply DeletePending) _ P (λ _. h.replies _)
      (λ _. cond_both (list_any (refuses f asked) (in_conflict f asked)) (only_reply SharingViolation) (go_on f caller asked (handle_breaks f asked) (handle_breaks f asked).blocker) P (λ _. h.replies _)
      (λ _. of_first right e (handle_breaks f asked).blocker refl))))

-- ---- its breaks

kept_is : (overwrite : Bool) → is_state (cond overwrite none_of_them all_but_write) ≡ true
kept_is true = refl
kept_is false = refl

module _ (asked : Asked) (f : FileView) (t : Table) (s : Shows asked.file f t) (k : IsConsistent t) where
  handle_hold : BreaksHold asked.file t (handle_breaks f asked)
  unfolding handle_breaks
  handle_hold = each_hold asked.moment asked.file all_but_handle refl (names_of (in_conflict f asked)) f t s k

  others_hold : BreaksHold asked.file t (other_breaks f asked)
  unfolding other_breaks
  others_hold =
      cond_both (is_stat asked.access && not asked.overwrite) no_break _ (BreaksHold asked.file t) (λ _. record { fit = no_break_fits asked.file (lives (view t)); lose = omega arith })
      (λ _. each_hold asked.moment asked.file _ (kept_is asked.overwrite) _ f t s k)

  module _ (setup : Setup) (timed : IsMoment asked.moment.0) (n : IsInSets setup t) where
    handle_bring : BreaksBring setup (handle_breaks f asked)
    unfolding handle_breaks
    handle_bring = each_brings setup asked.moment timed asked.file all_but_handle refl (names_of (in_conflict f asked)) f t s k n

    others_bring : BreaksBring setup (other_breaks f asked)
    unfolding other_breaks
    others_bring =
        cond_both (is_stat asked.access && not asked.overwrite) no_break _ (BreaksBring setup) (λ _. no_break_brings setup) (λ _. each_brings setup asked.moment timed asked.file _ (kept_is asked.overwrite) _ f t s k n)

module _ (asked : Asked) (f : FileView) (t : Table) (s : Shows asked.file f t) (k : IsConsistent t) where
  all_hold : BreaksHold asked.file t (all_breaks f asked)
  all_hold =
      let first = handle_breaks f asked in
      let hold = handle_hold asked f t s k in
      both_hold asked.file t first (other_breaks (first_broken f asked) asked) hold
      (others_hold asked (first_broken f asked) (perform_all first.changes t) (shows-perform_all asked.file first.changes f t hold.fit.inside s) (consistent-perform_all first.changes t k (hold.fit.fits t)))

  all_bring : (setup : Setup) → IsMoment asked.moment.0 → IsInSets setup t → BreaksBring setup (all_breaks f asked)
  all_bring setup timed n =
      let first = handle_breaks f asked in
      let hold = handle_hold asked f t s k in
      let brought = handle_bring asked f t s k setup timed n in
      both_bring setup first (other_breaks (first_broken f asked) asked) brought
      (others_bring asked (first_broken f asked) (perform_all first.changes t) (shows-perform_all asked.file first.changes f t hold.fit.inside s) (consistent-perform_all first.changes t k (hold.fit.fits t)) setup timed
      (in_sets-perform_all setup first.changes t n (hold.fit.fits t) (brought.changes t)))

  -- the table as they leave it
  abbrev broken : Table
  broken = perform_all (all_breaks f asked).changes t

  still_shown : Shows asked.file (all_broken f asked) broken
  still_shown = shows-perform_all asked.file (all_breaks f asked).changes f t all_hold.fit.inside s

  still_consistent : IsConsistent broken
  still_consistent = consistent-perform_all (all_breaks f asked).changes t k (all_hold.fit.fits t)

-- ---- what it owes

wait_round : (caller : Caller) (asked : Asked) (b : Breaks) (blocker : Sid) → IsRound (wait_for_open caller asked b blocker) [] b []
wait_round caller asked b blocker = record { changes = sym (append-nil b.changes); posts = refl; first = refl; later = refl }

plain_round : (caller : Caller) (asked : Asked) (b : Breaks) → IsRound (grant_plain caller asked b) [] b (c.AddOpen (new_open caller asked false) ∷ [])
plain_round caller asked b = record { changes = refl; posts = refl; first = refl; later = refl }

under_round : (caller : Caller) (asked : Asked) (b : Breaks) (lease : LeaseGrant) (durable : Bool) → list_all is_of_rows lease.changes ≡ true
    → IsRound (grant_under caller asked b lease durable) [] b (lease.changes ++ c.AddOpen (new_open caller asked durable) ∷ [])
under_round caller asked b lease durable e = record {
  changes = refl;
  posts = refl;
  first = refl;
  later = list_all-append is_of_rows lease.changes (c.AddOpen (new_open caller asked durable) ∷ []) ∙ and_from (list_all is_of_rows lease.changes) true e refl;
}

module _ (low : ℕ → ℕ) (t : Table) (caller : Caller) (asked : Asked) (k : IsCalling low t caller) (waiters : List WaiterRow) (left : own.IsLeft t caller ((view t).watches_on (OpenOf asked.file)) waiters) where
  abbrev f : FileView
  f = file_view asked.file (view t)

  abbrev u : Table
  u = record t { waiters = waiters }

  shown : Shows asked.file f u
  shown = record { opens = refl; leases = refl }

  abbrev u2 : Table
  u2 = perform_all (all_breaks f asked).changes u

  hold : BreaksHold asked.file u (all_breaks f asked)
  hold = all_hold asked f u shown left.consistent

  comes : ComesFrom u u2
  comes = from_breaks asked.file (all_breaks f asked).changes u hold.fit.inside

  alive : lives (view u2) caller.sid ≡ true
  alive = ap (λ (lives : Sid → Bool). lives caller.sid) (lives-breaks asked.file (all_breaks f asked).changes u hold.fit.inside) ∙ k.alive

  waits_hold : (b : Breaks) → BreaksHold asked.file u b → (blocker : Sid) → b.blocker ≡ Some blocker → DecisionHolds low u (wait_for_open caller asked b blocker)
  waits_hold b held blocker e =
      round_holds low asked.file u left.consistent (wait_for_open caller asked b blocker) [] b [] (wait_round caller asked b blocker) tt held tt tt tt
      (record { rows = omega arith; bits = omega arith; spots = spots_differ asked.file })
      (λ x same. (
        own.new_waiter t caller (OpenOf asked.file) waiters left k.fresh x same.waiters (same_lives u x same caller.sid ∙ k.alive) (Some blocker)
            (same_lives u x same blocker ∙ ap (λ o. option_map_or (lives (view u)) o true) (sym e) ∙ held.fit.blocker) false,
        tt,
      ))
      (λ x. (k.number, tt))

  plain_holds : deletes_without_right asked ≡ false → asked.lease ≡ None → DecisionHolds low u (grant_plain caller asked (all_breaks f asked))
  plain_holds right bare =
      let row = new_open caller asked false in
      round_holds low asked.file u left.consistent (grant_plain caller asked (all_breaks f asked)) [] (all_breaks f asked) (c.AddOpen row ∷ []) (plain_round caller asked (all_breaks f asked)) tt hold
      (plain_fits t u2 caller asked right bare k.fresh comes.opens alive, tt) tt ((k.number, k.number), tt)
      (record { rows = omega (arith, sum_by-cons brings (c.AddOpen row) []); bits = omega (arith, sum_by-cons adds_bits (c.AddOpen row) []); spots = spots_differ asked.file }) (λ x same. tt) (λ x. tt)

  under_holds : IsState asked.state.0 → deletes_without_right asked ≡ false → is_elsewhere (view t) asked ≡ false → (name : LeaseName) → asked.lease ≡ Some name
      → DecisionHolds low u (grant_under caller asked (all_breaks f asked) (grant_lease (all_broken f asked) asked name) (is_durable asked (grant_lease (all_broken f asked) asked name)))
  under_holds is right here name under =
      let lease = grant_lease (all_broken f asked) asked name in
      let durable = is_durable asked lease in
      let row = new_open caller asked durable in
      let owed : LeaseHolds u2 asked.file name lease =
      lease_holds u u2 (all_broken f asked) asked name (still_consistent asked f u shown left.consistent) (still_shown asked f u shown left.consistent) is comes under here in
      let u3 = perform_all lease.changes u2 in
      let live : lives (view u3) caller.sid ≡ true = same_lives u2 u3 (same_rows lease.changes u2 owed.of_rows) caller.sid ∙ alive in
      let new : IsNewOpen row u3 = under_fits t u3 caller asked durable right name under k.fresh (λ o i. comes.opens o (subst (IsIn o) owed.opens i)) live owed.there in
      round_holds low asked.file u left.consistent (grant_under caller asked (all_breaks f asked) lease durable) [] (all_breaks f asked) (lease.changes ++ c.AddOpen row ∷ [])
      (under_round caller asked (all_breaks f asked) lease durable owed.of_rows) tt hold (fit_append lease.changes (c.AddOpen row ∷ []) u2 owed.fits (new, tt)) tt
      (along_append (Numbers low) lease.changes (c.AddOpen row ∷ []) u2 (owed.numbers low) ((k.number, k.number), tt))
      (record {
        rows = omega (arith, sum_by-append brings lease.changes (c.AddOpen row ∷ []), sum_by-cons brings (c.AddOpen row) [], owed.rows);
        bits = omega (arith, sum_by-append adds_bits lease.changes (c.AddOpen row ∷ []), sum_by-cons adds_bits (c.AddOpen row) [], owed.bits);
        spots = spots_differ asked.file;
      })
      (λ x same. tt) (λ x. tt)

-- The asked state has to be one that a lease can be in, as that of each call that a script can make: a new lease holds what is asked.
pub open_holds : (low : ℕ → ℕ) (t : Table) (caller : Caller) (asked : Asked) → IsCalling low t caller → IsState asked.state.0 → DecisionHolds low t (open_file (view t) caller asked)
unfolding open_file
open_holds low t caller asked k is =
    let f = file_view asked.file (view t) in
    own.own_holds t caller f.open_watches (open_by (is_elsewhere (view t) asked) f caller asked) low k.consistent
    (λ waiters left. of_open (DecisionHolds low (record t { waiters = waiters })) (is_elsewhere (view t) asked) f caller asked (record {
      replies = λ reply. reply_holds low (record t { waiters = waiters }) reply left.consistent;
      waits_first = λ blocker e. waits_hold low t caller asked k waiters left (handle_breaks f asked) (handle_hold asked f (record t { waiters = waiters }) (record { opens = refl; leases = refl }) left.consistent) blocker e;
      waits = λ blocker e. waits_hold low t caller asked k waiters left (all_breaks f asked) (hold low t caller asked k waiters left) blocker e;
      plain = λ right bare. plain_holds low t caller asked k waiters left right bare;
      under = λ right here name under. under_holds low t caller asked k waiters left is right here name under;
    }))

-- ---- sets

-- what a call that a script can make asks for
pub record IsAskedInSets (setup : Setup) (asked : Asked) : Type 0 where
  pub file : IsFileNumber setup asked.file
  pub access : IsAccess asked.access.0
  pub share : IsShare asked.share.0
  pub lease : IfSome asked.lease IsLeaseName
  pub state : IsState asked.state.0
  pub durable : IsU32 asked.durable
  pub moment : IsMoment asked.moment.0

pub state_asked : (lease : Option LeaseAsk) → IfSome lease (λ ask. IsU64 ask.key × IsState ask.state.0) → IsState (option_map_or (λ (ask : LeaseAsk). ask.state) lease (lease_state 0)).0
state_asked None is = refl
state_asked (Some ask) is = is.1

pub asked_in_sets : (setup : Setup) (caller : Caller) (file : ℕ) (access : Access) (share : Share) (lease : Option LeaseAsk) (durable : ℕ) (overwrite delete : Bool) → IsSetup setup → IsU64 caller.guid → IsMoment caller.moment.0
    → IsCall setup (OpenFile file access share lease durable overwrite delete) → IsAskedInSets setup (asked_of caller file access share lease durable overwrite delete)
asked_in_sets setup caller file access share lease durable overwrite delete s guid timed is =
    let last : file ≤ length setup.files = is.0.1 in
    record {
      file = record { number = omega (arith, s.few_files); declared = is.0 };
      access = is.1;
      share = is.2;
      lease = named lease is.3;
      state = state_asked lease is.3;
      durable = is.4;
      moment = timed;
    }
  where
    named : (lease : Option LeaseAsk) → IfSome lease (λ ask. IsU64 ask.key × IsState ask.state.0) → IfSome (option_map (λ (ask : LeaseAsk). own_lease caller ask.key) lease) IsLeaseName
    named None is = tt
    named (Some ask) is = record { guid = guid; key = is.0 }

module _ (setup : Setup) (t : Table) (caller : Caller) (asked : Asked) (k : IsCallingInSets setup t caller) (is : IsAskedInSets setup asked) where
  new_in_sets : (durable : Bool) → IsOpenRow setup (new_open caller asked durable)
  new_in_sets durable =
      let sid = sid_of setup t caller.sid k.in_sets.workers k.alive in
      record {
        id = record { pid = sid.pid; call = k.number };
        owner = sid;
        handle = k.number;
        file = is.file;
        access = is.access;
        share = is.share;
        lease = is.lease;
        durable = cond_both durable asked.durable 0 IsU32 (λ _. is.durable) (λ _. omega arith);
        opened = k.moment;
      }

  brought : (waiters : List WaiterRow) → HoldsOfEach (DecisionBrings setup (record t { waiters = waiters })) (is_elsewhere (view t) asked) (file_view asked.file (view t)) caller asked
  brought waiters =
      let f = file_view asked.file (view t) in
      let u : Table = record t { waiters = waiters } in
      let shown = shows_itself asked.file t in
      let breaks = all_bring asked f t shown k.consistent setup is.moment k.in_sets in
      record {
        replies = λ reply. reply_brings setup u reply;
        waits_first = λ blocker e. round_brings setup u (wait_for_open caller asked (handle_breaks f asked) blocker) [] (handle_breaks f asked) [] (wait_round caller asked (handle_breaks f asked) blocker) tt
            (handle_bring asked f t shown k.consistent setup is.moment k.in_sets) tt (λ x. ((k.number, is.file), tt));
        waits = λ blocker e. round_brings setup u (wait_for_open caller asked (all_breaks f asked) blocker) [] (all_breaks f asked) [] (wait_round caller asked (all_breaks f asked) blocker) tt breaks tt (λ x. ((k.number, is.file), tt));
        plain = λ right bare. round_brings setup u (grant_plain caller asked (all_breaks f asked)) [] (all_breaks f asked) (c.AddOpen (new_open caller asked false) ∷ []) (plain_round caller asked (all_breaks f asked)) tt breaks (new_in_sets false, tt) (λ x. tt);
        under = λ right here name under.
            let lease = grant_lease (all_broken f asked) asked name in
            let durable = is_durable asked lease in
            let row = new_open caller asked durable in
            let named : IsLeaseName name = subst (λ o. IfSome o IsLeaseName) under is.lease in
            let at_breaks = perform_all (all_breaks f asked).changes u in
            let rows = lease_passes is_of_rows (λ _. refl) (λ _ _ _ _. refl) (all_broken f asked) asked name in
            let leased = lease_brought t (broken asked f t shown k.consistent) (all_broken f asked) asked name (still_consistent asked f t shown k.consistent) (still_shown asked f t shown k.consistent) is.state setup is.file named at_breaks in
            round_brings setup u (grant_under caller asked (all_breaks f asked) lease durable) [] (all_breaks f asked) (lease.changes ++ c.AddOpen row ∷ []) (under_round caller asked (all_breaks f asked) lease durable rows) tt breaks
            (along_append (Brings setup) lease.changes (c.AddOpen row ∷ []) at_breaks leased (new_in_sets durable, tt)) (λ x. tt);
      }

pub open_brings : (setup : Setup) (t : Table) (caller : Caller) (asked : Asked) → IsCallingInSets setup t caller → IsAskedInSets setup asked → DecisionBrings setup t (open_file (view t) caller asked)
unfolding open_file
open_brings setup t caller asked k is =
    let f = file_view asked.file (view t) in
    own.own_brings t caller f.open_watches (open_by (is_elsewhere (view t) asked) f caller asked) setup
    (λ waiters. of_open (DecisionBrings setup (record t { waiters = waiters })) (is_elsewhere (view t) asked) f caller asked (brought setup t caller asked k is waiters))

-- ---- the changes that it makes

module _ (p : Change → Bool) (h : PassesRows p) where
  handle_pass : (f : FileView) (asked : Asked) → list_all p (handle_breaks f asked).changes ≡ true
  unfolding handle_breaks
  handle_pass f asked = each_passes p h asked.moment asked.file f all_but_handle (names_of (in_conflict f asked))

  others_pass : (f : FileView) (asked : Asked) → list_all p (other_breaks f asked).changes ≡ true
  unfolding other_breaks
  others_pass f asked = cond_both (is_stat asked.access && not asked.overwrite) no_break _ (λ (b : Breaks). list_all p b.changes ≡ true) (λ _. refl) (λ _. each_passes p h asked.moment asked.file f _ _)

  all_pass : (f : FileView) (asked : Asked) → list_all p (all_breaks f asked).changes ≡ true
  all_pass f asked = both_pass p h (handle_breaks f asked).changes (other_breaks (first_broken f asked) asked).changes (handle_pass f asked) (others_pass (first_broken f asked) asked)

  open_passes : (v : View) (caller : Caller) (asked : Asked) → list_all p (open_file v caller asked).changes ≡ true
  unfolding open_file
  open_passes v caller asked =
      let f = file_view asked.file v in
      own_pass p h caller f.open_watches (open_by (is_elsewhere v asked) f caller asked)
      (of_open (λ d. list_all p d.changes ≡ true) (is_elsewhere v asked) f caller asked (record {
        replies = λ reply. refl;
        waits_first = λ blocker e. handle_pass f asked;
        waits = λ blocker e. all_pass f asked;
        plain = λ right bare. both_pass p h (all_breaks f asked).changes (c.AddOpen (new_open caller asked false) ∷ []) (all_pass f asked) (one_passes p h _ [] (h.rows _ refl) refl);
        under = λ right here name under.
            let lease = grant_lease (all_broken f asked) asked name in
            both_pass p h (all_breaks f asked).changes _ (all_pass f asked) (both_pass p h lease.changes _ (lease_passes p (λ _. h.rows _ refl) (λ _ _ _ _. h.rows _ refl) (all_broken f asked) asked name) (one_passes p h _ [] (h.rows _ refl) refl));
      }))

pub open_keeps : (v : View) (caller : Caller) (asked : Asked) → list_all keeps_workers (open_file v caller asked).changes ≡ true
open_keeps = open_passes keeps_workers rows_keep

pub open_made : (v : View) (caller : Caller) (asked : Asked) → list_all is_made (open_file v caller asked).changes ≡ true
open_made = open_passes is_made rows_made

-- What comes by a call has the call's own id: each open behind an entry was there before, under its id and of its file, or is the call's own.
use Rattle.std.proofs.Common.{◌≡◌, ◌==◌, ◌&&◌, not, ℕ, Bool, true, false, cond, List, [], ◌∷◌, ◌++◌, map, filter, Option, Some, None, refl, sym, ap, ◌∙◌, subst, inl, inr, ◌⊎◌}
use Rattle.std.specs.List.{list_all, list_any}
use Rattle.std.proofs.lemmas.Bool.{and_parts, and_from, cond_both}
use Rattle.std.proofs.lemmas.List.Folds.{list_all-append, list_all-map}
use Rattle.sid_core.specs.declared.bits.LeaseState.{LeaseState}
use Rattle.sid_core.specs.declared.call.Call.{Call}
use Rattle.sid_core.specs.declared.call.Call.TheVariants as call
use Rattle.sid_core.specs.declared.call.Mode.{Mode}
use Rattle.sid_core.specs.declared.call.Span.{Span}
use Rattle.sid_core.specs.declared.entry.Post.{Post}
use Rattle.sid_core.specs.declared.ids.LeaseName.{LeaseName}
use Rattle.sid_core.specs.declared.ids.Moment.{Moment}
use Rattle.sid_core.specs.declared.ids.OpenId.{OpenId}
use Rattle.sid_core.specs.declared.ids.Sid.{Sid}
use Rattle.sid_core.specs.declared.ids.Spot.TheVariants.{LockOf}
use Rattle.sid_core.specs.declared.reply.Reply.TheVariants as reply
use Rattle.sid_core.specs.declared.setup.Setup.{Setup}
use Rattle.sid_core.specs.Ids.{same_id, same_sid}
use Rattle.sid_core.specs.Values.{has, is_part_of}
use Rattle.serial_table.specs.declared.rows.OpenRow.{OpenRow}
use Rattle.serial_table.specs.declared.rows.LeaseRow.{LeaseRow}
use Rattle.serial_table.specs.declared.rows.RangeRow.{RangeRow}
use Rattle.serial_table.specs.declared.rows.HoldRow.{HoldRow}
use Rattle.serial_table.specs.declared.rows.Breaking.{Breaking}
use Rattle.serial_table.specs.declared.rows.Watch.{Watch}
use Rattle.serial_table.specs.declared.table.Table.{Table}
use Rattle.serial_table.specs.declared.change.Change.{Change}
use Rattle.serial_table.specs.declared.change.Change.TheVariants as c
use Rattle.serial_table.specs.declared.decision.Caller.{Caller}
use Rattle.serial_table.specs.declared.decision.Decision.{Decision}
use Rattle.table_laws.proofs.Asking.{Asked}
use Rattle.serial_table.specs.View.{View, view, is_of_handle}
use Rattle.serial_table.specs.File.{FileView, file_view}
use Rattle.serial_table.specs.Settle.{settle_where}
use Rattle.serial_table.specs.Change.{new_owner, perform, perform_all}
use Rattle.serial_table.specs.Decision.{only_reply, own_waits_end, no_longer_waits, waits_no_more, conclude}
use Rattle.serial_table.specs.Range.{passes_end, range_conflict}
use Rattle.serial_table.specs.Break.{Breaks, no_break, break_lease, break_each, break_others, names_of, none_of_them, all_but_handle}
use Rattle.serial_table.specs.Asked.{asked_of, is_stat, is_elsewhere, in_conflict, own_lease}
use Rattle.serial_table.specs.Grant.{LeaseGrant, grant_lease, new_open}
use Rattle.serial_table.specs.Open.{handle_breaks, other_breaks, open_by, open_file}
use Rattle.serial_table.specs.Close.{close_first, close}
use Rattle.serial_table.specs.Delete.{delete_first, delete}
use Rattle.serial_table.specs.Ack.{acknowledged, accept, ack_lease, ack_first, ack}
use Rattle.serial_table.specs.ReadWrite.{if_allowed, forbids_read, forbids_write, read_first, read, written, write_first, write}
use Rattle.serial_table.specs.Lock.{range_blocker, wait_for_range, lock_by, lock_range, lock_first, lock}
use Rattle.serial_table.specs.Unlock.{unlock_first, unlock}
use Rattle.serial_table.specs.GlobalLock.{own_holds, glock_by, glock, gunlock_by, gunlock}
use Rattle.serial_table.specs.Recv.{recv_first, recv}
use Rattle.serial_table.specs.Disconnect.{disconnect}
use Rattle.serial_table.specs.Session.{end_of_session}
use Rattle.serial_table.specs.Scavenge.{all_expired, goes, scavenge}
use Rattle.serial_table.specs.Expire.{expired_by}
use Rattle.serial_table.specs.Decide.{decide, outcome}
use Rattle.serial_table.proofs.Members.{IsIn, all_each, in_filter, in_map, in_push}
use Rattle.serial_table.proofs.Concluding.{PassesFinishing, no_more_all, conclude_all}
use Rattle.serial_table.proofs.Expiring.{expired_all, outcome_table}
use Rattle.serial_table.proofs.SameIds.{same_id-refl}
use Rattle.serial_table.proofs.Views.{file-new_owner, id-new_owner}
use Rattle.serial_table.proofs.CloseOwed.{of_close}
use Rattle.serial_table.proofs.DeleteOwed.{of_delete}
use Rattle.serial_table.proofs.UnlockOwed.{by_ranges}
use Rattle.serial_table.proofs.GlobalLockOwed.{of_glock}
use Rattle.serial_table.proofs.GrantOwed.{of_lease}
use Rattle.serial_table.proofs.ReconnectOwed.{of_reconnect}
use Rattle.table_laws.proofs.Breaking.{is_break, one_passes, all_weaker, each_breaks, lease_breaks}
use Rattle.table_laws.proofs.OpenEvents.{all_breaks, first_broken, all_broken, of_open}

-- an open that comes has this id
abbrev pub adds_own : OpenId → Change → Bool
adds_own own (c.AddOpen row) = same_id row.id own
adds_own own _ = true

-- ---- opens behind changes

-- it was there before, under its id and of its file, or it has this id
abbrev pub IsOldOrOwn : OpenId → Table → OpenRow → Type 0
IsOldOrOwn own t o = ((x : OpenRow) × IsIn x t.opens × (x.id ≡ o.id) × (x.file ≡ o.file)) ⊎ (same_id o.id own ≡ true)

module _ (own : OpenId) where
  stays : (t : Table) (o : OpenRow) → IsIn o t.opens → IsOldOrOwn own t o
  stays t o i = inl (o, i, refl, refl)

  comes : (t : Table) (row o : OpenRow) → same_id row.id own ≡ true → IsIn o t.opens ⊎ (row ≡ o) → IsOldOrOwn own t o
  comes t row o e (inl i) = stays t o i
  comes t row o e (inr is) = inr (subst (λ (x : OpenRow). same_id x.id own ≡ true) is e)

  taken : (file : ℕ) (id : OpenId) (owner : Sid) (handle : ℕ) (t : Table) (b : Bool) (o : OpenRow) → IsIn o (cond b t (record t { opens = map (new_owner file id owner handle) t.opens })).opens → IsOldOrOwn own t o
  taken file id owner handle t true o i = stays t o i
  taken file id owner handle t false o i =
      let x = in_map (new_owner file id owner handle) t.opens o i in
      inl (x.0, x.1, sym (id-new_owner file id owner handle x.0) ∙ ap (λ (y : OpenRow). y.id) x.2, sym (file-new_owner file id owner handle x.0) ∙ ap (λ (y : OpenRow). y.file) x.2)

  one : (change : Change) (t : Table) (o : OpenRow) → adds_own own change ≡ true → IsIn o (perform change t).opens → IsOldOrOwn own t o
  unfolding settle_where
  one (c.AddOpen row) t o e i = comes t row o e (in_push t.opens row o i)
  one (c.DropOpen f id) t o e i = stays t o (in_filter _ t.opens o i).0
  one (c.TakeOver f id owner handle) t o e i = taken f id owner handle t (list_any (is_of_handle owner handle) t.opens) o i
  one (c.EndSession sid moment) t o e i = stays t o (in_filter _ t.opens o i).0
  one c.Settle t o e i = stays t o (in_filter _ t.opens o i).0
  one _ t o e i = stays t o i

  pub old_or_own : (cs : List Change) (t : Table) (o : OpenRow) → list_all (adds_own own) cs ≡ true → IsIn o (perform_all cs t).opens → IsOldOrOwn own t o
  old_or_own [] t o e i = stays t o i
  old_or_own (change ∷ cs) t o e i =
      let p = and_parts (adds_own own change) (list_all (adds_own own) cs) e in
      then (old_or_own cs (perform change t) o p.1 i) p.0
    where
      then : IsOldOrOwn own (perform change t) o → adds_own own change ≡ true → IsOldOrOwn own t o
      then (inr k) e = inr k
      then (inl (x, j, id, file)) e = before (one change t x e j)
        where
          before : IsOldOrOwn own t x → IsOldOrOwn own t o
          before (inl (y, k, was_id, was_file)) = inl (y, k, was_id ∙ id, was_file ∙ file)
          before (inr k) = inr (ap (λ z. same_id z own) (sym id) ∙ k)

-- ---- what calls decide

module _ (caller : Caller) where
  abbrev own : OpenId
  own = record { pid = caller.sid.pid; call = caller.number }

  abbrev p : Change → Bool
  p = adds_own (record { pid = caller.sid.pid; call = caller.number })

  abbrev Passes : Decision → Type 0
  Passes d = list_all (adds_own (record { pid = caller.sid.pid; call = caller.number })) d.changes ≡ true

  abbrev everywhere : ℕ → Bool
  everywhere file = true

  abbrev anyone : Sid → Type 0
  anyone sid = Unit {0}

  finishes : PassesFinishing p
  finishes = record { comes = λ x. refl; goes = λ sid call. refl; sent = λ post. refl }

  of_breaks : (cs : List Change) → list_all (is_break everywhere) cs ≡ true → list_all p cs ≡ true
  of_breaks cs e = all_weaker everywhere (is_break everywhere) p (one_passes everywhere p (λ f n h b. refl) refl) cs e

  breaks_pass : (now : Moment) (file : ℕ) (f : FileView) (kept : ℕ) (names : List LeaseName) → list_all p (break_each now file f kept names).changes ≡ true
  breaks_pass now file f kept names = of_breaks (break_each now file f kept names).changes (each_breaks everywhere anyone now file kept refl f (λ o i. tt) names).changes

  waits_first : (watches : List Watch) (d : Decision) → Passes d → Passes (no_longer_waits caller watches d)
  waits_first watches d h =
      list_all-append p (own_waits_end caller watches) d.changes
      ∙ and_from (list_all p (own_waits_end caller watches)) (list_all p d.changes) (no_more_all p finishes (filter (λ (watch : Watch). same_sid watch.sid caller.sid) watches)) h

  -- ---- `open`

  module _ (asked : Asked) (f : FileView) where
    handles_pass : list_all p (handle_breaks f asked).changes ≡ true
    unfolding handle_breaks
    handles_pass = breaks_pass asked.moment asked.file f all_but_handle (names_of (in_conflict f asked))

    others_pass : (g : FileView) → list_all p (other_breaks g asked).changes ≡ true
    unfolding other_breaks
    others_pass g =
        cond_both (is_stat asked.access && not asked.overwrite) no_break _ (λ (b : Breaks). list_all p b.changes ≡ true) (λ _. refl) (λ _. breaks_pass asked.moment asked.file g _ _)

    all_pass : list_all p (all_breaks f asked).changes ≡ true
    all_pass =
        list_all-append p (handle_breaks f asked).changes (other_breaks (first_broken f asked) asked).changes
        ∙ and_from (list_all p (handle_breaks f asked).changes) _ handles_pass (others_pass (first_broken f asked))

    added_pass : (stays : Bool) → list_all p (c.AddOpen (new_open caller asked stays) ∷ []) ≡ true
    added_pass stays = and_from (same_id own own) true (same_id-refl own) refl

    under_pass : (name : LeaseName) (stays : Bool) → list_all p ((all_breaks f asked).changes ++ ((grant_lease (all_broken f asked) asked name).changes ++ c.AddOpen (new_open caller asked stays) ∷ [])) ≡ true
    under_pass name stays =
        let g = grant_lease (all_broken f asked) asked name in
        let row : List Change = c.AddOpen (new_open caller asked stays) ∷ [] in
        list_all-append p (all_breaks f asked).changes (g.changes ++ row)
        ∙ and_from (list_all p (all_breaks f asked).changes) _ all_pass
        (list_all-append p g.changes row
        ∙ and_from (list_all p g.changes) (list_all p row)
        (of_lease (λ (x : LeaseGrant). list_all p x.changes ≡ true) (all_broken f asked) asked name (record { made = λ none. refl; more = λ l i. refl; same = λ l i. refl }))
        (added_pass stays))

    opened_pass : (elsewhere : Bool) → Passes (open_by elsewhere f caller asked)
    opened_pass elsewhere =
        of_open Passes elsewhere f caller asked (record {
          denied = refl;
          wrong = refl;
          going = refl;
          refused = refl;
          waits_first = λ blocker e. handles_pass;
          waits = λ blocker e. all_pass;
          plain = list_all-append p (all_breaks f asked).changes (c.AddOpen (new_open caller asked false) ∷ []) ∙ and_from (list_all p (all_breaks f asked).changes) _ all_pass (added_pass false);
          under = λ name. under_pass name _;
        })

  open_passes : (v : View) (asked : Asked) → Passes (open_file v caller asked)
  unfolding open_file
  open_passes v asked = let f = file_view asked.file v in waits_first f.open_watches (open_by (is_elsewhere v asked) f caller asked) (opened_pass asked f (is_elsewhere v asked))

  -- ---- calls by a handle, and `ack`

  close_passes : (rows : List OpenRow) → Passes (close_first rows)
  close_passes [] = refl
  close_passes (row ∷ rows) = of_close Passes row refl refl

  delete_passes : (on : Bool) (rows : List OpenRow) → Passes (delete_first on rows)
  delete_passes on [] = refl
  delete_passes on (row ∷ rows) = of_delete Passes on row refl refl refl

  lease_passes : (v : View) (l : LeaseRow) (state : LeaseState) (breaking : Option Breaking) → Passes (ack_lease caller.moment (file_view l.file v) l state breaking)
  lease_passes v l state None = refl
  lease_passes v l state (Some b) =
      let f = file_view l.file v in
      let again = break_lease caller.moment l.file f b.needed.0 (acknowledged l state) in
      cond_both (is_part_of state.0 b.asked.0) (accept l state again) (only_reply reply.RequestNotAccepted) Passes
      (λ _. of_breaks again.changes (lease_breaks everywhere anyone caller.moment l.file b.needed.0 refl f (λ o i. tt) (acknowledged l state)).changes) (λ _. refl)

  ack_passes : (v : View) (state : LeaseState) (ls : List LeaseRow) → Passes (ack_first caller.moment v ls state)
  ack_passes v state [] = refl
  ack_passes v state (l ∷ ls) = lease_passes v l state l.breaking

  if_passes : (f : FileView) (row : OpenRow) (wanted : ℕ) (span : Span) (forbids : RangeRow → Bool) (done : Decision) → Passes done → Passes (if_allowed f row wanted span forbids done)
  if_passes f row wanted span forbids done h =
      cond_both (not (has row.access.0 wanted)) (only_reply reply.AccessDenied) _ Passes (λ _. refl)
      (λ _. cond_both (span.length == 0) (only_reply reply.Done) _ Passes (λ _. refl)
      (λ _. cond_both (passes_end span) (only_reply reply.InvalidParameter) _ Passes (λ _. refl)
      (λ _. cond_both (list_any forbids f.ranges) (only_reply reply.FileLockConflict) done Passes (λ _. refl) (λ _. h))))

  read_passes : (v : View) (span : Span) (rows : List OpenRow) → Passes (read_first v span rows)
  read_passes v span [] = refl
  read_passes v span (row ∷ rows) = if_passes (file_view row.file v) row 0x21 span (forbids_read row span) (only_reply reply.Done) refl

  write_passes : (v : View) (span : Span) (rows : List OpenRow) → Passes (write_first caller.moment v span rows)
  write_passes v span [] = refl
  write_passes v span (row ∷ rows) =
      let f = file_view row.file v in
      if_passes f row 0x6 span (forbids_write row span) (written row (break_others caller.moment row.file f none_of_them row.lease)) (breaks_pass caller.moment row.file f none_of_them _)

  waiting_passes : (file : ℕ) (wait : Bool) (blocker : Option Sid) → Passes (wait_for_range caller file wait blocker)
  waiting_passes file true blocker = refl
  waiting_passes file false blocker = refl

  lock_by_passes : (f : FileView) (span : Span) (mode : Mode) (wait : Bool) (row : OpenRow) (held : List RangeRow) → Passes (lock_by f caller span mode wait row held)
  lock_by_passes f span mode wait row [] = breaks_pass caller.moment row.file f none_of_them _
  lock_by_passes f span mode wait row (first ∷ others) = waiting_passes row.file wait (range_blocker f first)

  lock_passes : (v : View) (span : Span) (mode : Mode) (wait : Bool) (rows : List OpenRow) → Passes (lock_first v caller span mode wait rows)
  lock_passes v span mode wait [] = refl
  lock_passes v span mode wait (row ∷ rows) =
      let f = file_view row.file v in
      waits_first f.range_watches (lock_range f caller span mode wait row)
      (cond_both (not (has row.access.0 0x3)) (only_reply reply.AccessDenied) _ Passes (λ _. refl)
      (λ _. cond_both (passes_end span) (only_reply reply.InvalidLockRange) _ Passes (λ _. refl)
      (λ _. lock_by_passes f span mode wait row (filter (λ held. range_conflict held row.id span mode) f.ranges))))

  unlock_passes : (v : View) (span : Span) (rows : List OpenRow) → Passes (unlock_first v span rows)
  unlock_passes v span [] = refl
  unlock_passes v span (row ∷ rows) = by_ranges Passes (file_view row.file v) span row (λ mode. refl) refl

  -- ---- the others

  glock_passes : (v : View) (key : ℕ) (mode : Mode) (wait : Bool) → Passes (glock v caller key mode wait)
  unfolding glock
  glock_passes v key mode wait =
      waits_first (v.watches_on (LockOf key)) (glock_by v caller key mode wait (own_holds v caller key))
      (of_glock Passes caller key (record { replies = λ reply. refl; grants = refl; lowers = refl; raises = refl; gains = λ mode. refl; waits = λ blocker upgrade. refl }) v mode wait (own_holds v caller key))

  released : (key : ℕ) (holds : List HoldRow) → Passes (gunlock_by caller key holds)
  released key [] = refl
  released key (first ∷ others) = refl

  gunlock_passes : (v : View) (key : ℕ) → Passes (gunlock v caller key)
  unfolding gunlock
  gunlock_passes v key = waits_first (v.watches_on (LockOf key)) (gunlock_by caller key (own_holds v caller key)) (released key (own_holds v caller key))

  recv_passes : (posts : List Post) → Passes (recv_first caller posts)
  recv_passes [] = refl
  recv_passes (first ∷ others) = refl

  pub ending_passes : (v : View) (sid : Sid) (moment : Moment) (others : List Change) → list_all p others ≡ true → list_all p (end_of_session v sid moment others).changes ≡ true
  unfolding end_of_session
  ending_passes v sid moment others e =
      list_all-append p (map waits_no_more (v.watches_behind sid)) (c.EndSession sid moment ∷ others)
      ∙ and_from (list_all p (map waits_no_more (v.watches_behind sid))) _ (no_more_all p finishes (v.watches_behind sid)) e

  disconnect_passes : (v : View) → Passes (disconnect v caller)
  unfolding disconnect
  disconnect_passes v = ending_passes v caller.sid caller.moment (c.Settle ∷ c.NextSession caller.sid caller.moment ∷ []) refl

  scavenge_passes : (setup : Setup) (v : View) → Passes (scavenge setup v caller)
  unfolding scavenge
  scavenge_passes setup v = let rows = all_expired setup v caller.moment in list_all-map p goes rows ∙ all_each (λ (row : OpenRow). true) rows (λ row i. refl)

  decided_pass : (setup : Setup) (v : View) (which : Call) → Passes (decide setup v caller which)
  unfolding close delete ack lock unlock read write recv
  decided_pass setup v (call.OpenFile file access share lease durable overwrite delete) = open_passes v (asked_of caller file access share lease durable overwrite delete)
  decided_pass setup v (call.Close handle) = close_passes (v.opens_of_handle caller.sid handle)
  decided_pass setup v (call.Delete handle on) = delete_passes on (v.opens_of_handle caller.sid handle)
  decided_pass setup v (call.Ack key state) = ack_passes v state (v.leases_of (own_lease caller key))
  decided_pass setup v (call.Lock handle span mode wait) = lock_passes v span mode wait (v.opens_of_handle caller.sid handle)
  decided_pass setup v (call.Unlock handle span) = unlock_passes v span (v.opens_of_handle caller.sid handle)
  decided_pass setup v (call.Read handle span) = read_passes v span (v.opens_of_handle caller.sid handle)
  decided_pass setup v (call.Write handle span) = write_passes v span (v.opens_of_handle caller.sid handle)
  decided_pass setup v (call.GLock key mode wait) = glock_passes v key mode wait
  decided_pass setup v (call.GUnlock key) = gunlock_passes v key
  decided_pass setup v call.Recv = recv_passes (v.letters_of caller.sid)
  decided_pass setup v call.Disconnect = disconnect_passes v
  decided_pass setup v (call.Reconnect worker made key) = of_reconnect Passes caller (record { replies = λ reply. refl; takes = λ row held. refl }) setup v worker made key
  decided_pass setup v call.Scavenge = scavenge_passes setup v
  decided_pass setup v call.Tidy = refl
  decided_pass setup v (call.Status tables) = refl

  -- ---- behind a call, and behind a death

  pub concluded_opens : (d : Decision) (t : Table) → Passes d → (o : OpenRow) → IsIn o (perform_all (conclude (view t) d).changes t).opens → IsOldOrOwn (record { pid = caller.sid.pid; call = caller.number }) t o
  concluded_opens d t h o i = old_or_own own (conclude (view t) d).changes t o (conclude_all p finishes refl (view t) d h) i

  pub called_opens : (setup : Setup) (t : Table) (which : Call) (o : OpenRow) → IsIn o (perform_all (outcome setup (view t) caller which).changes t).opens → IsOldOrOwn (record { pid = caller.sid.pid; call = caller.number }) t o
  called_opens setup t which o i =
      let behind = perform_all (expired_by setup (view t) caller which) t in
      then (concluded_opens (decide setup (view behind) caller which) behind (decided_pass setup (view behind) which) o (subst (λ (x : Table). IsIn o x.opens) (outcome_table setup t caller which) i))
    where
      then : IsOldOrOwn (record { pid = caller.sid.pid; call = caller.number }) (perform_all (expired_by setup (view t) caller which) t) o → IsOldOrOwn (record { pid = caller.sid.pid; call = caller.number }) t o
      then (inr k) = inr k
      then (inl (x, j, id, file)) = before (old_or_own own (expired_by setup (view t) caller which) t x (expired_all p (λ l. refl) refl setup (view t) caller which) j)
        where
          before : IsOldOrOwn (record { pid = caller.sid.pid; call = caller.number }) t x → IsOldOrOwn (record { pid = caller.sid.pid; call = caller.number }) t o
          before (inl (y, k, was_id, was_file)) = inl (y, k, was_id ∙ id, was_file ∙ file)
          before (inr k) = inr (ap (λ z. same_id z own) (sym id) ∙ k)

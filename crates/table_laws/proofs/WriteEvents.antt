-- `write` keeps what the databases stand for.
use Rattle.std.proofs.Common.{◌≡◌, ℕ, true, not, ◌==◌, List, [], ◌∷◌, ◌++◌, refl, subst, inl}
use Rattle.std.specs.List.{list_any, list_all}
use Rattle.std.proofs.lemmas.Bool.{cond_both}
use Rattle.sid_core.specs.declared.call.Call.TheVariants as call
use Rattle.sid_core.specs.declared.call.Span.{Span}
use Rattle.sid_core.specs.declared.entry.Entry.{Entry}
use Rattle.sid_core.specs.declared.ids.Moment.{Moment}
use Rattle.sid_core.specs.declared.ids.Sid.{Sid}
use Rattle.sid_core.specs.declared.reply.Reply.{Reply}
use Rattle.sid_core.specs.declared.reply.Reply.TheVariants.{Done, FileClosed, AccessDenied, InvalidParameter, FileLockConflict}
use Rattle.sid_core.specs.declared.setup.Setup.{Setup}
use Rattle.sid_core.specs.declared.setup.WorkerInfo.{WorkerInfo}
use Rattle.sid_core.specs.Setup.{IsSetup}
use Rattle.sid_core.specs.Values.{has}
use Rattle.serial_table.specs.declared.rows.OpenRow.{OpenRow}
use Rattle.serial_table.specs.declared.table.Table.{Table}
use Rattle.serial_table.specs.declared.decision.Caller.{Caller}
use Rattle.serial_table.specs.declared.decision.Decision.{Decision}
use Rattle.serial_table.specs.View.{view, lives, is_of_file}
use Rattle.serial_table.specs.File.{FileOpen, file_view, file_open}
use Rattle.serial_table.specs.Settle.{settle}
use Rattle.serial_table.specs.Break.{none_of_them, break_others}
use Rattle.serial_table.specs.Decision.{only_reply}
use Rattle.serial_table.specs.ReadWrite.{forbids_write, written, write_first, write}
use Rattle.serial_table.specs.Range.{passes_end}
use Rattle.serial_table.specs.History.{after, IsLegal}
use Rattle.serial_table.proofs.Members.{IsIn, in_filter, in_map}
use Rattle.stored_table.specs.Keys.{open_key, pid_key}
use Rattle.stored_table.specs.Places.{Chains, among}
use Rattle.stored_table.specs.Decoded.{records_of}
use Rattle.stored_table.specs.Met.{met_by_handle, all_met}
use Rattle.stored_table.specs.Stands.{StandsFor}
use Rattle.table_laws.specs.Standing.{KeepsStanding}
use Rattle.table_laws.proofs.Contained.{mail_place}
use Rattle.table_laws.proofs.Exactly.{in_opens}
use Rattle.table_laws.proofs.Meets.{owner_mail}
use Rattle.table_laws.proofs.Deciding.{IsContained, reply_contained}
use Rattle.table_laws.proofs.Chains.{IsFine, adds_no_open}
use Rattle.table_laws.proofs.Breaking.{AreBreaks, OwnersHave, each_breaks, breaks_touch, breaks_reach, breaks_wait, breaks_open}
use Rattle.table_laws.proofs.HandleCalls.{handle_places, here, files, behind, row_behind, open_was, own_file, file_met, spots_met, handle_contained, handle_opens}
use Rattle.table_laws.proofs.HandleEvents.{entry, keeps_standing, writes_by}

module _ (setup : Setup) (n : ℕ) (k : Chains) (t : Table) (stands : StandsFor setup n k (view t)) (fine : IsFine setup t) (settled : settle t ≡ t)
    (caller : Caller) (info : WorkerInfo) (pid : caller.sid.pid ≡ info.pid) (handle : ℕ) where
  abbrev HereContained : Decision → Type 0
  HereContained d = IsContained setup (handle_places setup n k t stands fine settled caller info pid handle) (records_of setup n k) (here setup n k t stands fine settled caller info pid handle) t d

  replies : (reply : Reply) → HereContained (only_reply reply)
  replies reply = reply_contained setup (handle_places setup n k t stands fine settled caller info pid handle) (records_of setup n k) (here setup n k t stands fine settled caller info pid handle) t reply

  abbrev IsMet : Sid → Type 0
  IsMet sid = among (mail_place sid.pid) (handle_places setup n k t stands fine settled caller info pid handle) ≡ true

  -- the owners of the opens of the handle's file are met
  pub owners_met : (b : Table) → ((o : OpenRow) → IsIn o b.opens → IsIn o t.opens) → (row : OpenRow) → IsIn row ((view t).opens_of_handle caller.sid handle) → OwnersHave (here setup n k t stands fine settled caller info pid handle) IsMet (file_view row.file (view b))
  owners_met b before row i o j =
      let x = in_map (file_open (lives (view b))) ((view b).opens_of row.file) o j in
      let at = in_filter (is_of_file row.file) b.opens x.0 x.1 in
      subst (λ (y : FileOpen). IsMet y.row.owner) x.2
      (owner_mail setup n k t stands.agree fine.sound fine.sets (open_key info.pid handle ∷ []) [] (files setup n k t stands fine settled caller info pid handle) [] (pid_key info.pid ∷ []) row.file
      (file_met setup n k t stands fine settled caller info pid handle row i) x.0
      (subst (λ g. IsIn x.0 ((view t).opens_of g)) (Rattle.std.proofs.lemmas.Bool.eqb-true x.0.file row.file at.1) (in_opens t fine.sound x.0 (before x.0 at.0))))

  pub breaks_are : (now : Moment) (b : Table) → ((o : OpenRow) → IsIn o b.opens → IsIn o t.opens) → (row : OpenRow) → IsIn row ((view t).opens_of_handle caller.sid handle)
      → AreBreaks (here setup n k t stands fine settled caller info pid handle) IsMet (break_others now row.file (file_view row.file (view b)) none_of_them row.lease)
  breaks_are now b before row i =
      each_breaks (here setup n k t stands fine settled caller info pid handle) IsMet now row.file none_of_them (own_file setup n k t stands fine settled caller info pid handle row i) (file_view row.file (view b)) (owners_met b before row i) _

  written_contained : (now : Moment) (b : Table) → ((o : OpenRow) → IsIn o b.opens → IsIn o t.opens) → (row : OpenRow) → IsIn row ((view t).opens_of_handle caller.sid handle)
      → HereContained (written row (break_others now row.file (file_view row.file (view b)) none_of_them row.lease))
  written_contained now b before row i =
      let h = here setup n k t stands fine settled caller info pid handle in
      let breaks = break_others now row.file (file_view row.file (view b)) none_of_them row.lease in
      let are = breaks_are now b before row i in
      record {
        touched = breaks_touch h breaks.changes are.changes;
        reached = breaks_reach h setup (handle_places setup n k t stands fine settled caller info pid handle) breaks.changes are.changes;
        none_waits = breaks_wait h breaks.changes are.changes;
        posts = are.posts;
        spots = spots_met setup n k t stands fine settled caller info pid handle row i;
        waits = tt;
      }

  pub write_contained : (now : Moment) (b : Table) → ((o : OpenRow) → IsIn o b.opens → IsIn o t.opens) → (span : Span) (os : List OpenRow) → ((o : OpenRow) → IsIn o os → IsIn o ((view t).opens_of_handle caller.sid handle))
      → HereContained (write_first now (view b) span os)
  write_contained now b before span [] w = replies FileClosed
  write_contained now b before span (row ∷ os) w =
      let f = file_view row.file (view b) in
      let done = written row (break_others now row.file f none_of_them row.lease) in
      cond_both (not (has row.access.0 0x6)) (only_reply AccessDenied) _ HereContained (λ _. replies AccessDenied)
      (λ _. cond_both (span.length == 0) (only_reply Done) _ HereContained (λ _. replies Done)
      (λ _. cond_both (passes_end span) (only_reply InvalidParameter) _ HereContained (λ _. replies InvalidParameter)
      (λ _. cond_both (list_any (forbids_write row span) f.ranges) (only_reply FileLockConflict) done HereContained (λ _. replies FileLockConflict) (λ _. written_contained now b before row (w row (inl refl))))))

  pub write_opens : (now : Moment) (b : Table) → ((o : OpenRow) → IsIn o b.opens → IsIn o t.opens) → (span : Span) (os : List OpenRow) → ((o : OpenRow) → IsIn o os → IsIn o ((view t).opens_of_handle caller.sid handle))
      → list_all adds_no_open (write_first now (view b) span os).changes ≡ true
  write_opens now b before span [] w = refl
  write_opens now b before span (row ∷ os) w =
      let P : Decision → Type 0 = λ d. list_all adds_no_open d.changes ≡ true in
      let f = file_view row.file (view b) in
      let breaks = break_others now row.file f none_of_them row.lease in
      cond_both (not (has row.access.0 0x6)) (only_reply AccessDenied) _ P (λ _. refl)
      (λ _. cond_both (span.length == 0) (only_reply Done) _ P (λ _. refl)
      (λ _. cond_both (passes_end span) (only_reply InvalidParameter) _ P (λ _. refl)
      (λ _. cond_both (list_any (forbids_write row span) f.ranges) (only_reply FileLockConflict) (written row breaks) P (λ _. refl)
      (λ _. breaks_open (here setup n k t stands fine settled caller info pid handle) breaks.changes (breaks_are now b before row (w row (inl refl))).changes))))

module _ (setup : Setup) (n : ℕ) (is : IsSetup setup) (before : List Entry) (by seq number : ℕ) (moment : Moment) (handle : ℕ) (reply : Reply) where
  pub write_stands : (span : Span) → IsLegal setup (before ++ entry setup n is before by seq number moment (call.Write handle span) reply ∷ [])
      → KeepsStanding setup n before (entry setup n is before by seq number moment (call.Write handle span) reply)
  unfolding write
  write_stands span legal =
      keeps_standing setup n is before by seq number moment (call.Write handle span) reply legal (λ w. refl)
      (λ k stands fine settled caller info declared pid guid.
      let t = after setup before in
      let b = behind setup n k t stands fine settled caller info pid handle (call.Write handle span) refl in
      let was = open_was setup n k t stands fine settled caller info pid handle (call.Write handle span) refl in
      let within = row_behind setup n k t stands fine settled caller info pid handle (call.Write handle span) refl in
      let h = write_contained setup n k t stands fine settled caller info pid handle caller.moment b was span ((view b).opens_of_handle caller.sid handle) within in
      record {
        places = all_met (met_by_handle setup n k info handle);
        writes = writes_by setup n is before by seq number moment handle reply (call.Write handle span) (λ k info. refl) k info declared;
        inside = handle_contained setup n k t stands fine settled caller info pid handle (call.Write handle span) refl h;
        opens = handle_opens setup n k t stands fine settled caller info pid handle (call.Write handle span) refl h (write_opens setup n k t stands fine settled caller info pid handle caller.moment b was span ((view b).opens_of_handle caller.sid handle) within);
      })

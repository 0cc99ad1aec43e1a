-- `scavenge` is legal by the chains of its footprint alone: all records of files, leases and workers are the same, so all files show the same.
use Rattle.std.proofs.Common.{◌≡◌, ℕ, true, false, not, ◌&&◌, ◌+◌, List, [], map, filter, find, length, Option, Some, None, refl, sym, ap, ◌∙◌, subst, inl, inr}
use Rattle.std.specs.Prelude.{IfSome, nat_le}
use Rattle.std.specs.List.{list_any, AllByRecursion, flat_map}
use Rattle.std.specs.Option.{option_map, option_map_or}
use Rattle.sid_core.specs.declared.call.Call.TheVariants as call
use Rattle.sid_core.specs.declared.ids.LeaseName.{LeaseName}
use Rattle.sid_core.specs.declared.ids.Moment.{Moment}
use Rattle.sid_core.specs.declared.ids.Sid.{Sid}
use Rattle.sid_core.specs.declared.reply.Reply.{Reply}
use Rattle.sid_core.specs.declared.reply.Reply.TheVariants.{Scavenged}
use Rattle.sid_core.specs.declared.setup.Setup.{Setup}
use Rattle.sid_core.specs.Ids.{same_sid}
use Rattle.serial_table.specs.declared.rows.OpenRow.{OpenRow}
use Rattle.serial_table.specs.declared.rows.LeaseRow.{LeaseRow}
use Rattle.serial_table.specs.declared.rows.EndedRow.{EndedRow}
use Rattle.serial_table.specs.declared.table.Table.{Table}
use Rattle.serial_table.specs.declared.decision.Caller.{Caller}
use Rattle.serial_table.specs.declared.decision.Decision.{Decision}
use Rattle.serial_table.specs.Break.{each_once}
use Rattle.serial_table.specs.View.{View, view, lives, is_end_of, is_of_file}
use Rattle.serial_table.specs.File.{FileView, FileOpen, file_view}
use Rattle.serial_table.specs.InPlace.{lives_by}
use Rattle.serial_table.specs.Change.{perform_all}
use Rattle.serial_table.specs.Decision.{only_reply, spots_of}
use Rattle.serial_table.specs.Durable.{is_expired}
use Rattle.serial_table.specs.Expire.{carried_by, look, due, is_due, expired_by}
use Rattle.serial_table.specs.Scavenge.{files_of, has_expired, all_expired, goes, scavenge}
use Rattle.serial_table.specs.Settle.{settle, settle_file}
use Rattle.serial_table.proofs.Expiring.{expired_all, expired_workers}
use Rattle.serial_table.proofs.Members.{IsIn, all_by, in_filter}
use Rattle.chain_map.specs.declared.db.Db.TheVariants as db
use Rattle.record_codec.specs.declared.share_rec.ShareRec.{ShareRec}
use Rattle.record_codec.specs.declared.range_rec.RangeRec.{RangeRec}
use Rattle.record_codec.specs.declared.lease_rec.LeaseRec.{LeaseRec}
use Rattle.record_codec.specs.declared.lease_rec.LeaseRef.{LeaseRef}
use Rattle.record_codec.specs.ShareRec.{share_rec}
use Rattle.record_codec.specs.LeaseRec.{lease_rec}
use Rattle.record_codec.specs.RegisterRec.{register_rec}
use Rattle.record_codec.specs.RangeRec.{range_rec}
use Rattle.record_codec.specs.MailRec.{mail_rec}
use Rattle.stored_table.specs.Keys.{pid_key, name_key, file_key}
use Rattle.stored_table.specs.Places.{Chains, HasChains}
use Rattle.stored_table.specs.Decoded.{AllRecords, decoded, records_of}
use Rattle.stored_table.specs.Stands.{AgreeWith}
use Rattle.stored_table.proofs.Telling.{lives_alike, file_tells}
use Rattle.table_laws.specs.Standing.{call_entry}
use Rattle.table_laws.specs.ByFootprint.{AgreeOnFootprint, IsLegalByFootprint}
use Rattle.table_laws.proofs.Lists.{any_alike}
use Rattle.table_laws.proofs.Chains.{IsFine, adds_no_open, all_still_in}
use Rattle.table_laws.proofs.Touching.{touches}
use Rattle.table_laws.proofs.Fading.{faded, expired, settles_to}
use Rattle.table_laws.proofs.Showing.{SameRefs, SameLease, SameEntry, SameWatch, SameFileRecords, filter_alike, lives_same, shown_same}
use Rattle.table_laws.proofs.Footprints.{whole_value}
use Rattle.table_laws.proofs.SameFiles.{opens_told, flat_same}
use Rattle.table_laws.proofs.Answering.{legal_if_agreed}
use Rattle.table_laws.proofs.AckAnswers.{leases_same}
use Rattle.table_laws.proofs.OpenAnswers.{file_settled}
use Rattle.table_laws.proofs.EndedSessions.{ends_none, ended_after, ended_same}

-- all records of files, leases and workers are the same in both
pub record SameEverywhere (s z : AllRecords) : Type 0 where
  pub shares : (file : ℕ) → s.shares file ≡ z.shares file
  pub leases : (name : LeaseName) → s.leases name ≡ z.leases name
  pub register : (pid : ℕ) → s.register pid ≡ z.register pid
  pub ranges : (file : ℕ) → s.ranges file ≡ z.ranges file
  pub mail : (pid : ℕ) → s.mail pid ≡ z.mail pid

module _ (s z : AllRecords) (same : SameEverywhere s z) where
  refs_of : (o : Option LeaseRec) → IfSome o (SameRefs s z)
  refs_of None = tt
  refs_of (Some x) = all_by (λ (ref : LeaseRef). s.register ref.owner.pid ≡ z.register ref.owner.pid) x.refs (λ ref i. same.register ref.owner.pid)

  pub lease_everywhere : (name : LeaseName) → SameLease s z name
  lease_everywhere name = (same.leases name, refs_of (s.leases name))

  lease_if : (o : Option LeaseName) → IfSome o (SameLease s z)
  lease_if None = tt
  lease_if (Some name) = lease_everywhere name

  entries_of : (o : Option ShareRec) → IfSome o (λ (r : ShareRec). AllByRecursion (SameEntry s z) r.entries)
  entries_of None = tt
  entries_of (Some r) = all_by (SameEntry s z) r.entries (λ e i. record { owner = same.register e.owner.pid; lease = lease_if e.lease })

  watchers_of : (o : Option ShareRec) → IfSome o (λ (r : ShareRec). AllByRecursion (SameWatch s z) r.watchers)
  watchers_of None = tt
  watchers_of (Some r) = all_by (SameWatch s z) r.watchers (λ w i. same.mail w.sid.pid)

  range_watchers_of : (o : Option RangeRec) → IfSome o (λ (r : RangeRec). AllByRecursion (SameWatch s z) r.watchers)
  range_watchers_of None = tt
  range_watchers_of (Some r) = all_by (SameWatch s z) r.watchers (λ w i. same.mail w.sid.pid)

  pub file_everywhere : (file : ℕ) → SameFileRecords s z file
  file_everywhere file = record {
    share = same.shares file;
    range = same.ranges file;
    entries = entries_of (s.shares file);
    watchers = watchers_of (s.shares file);
    range_watchers = range_watchers_of (s.ranges file);
  }

-- ---- two tables

module _ (setup : Setup) (s z : AllRecords) (same : SameEverywhere s z) (t u : Table) (agree : AgreeWith setup s (view t)) (agree_other : AgreeWith setup z (view u)) (fine : IsFine setup t) (fine_other : IsFine setup u)
    (settled : settle t ≡ t) (settled_other : settle u ≡ u) (caller : Caller) where
  pub all_show : (file : ℕ) → file_view file (view t) ≡ file_view file (view u)
  all_show file =
      sym (file_tells setup s t agree fine.sets fine.sound file)
      ∙ shown_same s z file (file_everywhere s z same file)
      ∙ file_tells setup z u agree_other fine_other.sets fine_other.sound file

  pub all_live : (sid : Sid) → lives (view t) sid ≡ lives (view u) sid
  all_live sid =
      sym (lives_alike setup s t agree fine.sets fine.sound sid)
      ∙ lives_same s z sid (same.register sid.pid)
      ∙ lives_alike setup z u agree_other fine_other.sets fine_other.sound sid

  opens_of_show : (v w : View) (file : ℕ) → file_view file v ≡ file_view file w → v.opens_of file ≡ w.opens_of file
  opens_of_show v w file e = sym (opens_told file v) ∙ ap (λ (f : FileView). map (λ (o : FileOpen). o.row) f.opens) e ∙ opens_told file w

  abbrev pub rows_of : Table → List LeaseRow
  rows_of x = due (view x) caller.moment (look setup (view x) caller call.Scavenge)

  abbrev pub behind : Table → Table
  behind x = perform_all (expired_by setup (view x) caller call.Scavenge) x

  behind_is : (x : Table) → settle x ≡ x → behind x ≡ settle (expired (rows_of x) x)
  unfolding expired_by
  behind_is x e = settles_to (rows_of x) x e

  looks_same : look setup (view t) caller call.Scavenge ≡ look setup (view u) caller call.Scavenge
  looks_same = λ i. flat_map (λ file. each_once [] (carried_by (opens_of_show (view t) (view u) file (all_show file) i))) (files_of setup)

  pub rows_same : rows_of t ≡ rows_of u
  rows_same =
      ap (filter (is_due caller.moment)) (flat_same (view t) (view u) (look setup (view t) caller call.Scavenge) (λ name i.
      leases_same setup s z t u agree agree_other fine.sound fine_other.sound name (lease_everywhere s z same name)))
      ∙ ap (λ names. due (view u) caller.moment names) looks_same

  pub show_behind : (file : ℕ) → file_view file (view (behind t)) ≡ file_view file (view (behind u))
  show_behind file =
      ap (λ x. file_view file (view x)) (behind_is t settled)
      ∙ file_settled t (rows_of t) file
      ∙ (λ i. settle_file (record (all_show file i) { leases = λ name. map (faded (rows_same i)) ((all_show file i).leases name) }))
      ∙ sym (file_settled u (rows_of u) file)
      ∙ sym (ap (λ x. file_view file (view x)) (behind_is u settled_other))

  opens_behind : (file : ℕ) → (view (behind t)).opens_of file ≡ (view (behind u)).opens_of file
  opens_behind file = opens_of_show (view (behind t)) (view (behind u)) file (show_behind file)

  was_open : (x : Table) (row : OpenRow) → IsIn row (behind x).opens → IsIn row x.opens
  was_open x row i =
      all_still_in (λ file. true) (expired_by setup (view x) caller call.Scavenge) x row (expired_all adds_no_open (λ l. refl) refl setup (view x) caller call.Scavenge)
      (expired_all (touches (λ file. true)) (λ l. refl) refl setup (view x) caller call.Scavenge) i

  ended_behind : (x : Table) → (behind x).ended ≡ x.ended
  ended_behind x = ended_after (expired_by setup (view x) caller call.Scavenge) x (expired_all ends_none (λ l. refl) refl setup (view x) caller call.Scavenge)

  pub lives_behind : (x : Table) (sid : Sid) → lives (view (behind x)) sid ≡ lives (view x) sid
  lives_behind x sid = ap (λ workers. lives_by workers sid) (expired_workers setup x caller call.Scavenge)

  due_same : (file : ℕ) (row : OpenRow) → IsIn row ((view (behind t)).opens_of file) → is_expired (view (behind t)) caller.moment row ≡ is_expired (view (behind u)) caller.moment row
  due_same file row i =
      let here = (in_filter (is_of_file file) (behind t).opens row i).0 in
      let other = (in_filter (is_of_file file) (behind u).opens row (subst (IsIn row) (opens_behind file) i)).0 in
      let alive = lives_behind t row.owner ∙ all_live row.owner ∙ sym (lives_behind u row.owner) in
      let ends =
      ap (filter (is_end_of row.owner.pid)) (ended_behind t)
      ∙ ended_same setup s z t u agree agree_other fine fine_other row (was_open t row here) (was_open u row other) (same.register row.owner.pid)
      ∙ sym (ap (filter (is_end_of row.owner.pid)) (ended_behind u)) in
      λ i. not (alive i) && option_map_or (λ last. nat_le last caller.moment.0) (option_map (λ (e : EndedRow). e.moment.0 + row.durable) (find (λ (e : EndedRow). same_sid e.sid row.owner) (ends i))) false

  due_alike : (file : ℕ) → AllByRecursion (λ row. is_expired (view (behind t)) caller.moment row ≡ is_expired (view (behind u)) caller.moment row) ((view (behind t)).opens_of file)
  due_alike file = all_by _ ((view (behind t)).opens_of file) (due_same file)

  expired_same : (file : ℕ) → filter (is_expired (view (behind t)) caller.moment) ((view (behind t)).opens_of file) ≡ filter (is_expired (view (behind u)) caller.moment) ((view (behind u)).opens_of file)
  expired_same file =
      filter_alike (is_expired (view (behind t)) caller.moment) (is_expired (view (behind u)) caller.moment) ((view (behind t)).opens_of file) (due_alike file)
      ∙ ap (filter (is_expired (view (behind u)) caller.moment)) (opens_behind file)

  some_expired : (file : ℕ) → has_expired (view (behind t)) caller.moment file ≡ has_expired (view (behind u)) caller.moment file
  some_expired file =
      any_alike (is_expired (view (behind t)) caller.moment) (is_expired (view (behind u)) caller.moment) ((view (behind t)).opens_of file) (due_alike file)
      ∙ ap (list_any (is_expired (view (behind u)) caller.moment)) (opens_behind file)

  all_expired_same : all_expired setup (view (behind t)) caller.moment ≡ all_expired setup (view (behind u)) caller.moment
  all_expired_same = λ i. flat_map (λ file. expired_same file i) (files_of setup)

  pub scavenged_same : scavenge setup (view (behind t)) caller ≡ scavenge setup (view (behind u)) caller
  unfolding scavenge
  scavenged_same = λ i. record (only_reply (Scavenged (length (all_expired_same i)))) {
    changes = map goes (all_expired_same i);
    spots = flat_map spots_of (filter (λ file. some_expired file i) (files_of setup));
  }

-- ---- the law

module _ (setup : Setup) (n by seq number : ℕ) (moment : Moment) (reply : Reply) where
  pub everywhere : (k j : Chains) → HasChains n k → AgreeOnFootprint setup n k j (call_entry by seq number moment call.Scavenge reply) → SameEverywhere (records_of setup n k) (records_of setup n j)
  everywhere k j a agree =
      let at = whole_value setup n k j (call_entry by seq number moment call.Scavenge reply) a agree in
      record {
        shares = λ file. ap (decoded share_rec) (at db.Locking (inl refl) (file_key setup file));
        leases = λ name. ap (decoded lease_rec) (at db.Leases (inr (inl refl)) (name_key name));
        register = λ pid. ap (decoded register_rec) (at db.Register (inr (inr (inl refl))) (pid_key pid));
        ranges = λ file. ap (decoded range_rec) (at db.Brlock (inr (inr (inr (inl refl)))) (file_key setup file));
        mail = λ pid. ap (decoded mail_rec) (at db.Mailbox (inr (inr (inr (inr (inl refl))))) (pid_key pid));
      }

  pub scavenge_legal : IsLegalByFootprint setup n (call_entry by seq number moment call.Scavenge reply)
  scavenge_legal =
      legal_if_agreed setup n by seq number moment call.Scavenge reply (λ k j a caller info declared pid guid in_sets agree.
      let same = everywhere k j a agree in
      record {
        worker = λ t stands alive. same.register info.pid;
        answers = λ t u stands stands_other fine fine_other alive alive_other settled settled_other.
            ap (λ (d : Decision). d.reply) (scavenged_same setup (records_of setup n k) (records_of setup n j) same t u stands.agree stands_other.agree fine fine_other settled settled_other caller);
      })

-- Calls by a handle that decide on the file of the handle's open, and add no open.
use Rattle.std.proofs.Common.{◌≡◌, ℕ, Bool, true, ◌==◌, List, [], ◌∷◌, Some, refl, sym, ap, ◌∙◌, subst, inl, inr}
use Rattle.std.specs.List.{list_any, list_all, flat_map}
use Rattle.std.specs.Option.{option_map_or}
use Rattle.std.proofs.lemmas.Bool.{and_parts, eqb-true, eq-eqb}
use Rattle.sid_core.specs.declared.call.Call.{Call}
use Rattle.sid_core.specs.declared.ids.Sid.{Sid}
use Rattle.sid_core.specs.declared.ids.Spot.{Spot}
use Rattle.sid_core.specs.declared.setup.Setup.{Setup}
use Rattle.sid_core.specs.declared.setup.WorkerInfo.{WorkerInfo}
use Rattle.sid_core.specs.Ids.{same_sid}
use Rattle.serial_table.specs.declared.rows.OpenRow.{OpenRow}
use Rattle.serial_table.specs.declared.rows.LeaseRow.{LeaseRow}
use Rattle.serial_table.specs.declared.table.Table.{Table}
use Rattle.serial_table.specs.declared.decision.Caller.{Caller}
use Rattle.serial_table.specs.View.{view, is_of_file, is_of_handle}
use Rattle.serial_table.specs.Settle.{settle}
use Rattle.serial_table.specs.Change.{perform_all}
use Rattle.serial_table.specs.Decision.{spots_of}
use Rattle.serial_table.specs.Decide.{decide, outcome}
use Rattle.serial_table.specs.Expire.{carried_by, names_at, names_beside, look, due, is_due}
use Rattle.serial_table.proofs.Names.{same_sid-eq}
use Rattle.serial_table.proofs.Members.{IsIn, all_of, any_of, one_of, in_filter, in_flat_map, passes_in}
use Rattle.chain_map.specs.declared.db.Db.TheVariants as db
use Rattle.record_codec.specs.OpenRec.{open_rec}
use Rattle.stored_table.specs.Keys.{open_key, pid_key, file_key}
use Rattle.stored_table.specs.Places.{Chains, Place, among}
use Rattle.stored_table.specs.Decoded.{AllRecords, records_of}
use Rattle.stored_table.specs.Met.{KeyList, met_by_handle, all_met, named_at, file_of, record_at}
use Rattle.stored_table.specs.Stands.{AgreeWith, HasOpenRecords, StandsFor}
use Rattle.table_laws.proofs.Contained.{share_place, ranges_place, IsMetName, Contained}
use Rattle.table_laws.proofs.Exactly.{in_opens}
use Rattle.table_laws.proofs.Meets.{flat_mapped_in, files_written, leases_met, open_watcher_met, range_watcher_met}
use Rattle.table_laws.proofs.Touching.{touches}
use Rattle.table_laws.proofs.Deciding.{AreWatchersMet, IsContained}
use Rattle.table_laws.proofs.Chains.{IsFine, adds_no_open}
use Rattle.table_laws.proofs.Calls.{once_in, carried_in, lease_of_file, call_contained, call_touches, call_adds_none, call_opens, open_behind}

module _ (setup : Setup) (n : ℕ) (k : Chains) (t : Table) (stands : StandsFor setup n k (view t)) (fine : IsFine setup t) (settled : settle t ≡ t)
    (caller : Caller) (info : WorkerInfo) (pid : caller.sid.pid ≡ info.pid) (handle : ℕ) where
  abbrev s : AllRecords
  s = records_of setup n k

  abbrev agree : AgreeWith setup (records_of setup n k) (view t)
  agree = stands.agree

  abbrev pub handle_places : List Place
  handle_places = all_met (met_by_handle setup n k info handle)

  -- the opens of the handle, of which there is one at most
  abbrev pub rows : List OpenRow
  rows = (view t).opens_of_handle caller.sid handle

  -- their files
  abbrev pub here : ℕ → Bool
  here file = list_any (λ row. row.file == file) ((view t).opens_of_handle caller.sid handle)

  abbrev opens : KeyList
  opens = open_key info.pid handle ∷ []

  abbrev pub files : KeyList
  files = named_at open_rec (file_of setup) n k db.Opens (open_key info.pid handle ∷ [])

  abbrev own : KeyList
  own = pid_key info.pid ∷ []

  -- the open record of the handle names the file
  recorded : (row : OpenRow) → IsIn row ((view t).opens_of_handle caller.sid handle) → s.opens info.pid handle ≡ Some (record { id = row.id; file = row.file })
  recorded row i =
      let at = in_filter (is_of_handle caller.sid handle) t.opens row i in
      let p = and_parts (same_sid row.owner caller.sid) (row.handle == handle) at.1 in
      let owner : row.owner.pid ≡ info.pid = ap (λ (x : Sid). x.pid) (same_sid-eq row.owner caller.sid p.0) ∙ pid in
      sym (λ j. s.opens (owner j) (eqb-true row.handle handle p.1 j))
      ∙ (all_of (HasOpenRecords s) ((view t).opens_of row.file) (agree.opens row.file) row (in_opens t fine.sound row at.0)).by_handle

  pub file_met : (row : OpenRow) → IsIn row ((view t).opens_of_handle caller.sid handle) → IsIn (file_key setup row.file) files
  file_met row i =
      flat_mapped_in (λ key. option_map_or (file_of setup) (record_at open_rec n k db.Opens key) []) opens (open_key info.pid handle) (file_key setup row.file) (inl refl)
      (subst (λ o. IsIn (file_key setup row.file) (option_map_or (file_of setup) o [])) (sym (recorded row i)) (inl refl))

  pub own_file : (row : OpenRow) → IsIn row ((view t).opens_of_handle caller.sid handle) → here row.file ≡ true
  own_file row i = any_of (λ x. x.file == row.file) ((view t).opens_of_handle caller.sid handle) row i (eq-eqb row.file row.file refl)

  here_row : (file : ℕ) → here file ≡ true → (row : OpenRow) × IsIn row ((view t).opens_of_handle caller.sid handle) × (row.file ≡ file)
  here_row file e = let r = one_of (λ x. x.file == file) ((view t).opens_of_handle caller.sid handle) e in (r.0, r.1, eqb-true r.0.file file r.2)

  pub here_met : (file : ℕ) → here file ≡ true → IsIn (file_key setup file) files
  here_met file e = let r = here_row file e in subst (λ f. IsIn (file_key setup f) files) r.2 (file_met r.0 r.1)

  written : (file : ℕ) → here file ≡ true → (among (share_place setup file) handle_places ≡ true) × (among (ranges_place setup file) handle_places ≡ true)
  written file e = files_written setup n k t agree fine.sound fine.sets opens [] files [] own file (here_met file e)

  names : (o : OpenRow) → IsIn o t.opens → here o.file ≡ true → IsMetName handle_places o.lease
  names o i e = leases_met setup n k t agree fine.sound fine.sets opens [] files [] own o.file (here_met o.file e) o (in_opens t fine.sound o i)

  -- those who wait on a spot of the handle's file are met
  pub spots_met : (row : OpenRow) → IsIn row ((view t).opens_of_handle caller.sid handle) → (spot : Spot) → IsIn spot (spots_of row.file) → AreWatchersMet setup handle_places s here t spot
  spots_met row i spot (inl e) y j = open_watcher_met setup n k t agree fine.sound fine.sets opens [] files [] own row.file (file_met row i) y (subst (λ z. IsIn y ((view t).watches_on z)) (sym e) j)
  spots_met row i spot (inr (inl e)) y j = range_watcher_met setup n k t agree fine.sound fine.sets opens [] files [] own row.file (file_met row i) y (subst (λ z. IsIn y ((view t).watches_on z)) (sym e) j)
  spots_met row i spot (inr (inr e)) y j = absurd e

  -- the leases that the call looks at are of the handle's file
  looked_by : (os : List OpenRow) → ((o : OpenRow) → IsIn o os → IsIn o ((view t).opens_of_handle caller.sid handle)) → (l : LeaseRow) → IsIn l (due (view t) caller.moment (names_beside (view t) os)) → here l.file ≡ true
  looked_by [] within l i = absurd i
  looked_by (row ∷ os) within l i =
      let at = (in_filter (is_due caller.moment) (flat_map (λ name. (view t).leases_of name) (names_at (view t) row.file)) l i).0 in
      let name = in_flat_map (λ name. (view t).leases_of name) (names_at (view t) row.file) l at in
      let o = carried_in ((view t).opens_of row.file) name.0 (once_in [] (carried_by ((view t).opens_of row.file)) name.0 name.1) in
      let k = in_filter (is_of_file row.file) t.opens o.0 o.1 in
      ap here (lease_of_file t fine.sound o.0 name.0 l k.0 o.2 name.2 ∙ eqb-true o.0.file row.file k.1) ∙ own_file row (within row (inl refl))

  looked : (l : LeaseRow) → IsIn l (due (view t) caller.moment (names_beside (view t) ((view t).opens_of_handle caller.sid handle))) → here l.file ≡ true
  looked l i = looked_by ((view t).opens_of_handle caller.sid handle) (λ o j. j) l i

  -- ---- a call that decides by the handle's open

  module _ (call : Call) (looks : look setup (view t) caller call ≡ names_beside (view t) ((view t).opens_of_handle caller.sid handle)) where
    looked_at : (l : LeaseRow) → IsIn l (due (view t) caller.moment (look setup (view t) caller call)) → here l.file ≡ true
    looked_at l i = looked l (subst (λ ns. IsIn l (due (view t) caller.moment ns)) looks i)

    abbrev pub behind : Table
    behind = perform_all (Rattle.serial_table.specs.Expire.expired_by setup (view t) caller call) t

    -- an open behind what expires was there before
    pub open_was : (o : OpenRow) → IsIn o behind.opens → IsIn o t.opens
    open_was o i = open_behind setup handle_places s here t caller call written names settled looked_at o i

    -- the open of the handle behind what expires is the one before
    pub row_behind : (row : OpenRow) → IsIn row ((view behind).opens_of_handle caller.sid handle) → IsIn row ((view t).opens_of_handle caller.sid handle)
    row_behind row i =
        let at = in_filter (is_of_handle caller.sid handle) behind.opens row i in
        passes_in (is_of_handle caller.sid handle) t.opens row (open_behind setup handle_places s here t caller call written names settled looked_at row at.0) at.1

    module _ (h : IsContained setup handle_places s here t (decide setup (view behind) caller call)) where
      pub handle_contained : Contained setup handle_places s t (perform_all (outcome setup (view t) caller call).changes t)
      handle_contained = call_contained setup handle_places s here t caller call written names settled looked_at h

      pub handle_touches : list_all (touches here) (outcome setup (view t) caller call).changes ≡ true
      handle_touches = call_touches setup handle_places s here t caller call written names settled looked_at h

      pub handle_adds_none : list_all adds_no_open (decide setup (view behind) caller call).changes ≡ true → list_all adds_no_open (outcome setup (view t) caller call).changes ≡ true
      handle_adds_none none = call_adds_none setup handle_places s here t caller call written names settled looked_at h none

      pub handle_opens : list_all adds_no_open (decide setup (view behind) caller call).changes ≡ true → (o : OpenRow) → IsIn o (perform_all (outcome setup (view t) caller call).changes t).opens → IsIn o t.opens
      handle_opens none o i = call_opens setup handle_places s here t caller call written names settled looked_at h none o i

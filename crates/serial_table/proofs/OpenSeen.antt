-- `open` goes by the opens and leases that a file view has, and its later steps by what the first breaks have left.
use Rattle.std.proofs.Common.{◌≡◌, ℕ, cond, [], ◌&&◌, not, filter, map, Option, Some, None, refl, sym, ap, ◌∙◌}
use Rattle.std.specs.List.{list_any, filter_map}
use Rattle.sid_core.specs.declared.ids.Sid.{Sid}
use Rattle.sid_core.specs.declared.ids.LeaseName.{LeaseName}
use Rattle.sid_core.specs.declared.reply.Reply.TheVariants.{SharingViolation}
use Rattle.serial_table.specs.declared.rows.OpenRow.{OpenRow}
use Rattle.serial_table.specs.declared.table.Table.{Table}
use Rattle.serial_table.specs.declared.decision.Caller.{Caller}
use Rattle.serial_table.specs.View.{view, lives, is_of_file, carries}
use Rattle.serial_table.specs.File.{FileView, FileOpen, file_view, file_open, is_under}
use Rattle.serial_table.specs.Local.{perform_all_in_file}
use Rattle.serial_table.specs.Decision.{only_reply}
use Rattle.serial_table.specs.Break.{Breaks, no_break, both, first_of, break_each, names_of, each_once, all_but_handle, all_but_write, none_of_them}
use Rattle.serial_table.specs.Asked.{Asked, is_stat, conflicts, in_conflict, refuses}
use Rattle.serial_table.specs.Grant.{is_beside, grant, grant_by, grant_lease, grant_under, is_durable}
use Rattle.serial_table.specs.Open.{handle_breaks, other_breaks, wait_or_grant, go_on, open_shared}
use Rattle.serial_table.specs.OpenAt.{row_conflicts, row_refuses, row_is_beside, wait_or_grant_at, go_further}
use Rattle.serial_table.specs.Alone.{opens_and_leases, is_connected_under}
use Rattle.serial_table.proofs.Filters.{map-filter}
use Rattle.serial_table.proofs.InPlace.{any_in_map, any_in_filter}
use Rattle.serial_table.proofs.Broken.{perform_all_in_file-append, filter_map-map}
use Rattle.serial_table.proofs.BreaksSeen.{seen-perform_all, seen-break_each, seen-break_others}

module _ (caller : Caller) (asked : Asked) where
  grant_by_seen : (f g : FileView) (done : Breaks) (lease : Option LeaseName) → opens_and_leases f ≡ opens_and_leases g → grant_by f caller asked done lease ≡ grant_by g caller asked done lease
  grant_by_seen f g done None e = refl
  grant_by_seen f g done (Some name) e = λ i. grant_under caller asked done (grant_lease (e i) asked name) (is_durable asked (grant_lease (e i) asked name))

  grant_seen : (f g : FileView) (done : Breaks) → opens_and_leases f ≡ opens_and_leases g → grant f caller asked done ≡ grant g caller asked done
  unfolding grant
  grant_seen f g done e = grant_by_seen f g done asked.lease e

  handles_seen : (f g : FileView) → opens_and_leases f ≡ opens_and_leases g → handle_breaks f asked ≡ handle_breaks g asked
  unfolding handle_breaks
  handles_seen f g e =
      seen-break_each asked.moment asked.file all_but_handle (names_of (in_conflict f asked)) f g e
      ∙ ap (λ (h : FileView). break_each asked.moment asked.file g all_but_handle (names_of (in_conflict h asked))) e

  others_seen : (f g : FileView) → opens_and_leases f ≡ opens_and_leases g → other_breaks f asked ≡ other_breaks g asked
  unfolding other_breaks
  others_seen f g e = ap (cond (is_stat asked.access && not asked.overwrite) no_break) (seen-break_others asked.moment asked.file (cond asked.overwrite none_of_them all_but_write) asked.lease f g e)

  wait_or_grant_seen : (f g : FileView) (done : Breaks) (blocker : Option Sid) → opens_and_leases f ≡ opens_and_leases g → wait_or_grant f caller asked done blocker ≡ wait_or_grant g caller asked done blocker
  wait_or_grant_seen f g done (Some blocker) e = refl
  wait_or_grant_seen f g done None e = grant_seen (perform_all_in_file done.changes f) (perform_all_in_file done.changes g) done (seen-perform_all done.changes f g e)

  go_on_seen : (f g : FileView) (done : Breaks) (blocker : Option Sid) → opens_and_leases f ≡ opens_and_leases g → go_on f caller asked done blocker ≡ go_on g caller asked done blocker
  go_on_seen f g done (Some blocker) e = refl
  go_on_seen f g done None e =
      let others = others_seen (perform_all_in_file done.changes f) (perform_all_in_file done.changes g) (seen-perform_all done.changes f g e) in
      let after : Breaks = other_breaks (perform_all_in_file done.changes g) asked in
      ap (λ (o : Breaks). wait_or_grant f caller asked (both done o) o.blocker) others ∙ wait_or_grant_seen f g (both done after) after.blocker e

  pub open_shared_seen : (f g : FileView) → opens_and_leases f ≡ opens_and_leases g → open_shared f caller asked ≡ open_shared g caller asked
  open_shared_seen f g e =
      let first = handles_seen f g e in
      let later = ap (λ (b : Breaks). go_on f caller asked b b.blocker) first ∙ go_on_seen f g (handle_breaks g asked) (handle_breaks g asked).blocker e in
      let refused = ap (λ (h : FileView). list_any (refuses h asked) (in_conflict h asked)) e in
      λ i. cond (refused i) (only_reply SharingViolation) (later i)

  -- ---- the later steps

  at_is : (left f : FileView) (done : Breaks) (blocker : Option Sid) → left ≡ perform_all_in_file done.changes f → wait_or_grant_at left caller asked done blocker ≡ wait_or_grant f caller asked done blocker
  at_is left f done (Some blocker) e = refl
  at_is left f done None e = ap (λ l. grant l caller asked done) e

  pub further_is : (left f : FileView) (done : Breaks) → left ≡ perform_all_in_file done.changes f → done.blocker ≡ None → go_further left caller asked done ≡ go_on f caller asked done None
  further_is left f done e none =
      let first : FileView = perform_all_in_file done.changes f in
      let other : Breaks = other_breaks first asked in
      ap (λ l. go_further l caller asked done) e
      ∙ ap (λ b. wait_or_grant_at (perform_all_in_file other.changes first) caller asked (both done other) (first_of b other.blocker)) none
      ∙ at_is (perform_all_in_file other.changes first) f (both done other) other.blocker (sym (perform_all_in_file-append done.changes other.changes f))

-- ---- the opens in the way, by a scan of the rows

module _ (t : Table) (asked : Asked) where
  in_conflict_is : in_conflict (file_view asked.file (view t)) asked ≡ map (file_open (lives (view t))) (filter (row_conflicts asked) (filter (is_of_file asked.file) t.opens))
  in_conflict_is = sym (map-filter (file_open (lives (view t))) (row_conflicts asked) (is_of_file asked.file) (conflicts asked) (λ x e. refl) t.opens)

  pub refusal_is : list_any (row_refuses (file_view asked.file (view t)) asked) (filter (row_conflicts asked) (filter (is_of_file asked.file) t.opens))
      ≡ list_any (refuses (file_view asked.file (view t)) asked) (in_conflict (file_view asked.file (view t)) asked)
  refusal_is =
      sym (any_in_map (file_open (lives (view t))) (refuses (file_view asked.file (view t)) asked) (filter (row_conflicts asked) (filter (is_of_file asked.file) t.opens)))
      ∙ ap (list_any (refuses (file_view asked.file (view t)) asked)) (sym in_conflict_is)

  pub beside_is : list_any (row_is_beside asked) (filter (is_of_file asked.file) t.opens) ≡ list_any (is_beside asked) (file_view asked.file (view t)).opens
  beside_is = sym (any_in_map (file_open (lives (view t))) (is_beside asked) (filter (is_of_file asked.file) t.opens))

  pub conflict_is : list_any (row_conflicts asked) (filter (is_of_file asked.file) t.opens) ≡ list_any (conflicts asked) (file_view asked.file (view t)).opens
  conflict_is = sym (any_in_map (file_open (lives (view t))) (conflicts asked) (filter (is_of_file asked.file) t.opens))

  pub names_in_conflict_is : each_once [] (filter_map (λ (o : OpenRow). o.lease) (filter (row_conflicts asked) (filter (is_of_file asked.file) t.opens))) ≡ names_of (in_conflict (file_view asked.file (view t)) asked)
  names_in_conflict_is =
      ap (each_once []) (sym (filter_map-map (λ (o : FileOpen). o.row.lease) (file_open (lives (view t))) (filter (row_conflicts asked) (filter (is_of_file asked.file) t.opens))))
      ∙ ap names_of (sym in_conflict_is)

pub connected_is : (t : Table) (file : ℕ) (name : LeaseName) → list_any (is_connected_under t.workers file name) t.opens ≡ list_any (λ (o : FileOpen). is_under name o && o.connected) (file_view file (view t)).opens
connected_is t file name =
    sym (any_in_filter (λ (o : OpenRow). carries name o.lease && lives (view t) o.owner) (is_of_file file) t.opens)
    ∙ sym (any_in_map (file_open (lives (view t))) (λ (o : FileOpen). is_under name o && o.connected) (filter (is_of_file file) t.opens))

use Rattle.std.proofs.lemmas.Result.{on_ok_weaker}
use Rattle.serial_table.specs.File.{file_view}
use Rattle.share_modes.specs.Entries.{known}
use Rattle.smbstatus_text.proofs.Counted.{ranges_told}
use Rattle.smbstatus_text.proofs.Telling.{ranges_next}
use Rattle.smbstatus_text.proofs.ranges.RangesPage.add.Goals as goal

pub returns-clause-rows : goal.returns-clause-rows
returns-clause-rows c =
    let a = c.args in
    on_ok_weaker c.push_file.result (λ e.
    ranges_told a.setup.now (known a.leases.now a.register.now) a.ranges.now a.opens.now c.requires _ _ _ _ _ c.as_slice.ensures c.as_slice-2.ensures c.self.view_is e) c.push_file.ensures

pub returns-clause-tells : goal.returns-clause-tells
returns-clause-tells c =
    let a = c.args in
    let file = a.ranges.now.file in
    on_ok_weaker c.push_file.result (λ e. λ v last tells lt none shows.
    ranges_next a.setup.now v last file a.self.now c.push_file.new.out.items
    (ranges_told a.setup.now (known a.leases.now a.register.now) a.ranges.now a.opens.now c.requires _ _ _ _ _ c.as_slice.ensures c.as_slice-2.ensures c.self.view_is e (file_view file v) shows) tells lt none) c.push_file.ensures

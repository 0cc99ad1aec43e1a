use Rattle.std.proofs.Common.{◌≡◌, ◌++◌, Some, sym, ap, ◌∙◌}
use Rattle.std.proofs.lemmas.Result.{on_ok_weaker}
use Rattle.std.specs.List.{flat_map}
use Rattle.std.specs.Option.{option_copied}
use Rattle.serial_table.specs.ByNumber.{declared_at}
use Rattle.share_modes.specs.Entries.{known}
use Rattle.smbstatus_text.specs.Rows.{counted_row}
use Rattle.smbstatus_text.proofs.Counted.{opens_told}
use Rattle.smbstatus_text.proofs.files.push_file.Goals as goal

pub returns-in-Some : goal.returns-in-Some
returns-in-Some c =
    let a = c.args in
    let row = counted_row a.setup.now c.in-Some.info.now (known a.leases.now a.register.now) a.rec.now.file in
    let is : declared_at a.setup.now.files a.rec.now.file ≡ Some c.in-Some.info.now =
    ap (λ files. declared_at files a.rec.now.file) (sym c.as_slice.ensures) ∙ sym c.declared.ensures ∙ ap option_copied c.in-Some.is
    in
    opens_told c.push_entries.result a.out.now.items c.push_entries.new.out.items a.setup.now (known a.leases.now a.register.now) a.rec.now c.in-Some.info.now is
    (on_ok_weaker c.push_entries.result (λ e. e ∙ ap (λ entries. a.out.now.items ++ flat_map row entries) c.as_slice-in-Some.ensures) c.push_entries.ensures)

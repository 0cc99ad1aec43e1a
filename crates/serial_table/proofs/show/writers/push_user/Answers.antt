use Rattle.std.proofs.Common.{◌≡◌, ℕ, List, ◌++◌, [], Option, ap, ◌∙◌}
use Rattle.std.proofs.lemmas.Result.{on_ok_weaker}
use Rattle.std.specs.Option.{option_map, option_map_or}
use Rattle.std.specs.Fmt.{decimal}
use Rattle.sid_core.specs.declared.setup.WorkerInfo.{WorkerInfo}
use Rattle.serial_table.specs.Tables.{column}
use Rattle.serial_table.proofs.Tabling.{option_map_or-option_map}
use Rattle.serial_table.proofs.show.writers.push_user.Goals as goal

-- the user that is found, or none, in its column
in_column : (out : List ℕ) (user : Option ℕ) (found : Option WorkerInfo) → user ≡ option_map (λ (info : WorkerInfo). info.uid) found
    → out ++ column 6 (option_map_or decimal user []) ≡ out ++ column 6 (option_map_or (λ (info : WorkerInfo). decimal info.uid) found [])
in_column out user found is = ap (λ o. out ++ column 6 (option_map_or decimal o [])) is ∙ ap (λ text. out ++ column 6 text) (option_map_or-option_map decimal (λ (info : WorkerInfo). info.uid) found [])

pub returns-in-Some : goal.returns-in-Some
returns-in-Some c = on_ok_weaker c.push_number.result (λ h. h ∙ in_column c.args.out.now.items _ _ c.in-Some.ensures) c.push_number.ensures

pub returns-in-None : goal.returns-in-None
returns-in-None c = on_ok_weaker c.push_column.result (λ h. h ∙ in_column c.args.out.now.items _ _ c.in-None.ensures) c.push_column.ensures

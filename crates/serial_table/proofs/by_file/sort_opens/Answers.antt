use Rattle.std.proofs.Common.{refl, rules}
use Rattle.std.proofs.lemmas.List.Sorted.{IsNonDecreasingBy-from_sort_by_key, answers_always}
use Rattle.serial_table.specs.ByFile.{file_of_open}
use Rattle.serial_table.proofs.Samples.{plain}
use Rattle.serial_table.proofs.Runs.{same_runs}
use Rattle.serial_table.proofs.by_file.sort_opens.Goals as goal

pub returns-clause-sorted : goal.returns-clause-sorted
returns-clause-sorted c = IsNonDecreasingBy-from_sort_by_key file_of_open _ c.in_ok-sort_by_key.ensures.sorted (λ a r q k. search rules)

pub returns-clause-same : goal.returns-clause-same
returns-clause-same c =
    same_runs file_of_open (plain 0 0 0) (λ file. refl) c.args.opens.now.items _ (c.sort_by_key.ensures.stable file_of_open (answers_always _ _ _ (λ f a r g h. search rules)))

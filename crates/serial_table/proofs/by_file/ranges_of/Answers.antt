use Rattle.std.proofs.Common.{ltb, leb, rules}
use Rattle.std.proofs.lemmas.List.{take_rest}
use Rattle.std.proofs.lemmas.List.Sorted.{IsPartitionPoint-from_clause}
use Rattle.serial_table.specs.declared.rows.RangeRow.{RangeRow}
use Rattle.serial_table.specs.ByFile.{file_of_range}
use Rattle.serial_table.proofs.Runs.{run_of}
use Rattle.serial_table.proofs.by_file.ranges_of.Goals as goal

pub returns : goal.returns
returns c =
    let file = c.args.file in
    let xs = c.args.sorted.now in
    let start = c.partition_point-start.result in
    run_of file_of_range file xs _ start c.partition_point-count.result (take_rest xs start) c.requires c.partition_point-start.ensures.bound c.partition_point-count.ensures.bound
    (λ parted. IsPartitionPoint-from_clause (λ (row : RangeRow). ltb row.file file) xs _ c.partition_point-start.ensures.partitioned parted (λ a r q k. search rules))
    (λ parted. IsPartitionPoint-from_clause (λ (row : RangeRow). leb row.file file) _ _ c.partition_point-count.ensures.partitioned parted (λ a r q k. search rules))

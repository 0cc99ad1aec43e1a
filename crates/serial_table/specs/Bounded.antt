-- How large the tables of legal histories get, of a setup that a script can declare.
use Rattle.std.specs.Prelude.{ℕ, ◌<◌, ◌≤◌, ◌^◌, IfSome, length}
use Rattle.std.specs.List.{AllByRecursion}
use Rattle.serial_table.specs.declared.table.Table.{Table}

-- A worker has its first session, and at most one more for each of its 20,000 calls.
abbrev pub IsSession : ℕ → Type 0
IsSession number = number ≤ 20001

-- No list has 2^32 rows, and no session in the table has a number above 20,001.
pub record IsBounded (t : Table) : Type 0 where
  pub opens : length t.opens < 2 ^ 32
  pub leases : length t.leases < 2 ^ 32
  pub ranges : length t.ranges < 2 ^ 32
  pub holds : length t.holds < 2 ^ 32
  pub waiters : length t.waiters < 2 ^ 32
  pub letters : length t.letters < 2 ^ 32
  pub workers : length t.workers < 2 ^ 32
  pub ended : length t.ended < 2 ^ 32
  pub pending : length t.pending < 2 ^ 32
  pub sessions : AllByRecursion (λ worker. IsSession worker.session) t.workers
  pub ended_sessions : AllByRecursion (λ row. IsSession row.sid.session) t.ended
  pub owners : AllByRecursion (λ open_row. IsSession open_row.owner.session) t.opens
  pub holders : AllByRecursion (λ hold. IsSession hold.owner.session) t.holds
  pub waiting : AllByRecursion (λ waiter. IsSession waiter.sid.session) t.waiters
  pub blockers : AllByRecursion (λ waiter. IfSome waiter.blocker (λ sid. IsSession sid.session)) t.waiters
  pub receivers : AllByRecursion (λ post. IsSession post.to.session) t.letters

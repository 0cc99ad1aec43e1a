-- What a script can declare.
use Rattle.std.specs.Prelude.{ℕ, Bool, ◌==◌, ◌&&◌, ◌≤◌, nat_eq, List, length, map}
use Rattle.std.specs.List.{AllByRecursion, IsDistinct}
use Rattle.sid_core.specs.declared.setup.WorkerInfo.{WorkerInfo}
use Rattle.sid_core.specs.declared.setup.FileInfo.{FileInfo}
use Rattle.sid_core.specs.declared.setup.Setup.{Setup}
use Rattle.sid_core.specs.declared.limits.TheConstants.{MAX_WORKERS, MAX_FILES}
use Rattle.sid_core.specs.Values.{IsU32, IsU64, IsText}

pub record IsWorker (worker : WorkerInfo) : Type 0 where
  pub pid : (1 ≤ worker.pid) × IsU32 worker.pid
  pub uid : IsU32 worker.uid
  pub guid : IsU64 worker.guid
  pub machine : IsText worker.machine
  pub share : IsText worker.share

pub record IsFile (file : FileInfo) : Type 0 where
  pub dev : IsU64 file.dev
  pub inode : IsU64 file.inode
  pub path : IsText file.path
  pub name : IsText file.name

abbrev pub same_file : FileInfo → FileInfo → Bool
same_file a b = (a.dev == b.dev) && (a.inode == b.inode)

-- At most 64 workers with pids that differ, and at most 10,000 files that differ in device or inode.
pub record IsSetup (setup : Setup) : Type 0 where
  pub few_workers : length setup.workers ≤ MAX_WORKERS
  pub few_files : length setup.files ≤ MAX_FILES
  pub workers : AllByRecursion IsWorker setup.workers
  pub files : AllByRecursion IsFile setup.files
  pub pids_differ : IsDistinct nat_eq (map (λ w. w.pid) setup.workers)
  pub files_differ : IsDistinct same_file setup.files

-- a number from 1 to the number of what is declared
abbrev pub IsDeclared : {X : Type 0} → List X → ℕ → Type 0
IsDeclared declared number = (1 ≤ number) × (number ≤ length declared)

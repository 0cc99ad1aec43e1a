-- When the sessions of owners ended, by register records.
use Rattle.std.specs.Prelude.{◌≡◌, ℕ, false, []}
use Rattle.std.specs.Option.{option_map}
use Rattle.std.specs.Ordering.{nat_cmp}
use Rattle.std.specs.FinMap as map
use Rattle.std.specs.FinMap.{FinMap}
use Rattle.serial_table.specs.View.{View}
use Rattle.record_codec.specs.declared.register_rec.RegisterRec.{RegisterRec}
use Rattle.server_ids.specs.Sessions.{worker_row, ended_of}

-- The view shows of the sessions of this pid what their register record tells.
pub record ShowsSessions (register : FinMap nat_cmp RegisterRec) (v : View) (pid : ℕ) : Type 0 where
  pub worker : v.worker_of pid ≡ option_map (worker_row pid) (map.get register pid)
  pub ended : v.ended_of pid ≡ ended_of register pid

-- a view that shows the sessions of the register records, and nothing else
abbrev pub sessions_of : FinMap nat_cmp RegisterRec → View
sessions_of register = record {
  opens_of = λ file. [];
  opens_of_handle = λ owner handle. [];
  opens_of_id = λ id. [];
  leases_of = λ name. [];
  ranges_of = λ file. [];
  holds_of = λ key. [];
  watches_on = λ spot. [];
  watches_behind = λ sid. [];
  tokens_of = λ sid. [];
  letters_of = λ sid. [];
  worker_of = λ pid. option_map (worker_row pid) (map.get register pid);
  ended_of = ended_of register;
  is_pending = λ file. false;
}

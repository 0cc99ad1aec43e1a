-- A pass that has done nothing, as plain cells keep it.
use Rattle.std.specs.Prelude.{◌≡◌, ℕ, false, [], replicate, None}
use Rattle.dbwrap_core.specs.declared.pass.PlainPass.{PlainPass}
use Rattle.dbwrap_core.specs.declared.pass.Stage.TheVariants.{Nothing}

pub record Fresh (count : ℕ) (p : PlainPass) : Type 0 where
  pub death : p.death ≡ None
  pub seen : p.seen ≡ 0
  pub commits : p.commits ≡ 0
  pub stage : p.stage ≡ Nothing
  pub new : p.new.items ≡ []
  pub dead : p.dead.items ≡ replicate count false
  pub freed : p.freed.items ≡ replicate count false
  pub recovering : p.recovering ≡ None
  pub looked : p.looked ≡ record { chain = None; journal = None; status = None }
  pub taken : p.taken ≡ 0
  pub given_back : p.given_back ≡ 0
  pub done : p.done ≡ 0

use Rattle.worker_script.proofs.BackScript.{script-back}
use Rattle.worker_script.proofs.SoundText.{script_is_sound}
use Rattle.worker_script.proofs.laws.scripts_are_read_back.Goals as goal

pub returns : goal.returns
returns c = record { all = script-back; only = script_is_sound }

use Rattle.std.proofs.Common.{◌≡◌, ◌<◌, ◌^◌, drop}
use Rattle.worker_script.specs.Values.{hex_after}
use Rattle.worker_script.proofs.access.hex_value.Given as goal

abbrev pub invariant-loop-byte : goal.invariant-loop-byte
invariant-loop-byte l = record {
  bound : l.value < 16 ^ l.byte-index;
  rest : hex_after l.value (drop l.byte-index l.digits) ≡ hex_after 0 l.digits;
}

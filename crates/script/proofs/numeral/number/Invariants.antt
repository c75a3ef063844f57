use Rattle.std.proofs.Common.{◌≡◌, ◌^◌, ◌<◌, drop}
use Rattle.script.specs.Tokens.{value_after, value_of}
use Rattle.script.proofs.numeral.number.Given as goal

abbrev pub invariant-loop-d : goal.invariant-loop-d
invariant-loop-d l = record { in_range : l.value < 2 ^ 32; spelled : value_after l.value (drop l.d-index l.text) ≡ value_of l.text }

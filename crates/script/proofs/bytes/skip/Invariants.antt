use Rattle.std.proofs.Common.{◌≡◌, ◌+◌, false, drop}
use Rattle.script.specs.Bytes.{skipped}
use Rattle.script.proofs.bytes.skip.Given as goal

abbrev pub invariant-loop-at : goal.invariant-loop-at
invariant-loop-at l = l.at + skipped l.comment (drop l.at l.script) ≡ l.from + skipped false (drop l.from l.script)

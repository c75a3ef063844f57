use Rattle.std.proofs.Common.{◌≡◌, ◌-◌, ◌≤◌, ◌++◌, drop, replicate}
use Rattle.std.specs.List.{concat}
use Rattle.vectors.specs.Steps.{times_of}
use Rattle.vectors.proofs.decode.Reading.repeat.Given as goal

abbrev pub invariant-loop : goal.invariant-loop
invariant-loop l = record {
  in_range : l.counter - 1 ≤ times_of l.self - 1;
  copies : l.script.items ≡ l.initial.script.items ++ concat (replicate (l.counter - 1) (drop l.self.start l.initial.script.items));
}

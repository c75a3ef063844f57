use Rattle.std.proofs.Common.{◌≡◌, ◌≤◌, take, drop, vec_len}
use Rattle.vectors.specs.Steps.{state}
use Rattle.vectors.proofs.Spelled.{run}
use Rattle.vectors.proofs.decode.decode.Given as goal

abbrev pub invariant-loop-b : goal.invariant-loop-b
invariant-loop-b l = record {
  front : take (vec_len l.initial.script) l.script.items ≡ l.initial.script.items;
  within : l.reading.start ≤ vec_len l.script;
  reads : run (state l.reading l.script.items) (drop l.b-index l.line) ≡ run (state l.initial.reading l.initial.script.items) l.line;
}

use Rattle.std.proofs.Common.{◌≡◌, ◌≤◌, ◌++◌, take, vec_items, vec_capacity}
use Rattle.std.specs.List.{concat}
use Rattle.text.specs.Lines.{named_by, lines_of}
use Rattle.text.proofs.whole.append_lines.Given as goal

abbrev pub invariant-loop-n : goal.invariant-loop-n
invariant-loop-n l = record {
  lines : vec_items l.out ≡ vec_items l.initial.out ++ concat (take l.n (lines_of l.target.rows.now (named_by l.target.assertions.now)));
  room : vec_capacity l.initial.out ≤ vec_capacity l.out;
}

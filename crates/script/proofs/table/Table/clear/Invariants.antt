use Rattle.std.proofs.Common.{◌≡◌, take, replicate}
use Rattle.script.proofs.table.Table.clear.Given as goal

abbrev pub invariant-loop-row : goal.invariant-loop-row
invariant-loop-row g l = take l.row-index l.row-items ≡ replicate l.row-index l.blank

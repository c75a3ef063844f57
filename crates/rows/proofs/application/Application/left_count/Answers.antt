use Rattle.std.proofs.Common.{add-one, arith, arith}
use Rattle.rows.proofs.application.Application.left_count.Goals as goal
use Rattle.rows.proofs.application.Application.left_count.Goals.{then-stays, else-stays}

pub loop-i-preserved : goal.loop-i-preserved
loop-i-preserved c = elim c.if-stays.branch [
  | then-stays w ↦ (rw add-one (search (arith)), omega arith)
  | else-stays w ↦ (rw add-one (search (arith)), omega arith)
]

use Rattle.std.proofs.Common.{◌≡◌, ◌*◌, ◌≤◌}
use Rattle.rows.specs.Counts.{left_count}
use Rattle.rows.proofs.application.Application.left_count.Given as goal

abbrev pub invariant-loop-i : goal.invariant-loop-i
invariant-loop-i l = (l.n ≡ left_count l.self.o.k l.self.o.left.most l.i) × (l.n ≤ 6 * l.i)

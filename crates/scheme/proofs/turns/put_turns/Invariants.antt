use Rattle.std.proofs.Common.{◌≡◌, ◌+◌, length}
use Rattle.target.specs.Tables.{laid}
use Rattle.scheme.specs.Shared.{turns, last_of}
use Rattle.scheme.proofs.turns.put_turns.Given as goal

abbrev pub invariant-loop-i : goal.invariant-loop-i
invariant-loop-i g l =
    (l.rows ≡ laid l.initial.rows l.at (turns (g.T.Turn.block l.base) l.first l.at l.i))
    × (l.former ≡ last_of l.first l.at (turns (g.T.Turn.block l.base) l.first l.at l.i))
    × (l.next ≡ l.at + length (turns (g.T.Turn.block l.base) l.first l.at l.i))

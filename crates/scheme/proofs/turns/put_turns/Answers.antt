use Rattle.std.proofs.Common.{length, arith}
use Rattle.scheme.proofs.Turning.{turn_room, turn_laid, turn_last}
use Rattle.scheme.proofs.turns.put_turns.Goals as goal

pub put_turn-former-requires : goal.put_turn-former-requires
put_turn-former-requires g c = (
  omega arith,
  turn_room (g.T.Turn.block c.args.base) c.args.first c.args.at c.loop-i.i c.loop-i.former c.loop-i.next c.loop-i.invariant.1 c.loop-i.invariant.2
      c.args.k (length c.loop-i.rows) c.loop-i-test.true (omega arith),
)

pub loop-i-preserved : goal.loop-i-preserved
loop-i-preserved g c =
    let block = g.T.Turn.block c.args.base in
    let room = turn_room block c.args.first c.args.at c.loop-i.i c.loop-i.former c.loop-i.next c.loop-i.invariant.1 c.loop-i.invariant.2
    c.args.k (length c.args.rows.now) c.loop-i-test.true (omega arith) in
    let ends = turn_last block c.args.first c.args.at c.loop-i.i c.loop-i.former c.loop-i.next c.loop-i.invariant.1 c.loop-i.invariant.2
    c.put_turn-former.result c.put_turn-former.ensures.last (g.met.T.Turn.some c.args.base c.loop-i.i c.loop-i.former c.loop-i.next) in (
      turn_laid block c.args.first c.args.at c.loop-i.i c.loop-i.former c.loop-i.next c.loop-i.invariant.1 c.loop-i.invariant.2
          c.args.rows.now c.loop-i.rows c.put_turn-former.new.rows c.loop-i.invariant.0 c.put_turn-former.ensures.table room,
      ends.0,
      ends.1,
    )

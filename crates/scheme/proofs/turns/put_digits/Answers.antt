use Rattle.std.proofs.Common.{◌+◌, length, refl}
use Rattle.target.proofs.Laying.{then_laid}
use Rattle.scheme.specs.Shared.{turns, base_of}
use Rattle.scheme.proofs.turns.put_digits.Goals as goal

pub returns-clause-table : goal.returns-clause-table
returns-clause-table g c =
    let behind = c.args.count + length c.args.head.now in
    then_laid c.args.rows.now c.put.new.rows c.put_turns.new.rows c.args.count behind
    c.args.head.now (turns (g.T.Turn.block (base_of c.args.count c.args.lemma)) c.args.first behind c.args.lemma.k) c.put.ensures c.put_turns.ensures.table refl c.requires.2

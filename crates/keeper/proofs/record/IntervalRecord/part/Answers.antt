use Rattle.std.proofs.Common.{arith}
use Rattle.std.proofs.Math.Pow.{shr_mono}
use Rattle.std.proofs.lemmas.Grind.{common_steps}
use Rattle.keeper.proofs.record.IntervalRecord.part.Goals as goal

pub returns-clause-ends : goal.returns-clause-ends
returns-clause-ends c = let order = shr_mono c.args.lower c.args.self.ok.0 in grind (arith, common_steps)

use Rattle.std.proofs.Common.{arith}
use Rattle.rows.proofs.Counting.{own_length}
use Rattle.rows.proofs.application.Application.put.Goals as goal

pub write-next-requires : goal.write-next-requires
write-next-requires c = omega (arith, own_length c.args.self.op c.args.self.o c.args.at)

use Rattle.std.proofs.Common.{◌^◌, arith, pow_mono}
use Rattle.std.proofs.lemmas.Nat.{mul-le}
use Rattle.rows.proofs.application.Application.stays.Goals as goal

pub overflow_mul-self : goal.overflow_mul-self
overflow_mul-self c =
    let small = pow_mono c.args.by.small in
    omega (arith, mul-le c.args.self.o.left.most c.number.result 4294967295 (2 ^ 32) (search arith) (search arith))

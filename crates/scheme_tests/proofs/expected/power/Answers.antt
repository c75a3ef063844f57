use Rattle.std.proofs.Common.{◌≡◌, ◌+◌, ◌-◌, ◌%◌, ◌^◌, sym, ap, ◌∙◌, arith}
use Rattle.std.proofs.lemmas.Nat.{pow-add}
use Rattle.std.proofs.Math.Nat.{mul-mod_left}
use Rattle.scheme_tests.proofs.expected.power.Goals as goal

pub returns-else-i-lt64 : goal.returns-else-i-lt64
returns-else-i-lt64 c =
    let split : c.args.i ≡ c.args.i - 64 + 64 = omega arith in
    sym (ap (λ m. 2 ^ m % 2 ^ 64) split ∙ ap (λ m. m % 2 ^ 64) (pow-add 2 (c.args.i - 64) 64) ∙ mul-mod_left (2 ^ (c.args.i - 64)) (2 ^ 64))

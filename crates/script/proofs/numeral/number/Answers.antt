use Rattle.std.proofs.Common.{◌∙◌, arith}
use Rattle.script.proofs.Values.{too_large}
use Rattle.script.proofs.numeral.number.Goals as goal

pub returns-in_err-checked_mul : goal.returns-in_err-checked_mul
returns-in_err-checked_mul c =
    c.from_residual.ensures ∙ too_large c.args.text.now c.loop-d.d-index c.loop-d.value c.loop-d-test.true
    (omega (arith, c.in_err-checked_mul.ensures)) c.loop-d.invariant.spelled

pub returns-in_err-value : goal.returns-in_err-value
returns-in_err-value c =
    c.from_residual-in_err-value.ensures ∙ too_large c.args.text.now c.loop-d.d-index c.loop-d.value c.loop-d-test.true
    (omega (arith, c.in_err-value.ensures, c.in_ok-checked_mul.ensures)) c.loop-d.invariant.spelled

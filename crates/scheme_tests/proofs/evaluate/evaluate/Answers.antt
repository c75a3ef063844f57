use Rattle.std.proofs.Common.{◌≢◌, get_or-set_other, arith}
use Rattle.scheme_tests.proofs.Evaluating.{counted_more, codes_more}
use Rattle.scheme_tests.proofs.evaluate.evaluate.Goals as goal
use Rattle.scheme_tests.proofs.evaluate.evaluate.Goals.{then-i-values, else-i-values}

pub loop-i-preserved : goal.loop-i-preserved
loop-i-preserved c = record {
  counted = counted_more c.args.rows.now c.loop-i.i c.loop-i.n c.count_with-n.result c.loop-i-test.true c.loop-i.invariant.counted c.count_with-n.ensures.count;
  few = omega (arith, c.count_with-n.ensures.few);
  codes = λ sound fit. elim c.if-i-values.branch [
    | then-i-values w ↦ λ j l k.
        codes_more c.args.rows.now c.args.numbers.now sound fit c.loop-i.i c.loop-i.n c.value-v.result c.loop-i.values c.if-i-values.values c.loop-i-test.true w.if-i-values.true
        c.loop-i.invariant.counted c.value-v.ensures w.values-is (c.loop-i.invariant.codes sound fit) j l
    | else-i-values w ↦ λ j l k. rw w.values-is (c.loop-i.invariant.codes sound fit j (omega (arith, w.if-i-values.false)) (omega arith))
  ];
  rest = λ j l. elim c.if-i-values.branch [
    | then-i-values w ↦ let ne : j ≢ c.loop-i.i = omega arith in rw w.values-is (rw get_or-set_other (c.loop-i.invariant.rest j (omega arith)))
    | else-i-values w ↦ rw w.values-is (c.loop-i.invariant.rest j (omega arith))
  ];
}

use Rattle.std.proofs.Common.{◌≡◌, ◌∙◌, replicate, ap, arith}
use Rattle.std.proofs.lemmas.Grind.{common_steps}
use Rattle.keeper.specs.Intervals.{whole_interval}
use Rattle.keeper.specs.declared.record.IntervalRecord.{IntervalRecord}
use Rattle.translate.proofs.answer.Own.new.Goals as goal

pub returns : goal.returns
returns c =
    let bit : c.unwrap.result.bits ≡ 1 = grind (arith, common_steps) in
    record {
      orders = c.in_ok-vec.ensures.items_if_clones_equal (λ y h. h);
      names = c.in_ok-vec-2.ensures.items_if_clones_equal (λ y h. h);
      sources = c.in_ok-vec-3.ensures.items_if_clones_equal (λ y h. h);
      records = c.in_ok-vec-4.ensures.items_if_clones_equal (λ y h. h) ∙ ap (λ (r : IntervalRecord). replicate 1024 r) (c.whole-record.ensures ∙ ap whole_interval bit);
      rows = c.in_ok-vec-5.ensures.items_if_clones_equal (λ y h. h);
      assertions = c.in_ok-vec-6.ensures.items_if_clones_equal (λ y h. h);
    }

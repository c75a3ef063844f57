use Rattle.std.proofs.Common.{arith}
use Rattle.vectors.proofs.Copies.{repeats_more}
use Rattle.vectors.proofs.decode.Reading.repeat.Goals as goal

pub loop-preserved : goal.loop-preserved
loop-preserved c = record {
  in_range = omega (arith, c.unwrap_or-end.ensures);
  copies = repeats_more c.args.script.now.items c.loop.script.items c.extend_from_within.new.self.items c.args.self.start c.len-end.result c.loop.counter
      (omega arith) (omega (arith, c.args.script.now.ok.0)) (omega arith) c.loop.invariant.copies c.in_ok-extend_from_within.ensures.items;
}

use Rattle.script.proofs.LawProof.{grammatical}
use Rattle.std.proofs.Common.{length}
use Rattle.script.proofs.read.read.Goals as goal

pub returns : goal.returns
returns c = record {
  answer = c.read_over.ensures.answer;
  orders = c.read_over.ensures.orders;
  names = c.read_over.ensures.names;
  grammar = grammatical c.args.script.now (length c.args.orders.now) (length c.args.names.now) c.read_over.result c.read_over.new.orders c.read_over.new.names
      c.read_over.ensures.answer c.read_over.ensures.orders c.read_over.ensures.names;
}

use Rattle.std.proofs.Common.{◌+◌, ◌*◌, ◌∙◌, arith}
use Rattle.scheme.specs.BitwiseRows.{bitwise_size, bitwise_rows}
use Rattle.scheme.proofs.Owed.{listed_stated}
use Rattle.scheme.proofs.BitwiseOwes.{bitwise_last, bitwise_owes}
use Rattle.scheme.proofs.bitwise.BitwiseWritten.lay.Goals as goal

pub returns : goal.returns
returns c =
    listed_stated bitwise_size bitwise_rows c.args.rows.now c.put_digits.new.rows c.args.count c.args.lemma (c.args.count + (13 * c.args.lemma.k + 3)) c.put_digits.result
    c.requires (bitwise_owes c.args.count c.args.lemma) (omega arith) c.put_digits.ensures.table (c.put_digits.ensures.last ∙ bitwise_last c.args.count c.args.lemma)

use Rattle.std.proofs.Common.{refl}
use Rattle.source.proofs.OneBit.{bitwise, shifted, part}
use Rattle.source.proofs.Rolling.{negative, subtracted, divided, taken_out, joined_again}
use Rattle.source.proofs.Signs.{ordered, signed_number}
use Rattle.source.proofs.laws.values_stand.Goals as goal

pub returns : goal.returns
returns c = record {
  answer = refl;
  bitwise = bitwise;
  negatives = negative;
  differences = subtracted;
  shifts = shifted;
  order = ordered;
  numbers = signed_number;
  division = divided;
  taken_out = taken_out;
  joined_again = joined_again;
  parts = part;
}

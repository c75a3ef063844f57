use mathlib.Core.Path.{refl}
use Rattle.cases.proofs.cases_stand.Goals as goal

pub returns-clause-cases : goal.returns-clause-cases
returns-clause-cases c = record {
  and = refl;
  or = refl;
  xor = refl;
  seven = refl;
  eight = refl;
  fifteen = refl;
  lone = refl;
  below = refl;
  quotient = refl;
  remainder = refl;
  negative = refl;
  unmoved = refl;
  moved = refl;
  gone = refl;
  part = refl;
  joined = refl;
  squared = refl;
  fits = refl;
  rolls = refl;
  by_sum = refl;
  by_bits = refl;
}

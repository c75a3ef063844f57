use Rattle.std.proofs.Common.{length, get_or, take, refl, ap, ◌∙◌}
use Rattle.std.proofs.lemmas.List.{take_at}
use Rattle.target.specs.declared.row.Row.TheVariants.{Unknown}
use Rattle.target.specs.Meaning.{later, unknowns, values}
use Rattle.target.specs.Soundness.{sort_at}
use Rattle.target.proofs.Values.{values-++, length_values}
use Rattle.target.proofs.RowLaw.{row_law}
use Rattle.target.proofs.Sounds.{kinds_are_sorts, prefix_sound}
use Rattle.target.proofs.Euclid.{euclidean}
use Rattle.target.proofs.laws.meaning_stands.Goals as goal

pub returns : goal.returns
returns c = record {
  answer = refl;
  each = length_values;
  keeps = λ reading numbers xs ys.
      ap (take (length xs)) (values-++ reading numbers xs ys)
      ∙ take_at (values reading numbers xs) (later reading numbers (values reading numbers xs) (unknowns xs) ys) (length xs) (length_values reading numbers xs);
  rows = λ reading numbers rows sound i lt. row_law reading numbers (sort_at rows) rows i (get_or rows i Unknown) lt refl (sound i lt);
  divides = euclidean;
  kinds = kinds_are_sorts;
  prefix = prefix_sound;
}

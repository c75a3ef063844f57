-- The number of each kind of assertion.
use Rattle.std.specs.Prelude.{ℕ}
use Rattle.target.specs.declared.assertion.Kind.{Kind}
use Rattle.target.specs.declared.assertion.Kind.TheVariants.{Range, Lemma, Requirement}

abbrev pub kind_number : Kind → ℕ
kind_number Range = 1
kind_number Lemma = 2
kind_number Requirement = 3

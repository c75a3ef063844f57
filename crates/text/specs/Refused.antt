-- The line that states a refusal.
use Rattle.std.specs.Prelude.{ℕ, List, ◌++◌, codes}
use Rattle.refusal.specs.declared.Refusal.{Refusal}
use Rattle.refusal.specs.Causes.{number_of, layer_of, word_of}
use Rattle.text.specs.Numeral.{numeral}

-- refused N at P in WORD
abbrev pub refusal_line : Refusal → List ℕ
refusal_line refusal =
    (((((codes "refused " ++ numeral (number_of refusal.cause)) ++ codes " at ") ++ numeral refusal.at) ++ codes " in ") ++ word_of (layer_of refusal.cause)) ++ codes "\n"

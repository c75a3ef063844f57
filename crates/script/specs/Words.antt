-- The words that no register may bear.
use Rattle.std.specs.Prelude.{ℕ, Bool, List, [], ◌∷◌, ◌++◌, codes}
use Rattle.std.specs.List.{list_any}
use Rattle.std.specs.Str.{bytes_eq}

-- the operators
abbrev pub operator_words : List (List ℕ)
operator_words =
    codes "bvnot" ∷ codes "bvneg" ∷ codes "bvadd" ∷ codes "bvsub" ∷ codes "bvmul" ∷ codes "bvudiv" ∷ codes "bvurem"
    ∷ codes "extract" ∷ codes "concat" ∷ codes "bvand" ∷ codes "bvor" ∷ codes "bvxor" ∷ codes "bvlshr" ∷ codes "bvshl"
    ∷ codes "bvult" ∷ codes "bvule" ∷ codes "bvugt" ∷ codes "bvuge" ∷ codes "bvslt" ∷ codes "bvsle" ∷ codes "bvsgt" ∷ codes "bvsge"
    ∷ codes "=" ∷ codes "not" ∷ codes "and" ∷ codes "or" ∷ codes "ite" ∷ codes "=>" ∷ []

-- the commands, and the words that have a meaning of their own in a term
abbrev pub other_words : List (List ℕ)
other_words =
    codes "set-logic" ∷ codes "declare-const" ∷ codes "declare-fun" ∷ codes "assert" ∷ codes "check-sat"
    ∷ codes "_" ∷ codes "let" ∷ codes "true" ∷ codes "false" ∷ []

abbrev pub reserved_words : List (List ℕ)
reserved_words = operator_words ++ other_words

-- whether a text is one of these words, whole
abbrev pub among : List (List ℕ) → List ℕ → Bool
among words text = list_any (λ word. bytes_eq word text) words

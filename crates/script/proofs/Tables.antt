-- Reserved words, and names that may be taken.
use Rattle.std.proofs.Common.{◌≡◌, ℕ, Bool, true, false, ◌||◌, List, [], ◌∷◌, map, sym, refl, ap, ◌∙◌}
use Rattle.std.specs.List.{list_any}
use Rattle.std.specs.Str.{bytes_eq}
use Rattle.std.proofs.lemmas.List.Folds.{list_any-append}
use Rattle.script.specs.Words.{operator_words, other_words, reserved_words, among}

-- a reserved word is an operator or one of the other words
module _ (text : List ℕ) (operator : Bool) where
  pub operator_first : operator ≡ true → operator ≡ among operator_words text → operator ≡ among reserved_words text
  operator_first t e = t ∙ sym (list_any-append (λ w. bytes_eq w text) operator_words other_words ∙ rw (← e, t) refl)

  pub word_then : (word : Bool) → operator ≡ false → operator ≡ among operator_words text → word ≡ among other_words text → word ≡ among reserved_words text
  word_then word f e w = w ∙ sym (list_any-append (λ w. bytes_eq w text) operator_words other_words ∙ rw (← e, f) refl)

-- words that are parts of the entries of a list
pub among-map : {X : Type 0} (f : X → List ℕ) (xs : List X) (text : List ℕ) → among (map f xs) text ≡ list_any (λ x. bytes_eq (f x) text) xs
among-map f [] text = refl
among-map f (x ∷ xs) text = ap (λ b. bytes_eq (f x) text || b) (among-map f xs text)

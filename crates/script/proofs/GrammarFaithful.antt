-- The text between the two places of a name is that name.
use Rattle.std.proofs.Common.{◌≡◌, ℕ, ◌+◌, ◌-◌, false, eqb, List, [], ◌∷◌, length, take, drop, refl, ap, ◌∙◌, subst, arith}
use Rattle.std.specs.List.{prefix_len}
use Rattle.std.proofs.lemmas.List.{length-take-le}
use Rattle.std.proofs.lemmas.List.Sums.{prefix_len-le-length}
use Rattle.std.proofs.lemmas.Bool.{cond_both}
use Rattle.script.specs.declared.token.Class.TheVariants.{Atom, Bit, HexDigit}
use Rattle.script.specs.Bytes.{digit, atomic, within, skipped}
use Rattle.script.specs.Tokens.{open_paren, close_paren, name, numeral, binary, hex, end, Lexing, found, refused, is_numeral, is_constant, atom_token, atom_of, token_here, token_at}
use Rattle.script.specs.Reading.{text_in}
use Rattle.script.proofs.GrammarSteps.{Faithful}

-- a name that is found at q is what stands there, xs being all that stands from q on
abbrev Stands : List ℕ → ℕ → Lexing → Type 0
Stands xs q (found (name t) p a) = (p ≡ q) × (take (a - p) xs ≡ t)
Stands xs q (found open_paren p a) = Unit {0}
Stands xs q (found close_paren p a) = Unit {0}
Stands xs q (found (numeral t) p a) = Unit {0}
Stands xs q (found (binary t) p a) = Unit {0}
Stands xs q (found (hex t) p a) = Unit {0}
Stands xs q (found end p a) = Unit {0}
Stands xs q (refused e) = Unit {0}

atom_again : (xs : List ℕ) (q : ℕ) → take ((q + length (atom_of xs)) - q) xs ≡ atom_of xs
atom_again xs q =
    let l : length (atom_of xs) ≡ prefix_len (within Atom) xs = length-take-le (prefix_len (within Atom) xs) xs (prefix_len-le-length (within Atom) xs) in
    let n : (q + length (atom_of xs)) - q ≡ prefix_len (within Atom) xs = omega arith in
    ap (λ k. take k xs) n

atom_stands : (b : ℕ) (xs : List ℕ) (q : ℕ) → Stands xs q (atom_token b (atom_of xs) q)
atom_stands b xs q =
    let P : Lexing → Type 0 = λ l. Stands xs q l in
    cond_both (digit b) _ _ P (λ _. cond_both (is_numeral (atom_of xs)) _ _ P (λ _. tt) (λ _. tt))
    (λ _. cond_both (eqb b 35) _ _ P
    (λ _. cond_both (is_constant 98 Bit (atom_of xs)) _ _ P (λ _. tt) (λ _. cond_both (is_constant 120 HexDigit (atom_of xs)) _ _ P (λ _. tt) (λ _. tt)))
    (λ _. (refl, atom_again xs q)))

here_stands : (xs : List ℕ) (q : ℕ) → Stands xs q (token_here xs q)
here_stands [] q = tt
here_stands (b ∷ bs) q =
    let P : Lexing → Type 0 = λ l. Stands (b ∷ bs) q l in
    cond_both (eqb b 40) _ _ P (λ _. tt)
    (λ _. cond_both (eqb b 41) _ _ P (λ _. tt)
    (λ _. cond_both (atomic b) _ _ P (λ _. atom_stands b (b ∷ bs) q) (λ _. tt)))

pub faithful : (bytes : List ℕ) → Faithful (token_at bytes) (text_in bytes)
unfolding token_at
faithful bytes pos t p a e =
    let q = pos + skipped false (drop pos bytes) in
    let P : Lexing → Type 0 = λ l. Stands (drop q bytes) q l in
    let s = subst P e (here_stands (drop q bytes) q) in
    ap (λ k. take (a - p) (drop k bytes)) s.0 ∙ s.1

-- Words cut at a separator that they do not have.
use Rattle.std.proofs.Common.{◌≡◌, ℕ, ◌+◌, Bool, true, not, ◌&&◌, ◌==◌, List, [], ◌∷◌, ◌++◌, length, refl, arith, eq-eqb}
use Rattle.std.specs.List.{position_or_len, join_with_byte}
use Rattle.std.proofs.Math.Seq.{take-append_seam, take-length, drop-append-add}
use Rattle.std.proofs.lemmas.Bool.{and_parts}
use Rattle.std.proofs.lemmas.List.{drop_all}
use Rattle.source.specs.Words.{before, after}

-- no byte of the word is the separator
abbrev pub lacks : ℕ → List ℕ → Bool
lacks c [] = true
lacks c (b ∷ bs) = not (b == c) && lacks c bs

pub lacks-append : (c : ℕ) (xs ys : List ℕ) → lacks c xs ≡ true → lacks c ys ≡ true → lacks c (xs ++ ys) ≡ true
lacks-append c [] ys h k = k
lacks-append c (x ∷ xs) ys h k =
    let (head, tail) = and_parts (not (x == c)) (lacks c xs) h in
    rw head (lacks-append c xs ys tail k)

-- the first separator is the one behind the word
place : (c : ℕ) (word text : List ℕ) → lacks c word ≡ true → position_or_len (λ b. b == c) (word ++ (c ∷ text)) ≡ length word
place c [] text h = rw (eq-eqb c c refl)
place c (b ∷ word) text h =
    let (head, tail) = and_parts (not (b == c)) (lacks c word) h in
    rw head (omega (arith, place c word text tail))

place_none : (c : ℕ) (word : List ℕ) → lacks c word ≡ true → position_or_len (λ b. b == c) word ≡ length word
place_none c [] h = refl
place_none c (b ∷ word) h =
    let (head, tail) = and_parts (not (b == c)) (lacks c word) h in
    rw head (omega (arith, place_none c word tail))

pub before_separator : (c : ℕ) (word text : List ℕ) → lacks c word ≡ true → before c (word ++ (c ∷ text)) ≡ word
before_separator c word text h = rw (place c word text h) (take-append_seam word (c ∷ text))

pub after_separator : (c : ℕ) (word text : List ℕ) → lacks c word ≡ true → after c (word ++ (c ∷ text)) ≡ text
after_separator c word text h = rw (place c word text h) (drop-append-add word (c ∷ text) 1)

pub before_none : (c : ℕ) (word : List ℕ) → lacks c word ≡ true → before c word ≡ word
before_none c word h = rw (place_none c word h) (take-length word)

pub after_none : (c : ℕ) (word : List ℕ) → lacks c word ≡ true → after c word ≡ []
after_none c word h = rw (place_none c word h) (drop_all (length word + 1) word (omega arith))

-- of words with one separator between each two, the first, and the others
pub before-join : (c : ℕ) (word : List ℕ) (words : List (List ℕ)) → lacks c word ≡ true → before c (join_with_byte c (word ∷ words)) ≡ word
before-join c word [] h = before_none c word h
before-join c word (next ∷ words) h = before_separator c word (join_with_byte c (next ∷ words)) h

pub after-join : (c : ℕ) (word : List ℕ) (words : List (List ℕ)) → lacks c word ≡ true → after c (join_with_byte c (word ∷ words)) ≡ join_with_byte c words
after-join c word [] h = after_none c word h
after-join c word (next ∷ words) h = after_separator c word (join_with_byte c (next ∷ words)) h

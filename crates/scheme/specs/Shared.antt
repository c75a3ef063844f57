-- The rows that and-schemes share.
use Rattle.std.specs.Prelude.{◌≡◌, ℕ, zero, suc, ◌+◌, ◌^◌, List, [], ◌∷◌, ◌++◌, length}
use Rattle.target.specs.declared.row.Sort as sort
use Rattle.target.specs.declared.row.Row.{Row}
use Rattle.target.specs.declared.row.Row.TheVariants.{Number, Quot, Rem, Equal, And, Choose}
use Rattle.scheme.specs.declared.base.Base.{Base}
use Rattle.scheme.specs.declared.lemma.Lemma.{Lemma}
use Rattle.scheme.specs.Stated.{Adds}

-- A digit of the row x: its quotient by the row `weight`, and the remainder of this by the row `base`. By the
-- weight 2 ^ i and the base 2 it is the bit i of x. Like all blocks here it begins at the index `at`.
abbrev pub digit_rows : ℕ → ℕ → ℕ → ℕ → List Row
digit_rows x weight base at = Quot x weight ∷ Rem at base ∷ []

-- the weight of bit i, and that bit of the rows a and b; the row `two` is 2
abbrev pub pair_rows : ℕ → ℕ → ℕ → ℕ → ℕ → List Row
pair_rows i a b two at = (Number (2 ^ i) ∷ []) ++ (digit_rows a at two (at + 1) ++ digit_rows b at two (at + 3))

-- the and of the bits p and q: whether each is 1, whether both are, and 1 or 0 for it;
-- the rows `naught` and `one` are 0 and 1
abbrev pub both_rows : ℕ → ℕ → ℕ → ℕ → ℕ → List Row
both_rows p q naught one at = Equal p one ∷ Equal q one ∷ And at (at + 1) ∷ Choose sort.TheVariants.Int (at + 2) one naught ∷ []

-- the lemma l after `count` rows, of which the rows 0, 1 and 2 follow those
abbrev pub base_of : ℕ → Lemma → Base
base_of count l = record { lemma = l; zero = count; one = count + 1; two = count + 2 }

-- the last row of a block, `former` where it is empty
abbrev pub last_of : ℕ → ℕ → List Row → ℕ
last_of former at [] = former
last_of former at (row ∷ rows) = at + length rows

-- A turn gives the rows of one digit: from the digit's number, the last row of the turn before, and its own index.
abbrev pub Turns : Type 0
Turns = ℕ → ℕ → ℕ → List Row

-- the rows of the digits from 0 to below i, one after another; the row before the first turn is `first`
abbrev pub turns : Turns → ℕ → ℕ → ℕ → List Row
turns turn first at zero = []
turns turn first at (suc i) =
    turns turn first at i ++ turn i (last_of first at (turns turn first at i)) (at + length (turns turn first at i))

-- What a scheme adds whose rows are written out as a list, from how many rows are before and the lemma that is
-- stated: exactly those rows, and the last of them is the answer.
abbrev pub Listed : (ℕ → ℕ) → (ℕ → Lemma → List Row) → Adds
Listed size list before l new answer =
    (new ≡ list (length before) l) × (answer + 1 ≡ length before + size l.k)

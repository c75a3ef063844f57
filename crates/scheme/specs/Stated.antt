-- What an and-scheme promises.
--
-- An *and-scheme* is a way to state, by rows of whole numbers and truth values, that one number is the bitwise
-- and of two others: it adds rows to a table, and one of them is true exactly when that is so.
use Rattle.std.specs.Prelude.{◌≡◌, ℕ, ◌+◌, ◌*◌, ◌^◌, ◌<◌, ◌≤◌, List, length, take, ℤ, pos, Some, None, Ok, Err, Result, ◌==◌, bit_and}
use Rattle.refusal.specs.declared.Refusal.{Refusal}
use Rattle.target.specs.declared.row.Sort as sort
use Rattle.target.specs.declared.row.Row.{Row}
use Rattle.target.specs.Tables.{laid}
use Rattle.target.specs.Values.{int, bool, Reading, value_at}
use Rattle.target.specs.Meaning.{unknowns, values}
use Rattle.target.specs.Soundness.{sort_at, Sound}
use Rattle.scheme.specs.declared.lemma.Lemma.{Lemma}
use Rattle.scheme.specs.Refusing.{cause_of}

-- At widths from 1 to 32 an and-scheme adds at least one row, and at most 24 k + 24.
pub record Sized (size k : ℕ) : Type 0 where
  pub some : 1 ≤ size
  pub most : size ≤ 24 * k + 24

-- Under every reading and whatever the unknowns are: where the rows a, b and c of a table have the values x, y and
-- z, from 0 to below 2 ^ k, the row `answer` has a truth value, which says whether z is the bitwise and of x and y.
abbrev pub Means : List Row → Lemma → ℕ → Type 0
Means rows l answer =
    (reading : Reading) (numbers : ℕ → ℤ) (x y z : ℕ) → x < 2 ^ l.k → y < 2 ^ l.k → z < 2 ^ l.k →
    value_at (values reading numbers rows) l.a ≡ int (pos x) →
    value_at (values reading numbers rows) l.b ≡ int (pos y) →
    value_at (values reading numbers rows) l.c ≡ int (pos z) →
    value_at (values reading numbers rows) answer ≡ bool (z == bit_and x y)

-- What an and-scheme's rows are: from the rows before, the lemma that is stated, the rows that are added and the
-- answer. It is a relation, so that a scheme may promise more or less of which rows it adds.
abbrev pub Adds : Type 1
Adds = List Row → Lemma → List Row → ℕ → Type 0

-- `size` rows were added at `count`, and nothing else of the table has changed
pub record Stated (size : ℕ) (adds : Adds) (before after : List Row) (count : ℕ) (l : Lemma) (answer : ℕ) : Type 0 where
  -- the rows that were added
  pub new : List Row
  pub long : length new ≡ size
  pub table : after ≡ laid before count new
  pub added : adds (take count before) l new answer
  -- none of them is an unknown
  pub known : unknowns new ≡ 0
  -- a sound table stays sound
  pub sound : Sound (take count before) → Sound (take (count + size) after)
  -- the answer is one of them, and Boolean
  pub low : count ≤ answer
  pub high : answer < count + size
  pub boolean : sort_at after answer ≡ sort.TheVariants.Bool
  pub means : Means (take (count + size) after) l answer

-- What a call of `state` leaves: granted, the answer and the rows that it stands for; refused, the first cause
-- there is, told with how many rows are in use, and the table as it was.
abbrev pub Outcome : ℕ → Adds → List Row → List Row → ℕ → Lemma → Result ℕ Refusal → Type 0
Outcome size adds before after count l (Ok answer) =
    (cause_of size before count l ≡ None) × Stated size adds before after count l answer
Outcome size adds before after count l (Err refusal) =
    (cause_of size before count l ≡ Some refusal.cause) × (refusal.at ≡ count) × (after ≡ before)

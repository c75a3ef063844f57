-- Two ands in a row, and the and of both answers.
use Rattle.std.specs.Prelude.{◌≡◌, ℕ, ◌+◌, ◌*◌, ◌^◌, ◌<◌, ◌&&◌, List, take, drop, ℤ, pos, Some, None, Ok, Err, Option, Result, ◌==◌, bit_and}
use Rattle.refusal.specs.declared.Cause.{Cause}
use Rattle.refusal.specs.declared.Refusal.{Refusal}
use Rattle.target.specs.declared.row.Sort as sort
use Rattle.target.specs.declared.row.Row.{Row}
use Rattle.target.specs.Values.{int, bool, Reading, value_at}
use Rattle.target.specs.Meaning.{values}
use Rattle.target.specs.Soundness.{sort_at, Sound}
use Rattle.scheme.specs.declared.lemma.Lemma.{Lemma}
use Rattle.scheme.specs.Refusing.{cause_of}

-- the second and: that the row e is the and of the row c of the first, and the row d
abbrev pub next : Lemma → ℕ → ℕ → Lemma
next l d e = record { k = l.k; a = l.c; b = d; c = e }

-- the first cause to refuse the first and, then the second with room for both and one row more
abbrev pub both_cause : ℕ → List Row → ℕ → Lemma → ℕ → ℕ → Option Cause
both_cause size rows count l d e =
    elim (cause_of size rows count l) [ Some cause ↦ Some cause | None ↦ cause_of (2 * size + 1) rows count (next l d e) ]

-- where the rows a to e have values from 0 to below 2 ^ k, the row `answer` says whether the value of c is the and of
-- those of a and b, and the value of e the and of those of c and d
abbrev pub BothMean : List Row → Lemma → ℕ → ℕ → ℕ → Type 0
BothMean rows l d e answer =
    (reading : Reading) (numbers : ℕ → ℤ) (x y z u v : ℕ) → x < 2 ^ l.k → y < 2 ^ l.k → z < 2 ^ l.k → u < 2 ^ l.k → v < 2 ^ l.k →
    value_at (values reading numbers rows) l.a ≡ int (pos x) →
    value_at (values reading numbers rows) l.b ≡ int (pos y) →
    value_at (values reading numbers rows) l.c ≡ int (pos z) →
    value_at (values reading numbers rows) d ≡ int (pos u) →
    value_at (values reading numbers rows) e ≡ int (pos v) →
    value_at (values reading numbers rows) answer ≡ bool (z == bit_and x y && v == bit_and z u)

pub record Both (size : ℕ) (before after : List Row) (count : ℕ) (l : Lemma) (d e answer : ℕ) : Type 0 where
  pub last : answer ≡ count + 2 * size
  pub kept : take count after ≡ take count before
  pub rest : drop (answer + 1) after ≡ drop (answer + 1) before
  pub sound : Sound (take count before) → Sound (take (answer + 1) after)
  pub boolean : sort_at after answer ≡ sort.TheVariants.Bool
  pub means : BothMean (take (answer + 1) after) l d e answer

abbrev pub Outcome : ℕ → List Row → List Row → ℕ → Lemma → ℕ → ℕ → Result ℕ Refusal → Type 0
Outcome size before after count l d e (Ok answer) =
    (both_cause size before count l d e ≡ None) × Both size before after count l d e answer
Outcome size before after count l d e (Err refusal) =
    (both_cause size before count l d e ≡ Some refusal.cause) × (refusal.at ≡ count) × (after ≡ before)

-- The rows of bvand, bvor and bvxor, appended with those of an and-scheme.
use Rattle.std.specs.Prelude.{◌≡◌, ℕ, ◌+◌, ◌<◌, ◌≤◌, cond, ◌&&◌, List, ◌++◌, length, take, Some, None, Ok, Err, Option, Result}
use Rattle.refusal.specs.declared.Cause.{Cause}
use Rattle.refusal.specs.declared.Cause.TheVariants.{Range}
use Rattle.refusal.specs.declared.Refusal.{Refusal}
use Rattle.source.specs.declared.operator.Operator.{Operator}
use Rattle.target.specs.declared.row.Row.{Row}
use Rattle.target.specs.Tables.{laid}
use Rattle.scheme.specs.declared.lemma.Lemma.{Lemma}
use Rattle.scheme.specs.Refusing.{cause_of}
use Rattle.scheme.specs.Stated.{Adds}
use Rattle.rows.specs.declared.operands.Operands.{Operands}
use Rattle.rows.specs.declared.ands.Anded.{Anded}
use Rattle.rows.specs.Operands.{with_third}
use Rattle.rows.specs.Rows.{register_rows, image, and_rows}
use Rattle.rows.specs.Counts.{has_and, own_count}
use Rattle.rows.specs.Limits.{usable}
use Rattle.rows.specs.Law.{AndMeans}

-- that the row c is the bitwise and of both operands, at their width
abbrev pub lemma_of : Operands → ℕ → Lemma
lemma_of o c = record { k = o.k; a = o.a; b = o.b; c = c }

-- all rows, where the and-scheme adds `size`
abbrev pub and_count : Operator → Operands → ℕ → ℕ
and_count op o size = 6 + size + own_count op o

-- Why they are not appended: first an operator that has no and-unknown or operands that no rows can be made for, then
-- the causes for which an and-scheme refuses that would add all of them. The and-unknown is no row yet: the first
-- operand stands for it.
abbrev pub and_cause : Operator → Operands → ℕ → List Row → ℕ → Option Cause
and_cause op o size rows at =
    cond (has_and op && usable op o) (cause_of (and_count op o size) rows at (lemma_of o o.a)) (Some Range)

-- the and-unknown's rows, those that the scheme adds, and the operator's were laid, and nothing else has changed
pub record AndAppended (size : ℕ) (adds : Adds) (op : Operator) (o : Operands) (before after : List Row) (at answer : ℕ) : Type 0 where
  -- the rows that the scheme added
  pub new : List Row
  pub long : length new ≡ size
  pub added : adds (take at before ++ register_rows o.k at) (lemma_of o at) new answer
  pub table : after ≡ laid before at (and_rows op o at new)
  -- its answer is one of them
  pub low : at + 6 ≤ answer
  pub high : answer < at + (6 + size)
  pub means : AndMeans op o (take at before) at new (take (at + and_count op o size) after) answer

-- what a call leaves: granted, all rows and where the order stands; refused, the first cause and the table as it was
abbrev pub AndOutcome : ℕ → Adds → Operator → Operands → List Row → List Row → ℕ → Result Anded Refusal → Type 0
AndOutcome size adds op o before after at (Ok r) =
    (and_cause op o size before at ≡ None) × (r.image ≡ image op (with_third o at) (at + (6 + size))) × AndAppended size adds op o before after at r.answer
AndOutcome size adds op o before after at (Err refusal) =
    (and_cause op o size before at ≡ Some refusal.cause) × (refusal.at ≡ at) × (after ≡ before)

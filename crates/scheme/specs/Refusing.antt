-- Why an and-scheme refuses.
use Rattle.std.specs.Prelude.{◌≡◌, ℕ, ◌+◌, min, Bool, true, false, cond, ◌||◌, List, length, Some, None, Option, Ok, Err, Result, nat_le, nat_lt}
use Rattle.refusal.specs.declared.Cause as causes
use Rattle.refusal.specs.declared.Cause.{Cause}
use Rattle.refusal.specs.declared.Refusal.{Refusal}
use Rattle.target.specs.declared.row.Sort as sort
use Rattle.target.specs.declared.row.Sort.{Sort}
use Rattle.target.specs.declared.row.Row.{Row}
use Rattle.target.specs.Soundness.{sort_at}
use Rattle.scheme.specs.declared.lemma.Lemma.{Lemma}

-- one of the operands is no row in use
abbrev pub outside : ℕ → Lemma → Bool
outside count l = nat_le count l.a || (nat_le count l.b || nat_le count l.c)

-- a sort is that of truth values
abbrev pub is_bool : Sort → Bool
is_bool sort.TheVariants.Int = false
is_bool sort.TheVariants.Bool = true

-- one of the operands is no whole number
abbrev pub misfit : List Row → Lemma → Bool
misfit rows l = is_bool (sort_at rows l.a) || (is_bool (sort_at rows l.b) || is_bool (sort_at rows l.c))

-- the width is not from 1 to 32
abbrev pub off_width : ℕ → Bool
off_width k = nat_lt k 1 || nat_lt 32 k

-- `size` rows more than the first `count` do not fit the table, of which at most 32768 rows are used
abbrev pub no_room : ℕ → List Row → ℕ → Bool
no_room size rows count = nat_lt (min (length rows) 32768) (count + size)

-- The cause for which the lemma l is not stated after the first `count` rows of the table: the first of these, if
-- there is one. `size` is how many rows it would take.
abbrev pub cause_of : ℕ → List Row → ℕ → Lemma → Option Cause
cause_of size rows count l =
    cond (nat_lt (length rows) count) (Some causes.TheVariants.TargetFull)
    (cond (outside count l) (Some causes.TheVariants.Operand)
    (cond (misfit rows l) (Some causes.TheVariants.Sort)
    (cond (off_width l.k) (Some causes.TheVariants.Range)
    (cond (no_room size rows count) (Some causes.TheVariants.TargetFull) None))))

-- What a check answers: that there is no cause, or the first there is, told with how many rows are in use.
abbrev pub Checked : ℕ → List Row → ℕ → Lemma → Result Unit Refusal → Type 0
Checked size rows count l (Ok _) = cause_of size rows count l ≡ None
Checked size rows count l (Err refusal) = (cause_of size rows count l ≡ Some refusal.cause) × (refusal.at ≡ count)

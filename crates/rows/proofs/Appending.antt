-- Rows appended to a table.
use Rattle.std.proofs.Common.{◌≡◌, ℕ, ◌+◌, ◌<◌, ◌≤◌, List, ◌++◌, length, take, ℤ, sym, ap, ◌∙◌, arith, length-append}
use Rattle.std.proofs.lemmas.List.{take_at, take_all, get_or_append_left}
use Rattle.target.specs.declared.row.Row.{Row}
use Rattle.target.specs.declared.row.Row.TheVariants.{Unknown}
use Rattle.target.specs.Sorts.{sort_of}
use Rattle.target.specs.Tables.{laid}
use Rattle.target.specs.Values.{Reading, value_at}
use Rattle.target.specs.Meaning.{unknowns, values}
use Rattle.target.specs.Soundness.{RowSound, sort_at}
use Rattle.target.proofs.Laying.{take_laid}
use Rattle.target.proofs.Values.{value_same}
use Rattle.target.proofs.Blocks.{Each, Stands, HasSort, stands_after, sound_join, unknowns-++}
use Rattle.rows.specs.Law.{Appends}

module _ (front new : List Row) (at : ℕ) (len : length front ≡ at) where
  abbrev all : List Row
  all = front ++ new

  pub stands : Each (Stands (front ++ new)) at new
  stands = stands_after front new at len

  pub sorts : Each (HasSort (sort_at (front ++ new))) at new
  sorts j lt = ap sort_of (stands j lt)

  -- the sort of an earlier row is as it was
  pub same_sorts : (p : ℕ) → p < at → sort_at front p ≡ sort_at (front ++ new) p
  same_sorts p lt = ap sort_of (sym (get_or_append_left front new Unknown p (omega arith)))

  pub room : at + length new ≤ length (front ++ new)
  room = omega (arith, length-append front new)

  -- and so is its value
  pub keeps_values : (reading : Reading) (numbers : ℕ → ℤ) (i : ℕ) → i < at → value_at (values reading numbers (front ++ new)) i ≡ value_at (values reading numbers front) i
  keeps_values reading numbers i lt = value_same reading numbers at all front (take_at front new at len ∙ sym (take_all at front (omega arith))) i lt

  pub appended : Each (RowSound (sort_at (front ++ new))) at new → Appends front (front ++ new) (unknowns new)
  appended sound = record {
    fresh = unknowns-++ front new;
    keeps = λ reading numbers i lt. keeps_values reading numbers i (omega arith);
    sound = λ h. sound_join front new at len h sound;
  }

-- the rows in use after so many were laid
pub in_use : (before after : List Row) (at n : ℕ) (new : List Row) → length new ≡ n → at + n ≤ length before → after ≡ laid before at new → take (at + n) after ≡ take at before ++ new
in_use before after at n new len room table =
    ap (λ m. take (at + m) after) (sym len) ∙ ap (take (at + length new)) table ∙ take_laid before at new (omega arith)

-- rows appended twice
pub appends_then : (front mid all : List Row) (m n : ℕ) → length front ≤ length mid → Appends front mid m → Appends mid all n → Appends front all (m + n)
appends_then front mid all m n le p q = record {
  fresh = omega (arith, p.fresh, q.fresh);
  keeps = λ reading numbers i lt. q.keeps reading numbers i (omega arith) ∙ p.keeps reading numbers i lt;
  sound = λ h. q.sound (p.sound h);
}

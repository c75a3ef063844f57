-- What a written list of rows owes, and that an and-scheme that adds it keeps its promise.
use Rattle.std.proofs.Common.{◌≡◌, ℕ, ◌+◌, ◌^◌, ◌<◌, ◌≤◌, eqb, List, ◌++◌, length, get_or, take, ℤ, None, sym, ap, ◌∙◌, subst, arith, length-append}
use lib.Bits.{bit_and}
use Rattle.std.proofs.lemmas.List.{get_or_append_left, get_or-take, length-take-le}
use Rattle.target.specs.declared.row.Sort.{Sort}
use Rattle.target.specs.declared.row.Sort.TheVariants as sort
use Rattle.target.specs.declared.row.Row.{Row}
use Rattle.target.specs.declared.row.Row.TheVariants.{Unknown}
use Rattle.target.specs.Sorts.{sort_of}
use Rattle.target.specs.Tables.{laid}
use Rattle.target.specs.Values.{Val, bool, Reading, value_at}
use Rattle.target.specs.Meaning.{unknowns, values}
use Rattle.target.specs.Soundness.{RowSound, Takes, sort_at}
use Rattle.target.proofs.Laying.{take_laid}
use Rattle.target.proofs.Blocks.{Each, Stands, HasSort, Obeys, stands_after, sound_join, block_obeys}
use Rattle.scheme.specs.declared.lemma.Lemma.{Lemma}
use Rattle.scheme.specs.Refusing.{cause_of}
use Rattle.scheme.specs.Stated.{Adds, Means, Stated}
use Rattle.scheme.specs.Shared.{Listed}
use Rattle.scheme.proofs.Fits.{Fit, fit}
use Rattle.scheme.proofs.Grounds.{Whole, Given}

-- The rows `new` after the first `count`, whatever those are: a, b and c are earlier rows of whole numbers.
pub record Owes (size count : ℕ) (l : Lemma) (new : List Row) (answer : ℕ) : Type 0 where
  pub long : length new ≡ size
  pub known : unknowns new ≡ 0
  pub low : count ≤ answer
  pub high : answer < count + size
  pub sound : (s : ℕ → Sort) → Whole s count l → Each (HasSort s) count new → Each (RowSound s) count new
  pub boolean : (s : ℕ → Sort) → Each (HasSort s) count new → s answer ≡ sort.Bool
  pub means : (reading : Reading) (numbers : ℕ → ℤ) (vs : List Val) (x y z : ℕ) → x < 2 ^ l.k → y < 2 ^ l.k → z < 2 ^ l.k →
      Given vs l x y z → Each (Obeys reading numbers vs) count new →
      value_at vs answer ≡ bool (eqb z (bit_and x y))

module _ (size : ℕ) (adds : Adds) (before after : List Row) (count : ℕ) (l : Lemma) (new : List Row) (answer : ℕ)
    (owed : Owes size count l new answer) (fits : Fit size before count l)
    (table : after ≡ laid before count new) (added : adds (take count before) l new answer) where
  abbrev front : List Row
  front = take count before

  abbrev all : List Row
  all = front ++ new

  abbrev s : ℕ → Sort
  s = sort_at all

  front_length : length front ≡ count
  front_length = length-take-le count before (omega (arith, fits.room))

  begins : take (count + size) after ≡ all
  begins =
      ap (λ n. take (count + n) after) (sym owed.long) ∙ ap (take (count + length new)) table
      ∙ take_laid before count new (omega (arith, fits.room, owed.long))

  operand : (p : ℕ) → Takes (sort_at before) count sort.Int p → Takes s count sort.Int p
  operand p h =
      let there : get_or all p Unknown ≡ get_or before p Unknown =
      get_or_append_left front new Unknown p (omega (arith, h.0, front_length)) ∙ get_or-take count before p Unknown h.0 in
      (h.0, ap sort_of there ∙ h.1)

  stands : Each (Stands all) count new
  stands = stands_after front new count front_length

  sorts : Each (HasSort s) count new
  sorts j lt = ap sort_of (stands j lt)

  rows_sound : Each (RowSound s) count new
  rows_sound = owed.sound s (record { a = operand l.a fits.a_in; b = operand l.b fits.b_in; c = operand l.c fits.c_in }) sorts

  means : Means all l answer
  means reading numbers x y z hx hy hz ea eb ec =
      owed.means reading numbers (values reading numbers all) x y z hx hy hz (record { a = ea; b = eb; c = ec })
      (block_obeys reading numbers s all count new (omega (arith, length-append front new, front_length)) owed.known stands rows_sound)

  answer_sort : sort_at after answer ≡ sort.Bool
  answer_sort =
      ap sort_of (sym (get_or-take (count + size) after answer Unknown owed.high)) ∙ ap (λ (t : List Row). sort_at t answer) begins ∙ owed.boolean s sorts

  pub owed_stated : Stated size adds before after count l answer
  owed_stated = record {
    new = new;
    long = owed.long;
    table = table;
    added = added;
    known = owed.known;
    sound = λ h. rw begins (sound_join front new count front_length h rows_sound);
    low = owed.low;
    high = owed.high;
    boolean = answer_sort;
    means = rw begins means;
  }

-- rows that are written out: where there is no cause to refuse and they were laid, the lemma is stated
pub listed_stated : (size : ℕ → ℕ) (list : ℕ → Lemma → List Row) (before after : List Row) (count : ℕ) (l : Lemma) (answer result : ℕ) →
    cause_of (size l.k) before count l ≡ None → Owes (size l.k) count l (list count l) answer → answer + 1 ≡ count + size l.k →
    after ≡ laid before count (list count l) → result ≡ answer → Stated (size l.k) (Listed size list) before after count l result
listed_stated size list before after count l answer result free owed last table er =
    let fits : Fit (size l.k) before count l = fit (size l.k) before count l free in
    let len : length (take count before) ≡ count = length-take-le count before (omega (arith, fits.room)) in
    subst (Stated (size l.k) (Listed size list) before after count l) (sym er)
    (owed_stated (size l.k) (Listed size list) before after count l (list count l) answer owed fits table
    (ap (λ m. list m l) (sym len), last ∙ ap (λ m. m + size l.k) (sym len)))

-- The law of the rows of a register, a constant and a truth value.
use Rattle.std.proofs.Common.{◌≡◌, ℕ, ◌+◌, ◌^◌, ◌≤◌, true, ◌&&◌, leb, List, [], ◌∷◌, ◌++◌, length, take, ℤ, pos, negsuc, sym, refl, ap, ◌∙◌, subst, arith, lit<, length-append}
use lib.Signed.{lt_z, le_z}
use Rattle.std.proofs.lemmas.List.{length-take-le, take_at}
use Rattle.std.proofs.lemmas.Bool.{le-leb}
use Rattle.source.specs.declared.value.Value.{Value}
use Rattle.source.specs.declared.value.Value.TheVariants as value
use Rattle.target.specs.declared.row.Sort.{Sort}
use Rattle.target.specs.declared.row.Row.{Row}
use Rattle.target.specs.declared.row.Row.TheVariants.{Unknown, Number, AtMost, Less, And}
use Rattle.target.specs.Tables.{laid}
use Rattle.target.specs.Values.{Val, int, bool, Reading, value_at}
use Rattle.target.specs.Meaning.{row_value, unknowns, values}
use Rattle.target.specs.Soundness.{RowSound, sort_at}
use Rattle.target.proofs.RowLaw.{row_law}
use Rattle.target.proofs.Blocks.{Each, all_each}
use Rattle.rows.specs.Rows.{register_rows, value_row}
use Rattle.rows.specs.Law.{shown, in_range, Appends, RegisterMeans, ValueMeans}
use Rattle.rows.proofs.Appending.{stands, sorts, appended, in_use}

range_is : (k : ℕ) (n : ℤ) → le_z (pos 0) n && lt_z n (pos (2 ^ k)) ≡ in_range k n
range_is k (pos n) = let e : leb 0 n ≡ true = le-leb 0 n (omega arith) in rw e
range_is k (negsuc n) = refl

module _ (k : ℕ) (front : List Row) (at : ℕ) (len : length front ≡ at) where
  abbrev new : List Row
  new = register_rows k at

  abbrev all : List Row
  all = front ++ new

  abbrev s : ℕ → Sort
  s = sort_at all

  sound : Each (RowSound s) at new
  sound =
      let h = sorts front new at len in
      let h0 = h 0 (lit< tt) in let h1 = h 1 (lit< tt) in let h2 = h 2 (lit< tt) in let h3 = h 3 (lit< tt) in let h4 = h 4 (lit< tt) in
      all_each (RowSound s) at new (search arith)

  module _ (reading : Reading) (numbers : ℕ → ℤ) where
    abbrev vs : List Val
    vs = values reading numbers all

    abbrev n : ℤ
    n = numbers (unknowns front)

    first : value_at vs at ≡ int n
    unfolding row_value
    first =
        row_law reading numbers s all at Unknown (omega (arith, length-append front new)) (stands front new at len 0 (lit< tt)) tt
        ∙ ap (λ (t : List Row). int (numbers (unknowns t))) (take_at front new at len)

    range : value_at vs (at + 5) ≡ bool (in_range k n)
    unfolding row_value
    range =
        let v1 : value_at vs (at + 1) ≡ int (pos 0) = row_law reading numbers s all (at + 1) (Number 0) (omega (arith, length-append front new)) (stands front new at len 1 (lit< tt)) tt in
        let v2 : value_at vs (at + 2) ≡ int (pos (2 ^ k)) = row_law reading numbers s all (at + 2) (Number (2 ^ k)) (omega (arith, length-append front new)) (stands front new at len 2 (lit< tt)) tt in
        let v3 : value_at vs (at + 3) ≡ bool (le_z (pos 0) n) =
        row_law reading numbers s all (at + 3) (AtMost (at + 1) at) (omega (arith, length-append front new)) (stands front new at len 3 (lit< tt)) (sound 3 (lit< tt)) ∙ rw (v1, first) in
        let v4 : value_at vs (at + 4) ≡ bool (lt_z n (pos (2 ^ k))) =
        row_law reading numbers s all (at + 4) (Less at (at + 2)) (omega (arith, length-append front new)) (stands front new at len 4 (lit< tt)) (sound 4 (lit< tt)) ∙ rw (first, v2) in
        row_law reading numbers s all (at + 5) (And (at + 3) (at + 4)) (omega (arith, length-append front new)) (stands front new at len 5 (lit< tt)) (sound 5 (lit< tt))
        ∙ rw (v3, v4) (ap bool (range_is k n))

  pub register_means : RegisterMeans k front at (front ++ register_rows k at)
  register_means = record {
    appends = appended front new at len sound;
    sort_unknown = sorts front new at len 0 (lit< tt);
    sort_range = sorts front new at len 5 (lit< tt);
    value = first;
    range = range;
  }

pub laid_register : (k : ℕ) (before after : List Row) (at : ℕ) → at + 6 ≤ length before → after ≡ laid before at (register_rows k at) → RegisterMeans k (take at before) at (take (at + 6) after)
laid_register k before after at room table =
    subst (RegisterMeans k (take at before) at) (sym (in_use before after at 6 (register_rows k at) refl room table))
    (register_means k (take at before) at (length-take-le at before (omega arith)))

-- the row of a constant or a truth value
alone : (s : ℕ → Sort) (at : ℕ) (v : Value) → RowSound s at (value_row v)
alone s at (value.Bool b) = tt
alone s at (value.Bits k n) = tt

known : (v : Value) → unknowns (value_row v ∷ []) ≡ 0
known (value.Bool b) = refl
known (value.Bits k n) = refl

row_value_lem : (reading : Reading) (numbers : ℕ → ℤ) (vs : List Val) (n : ℕ) (v : Value) → row_value reading numbers vs n (value_row v) ≡ shown v
unfolding row_value
row_value_lem reading numbers ws n (value.Bool b) = refl
row_value_lem reading numbers ws n (value.Bits k m) = refl

value_means : (v : Value) (front : List Row) (at : ℕ) → length front ≡ at → ValueMeans v front at (front ++ (value_row v ∷ []))
value_means v front at len =
    let new : List Row = value_row v ∷ [] in
    let all : List Row = front ++ new in
    let s : ℕ → Sort = sort_at all in
    record {
      appends = subst (Appends front all) (known v) (appended front new at len (all_each (RowSound s) at new (alone s at v, tt)));
      value = λ reading numbers.
          row_law reading numbers s all at (value_row v) (omega (arith, length-append front new)) (stands front new at len 0 (lit< tt)) (alone s at v)
          ∙ row_value_lem reading numbers (values reading numbers all) (unknowns (take at all)) v;
    }

pub laid_value : (v : Value) (before after : List Row) (at : ℕ) → at + 1 ≤ length before → after ≡ laid before at (value_row v ∷ []) → ValueMeans v (take at before) at (take (at + 1) after)
laid_value v before after at room table =
    subst (ValueMeans v (take at before) at) (sym (in_use before after at 1 (value_row v ∷ []) refl room table))
    (value_means v (take at before) at (length-take-le at before (omega arith)))

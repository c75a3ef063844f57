-- The law of bvand, bvor and bvxor, with the rows of any and-scheme.
use Rattle.std.proofs.Common.{◌≡◌, ℕ, ◌+◌, ◌^◌, ◌<◌, ◌≤◌, true, eqb, List, ◌++◌, length, ℤ, pos, negsuc, sym, refl, ap, ◌∙◌, arith, length-append}
use lib.Bits.{bit_and, and_lt}
use Rattle.std.proofs.lemmas.Bool.{ltb-true, lt-ltb, eqb-true, eq-eqb, false≢true}
use Rattle.source.specs.declared.operator.Operator.{Operator}
use Rattle.source.specs.declared.order.Sort as source_sort
use Rattle.source.specs.declared.value.Value.{Value}
use Rattle.source.specs.Values.{number_of, taken, value_of}
use Rattle.target.specs.declared.row.Sort.TheVariants as sort
use Rattle.target.specs.declared.row.Row.{Row}
use Rattle.target.specs.Values.{Val, int, bool, truth, Reading, value_at}
use Rattle.target.specs.Meaning.{unknowns, values}
use Rattle.target.specs.Soundness.{Takes, sort_at, Sound}
use Rattle.target.proofs.Blocks.{unknowns-++}
use Rattle.scheme.specs.Stated.{Means}
use Rattle.rows.specs.declared.operands.Operands.{Operands}
use Rattle.rows.specs.Operands.{with_third}
use Rattle.rows.specs.Rows.{register_rows, rows_of, image}
use Rattle.rows.specs.Counts.{has_and}
use Rattle.rows.specs.Law.{shown, shown_sort, in_range, Suited, Given, Appends, RegisterMeans, OrderMeans, AndMeans}
use Rattle.rows.proofs.Takens.{Known}
use Rattle.rows.proofs.Appending.{same_sorts, keeps_values, appends_then}
use Rattle.rows.specs.Ands.{lemma_of}
use Rattle.rows.proofs.RegisterLaw.{register_means}
use Rattle.rows.proofs.OrderLaw.{order_means}
use Rattle.rows.proofs.AndOps.{and_fitting, and_third, and_result, and_fits, not_ite, and_known}

-- a number of k bits is a natural number below 2 ^ k
in_range_lem : (k : ℕ) (n : ℤ) → in_range k n ≡ true → (z : ℕ) × (n ≡ pos z) × (z < 2 ^ k)
in_range_lem k (pos z) e = (z, refl, ltb-true z (2 ^ k) e)
in_range_lem k (negsuc z) e = absurd (false≢true e)

-- `front` are the rows before, `first` the same with the and-unknown's rows, `second` with the scheme's, and `all` with the operator's
module _ (op : Operator) (o : Operands) (front : List Row) (at : ℕ) (len : length front ≡ at) (has : has_and op ≡ true) (some : 1 ≤ o.k)
    (a_in : Takes (sort_at front) at sort.Int o.a) (b_in : Takes (sort_at front) at sort.Int o.b) (new : List Row) (answer : ℕ) where
  abbrev first : List Row
  first = front ++ register_rows o.k at

  abbrev second : List Row
  second = first ++ new

  abbrev here : ℕ
  here = at + (6 + length new)

  abbrev third : Operands
  third = with_third o at

  abbrev all : List Row
  all = second ++ rows_of op third here

  first_length : length first ≡ at + 6
  first_length = omega (arith, length-append front (register_rows o.k at))

  second_length : length second ≡ here
  second_length = omega (arith, first_length, length-append first new)

  module _ (known : unknowns new ≡ 0) (sound : Sound first → Sound second) (low : at + 6 ≤ answer) (high : answer < here)
      (boolean : sort_at second answer ≡ sort.Bool) (means : Means second (lemma_of o at) answer) where
    register : RegisterMeans o.k front at first
    register = register_means o.k front at len

    stated : Appends first second 0
    stated = record {
      fresh = omega (arith, unknowns-++ first new, known);
      keeps = λ reading numbers i lt. keeps_values first new (at + 6) first_length reading numbers i (omega (arith, first_length));
      sound = sound;
    }

    -- the sort of an earlier row
    sort_first : (p : ℕ) → p < at + 6 → sort_at first p ≡ sort_at second p
    sort_first = same_sorts first new (at + 6) first_length

    sort_second : (p : ℕ) → p < here → sort_at second p ≡ sort_at all p
    sort_second = same_sorts second (rows_of op third here) here second_length

    operand : (p : ℕ) → Takes (sort_at front) at sort.Int p → Takes (sort_at second) here sort.Int p
    operand p h =
        (omega (arith, h.0), sym (sort_first p (omega (arith, h.0))) ∙ sym (same_sorts front (register_rows o.k at) at len p h.0) ∙ h.1)

    suited : Suited (sort_at second) here op third
    suited = record {
      operands = and_fitting (sort_at second) here third (operand o.a a_in) (operand o.b b_in) op has;
      unknown = λ e. (omega arith, sym (sort_first at (omega arith)) ∙ register.sort_unknown);
    }

    own : OrderMeans op third second here all
    own = order_means op third second here second_length some

    abbrev width : source_sort.Sort
    width = source_sort.TheVariants.Bits o.k

    -- the values of the table's rows, and those of its first rows
    module _ (reading : Reading) (numbers : ℕ → ℤ) where
      abbrev vs : List Val
      vs = values reading numbers all

      abbrev n : ℤ
      n = numbers (unknowns front)

      from_second : (i : ℕ) → i < here → value_at vs i ≡ value_at (values reading numbers second) i
      from_second i lt = (own.appends suited).keeps reading numbers i (omega (arith, second_length))

      from_first : (i : ℕ) → i < at + 6 → value_at vs i ≡ value_at (values reading numbers first) i
      from_first i lt = from_second i (omega arith) ∙ stated.keeps reading numbers i (omega (arith, first_length))

      unknown : value_at vs at ≡ int n
      unknown = from_first at (omega arith) ∙ register.value reading numbers

      range : value_at vs (at + 5) ≡ bool (in_range o.k n)
      range = from_first (at + 5) (omega arith) ∙ register.range reading numbers

      module _ (va vb vc : Value) (t : taken op va vb vc ≡ true) (g : Given vs op o va vb vc) where
        abbrev x : ℕ
        x = number_of va

        abbrev y : ℕ
        y = number_of vb

        both : Known vs o.a o.k o.left va × Known vs o.b o.k o.right vb
        both = and_known vs o va vb vc op has t g

        -- the answer, where the and-unknown is a number of k bits
        answered : (z : ℕ) → n ≡ pos z → z < 2 ^ o.k → value_at vs answer ≡ bool (eqb z (bit_and x y))
        answered z e lt =
            from_second answer high
            ∙ means reading numbers x y z both.0.num.below both.1.num.below lt
            (sym (from_second o.a (omega (arith, a_in.0))) ∙ both.0.num.is) (sym (from_second o.b (omega (arith, b_in.0))) ∙ both.1.num.is)
            (sym (from_second at (omega arith)) ∙ unknown ∙ ap int e)

        given_third : Given vs op third va vb vc
        given_third = record { first = g.first; second = g.second; third = λ e. absurd (and_third op has e) }

        value : value_at vs (at + 5) ≡ bool true → value_at vs answer ≡ bool true → value_at vs (image op third here) ≡ shown (value_of op va vb vc)
        value er ea =
            let r = in_range_lem o.k n (ap truth (sym range ∙ er)) in
            let z : r.0 ≡ bit_and x y = eqb-true r.0 (bit_and x y) (ap truth (sym (answered r.0 r.1 r.2) ∙ ea)) in
            own.value suited reading numbers va vb vc t given_third (λ e. unknown ∙ ap int (r.1 ∙ ap pos z))

        met : n ≡ pos (bit_and x y) → (value_at vs (at + 5) ≡ bool true) × (value_at vs answer ≡ bool true)
        met e =
            let small : bit_and x y < 2 ^ o.k = and_lt o.k x y both.0.num.below both.1.num.below in (
              range ∙ ap (λ m. bool (in_range o.k m)) e ∙ ap bool (lt-ltb (bit_and x y) (2 ^ o.k) small),
              answered (bit_and x y) e small ∙ ap bool (eq-eqb (bit_and x y) (bit_and x y) refl),
            )

    pub and_means : AndMeans op o front at new (((front ++ register_rows o.k at) ++ new) ++ rows_of op (with_third o at) (at + (6 + length new))) answer
    and_means = record {
      appends =
          appends_then front second all 1 0 (omega (arith, second_length))
          (appends_then front first second 1 0 (omega (arith, first_length)) register.appends stated) (own.appends suited);
      sort_range = sym (sort_second (at + 5) (omega arith)) ∙ sym (sort_first (at + 5) (omega arith)) ∙ register.sort_range;
      sort_answer = sym (sort_second answer high) ∙ boolean;
      sort_image =
          own.sort_image suited width width width (and_fits width width width (eq-eqb o.k o.k refl) op has) (λ e. absurd (not_ite op has e))
          ∙ ap shown_sort (and_result width width width op has);
      unknown = unknown;
      range = range;
      value = value;
      met = met;
    }

-- What is known of operands that an operator takes: one lemma for each shape.
use Rattle.std.proofs.Common.{◌≡◌, ℕ, ◌^◌, ◌<◌, ◌≤◌, Bool, true, false, ◌&&◌, eqb, ltb, leb, List, pos, sym, refl, ◌∙◌}
use Rattle.std.proofs.lemmas.Bool.{and_parts, false≢true, ltb-true, leb-true, eqb-true}
use Rattle.source.specs.declared.order.Sort as source_sort
use Rattle.source.specs.declared.value.Value.{Value}
use Rattle.source.specs.declared.value.Value.TheVariants as value
use Rattle.source.specs.Widths.{is_width}
use Rattle.source.specs.Sorts.{is_bits, is_bool, alike, width_of, Shape, fits, one_bits, two_bits, any_bits, one_truth, two_truths, two_alike, choice}
use Rattle.source.specs.Values.{sort_of, is_value, number_of, truth_of, bits_of, are_values}
use Rattle.target.specs.Values.{Val, int, bool, same, value_at}
use Rattle.rows.specs.declared.operands.Range.{Range}
use Rattle.rows.specs.declared.operands.Operands.{Operands}
use Rattle.rows.specs.Law.{shown, Operand}
use Rattle.rows.proofs.Images.{Num}

shown_bits : (v : Value) → is_bits (sort_of v) ≡ true → shown v ≡ int (pos (number_of v))
shown_bits (value.Bool b) e = absurd (false≢true e)
shown_bits (value.Bits k n) e = refl

shown_truth : (v : Value) → is_bool (sort_of v) ≡ true → shown v ≡ bool (truth_of v)
shown_truth (value.Bool b) e = refl
shown_truth (value.Bits k n) e = absurd (false≢true e)

-- values that are equal have equal numbers
pub same_shown : (v w : Value) → alike (sort_of v) (sort_of w) ≡ true → same (shown v) (shown w) ≡ eqb (number_of v) (number_of w)
same_shown (value.Bool true) (value.Bool true) e = refl
same_shown (value.Bool true) (value.Bool false) e = refl
same_shown (value.Bool false) (value.Bool true) e = refl
same_shown (value.Bool false) (value.Bool false) e = refl
same_shown (value.Bool b) (value.Bits j n) e = absurd (false≢true e)
same_shown (value.Bits k m) (value.Bool b) e = absurd (false≢true e)
same_shown (value.Bits k m) (value.Bits j n) e = refl

alike_bits : (a b : source_sort.Sort) → is_bits a ≡ true → alike a b ≡ true → (is_bits b ≡ true) × (width_of a ≡ width_of b)
alike_bits source_sort.TheVariants.Bool b e f = absurd (false≢true e)
alike_bits (source_sort.TheVariants.Bits k) source_sort.TheVariants.Bool e f = absurd (false≢true f)
alike_bits (source_sort.TheVariants.Bits k) (source_sort.TheVariants.Bits j) e f = (refl, eqb-true k j f)

width_of_lem : (v : Value) → width_of (sort_of v) ≡ bits_of v
width_of_lem (value.Bool b) = refl
width_of_lem (value.Bits k n) = refl

-- an operand of bits, whose width is told as k
pub record Known (vs : List Val) (row k : ℕ) (r : Range) (v : Value) : Type 0 where
  pub wide : bits_of v ≡ k
  pub some : 1 ≤ k
  pub num : Num vs row k r (number_of v)

known : (vs : List Val) (row k : ℕ) (r : Range) (v : Value) → is_value v ≡ true → is_bits (sort_of v) ≡ true → Operand vs row k r v → Known vs row k r v
known vs row k r (value.Bool b) iv ib g = absurd (false≢true ib)
known vs row k r (value.Bits j n) iv ib g =
    let parts = and_parts (is_width j) (ltb n (2 ^ j)) iv in
    let widths = and_parts (leb 1 j) (leb j 32) parts.0 in
    let below : n < 2 ^ j = ltb-true n (2 ^ j) parts.1 in
    record {
      wide = sym g.wide;
      some = rw g.wide (leb-true 1 j widths.0);
      num = record { is = g.value; below = rw g.wide below; least = g.within.0; most = g.within.1 };
    }

module _ (vs : List Val) (o : Operands) (va vb vc : Value) where
  -- operands that are taken: they are values, and of the sorts of the shape
  taken_parts : (n : ℕ) (shape : Shape) (rest : Bool) → are_values n va vb vc && (fits shape (sort_of va) (sort_of vb) (sort_of vc) && rest) ≡ true →
      (are_values n va vb vc ≡ true) × (fits shape (sort_of va) (sort_of vb) (sort_of vc) ≡ true)
  taken_parts n shape rest t =
      let p = and_parts (are_values n va vb vc) _ t in
      (p.0, (and_parts (fits shape (sort_of va) (sort_of vb) (sort_of vc)) rest p.1).0)

  -- one operand of bits
  pub one_of : (rest : Bool) → are_values 1 va vb vc && (fits one_bits (sort_of va) (sort_of vb) (sort_of vc) && rest) ≡ true →
      Operand vs o.a o.k o.left va → Known vs o.a o.k o.left va
  one_of rest t ga =
      let p = taken_parts 1 one_bits rest t in
      known vs o.a o.k o.left va (and_parts (is_value va) _ p.0).0 p.1 ga

  -- two of one width
  pub two_of : are_values 2 va vb vc && (fits two_bits (sort_of va) (sort_of vb) (sort_of vc) && true) ≡ true →
      Operand vs o.a o.k o.left va → Operand vs o.b o.j o.right vb →
      Known vs o.a o.k o.left va × Known vs o.b o.k o.right vb
  two_of t ga gb =
      let p = taken_parts 2 two_bits true t in
      let v = and_parts (is_value va) (is_value vb && true) p.0 in
      let f = and_parts (is_bits (sort_of va)) (alike (sort_of va) (sort_of vb)) p.1 in
      let l = alike_bits (sort_of va) (sort_of vb) f.0 f.1 in
      let wide : o.k ≡ bits_of vb = ga.wide ∙ sym (width_of_lem va) ∙ l.1 ∙ width_of_lem vb in (
        known vs o.a o.k o.left va v.0 f.0 ga,
        known vs o.b o.k o.right vb (and_parts (is_value vb) true v.1).0 l.0 (record { value = gb.value; wide = wide; within = gb.within }),
      )

  -- two of any widths: their numbers
  pub any_of : (rest : Bool) → are_values 2 va vb vc && (fits any_bits (sort_of va) (sort_of vb) (sort_of vc) && rest) ≡ true →
      Operand vs o.a o.k o.left va → Operand vs o.b o.j o.right vb →
      (value_at vs o.a ≡ int (pos (number_of va))) × (value_at vs o.b ≡ int (pos (number_of vb)))
  any_of rest t ga gb =
      let f = and_parts (is_bits (sort_of va)) (is_bits (sort_of vb)) (taken_parts 2 any_bits rest t).1 in
      (ga.value ∙ shown_bits va f.0, gb.value ∙ shown_bits vb f.1)

  -- truth values
  pub truth_of_lem : are_values 1 va vb vc && (fits one_truth (sort_of va) (sort_of vb) (sort_of vc) && true) ≡ true → Operand vs o.a o.k o.left va → value_at vs o.a ≡ bool (truth_of va)
  truth_of_lem t ga = ga.value ∙ shown_truth va (taken_parts 1 one_truth true t).1

  pub truths_of : are_values 2 va vb vc && (fits two_truths (sort_of va) (sort_of vb) (sort_of vc) && true) ≡ true →
      Operand vs o.a o.k o.left va → Operand vs o.b o.j o.right vb →
      (value_at vs o.a ≡ bool (truth_of va)) × (value_at vs o.b ≡ bool (truth_of vb))
  truths_of t ga gb =
      let f = and_parts (is_bool (sort_of va)) (is_bool (sort_of vb)) (taken_parts 2 two_truths true t).1 in
      (ga.value ∙ shown_truth va f.0, gb.value ∙ shown_truth vb f.1)

  -- two of one sort
  pub alike_of : are_values 2 va vb vc && (fits two_alike (sort_of va) (sort_of vb) (sort_of vc) && true) ≡ true → alike (sort_of va) (sort_of vb) ≡ true
  alike_of t = (taken_parts 2 two_alike true t).1

  -- the condition of a choice
  pub choice_of : are_values 3 va vb vc && (fits choice (sort_of va) (sort_of vb) (sort_of vc) && true) ≡ true → Operand vs o.a o.k o.left va → value_at vs o.a ≡ bool (truth_of va)
  choice_of t ga = ga.value ∙ shown_truth va (and_parts (is_bool (sort_of va)) (alike (sort_of vb) (sort_of vc)) (taken_parts 3 choice true t).1).0

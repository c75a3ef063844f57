-- The records of a table's rows describe the rows' values, for any keeper.
use Rattle.std.proofs.Common.{◌≡◌, ℕ, ◌+◌, ◌^◌, ◌<◌, ◌≤◌, true, List, [], ◌∷◌, length, get_or, take, set, sym, ap, ◌∙◌, subst, inl, inr, arith, length-set, get_or-set_other, get_or-take, get_or-set_same}
use Rattle.std.proofs.lemmas.Bool.{cases_eq}
use Rattle.source.specs.Widths.{is_width}
use Rattle.source.specs.Sorts.{shape_of, count_of}
use Rattle.source.specs.Values.{bits_of, number_of, taken, value_of}
use Rattle.source.specs.declared.operator.Operator.{Operator}
use Rattle.source.specs.declared.value.Value.{Value}
use Rattle.source.specs.declared.width.Width.{Width}
use Rattle.keeper.specs.Descriptions.{Describes}
use Rattle.keeper.specs.Results.{value_number, width_from}
use Rattle.ranges.specs.declared.entry.Entry.{Entry}
use Rattle.ranges.specs.declared.entry.Entry.TheVariants.{Any, Number, Applied}
use Rattle.ranges.specs.Filled.{record_at, record_of, filled}
use Rattle.ranges.specs.Meaning.{value_at, Row, Rows}

is_width_lem : (w : Width) → is_width w.bits ≡ true
is_width_lem w = width_from w.bits w.ok.0 w.ok.1

-- what the laws of keepers say of the records that are made
pub record Lawful {R : Type 0} (bears : R → ℕ) (holds : R → ℕ → Type 0) (whole : ℕ → R) (exact : ℕ → ℕ → R) (makes : Operator → ℕ → R → R → R → R) : Type 0 where
  pub whole_bears_lem : (k : ℕ) → is_width k ≡ true → bears (whole k) ≡ k
  pub whole_holds_lem : (k n : ℕ) → is_width k ≡ true → n < 2 ^ k → holds (whole k) n
  pub exact_bears_lem : (k n : ℕ) → is_width k ≡ true → bears (exact k n) ≡ k
  pub exact_holds_lem : (k n : ℕ) → is_width k ≡ true → n < 2 ^ k → holds (exact k n) n
  pub makes_bears_lem : (op : Operator) (k : ℕ) (a b c : R) → is_width k ≡ true → bears (makes op k a b c) ≡ k
  pub makes_holds_lem : (op : Operator) (k : ℕ) (a b c : R) (va vb vc : Value) → taken op va vb vc ≡ true → bits_of (value_of op va vb vc) ≡ k →
      Describes bears holds a va →
      (2 ≤ count_of (shape_of op) → Describes bears holds b vb) →
      (3 ≤ count_of (shape_of op) → Describes bears holds c vc) →
      holds (makes op k a b c) (number_of (value_of op va vb vc))

module _ {R : Type 0} (bears : R → ℕ) (holds : R → ℕ → Type 0) (whole : ℕ → R) (exact : ℕ → ℕ → R) (makes : Operator → ℕ → R → R → R → R)
    (laws : Lawful bears holds whole exact makes) (vs : List Value) where
  -- one row, from the rows before it
  one : (i : ℕ) (before : List R) (e : Entry) → ((j : ℕ) (d : R) → j < i → Describes bears holds (get_or before j d) (value_at vs j)) → Row vs i e →
      Describes bears holds (record_of whole exact makes before e) (value_at vs i)
  one i before (Any w) h r = (
    laws.whole_bears_lem w.bits (is_width_lem w) ∙ sym r.1,
    laws.whole_holds_lem w.bits (number_of (value_at vs i)) (is_width_lem w)
        (subst (λ (k : ℕ). number_of (value_at vs i) < 2 ^ k) r.1 (value_number (value_at vs i) r.0).below),
  )
  one i before (Number w n) h r = (
    laws.exact_bears_lem w.bits n (is_width_lem w) ∙ sym r.0,
    subst (λ (m : ℕ). holds (exact w.bits n) m) (sym r.1) (laws.exact_holds_lem w.bits n (is_width_lem w) r.2),
  )
  one i before (Applied op w a b c) h r =
      let k = w.bits in (
        laws.makes_bears_lem op k (record_at whole before k a) (record_at whole before k b) (record_at whole before k c) (is_width_lem w) ∙ sym r.2,
        subst (λ (v : Value). holds (makes op k (record_at whole before k a) (record_at whole before k b) (record_at whole before k c)) (number_of v)) (sym r.1)
            (laws.makes_holds_lem op k (record_at whole before k a) (record_at whole before k b) (record_at whole before k c)
            (value_at vs a) (value_at vs b) (value_at vs c) r.0 (sym (ap bits_of r.1) ∙ r.2)
            (h a (whole k) r.3) (λ two. h b (whole k) (r.4 two)) (λ three. h c (whole k) (r.5 three))),
      )

  -- after a row's record is written, the records up to it describe their rows
  next : (i : ℕ) (rs : List R) (e : Entry) → ((j : ℕ) (d : R) → j < i → j < length rs → Describes bears holds (get_or rs j d) (value_at vs j)) → Row vs i e →
      (j : ℕ) (d : R) → j < i + 1 → j < length rs → Describes bears holds (get_or (set rs i (record_of whole exact makes (take i rs) e)) j d) (value_at vs j)
  next i rs e h r j d p q = elim (cases_eq j i) [
    | inl same ↦
        let here : i < length rs = omega arith in
        let new = one i (take i rs) e
        (λ m d' l. subst (λ (s : R). Describes bears holds s (value_at vs m)) (sym (get_or-take i rs m d' l)) (h m d' l (omega arith))) r in
        subst (λ (m : ℕ). Describes bears holds (get_or (set rs i (record_of whole exact makes (take i rs) e)) m d) (value_at vs m)) (sym same)
        (subst (λ (s : R). Describes bears holds s (value_at vs i)) (sym (get_or-set_same rs i (record_of whole exact makes (take i rs) e) d here)) new)
    | inr other ↦
        subst (λ (s : R). Describes bears holds s (value_at vs j)) (sym (get_or-set_other rs i j (record_of whole exact makes (take i rs) e) d other))
        (h j d (omega arith) q)
  ]

  pub all_described : (es : List Entry) (i : ℕ) (rs : List R) →
      ((j : ℕ) (d : R) → j < i → j < length rs → Describes bears holds (get_or rs j d) (value_at vs j)) → Rows vs i es →
      (j : ℕ) (d : R) → j < i + length es → j < length rs → Describes bears holds (get_or (filled whole exact makes i es rs) j d) (value_at vs j)
  all_described [] i rs h r j d p q = h j d (omega arith) q
  all_described (e ∷ es) i rs h r j d p q =
      let x = record_of whole exact makes (take i rs) e in
      all_described es (i + 1) (set rs i x) (λ m d' l b. next i rs e h r.0 m d' l (omega (arith, length-set rs i x))) r.1 j d (omega arith)
      (omega (arith, length-set rs i x))

-- The rows at the places of sum's list and of bitwise's.
use Rattle.std.proofs.Common.{◌≡◌, ℕ, ◌+◌, ◌-◌, ◌*◌, ◌/◌, ◌%◌, ◌<◌, ◌≤◌, true, cond, List, [], ◌∷◌, ◌++◌, length, get_or, sym, refl, ap, ◌∙◌, ⊎_elim, mod-lt, mul-le-mul_left, mul-suc, append-nil, subst, arith, lit<, lit≤}
use Rattle.std.proofs.Math.Nat.{div-add-mod}
use Rattle.std.proofs.lemmas.Bool.{cases_eq}
use Rattle.std.proofs.lemmas.List.{get_or_append_left, get_or-append_right, get_or_past}
use Rattle.target.specs.declared.row.Row.{Row}
use Rattle.target.specs.declared.row.Row.TheVariants.{Unknown, Number, Truth, Equal}
use Rattle.scheme.specs.declared.lemma.Lemma.{Lemma}
use Rattle.scheme.specs.Shared.{Turns, turns, last_of}
use Rattle.scheme.specs.SumRows.{sum_rows}
use Rattle.scheme.specs.BitwiseRows.{bitwise_rows}
use Rattle.scheme_tests.specs.Placed.{is_small, sums, compares, placed, sum_placed, bitwise_placed}
use Rattle.scheme_tests.specs.declared.expected.Frame.{Frame}
use Rattle.scheme_tests.proofs.Places.{digit, long, in_turns, before_digit}

of_small : (list : ℕ → Lemma → List Row) (f : Frame) (j : ℕ) → is_small f ≡ true →
    placed list f j ≡ get_or (list f.count f.lemma) j Unknown
of_small list f j e = ap (λ b. get_or (cond b (list f.count f.lemma) []) j Unknown) e

-- Rows between a head of h rows and others, that are turns of n rows each: the row j of all is the row (j - h) % n of
-- the digit (j - h) / n.
module _ (turn : Turns) (first at n : ℕ) (each : (i former next : ℕ) → length (turn i former next) ≡ n) (some : 0 < n) where
  pub among : (head rest : List Row) (h k j : ℕ) → length head ≡ h → h ≤ j → (j - h) / n < k →
      get_or (head ++ (turns turn first at k ++ rest)) j Unknown ≡ get_or (digit turn first at n each ((j - h) / n)) ((j - h) % n) Unknown
  among head rest h k j eh low lt =
      let bits : List Row = turns turn first at k in
      let below : (j - h) % n < n = mod-lt (j - h) some in
      let split : n * ((j - h) / n) + (j - h) % n ≡ j - h = div-add-mod (j - h) n in
      let more : get_or bits (j - h) Unknown ≡ get_or (digit turn first at n each ((j - h) / n)) ((j - h) % n) Unknown =
      ap (λ m. get_or bits m Unknown) (sym split) ∙ in_turns turn first at n each k ((j - h) / n) ((j - h) % n) lt below in
      get_or-append_right head (bits ++ rest) h j Unknown eh low
      ∙ get_or_append_left bits rest Unknown (j - h) (omega (arith, below, split, long turn first at n each k, mul-le-mul_left n lt, mul-suc n ((j - h) / n)))
      ∙ more

  -- behind the turns
  pub behind : (head rest : List Row) (h k j : ℕ) → length head ≡ h → h + n * k ≤ j →
      get_or (head ++ (turns turn first at k ++ rest)) j Unknown ≡ get_or rest (j - h - n * k) Unknown
  behind head rest h k j eh far =
      let bits : List Row = turns turn first at k in
      get_or-append_right head (bits ++ rest) h j Unknown eh (omega arith)
      ∙ get_or-append_right bits rest (n * k) (j - h) Unknown (long turn first at n each k) (omega arith)

module _ (f : Frame) where
  each_sum : (i former next : ℕ) → length (sums f i former next) ≡ 11
  each_sum i former next = refl

  abbrev naughts : List Row
  naughts = Number 0 ∷ Number 1 ∷ Number 2 ∷ []

  -- the total before a digit that is not the first
  pub sum_total : (i : ℕ) → (i ≡ 0 → ⊥) → f.count + 2 + 11 * i ≡ last_of f.count (f.count + 3) (turns (sums f) f.count (f.count + 3) i)
  sum_total i ne = omega (arith, before_digit (sums f) f.count (f.count + 3) 11 each_sum (lit≤ tt) i (omega (arith, ne)))

  pub sum_inner : (j former : ℕ) → is_small f ≡ true → 3 ≤ j → (j - 3) / 11 < f.lemma.k →
      former ≡ last_of f.count (f.count + 3) (turns (sums f) f.count (f.count + 3) ((j - 3) / 11)) →
      get_or (sums f ((j - 3) / 11) former (f.count + 3 + 11 * ((j - 3) / 11))) ((j - 3) % 11) Unknown ≡ sum_placed f j
  sum_inner j former small low lt ef =
      let last : ℕ = last_of f.count (f.count + 3) (turns (sums f) f.count (f.count + 3) f.lemma.k) in
      ap (λ m. get_or (sums f ((j - 3) / 11) m (f.count + 3 + 11 * ((j - 3) / 11))) ((j - 3) % 11) Unknown) ef
      ∙ sym (among (sums f) f.count (f.count + 3) 11 each_sum (lit< tt) naughts (Equal f.lemma.c last ∷ []) 3 f.lemma.k j refl low lt)
      ∙ sym (of_small sum_rows f j small)

  sum_behind : (j : ℕ) → is_small f ≡ true → 3 + 11 * f.lemma.k ≤ j →
      sum_placed f j ≡ get_or (Equal f.lemma.c (last_of f.count (f.count + 3) (turns (sums f) f.count (f.count + 3) f.lemma.k)) ∷ []) (j - 3 - 11 * f.lemma.k) Unknown
  sum_behind j small far =
      of_small sum_rows f j small ∙ behind (sums f) f.count (f.count + 3) 11 each_sum (lit< tt) naughts (Equal f.lemma.c (last_of f.count (f.count + 3) (turns (sums f) f.count (f.count + 3) f.lemma.k)) ∷ []) 3 f.lemma.k j refl far

  pub sum_end : (j former : ℕ) → is_small f ≡ true → 3 ≤ j → j < 11 * f.lemma.k + 4 → f.lemma.k ≤ (j - 3) / 11 →
      former ≡ last_of f.count (f.count + 3) (turns (sums f) f.count (f.count + 3) ((j - 3) / 11)) →
      Equal f.lemma.c former ≡ sum_placed f j
  sum_end j former small low lt end ef =
      let last : j ≡ 3 + 11 * f.lemma.k = omega (arith, div-add-mod (j - 3) 11, mul-le-mul_left 11 end) in
      let digit_is : (j - 3) / 11 ≡ f.lemma.k = omega (arith, last) in
      let at_end : j - 3 - 11 * f.lemma.k ≡ 0 = omega arith in
      ap (Equal f.lemma.c) (ef ∙ ap (λ m. last_of f.count (f.count + 3) (turns (sums f) f.count (f.count + 3) m)) digit_is)
      ∙ ap (λ m. get_or (Equal f.lemma.c (last_of f.count (f.count + 3) (turns (sums f) f.count (f.count + 3) f.lemma.k)) ∷ []) m Unknown) (sym at_end)
      ∙ sym (sum_behind j small (omega arith))

  pub sum_past : (j : ℕ) → is_small f ≡ true → 11 * f.lemma.k + 4 ≤ j → Unknown ≡ sum_placed f j
  sum_past j small far = sym (sum_behind j small (omega arith) ∙ get_or_past (Equal f.lemma.c (last_of f.count (f.count + 3) (turns (sums f) f.count (f.count + 3) f.lemma.k)) ∷ []) (j - 3 - 11 * f.lemma.k) Unknown (omega arith))

  each_compare : (i former next : ℕ) → length (compares f i former next) ≡ 13
  each_compare i former next = refl

  abbrev starts : List Row
  starts = Number 0 ∷ Number 1 ∷ Number 2 ∷ Truth true ∷ []

  whole : (j : ℕ) → is_small f ≡ true → bitwise_placed f j ≡ get_or (starts ++ (turns (compares f) (f.count + 3) (f.count + 4) f.lemma.k ++ [])) j Unknown
  whole j small = of_small bitwise_rows f j small ∙ ap (λ bits. get_or (starts ++ bits) j Unknown) (sym (append-nil (turns (compares f) (f.count + 3) (f.count + 4) f.lemma.k)))

  bitwise_former : (i : ℕ) → f.count + 4 + 13 * i - 1 ≡ last_of (f.count + 3) (f.count + 4) (turns (compares f) (f.count + 3) (f.count + 4) i)
  bitwise_former i =
      ⊎_elim
      (λ (e : i ≡ 0). subst (λ (m : ℕ). f.count + 4 + 13 * m - 1 ≡ last_of (f.count + 3) (f.count + 4) (turns (compares f) (f.count + 3) (f.count + 4) m)) (sym e) (omega arith))
      (λ (ne : i ≡ 0 → ⊥). sym (before_digit (compares f) (f.count + 3) (f.count + 4) 13 each_compare (lit≤ tt) i (omega (arith, ne))))
      (cases_eq i 0)

  pub bitwise_inner : (j : ℕ) → is_small f ≡ true → 4 ≤ j → (j - 4) / 13 < f.lemma.k →
      get_or (compares f ((j - 4) / 13) (f.count + 4 + 13 * ((j - 4) / 13) - 1) (f.count + 4 + 13 * ((j - 4) / 13))) ((j - 4) % 13) Unknown ≡ bitwise_placed f j
  bitwise_inner j small low lt =
      ap (λ m. get_or (compares f ((j - 4) / 13) m (f.count + 4 + 13 * ((j - 4) / 13))) ((j - 4) % 13) Unknown) (bitwise_former ((j - 4) / 13))
      ∙ sym (among (compares f) (f.count + 3) (f.count + 4) 13 each_compare (lit< tt) starts [] 4 f.lemma.k j refl low lt)
      ∙ sym (whole j small)

  pub bitwise_past : (j : ℕ) → is_small f ≡ true → 13 * f.lemma.k + 4 ≤ j → Unknown ≡ bitwise_placed f j
  bitwise_past j small far =
      sym (whole j small ∙ behind (compares f) (f.count + 3) (f.count + 4) 13 each_compare (lit< tt) starts [] 4 f.lemma.k j refl (omega arith))

-- The machine's operation on codes gives the code of the row's value, where that has one.
use Rattle.std.proofs.Common.{◌≡◌, ℕ, ◌+◌, ◌-◌, ◌*◌, ◌/◌, ◌%◌, ◌^◌, ◌<◌, Bool, true, false, cond, not, ◌&&◌, ◌||◌, List, ℤ, pos, negsuc, ◌+ℤ◌, ◌-ℤ◌, ◌*ℤ◌, sym, refl, ◌∙◌, mod-eq_of_lt, ltb-true, arith}
use Rattle.std.proofs.lemmas.Int.{ints}
use Rattle.std.specs.Prelude.{◌==◌, nat_lt, nat_le, slice_index, int_lt, int_le}
use Rattle.target.specs.declared.row.Sort.{Sort}
use Rattle.target.specs.declared.row.Sort.TheVariants as sort
use Rattle.target.specs.declared.row.Row.{Row}
use Rattle.target.specs.declared.row.Row.TheVariants.{Unknown, Number, Truth, Add, Sub, Times, Quot, Rem, Equal, Less, AtMost, Not, And, Or, Choose}
use Rattle.target.specs.Values.{Val, int, bool, kind, whole, truth, same, value_at}
use Rattle.target.specs.Meaning.{row_value}
use Rattle.target.specs.Division.{quot, rem}
use Rattle.target.specs.Soundness.{RowSound}
use Rattle.scheme_tests.specs.Evaluated.{code, has_code, naught, numbering, truth_code, divided_code, left_code, stepped}

-- two whole numbers that have codes
abbrev numbers : (Val → Val → Type 0) → Type 0
numbers P = (v w : Val) → kind v ≡ sort.Int → kind w ≡ sort.Int → has_code v ≡ true → has_code w ≡ true → P v w

of_numbers : (P : Val → Val → Type 0) → ((m n : ℕ) → m < 2 ^ 64 → n < 2 ^ 64 → P (int (pos m)) (int (pos n))) → numbers P
of_numbers P p (int (pos m)) (int (pos n)) k l f g = p m n (ltb-true m (2 ^ 64) f) (ltb-true n (2 ^ 64) g)
of_numbers P p (int (pos m)) (int (negsuc n)) k l f g = cc
of_numbers P p (int (pos m)) (bool b) k l f g = cc
of_numbers P p (int (negsuc m)) w k l f g = cc
of_numbers P p (bool a) w k l f g = cc

-- two truth values
of_truths : (P : Val → Val → Type 0) → ((a b : Bool) → P (bool a) (bool b)) → (v w : Val) → kind v ≡ sort.Bool → kind w ≡ sort.Bool → P v w
of_truths P p (bool a) (bool b) k l = p a b
of_truths P p (bool a) (int n) k l = cc
of_truths P p (int m) w k l = cc

abbrev Adds : Val → Val → Type 0
Adds v w = has_code (int (whole v +ℤ whole w)) ≡ true → (code v + code w) % 2 ^ 64 ≡ code (int (whole v +ℤ whole w))

added : numbers Adds
added = of_numbers Adds (λ m n a b h. mod-eq_of_lt (ltb-true (m + n) (2 ^ 64) h))

subtracts : (m n : ℕ) (z : ℤ) → m < 2 ^ 64 → n < 2 ^ 64 → pos m -ℤ pos n ≡ z → has_code (int z) ≡ true → (m + (2 ^ 64 - n)) % 2 ^ 64 ≡ code (int z)
subtracts m n (pos c) a b e h = let s : m ≡ c + n = omega (arith, ints, e) in omega (arith, s, ltb-true c (2 ^ 64) h)
subtracts m n (negsuc c) a b e h = cc

abbrev Subtracts : Val → Val → Type 0
Subtracts v w = has_code (int (whole v -ℤ whole w)) ≡ true → (code v + (2 ^ 64 - code w)) % 2 ^ 64 ≡ code (int (whole v -ℤ whole w))

subtracted : numbers Subtracts
subtracted = of_numbers Subtracts (λ m n a b h. subtracts m n (pos m -ℤ pos n) a b refl h)

abbrev Multiplies : Val → Val → Type 0
Multiplies v w = has_code (int (whole v *ℤ whole w)) ≡ true → code v * code w % 2 ^ 64 ≡ code (int (whole v *ℤ whole w))

multiplied : numbers Multiplies
multiplied = of_numbers Multiplies (λ m n a b h. mod-eq_of_lt (ltb-true (m * n) (2 ^ 64) h))

picked : (b : Bool) (x : ℕ) → cond b 0 x ≡ code (int (cond b (pos 0) (pos x)))
picked true x = refl
picked false x = refl

abbrev Divides : Val → Val → Type 0
Divides v w = divided_code (code v) (code w) ≡ code (int (quot naught (whole v) (whole w)))

divided : numbers Divides
divided = of_numbers Divides (λ m n a b. picked (n == 0) (m / n))

abbrev Leaves : Val → Val → Type 0
Leaves v w = left_code (code v) (code w) ≡ code (int (rem naught (whole v) (whole w)))

left_over : numbers Leaves
left_over = of_numbers Leaves (λ m n a b. picked (n == 0) (m % n))

abbrev IsLess : Val → Val → Type 0
IsLess v w = truth_code (nat_lt (code v) (code w)) ≡ code (bool (int_lt (whole v) (whole w)))

less : numbers IsLess
less = of_numbers IsLess (λ m n a b. refl)

abbrev IsAtMost : Val → Val → Type 0
IsAtMost v w = truth_code (nat_le (code v) (code w)) ≡ code (bool (int_le (whole v) (whole w)))

at_most : numbers IsAtMost
at_most = of_numbers IsAtMost (λ m n a b. refl)

abbrev Equals : Val → Val → Type 0
Equals v w = truth_code (code v == code w) ≡ code (bool (same v w))

same_numbers : numbers Equals
same_numbers = of_numbers Equals (λ m n a b. refl)

same_truths : (a b : Bool) → truth_code (code (bool a) == code (bool b)) ≡ code (bool (same (bool a) (bool b)))
same_truths true true = refl
same_truths true false = refl
same_truths false true = refl
same_truths false false = refl

-- equal where both are of one sort
same_codes : (v w : Val) → kind v ≡ kind w → has_code v ≡ true → has_code w ≡ true → truth_code (code v == code w) ≡ code (bool (same v w))
same_codes (int m) w k f g = same_numbers (int m) w refl (sym k) f g
same_codes (bool a) w k f g = of_truths Equals same_truths (bool a) w refl (sym k)

denied : (v : Val) → kind v ≡ sort.Bool → truth_code (code v == 0) ≡ code (bool (not (truth v)))
denied (bool true) k = refl
denied (bool false) k = refl
denied (int n) k = cc

conjoined : (a b : Bool) → code (bool a) * code (bool b) % 2 ^ 64 ≡ code (bool (a && b))
conjoined true true = refl
conjoined true false = refl
conjoined false true = refl
conjoined false false = refl

disjoined : (a b : Bool) → truth_code (nat_lt 0 ((code (bool a) + code (bool b)) % 2 ^ 64)) ≡ code (bool (a || b))
disjoined true true = refl
disjoined true false = refl
disjoined false true = refl
disjoined false false = refl

chosen : (v x y : Val) → kind v ≡ sort.Bool → cond (code v == 1) (code x) (code y) ≡ code (cond (truth v) x y)
chosen (bool true) x y k = refl
chosen (bool false) x y k = refl
chosen (int n) x y k = cc

-- The numbers xs are the codes of the values vs, below the index i; s gives the sorts.
pub record Codes (s : ℕ → Sort) (i : ℕ) (xs : List ℕ) (vs : List Val) : Type 0 where
  pub codes : (j : ℕ) → j < i → slice_index xs j ≡ code (value_at vs j)
  pub kinds : (j : ℕ) → j < i → kind (value_at vs j) ≡ s j
  pub fit : (j : ℕ) → j < i → has_code (value_at vs j) ≡ true

module _ (s : ℕ → Sort) (given : List ℕ) (i n : ℕ) (xs : List ℕ) (vs : List Val) (c : Codes s i xs vs) where
  abbrev at : ℕ → Val
  at j = value_at vs j

  abbrev got : Row → Val
  got row = row_value naught (numbering given) vs n row

  -- of two whole numbers among the operands
  two : (P : Val → Val → Type 0) → numbers P → (p q : ℕ) → (p < i) × (s p ≡ sort.Int) → (q < i) × (s q ≡ sort.Int) → P (at p) (at q)
  two P h p q a b = h (at p) (at q) (c.kinds p a.0 ∙ a.1) (c.kinds q b.0 ∙ b.1) (c.fit p a.0) (c.fit q b.0)

  -- of two truth values
  two_truths : (P : Val → Val → Type 0) → ((a b : Bool) → P (bool a) (bool b)) → (p q : ℕ) → (p < i) × (s p ≡ sort.Bool) → (q < i) × (s q ≡ sort.Bool) → P (at p) (at q)
  two_truths P h p q a b = of_truths P h (at p) (at q) (c.kinds p a.0 ∙ a.1) (c.kinds q b.0 ∙ b.1)

  pub same_step : (row : Row) → RowSound s i row → has_code (got row) ≡ true → stepped row given n xs ≡ code (got row)
  unfolding row_value
  same_step Unknown r f = refl
  same_step (Number m) r f = refl
  same_step (Truth b) r f = refl
  same_step (Add p q) r f = rw (c.codes p r.0.0, c.codes q r.1.0) (two Adds added p q r.0 r.1 f)
  same_step (Sub p q) r f = rw (c.codes p r.0.0, c.codes q r.1.0) (two Subtracts subtracted p q r.0 r.1 f)
  same_step (Times p q) r f = rw (c.codes p r.0.0, c.codes q r.1.0) (two Multiplies multiplied p q r.0 r.1 f)
  same_step (Quot p q) r f = rw (c.codes p r.0.0, c.codes q r.1.0) (two Divides divided p q r.0 r.1)
  same_step (Rem p q) r f = rw (c.codes p r.0.0, c.codes q r.1.0) (two Leaves left_over p q r.0 r.1)
  same_step (Equal p q) r f = rw (c.codes p r.0, c.codes q r.1.0) (same_codes (at p) (at q) (c.kinds p r.0 ∙ sym (c.kinds q r.1.0 ∙ r.1.1)) (c.fit p r.0) (c.fit q r.1.0))
  same_step (Less p q) r f = rw (c.codes p r.0.0, c.codes q r.1.0) (two IsLess less p q r.0 r.1)
  same_step (AtMost p q) r f = rw (c.codes p r.0.0, c.codes q r.1.0) (two IsAtMost at_most p q r.0 r.1)
  same_step (Not p) r f = rw (c.codes p r.0) (denied (at p) (c.kinds p r.0 ∙ r.1))
  same_step (And p q) r f = rw (c.codes p r.0.0, c.codes q r.1.0) (two_truths (λ v w. code v * code w % 2 ^ 64 ≡ code (bool (truth v && truth w))) conjoined p q r.0 r.1)
  same_step (Or p q) r f = rw (c.codes p r.0.0, c.codes q r.1.0) (two_truths (λ v w. truth_code (nat_lt 0 ((code v + code w) % 2 ^ 64)) ≡ code (bool (truth v || truth w))) disjoined p q r.0 r.1)
  same_step (Choose t p q r') r f = rw (c.codes p r.0.0, c.codes q r.1.0, c.codes r' r.2.0) (chosen (at p) (at q) (at r') (c.kinds p r.0.0 ∙ r.0.1))

-- What an operator gives for operands that it takes is a number of its width.
use Rattle.std.specs.Prelude.{◌≡◌, ℕ, ◌%◌, ◌^◌, ◌<◌, ◌≤◌, true, false, ◌&&◌, cond, ◌==◌, nat_le, refl}
use Rattle.std.proofs.Common.{sym, ap, ◌∙◌, subst, arith, leb-true, le-leb, lit<, lit≤}
use Rattle.std.proofs.Math.Nat.{mod-le}
use Rattle.std.proofs.lemmas.Bool.{and_parts, and_from, cond_both, cond-true}
use Rattle.source.specs.Operands.{Number}
use Rattle.source.specs.Sorts.{two_bits, alike, is_bits, is_bool, fits, width_of}
use Rattle.source.specs.Values.{sort_of, is_value, number_of, bits_of, are_values, taken, given, value_of}
use Rattle.source.specs.Widths.{is_width}
use Rattle.source.specs.declared.operator.Operator.{Operator}
use Rattle.source.specs.declared.operator.Operator.TheVariants.{Ite}
use Rattle.source.specs.declared.value.Value.{Value}
use Rattle.source.specs.declared.value.Value as values
use Rattle.source.proofs.Closure.{closed}
use Rattle.source.proofs.Taking.{parts, number, width_is, alike_same, pair}

-- the widths, in numbers
pub width_parts : (k : ℕ) → is_width k ≡ true → (1 ≤ k) × (k ≤ 32)
width_parts k w =
    let h = and_parts (nat_le 1 k) (nat_le k 32) w in
    (leb-true 1 k h.0, leb-true k 32 h.1)

pub width_from : (k : ℕ) → 1 ≤ k → k ≤ 32 → is_width k ≡ true
width_from k p q = and_from (nat_le 1 k) (nat_le k 32) (le-leb 1 k p) (le-leb k 32 q)

-- a value is a number of its width, a truth value one of one bit
pub value_number : (v : Value) → is_value v ≡ true → Number v
value_number (values.TheVariants.Bool true) h = record { least = lit≤ tt; most = lit≤ tt; below = lit< tt }
value_number (values.TheVariants.Bool false) h = record { least = lit≤ tt; most = lit≤ tt; below = lit< tt }
value_number (values.TheVariants.Bits k n) h = number (values.TheVariants.Bits k n) h refl

-- the first operand that an operator takes
pub first_number : (op : Operator) (a b c : Value) → taken op a b c ≡ true → Number a
first_number op a b c t = value_number a (and_parts (is_value a) _ (parts op a b c t).values).0

-- the value of an operator whose operands are taken, and what is known of it
pub value_given : (op : Operator) (a b c : Value) → taken op a b c ≡ true → value_of op a b c ≡ given op a b c
value_given op a b c t = cond-true (taken op a b c) (given op a b c) (values.TheVariants.Bool false) t

pub value_known : (op : Operator) (a b c : Value) → taken op a b c ≡ true → Number (value_of op a b c)
value_known op a b c t = value_number (value_of op a b c) (closed op a b c t).stands

pub given_known : (op : Operator) (a b c : Value) → taken op a b c ≡ true → Number (given op a b c)
given_known op a b c t = subst Number (value_given op a b c t) (value_known op a b c t)

-- a remainder, also that of a division by 0
pub remainder_le : (x y : ℕ) → cond (y == 0) x (x % y) ≤ x
remainder_le x y = cond_both (y == 0) x (x % y) (λ n. n ≤ x) (λ e. omega arith) (λ e. mod-le x y)

-- values of one sort are of one width
alike_widths : (a b : Value) → alike (sort_of a) (sort_of b) ≡ true → bits_of b ≡ bits_of a
alike_widths a b e = sym (sym (width_is a) ∙ ap width_of (alike_same (sort_of a) (sort_of b) e) ∙ width_is b)

-- two operands of one width
pub record Pair (a b : Value) : Type 0 where
  pub width : is_width (bits_of a) ≡ true
  pub same : bits_of b ≡ bits_of a
  pub first : number_of a < 2 ^ bits_of a
  pub second : number_of b < 2 ^ bits_of a

pub pair_of : (a b c : Value) → (are_values 2 a b c && (fits two_bits (sort_of a) (sort_of b) (sort_of c) && true)) ≡ true → Pair a b
pair_of a b c t =
    let h = and_parts (are_values 2 a b c) (fits two_bits (sort_of a) (sort_of b) (sort_of c) && true) t in
    let v = and_parts (is_value a) (is_value b && true) h.0 in
    let f = and_parts (is_bits (sort_of a)) (alike (sort_of a) (sort_of b)) (and_parts (is_bits (sort_of a) && alike (sort_of a) (sort_of b)) true h.1).0 in
    let p = pair a b v.0 (and_parts (is_value b) true v.1).0 f.0 f.1 in
    record {
      width = width_from (bits_of a) p.first.least p.first.most;
      same = alike_widths a b f.1;
      first = p.first.below;
      second = p.second;
    }

-- a condition, and two branches of one width
pub branches_of : (a b c : Value) → taken Ite a b c ≡ true → (is_value b ≡ true) × (is_value c ≡ true) × (bits_of c ≡ bits_of b)
branches_of a b c t =
    let p = parts Ite a b c t in
    let v = and_parts (is_value b) (is_value c) (and_parts (is_value a) (is_value b && is_value c) p.values).1 in
    let f = and_parts (is_bool (sort_of a)) (alike (sort_of b) (sort_of c)) p.sorts in
    (v.0, v.1, alike_widths b c f.1)

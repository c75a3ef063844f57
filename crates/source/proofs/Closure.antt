-- What an operator gives for operands that it takes is a value of the sort that it has.
use Rattle.std.proofs.Common.{◌≡◌, ℕ, ◌+◌, ◌-◌, ◌*◌, ◌/◌, ◌^◌, ◌<◌, ◌≤◌, Bool, true, false, cond, ◌&&◌, ltb, leb, sym, refl, arith}
use lib.Bits.{and_lt, or_lt, xor_lt}
use lib.Pow.{ones_sub-lt, shr_le}
use Rattle.std.proofs.lemmas.Bool.{and_parts, cond-true, cond_both, leb-true, ltb-true}
use Rattle.source.specs.Numbers.{extracted, joined}
use Rattle.source.specs.Sorts.{is_bool, is_bits, width_of, alike, result_sort}
use Rattle.source.specs.Values.{sort_of, is_value, number_of, bits_of, truth_of, are_values, given, taken, value_of}
use Rattle.source.specs.Operands.{Number, Pair, IsOf}
use Rattle.source.specs.declared.operator.Operator.{Operator}
use Rattle.source.specs.declared.operator.Operator.TheVariants.{BvNot, BvNeg, BvAdd, BvSub, BvMul, BvUdiv, BvUrem, Extract, Concat, BvAnd, BvOr, BvXor, BvLshr, BvShl, BvUlt, BvUle, BvUgt, BvUge, BvSlt, BvSle, BvSgt, BvSge, Equal, Not, And, Or, Ite, Implies}
use Rattle.source.specs.declared.order.Sort as sorts
use Rattle.source.specs.declared.value.Value as values
use Rattle.source.specs.declared.value.Value.{Value}
use Rattle.source.proofs.Bounds.{rolled_lt, quotient_lt, remainder_lt, joined_lt}
use Rattle.source.proofs.Taking.{Taken, parts, number, is_number, bits_sort, width_is, alike_same, pair}

-- a number of the first operand's width, given that it is below its power
kept : (a : Value) (n : ℕ) → is_value a ≡ true → is_bits (sort_of a) ≡ true → (Number a → n < 2 ^ bits_of a) → IsOf (values.TheVariants.Bits (bits_of a) n) (sort_of a)
kept a n v s below =
    let h : Number a = number a v s in
    let r = is_number (bits_of a) n h.least h.most (below h) in
    record { stands = r.stands; sorted = bits_sort a s }

kept_two : (a b c : Value) (n : ℕ) → are_values 2 a b c ≡ true → (is_bits (sort_of a) && alike (sort_of a) (sort_of b)) ≡ true → (Pair a b → n < 2 ^ bits_of a) → IsOf (values.TheVariants.Bits (bits_of a) n) (sort_of a)
kept_two a b c n v s below =
    let p = and_parts (is_value a) _ v in
    let q = and_parts (is_value b) true p.1 in
    let r = and_parts (is_bits (sort_of a)) (alike (sort_of a) (sort_of b)) s in
    kept a n p.0 r.0 (λ _. below (pair a b p.0 q.0 r.0 r.1))

truth_is : (t : Bool) → IsOf (values.TheVariants.Bool t) sorts.TheVariants.Bool
truth_is t = record { stands = refl; sorted = refl }

cut : (upper lower k n : ℕ) → k ≤ 32 → (leb lower upper && ltb upper k) ≡ true → IsOf (values.TheVariants.Bits (upper - lower + 1) (extracted upper lower n)) (sorts.TheVariants.Bits (upper - lower + 1))
cut upper lower k n most h =
    let p = and_parts (leb lower upper) (ltb upper k) h in
    let lt : upper < k = ltb-true upper k p.1 in
    is_number (upper - lower + 1) (extracted upper lower n) (omega arith) (omega arith) (rolled_lt (upper - lower + 1) (n / 2 ^ lower))

together : (a b : Value) → Number a → Number b → leb (width_of (sort_of a) + width_of (sort_of b)) 32 ≡ true →
    IsOf (values.TheVariants.Bits (bits_of a + bits_of b) (joined (bits_of b) (number_of a) (number_of b))) (sorts.TheVariants.Bits (width_of (sort_of a) + width_of (sort_of b)))
together a b ha hb h =
    let le : width_of (sort_of a) + width_of (sort_of b) ≤ 32 = leb-true _ 32 h in
    let r = is_number (bits_of a + bits_of b) (joined (bits_of b) (number_of a) (number_of b)) (omega (arith, ha.least)) (omega (arith, le, width_is a, width_is b))
    (joined_lt (bits_of a) (bits_of b) (number_of a) (number_of b) ha.below hb.below) in
    rw (width_is a, width_is b) r

chosen : (t : Bool) (b c : Value) → is_value b ≡ true → is_value c ≡ true → alike (sort_of b) (sort_of c) ≡ true → IsOf (cond t b c) (sort_of b)
chosen t b c hb hc h =
    cond_both t b c (λ v. IsOf v (sort_of b)) (λ _. record { stands = hb; sorted = refl }) (λ _. record { stands = hc; sorted = sym (alike_same (sort_of b) (sort_of c) h) })

-- the same for every operator, by the parts of its test
given_closed : (op : Operator) (a b c : Value) → Taken op a b c → IsOf (given op a b c) (result_sort op (sort_of a) (sort_of b) (sort_of c))
given_closed BvNot a b c t = kept a _ (and_parts (is_value a) true t.values).0 t.sorts (λ _. ones_sub-lt (bits_of a) (number_of a))
given_closed BvNeg a b c t = kept a _ (and_parts (is_value a) true t.values).0 t.sorts (λ _. rolled_lt (bits_of a) (2 ^ bits_of a - number_of a))
given_closed BvAdd a b c t = kept_two a b c _ t.values t.sorts (λ _. rolled_lt (bits_of a) (number_of a + number_of b))
given_closed BvSub a b c t = kept_two a b c _ t.values t.sorts (λ _. rolled_lt (bits_of a) (2 ^ bits_of a + number_of a - number_of b))
given_closed BvMul a b c t = kept_two a b c _ t.values t.sorts (λ _. rolled_lt (bits_of a) (number_of a * number_of b))
given_closed BvUdiv a b c t = kept_two a b c _ t.values t.sorts (λ p. quotient_lt (bits_of a) (number_of a) (number_of b) p.first.below)
given_closed BvUrem a b c t = kept_two a b c _ t.values t.sorts (λ p. remainder_lt (bits_of a) (number_of a) (number_of b) p.first.below)
given_closed (Extract upper lower) a b c t =
    let h : Number a = number a (and_parts (is_value a) true t.values).0 t.sorts in
    cut upper lower (width_of (sort_of a)) (number_of a) (omega (arith, width_is a, h.most)) t.bounds
given_closed Concat a b c t =
    let p = and_parts (is_value a) (is_value b && true) t.values in
    let s = and_parts (is_bits (sort_of a)) (is_bits (sort_of b)) t.sorts in
    together a b (number a p.0 s.0) (number b (and_parts (is_value b) true p.1).0 s.1) t.bounds
given_closed BvAnd a b c t = kept_two a b c _ t.values t.sorts (λ p. and_lt (bits_of a) (number_of a) (number_of b) p.first.below p.second)
given_closed BvOr a b c t = kept_two a b c _ t.values t.sorts (λ p. or_lt (bits_of a) (number_of a) (number_of b) p.first.below p.second)
given_closed BvXor a b c t = kept_two a b c _ t.values t.sorts (λ p. xor_lt (bits_of a) (number_of a) (number_of b) p.first.below p.second)
given_closed BvLshr a b c t = kept_two a b c _ t.values t.sorts (λ p. omega (arith, shr_le (number_of a) (number_of b), p.first.below))
given_closed BvShl a b c t = kept_two a b c _ t.values t.sorts (λ _. rolled_lt (bits_of a) (number_of a * 2 ^ number_of b))
given_closed BvUlt a b c t = truth_is _
given_closed BvUle a b c t = truth_is _
given_closed BvUgt a b c t = truth_is _
given_closed BvUge a b c t = truth_is _
given_closed BvSlt a b c t = truth_is _
given_closed BvSle a b c t = truth_is _
given_closed BvSgt a b c t = truth_is _
given_closed BvSge a b c t = truth_is _
given_closed Equal a b c t = truth_is _
given_closed Not a b c t = truth_is _
given_closed And a b c t = truth_is _
given_closed Or a b c t = truth_is _
given_closed Ite a b c t =
    let p = and_parts (is_value a) (is_value b && is_value c) t.values in
    let q = and_parts (is_value b) (is_value c) p.1 in
    let s = and_parts (is_bool (sort_of a)) (alike (sort_of b) (sort_of c)) t.sorts in
    chosen (truth_of a) b c q.0 q.1 s.1
given_closed Implies a b c t = truth_is _

pub closed : (op : Operator) (a b c : Value) → taken op a b c ≡ true → IsOf (value_of op a b c) (result_sort op (sort_of a) (sort_of b) (sort_of c))
closed op a b c h = rw (cond-true (taken op a b c) (given op a b c) (values.TheVariants.Bool false) h) (given_closed op a b c (parts op a b c h))

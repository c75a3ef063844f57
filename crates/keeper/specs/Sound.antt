-- The records that the interval keeper makes hold the values' numbers.
use Rattle.std.specs.Prelude.{◌≡◌, ℕ, ◌+◌, ◌-◌, ◌/◌, ◌%◌, ◌^◌, ◌<◌, ◌≤◌, min, max, true, bit_and, nat_le}
use Rattle.std.proofs.Common.{sym, subst, ap, ◌∙◌, zero-le, mod-lt, mod-eq_of_lt, arith, leb-true, lit≤, pow_pos}
use Rattle.std.proofs.Math.Nat.{add-mod_left}
use Rattle.std.proofs.Math.Pow.{shr_mono}
use Rattle.std.proofs.lemmas.Nat.{and_le_l, and_le_r, shr_le}
use Rattle.std.proofs.lemmas.Bool.{cond_both}
use Rattle.source.specs.Sorts.{shape_of, count_of}
use Rattle.source.specs.Values.{number_of, bits_of, truth_of, taken, given, value_of}
use Rattle.source.specs.declared.operator.Operator.{Operator}
use Rattle.source.specs.declared.operator.Operator.TheVariants.{BvNot, BvNeg, BvAdd, BvSub, BvMul, BvUdiv, BvUrem, Extract, Concat, BvAnd, BvOr, BvXor, BvLshr, BvShl, BvUlt, BvUle, BvUgt, BvUge, BvSlt, BvSle, BvSgt, BvSge, Equal, Not, And, Or, Ite, Implies}
use Rattle.source.specs.declared.value.Value.{Value}
use Rattle.keeper.specs.declared.record.IntervalRecord.{IntervalRecord}
use Rattle.keeper.specs.Descriptions.{Describes}
use Rattle.keeper.specs.Intervals.{between, whole_interval, range_parts}
use Rattle.keeper.specs.Rules.{sum_of, difference_of, common_of, rest, part_of, either_of, interval_made}
use Rattle.keeper.specs.Between.{in_between}
use Rattle.keeper.specs.Results.{first_number, value_given, given_known, remainder_le}

abbrev pub In : IntervalRecord → ℕ → Type 0
In r n = (r.lo ≤ n) × (n ≤ r.hi)

in_whole : (k n : ℕ) → n < 2 ^ k → In (whole_interval k) n
in_whole k n h = (zero-le, omega arith)

in_sum : (k x y : ℕ) (a b : IntervalRecord) → In a x → In b y → In (sum_of k a b) ((x + y) % 2 ^ k)
in_sum k x y a b p q =
    in_between k (a.lo + b.lo) (a.hi + b.hi) ((x + y) % 2 ^ k)
    (λ t.
    let small : x + y < 2 ^ k = omega (arith, range_parts k (a.lo + b.lo) (a.hi + b.hi) t) in
    rw (mod-eq_of_lt small) (omega arith, omega arith))
    (mod-lt (x + y) (pow_pos k))

straight : (k x y : ℕ) → y ≤ x → x < 2 ^ k → (2 ^ k + x - y) % 2 ^ k ≡ x - y
straight k x y h l =
    let moved : 2 ^ k + x - y ≡ 2 ^ k + (x - y) = omega arith in
    let small : x - y < 2 ^ k = omega arith in
    ap (λ n. n % 2 ^ k) moved ∙ add-mod_left (2 ^ k) (x - y) ∙ mod-eq_of_lt small

in_difference : (k x y : ℕ) (a b : IntervalRecord) → x < 2 ^ k → In a x → In b y → In (difference_of k a b) ((2 ^ k + x - y) % 2 ^ k)
in_difference k x y a b l p q =
    let below = mod-lt (2 ^ k + x - y) (pow_pos k) in
    cond_both (nat_le b.hi a.lo) (between k (a.lo - b.hi) (a.hi - b.lo)) (whole_interval k) (λ r. In r ((2 ^ k + x - y) % 2 ^ k))
    (λ e.
    let order : b.hi ≤ a.lo = leb-true b.hi a.lo e in
    let is = straight k x y (omega arith) l in
    in_between k (a.lo - b.hi) (a.hi - b.lo) ((2 ^ k + x - y) % 2 ^ k) (λ t. (omega arith, omega arith)) below)
    (λ e. in_whole k ((2 ^ k + x - y) % 2 ^ k) below)

in_common : (k x y : ℕ) (a b : IntervalRecord) → x < 2 ^ k → In a x → In b y → In (common_of k a b) (bit_and x y)
in_common k x y a b l p q =
    let left = and_le_l x y in
    let right = and_le_r x y in
    in_between k 0 (min a.hi b.hi) (bit_and x y) (λ t. (zero-le, omega arith)) (omega arith)

-- a number that is at most x, as x shifted to the right or a remainder of x
in_rest : (k n x : ℕ) (a : IntervalRecord) → n ≤ x → x < 2 ^ k → In a x → In (rest k a) n
in_rest k n x a h l p = in_between k 0 a.hi n (λ t. (zero-le, omega arith)) (omega arith)

in_part : (k lower x : ℕ) (a : IntervalRecord) → In a x → In (part_of k lower a) (x / 2 ^ lower % 2 ^ k)
in_part k lower x a p =
    let from = shr_mono lower p.0 in
    let to = shr_mono lower p.1 in
    in_between k (a.lo / 2 ^ lower) (a.hi / 2 ^ lower) (x / 2 ^ lower % 2 ^ k)
    (λ t.
    let small : x / 2 ^ lower < 2 ^ k = omega (arith, range_parts k (a.lo / 2 ^ lower) (a.hi / 2 ^ lower) t) in
    rw (mod-eq_of_lt small) (from, to))
    (mod-lt (x / 2 ^ lower) (pow_pos k))

in_either : (k n : ℕ) (b c : IntervalRecord) → n < 2 ^ k → (min b.lo c.lo ≤ n) × (n ≤ max b.hi c.hi) → In (either_of k b c) n
in_either k n b c l h = in_between k (min b.lo c.lo) (max b.hi c.hi) n (λ t. h) l

abbrev Held : IntervalRecord → Value → Type 0
Held r v = Describes {R = IntervalRecord} (λ r. r.width) In r v

-- the operators that the keeper has no rule for
in_any : (op : Operator) (va vb vc : Value) → taken op va vb vc ≡ true → In (whole_interval (bits_of (given op va vb vc))) (number_of (given op va vb vc))
in_any op va vb vc t = in_whole (bits_of (given op va vb vc)) (number_of (given op va vb vc)) (given_known op va vb vc t).below

held_given : (op : Operator) (a b c : IntervalRecord) (va vb vc : Value) → taken op va vb vc ≡ true → Held a va →
    (2 ≤ count_of (shape_of op) → Held b vb) → (3 ≤ count_of (shape_of op) → Held c vc) →
    In (interval_made op (bits_of (given op va vb vc)) a b c) (number_of (given op va vb vc))
held_given BvAdd a b c va vb vc t p q r = in_sum (bits_of va) (number_of va) (number_of vb) a b p.1 (q (lit≤ tt)).1
held_given BvSub a b c va vb vc t p q r =
    in_difference (bits_of va) (number_of va) (number_of vb) a b (first_number BvSub va vb vc t).below p.1 (q (lit≤ tt)).1
held_given BvAnd a b c va vb vc t p q r =
    in_common (bits_of va) (number_of va) (number_of vb) a b (first_number BvAnd va vb vc t).below p.1 (q (lit≤ tt)).1
held_given BvLshr a b c va vb vc t p q r =
    in_rest (bits_of va) (number_of va / 2 ^ number_of vb) (number_of va) a (shr_le (number_of va) (number_of vb)) (first_number BvLshr va vb vc t).below p.1
held_given BvUrem a b c va vb vc t p q r =
    in_rest (bits_of va) _ (number_of va) a (remainder_le (number_of va) (number_of vb)) (first_number BvUrem va vb vc t).below p.1
held_given (Extract u l) a b c va vb vc t p q r = in_part (u - l + 1) l (number_of va) a p.1
held_given Ite a b c va vb vc t p q r =
    in_either (bits_of (given Ite va vb vc)) (number_of (given Ite va vb vc)) b c (given_known Ite va vb vc t).below
    (cond_both (truth_of va) vb vc (λ v. (min b.lo c.lo ≤ number_of v) × (number_of v ≤ max b.hi c.hi))
    (λ e. (omega (arith, (q (lit≤ tt)).1), omega (arith, (q (lit≤ tt)).1)))
    (λ e. (omega (arith, (r (lit≤ tt)).1), omega (arith, (r (lit≤ tt)).1))))
held_given BvNot a b c va vb vc t p q r = in_any BvNot va vb vc t
held_given BvNeg a b c va vb vc t p q r = in_any BvNeg va vb vc t
held_given BvMul a b c va vb vc t p q r = in_any BvMul va vb vc t
held_given BvUdiv a b c va vb vc t p q r = in_any BvUdiv va vb vc t
held_given Concat a b c va vb vc t p q r = in_any Concat va vb vc t
held_given BvOr a b c va vb vc t p q r = in_any BvOr va vb vc t
held_given BvXor a b c va vb vc t p q r = in_any BvXor va vb vc t
held_given BvShl a b c va vb vc t p q r = in_any BvShl va vb vc t
held_given BvUlt a b c va vb vc t p q r = in_any BvUlt va vb vc t
held_given BvUle a b c va vb vc t p q r = in_any BvUle va vb vc t
held_given BvUgt a b c va vb vc t p q r = in_any BvUgt va vb vc t
held_given BvUge a b c va vb vc t p q r = in_any BvUge va vb vc t
held_given BvSlt a b c va vb vc t p q r = in_any BvSlt va vb vc t
held_given BvSle a b c va vb vc t p q r = in_any BvSle va vb vc t
held_given BvSgt a b c va vb vc t p q r = in_any BvSgt va vb vc t
held_given BvSge a b c va vb vc t p q r = in_any BvSge va vb vc t
held_given Equal a b c va vb vc t p q r = in_any Equal va vb vc t
held_given Not a b c va vb vc t p q r = in_any Not va vb vc t
held_given And a b c va vb vc t p q r = in_any And va vb vc t
held_given Or a b c va vb vc t p q r = in_any Or va vb vc t
held_given Implies a b c va vb vc t p q r = in_any Implies va vb vc t

pub held : (op : Operator) (k : ℕ) (a b c : IntervalRecord) (va vb vc : Value) → taken op va vb vc ≡ true → bits_of (value_of op va vb vc) ≡ k →
    Held a va → (2 ≤ count_of (shape_of op) → Held b vb) → (3 ≤ count_of (shape_of op) → Held c vc) →
    In (interval_made op k a b c) (number_of (value_of op va vb vc))
held op k a b c va vb vc t e p q r =
    let g = value_given op va vb vc t in
    subst (λ (v : Value). In (interval_made op k a b c) (number_of v)) (sym g)
    (subst (λ (j : ℕ). In (interval_made op j a b c) (number_of (given op va vb vc))) (sym (ap bits_of g) ∙ e)
    (held_given op a b c va vb vc t p q r))

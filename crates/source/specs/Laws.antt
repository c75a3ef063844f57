-- What the standard says of the values of operators, where its words differ from the definitions: bit by bit,
-- by what gives zero, by the top bits, by what was divided. Numbers of k bits lie below 2 ^ k.
use Rattle.std.specs.Prelude.{◌≡◌, ℕ, ◌+◌, ◌-◌, ◌*◌, ◌%◌, ◌^◌, ◌<◌, ◌≤◌, max, ◌⊎◌, pos, neg_ℤ, ◌≤ℤ◌, ◌<ℤ◌, Decides, bit_and, bit_or, bit_xor}
use Rattle.std.specs.Int.{bit_at, int_rem_euclid}
use Rattle.source.specs.Numbers.{complement, negated, sum, difference, quotient, remainder, extracted, joined, shifted_right, shifted_left, signed, signed_less, signed_at_most}

-- bit i of a conjunction is 1 where both bits are, of a disjunction where one is, of an exclusive one where the
-- bits differ, of a complement where the bit is 0; and no bit stands past the width
pub record Bitwise (k a b : ℕ) : Type 0 where
  pub both : (i : ℕ) → i < k → bit_at (bit_and a b) i ≡ bit_at a i * bit_at b i
  pub one : (i : ℕ) → i < k → bit_at (bit_or a b) i ≡ max (bit_at a i) (bit_at b i)
  pub differ : (i : ℕ) → i < k → bit_at (bit_xor a b) i ≡ (bit_at a i + bit_at b i) % 2
  pub turned : (i : ℕ) → i < k → bit_at (complement k a) i ≡ 1 - bit_at a i
  pub within : (bit_and a b < 2 ^ k) × (bit_or a b < 2 ^ k) × (bit_xor a b < 2 ^ k) × (complement k a < 2 ^ k)

abbrev pub BitByBit : Type 0
BitByBit = (k a b : ℕ) → a < 2 ^ k → b < 2 ^ k → Bitwise k a b

-- the negative is the one number that gives 0 when the number is added to it
pub record Negative (k a : ℕ) : Type 0 where
  pub zero : (a + negated k a) % 2 ^ k ≡ 0
  pub below : negated k a < 2 ^ k
  pub only : (n : ℕ) → n < 2 ^ k → (a + n) % 2 ^ k ≡ 0 → n ≡ negated k a

abbrev pub Negatives : Type 0
Negatives = (k a : ℕ) → a < 2 ^ k → Negative k a

-- the difference, with the subtrahend added, is the minuend; and it is the sum with the negative
pub record Difference (k a b : ℕ) : Type 0 where
  pub back : (difference k a b + b) % 2 ^ k ≡ a
  pub added : sum k a (negated k b) ≡ difference k a b

abbrev pub Differences : Type 0
Differences = (k a b : ℕ) → a < 2 ^ k → b < 2 ^ k → Difference k a b

-- a shift by b places moves every bit so many places; what comes in is 0, and after k places nothing is left
pub record Shifted (k a b : ℕ) : Type 0 where
  pub left : (i : ℕ) → i < k → b ≤ i → bit_at (shifted_left k a b) i ≡ bit_at a (i - b)
  pub left_in : (i : ℕ) → i < k → i < b → bit_at (shifted_left k a b) i ≡ 0
  pub left_out : k ≤ b → shifted_left k a b ≡ 0
  pub right : (i : ℕ) → bit_at (shifted_right a b) i ≡ bit_at a (i + b)
  pub right_in : (i : ℕ) → k ≤ i + b → bit_at (shifted_right a b) i ≡ 0
  pub right_out : k ≤ b → shifted_right a b ≡ 0

abbrev pub Shifts : Type 0
Shifts = (k a b : ℕ) → a < 2 ^ k → Shifted k a b

-- the signed order: a negative number, which has top bit 1, comes before one with top bit 0; else the numbers decide
abbrev pub Before : ℕ → ℕ → ℕ → Type 0 → Type 0
Before k a b P = ((bit_at a (k - 1) ≡ 1) × (bit_at b (k - 1) ≡ 0)) ⊎ ((bit_at a (k - 1) ≡ bit_at b (k - 1)) × P)

abbrev pub SignedOrder : Type 0
SignedOrder = (k a b : ℕ) → 1 ≤ k → a < 2 ^ k → b < 2 ^ k → Decides (signed_less k a b) (Before k a b (a < b)) × Decides (signed_at_most k a b) (Before k a b (a ≤ b))

-- the signed number lies from -2 ^ (k - 1) to below 2 ^ (k - 1), and is the number modulo 2 ^ k
pub record Signed (k a : ℕ) : Type 0 where
  pub least : neg_ℤ (pos (2 ^ (k - 1))) ≤ℤ signed k a
  pub most : signed k a <ℤ pos (2 ^ (k - 1))
  pub same : int_rem_euclid (signed k a) (pos (2 ^ k)) ≡ pos a

abbrev pub SignedNumbers : Type 0
SignedNumbers = (k a : ℕ) → 1 ≤ k → a < 2 ^ k → Signed k a

-- quotient and remainder are those of whole numbers; by zero they are all ones and the dividend
pub record Divided (k a b : ℕ) : Type 0 where
  pub whole : 0 < b → a ≡ b * quotient k a b + remainder a b
  pub less : 0 < b → remainder a b < b
  pub by_zero : b ≡ 0 → (quotient k a b ≡ 2 ^ k - 1) × (remainder a b ≡ a)

abbrev pub Division : Type 0
Division = (k a b : ℕ) → Divided k a b

-- joined bits can be taken out again
pub record Joined (k j a b : ℕ) : Type 0 where
  pub lower : extracted (j - 1) 0 (joined j a b) ≡ b
  pub upper : extracted (k + j - 1) j (joined j a b) ≡ a
  pub below : joined j a b < 2 ^ (k + j)

abbrev pub TakenOut : Type 0
TakenOut = (k j a b : ℕ) → 1 ≤ k → 1 ≤ j → a < 2 ^ k → b < 2 ^ j → Joined k j a b

-- bits taken out can be joined again
abbrev pub JoinedAgain : Type 0
JoinedAgain = (k l a : ℕ) → 1 ≤ l → l < k → a < 2 ^ k → joined l (extracted (k - 1) l a) (extracted (l - 1) 0 a) ≡ a

-- what is taken out has so many bits, each of them where it stood
pub record Part (upper lower a : ℕ) : Type 0 where
  pub below : extracted upper lower a < 2 ^ (upper - lower + 1)
  pub bits : (i : ℕ) → i ≤ upper - lower → bit_at (extracted upper lower a) i ≡ bit_at a (i + lower)

abbrev pub Parts : Type 0
Parts = (upper lower a : ℕ) → Part upper lower a

-- Euclidean division: n = d * q + r with 0 ≤ r < |d|, for every divisor d but 0, negative ones too.
use Rattle.std.specs.Prelude.{ℕ, ◌+◌, ◌-◌, ◌/◌, ◌%◌, cond, ℤ, pos, negsuc, neg_ℤ, ◌==◌}
use Rattle.target.specs.Values.{Reading}

-- by a divisor above 0: that of -(m + 1) has the quotient -(m / d + 1) and the remainder d - 1 - m % d
abbrev pub quot_pos : ℤ → ℕ → ℤ
quot_pos (pos n) d = pos (n / d)
quot_pos (negsuc m) d = negsuc (m / d)

abbrev pub rem_pos : ℤ → ℕ → ℤ
rem_pos (pos n) d = pos (n % d)
rem_pos (negsuc m) d = pos (d - 1 - m % d)

-- by any divisor: by 0 as the reading says, and by -d the quotient by d with its sign changed
abbrev pub quot : Reading → ℤ → ℤ → ℤ
quot reading n (pos d) = cond (d == 0) (reading.quot_by_zero n) (quot_pos n d)
quot reading n (negsuc d) = neg_ℤ (quot_pos n (d + 1))

abbrev pub rem : Reading → ℤ → ℤ → ℤ
rem reading n (pos d) = cond (d == 0) (reading.rem_by_zero n) (rem_pos n d)
rem reading n (negsuc d) = rem_pos n (d + 1)

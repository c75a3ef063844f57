-- What one more byte of a line does.
use Rattle.std.specs.Prelude.{ℕ, ◌+◌, ◌-◌, ◌*◌, ◌%◌, ◌^◌, min, ◌&&◌, List, [], ◌∷◌, ◌++◌, drop, length, replicate, Option, Some, None, unwrap_or, ◌==◌, nat_le, if◌then◌else◌}
use Rattle.std.specs.List.{concat}
use Rattle.vectors.specs.declared.decode.Reading.{Reading}

-- the piece that is being read, and the script so far
pub record State : Type 0 where
  pub reading : Reading
  pub script : List ℕ

abbrev pub state : Reading → List ℕ → State
state reading script = record { reading = reading; script = script }

-- the number that a hexadecimal digit stands for
abbrev pub digit_of : ℕ → Option ℕ
digit_of b =
    if nat_le 48 b && nat_le b 57 then Some (b - 48) else
    if nat_le 97 b && nat_le b 102 then Some (b - 97 + 10) else None

-- how often the piece is to stand: once, unless it says otherwise
abbrev pub times_of : Reading → ℕ
times_of reading = unwrap_or reading.times 1

-- the script with the piece as many times as it says
abbrev pub with_copies : State → List ℕ
with_copies s = s.script ++ concat (replicate (times_of s.reading - 1) (drop s.reading.start s.script))

-- a space: the next piece begins
abbrev pub after_space : State → State
after_space s = state (record s.reading { start = length (with_copies s); times = None }) (with_copies s)

-- a *: the number of times begins
abbrev pub after_star : State → State
after_star s = state (record s.reading { times = Some 0 }) s.script

-- a digit of the number of times, which stays at its largest where it would no longer fit
abbrev pub after_count : State → ℕ → ℕ → State
after_count s d times = state (record s.reading { times = Some (min (min (times * 10) (2 ^ 64 - 1) + d) (2 ^ 64 - 1)) }) s.script

-- a digit of a byte, whose first digit may wait
abbrev pub after_half : State → ℕ → Option ℕ → State
after_half s d None = state (record s.reading { high = Some d }) s.script
after_half s d (Some high) = state (record s.reading { high = None }) (s.script ++ (high % 16 * 16 + d % 16) ∷ [])

-- a digit after a * is one of the number of times
abbrev pub after_either : State → ℕ → Option ℕ → State
after_either s d None = after_half s d s.reading.high
after_either s d (Some times) = after_count s d times

abbrev pub after_digit : State → ℕ → State
after_digit s d = after_either s d s.reading.times

abbrev pub after_some : State → Option ℕ → State
after_some s None = s
after_some s (Some d) = after_digit s d

-- any other byte says nothing
abbrev pub after : State → ℕ → State
after s b = if b == 32 then after_space s else if b == 42 then after_star s else after_some s (digit_of b)

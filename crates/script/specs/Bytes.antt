-- Classes of bytes, blanks and comments.
use Rattle.std.specs.Prelude.{ℕ, ◌+◌, Bool, true, false, cond, not, ◌&&◌, ◌||◌, List, [], ◌∷◌, ◌==◌, nat_le}
use Rattle.std.specs.List.{list_all}
use Rattle.script.specs.declared.token.Class.{Class}
use Rattle.script.specs.declared.token.Class.TheVariants.{Atom, Digit, Bit, HexDigit}

-- carriage return or line feed
abbrev pub line_end : ℕ → Bool
line_end b = b == 13 || b == 10

-- space, tab, carriage return, line feed
abbrev pub blank : ℕ → Bool
blank b = b == 32 || b == 9 || line_end b

abbrev pub digit : ℕ → Bool
digit b = nat_le 48 b && nat_le b 57

-- 33 to 126 without ( ) ;
abbrev pub atomic : ℕ → Bool
atomic b = nat_le 33 b && nat_le b 126 && not (b == 40) && not (b == 41) && not (b == 59)

abbrev pub within : Class → ℕ → Bool
within Atom b = atomic b
within Digit b = digit b
within Bit b = nat_le 48 b && nat_le b 49
within HexDigit b = digit b || (nat_le 65 b && nat_le b 70) || (nat_le 97 b && nat_le b 102)

-- whether all bytes are of a class
abbrev pub all : Class → List ℕ → Bool
all c = list_all (within c)

-- how many bytes at the front are blanks and comments; the flag says whether a comment is open.
-- A comment runs from ; to a carriage return, a line feed or the end.
abbrev pub skipped : Bool → List ℕ → ℕ
skipped comment [] = 0
skipped true (b ∷ bs) = 1 + skipped (not (line_end b)) bs
skipped false (b ∷ bs) = cond (b == 59) (1 + skipped true bs) (cond (blank b) (1 + skipped false bs) 0)

-- A line of the test vectors, and the script that it stands for.
use Rattle.std.specs.Prelude.{ℕ, ◌+◌, ◌/◌, ◌%◌, ◌^◌, ◌<◌, ◌≤◌, List, [], ◌∷◌, ◌++◌, map, replicate, ◌==◌, nat_lt, if◌then◌else◌}
use Rattle.std.specs.List.{All, flat_map, concat, join_with_byte}
use Rattle.std.specs.Int.Digits.{digits_of}

-- some bytes, and how many times they stand in the script
pub record Piece : Type 0 where
  pub bytes : List ℕ
  pub times : ℕ

-- bytes, maybe none, once or more, and no more often than 64 bits count
pub record IsPiece (piece : Piece) : Type 0 where
  pub are_bytes : All (λ b. b < 256) piece.bytes
  pub stands : 1 ≤ piece.times
  pub counted : piece.times < 2 ^ 64

-- 0 to 9, a to f
abbrev pub hex_digit : ℕ → ℕ
hex_digit d = if nat_lt d 10 then 48 + d else 87 + d

-- a byte in two digits
abbrev pub hex_byte : ℕ → List ℕ
hex_byte b = hex_digit (b / 16) ∷ hex_digit (b % 16) ∷ []

-- * and the number of times in decimal, where it is not 1
abbrev pub times_text : ℕ → List ℕ
times_text n = if n == 1 then [] else (42 ∷ map (λ d. 48 + d) (digits_of 10 n))

abbrev pub piece_text : Piece → List ℕ
piece_text piece = flat_map hex_byte piece.bytes ++ times_text piece.times

-- the pieces with one space between each two
abbrev pub line_of : List Piece → List ℕ
line_of pieces = join_with_byte 32 (map piece_text pieces)

-- the bytes of each piece as many times as it says
abbrev pub script_of : List Piece → List ℕ
script_of pieces = flat_map (λ piece. concat (replicate piece.times piece.bytes)) pieces

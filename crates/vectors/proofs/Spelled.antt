-- What the steps make of a line that spells pieces.
use Rattle.std.proofs.Common.{◌≡◌, ℕ, zero, suc, ◌+◌, ◌-◌, ◌*◌, ◌/◌, ◌%◌, ◌^◌, ◌<◌, ◌≤◌, min, Option, Some, None, unwrap_or, ◌==◌, if◌then◌else◌, drop, List, [], ◌∷◌, ◌++◌, map, length, replicate, inl, inr, sym, refl, ap, ◌∙◌, append_assoc, append-nil, arith}
use Rattle.std.specs.List.{All, flat_map, concat, fold}
use Rattle.std.specs.Int.Digits.{digits_of, number_from_digits_after, AllBelowBase}
use Rattle.std.proofs.lemmas.Bool.{lt-ltb, le-ltb, ne_eqb, cases_lt, cases_eq}
use Rattle.std.proofs.lemmas.Bool.Decides.{nat_tests}
use Rattle.std.proofs.lemmas.Int.Digits.{number_after_ge, number_digits_of, all_below_base_digits_of}
use Rattle.std.proofs.lemmas.List.{drop_at}
use Rattle.std.proofs.lemmas.List.Elements.{All-head, All-tail}
use Rattle.std.proofs.lemmas.List.Sums.{fold-append}
use Rattle.vectors.specs.Pieces.{Piece, IsPiece, hex_digit, hex_byte, times_text, piece_text, line_of, script_of}
use Rattle.vectors.specs.Steps.{State, state, digit_of, with_copies, after_space, after_digit, after}

-- the steps of some bytes
abbrev pub run : State → List ℕ → State
run s bytes = fold after s bytes

-- no digit waits
abbrev pub reading_at : ℕ → Option ℕ → List ℕ → State
reading_at start times script = state (record { start = start; high = None; times = times }) script

-- a piece begins behind a script
abbrev pub fresh : List ℕ → State
fresh script = reading_at (length script) None script

-- the digits, read back
digit_low : (d : ℕ) → d < 10 → digit_of (48 + d) ≡ Some d
digit_low d h = grind (arith, nat_tests)

digit_high : (d : ℕ) → 10 ≤ d → d < 16 → digit_of (87 + d) ≡ Some d
digit_high d g h = grind (arith, nat_tests)

-- a digit is no space and no *
after_is_digit : (s : State) (b d : ℕ) → 42 < b → digit_of b ≡ Some d → after s b ≡ after_digit s d
after_is_digit s b d h e = rw (ne_eqb b 32 (omega arith), ne_eqb b 42 (omega arith), e)

after_low : (s : State) (d : ℕ) → d < 10 → after s (48 + d) ≡ after_digit s d
after_low s d h = after_is_digit s (48 + d) d (omega arith) (digit_low d h)

after_hex : (s : State) (d : ℕ) → d < 16 → after s (hex_digit d) ≡ after_digit s d
after_hex s d h =
    elim (cases_lt d 10) [
      | inl low ↦ rw (lt-ltb d 10 low) (after_low s d low)
      | inr high ↦ rw (le-ltb d 10 high) (after_is_digit s (87 + d) d (omega arith) (digit_high d high h))
    ]

-- two digits are a byte
byte_read : (start : ℕ) (script : List ℕ) (b : ℕ) → b < 256 → run (reading_at start None script) (hex_byte b) ≡ reading_at start None (script ++ b ∷ [])
byte_read start script b h =
    let s : State = reading_at start None script in
    let whole : b / 16 % 16 * 16 + b % 16 % 16 ≡ b = omega arith in
    ap (λ t. after t (hex_digit (b % 16))) (after_hex s (b / 16) (omega arith))
    ∙ after_hex (after_digit s (b / 16)) (b % 16) (omega arith)
    ∙ ap (λ n. reading_at start None (script ++ n ∷ [])) whole

-- so the digits of some bytes are those bytes
bytes_read : (start : ℕ) (script bytes : List ℕ) → All (λ b. b < 256) bytes
    → run (reading_at start None script) (flat_map hex_byte bytes) ≡ reading_at start None (script ++ bytes)
bytes_read start script [] h = ap (reading_at start None) (sym (append-nil script))
bytes_read start script (b ∷ bs) h =
    ap (λ t. run t (flat_map hex_byte bs)) (byte_read start script b (All-head (λ n. n < 256) b bs h))
    ∙ bytes_read start (script ++ b ∷ []) bs (All-tail (λ n. n < 256) b bs h)
    ∙ ap (reading_at start None) (append_assoc script (b ∷ []) bs)

-- a numeral that fits never meets the largest number
digits_read : (start n : ℕ) (script ds : List ℕ) → AllBelowBase 10 ds → number_from_digits_after 10 n ds < 2 ^ 64
    → run (reading_at start (Some n) script) (map (λ d. 48 + d) ds) ≡ reading_at start (Some (number_from_digits_after 10 n ds)) script
digits_read start n script [] digits small = refl
digits_read start n script (d ∷ ds) digits small =
    let fits : min (min (n * 10) (2 ^ 64 - 1) + d) (2 ^ 64 - 1) ≡ n * 10 + d = omega (arith, number_after_ge 10 (n * 10 + d) ds (omega arith), small) in
    ap (λ t. run t (map (λ k. 48 + k) ds)) (after_low (reading_at start (Some n) script) d digits.0 ∙ ap (λ m. reading_at start (Some m) script) fits)
    ∙ digits_read start (n * 10 + d) script ds digits.1 small

-- what a piece says of the number of times: nothing where that is 1
abbrev said : ℕ → Option ℕ
said n = if n == 1 then None else Some n

times_said : (n : ℕ) → unwrap_or (said n) 1 ≡ n
times_said n = elim (cases_eq n 1) [ inl one ↦ rw one | inr more ↦ rw (ne_eqb n 1 more) ]

-- the number of times, written or 1
times_read : (start n : ℕ) (script : List ℕ) → n < 2 ^ 64 → run (reading_at start None script) (times_text n) ≡ reading_at start (said n) script
times_read start n script small =
    elim (cases_eq n 1) [
      | inl one ↦ rw one
      | inr more ↦
          rw (ne_eqb n 1 more) (
          digits_read start 0 script (digits_of 10 n) (all_below_base_digits_of 10 n (omega arith)) (rw (number_digits_of 10 n (omega arith)) small)
          ∙ ap (λ m. reading_at start (Some m) script) (number_digits_of 10 n (omega arith)))
    ]

-- a piece, but for its copies
piece_read : (piece : Piece) (script : List ℕ) → IsPiece piece
    → run (fresh script) (piece_text piece) ≡ reading_at (length script) (said piece.times) (script ++ piece.bytes)
piece_read piece script h =
    fold-append after (fresh script) (flat_map hex_byte piece.bytes) (times_text piece.times)
    ∙ ap (λ t. run t (times_text piece.times)) (bytes_read (length script) script piece.bytes h.are_bytes)
    ∙ times_read (length script) piece.times (script ++ piece.bytes) h.counted

-- once, and as often again as it says
again : (n : ℕ) (bytes : List ℕ) → 1 ≤ n → bytes ++ concat (replicate (n - 1) bytes) ≡ concat (replicate n bytes)
again zero bytes h = absurd (omega arith)
again (suc n) bytes h = let one : suc n - 1 ≡ n = omega arith in ap (λ k. bytes ++ concat (replicate k bytes)) one

-- the end of a piece
piece_ends : (piece : Piece) (script : List ℕ) → IsPiece piece
    → with_copies (reading_at (length script) (said piece.times) (script ++ piece.bytes)) ≡ script ++ concat (replicate piece.times piece.bytes)
piece_ends piece script h =
    ap (λ n. (script ++ piece.bytes) ++ concat (replicate (n - 1) (drop (length script) (script ++ piece.bytes)))) (times_said piece.times)
    ∙ ap (λ t. (script ++ piece.bytes) ++ concat (replicate (piece.times - 1) t)) (drop_at script piece.bytes (length script) refl)
    ∙ append_assoc script piece.bytes (concat (replicate (piece.times - 1) piece.bytes))
    ∙ ap (λ t. script ++ t) (again piece.times piece.bytes h.stands)

-- a line that spells pieces gives their script
pub line_read : (pieces : List Piece) (script : List ℕ) → All IsPiece pieces → with_copies (run (fresh script) (line_of pieces)) ≡ script ++ script_of pieces
line_read [] script h = refl
line_read (piece ∷ []) script h =
    let is = All-head IsPiece piece [] h in
    ap with_copies (piece_read piece script is) ∙ piece_ends piece script is ∙ ap (λ t. script ++ t) (sym (append-nil (concat (replicate piece.times piece.bytes))))
line_read (piece ∷ next ∷ pieces) script h =
    let is = All-head IsPiece piece (next ∷ pieces) h in
    let rest : List ℕ = line_of (next ∷ pieces) in
    let copies : List ℕ = concat (replicate piece.times piece.bytes) in
    ap with_copies (fold-append after (fresh script) (piece_text piece) (32 ∷ rest) ∙ ap (λ t. run (after_space t) rest) (piece_read piece script is)
    ∙ ap (λ t. run (fresh t) rest) (piece_ends piece script is))
    ∙ line_read (next ∷ pieces) (script ++ copies) (All-tail IsPiece piece (next ∷ pieces) h)
    ∙ append_assoc script copies (script_of (next ∷ pieces))

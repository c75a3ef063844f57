-- The tokens of a script.
use Rattle.std.specs.Prelude.{ℕ, ◌+◌, ◌-◌, ◌*◌, ◌^◌, Bool, false, cond, not, ◌&&◌, ◌||◌, List, [], ◌∷◌, length, take, drop, Ok, Err, Result, ◌==◌, nat_lt, slice_index}
use Rattle.std.specs.List.{prefix_len}
use Rattle.refusal.specs.declared.Cause.TheVariants.{Grammar}
use Rattle.refusal.specs.Causes.{told}
use Rattle.refusal.specs.declared.Refusal.{Refusal}
use Rattle.script.specs.declared.token.Class.{Class}
use Rattle.script.specs.declared.token.Class.TheVariants.{Atom, Digit, Bit, HexDigit}
use Rattle.script.specs.declared.token.Lexed.{Lexed}
use Rattle.script.specs.declared.token.Token.{Token}
use Rattle.script.specs.declared.token.Token.TheVariants.{Open, Close, Name, Numeral, Binary, Hex, End}
use Rattle.script.specs.Bytes.{digit, atomic, within, all, skipped}

-- a token with its bytes
pub data Tok : Type 0 where
  open_paren : Tok
  close_paren : Tok
  name : List ℕ → Tok
  numeral : List ℕ → Tok
  binary : List ℕ → Tok
  hex : List ℕ → Tok
  end : Tok

-- a token, the place of its first byte and the place after its last one; or a refusal
pub data Lexing : Type 0 where
  found : Tok → ℕ → ℕ → Lexing
  refused : Refusal → Lexing

-- text off the grammar, told at a place
abbrev pub off_grammar : ℕ → Refusal
off_grammar place = told Grammar place

-- bytes that are no token
abbrev pub malformed : ℕ → Lexing
malformed place = refused (off_grammar place)

-- the number that decimal digits spell, after the number n
abbrev pub value_after : ℕ → List ℕ → ℕ
value_after n [] = n
value_after n (d ∷ ds) = value_after (n * 10 + (d - 48)) ds

abbrev pub value_of : List ℕ → ℕ
value_of ds = value_after 0 ds

-- digits, no zero in front of others, below 2 ^ 32
abbrev pub is_numeral : List ℕ → Bool
is_numeral atom = all Digit atom && (nat_lt (length atom) 2 || not (slice_index atom 0 == 48)) && nat_lt (value_of atom) (2 ^ 32)

-- #b or #x, and at least one digit of its class
abbrev pub is_constant : ℕ → Class → List ℕ → Bool
is_constant letter class atom = nat_lt 2 (length atom) && slice_index atom 1 == letter && all class (drop 2 atom)

-- the token that an atom is, its first byte being b
abbrev pub atom_token : ℕ → List ℕ → ℕ → Lexing
atom_token b atom place =
    cond (digit b) (cond (is_numeral atom) (found (numeral atom) place (place + length atom)) (malformed place))
    (cond (b == 35)
    (cond (is_constant 98 Bit atom) (found (binary atom) place (place + length atom))
    (cond (is_constant 120 HexDigit atom) (found (hex atom) place (place + length atom))
    (malformed place)))
    (found (name atom) place (place + length atom)))

-- the atom at the front: the longest run of its bytes
abbrev pub atom_of : List ℕ → List ℕ
atom_of bs = take (prefix_len (within Atom) bs) bs

-- the token at the front of what stands at `place`, where no blank and no comment begins
abbrev pub token_here : List ℕ → ℕ → Lexing
token_here [] place = found end place place
token_here (b ∷ bs) place =
    cond (b == 40) (found open_paren place (place + 1))
    (cond (b == 41) (found close_paren place (place + 1))
    (cond (atomic b) (atom_token b (atom_of (b ∷ bs)) place)
    (malformed place)))

-- the first token of the script from `start` on, blanks and comments passed over
unfoldable pub token_at : List ℕ → ℕ → Lexing
token_at bytes start = token_here (drop (start + skipped false (drop start bytes)) bytes) (start + skipped false (drop start bytes))

-- the token of the code
abbrev pub shape : Token → Tok
shape Open = open_paren
shape Close = close_paren
shape (Name t) = name t.now
shape (Numeral t) = numeral t.now
shape (Binary t) = binary t.now
shape (Hex t) = hex t.now
shape End = end

-- what the code answers
abbrev pub said : Result Lexed Refusal → Lexing
said (Ok l) = found (shape l.token) l.span.place l.span.after
said (Err e) = refused e

-- What holds of each token that is found.
use Rattle.std.specs.Prelude.{ℕ, ◌^◌, ◌<◌, ◌≤◌, max, cond, List, Some, None, Option, nat_lt}
use Rattle.script.specs.declared.token.Lexed.{Lexed}
use Rattle.script.specs.Tokens.{Tok, open_paren, close_paren, name, numeral, binary, hex, end, value_of}

-- the number that decimal digits spell, if it is below 2 ^ 32
abbrev pub number_of : List ℕ → Option ℕ
number_of text = cond (nat_lt (value_of text) (2 ^ 32)) (Some (value_of text)) None

-- a numeral's number is below 2 ^ 32
abbrev pub Numbered : Tok → Type 0
Numbered open_paren = Unit {0}
Numbered close_paren = Unit {0}
Numbered (name t) = Unit {0}
Numbered (numeral t) = value_of t < 2 ^ 32
Numbered (binary t) = Unit {0}
Numbered (hex t) = Unit {0}
Numbered end = Unit {0}

-- where the first token from `start` on stands in a script of length len
pub record Stands (start len : ℕ) (l : Lexed) : Type 0 where
  pub begins : start ≤ l.span.place
  pub ends : l.span.place ≤ l.span.after
  pub inside : l.span.after ≤ max start len

-- One step of the reader: the next token, where it is one that the grammar wants there.
use Rattle.std.specs.Prelude.{◌≡◌, ℕ, Bool, true, false, cond, List, Some, None, Ok, Err, codes, Option, Result}
use Rattle.std.specs.Str.{bytes_eq}
use Rattle.refusal.specs.declared.Refusal.{Refusal}
use Rattle.script.specs.declared.token.Span.{Span}
use Rattle.script.specs.declared.token.Token.{Token}
use Rattle.script.specs.declared.steps.Reader.{Reader}
use Rattle.script.specs.declared.command.Form.TheVariants.{Constant, Function}
use Rattle.script.specs.declared.command.Keyword.{Keyword}
use Rattle.script.specs.declared.command.Keyword.TheVariants.{CheckSat, Declare}
use Rattle.script.specs.Tokens.{Tok, open_paren, close_paren, name, numeral, end, Lexing, found, refused, off_grammar, shape, value_of}
use Rattle.script.specs.Found.{Numbered}

abbrev pub is_open : Tok → Bool
is_open open_paren = true
is_open _ = false

abbrev pub is_close : Tok → Bool
is_close close_paren = true
is_close _ = false

abbrev pub is_end : Tok → Bool
is_end end = true
is_end _ = false

-- the text of a name
abbrev pub name_in : Tok → Option (List ℕ)
name_in (name t) = Some t
name_in _ = None

-- the number of a numeral
abbrev pub number_in : Tok → Option ℕ
number_in (numeral t) = Some (value_of t)
number_in _ = None

-- whether there is a text, and it satisfies a test
abbrev pub text_is : (List ℕ → Bool) → Option (List ℕ) → Bool
text_is test None = false
text_is test (Some t) = test t

abbrev pub is_name : Tok → Bool
is_name t = text_is (λ x. true) (name_in t)

-- whether a token is this very name
abbrev pub is_word : List ℕ → Tok → Bool
is_word word t = text_is (λ x. bytes_eq x word) (name_in t)

-- the token, if it is wanted; if not, text off the grammar, told at that token
abbrev pub accept : (Tok → Bool) → Lexing → Result Span Refusal
accept wanted (found t p a) = cond (wanted t) (Ok (record { place = p; after = a })) (Err (off_grammar p))
accept wanted (refused e) = Err e

-- the same where the token gives a value, with the place after it
abbrev pub given : {A : Type 0} → Option A → ℕ → ℕ → Result (A × ℕ) Refusal
given None p a = Err (off_grammar p)
given (Some x) p a = Ok (x, a)

abbrev pub pick : {A : Type 0} → (Tok → Option A) → Lexing → Result (A × ℕ) Refusal
pick wanted (found t p a) = given (wanted t) p a
pick wanted (refused e) = Err e

-- what a command's word asks for
abbrev pub keyword_of : List ℕ → Option Keyword
keyword_of t =
    cond (bytes_eq t (codes "check-sat")) (Some CheckSat)
    (cond (bytes_eq t (codes "declare-const")) (Some (Declare Constant))
    (cond (bytes_eq t (codes "declare-fun")) (Some (Declare Function)) None))

abbrev pub keyword_from : Option (List ℕ) → Option Keyword
keyword_from None = None
keyword_from (Some t) = keyword_of t

abbrev pub keyword_in : Tok → Option Keyword
keyword_in t = keyword_from (name_in t)

-- what a call gives at each token, seen through `see`, is what a test says of the token
abbrev pub Tells : {A B : Type 0} → (Token → A → Type 0) → (A → B) → (Tok → B) → Type 0
Tells gives see test = (t : Token) (r : _) → Numbered (shape t) → gives t r → see r ≡ test (shape t)

-- a reader after a step: it goes on behind the token that was taken
abbrev pub passed : Reader → Result Span Refusal → Reader
passed reader (Ok s) = record reader { pos = s.after }
passed reader (Err e) = reader

-- one step after another, up to the first that refuses
abbrev pub and_then : {A B : Type 0} → Result A Refusal → (A → Result B Refusal) → Result B Refusal
and_then (Ok x) go = go x
and_then (Err e) go = Err e

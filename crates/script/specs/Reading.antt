-- What reading a script gives.
use Rattle.std.specs.Prelude.{ℕ, zero, suc, ◌-◌, min, cond, ◌||◌, List, [], ◌∷◌, ◌++◌, map, length, take, drop, replicate, Ok, Err, codes, Result, nat_le, nat_lt}
use Rattle.refusal.specs.declared.Cause as causes
use Rattle.refusal.specs.Causes.{told}
use Rattle.refusal.specs.declared.Refusal.{Refusal}
use Rattle.source.specs.declared.order.Act as acts
use Rattle.source.specs.declared.order.Order.{Order}
use Rattle.script.specs.declared.token.Span.{Span}
use Rattle.script.specs.declared.names.Name.{Name}
use Rattle.script.specs.declared.command.Form.{Form}
use Rattle.script.specs.declared.command.Form.TheVariants.{Constant, Function}
use Rattle.script.specs.declared.command.Keyword.{Keyword}
use Rattle.script.specs.declared.command.Keyword.TheVariants.{CheckSat, Declare}
use Rattle.script.specs.declared.command.Declaration.{Declaration}
use Rattle.script.specs.Tokens.{Lexing, token_at}
use Rattle.script.specs.Words.{reserved_words, among}
use Rattle.script.specs.Steps.{is_open, is_close, is_end, is_name, is_word, number_in, keyword_in, accept, pick, and_then}

-- the orders and the names of a script so far
pub record Read : Type 0 where
  pub orders : List Order
  pub names : List Name

abbrev pub nothing_read : Read
nothing_read = record { orders = []; names = [] }

-- one register more: its order, at the place of its first token, and its name
abbrev pub declared : Read → ℕ → Declaration → Read
declared read place d = record {
  orders = read.orders ++ (record { place = place; act = acts.TheVariants.Declare d.width } ∷ []);
  names = read.names ++ (record { place = d.name.place; after = d.name.after; row = length read.orders } ∷ []);
}

abbrev pub full : ℕ → Refusal
full place = told causes.TheVariants.Capacity place

abbrev pub bad_name : ℕ → Refusal
bad_name place = told causes.TheVariants.Name place

-- a name at a span, unless it is reserved or repeated or there is no room for it; `taken` are the names so far
abbrev pub take_name : List (List ℕ) → ℕ → List ℕ → Span → Result Span Refusal
take_name taken room text span =
    cond (among reserved_words text || among taken text) (Err (bad_name span.place))
    (cond (nat_le room (length taken)) (Err (full span.place))
    (Ok span))

-- over any source of tokens: `lex` gives the token after a place, `text` the bytes between two places
module _ (lex : ℕ → Lexing) (text : ℕ → ℕ → List ℕ) where
  -- the names so far, as texts
  abbrev pub texts : List Name → List (List ℕ)
  texts names = map (λ n. text n.place n.after) names

  -- ( set-logic QF_BV ): the place after it
  abbrev pub prologue_at : ℕ → Result ℕ Refusal
  prologue_at pos =
      and_then (accept is_open (lex pos)) (λ a.
      and_then (accept (is_word (codes "set-logic")) (lex a.after)) (λ b.
      and_then (accept (is_word (codes "QF_BV")) (lex b.after)) (λ c.
      and_then (accept is_close (lex c.after)) (λ d.
      Ok d.after))))

  -- ( _ BitVec k ): k, and the place after the sort
  abbrev pub sort_at : ℕ → Result (ℕ × ℕ) Refusal
  sort_at pos =
      and_then (accept is_open (lex pos)) (λ a.
      and_then (accept (is_word (codes "_")) (lex a.after)) (λ b.
      and_then (accept (is_word (codes "BitVec")) (lex b.after)) (λ c.
      and_then (pick number_in (lex c.after)) (λ k.
      and_then (accept is_close (lex k.1)) (λ d.
      Ok (k.0, d.after))))))

  -- what stands between a register's name and its sort: nothing, or ( )
  abbrev pub parameters_at : Form → ℕ → Result ℕ Refusal
  parameters_at Constant pos = Ok pos
  parameters_at Function pos =
      and_then (accept is_open (lex pos)) (λ a.
      and_then (accept is_close (lex a.after)) (λ b.
      Ok b.after))

  -- the rest of a declaration, after its word
  abbrev pub declaration_at : ℕ → Form → List Name → ℕ → Result Declaration Refusal
  declaration_at room form names pos =
      and_then (accept is_name (lex pos)) (λ s.
      and_then (take_name (texts names) room (text s.place s.after) s) (λ n.
      and_then (parameters_at form n.after) (λ p.
      and_then (sort_at p) (λ k.
      and_then (accept is_close (lex k.1)) (λ c.
      Ok (record { name = n; width = k.0; close = c }))))))

  -- the rest of the script, after the word check-sat
  abbrev pub finish_at : Read → ℕ → Result Read Refusal
  finish_at read pos =
      and_then (accept is_close (lex pos)) (λ c.
      and_then (accept is_end (lex c.after)) (λ e.
      Ok read))

  -- the rest of the script, after a command's word; `next` goes on after a declaration that began at `place`
  abbrev pub command_by : ℕ → (ℕ → Declaration → Result Read Refusal) → Read → ℕ → Keyword → ℕ → Result Read Refusal
  command_by room next read place CheckSat pos = finish_at read pos
  command_by room next read place (Declare form) pos = and_then (declaration_at room form read.names pos) (next place)

  -- the rest of the script, from a command on
  abbrev pub command_at : ℕ → (ℕ → Declaration → Result Read Refusal) → Read → ℕ → Result Read Refusal
  command_at room next read pos =
      and_then (accept is_open (lex pos)) (λ o.
      and_then (pick keyword_in (lex o.after)) (λ k.
      command_by room next read o.place k.0 k.1))

  -- the same with room for so many orders: one more is told at the parenthesis that completes it
  abbrev pub commands_at : ℕ → ℕ → Read → ℕ → Result Read Refusal
  commands_at room zero read pos = command_at room (λ place d. Err (full d.close.place)) read pos
  commands_at room (suc more) read pos = command_at room (λ place d. commands_at room more (declared read place d) d.close.after) read pos

  abbrev pub script_at : ℕ → ℕ → ℕ → Result Read Refusal
  script_at order_room name_room pos = and_then (prologue_at pos) (commands_at name_room order_room nothing_read)

-- the bytes of a script from one place to another
abbrev pub text_in : List ℕ → ℕ → ℕ → List ℕ
text_in bytes from to = take (to - from) (drop from bytes)

-- a script's orders and names, with room for so many of each; over 65,536 bytes it is not looked at
unfoldable pub reading : ℕ → ℕ → List ℕ → Result Read Refusal
reading order_room name_room bytes =
    cond (nat_lt 65536 (length bytes)) (Err (full 65536))
    (script_at (token_at bytes) (text_in bytes) order_room name_room 0)

-- a longer table is used to its limit, a shorter one to its end
abbrev pub order_room : ℕ → ℕ
order_room len = min len 1024

abbrev pub name_room : ℕ → ℕ
name_room len = min len 256

abbrev pub blank_order : Order
blank_order = record { place = 0; act = acts.TheVariants.Declare 0 }

abbrev pub blank_name : Name
blank_name = record { place = 0; after = 0; row = 0 }

-- a table of length n that begins with xs, blank after them
abbrev pub padded : {A : Type 0} → ℕ → A → List A → List A
padded n blank xs = xs ++ replicate (n - length xs) blank

-- what the reader answers, and what it leaves in its two tables of lengths n and m
abbrev pub answer_of : Result Read Refusal → Result ℕ Refusal
answer_of (Ok read) = Ok (length read.orders)
answer_of (Err e) = Err e

abbrev pub orders_left : Result Read Refusal → List Order
orders_left (Ok read) = read.orders
orders_left (Err e) = []

abbrev pub names_left : Result Read Refusal → List Name
names_left (Ok read) = read.names
names_left (Err e) = []

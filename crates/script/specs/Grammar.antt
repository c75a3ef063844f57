-- The scripts of the grammar, and the tokens that spell them.
use Rattle.std.specs.Prelude.{◌≡◌, ℕ, ◌+◌, false, List, [], ◌∷◌, ◌++◌, length, drop, codes, slice_index_or}
use Rattle.source.specs.declared.order.Act as acts
use Rattle.source.specs.declared.order.Order.{Order}
use Rattle.script.specs.declared.token.Span.{Span}
use Rattle.script.specs.declared.names.Name.{Name}
use Rattle.script.specs.declared.command.Form.{Form}
use Rattle.script.specs.declared.command.Form.TheVariants.{Constant, Function}
use Rattle.script.specs.Tokens.{Tok, open_paren, close_paren, name, numeral, end, Lexing, found, value_of}
use Rattle.script.specs.Words.{reserved_words, among}

-- a register as a script declares it: its name, and the numeral of its width
pub record Register : Type 0 where
  pub form : Form
  pub title : List ℕ
  pub width : List ℕ

-- a script: its registers, in order
abbrev pub Script : Type 0
Script = List Register

abbrev pub form_word : Form → List ℕ
form_word Constant = codes "declare-const"
form_word Function = codes "declare-fun"

abbrev pub parameter_tokens : Form → List Tok
parameter_tokens Constant = []
parameter_tokens Function = open_paren ∷ close_paren ∷ []

-- ( _ BitVec k )
abbrev pub sort_tokens : List ℕ → List Tok
sort_tokens k = open_paren ∷ name (codes "_") ∷ name (codes "BitVec") ∷ numeral k ∷ close_paren ∷ []

-- ( declare-const n s ) or ( declare-fun n ( ) s )
abbrev pub register_tokens : Register → List Tok
register_tokens r =
    open_paren ∷ name (form_word r.form) ∷ name r.title ∷ (parameter_tokens r.form ++ (sort_tokens r.width ++ (close_paren ∷ [])))

abbrev pub registers_tokens : Script → List Tok
registers_tokens [] = []
registers_tokens (r ∷ rs) = register_tokens r ++ registers_tokens rs

-- ( set-logic QF_BV )
abbrev pub prologue_tokens : List Tok
prologue_tokens = open_paren ∷ name (codes "set-logic") ∷ name (codes "QF_BV") ∷ close_paren ∷ []

-- ( check-sat ), and the end
abbrev pub epilogue_tokens : List Tok
epilogue_tokens = open_paren ∷ name (codes "check-sat") ∷ close_paren ∷ end ∷ []

abbrev pub script_tokens : Script → List Tok
script_tokens rs = prologue_tokens ++ (registers_tokens rs ++ epilogue_tokens)

-- from `pos` on `lex` gives these tokens, standing at these spans one after another; the last ends at `stop`
abbrev pub Spells : (ℕ → Lexing) → ℕ → List Tok → List Span → ℕ → Type 0
Spells lex pos [] [] stop = pos ≡ stop
Spells lex pos [] (s ∷ ss) stop = ⊥
Spells lex pos (t ∷ ts) [] stop = ⊥
Spells lex pos (t ∷ ts) (s ∷ ss) stop = (lex pos ≡ found t s.place s.after) × Spells lex s.after ts ss stop

-- no register's name is a reserved word, one of the names in `taken` or that of an earlier register
abbrev pub Free : List (List ℕ) → Script → Type 0
Free taken [] = Unit {0}
Free taken (r ∷ rs) = (among reserved_words r.title ≡ false) × (among taken r.title ≡ false) × Free (taken ++ (r.title ∷ [])) rs

abbrev pub no_span : Span
no_span = record { place = 0; after = 0 }

-- the orders of registers whose tokens stand at these spans: each at the place of its first token
abbrev pub orders_of : Script → List Span → List Order
orders_of [] spans = []
orders_of (r ∷ rs) spans =
    record { place = (slice_index_or spans 0 no_span).place; act = acts.TheVariants.Declare (value_of r.width) }
    ∷ orders_of rs (drop (length (register_tokens r)) spans)

-- their names, which are their third tokens; registers are source rows from `row` on
abbrev pub names_of : ℕ → Script → List Span → List Name
names_of row [] spans = []
names_of row (r ∷ rs) spans =
    record { place = (slice_index_or spans 2 no_span).place; after = (slice_index_or spans 2 no_span).after; row = row }
    ∷ names_of (row + 1) rs (drop (length (register_tokens r)) spans)

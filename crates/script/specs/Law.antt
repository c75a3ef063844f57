-- What reading promises, in the grammar's words.
use Rattle.std.specs.Prelude.{◌≡◌, ℕ, ◌≤◌, List, [], length, drop, Ok, Err, Result}
use Rattle.refusal.specs.declared.Refusal.{Refusal}
use Rattle.source.specs.declared.order.Order.{Order}
use Rattle.script.specs.declared.token.Span.{Span}
use Rattle.script.specs.declared.names.Name.{Name}
use Rattle.script.specs.Tokens.{token_at}
use Rattle.script.specs.Reading.{Read, order_room, name_room, blank_order, blank_name, padded}
use Rattle.script.specs.Grammar.{Script, prologue_tokens, script_tokens, Spells, Free, orders_of, names_of}

-- the bytes are those of a script of the grammar: its tokens stand at these spans, its names may be taken,
-- and it keeps within the limits
pub record Spelled (orders names : ℕ) (bytes : List ℕ) (script : Script) (spans : List Span) : Type 0 where
  pub stop : ℕ
  pub tokens : Spells (token_at bytes) 0 (script_tokens script) spans stop
  pub free : Free [] script
  pub short : length bytes ≤ 65536
  pub few_orders : length script ≤ order_room orders
  pub few_names : length script ≤ name_room names

-- the orders and names of a script whose tokens stand at these spans
abbrev pub read_of : Script → List Span → Read
read_of script spans = record {
  orders = orders_of script (drop (length prologue_tokens) spans);
  names = names_of 0 script (drop (length prologue_tokens) spans);
}

-- granted: the bytes spell a script, and no other one, the answer is the number of its registers, and the
-- tables hold their orders and names and are blank after them. Refused: the bytes spell no script within
-- the limits, and both tables are blank.
abbrev pub Grammatical : List ℕ → ℕ → ℕ → Result ℕ Refusal → List Order → List Name → Type 0
Grammatical bytes orders names (Ok count) os ns =
    (script : Script) × (spans : List Span) × Spelled orders names bytes script spans × (count ≡ length script)
    × (os ≡ padded orders blank_order (read_of script spans).orders) × (ns ≡ padded names blank_name (read_of script spans).names)
    × ((other : Script) (others : List Span) → Spelled orders names bytes other others → (other ≡ script) × (others ≡ spans))
Grammatical bytes orders names (Err e) os ns =
    ((script : Script) (spans : List Span) → Spelled orders names bytes script spans → ⊥)
    × (os ≡ padded orders blank_order []) × (ns ≡ padded names blank_name [])

-- What reading promises: a script is granted exactly when the grammar spells it within the limits.
use Rattle.std.proofs.Common.{◌≡◌, ℕ, Bool, true, false, cond, ltb, ◌↔◌, List, length, drop, Ok, Err, Result, sym, refl, ap, ◌∙◌}
use Rattle.std.proofs.lemmas.Bool.{ltb-false, le-ltb}
use Rattle.refusal.specs.declared.Refusal.{Refusal}
use Rattle.source.specs.declared.order.Order.{Order}
use Rattle.script.specs.declared.token.Span.{Span}
use Rattle.script.specs.declared.names.Name.{Name}
use Rattle.script.specs.Tokens.{Lexing, token_at}
use Rattle.script.specs.Reading.{Read, script_at, text_in, reading, order_room, name_room, blank_order, blank_name, padded, full, answer_of, orders_left, names_left}
use Rattle.script.specs.Grammar.{Script}
use Rattle.script.specs.Law.{Spelled, read_of, Grammatical}
use Rattle.script.proofs.GrammarSteps.{Faithful}
use Rattle.script.proofs.GrammarAfter.{orders_length}
use Rattle.script.proofs.GrammarFaithful.{faithful}
use Rattle.script.proofs.GrammarComplete.{script_read}
use Rattle.script.proofs.GrammarSound.{Scripted, script_sound}
use Rattle.script.proofs.GrammarUnique.{one_spelling}

-- over any source of tokens
pub exactly : (lex : ℕ → Lexing) (text : ℕ → ℕ → List ℕ) → Faithful lex text → (orders names : ℕ) (x : Read)
    → (script_at lex text orders names 0 ≡ Ok x) ↔ Scripted lex orders names x
exactly lex text f orders names x = (
  λ e. script_sound lex text f names orders x e,
  λ s. script_read lex text f names orders s.script s.spans s.stop s.tokens s.free s.few_orders s.few_names ∙ ap Ok (sym s.read_is),
)

module _ (bytes : List ℕ) (orders names : ℕ) where
  -- on bytes: what a script gives is read
  spelled_read : (script : Script) (spans : List Span) → Spelled orders names bytes script spans
      → reading (order_room orders) (name_room names) bytes ≡ Ok (read_of script spans)
  unfolding reading
  spelled_read script spans s =
      let short : ltb 65536 (length bytes) ≡ false = le-ltb 65536 (length bytes) s.short in
      rw short (script_read (token_at bytes) (text_in bytes) (faithful bytes) (name_room names) (order_room orders) script spans s.stop s.tokens s.free s.few_orders s.few_names)

  -- what is read is what a script gives
  read_spelled : (x : Read) → reading (order_room orders) (name_room names) bytes ≡ Ok x
      → (script : Script) × (spans : List Span) × Spelled orders names bytes script spans × (x ≡ read_of script spans)
  unfolding reading
  read_spelled x e = by (ltb 65536 (length bytes)) refl e
    where
      by : (b : Bool) → ltb 65536 (length bytes) ≡ b → cond b (Err (full 65536)) (script_at (token_at bytes) (text_in bytes) (order_room orders) (name_room names) 0) ≡ Ok x
          → (script : Script) × (spans : List Span) × Spelled orders names bytes script spans × (x ≡ read_of script spans)
      by true long e = cc
      by false long e =
          let s = script_sound (token_at bytes) (text_in bytes) (faithful bytes) (name_room names) (order_room orders) x e in (
            s.script,
            s.spans,
            record { stop = s.stop; tokens = s.tokens; free = s.free; short = ltb-false 65536 (length bytes) long; few_orders = s.few_orders; few_names = s.few_names },
            s.read_is,
          )

  -- the bytes spell at most one script, at one list of spans
  pub one_script : (script other : Script) (spans others : List Span) → Spelled orders names bytes script spans → Spelled orders names bytes other others
      → (script ≡ other) × (spans ≡ others)
  one_script script other spans others s t = one_spelling (token_at bytes) 0 script other spans others s.stop t.stop s.tokens t.tokens

  -- the law for what is answered and left when the reading is x
  by_reading : (x : Result Read Refusal) → reading (order_room orders) (name_room names) bytes ≡ x
      → Grammatical bytes orders names (answer_of x) (padded orders blank_order (orders_left x)) (padded names blank_name (names_left x))
  by_reading (Ok x) e =
      let s = read_spelled x e in
      let same : x ≡ read_of s.0 s.1 = s.3 in (
        s.0,
        s.1,
        s.2,
        ap (λ z. length z.orders) same ∙ orders_length s.0 (drop 4 s.1),
        ap (λ z. padded orders blank_order z.orders) same,
        ap (λ z. padded names blank_name z.names) same,
        λ other others t. one_script other s.0 others s.1 t s.2,
      )
  by_reading (Err f) e = (λ script spans s. let q : ◌≡◌ {A = Result Read Refusal} (Err f) (Ok (read_of script spans)) = sym e ∙ spelled_read script spans s in cc, refl, refl)

pub grammatical : (bytes : List ℕ) (orders names : ℕ) (r : Result ℕ Refusal) (os : List Order) (ns : List Name)
    → r ≡ answer_of (reading (order_room orders) (name_room names) bytes)
    → os ≡ padded orders blank_order (orders_left (reading (order_room orders) (name_room names) bytes))
    → ns ≡ padded names blank_name (names_left (reading (order_room orders) (name_room names) bytes))
    → Grammatical bytes orders names r os ns
grammatical bytes orders names r os ns p q s =
    rw (p, q, s) (by_reading bytes orders names (reading (order_room orders) (name_room names) bytes) refl)

-- The orders and names of registers that are read one after another.
use Rattle.std.proofs.Common.{◌≡◌, ℕ, suc, ◌+◌, List, [], ◌∷◌, ◌++◌, length, get_or, drop, sym, refl, ap, ◌∙◌, arith}
use Rattle.std.proofs.lemmas.List.{append-nil, append_assoc, map-append, length_push, drop_at, get_or_append_left}
use Rattle.script.specs.declared.token.Span.{Span}
use Rattle.script.specs.declared.command.Declaration.{Declaration}
use Rattle.script.specs.Tokens.{Lexing, value_of}
use Rattle.script.specs.Reading.{Read, declared, texts}
use Rattle.script.specs.Grammar.{Register, Script, register_tokens, no_span, orders_of, names_of}

pub same_read : (x y : Read) → x.orders ≡ y.orders → x.names ≡ y.names → x ≡ y
same_read x y p q =
    let a : ◌≡◌ {A = Read} x (record { orders = y.orders; names = x.names }) = ap (λ o. record { orders = o; names = x.names }) p in
    a ∙ ap (λ n. record { orders = y.orders; names = n }) q

-- what is read once registers at these spans have been read too
abbrev pub after : Read → Script → List Span → Read
after read rs spans = record {
  orders = read.orders ++ orders_of rs spans;
  names = read.names ++ names_of (length read.orders) rs spans;
}

pub after_none : (read : Read) (spans : List Span) → after read [] spans ≡ read
after_none read spans = same_read (after read [] spans) read (append-nil read.orders) (append-nil read.names)

-- a declaration read as the register r at the spans `front`
pub after_declared : (read : Read) (d : Declaration) (r : Register) (rs : Script) (front back : List Span)
    → length front ≡ length (register_tokens r) → d.name ≡ get_or front 2 no_span → d.width ≡ value_of r.width
    → after (declared read (get_or front 0 no_span).place d) rs back ≡ after read (r ∷ rs) (front ++ back)
after_declared read d r rs front back l n w =
    let rest : drop (length (register_tokens r)) (front ++ back) ≡ back = drop_at front back (length (register_tokens r)) l in
    let first : get_or (front ++ back) 0 no_span ≡ get_or front 0 no_span = get_or_append_left front back no_span 0 (omega arith) in
    let third : get_or (front ++ back) 2 no_span ≡ d.name = get_or_append_left front back no_span 2 (omega arith) ∙ sym n in
    let row : length (declared read (get_or front 0 no_span).place d).orders ≡ length read.orders + 1 = length_push read.orders _ in
    same_read _ _
    (append_assoc read.orders _ (orders_of rs back) ∙ ap (λ l. read.orders ++ l) (rw (rest, first, w) refl))
    (append_assoc read.names _ _ ∙ ap (λ l. read.names ++ l) (rw (rest, third, row) refl))

-- the names taken then
pub texts_declared : (lex : ℕ → Lexing) (text : ℕ → ℕ → List ℕ) (read : Read) (place : ℕ) (d : Declaration) (title : List ℕ)
    → text d.name.place d.name.after ≡ title
    → texts lex text (declared read place d).names ≡ texts lex text read.names ++ (title ∷ [])
texts_declared lex text read place d title e =
    map-append _ read.names _ ∙ ap (λ t. texts lex text read.names ++ (t ∷ [])) e

pub orders_length : (rs : Script) (spans : List Span) → length (orders_of rs spans) ≡ length rs
orders_length [] spans = refl
orders_length (r ∷ rs) spans = ap (λ n. suc n) (orders_length rs (drop (length (register_tokens r)) spans))

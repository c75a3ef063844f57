-- From one place on, the tokens spell at most one script, at one list of spans.
use Rattle.std.proofs.Common.{◌≡◌, ℕ, List, [], ◌∷◌, ◌++◌, get_or, codes, sym, refl, ap, ◌∙◌, subst, arith}
use Rattle.std.proofs.lemmas.List.{append_assoc}
use Rattle.script.specs.declared.token.Span.{Span}
use Rattle.script.specs.declared.command.Form.{Form}
use Rattle.script.specs.declared.command.Form.TheVariants.{Constant, Function}
use Rattle.script.specs.Tokens.{Tok, name, numeral, Lexing, found}
use Rattle.script.specs.Grammar.{Register, Script, form_word, register_tokens, registers_tokens, epilogue_tokens, script_tokens, Spells}

-- the same tokens, as far as both lists go
abbrev Agree : List Tok → List Tok → Type 0
Agree [] ys = Unit {0}
Agree (x ∷ xs) [] = Unit {0}
Agree (x ∷ xs) (y ∷ ys) = (x ≡ y) × Agree xs ys

found_tok : (t u : Tok) (p a q b : ℕ) → found t p a ≡ found u q b → (t ≡ u) × (p ≡ q) × (a ≡ b)
found_tok t u p a q b e = (cc, cc, cc)

same_span : (p q : Span) → p.place ≡ q.place → p.after ≡ q.after → p ≡ q
same_span p q e f =
    let a : ◌≡◌ {A = Span} p (record { place = q.place; after = p.after }) = ap (λ n. record { place = n; after = p.after }) e in
    a ∙ ap (λ n. record { place = q.place; after = n }) f

module _ (lex : ℕ → Lexing) where
  agree : (xs ys : List Tok) (ps qs : List Span) (pos at stop end : ℕ) → pos ≡ at → Spells lex pos xs ps stop → Spells lex at ys qs end → Agree xs ys
  agree [] ys ps qs pos at stop end e h k = tt
  agree (x ∷ xs) [] ps qs pos at stop end e h k = tt
  agree (x ∷ xs) (y ∷ ys) [] qs pos at stop end e h k = absurd h
  agree (x ∷ xs) (y ∷ ys) (p ∷ ps) [] pos at stop end e h k = absurd k
  agree (x ∷ xs) (y ∷ ys) (p ∷ ps) (q ∷ qs) pos at stop end e h k =
      let s = found_tok x y p.place p.after q.place q.after (sym h.0 ∙ (ap lex e ∙ k.0)) in
      (s.0, agree xs ys ps qs p.after q.after stop end s.2 h.1 k.1)

  same_spans : (xs : List Tok) (ps qs : List Span) (pos at stop end : ℕ) → pos ≡ at → Spells lex pos xs ps stop → Spells lex at xs qs end → ps ≡ qs
  same_spans [] [] [] pos at stop end e h k = refl
  same_spans [] [] (q ∷ qs) pos at stop end e h k = absurd k
  same_spans [] (p ∷ ps) qs pos at stop end e h k = absurd h
  same_spans (x ∷ xs) [] qs pos at stop end e h k = absurd h
  same_spans (x ∷ xs) (p ∷ ps) [] pos at stop end e h k = absurd k
  same_spans (x ∷ xs) (p ∷ ps) (q ∷ qs) pos at stop end e h k =
      let s = found_tok x x p.place p.after q.place q.after (sym h.0 ∙ (ap lex e ∙ k.0)) in
      let head : p ≡ q = same_span p q s.1 s.2 in
      let tail : ps ≡ qs = same_spans xs ps qs p.after q.after stop end s.2 h.1 k.1 in
      cc

name_text : (s t : List ℕ) → name s ≡ name t → s ≡ t
name_text s t e = cc

-- words that differ at a place are two words
apart : (s t : List ℕ) (i : ℕ) → (get_or s i 0 ≡ get_or t i 0 → ⊥) → name s ≡ name t → ⊥
apart s t i h e = h (ap (λ x. get_or x i 0) (name_text s t e))

-- no declaration begins as the end does
no_end : (f : Form) → name (form_word f) ≡ name (codes "check-sat") → ⊥
no_end Constant e = apart (codes "declare-const") (codes "check-sat") 0 (λ z. omega arith) e
no_end Function e = apart (codes "declare-fun") (codes "check-sat") 0 (λ z. omega arith) e

same_register : (f : Form) (t u k l : List ℕ) → name t ≡ name u → numeral k ≡ numeral l
    → ◌≡◌ {A = Register} (record { form = f; title = t; width = k }) (record { form = f; title = u; width = l })
same_register f t u k l p q =
    let s : t ≡ u = cc in
    let w : k ≡ l = cc in
    rw (s, w) refl

-- registers with the same tokens as others are the same, and what follows has the same tokens
one_register : (f g : Form) (t u k l : List ℕ) (xs ys : List Tok)
    → Agree (register_tokens (record { form = f; title = t; width = k }) ++ xs) (register_tokens (record { form = g; title = u; width = l }) ++ ys)
    → (◌≡◌ {A = Register} (record { form = f; title = t; width = k }) (record { form = g; title = u; width = l })) × Agree xs ys
one_register Constant Constant t u k l xs ys a =
    (same_register Constant t u k l a.1.1.0 a.1.1.1.1.1.1.0, a.1.1.1.1.1.1.1.1.1)
one_register Function Function t u k l xs ys a =
    (same_register Function t u k l a.1.1.0 a.1.1.1.1.1.1.1.1.0, a.1.1.1.1.1.1.1.1.1.1.1)
one_register Constant Function t u k l xs ys a = absurd (apart (codes "declare-const") (codes "declare-fun") 8 (λ z. omega arith) a.1.0)
one_register Function Constant t u k l xs ys a = absurd (apart (codes "declare-fun") (codes "declare-const") 8 (λ z. omega arith) a.1.0)

one_list : (rs ss : Script) → Agree (registers_tokens rs ++ epilogue_tokens) (registers_tokens ss ++ epilogue_tokens) → rs ≡ ss
one_list [] [] a = refl
one_list [] (s ∷ ss) a = absurd (no_end s.form (sym a.1.0))
one_list (r ∷ rs) [] a = absurd (no_end r.form a.1.0)
one_list (r ∷ rs) (s ∷ ss) a =
    let xs = registers_tokens rs ++ epilogue_tokens in
    let ys = registers_tokens ss ++ epilogue_tokens in
    let P : List Tok → Type 0 = λ z. Agree z (registers_tokens (s ∷ ss) ++ epilogue_tokens) in
    let Q : List Tok → Type 0 = λ z. Agree (register_tokens r ++ xs) z in
    let b = one_register r.form s.form r.title s.title r.width s.width xs ys
    (subst Q (append_assoc (register_tokens s) (registers_tokens ss) epilogue_tokens) (subst P (append_assoc (register_tokens r) (registers_tokens rs) epilogue_tokens) a)) in
    let head : r ≡ s = b.0 in
    let tail : rs ≡ ss = one_list rs ss b.1 in
    cc

pub one_spelling : (lex : ℕ → Lexing) (pos : ℕ) (rs ss : Script) (ps qs : List Span) (stop end : ℕ)
    → Spells lex pos (script_tokens rs) ps stop → Spells lex pos (script_tokens ss) qs end → (rs ≡ ss) × (ps ≡ qs)
one_spelling lex pos rs ss ps qs stop end h k =
    let same : rs ≡ ss = one_list rs ss (agree lex (script_tokens rs) (script_tokens ss) ps qs pos pos stop end refl h k).1.1.1.1 in
    let P : Script → Type 0 = λ z. Spells lex pos (script_tokens z) qs end in
    (same, same_spans lex (script_tokens rs) ps qs pos pos stop end refl h (subst P (sym same) k))

-- What is read was spelled by a script of the grammar within the limits, whose orders and names it is.
use Rattle.std.proofs.Common.{◌≡◌, ℕ, zero, suc, ◌+◌, ◌-◌, ◌<◌, ◌≤◌, Bool, true, false, cond, ◌||◌, leb, ◌⊎◌, List, [], ◌∷◌, ◌++◌, length, get_or, drop, Ok, Err, codes, Result, sym, refl, ap, ◌∙◌, subst, inl, inr, ⊎_elim, arith}
use Rattle.std.proofs.lemmas.List.{length-map, length_push, append_assoc, drop_at}
use Rattle.std.proofs.lemmas.Bool.{leb-false}
use Rattle.refusal.specs.declared.Refusal.{Refusal}
use Rattle.script.specs.declared.token.Span.{Span}
use Rattle.script.specs.declared.names.Name.{Name}
use Rattle.script.specs.declared.command.Form.{Form}
use Rattle.script.specs.declared.command.Form.TheVariants.{Constant, Function}
use Rattle.script.specs.declared.command.Keyword.{Keyword}
use Rattle.script.specs.declared.command.Keyword.TheVariants.{CheckSat, Declare}
use Rattle.script.specs.declared.command.Declaration.{Declaration}
use Rattle.script.specs.Tokens.{Tok, open_paren, close_paren, name, numeral, end, Lexing, found, value_of}
use Rattle.script.specs.Words.{reserved_words, among}
use Rattle.script.specs.Steps.{is_open, is_close, is_end, is_name, is_word, number_in, keyword_in, and_then}
use Rattle.script.specs.Reading.{Read, nothing_read, declared, full, texts, prologue_at, sort_at, parameters_at, declaration_at, command_by, command_at, commands_at, script_at}
use Rattle.script.specs.Grammar.{Register, Script, parameter_tokens, sort_tokens, register_tokens, registers_tokens, prologue_tokens, epilogue_tokens, script_tokens, Spells, Free, no_span, orders_of, names_of}
use Rattle.script.proofs.GrammarSteps.{Faithful, spells_join, spells_length, only_open, only_close, only_end, only_numeral, only_text, only_word, keyword_word, only_keyword, ok_same, then_inv, accept_inv, found_as, step_inv, pick_inv}
use Rattle.script.proofs.GrammarAfter.{after, after_none, after_declared, texts_declared}

-- the three tests of a name were passed
tests_inv : {B : Type 0} (a b c : Bool) (e f : Refusal) (s : Span) (go : Span → Result B Refusal) (y : B)
    → and_then (cond (a || b) (Err e) (cond c (Err f) (Ok s))) go ≡ Ok y → (a ≡ false) × (b ≡ false) × (c ≡ false) × (go s ≡ Ok y)
tests_inv true b c e f s go y q = cc
tests_inv false true c e f s go y q = cc
tests_inv false false true e f s go y q = cc
tests_inv false false false e f s go y q = (refl, refl, refl, q)

pair_same : (m n w : ℕ) (k : ℕ × ℕ) → m ≡ w → ◌≡◌ {A = Result (ℕ × ℕ) Refusal} (Ok (m, n)) (Ok k) → (k.0 ≡ w) × (n ≡ k.1)
pair_same m n w k is e = let same = ok_same (m, n) k e in (sym (ap (λ z. z.0) same) ∙ is, ap (λ z. z.1) same)

-- x is what a script gives that is spelled from 0 on, with so many orders and names at most
pub record Scripted (lex : ℕ → Lexing) (orders names : ℕ) (x : Read) : Type 0 where
  pub script : Script
  pub spans : List Span
  pub stop : ℕ
  pub tokens : Spells lex 0 (script_tokens script) spans stop
  pub free : Free [] script
  pub few_orders : length script ≤ orders
  pub few_names : length script ≤ names
  pub read_is : x ≡ record { orders = orders_of script (drop 4 spans); names = names_of 0 script (drop 4 spans) }

module _ (lex : ℕ → Lexing) (text : ℕ → ℕ → List ℕ) where
  prologue_sound : (pos stop : ℕ) → prologue_at lex text pos ≡ Ok stop → (spans : List Span) × Spells lex pos prologue_tokens spans stop
  prologue_sound pos stop e =
      let a = step_inv is_open open_paren only_open (lex pos) _ stop e in
      let b = step_inv (is_word (codes "set-logic")) (name (codes "set-logic")) (only_word (codes "set-logic")) (lex a.0.after) _ stop a.2 in
      let c = step_inv (is_word (codes "QF_BV")) (name (codes "QF_BV")) (only_word (codes "QF_BV")) (lex b.0.after) _ stop b.2 in
      let d = step_inv is_close close_paren only_close (lex c.0.after) _ stop c.2 in
      (a.0 ∷ b.0 ∷ c.0 ∷ d.0 ∷ [], (a.1, (b.1, (c.1, (d.1, ok_same d.0.after stop d.2)))))

  sort_sound : (pos : ℕ) (k : ℕ × ℕ) → sort_at lex text pos ≡ Ok k
      → (width : List ℕ) × (spans : List Span) × Spells lex pos (sort_tokens width) spans k.1 × (k.0 ≡ value_of width)
  sort_sound pos k e =
      let a = step_inv is_open open_paren only_open (lex pos) _ k e in
      let b = step_inv (is_word (codes "_")) (name (codes "_")) (only_word (codes "_")) (lex a.0.after) _ k a.2 in
      let c = step_inv (is_word (codes "BitVec")) (name (codes "BitVec")) (only_word (codes "BitVec")) (lex b.0.after) _ k b.2 in
      let n = pick_inv number_in (lex c.0.after) _ k c.2 in
      let v = only_numeral n.1 n.2 n.4 in
      let d = step_inv is_close close_paren only_close (lex n.0.after) _ k n.5 in
      let same = pair_same n.2 d.0.after (value_of v.0) k v.2 d.2 in
      let number = found_as (lex c.0.after) n.1 (numeral v.0) n.0 n.3 v.1 in
      (v.0, a.0 ∷ b.0 ∷ c.0 ∷ n.0 ∷ d.0 ∷ [], (a.1, (b.1, (c.1, (number, (d.1, same.1))))), same.0)

  parameters_sound : (form : Form) (pos stop : ℕ) → parameters_at lex text form pos ≡ Ok stop → (spans : List Span) × Spells lex pos (parameter_tokens form) spans stop
  parameters_sound Constant pos stop e = ([], ok_same pos stop e)
  parameters_sound Function pos stop e =
      let a = step_inv is_open open_paren only_open (lex pos) _ stop e in
      let b = step_inv is_close close_paren only_close (lex a.0.after) _ stop a.2 in
      (a.0 ∷ b.0 ∷ [], (a.1, (b.1, ok_same b.0.after stop b.2)))

  -- the rest of a declaration of `form`, after its word, as the tokens that spell it
  record Declares (room : ℕ) (form : Form) (names : List Name) (pos : ℕ) (d : Declaration) : Type 0 where
    title : List ℕ
    width : List ℕ
    others : List Span
    tokens : Spells lex pos (name title ∷ (parameter_tokens form ++ (sort_tokens width ++ (close_paren ∷ [])))) (d.name ∷ others) d.close.after
    reserved : among reserved_words (text d.name.place d.name.after) ≡ false
    taken : among (texts lex text names) (text d.name.place d.name.after) ≡ false
    small : length names < room
    width_is : d.width ≡ value_of width

  room_left : (room : ℕ) (names : List Name) → leb room (length (texts lex text names)) ≡ false → length names < room
  room_left room names e =
      let l : length (texts lex text names) ≡ length names = length-map names _ in
      omega (arith, leb-false room (length (texts lex text names)) e)

  declaration_sound : (room : ℕ) (form : Form) (names : List Name) (pos : ℕ) (d : Declaration) → declaration_at lex text room form names pos ≡ Ok d
      → Declares room form names pos d
  declaration_sound room form names pos d e =
      let s = accept_inv is_name (lex pos) _ d e in
      let u = only_text (λ x. true) s.1 s.3 in
      let t = tests_inv _ _ _ _ _ s.0 _ d s.4 in
      let p = then_inv (parameters_at lex text form s.0.after) _ d t.3 in
      let k = then_inv (sort_at lex text p.0) _ d p.2 in
      let c = step_inv is_close close_paren only_close (lex k.0.1) _ d k.2 in
      let ps = parameters_sound form s.0.after p.0 p.1 in
      let ks = sort_sound p.0 k.0 k.1 in
      let P : Declaration → Type 0 = λ d. Declares room form names pos d in
      subst P (ok_same (record { name = s.0; width = k.0.0; close = c.0 }) d c.2) (record {
        title = u.0;
        width = ks.0;
        others = ps.0 ++ (ks.1 ++ (c.0 ∷ []));
        tokens = (
          found_as (lex pos) s.1 (name u.0) s.0 s.2 u.1,
          spells_join lex (parameter_tokens form) (sort_tokens ks.0 ++ (close_paren ∷ [])) ps.0 (ks.1 ++ (c.0 ∷ [])) s.0.after p.0 c.0.after ps.1
              (spells_join lex (sort_tokens ks.0) (close_paren ∷ []) ks.1 (c.0 ∷ []) p.0 k.0.1 c.0.after ks.2 (c.1, refl)),
        );
        reserved = t.0;
        taken = t.1;
        small = room_left room names t.2;
        width_is = ks.3;
      })

  -- a command that declares a register, after which `next` came to x
  record Registers (room : ℕ) (next : ℕ → Declaration → Result Read Refusal) (read : Read) (pos : ℕ) (x : Read) : Type 0 where
    register : Register
    declaration : Declaration
    spans : List Span
    tokens : Spells lex pos (register_tokens register) spans declaration.close.after
    reserved : among reserved_words (text declaration.name.place declaration.name.after) ≡ false
    taken : among (texts lex text read.names) (text declaration.name.place declaration.name.after) ≡ false
    small : length read.names < room
    named : (at : ℕ) × (lex at ≡ found (name register.title) declaration.name.place declaration.name.after)
    name_is : declaration.name ≡ get_or spans 2 no_span
    width_is : declaration.width ≡ value_of register.width
    goes_on : next (get_or spans 0 no_span).place declaration ≡ Ok x

  -- the end of the script
  record Finishes (read : Read) (pos : ℕ) (x : Read) : Type 0 where
    spans : List Span
    stop : ℕ
    tokens : Spells lex pos epilogue_tokens spans stop
    read_is : x ≡ read

  command_sound : (room : ℕ) (next : ℕ → Declaration → Result Read Refusal) (read : Read) (pos : ℕ) (x : Read) → command_at lex text room next read pos ≡ Ok x
      → Finishes read pos x ⊎ Registers room next read pos x
  command_sound room next read pos x e =
      let o = step_inv is_open open_paren only_open (lex pos) _ x e in
      let k = pick_inv keyword_in (lex o.0.after) _ x o.2 in
      by o.0 k.0 k.2 o.1 (found_as (lex o.0.after) k.1 (name (keyword_word k.2)) k.0 k.3 (only_keyword k.1 k.2 k.4)) k.5
    where
      by : (o w : Span) (k : Keyword) → lex pos ≡ found open_paren o.place o.after → lex o.after ≡ found (name (keyword_word k)) w.place w.after
          → command_by lex text room next read o.place k w.after ≡ Ok x → Finishes read pos x ⊎ Registers room next read pos x
      by o w CheckSat h i e =
          let c = step_inv is_close close_paren only_close (lex w.after) _ x e in
          let d = step_inv is_end end only_end (lex c.0.after) _ x c.2 in
          inl (record { spans = o ∷ w ∷ c.0 ∷ d.0 ∷ []; stop = d.0.after; tokens = (h, (i, (c.1, (d.1, refl)))); read_is = sym (ok_same read x d.2) })
      by o w (Declare form) h i e =
          let a = then_inv (declaration_at lex text room form read.names w.after) (next o.place) x e in
          let d = declaration_sound room form read.names w.after a.0 a.1 in
          inr (record {
            register = record { form = form; title = d.title; width = d.width };
            declaration = a.0;
            spans = o ∷ w ∷ a.0.name ∷ d.others;
            tokens = (h, (i, d.tokens));
            reserved = d.reserved;
            taken = d.taken;
            small = d.small;
            named = (w.after, d.tokens.0);
            name_is = refl;
            width_is = d.width_is;
            goes_on = a.2;
          })

  module _ (faithful : Faithful lex text) (room : ℕ) where
    -- registers and the end, read after `read`
    record Commands (more : ℕ) (read : Read) (pos : ℕ) (x : Read) : Type 0 where
      script : Script
      spans : List Span
      stop : ℕ
      tokens : Spells lex pos (registers_tokens script ++ epilogue_tokens) spans stop
      free : Free (texts lex text read.names) script
      few_orders : length script ≤ more
      few_names : length script ≤ room - length read.names
      read_is : x ≡ after read script spans

    finished : (more : ℕ) (read : Read) (pos : ℕ) (x : Read) → Finishes read pos x → Commands more read pos x
    finished more read pos x f = record {
      script = [];
      spans = f.spans;
      stop = f.stop;
      tokens = f.tokens;
      free = tt;
      few_orders = omega arith;
      few_names = omega arith;
      read_is = f.read_is ∙ sym (after_none read f.spans);
    }

    -- one register more in front
    registered : (more : ℕ) (next : ℕ → Declaration → Result Read Refusal) (read : Read) (pos : ℕ) (x : Read) (w : Registers room next read pos x)
        → Commands more (declared read (get_or w.spans 0 no_span).place w.declaration) w.declaration.close.after x → Commands (suc more) read pos x
    registered more next read pos x w c =
        let r = w.register in
        let d = w.declaration in
        let then = declared read (get_or w.spans 0 no_span).place d in
        let title : text d.name.place d.name.after ≡ r.title = faithful w.named.0 r.title d.name.place d.name.after w.named.1 in
        let P : List Tok → Type 0 = λ ts. Spells lex pos ts (w.spans ++ c.spans) c.stop in
        let Q : List (List ℕ) → Type 0 = λ taken. Free taken c.script in
        let count : length then.names ≡ length read.names + 1 = length_push read.names _ in
        let few : length c.script ≤ room - length then.names = c.few_names in
        let less : length c.script ≤ more = c.few_orders in
        let left : length read.names < room = w.small in
        record {
          script = r ∷ c.script;
          spans = w.spans ++ c.spans;
          stop = c.stop;
          tokens = subst P (sym (append_assoc (register_tokens r) (registers_tokens c.script) epilogue_tokens))
              (spells_join lex (register_tokens r) (registers_tokens c.script ++ epilogue_tokens) w.spans c.spans pos d.close.after c.stop w.tokens c.tokens);
          free = (
            ap (among reserved_words) (sym title) ∙ w.reserved,
            ap (among (texts lex text read.names)) (sym title) ∙ w.taken,
            subst Q (texts_declared lex text read 0 d r.title title) c.free,
          );
          few_orders = omega arith;
          few_names = omega arith;
          read_is = c.read_is ∙ after_declared read d r c.script w.spans c.spans (spells_length lex (register_tokens r) w.spans pos d.close.after w.tokens) w.name_is w.width_is;
        }

    commands_sound : (more : ℕ) (read : Read) (pos : ℕ) (x : Read) → commands_at lex text room more read pos ≡ Ok x → Commands more read pos x
    commands_sound zero read pos x e =
        ⊎_elim (finished zero read pos x) (λ w. cc)
        (command_sound room (λ place d. Err (full d.close.place)) read pos x e)
    commands_sound (suc more) read pos x e =
        let next : ℕ → Declaration → Result Read Refusal = λ place d. commands_at lex text room more (declared read place d) d.close.after in
        ⊎_elim (finished (suc more) read pos x)
        (λ w. registered more next read pos x w (commands_sound more (declared read (get_or w.spans 0 no_span).place w.declaration) w.declaration.close.after x w.goes_on))
        (command_sound room next read pos x e)

    pub script_sound : (orders : ℕ) (x : Read) → script_at lex text orders room 0 ≡ Ok x → Scripted lex orders room x
    script_sound orders x e =
        let p = then_inv (prologue_at lex text 0) _ x e in
        let s = prologue_sound 0 p.0 p.1 in
        let c = commands_sound orders nothing_read p.0 x p.2 in
        let rest : drop 4 (s.0 ++ c.spans) ≡ c.spans = drop_at s.0 c.spans 4 (spells_length lex prologue_tokens s.0 0 p.0 s.1) in
        record {
          script = c.script;
          spans = s.0 ++ c.spans;
          stop = c.stop;
          tokens = spells_join lex prologue_tokens (registers_tokens c.script ++ epilogue_tokens) s.0 c.spans 0 p.0 c.stop s.1 c.tokens;
          free = c.free;
          few_orders = c.few_orders;
          few_names = omega (arith, c.few_names);
          read_is = c.read_is ∙ ap (after nothing_read c.script) (sym rest);
        }

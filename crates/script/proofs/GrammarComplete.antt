-- Every script of the grammar within the limits is read, and gives its orders and names.
use Rattle.std.proofs.Common.{◌≡◌, ℕ, zero, suc, ◌+◌, ◌-◌, ◌<◌, ◌≤◌, Bool, false, cond, ◌||◌, leb, List, [], ◌∷◌, ◌++◌, length, get_or, drop, Ok, Err, codes, Result, sym, refl, ap, ◌∙◌, subst, arith}
use Rattle.std.proofs.lemmas.List.{length-map, length_push, append_assoc, drop_at}
use Rattle.std.proofs.lemmas.Bool.{lt-leb}
use Rattle.refusal.specs.declared.Refusal.{Refusal}
use Rattle.script.specs.declared.token.Span.{Span}
use Rattle.script.specs.declared.command.Form.{Form}
use Rattle.script.specs.declared.command.Form.TheVariants.{Constant, Function}
use Rattle.script.specs.declared.command.Keyword.TheVariants.{CheckSat, Declare}
use Rattle.script.specs.declared.command.Declaration.{Declaration}
use Rattle.script.specs.Tokens.{Tok, close_paren, name, Lexing, found, value_of}
use Rattle.script.specs.Words.{reserved_words, among}
use Rattle.script.specs.Steps.{is_open, is_close, is_end, is_name, is_word, number_in, keyword_in}
use Rattle.script.specs.Reading.{Read, nothing_read, declared, texts, prologue_at, sort_at, parameters_at, command_at, commands_at, script_at}
use Rattle.script.specs.Grammar.{Register, Script, parameter_tokens, sort_tokens, register_tokens, registers_tokens, prologue_tokens, epilogue_tokens, script_tokens, Spells, Free, no_span, orders_of, names_of}
use Rattle.script.proofs.GrammarSteps.{Faithful, Along, along, along_length, cut, keyword_known, goes, steps, picks}
use Rattle.script.proofs.GrammarAfter.{after, after_none, after_declared, texts_declared}

module _ (lex : ℕ → Lexing) (text : ℕ → ℕ → List ℕ) where
  prologue_read : (spans : List Span) (pos stop : ℕ) → Along lex pos prologue_tokens spans stop → prologue_at lex text pos ≡ Ok stop
  prologue_read spans pos stop a =
      let b = a.4 in let c = b.4 in let d = c.4 in
      steps is_open (lex pos) _ _ a.0 _ a.3 refl
      (steps (is_word (codes "set-logic")) (lex a.0.after) _ _ b.0 _ b.3 refl
      (steps (is_word (codes "QF_BV")) (lex b.0.after) _ _ c.0 _ c.3 refl
      (steps is_close (lex c.0.after) _ _ d.0 _ d.3 refl
      (ap Ok d.4.1))))

  sort_read : (width : List ℕ) (spans : List Span) (pos stop : ℕ) → Along lex pos (sort_tokens width) spans stop → sort_at lex text pos ≡ Ok (value_of width, stop)
  sort_read width spans pos stop a =
      let b = a.4 in let c = b.4 in let k = c.4 in let d = k.4 in
      steps is_open (lex pos) _ _ a.0 _ a.3 refl
      (steps (is_word (codes "_")) (lex a.0.after) _ _ b.0 _ b.3 refl
      (steps (is_word (codes "BitVec")) (lex b.0.after) _ _ c.0 _ c.3 refl
      (picks number_in (lex c.0.after) _ _ k.0 (value_of width) _ k.3 refl
      (steps is_close (lex k.0.after) _ _ d.0 _ d.3 refl
      (ap (λ n. Ok (value_of width, n)) d.4.1)))))

  parameters_read : (form : Form) (spans : List Span) (pos stop : ℕ) → Along lex pos (parameter_tokens form) spans stop → parameters_at lex text form pos ≡ Ok stop
  parameters_read Constant spans pos stop a = ap Ok a.1
  parameters_read Function spans pos stop a =
      let b = a.4 in
      steps is_open (lex pos) _ _ a.0 _ a.3 refl
      (steps is_close (lex a.0.after) _ _ b.0 _ b.3 refl
      (ap Ok b.4.1))

  -- the three tests of a name
  granted : (a b c : Bool) (e f : Refusal) (s : Span) → a ≡ false → b ≡ false → c ≡ false → cond (a || b) (Err e) (cond c (Err f) (Ok s)) ≡ Ok s
  granted a b c e f s p q r = rw (p, q, r) refl

  -- a command that declares a register is read up to its end
  pub record Declares (room : ℕ) (next : ℕ → Declaration → Result Read Refusal) (read : Read) (r : Register) (spans : List Span) (pos stop : ℕ) : Type 0 where
    pub declaration : Declaration
    pub reads : command_at lex text room next read pos ≡ next (get_or spans 0 no_span).place declaration
    pub name_is : declaration.name ≡ get_or spans 2 no_span
    pub width_is : declaration.width ≡ value_of r.width
    pub stop_is : declaration.close.after ≡ stop
    pub named : (pos : ℕ) × (lex pos ≡ found (name r.title) declaration.name.place declaration.name.after)

  declares : (faithful : Faithful lex text)
      (room : ℕ) (next : ℕ → Declaration → Result Read Refusal) (read : Read) (r : Register) (spans : List Span) (pos stop : ℕ)
      → Along lex pos (register_tokens r) spans stop
      → among reserved_words r.title ≡ false → among (texts lex text read.names) r.title ≡ false → length read.names < room
      → Declares room next read r spans pos stop
  declares faithful room next read r spans pos stop a reserved taken small =
      let b = a.4 in let n = b.4 in
      let c = cut lex (parameter_tokens r.form) (sort_tokens r.width ++ (close_paren ∷ [])) n.1 n.0.after stop n.4 in
      let d = cut lex (sort_tokens r.width) (close_paren ∷ []) c.back c.mid stop c.behind in
      let e = d.behind in
      let t : text n.0.place n.0.after ≡ r.title = faithful b.0.after r.title n.0.place n.0.after n.3 in
      let l : length (texts lex text read.names) ≡ length read.names = length-map read.names _ in
      let all : spans ≡ a.0 ∷ b.0 ∷ n.0 ∷ n.1 = a.2 ∙ ap (λ x. a.0 ∷ x) (b.2 ∙ ap (λ x. b.0 ∷ x) n.2) in
      let full : leb room (length (texts lex text read.names)) ≡ false = lt-leb room (length (texts lex text read.names)) (omega arith) in
      let out : Declaration = record { name = n.0; width = value_of r.width; close = e.0 } in
      record {
        declaration = out;
        reads =
            steps is_open (lex pos) _ _ a.0 _ a.3 refl
            (picks keyword_in (lex a.0.after) _ _ b.0 (Declare r.form) _ b.3 (keyword_known (Declare r.form))
            (goes _ (next a.0.place) out _
            (steps is_name (lex b.0.after) _ _ n.0 _ n.3 refl
            (goes _ _ n.0 _ (granted _ _ _ _ _ n.0 (ap (among reserved_words) t ∙ reserved) (ap (among (texts lex text read.names)) t ∙ taken) full)
            (goes _ _ c.mid _ (parameters_read r.form c.front n.0.after c.mid c.before)
            (goes _ _ (value_of r.width, d.mid) _ (sort_read r.width d.front c.mid d.mid d.before)
            (steps is_close (lex d.mid) _ _ e.0 _ e.3 refl refl)))))
            (ap (λ x. next (get_or x 0 no_span).place out) (sym all))));
        name_is = ap (λ x. get_or x 2 no_span) (sym all);
        width_is = refl;
        stop_is = e.4.1;
        named = (b.0.after, n.3);
      }

  finish_read : (room : ℕ) (next : ℕ → Declaration → Result Read Refusal) (read : Read) (spans : List Span) (pos stop : ℕ)
      → Along lex pos epilogue_tokens spans stop → command_at lex text room next read pos ≡ Ok read
  finish_read room next read spans pos stop a =
      let b = a.4 in let c = b.4 in let d = c.4 in
      steps is_open (lex pos) _ _ a.0 _ a.3 refl
      (picks keyword_in (lex a.0.after) _ _ b.0 CheckSat _ b.3 refl
      (steps is_close (lex b.0.after) _ _ c.0 _ c.3 refl
      (steps is_end (lex c.0.after) _ _ d.0 _ d.3 refl refl)))

  module _ (faithful : Faithful lex text) (room : ℕ) where
    -- the registers and the end, after what has been read
    commands_read : (rs : Script) (more : ℕ) (read : Read) (spans : List Span) (pos stop : ℕ) → Along lex pos (registers_tokens rs ++ epilogue_tokens) spans stop
        → Free (texts lex text read.names) rs → length rs ≤ more → length rs ≤ room - length read.names
        → commands_at lex text room more read pos ≡ Ok (after read rs spans)
    commands_read [] zero read spans pos stop a f o n = finish_read room _ read spans pos stop a ∙ ap Ok (sym (after_none read spans))
    commands_read [] (suc more) read spans pos stop a f o n = finish_read room _ read spans pos stop a ∙ ap Ok (sym (after_none read spans))
    commands_read (r ∷ rs) zero read spans pos stop a f o n = absurd (omega arith)
    commands_read (r ∷ rs) (suc more) read spans pos stop a f o n =
        let P : List Tok → Type 0 = λ ts. Along lex pos ts spans stop in
        let c = cut lex (register_tokens r) (registers_tokens rs ++ epilogue_tokens) spans pos stop
        (subst P (append_assoc (register_tokens r) (registers_tokens rs) epilogue_tokens) a) in
        let next : ℕ → Declaration → Result Read Refusal = λ place d. commands_at lex text room more (declared read place d) d.close.after in
        let s = declares faithful room next read r c.front pos c.mid c.before f.0 f.1 (omega arith) in
        let d = s.declaration in
        let then = declared read (get_or c.front 0 no_span).place d in
        let Q : List (List ℕ) → Type 0 = λ taken. Free taken rs in
        let R : ℕ → Type 0 = λ k. Along lex k (registers_tokens rs ++ epilogue_tokens) c.back stop in
        let title : text d.name.place d.name.after ≡ r.title = faithful s.named.0 r.title d.name.place d.name.after s.named.1 in
        let count : length then.names ≡ length read.names + 1 = length_push read.names _ in
        s.reads
        ∙ (commands_read rs more then c.back d.close.after stop (subst R (sym s.stop_is) c.behind)
        (subst Q (sym (texts_declared lex text read 0 d r.title title)) f.2) (omega arith) (omega arith)
        ∙ ap Ok (after_declared read d r rs c.front c.back (along_length lex (register_tokens r) c.front pos c.mid c.before) s.name_is s.width_is
        ∙ ap (after read (r ∷ rs)) (sym c.whole)))

    pub script_read : (orders : ℕ) (script : Script) (spans : List Span) (stop : ℕ) → Spells lex 0 (script_tokens script) spans stop → Free [] script
        → length script ≤ orders → length script ≤ room
        → script_at lex text orders room 0 ≡ Ok (record { orders = orders_of script (drop 4 spans); names = names_of 0 script (drop 4 spans) })
    script_read orders script spans stop h f o n =
        let c = cut lex prologue_tokens (registers_tokens script ++ epilogue_tokens) spans 0 stop (along lex (script_tokens script) spans 0 stop h) in
        let rest : drop 4 spans ≡ c.back = ap (drop 4) c.whole ∙ drop_at c.front c.back 4 (along_length lex prologue_tokens c.front 0 c.mid c.before) in
        goes _ _ c.mid _ (prologue_read c.front 0 c.mid c.before)
        (commands_read script orders nothing_read c.back c.mid stop c.behind f o (omega arith) ∙ ap (λ l. Ok (after nothing_read script l)) (sym rest))

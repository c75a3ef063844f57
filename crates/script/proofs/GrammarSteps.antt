-- Spellings cut and joined, and what each step of the reader wants and gives.
use Rattle.std.proofs.Common.{◌≡◌, ℕ, suc, Bool, true, false, cond, List, [], ◌∷◌, ◌++◌, length, Some, None, Ok, Err, codes, Option, Result, sym, refl, ap, ◌∙◌, subst, arith}
use Rattle.std.specs.Str.{bytes_eq}
use Rattle.std.proofs.lemmas.Slice.Eq.{bytes_eq-Decides}
use Rattle.refusal.specs.declared.Refusal.{Refusal}
use Rattle.script.specs.declared.token.Span.{Span}
use Rattle.script.specs.declared.command.Form.TheVariants.{Constant, Function}
use Rattle.script.specs.declared.command.Keyword.{Keyword}
use Rattle.script.specs.declared.command.Keyword.TheVariants.{CheckSat, Declare}
use Rattle.script.specs.Tokens.{Tok, open_paren, close_paren, name, numeral, binary, hex, end, Lexing, found, refused, off_grammar, value_of}
use Rattle.script.specs.Steps.{is_open, is_close, is_end, name_in, number_in, text_is, is_word, accept, given, pick, keyword_of, keyword_from, keyword_in, and_then}
use Rattle.script.specs.Grammar.{form_word, Spells}

-- the text between the two places of a name is that name
abbrev pub Faithful : (ℕ → Lexing) → (ℕ → ℕ → List ℕ) → Type 0
Faithful lex text = (pos : ℕ) (t : List ℕ) (p a : ℕ) → lex pos ≡ found (name t) p a → text p a ≡ t

module _ (lex : ℕ → Lexing) where
  pub spells_join : (xs ys : List Tok) (ps qs : List Span) (pos mid stop : ℕ) → Spells lex pos xs ps mid → Spells lex mid ys qs stop
      → Spells lex pos (xs ++ ys) (ps ++ qs) stop
  spells_join [] ys [] qs pos mid stop e s = let P : ℕ → Type 0 = λ k. Spells lex k ys qs stop in subst P (sym e) s
  spells_join [] ys (p ∷ ps) qs pos mid stop h s = absurd h
  spells_join (x ∷ xs) ys [] qs pos mid stop h s = absurd h
  spells_join (x ∷ xs) ys (p ∷ ps) qs pos mid stop h s = (h.0, spells_join xs ys ps qs p.after mid stop h.1 s)

  pub spells_length : (xs : List Tok) (ps : List Span) (pos stop : ℕ) → Spells lex pos xs ps stop → length ps ≡ length xs
  spells_length [] [] pos stop h = refl
  spells_length [] (p ∷ ps) pos stop h = absurd h
  spells_length (x ∷ xs) [] pos stop h = absurd h
  spells_length (x ∷ xs) (p ∷ ps) pos stop h = let e = spells_length xs ps p.after stop h.1 in omega arith

  -- the same as a spelling, with the spans taken apart as the tokens are
  abbrev pub Along : ℕ → List Tok → List Span → ℕ → Type 0
  Along pos [] spans stop = (spans ≡ []) × (pos ≡ stop)
  Along pos (t ∷ ts) spans stop =
      (s : Span) × (ss : List Span) × (spans ≡ s ∷ ss) × (lex pos ≡ found t s.place s.after) × Along s.after ts ss stop

  pub along : (xs : List Tok) (ps : List Span) (pos stop : ℕ) → Spells lex pos xs ps stop → Along pos xs ps stop
  along [] [] pos stop h = (refl, h)
  along [] (p ∷ ps) pos stop h = absurd h
  along (x ∷ xs) [] pos stop h = absurd h
  along (x ∷ xs) (p ∷ ps) pos stop h = (p, ps, refl, h.0, along xs ps p.after stop h.1)

  pub along_length : (xs : List Tok) (ps : List Span) (pos stop : ℕ) → Along pos xs ps stop → length ps ≡ length xs
  along_length [] ps pos stop h = ap length h.0
  along_length (x ∷ xs) ps pos stop h = ap length h.2 ∙ ap (λ n. suc n) (along_length xs h.1 h.0.after stop h.4)

  -- xs and then ys, cut between them
  pub record Cut (xs ys : List Tok) (spans : List Span) (pos stop : ℕ) : Type 0 where
    pub front : List Span
    pub back : List Span
    pub mid : ℕ
    pub whole : spans ≡ front ++ back
    pub before : Along pos xs front mid
    pub behind : Along mid ys back stop

  pub cut : (xs ys : List Tok) (spans : List Span) (pos stop : ℕ) → Along pos (xs ++ ys) spans stop → Cut xs ys spans pos stop
  cut [] ys spans pos stop h = record { front = []; back = spans; mid = pos; whole = refl; before = (refl, refl); behind = h }
  cut (x ∷ xs) ys spans pos stop h =
      let c = cut xs ys h.1 h.0.after stop h.4 in
      record { front = h.0 ∷ c.front; back = c.back; mid = c.mid; whole = h.2 ∙ ap (λ l. h.0 ∷ l) c.whole; before = (h.0, c.front, refl, h.3, c.before); behind = c.behind }

-- which tokens the tests pass
pub only_open : (t : Tok) → is_open t ≡ true → t ≡ open_paren
only_open open_paren e = refl
only_open close_paren e = cc
only_open (name t) e = cc
only_open (numeral t) e = cc
only_open (binary t) e = cc
only_open (hex t) e = cc
only_open end e = cc

pub only_close : (t : Tok) → is_close t ≡ true → t ≡ close_paren
only_close open_paren e = cc
only_close close_paren e = refl
only_close (name t) e = cc
only_close (numeral t) e = cc
only_close (binary t) e = cc
only_close (hex t) e = cc
only_close end e = cc

pub only_end : (t : Tok) → is_end t ≡ true → t ≡ end
only_end open_paren e = cc
only_end close_paren e = cc
only_end (name t) e = cc
only_end (numeral t) e = cc
only_end (binary t) e = cc
only_end (hex t) e = cc
only_end end e = refl

only_name : (t : Tok) (u : List ℕ) → name_in t ≡ Some u → t ≡ name u
only_name open_paren u e = cc
only_name close_paren u e = cc
only_name (name t) u e = cc
only_name (numeral t) u e = cc
only_name (binary t) u e = cc
only_name (hex t) u e = cc
only_name end u e = cc

pub only_numeral : (t : Tok) (n : ℕ) → number_in t ≡ Some n → (ds : List ℕ) × (t ≡ numeral ds) × (n ≡ value_of ds)
only_numeral open_paren n e = cc
only_numeral close_paren n e = cc
only_numeral (name t) n e = cc
only_numeral (numeral t) n e = (t, refl, cc)
only_numeral (binary t) n e = cc
only_numeral (hex t) n e = cc
only_numeral end n e = cc

-- a token whose text passes a test
pub only_text : (test : List ℕ → Bool) (t : Tok) → text_is test (name_in t) ≡ true → (u : List ℕ) × (t ≡ name u) × (test u ≡ true)
only_text test t e = by (name_in t) refl e
  where
    by : (o : Option (List ℕ)) → name_in t ≡ o → text_is test o ≡ true → (u : List ℕ) × (t ≡ name u) × (test u ≡ true)
    by None i e = cc
    by (Some u) i e = (u, only_name t u i, e)

pub only_word : (word : List ℕ) (t : Tok) → is_word word t ≡ true → t ≡ name word
only_word word t e =
    let w = only_text (λ x. bytes_eq x word) t e in w.1 ∙ ap name ((bytes_eq-Decides w.0 word).0 w.2)

-- the word that asks for a command
abbrev pub keyword_word : Keyword → List ℕ
keyword_word CheckSat = codes "check-sat"
keyword_word (Declare form) = form_word form

-- one test of a chain that looks a word up
looked : (u : List ℕ) (this k : Keyword) (rest : Option Keyword) → (rest ≡ Some k → u ≡ keyword_word k)
    → cond (bytes_eq u (keyword_word this)) (Some this) rest ≡ Some k → u ≡ keyword_word k
looked u this k rest other e = by (bytes_eq u (keyword_word this)) refl e
  where
    by : (b : Bool) → bytes_eq u (keyword_word this) ≡ b → cond b (Some this) rest ≡ Some k → u ≡ keyword_word k
    by true same e = let i : this ≡ k = cc in (bytes_eq-Decides u (keyword_word this)).0 same ∙ ap keyword_word i
    by false same e = other e

keyword_word_lem : (u : List ℕ) (k : Keyword) → keyword_of u ≡ Some k → u ≡ keyword_word k
keyword_word_lem u k e =
    looked u CheckSat k _ (looked u (Declare Constant) k _ (looked u (Declare Function) k None (λ z. cc))) e

pub only_keyword : (t : Tok) (k : Keyword) → keyword_in t ≡ Some k → t ≡ name (keyword_word k)
only_keyword t k e = by (name_in t) refl e
  where
    by : (o : Option (List ℕ)) → name_in t ≡ o → keyword_from o ≡ Some k → t ≡ name (keyword_word k)
    by None i e = cc
    by (Some u) i e = only_name t u i ∙ ap name (keyword_word_lem u k e)

pub keyword_known : (k : Keyword) → keyword_in (name (keyword_word k)) ≡ Some k
keyword_known CheckSat = refl
keyword_known (Declare Constant) = refl
keyword_known (Declare Function) = refl

pub ok_same : {A : Type 0} (x y : A) → ◌≡◌ {A = Result A Refusal} (Ok x) (Ok y) → x ≡ y
ok_same x y e = cc

-- steps that were taken
pub then_inv : {A B : Type 0} (r : Result A Refusal) (go : A → Result B Refusal) (y : B) → and_then r go ≡ Ok y → (x : A) × (r ≡ Ok x) × (go x ≡ Ok y)
then_inv (Ok x) go y e = (x, refl, e)
then_inv (Err f) go y e = cc

pub accept_inv : {B : Type 0} (wanted : Tok → Bool) (l : Lexing) (go : Span → Result B Refusal) (y : B) → and_then (accept wanted l) go ≡ Ok y
    → (s : Span) × (t : Tok) × (l ≡ found t s.place s.after) × (wanted t ≡ true) × (go s ≡ Ok y)
accept_inv wanted (refused f) go y e = cc
accept_inv {B} wanted (found t p a) go y e = by (wanted t) refl e
  where
    by : (b : Bool) → wanted t ≡ b → and_then (cond b (Ok (record { place = p; after = a })) (Err (off_grammar p))) go ≡ Ok y
        → (s : Span) × (u : Tok) × (found t p a ≡ found u s.place s.after) × (wanted u ≡ true) × (go s ≡ Ok y)
    by true w e = (record { place = p; after = a }, t, refl, w, e)
    by false w e = cc

pub found_as : (l : Lexing) (t u : Tok) (s : Span) → l ≡ found t s.place s.after → t ≡ u → l ≡ found u s.place s.after
found_as l t u s e same = e ∙ ap (λ x. found x s.place s.after) same

-- where only one token passes
pub step_inv : {B : Type 0} (wanted : Tok → Bool) (t : Tok) → ((u : Tok) → wanted u ≡ true → u ≡ t) → (l : Lexing) (go : Span → Result B Refusal) (y : B)
    → and_then (accept wanted l) go ≡ Ok y → (s : Span) × (l ≡ found t s.place s.after) × (go s ≡ Ok y)
step_inv wanted t only l go y e =
    let w = accept_inv wanted l go y e in
    (w.0, found_as l w.1 t w.0 w.2 (only w.1 w.3), w.4)

pub pick_inv : {A B : Type 0} (wanted : Tok → Option A) (l : Lexing) (go : A × ℕ → Result B Refusal) (y : B) → and_then (pick wanted l) go ≡ Ok y
    → (s : Span) × (t : Tok) × (v : A) × (l ≡ found t s.place s.after) × (wanted t ≡ Some v) × (go (v, s.after) ≡ Ok y)
pick_inv wanted (refused f) go y e = cc
pick_inv {A} {B} wanted (found t p a) go y e = by (wanted t) refl e
  where
    by : (o : Option A) → wanted t ≡ o → and_then (given o p a) go ≡ Ok y
        → (s : Span) × (u : Tok) × (v : A) × (found t p a ≡ found u s.place s.after) × (wanted u ≡ Some v) × (go (v, s.after) ≡ Ok y)
    by None w e = cc
    by (Some v) w e = (record { place = p; after = a }, t, v, refl, w, e)

-- steps to take
pub goes : {A B : Type 0} (r : Result A Refusal) (go : A → Result B Refusal) (x : A) (out : Result B Refusal) → r ≡ Ok x → go x ≡ out → and_then r go ≡ out
goes r go x out e f = rw e f

pub steps : {B : Type 0} (wanted : Tok → Bool) (l : Lexing) (go : Span → Result B Refusal) (t : Tok) (s : Span) (out : Result B Refusal)
    → l ≡ found t s.place s.after → wanted t ≡ true → go s ≡ out → and_then (accept wanted l) go ≡ out
steps wanted l go t s out e w f = rw (e, w) f

pub picks : {A B : Type 0} (wanted : Tok → Option A) (l : Lexing) (go : A × ℕ → Result B Refusal) (t : Tok) (s : Span) (v : A) (out : Result B Refusal)
    → l ≡ found t s.place s.after → wanted t ≡ Some v → go (v, s.after) ≡ out → and_then (pick wanted l) go ≡ out
picks wanted l go t s v out e w f = rw (e, w) f

-- One turn of the reader's loop over commands.
use Rattle.std.proofs.Common.{◌≡◌, ℕ, zero, suc, ◌+◌, ◌-◌, ◌<◌, ◌≤◌, List, ◌++◌, length, take, drop, set, replicate, IsErrAnd, Ok, Err, Result, sym, refl, ap, ◌∙◌, arith, length-set}
use Rattle.std.proofs.lemmas.List.{take_more_set, length-take-le, take-append-drop, drop-set-lt, drop-drop, drop-replicate}
use Rattle.refusal.specs.declared.Refusal.{Refusal}
use Rattle.source.specs.declared.order.Act as acts
use Rattle.source.specs.declared.order.Order.{Order}
use Rattle.script.specs.declared.names.Name.{Name}
use Rattle.script.specs.declared.table.Table.{Table}
use Rattle.script.specs.declared.token.Span.{Span}
use Rattle.script.specs.declared.command.Form.{Form}
use Rattle.script.specs.declared.command.Keyword.{Keyword}
use Rattle.script.specs.declared.command.Keyword.TheVariants.{CheckSat, Declare}
use Rattle.script.specs.declared.command.Declaration.{Declaration}
use Rattle.script.specs.declared.steps.Reader.{Reader}
use Rattle.script.specs.Tokens.{Lexing, token_at}
use Rattle.script.specs.Steps.{is_open, is_close, is_end, keyword_in, accept, pick, and_then, passed}
use Rattle.script.specs.Reading.{Read, declared, full, declaration_at, command_by, command_at, commands_at, text_in, padded, blank_order, blank_name, answer_of}
use Rattle.script.specs.Filled.{room_of, Filled, Same}

-- two steps and then an answer
in_one : (r : Result Span Refusal) (go : Span → Result Span Refusal) (read : Read) → and_then r (λ c. and_then (go c) (λ e. Ok read)) ≡ and_then (and_then r go) (λ e. Ok read)
in_one (Ok x) go read = refl
in_one (Err e) go read = refl

-- what follows a declaration, with room for so many orders more
module _ (lex : ℕ → Lexing) (text : ℕ → ℕ → List ℕ) (room : ℕ) where
  abbrev afterwards : ℕ → Read → ℕ → Declaration → Result Read Refusal
  afterwards zero read place d = Err (full d.close.place)
  afterwards (suc m) read place d = commands_at lex text room m (declared read place d) d.close.after

  turn : (m : ℕ) (read : Read) (pos : ℕ) → commands_at lex text room m read pos ≡ command_at lex text room (afterwards m read) read pos
  turn zero read pos = refl
  turn (suc m) read pos = refl

-- with k orders of n, reading on from `pos` is the whole reading w
pub record Underway (lex : ℕ → Lexing) (text : ℕ → ℕ → List ℕ) (room n k : ℕ) (read : Read) (pos : ℕ) (w : Result Read Refusal) : Type 0 where
  pub rest : commands_at lex text room (n - k) read pos ≡ w

-- one turn: the reader r at its start, and a and b after the parenthesis and the word
module _ {room n k : ℕ} {read : Read} {w : Result Read Refusal} (r : Reader) (u : Underway (token_at r.script.now) (text_in r.script.now) room n k read r.pos w) where
  here : w ≡ command_at (token_at r.script.now) (text_in r.script.now) room (afterwards (token_at r.script.now) (text_in r.script.now) room (n - k) read) read r.pos
  here = sym u.rest ∙ turn (token_at r.script.now) (text_in r.script.now) room (n - k) read r.pos

  pub no_open : (e : Refusal) → Err e ≡ accept is_open (token_at r.script.now r.pos) → w ≡ Err e
  no_open e p = here ∙ rw (← p) refl

  module _ (o : Span) (opened : Ok o ≡ accept is_open (token_at r.script.now r.pos)) (a : Reader) (to_a : a ≡ passed r (Ok o)) where
    pub no_word : (e : Refusal) → Err e ≡ pick keyword_in (token_at a.script.now a.pos) → w ≡ Err e
    no_word e q = let p = rw to_a at q in here ∙ rw (← opened, ← p) refl

    module _ (word : Keyword) (b : Reader) (worded : Ok (word, b.pos) ≡ pick keyword_in (token_at a.script.now a.pos)) (to_b : b.script ≡ a.script) where
      same : b.script ≡ r.script
      same = to_b ∙ ap (λ x. x.script) to_a

      by_word : w ≡ command_by (token_at r.script.now) (text_in r.script.now) room (afterwards (token_at r.script.now) (text_in r.script.now) room (n - k) read) read o.place word b.pos
      by_word = let p = rw to_a at worded in here ∙ rw (← opened, ← p) refl

      module _ (is : word ≡ CheckSat) where
        finishes : w ≡ and_then (and_then (accept is_close (token_at r.script.now b.pos)) (λ c. accept is_end (token_at r.script.now c.after))) (λ e. Ok read)
        finishes = by_word ∙ rw is (in_one (accept is_close (token_at r.script.now b.pos)) (λ c. accept is_end (token_at r.script.now c.after)) read)

        pub no_finish : (e : Refusal) → Err e ≡ and_then (accept is_close (token_at b.script.now b.pos)) (λ c. accept is_end (token_at b.script.now c.after)) → w ≡ Err e
        no_finish e q = let p = rw same at q in finishes ∙ rw (← p) refl

        pub finished : (s : Span) → Ok s ≡ and_then (accept is_close (token_at b.script.now b.pos)) (λ c. accept is_end (token_at b.script.now c.after)) → w ≡ Ok read
        finished s q = let p = rw same at q in finishes ∙ rw (← p) refl

      module _ (form : Form) (is : word ≡ Declare form) where
        declares : w ≡ and_then (declaration_at (token_at r.script.now) (text_in r.script.now) room form read.names b.pos) (afterwards (token_at r.script.now) (text_in r.script.now) room (n - k) read o.place)
        declares = by_word ∙ rw is refl

        pub no_register : (e : Refusal) → Err e ≡ declaration_at (token_at b.script.now) (text_in b.script.now) room form read.names b.pos → w ≡ Err e
        no_register e q = let p = rw same at q in declares ∙ rw (← p) refl

        module _ (d : Declaration) (q : Ok d ≡ declaration_at (token_at b.script.now) (text_in b.script.now) room form read.names b.pos) where
          pub no_order : n ≤ k → w ≡ Err (full d.close.place)
          no_order h = let p = rw same at q in let e : n - k ≡ 0 = omega arith in declares ∙ rw (← p, e) refl

          pub goes_on : (c : Reader) → c ≡ record b { pos = d.close.after } → (more : Read) → k < n → declared read o.place d ≡ more
              → Underway (token_at c.script.now) (text_in c.script.now) room n (k + 1) more c.pos w
          goes_on c to_c more h m =
              let p = rw same at q in
              let e : n - k ≡ suc (n - (k + 1)) = omega arith in
              rw (to_c, same) (record { rest = sym (declares ∙ rw (← p, e, m) refl) })

-- what is read, where it stands in the tables
abbrev pub read_in : List Order → ℕ → List Name → ℕ → Read
read_in orders count names named = record { orders = take count orders; names = take named names }

-- a register enters both tables
abbrev pub order_of : ℕ → Declaration → Order
order_of place d = record { place = place; act = acts.TheVariants.Declare d.width }

abbrev pub name_of : ℕ → Declaration → Name
name_of row d = record { place = d.name.place; after = d.name.after; row = row }

pub entered : (orders : List Order) (count : ℕ) (names : List Name) (named place : ℕ) (d : Declaration) → count < length orders → named < length names
    → declared (read_in orders count names named) place d ≡ read_in (set orders count (order_of place d)) (count + 1) (set names named (name_of count d)) (named + 1)
entered orders count names named place d h l =
    let c : count ≤ length orders = omega arith in
    rw (take_more_set orders count (order_of place d) h, take_more_set names named (name_of count d) l, length-take-le count orders c) refl

-- a register was pushed to both tables
pub pushed : (o o' : Table Order) (n n' : Table Name) (place : ℕ) (d : Declaration) → o.used < room_of o → n.used < room_of n
    → o'.rows.now ≡ set o.rows.now o.used (order_of place d) → o'.used ≡ o.used + 1 → n'.rows.now ≡ set n.rows.now n.used (name_of o.used d) → n'.used ≡ n.used + 1
    → declared (read_in o.rows.now o.used n.rows.now n.used) place d ≡ read_in o'.rows.now o'.used n'.rows.now n'.used
pushed o o' n n' place d h l a b x y =
    rw (a, b, x, y) (entered o.rows.now o.used n.rows.now n.used place d (omega arith) (omega arith))

-- a table that is blank from an index on
module _ {X : Type 0} (xs : List X) (i : ℕ) (blank : X) (rest : drop i xs ≡ replicate (length xs - i) blank) where
  pub still_blank : (ys : List X) (j : ℕ) (x : X) → i < length xs → ys ≡ set xs i x → j ≡ i + 1 → drop j ys ≡ replicate (length ys - j) blank
  still_blank ys j x h e f =
      let n : length xs - i - 1 ≡ length (set xs i x) - (i + 1) = simp length-set (omega arith) in
      rw (e, f) (drop-set-lt (i + 1) xs i x (omega arith) ∙ (sym (drop-drop 1 i xs) ∙ (ap (drop 1) rest ∙ (drop-replicate 1 (length xs - i) blank ∙ ap (λ m. replicate m blank) n))))

  pub is_padded : i ≤ length xs → xs ≡ padded (length xs) blank (take i xs)
  is_padded h =
      let n : length xs - i ≡ length xs - length (take i xs) = rw (length-take-le i xs h) refl in
      sym (take-append-drop i xs) ∙ ap (λ ys. take i xs ++ ys) (rest ∙ ap (λ m. replicate m blank) n)

-- what the loop leaves
pub left_at : (orders : Table Order) (names : Table Name) (w : Result Read Refusal) → w ≡ Ok (read_in orders.rows.now orders.used names.rows.now names.used)
    → orders.used ≤ length orders.rows.now → names.used ≤ length names.rows.now
    → drop orders.used orders.rows.now ≡ replicate (length orders.rows.now - orders.used) blank_order → drop names.used names.rows.now ≡ replicate (length names.rows.now - names.used) blank_name
    → (Ok orders.used ≡ answer_of w) × Filled w orders.rows.now names.rows.now
left_at orders names w e h l b n =
    rw e (ap Ok (sym (length-take-le orders.used orders.rows.now h)), (is_padded orders.rows.now orders.used blank_order b h, is_padded names.rows.now names.used blank_name n l))

-- what a refused step leaves
pub refuses : (w : Result Read Refusal) (r : Result ℕ Refusal) (e : Refusal) (orders : List Order) (names : List Name) → IsErrAnd r (λ x. x ≡ e) → w ≡ Err e → (r ≡ answer_of w) × Filled w orders names
refuses w (Ok x) e orders names b h = absurd b
refuses w (Err x) e orders names b h = rw h (ap Err b, tt)

-- a push keeps the table
pub same_push : {T : Type 0} (before at after : Table T) (x : T) → Same before at → after.rows.now ≡ set at.rows.now at.used x → after.limit ≡ at.limit → after.rows.ghost_name ≡ at.rows.ghost_name → Same before after
same_push before at after x s r l g = record { lent = g ∙ s.lent; limit = l ∙ s.limit; long = ap length r ∙ (length-set at.rows.now at.used x ∙ s.long) }

pub room_push : {T : Type 0} (at after : Table T) (x : T) → after.rows.now ≡ set at.rows.now at.used x → after.limit ≡ at.limit → room_of after ≡ room_of at
room_push at after x r l = rw (r, l, length-set) refl

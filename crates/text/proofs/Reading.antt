-- A target from its text.
use Rattle.std.proofs.Common.{◌≡◌, ℕ, Bool, true, false, cond, eqb, List, [], ◌∷◌, ◌++◌, map, length, get_or, sym, refl, ap, ◌∙◌, append_assoc, append-nil}
use Rattle.std.specs.List.{All, concat, range_with_len}
use Rattle.std.proofs.lemmas.List.{map-append, length-map, get_or-map}
use Rattle.std.proofs.lemmas.List.Elements.{All-nil, All-cons, All-head, All-tail, All-append}
use Rattle.std.proofs.lemmas.List.FromFn.{fill_by_all}
use Rattle.std.proofs.lemmas.Bool.{both_ways}
use Rattle.target.specs.declared.row.Row.{Row}
use Rattle.target.specs.declared.row.Row.TheVariants.{Unknown}
use Rattle.text.specs.Lines.{lines_of, row_line, row_lines, assert_line, check_line}
use Rattle.text.specs.Law.{text_of, StatesNoOther}
use Rattle.text.proofs.Scan.{ends, none}
use Rattle.text.proofs.Decode.{Item, row, asserted, other, decode, read, decode_assert, ends_assert}

-- the lines of a text
abbrev cut : List ℕ → List ℕ → List (List ℕ)
cut acc [] = []
cut acc (b ∷ bs) = cond (eqb b 10) ((acc ++ (b ∷ [])) ∷ cut [] bs) (cut (acc ++ (b ∷ [])) bs)

at_end : (acc : List ℕ) (b : ℕ) (bs rest : List ℕ) → none bs ≡ true → ◌≡◌ {A = List (List ℕ)} ((acc ++ (b ∷ [])) ∷ cut [] (bs ++ rest)) ((acc ++ (b ∷ bs)) ∷ cut [] rest)
at_end acc b [] rest h = refl
at_end acc b (x ∷ bs) rest h = absurd (both_ways false refl h)

cut_case : (acc : List ℕ) (b : ℕ) (bs rest : List ℕ) (t : Bool) → cond t (none bs) (ends bs) ≡ true
    → (ends bs ≡ true → cut (acc ++ (b ∷ [])) (bs ++ rest) ≡ ((acc ++ (b ∷ [])) ++ bs) ∷ cut [] rest)
    → cond t ((acc ++ (b ∷ [])) ∷ cut [] (bs ++ rest)) (cut (acc ++ (b ∷ [])) (bs ++ rest)) ≡ (acc ++ (b ∷ bs)) ∷ cut [] rest
cut_case acc b bs rest true h ih = at_end acc b bs rest h
cut_case acc b bs rest false h ih = ih h ∙ ap (λ (l : List ℕ). l ∷ cut [] rest) (append_assoc acc (b ∷ []) bs)

cut_line : (acc l rest : List ℕ) → ends l ≡ true → cut acc (l ++ rest) ≡ (acc ++ l) ∷ cut [] rest
cut_line acc [] rest h = absurd (both_ways false refl h)
cut_line acc (b ∷ bs) rest h = cut_case acc b bs rest (eqb b 10) h (cut_line (acc ++ (b ∷ [])) bs rest)

abbrev Ends : List ℕ → Type 0
Ends l = ends l ≡ true

cut_all : (ls : List (List ℕ)) → All Ends ls → cut [] (concat ls) ≡ ls
cut_all [] u = refl
cut_all (l ∷ ls) u = cut_line [] l (concat ls) (All-head Ends l ls u) ∙ ap (λ (t : List (List ℕ)). l ∷ t) (cut_all ls (All-tail Ends l ls u))

ended_map : (f : ℕ → List ℕ) → ((i : ℕ) → Ends (f i)) → (is : List ℕ) → All Ends (map f is)
ended_map f h [] = All-nil Ends
ended_map f h (i ∷ is) = All-cons Ends (f i) (map f is) (h i) (ended_map f h is)

ended : (rows : List Row) (rs : List ℕ) → All Ends (lines_of rows rs)
unfolding lines_of
ended rows rs =
    All-cons Ends _ _ refl
    (All-append Ends (row_lines rows) _ (ended_map (row_line rows) (λ i. (read i (get_or rows i Unknown)).ended) _)
    (All-append Ends (map assert_line rs) _ (ended_map assert_line ends_assert rs) (All-cons Ends check_line [] refl (All-nil Ends))))

-- what the lines state
abbrev rows_in : List Item → List Row
rows_in [] = []
rows_in (row r ∷ is) = r ∷ rows_in is
rows_in (asserted r ∷ is) = rows_in is
rows_in (other ∷ is) = rows_in is

abbrev asserted_in : List Item → List ℕ
asserted_in [] = []
asserted_in (row r ∷ is) = asserted_in is
asserted_in (asserted r ∷ is) = r ∷ asserted_in is
asserted_in (other ∷ is) = asserted_in is

rows_rows : (rows : List Row) (rest : List Item) → rows_in (map row rows ++ rest) ≡ rows ++ rows_in rest
rows_rows [] rest = refl
rows_rows (r ∷ rows) rest = ap (λ (t : List Row). r ∷ t) (rows_rows rows rest)

rows_asserted : (rs : List ℕ) (rest : List Item) → rows_in (map asserted rs ++ rest) ≡ rows_in rest
rows_asserted [] rest = refl
rows_asserted (r ∷ rs) rest = rows_asserted rs rest

asserted_rows : (rows : List Row) (rest : List Item) → asserted_in (map row rows ++ rest) ≡ asserted_in rest
asserted_rows [] rest = refl
asserted_rows (r ∷ rows) rest = asserted_rows rows rest

asserted_asserted : (rs : List ℕ) (rest : List Item) → asserted_in (map asserted rs ++ rest) ≡ rs ++ asserted_in rest
asserted_asserted [] rest = refl
asserted_asserted (r ∷ rs) rest = ap (λ (t : List ℕ). r ∷ t) (asserted_asserted rs rest)

decode_rows : (rows : List Row) (is : List ℕ) → map decode (map (row_line rows) is) ≡ map (λ i. row (get_or rows i Unknown)) is
decode_rows rows [] = refl
decode_rows rows (i ∷ is) =
    ap (λ (x : Item). x ∷ map decode (map (row_line rows) is)) (read i (get_or rows i Unknown)).back
    ∙ ap (λ (t : List Item). row (get_or rows i Unknown) ∷ t) (decode_rows rows is)

decode_all : (rows : List Row) → map decode (row_lines rows) ≡ map row rows
decode_all rows =
    decode_rows rows (range_with_len 0 (length rows))
    ∙ sym (fill_by_all (λ i. row (get_or rows i Unknown)) (map row rows) (length rows) other (length-map rows row) (λ k h. get_or-map row rows k Unknown other h))

decode_asserted : (rs : List ℕ) → map decode (map assert_line rs) ≡ map asserted rs
decode_asserted [] = refl
decode_asserted (r ∷ rs) =
    ap (λ (x : Item). x ∷ map decode (map assert_line rs)) (decode_assert r) ∙ ap (λ (t : List Item). asserted r ∷ t) (decode_asserted rs)

abbrev items : List Row → List ℕ → List Item
items rows rs = other ∷ (map row rows ++ (map asserted rs ++ (other ∷ [])))

decoded : (rows : List Row) (rs : List ℕ) → map decode (lines_of rows rs) ≡ items rows rs
unfolding lines_of decode
decoded rows rs =
    ap (λ (t : List Item). other ∷ t)
    (map-append decode (row_lines rows) (map assert_line rs ++ (check_line ∷ []))
    ∙ ap (λ (t : List Item). t ++ map decode (map assert_line rs ++ (check_line ∷ []))) (decode_all rows)
    ∙ ap (λ (t : List Item). map row rows ++ t) (map-append decode (map assert_line rs) (check_line ∷ []))
    ∙ ap (λ (t : List Item). map row rows ++ (t ++ (other ∷ []))) (decode_asserted rs))

pub read_rows : (rows : List Row) (rs : List ℕ) → rows_in (map decode (lines_of rows rs)) ≡ rows
read_rows rows rs =
    ap rows_in (decoded rows rs) ∙ rows_rows rows (map asserted rs ++ (other ∷ []))
    ∙ ap (λ (t : List Row). rows ++ t) (rows_asserted rs (other ∷ [])) ∙ append-nil rows

pub read_asserted : (rows : List Row) (rs : List ℕ) → asserted_in (map decode (lines_of rows rs)) ≡ rs
read_asserted rows rs =
    ap asserted_in (decoded rows rs) ∙ asserted_rows rows (map asserted rs ++ (other ∷ []))
    ∙ asserted_asserted rs (other ∷ []) ∙ append-nil rs

same_lines : (rows others : List Row) (rs ts : List ℕ) → text_of rows rs ≡ text_of others ts → lines_of rows rs ≡ lines_of others ts
same_lines rows others rs ts e =
    sym (cut_all (lines_of rows rs) (ended rows rs)) ∙ ap (cut []) e ∙ cut_all (lines_of others ts) (ended others ts)

pub states_no_other : StatesNoOther
states_no_other rows rs others ts e =
    let lines : lines_of others ts ≡ lines_of rows rs = same_lines others rows ts rs e in (
      sym (read_rows others ts) ∙ ap (λ (t : List (List ℕ)). rows_in (map decode t)) lines ∙ read_rows rows rs,
      sym (read_asserted others ts) ∙ ap (λ (t : List (List ℕ)). asserted_in (map decode t)) lines ∙ read_asserted rows rs,
    )

-- From a reading to a translation.
use Rattle.std.proofs.Common.{◌≡◌, ℕ, ◌-◌, List, [], ◌∷◌, length, take, drop, replicate, Ok, Err, Result, sym, refl, ap, ◌∙◌, arith}
use Rattle.std.proofs.lemmas.List.{take_at}
use Rattle.refusal.specs.Causes.{told}
use Rattle.refusal.specs.declared.Cause.{Cause}
use Rattle.refusal.specs.declared.Refusal.{Refusal}
use Rattle.source.specs.declared.order.Order.{Order}
use Rattle.script.specs.Reading.{Read, answer_of, orders_left, blank_order, padded}
use Rattle.workbook.specs.Pages.{Pages, pages_at, nothing_used}
use Rattle.workbook.specs.Room.{long_enough}
use Rattle.workbook.specs.Declare.{Outcome, entered}
use Rattle.workbook.specs.Feed.{followed, entered_all, fed}
use Rattle.workbook.specs.declared.counts.Counts.{Counts}
use Rattle.workbook.specs.declared.tables.Tables.{Tables}
use Rattle.translate.specs.Translation.{entered_from}

-- a workbook that was begun
pub begun : {R : Type 0} (counts : Counts) (t : Tables R) → counts.sources ≡ 0 → counts.rows ≡ 0 → counts.assertions ≡ 0 → pages_at counts t ≡ pages_at nothing_used t
begun counts t s r a = rw (s, r, a) refl

-- a refused reading
pub read_refused : {R : Type 0} (whole : ℕ → R) (x : Result Read Refusal) (p : Pages R) (e : Refusal) → Err e ≡ answer_of x → (Err e, p) ≡ entered_from whole x p
read_refused whole (Ok read) p e h = absurd (cc)
read_refused {R} whole (Err f) p e h = let s : e ≡ f = cc in ap (λ (x : Refusal). (Err x, p)) s

-- the orders in use, of a table that begins with them
taken : (os xs : List Order) (n m : ℕ) → os ≡ padded n blank_order xs → m ≡ length xs → take (m - 0) (drop 0 os) ≡ xs
taken os xs n m e h = let z : m - 0 ≡ length xs = omega arith in rw (z, e) (take_at xs (replicate (n - length xs) blank_order) (length xs) refl)

-- a granted reading, whose orders were fed
pub read_fed : {R : Type 0} (whole : ℕ → R) (x : Result Read Refusal) (p q : Pages R) (n m : ℕ) (os : List Order) (r : Result ℕ Refusal)
    → Ok m ≡ answer_of x → os ≡ padded n blank_order (orders_left x) → (r, q) ≡ fed whole p (take (m - 0) (drop 0 os)) → (r, q) ≡ entered_from whole x p
read_fed whole (Err e) p q n m os r a t f = absurd (cc)
read_fed whole (Ok read) p q n m os r a t f =
    let h : m ≡ length read.orders = cc in
    f ∙ ap (λ (l : List Order). fed whole p l) (taken os read.orders n m t h)

-- a granted feed answers the source row count
followed_answer : {R : Type 0} (o : Outcome R) (rest : Pages R → Outcome R) (n : ℕ) (q : Pages R) → ((p : Pages R) → (Ok n, q) ≡ rest p → n ≡ q.source_count) → (Ok n, q) ≡ followed o rest → n ≡ q.source_count
followed_answer (Ok m, p) rest n q h e = h p e
followed_answer {R} (Err x, p) rest n q h e = let f = ap (λ (o : Outcome R). o.0) e in absurd (cc)

all_answer : {R : Type 0} (whole : ℕ → R) (os : List Order) (p q : Pages R) (n : ℕ) → (Ok n, q) ≡ entered_all whole os p → n ≡ q.source_count
all_answer {R} whole [] p q n e =
    let f = ap (λ (o : Outcome R). o.0) e in
    let g : q ≡ p = ap (λ (o : Outcome R). o.1) e in
    let h : n ≡ p.source_count = cc in
    h ∙ ap (λ (x : Pages R). x.source_count) (sym g)
all_answer whole (o ∷ os) p q n e = followed_answer (entered whole o.place p o.act) (entered_all whole os) n q (λ x. all_answer whole os x q n) e

pub fed_answer : {R : Type 0} (whole : ℕ → R) (os : List Order) (p q : Pages R) (n : ℕ) → (Ok n, q) ≡ fed whole p os → n ≡ q.source_count
fed_answer {R} whole os p q n e = by (long_enough p) refl e
  where
    by : (s : Result (Unit {0}) Cause) → long_enough p ≡ s → ◌≡◌ {A = Outcome R} (Ok n, q) (elim s [ Ok _ ↦ entered_all whole os p | Err cause ↦ (Err (told cause p.source_count), p) ]) → n ≡ q.source_count
    by (Ok _) h e = all_answer whole os p q n e
    by (Err cause) h e = let f = ap (λ (o : Outcome R). o.0) e in absurd (cc)

-- the same from a workbook that was begun
module _ {R : Type 0} (whole : ℕ → R) (x : Result Read Refusal) (t : Tables R) (counts : Counts) (zeros : (counts.sources ≡ 0) × (counts.rows ≡ 0) × (counts.assertions ≡ 0))
    (n m : ℕ) (os : List Order) (read : Ok m ≡ answer_of x) (table : os ≡ padded n blank_order (orders_left x)) where
  pub from_begun : (r : Result ℕ Refusal) (q : Pages R) → (r, q) ≡ fed whole (pages_at counts t) (take (m - 0) (drop 0 os)) → (r, q) ≡ entered_from whole x (pages_at nothing_used t)
  from_begun r q f =
      read_fed whole x (pages_at nothing_used t) q n m os r read table
      (f ∙ ap (λ (p : Pages R). fed whole p (take (m - 0) (drop 0 os))) (begun counts t zeros.0 zeros.1 zeros.2))

  -- granted, with the counts that the sealed workbook took over
  pub from_sealed : (sealed last : Counts) (t' : Tables R) (k : ℕ) → sealed ≡ last → (Ok k, pages_at last t') ≡ fed whole (pages_at counts t) (take (m - 0) (drop 0 os))
      → (Ok sealed.sources, pages_at sealed t') ≡ entered_from whole x (pages_at nothing_used t)
  from_sealed sealed last t' k e f =
      let s : sealed.sources ≡ k = ap (λ (c : Counts). c.sources) e ∙ sym (fed_answer whole (take (m - 0) (drop 0 os)) (pages_at counts t) (pages_at last t') k f) in
      ap (λ (i : ℕ). (Ok i, pages_at sealed t')) s ∙ ap (λ (c : Counts). (Ok k, pages_at c t')) e ∙ from_begun (Ok k) (pages_at last t') f

-- What was stated lasts: in every table with the same first rows it means the same. For callers of and-schemes.
use Rattle.std.proofs.Common.{◌≡◌, ℕ, ◌+◌, ◌<◌, ◌≤◌, List, length, get_or, take, sym, ap, ◌∙◌, arith}
use Rattle.std.proofs.lemmas.List.{get_or-take, take-take}
use Rattle.target.specs.declared.row.Row.{Row}
use Rattle.target.specs.declared.row.Row.TheVariants.{Unknown}
use Rattle.target.specs.Sorts.{sort_of}
use Rattle.target.specs.Values.{value_at}
use Rattle.target.specs.Meaning.{values}
use Rattle.target.specs.Soundness.{sort_at}
use Rattle.target.proofs.Values.{value_same}
use Rattle.target.proofs.Laying.{before_laid}
use Rattle.scheme.specs.declared.lemma.Lemma.{Lemma}
use Rattle.scheme.specs.Stated.{Adds, Means, Stated}

module _ (n : ℕ) (xs ys : List Row) (e : take n xs ≡ take n ys) where
  pub same_front : (m : ℕ) → m ≤ n → take m xs ≡ take m ys
  same_front m le = sym (take-take m n xs le) ∙ ap (take m) e ∙ take-take m n ys le

  pub same_sort : (p : ℕ) → p < n → sort_at xs p ≡ sort_at ys p
  same_sort p lt = ap sort_of (sym (get_or-take n xs p Unknown lt) ∙ ap (λ (t : List Row). get_or t p Unknown) e ∙ get_or-take n ys p Unknown lt)

  pub same_means : (l : Lemma) (answer : ℕ) → l.a < n → l.b < n → l.c < n → answer < n → Means xs l answer → Means ys l answer
  same_means l answer ha hb hc hr m reading numbers x y z hx hy hz ea eb ec =
      let at : (i : ℕ) → i < n → value_at (values reading numbers xs) i ≡ value_at (values reading numbers ys) i = value_same reading numbers n xs ys e in
      sym (at answer hr) ∙ m reading numbers x y z hx hy hz (at l.a ha ∙ ea) (at l.b hb ∙ eb) (at l.c hc ∙ ec)

-- the rows before are as they were
pub stated_kept : (size : ℕ) (adds : Adds) (before after : List Row) (count : ℕ) (l : Lemma) (answer : ℕ) → count + size ≤ length before →
    Stated size adds before after count l answer → take count after ≡ take count before
stated_kept size adds before after count l answer room s =
    ap (take count) s.table ∙ before_laid before count s.new (omega (arith, room, s.long))

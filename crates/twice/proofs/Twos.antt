-- What two ands in a row come to.
use Rattle.std.proofs.Common.{◌≡◌, ℕ, ◌+◌, ◌-◌, ◌*◌, ◌≤◌, List, [], ◌∷◌, ◌++◌, length, get_or, take, drop, Some, None, Option, sym, refl, ap, ◌∙◌, subst, arith, lit<, length-append}
use Rattle.refusal.specs.declared.Cause.{Cause}
use Rattle.std.proofs.lemmas.List.{get_or-take, length-take-le, take_at, take-take, drop-drop}
use Rattle.target.specs.declared.row.Sort.{Sort}
use Rattle.target.specs.declared.row.Sort.TheVariants as sort
use Rattle.target.specs.declared.row.Row.{Row}
use Rattle.target.specs.declared.row.Row.TheVariants.{Unknown, And}
use Rattle.target.specs.Sorts.{sort_of}
use Rattle.target.specs.Tables.{laid}
use Rattle.target.specs.Meaning.{row_value}
use Rattle.target.specs.Soundness.{RowSound, Takes, sort_at, Sound}
use Rattle.target.proofs.Laying.{length_laid, take_laid, drop_laid, before_laid}
use Rattle.target.proofs.Blocks.{Each, Stands, all_each, stands_after, sound_join, block_obeys}
use Rattle.scheme.specs.declared.lemma.Lemma.{Lemma}
use Rattle.scheme.specs.Refusing.{cause_of}
use Rattle.scheme.specs.Stated.{Adds, Means, Stated}
use Rattle.scheme.proofs.Fits.{Fit, fit, free}
use Rattle.scheme.proofs.Lasts.{same_front, same_sort, same_means, stated_kept}
use Rattle.twice.specs.Both.{next, both_cause, BothMean, Both}

module _ (size : ℕ) (adds : Adds) (before mid : List Row) (count : ℕ) (l : Lemma) (d e f : ℕ)
    (fit-one : Fit size before count l) (fit-two : Fit (2 * size + 1) before count (next l d e))
    (one : Stated size adds before mid count l f) where
  kept_one : take count mid ≡ take count before
  kept_one = stated_kept size adds before mid count l f fit-one.room one

  mid_length : length mid ≡ length before
  mid_length = ap length one.table ∙ length_laid before count one.new (omega (arith, fit-one.room, one.long))

  later : (p : ℕ) → Takes (sort_at before) count sort.Int p → Takes (sort_at mid) (count + size) sort.Int p
  later p h = (omega (arith, h.0), same_sort count mid before kept_one p h.0 ∙ h.1)

  -- the second is not refused
  pub second_fit : Fit size mid (count + size) (next l d e)
  second_fit = record {
    a_in = later l.c fit-two.a_in;
    b_in = later d fit-two.b_in;
    c_in = later e fit-two.c_in;
    least = fit-two.least;
    most = fit-two.most;
    room = omega (arith, mid_length, fit-two.room);
    limit = omega (arith, fit-two.limit);
  }

  module _ (after : List Row) (g answer : ℕ) (two : Stated size adds mid after (count + size) (next l d e) g) (last : answer ≡ count + 2 * size) where
    after_length : length after ≡ length before
    after_length = ap length two.table ∙ length_laid mid (count + size) two.new (omega (arith, second_fit.room, two.long)) ∙ mid_length

    pub room : answer + 1 ≤ length after
    room = omega (arith, after_length, fit-two.room)

    module _ (final : List Row) (wrote : final ≡ laid after answer (And f g ∷ [])) where
      abbrev front : List Row
      front = take answer after

      abbrev new : List Row
      new = And f g ∷ []

      front_length : length front ≡ answer
      front_length = length-take-le answer after (omega (arith, room))

      begins : take (answer + 1) final ≡ front ++ new
      begins = ap (take (answer + 1)) wrote ∙ take_laid after answer new room

      -- the rows of the first and, and of the second, in the end
      kept_two : take (count + size) after ≡ take (count + size) mid
      kept_two = stated_kept size adds mid after (count + size) (next l d e) g second_fit.room two

      after_all : take answer after ≡ take answer (front ++ new)
      after_all = sym (take_at front new answer front_length)

      abbrev s : ℕ → Sort
      s = sort_at (front ++ new)

      first_sort : s f ≡ sort.Bool
      first_sort =
          sym (same_sort answer after (front ++ new) after_all f (omega (arith, one.high)))
          ∙ same_sort (count + size) after mid kept_two f one.high ∙ one.boolean

      second_sort : s g ≡ sort.Bool
      second_sort = sym (same_sort answer after (front ++ new) after_all g (omega (arith, two.high))) ∙ two.boolean

      rows_sound : Each (RowSound s) answer new
      rows_sound = all_each (RowSound s) answer new (((omega (arith, one.high), first_sort), (omega (arith, two.high), second_sort)), tt)

      stands : Each (Stands (front ++ new)) answer new
      stands = stands_after front new answer front_length

      place : count + size + size ≡ answer
      place = omega (arith, last)

      first_means : Means (front ++ new) l f
      first_means =
          same_means (count + size) (take (count + size) mid) (front ++ new)
          (take-take (count + size) (count + size) mid (omega arith) ∙ sym kept_two ∙ same_front answer after (front ++ new) after_all (count + size) (omega arith))
          l f (omega (arith, fit-one.a_in.0)) (omega (arith, fit-one.b_in.0)) (omega (arith, fit-one.c_in.0)) one.high one.means

      second_means : Means (front ++ new) (next l d e) g
      second_means =
          same_means answer front (front ++ new) (take-take answer answer after (omega arith) ∙ after_all)
          (next l d e) g (omega (arith, fit-two.a_in.0)) (omega (arith, fit-two.b_in.0)) (omega (arith, fit-two.c_in.0)) (omega (arith, two.high))
          (subst (λ n. Means (take n after) (next l d e) g) place two.means)

      means : BothMean (front ++ new) l d e answer
      unfolding row_value
      means reading numbers x y z u v hx hy hz hu hv ea eb ec ed ee =
          let vf = first_means reading numbers x y z hx hy hz ea eb ec in
          let vg = second_means reading numbers z u v hz hu hv ec ed ee in
          block_obeys reading numbers s (front ++ new) answer new (omega (arith, length-append front new, front_length)) refl stands rows_sound 0 (lit< tt)
          ∙ rw (vf, vg)

      kept_last : take answer final ≡ take answer after
      kept_last = ap (take answer) wrote ∙ before_laid after answer new room

      drop_later : (m n : ℕ) (xs ys : List Row) → m ≤ n → drop m xs ≡ drop m ys → drop n xs ≡ drop n ys
      drop_later m n xs ys le h =
          let by : n ≡ m + (n - m) = omega arith in
          ap (λ i. drop i xs) by ∙ sym (drop-drop (n - m) m xs) ∙ ap (drop (n - m)) h ∙ drop-drop (n - m) m ys ∙ ap (λ i. drop i ys) (sym by)

      ends : (from : List Row) (at : ℕ) (xs : List Row) → at + length xs ≤ length from → at + length xs ≤ answer + 1 → drop (answer + 1) (laid from at xs) ≡ drop (answer + 1) from
      ends from at xs fits le = drop_later (at + length xs) (answer + 1) (laid from at xs) from le (drop_laid from at xs fits)

      rest : drop (answer + 1) final ≡ drop (answer + 1) before
      rest =
          ap (drop (answer + 1)) wrote ∙ ends after answer new room (omega arith)
          ∙ ap (drop (answer + 1)) two.table ∙ ends mid (count + size) two.new (omega (arith, second_fit.room, two.long)) (omega (arith, two.long))
          ∙ ap (drop (answer + 1)) one.table ∙ ends before count one.new (omega (arith, fit-one.room, one.long)) (omega (arith, one.long))

      pub both_stated : Both size before final count l d e answer
      both_stated = record {
        last = last;
        kept = same_front answer final after kept_last count (omega arith) ∙ same_front (count + size) after mid kept_two count (omega arith) ∙ kept_one;
        rest = rest;
        sound = λ h. rw begins (sound_join front new answer front_length (subst (λ n. Sound (take n after)) place (two.sound (one.sound h))) rows_sound);
        boolean = ap sort_of (sym (get_or-take (answer + 1) final answer Unknown (omega arith)) ∙ ap (λ (t : List Row). get_or t answer Unknown) begins ∙ stands 0 (lit< tt));
        means = rw begins means;
      }

never : {A : Type 0} (o : Option A) (x : A) → o ≡ None → o ≡ Some x → ⊥
never o x p q = cc

-- at the names of the code: `n` is the size that the scheme told, and neither and is refused
module _ (n size : ℕ) (adds : Adds) (before : List Row) (count : ℕ) (l : Lemma) (d e : ℕ) (is : n ≡ size)
    (free_one : cause_of n before count l ≡ None) (free-two : cause_of (2 * n + 1) before count (next l d e) ≡ None) where
  none_one : cause_of size before count l ≡ None
  none_one = ap (λ m. cause_of m before count l) (sym is) ∙ free_one

  none_two : cause_of (2 * size + 1) before count (next l d e) ≡ None
  none_two = ap (λ m. cause_of (2 * m + 1) before count (next l d e)) (sym is) ∙ free-two

  none_both : both_cause size before count l d e ≡ None
  none_both =
      ap (λ (o : Option Cause). elim o [ Some cause ↦ Some cause | None ↦ cause_of (2 * size + 1) before count (next l d e) ]) none_one ∙ none_two

  pub first_fit : Fit size before count l
  first_fit = fit size before count l none_one

  pub whole_fit : Fit (2 * size + 1) before count (next l d e)
  whole_fit = fit (2 * size + 1) before count (next l d e) none_two

  pub second_granted : (mid : List Row) (f : ℕ) (cause : Cause) → Stated size adds before mid count l f → cause_of size mid (count + n) (next l d e) ≡ Some cause → ⊥
  second_granted mid f cause one refused =
      never (cause_of size mid (count + size) (next l d e)) cause
      (free size mid (count + size) (next l d e) (second_fit size adds before mid count l d e f first_fit whole_fit one))
      (ap (λ m. cause_of size mid (count + m) (next l d e)) (sym is) ∙ refused)

  pub granted : (mid after final : List Row) (f g : ℕ) → Stated size adds before mid count l f → Stated size adds mid after (count + n) (next l d e) g →
      (count + 2 * n + 1 ≤ length after → final ≡ laid after (count + 2 * n) (And f g ∷ [])) → (both_cause size before count l d e ≡ None) × Both size before final count l d e (count + 2 * n)
  granted mid after final f g one two wrote =
      let last : count + 2 * n ≡ count + 2 * size = ap (λ m. count + 2 * m) is in
      let second : Stated size adds mid after (count + size) (next l d e) g = subst (λ m. Stated size adds mid after (count + m) (next l d e) g) is two in (
        none_both,
        both_stated size adds before mid count l d e f first_fit whole_fit one after g (count + 2 * n) second last final
            (wrote (room size adds before mid count l d e f first_fit whole_fit one after g (count + 2 * n) second last)),
      )

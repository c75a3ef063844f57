-- The call that appends the rows of bvand, bvor or bvxor.
use Rattle.std.proofs.Common.{◌≡◌, ℕ, ◌+◌, ◌<◌, ◌≤◌, true, ◌&&◌, List, ◌++◌, length, take, Some, None, Option, sym, refl, ap, ◌∙◌, subst, append_assoc, arith, lit<, length-append}
use Rattle.std.proofs.lemmas.List.{length-take-le, take_all, take-take}
use Rattle.std.proofs.lemmas.Bool.{and_from, cond-true}
use Rattle.refusal.specs.declared.Cause.{Cause}
use Rattle.refusal.specs.declared.Cause.TheVariants.{Range}
use Rattle.source.specs.declared.operator.Operator.{Operator}
use Rattle.target.specs.declared.row.Sort.TheVariants as sort
use Rattle.target.specs.declared.row.Row.{Row}
use Rattle.target.specs.Tables.{laid}
use Rattle.target.specs.Soundness.{Takes, sort_at, Sound}
use Rattle.target.proofs.Laying.{length_laid, laid_three}
use Rattle.scheme.specs.Refusing.{cause_of}
use Rattle.scheme.specs.Stated.{Adds, Means, Stated}
use Rattle.scheme.proofs.Fits.{Fit, fit, free}
use Rattle.scheme.proofs.Lasts.{same_sort}
use Rattle.rows.specs.declared.operands.Operands.{Operands}
use Rattle.rows.specs.Operands.{with_third}
use Rattle.rows.specs.Rows.{register_rows, rows_of, image, and_rows}
use Rattle.rows.specs.Counts.{has_and, own_count}
use Rattle.rows.specs.Limits.{usable}
use Rattle.rows.specs.Law.{AndMeans}
use Rattle.rows.specs.Ands.{lemma_of, and_count, and_cause, AndAppended}
use Rattle.rows.proofs.Appending.{sorts, same_sorts, in_use}
use Rattle.rows.proofs.Counting.{own_length, own_third, and_length}
use Rattle.rows.proofs.AndLaw.{and_means}

never : {A : Type 0} (o : Option A) (x : A) → o ≡ None → o ≡ Some x → ⊥
never o x p q = cc

-- the call goes on: the operator and its operands pass, and there is no cause to refuse all rows
module _ (size : ℕ) (adds : Adds) (op : Operator) (o : Operands) (before : List Row) (at : ℕ) (has : has_and op ≡ true) (can : usable op o ≡ true) where
  pub cause_is : and_cause op o size before at ≡ cause_of (and_count op o size) before at (lemma_of o o.a)
  cause_is = cond-true (has_and op && usable op o) (cause_of (and_count op o size) before at (lemma_of o o.a)) (Some Range) (and_from (has_and op) (usable op o) has can)

  module _ (none : cause_of (and_count op o size) before at (lemma_of o o.a) ≡ None) where
    pub all_fit : Fit (and_count op o size) before at (lemma_of o o.a)
    all_fit = fit (and_count op o size) before at (lemma_of o o.a) none

    abbrev front : List Row
    front = take at before

    front_length : length front ≡ at
    front_length = length-take-le at before (omega (arith, all_fit.room))

    abbrev first : List Row
    first = front ++ register_rows o.k at

    first_length : length first ≡ at + 6
    first_length = omega (arith, front_length, length-append front (register_rows o.k at))

    in_front : (p : ℕ) → Takes (sort_at before) at sort.Int p → Takes (sort_at front) at sort.Int p
    in_front p h = (h.0, sym (same_sort at before front (sym (take_again at before)) p h.0) ∙ h.1)
      where
        take_again : (n : ℕ) (rows : List Row) → take n (take n rows) ≡ take n rows
        take_again n rows = take-take n n rows (omega arith)

    module _ (one : List Row) (wrote : one ≡ laid before at (register_rows o.k at)) where
      one_length : length one ≡ length before
      one_length = ap length wrote ∙ length_laid before at (register_rows o.k at) (omega (arith, all_fit.room))

      begins : take (at + 6) one ≡ first
      begins = in_use before one at 6 (register_rows o.k at) refl (omega (arith, all_fit.room)) wrote

      sort_one : (p : ℕ) → p < at + 6 → sort_at one p ≡ sort_at first p
      sort_one p lt =
          same_sort (at + 6) one first (begins ∙ sym (take_all (at + 6) first (omega (arith, first_length)))) p lt

      later : (p : ℕ) → Takes (sort_at before) at sort.Int p → Takes (sort_at one) (at + 6) sort.Int p
      later p h =
          (omega (arith, h.0), sort_one p (omega (arith, h.0)) ∙ sym (same_sorts front (register_rows o.k at) at front_length p h.0) ∙ (in_front p h).1)

      -- the scheme does not refuse
      scheme_fit : Fit size one (at + 6) (lemma_of o at)
      scheme_fit = record {
        a_in = later o.a all_fit.a_in;
        b_in = later o.b all_fit.b_in;
        c_in = (omega arith, sort_one at (omega arith) ∙ sorts front (register_rows o.k at) at front_length 0 (lit< tt));
        least = all_fit.least;
        most = all_fit.most;
        room = omega (arith, one_length, all_fit.room);
        limit = omega (arith, all_fit.limit);
      }

      pub scheme_grants : (cause : Cause) → cause_of size one (at + 6) (lemma_of o at) ≡ Some cause → ⊥
      scheme_grants cause refused = never (cause_of size one (at + 6) (lemma_of o at)) cause (free size one (at + 6) (lemma_of o at) scheme_fit) refused

      module _ (two three : List Row) (answer : ℕ) (st : Stated size adds one two (at + 6) (lemma_of o at) answer) where
        two_length : length two ≡ length before
        two_length = ap length st.table ∙ length_laid one (at + 6) st.new (omega (arith, st.long, scheme_fit.room)) ∙ one_length

        pub own_room : at + (6 + size) + own_count op (with_third o at) ≤ length two
        own_room = omega (arith, two_length, all_fit.room, own_third o at op has)

        module _ (last : three ≡ laid two (at + (6 + size)) (rows_of op (with_third o at) (at + (6 + size)))) where
          abbrev new : List Row
          new = st.new

          abbrev own : List Row
          own = rows_of op (with_third o at) (at + (6 + length new))

          abbrev second : List Row
          second = first ++ new

          goes_on : take (at + 6 + size) two ≡ second
          goes_on = in_use one two (at + 6) size new st.long scheme_fit.room st.table ∙ ap (λ (t : List Row). t ++ new) begins

          here : at + (6 + size) ≡ at + (6 + length new)
          here = ap (λ n. at + (6 + n)) (sym st.long)

          table : three ≡ laid before at (and_rows op o at new)
          table =
              laid_three before one two three at (at + 6) (at + (6 + length new)) (register_rows o.k at) new own wrote st.table
              (last ∙ ap (λ n. laid two n (rows_of op (with_third o at) n)) here) refl
              (omega arith)
              (omega (arith, all_fit.room, st.long, own_length op (with_third o at) (at + (6 + length new)), own_third o at op has))

          ends : take (at + and_count op o size) three ≡ second ++ own
          ends =
              in_use before three at (and_count op o size) (and_rows op o at new) (omega (arith, and_length op o at new has, st.long)) all_fit.room table
              ∙ sym (append_assoc front (register_rows o.k at) (new ++ own)) ∙ sym (append_assoc first new own)

          second_sort : sort_at second answer ≡ sort.Bool
          second_sort =
              sym (same_sort (at + 6 + size) two second
              (goes_on ∙ sym (take_all (at + 6 + size) second (omega (arith, first_length, st.long, length-append first new)))) answer st.high)
              ∙ st.boolean

          pub and_appended : AndAppended size adds op o before three at answer
          and_appended = record {
            new = new;
            long = st.long;
            added = subst (λ (t : List Row). adds t (lemma_of o at) new answer) begins st.added;
            table = table;
            low = st.low;
            high = omega (arith, st.high);
            means =
                subst (λ (t : List Row). AndMeans op o front at new t answer) (sym ends)
                (and_means op o front at front_length has all_fit.least (in_front o.a all_fit.a_in) (in_front o.b all_fit.b_in) new answer st.known
                (λ h. subst Sound goes_on (st.sound (subst Sound (sym begins) h))) st.low (omega (arith, st.high, st.long)) second_sort
                (subst (λ (t : List Row). Means t (lemma_of o at) answer) goes_on st.means));
          }

-- The same at the names of the code: `n` rows are the scheme's and m the operator's, whose operands are `told`.
module _ (size : ℕ) (adds : Adds) (op : Operator) (o : Operands) (before : List Row) (at : ℕ) (has : has_and op ≡ true) (can : usable op o ≡ true)
    (n m : ℕ) (is : n ≡ size) (own_is : m ≡ own_count op o) (free_all : cause_of (6 + n + m) before at (lemma_of o o.a) ≡ None) where
  count_is : 6 + n + m ≡ and_count op o size
  count_is = omega arith

  none : cause_of (and_count op o size) before at (lemma_of o o.a) ≡ None
  none = ap (λ t. cause_of t before at (lemma_of o o.a)) (sym count_is) ∙ free_all

  module _ (one : List Row) (wrote : one ≡ laid before at (register_rows o.k at)) where
    pub told_grants : (cause : Cause) → cause_of size one (at + 6) (lemma_of o at) ≡ Some cause → ⊥
    told_grants = scheme_grants size adds op o before at has can none one wrote

    module _ (two : List Row) (answer : ℕ) (st : Stated size adds one two (at + 6) (lemma_of o at) answer) (top : Operator) (told : Operands) (top_is : top ≡ op) (told_is : told ≡ with_third o at) where
      pub told_room : at + (6 + n) + own_count top told ≤ length two
      told_room = rw (top_is, told_is, is) (own_room size adds op o before at has can none one wrote two two answer st)

      pub told_appended : (three : List Row) (i : ℕ) → three ≡ laid two (at + (6 + n)) (rows_of top told (at + (6 + n))) → i ≡ image top told (at + (6 + n)) →
          (and_cause op o size before at ≡ None) × (i ≡ image op (with_third o at) (at + (6 + size))) × AndAppended size adds op o before three at answer
      told_appended three i last ends-in = (
        cause_is size adds op o before at has can ∙ none,
        rw (top_is, told_is, is) at ends-in,
        and_appended size adds op o before at has can none one wrote two three answer st (rw (top_is, told_is, is) at last),
      )

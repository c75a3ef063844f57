-- The law of the rows of an operator.
use Rattle.std.proofs.Common.{◌≡◌, ℕ, ◌+◌, ◌≤◌, true, List, ◌++◌, length, take, ℤ, sym, ap, ◌∙◌, subst, arith}
use Rattle.std.proofs.lemmas.List.{length-take-le}
use Rattle.std.proofs.lemmas.Bool.{cond-true}
use Rattle.source.specs.declared.operator.Operator.{Operator}
use Rattle.source.specs.declared.value.Value.{Value}
use Rattle.source.specs.Values.{taken, given, value_of}
use Rattle.target.specs.declared.row.Row.{Row}
use Rattle.target.specs.Tables.{laid}
use Rattle.target.specs.Values.{Reading, value_at}
use Rattle.target.specs.Meaning.{values}
use Rattle.target.specs.Soundness.{RowSound, sort_at}
use Rattle.target.proofs.Blocks.{Each, block_obeys}
use Rattle.rows.specs.declared.operands.Operands.{Operands}
use Rattle.rows.specs.Rows.{rows_of, image}
use Rattle.rows.specs.Law.{shown, Suited, Given, Anded, Appends, OrderMeans}
use Rattle.rows.specs.Counts.{own_count}
use Rattle.rows.proofs.Appending.{stands, sorts, same_sorts, room, appended, in_use}
use Rattle.rows.proofs.Counting.{own_length}
use Rattle.rows.proofs.OrderSorts.{no_unknowns, suited_local, image_sort}
use Rattle.rows.proofs.Sounds.{sounds}
use Rattle.rows.proofs.Values.{ends}

module _ (op : Operator) (o : Operands) (front : List Row) (at : ℕ) (len : length front ≡ at) where
  abbrev new : List Row
  new = rows_of op o at

  abbrev all : List Row
  all = front ++ new

  pub rows_sound : Suited (sort_at front) at op o → Each (RowSound (sort_at (front ++ rows_of op o at))) at (rows_of op o at)
  rows_sound f = sounds (sort_at all) op o at (suited_local (sort_at front) (sort_at all) at op o (same_sorts front new at len) f) (sorts front new at len)

  pub image_value : Suited (sort_at front) at op o → (reading : Reading) (numbers : ℕ → ℤ) (va vb vc : Value) → taken op va vb vc ≡ true →
      Given (values reading numbers (front ++ rows_of op o at)) op o va vb vc → Anded (values reading numbers (front ++ rows_of op o at)) op o.c va vb →
      value_at (values reading numbers (front ++ rows_of op o at)) (image op o at) ≡ shown (value_of op va vb vc)
  image_value f reading numbers va vb vc t g d =
      ends reading numbers (values reading numbers all) o at va vb vc op t g d
      (block_obeys reading numbers (sort_at all) all at new (room front new at len) (no_unknowns op o at) (stands front new at len) (rows_sound f))
      ∙ ap shown (sym (cond-true (taken op va vb vc) (given op va vb vc) _ t))

  pub order_means : 1 ≤ o.k → OrderMeans op o front at (front ++ rows_of op o at)
  order_means some = record {
    appends = λ f. subst (Appends front all) (no_unknowns op o at) (appended front new at len (rows_sound f));
    sort_image = λ f a b c fit is.
        image_sort (sort_at all) o at some a b c op fit is
        (λ e. ((suited_local (sort_at front) (sort_at all) at op o (same_sorts front new at len) f).unknown e).1) (sorts front new at len);
    value = image_value;
  }

-- the same of the rows that were laid in a table
pub laid_means : (op : Operator) (o : Operands) (before after : List Row) (at : ℕ) → 1 ≤ o.k → at + own_count op o ≤ length before → after ≡ laid before at (rows_of op o at) →
    OrderMeans op o (take at before) at (take (at + own_count op o) after)
laid_means op o before after at some room table =
    let long : length (rows_of op o at) ≡ own_count op o = own_length op o at in
    subst (OrderMeans op o (take at before) at)
    (sym (in_use before after at (own_count op o) (rows_of op o at) long room table))
    (order_means op o (take at before) at (length-take-le at before (omega arith)) some)

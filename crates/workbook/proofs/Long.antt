-- Tables that are as long as their counts stay so.
use Rattle.std.proofs.Common.{◌≡◌, ℕ, ◌+◌, ◌<◌, ◌≤◌, min, Bool, true, false, cond, List, [], ◌∷◌, length, is_ok, Ok, Err, Result, sym, refl, subst, arith, length-append, length-drop, length-set, length-take}
use Rattle.std.proofs.lemmas.Bool.Decides.{nat_tests}
use Rattle.source.specs.Widths.{is_width}
use Rattle.target.specs.Tables.{laid}
use Rattle.target.specs.declared.row.Row.{Row}
use Rattle.refusal.specs.declared.Cause.TheVariants.{Range}
use Rattle.refusal.specs.declared.Cause.{Cause}
use Rattle.refusal.specs.declared.Refusal.{Refusal}
use Rattle.source.specs.declared.order.Act.{Act}
use Rattle.source.specs.declared.order.Act.TheVariants.{Declare, Constant, Truth, Apply, Require}
use Rattle.source.specs.declared.order.Order.{Order}
use Rattle.workbook.specs.Pages.{Pages}
use Rattle.workbook.specs.Room.{Long, long_enough, room_for}
use Rattle.rows.specs.Rows.{register_rows}
use Rattle.workbook.specs.Declare.{Outcome, with_register, register_fits, answered, entered}
use Rattle.workbook.specs.Feed.{followed, entered_all}

pub long_from : {R : Type 0} (p : Pages R) → is_ok (long_enough p) ≡ true → Long p
long_from p e = record {
  long_sources = grind (arith, nat_tests);
  long_records = grind (arith, nat_tests);
  long_rows = grind (arith, nat_tests);
  long_assertions = grind (arith, nat_tests);
}

length_laid : (rows new : List Row) (at : ℕ) → at + length new ≤ length rows → length (laid rows at new) ≡ length rows
length_laid rows new at h = simp (length-append, length-take, length-drop) (omega arith)

module _ {R : Type 0} (whole : ℕ → R) where
  with_long : (p : Pages R) (k : ℕ) → room_for p 6 1 ≡ Ok tt → Long (with_register whole p k)
  with_long p k e =
      let sources : p.source_count < min (min (length p.sources) (length p.records)) 1024 = grind (arith, nat_tests) in
      let rows : p.row_count + 6 ≤ min (length p.rows) 32768 = grind (arith, nat_tests) in
      let assertions : p.assertion_count + 1 ≤ min (length p.assertions) 4096 = grind (arith, nat_tests) in
      record {
        long_sources = simp length-set (omega arith);
        long_records = simp length-set (omega arith);
        long_rows = rw (length_laid p.rows (register_rows k p.row_count) p.row_count (omega arith)) (omega arith);
        long_assertions = simp length-set (omega arith);
      }

  by_fit : (at : ℕ) (p : Pages R) (k : ℕ) → Long p → (x : Result (Unit {0}) Cause) → register_fits whole p k ≡ x
      → Long {R = R} (answered {R = R} at (elim x [ Ok _ ↦ (Ok tt, with_register whole p k) | Err cause ↦ (Err cause, p) ])).1
  by_fit at p k l (Err cause) e = l
  by_fit at p k l (Ok _) e = with_long p k (fits (is_width k) e)
    where
      fits : (b : Bool) → cond b (room_for p 6 1) (Err Range) ≡ Ok tt → room_for p 6 1 ≡ Ok tt
      fits true e = e
      fits false e = absurd (cc)

  -- an order leaves long tables long
  pub entered_long : (at : ℕ) (p : Pages R) (a : Act) → Long p → Long (entered whole at p a).1
  entered_long at p (Declare k) l = by_fit at p k l (register_fits whole p k) refl
  entered_long at p (Constant k n) l = l
  entered_long at p (Truth b) l = l
  entered_long at p (Apply op a b c) l = l
  entered_long at p (Require row) l = l

  followed_long : (o : Outcome R) (rest : Pages R → Outcome R) → Long o.1 → ((q : Pages R) → Long q → Long (rest q).1) → Long (followed o rest).1
  followed_long (Ok n, q) rest l h = h q l
  followed_long (Err e, q) rest l h = l

  pub all_long : (os : List Order) (p : Pages R) → Long p → Long (entered_all whole os p).1
  all_long [] p l = l
  all_long (o ∷ os) p l = followed_long (entered whole o.place p o.act) (entered_all whole os) (entered_long o.place p o.act l) (λ q k. all_long os q k)

  -- the same from what the code knows: no table was short, and the outcome is the definition's
  pub after_all : (os : List Order) (p q : Pages R) (r : Result ℕ Refusal) → is_ok (long_enough p) ≡ true → (r, q) ≡ entered_all whole os p → Long q
  after_all os p q r s e = subst (λ (o : Outcome R). Long o.1) (sym e) (all_long os p (long_from p s))

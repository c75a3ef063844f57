-- Rows laid in two parts.
use Rattle.std.proofs.Common.{◌≡◌, ℕ, ◌+◌, ◌≤◌, List, ◌++◌, length, sym, refl, ap, ◌∙◌, arith, length-append}
use Rattle.target.specs.declared.row.Row.{Row}
use Rattle.target.specs.Tables.{laid}
use Rattle.target.proofs.Laying.{then_laid}

-- first the rows `xs`, and then those that depend on where they stand
pub laid_both : (rows mid after : List Row) (at n : ℕ) (all xs : List Row) (ys : ℕ → List Row) → all ≡ xs ++ ys (at + length xs) → mid ≡ laid rows at xs → n ≡ at + length xs → after ≡ laid mid n (ys n) →
    at + length all ≤ length rows → after ≡ laid rows at all
laid_both rows mid after at n all xs ys e em en ea room =
    let m : ℕ = at + length xs in
    let last : after ≡ laid mid m (ys m) = ea ∙ ap (λ n. laid mid n (ys n)) en in
    let len : length all ≡ length xs + length (ys m) = ap length e ∙ length-append xs (ys m) in
    then_laid rows mid after at m xs (ys m) em last refl (omega arith) ∙ ap (laid rows at) (sym e)

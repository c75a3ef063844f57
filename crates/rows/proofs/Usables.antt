-- What is known of operands that rows can be made for.
use Rattle.std.proofs.Common.{◌≡◌, ℕ, ◌≤◌, true, leb}
use Rattle.std.proofs.lemmas.Bool.{and_parts, leb-true}
use Rattle.source.specs.Widths.{is_width}
use Rattle.source.specs.declared.operator.Operator.{Operator}
use Rattle.rows.specs.declared.operands.Operands.{Operands}
use Rattle.rows.specs.Limits.{usable}

pub is_width_lem : (k : ℕ) → is_width k ≡ true → (1 ≤ k) × (k ≤ 32)
is_width_lem k e = let p = and_parts (leb 1 k) (leb k 32) e in (leb-true 1 k p.0, leb-true k 32 p.1)

pub usable_width : (op : Operator) (o : Operands) → usable op o ≡ true → (1 ≤ o.k) × (o.k ≤ 32)
usable_width op o e = is_width_lem o.k (and_parts (is_width o.k) _ e).0

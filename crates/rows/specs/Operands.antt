-- The operands of an order.
use Rattle.std.specs.Prelude.{ℕ}
use Rattle.rows.specs.declared.operands.Operands.{Operands}

-- the same operands with another image of the third
abbrev pub with_third : Operands → ℕ → Operands
with_third o c = record { a = o.a; b = o.b; c = c; k = o.k; j = o.j; sort = o.sort; left = o.left; right = o.right }

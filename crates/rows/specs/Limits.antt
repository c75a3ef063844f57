-- Which operands rows can be made for.
use Rattle.std.specs.Prelude.{Bool, ◌&&◌, nat_le}
use Rattle.source.specs.Widths.{is_width}
use Rattle.source.specs.Sorts.{in_bounds}
use Rattle.source.specs.declared.order.Sort.TheVariants.{Bits}
use Rattle.source.specs.declared.operator.Operator.{Operator}
use Rattle.rows.specs.declared.operands.Operands.{Operands}

-- the first operand's width is from 1 to 32, the bounds are numbers of 32 bits, and extract's bits and a concatenation
-- lie within their limits
abbrev pub usable : Operator → Operands → Bool
usable op o =
    is_width o.k && (nat_le o.left.most 4294967295 && (nat_le o.right.most 4294967295 && in_bounds op (Bits o.k) (Bits o.j)))

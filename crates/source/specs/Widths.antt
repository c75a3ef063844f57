-- Which numbers of bits are widths.
use Rattle.std.specs.Prelude.{ℕ, Bool, ◌&&◌, nat_le}

abbrev pub is_width : ℕ → Bool
is_width k = nat_le 1 k && nat_le k 32

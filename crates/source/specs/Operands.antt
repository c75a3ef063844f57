-- What an operator may count on, and what it gives.
use Rattle.std.specs.Prelude.{◌≡◌, ◌^◌, ◌<◌, ◌≤◌, true}
use Rattle.source.specs.Values.{bits_of, number_of, is_value, sort_of}
use Rattle.source.specs.declared.order.Sort.{Sort}
use Rattle.source.specs.declared.value.Value.{Value}

-- a number of its width, which is from 1 to 32
pub record Number (a : Value) : Type 0 where
  pub least : 1 ≤ bits_of a
  pub most : bits_of a ≤ 32
  pub below : number_of a < 2 ^ bits_of a

-- two numbers of one width
pub record Pair (a b : Value) : Type 0 where
  pub first : Number a
  pub second : number_of b < 2 ^ bits_of a

-- a value of a sort
pub record IsOf (v : Value) (s : Sort) : Type 0 where
  pub stands : is_value v ≡ true
  pub sorted : sort_of v ≡ s

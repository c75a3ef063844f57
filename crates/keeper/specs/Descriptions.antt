-- What a record says of a value.
use Rattle.std.specs.Prelude.{◌≡◌, ℕ}
use Rattle.source.specs.Values.{bits_of, number_of}
use Rattle.source.specs.declared.value.Value.{Value}

-- the record bears the value's width and holds its number
abbrev pub Describes : {R : Type 0} → (R → ℕ) → (R → ℕ → Type 0) → R → Value → Type 0
Describes bears holds r v = (bears r ≡ bits_of v) × holds r (number_of v)

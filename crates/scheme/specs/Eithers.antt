-- What either of two schemes adds.
use Rattle.std.specs.Prelude.{ℕ}
use Rattle.scheme.specs.declared.either.Either.{Either}
use Rattle.scheme.specs.declared.either.Either.TheVariants.{First, Second}
use Rattle.scheme.specs.Stated.{Adds}

-- of the sizes of both
abbrev pub either_size : {S T : Type 0} → (S → ℕ → ℕ) → (T → ℕ → ℕ) → Either S T → ℕ → ℕ
either_size f g (First s) = f s
either_size f g (Second t) = g t

-- of the rows of both
abbrev pub either_adds : {S T : Type 0} → (S → Adds) → (T → Adds) → Either S T → Adds
either_adds f g (First s) = f s
either_adds f g (Second t) = g t

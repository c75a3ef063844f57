-- Choices of two.
use Rattle.std.proofs.Common.{◌≡◌, Bool, true, false, cond, refl}

-- a function of both is the function of the choice
pub cond_of : {A B : Type 0} (f : A → B) (q : Bool) (x y : A) → cond q (f x) (f y) ≡ f (cond q x y)
cond_of f true x y = refl
cond_of f false x y = refl

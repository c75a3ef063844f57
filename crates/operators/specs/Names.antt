-- The names of the operators.
use Rattle.std.specs.Prelude.{ℕ, List, [], ◌∷◌, codes, Option, find}
use Rattle.std.specs.Str.{bytes_eq}
use Rattle.source.specs.declared.operator.Operator.{Operator}
use Rattle.source.specs.declared.operator.Operator.TheVariants.{BvNot, BvNeg, BvAdd, BvSub, BvMul, BvUdiv, BvUrem, Extract, Concat, BvAnd, BvOr, BvXor, BvLshr, BvShl, BvUlt, BvUle, BvUgt, BvUge, BvSlt, BvSle, BvSgt, BvSge, Equal, Not, And, Or, Ite, Implies}

abbrev pub name_of : Operator → List ℕ
name_of BvNot = codes "bvnot"
name_of BvNeg = codes "bvneg"
name_of BvAdd = codes "bvadd"
name_of BvSub = codes "bvsub"
name_of BvMul = codes "bvmul"
name_of BvUdiv = codes "bvudiv"
name_of BvUrem = codes "bvurem"
name_of (Extract upper lower) = codes "extract"
name_of Concat = codes "concat"
name_of BvAnd = codes "bvand"
name_of BvOr = codes "bvor"
name_of BvXor = codes "bvxor"
name_of BvLshr = codes "bvlshr"
name_of BvShl = codes "bvshl"
name_of BvUlt = codes "bvult"
name_of BvUle = codes "bvule"
name_of BvUgt = codes "bvugt"
name_of BvUge = codes "bvuge"
name_of BvSlt = codes "bvslt"
name_of BvSle = codes "bvsle"
name_of BvSgt = codes "bvsgt"
name_of BvSge = codes "bvsge"
name_of Equal = codes "="
name_of Not = codes "not"
name_of And = codes "and"
name_of Or = codes "or"
name_of Ite = codes "ite"
name_of Implies = codes "=>"

-- the operators that their name tells apart: all but extract, to which two numbers belong
abbrev pub operators : List Operator
operators =
    BvNot ∷ BvNeg ∷ BvAdd ∷ BvSub ∷ BvMul ∷ BvUdiv ∷ BvUrem ∷ Concat ∷ BvAnd ∷ BvOr ∷ BvXor ∷ BvLshr ∷ BvShl
    ∷ BvUlt ∷ BvUle ∷ BvUgt ∷ BvUge ∷ BvSlt ∷ BvSle ∷ BvSgt ∷ BvSge ∷ Equal ∷ Not ∷ And ∷ Or ∷ Ite ∷ Implies ∷ []

-- the one that a word names
abbrev pub operator_named : List ℕ → Option Operator
operator_named word = find (λ op. bytes_eq word (name_of op)) operators

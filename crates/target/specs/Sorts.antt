-- The sort of each row.
use Rattle.target.specs.declared.row.Sort.{Sort}
use Rattle.target.specs.declared.row.Sort.TheVariants.{Int, Bool}
use Rattle.target.specs.declared.row.Row.{Row}
use Rattle.target.specs.declared.row.Row.TheVariants.{Unknown, Number, Truth, Add, Sub, Times, Quot, Rem, Equal, Less, AtMost, Not, And, Or, Choose}

abbrev pub sort_of : Row → Sort
sort_of Unknown = Int
sort_of (Number n) = Int
sort_of (Truth b) = Bool
sort_of (Add a b) = Int
sort_of (Sub a b) = Int
sort_of (Times a b) = Int
sort_of (Quot a b) = Int
sort_of (Rem a b) = Int
sort_of (Equal a b) = Bool
sort_of (Less a b) = Bool
sort_of (AtMost a b) = Bool
sort_of (Not a) = Bool
sort_of (And a b) = Bool
sort_of (Or a b) = Bool
sort_of (Choose sort c a b) = sort

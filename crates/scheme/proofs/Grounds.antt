-- What the digits go back to: whole numbers in use, of which three are 0, 1 and 2.
use Rattle.std.proofs.Common.{◌≡◌, ℕ, ◌+◌, ◌≤◌, List, ◌∷◌, ℤ, pos, arith}
use Rattle.target.specs.declared.row.Sort.{Sort}
use Rattle.target.specs.declared.row.Sort.TheVariants as sort
use Rattle.target.specs.declared.row.Row.{Row}
use Rattle.target.specs.declared.row.Row.TheVariants.{Number}
use Rattle.target.specs.Values.{Val, int, Reading, value_at}
use Rattle.target.specs.Meaning.{row_value}
use Rattle.target.specs.Soundness.{Takes}
use Rattle.target.proofs.Blocks.{Each, HasSort, Obeys}
use Rattle.scheme.specs.declared.base.Base.{Base}
use Rattle.scheme.specs.declared.lemma.Lemma.{Lemma}
use Rattle.scheme.specs.Shared.{base_of}

-- the operands of a lemma are whole numbers before the row `at`
pub record Whole (s : ℕ → Sort) (at : ℕ) (l : Lemma) : Type 0 where
  pub a : Takes s at sort.Int l.a
  pub b : Takes s at sort.Int l.b
  pub c : Takes s at sort.Int l.c

-- the values of the operands
pub record Given (vs : List Val) (l : Lemma) (x y z : ℕ) : Type 0 where
  pub a : value_at vs l.a ≡ int (pos x)
  pub b : value_at vs l.b ≡ int (pos y)
  pub c : value_at vs l.c ≡ int (pos z)

-- the rows of a base are whole numbers before the row `at`
pub record Ground (s : ℕ → Sort) (at : ℕ) (base : Base) : Type 0 where
  pub zero : Takes s at sort.Int base.zero
  pub one : Takes s at sort.Int base.one
  pub two : Takes s at sort.Int base.two
  pub operands : Whole s at base.lemma

-- the values of these rows
pub record Known (vs : List Val) (base : Base) (x y z : ℕ) : Type 0 where
  pub zero : value_at vs base.zero ≡ int (pos 0)
  pub one : value_at vs base.one ≡ int (pos 1)
  pub two : value_at vs base.two ≡ int (pos 2)
  pub operands : Given vs base.lemma x y z

-- rows that begin with 0, 1 and 2, after `count` rows among which the operands are
module _ (count : ℕ) (l : Lemma) (rest : List Row) where
  abbrev begun : List Row
  begun = Number 0 ∷ Number 1 ∷ Number 2 ∷ rest

  pub ground : (s : ℕ → Sort) → Whole s count l → Each (HasSort s) count begun →
      (p : ℕ) → count + 3 ≤ p → Ground s p (base_of count l)
  ground s w h p le = record {
    zero = (omega arith, h 0 (omega arith));
    one = (omega arith, h 1 (omega arith));
    two = (omega arith, h 2 (omega arith));
    operands = record { a = (omega (arith, w.a.0), w.a.1); b = (omega (arith, w.b.0), w.b.1); c = (omega (arith, w.c.0), w.c.1) };
  }

  pub known_base : (reading : Reading) (numbers : ℕ → ℤ) (vs : List Val) (x y z : ℕ) →
      Given vs l x y z → Each (Obeys reading numbers vs) count begun →
      Known vs (base_of count l) x y z
  unfolding row_value
  known_base reading numbers vs x y z v h = record {
    zero = h 0 (omega arith);
    one = h 1 (omega arith);
    two = h 2 (omega arith);
    operands = v;
  }

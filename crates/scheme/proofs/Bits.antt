-- What the turns of schemes have in common: the bits of a and b, other rows, the and of both bits, and the turn's end.
use Rattle.std.proofs.Common.{◌≡◌, ℕ, ◌+◌, ◌/◌, ◌%◌, ◌^◌, min, List, ◌++◌, length, ℤ, pos, refl, arith, lit<}
use Rattle.std.proofs.lemmas.Nat.{mod_below}
use Rattle.target.specs.declared.row.Sort.{Sort}
use Rattle.target.specs.declared.row.Row.{Row}
use Rattle.target.specs.Values.{Val, int, Reading, value_at}
use Rattle.target.specs.Soundness.{RowSound}
use Rattle.target.proofs.Blocks.{Each, HasSort, Obeys, each_front, each_back, each_join}
use Rattle.scheme.specs.declared.base.Base.{Base}
use Rattle.scheme.specs.Shared.{pair_rows, both_rows}
use Rattle.scheme.proofs.Digits.{pair_sound, both_sound, pair_value, both_value}
use Rattle.scheme.proofs.Grounds.{Ground, Known}

-- the other rows are from at + 5 to below n, and the end begins at m
module _ (base : Base) (i at n m : ℕ) (mid rest : List Row) (to_n : at + 5 + length mid ≡ n) (to_m : n + 4 ≡ m) where
  abbrev pair : List Row
  pair = pair_rows i base.lemma.a base.lemma.b base.two at

  abbrev both : List Row
  both = both_rows (at + 2) (at + 4) base.zero base.one n

  abbrev block : List Row
  block = pair ++ (mid ++ (both ++ rest))

  -- each of the four
  module _ (P : ℕ → Row → Type 0) (h : Each P at block) where
    of_pair : Each P at pair
    of_pair = each_front P at pair (mid ++ (both ++ rest)) h

    behind : Each P (at + 5) (mid ++ (both ++ rest))
    behind = each_back P at (at + 5) pair (mid ++ (both ++ rest)) refl h

    pub of_mid : Each P (at + 5) mid
    of_mid = each_front P (at + 5) mid (both ++ rest) behind

    of_both : Each P n both
    of_both = each_front P n both rest (each_back P (at + 5) n mid (both ++ rest) to_n behind)

  pub bits_sound : (s : ℕ → Sort) → Ground s at base → Each (HasSort s) at block → Each (RowSound s) (at + 5) mid → Each (RowSound s) m rest → Each (RowSound s) at block
  bits_sound s g h hm hr =
      let p : Each (HasSort s) at pair = of_pair (HasSort s) h in
      each_join (RowSound s) at (at + 5) pair (mid ++ (both ++ rest)) refl (pair_sound s i base.lemma.a base.lemma.b base.two at g.operands.a g.operands.b g.two p)
      (each_join (RowSound s) (at + 5) n mid (both ++ rest) to_n hm
      (each_join (RowSound s) n m both rest to_m
      (both_sound s (at + 2) (at + 4) base.zero base.one n (omega arith, p 2 (lit< tt)) (omega arith, p 4 (lit< tt)) (omega (arith, g.zero.0), g.zero.1) (omega (arith, g.one.0), g.one.1)
      (of_both (HasSort s) h))
      hr))

  -- the weight of the bit, and the and of both
  pub record Anded (vs : List Val) (x y : ℕ) : Type 0 where
    pub heavy : value_at vs at ≡ int (pos (2 ^ i))
    pub and : value_at vs (n + 3) ≡ int (pos (min (x / 2 ^ i % 2) (y / 2 ^ i % 2)))

  pub bits_value : (reading : Reading) (numbers : ℕ → ℤ) (vs : List Val) (x y z : ℕ) → Known vs base x y z → Each (Obeys reading numbers vs) at block → Anded vs x y
  bits_value reading numbers vs x y z k h =
      let O : ℕ → Row → Type 0 = Obeys reading numbers vs in
      let p = pair_value reading numbers vs i base.lemma.a base.lemma.b base.two at x y k.operands.a k.operands.b k.two (of_pair O h) in
      record {
        heavy = p.heavy;
        and = both_value reading numbers vs (at + 2) (at + 4) base.zero base.one n (x / 2 ^ i % 2) (y / 2 ^ i % 2) (mod_below (x / 2 ^ i) 2 (lit< tt)) (mod_below (y / 2 ^ i) 2 (lit< tt))
            p.left p.right k.zero k.one (of_both O h);
      }

-- Where there is no cause to refuse, and what is known there.
use Rattle.std.proofs.Common.{◌≡◌, ℕ, ◌+◌, ◌≤◌, min, Bool, true, false, cond, ◌||◌, ltb, leb, List, length, Some, None, Option, sym, refl, ap, ◌∙◌, arith}
use Rattle.std.proofs.lemmas.Bool.{ltb-false, leb-false, le-ltb, lt-leb, or_parts, or_from, cond-false, false≢true}
use Rattle.refusal.specs.declared.Cause.{Cause}
use Rattle.target.specs.declared.row.Sort.{Sort}
use Rattle.target.specs.declared.row.Sort.TheVariants as sort
use Rattle.target.specs.declared.row.Row.{Row}
use Rattle.target.specs.Soundness.{Takes, sort_at}
use Rattle.scheme.specs.declared.lemma.Lemma.{Lemma}
use Rattle.scheme.specs.Refusing.{is_bool, outside, misfit, off_width, no_room, cause_of}

-- the operands are rows in use and whole numbers, the width is from 1 to 32, and there is room
pub record Fit (size : ℕ) (rows : List Row) (count : ℕ) (l : Lemma) : Type 0 where
  pub a_in : Takes (sort_at rows) count sort.Int l.a
  pub b_in : Takes (sort_at rows) count sort.Int l.b
  pub c_in : Takes (sort_at rows) count sort.Int l.c
  pub least : 1 ≤ l.k
  pub most : l.k ≤ 32
  pub room : count + size ≤ length rows
  pub limit : count + size ≤ 32768

int_sort : (t : Sort) → is_bool t ≡ false → t ≡ sort.Int
int_sort sort.Int e = refl
int_sort sort.Bool e = absurd (false≢true (sym e))

-- a test that is passed where no cause is left
past : (test : Bool) (cause : Cause) (rest : Option Cause) → cond test (Some cause) rest ≡ None → (test ≡ false) × (rest ≡ None)
past true cause rest e = cc
past false cause rest e = (refl, e)

none_of : (p q r : Bool) → p || (q || r) ≡ false → (p ≡ false) × (q ≡ false) × (r ≡ false)
none_of p q r e = let rest = or_parts q r (or_parts p (q || r) e).1 in ((or_parts p (q || r) e).0, rest.0, rest.1)

pub fit : (size : ℕ) (rows : List Row) (count : ℕ) (l : Lemma) → cause_of size rows count l ≡ None → Fit size rows count l
fit size rows count l e =
    let in_table = past (ltb (length rows) count) _ _ e in
    let operands = past (outside count l) _ _ in_table.1 in
    let sorts = past (misfit rows l) _ _ operands.1 in
    let width = past (off_width l.k) _ _ sorts.1 in
    let roomy = past (no_room size rows count) _ _ width.1 in
    let inside = none_of (leb count l.a) (leb count l.b) (leb count l.c) operands.0 in
    let ints = none_of (is_bool (sort_at rows l.a)) (is_bool (sort_at rows l.b)) (is_bool (sort_at rows l.c)) sorts.0 in
    let wide = or_parts (ltb l.k 1) (ltb 32 l.k) width.0 in
    let far = ltb-false (min (length rows) 32768) (count + size) roomy.0 in
    record {
      a_in = (leb-false count l.a inside.0, int_sort (sort_at rows l.a) ints.0);
      b_in = (leb-false count l.b inside.1, int_sort (sort_at rows l.b) ints.1);
      c_in = (leb-false count l.c inside.2, int_sort (sort_at rows l.c) ints.2);
      least = ltb-false l.k 1 wide.0;
      most = ltb-false 32 l.k wide.1;
      room = omega (arith, far);
      limit = omega (arith, far);
    }

-- and where all this is so, there is no cause
pub free : (size : ℕ) (rows : List Row) (count : ℕ) (l : Lemma) → Fit size rows count l → cause_of size rows count l ≡ None
free size rows count l f =
    let short : ltb (length rows) count ≡ false = le-ltb (length rows) count (omega (arith, f.room)) in
    let operands : outside count l ≡ false =
    or_from (leb count l.a) (leb count l.b || leb count l.c) (lt-leb count l.a f.a_in.0) (or_from (leb count l.b) (leb count l.c) (lt-leb count l.b f.b_in.0) (lt-leb count l.c f.c_in.0)) in
    let ints : misfit rows l ≡ false =
    or_from (is_bool (sort_at rows l.a)) (is_bool (sort_at rows l.b) || is_bool (sort_at rows l.c)) (ap is_bool f.a_in.1)
    (or_from (is_bool (sort_at rows l.b)) (is_bool (sort_at rows l.c)) (ap is_bool f.b_in.1) (ap is_bool f.c_in.1)) in
    let width : off_width l.k ≡ false = or_from (ltb l.k 1) (ltb 32 l.k) (le-ltb l.k 1 f.least) (le-ltb 32 l.k f.most) in
    let roomy : no_room size rows count ≡ false = le-ltb (min (length rows) 32768) (count + size) (omega (arith, f.room, f.limit)) in
    cond-false _ _ _ short ∙ cond-false _ _ _ operands ∙ cond-false _ _ _ ints ∙ cond-false _ _ _ width ∙ cond-false _ _ _ roomy

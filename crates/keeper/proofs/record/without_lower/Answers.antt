use Rattle.std.proofs.Common.{◌≡◌, ℕ, ◌/◌, ◌^◌, ◌<◌, ◌≤◌, Some, None, Option, SomeIff, unwrap_or, sym, ◌∙◌, arith, pow_mono}
use Rattle.std.proofs.Math.Nat.{div-eq_of_lt}
use Rattle.keeper.proofs.record.without_lower.Goals as goal

-- no bit of n is left from the 64th on
cut : (shifted : Option ℕ) (n lower : ℕ) → n < 2 ^ 64 → SomeIff shifted (lower < 64) (n / 2 ^ lower) → unwrap_or shifted 0 ≡ n / 2 ^ lower
cut (Some x) n lower fits s = s.1
cut None n lower fits s =
    let past : 64 ≤ lower = omega arith in
    let more : 2 ^ 64 ≤ 2 ^ lower = pow_mono past in
    let small : n < 2 ^ lower = omega arith in
    sym (div-eq_of_lt small)

pub returns : goal.returns
returns c = c.unwrap_or.ensures ∙ cut c.checked_shr.result c.args.n c.args.lower c.ranges.n.fits c.checked_shr.ensures

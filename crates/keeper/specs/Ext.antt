-- Two interval records are equal where their numbers are.
use Rattle.std.specs.Prelude.{◌≡◌, ◌^◌, ◌<◌, ◌≤◌}
use mathlib.Core.HLevel.{is_prop→PathP}
use Rattle.std.proofs.Math.Bridge.{le_prop}
use Rattle.keeper.specs.declared.record.IntervalRecord.{IntervalRecord}

pub interval_ext : (a b : IntervalRecord) → a.width ≡ b.width → a.lo ≡ b.lo → a.hi ≡ b.hi → a ≡ b
interval_ext a b e f h = λ i. record {
  width = e i;
  lo = f i;
  hi = h i;
  ok = (
    is_prop→PathP (λ j. f j ≤ h j) (λ j. le_prop) a.ok.0 b.ok.0 i,
    is_prop→PathP (λ j. h j < 2 ^ e j) (λ j. le_prop) a.ok.1 b.ok.1 i,
  );
}

use Rattle.std.proofs.Common.{◌≡◌, ℕ, ◌<◌, ◌≤◌, length, take, true}
use Rattle.std.specs.Prelude.{slice_index}
use Rattle.target.specs.Values.{value_at}
use Rattle.target.specs.Meaning.{unknowns}
use Rattle.target.specs.Soundness.{Sound}
use Rattle.scheme_tests.specs.Evaluated.{code, has_code, meant}
use Rattle.scheme_tests.proofs.evaluate.evaluate.Given as goal

abbrev pub invariant-loop-i : goal.invariant-loop-i
invariant-loop-i l = record {
  counted : l.n ≡ unknowns (take l.i l.rows);
  few : l.n ≤ l.i;
  codes : Sound l.rows → ((j : ℕ) → j < length l.rows → has_code (value_at (meant l.numbers l.rows) j) ≡ true) →
      (j : ℕ) → j < l.i → j < length l.values → slice_index l.values j ≡ code (value_at (meant l.numbers l.rows) j);
  rest : (j : ℕ) → l.i ≤ j → slice_index l.values j ≡ slice_index l.initial.values j;
}

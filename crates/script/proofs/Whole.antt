-- The reading of a whole script, up to its commands.
use Rattle.std.proofs.Common.{◌≡◌, ℕ, ◌<◌, ◌≤◌, List, length, Ok, Err, refl, ◌∙◌}
use Rattle.std.proofs.lemmas.Bool.{lt-ltb, le-ltb, cond-true, cond-false}
use Rattle.refusal.specs.declared.Refusal.{Refusal}
use Rattle.script.specs.declared.steps.Reader.{Reader}
use Rattle.script.specs.Tokens.{token_at}
use Rattle.script.specs.Reading.{full, nothing_read, prologue_at, commands_at, script_at, text_in, reading}

module _ (n m : ℕ) (bytes : List ℕ) where
  pub too_long : 65536 < length bytes → reading n m bytes ≡ Err (full 65536)
  unfolding reading
  too_long h = cond-true _ _ _ (lt-ltb 65536 (length bytes) h)

  module _ (h : length bytes ≤ 65536) where
    begun : reading n m bytes ≡ script_at (token_at bytes) (text_in bytes) n m 0
    unfolding reading
    begun = cond-false _ _ _ (le-ltb 65536 (length bytes) h)

    pub no_prologue : (e : Refusal) → Err e ≡ prologue_at (token_at bytes) (text_in bytes) 0 → reading n m bytes ≡ Err e
    no_prologue e p = begun ∙ rw (← p) refl

    pub from_commands : (r : Reader) → Ok r.pos ≡ prologue_at (token_at bytes) (text_in bytes) 0 → r.script.now ≡ bytes
        → reading n m bytes ≡ commands_at (token_at r.script.now) (text_in r.script.now) m n nothing_read r.pos
    from_commands r p s = rw s (begun ∙ rw (← p) refl)

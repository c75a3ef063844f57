-- A declaration that is read, from its name to its last parenthesis.
use Rattle.std.proofs.Common.{◌≡◌, ℕ, List, Ok, Err, Result, IsErrAnd, refl, ap, ◌∙◌}
use Rattle.refusal.specs.declared.Refusal.{Refusal}
use Rattle.script.specs.declared.token.Span.{Span}
use Rattle.script.specs.declared.names.Name.{Name}
use Rattle.script.specs.declared.command.Form.{Form}
use Rattle.script.specs.declared.command.Declaration.{Declaration}
use Rattle.script.specs.declared.steps.Reader.{Reader}
use Rattle.script.specs.Tokens.{token_at}
use Rattle.script.specs.Steps.{is_close, is_name, accept, passed}
use Rattle.script.specs.Reading.{texts, text_in, take_name, parameters_at, sort_at, declaration_at}

-- the readers r, at the start, and a, b and c, after the name, the parameters and the sort
module _ (room : ℕ) (form : Form) (names : List Name) (r a b c : Reader) (name title : Span) (width : ℕ)
    (named : Ok name ≡ accept is_name (token_at r.script.now r.pos)) (to_a : a ≡ passed r (Ok name))
    (free : Ok title ≡ take_name (texts (token_at a.script.now) (text_in a.script.now) names) room (text_in a.script.now name.place name.after) name) (same : title ≡ name)
    (behind : Ok b.pos ≡ parameters_at (token_at a.script.now) (text_in a.script.now) form a.pos) (to_b : b.script ≡ a.script)
    (sorted : Ok (width, c.pos) ≡ sort_at (token_at b.script.now) (text_in b.script.now) b.pos) (to_c : c.script ≡ b.script) where
  script_of_c : c.script ≡ r.script
  script_of_c = to_c ∙ (to_b ∙ ap (λ x. x.script) to_a)

  pub declared_as : (close : Span) → Ok close ≡ accept is_close (token_at c.script.now c.pos)
      → Ok (record { name = title; width = width; close = close }) ≡ declaration_at (token_at r.script.now) (text_in r.script.now) room form names r.pos
  declared_as close e =
      let f = rw to_a at free in
      let p = rw to_a at behind in
      let s = rw (to_b, to_a) at sorted in
      let z = rw script_of_c at e in
      rw (same, ← named, ← f, same, ← p, ← s, ← z) refl

  pub no_close : (r' : Result Declaration Refusal) (e : Refusal) → IsErrAnd r' (λ x. x ≡ e) → Err e ≡ accept is_close (token_at c.script.now c.pos)
      → r' ≡ declaration_at (token_at r.script.now) (text_in r.script.now) room form names r.pos
  no_close (Ok x) e h g = absurd h
  no_close (Err x) e h g =
      let f = rw to_a at free in
      let p = rw to_a at behind in
      let s = rw (to_b, to_a) at sorted in
      let z = rw script_of_c at g in
      rw (h, ← named, ← f, same, ← p, ← s, ← z) refl

use Rattle.std.proofs.Common.{sym, ◌∙◌}
use Rattle.std.proofs.lemmas.Bool.{cond-true, cond-false}
use Rattle.script.proofs.steps.keyword_of.Goals as goal

pub returns-then-eq-2 : goal.returns-then-eq-2
returns-then-eq-2 c = sym (cond-false _ _ _ (sym c.if-eq.ensures) ∙ cond-true _ _ _ (sym c.if-eq-2.ensures))

pub returns-then-eq-3 : goal.returns-then-eq-3
returns-then-eq-3 c =
    sym (cond-false _ _ _ (sym c.if-eq.ensures) ∙ (cond-false _ _ _ (sym c.if-eq-2.ensures) ∙ cond-true _ _ _ (sym c.if-eq-3.ensures)))

pub returns : goal.returns
returns c =
    sym (cond-false _ _ _ (sym c.if-eq.ensures) ∙ (cond-false _ _ _ (sym c.if-eq-2.ensures) ∙ cond-false _ _ _ (sym c.if-eq-3.ensures)))

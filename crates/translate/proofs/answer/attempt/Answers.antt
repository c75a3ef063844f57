use Rattle.std.proofs.Common.{length, ap, sym, ◌∙◌, Err}
use Rattle.std.proofs.lemmas.Bool.{cond-true, lt-ltb}
use Rattle.workbook.specs.Pages.{nothing_used, pages_at}
use Rattle.refusal.specs.declared.Refusal.{Refusal}
use Rattle.translate.proofs.answer.attempt.Goals as goal

pub returns-then-script-gt-BYTES : goal.returns-then-script-gt-BYTES
returns-then-script-gt-BYTES c = (
  nothing_used,
  ap (λ (e : Refusal). (Err e, pages_at nothing_used c.args.lent.now.tables)) c.at.ensures
      ∙ sym (cond-true _ _ _ (lt-ltb 16384 (length c.args.script.now) c.if-script-gt-BYTES.true)),
)

use Rattle.std.proofs.Common.{◌≡◌, rules, ◌∙◌}
use Rattle.operators.specs.Line.{line_value}
use Rattle.operators.proofs.Spelled.{spelled}
use Rattle.operators.proofs.line.value.Goals as goal

pub returns-in_err-op-clause-spelled : goal.returns-in_err-op-clause-spelled
returns-in_err-op-clause-spelled c =
    let reads : c.from_residual.result ≡ line_value c.args.line.now = search rules in
    λ op operands writable is. reads ∙ spelled op operands c.args.line.now writable is

pub returns-clause-spelled : goal.returns-clause-spelled
returns-clause-spelled c =
    let reads : c.value_in.result ≡ line_value c.args.line.now = search rules in
    λ op operands writable is. reads ∙ spelled op operands c.args.line.now writable is

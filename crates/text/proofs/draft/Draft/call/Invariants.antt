use Rattle.std.proofs.Common.{◌≡◌, ◌++◌, drop}
use Rattle.text.specs.Kept.{kept}
use Rattle.text.specs.Lines.{operands_text, call_text}
use Rattle.text.proofs.draft.Draft.call.Given as goal

abbrev pub invariant-loop-row : goal.invariant-loop-row
invariant-loop-row l = kept (l.self ++ operands_text (drop l.row-index l.operands)) ≡ kept (l.fn.self ++ call_text l.op l.operands)

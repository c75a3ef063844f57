use Rattle.std.proofs.Common.{rules}
use Rattle.std.proofs.lemmas.Slice.{overwrites}
use Rattle.text.proofs.Kept.{kept_whole}
use Rattle.text.proofs.draft.Draft.text.Goals as goal

pub returns-then-end-le128 : goal.returns-then-end-le128
returns-then-end-le128 c = search (rules, overwrites, kept_whole)

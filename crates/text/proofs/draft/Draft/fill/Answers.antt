use Rattle.std.proofs.Common.{rules}
use Rattle.std.proofs.lemmas.Slice.{overwrites}
use Rattle.text.proofs.Kept.{kept_part}
use Rattle.text.proofs.draft.Draft.fill.Goals as goal

pub returns : goal.returns
returns c = search (rules, overwrites, kept_part)

-- A line is its pieces, one behind another.
use Rattle.std.proofs.Common.{◌≡◌, ℕ, suc, ◌+◌, ◌<◌, List, ◌∷◌, length, get_or, drop, ap, ◌∙◌, append_assoc, append-nil, length-append, drop-cons, add-one}
use Rattle.std.proofs.lemmas.List.{drop_all}
use Rattle.text.specs.Lines.{operands_text}
use Rattle.text.proofs.Kept.{kept_more, kept_whole}
use Rattle.text.proofs.Numerals.{numeral_short}

pub ruleset pieces = (kept_more, kept_whole, append_assoc, length-append, numeral_short)

-- the first of the operands that are left
pub operands_left : (rows : List ℕ) (i : ℕ) → i < length rows → operands_text (drop i rows) ≡ operands_text (get_or rows i 0 ∷ drop (i + 1) rows)
operands_left rows i h = rw add-one (ap operands_text (drop-cons rows i 0 h))

pub ruleset operands = (kept_more, append_assoc, append-nil, operands_left, drop_all)

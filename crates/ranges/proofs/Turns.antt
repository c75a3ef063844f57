-- One turn of the loop over a table's rows.
use Rattle.std.proofs.Common.{◌≡◌, ℕ, ◌+◌, ◌<◌, ◌≤◌, List, length, get_or, take, drop, set, sym, ap, ◌∙◌}
use Rattle.std.proofs.lemmas.List.{at_drop_more, at_drop_all}
use Rattle.source.specs.declared.operator.Operator.{Operator}
use Rattle.ranges.specs.declared.entry.Entry.{Entry}
use Rattle.ranges.specs.Filled.{record_of, filled}

pub one_more : {R : Type 0} (whole : ℕ → R) (exact : ℕ → ℕ → R) (makes : Operator → ℕ → R → R → R → R) (es : List Entry) (i : ℕ) (rs next : List R) (e : Entry) →
    i < length es → e ≡ get_or es i e → next ≡ set rs i (record_of whole exact makes (take i rs) e) →
    filled whole exact makes (i + 1) (drop (i + 1) es) next ≡ filled whole exact makes i (drop i es) rs
one_more {R} whole exact makes es i rs next e h is n =
    ap (filled whole exact makes (i + 1) (drop (i + 1) es)) (n ∙ ap (λ (x : Entry). set rs i (record_of whole exact makes (take i rs) x)) is)
    ∙ sym (at_drop_more (λ l. filled whole exact makes i l rs) es i e h)

pub no_more : {R : Type 0} (whole : ℕ → R) (exact : ℕ → ℕ → R) (makes : Operator → ℕ → R → R → R → R) (es : List Entry) (i : ℕ) (rs all : List R) →
    length es ≤ i → filled whole exact makes i (drop i es) rs ≡ all → rs ≡ all
no_more whole exact makes es i rs all h e = sym (at_drop_all (λ l. filled whole exact makes i l rs) es i h) ∙ e

use Rattle.std.proofs.Common.{rules, tests}
use Rattle.std.specs.Str.{bytes_eq}
use Rattle.std.proofs.lemmas.Iterator.{YieldsList-from_slice}
use Rattle.std.proofs.lemmas.Iterator.Search.{any_from_yields_List}
use Rattle.script.proofs.Tables.{operator_first, word_then}
use Rattle.script.proofs.words.is_reserved.Goals as goal

pub returns-then-any : goal.returns-then-any
returns-then-any c =
    operator_first c.args.text.now _ c.if-any.true
    (any_from_yields_List (λ o. bytes_eq o.name.now c.args.text.now) _ _ c.any.result c.any.ensures.ran (YieldsList-from_slice _ c.iter.ensures.rest) (λ x b q k. search (rules, tests)))

pub returns-else-any : goal.returns-else-any
returns-else-any c =
    word_then c.args.text.now _ _ c.if-any.false
    (any_from_yields_List (λ o. bytes_eq o.name.now c.args.text.now) _ _ c.any.result c.any.ensures.ran (YieldsList-from_slice _ c.iter.ensures.rest) (λ x b q k. search (rules, tests)))
    (any_from_yields_List (λ w. bytes_eq w.now c.args.text.now) _ _ c.any-else-any.result c.any-else-any.ensures.ran (YieldsList-from_slice _ c.iter-else-any.ensures.rest) (λ x b q k. search (rules, tests)))

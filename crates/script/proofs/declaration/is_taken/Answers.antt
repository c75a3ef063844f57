use Rattle.std.proofs.Common.{◌∙◌, sym, rules, tests}
use Rattle.std.specs.Str.{bytes_eq}
use Rattle.std.proofs.lemmas.Iterator.{YieldsList-from_slice}
use Rattle.std.proofs.lemmas.Iterator.Search.{any_from_yields_List}
use Rattle.script.specs.Reading.{text_in}
use Rattle.script.proofs.Tables.{among-map}
use Rattle.script.proofs.declaration.is_taken.Goals as goal

pub returns : goal.returns
returns c =
    let text = c.args.text.now in
    any_from_yields_List (λ n. bytes_eq (text_in c.args.script.now n.place n.after) text) _ _ _ c.any.ensures.ran (YieldsList-from_slice _ c.iter.ensures.rest) (λ x b q k. search (rules, tests))
    ∙ sym (among-map (λ n. text_in c.args.script.now n.place n.after) c.args.names.now text)

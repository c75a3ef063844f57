use Rattle.std.proofs.Common.{◌≡◌, None, ◌++◌, sym, ap, ◌∙◌, arith, length}
use Rattle.std.proofs.lemmas.List.{at_drop_all}
use Rattle.std.proofs.lemmas.Result.{IfOk-equal}
use Rattle.vectors.specs.Pieces.{script_of}
use Rattle.vectors.specs.Steps.{state, with_copies}
use Rattle.vectors.proofs.Spelled.{run, reading_at, fresh, line_read}
use Rattle.vectors.proofs.decode.decode.Goals as goal

pub returns-clause-decodes : goal.returns-clause-decodes
returns-clause-decodes c pieces are spelled =
    let before = c.args.script.now.items in
    let start : c.len.result ≡ length before = omega (arith, c.args.script.now.ok.0) in
    let read : with_copies (state c.loop-b.reading c.loop-b.script.items) ≡ before ++ script_of pieces =
    ap with_copies (sym (at_drop_all (run (state c.loop-b.reading c.loop-b.script.items)) c.args.line.now c.loop-b.b-index (omega arith)) ∙ c.loop-b.invariant.reads
    ∙ ap (λ n. run (reading_at n None before) c.args.line.now) start ∙ ap (run (fresh before)) spelled) ∙ line_read pieces before are in
    IfOk-equal c.repeat.result c.repeat.new.script.items (with_copies (state c.loop-b.reading c.loop-b.script.items)) (before ++ script_of pieces) c.repeat.ensures.repeats read

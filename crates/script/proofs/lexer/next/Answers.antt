use Rattle.std.proofs.Common.{◌+◌, ◌≤◌, length, ap, ◌∙◌, sym, arith, rules}
use Rattle.std.proofs.lemmas.Result.{IfOk-weaker}
use Rattle.script.specs.Tokens.{refused}
use Rattle.script.proofs.Lexing.{run_is, run_inside, at_end, at_open, at_close, at_other, at_atom}
use Rattle.script.proofs.lexer.next.Goals as goal

pub returns-then-place-script-clause-value : goal.returns-then-place-script-clause-value
returns-then-place-script-clause-value c = rw c.new.ensures (at_end c.args.script.now c.args.from _ c.skip-place.ensures.value (omega arith))

pub returns-in-40-clause-value : goal.returns-in-40-clause-value
returns-in-40-clause-value c = rw c.new-in-40.ensures (at_open c.args.script.now c.args.from _ c.skip-place.ensures.value (omega arith) c.in-40.is)

pub returns-in-41-clause-value : goal.returns-in-41-clause-value
returns-in-41-clause-value c = rw c.new-in-41.ensures (at_close c.args.script.now c.args.from _ c.skip-place.ensures.value (omega arith) c.in-41.is)

pub overflow_add-after : goal.overflow_add-after
overflow_add-after c = omega (arith, run_inside c.args.script.now c.skip-place.result c.run.result (omega arith) c.run.ensures, c.skip-place.ensures.bound)

pub slice_bounds-atom-end : goal.slice_bounds-atom-end
slice_bounds-atom-end c = let h : c.skip-place.result + c.run.result ≤ length c.args.script.now = run_inside c.args.script.now c.skip-place.result c.run.result (omega arith) c.run.ensures in search rules

pub returns-in_default-clause-value : goal.returns-in_default-clause-value
returns-in_default-clause-value c =
    let e = run_is c.args.script.now c.skip-place.result c.run.result (omega arith) c.run.ensures in
    c.atom.ensures.value ∙ at_atom c.args.script.now c.args.from _ c.skip-place.ensures.value (omega arith) (λ e. search rules) (λ e. search rules) _ e (sym c.if-has.ensures)

pub returns-in_default-clause-bound : goal.returns-in_default-clause-bound
returns-in_default-clause-bound c =
    let h = run_inside c.args.script.now c.skip-place.result c.run.result (omega arith) c.run.ensures in
    IfOk-weaker c.atom.result _ _ (λ l e. rw e (record { begins = omega arith; ends = omega arith; inside = omega arith })) c.atom.ensures.bound

pub returns-in_default-2-clause-value : goal.returns-in_default-2-clause-value
returns-in_default-2-clause-value c =
    ap refused c.at.ensures ∙ at_other c.args.script.now c.args.from _ c.skip-place.ensures.value (omega arith) (λ e. search rules) (λ e. search rules) (sym c.if-has.ensures)

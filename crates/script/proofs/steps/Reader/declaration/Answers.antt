use Rattle.script.specs.Filled.{filled, room_of}
use Rattle.script.proofs.Declaring.{declared_as, no_close}
use Rattle.script.proofs.steps.Reader.declaration.Goals as goal

pub returns-in_err-close-clause-value : goal.returns-in_err-close-clause-value
returns-in_err-close-clause-value c =
    no_close (room_of c.args.names.now) c.args.form (filled c.args.names.now) c.args.self.now c.name.new.self c.parameters.new.self c.sort.new.self c.in_ok-name.name c.in_ok-name-2.name c.in_ok-width.width
    c.in_ok-name.ensures.value c.in_ok-name.ensures.reader c.in_ok-name-2.ensures.value c.in_ok-name-2.ensures.place
    c.in_ok-parameters.ensures.value c.in_ok-parameters.ensures.script c.in_ok-width.ensures.value c.in_ok-width.ensures.script
    _ _ c.from_residual-in_err-close.ensures.1 c.in_err-close.ensures.value

pub returns-clause-value : goal.returns-clause-value
returns-clause-value c =
    declared_as (room_of c.args.names.now) c.args.form (filled c.args.names.now) c.args.self.now c.name.new.self c.parameters.new.self c.sort.new.self c.in_ok-name.name c.in_ok-name-2.name c.in_ok-width.width
    c.in_ok-name.ensures.value c.in_ok-name.ensures.reader c.in_ok-name-2.ensures.value c.in_ok-name-2.ensures.place
    c.in_ok-parameters.ensures.value c.in_ok-parameters.ensures.script c.in_ok-width.ensures.value c.in_ok-width.ensures.script
    _ c.in_ok-close.ensures.value

use Rattle.std.proofs.Common.{◌≡◌, rules}
use Rattle.source.specs.Values.{value_of}
use Rattle.source.proofs.Closure.{closed}
use Rattle.source.proofs.apply.apply.Goals as goal

pub returns-then-takes-clause-closed : goal.returns-then-takes-clause-closed
returns-then-takes-clause-closed c =
    let is : c.give.result ≡ value_of c.args.op c.args.a c.args.b c.args.c = search rules in
    λ h. rw is (closed c.args.op c.args.a c.args.b c.args.c h)

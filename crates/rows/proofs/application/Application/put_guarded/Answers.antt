use Rattle.std.proofs.Common.{◌≡◌, ℕ, ◌+◌, false, List, [], ◌∷◌, length, sym, refl, ap, ◌∙◌, arith, length-append}
use Rattle.target.specs.declared.row.Sort.TheVariants.{Int}
use Rattle.target.specs.declared.row.Row.{Row}
use Rattle.target.specs.declared.row.Row.TheVariants.{Number, Equal, Choose}
use Rattle.target.specs.Tables.{laid}
use Rattle.target.proofs.Laying.{laid_three}
use Rattle.rows.specs.Rows.{spared}
use Rattle.rows.proofs.application.Application.put_guarded.Goals as goal

pub returns-clause-table : goal.returns-clause-table
returns-clause-table c =
    let not : spared c.args.self.op c.args.self.o ≡ false = sym c.spared.ensures ∙ c.if-spared.false in
    let choice : ℕ → List Row = λ n. c.args.division ∷ Choose Int (c.args.at + 1) c.args.other n ∷ [] in
    let next : c.put-next.result ≡ c.args.at + (2 + length c.args.before.now) = omega arith in
    let room = rw not at c.requires in
    rw not
    (laid_three c.args.rows.now c.put-2.new.rows c.put-next.new.rows c.put-3.new.rows c.args.at (c.args.at + 2) c.put-next.result
    (Number 0 ∷ Equal c.args.self.o.b c.args.at ∷ []) c.args.before.now (choice (c.args.at + (2 + length c.args.before.now))) c.put-2.ensures.table c.put-next.ensures.table
    (c.put-3.ensures.table ∙ ap (λ n. laid c.put-next.new.rows c.put-next.result (choice n)) next) refl (omega arith)
    (omega (arith, room, length-append c.args.before.now (choice (c.args.at + (2 + length c.args.before.now))))))

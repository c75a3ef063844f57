use Rattle.std.proofs.Common.{List, get_or, sym, ◌∙◌, subst, arith}
use Rattle.keeper.specs.Descriptions.{Describes}
use Rattle.ranges.specs.Filled.{filled}
use Rattle.ranges.specs.Meaning.{value_at}
use Rattle.ranges.proofs.Law.{Lawful, all_described}
use Rattle.ranges.proofs.Turns.{one_more, no_more}
use Rattle.ranges.proofs.fill.fill.Goals as goal

pub loop-i-preserved : goal.loop-i-preserved
loop-i-preserved g c =
    one_more (g.K.Keeper.whole c.args.keeper.now) (g.K.Keeper.exact c.args.keeper.now) (g.K.Keeper.makes c.args.keeper.now)
    c.args.entries.now c.loop-i.i c.loop-i.records c.put.new.records c.index-entries-i.result
    c.loop-i-test.true c.index-entries-i.is c.put.ensures
    ∙ c.loop-i.invariant

pub returns : goal.returns
returns g c =
    let keeper = c.args.keeper.now in
    let whole = g.K.Keeper.whole keeper in
    let exact = g.K.Keeper.exact keeper in
    let makes = g.K.Keeper.makes keeper in
    let end = no_more whole exact makes c.args.entries.now c.loop-i.i c.loop-i.records
    (filled whole exact makes 0 c.args.entries.now c.args.records.now) c.loop-i-test.false c.loop-i.invariant in
    let laws : Lawful (g.K.Keeper.bears keeper) (g.K.Keeper.holds keeper) whole exact makes =
    record {
      whole_bears_lem = g.met.K.Keeper.whole_bears keeper;
      whole_holds_lem = g.met.K.Keeper.whole_holds keeper;
      exact_bears_lem = g.met.K.Keeper.exact_bears keeper;
      exact_holds_lem = g.met.K.Keeper.exact_holds keeper;
      makes_bears_lem = g.met.K.Keeper.makes_bears keeper;
      makes_holds_lem = g.met.K.Keeper.makes_holds keeper;
    } in
    record {
      outcome = end;
      sound = λ vs rows j d p q.
          subst (λ (rs : List g.row.K-Record.Denot). Describes (g.K.Keeper.bears keeper) (g.K.Keeper.holds keeper) (get_or rs j d) (value_at vs j)) (sym end)
          (all_described (g.K.Keeper.bears keeper) (g.K.Keeper.holds keeper) whole exact makes laws vs
          c.args.entries.now 0 c.args.records.now (λ m e l b. absurd (omega arith)) rows j d (omega arith) q);
    }

use Rattle.std.proofs.Common.{◌≡◌, true, is_ok, sym, ap, ◌∙◌}
use Rattle.workbook.specs.Pages.{pages_in}
use Rattle.workbook.specs.Room.{long_enough}
use Rattle.workbook.proofs.Long.{after_all}
use Rattle.workbook.proofs.calls.feed.Goals as goal

pub returns-clause-long : goal.returns-clause-long
returns-clause-long g c = λ ok.
    let long : is_ok (long_enough (pages_in c.args.book.now c.args.t.now)) ≡ true = sym (c.map_err.ensures.variant ∙ ap is_ok c.check_lengths.ensures) ∙ ap is_ok c.in_ok-map_err.was in
    after_all (g.K.Keeper.whole c.args.keeper.now) c.args.orders.now (pages_in c.args.book.now c.args.t.now) (pages_in c.enter_all.new.book c.enter_all.new.t) c.enter_all.result
    long c.enter_all.ensures.outcome

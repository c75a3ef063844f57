use Rattle.std.proofs.Common.{length, Err, sym, refl, subst}
use Rattle.std.proofs.lemmas.Result.{err_from_is_err_and}
use Rattle.workbook.specs.Pages.{pages_at, nothing_used}
use Rattle.workbook.specs.declared.counts.Counts.{Counts}
use Rattle.translate.specs.Translation.{read_for}
use Rattle.workbook.specs.Room.{Long}
use Rattle.translate.proofs.Steps.{read_refused, from_begun, from_sealed}
use Rattle.translate.proofs.translate.translate.Goals as goal

pub returns-in_err-count-clause-outcome : goal.returns-in_err-count-clause-outcome
returns-in_err-count-clause-outcome g c =
    let p = err_from_is_err_and c.from_residual.result c.from_residual.ensures.1 in
    rw p.1 (nothing_used, rw p.2 (read_refused (g.K.Keeper.whole c.args.keeper.now) (read_for (length c.args.orders.now) (length c.args.names.now) c.args.script.now) (pages_at nothing_used c.args.t.now) _ c.in_err-count.ensures.answer))

pub returns-in_err-feed-clause-outcome : goal.returns-in_err-feed-clause-outcome
returns-in_err-feed-clause-outcome g c =
    let p = err_from_is_err_and c.from_residual-in_err-feed.result c.from_residual-in_err-feed.ensures.1 in
    rw p.1 (
      c.feed.new.book.counts,
      rw p.2 (from_begun (g.K.Keeper.whole c.args.keeper.now) (read_for (length c.args.orders.now) (length c.args.names.now) c.args.script.now) c.args.t.now c.begin-book.result.counts c.begin-book.ensures
          (length c.args.orders.now) c.in_ok-count.count c.read.new.orders c.in_ok-count.ensures.answer c.read.ensures.orders
          (Err c.in_err-feed.field-0.0) (pages_at c.feed.new.book.counts c.feed.new.t) c.in_err-feed.ensures.outcome),
    )

pub returns-clause-outcome : goal.returns-clause-outcome
returns-clause-outcome g c = (
  from_sealed (g.K.Keeper.whole c.args.keeper.now) (read_for (length c.args.orders.now) (length c.args.names.now) c.args.script.now) c.args.t.now c.begin-book.result.counts c.begin-book.ensures
      (length c.args.orders.now) c.in_ok-count.count c.read.new.orders c.in_ok-count.ensures.answer c.read.ensures.orders
      c.seal.result.counts c.feed.new.book.counts c.feed.new.t c.in_ok-feed.field-0 c.seal.ensures c.in_ok-feed.ensures.outcome,
  subst (λ (k : Counts). Long (pages_at k c.feed.new.t)) (sym c.seal.ensures) (c.in_ok-feed.ensures.long refl),
)

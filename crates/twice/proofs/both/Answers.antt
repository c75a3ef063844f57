use Rattle.twice.proofs.Twos.{second_granted, granted}
use Rattle.twice.proofs.both.Goals as goal

pub returns-in_err-second : goal.returns-in_err-second
returns-in_err-second g c =
    absurd (second_granted c.size_at-size.result (g.S.Scheme.size c.args.scheme.now c.args.lemma.k) (g.S.Scheme.adds c.args.scheme.now) c.args.rows.now
    c.args.count c.args.lemma c.args.d c.args.e c.size_at-size.ensures
    c.in_ok-check.ensures.first c.in_ok-check-2.ensures.first
    c.state.new.rows c.in_ok-first.first _ c.in_ok-first.ensures.1 c.in_err-second.ensures.0)

pub returns : goal.returns
returns g c =
    granted c.size_at-size.result (g.S.Scheme.size c.args.scheme.now c.args.lemma.k) (g.S.Scheme.adds c.args.scheme.now) c.args.rows.now
    c.args.count c.args.lemma c.args.d c.args.e c.size_at-size.ensures
    c.in_ok-check.ensures.first c.in_ok-check-2.ensures.first
    c.state.new.rows c.state-2.new.rows c.lay.new.rows c.in_ok-first.first c.in_ok-second.second
    c.in_ok-first.ensures.1 c.in_ok-second.ensures.1 (λ h. (c.lay.ensures.room h).1)

use Rattle.history.proofs.Steps.{answers_agree}
use Rattle.week.proofs.week.Week.compare.Goals as goal

pub returns : goal.returns
returns g c run s t is-s is-t =
    let now = c.run.ensures.on run in
    answers_agree _ _ now (c.in_ok-first.ensures.promised now) 0 2 s t (c.in_ok-first.ensures.shown s is-s) (c.in_ok-second.ensures.shown t is-t)

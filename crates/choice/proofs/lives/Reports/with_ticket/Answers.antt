use Rattle.std.proofs.Common.{inl, inr}
use Rattle.std.proofs.lemmas.Bool.Decides.{not_from_Decides}
use Rattle.choice.proofs.lives.Reports.with_ticket.Goals as goal

pub returns-then-live : goal.returns-then-live
returns-then-live c =
    inr (not_from_Decides _ c.settled.ensures c.if-not-settled.true, inl (c.live.ensures.0 c.if-live.true, c.joined.ensures))

use Rattle.std.proofs.Common.{ℕ, arith, below_more}
use Rattle.std.proofs.lemmas.Bool.Decides.{not_from_Decides}
use Rattle.sets.specs.Sets.{Has, Large}
use Rattle.sets.proofs.Sides.{one_falls, all_stand}
use Rattle.table.specs.Tables.{Quorum, In}
use Rattle.table.specs.Means.{listed}
use Rattle.table.specs.declared.table.Table.{Table}
use Rattle.table.proofs.table.Table.large_with_all.Goals as goal

-- the two and the quorum at place k
abbrev LargeAt : Table → Quorum → Quorum → ℕ → Type 0
LargeAt t a b k = Large t.faults.now (λ x. Has a.set x × Has b.set x × In (listed t) k x)

pub returns-then-not-share_large : goal.returns-then-not-share_large
returns-then-not-share_large c =
    one_falls (LargeAt c.args.self c.args.a c.args.b) _ c.loop-quorum.quorum-index (omega arith)
    (not_from_Decides c.share_large.result c.share_large.ensures c.if-not-share_large.true)

pub loop-quorum-preserved : goal.loop-quorum-preserved
loop-quorum-preserved c =
    below_more (LargeAt c.args.self c.args.a c.args.b) _ c.loop-quorum.invariant (c.share_large.ensures.0 c.if-not-share_large.false)

pub returns : goal.returns
returns c = all_stand (LargeAt c.args.self c.args.a c.args.b) _ c.loop-quorum.quorum-index (omega arith) c.loop-quorum.invariant

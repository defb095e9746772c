use Rattle.std.proofs.Common.{inl, inr}
use Rattle.sets.proofs.Bits.{with_is}
use Rattle.sets.proofs.with.Goals as goal

pub returns-then-x-lt16 : goal.returns-then-x-lt16
returns-then-x-lt16 c y =
    let lt = c.if-x-lt16.true in
    let is = with_is 16 c.args.s c.args.x lt y in (
      λ h. elim (is.0 h) [ inl i ↦ inl i | inr e ↦ inr (e, lt) ],
      λ h. is.1 (elim h [ inl i ↦ inl i | inr e ↦ inr e.0 ]),
    )

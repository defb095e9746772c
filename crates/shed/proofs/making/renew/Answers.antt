use Rattle.std.proofs.Common.{◌∙◌, ap, replicate, rules}
use Rattle.unit.specs.States.{fresh}
use Rattle.calls.proofs.Lent.{all_fresh}
use Rattle.shed.proofs.making.renew.Goals as goal

pub returns : goal.returns
returns c = let (last, ran) = c.fill_with.ensures.ran in
    all_fresh _ c.fill_with.new.self _ last (λ p q x called. search rules) ran ∙ ap (λ n. replicate n fresh) c.fill_with.ensures.len

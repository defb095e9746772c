use Rattle.std.proofs.Common.{rules, ◌≡◌, ℕ, ◌∙◌, ap, sym, subst, refl, Option, None, Some, Ok, Err, List}
use Rattle.packet.specs.Entries.{NextEntry}
use Rattle.packet.specs.declared.place.Place.{Place}
use Rattle.packet.proofs.Walks.{faults_go, faults_stop, faults_end}
use Rattle.packet.proofs.entries.Entries.each.Goals as goal

pub loop-entry-preserved-in-Continue-1 : goal.loop-entry-preserved-in-Continue-1
loop-entry-preserved-in-Continue-1 g c =
    let bs = c.args.self.bytes.now in
    let row = c.in-Some-entry.row in
    let s = c.loop-entry.entry-iterator in
    let t = c.next.new.self in
    let h : NextEntry s (Some (Some row)) t = subst (λ (r : Option (Option Place)). NextEntry s r t) (c.in-Some.is ∙ ap Some c.in-Some-entry.is) c.next.ensures.steps in
    let same : row.bytes.now ≡ bs = h.3.1 ∙ c.loop-entry.invariant.2 in (
      tt,
      tt,
      h.1 ∙ c.loop-entry.invariant.2,
      λ question puts.
          faults_go (question bs) bs s t (Some row) _ c.loop-entry.invariant.2 h (ap (λ (l : List ℕ). question l row.at) (sym same) ∙ puts row (Ok c.in_ok-ask.field-0) c.in_ok-ask.ensures) (c.loop-entry.invariant.3 question puts),
    )

pub returns-in_err-ask : goal.returns-in_err-ask
returns-in_err-ask g c =
    let bs = c.args.self.bytes.now in
    let row = c.in-Some-entry.row in
    let s = c.loop-entry.entry-iterator in
    let t = c.next.new.self in
    let h : NextEntry s (Some (Some row)) t = subst (λ (r : Option (Option Place)). NextEntry s r t) (c.in-Some.is ∙ ap Some c.in-Some-entry.is) c.next.ensures.steps in
    let same : row.bytes.now ≡ bs = h.3.1 ∙ c.loop-entry.invariant.2 in
    λ question puts.
    let stop = faults_stop (question bs) bs s t (Some row) _ c.in_err-ask.field-0.0 c.loop-entry.invariant.2 h (ap (λ (l : List ℕ). question l row.at) (sym same) ∙ puts row (Err c.in_err-ask.field-0.0) c.in_err-ask.ensures) (c.loop-entry.invariant.3 question puts) in
    search rules

pub loop-entry-preserved : goal.loop-entry-preserved
loop-entry-preserved g c =
    let s = c.loop-entry.entry-iterator in
    let t = c.next.new.self in
    let h : NextEntry s (Some None) t = subst (λ (r : Option (Option Place)). NextEntry s r t) (c.in-Some.is ∙ ap Some c.in_default.is) c.next.ensures.steps in
    (tt, tt, h.1 ∙ c.loop-entry.invariant.2, λ question puts. faults_go (question c.args.self.bytes.now) c.args.self.bytes.now s t None _ c.loop-entry.invariant.2 h refl (c.loop-entry.invariant.3 question puts))

pub returns : goal.returns
returns g c = λ question puts.
    let h : c.loop-entry.entry-iterator.left ≡ 0 = search rules in
    sym (c.loop-entry.invariant.3 question puts) ∙ faults_end (question c.args.self.bytes.now) c.args.self.bytes.now _ c.loop-entry.entry-iterator.at h

-- The worked runs, deed by deed.
use Rattle.std.proofs.Common.{◌≡◌, ℕ, true, false, List, [], ◌∷◌, None, refl, inl, inr, arith, lit<}
use mathlib.Core.List.{Memᴰ}
use native.Mathlib.Decide.{ℕ_discrete, dec_le, dec_lt}
use Rattle.base.specs.Limits.{views}
use Rattle.sets.specs.Sets.{Has, Bearable}
use Rattle.sets.specs.Decisions.{pick, all?, some?}
use Rattle.rows.specs.declared.rule.Rule.TheVariants as rules
use Rattle.choice.specs.Samples.{four_units}
use Rattle.choice.specs.Chosen.{choice_of}
use Rattle.choice.specs.declared.choice.Choice.TheVariants.{Torn}
use Rattle.growth.specs.Growth.{places_below}
use Rattle.unit.specs.States.{below}
use Rattle.unit.specs.Reported.{same_row?, same_said?, same_rows?, filed, FullyReported, fully?, choice_at}
use Rattle.unit.specs.Acts.{act_fault}
use Rattle.agreement.specs.Runs.{Deed, Course, Sound, MayHappen, after, start, Run, acts, worked_from, worked}
use Rattle.agreement_samples.specs.Samples.{false_leader, three_rules, by_rule, torn_reports}

pub s1 : Sound four_units false_leader 1
s1 = (lit< tt, λ h. let z : ◌≡◌ {A = ℕ} 0 1 = h in omega arith)

pub s2 : Sound four_units false_leader 2
s2 = (lit< tt, λ h. let z : ◌≡◌ {A = ℕ} 0 1 = h in omega arith)

pub s3 : Sound four_units false_leader 3
s3 = (lit< tt, λ h. let z : ◌≡◌ {A = ℕ} 0 1 = h in omega arith)

-- one deed after another may be done
abbrev Possible : Course → List Deed → Type 0
Possible c [] = Unit {0}
Possible c (d ∷ ds) =
    (Sound four_units false_leader d.unit × MayHappen false_leader c d.act × (act_fault views four_units d.unit d.act (c.units d.unit) ≡ None))
    × Possible (after views four_units c d.unit d.act) ds

pub done : (c : Course) (ds : List Deed) → Run views four_units false_leader c → Possible c ds → Run views four_units false_leader (worked_from views four_units c ds)
done c [] run p = run
done c (d ∷ ds) run ((s, m, e), p) = done (after views four_units c d.unit d.act) ds (acts d.unit d.act run s m e) p

pub rules_possible : Possible (start views four_units) three_rules
unfolding all? some? ℕ_discrete dec_le dec_lt places_below same_row? same_said? same_rows? filed below
rules_possible = (
  (s1, inl refl, refl),
  (
    (s2, inl refl, refl),
    (
      (s3, inl refl, refl),
      (
        (s1, inl refl, refl),
        (
          (s1, inr (Memᴰ.tail (Memᴰ.tail (Memᴰ.head refl))), refl),
          (
            (s1, inr (Memᴰ.tail (Memᴰ.head refl)), refl),
            (
              (s1, inr (Memᴰ.tail (Memᴰ.head refl)), refl),
              (
                (s2, inl refl, refl),
                (
                  (s2, inr (Memᴰ.tail (Memᴰ.head refl)), refl),
                  (
                    (s2, inr (Memᴰ.tail (Memᴰ.tail (Memᴰ.tail (Memᴰ.head refl)))), refl),
                    (
                      (s2, inr (Memᴰ.head refl), refl),
                      (
                        (s3, inl refl, refl),
                        (
                          (s3, inr (Memᴰ.head refl), refl),
                          (
                            (s3, inr (Memᴰ.tail (Memᴰ.tail (Memᴰ.tail (Memᴰ.tail (Memᴰ.head refl))))), refl),
                            (
                              (s3, inr (Memᴰ.head refl), refl),
                              (
                                (s3, inr (Memᴰ.head refl), refl),
                                tt,
                              ),
                            ),
                          ),
                        ),
                      ),
                    ),
                  ),
                ),
              ),
            ),
          ),
        ),
      ),
    ),
  ),
)

pub torn_possible : Possible (start views four_units) torn_reports
unfolding all? some? ℕ_discrete dec_le dec_lt places_below same_row? same_said? same_rows? filed below
torn_possible = (
  (s1, inl refl, refl),
  (
    (s2, inl refl, refl),
    (
      (s1, tt, refl),
      (
        (s2, tt, refl),
        (
          (s1, inr (Memᴰ.tail (Memᴰ.head refl)), refl),
          (
            (s1, inr (Memᴰ.head refl), refl),
            (
              (s1, inl refl, refl),
              tt,
            ),
          ),
        ),
      ),
    ),
  ),
)

pub the_rules : (((worked views four_units three_rules).units 1).announced ≡ by_rule rules.First) × (((worked views four_units three_rules).units 2).announced ≡ by_rule rules.Second) × (((worked views four_units three_rules).units 3).announced ≡ by_rule rules.Third)
unfolding all? some? ℕ_discrete dec_le dec_lt places_below same_row? same_said? same_rows? filed below
the_rules = (refl, refl, refl)

pub the_torn : choice_at four_units ((worked views four_units torn_reports).units 1) 1 ≡ Torn
unfolding all? some? ℕ_discrete dec_le dec_lt places_below same_row? same_said? same_rows? filed below choice_of
the_torn = refl

-- what a decision found
from_yes : {A : Type 0} (d : Dec A) → pick d true false ≡ true → A
from_yes (yes a) e = a
from_yes (no n) e = absurd (let z : ◌≡◌ {A = ℕ} 0 1 = cc in omega arith)

pub the_full : FullyReported four_units ((worked views four_units torn_reports).units 1) 1
unfolding all? some? ℕ_discrete dec_le dec_lt places_below same_row? same_said? same_rows? filed below
the_full = from_yes (fully? four_units ((worked views four_units torn_reports).units 1) 1) refl

pub the_bearable : Bearable four_units.faults (Has false_leader)
the_bearable = (0, lit< tt, λ x h. h)

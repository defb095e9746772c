-- A table that gives no question offence is proper; one that gives offence is not, and has one fault.
use Rattle.std.proofs.Common.{◌≡◌, ℕ, zero, suc, ◌<◌, ◌≤◌, None, Some, Option, MatchOption, sym, refl, ap, ◌∙◌, subst, inl, inr, arith}
use Rattle.std.proofs.lemmas.Bool.{cases_order}
use Rattle.table.specs.declared.question.Question.{Question}
use Rattle.table.specs.declared.question.Question.TheVariants as asked
use Rattle.table.specs.declared.question.PairQuestion.TheVariants as pairs
use Rattle.table.specs.declared.fault.TableFault.{TableFault}
use Rattle.table.specs.declared.fault.TableFault.TheVariants as faults
use Rattle.table.specs.Tables.{QuorumTable, Proper}
use Rattle.table.specs.Faults.{table_says}
use Rattle.table.specs.Questions.{question_of, places_of, fault_of, Fine, AllFine, FirstUnfit, Found}

pub proper_from : (tb : QuorumTable) → ((k : ℕ) → k < 10 → 1 ≤ k → AllFine (question_of k) tb) → Proper tb
proper_from tb f =
    let entry = f 5 (omega arith) (omega arith) in
    let third = f 9 (omega arith) (omega arith) in
    record {
      units_bound = f 1 (omega arith) (omega arith) 0 (omega arith);
      faults_bound = f 2 (omega arith) (omega arith) 0 (omega arith);
      faults_below = f 3 (omega arith) (omega arith);
      quorums_bound = f 4 (omega arith) (omega arith) 0 (omega arith);
      some_unit = λ p ip. (entry p ip).0;
      quorums_below = λ p ip. (entry p ip).1;
      classes = λ p ip. (entry p ip).2;
      all_differ = λ p q ip iq lt. f 6 (omega arith) (omega arith) p ip q iq lt;
      first_property = λ p q ip iq. f 7 (omega arith) (omega arith) p ip q iq;
      second_property = λ p p' q cp cp' iq. f 8 (omega arith) (omega arith) p cp.0 p' cp'.0 cp.1 cp'.1 q iq;
      third_property = λ p q cp iq. elim (third p cp.0 q iq cp.1) [
        | inl l ↦ inl l
        | inr k ↦ inr (k.0, λ f cf. k.1 f cf.0 cf.1)
      ];
    }

-- what a proper table answers to each question
pub all_fine : (tb : QuorumTable) → Proper tb → (q : Question) → AllFine q tb
all_fine tb p asked.Units i lt = p.units_bound
all_fine tb p asked.FaultSetCount i lt = p.faults_bound
all_fine tb p asked.FaultSet i lt = p.faults_below i lt
all_fine tb p asked.QuorumCount i lt = p.quorums_bound
all_fine tb p asked.Entry i lt = (p.some_unit i lt, p.quorums_below i lt, p.classes i lt)
all_fine tb p (asked.Pairs pairs.Differ) i lt = λ j lj. p.all_differ i j lt lj
all_fine tb p (asked.Pairs pairs.First) i lt = λ j lj. p.first_property i j lt lj
all_fine tb p (asked.Pairs pairs.Second) i lt = λ j lj e e' k lk. p.second_property i j k (lt, e) (lj, e') lk
all_fine tb p (asked.Pairs pairs.Third) i lt = λ j lj e.
    elim (p.third_property i j (lt, e) lj) [ inl l ↦ inl l | inr k ↦ inr (k.0, λ f lf e'. k.1 f (lf, e')) ]

pub not_proper : (tb : QuorumTable) (e : TableFault) → Found tb e → Proper tb → ⊥
not_proper tb e f p = f.unfit.offends (all_fine tb p (question_of (table_says e).number) (table_says e).place f.unfit.place)

-- the first offence of a question is the fault that is said of it
module _ (tb : QuorumTable) where
  at_zero : (q : Question) (i : ℕ) → i < 1 → FirstUnfit q tb i → FirstUnfit q tb 0
  at_zero q i lt u = let e : i ≡ 0 = omega arith in subst (λ (k : ℕ). FirstUnfit q tb k) e u

  -- every other question has its place in its fault
  pub found_from : (number i : ℕ) → 1 ≤ number → number ≤ 9 → FirstUnfit (question_of number) tb i
      → ((k : ℕ) → 1 ≤ k → k < number → AllFine (question_of k) tb) → Found tb (fault_of (question_of number) i)
  found_from zero i lo hi u before = absurd (omega arith)
  found_from (suc zero) i lo hi u before = record { unfit = at_zero _ i u.place u; earlier = before }
  found_from (suc (suc zero)) i lo hi u before = record { unfit = at_zero _ i u.place u; earlier = before }
  found_from (suc (suc (suc zero))) i lo hi u before = record { unfit = u; earlier = before }
  found_from (suc (suc (suc (suc zero)))) i lo hi u before = record { unfit = at_zero _ i u.place u; earlier = before }
  found_from (suc (suc (suc (suc (suc zero))))) i lo hi u before = record { unfit = u; earlier = before }
  found_from (suc (suc (suc (suc (suc (suc zero)))))) i lo hi u before = record { unfit = u; earlier = before }
  found_from (suc (suc (suc (suc (suc (suc (suc zero))))))) i lo hi u before = record { unfit = u; earlier = before }
  found_from (suc (suc (suc (suc (suc (suc (suc (suc zero)))))))) i lo hi u before = record { unfit = u; earlier = before }
  found_from (suc (suc (suc (suc (suc (suc (suc (suc (suc zero))))))))) i lo hi u before = record { unfit = u; earlier = before }
  found_from (suc (suc (suc (suc (suc (suc (suc (suc (suc (suc k)))))))))) i lo hi u before = absurd (omega arith)

-- a fault is told by its number and its place
says_back : (e : TableFault) → fault_of (question_of (table_says e).number) (table_says e).place ≡ e
says_back faults.Units = refl
says_back faults.FaultSetCount = refl
says_back (faults.FaultSet place) = refl
says_back faults.QuorumCount = refl
says_back (faults.Entry place) = refl
says_back (faults.Repeated place) = refl
says_back (faults.FirstProperty place) = refl
says_back (faults.SecondProperty place) = refl
says_back (faults.ThirdProperty place) = refl

numbered : (e : TableFault) → 1 ≤ (table_says e).number
numbered faults.Units = omega arith
numbered faults.FaultSetCount = omega arith
numbered (faults.FaultSet place) = omega arith
numbered faults.QuorumCount = omega arith
numbered (faults.Entry place) = omega arith
numbered (faults.Repeated place) = omega arith
numbered (faults.FirstProperty place) = omega arith
numbered (faults.SecondProperty place) = omega arith
numbered (faults.ThirdProperty place) = omega arith

module _ (tb : QuorumTable) where
  not_earlier : (e e' : TableFault) → Found tb e → Found tb e' → (table_says e).number < (table_says e').number → ⊥
  not_earlier e e' f f' lt = f.unfit.offends (f'.earlier _ (numbered e) lt (table_says e).place f.unfit.place)

  not_before : (q : Question) (i j : ℕ) → FirstUnfit q tb i → FirstUnfit q tb j → i < j → ⊥
  not_before q i j u v lt = u.offends (v.before i lt)

  same_place : (q : Question) (i j : ℕ) → FirstUnfit q tb i → FirstUnfit q tb j → i ≡ j
  same_place q i j u v = elim (cases_order i j) [
    | inl e ↦ e
    | inr o ↦ elim o [ inl lt ↦ absurd (not_before q i j u v lt) | inr gt ↦ absurd (not_before q j i v u gt) ]
  ]

  -- two faults that are found of one table are one
  pub found_one : (e e' : TableFault) → Found tb e → Found tb e' → e ≡ e'
  found_one e e' f f' =
      let n : (table_says e).number ≡ (table_says e').number =
      elim (cases_order (table_says e).number (table_says e').number) [
        | inl same ↦ same
        | inr o ↦ elim o [ inl lt ↦ absurd (not_earlier e e' f f' lt) | inr gt ↦ absurd (not_earlier e' e f' f gt) ]
      ]
      in
      let u = subst (λ (k : ℕ). FirstUnfit (question_of k) tb (table_says e).place) n f.unfit in
      let i = same_place (question_of (table_says e').number) (table_says e).place (table_says e').place u f'.unfit in
      sym (says_back e) ∙ ap (λ (k : ℕ). fault_of (question_of k) (table_says e).place) n ∙ ap (fault_of (question_of (table_says e').number)) i ∙ says_back e'

-- the first of a question's places that offends, found among so many
pub first_place : (question : Question) (tb : QuorumTable) (n : ℕ) (r : Option ℕ) → n ≡ places_of question tb
    → MatchOption r ((k : ℕ) → k < n → Fine question tb k) (λ i. (i < n) × (Fine question tb i → ⊥) × ((k : ℕ) → k < i → Fine question tb k))
    → MatchOption r (AllFine question tb) (FirstUnfit question tb)
first_place question tb n None e h = λ i lt. h i (subst (λ m. i < m) (sym e) lt)
first_place question tb n (Some i) e h = record {
  place = subst (λ m. i < m) e h.0;
  offends = h.1;
  before = h.2;
}

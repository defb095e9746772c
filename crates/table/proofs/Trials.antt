-- The questions as tests that compute, for the samples.
use Rattle.std.proofs.Common.{◌≡◌, ℕ, zero, suc, ◌/◌, ◌^◌, ◌<◌, ◌≤◌, Bool, true, false, not, ◌&&◌, ◌||◌, eqb, ltb, leb, ◌⊎◌, List, length, get_or, Decides, sym, refl, subst, arith}
use lib.Bits.{bit_and, bit_or}
use Rattle.std.proofs.lemmas.Bool.{leb-true, le-leb, and_parts}
use Rattle.std.proofs.lemmas.Bool.Decides.{Decides-eqb, Decides-ltb, Decides-like, Decides-not, Decides-and, Decides-or, Decides-below_and, Decides-below_or}
use Rattle.base.specs.Limits.{units_most, fault_sets_most, quorums_most}
use Rattle.sets.specs.Sets.{Has, Is, Inside, Below, Bearable, Basic, Large}
use Rattle.sets.proofs.Bits.{or_has, has_or, and_has, has_and, inside_mask, mask_inside, same_mask, shift_below, below_shift, some_tells as some-tells-mask}
use Rattle.sets.proofs.Sides.{basic_of, large_of}
use Rattle.table.specs.declared.question.Question.{Question}
use Rattle.table.specs.declared.question.Question.TheVariants as asked
use Rattle.table.specs.declared.question.PairQuestion.{PairQuestion}
use Rattle.table.specs.declared.question.PairQuestion.TheVariants as pairs
use Rattle.table.specs.declared.fault.TableFault.{TableFault}
use Rattle.table.specs.Tables.{QuorumTable, Proper, quorum_at, class_of, Shared2, Shared3}
use Rattle.table.specs.Faults.{table_says}
use Rattle.table.specs.Questions.{question_of, places_of, FinePair, Fine, AllFine, Found}
use Rattle.table.specs.Samples.{SamplesHold}
use Rattle.table.proofs.Masks.{three_last}
use Rattle.table.proofs.Passes.{proper_from}

-- tests of all and of some places below n
abbrev every : (ℕ → Bool) → ℕ → Bool
every p zero = true
every p (suc n) = p n && every p n

abbrev some : (ℕ → Bool) → ℕ → Bool
some p zero = false
some p (suc n) = p n || some p n

module _ (p : ℕ → Bool) (P : ℕ → Type 0) (each : (k : ℕ) → Decides (p k) (P k)) (n : ℕ) where
  every_tells : Decides (every p n) ((k : ℕ) → k < n → P k)
  every_tells = Decides-below_and p P (every p) each refl (λ _. refl) n

  some_tells : Decides (some p n) ((k : ℕ) × (k < n) × P k)
  some_tells = Decides-below_or p P (some p) each refl (λ _. refl) n

abbrev implies : Bool → Bool → Bool
implies true b = b
implies false b = true

implies_tells : {A B : Type 0} (a b : Bool) → Decides a A → Decides b B → Decides (implies a b) (A → B)
implies_tells true b da db = (λ e _. db.0 e, λ f. db.1 (f (da.0 refl)))
implies_tells false b da db = (λ _ x. absurd (clash (da.1 x)), λ _. refl)
  where
    clash : false ≡ true → ⊥
    clash e = let z : ◌≡◌ {A = ℕ} 0 1 = cc in omega arith

leb_tells : (a b : ℕ) → Decides (leb a b) (a ≤ b)
leb_tells a b = (leb-true a b, le-leb a b)

-- masks

inside_tells : (a b : ℕ) → Decides (eqb (bit_and a b) a) (Inside (Has a) (Has b))
inside_tells a b = Decides-like _ (mask_inside a b) (inside_mask a b) (Decides-eqb (bit_and a b) a)

below_tells : (n m : ℕ) → Decides (eqb (m / 2 ^ n) 0) (Below n m)
below_tells n m = Decides-like _ (shift_below n m) (below_shift n m) (Decides-eqb (m / 2 ^ n) 0)

same_tells : (a b : ℕ) → Decides (eqb a b) (Is a (Has b))
same_tells a b =
    Decides-like _ (λ e x. (λ h. subst (λ z. Has z x) e h, λ h. subst (λ z. Has z x) (sym e) h)) (same_mask a b) (Decides-eqb a b)

abbrev bearable_test : List ℕ → ℕ → Bool
bearable_test faults m = some (λ g. eqb (bit_and m (get_or faults g 0)) m) (length faults)

abbrev large_test : List ℕ → ℕ → Bool
large_test faults m =
    every (λ g. every (λ h. not (eqb (bit_and m (bit_or (get_or faults g 0) (get_or faults h 0))) m)) (length faults)) (length faults)

module _ (faults : List ℕ) (m : ℕ) where
  bearable_tells : Decides (bearable_test faults m) (Bearable faults (Has m))
  bearable_tells = some_tells _ (λ g. Inside (Has m) (Has (get_or faults g 0))) (λ g. inside_tells m (get_or faults g 0)) (length faults)

  covers_tells : (a b : ℕ) → Decides (eqb (bit_and m (bit_or a b)) m) (Inside (Has m) (λ x. Has a x ⊎ Has b x))
  covers_tells a b =
      Decides-like _ (λ i x h. or_has a b x (i x h)) (λ i x h. has_or a b x (i x h)) (inside_tells m (bit_or a b))

  large_tells : Decides (large_test faults m) (Large faults (Has m))
  large_tells =
      Decides-like _ (λ f g h lg lh. f g lg h lh) (λ f g lg h lh. f g h lg lh)
      (every_tells _ (λ g. (h : ℕ) → h < length faults → ¬ (Inside (Has m) (λ x. Has (get_or faults g 0) x ⊎ Has (get_or faults h 0) x)))
      (λ g. every_tells _ _ (λ h. Decides-not _ (covers_tells (get_or faults g 0) (get_or faults h 0))) (length faults)) (length faults))

-- what quorums share, as masks

and_is : (a b : ℕ) → Is (bit_and a b) (λ x. Has a x × Has b x)
and_is a b x = (and_has a b x, λ h. has_and a b x h.0 h.1)

and3_is : (a b c : ℕ) → Is (bit_and (bit_and a b) c) (λ x. Has a x × Has b x × Has c x)
and3_is a b c = three_last a b c (bit_and a b) (bit_and (bit_and a b) c) (and_is a b) (and_is (bit_and a b) c)

abbrev two : QuorumTable → ℕ → ℕ → ℕ
two tb p q = bit_and (quorum_at tb p).set (quorum_at tb q).set

abbrev three : QuorumTable → ℕ → ℕ → ℕ → ℕ
three tb p q r = bit_and (bit_and (quorum_at tb p).set (quorum_at tb q).set) (quorum_at tb r).set

module _ (tb : QuorumTable) (p q : ℕ) where
  basic2_tells : Decides (not (bearable_test tb.faults (two tb p q))) (Basic tb.faults (Shared2 tb p q))
  basic2_tells =
      basic_of tb.faults (two tb p q) _ (and_is (quorum_at tb p).set (quorum_at tb q).set) _
      (Decides-not _ (bearable_tells tb.faults (two tb p q)))

  large2_tells : Decides (large_test tb.faults (two tb p q)) (Large tb.faults (Shared2 tb p q))
  large2_tells =
      large_of tb.faults (two tb p q) _ (and_is (quorum_at tb p).set (quorum_at tb q).set) _
      (large_tells tb.faults (two tb p q))

  module _ (r : ℕ) where
    basic3_tells : Decides (not (bearable_test tb.faults (three tb p q r))) (Basic tb.faults (Shared3 tb p q r))
    basic3_tells =
        basic_of tb.faults (three tb p q r) _ (and3_is (quorum_at tb p).set (quorum_at tb q).set (quorum_at tb r).set) _
        (Decides-not _ (bearable_tells tb.faults (three tb p q r)))

    large3_tells : Decides (large_test tb.faults (three tb p q r)) (Large tb.faults (Shared3 tb p q r))
    large3_tells =
        large_of tb.faults (three tb p q r) _ (and3_is (quorum_at tb p).set (quorum_at tb q).set (quorum_at tb r).set) _
        (large_tells tb.faults (three tb p q r))

-- the questions

abbrev all_large_test : QuorumTable → ℕ → ℕ → Bool
all_large_test tb p p' = every (λ q. large_test tb.faults (three tb p p' q)) (length tb.quorums)

abbrev some_class1_test : QuorumTable → Bool
some_class1_test tb = some (λ f. eqb (class_of tb f) 1) (length tb.quorums)

abbrev class1_basic_test : QuorumTable → ℕ → ℕ → Bool
class1_basic_test tb p q =
    every (λ f. implies (eqb (class_of tb f) 1) (not (bearable_test tb.faults (three tb f p q)))) (length tb.quorums)

abbrev pair_test : PairQuestion → QuorumTable → ℕ → ℕ → Bool
pair_test pairs.Differ tb p q = implies (ltb p q) (not (eqb (quorum_at tb p).set (quorum_at tb q).set))
pair_test pairs.First tb p q = not (bearable_test tb.faults (two tb p q))
pair_test pairs.Second tb p q = implies (eqb (class_of tb p) 1) (implies (eqb (class_of tb q) 1) (all_large_test tb p q))
pair_test pairs.Third tb p q =
    implies (leb (class_of tb p) 2)
    (large_test tb.faults (two tb p q) || (some_class1_test tb && class1_basic_test tb p q))

pair_tells : (pair : PairQuestion) (tb : QuorumTable) (p q : ℕ) → Decides (pair_test pair tb p q) (FinePair pair tb p q)
pair_tells pairs.Differ tb p q =
    implies_tells _ _ (Decides-ltb p q) (Decides-not _ (same_tells (quorum_at tb p).set (quorum_at tb q).set))
pair_tells pairs.First tb p q = basic2_tells tb p q
pair_tells pairs.Second tb p q =
    implies_tells _ _ (Decides-eqb _ 1)
    (implies_tells _ _ (Decides-eqb _ 1) (every_tells _ (λ r. Large tb.faults (Shared3 tb p q r)) (large3_tells tb p q) (length tb.quorums)))
pair_tells pairs.Third tb p q =
    implies_tells _ _ (leb_tells _ 2)
    (Decides-or _ _ (large2_tells tb p q)
    (Decides-and _ _
    (Decides-like _ (λ k. (k.0, (k.1, k.2))) (λ k. (k.0, k.1.0, k.1.1)) (some_tells _ (λ f. class_of tb f ≡ 1) (λ f. Decides-eqb _ 1) (length tb.quorums)))
    (every_tells _ (λ f. class_of tb f ≡ 1 → Basic tb.faults (Shared3 tb f p q))
    (λ f. implies_tells _ _ (Decides-eqb _ 1) (basic3_tells tb f p q)) (length tb.quorums))))

abbrev between_test : ℕ → ℕ → Bool
between_test x most = leb 1 x && leb x most

between_tells : (x most : ℕ) → Decides (between_test x most) ((1 ≤ x) × (x ≤ most))
between_tells x most = Decides-and _ _ (leb_tells 1 x) (leb_tells x most)

abbrev fine_test : Question → QuorumTable → ℕ → Bool
fine_test asked.Units tb i = between_test tb.units units_most
fine_test asked.FaultSetCount tb i = between_test (length tb.faults) fault_sets_most
fine_test asked.FaultSet tb i = eqb (get_or tb.faults i 0 / 2 ^ tb.units) 0
fine_test asked.QuorumCount tb i = between_test (length tb.quorums) quorums_most
fine_test asked.Entry tb i =
    not (eqb (quorum_at tb i).set 0) && (eqb ((quorum_at tb i).set / 2 ^ tb.units) 0 && between_test (class_of tb i) 3)
fine_test (asked.Pairs pair) tb i = every (λ q. pair_test pair tb i q) (length tb.quorums)

fine_tells : (question : Question) (tb : QuorumTable) (i : ℕ) → Decides (fine_test question tb i) (Fine question tb i)
fine_tells asked.Units tb i = between_tells _ _
fine_tells asked.FaultSetCount tb i = between_tells _ _
fine_tells asked.FaultSet tb i = below_tells tb.units (get_or tb.faults i 0)
fine_tells asked.QuorumCount tb i = between_tells _ _
fine_tells asked.Entry tb i =
    Decides-like _ (λ k. (k.0, k.1.0, k.1.1)) (λ k. (k.0, (k.1, k.2)))
    (Decides-and _ _ (some-tells-mask (quorum_at tb i).set)
    (Decides-and _ _ (below_tells tb.units (quorum_at tb i).set) (between_tells (class_of tb i) 3)))
fine_tells (asked.Pairs pair) tb i = every_tells _ (FinePair pair tb i) (pair_tells pair tb i) (length tb.quorums)

abbrev all_fine_test : Question → QuorumTable → Bool
all_fine_test question tb = every (fine_test question tb) (places_of question tb)

-- the questions below a number have no offence
abbrev earlier_test : QuorumTable → ℕ → Bool
earlier_test tb number = every (λ k. implies (leb 1 k) (all_fine_test (question_of k) tb)) number

earlier_tells : (tb : QuorumTable) (number : ℕ)
    → Decides (earlier_test tb number) ((k : ℕ) → k < number → 1 ≤ k → AllFine (question_of k) tb)
earlier_tells tb number =
    every_tells _ _
    (λ k. implies_tells _ _ (leb_tells 1 k) (every_tells _ (Fine (question_of k) tb) (fine_tells (question_of k) tb) (places_of (question_of k) tb)))
    number

abbrev found_test : QuorumTable → TableFault → Bool
found_test tb e =
    ltb (table_says e).place (places_of (question_of (table_says e).number) tb)
    && (not (fine_test (question_of (table_says e).number) tb (table_says e).place)
    && (every (fine_test (question_of (table_says e).number) tb) (table_says e).place && earlier_test tb (table_says e).number))

pub proper_by : (tb : QuorumTable) → earlier_test tb 10 ≡ true → Proper tb
proper_by tb e = proper_from tb ((earlier_tells tb 10).0 e)

pub found_by : (tb : QuorumTable) (e : TableFault) → found_test tb e ≡ true → Found tb e
found_by tb e t =
    let q = question_of (table_says e).number in
    let i = (table_says e).place in
    let (a, b, c, d) = parts t in
    record {
      unfit = record {
        place = (Decides-ltb i (places_of q tb)).0 a;
        offends = (Decides-not _ (fine_tells q tb i)).0 b;
        before = (every_tells _ (Fine q tb) (fine_tells q tb) i).0 c;
      };
      earlier = λ k lo lt. (earlier_tells tb (table_says e).number).0 d k lt lo;
    }
  where
    parts : {a b c d : Bool} → (a && (b && (c && d))) ≡ true → (a ≡ true) × (b ≡ true) × (c ≡ true) × (d ≡ true)
    parts {a} {b} {c} {d} t =
        let (x, y) = and_parts a _ t in let (z, w) = and_parts b _ y in let (u, v) = and_parts c d w in (x, z, u, v)

pub samples_hold : SamplesHold
samples_hold = (proper_by _ refl, (found_by _ _ refl, (found_by _ _ refl, (proper_by _ refl, (found_by _ _ refl, tt)))))

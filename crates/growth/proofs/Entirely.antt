-- Quorums heard entire, as masks.
use Rattle.std.proofs.Common.{◌≡◌, ℕ, suc, ◌+◌, ◌*◌, ◌%◌, ◌^◌, ◌<◌, Bool, Decides, Option, sym, refl, ap, ◌∙◌, add-one}
use lib.Bits.{bit_or}
use Rattle.std.proofs.lemmas.Nat.{one_shl}
use Rattle.std.proofs.lemmas.Bool.Decides.{Decides-like}
use Rattle.sets.specs.Sets.{Has, Is, Inside}
use Rattle.sets.specs.Decisions.{pick}
use Rattle.table.specs.Tables.{QuorumTable, IsQuorum, quorum_at, In}
use Rattle.ticket.specs.declared.writing.Writing.{Writing}
use Rattle.rows.specs.declared.row.Row.{Row}
use Rattle.rows.specs.Rows.{Holds, For, ForFilled}
use Rattle.rows.specs.Decided.{for?}
use Rattle.growth.specs.Growth.{Entire, entire?, places_below, Spread}

-- which value a decision picks
pub pick_yes : {A B : Type 0} (d : Dec A) (x y : B) → A → pick d x y ≡ x
pick_yes (yes a) x y p = refl
pick_yes (no n) x y p = absurd (n p)

pub pick_no : {A B : Type 0} (d : Dec A) (x y : B) → ¬ A → pick d x y ≡ y
pick_no (yes a) x y n = absurd (n a)
pick_no (no m) x y n = refl

module _ (tb : QuorumTable) (h : ℕ → Option Row) where
  -- a quorum inside the mask of those heard with such a row was heard entire with it
  pub entire_tells : (p m : ℕ) (P : Row → Type 0) → Is m (λ x. Holds (h x) P) → (r : Bool)
      → Decides r (Inside (Has (quorum_at tb p).set) (Has m)) → Decides r (Entire tb h p P)
  entire_tells p m P is r = Decides-like r (λ i x k. (is x).0 (i x k)) (λ e x k. (is x).1 (e x k))

  -- a quorum inside the mask of those heard with the ticket and a set was heard entire with them
  pub some_spread : (t : Writing) (m : ℕ) → Is m (λ x. Holds (h x) (ForFilled t)) → (r : Bool)
      → Decides r ((p : ℕ) × IsQuorum tb p × Inside (In tb p) (Has m)) → Decides r (Spread tb h t)
  some_spread t m is r = Decides-like r (λ k. (k.0, k.1, λ x i. (is x).0 (k.2 x i))) (λ k. (k.0, k.1, λ x i. (is x).1 (k.2 x i)))

  pub place_more : (t : Writing) (p : ℕ) → Entire tb h p (For t) → places_below tb h t (suc p) ≡ bit_or (places_below tb h t p) (2 ^ p)
  unfolding places_below
  place_more t p e = pick_yes (entire? tb h p (for? t)) (bit_or (places_below tb h t p) (2 ^ p)) (places_below tb h t p) e

  pub place_same : (t : Writing) (p : ℕ) → ¬ (Entire tb h p (For t)) → places_below tb h t (suc p) ≡ places_below tb h t p
  unfolding places_below
  place_same t p n = pick_no (entire? tb h p (for? t)) (bit_or (places_below tb h t p) (2 ^ p)) (places_below tb h t p) n

  -- the loop's step, as the code shifts
  pub set_more : (t : Writing) (p m n : ℕ) → p < 32 → Entire tb h p (For t) → m ≡ places_below tb h t p → n ≡ bit_or m ((1 * 2 ^ p) % 2 ^ 32)
      → n ≡ places_below tb h t (p + 1)
  set_more t p m n lt e em en =
      en ∙ ap (bit_or m) (one_shl p 32 lt) ∙ ap (λ z. bit_or z (2 ^ p)) em ∙ sym (place_more t p e) ∙ ap (places_below tb h t) (sym (add-one p))

  pub set_same : (t : Writing) (p m n : ℕ) → ¬ (Entire tb h p (For t)) → m ≡ places_below tb h t p → n ≡ m → n ≡ places_below tb h t (p + 1)
  set_same t p m n e em en = en ∙ em ∙ sym (place_same t p e) ∙ ap (places_below tb h t) (sym (add-one p))

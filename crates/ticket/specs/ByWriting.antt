-- Plans and piece orders are told apart by their writings, and every writing that is not refused is one's.
use Rattle.std.specs.Prelude.{◌≡◌, ℕ, ◌^◌, ◌<◌, Bool, true, false, cond, ◌&&◌, T, List, length, Some, None, Ok, Err, Option, Result, MatchResult, ◌==◌, ◌≢◌, refl}
use Rattle.std.proofs.Common.{sym, ap, ◌∙◌, arith, eqb→eq}
use mathlib.Core.HLevel.{is_prop→PathP}
use Rattle.std.proofs.Math.Bridge.{le_prop}
use Rattle.std.proofs.Math.Dec.{T_prop}
use Rattle.ticket.specs.declared.fault.TicketFault.{TicketFault}
use Rattle.ticket.specs.Bounds.{ends_fit, picks_fit, looms_fit}
use Rattle.ticket.specs.Faults.{judged}
use Rattle.ticket.specs.Plans.{plan_writing, is_plan, plan_refuses}
use Rattle.ticket.specs.Writings.{bytes_of, writing_of, Words}
use Rattle.ticket.specs.Orders.{order_writing, datum_fits, is_order, order_refuses}
use Rattle.ticket.specs.declared.order.Looms.{Looms}
use Rattle.ticket.specs.declared.order.Order.{Order}
use Rattle.ticket.specs.declared.order.Order.TheVariants.{Run, Hold, Cut}
use Rattle.ticket.specs.declared.order.Pick.{Pick}
use Rattle.ticket.specs.declared.plan.Plan.{Plan}
use Rattle.ticket.specs.declared.writing.Writing.{Writing}
use Rattle.ticket.specs.InBytes.{writing_whole, bytes_whole, same_words, Octets}

pub passed : (b : Bool) → judged b ≡ None → T b
passed true e = tt
passed false e = let z : ◌≡◌ {A = ℕ} 0 1 = cc in absurd (omega arith)

both : (x y : Bool) → T (x && y) → (T x) × (T y)
both true true t = (tt, tt)
both true false t = absurd t
both false y t = absurd t

same_bytes : (v w : Writing) → Words v → Words w → bytes_of v ≡ bytes_of w → v ≡ w
same_bytes v w f g e = sym (writing_whole v f) ∙ ap writing_of e ∙ writing_whole w g

same_plan : (s t : Plan) → s.pattern ≡ t.pattern → s.ends ≡ t.ends → s.picks ≡ t.picks → s.revision ≡ t.revision → s ≡ t
same_plan s t a b c d j = record {
  pattern = a j;
  ends = b j;
  picks = c j;
  revision = d j;
  words = (is_prop→PathP (λ k. a k < 2 ^ 32) (λ k. le_prop) s.words.0 t.words.0 j, is_prop→PathP (λ k. b k < 2 ^ 32) (λ k. le_prop) s.words.1 t.words.1 j, is_prop→PathP (λ k. c k < 2 ^ 32) (λ k. le_prop) s.words.2 t.words.2 j, is_prop→PathP (λ k. d k < 2 ^ 32) (λ k. le_prop) s.words.3 t.words.3 j);
  endsok = is_prop→PathP (λ k. T (ends_fit (b k))) (λ k. T_prop (ends_fit (b k))) s.endsok t.endsok j;
  picksok = is_prop→PathP (λ k. T (picks_fit (c k))) (λ k. T_prop (picks_fit (c k))) s.picksok t.picksok j;
}

pub plan_words : (p : Plan) → Words (plan_writing p)
plan_words p = record { a_fits = p.words.0; b_fits = p.words.1; c_fits = p.words.2; d_fits = p.words.3 }

pub plans_apart : (s t : Plan) → bytes_of (plan_writing s) ≡ bytes_of (plan_writing t) → s ≡ t
plans_apart s t e =
    let w : plan_writing s ≡ plan_writing t = same_bytes _ _ (plan_words s) (plan_words t) e in
    same_plan s t (ap (λ (v : Writing). v.a) w) (ap (λ (v : Writing). v.b) w) (ap (λ (v : Writing). v.c) w) (ap (λ (v : Writing). v.d) w)

pub plans_whole : (w : Writing) → Words w → plan_refuses w ≡ None → (p : Plan) × (plan_writing p ≡ w)
plans_whole w f e =
    let ok : (T (ends_fit w.b)) × (T (picks_fit w.c)) = both _ _ (passed (is_plan w) e) in
    (record { pattern = w.a; ends = w.b; picks = w.c; revision = w.d; words = (f.a_fits, f.b_fits, f.c_fits, f.d_fits); endsok = ok.0; picksok = ok.1 }, refl)

same_looms : (s t : Looms) → s.set ≡ t.set → s ≡ t
same_looms s t e j = record {
  set = e j;
  word = is_prop→PathP (λ k. e k < 2 ^ 32) (λ k. le_prop) s.word t.word j;
  fit = is_prop→PathP (λ k. T (looms_fit (e k))) (λ k. T_prop (looms_fit (e k))) s.fit t.fit j;
}

same_pick : (s t : Pick) → s.number ≡ t.number → s ≡ t
same_pick s t e j = record {
  number = e j;
  word = is_prop→PathP (λ k. e k < 2 ^ 32) (λ k. le_prop) s.word t.word j;
  fit = is_prop→PathP (λ k. T (picks_fit (e k))) (λ k. T_prop (picks_fit (e k))) s.fit t.fit j;
}

pub order_words : (o : Order) → Words (order_writing o)
order_words Run = record { a_fits = omega arith; b_fits = omega arith; c_fits = omega arith; d_fits = omega arith }
order_words (Hold l) = record { a_fits = omega arith; b_fits = l.word; c_fits = omega arith; d_fits = omega arith }
order_words (Cut p) = record { a_fits = omega arith; b_fits = p.word; c_fits = omega arith; d_fits = omega arith }

other : {A : Type 0} (m n : ℕ) → m < n → m ≡ n → A
other m n h e = absurd (omega arith)

same_order : (s t : Order) → (order_writing s).a ≡ (order_writing t).a → (order_writing s).b ≡ (order_writing t).b → s ≡ t
same_order Run Run e f = refl
same_order Run (Hold l) e f = other 0 1 (omega arith) e
same_order Run (Cut p) e f = other 0 2 (omega arith) e
same_order (Hold l) Run e f = other 0 1 (omega arith) (sym e)
same_order (Hold l) (Hold m) e f = ap Hold (same_looms l m f)
same_order (Hold l) (Cut p) e f = other 1 2 (omega arith) e
same_order (Cut p) Run e f = other 0 2 (omega arith) (sym e)
same_order (Cut p) (Hold l) e f = other 1 2 (omega arith) (sym e)
same_order (Cut p) (Cut q) e f = ap Cut (same_pick p q f)

pub orders_apart : (s t : Order) → bytes_of (order_writing s) ≡ bytes_of (order_writing t) → s ≡ t
orders_apart s t e =
    let w : order_writing s ≡ order_writing t = same_bytes _ _ (order_words s) (order_words t) e in
    same_order s t (ap (λ (v : Writing). v.a) w) (ap (λ (v : Writing). v.b) w)

guarded : (x y : Bool) → T (cond x y false) → (T x) × (T y)
guarded true y t = (tt, t)
guarded false y t = absurd t

data Which (x p y q z r : Bool) : Type 0 where
  first : T x → T p → Which x p y q z r
  second : T y → T q → Which x p y q z r
  third : T z → T r → Which x p y q z r

which : (x p y q z r : Bool) → T (cond x p (cond y q (cond z r false))) → Which x p y q z r
which true p y q z r t = first tt t
which false p true q z r t = second tt t
which false p false q true r t = third tt t
which false p false q false r t = absurd t

pub orders_whole : (w : Writing) → Words w → order_refuses w ≡ None → (o : Order) × (order_writing o ≡ w)
orders_whole w f e =
    let one : (T (w.c == 0)) × (T (cond (w.d == 0) (datum_fits w.a w.b) false)) = guarded _ _ (passed (is_order w) e) in
    let two : (T (w.d == 0)) × (T (datum_fits w.a w.b)) = guarded _ _ one.1 in
    let c0 : 0 ≡ w.c = sym (eqb→eq w.c 0 one.0) in
    let d0 : 0 ≡ w.d = sym (eqb→eq w.d 0 two.0) in
    let ways = which (w.a == 0) (w.b == 0) (w.a == 1) (looms_fit w.b) (w.a == 2) (picks_fit w.b) two.1 in
    elim ways [
      | first x p ↦ (Run, same_words 0 0 0 0 w (sym (eqb→eq w.a 0 x)) (sym (eqb→eq w.b 0 p)) c0 d0)
      | second y q ↦ (Hold (record { set = w.b; word = f.b_fits; fit = q }), same_words 1 w.b 0 0 w (sym (eqb→eq w.a 1 y)) refl c0 d0)
      | third z r ↦ (Cut (record { number = w.b; word = f.b_fits; fit = r }), same_words 2 w.b 0 0 w (sym (eqb→eq w.a 2 z)) refl c0 d0)
    ]

-- a kind's reading of a writing, told of the sixteen bytes
pub read_bytes :
    {K : Type 0} (written : K → Writing) (refuses : Writing → Option TicketFault) (fits : (t : K) → Words (written t)) (own : (t : K) → refuses (written t) ≡ None)
    (bs : List ℕ) (w : Writing) (r : Result K TicketFault) → length bs ≡ 16 → Octets bs → w ≡ writing_of bs
    → MatchResult r (λ t. (refuses w ≡ None) × (written t ≡ w)) (λ e. refuses w ≡ Some e)
    → MatchResult r (λ t. (refuses (writing_of bs) ≡ None) × (bytes_of (written t) ≡ bs)) (λ e. (refuses (writing_of bs) ≡ Some e) × ((t : K) → bytes_of (written t) ≢ bs))
read_bytes written refuses fits own bs w (Ok t) l o e h = (sym (ap refuses e) ∙ h.0, ap bytes_of (h.1 ∙ e) ∙ bytes_whole bs l o)
read_bytes written refuses fits own bs w (Err x) l o e h =
    let given : refuses (writing_of bs) ≡ Some x = sym (ap refuses e) ∙ h in (
      given,
      λ t same.
          let back : written t ≡ writing_of bs = sym (writing_whole (written t) (fits t)) ∙ ap writing_of same in
          let none : refuses (writing_of bs) ≡ None = sym (ap refuses back) ∙ own t in
          let z : ◌≡◌ {A = ℕ} 0 1 = cc in
          omega arith,
    )

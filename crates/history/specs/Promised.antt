-- What is promised of a shed after any calls.
use Rattle.std.specs.Prelude.{◌≡◌, ℕ, ◌<◌, length, Some, None, ◌≢◌}
use mathlib.Core.List.{Memᴰ}
use Rattle.base.specs.Limits.{views}
use Rattle.sets.specs.Sets.{Has}
use Rattle.table.specs.Tables.{IsQuorum, In}
use Rattle.rows.specs.declared.row.Row.{Row}
use Rattle.choice.specs.declared.choice.Choice.TheVariants.{Torn}
use Rattle.unit.specs.declared.announcement.Announcement.{Announcement}
use Rattle.unit.specs.States.{own_at}
use Rattle.unit.specs.Reported.{shown_choice}
use Rattle.agreement.specs.Runs.{worked}
use Rattle.agreement.specs.Invariant.{NoneFalse}
use Rattle.calls.specs.declared.shown.Shown.{Shown}
use Rattle.calls.specs.Worlds.{World, unit_at, Sound, ready}
use Rattle.calls.specs.Calls.{Ways, Shows}
use Rattle.history.specs.Runs.{Run, deeds_of, tickets_of}

-- the unit has announced, and this is what announce shows of it
abbrev pub Announced : {T : Type 0} → Ways T → World → ℕ → Shown T → Type 0
Announced y w u s = Shows y.written (unit_at w u).announced (Some s)

pub record Promised {T : Type 0} (y : Ways T) (w : World) (run : Run y w) : Type 0 where
  -- no two sound units have announced different tickets: not as tickets of the kind, and not as four words
  pub announced_tickets_agree : (u u' : ℕ) (s s' : Shown T) → Sound w u → Sound w u' → Announced y w u s → Announced y w u' s' → s.ticket ≡ s'.ticket
  pub announced_writings_agree : (u u' : ℕ) (a a' : Announcement) → Sound w u → Sound w u'
      → (unit_at w u).announced ≡ Some a → (unit_at w u').announced ≡ Some a' → a.ticket ≡ a'.ticket
  -- with no false unit, every announced ticket was handed to an accepted put
  pub announced_was_handed : NoneFalse w.falses → (u : ℕ) (s : Shown T) → Sound w u → Announced y w u s → Memᴰ s.ticket (tickets_of run)
  -- after a sound unit announced from a view, no sound unit holds another ticket in a later view
  pub later_views_keep_the_ticket : (u x v : ℕ) (a : Announcement) (r : Row) → Sound w u → Sound w x
      → (unit_at w u).announced ≡ Some a → a.view < v → own_at (unit_at w x) v ≡ Some r → r.ticket ≡ a.ticket
  -- the choice from a sound unit's reports of a listed quorum without a false unit is not torn
  pub sound_quorum_is_not_torn : (u q : ℕ) → Sound w u → IsQuorum w.table q → ((x : ℕ) → In w.table q x → Has w.falses x → ⊥)
      → shown_choice w.table (unit_at w u) q ≢ Some Torn
  -- 11 would never be met again: the units' memory and the wire's units stay, and each unit stays in one of the views
  pub nothing_runs_out : (ready w.table.units (length w.units) w.wire.served ≡ None) × ((u : ℕ) → Sound w u → (unit_at w u).view < views)
  -- each unit's state is the one that the rules give, worked from fresh units through the accepted calls in order
  pub state_is_the_replay : (u : ℕ) → Sound w u → unit_at w u ≡ (worked views w.table (deeds_of run)).units u

-- after any calls, in any order, refused ones among them
abbrev pub CallsAgree : {T : Type 0} → Ways T → Type 0
CallsAgree y = (w : World) (run : Run y w) → Promised y w run

-- The agreement theorem.
use Rattle.std.specs.Prelude.{◌≡◌, ℕ, ◌<◌, Some}
use mathlib.Core.List.{Memᴰ}
use Rattle.sets.specs.Sets.{Has, Bearable}
use Rattle.table.specs.Tables.{QuorumTable, Proper, IsQuorum, In}
use Rattle.rows.specs.declared.row.Row.{Row}
use Rattle.choice.specs.declared.choice.Choice.TheVariants.{Torn}
use Rattle.unit.specs.declared.announcement.Announcement.{Announcement}
use Rattle.unit.specs.States.{own_at}
use Rattle.unit.specs.Reported.{FullyReported, choice_at}
use Rattle.agreement.specs.Runs.{Course, Sound, Run}
use Rattle.agreement.specs.Invariant.{NoneFalse, Invariant}

-- what is promised of each moment of a run
pub record Agreed (tb : QuorumTable) (falses : ℕ) (c : Course) : Type 0 where
  -- no two sound units have announced different tickets
  pub announced_tickets_agree : (u u' : ℕ) (a a' : Announcement) → Sound tb falses u → Sound tb falses u'
      → (c.units u).announced ≡ Some a → (c.units u').announced ≡ Some a' → a.ticket ≡ a'.ticket
  -- with no false unit, every announced ticket was handed to an accepted put
  pub announced_was_handed : NoneFalse falses → (u : ℕ) (a : Announcement) → Sound tb falses u
      → (c.units u).announced ≡ Some a → Memᴰ a.ticket c.handed
  -- after a sound unit announced from a view, no sound unit holds another ticket in a later view
  pub later_views_keep_the_ticket : (u x w : ℕ) (a : Announcement) (r : Row) → Sound tb falses u → Sound tb falses x
      → (c.units u).announced ≡ Some a → a.view < w → own_at (c.units x) w ≡ Some r → r.ticket ≡ a.ticket
  -- where a sound unit keeps a report of each unit of a listed quorum without a false unit, the choice from them is not torn
  pub sound_quorum_is_not_torn : (u q : ℕ) → Sound tb falses u → IsQuorum tb q → ((x : ℕ) → In tb q x → ¬ (Has falses x))
      → FullyReported tb (c.units u) q → ¬ (choice_at tb (c.units u) q ≡ Torn)

-- for every number of views, every passed table, every bearable false set and every run
abbrev pub RunsAgree : Type 0
RunsAgree =
    (n : ℕ) (tb : QuorumTable) (falses : ℕ) (c : Course) → Proper tb → Bearable tb.faults (Has falses) → Run n tb falses c → Agreed tb falses c

abbrev pub RunsKeepTheInvariant : Type 0
RunsKeepTheInvariant =
    (n : ℕ) (tb : QuorumTable) (falses : ℕ) (c : Course) → Proper tb → Run n tb falses c → Invariant n tb falses c

-- Messages that went out, and what the next send counts on.
use Rattle.std.specs.Prelude.{◌≡◌, ℕ, ◌+◌, ◌≤◌, List}
use Rattle.packet.specs.Said.{Said}
use Rattle.wire.specs.Meaning.{Meaning, Rule}
use Rattle.wire.specs.declared.answers.Tally.{Tally}
use Rattle.calls.specs.Calls.{GoesOut}

-- the wire serves as many as before, and no more posts were made than there are units
pub record Went (rule : Rule) (n from : ℕ) (ms : List Said) (a b : Meaning) (tally : Tally) : Type 0 where
  pub out : GoesOut rule n from ms a b tally.laid tally.lost
  pub served : b.served ≡ a.served
  pub few : tally.laid + tally.lost ≤ n

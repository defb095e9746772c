-- Letters that a unit writes itself, and that packets say them whole.
use Rattle.std.specs.Prelude.{◌≡◌, ℕ, ◌^◌, ◌<◌, List, [], ◌∷◌, length, Some, None, Option, slice_index_or}
use Rattle.base.specs.Limits.{views}
use Rattle.ticket.specs.Writings.{Words}
use Rattle.rows.specs.declared.row.Row.{Row}
use Rattle.packet.specs.Said.{Said}
use Rattle.unit.specs.States.{below}
use Rattle.unit.specs.Letters.{said_of}
use Rattle.unit.specs.declared.letter.Letter.{Letter}
use Rattle.unit.specs.declared.letter.Letter.TheVariants as letters

-- what a letter says, where there is one
abbrev pub said_in : Option Letter → List Said
said_in None = []
said_in (Some letter) = said_of letter ∷ []

-- numbers that fit their words
pub record RowFits (r : Row) : Type 0 where
  pub ticket : Words r.ticket
  pub word : r.set < 2 ^ 32

abbrev pub EntryFits : Option Row → Type 0
EntryFits None = Unit {0}
EntryFits (Some r) = RowFits r

-- a row or none for each view
pub record RowsFit (rows : List (Option Row)) : Type 0 where
  pub whole : length rows ≡ views
  pub each : (v : ℕ) → v < length rows → EntryFits (slice_index_or rows v None)

-- a letter is for a view; a report has rows of the views below its own alone
abbrev pub IsOwn : Letter → Type 0
IsOwn (letters.Put v t) = (v < views) × Words t
IsOwn (letters.Row v r) = (v < views) × RowFits r
IsOwn (letters.Report w rows) = (w < views) × RowsFit rows.now × (below w rows.now ≡ rows.now)

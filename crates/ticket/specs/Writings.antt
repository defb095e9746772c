-- Writings: four words, and their sixteen bytes.
use Rattle.std.specs.Prelude.{ℕ, ◌+◌, ◌^◌, ◌<◌, List, ◌++◌}
use Rattle.ticket.specs.Words.{be, word}
use Rattle.ticket.specs.declared.writing.Writing.{Writing}

-- the sixteen bytes of a writing
abbrev pub bytes_of : Writing → List ℕ
bytes_of w = be w.a ++ (be w.b ++ (be w.c ++ be w.d))

-- the writing that stands at an offset
abbrev pub writing_at : List ℕ → ℕ → Writing
writing_at bs i = record { a = word bs i; b = word bs (i + 4); c = word bs (i + 8); d = word bs (i + 12) }

-- the writing of sixteen bytes
abbrev pub writing_of : List ℕ → Writing
writing_of bs = writing_at bs 0

-- each word of a writing fits its four bytes
pub record Words (w : Writing) : Type 0 where
  pub a_fits : w.a < 2 ^ 32
  pub b_fits : w.b < 2 ^ 32
  pub c_fits : w.c < 2 ^ 32
  pub d_fits : w.d < 2 ^ 32

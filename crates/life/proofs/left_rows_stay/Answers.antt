use Rattle.life.proofs.Kept.{other_rows_stay, letters_keep_the_view}
use Rattle.life.proofs.left_rows_stay.Goals as goal

pub returns : goal.returns
returns c = record { rows = other_rows_stay; view = letters_keep_the_view }

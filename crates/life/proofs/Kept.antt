-- What the acts leave as it was.
use Rattle.std.proofs.Common.{refl}
use Rattle.unit.specs.Acts.{putting, raising, repeating, receiving}
use Rattle.unit.proofs.Kept.{said_keeps}
use Rattle.life.specs.Laws.{OtherRowsStay, LettersKeepTheView}

pub other_rows_stay : OtherRowsStay
other_rows_stay n tb u (putting t) s v ne = refl
other_rows_stay n tb u (raising w) s v ne = refl
other_rows_stay n tb u repeating s v ne = refl
other_rows_stay n tb u (receiving x said) s v ne = (said_keeps n tb x said s).1 v ne

pub letters_keep_the_view : LettersKeepTheView
letters_keep_the_view n tb x said s = (said_keeps n tb x said s).0

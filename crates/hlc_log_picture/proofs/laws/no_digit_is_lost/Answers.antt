use Rattle.hlc_log_picture.proofs.SharedDigits.{no_digit_is_lost}
use Rattle.hlc_log_picture.proofs.laws.no_digit_is_lost.Goals as goal

pub returns : goal.returns
returns c = no_digit_is_lost

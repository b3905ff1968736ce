use Rattle.hlc_log_picture.proofs.PictureLaws.{verdicts_fit}
use Rattle.hlc_log_picture.proofs.laws.verdicts_fit.Goals as goal

pub returns : goal.returns
returns c = verdicts_fit

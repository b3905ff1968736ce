use Rattle.hlc_log_picture.proofs.PictureLaws.{rings_are_causes}
use Rattle.hlc_log_picture.proofs.laws.rings_are_causes.Goals as goal

pub returns : goal.returns
returns c = rings_are_causes

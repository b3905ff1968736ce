use Rattle.hlc_log_picture.proofs.Pictured.{exists_inside}
use Rattle.hlc_log_picture.proofs.pictured_log.PicturedLogSubject.shown.Goals as goal

pub event-requires : goal.event-requires
event-requires c = exists_inside _ _ _ c.self.view_is c.self.invariant.ordered c.requires

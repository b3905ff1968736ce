use Rattle.std.proofs.Common.{◌∙◌, ap}
use Rattle.hlc_log_picture.specs.Drawn.{DrawnLog, event_of_row}
use Rattle.hlc_log_picture.specs.SharedDigits.{first_digits_of}
use Rattle.hlc_log_picture.proofs.Pictured.{exists_in, exists_inside, width_is}
use Rattle.hlc_log_picture.proofs.pictured_log.PicturedLogSubject.cell_width.Goals as goal

pub event-requires : goal.event-requires
event-requires c = exists_inside _ _ _ c.self.view_is c.self.invariant.ordered c.requires.exists

pub label-requires : goal.label-requires
label-requires c = exists_in _ _ _ c.self.view_is c.self.invariant.ordered c.requires.exists

pub returns : goal.returns
returns c =
    let first_is = c.self.invariant.first ∙ ap (λ (drawn : DrawnLog). first_digits_of drawn.log) c.self.view_is in
    let event_is = c.event.ensures ∙ ap (λ (drawn : DrawnLog). event_of_row drawn c.args.event.0) c.self.view_is in
    c.cell_width.ensures ∙ width_is _ _ _ _ _ _ c.args.column first_is event_is c.label.ensures

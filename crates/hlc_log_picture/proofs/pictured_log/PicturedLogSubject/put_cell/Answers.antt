use Rattle.std.proofs.Common.{◌∙◌, ap, string_bytes}
use Rattle.std.proofs.lemmas.Result.{on_ok_weaker}
use Rattle.hlc_log_picture.specs.Drawn.{DrawnLog, event_of_row}
use Rattle.hlc_log_picture.specs.SharedDigits.{first_digits_of}
use Rattle.hlc_log_picture.proofs.Pictured.{cell_is, exists_in, exists_inside}
use Rattle.hlc_log_picture.proofs.pictured_log.PicturedLogSubject.put_cell.Goals as goal

pub event-requires : goal.event-requires
event-requires c = exists_inside _ _ _ c.self.view_is c.self.invariant.ordered c.requires.exists

pub finding-requires : goal.finding-requires
finding-requires c = exists_in _ _ _ c.self.view_is c.self.invariant.ordered c.requires.exists

pub label-requires : goal.label-requires
label-requires c = exists_in _ _ _ c.self.view_is c.self.invariant.ordered c.requires.exists

pub returns : goal.returns
returns c =
    let old = string_bytes c.args.text.now in
    let first_is = c.self.invariant.first ∙ ap (λ (drawn : DrawnLog). first_digits_of drawn.log) c.self.view_is in
    let event_is = c.event.ensures ∙ ap (λ (drawn : DrawnLog). event_of_row drawn c.args.event.0) c.self.view_is in
    on_ok_weaker c.put_cell.result
    (λ is. is ∙ cell_is old _ _ _ _ _ _ _ _ c.args.column first_is event_is c.finding.ensures c.label.ensures) c.put_cell.ensures

use Rattle.std.proofs.Common.{Bor, ◌∙◌, List, ap, sym}
use Rattle.std.specs.Prelude.{ℕ, option_map}
use Rattle.std.specs.Option.{option_and_then}
use Rattle.hlc_stamp.specs.declared.id.EventId.{EventId}
use Rattle.hlc_stamp.specs.Ids.{places_of}
use Rattle.hlc_log_text.specs.Labels.{label_at}
use Rattle.hlc_open_log.specs.Opened.{OpenedLog}
use Rattle.hlc_open_log.proofs.LabelsKept.{label_read}
use Rattle.hlc_open_log.proofs.opened_log.OpenLog.label.Goals as goal

pub returns : goal.returns
returns c =
    c.label.ensures
    ∙ sym (ap (option_and_then (label_at c.self.inside.details.labels)) (sym c.place_read.ensures ∙ ap (option_map (λ (read : EventId). read.0)) c.in_ok-place_read.was))
    ∙ sym (label_read (option_map (λ kept. places_of kept.items) c.self.inside.kept) c.self.inside.details.labels c.args.place.0)
    ∙ ap (λ (opened : OpenedLog). label_at opened.labels c.args.place.0) c.self.view_is

pub returns-in_err-place_read : goal.returns-in_err-place_read
returns-in_err-place_read c =
    ap (option_map (λ (label : Bor (List ℕ)). label.now)) c.from_residual.ensures
    ∙ ap (option_and_then (label_at c.self.inside.details.labels)) c.in_err-place_read.ensures
    ∙ sym (label_read (option_map (λ kept. places_of kept.items) c.self.inside.kept) c.self.inside.details.labels c.args.place.0)
    ∙ ap (λ (opened : OpenedLog). label_at opened.labels c.args.place.0) c.self.view_is

use Rattle.std.proofs.Common.{◌≡◌, ◌∙◌, Bool, List, false, length, replicate, subst, sym, true}
use Rattle.hlc_causes.specs.Causes.{no_causes}
use Rattle.hlc_csv.specs.Rows.{AddsText, Fields, text_of}
use Rattle.hlc_ordered_log.specs.InOrder.{IsCarriedRightly}
use Rattle.hlc_log_audit.specs.Audit.{CarriesWrongly}
use Rattle.hlc_log_text.proofs.RowsAdded.{adds_none}
use Rattle.hlc_ordered_log.proofs.PlacedCauses.{none_named}
use Rattle.hlc_log_audit.proofs.CauseRows.{no_cause_rows}
use Rattle.hlc_log_audit.proofs.LeastStamps.{carried_rightly, no_cause_at, none_wrong_at}
use Rattle.hlc_log_audit.proofs.causes.push_causes.Goals as goal

pub returns-then-not-carries_wrongly : goal.returns-then-not-carries_wrongly
returns-then-not-carries_wrongly g c =
    let log = c.args.log.now in
    let full = c.args.full in
    let n = length log.events in
    let at = g.W.Write.contents c.args.writer.now in
    let rows = c.args.rows.now in
    let ordered = c.requires.ordered in
    let all = c.are_least.ensures.0 c.if-are_least.true in
    let none : ¬ CarriesWrongly log = λ wrong.
    (let both : ◌≡◌ {A = Bool} true false = sym (c.carries_wrongly.ensures.1 wrong) ∙ c.if-not-carries_wrongly.true in
    absurd (cc)) in
    let right : IsCarriedRightly log = carried_rightly log none in (
      replicate n no_causes,
      none_named log full n (λ e lt. no_cause_at log ordered right full c.args.counts c.requires.counts all e),
      subst (λ (added : List Fields). AddsText at at rows rows (text_of added))
          (sym (no_cause_rows log c.args.files.now c.args.nodes.now full n (none_wrong_at log ordered right))) (adds_none at rows),
    )

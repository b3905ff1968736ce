-- Logs as diagrams show them.
use Rattle.std.proofs.Common.{◌≡◌, ◌∙◌, ℕ, ◌<◌, ◌≤◌, ◌++◌, List, Option, Some, None, arith, ap, length, subst, sym}
use Rattle.std.specs.Prelude.{false, slice_index_or}
use Rattle.std.proofs.lemmas.List.{get_or_default}
use Rattle.hlc_causes.specs.declared.answers.Finding.{Finding}
use Rattle.hlc_diagram.specs.Chosen.{IsMissing}
use Rattle.hlc_svg.specs.declared.numbers.FirstDigits.{FirstDigits}
use Rattle.hlc_log.specs.declared.log_event.LogEvent.{LogEvent}
use Rattle.hlc_ordered_log.proofs.EventsInOrder.{length-skeleton_of}
use Rattle.hlc_ordered_log.specs.InOrder.{IsInOrder, LogInOrder, skeleton_of}
use Rattle.hlc_stamp.specs.declared.id.EventId.{EventId}
use Rattle.hlc_log_picture.specs.Cells.{cell_text, cell_width, fact_text}
use Rattle.hlc_log_picture.specs.Drawn.{DrawnLog}
use Rattle.hlc_log_picture.specs.Judged.{event_finding_at}
use Rattle.hlc_log_picture.specs.declared.event_finding.EventFinding.{EventFinding}

-- what a diagram shows is an event of the log
pub exists_inside : (inside drawn : DrawnLog) (e : ℕ) → inside ≡ drawn → IsInOrder inside.log → e < length (skeleton_of drawn.log)
    → e < length inside.log.events
exists_inside inside drawn e same ordered exists =
    let there = subst (λ (d : DrawnLog). e < length (skeleton_of d.log)) (sym same) exists in
    let size = length-skeleton_of inside.log ordered in
    omega arith

pub exists_in : (inside drawn : DrawnLog) (e : ℕ) → inside ≡ drawn → IsInOrder inside.log → e < length (skeleton_of drawn.log)
    → e < length drawn.log.events
exists_in inside drawn e same ordered exists =
    subst (λ (d : DrawnLog). e < length d.log.events) same (exists_inside inside drawn e same ordered exists)

-- and has a finding that is kept
pub kept_in : (inside drawn : DrawnLog) (e : ℕ) → inside ≡ drawn → length inside.findings ≡ length inside.log.events → e < length drawn.log.events
    → e < length inside.findings
kept_in inside drawn e same judged exists =
    let there = subst (λ (d : DrawnLog). e < length d.log.events) (sym same) exists in
    omega (arith, there, judged)

-- which is this one
pub finding_here : (findings : List EventFinding) (e : ℕ) (event_finding : EventFinding) → e < length findings
    → event_finding ≡ slice_index_or findings e event_finding → event_finding ≡ event_finding_at findings e
finding_here findings e event_finding lt is =
    is ∙ get_or_default findings e event_finding (record { finding = None; is_cause = false }) lt

-- the cell of an event, its width and what a title tells, by what is known of the event
pub cell_is : (old : List ℕ) (first all : FirstDigits) (event other : LogEvent) (found known : Option Finding) (label named : Option (List ℕ)) (column : ℕ)
    → first ≡ all → event ≡ other → found ≡ known → label ≡ named
    → old ++ cell_text first event found label column ≡ old ++ cell_text all other known named column
cell_is old first all event other found known label named column first_is event_is found_is label_is =
    ap (λ (x : FirstDigits). old ++ cell_text x event found label column) first_is
    ∙ ap (λ (x : LogEvent). old ++ cell_text all x found label column) event_is
    ∙ ap (λ (x : Option Finding). old ++ cell_text all other x label column) found_is
    ∙ ap (λ (x : Option (List ℕ)). old ++ cell_text all other known x column) label_is

pub width_is : (first all : FirstDigits) (event other : LogEvent) (label named : Option (List ℕ)) (column : ℕ)
    → first ≡ all → event ≡ other → label ≡ named → cell_width first event label column ≡ cell_width all other named column
width_is first all event other label named column first_is event_is label_is =
    ap (λ (x : FirstDigits). cell_width x event label column) first_is
    ∙ ap (λ (x : LogEvent). cell_width all x label column) event_is
    ∙ ap (λ (x : Option (List ℕ)). cell_width all other x column) label_is

pub fact_is : (old : List ℕ) (event other : LogEvent) (found known : Option Finding) (label named : Option (List ℕ)) (column : ℕ)
    → event ≡ other → found ≡ known → label ≡ named → old ++ fact_text event found label column ≡ old ++ fact_text other known named column
fact_is old event other found known label named column event_is found_is label_is =
    ap (λ (x : LogEvent). old ++ fact_text x found label column) event_is
    ∙ ap (λ (x : Option Finding). old ++ fact_text other x label column) found_is
    ∙ ap (λ (x : Option (List ℕ)). old ++ fact_text other known x column) label_is

-- an event is missing from a log if it is missing from what a diagram shows of it
pub missing_in_log : (log : LogInOrder) (e : Option EventId) → IsInOrder log → IsMissing (skeleton_of log) e → IsMissing log.events e
missing_in_log log None ordered missing = missing
missing_in_log log (Some e) ordered missing =
    let size = length-skeleton_of log ordered in
    let beyond : length (skeleton_of log) ≤ e.0 = missing in
    omega arith

pub missing_in_diagram : (log : LogInOrder) (e : Option EventId) → IsInOrder log → IsMissing log.events e → IsMissing (skeleton_of log) e
missing_in_diagram log None ordered missing = missing
missing_in_diagram log (Some e) ordered missing =
    let size = length-skeleton_of log ordered in
    let beyond : length log.events ≤ e.0 = missing in
    omega arith

-- Events keep their lines: those whose messages are told apart, receives of unsent messages, whatever they are taken as, and those whose stamps are filled
-- in.
use Rattle.std.proofs.Common.{◌≡◌, ◌∙◌, Bool, true, false, ℕ, ◌<◌, List, Option, None, Some, get_or, length, arith, refl, ap}
use Rattle.std.specs.Prelude.{if◌then◌else◌}
use Rattle.std.proofs.lemmas.List.{get_or-map, get_or_default, length-map}
use Rattle.hlc_log.specs.Events.{no_event}
use Rattle.hlc_log.specs.Unsent.{is_unsent, taken_event, taken_kind, with_unsent}
use Rattle.hlc_log.specs.declared.log_event.LogEvent.{LogEvent}
use Rattle.hlc_log.specs.declared.log_event.LogKind.{LogKind}
use Rattle.hlc_log.specs.declared.resent.Resent.{Resent}
use Rattle.hlc_log.proofs.ResentLogs.{resent_line, resent_size}
use Rattle.hlc_ordered_log.specs.InOrder.{AreFilled}
use Rattle.hlc_ordered_log.proofs.Filled.{filled_keeps}
use Rattle.hlc_log_text.specs.ReadText.{LinesRise}
use Rattle.hlc_open_log.specs.Opened.{resent_apart}

either_line : (test : Bool) (k : LogKind) (e : LogEvent) → (if test then record e { kind = k } else e).line ≡ e.line
either_line true k e = refl
either_line false k e = refl

pub rise_kept : (as_local : Bool) (events : List LogEvent) → LinesRise events → LinesRise (with_unsent as_local events)
rise_kept as_local events rise = λ i j d lt within.
    let size = length-map events (taken_event as_local events) in
    let line_kept : (k : ℕ) → k < length events → (get_or (with_unsent as_local events) k d).line ≡ (get_or events k d).line = λ k exists.
    let e = get_or events k d in
    ap (λ (x : LogEvent). x.line) (get_or-map (taken_event as_local events) events k d d exists)
    ∙ either_line (is_unsent events e.kind) (taken_kind as_local e.carried e.kind) e in
    let first = line_kept i (omega arith) in
    let second = line_kept j (omega arith) in
    let rises = rise i j d lt (omega arith) in
    omega arith

pub rise_apart : (resent : Option Resent) (messages : ℕ) (events : List LogEvent) → LinesRise events → LinesRise (resent_apart resent messages events)
rise_apart None messages events rise = rise
rise_apart (Some resent) messages events rise = λ i j d lt within.
    let size = resent_size resent messages events in
    let first = resent_line resent messages events i d (omega arith) in
    let second = resent_line resent messages events j d (omega arith) in
    let rises = rise i j d lt (omega arith) in
    omega arith

pub rise_filled : (events filled : List LogEvent) → AreFilled events filled → LinesRise events → LinesRise filled
rise_filled events filled are rise = λ i j d lt within.
    let size = are.one_each in
    let line_kept : (k : ℕ) → k < length events → (get_or filled k d).line ≡ (get_or events k d).line = λ k exists.
    ap (λ (x : LogEvent). x.line) (get_or_default filled k d no_event (omega arith))
    ∙ filled_keeps events filled are (λ event. event.line) (λ event stamp. refl) k
    ∙ ap (λ (x : LogEvent). x.line) (get_or_default events k no_event d exists) in
    let first = line_kept i (omega arith) in
    let second = line_kept j (omega arith) in
    let rises = rise i j d lt (omega arith) in
    omega arith

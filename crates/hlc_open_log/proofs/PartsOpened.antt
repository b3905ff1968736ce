-- What of a log is opened.
use Rattle.std.proofs.Common.{◌≡◌, ◌≢◌, ◌<◌, ℕ, List, [], Option, None, Some, arith, ap, length, subst, sym}
use Rattle.std.specs.Prelude.{All}
use Rattle.std.proofs.lemmas.List.{get_or-map, length-map}
use Rattle.std.proofs.lemmas.List.Elements.{All-from_get_or, All-get_or}
use Rattle.std.proofs.lemmas.List.Kept.{AllPairs-from_increasing}
use Rattle.hlc_stamp.specs.declared.id.EventId.{EventId}
use Rattle.hlc_stamp.specs.Ids.{places_of}
use Rattle.hlc_log.specs.CausalOrder.{Waits, place_at}
use Rattle.hlc_log.specs.Events.{event_at, no_event}
use Rattle.hlc_log.specs.Parted.{IsParted}
use Rattle.hlc_log.specs.StandingOrder.{arranged}
use Rattle.hlc_log.specs.declared.log_event.LogEvent.{LogEvent}
use Rattle.hlc_log.proofs.KeptEvents.{those_exist}
use Rattle.hlc_log_text.specs.declared.bad_log.BadLine.{BadLine}
use Rattle.hlc_log_text.specs.declared.fault_rule.FaultRule.{FaultRule}
use Rattle.hlc_log_text.specs.declared.fault_rule.FaultRule.TheVariants.{LeaveOut}
use Rattle.hlc_log_text.specs.ReadText.{LinesRise}
use Rattle.hlc_open_log.specs.Opened.{IsPartOf}

-- if an event waits, some are left out
pub some_left : (events : List LogEvent) (kept left_out : List ℕ) → IsParted events kept left_out → (e : ℕ) → Waits events e → left_out ≢ []
some_left events kept left_out parted e waits none =
    let inside = (parted.left_are.exactly e).1 (waits.exists, waits) in
    let size = ap (λ (xs : List ℕ). length xs) none in
    omega (arith, inside.1, size)

-- each that is left out is an event
pub left_exist : (events : List LogEvent) (kept : List ℕ) (left_out : List EventId) → IsParted events kept (places_of left_out)
    → All (λ (place : EventId). place.0 < length events) left_out
left_exist events kept left_out parted k none lt =
    let size = length-map left_out (λ (place : EventId). place.0) in
    let exists = those_exist (length events) _ (places_of left_out) parted.left_are k (omega (arith, lt, size)) in
    subst (λ (e : ℕ). e < length events) (get_or-map (λ (place : EventId). place.0) left_out k none 0 lt) exists

-- what is so of each event is so of those that are opened
pub part_all : (P : LogEvent → Type 0) (rule : FaultRule) (events rest : List LogEvent) (kept : Option (List ℕ)) (lines : List BadLine)
    → IsPartOf rule events rest kept lines → All P events → All P rest
part_all P rule events rest None lines is all = subst (All P) (sym is.0) all
part_all P rule events rest (Some kept) lines is all =
    let size = length-map kept (event_at events) in
    subst (All P) (sym is.rest_are)
    (All-from_get_or P (arranged events kept) no_event (λ k lt.
    let within : k < length kept = omega (arith, lt, size) in
    subst P (sym (get_or-map (event_at events) kept k 0 no_event within))
    (All-get_or P events (place_at kept k) no_event (those_exist (length events) _ kept is.parted.kept_are k within) all)))

-- they stand as they stood
pub part_rises : (rule : FaultRule) (events rest : List LogEvent) (kept : Option (List ℕ)) (lines : List BadLine) → IsPartOf rule events rest kept lines
    → LinesRise events → LinesRise rest
part_rises rule events rest None lines is rise = subst LinesRise (sym is.0) rise
part_rises rule events rest (Some kept) lines is rise =
    subst LinesRise (sym is.rest_are) (λ i j d lt within.
    let size = length-map kept (event_at events) in
    let j_lt : j < length kept = omega (arith, within, size) in
    let exists = those_exist (length events) _ kept is.parted.kept_are j j_lt in
    let order = AllPairs-from_increasing kept is.parted.kept_are.rise i j 0 lt j_lt in
    let first = ap (λ (e : LogEvent). e.line) (get_or-map (event_at events) kept i 0 d (omega (arith, lt, j_lt))) in
    let second = ap (λ (e : LogEvent). e.line) (get_or-map (event_at events) kept j 0 d j_lt) in
    let rises = rise (place_at kept i) (place_at kept j) no_event order exists in
    omega (arith, first, second, rises))

-- where bad records aren't left out, all are
pub all_opened : (rule : FaultRule) (events rest : List LogEvent) (kept : Option (List ℕ)) (lines : List BadLine) → rule ≢ LeaveOut
    → IsPartOf rule events rest kept lines → (rest ≡ events) × (lines ≡ [])
all_opened rule events rest None lines other is = is
all_opened rule events rest (Some kept) lines other is = absurd (other is.leaves)

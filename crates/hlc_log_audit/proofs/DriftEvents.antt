-- The events of a log that a drift names, and the drift from the furthest event.
use Rattle.std.proofs.Common.{◌≡◌, ◌∙◌, ℕ, ◌<◌, List, length, Option, Some, None, ap, arith, refl, subst, sym}
use Rattle.std.specs.Prelude.{IfSome, option_map}
use Rattle.hlc_stamp.specs.declared.id.EventId.{EventId}
use Rattle.hlc_stamp.specs.Order.{Pair}
use Rattle.hlc_causality.specs.ClockEvents.{ClockEvents}
use Rattle.hlc_causality.specs.Forcing.{HasClockOrigin}
use Rattle.hlc_explain.specs.ClockFindings.{clock_drift_at, clock_origin_of}
use Rattle.hlc_explain.specs.declared.answers.Drift.{Drift}
use Rattle.hlc_ordered_log.specs.InOrder.{IsInOrder, LogInOrder, clocks_of, reading_told, skeleton_of}
use Rattle.hlc_ordered_log.proofs.EventsInOrder.{length-clocks_of, length-skeleton_of}
use Rattle.hlc_log_audit.specs.Answers.{drift_in}
use Rattle.hlc_log_audit.specs.Tally.{furthest_at, furthest_in}
use Rattle.hlc_log_audit.specs.ToldDrift.{NamesToldDrift, furthest_told}
use Rattle.hlc_log_audit.specs.declared.tally.Furthest.{Furthest}
use Rattle.hlc_log_audit.proofs.ToldDrifts.{origin_is, told_drift_found}

-- an origin, if events and stamps have other names
pub origin_renamed : (log : LogInOrder) (t : ClockEvents) (pairs : List Pair) (e origin : ℕ) → t ≡ clocks_of log → pairs ≡ log.least
    → HasClockOrigin t pairs e origin → HasClockOrigin (clocks_of log) log.least e origin
origin_renamed log t pairs e origin same same_pairs has =
    subst (λ (x : ClockEvents). HasClockOrigin x log.least e origin) same (subst (λ (x : List Pair). HasClockOrigin t x e origin) same_pairs has)

module _ (log : LogInOrder) (ordered : IsInOrder log) where
  -- an answer is the drift of a node of the log
  abbrev IsDrift : ℕ → Option Drift → Type 0
  IsDrift node found = NamesToldDrift (skeleton_of log) (clocks_of log) (reading_told log) log.least node found

  drift_found : (node : ℕ) → IsDrift node (drift_in log node)
  drift_found node = told_drift_found (skeleton_of log) (reading_told log) log.least node (clocks_of log) (length-clocks_of log)

  event_exists : (node : ℕ) (found : Option Drift) → IsDrift node found → IfSome found (λ drift. drift.event.0 < length log.events)
  event_exists node None is = tt
  event_exists node (Some drift) is =
      let size = length-skeleton_of log ordered in
      let exists = is.furthest.event.event.exists in
      omega arith

  origin_exists : (node : ℕ) (found : Option Drift) → IsDrift node found → IfSome found (λ drift. drift.origin.0 < length log.events)
  origin_exists node None is = tt
  origin_exists node (Some drift) is =
      let size = length-skeleton_of log ordered in
      omega (arith, is.origin.1.exists, size, length-clocks_of log)

  -- a drift names events
  pub drift_event_exists : (node : ℕ) → IfSome (drift_in log node) (λ drift. drift.event.0 < length log.events)
  drift_event_exists node = event_exists node (drift_in log node) (drift_found node)

  pub drift_origin_exists : (node : ℕ) → IfSome (drift_in log node) (λ drift. drift.origin.0 < length log.events)
  drift_origin_exists node = origin_exists node (drift_in log node) (drift_found node)

  -- the drift of an event that is so far ahead
  abbrev as_drift : Furthest → Drift
  as_drift f = record { ahead = f.ahead; event = f.event; origin = record { 0 = clock_origin_of (clocks_of log) log.least f.event.0 } }

  drifts_mapped : (o : Option ℕ)
      → option_map as_drift (option_map (furthest_at log) o) ≡ option_map (clock_drift_at (skeleton_of log) (clocks_of log) log.least) o
  drifts_mapped None = refl
  drifts_mapped (Some e) = refl

  -- from the furthest event of a node
  module _ (node : ℕ) (furthest : Option Furthest) (is : furthest ≡ furthest_in log (length log.events) node) where
    drift_is : option_map as_drift furthest ≡ drift_in log node
    drift_is =
        ap (option_map as_drift) is
        ∙ ap (λ (n : ℕ). option_map as_drift (furthest_in log n node)) (sym (length-skeleton_of log ordered))
        ∙ drifts_mapped (furthest_told (skeleton_of log) (reading_told log) log.least node (length (skeleton_of log)))

    pub no_drift : furthest ≡ None → None ≡ drift_in log node
    no_drift none = ap (option_map as_drift) (sym none) ∙ drift_is

    module _ (f : Furthest) (some : furthest ≡ Some f) where
      one_drift : Some (as_drift f) ≡ drift_in log node
      one_drift = ap (option_map as_drift) (sym some) ∙ drift_is

      pub furthest_exists : f.event.0 < length log.events
      furthest_exists = subst (λ (o : Option Drift). IfSome o (λ drift. drift.event.0 < length log.events)) (sym one_drift) (drift_event_exists node)

      pub some_drift : (origin : EventId) → HasClockOrigin (clocks_of log) log.least f.event.0 origin.0
          → Some (record { ahead = f.ahead; event = f.event; origin = origin }) ≡ drift_in log node
      some_drift origin has =
          let size = length-skeleton_of log ordered in
          let exists : f.event.0 < length (clocks_of log) = omega (arith, furthest_exists, size, length-clocks_of log) in
          let same : origin.0 ≡ clock_origin_of (clocks_of log) log.least f.event.0 = origin_is (clocks_of log) log.least f.event.0 exists origin.0 has in
          ap (λ (e : ℕ). Some (record { ahead = f.ahead; event = f.event; origin = record { 0 = e } })) same ∙ one_drift

-- The events of nodes, tallied one after another.
use Rattle.std.proofs.Common.{◌≡◌, ◌∙◌, ◌≢◌, Bool, true, false, cond, ℕ, ◌+◌, ◌<◌, ◌≤◌, ◌==◌, inl, inr, List, get_or, length, replicate, set, take, Option, Some, None, add-one, arith, refl, sym, ap}
use Rattle.std.specs.Prelude.{◌&&◌, count_by, nat_lt, option_map}
use Rattle.std.proofs.lemmas.Bool.{cases_Bool, cases_eq, eq-eqb, le-leb, lt-leb, ltb-false, ltb-true, ne_eqb}
use Rattle.std.proofs.lemmas.List.{get_or-replicate, get_or-set_other, get_or-set_same, length-replicate, length-set, length-take, take_all}
use Rattle.std.proofs.lemmas.List.Sums.{count_by-le-length, count_by_more_no, count_by_more_yes}
use Rattle.hlc_causality.specs.Causality.{Skeleton, SkeletonEvent, skeleton_at}
use Rattle.hlc_causality.specs.NodeEvents.{drift_at}
use Rattle.hlc_explain.specs.Findings.{further_ahead}
use Rattle.hlc_ordered_log.specs.InOrder.{IsInOrder, LogInOrder, reading_told, skeleton_of}
use Rattle.hlc_ordered_log.proofs.EventsInOrder.{length-skeleton_of}
use Rattle.hlc_log_audit.specs.Report.{events_at}
use Rattle.hlc_log_audit.specs.Tally.{AreTalliesBefore, further, furthest_at, furthest_in, no_tally, tally_before, with_event}
use Rattle.hlc_log_audit.specs.ToldDrift.{furthest_told}
use Rattle.hlc_log_audit.specs.declared.tally.Furthest.{Furthest}
use Rattle.hlc_log_audit.specs.declared.tally.NodeTally.{NodeTally}

module _ (log : LogInOrder) (n : ℕ) where
  abbrev s : Skeleton
  s = skeleton_of log

  abbrev test : ℕ → SkeletonEvent → Bool
  test node event = event.node == node

  pub few_counted : (node : ℕ) → (tally_before log n node).events ≤ n
  few_counted node =
      let size = length-take n s in
      let few = count_by-le-length (test node) (take n s) in
      omega arith

  -- the further ahead of two events
  further_agrees : (o : Option ℕ) → furthest_at log (further_ahead s log.least o n) ≡ further (option_map (furthest_at log) o) (furthest_at log n)
  further_agrees None = refl
  further_agrees (Some e) =
      let old = drift_at s log.least e in
      let new = drift_at s log.least n in
      let first : Bool → Furthest = λ b. furthest_at log (cond b n e) in
      let second : Bool → Furthest = λ b. cond b (furthest_at log e) (furthest_at log n) in
      elim (cases_Bool (nat_lt old new)) [
        | inl holds ↦ ap first holds ∙ sym (ap second (lt-leb new old (ltb-true old new holds)))
        | inr fails ↦ ap first fails ∙ sym (ap second (le-leb new old (ltb-false old new fails)))
      ]

  furthest_with : (told : Bool) (o : Option ℕ)
      → option_map (furthest_at log) (cond (true && told) (Some (further_ahead s log.least o n)) o)
      ≡ cond told (Some (further (option_map (furthest_at log) o) (furthest_at log n))) (option_map (furthest_at log) o)
  furthest_with true o = ap (λ (f : Furthest). Some f) (further_agrees o)
  furthest_with false o = refl

  -- one event more
  module _ (exists : n < length s) (node : ℕ) where
    abbrev none : SkeletonEvent
    none = record { node = 0; reading = 0; send = None }

    abbrev before : Option ℕ
    before = furthest_told s (reading_told log) log.least node n

    abbrev by_test : Bool → Option Furthest
    by_test b = option_map (furthest_at log) (cond (b && reading_told log n) (Some (further_ahead s log.least before n)) before)

    furthest_more : furthest_in log (n + 1) node ≡ by_test (test node (skeleton_at s n))
    furthest_more = ap (λ (m : ℕ). furthest_in log m node) (add-one n)

    pub tally_more : (skeleton_at s n).node ≡ node
        → tally_before log (n + 1) node ≡ with_event (tally_before log n node) (furthest_at log n) (reading_told log n)
    tally_more at =
        let is = eq-eqb (skeleton_at s n).node node at in
        let count = count_by_more_yes (test node) s n none exists is in
        let furthest = furthest_more ∙ ap by_test is ∙ furthest_with (reading_told log n) before in
        λ i. record { events = count i; furthest = furthest i }

    pub tally_same : (skeleton_at s n).node ≢ node → tally_before log (n + 1) node ≡ tally_before log n node
    tally_same other =
        let is = ne_eqb (skeleton_at s n).node node other in
        let count = count_by_more_no (test node) s n none exists is in
        let furthest = furthest_more ∙ ap by_test is in
        λ i. record { events = count i; furthest = furthest i }

  pub tallies_push : (tallies : List NodeTally) (node : ℕ) (tally : NodeTally) → n < length s → node ≡ (skeleton_at s n).node → node < log.nodes
      → tally ≡ with_event (get_or tallies node no_tally) (furthest_at log n) (reading_told log n)
      → AreTalliesBefore log n tallies → AreTalliesBefore log (n + 1) (set tallies node tally)
  tallies_push tallies node tally exists is small tally_is are =
      let size = are.nodes in
      record {
        nodes = length-set tallies node tally ∙ size;
        each = λ k lt. elim (cases_eq k node) [
          | inl same ↦
              ap (λ (j : ℕ). get_or (set tallies node tally) j no_tally) same
              ∙ get_or-set_same tallies node tally no_tally (omega arith)
              ∙ tally_is
              ∙ ap (λ (old : NodeTally). with_event old (furthest_at log n) (reading_told log n)) (are.each node small)
              ∙ sym (tally_more exists node (sym is))
              ∙ ap (tally_before log (n + 1)) (sym same)
          | inr ne ↦
              get_or-set_other tallies node k tally no_tally ne ∙ are.each k lt
              ∙ sym (tally_same exists k (λ e. ne (sym (is ∙ e))))
        ];
      }

-- before the first event
pub tallies_begin : (log : LogInOrder) → AreTalliesBefore log 0 (replicate log.nodes no_tally)
tallies_begin log = record {
  nodes = length-replicate log.nodes no_tally;
  each = λ node small. get_or-replicate log.nodes node no_tally no_tally small;
}

-- after the last event
pub all_events_counted : (log : LogInOrder) → IsInOrder log → (node : ℕ) → (tally_before log (length log.events) node).events ≡ events_at log node
all_events_counted log ordered node =
    let size = length-skeleton_of log ordered in
    ap (λ (events : Skeleton). count_by (λ (event : SkeletonEvent). event.node == node) events) (take_all (length log.events) (skeleton_of log) (omega arith))

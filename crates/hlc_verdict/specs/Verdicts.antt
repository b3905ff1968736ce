-- Verdicts that are made one at a time.
use Rattle.std.specs.Prelude.{◌≡◌, ℕ, ◌<◌, ◌≤◌, Option, None, List, drop, length, map, slice_index_or, take}
use Rattle.hlc_stamp.specs.declared.id.EventId.{EventId}
use Rattle.hlc_stamp.specs.declared.limits.TheConstants.{MAX_NODES}
use Rattle.hlc_stamp.specs.Order.{Pair}
use Rattle.hlc_causality.specs.Assignment.{IsLeast}
use Rattle.hlc_causality.specs.Causality.{Skeleton}
use Rattle.hlc_causality.specs.LeastPairs.{least_pairs}
use Rattle.hlc_causality.specs.Neighbours.{place_of}
use Rattle.hlc_causality.specs.Places.{places_below}
use Rattle.hlc_causality.specs.Predecessors.{latest_before}
use Rattle.hlc_verdict.specs.declared.claim.Claim.{Claim}
use Rattle.hlc_verdict.specs.declared.verdict.Verdict.{Verdict}
use Rattle.hlc_verdict.specs.Trace.{IsSoundTrace, trace_skeleton}
use Rattle.hlc_verdict.specs.Verdict.{verdict_of}

-- the least stamps of a trace
abbrev pub least_stamps : List Claim → List Pair
least_stamps claims = least_pairs (trace_skeleton claims)

-- the verdicts on the claims from a place on
abbrev pub verdicts_from : List Claim → ℕ → List Verdict
verdicts_from claims n = map (verdict_of claims (least_stamps claims)) (drop n (places_below (length claims)))

-- each answer names the last event of its node below n
abbrev pub NamesLatest : Skeleton → ℕ → List (Option EventId) → Type 0
NamesLatest s n last = (node : ℕ) → node < length last → place_of (slice_index_or last node None) ≡ latest_before s node n

-- the first claims of a trace were judged, as many as there are least stamps, and there is room for those of the others
pub record IsUnderWay (claims : List Claim) (last : List (Option EventId)) (least : List Pair) (room : ℕ) : Type 0 where
  pub sound : IsSoundTrace claims
  pub nodes : length last ≡ MAX_NODES
  pub latest : NamesLatest (trace_skeleton claims) (length least) last
  pub so_far : IsLeast (take (length least) (trace_skeleton claims)) least
  pub room_for_all : length claims ≤ room

-- What is kept of each node stays right when an event is added.
use Rattle.std.proofs.Common.{◌≡◌, ◌≢◌, ℕ, ◌-◌, ◌<◌, ◌≤◌, ◌⊎◌, inl, inr, List, [], ◌∷◌, ◌++◌, length, get_or, replicate, Option, Some, None, arith, subst, sym, ap, ◌∙◌}
use Rattle.std.specs.Prelude.{slice_index_or, slice_set}
use Rattle.std.proofs.lemmas.Bool.{cases_eq}
use Rattle.std.proofs.lemmas.List.{get_or_append_left, get_or_push, get_or-set_other, get_or-set_same, length-replicate, length-set, length_push, map-set, get_or-replicate, get_or_default}
use Rattle.hlc_stamp.specs.declared.id.EventId.{EventId}
use Rattle.hlc_stamp.specs.Order.{Pair, zero_pair}
use Rattle.hlc_causality.specs.Assignment.{pair_at}
use Rattle.hlc_causality.specs.Causality.{Skeleton, SkeletonEvent, skeleton_at}
use Rattle.hlc_causality.specs.NodeEvents.{IsEventOf, IsFirstOf, IsFurthestAhead, drift_at}
use Rattle.hlc_execution.specs.declared.node_ends.NodeEnds.{NodeEnds}
use Rattle.hlc_execution.specs.NodeEnds.{AreEndsOf, FitsEachNode, FitsNode, StaysRight, last_in, lasts_of}
use Rattle.hlc_execution.proofs.Executions.{no_event}

-- one more event
module _ (s : Skeleton) (x : SkeletonEvent) where
  stays_at : (e : ℕ) → e < length s → skeleton_at (s ++ x ∷ []) e ≡ skeleton_at s e
  stays_at e lt = get_or_append_left s (x ∷ []) no_event e lt

  new_at : (e : ℕ) → e ≡ length s → skeleton_at (s ++ x ∷ []) e ≡ x
  new_at e at = get_or_push s x no_event e (sym at)

  event_stays : (node e : ℕ) → IsEventOf s node e → IsEventOf (s ++ x ∷ []) node e
  event_stays node e h =
      let within = h.exists in
      let size = length_push s x in
      record { exists = omega arith; at_node = ap (λ (y : SkeletonEvent). y.node) (stays_at e within) ∙ h.at_node }

  new_event : (e : ℕ) → e ≡ length s → IsEventOf (s ++ x ∷ []) x.node e
  new_event e at = let size = length_push s x in record { exists = omega arith; at_node = ap (λ (y : SkeletonEvent). y.node) (new_at e at) }

  -- an event of a node was one before, or is new
  event_cases : (node e : ℕ) → IsEventOf (s ++ x ∷ []) node e → IsEventOf s node e ⊎ ((e ≡ length s) × (x.node ≡ node))
  event_cases node e h = elim (cases_eq e (length s)) [
    | inl new ↦ inr (new, sym (ap (λ (y : SkeletonEvent). y.node) (new_at e new)) ∙ h.at_node)
    | inr ne ↦
        let size = length_push s x in
        let within = h.exists in
        let old : e < length s = omega arith in
        inl (record { exists = old; at_node = sym (ap (λ (y : SkeletonEvent). y.node) (stays_at e old)) ∙ h.at_node })
  ]

  first_stays : (node e : ℕ) → IsFirstOf s node e → IsFirstOf (s ++ x ∷ []) node e
  first_stays node e h = record {
    event = event_stays node e h.event;
    first = λ d event. elim (event_cases node d event) [
      | inl old ↦ h.first d old
      | inr new ↦ let within = h.event.exists in omega (arith, new.0)
    ];
  }

  -- with its pair
  module _ (pairs : List Pair) (p : Pair) (size : length pairs ≡ length s) where
    drift_stays : (e : ℕ) → e < length s → drift_at (s ++ x ∷ []) (pairs ++ p ∷ []) e ≡ drift_at s pairs e
    drift_stays e lt =
        ap (λ (q : Pair). q.l - (skeleton_at (s ++ x ∷ []) e).reading) (get_or_append_left pairs (p ∷ []) zero_pair e (omega arith))
        ∙ ap (λ (y : SkeletonEvent). (pair_at pairs e).l - y.reading) (stays_at e lt)

    drift_of_new : (e : ℕ) → e ≡ length s → drift_at (s ++ x ∷ []) (pairs ++ p ∷ []) e ≡ p.l - x.reading
    drift_of_new e at =
        ap (λ (q : Pair). q.l - (skeleton_at (s ++ x ∷ []) e).reading) (get_or_push pairs p zero_pair e (size ∙ sym at))
        ∙ ap (λ (y : SkeletonEvent). p.l - y.reading) (new_at e at)

    -- the first event of greatest drift stays so if the new event has no greater drift or is another node's
    furthest_stays : (node e : ℕ) → (x.node ≡ node → p.l - x.reading ≤ drift_at s pairs e) → IsFurthestAhead s pairs node e
        → IsFurthestAhead (s ++ x ∷ []) (pairs ++ p ∷ []) node e
    furthest_stays node e less h =
        let within = h.event.exists in
        let here = drift_stays e within in
        record {
          event = event_stays node e h.event;
          none_greater = λ d event. elim (event_cases node d event) [
            | inl old ↦ omega (arith, here, drift_stays d old.exists, h.none_greater d old)
            | inr new ↦ omega (arith, here, drift_of_new d new.0, less new.1)
          ];
          first = λ d event lt. elim (event_cases node d event) [
            | inl old ↦ omega (arith, here, drift_stays d old.exists, h.first d old lt)
            | inr new ↦ absurd (omega (arith, new.0))
          ];
        }

    -- and else the new one is
    furthest_is_new : (e : ℕ) → e ≡ length s → ((d : ℕ) → IsEventOf s x.node d → drift_at s pairs d < p.l - x.reading)
        → IsFurthestAhead (s ++ x ∷ []) (pairs ++ p ∷ []) x.node e
    furthest_is_new e at less =
        let here = drift_of_new e at in
        record {
          event = new_event e at;
          none_greater = λ d event. elim (event_cases x.node d event) [
            | inl old ↦ omega (arith, here, drift_stays d old.exists, less d old)
            | inr new ↦ omega (arith, here, drift_of_new d new.0)
          ];
          first = λ d event lt. elim (event_cases x.node d event) [
            | inl old ↦ omega (arith, here, drift_stays d old.exists, less d old)
            | inr new ↦ absurd (omega (arith, new.0))
          ];
        }

    fits_other : (node : ℕ) (kept : Option NodeEnds) → x.node ≢ node → FitsNode s pairs node kept
        → FitsNode (s ++ x ∷ []) (pairs ++ p ∷ []) node kept
    fits_other node None other h = λ e event. elim (event_cases node e event) [ inl old ↦ h e old | inr new ↦ other new.1 ]
    fits_other node (Some ends) other h = record {
      first = first_stays node ends.first.0 h.first;
      furthest = furthest_stays node ends.furthest.0 (λ same. absurd (other same)) h.furthest;
      drift = drift_stays ends.furthest.0 h.furthest.event.exists ∙ h.drift;
    }

-- a node's first event
pub ends_begin : (event : EventId) (drift : ℕ)
    → StaysRight None event drift (record { first = event; last = event; furthest = event; drift = drift })
ends_begin event drift = λ s pairs x p at size is none. record {
  first = record {
    event = new_event s x event.0 (sym at);
    first = λ d other. elim (event_cases s x x.node d other) [ inl old ↦ absurd (none d old) | inr new ↦ omega (arith, new.0) ];
  };
  furthest = furthest_is_new s x pairs p (size ∙ sym at) event.0 (sym at) (λ d old. absurd (none d old));
  drift = drift_of_new s x pairs p (size ∙ sym at) event.0 (sym at) ∙ is;
}

module _ (ends : NodeEnds) (event : EventId) (drift : ℕ) where
  -- an event of greater drift than all before
  pub ends_overtaken : ends.drift < drift
      → StaysRight (Some ends) event drift (record ends { last = event; furthest = event; drift = drift })
  ends_overtaken lt = λ s pairs x p at size is h. record {
    first = first_stays s x x.node ends.first.0 h.first;
    furthest =
        furthest_is_new s x pairs p (size ∙ sym at) event.0 (sym at)
        (λ d old. omega (arith, h.furthest.none_greater d old, h.drift));
    drift = drift_of_new s x pairs p (size ∙ sym at) event.0 (sym at) ∙ is;
  }

  -- another event
  pub ends_stay : drift ≤ ends.drift → StaysRight (Some ends) event drift (record ends { last = event })
  ends_stay le = λ s pairs x p at size is h. record {
    first = first_stays s x x.node ends.first.0 h.first;
    furthest = furthest_stays s x pairs p (size ∙ sym at) x.node ends.furthest.0 (λ same. omega (arith, h.drift)) h.furthest;
    drift = drift_stays s x pairs p (size ∙ sym at) ends.furthest.0 h.furthest.event.exists ∙ h.drift;
  }

-- with one more event each node's is right
pub fits_each-push : (s : Skeleton) (pairs : List Pair) (x : SkeletonEvent) (p : Pair) (kept : List (Option NodeEnds)) (ends : NodeEnds)
    → length pairs ≡ length s → x.node < length kept → AreEndsOf (s ++ x ∷ []) (pairs ++ p ∷ []) x.node ends
    → FitsEachNode s pairs kept → FitsEachNode (s ++ x ∷ []) (pairs ++ p ∷ []) (slice_set kept x.node (Some ends))
fits_each-push s pairs x p kept ends many exists is h node lt =
    let size = length-set kept x.node (Some ends) in
    let after = slice_set kept x.node (Some ends) in
    elim (cases_eq node x.node) [
      | inl same ↦
          let here : slice_index_or after node None ≡ Some ends =
          ap (λ (n : ℕ). slice_index_or after n None) same ∙ get_or-set_same kept x.node (Some ends) None exists in
          subst (FitsNode (s ++ x ∷ []) (pairs ++ p ∷ []) node) (sym here)
          (subst (λ (n : ℕ). AreEndsOf (s ++ x ∷ []) (pairs ++ p ∷ []) n ends) (sym same) is)
      | inr ne ↦
          subst (FitsNode (s ++ x ∷ []) (pairs ++ p ∷ []) node) (sym (get_or-set_other kept x.node node (Some ends) None ne))
          (fits_other s x pairs p many node (slice_index_or kept node None) (λ same. ne (sym same)) (h node (omega arith)))
    ]

pub lasts-push : (kept : List (Option NodeEnds)) (node : ℕ) (ends : NodeEnds)
    → lasts_of (slice_set kept node (Some ends)) ≡ slice_set (lasts_of kept) node (Some ends.last)
lasts-push kept node ends = map-set last_in kept node (Some ends)

-- what is read for a node is right
pub fits_node : (s : Skeleton) (pairs : List Pair) (kept : List (Option NodeEnds)) (node : ℕ) (ends : Option NodeEnds)
    → FitsEachNode s pairs kept → node < length kept → ends ≡ get_or kept node ends → FitsNode s pairs node ends
fits_node s pairs kept node ends h lt is = subst (FitsNode s pairs node) (sym (is ∙ get_or_default kept node ends None lt)) (h node lt)

-- no node has an event at first
pub fits_none : (nodes : ℕ) → FitsEachNode [] [] (replicate nodes None)
fits_none nodes node lt =
    let below : node < nodes = omega (arith, length-replicate {A = Option NodeEnds} nodes None) in
    subst (FitsNode [] [] node) (sym (get_or-replicate nodes node None None below))
    (λ e event. let within = event.exists in absurd (omega arith))

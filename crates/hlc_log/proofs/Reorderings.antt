-- A reordering keeps happened-before and least pairs.
use Rattle.std.proofs.Common.{◌≡◌, ℕ, ◌<◌, ◌≤◌, ◌-◌, inl, inr, List, [], ◌∷◌, length, map, arith, subst, sym, ap, ◌∙◌}
use Rattle.std.proofs.lemmas.Bool.{cases_eq}
use Rattle.std.proofs.lemmas.List.{get_or-map, length-map}
use Rattle.hlc_stamp.specs.Order.{IsAtMost, IsBelow, Pair, zero_pair}
use Rattle.hlc_causality.specs.Assignment.{IsAllowed, IsLeast, pair_at}
use Rattle.hlc_causality.specs.Causality.{HappenedBefore, IsDirectPredecessor, IsEarlierAtNode, IsPath, IsPrevious, IsSendOf, Precedes, Skeleton, skeleton_at}
use Rattle.hlc_causality.specs.NodeEvents.{IsEventOf, IsFurthestAhead, drift_at}
use Rattle.hlc_causality.specs.Places.{places_below}
use Rattle.hlc_causality.proofs.Pairs.{at_most_antisymm}
use Rattle.hlc_causality.proofs.Past.{happened_before_earlier}
use Rattle.hlc_causality.proofs.PlacesBelow.{length-places_below, place_at}
use Rattle.hlc_log.specs.Laws.{ReorderingKeepsFurthestAhead, ReorderingKeepsHappenedBefore, ReorderingKeepsLeast}
use Rattle.hlc_log.specs.Reordering.{HaveEqualPairs, IsReordering, IsSameNode, KeepsEvents}

-- a map that keeps events keeps paths
module _ (s t : Skeleton) (to : ℕ → ℕ) (keeps : KeepsEvents s t to) where
  step_kept : (e f : ℕ) → Precedes s e f → Precedes t (to e) (to f)
  step_kept e f (inl at_node) = inl (keeps.at_node e f at_node)
  step_kept e f (inr send) = inr (keeps.send e f send)

  path_kept : (e : ℕ) (between : List ℕ) (f : ℕ) → IsPath s e between f → IsPath t (to e) (map to between) (to f)
  path_kept e [] f step = step_kept e f step
  path_kept e (m ∷ between) f (step, path) = (step_kept e m step, path_kept m between f path)

  pub happened_before_kept : (e f : ℕ) → HappenedBefore s e f → HappenedBefore t (to e) (to f)
  happened_before_kept e f h = (map to h.0, path_kept e h.0 f h.1)

  -- and allowed pairs: each event of s gets the pair of that of t
  pub pairs_along : List Pair → List Pair
  pairs_along pairs = map (λ (e : ℕ). pair_at pairs (to e)) (places_below (length s))

  pub pair_along : (pairs : List Pair) (e : ℕ) → e < length s → pair_at (pairs_along pairs) e ≡ pair_at pairs (to e)
  unfolding pairs_along
  pair_along pairs e lt =
      let size = length-places_below (length s) in
      get_or-map (λ (d : ℕ). pair_at pairs (to d)) (places_below (length s)) e 0 zero_pair (omega arith)
      ∙ ap (λ (d : ℕ). pair_at pairs (to d)) (place_at (length s) e lt)

  pub length-pairs_along : (pairs : List Pair) → length (pairs_along pairs) ≡ length s
  unfolding pairs_along
  length-pairs_along pairs =
      length-map (places_below (length s)) (λ (d : ℕ). pair_at pairs (to d)) ∙ length-places_below (length s)

  allowed_along : (pairs : List Pair) → IsAllowed t pairs → IsAllowed s (pairs_along pairs)
  allowed_along pairs allowed = record {
    one_each = length-pairs_along pairs;
    not_behind = λ e lt.
        let reads = allowed.not_behind (to e) (keeps.exists e lt) in
        let same = keeps.reading e lt in
        let is : (pair_at (pairs_along pairs) e).l ≡ (pair_at pairs (to e)).l = ap (λ (p : Pair). p.l) (pair_along pairs e lt) in
        omega arith;
    rising = λ e f before.
        let bounds = happened_before_earlier s e f before in
        let first = pair_along pairs e (omega (arith, bounds.0, bounds.1)) in
        let second = pair_along pairs f bounds.1 in
        subst (λ (p : Pair). IsBelow p (pair_at (pairs_along pairs) f)) (sym first)
        (subst (IsBelow (pair_at pairs (to e))) (sym second) (allowed.rising (to e) (to f) (happened_before_kept e f before)));
  }

  -- so least pairs of s are at most those of t
  pub least_at_most : (pairs others : List Pair) → IsLeast s pairs → IsLeast t others
      → (e : ℕ) → e < length s → IsAtMost (pair_at pairs e) (pair_at others (to e))
  least_at_most pairs others least other e lt =
      subst (IsAtMost (pair_at pairs e)) (pair_along others e lt) (least.least (pairs_along others) (allowed_along others other.allowed) e lt)

pub reordering_keeps_happened_before : ReorderingKeepsHappenedBefore
reordering_keeps_happened_before s t to back h e f e_exists f_exists = (
  happened_before_kept s t to h.there e f,
  λ before.
      subst (λ (x : ℕ). HappenedBefore s x f) (h.back_here e e_exists)
      (subst (HappenedBefore s (back (to e))) (h.back_here f f_exists) (happened_before_kept t s back h.here (to e) (to f) before)),
)

pub reordering_keeps_least : ReorderingKeepsLeast
reordering_keeps_least s t to back h pairs others least other e lt =
    at_most_antisymm (pair_at pairs e) (pair_at others (to e))
    (least_at_most s t to h.there pairs others least other e lt)
    (subst (λ (x : ℕ). IsAtMost (pair_at others (to e)) (pair_at pairs x)) (h.back_here e lt)
    (least_at_most t s back h.here others pairs other least (to e) (h.there.exists e lt)))

-- the other way round
pub turned : (s t : Skeleton) (to back : ℕ → ℕ) → IsReordering s t to back → IsReordering t s back to
turned s t to back h = record { there = h.here; here = h.there; back_here = h.back_there; back_there = h.back_here }

pub equal_turned : (s t : Skeleton) (to back : ℕ → ℕ) → IsReordering s t to back → (pairs others : List Pair) → HaveEqualPairs s to pairs others
    → HaveEqualPairs t back others pairs
equal_turned s t to back h pairs others equal e exists =
    sym (equal (back e) (h.here.exists e exists) ∙ ap (λ (x : ℕ). pair_at others x) (h.back_there e exists))

module _ (s t : Skeleton) (to back : ℕ → ℕ) (h : IsReordering s t to back) where
  pub earlier_returned : (m f : ℕ) → f < length s → IsEarlierAtNode t m (to f) → IsEarlierAtNode s (back m) f
  earlier_returned m f exists earlier = subst (IsEarlierAtNode s (back m)) (h.back_here f exists) (h.here.at_node m (to f) earlier)

  latest_kept : (d f m : ℕ) → IsPrevious s d f → IsEarlierAtNode t m (to f) → m ≤ to d
  latest_kept d f m previous earlier =
      let at_node = previous.at_node in
      let exists : f < length s = at_node.exists in
      let before = earlier_returned m f exists earlier in
      let latest : back m ≤ d = previous.latest (back m) before in
      let there : to (back m) ≡ m = h.back_there m (omega (arith, earlier.earlier, earlier.exists)) in
      elim (cases_eq (back m) d) [
        | inl same ↦ let is : m ≡ to d = sym there ∙ ap to same in omega arith
        | inr differ ↦
            let lt : d < f = at_node.earlier in
            let between : IsEarlierAtNode s (back m) d =
            record { earlier = omega arith; exists = omega arith; same_node = before.same_node ∙ sym at_node.same_node } in
            let kept = h.there.at_node (back m) d between in
            omega (arith, there, kept.earlier)
      ]

  pub previous_kept : (d f : ℕ) → IsPrevious s d f → IsPrevious t (to d) (to f)
  previous_kept d f previous = record {
    at_node = h.there.at_node d f previous.at_node;
    latest = λ m earlier. latest_kept d f m previous earlier;
  }

  pub direct_kept : (d f : ℕ) → IsDirectPredecessor s d f → IsDirectPredecessor t (to d) (to f)
  direct_kept d f (inl previous) = inl (previous_kept d f previous)
  direct_kept d f (inr send) = inr (h.there.send d f send)

  pub same_node_turned : (a b : ℕ) → IsSameNode s t to a b → IsSameNode t s back b a
  same_node_turned a b same e exists =
      let here = same (back e) (h.here.exists e exists) in
      let there = h.back_there e exists in (
        λ is. here.1 (subst (λ (x : ℕ). (skeleton_at t x).node ≡ b) (sym there) is),
        λ is. subst (λ (x : ℕ). (skeleton_at t x).node ≡ b) there (here.0 is),
      )

-- and back
module _ (s t : Skeleton) (to back : ℕ → ℕ) (h : IsReordering s t to back) (f : ℕ) (exists : f < length s) where
  pub previous_returned : (d : ℕ) → IsPrevious t d (to f) → IsPrevious s (back d) f
  previous_returned d previous =
      subst (IsPrevious s (back d)) (h.back_here f exists) (previous_kept t s back to (turned s t to back h) d (to f) previous)

  pub send_returned : (d : ℕ) → IsSendOf t d (to f) → IsSendOf s (back d) f
  send_returned d send = subst (IsSendOf s (back d)) (h.back_here f exists) (h.here.send d (to f) send)

  pub direct_returned : (d : ℕ) → IsDirectPredecessor t d (to f) → IsDirectPredecessor s (back d) f
  direct_returned d (inl previous) = inl (previous_returned d previous)
  direct_returned d (inr send) = inr (send_returned d send)

-- drifts, by equal pairs
module _ (s t : Skeleton) (to back : ℕ → ℕ) (h : IsReordering s t to back) (pairs others : List Pair) (equal : HaveEqualPairs s to pairs others) where
  pub drift_kept : (e : ℕ) → e < length s → drift_at s pairs e ≡ drift_at t others (to e)
  drift_kept e exists =
      ap (λ (p : Pair). p.l - (skeleton_at s e).reading) (equal e exists)
      ∙ ap (λ (n : ℕ). (pair_at others (to e)).l - n) (sym (h.there.reading e exists))

  drift_returned : (e : ℕ) → e < length t → drift_at s pairs (back e) ≡ drift_at t others e
  drift_returned e exists =
      drift_kept (back e) (h.here.exists e exists) ∙ ap (λ (x : ℕ). drift_at t others x) (h.back_there e exists)

  module _ (a b : ℕ) (same : IsSameNode s t to a b) where
    event_kept : (e : ℕ) → IsEventOf s a e → IsEventOf t b (to e)
    event_kept e event = record { exists = h.there.exists e event.exists; at_node = (same e event.exists).0 event.at_node }

    pub event_returned : (e : ℕ) → IsEventOf t b e → IsEventOf s a (back e)
    event_returned e event = record {
      exists = h.here.exists e event.exists;
      at_node = (same_node_turned s t to back h a b same e event.exists).0 event.at_node;
    }

    pub furthest_ahead_kept : (e : ℕ) → IsFurthestAhead s pairs a e → IsFurthestAhead t others b (to e)
    furthest_ahead_kept e furthest =
        let here = furthest.event in
        let there = event_kept e here in
        let own = drift_kept e here.exists in
        record {
          event = there;
          none_greater = λ d event.
              let drift = drift_returned d event.exists in
              let le = furthest.none_greater (back d) (event_returned d event) in
              omega arith;
          first = λ d event earlier.
              let drift = drift_returned d event.exists in
              let at_node : IsEarlierAtNode t d (to e) =
              record { earlier = earlier; exists = there.exists; same_node = event.at_node ∙ sym there.at_node } in
              let before = earlier_returned s t to back h d e here.exists at_node in
              let lt = furthest.first (back d) (event_returned d event) before.earlier in
              omega arith;
        }

pub reordering_keeps_furthest_ahead : ReorderingKeepsFurthestAhead
reordering_keeps_furthest_ahead s t to back h pairs others equal a b same e furthest =
    furthest_ahead_kept s t to back h pairs others equal a b same e furthest

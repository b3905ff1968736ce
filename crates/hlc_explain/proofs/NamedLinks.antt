-- What names a direct predecessor names the one that is found, and the one that is found depends on nodes and sends alone.
use Rattle.std.proofs.Common.{◌≡◌, ℕ, ◌<◌, length, Option, Some, None, arith, refl, ap}
use Rattle.hlc_stamp.specs.declared.id.EventId.{EventId}
use Rattle.hlc_causality.specs.Causality.{IsPrevious, IsSendOf, Skeleton}
use Rattle.hlc_causality.specs.Neighbours.{NamesPrevious, NamesSend, place_of}
use Rattle.hlc_causality.specs.Predecessors.{previous_of, send_of}
use Rattle.hlc_causality.proofs.Predecessors.{previous_is_unique, send_is_unique}
use Rattle.hlc_causality.proofs.PredecessorsFound.{Finds, previous_found, send_found}
use Rattle.hlc_causality.proofs.SameLinks.{IsSameLinks, previous_kept, same_links_back, send_kept}

-- two that are found are one
found_once : (P : ℕ → Type 0) → ((d e : ℕ) → P d → P e → d ≡ e) → (a b : Option ℕ) → Finds P a → Finds P b → a ≡ b
found_once P unique None None p q = refl
found_once P unique None (Some e) none found = absurd (none e found)
found_once P unique (Some d) None found none = absurd (none d found)
found_once P unique (Some d) (Some e) found other = ap (λ (x : ℕ). Some x) (unique d e found other)

found_as : (P Q : ℕ → Type 0) → ((d : ℕ) → P d → Q d) → ((d : ℕ) → Q d → P d) → (o : Option ℕ) → Finds P o → Finds Q o
found_as P Q to from None none = λ d h. none d (from d h)
found_as P Q to from (Some d) found = to d found

module _ (s : Skeleton) (f : ℕ) (exists : f < length s) where
  names_previous : (link : Option EventId) → NamesPrevious s f link → Finds (λ d. IsPrevious s d f) (place_of link)
  names_previous None none = λ d h. none d h.at_node
  names_previous (Some d) found = found

  names_send : (link : Option EventId) → NamesSend s f link → Finds (λ d. IsSendOf s d f) (place_of link)
  names_send None none = none
  names_send (Some d) found = found

  pub previous_named : (link : Option EventId) → NamesPrevious s f link → place_of link ≡ previous_of s f
  previous_named link names =
      found_once (λ d. IsPrevious s d f) (λ d e. previous_is_unique s d e f) (place_of link) (previous_of s f)
      (names_previous link names) (previous_found s f exists)

  pub send_named : (link : Option EventId) → NamesSend s f link → place_of link ≡ send_of s f
  send_named link names =
      found_once (λ d. IsSendOf s d f) (λ d e. send_is_unique s d e f) (place_of link) (send_of s f)
      (names_send link names) (send_found s f exists)

  module _ (r : Skeleton) (same : IsSameLinks s r) where
    there : f < length r
    there = omega (arith, exists, same.size)

    pub same_previous : previous_of s f ≡ previous_of r f
    same_previous =
        found_once (λ d. IsPrevious r d f) (λ d e. previous_is_unique r d e f) (previous_of s f) (previous_of r f)
        (found_as (λ d. IsPrevious s d f) (λ d. IsPrevious r d f) (λ d. previous_kept s r same d f)
        (λ d. previous_kept r s (same_links_back s r same) d f) (previous_of s f) (previous_found s f exists))
        (previous_found r f there)

    pub same_send : send_of s f ≡ send_of r f
    same_send =
        found_once (λ d. IsSendOf r d f) (λ d e. send_is_unique r d e f) (send_of s f) (send_of r f)
        (found_as (λ d. IsSendOf s d f) (λ d. IsSendOf r d f) (λ d. send_kept s r same d f)
        (λ d. send_kept r s (same_links_back s r same) d f) (send_of s f) (send_found s f exists))
        (send_found r f there)

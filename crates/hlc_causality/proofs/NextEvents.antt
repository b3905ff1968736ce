-- The least pair above the direct predecessors of an event that comes next.
use Rattle.std.proofs.Common.{◌≡◌, ℕ, ◌<◌, ◌≤◌, inl, inr, List, [], ◌∷◌, ◌++◌, length, arith, refl, subst, sym, ap, ◌∙◌, Option, Some, None}
use Rattle.std.proofs.lemmas.List.{get_or_append_left, get_or_push, length_push}
use Rattle.hlc_stamp.specs.declared.id.EventId.{EventId}
use Rattle.hlc_stamp.specs.Order.{IsAtMost, IsBelow, Pair}
use Rattle.hlc_causality.specs.Assignment.{IsAllowedAt, IsLeastAbove, pair_at}
use Rattle.hlc_causality.specs.Causality.{IsEarlierAtNode, IsPrevious, IsSendOf, Skeleton, SkeletonEvent, skeleton_at}
use Rattle.hlc_causality.specs.Neighbours.{IsLastAt, NamesLast, NamesLastPair}
use Rattle.hlc_causality.proofs.SamePrefix.{no_event}

module _ (s : Skeleton) (x : SkeletonEvent) where
  abbrev pub longer : Skeleton
  longer = s ++ x ∷ []

  before : (e : ℕ) → e < length s → skeleton_at longer e ≡ skeleton_at s e
  before e lt = get_or_append_left s (x ∷ []) no_event e lt

  last : skeleton_at longer (length s) ≡ x
  last = get_or_push s x no_event (length s) refl

  exists : length s < length longer
  exists = let size = length_push s x in omega arith

  -- what is earlier at the node of the new event is at that node
  at_its_node : (m : ℕ) → IsEarlierAtNode longer m (length s) → (skeleton_at s m).node ≡ x.node
  at_its_node m h = ap (λ (e : SkeletonEvent). e.node) (sym (before m h.earlier)) ∙ h.same_node ∙ ap (λ (e : SkeletonEvent). e.node) last

  -- the last event of the node is the previous one of the new event
  pub last_is_previous : (d : ℕ) → IsLastAt s x.node d → IsPrevious longer d (length s)
  last_is_previous d h = record {
    at_node = record {
      earlier = h.exists;
      exists = exists;
      same_node = ap (λ (e : SkeletonEvent). e.node) (before d h.exists) ∙ h.at_node ∙ ap (λ (e : SkeletonEvent). e.node) (sym last);
    };
    latest = λ m k. h.latest m k.earlier (at_its_node m k);
  }

  previous_is_last : (d m : ℕ) → IsLastAt s x.node d → IsPrevious longer m (length s) → d ≡ m
  previous_is_last d m h k =
      let p = last_is_previous d h in
      let a : m ≤ d = p.latest m k.at_node in
      let b : d ≤ m = k.latest d p.at_node in
      omega arith

  send_is : (d : ℕ) → IsSendOf longer d (length s) → x.send ≡ Some d
  send_is d h = ap (λ (e : SkeletonEvent). e.send) (sym last) ∙ h.delivers

  is_send : (sent : ℕ) → x.send ≡ Some sent → sent < length s → IsSendOf longer sent (length s)
  is_send sent is lt = record { earlier = lt; exists = exists; delivers = ap (λ (e : SkeletonEvent). e.send) last ∙ is }

  module _ (pairs : List Pair) (link : Option EventId) (old p : Pair)
      (names : NamesLast s x.node link) (is : NamesLastPair pairs link old) where
    above_previous : (o : Option EventId) → NamesLast s x.node o → NamesLastPair pairs o old → IsBelow old p
        → (d : ℕ) → IsPrevious longer d (length s) → IsBelow (pair_at pairs d) p
    above_previous None none zero above d h = absurd (none d h.at_node.earlier (at_its_node d h.at_node))
    above_previous (Some l) here same above d h =
        subst (λ (n : ℕ). IsBelow (pair_at pairs n) p) (previous_is_last l.0 d here h) (subst (λ (q : Pair). IsBelow q p) same above)

    old_below : (o : Option EventId) → NamesLast s x.node o → NamesLastPair pairs o old
        → 1 ≤ x.reading → (q : Pair) → IsAllowedAt longer pairs (length s) q → IsBelow old q
    old_below None none zero positive q allowed =
        let reads : x.reading ≤ q.l = subst (λ (e : SkeletonEvent). e.reading ≤ q.l) last allowed.not_behind in
        let start : old.l ≡ 0 = ap (λ (r : Pair). r.l) zero in
        inl (omega arith)
    old_below (Some l) here same positive q allowed =
        subst (λ (r : Pair). IsBelow r q) (sym same) (allowed.above l.0 (inl (last_is_previous l.0 here)))

    reads_below : x.reading ≤ p.l → (skeleton_at longer (length s)).reading ≤ p.l
    reads_below h = subst (λ (e : SkeletonEvent). e.reading ≤ p.l) (sym last) h

    -- a send or a local event
    pub least_at_local_event : x.send ≡ None → 1 ≤ x.reading → IsBelow old p → x.reading ≤ p.l
        → ((q : Pair) → IsBelow old q → x.reading ≤ q.l → IsAtMost p q)
        → IsLeastAbove longer pairs (length s) p
    least_at_local_event alone positive above behind least = record {
      allowed = record {
        above = λ d direct. elim direct [
          | inl h ↦ above_previous link names is above d h
          | inr h ↦ let bad : ◌≡◌ {A = Option ℕ} None (Some d) = sym alone ∙ send_is d h in cc bad
        ];
        not_behind = reads_below behind;
      };
      least = λ q allowed.
          least q (old_below link names is positive q allowed)
          (subst (λ (e : SkeletonEvent). e.reading ≤ q.l) last allowed.not_behind);
    }

    -- a delivery
    pub least_at_delivery : (sent : ℕ) → x.send ≡ Some sent → sent < length s
        → 1 ≤ x.reading → IsBelow old p → IsBelow (pair_at pairs sent) p → x.reading ≤ p.l
        → ((q : Pair) → IsBelow old q → IsBelow (pair_at pairs sent) q → x.reading ≤ q.l → IsAtMost p q)
        → IsLeastAbove longer pairs (length s) p
    least_at_delivery sent delivers lt positive above above_message behind least = record {
      allowed = record {
        above = λ d direct. elim direct [
          | inl h ↦ above_previous link names is above d h
          | inr h ↦
              let both : ◌≡◌ {A = Option ℕ} (Some sent) (Some d) = sym delivers ∙ send_is d h in
              let same : sent ≡ d = cc both in
              subst (λ (n : ℕ). IsBelow (pair_at pairs n) p) same above_message
        ];
        not_behind = reads_below behind;
      };
      least = λ q allowed. least q (old_below link names is positive q allowed) (allowed.above sent (inr (is_send sent delivers lt)))
          (subst (λ (e : SkeletonEvent). e.reading ≤ q.l) last allowed.not_behind);
    }

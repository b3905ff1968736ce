-- A claimed stamp is feasible at its place exactly if it isn't below its floor and may come directly after its direct predecessors'.
use Rattle.std.proofs.Common.{◌≡◌, Bool, true, false, cond, ℕ, ◌<◌, inl, inr, List, length}
use Rattle.std.proofs.Common.{Option, Some, None, arith, refl, subst, ap}
use Rattle.std.specs.Option.{option_or}
use Rattle.hlc_stamp.specs.Order.{IsAtMost, Pair}
use Rattle.hlc_causality.specs.Assignment.{pair_at}
use Rattle.hlc_causality.specs.Causality.{IsPrevious, IsSendOf, Skeleton}
use Rattle.hlc_causality.specs.ClockEvents.{ClockEvents, clock_event_at, clock_skeleton}
use Rattle.hlc_causality.specs.Feasible.{Follows, IsFeasibleAt}
use Rattle.hlc_causality.specs.Predecessors.{previous_of, send_of}
use Rattle.hlc_causality.proofs.ClockEvents.{skeleton_size}
use Rattle.hlc_causality.proofs.Predecessors.{previous_is_unique, send_is_unique}
use Rattle.hlc_causality.proofs.PredecessorsFound.{Finds, previous_found, send_found}
use Rattle.hlc_causes.specs.Verdicts.{first_not_above, follows, if_not_above}
use Rattle.hlc_causes.proofs.Tests.{follows_from_test, follows_is_tested}

-- what is found is the one event that is so
pub found_is : (P : ℕ → Type 0) → ((d e : ℕ) → P d → P e → d ≡ e) → (o : Option ℕ) → Finds P o → (d : ℕ) → P d → o ≡ Some d
found_is P unique None none d h = absurd (none d h)
found_is P unique (Some e) found d h = ap (λ (x : ℕ). Some x) (unique e d found h)

pub some_is_so : (P : ℕ → Type 0) (o : Option ℕ) → Finds P o → (d : ℕ) → o ≡ Some d → P d
some_is_so P None found d is = absurd cc
some_is_so P (Some e) found d is = let same : e ≡ d = cc in subst P same found

pub neither_of : (a b : Option ℕ) → option_or a b ≡ None → (a ≡ None) × (b ≡ None)
neither_of None b h = (refl, h)
neither_of (Some d) b h = absurd cc

tested : (test : Bool) (d : ℕ) → cond test None (Some d) ≡ None → test ≡ true
tested true d h = refl
tested false d h = absurd cc

module _ (t : ClockEvents) (claimed : List Pair) (f : ℕ) where
  abbrev s : Skeleton
  s = clock_skeleton t

  abbrev ticks : Bool
  ticks = (clock_event_at t f).ticks

  -- a direct predecessor, unless the stamp claimed at f may come directly after the one claimed there
  abbrev pub previous_if_not_above : Option ℕ
  previous_if_not_above = if_not_above t claimed f (previous_of s f)

  abbrev pub send_if_not_above : Option ℕ
  send_if_not_above = if_not_above t claimed f (send_of s f)

  -- an event directly after which the stamp claimed at f may come
  abbrev IsAfter : ℕ → Type 0
  IsAfter d = Follows ticks (pair_at claimed d) (pair_at claimed f)

  after_if_none : (d : ℕ) → if_not_above t claimed f (Some d) ≡ None → IsAfter d
  after_if_none d none =
      let own = pair_at claimed f in
      let other = pair_at claimed d in
      follows_from_test ticks other own (tested (follows ticks other own) d none)

  none_if_after : (o : Option ℕ) → ((d : ℕ) → o ≡ Some d → IsAfter d) → if_not_above t claimed f o ≡ None
  none_if_after None after = refl
  none_if_after (Some d) after = rw (follows_is_tested ticks (pair_at claimed d) (pair_at claimed f) (after d refl)) refl

  -- the stamp may come after each event that is found
  after_found : (P : ℕ → Type 0) → ((d e : ℕ) → P d → P e → d ≡ e) → (o : Option ℕ) → Finds P o → if_not_above t claimed f o ≡ None →
      (d : ℕ) → P d → IsAfter d
  after_found P unique o found none d h =
      after_if_none d (subst (λ x. if_not_above t claimed f x ≡ None) (found_is P unique o found d h) none)

  -- the claimed stamp is feasible at its place
  abbrev pub IsFit : Type 0
  IsFit = IsFeasibleAt t claimed f (pair_at claimed f)

  -- what is at its floor or above it
  abbrev pub IsReached : Type 0
  IsReached = IsAtMost (clock_event_at t f).floor (pair_at claimed f)

  pub exists_there : f < length t → f < length s
  exists_there exists = let size = skeleton_size t in omega arith

  pub fit_in_order : f < length t → IsReached → first_not_above t claimed f ≡ None → IsFit
  fit_in_order exists reached none =
      let there = exists_there exists in
      let neither = neither_of previous_if_not_above send_if_not_above none in
      let after_previous =
      after_found (λ x. IsPrevious s x f) (λ x y. previous_is_unique s x y f) (previous_of s f) (previous_found s f there) neither.0 in
      let after_send =
      after_found (λ x. IsSendOf s x f) (λ x y. send_is_unique s x y f) (send_of s f) (send_found s f there) neither.1 in
      record {
        not_below = reached;
        follows = λ d direct. elim direct [ inl previous ↦ after_previous d previous | inr send ↦ after_send d send ];
      }

  pub in_order_if_fit : f < length t → IsFit → first_not_above t claimed f ≡ None
  in_order_if_fit exists fit =
      let there = exists_there exists in
      let is_previous = some_is_so (λ x. IsPrevious s x f) (previous_of s f) (previous_found s f there) in
      let previous : previous_if_not_above ≡ None =
      none_if_after (previous_of s f) (λ d is. fit.follows d (inl (is_previous d is))) in
      let is_send = some_is_so (λ x. IsSendOf s x f) (send_of s f) (send_found s f there) in
      let send : send_if_not_above ≡ None =
      none_if_after (send_of s f) (λ d is. fit.follows d (inr (is_send d is))) in
      rw (previous, send) refl

-- Answers to requests that every request's conditions let through.
use Rattle.std.proofs.Common.{◌≡◌, ◌∙◌, ℕ, inl, inr, Bool, true, false, List, [], ◌∷◌, ◌++◌, length, refl, subst, sym, ap, Option, Some, None, Result, Ok, Err}
use Rattle.std.specs.Prelude.{◌==◌, is_none, nat_le, slice_get}
use Rattle.hlc_arena.specs.ClockRule.{MeetsClockRule}
use Rattle.hlc_arena.specs.History.{Delivered, Event, StampedEvent}
use Rattle.hlc_core.specs.declared.accepted.Accepted.{Accepted}
use Rattle.hlc_core.specs.declared.refusal.Refusal.{Refusal}
use Rattle.hlc_core.specs.declared.refusal.Refusal.TheVariants.{NoEntry, NoMessage, TooFarAhead}
use Rattle.hlc_core.specs.declared.effect.Effect.{Effect}
use Rattle.hlc_core.specs.Effect.{IsEffectOf, effect_event, effect_live}
use Rattle.hlc_core.specs.Limit.{drift_if_next, exceeds}
use Rattle.hlc_core.specs.Request.{Request, ToDeliver, ToPull, ToSend, ToSync}
use Rattle.hlc_core.specs.State.{State, is_live, sends_to}
use Rattle.hlc_core.specs.Step.{Accepts, AddsEvent, IsAdded, IsAnswered, PassesCommon, common_refusals, drift_refusals, entries_in, entry_in, event_for, event_with, first_refusal, is_bad_key, is_bad_value, live_after, own_refusals, refusal_of, refused_or, state_with, live_without, pulled_kind, target_refusals, without_first}

-- conditions that none of holds let those after them decide
first_refusal-append : (xs ys : List (Bool × Refusal)) → first_refusal xs ≡ None → first_refusal (xs ++ ys) ≡ first_refusal ys
first_refusal-append [] ys none = refl
first_refusal-append ((true, r) ∷ xs) ys none = cc none
first_refusal-append ((false, r) ∷ xs) ys none = first_refusal-append xs ys none

-- one that holds leaves them out
first_refusal-front : (xs ys : List (Bool × Refusal)) (refusal : Refusal) → first_refusal xs ≡ Some refusal →
    first_refusal (xs ++ ys) ≡ Some refusal
first_refusal-front [] ys refusal is = absurd (cc)
first_refusal-front ((true, r) ∷ xs) ys refusal is = is
first_refusal-front ((false, r) ∷ xs) ys refusal is = first_refusal-front xs ys refusal is

module _ (s : State) (node reading : ℕ) (request : Request) where
  abbrev last_refusals : List (Bool × Refusal)
  last_refusals = drift_refusals s (event_for s node reading request)

  abbrev own_and_last : List (Bool × Refusal)
  own_and_last = own_refusals s node request ++ last_refusals

  abbrev is_too_far : Bool
  is_too_far = exceeds s.limit (drift_if_next s.history.events (event_for s node reading request))

  -- a request is refused by what is asked of every one
  pub refused_by_common : (refusal : Refusal) → first_refusal (common_refusals s node reading) ≡ Some refusal →
      IsAnswered s node reading request (Err refusal) s
  refused_by_common refusal is = (inl (first_refusal-front (common_refusals s node reading) own_and_last refusal is), refl)

  module _ (passes : PassesCommon s node reading) where
    after_common : refusal_of s node reading request ≡ first_refusal own_and_last
    after_common = first_refusal-append (common_refusals s node reading) own_and_last passes

    -- by a condition of its own
    pub refused_by_own : (refusal : Refusal) → first_refusal (own_refusals s node request) ≡ Some refusal →
        IsAnswered s node reading request (Err refusal) s
    refused_by_own refusal is = (inl (after_common ∙ first_refusal-front (own_refusals s node request) last_refusals refusal is), refl)

    module _ (own : first_refusal (own_refusals s node request) ≡ None) where
      after_own : refusal_of s node reading request ≡ first_refusal last_refusals
      after_own = after_common ∙ first_refusal-append (own_refusals s node request) last_refusals own

      -- by its drift
      pub refused_by_drift : is_too_far ≡ true → IsAnswered s node reading request (Err TooFarAhead) s
      refused_by_drift far = (inl (after_own ∙ rw far refl), refl)

      -- or by nothing
      pub let_through : is_too_far ≡ false → refusal_of s node reading request ≡ None
      let_through near = after_own ∙ rw near refl

  -- no condition refuses it, and its event is added
  module _
      (e : Event) (live : List ℕ) (new : State)
      (none : refusal_of s node reading request ≡ None) (event : e ≡ event_for s node reading request)
      (lives : live ≡ live_after s node request) where
    accepts : (a : Accepted) → IsAdded s e live a new → Accepts s node reading request a new
    accepts a added =
        let stamped : Event → StampedEvent = λ f. record { event = f; stamp = a.stamp } in
        let made = state_with s (stamped (event_for s node reading request)) (live_after s node request) in
        let is : new ≡ made =
        added.after ∙ ap (λ (f : Event). state_with s (stamped f) live) event
        ∙ ap (state_with s (stamped (event_for s node reading request))) lives in
        let ok : State → Result State Refusal = λ t. Ok t in
        record {
          step = ap (λ (o : Option Refusal). refused_or o made) none ∙ ap ok (sym is);
          event = added.event;
          clock = subst (λ (f : Event). MeetsClockRule s.history.events (stamped f)) event added.clock;
        }

    -- it is answered by that, or out of memory
    answered_by_adding : (r : Result Accepted Refusal) → AddsEvent s e live r new → IsAnswered s node reading request r new
    answered_by_adding (Ok a) adds = accepts a adds
    answered_by_adding (Err x) adds = (inr (adds.0, none), adds.1)

-- so is a request that makes this happen
pub answered_by_effect :
    {s : State} {node : ℕ} {request : Request} {effect : Effect} → IsEffectOf s node request effect →
    (reading : ℕ) → PassesCommon s node reading →
    exceeds s.limit (drift_if_next s.history.events (effect_event s node reading effect)) ≡ false →
    (r : Result Accepted Refusal) (new : State) → AddsEvent s (effect_event s node reading effect) (effect_live s node effect) r new →
    IsAnswered s node reading request r new
answered_by_effect {s} {node} {request} {effect} is reading passes near r new adds =
    let e = effect_event s node reading effect in
    let event : e ≡ event_for s node reading request = ap (event_with node reading) is.kind in
    let not_far = ap (λ (f : Event). exceeds s.limit (drift_if_next s.history.events f)) (sym event) ∙ near in
    let none = let_through s node reading request passes is.passes not_far in
    answered_by_adding s node reading request e (effect_live s node effect) new none event is.live r adds

-- and so is one that would make this happen too far ahead of its reading
pub refused_by_drift_of :
    {s : State} {node : ℕ} {request : Request} {effect : Effect} → IsEffectOf s node request effect →
    (reading : ℕ) → PassesCommon s node reading →
    exceeds s.limit (drift_if_next s.history.events (effect_event s node reading effect)) ≡ true →
    IsAnswered s node reading request (Err TooFarAhead) s
refused_by_drift_of {s} {node} {request} is reading passes far =
    let event = ap (event_with node reading) is.kind in
    refused_by_drift s node reading request passes is.passes
    (ap (λ (f : Event). exceeds s.limit (drift_if_next s.history.events f)) (sym event) ∙ far)

-- what each request's own conditions answer
module _ (s : State) (node : ℕ) where
  abbrev own_answer : Request → Option Refusal
  own_answer request = first_refusal (own_refusals s node request)

  abbrev of_target : ℕ → List (Bool × Refusal)
  of_target to = target_refusals s.history.nodes node to

  abbrev of_entry : List ℕ → List (Bool × Refusal)
  of_entry key = (is_none (entry_in s node key), NoEntry) ∷ []

  pub no_message : (sent : ℕ) → is_live s sent ≡ false → own_answer (ToDeliver sent) ≡ Some NoMessage
  no_message sent ended = rw ended refl

  pub may_be_delivered : (sent : ℕ) → is_live s sent ≡ true → sends_to s.history.events node sent ≡ true
      → own_answer (ToDeliver sent) ≡ None
  may_be_delivered sent live to = rw (live, to) refl

  pub may_be_written : (key value : List ℕ) → is_bad_key key ≡ false → is_bad_value value ≡ false → own_answer (ToPull key value) ≡ None
  may_be_written key value good_key good_value = rw (good_key, good_value) refl

  abbrev TargetPasses : ℕ → Type 0
  TargetPasses to = first_refusal (of_target to) ≡ None

  pub target_passes : (to : ℕ) → nat_le s.history.nodes to ≡ false → (to == node) ≡ false → TargetPasses to
  target_passes to exists other = rw (exists, other) refl

  pub bad_target : (to : ℕ) (key : List ℕ) (refusal : Refusal) → is_bad_key key ≡ false → first_refusal (of_target to) ≡ Some refusal →
      own_answer (ToSend to key) ≡ Some refusal
  bad_target to key refusal good is = rw good (first_refusal-front (of_target to) (of_entry key) refusal is)

  pub no_entry : (to : ℕ) (key : List ℕ) → is_bad_key key ≡ false → TargetPasses to → entry_in s node key ≡ None →
      own_answer (ToSend to key) ≡ Some NoEntry
  no_entry to key good target none = rw good (first_refusal-append (of_target to) (of_entry key) target ∙ rw none refl)

  pub may_be_sent : (to write : ℕ) (key : List ℕ) → is_bad_key key ≡ false → TargetPasses to → entry_in s node key ≡ Some write →
      own_answer (ToSend to key) ≡ None
  may_be_sent to write key good target is = rw good (first_refusal-append (of_target to) (of_entry key) target ∙ rw is refl)

  abbrev nothing : Bool
  nothing = length (entries_in s node) == 0

  abbrev of_entries : List (Bool × Refusal)
  of_entries = (nothing, NoEntry) ∷ []

  pub bad_target_of_sync : (to : ℕ) (refusal : Refusal) → first_refusal (of_target to) ≡ Some refusal
      → own_answer (ToSync to) ≡ Some refusal
  bad_target_of_sync to refusal is = first_refusal-front (of_target to) of_entries refusal is

  pub nothing_to_sync : (to : ℕ) → TargetPasses to → nothing ≡ true → own_answer (ToSync to) ≡ Some NoEntry
  nothing_to_sync to target none = first_refusal-append (of_target to) of_entries target ∙ rw none refl

  pub may_be_synced : (to : ℕ) → TargetPasses to → nothing ≡ false → own_answer (ToSync to) ≡ None
  may_be_synced to target some = first_refusal-append (of_target to) of_entries target ∙ rw some refl

-- the first message of an inbox is delivered, and ends
pub first_delivered : (inbox live : List ℕ) (sent : ℕ) (key value : List ℕ) → slice_get inbox 0 ≡ Some sent
    → (pulled_kind inbox key value ≡ Delivered sent) × (without_first inbox live ≡ live_without sent live)
first_delivered [] live sent key value is = cc is
first_delivered (m ∷ inbox) live sent key value is =
    let same : m ≡ sent = cc is in
    (ap Delivered same, ap (λ (n : ℕ). live_without n live) same)

-- One state follows any requests, and it is sound.
use Rattle.std.proofs.Common.{◌≡◌, ◌∙◌, ℕ, ◌≤◌, inl, inr, Bool, true, false, List, [], ◌∷◌, ◌++◌, length, arith, refl, subst, sym, ap, Option, Some, None, Ok, Err}
use Rattle.std.specs.Prelude.{cond}
use Rattle.std.proofs.lemmas.Bool.Decides.{nat_tests}
use Rattle.std.proofs.lemmas.List.{length_push}
use Rattle.hlc_stamp.specs.Order.{Pair}
use Rattle.hlc_stamp.specs.declared.limits.TheConstants.{MAX_CAPACITY, MAX_NODES, MIN_NODES}
use Rattle.hlc_arena.specs.ClockRule.{MeetsClockRule}
use Rattle.hlc_arena.specs.History.{Event, StampedEvent, causality_of, skeleton_event_of, stamps_of}
use Rattle.hlc_arena.proofs.Histories.{length_skeleton}
use Rattle.hlc_causality.proofs.LeastAbove.{least_above_exists, least_above_is_unique}
use Rattle.hlc_core.specs.Asked.{AddsUnless, Asked, StepsAlong, StepsTo, ToAct, ToLose, with_stamp}
use Rattle.hlc_core.specs.declared.refusal.Refusal.{Refusal}
use Rattle.hlc_core.specs.Laws.{AnswersStep, NewIsSound, OneStateFollows, SomeStateFollows, StaysSound}
use Rattle.hlc_core.specs.Request.{Request}
use Rattle.hlc_core.specs.Sound.{IsSound}
use Rattle.hlc_core.specs.State.{State, is_live, new_refusal}
use Rattle.hlc_core.specs.Step.{event_for, live_after, refusal_of, refused_or, state_with, with_lost}
use Rattle.hlc_core.proofs.OneMore.{lawful_state-without, sound_of_none}
use Rattle.hlc_core.proofs.Steps.{sound_after}

-- some stamp meets the clock rule
stamp_exists : (others : List StampedEvent) (e : Event) → (stamp : Pair) × MeetsClockRule others (with_stamp e stamp)
stamp_exists others e =
    let size = length_push (causality_of others) (skeleton_event_of e) in
    let same = length_skeleton others in
    least_above_exists (causality_of others ++ skeleton_event_of e ∷ []) (stamps_of others) (length others) (omega arith)

-- and only one
pub one_stamp : (others : List StampedEvent) (e : Event) (p q : Pair) →
    MeetsClockRule others (with_stamp e p) → MeetsClockRule others (with_stamp e q) → p ≡ q
one_stamp others e p q first second =
    let more = causality_of others ++ skeleton_event_of e ∷ [] in
    least_above_is_unique more (stamps_of others) (length others) p q first second

adds_exists : (o : Option Refusal) (s : State) (e : Event) (live : List ℕ) → (new : State) × AddsUnless o s e live new
adds_exists (Some refusal) s e live = (s, refl)
adds_exists None s e live = let p = stamp_exists s.history.events e in (state_with s (with_stamp e p.0) live, (p.0, p.1, refl))

adds_one : (o : Option Refusal) (s : State) (e : Event) (live : List ℕ) (new other : State) →
    AddsUnless o s e live new → AddsUnless o s e live other → new ≡ other
adds_one (Some refusal) s e live new other first second = first ∙ sym second
adds_one None s e live new other first second =
    let same = one_stamp s.history.events e first.0 second.0 first.1 second.1 in
    first.2 ∙ ap (λ (p : Pair). state_with s (with_stamp e p) live) same ∙ sym second.2

step_exists : (s : State) (one : Asked) → (new : State) × StepsTo s one new
step_exists s (ToAct node reading request) =
    adds_exists (refusal_of s node reading request) s (event_for s node reading request) (live_after s node request)
step_exists s (ToLose sent) = (cond (is_live s sent) (with_lost s sent) s, refl)

step_is_one : (s : State) (one : Asked) (new other : State) → StepsTo s one new → StepsTo s one other → new ≡ other
step_is_one s (ToAct node reading request) new other first second =
    adds_one (refusal_of s node reading request) s (event_for s node reading request) (live_after s node request) new other first second
step_is_one s (ToLose sent) new other first second = first ∙ sym second

pub some_state_follows : SomeStateFollows
some_state_follows s [] = (s, refl)
some_state_follows s (one ∷ more) =
    let next = step_exists s one in
    let rest = some_state_follows next.0 more in
    (rest.0, (next.0, next.1, rest.1))

pub one_state_follows : OneStateFollows
one_state_follows s new other [] first second = first ∙ sym second
one_state_follows s new other (one ∷ more) first second =
    let same = step_is_one s one first.0 second.0 first.1 second.1 in
    one_state_follows second.0 new other more (subst (λ (t : State). StepsAlong t more new) same first.2) second.2

-- a step leaves the number of nodes, the capacity and the limit
pub record HasSettingsOf (old new : State) : Type 0 where
  pub nodes : new.history.nodes ≡ old.history.nodes
  pub capacity : new.history.capacity ≡ old.history.capacity
  pub limit : new.limit ≡ old.limit

same_settings : (s new : State) → new ≡ s → HasSettingsOf s new
same_settings s new same = record {
  nodes = ap (λ (t : State). t.history.nodes) same;
  capacity = ap (λ (t : State). t.history.capacity) same;
  limit = ap (λ (t : State). t.limit) same;
}

adds_settings : (o : Option Refusal) (s : State) (e : Event) (live : List ℕ) (new : State) → AddsUnless o s e live new → HasSettingsOf s new
adds_settings (Some refusal) s e live new same = same_settings s new same
adds_settings None s e live new adds =
    let same = same_settings (state_with s (with_stamp e adds.0) live) new adds.2 in
    record { nodes = same.nodes; capacity = same.capacity; limit = same.limit }

lost_settings : (s : State) (sent : ℕ) (live : Bool) → HasSettingsOf s (cond live (with_lost s sent) s)
lost_settings s sent true = record { nodes = refl; capacity = refl; limit = refl }
lost_settings s sent false = record { nodes = refl; capacity = refl; limit = refl }

step_settings : (s : State) (one : Asked) (new : State) → StepsTo s one new → HasSettingsOf s new
step_settings s (ToAct node reading request) new step =
    adds_settings (refusal_of s node reading request) s (event_for s node reading request) (live_after s node request) new step
step_settings s (ToLose sent) new step = subst (HasSettingsOf s) (sym step) (lost_settings s sent (is_live s sent))

-- and so do any steps
pub settings_stay : (s new : State) (asked : List Asked) → StepsAlong s asked new → HasSettingsOf s new
settings_stay s new [] along = same_settings s new along
settings_stay s new (one ∷ more) along =
    let first = step_settings s one along.0 along.1 in
    let rest = settings_stay along.0 new more along.2 in
    record { nodes = rest.nodes ∙ first.nodes; capacity = rest.capacity ∙ first.capacity; limit = rest.limit ∙ first.limit }

-- a step leaves a sound state
module _ (s : State) (sound : IsSound s) where
  adds_sound : (node reading : ℕ) (request : Request) (new : State) (o : Option Refusal) → refusal_of s node reading request ≡ o
      → AddsUnless o s (event_for s node reading request) (live_after s node request) new → IsSound new
  adds_sound node reading request new (Some refusal) is step = subst IsSound (sym step) sound
  adds_sound node reading request new None is step = subst IsSound (sym step.2) (sound_after s node reading request step.0 sound is step.1)

  lost_sound : (sent : ℕ) (live : Bool) → IsSound (cond live (with_lost s sent) s)
  lost_sound sent true = record { lawful = lawful_state-without s sent sound.lawful; least = sound.least; within = sound.within }
  lost_sound sent false = sound

  step_sound : (one : Asked) (new : State) → StepsTo s one new → IsSound new
  step_sound (ToAct node reading request) new step = adds_sound node reading request new (refusal_of s node reading request) refl step
  step_sound (ToLose sent) new step = subst IsSound (sym step) (lost_sound sent (is_live s sent))

pub stays_sound : StaysSound
stays_sound s new [] sound along = subst IsSound (sym along) sound
stays_sound s new (one ∷ more) sound along = stays_sound along.0 new more (step_sound s sound one along.0 along.1) along.2

-- an accepted request has stepped
accepted_step : (o : Option Refusal) (s : State) (e : Event) (live : List ℕ) (stamp : Pair) (new : State) →
    refused_or o (state_with s (with_stamp e stamp) live) ≡ Ok new → MeetsClockRule s.history.events (with_stamp e stamp) →
    AddsUnless o s e live new
accepted_step (Some refusal) s e live stamp new step clock = absurd (cc)
accepted_step None s e live stamp new step clock = (stamp, clock, cc step)

refused_step : (o : Option Refusal) (s : State) (e : Event) (live : List ℕ) (refusal : Refusal) (new : State) →
    o ≡ Some refusal → new ≡ s → AddsUnless o s e live new
refused_step (Some r) s e live refusal new is same = same
refused_step None s e live refusal new is same = absurd (cc)

pub answers_step : AnswersStep
answers_step old new node reading request (Ok a) answered =
    inl (accepted_step (refusal_of old node reading request) old (event_for old node reading request) (live_after old node request) a.stamp new
    answered.step answered.clock)
answers_step old new node reading request (Err refusal) (inl refused, same) =
    inl (refused_step (refusal_of old node reading request) old (event_for old node reading request) (live_after old node request) refusal new
    refused same)
answers_step old new node reading request (Err refusal) (inr memory, same) = inr (ap Err memory.0, same)

allowed_numbers : (nodes capacity : ℕ) → new_refusal nodes capacity ≡ None →
    (MIN_NODES ≤ nodes) × (nodes ≤ MAX_NODES) × (1 ≤ capacity) × (capacity ≤ MAX_CAPACITY)
allowed_numbers nodes capacity none =
    (grind (arith, nat_tests, none), grind (arith, nat_tests, none), grind (arith, nat_tests, none), grind (arith, nat_tests, none))

pub new_is_sound : NewIsSound
new_is_sound nodes capacity limit none =
    let numbers = allowed_numbers nodes capacity none in
    sound_of_none limit nodes capacity numbers.0 numbers.1 numbers.2 numbers.3

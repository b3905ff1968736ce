-- What comes of calls in turn is steps, and what they leave keeps the promise.
use Rattle.std.proofs.Common.{◌≡◌, ◌∙◌, ℕ, Bool, true, false, List, [], ◌∷◌, ◌++◌, inl, inr, refl, sym, ap, subst, Ok, Err}
use Rattle.std.specs.Prelude.{cond}
use Rattle.hlc_core.specs.declared.refusal.Refusal.{Refusal}
use Rattle.hlc_core.specs.Asked.{Asked, StepsAlong, ToAct}
use Rattle.hlc_core.specs.Calls.{ActCall, Call, CallsAreSteps, CallsKeepThePromise, HasOutcome, LoseCall, LossesAreSteps, NewIsFirst, asked_by_calls, asked_by_call, is_out_of_memory}
use Rattle.hlc_core.specs.Request.{Request}
use Rattle.hlc_core.specs.State.{State, new_state}
use Rattle.hlc_core.specs.Step.{IsAnswered}
use Rattle.hlc_core.proofs.AskedSteps.{answers_step, new_is_sound, stays_sound}
use Rattle.hlc_core.proofs.Promise.{sound_keeps_the_promise}

pub losses_are_steps : LossesAreSteps
losses_are_steps old new sent (Ok done) (live, lost) = rw live lost
losses_are_steps old new sent (Err no_message) (ended, same) = rw ended same

-- a refusal, but one for memory, is a step
refused_steps : (old new : State) (node reading : ℕ) (request : Request) (refusal : Refusal) (b : Bool)
    → is_out_of_memory (Err refusal) ≡ b →
    IsAnswered old node reading request (Err refusal) new → StepsAlong old (cond b [] (ToAct node reading request ∷ [])) new
refused_steps old new node reading request refusal true is answered = answered.1
refused_steps old new node reading request refusal false is answered =
    elim (answers_step old new node reading request (Err refusal) answered) [
      | inl step ↦ (new, step, refl)
      | inr memory ↦ let bad : true ≡ false = sym (ap is_out_of_memory memory.0) ∙ is in absurd (cc bad)
    ]

-- a call is the step that it asks for
outcome_steps : (old new : State) (call : Call) → HasOutcome old call new → StepsAlong old (asked_by_call call) new
outcome_steps old new (ActCall node reading request (Ok answer)) answered =
    elim (answers_step old new node reading request (Ok answer) answered) [
      | inl step ↦ (new, step, refl)
      | inr memory ↦ absurd (cc (memory.0))
    ]
outcome_steps old new (ActCall node reading request (Err refusal)) answered =
    refused_steps old new node reading request refusal (is_out_of_memory (Err refusal)) refl answered
outcome_steps old new (LoseCall sent result) ends = (new, losses_are_steps old new sent result ends, refl)

-- steps, and then others
steps_then : (s next new : State) (first more : List Asked) → StepsAlong s first next → StepsAlong next more new →
    StepsAlong s (first ++ more) new
steps_then s next new [] more along then = subst (λ (t : State). StepsAlong t more new) along then
steps_then s next new (one ∷ first) more along then = (along.0, along.1, steps_then along.0 next new first more along.2 then)

pub calls_are_steps : CallsAreSteps
calls_are_steps old new [] same = same
calls_are_steps old new (call ∷ more) (next, outcome, rest) =
    let first = outcome_steps old next call outcome in
    steps_then old next new (asked_by_call call) (asked_by_calls more) first (calls_are_steps next new more rest)

pub new_is_first : NewIsFirst
new_is_first nodes capacity limit s made = made

pub calls_keep_the_promise : CallsKeepThePromise
calls_keep_the_promise nodes capacity limit first s calls made outcomes =
    let new = new_state nodes capacity limit in
    let asked = asked_by_calls calls in
    let steps : StepsAlong new asked s = subst (λ (t : State). StepsAlong t asked s) made.1 (calls_are_steps first s calls outcomes) in
    (steps, sound_keeps_the_promise s (stays_sound new s asked (new_is_sound nodes capacity limit made.0) steps))

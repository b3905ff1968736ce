-- Steps that answer statements.
use Rattle.std.proofs.Common.{◌≡◌, ◌≢◌, ◌∙◌, true, ℕ, List, [], ◌∷◌, ◌++◌, length, Ok, Err, inl, inr, refl, sym, ap, subst, append-nil}
use Rattle.std.proofs.lemmas.List.{map-append}
use Rattle.hlc_stamp.specs.Order.{Pair}
use Rattle.hlc_causality.specs.Assignment.{pair_at}
use Rattle.hlc_arena.specs.History.{StampedEvent, stamps_of}
use Rattle.hlc_arena.specs.ClockRule.{HasLeastStamps}
use Rattle.hlc_core.specs.Request.{Request}
use Rattle.hlc_core.specs.State.{State, is_live}
use Rattle.hlc_core.specs.Step.{Accepts, accept, event_for, live_after, refusal_of, state_with, with_lost}
use Rattle.hlc_core.specs.declared.accepted.Accepted.{Accepted}
use Rattle.hlc_core.proofs.Passed.{made_is}
use Rattle.hlc_csv.specs.Rows.{Fields, refusal_row}
use Rattle.hlc_pool.specs.declared.no_message.NoMessage.{NoMessage as NoLiveMessage}
use Rattle.hlc_core.specs.declared.refusal.Refusal.{Refusal}
use Rattle.hlc_core.specs.declared.refusal.Refusal.TheVariants.{Memory, NoMessage}
use Rattle.hlc_text.specs.Words.{refusal_word}
use Rattle.hlc_text.specs.Answer.{Answer, Gives, TellLoss, TellRequest, event_row, lost_row, statement_answer, step_answer}
use Rattle.hlc_text.specs.Statement.{Lose}

-- the stamp of the event that comes after others
pub pair_at-next :
    (events : List StampedEvent) (x : StampedEvent) (later : List Pair) →
    pair_at (stamps_of (events ++ x ∷ []) ++ later) (length events) ≡ x.stamp
pair_at-next [] x later = refl
pair_at-next (e ∷ events) x later = pair_at-next events x later

pub stamps_of-next : (events : List StampedEvent) (x : StampedEvent) → stamps_of (events ++ x ∷ []) ≡ stamps_of events ++ x.stamp ∷ []
stamps_of-next events x = map-append (λ (e : StampedEvent). e.stamp) events (x ∷ [])

-- an answer with no event
pub gives-answered : (f : Pair → Answer) (old new : State) (rows : List Fields)
    → ((stamp : Pair) → f stamp ≡ record { rows = rows; state = new }) → new.history.events ≡ old.history.events → Gives f old new rows
gives-answered f old new rows gives same = record {
  gives = λ later. gives _;
  added = [];
  grows = ap stamps_of same ∙ sym (append-nil _);
  least = λ h. subst (λ (events : List StampedEvent). HasLeastStamps events) (sym same) h;
}

-- an answer that changes nothing
pub gives-same :
    (f : Pair → Answer) (old new : State) (rows : List Fields) → new ≡ old →
    ((stamp : Pair) → f stamp ≡ record { rows = rows; state = old }) → Gives f old new rows
gives-same f old new rows same gives =
    let kept = ap (λ (s : State). let a : Answer = record { rows = rows; state = s } in a) (sym same) in
    gives-answered f old new rows (λ stamp. gives stamp ∙ kept) (ap (λ (s : State). s.history.events) same)

-- a request is accepted
pub gives-accepted : (old new : State) (node reading : ℕ) (request : Request) (accepted : Accepted)
    → Accepts old node reading request accepted new → HasLeastStamps new.history.events
    → Gives (λ stamp. step_answer stamp old (accept old node reading request stamp)) old new (event_row accepted.event.0 accepted.stamp ∷ [])
gives-accepted old new node reading request accepted accepts least =
    let others = old.history.events in
    let x : StampedEvent = record { event = event_for old node reading request; stamp = accepted.stamp } in
    let made : new ≡ state_with old x (live_after old node request) = made_is (refusal_of old node reading request) _ new accepts.step in
    let events : new.history.events ≡ others ++ x ∷ [] = ap (λ (s : State). s.history.events) made in
    record {
      gives = λ later.
          let own : pair_at (stamps_of new.history.events ++ later) (length others) ≡ accepted.stamp =
          ap (λ (es : List StampedEvent). pair_at (stamps_of es ++ later) (length others)) events ∙ pair_at-next others x later in
          rw (own, accepts.step, accepts.event) refl;
      added = accepted.stamp ∷ [];
      grows = ap stamps_of events ∙ stamps_of-next others x;
      least = λ _. least;
    }

-- a message is lost
pub gives-lost : (old new : State) (sent : ℕ) → is_live old sent ≡ true → new ≡ with_lost old sent
    → Gives (λ stamp. statement_answer stamp old (Lose sent)) old new (lost_row sent ∷ [])
gives-lost old new sent live is = gives-answered _ old new _ (λ stamp. rw (live, is) refl) (ap (λ (s : State). s.history.events) is)

-- what a request that is accepted, or refused, is answered with
pub accepted_tells : (accepted : Accepted) → TellRequest (Ok accepted) (event_row accepted.event.0 accepted.stamp ∷ [])
accepted_tells accepted old new node reading request accepts least = gives-accepted old new node reading request accepted accepts least

pub refused_tells : (refusal : Refusal) → refusal ≢ Memory → TellRequest (Err refusal) (refusal_row (refusal_word refusal) ∷ [])
refused_tells refusal known old new node reading request (refuses, same) least = elim refuses [
  | inl is ↦ gives-same _ old new _ same (λ stamp. rw is refl)
  | inr (memory, _) ↦ absurd (known memory)
]

-- what the loss of a message is
pub loss_tells : (sent : ℕ) (unit : Unit {0}) → TellLoss sent (Ok unit) (lost_row sent ∷ [])
loss_tells sent unit old new (live, is) = gives-lost old new sent live is

pub no_loss_tells : (sent : ℕ) (none : NoLiveMessage) → TellLoss sent (Err none) (refusal_row (refusal_word NoMessage) ∷ [])
no_loss_tells sent none old new (ended, same) = gives-same _ old new _ same (λ stamp. rw ended refl)

-- The live messages of a state, and those of a pool that stand for them.
use Rattle.std.proofs.Common.{◌≡◌, ◌∙◌, ℕ, inl, inr, Bool, true, false, not, List, [], ◌∷◌, ◌++◌, length-append, arith, refl, ap, subst, sym, Option, Some}
use Rattle.std.specs.Prelude.{◌==◌, cond, filter, slice_get}
use Rattle.std.specs.List.{list_any}
use Rattle.std.specs.Cmp.{nat_eq_equiv}
use Rattle.std.proofs.lemmas.Bool.{cases_Bool, eqb-true, or_right}
use Rattle.std.proofs.lemmas.List.Elements.{All-contains, All-filter, All-head, All-tail, All-weaker}
use Rattle.std.proofs.lemmas.Map.Views.{Contains-from_any, list_any-from_Contains}
use Rattle.hlc_arena.specs.History.{target_of, History, StampedEvent}
use Rattle.hlc_arena.proofs.Places.{stamped_at-before}
use Rattle.hlc_table.specs.Rows.{Row}
use Rattle.hlc_pool.specs.Messages.{IsAddressedTo, IsLive, LiveMessages, Message, sends_addressed_to, sends_of, without as without_message}
use Rattle.hlc_core.specs.Fields.{AreAddressed, AreWhole, IsAddressed, state_of}
use Rattle.hlc_core.specs.State.{State, inbox_of, is_live, is_target, sends_to}
use Rattle.hlc_core.specs.Step.{with_lost, live_without}

sends_of-cond : (b : Bool) (m : Message) (ms : List Message) →
    sends_of (cond b (m ∷ ms) ms) ≡ cond b (m.send ∷ sends_of ms) (sends_of ms)
sends_of-cond true m ms = refl
sends_of-cond false m ms = refl

-- an inbox of the pool is that of the state
pub inbox_is : (events : List StampedEvent) (node : ℕ) (ms : List Message) → AreAddressed events ms →
    sends_addressed_to ms node ≡ filter (sends_to events node) (sends_of ms)
inbox_is events node [] all = refl
inbox_is events node (m ∷ ms) all =
    let here : IsAddressed events m = All-head (IsAddressed events) m ms all in
    let test : sends_to events node m.send ≡ (m.target == node) = ap (is_target node) here.1 in
    let rest = inbox_is events node ms (All-tail (IsAddressed events) m ms all) in
    rw test
    (sends_of-cond (m.target == node) m (filter (λ n. n.target == node) ms)
    ∙ ap (λ (xs : List ℕ). cond (m.target == node) (m.send ∷ xs) xs) rest)

-- so are the messages but one
pub without_is : (sent : ℕ) (ms : List Message) → sends_of (without_message ms sent) ≡ live_without sent (sends_of ms)
without_is sent [] = refl
without_is sent (m ∷ ms) =
    let other : Bool = not (m.send == sent) in
    sends_of-cond other m (without_message ms sent) ∙ ap (λ (xs : List ℕ). cond other (m.send ∷ xs) xs) (without_is sent ms)

pub addressed_without : (events : List StampedEvent) (sent : ℕ) (ms : List Message) → AreAddressed events ms →
    AreAddressed events (without_message ms sent)
addressed_without events sent ms all = All-filter (λ m. not (m.send == sent)) (IsAddressed events) ms all

-- messages stay addressed with one more event
pub addressed_after : (events : List StampedEvent) (x : StampedEvent) (ms : List Message) → AreAddressed events ms →
    AreAddressed (events ++ x ∷ []) ms
addressed_after events x ms all =
    let size = length-append events (x ∷ []) in
    let target = λ (y : StampedEvent). target_of y.event.kind in
    let later : (m : Message) → IsAddressed events m → IsAddressed (events ++ x ∷ []) m =
    λ m h. (omega (arith, size, h.0), ap target (stamped_at-before events x m.send h.0) ∙ h.1) in
    All-weaker (IsAddressed events) (IsAddressed (events ++ x ∷ [])) later ms all

-- whether a message is live, as a fact and as a test
live_test : (ms : List Message) (sent : ℕ) → IsLive ms sent → list_any (λ m. sent == m) (sends_of ms) ≡ true
live_test ms sent h = list_any-from_Contains nat_eq_equiv sent (sends_of ms) h

live_fact : (ms : List Message) (sent : ℕ) → list_any (λ m. sent == m) (sends_of ms) ≡ true → IsLive ms sent
live_fact ms sent h = Contains-from_any (λ x y e. eqb-true x y e) sent (sends_of ms) h

ended_test : (ms : List Message) (sent : ℕ) → (IsLive ms sent → ⊥) → list_any (λ m. sent == m) (sends_of ms) ≡ false
ended_test ms sent ended = elim (cases_Bool (list_any (λ m. sent == m) (sends_of ms))) [
  | inl live ↦ absurd (ended (live_fact ms sent live))
  | inr none ↦ none
]

-- a message of the pool that is addressed to a node was sent to it
sends_to_target : (events : List StampedEvent) (ms : List Message) (sent to : ℕ) → AreAddressed events ms → IsAddressedTo ms sent to →
    (node : ℕ) → sends_to events node sent ≡ (to == node)
sends_to_target events ms sent to all among node =
    let message : Message = record { send = sent; target = to } in
    let here : IsAddressed events message = All-contains (IsAddressed events) ms message all among in
    ap (is_target node) here.1

first_is : (x y : ℕ) (ys : List ℕ) → slice_get (y ∷ ys) 0 ≡ Some x → y ≡ x
first_is x y ys h = cc h

-- the first of those that pass a test is one of them, and passes it
pub first_of_filter : (p : ℕ → Bool) (xs : List ℕ) (x : ℕ) → slice_get (filter p xs) 0 ≡ Some x →
    (list_any (λ m. x == m) xs ≡ true) × (p x ≡ true)
first_of_filter p [] x h = cc h
first_of_filter p (y ∷ ys) x h = elim (cases_Bool (p y)) [
  | inl passes ↦
      let same : y ≡ x = first_is x y (filter p ys) (rw passes at h) in
      (rw (← same, nat_eq_equiv.refl y) refl, rw (← same) passes)
  | inr fails ↦
      let rest = first_of_filter p ys x (rw fails at h) in
      (or_right (x == y) (list_any (λ m. x == m) ys) rest.0, rest.1)
]

-- what a cluster's messages say of its state
module _
    {limit : Option ℕ} {h : History} {live : LiveMessages} {tables : List (List Row)} {s : State}
    (whole : AreWhole limit h live tables) (is : state_of limit h live.messages ≡ s) where
  -- the inbox of a node
  pub inbox_in_state : (node : ℕ) → sends_addressed_to live.messages node ≡ inbox_of s node
  inbox_in_state node = inbox_is h.events node live.messages whole.addressed ∙ ap (λ (t : State). inbox_of t node) is

  -- whether a message is live
  pub live_in_state : (sent : ℕ) → IsLive live.messages sent → is_live s sent ≡ true
  live_in_state sent lives = subst (λ (t : State). is_live t sent ≡ true) is (live_test live.messages sent lives)

  pub ended_in_state : (sent : ℕ) → (IsLive live.messages sent → ⊥) → is_live s sent ≡ false
  ended_in_state sent ended = subst (λ (t : State). is_live t sent ≡ false) is (ended_test live.messages sent ended)

  -- whether a message is addressed to a node
  pub addressed_in_state : (sent to node : ℕ) → IsAddressedTo live.messages sent to → sends_to s.history.events node sent ≡ (to == node)
  addressed_in_state sent to node among =
      ap (λ (t : State). sends_to t.history.events node sent) (sym is)
      ∙ sends_to_target h.events live.messages sent to whole.addressed among node

  -- the state without a message
  pub lost_in_state : (more : List Message) (sent : ℕ) → more ≡ without_message live.messages sent
      → state_of limit h more ≡ with_lost s sent
  lost_in_state more sent lost =
      let with_live : List ℕ → State = λ xs. record { history = h; live = xs; limit = limit } in
      ap with_live (ap sends_of lost ∙ without_is sent live.messages) ∙ ap (λ (t : State). with_lost t sent) is

-- What an accepted request makes happen may come next, and leaves a sound state.
use Rattle.std.proofs.Common.{◌≡◌, ◌≢◌, ℕ, Bool, true, false, not, List, [], ◌∷◌, ◌++◌, length, refl, ap, Option, Some, None}
use Rattle.std.specs.Prelude.{◌==◌, is_none, slice_get, unwrap_or}
use Rattle.hlc_stamp.specs.Order.{Pair}
use Rattle.hlc_arena.specs.Arena.{IsWellFormed}
use Rattle.hlc_arena.specs.ClockRule.{MeetsClockRule}
use Rattle.hlc_arena.specs.History.{Delivered, Erased, EventKind, StampedEvent, Written}
use Rattle.hlc_arena.proofs.Histories.{least_push}
use Rattle.hlc_core.specs.Asked.{with_stamp}
use Rattle.hlc_core.specs.declared.refusal.Refusal.{Refusal}
use Rattle.hlc_core.specs.declared.refusal.Refusal.TheVariants.{KeySize, NoEntry, NoMessage, TooFarAhead, WrongNode}
use Rattle.hlc_core.specs.Lawful.{IsLawfulNext}
use Rattle.hlc_core.specs.Limit.{drift_if_next, exceeds}
use Rattle.hlc_core.specs.Request.{Request, ToDeliver, ToErase, ToPull, ToSend, ToSync, ToWrite}
use Rattle.hlc_core.specs.Sound.{IsSound}
use Rattle.hlc_core.specs.State.{IsLawfulState, State, inbox_of, is_live, sends_to}
use Rattle.hlc_core.specs.Step.{common_refusals, drift_refusals, entries_in, entry_in, event_for, event_with, pulled_kind, first_refusal, is_bad_key, live_after, own_refusals, refusal_of, size_refusals, state_with, target_refusals, without_first}
use Rattle.hlc_core.proofs.Drifts.{drift_is_within, within-push, within_if_not_exceeded}
use Rattle.hlc_core.proofs.Messages.{first_of_filter}
use Rattle.hlc_core.proofs.NextEvents.{quiet_next, send_next, sync_next}
use Rattle.hlc_core.proofs.OneMore.{ComesNext, lawful_state-push, lawful_state-send, lawful_state-without}
use Rattle.hlc_core.proofs.Passed.{IsPassed, common_passed, good_key, good_sizes, good_target, good_value, live_is_sent, passes}

none_of_both : (xs ys : List (Bool × Refusal)) → first_refusal (xs ++ ys) ≡ None → (first_refusal xs ≡ None) × (first_refusal ys ≡ None)
none_of_both [] ys none = (refl, none)
none_of_both ((true, r) ∷ xs) ys none = absurd (cc)
none_of_both ((false, r) ∷ xs) ys none = none_of_both xs ys none

-- a request that is not refused passes what is asked of all requests, what is asked of it, and what is asked of its drift
not_refused : (s : State) (node reading : ℕ) (request : Request) → refusal_of s node reading request ≡ None
    → (first_refusal (common_refusals s node reading) ≡ None) × (first_refusal (own_refusals s node request) ≡ None)
    × (exceeds s.limit (drift_if_next s.history.events (event_for s node reading request)) ≡ false)
not_refused s node reading request none =
    let drift = drift_refusals s (event_for s node reading request) in
    let common = none_of_both (common_refusals s node reading) (own_refusals s node request ++ drift) none in
    let own = none_of_both (own_refusals s node request) drift common.1 in
    (common.0, own.0, (passes (exceeds s.limit (drift_if_next s.history.events (event_for s node reading request))) TooFarAhead [] own.1).0)

found : (o : Option ℕ) → is_none o ≡ false → o ≡ Some (unwrap_or o 0)
found None h = absurd (cc)
found (Some w) h = refl

some_of : (xs : List ℕ) → (length xs == 0) ≡ false → xs ≢ []
some_of [] h = absurd (cc)
some_of (x ∷ xs) h = λ none. cc none

is_so : (b : Bool) → not b ≡ false → b ≡ true
is_so true h = refl
is_so false h = absurd (cc)

module _ (s : State) (node reading : ℕ) (lawful : IsLawfulState s) (passed : IsPassed s node reading) where
  abbrev IsNext : EventKind → Type 0
  IsNext kind = IsLawfulNext s.history.nodes s.history.events (event_with node reading kind)

  abbrev well : IsWellFormed s.history
  well = lawful.history.well_formed

  write_next : (key value : List ℕ) → first_refusal (size_refusals key value) ≡ None → IsNext (Written key value)
  write_next key value none =
      let good = good_sizes key value none in
      quiet_next s node reading well passed (Written key value) refl refl (good_key key good.0, good_value value good.1) tt tt tt

  delivery_next : (sent : ℕ) → is_live s sent ≡ true → sends_to s.history.events node sent ≡ true → IsNext (Delivered sent)
  delivery_next sent live to =
      let send = live_is_sent s node sent lawful live to in
      quiet_next s node reading well passed (Delivered sent) refl refl tt send.0 send.1 tt

  pull_next : (key value inbox : List ℕ) → inbox_of s node ≡ inbox → first_refusal (size_refusals key value) ≡ None →
      IsNext (pulled_kind inbox key value)
  pull_next key value [] is none = write_next key value none
  pull_next key value (sent ∷ inbox) is none =
      let first = first_of_filter (sends_to s.history.events node) s.live sent (ap (λ (xs : List ℕ). slice_get xs 0) is) in
      delivery_next sent first.0 first.1

  -- what nothing refuses may come next
  pub lawful_next : (request : Request) → first_refusal (own_refusals s node request) ≡ None →
      IsLawfulNext s.history.nodes s.history.events (event_for s node reading request)
  lawful_next (ToWrite key value) none = write_next key value none
  lawful_next (ToErase key) none =
      let a = passes (is_bad_key key) KeySize [] none in
      quiet_next s node reading well passed (Erased key) refl refl (good_key key a.0) tt tt tt
  lawful_next (ToSend to key) none =
      let later = target_refusals s.history.nodes node to ++ (is_none (entry_in s node key), NoEntry) ∷ [] in
      let a = passes (is_bad_key key) KeySize later none in
      let b = good_target s node to (is_none (entry_in s node key)) NoEntry a.1 in
      send_next s node reading well passed to b.0 b.1 _ key (found (entry_in s node key) b.2)
  lawful_next (ToSync to) none =
      let a = good_target s node to (length (entries_in s node) == 0) NoEntry none in
      sync_next s node reading well passed to a.0 a.1 (some_of (entries_in s node) a.2)
  lawful_next (ToDeliver sent) none =
      let a = passes (not (is_live s sent)) NoMessage ((not (sends_to s.history.events node sent), WrongNode) ∷ []) none in
      let b = passes (not (sends_to s.history.events node sent)) WrongNode [] a.1 in
      delivery_next sent (is_so (is_live s sent) a.0) (is_so (sends_to s.history.events node sent) b.0)
  lawful_next (ToPull key value) none = pull_next key value (inbox_of s node) refl none

-- the event of a request, with a stamp
abbrev stamped : State → ℕ → ℕ → Request → Pair → StampedEvent
stamped s node reading request stamp = with_stamp (event_for s node reading request) stamp

-- if nothing refuses the request, its event comes next
comes_next : (s : State) (node reading : ℕ) (request : Request) (stamp : Pair) → IsLawfulState s
    → refusal_of s node reading request ≡ None →
    MeetsClockRule s.history.events (stamped s node reading request stamp) → ComesNext s.history (stamped s node reading request stamp)
comes_next s node reading request stamp lawful none clock =
    let both = not_refused s node reading request none in
    let passed = common_passed s node reading both.0 in
    record { room = passed.room; lawful = lawful_next s node reading lawful passed request both.1; clock = clock }

-- when a pulled message ends, the state stays lawful
lawful-pulled : (s : State) (inbox : List ℕ) → IsLawfulState s → IsLawfulState (record s { live = without_first inbox s.live })
lawful-pulled s [] lawful = lawful
lawful-pulled s (sent ∷ inbox) lawful = lawful_state-without s sent lawful

lawful_after : (s : State) (node reading : ℕ) (request : Request) (stamp : Pair) → IsLawfulState s →
    ComesNext s.history (stamped s node reading request stamp) →
    IsLawfulState (state_with s (stamped s node reading request stamp) (live_after s node request))
lawful_after s node reading (ToWrite key value) stamp lawful next = lawful_state-push s _ lawful next
lawful_after s node reading (ToErase key) stamp lawful next = lawful_state-push s _ lawful next
lawful_after s node reading (ToSend to key) stamp lawful next = lawful_state-send s _ lawful next refl
lawful_after s node reading (ToSync to) stamp lawful next = lawful_state-send s _ lawful next refl
lawful_after s node reading (ToDeliver sent) stamp lawful next = lawful_state-push s _ lawful next
lawful_after s node reading (ToPull key value) stamp lawful next = lawful-pulled _ (inbox_of s node) (lawful_state-push s _ lawful next)

-- an accepted request leaves a sound state
pub sound_after : (s : State) (node reading : ℕ) (request : Request) (stamp : Pair) → IsSound s → refusal_of s node reading request ≡ None →
    MeetsClockRule s.history.events (stamped s node reading request stamp) →
    IsSound (state_with s (stamped s node reading request stamp) (live_after s node request))
sound_after s node reading request stamp sound none clock =
    let x = stamped s node reading request stamp in
    let next = comes_next s node reading request stamp sound.lawful none clock in
    let due = within_if_not_exceeded s.limit _ (not_refused s node reading request none).2 in
    record {
      lawful = lawful_after s node reading request stamp sound.lawful next;
      least = least_push s.history.events x sound.least clock;
      within = within-push s.limit s.history.events x sound.within (drift_is_within s x next.lawful clock due);
    }

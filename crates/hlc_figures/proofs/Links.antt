-- The events that links and arrows lead to.
use Rattle.std.proofs.Common.{◌≡◌, ◌∙◌, ℕ, zero, suc, ◌<◌, ◌≤◌, Bool, inl, inr, List, [], ◌∷◌, Contains, Option, Some, None, IfSome, arith, find, length, refl, ap, subst, sym}
use Rattle.std.specs.Prelude.{nat_le, nat_lt, option_map, slice_index_or, unwrap_or}
use Rattle.std.proofs.lemmas.Bool.{cases_Bool}
use Rattle.std.proofs.lemmas.Bool.Decides.{nat_tests}
use Rattle.std.proofs.lemmas.List.{length-map}
use Rattle.std.proofs.lemmas.List.Elements.{Contains-append_cases, Contains-append_left, Contains-append_right}
use Rattle.hlc_stamp.specs.Ids.{places_of}
use Rattle.hlc_stamp.specs.Order.{Pair}
use Rattle.hlc_execution.specs.Execution.{IsExecution, StoredExecution, clock_of}
use Rattle.hlc_stamp.specs.declared.id.EventId.{EventId}
use Rattle.hlc_causality.specs.Causality.{Skeleton, skeleton_at}
use Rattle.hlc_causality.specs.ClockChain.{IsClockForcing}
use Rattle.hlc_causality.specs.ClockEvents.{ClockEvents}
use Rattle.hlc_causality.specs.FollowedClockChains.{clock_followed_back, clock_forcing_of}
use Rattle.hlc_causality.specs.Forcing.{NamesClockForcing}
use Rattle.hlc_causality.specs.Neighbours.{NamesSend, place_of}
use Rattle.hlc_causality.proofs.ClockForcing.{clock_forcing_is_earlier, clock_forcing_is_unique}
use Rattle.hlc_causality.proofs.FollowedClockChains.{clock_forcing_found}
use Rattle.hlc_causality.proofs.PredecessorsFound.{Finds}
use Rattle.hlc_causality.proofs.ReceiveEvents.{clock_events_size}
use Rattle.hlc_figures.specs.Chosen.{chosen}
use Rattle.hlc_figures.specs.Content.{Content, clock_events_of, node_at}
use Rattle.hlc_figures.specs.Figure.{forcing_at, next_of}
use Rattle.hlc_svg.specs.declared.frame.Frame.{Frame}
use Rattle.hlc_figures.proofs.Placed.{in_one}

pub clock_size : (c : Content) → length (clock_events_of c) ≡ length c.events
clock_size c = clock_events_size c.rules c.events

module _ (c : Content) (f : ℕ) where
  -- an answer names the forcing event
  abbrev pub NamesForcingEvent : Option EventId → Type 0
  NamesForcingEvent answer = NamesClockForcing (clock_events_of c) c.stamps f answer

  one_forcing : (answer : Option EventId) (found : Option ℕ) → NamesForcingEvent answer
      → Finds (λ d. IsClockForcing (clock_events_of c) c.stamps d f) found → place_of answer ≡ found
  one_forcing None None origin none = refl
  one_forcing None (Some d) origin forces = absurd (origin d forces)
  one_forcing (Some d) None forces none = absurd (none d.0 forces)
  one_forcing (Some d) (Some e) forces also =
      ap (λ (x : ℕ). Some x) (clock_forcing_is_unique (clock_events_of c) c.stamps d.0 e f forces also)

  -- the forcing event that the execution names is the one that is followed back
  pub forcing_is_named : (answer : Option EventId) → f < length c.events → NamesForcingEvent answer → place_of answer ≡ forcing_at c f
  forcing_is_named answer exists names =
      one_forcing answer (forcing_at c f) names (clock_forcing_found (clock_events_of c) c.stamps f (omega (arith, exists, clock_size c)))

  -- and it exists
  pub forcing_exists : (answer : Option EventId) → f < length c.events → NamesForcingEvent answer → IfSome answer (λ d. d.0 < length c.events)
  forcing_exists None exists names = tt
  forcing_exists (Some d) exists names =
      let earlier : d.0 < f = clock_forcing_is_earlier (clock_events_of c) c.stamps d.0 f names in
      omega arith

  -- whichever execution has these events as clocks read them
  names_here : (x : StoredExecution) (answer : Option EventId) → clock_of x ≡ clock_events_of c → x.stamps ≡ c.stamps →
      NamesClockForcing (clock_of x) x.stamps f answer → NamesForcingEvent answer
  names_here x answer clocks stamps names =
      subst (λ (t : ClockEvents). NamesClockForcing t c.stamps f answer) clocks
      (subst (λ (ps : List Pair). NamesClockForcing (clock_of x) ps f answer) stamps names)

  pub forcing_named_in : (x : StoredExecution) (answer : Option EventId) → clock_of x ≡ clock_events_of c → x.stamps ≡ c.stamps →
      f < length c.events → NamesClockForcing (clock_of x) x.stamps f answer → place_of answer ≡ forcing_at c f
  forcing_named_in x answer clocks stamps exists names =
      forcing_is_named answer exists (names_here x answer clocks stamps names)

-- the send that is named exists
pub send_exists : (s : Skeleton) (f : ℕ) (answer : Option EventId) → f < length s → NamesSend s f answer → IfSome answer (λ d. d.0 < length s)
send_exists s f None exists names = tt
send_exists s f (Some d) exists names = let earlier : d.0 < f = names.earlier in omega arith

-- and the node of an event
pub node_exists_in :
    (c : Content) (x : StoredExecution) (f : ℕ) → IsExecution x → x.events ≡ c.events → x.nodes ≡ c.nodes → f < length c.events →
    node_at c f < c.nodes
node_exists_in c x f is events nodes exists =
    let size = ap (λ (s : Skeleton). length s) events in
    let lt : (skeleton_at x.events f).node < x.nodes = (is.each f (omega arith)).node in
    subst (λ (n : ℕ). node_at c f < n) nodes (subst (λ (s : Skeleton). (skeleton_at s f).node < x.nodes) events lt)

-- what is found is among what was looked through
pub found_is_among : (test : ℕ → Bool) (xs : List ℕ) (x : ℕ) → find test xs ≡ Some x → Contains xs x
found_is_among test [] x found = absurd (cc)
found_is_among test (y ∷ ys) x found =
    elim (cases_Bool (test y)) [
      | inl is ↦ let same : y ≡ x = (let h = rw is at found in cc) in Contains-append_left (y ∷ []) ys x (0, omega arith, same)
      | inr isnt ↦ Contains-append_right (y ∷ []) ys x (found_is_among test ys x (rw isnt at found))
    ]

-- an event of a chain isn't later than the last one
in_before :
    (t : ClockEvents) (pairs : List Pair) (f d : ℕ) (before : ℕ → List ℕ) (o : Option ℕ) → Finds (λ e. IsClockForcing t pairs e f) o →
    ((e : ℕ) → e < f → Contains (before e) d → d ≤ e) → Contains (unwrap_or (option_map (λ e. before e) o) []) d → d < f
in_before t pairs f d before None found earlier among = let lt = among.1 in absurd (omega arith)
in_before t pairs f d before (Some e) found earlier among =
    let lt : e < f = clock_forcing_is_earlier t pairs e f found in let le : d ≤ e = earlier e lt among in omega arith

pub in_followed : (t : ClockEvents) (pairs : List Pair) (n f d : ℕ) → f < length t → Contains (clock_followed_back t pairs n f) d → d ≤ f
in_followed t pairs zero f d exists among = let same : f ≡ d = in_one f d among in omega arith
in_followed t pairs (suc n) f d exists among =
    elim (Contains-append_cases (unwrap_or (option_map (λ e. clock_followed_back t pairs n e) (clock_forcing_of t pairs f)) []) (f ∷ []) d among) [
      | inl earlier ↦
          let lt : d < f = in_before t pairs f d (clock_followed_back t pairs n) (clock_forcing_of t pairs f) (clock_forcing_found t pairs f exists)
          (λ e lt. in_followed t pairs n e d (omega arith)) earlier in omega arith
      | inr last ↦ let same : f ≡ d = in_one f d last in omega arith
    ]

pub chosen_exists : (c : Content) (explained : Option EventId) (d : ℕ)
    → Contains (chosen (clock_events_of c) c.stamps explained) d → d < length c.events
chosen_exists c None d among = let lt = among.1 in absurd (omega arith)
chosen_exists c (Some e) d among =
    elim (cases_Bool (nat_lt e.0 (length (clock_events_of c)))) [
      | inl is ↦
          let exists : e.0 < length (clock_events_of c) = grind (arith, nat_tests, is) in
          let le : d ≤ e.0 = in_followed (clock_events_of c) c.stamps e.0 e.0 d exists (rw is at among) in
          omega (arith, le, exists, clock_size c)
      | inr isnt ↦ let none : Contains [] d = (rw isnt at among) in let lt = none.1 in absurd (omega arith)
    ]

-- so the one with which it goes on after the range exists
next_exists :
    (c : Content) (explained : Option EventId) (frame : Frame) (next : EventId) → Some next.0 ≡ next_of c explained frame →
    next.0 < length c.events
next_exists c explained frame next is =
    chosen_exists c explained next.0 (found_is_among (λ e. nat_le frame.end e) (chosen (clock_events_of c) c.stamps explained) next.0 (sym is))

pub next_is_there :
    (c : Content) (explained : Option EventId) (frame : Frame) (next : Option EventId) → place_of next ≡ next_of c explained frame →
    IfSome next (λ next. next.0 < length c.events)
next_is_there c explained frame None is = tt
next_is_there c explained frame (Some next) is = next_exists c explained frame next is

-- if a chain explains an event, the event exists
chosen_has_event : (c : Content) (e : EventId) → 0 < length (chosen (clock_events_of c) c.stamps (Some e)) → e.0 < length c.events
chosen_has_event c e some =
    elim (cases_Bool (nat_lt e.0 (length (clock_events_of c)))) [
      | inl is ↦ let exists : e.0 < length (clock_events_of c) = grind (arith, nat_tests, is) in omega (arith, exists, clock_size c)
      | inr isnt ↦ let none : 0 < length {A = ℕ} [] = (rw isnt at some) in absurd (omega arith)
    ]

pub explained_exists :
    (c : Content) (explained : Option EventId) (e : EventId) (list : List EventId) → explained ≡ Some e →
    places_of list ≡ chosen (clock_events_of c) c.stamps explained → 0 < length list → e.0 < length c.events
explained_exists c explained e list is chain some =
    let size : length (places_of list) ≡ length list = length-map list (λ (id : EventId). id.0) in
    let same : length (chosen (clock_events_of c) c.stamps (Some e)) ≡ length (places_of list) =
    sym (ap (λ (xs : List ℕ). length xs) (chain ∙ ap (chosen (clock_events_of c) c.stamps) is)) in
    chosen_has_event c e (omega arith)

-- and so does the first event of the chain
pub origin_exists :
    (c : Content) (explained : Option EventId) (list : List EventId) → places_of list ≡ chosen (clock_events_of c) c.stamps explained → 0 < length list →
    (slice_index_or list 0 (record { 0 = 0 })).0 < length c.events
origin_exists c explained [] chain some = absurd (omega arith)
origin_exists c explained (d ∷ rest) chain some =
    chosen_exists c explained d.0 (subst (λ (xs : List ℕ). Contains xs d.0) chain (0, omega arith, refl))

-- A cluster with one more event.
use Rattle.std.proofs.Common.{◌≡◌, ◌∙◌, ℕ, ◌<◌, ◌≤◌, ◌-◌, Option, Some, None, List, [], ◌∷◌, ◌++◌, length, arith, refl, not, subst, sym, ap}
use Rattle.std.specs.Prelude.{◌==◌, All, IsSome}
use Rattle.std.proofs.lemmas.List.{length_push, map_push}
use Rattle.std.proofs.lemmas.List.Elements.{All-filter, All-get_or, All-push, All-weaker}
use Rattle.std.proofs.lemmas.List.Kept.{AllPairs-filter}
use Rattle.std.proofs.lemmas.List.Quantifiers.{all_pairs_push}
use Rattle.hlc_stamp.specs.declared.limits.TheConstants.{MAX_CAPACITY, MAX_NODES, MIN_NODES}
use Rattle.hlc_arena.specs.Arena.{empty_history, with_event}
use Rattle.hlc_causality.proofs.Allowed.{least_from_each}
use Rattle.hlc_arena.specs.ClockRule.{MeetsClockRule}
use Rattle.hlc_arena.specs.History.{History, StampedEvent, event_at, target_of}
use Rattle.hlc_arena.specs.KnownSteps.{AllNameEarlier}
use Rattle.hlc_arena.proofs.Following.{well_formed-push, well_formed_names_fit}
use Rattle.hlc_arena.proofs.Histories.{each_after_others_push, least_push}
use Rattle.hlc_arena.proofs.KnownWrites.{fit_names_are_earlier}
use Rattle.hlc_arena.proofs.Places.{stamped_at-before, stamped_at-last}
use Rattle.hlc_pool.specs.Messages.{LiveMessages, Message, sends_of, without as without_message}
use Rattle.hlc_table.specs.Rows.{Row}
use Rattle.hlc_core.specs.Fields.{AreAddressed, AreWhole, IsAddressed, messages_and, state_of}
use Rattle.hlc_core.specs.Lawful.{IsLawful, IsLawfulNext, IsRequested}
use Rattle.hlc_core.specs.Limit.{IsWithinLimit}
use Rattle.hlc_core.specs.Sound.{IsSound}
use Rattle.hlc_core.specs.State.{IsLawfulState, State, new_state}
use Rattle.hlc_core.specs.Step.{live_without}
use Rattle.hlc_core.specs.Tables.{with_learnt}
use Rattle.hlc_core.proofs.Drifts.{within-push}
use Rattle.hlc_core.proofs.Messages.{addressed_after, addressed_without, without_is}
use Rattle.hlc_core.proofs.TablesHold.{tables_hold-push}

-- an event that may come next, in a history that may have one more, with the stamp that the clock rule gives it
pub record ComesNext (h : History) (x : StampedEvent) : Type 0 where
  pub room : length h.events < h.capacity
  pub lawful : IsLawfulNext h.nodes h.events x.event
  pub clock : MeetsClockRule h.events x

pub lawful-push : (h : History) (x : StampedEvent) → IsLawful h → ComesNext h x → IsLawful (with_event h x)
lawful-push h x lawful next = record {
  well_formed = well_formed-push h x lawful.well_formed next.room next.lawful.follows;
  requested = each_after_others_push (λ others y. IsRequested others y.event) h.events x lawful.requested next.lawful.requested;
}

-- a history with no event is lawful
pub lawful_of_none : (nodes capacity : ℕ) → MIN_NODES ≤ nodes → nodes ≤ MAX_NODES → 1 ≤ capacity → capacity ≤ MAX_CAPACITY →
    IsLawful (empty_history nodes capacity)
lawful_of_none nodes capacity enough few some small =
    let no_event : (e : ℕ) → e < 0 → ⊥ = λ e lt. omega arith in
    record {
      well_formed = record {
        enough_nodes = enough;
        few_nodes = few;
        some_capacity = some;
        small_capacity = small;
        within_capacity = omega arith;
        each = λ e lt. absurd (no_event e lt);
      };
      requested = λ e lt. absurd (no_event e lt);
    }

-- a send of a history
abbrev pub IsSendAt : List StampedEvent → ℕ → Type 0
IsSendAt events m = (m < length events) × IsSome (target_of (event_at events m).kind)

sends_stay : (events : List StampedEvent) (x : StampedEvent) (m : ℕ) → IsSendAt events m → IsSendAt (events ++ x ∷ []) m
sends_stay events x m h =
    let size = length_push events x in
    (omega (arith, h.0), subst (λ (y : StampedEvent). IsSome (target_of y.event.kind)) (sym (stamped_at-before events x m h.0)) h.1)

pub lawful_state-push : (s : State) (x : StampedEvent) → IsLawfulState s → ComesNext s.history x →
    IsLawfulState (record s { history = with_event s.history x })
lawful_state-push s x lawful next = record {
  history = lawful-push s.history x lawful.history next;
  sent = All-weaker (IsSendAt s.history.events) (IsSendAt (s.history.events ++ x ∷ [])) (sends_stay s.history.events x) s.live lawful.sent;
  rising = lawful.rising;
}

pub lawful_state-send : (s : State) (x : StampedEvent) → IsLawfulState s → ComesNext s.history x → IsSome (target_of x.event.kind) →
    IsLawfulState (record s { history = with_event s.history x; live = s.live ++ length s.history.events ∷ [] })
lawful_state-send s x lawful next sends =
    let events = s.history.events in
    let more = lawful_state-push s x lawful next in
    let size = length_push events x in
    let here : IsSendAt (events ++ x ∷ []) (length events) =
    (omega arith, subst (λ (y : StampedEvent). IsSome (target_of y.event.kind)) (sym (stamped_at-last events x)) sends) in
    let earlier = All-weaker (IsSendAt events) (λ m. m < length events) (λ m h. h.0) s.live lawful.sent in
    record {
      history = more.history;
      sent = All-push (IsSendAt (events ++ x ∷ [])) s.live (length events) more.sent here;
      rising = all_pairs_push (λ m n. m < n) s.live (length events) lawful.rising earlier;
    }

-- a lawful state stays lawful when a message ends
pub lawful_state-without : (s : State) (sent : ℕ) → IsLawfulState s → IsLawfulState (record s { live = live_without sent s.live })
lawful_state-without s sent lawful = record {
  history = lawful.history;
  sent = All-filter (λ m. not (m == sent)) (IsSendAt s.history.events) s.live lawful.sent;
  rising = AllPairs-filter (λ m n. m < n) (λ m. not (m == sent)) s.live lawful.rising;
}

-- what the new event names is earlier
pub names_earlier-push : (h : History) (x : StampedEvent) → IsLawful h → ComesNext h x → AllNameEarlier (h.events ++ x ∷ [])
names_earlier-push h x lawful next =
    fit_names_are_earlier (h.events ++ x ∷ []) (well_formed_names_fit (with_event h x) (lawful-push h x lawful next).well_formed)

-- a state with no event is sound
pub sound_of_none : (limit : Option ℕ) (nodes capacity : ℕ) → MIN_NODES ≤ nodes → nodes ≤ MAX_NODES → 1 ≤ capacity
    → capacity ≤ MAX_CAPACITY →
    IsSound (new_state nodes capacity limit)
sound_of_none limit nodes capacity enough few some small =
    let no_event : (e : ℕ) → e < 0 → ⊥ = λ e lt. omega arith in
    record {
      lawful = record {
        history = lawful_of_none nodes capacity enough few some small;
        sent = λ k d lt. absurd (no_event k lt);
        rising = λ i j d lt within. absurd (no_event j within);
      };
      least = least_from_each [] [] refl (λ f lt. absurd (no_event f lt));
      within = λ e lt. absurd (no_event e lt);
    }

-- a cluster with no event
pub whole_of_none : (limit : Option ℕ) (nodes capacity : ℕ) (live : LiveMessages) (tables : List (List Row)) →
    MIN_NODES ≤ nodes → nodes ≤ MAX_NODES → 1 ≤ capacity → capacity ≤ MAX_CAPACITY → live.messages ≡ [] → live.nodes ≡ nodes →
    length tables ≡ nodes → All (λ table. table ≡ []) tables → AreWhole limit (empty_history nodes capacity) live tables
whole_of_none limit nodes capacity live tables enough few some small none same one_each empty =
    let no_message : (k : ℕ) → k < 0 → ⊥ = λ k lt. omega arith in
    let sound = sound_of_none limit nodes capacity enough few some small in
    record {
      sound = subst (λ (ms : List Message). IsSound (state_of limit (empty_history nodes capacity) ms)) (sym none) sound;
      nodes = same;
      addressed = subst (λ (ms : List Message). AreAddressed [] ms) (sym none) (λ k d lt. absurd (no_message k lt));
      held = record { one_each = one_each; each = λ node lt. All-get_or (λ table. table ≡ []) tables node [] (omega arith) empty };
    }

-- a cluster whose live messages change, and not the number of its nodes
module _
    {limit : Option ℕ} {h : History} {old : LiveMessages} {tables : List (List Row)} (whole : AreWhole limit h old tables)
    (new : LiveMessages) (nodes : new.nodes ≡ old.nodes) where
  -- a message is lost
  pub whole-lost : (sent : ℕ) → new.messages ≡ without_message old.messages sent → AreWhole limit h new tables
  whole-lost sent messages =
      let live : sends_of new.messages ≡ live_without sent (sends_of old.messages) = ap sends_of messages ∙ without_is sent old.messages in
      let lawful = lawful_state-without (state_of limit h old.messages) sent whole.sound.lawful in
      let addressed = addressed_without h.events sent old.messages whole.addressed in
      record {
        sound = record {
          lawful = subst (λ (xs : List ℕ). IsLawfulState (record { history = h; live = xs; limit = limit })) (sym live) lawful;
          least = whole.sound.least;
          within = whole.sound.within;
        };
        nodes = nodes ∙ whole.nodes;
        addressed = subst (λ (ms : List Message). AreAddressed h.events ms) (sym messages) addressed;
        held = whole.held;
      }

  -- one more event
  module _ (x : StampedEvent) (next : ComesNext h x) (near : IsWithinLimit limit (x.stamp.l - x.event.reading)) where
    abbrev AreWholeThen : Type 0
    AreWholeThen = AreWhole limit (with_event h x) new (with_learnt tables h.events x)

    abbrev IsLawfulWith : List ℕ → Type 0
    IsLawfulWith live = IsLawfulState (record { history = with_event h x; live = live; limit = limit })

    -- its stamp and the tables stay as they should be, whatever is live
    whole-with : IsLawfulWith (sends_of new.messages) → AreAddressed (h.events ++ x ∷ []) new.messages → AreWholeThen
    whole-with lawful addressed = record {
      sound = record {
        lawful = lawful;
        least = least_push h.events x whole.sound.least next.clock;
        within = within-push limit h.events x whole.sound.within near;
      };
      nodes = nodes ∙ whole.nodes;
      addressed = addressed;
      held = tables_hold-push h x tables whole.held (names_earlier-push h x whole.sound.lawful.history next) next.lawful.follows.node;
    }

    addressed_before : AreAddressed (h.events ++ x ∷ []) old.messages
    addressed_before = addressed_after h.events x old.messages whole.addressed

    -- it sends nothing
    whole-push : new.messages ≡ old.messages → AreWholeThen
    whole-push messages =
        let lawful = lawful_state-push (state_of limit h old.messages) x whole.sound.lawful next in
        whole-with
        (subst IsLawfulWith (sym (ap sends_of messages)) lawful)
        (subst (AreAddressed (h.events ++ x ∷ [])) (sym messages) addressed_before)

    -- it is a send, whose message is live
    whole-send : (to : ℕ) → target_of x.event.kind ≡ Some to →
        new.messages ≡ old.messages ++ record { send = length h.events; target = to } ∷ [] → AreWholeThen
    whole-send to sends messages =
        let more = h.events ++ x ∷ [] in
        let size = length_push h.events x in
        let message : Message = record { send = length h.events; target = to } in
        let is_send = subst (λ (o : Option ℕ). IsSome o) (sym sends) refl in
        let lawful = lawful_state-send (state_of limit h old.messages) x whole.sound.lawful next is_send in
        let live : sends_of new.messages ≡ sends_of old.messages ++ length h.events ∷ [] =
        ap sends_of messages ∙ map_push (λ m. m.send) old.messages message in
        let here : IsAddressed more message =
        (omega (arith, size), ap (λ (y : StampedEvent). target_of y.event.kind) (stamped_at-last h.events x) ∙ sends) in
        whole-with
        (subst IsLawfulWith (sym live) lawful)
        (subst (AreAddressed more) (sym messages) (All-push (IsAddressed more) old.messages message addressed_before here))

    -- its node's table learns what it makes known, and what it sends is live
    pub whole-more : (target : Option ℕ) → target_of x.event.kind ≡ target →
        new.messages ≡ messages_and old.messages (length h.events) target → AreWholeThen
    whole-more None is messages = whole-push messages
    whole-more (Some to) is messages = whole-send to is messages

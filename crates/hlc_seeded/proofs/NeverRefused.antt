-- No step of seeded scripts is refused, however they are interleaved.
use Rattle.std.proofs.Common.{◌≡◌, ◌∙◌, ℕ, zero, suc, ◌+◌, ◌*◌, ◌%◌, ◌<◌, ◌≤◌, Bool, true, false, List, [], ◌∷◌, ◌++◌, length, arith, refl, ap, sym, subst, append_assoc, inl, inr, Option, None}
use Rattle.std.specs.Prelude.{◌==◌, cond}
use Rattle.std.proofs.lemmas.Bool.{eqb-true}
use Rattle.std.proofs.lemmas.List.{append-nil, length_push}
use Rattle.hlc_arena.specs.History.{History, StampedEvent}
use Rattle.hlc_arena.specs.KnownSteps.{AllNameEarlier}
use Rattle.hlc_arena.proofs.Following.{well_formed_names_fit}
use Rattle.hlc_arena.proofs.KnownWrites.{fit_names_are_earlier}
use Rattle.hlc_core.specs.Asked.{AddsUnless, Asked, StepsAlong, StepsTo, ToAct, ToLose, with_stamp}
use Rattle.hlc_core.specs.declared.refusal.Refusal.{Refusal}
use Rattle.hlc_core.specs.Limit.{drift_if_next, exceeds}
use Rattle.hlc_core.specs.Request.{Request}
use Rattle.hlc_core.specs.Sound.{IsSound}
use Rattle.hlc_core.specs.State.{State, is_live, new_refusal, new_state}
use Rattle.hlc_core.specs.Step.{event_for, first_refusal, kind_for, live_after, own_refusals, refusal_of, state_with, with_lost}
use Rattle.hlc_core.specs.Timed.{TimedRequest}
use Rattle.hlc_core.proofs.Answering.{let_through}
use Rattle.hlc_core.proofs.AskedSteps.{new_is_sound, settings_stay, stays_sound}
use Rattle.hlc_seeded.specs.declared.draw.Choice.{Choice}
use Rattle.hlc_seeded.specs.declared.draw.Choice.TheVariants.{Erase, Pull, Send, Write}
use Rattle.hlc_seeded.specs.declared.draw.Draw.{Draw}
use Rattle.hlc_seeded.specs.Interleavings.{IsInterleaving, SeededStepsAreNeverRefused, asked_at}
use Rattle.hlc_seeded.specs.Storm.{choice_for, is_update, key_for, latest_key, request_of_choice, scripts_of, step_of, value_for}
use Rattle.hlc_seeded.proofs.Counts.{acts_in}
use Rattle.hlc_seeded.proofs.EntriesStay.{HasEntry, Writes, entry_made, entry_stays}
use Rattle.hlc_seeded.proofs.Interleavings.{IsNextStep, asked_at-append, draws_at, few_acts, interleaving_before, next_step}
use Rattle.hlc_seeded.proofs.ScriptGrowth.{after_step, updates_first}
use Rattle.hlc_seeded.proofs.StepsPass.{passes_common, passes_own}

acts_in-append : (xs ys : List Asked) → acts_in (xs ++ ys) ≡ acts_in xs + acts_in ys
acts_in-append [] ys = omega arith
acts_in-append (ToAct node reading request ∷ more) ys =
    let rest = acts_in-append more ys in
    omega arith
acts_in-append (ToLose sent ∷ more) ys = acts_in-append more ys

one_factor : (n m : ℕ) → 1 ≤ n → m ≤ n * m
one_factor zero m some = absurd (omega arith)
one_factor (suc n) m some = omega arith

-- a Write or an Erase writes its key
writes_key :
    (s : State) (nodes node step a : ℕ) (latest : List ℕ) (c : Choice) → is_update c ≡ true →
    Writes (key_for a) (kind_for s node (request_of_choice c nodes node step a latest))
writes_key s nodes node step a latest Write updates = inl (value_for node step, refl)
writes_key s nodes node step a latest Erase updates = inr refl
writes_key s nodes node step a latest Send updates = absurd (cc)
writes_key s nodes node step a latest Pull updates = absurd (cc)

module _ (words : ℕ → ℕ) (nodes steps capacity : ℕ) (fits : nodes * steps ≤ capacity) where
  -- an interleaving of the scripts
  abbrev pub IsAsked : List Asked → Type 0
  IsAsked = IsInterleaving (scripts_of words nodes steps)

  -- a node has an entry of the latest key that it wrote or erased in its first k steps
  abbrev pub HasLatest : List StampedEvent → ℕ → ℕ → Type 0
  HasLatest events node k = HasEntry events node (latest_key (draws_at words steps node) k)

  -- a state that is met after some steps: each node that has come past its first step has an entry of its latest key
  pub record IsMet (done : List Asked) (s : State) : Type 0 where
    pub sound : IsSound s
    pub same_nodes : s.history.nodes ≡ nodes
    pub same_capacity : s.history.capacity ≡ capacity
    pub count : length s.history.events ≡ acts_in done
    pub unlimited : s.limit ≡ None
    pub entries : (node : ℕ) → 0 < length (asked_at node done) → HasLatest s.history.events node (length (asked_at node done))

  not_refused :
      (done more : List Asked) (s : State) (node reading : ℕ) (request : Request) →
      IsAsked (done ++ ToAct node reading request ∷ more) → IsMet done s → refusal_of s node reading request ≡ None
  not_refused done more s node reading request interleaving met =
      let next = next_step words nodes steps done more node reading request interleaving in
      let draws = draws_at words steps node in
      let k = length (asked_at node done) in
      let well = met.sound.lawful.history.well_formed in
      let enough : 2 ≤ s.history.nodes = well.enough_nodes in
      let few : s.history.nodes ≤ 64 = well.few_nodes in
      let small : s.history.capacity ≤ 16777216 = well.small_capacity in
      let same_nodes = met.same_nodes in
      let same_capacity = met.same_capacity in
      let all = few_acts words nodes steps (done ++ ToAct node reading request ∷ more) interleaving in
      let parts = acts_in-append done (ToAct node reading request ∷ more) in
      let count = met.count in
      let room : length s.history.events < s.history.capacity = omega arith in
      let within = next.within in
      let factor = one_factor nodes steps (omega arith) in
      let exists_here = next.exists in
      let exists : node < s.history.nodes = omega arith in
      let reads : reading ≡ 1000 + 10 * k + (draws k).a % 64 = next.reads in
      let common = passes_common s node reading exists (omega arith) (omega arith) room in
      let own = passes_own s draws node k enough exists (omega arith) (omega arith) (met.entries node) in
      let asks : request ≡ (step_of draws s.history.nodes node k).request =
      next.asks ∙ ap (λ (n : ℕ). (step_of draws n node k).request) (sym same_nodes) in
      let_through s node reading request common (ap (λ (q : Request). first_refusal (own_refusals s node q)) asks ∙ own)
      (ap (λ (l : Option ℕ). exceeds l (drift_if_next s.history.events (event_for s node reading request))) met.unlimited)

  -- the state after a step that isn't refused
  module _ (done : List Asked) (s : State) (node reading : ℕ) (request : Request) (met : IsMet done s)
      (next : IsNextStep words nodes steps done node reading request) (x : StampedEvent) (is_event : x.event ≡ event_for s node reading request)
      (live : List ℕ) (sound : IsSound (state_with s x live)) where
    abbrev one : Asked
    one = ToAct node reading request

    abbrev events : List StampedEvent
    events = s.history.events ++ x ∷ []

    earlier : AllNameEarlier events
    earlier = fit_names_are_earlier events (well_formed_names_fit (state_with s x live).history sound.lawful.history.well_formed)

    -- the step that the node takes, and what is drawn for it
    abbrev step : ℕ
    step = length (asked_at node done)

    abbrev draws : ℕ → Draw
    draws = draws_at words steps node

    entry_after_update : (t : Bool) → is_update (choice_for step (draws step).b) ≡ t →
        HasEntry events node (cond t (key_for (draws step).a) (latest_key draws step))
    entry_after_update true updates =
        let kind : x.event.kind ≡ kind_for s node (step_of draws nodes node step).request =
        ap (λ e. e.kind) is_event ∙ ap (kind_for s node) next.asks in
        let writes = writes_key s nodes node step (draws step).a (latest_key draws step) (choice_for step (draws step).b) updates in
        subst (λ (m : ℕ). HasEntry events m (key_for (draws step).a)) (ap (λ e. e.node) is_event)
        (entry_made s.history.events x (key_for (draws step).a) earlier (subst (Writes (key_for (draws step).a)) (sym kind) writes))
    entry_after_update false other =
        entry_stays s.history.events x node (latest_key draws step) earlier (met.entries node (updates_first step (draws step).b other))

    entry_at_node : HasLatest events node (step + 1)
    entry_at_node =
        let t = is_update (choice_for step (draws step).b) in
        subst (HasEntry events node) (sym (after_step draws step (draws step) t refl refl)) (entry_after_update t refl)

    -- how many steps of a node were asked with this one
    abbrev steps_after : ℕ → ℕ
    steps_after m = length (asked_at m (done ++ one ∷ []))

    entries_after : (m : ℕ) (t : Bool) → (node == m) ≡ t → 0 < steps_after m → HasLatest events m (steps_after m)
    entries_after m true same some =
        let asked : TimedRequest = record { reading = reading; request = request } in
        let is : asked_at m (done ++ one ∷ []) ≡ asked_at m done ++ asked ∷ [] =
        asked_at-append m done (one ∷ []) ∙ ap (λ (t : Bool). asked_at m done ++ cond t (asked ∷ []) []) same in
        let size : steps_after m ≡ length (asked_at m done) + 1 = ap length is ∙ length_push (asked_at m done) asked in
        let here : node ≡ m = eqb-true node m same in
        subst (HasLatest events m) (sym size) (subst (λ (n : ℕ). HasLatest events n (length (asked_at n done) + 1)) here entry_at_node)
    entries_after m false other some =
        let asked : TimedRequest = record { reading = reading; request = request } in
        let is : asked_at m (done ++ one ∷ []) ≡ asked_at m done =
        asked_at-append m done (one ∷ [])
        ∙ ap (λ (t : Bool). asked_at m done ++ cond t (asked ∷ []) []) other ∙ append-nil (asked_at m done) in
        let size = ap length is in
        let key = latest_key (draws_at words steps m) (length (asked_at m done)) in
        let had = met.entries m (subst (λ (n : ℕ). 0 < n) size some) in
        subst (HasLatest events m) (sym size) (entry_stays s.history.events x m key earlier had)

    met_after_act : IsMet (done ++ one ∷ []) (state_with s x live)
    met_after_act =
        let size = length_push s.history.events x in
        let parts = acts_in-append done (one ∷ []) in
        let before = met.count in
        record {
          sound = sound;
          same_nodes = met.same_nodes;
          same_capacity = met.same_capacity;
          count = omega arith;
          unlimited = met.unlimited;
          entries = λ m. entries_after m (node == m) refl;
        }

  lost_history : (s : State) (sent : ℕ) (t : Bool) → (cond t (with_lost s sent) s).history ≡ s.history
  lost_history s sent true = refl
  lost_history s sent false = refl

  -- a loss asks no node for anything
  met_after_loss :
      (done : List Asked) (s next : State) (sent : ℕ) → IsMet done s → IsSound next → next.history ≡ s.history → next.limit ≡ s.limit →
      IsMet (done ++ ToLose sent ∷ []) next
  met_after_loss done s next sent met sound same same_limit =
      let asked_is : (m : ℕ) → asked_at m (done ++ ToLose sent ∷ []) ≡ asked_at m done =
      λ m. asked_at-append m done (ToLose sent ∷ []) ∙ append-nil (asked_at m done) in
      let parts = acts_in-append done (ToLose sent ∷ []) in
      let before = met.count in
      let events : length next.history.events ≡ length s.history.events = ap (λ (h : History). length h.events) same in
      record {
        sound = sound;
        same_nodes = ap (λ (h : History). h.nodes) same ∙ met.same_nodes;
        same_capacity = ap (λ (h : History). h.capacity) same ∙ met.same_capacity;
        count = omega arith;
        unlimited = same_limit ∙ met.unlimited;
        entries = λ m some.
            let size = ap length (asked_is m) in
            let had = met.entries m (subst (λ (n : ℕ). 0 < n) size some) in
            let kept : HasLatest next.history.events m (length (asked_at m done)) =
            subst (λ (h : History). HasLatest h.events m (length (asked_at m done))) (sym same) had in
            subst (HasLatest next.history.events m) (sym size) kept;
      }

  met_after :
      (done more : List Asked) (one : Asked) (s next : State) → IsAsked (done ++ one ∷ more) → IsMet done s → StepsTo s one next →
      IsMet (done ++ one ∷ []) next
  met_after done more (ToLose sent) s next interleaving met step =
      let sound = stays_sound s next (ToLose sent ∷ []) met.sound (next, step, refl) in
      let settings = settings_stay s next (ToLose sent ∷ []) (next, step, refl) in
      let same = ap (λ (t : State). t.history) step ∙ lost_history s sent (is_live s sent) in
      met_after_loss done s next sent met sound same settings.limit
  met_after done more (ToAct node reading request) s next interleaving met step =
      let none = not_refused done more s node reading request interleaving met in
      let e = event_for s node reading request in
      let live = live_after s node request in
      let added : AddsUnless None s e live next = subst (λ (o : Option Refusal). AddsUnless o s e live next) none step in
      let sound = stays_sound s next (ToAct node reading request ∷ []) met.sound (next, step, refl) in
      let x = with_stamp e added.0 in
      let is_next = next_step words nodes steps done more node reading request interleaving in
      subst (IsMet (done ++ ToAct node reading request ∷ [])) (sym added.2)
      (met_after_act done s node reading request met is_next x refl live (subst IsSound added.2 sound))

  met_along : (done rest : List Asked) (s t : State) → IsAsked (done ++ rest) → IsMet done s → StepsAlong s rest t → IsMet (done ++ rest) t
  met_along done [] s t interleaving met along =
      subst (λ (xs : List Asked). IsMet xs t) (sym (append-nil done)) (subst (IsMet done) (sym along) met)
  met_along done (one ∷ more) s t interleaving met along =
      let next = met_after done more one s along.0 interleaving met along.1 in
      let same = append_assoc done (one ∷ []) more in
      subst (λ (xs : List Asked). IsMet xs t) same
      (met_along (done ++ one ∷ []) more along.0 t (subst IsAsked (sym same) interleaving) next along.2)

  met_first : new_refusal nodes capacity ≡ None → IsMet [] (new_state nodes capacity None)
  met_first allowed = record {
    sound = new_is_sound nodes capacity None allowed;
    same_nodes = refl;
    same_capacity = refl;
    count = refl;
    unlimited = refl;
    entries = λ m some. absurd (omega arith);
  }

pub seeded_steps_are_never_refused : SeededStepsAreNeverRefused
seeded_steps_are_never_refused words nodes steps capacity before after node reading request s allowed fits interleaving along =
    let lists = scripts_of words nodes steps in
    let first = interleaving_before lists before (ToAct node reading request ∷ after) interleaving in
    let start = met_first words nodes steps capacity fits allowed in
    let met = met_along words nodes steps capacity fits [] before (new_state nodes capacity None) s first start along in
    not_refused words nodes steps capacity fits before after s node reading request interleaving met

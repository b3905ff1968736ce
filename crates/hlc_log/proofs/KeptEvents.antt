-- The events of a log that have a place in some causal order, and the others.
use Rattle.std.proofs.Common.{◌≡◌, ◌↔◌, ℕ, ◌+◌, ◌<◌, ◌≤◌, ◌⊎◌, ◌==◌, inl, inr, Bool, true, false, List, [], ◌∷◌, ◌++◌, Option, get_or, length, map, not, replicate, set, take, arith, refl, subst, sym, ap, ◌∙◌}
use Rattle.std.specs.Prelude.{Contains, slice_index_or}
use Rattle.std.specs.List.{filter}
use Rattle.std.specs.List.Sorted.{IsStrictlyIncreasing}
use Rattle.std.proofs.lemmas.List.{get_or-map, get_or-replicate, get_or-set_other, get_or-set_same, get_or_default, get_or_past, length-map, length-replicate, map_more}
use Rattle.std.proofs.lemmas.List.Elements.{Contains-append_left, Contains-push, Contains-push_cases}
use Rattle.std.proofs.lemmas.List.Filters.{length-filter_both}
use Rattle.std.proofs.lemmas.List.Kept.{AllPairs-from_increasing}
use Rattle.std.proofs.lemmas.List.Sums.{position_or_len_is}
use Rattle.std.proofs.lemmas.Bool.{cases_eq, cases_lt, eq-eqb, ne_eqb}
use Rattle.hlc_stamp.specs.declared.id.EventId.{EventId}
use Rattle.hlc_stamp.specs.Ids.{places_of}
use Rattle.hlc_causality.specs.Places.{places_below}
use Rattle.hlc_causality.proofs.PlacesBelow.{contains_passing, length-places_below, passing_from_contains, passing_places_rise}
use Rattle.hlc_log.specs.declared.log_event.LogEvent.{LogEvent}
use Rattle.hlc_log.specs.declared.order_fault.OrderFault.{OrderFault}
use Rattle.hlc_log.specs.declared.order_fault.OrderFault.TheVariants.{Cycle, Memory, SentTwice, Unsent}
use Rattle.hlc_log.specs.CausalOrder.{IsCausalOrder, IsCausalPrefix, Needs, Waits, place_at}
use Rattle.hlc_log.specs.Events.{event_at, no_event}
use Rattle.hlc_log.specs.Faults.{IsFaultOf}
use Rattle.hlc_log.specs.Laws.{WaitingIsPassedOn}
use Rattle.hlc_log.specs.Messages.{AreMessagesSound, Receives, ReceivesUnsent, Sends, SendsAgain, SendsTo}
use Rattle.hlc_log.specs.OrderSkeleton.{index_in}
use Rattle.hlc_log.specs.Parted.{AreThoseWith, IsGreatestPrefix, IsParted, is_marked}
use Rattle.hlc_log.specs.Placing.{AreAllBlocked, ArePlaced}
use Rattle.hlc_log.specs.Standing.{StandsBefore, seq_at}
use Rattle.hlc_log.specs.StandingOrder.{arranged}
use Rattle.hlc_log.proofs.CarriedOrders.{CarriesOrders, contained_by_map, prefix_carried}
use Rattle.hlc_log.proofs.CausalOrders.{contained_exists, place_in_order, place_of_contained}
use Rattle.hlc_log.proofs.Placements.{unpassed_waits}

-- each of these places is one of n
pub those_exist : (n : ℕ) (HasProperty : ℕ → Type 0) (places : List ℕ) → AreThoseWith n HasProperty places → (k : ℕ) → k < length places
    → place_at places k < n
those_exist n HasProperty places are k lt = ((are.exactly (place_at places k)).0 (k, lt, get_or_default places k (place_at places k) 0 lt)).0

-- what an event in an order needs is in it
needed_inside : (events : List LogEvent) (order : List ℕ) → IsCausalPrefix events order → (e f : ℕ) → Contains order f → Needs events f e → Contains order e
needed_inside events order causal e f inside needs =
    let at = place_in_order events order f inside in
    let before = (causal at.0 at.1).needed e (subst (λ (x : ℕ). Needs events x e) (sym at.2) needs) in
    let found = place_of_contained events order at.0 e (omega (arith, at.1)) before in
    (found.0, omega (arith, found.1, at.1), get_or_default order found.0 e 0 (omega (arith, found.1, at.1)) ∙ found.2)

pub waiting_is_passed_on : WaitingIsPassedOn
waiting_is_passed_on events e f waits exists needs = record {
  exists = exists;
  never = λ order causal inside. waits.never order causal (needed_inside events order causal e f inside needs);
}

-- once no node can go on, all are placed that can be
pub greatest_placed : (events : List LogEvent) (next fronts : List (Option EventId)) (order : List ℕ) → ArePlaced events next fronts order
    → AreAllBlocked events fronts → IsGreatestPrefix events order
greatest_placed events next fronts order h blocked = record {
  causal = h.causal;
  others = λ e exists none. unpassed_waits events next fronts order h blocked e exists (λ passed. none ((h.placed e exists).1 passed));
}

-- a fault of a log whose messages are sound and which has an order is none
only_memory : (events : List LogEvent) (order : List ℕ) → AreMessagesSound events → IsCausalOrder events order → (fault : OrderFault) → IsFaultOf events fault
    → fault ≡ Memory
only_memory events order sound causal (SentTwice e) is = absurd (sound.once e.0 is.has)
only_memory events order sound causal (Unsent e) is = absurd (sound.sent e.0 is.1.has)
only_memory events order sound causal (Cycle e) is = let waits = is.1.has in absurd (waits.never order causal.causal (causal.all e.0 waits.exists))
only_memory events order sound causal Memory is = refl

module _ (events : List LogEvent) (order kept : List ℕ) (greatest : IsGreatestPrefix events order) (rise : IsStrictlyIncreasing kept)
    (are : (e : ℕ) → Contains kept e ↔ Contains order e) where
  abbrev rest : List LogEvent
  rest = arranged events kept

  abbrev to : ℕ → ℕ
  to e = index_in kept e

  size : length rest ≡ length kept
  size = length-map kept (event_at events)

  event_there : (k : ℕ) → k < length kept → event_at rest k ≡ event_at events (place_at kept k)
  event_there k lt = get_or-map (event_at events) kept k 0 no_event lt

  rises : (j k : ℕ) → j < k → k < length kept → place_at kept j < place_at kept k
  rises j k lt within = AllPairs-from_increasing kept rise j k 0 lt within

  listed : (k : ℕ) → k < length kept → Contains kept (place_at kept k)
  listed k lt = (k, lt, get_or_default kept k (place_at kept k) 0 lt)

  listed_exists : (k : ℕ) → k < length kept → place_at kept k < length events
  listed_exists k lt = contained_exists events order greatest.causal (place_at kept k) ((are (place_at kept k)).0 (listed k lt))

  index_of_listed : (k : ℕ) → k < length kept → to (place_at kept k) ≡ k
  index_of_listed k lt =
      position_or_len_is (λ (place : ℕ). place == place_at kept k) kept k 0 (omega arith)
      (λ j before. ne_eqb (place_at kept j) (place_at kept k) (λ same. let less = rises j k before lt in omega arith))
      (λ _. eq-eqb (place_at kept k) (place_at kept k) refl)

  index_of : (e : ℕ) → Contains kept e → (to e < length kept) × (place_at kept (to e) ≡ e)
  index_of e inside =
      let at = place_in_order events kept e inside in
      let index : to e ≡ at.0 = ap to (sym at.2) ∙ index_of_listed at.0 at.1 in
      (omega (arith, index, at.1), ap (place_at kept) index ∙ at.2)

  stands_here : (j k : ℕ) → j < length kept → k < length kept → StandsBefore rest j k → StandsBefore events (place_at kept j) (place_at kept k)
  stands_here j k j_lt k_lt (inl lt) =
      let first = ap (λ (x : LogEvent). x.seq) (event_there j j_lt) in
      let second = ap (λ (x : LogEvent). x.seq) (event_there k k_lt) in
      inl (omega (arith, lt, first, second))
  stands_here j k j_lt k_lt (inr (seqs, lt)) =
      let first = ap (λ (x : LogEvent). x.seq) (event_there j j_lt) in
      let second = ap (λ (x : LogEvent). x.seq) (event_there k k_lt) in
      inr (sym first ∙ seqs ∙ second, rises j k lt k_lt)

  sends_here : (k m : ℕ) → Sends rest k m → (k < length kept) × Sends events (place_at kept k) m
  sends_here k m sends =
      let within : k < length kept = omega (arith, sends.exists, size) in
      (within, record { exists = listed_exists k within; kind = sym (ap (λ (x : LogEvent). x.kind) (event_there k within)) ∙ sends.kind })

  receives_here : (k m : ℕ) → Receives rest k m → (k < length kept) × Receives events (place_at kept k) m
  receives_here k m receives =
      let within : k < length kept = omega (arith, receives.exists, size) in
      (within, record { exists = listed_exists k within; kind = sym (ap (λ (x : LogEvent). x.kind) (event_there k within)) ∙ receives.kind })

  needed_here : (j g : ℕ) → Needs rest j g → (j < length kept) × (g < length kept) × Needs events (place_at kept j) (place_at kept g)
  needed_here j g (inl earlier) =
      let j_lt : j < length kept = omega (arith, earlier.exists, size) in
      let g_lt : g < length kept = omega (arith, earlier.first_exists, size) in (
        j_lt,
        g_lt,
        inl (record {
          before = stands_here g j g_lt j_lt earlier.before;
          first_exists = listed_exists g g_lt;
          exists = listed_exists j j_lt;
          same_node =
              sym (ap (λ (x : LogEvent). x.node.0) (event_there g g_lt)) ∙ earlier.same_node ∙ ap (λ (x : LogEvent). x.node.0) (event_there j j_lt);
        }),
      )
  needed_here j g (inr (m, sends, receives)) =
      let first = sends_here g m sends in
      let second = receives_here j m receives in
      (second.0, first.0, inr (m, first.1, second.1))

  carried : CarriesOrders events rest to (place_at kept) (Contains kept)
  carried = record {
    exists = λ f inside. omega (arith, (index_of f inside).0, size);
    returns = λ f inside. (index_of f inside).1;
    needed = λ f g inside needs.
        let here = needed_here (to f) g needs in
        (subst (λ (x : ℕ). Needs events x (place_at kept g)) (index_of f inside).1 here.2, index_of_listed g here.1);
  }

  -- the events that are kept have a causal order
  pub kept_order : IsCausalOrder rest (map to order)
  kept_order = record {
    causal = prefix_carried events rest to (place_at kept) (Contains kept) carried order (λ e inside. (are e).1 inside) greatest.causal;
    all = λ k lt.
        let within : k < length kept = omega (arith, lt, size) in
        subst (Contains (map to order)) (index_of_listed k within)
        (contained_by_map to order (place_at kept k) ((are (place_at kept k)).0 (listed k within)));
  }

  -- and their messages are sound
  module _ (sound : AreMessagesSound events) where
    sent_again : (e : ℕ) → ¬ SendsAgain rest e
    sent_again e (d, m, both) =
        let first = sends_here d m both.first in
        let second = sends_here e m both.second in
        sound.once (place_at kept e) (
          place_at kept d,
          m,
          record { earlier = rises d e both.earlier second.0; first = first.1; second = second.1 },
        )

    received_unsent : (f : ℕ) → ¬ ReceivesUnsent rest f
    received_unsent f (m, receives, none) =
        let here = receives_here f m receives in
        sound.sent (place_at kept f) (
          m,
          here.1,
          λ e sends. (let inside = (are e).1 (needed_inside events order greatest.causal e (place_at kept f)
              ((are (place_at kept f)).0 (listed f here.0)) (inr (m, sends, here.1))) in
              let at = index_of e inside in
              none (to e) (record {
                exists = omega (arith, at.0, size);
                kind = ap (λ (x : LogEvent). x.kind) (event_there (to e) at.0 ∙ ap (event_at events) at.1) ∙ sends.kind;
              })),
        )

    pub kept_sound : AreMessagesSound rest
    kept_sound = record { once = sent_again; sent = received_unsent }

-- exactly the places of these events have a mark
abbrev pub AreMarks : List EventId → List Bool → Type 0
AreMarks ids marks = (e : ℕ) → is_marked marks true e ≡ true ↔ Contains (places_of ids) e

pub no_marks : (n : ℕ) → AreMarks [] (replicate n false)
no_marks n e = (
  λ is. elim (cases_lt e n) [
    | inl lt ↦ let bad : false ≡ true = sym (get_or-replicate n e false false lt) ∙ is in absurd cc
    | inr past ↦
        let bad : false ≡ true = sym (get_or_past (replicate n false) e false (omega (arith, past, length-replicate n false))) ∙ is in
        absurd cc
  ],
  λ inside. absurd (omega (arith, inside.1)),
)

-- one mark more
pub one_more_mark : (ids : List EventId) (k : ℕ) (none : EventId) (marks : List Bool) → k < length ids → (get_or ids k none).0 < length marks
    → AreMarks (take k ids) marks → AreMarks (take (k + 1) ids) (set marks (get_or ids k none).0 true)
one_more_mark ids k none marks lt within are e =
    let place = (get_or ids k none).0 in
    let more : places_of (take (k + 1) ids) ≡ places_of (take k ids) ++ place ∷ [] = map_more (λ (id : EventId). id.0) ids k none lt in (
      λ is. subst (λ (places : List ℕ). Contains places e) (sym more) (elim (cases_eq e place) [
        | inl here ↦ subst (Contains (places_of (take k ids) ++ place ∷ [])) (sym here) (Contains-push (places_of (take k ids)) place)
        | inr differ ↦
            Contains-append_left (places_of (take k ids)) (place ∷ []) e ((are e).0 (sym (get_or-set_other marks place e true false differ) ∙ is))
      ]),
      λ inside. elim (cases_eq e place) [
        | inl here ↦ ap (λ (x : ℕ). slice_index_or (set marks place true) x false) here ∙ get_or-set_same marks place true false within
        | inr differ ↦
            elim (Contains-push_cases (places_of (take k ids)) place e (subst (λ (places : List ℕ). Contains places e) more inside)) [
              | inl before ↦ get_or-set_other marks place e true false differ ∙ (are e).1 before
              | inr new ↦ absurd (differ (sym new))
            ]
      ],
    )

-- a mark is there, or isn't
marked_or_not : (mark : Bool) → (mark ≡ true) ⊎ (mark ≡ false)
marked_or_not true = inl refl
marked_or_not false = inr refl

opposite : (mark : Bool) → mark ≡ false → not mark ≡ true
opposite mark is = ap not is

unmarked : (mark : Bool) → not mark ≡ true → mark ≡ false
unmarked true is = absurd cc
unmarked false is = refl

module _ (events : List LogEvent) (order : List ℕ) (marks : List Bool) (greatest : IsGreatestPrefix events order)
    (are : (e : ℕ) → is_marked marks true e ≡ true ↔ Contains order e) where
  abbrev pub with_mark : Bool → List ℕ
  with_mark mark = filter (is_marked marks mark) (places_below (length events))

  not_waiting : (e : ℕ) → Contains order e → ¬ Waits events e
  not_waiting e inside waits = waits.never order greatest.causal inside

  unmarked_waits : (e : ℕ) → e < length events → slice_index_or marks e false ≡ false → Waits events e
  unmarked_waits e lt none = greatest.others e lt (λ inside. let bad : true ≡ false = sym ((are e).1 inside) ∙ none in absurd cc)

  pub marked_are_kept : AreThoseWith (length events) (λ e. ¬ Waits events e) (with_mark true)
  marked_are_kept = record {
    rise = passing_places_rise (is_marked marks true) (length events);
    exactly = λ e. (
      λ inside. (let here = passing_from_contains (is_marked marks true) (length events) e inside in (here.0, not_waiting e ((are e).0 here.1))),
      λ has. contains_passing (is_marked marks true) (length events) e has.0 (elim (marked_or_not (slice_index_or marks e false)) [
        | inl marked ↦ marked
        | inr none ↦ absurd (has.1 (unmarked_waits e has.0 none))
      ]),
    );
  }

  pub unmarked_are_left : AreThoseWith (length events) (Waits events) (with_mark false)
  unmarked_are_left = record {
    rise = passing_places_rise (is_marked marks false) (length events);
    exactly = λ e. (
      λ inside. (let here = passing_from_contains (is_marked marks false) (length events) e inside in
          (here.0, unmarked_waits e here.0 (unmarked (slice_index_or marks e false) here.1))),
      λ has. contains_passing (is_marked marks false) (length events) e has.0 (elim (marked_or_not (slice_index_or marks e false)) [
        | inl marked ↦ absurd (not_waiting e ((are e).0 marked) has.1)
        | inr none ↦ opposite (slice_index_or marks e false) none
      ]),
    );
  }

  pub kept_is_ordered : (e : ℕ) → Contains (with_mark true) e ↔ Contains order e
  kept_is_ordered e = (
    λ inside. (are e).0 (passing_from_contains (is_marked marks true) (length events) e inside).1,
    λ inside. contains_passing (is_marked marks true) (length events) e (contained_exists events order greatest.causal e inside) ((are e).1 inside),
  )

  marked_order : IsCausalOrder (arranged events (with_mark true)) (map (index_in (with_mark true)) order)
  marked_order = kept_order events order (with_mark true) greatest (passing_places_rise (is_marked marks true) (length events)) kept_is_ordered

  marked_sound : AreMessagesSound events → AreMessagesSound (arranged events (with_mark true))
  marked_sound = kept_sound events order (with_mark true) greatest (passing_places_rise (is_marked marks true) (length events)) kept_is_ordered

  -- a fault of what is kept is none
  pub only_memory_left : (rest : List LogEvent) → rest ≡ arranged events (with_mark true) → AreMessagesSound events → (fault : OrderFault)
      → IsFaultOf rest fault → fault ≡ Memory
  only_memory_left left is sound fault is_fault =
      only_memory (arranged events (with_mark true)) (map (index_in (with_mark true)) order) (marked_sound sound) marked_order fault
      (subst (λ (es : List LogEvent). IsFaultOf es fault) is is_fault)

  pub few_marked : length (with_mark true) ≤ length events
  few_marked =
      let both = length-filter_both (is_marked marks true) (is_marked marks false) (λ e. refl) (places_below (length events)) in
      omega (arith, both, length-places_below (length events))

-- Events as slots hold them, with what is told of them aside.
use Rattle.std.proofs.Common.{◌≡◌, ◌∙◌, Bool, true, false, ℕ, zero, suc, ◌+◌, ◌-◌, ◌<◌, ◌≤◌, ◌==◌, inl, inr, List, [], ◌∷◌, ◌++◌, length, length-append, Option, Some, None, arith, refl, replicate, set, sym, ap}
use Rattle.std.specs.Prelude.{is_some, not, slice_index_or}
use Rattle.std.proofs.lemmas.Bool.{cases_lt, eqb-true, not-false}
use Rattle.std.proofs.lemmas.List.{append_assoc, get_or-append_right, get_or-replicate, get_or_append_left, get_or_past, get_or_push, length-replicate}
use Rattle.hlc_stamp.specs.Order.{Pair}
use Rattle.hlc_log.specs.declared.asides.Aside.{Aside}
use Rattle.hlc_log.specs.declared.asides.Asides.{Asides}
use Rattle.hlc_log.specs.declared.log_event.LogEvent.{LogEvent}
use Rattle.hlc_log.specs.declared.slot.Slot.{Slot}
use Rattle.hlc_log.specs.Events.{event_at, no_event}
use Rattle.hlc_log.specs.Slots.{aside_at, carried_at, kept_seq_at, put_told, stored_event, stored_events, stored_from, with_carried, with_seq}
use Rattle.hlc_log.specs.Standing.{seq_at}

module _ (asides : Asides) where
  from_size : (place : ℕ) (slots : List Slot) → length (stored_from asides place slots) ≡ length slots
  from_size place [] = refl
  from_size place (slot ∷ slots) = ap suc (from_size (place + 1) slots)

  -- an event is its slot's, with what is kept of it
  from_at : (place : ℕ) (slots : List Slot) (e at : ℕ) (none : Slot) → e < length slots → at ≡ place + e
      → event_at (stored_from asides place slots) e ≡ stored_event (aside_at asides at) (slice_index_or slots e none)
  from_at place [] e at none lt is = absurd (omega (arith, lt))
  from_at place (slot ∷ slots) zero at none lt is =
      let same : place ≡ at = omega (arith, is) in ap (λ (n : ℕ). stored_event (aside_at asides n) slot) same
  from_at place (slot ∷ slots) (suc e) at none lt is = from_at (place + 1) slots e at none (omega (arith, lt)) (omega (arith, is))

  from_push : (place : ℕ) (slots : List Slot) (slot : Slot) (at : ℕ) → at ≡ place + length slots
      → stored_from asides place (slots ++ slot ∷ []) ≡ stored_from asides place slots ++ stored_event (aside_at asides at) slot ∷ []
  from_push place [] slot at is =
      let same : place ≡ at = omega (arith, is) in ap (λ (n : ℕ). stored_event (aside_at asides n) slot ∷ []) same
  from_push place (other ∷ slots) slot at is =
      ap (λ (events : List LogEvent). stored_event (aside_at asides place) other ∷ events) (from_push (place + 1) slots slot at (omega (arith, is)))

  from_set : (place : ℕ) (slots : List Slot) (k at : ℕ) (slot : Slot) → at ≡ place + k
      → stored_from asides place (set slots k slot) ≡ set (stored_from asides place slots) k (stored_event (aside_at asides at) slot)
  from_set place [] k at slot is = refl
  from_set place (other ∷ slots) zero at slot is =
      let same : place ≡ at = omega (arith, is) in
      ap (λ (n : ℕ). stored_event (aside_at asides n) slot ∷ stored_from asides (place + 1) slots) same
  from_set place (other ∷ slots) (suc k) at slot is =
      ap (λ (events : List LogEvent). stored_event (aside_at asides place) other ∷ events) (from_set (place + 1) slots k at slot (omega (arith, is)))

  pub stored_size : (slots : List Slot) → length (stored_events asides slots) ≡ length slots
  stored_size slots = from_size 0 slots

  pub stored_at : (slots : List Slot) (e : ℕ) (none : Slot) → e < length slots
      → event_at (stored_events asides slots) e ≡ stored_event (aside_at asides e) (slice_index_or slots e none)
  stored_at slots e none lt = from_at 0 slots e e none lt (omega arith)

  -- so what is told of it aside is what is kept
  pub aside_kept : {X : Type 0} (told : LogEvent → X) (kept : Aside → X) → ((aside : Aside) (slot : Slot) → told (stored_event aside slot) ≡ kept aside)
      → (slots : List Slot) (e : ℕ) → e < length slots → kept (aside_at asides e) ≡ told (event_at (stored_events asides slots) e)
  aside_kept told kept is [] e lt = absurd (omega (arith, lt))
  aside_kept told kept is (slot ∷ slots) e lt =
      sym (ap told (stored_at (slot ∷ slots) e slot lt) ∙ is (aside_at asides e) (slice_index_or (slot ∷ slots) e slot))

  pub stored_push : (slots : List Slot) (slot : Slot)
      → stored_events asides (slots ++ slot ∷ []) ≡ stored_events asides slots ++ stored_event (aside_at asides (length slots)) slot ∷ []
  stored_push slots slot = from_push 0 slots slot (length slots) (omega arith)

  pub stored_set : (slots : List Slot) (place : ℕ) (slot : Slot)
      → stored_events asides (set slots place slot) ≡ set (stored_events asides slots) place (stored_event (aside_at asides place) slot)
  stored_set slots place slot = from_set 0 slots place place slot (omega arith)

  -- where nothing is kept, nothing is told
  pub none_carried : asides.carried.items ≡ [] → (slots : List Slot) (e : ℕ) → (event_at (stored_events asides slots) e).carried ≡ None
  none_carried none slots e = elim (cases_lt e (length slots)) [
    | inl lt ↦
        sym (aside_kept (λ event. event.carried) (λ aside. aside.carried) (λ aside slot. refl) slots e lt)
        ∙ ap (λ (kept : List (Option Pair)). carried_at kept e) none
    | inr past ↦ ap (λ (event : LogEvent). event.carried) (get_or_past (stored_events asides slots) e no_event (omega (arith, past, stored_size slots)))
  ]

  pub none_has_seq : asides.seqs.items ≡ [] → (slots : List Slot) (e : ℕ) → seq_at (stored_events asides slots) e ≡ 0
  none_has_seq none slots e = elim (cases_lt e (length slots)) [
    | inl lt ↦
        sym (aside_kept (λ event. event.seq) (λ aside. aside.seq) (λ aside slot. refl) slots e lt)
        ∙ ap (λ (kept : List ℕ). kept_seq_at kept e) none
    | inr past ↦ ap (λ (event : LogEvent). event.seq) (get_or_past (stored_events asides slots) e no_event (omega (arith, past, stored_size slots)))
  ]

-- only what is kept at the places of events matters
same_from : (asides others : Asides) (place : ℕ) (slots : List Slot)
    → ((e : ℕ) → e < place + length slots → aside_at asides e ≡ aside_at others e) → stored_from asides place slots ≡ stored_from others place slots
same_from asides others place [] same = refl
same_from asides others place (slot ∷ slots) same =
    ap (λ (aside : Aside). stored_event aside slot ∷ stored_from asides (place + 1) slots) (same place (omega arith))
    ∙ ap (λ (events : List LogEvent). stored_event (aside_at others place) slot ∷ events)
    (same_from asides others (place + 1) slots (λ e lt. same e (omega (arith, lt))))

pub same_stored : (asides others : Asides) (slots : List Slot) → ((e : ℕ) → e < length slots → aside_at asides e ≡ aside_at others e)
    → stored_events asides slots ≡ stored_events others slots
same_stored asides others slots same = same_from asides others 0 slots (λ e lt. same e (omega (arith, lt)))

-- what one more item changes nothing before it
module _ {A : Type 0} (nothing : A) (items : List A) (place : ℕ) (none : length items ≤ place) where
  abbrev before : List A
  before = items ++ replicate (place - length items) nothing

  put_is : (item : A) → put_told true nothing items place item ≡ before ++ item ∷ []
  put_is item = sym (append_assoc items (replicate (place - length items) nothing) (item ∷ []))

  before_size : length before ≡ place
  before_size =
      let without = place - length items in
      omega (arith, none, length-replicate {A = A} without nothing, length-append items (replicate without nothing))

  none_among : (k : ℕ) → length items ≤ k → k < place → slice_index_or before k nothing ≡ nothing
  none_among k past lt =
      get_or-append_right items (replicate (place - length items) nothing) (length items) k nothing refl past
      ∙ get_or-replicate {A = A} (place - length items) (k - length items) nothing nothing (omega (arith, past, lt))

  pub put_given : (is_told : Bool) (item : A) → (is_told ≡ false → item ≡ nothing)
      → slice_index_or (put_told is_told nothing items place item) place nothing ≡ item
  put_given false item blank = get_or_past items place nothing none ∙ sym (blank refl)
  put_given true item blank =
      ap (λ (kept : List A). slice_index_or kept place nothing) (put_is item) ∙ get_or_push before item nothing place before_size

  pub put_before : (is_told : Bool) (item : A) (k : ℕ) → k < place
      → slice_index_or (put_told is_told nothing items place item) k nothing ≡ slice_index_or items k nothing
  put_before false item k lt = refl
  put_before true item k lt =
      let first = ap (λ (kept : List A). slice_index_or kept k nothing) (put_is item)
      ∙ get_or_append_left before (item ∷ []) nothing k (omega (arith, before_size, lt)) in
      elim (cases_lt k (length items)) [
        | inr past ↦ first ∙ none_among k past lt ∙ sym (get_or_past items k nothing past)
        | inl here ↦ first ∙ get_or_append_left items (replicate (place - length items) nothing) nothing k here
      ]

  pub put_size : (is_told : Bool) (item : A) → length (put_told is_told nothing items place item) ≤ place + 1
  put_size false item = omega (arith, none)
  put_size true item =
      omega (arith, before_size, ap (λ (kept : List A). length kept) (put_is item), length-append before (item ∷ []))

untold_is_none : (stamp : Option Pair) → is_some stamp ≡ false → stamp ≡ None
untold_is_none None is = refl
untold_is_none (Some stamp) is = absurd cc

zero_untold : (seq : ℕ) → not (seq == 0) ≡ false → seq ≡ 0
zero_untold seq is = eqb-true seq 0 (not-false (seq == 0) is)

same_aside : (a b : Aside) → a.carried ≡ b.carried → a.seq ≡ b.seq → a ≡ b
same_aside a b carried seq = λ i. record { carried = carried i; seq = seq i }

-- one more event with what is told of it
pub stored_with : (asides others : Asides) (slots : List Slot) (slot : Slot) (aside : Aside)
    → length asides.carried.items ≤ length slots → length asides.seqs.items ≤ length slots
    → others.carried.items ≡ with_carried asides.carried.items (length slots) aside.carried
    → others.seqs.items ≡ with_seq asides.seqs.items (length slots) aside.seq
    → stored_events others (slots ++ slot ∷ []) ≡ stored_events asides slots ++ stored_event aside slot ∷ []
stored_with asides others slots slot aside few_carried few_seqs carried seqs =
    let n = length slots in
    let kept = asides.carried.items in
    let old = asides.seqs.items in
    let before : (k : ℕ) → k < n → aside_at others k ≡ aside_at asides k = λ k lt.
    same_aside (aside_at others k) (aside_at asides k)
    (ap (λ (xs : List (Option Pair)). carried_at xs k) carried ∙ put_before None kept n few_carried (is_some aside.carried) aside.carried k lt)
    (ap (λ (xs : List ℕ). kept_seq_at xs k) seqs ∙ put_before 0 old n few_seqs (not (aside.seq == 0)) aside.seq k lt) in
    let given : aside_at others n ≡ aside =
    same_aside (aside_at others n) aside
    (ap (λ (xs : List (Option Pair)). carried_at xs n) carried
    ∙ put_given None kept n few_carried (is_some aside.carried) aside.carried (untold_is_none aside.carried))
    (ap (λ (xs : List ℕ). kept_seq_at xs n) seqs ∙ put_given 0 old n few_seqs (not (aside.seq == 0)) aside.seq (zero_untold aside.seq)) in
    stored_push others slots slot
    ∙ ap (λ (events : List LogEvent). events ++ stored_event (aside_at others n) slot ∷ []) (same_stored others asides slots before)
    ∙ ap (λ (a : Aside). stored_events asides slots ++ stored_event a slot ∷ []) given

-- The events of lines.
use Rattle.std.proofs.Common.{◌≡◌, ◌∙◌, Bool, true, ℕ, ◌+◌, ◌==◌, ◌<◌, ◌≤◌, inl, inr, List, length, get_or, Option, Some, None, arith, refl, sym, ap}
use Rattle.std.specs.Prelude.{position}
use Rattle.std.proofs.lemmas.Bool.{cases_lt, cases_order, eq-eqb, eqb-true, ne_eqb}
use Rattle.std.proofs.lemmas.List.Quantifiers.{position-Some}
use Rattle.hlc_log.specs.CausalOrder.{place_at}
use Rattle.hlc_log.specs.Events.{event_at, no_event}
use Rattle.hlc_log.specs.declared.log_event.LogEvent.{LogEvent}
use Rattle.hlc_log.proofs.OrderSkeletons.{place_exists, position_is, same_position}
use Rattle.hlc_ordered_log.specs.InOrder.{IsInOrder, LogInOrder}
use Rattle.hlc_ordered_log.proofs.Ordering.{order_len}
use Rattle.hlc_log_text.specs.ReadText.{LinesRise}
use Rattle.hlc_log_audit.specs.Lines.{HasNumbers, IsOnLine, position_on}

module _ (events : List LogEvent) (rise : LinesRise events) where
  pub line_rises : (d e : ℕ) → d < e → e < length events → (event_at events d).line < (event_at events e).line
  line_rises d e lt exists = rise d e no_event lt exists

  pub one_on_line : (line d e : ℕ) → IsOnLine events line d → IsOnLine events line e → d ≡ e
  one_on_line line d e at at' = elim (cases_order d e) [
    | inl same ↦ same
    | inr differ ↦
        let here = at.on_line in
        let there = at'.on_line in
        elim differ [
          | inl lt ↦ let rises = line_rises d e lt at'.exists in absurd (omega arith)
          | inr gt ↦ let rises = line_rises e d gt at.exists in absurd (omega arith)
        ]
  ]

-- if no element passes, none is found
none_found : {X : Type 0} (p : X → Bool) (xs : List X) (d : X) (o : Option ℕ) → position p xs ≡ o
    → ((k : ℕ) → k < length xs → ¬ (p (get_or xs k d) ≡ true)) → position p xs ≡ None
none_found p xs d None is none = is
none_found p xs d (Some k) is none = let found = position-Some p xs k d is in absurd (none k found.0 found.1)

module _ (log : LogInOrder) (ordered : IsInOrder log) (line : ℕ) where
  abbrev is_here : ℕ → Bool
  is_here e = (event_at log.events e).line == line

  pub on_line : (k : ℕ) → k < length log.order → is_here (place_at log.order k) ≡ true → IsOnLine log.events line (place_at log.order k)
  on_line k lt passes = record {
    exists = place_exists log.events log.order ordered.causal k lt;
    on_line = eqb-true (event_at log.events (place_at log.order k)).line line passes;
  }

  pub position_of_none : ((e : ℕ) → ¬ IsOnLine log.events line e) → position_on log line ≡ None
  position_of_none none =
      none_found is_here log.order 0 (position_on log line) refl (λ k lt passes. none (place_at log.order k) (on_line k lt passes))

  pub position_of_found : (place k : ℕ) → LinesRise log.events → IsOnLine log.events line place → HasNumbers log place k
      → position_on log line ≡ Some k
  position_of_found place k rise at numbers =
      let size = order_len log.events log.order ordered.causal in
      let here = numbers.exists in
      let within : k < length log.order = omega arith in
      position_is is_here log.order 0 k within
      (ap is_here numbers.at_place ∙ eq-eqb (event_at log.events place).line line at.on_line)
      (λ j lt. ne_eqb (event_at log.events (place_at log.order j)).line line (λ same.
      let lt' : j < length log.order = omega arith in
      let there : IsOnLine log.events line (place_at log.order j) =
      record { exists = place_exists log.events log.order ordered.causal j lt'; on_line = same } in
      let one = one_on_line log.events rise line (place_at log.order j) place there at in
      let is : j ≡ k = same_position log.events log.order ordered.causal j k lt' within (one ∙ sym numbers.at_place) in
      omega arith))

module _ (events : List LogEvent) (rise : LinesRise events) (line : ℕ) where
  -- no event up to one on an earlier line is on the line, and none from one on a later line on
  pub all_before : (m : ℕ) → m < length events → (event_at events m).line < line → (e : ℕ) → e < m + 1 → (event_at events e).line < line
  all_before m exists lt e within = elim (cases_order e m) [
    | inl same ↦ let here = ap (λ (k : ℕ). (event_at events k).line) same in omega arith
    | inr differ ↦ elim differ [
      | inl earlier ↦ let rises = line_rises events rise e m earlier exists in omega arith
      | inr later ↦ absurd (omega arith)
    ]
  ]

  pub all_after : (m : ℕ) → line < (event_at events m).line → (e : ℕ) → m ≤ e → e < length events → line < (event_at events e).line
  all_after m lt e from exists = elim (cases_order e m) [
    | inl same ↦ let here = ap (λ (k : ℕ). (event_at events k).line) same in omega arith
    | inr differ ↦ elim differ [
      | inl earlier ↦ absurd (omega arith)
      | inr later ↦ let rises = line_rises events rise m e later exists in omega arith
    ]
  ]

-- if the events before a place are on earlier lines and those from it on are on later ones, none is on the line
pub none_on_line : (events : List LogEvent) (line low : ℕ) → ((e : ℕ) → e < low → (event_at events e).line < line)
    → ((e : ℕ) → low ≤ e → e < length events → line < (event_at events e).line) → (e : ℕ) → ¬ IsOnLine events line e
none_on_line events line low before after e at =
    let here = at.on_line in
    elim (cases_lt e low) [
      | inl lt ↦ let less = before e lt in omega arith
      | inr from ↦ let more = after e from at.exists in omega arith
    ]

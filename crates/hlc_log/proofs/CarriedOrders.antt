-- Orders of events of one log that a map carries into another.
use Rattle.std.proofs.Common.{◌≡◌, ℕ, ◌<◌, ◌≤◌, List, length, map, take, arith, subst, sym, ap, ◌∙◌}
use Rattle.std.specs.Prelude.{Contains}
use Rattle.std.proofs.lemmas.List.{get_or-map, get_or_default, length-map, take-map}
use Rattle.hlc_log.specs.declared.log_event.LogEvent.{LogEvent}
use Rattle.hlc_log.specs.CausalOrder.{IsCausalPrefix, MayComeNext, Needs, place_at}
use Rattle.hlc_log.proofs.CausalOrders.{place_of_contained}

-- what stands in a list that a map made
pub contained_in_map : (to : ℕ → ℕ) (xs : List ℕ) (x : ℕ) → Contains (map to xs) x → (y : ℕ) × Contains xs y × (to y ≡ x)
contained_in_map to xs x (i, lt, is) =
    let size = length-map xs to in
    let within : i < length xs = omega arith in
    let y = place_at xs i in
    (y, (i, within, get_or_default xs i y 0 within), sym (get_or-map to xs i 0 x within) ∙ is)

pub contained_by_map : (to : ℕ → ℕ) (xs : List ℕ) (y : ℕ) → Contains xs y → Contains (map to xs) (to y)
contained_by_map to xs y (i, lt, is) =
    let size = length-map xs to in (i, omega arith, get_or-map to xs i y (to y) lt ∙ ap to is)

-- a map takes the events that it is of to events of another log, and back; these need only such events
pub record CarriesOrders (events others : List LogEvent) (to back : ℕ → ℕ) (IsCarried : ℕ → Type 0) : Type 0 where
  pub exists : (f : ℕ) → IsCarried f → to f < length others
  pub returns : (f : ℕ) → IsCarried f → back (to f) ≡ f
  pub needed : (f g : ℕ) → IsCarried f → Needs others (to f) g → Needs events f (back g) × (to (back g) ≡ g)

module _ (events others : List LogEvent) (to back : ℕ → ℕ) (IsCarried : ℕ → Type 0) (h : CarriesOrders events others to back IsCarried) where
  may_come_next : (before : List ℕ) (f : ℕ) → ((e : ℕ) → Contains before e → IsCarried e) → IsCarried f → MayComeNext events before f
      → MayComeNext others (map to before) (to f)
  may_come_next before f carried is next = record {
    exists = h.exists f is;
    new = λ inside.
        let found = contained_in_map to before (to f) inside in
        let same : found.0 ≡ f = sym (h.returns found.0 (carried found.0 found.1)) ∙ ap back found.2 ∙ h.returns f is in
        next.new (subst (Contains before) same found.1);
    needed = λ g needs.
        let here = h.needed f g is needs in
        subst (Contains (map to before)) here.1 (contained_by_map to before (back g) (next.needed (back g) here.0));
  }

  pub prefix_carried : (order : List ℕ) → ((e : ℕ) → Contains order e → IsCarried e) → IsCausalPrefix events order → IsCausalPrefix others (map to order)
  prefix_carried order carried causal k lt =
      let size = length-map order to in
      let within : k < length order = omega arith in
      let before = λ (e : ℕ) (inside : Contains (take k order) e).
      let at = place_of_contained events order k e (omega arith) inside in
      carried e (at.0, omega (arith, at.1), get_or_default order at.0 e 0 (omega (arith, at.1)) ∙ at.2) in
      let here = carried (place_at order k) (k, within, get_or_default order k (place_at order k) 0 within) in
      let next = may_come_next (take k order) (place_at order k) before here (causal k within) in
      subst (λ (xs : List ℕ). MayComeNext others xs (place_at (map to order) k)) (sym (take-map to k order))
      (subst (MayComeNext others (map to (take k order))) (sym (get_or-map to order k 0 0 within)) next)

-- The functions of chains by floors and ticks agree with the relations.
use Rattle.std.proofs.Common.{◌≡◌, ◌≢◌, ◌∙◌, ℕ, zero, suc, ◌==◌, ◌&&◌, ◌<◌, ◌≤◌, inl, inr, true, false, List, [], ◌∷◌, ◌++◌, length, Option, Some, None, arith, refl, subst, sym, ap}
use Rattle.std.specs.Prelude.{IsTrue, option_map, unwrap_or}
use Rattle.std.proofs.lemmas.Bool.{and_from, and_parts, cases_Bool, cases_eq, or_cases, or_left, or_right}
use Rattle.std.proofs.lemmas.Bool.Decides.{nat_tests}
use Rattle.hlc_stamp.specs.Order.{Pair}
use Rattle.hlc_causality.specs.Assignment.{pair_at}
use Rattle.hlc_causality.specs.Causality.{IsPrevious, IsSendOf}
use Rattle.hlc_causality.specs.ClockChain.{IsClockChainOf, IsClockForcing, IsClockOrigin, IsNext, NoPreviousNext}
use Rattle.hlc_causality.specs.ClockEvents.{ClockEvent, ClockEvents, clock_event_at, clock_skeleton}
use Rattle.hlc_causality.specs.FollowedClockChains.{clock_chain_of, clock_followed_back, clock_forcing_among, clock_forcing_of, is_by_itself, is_same_pair, next_or_send}
use Rattle.hlc_causality.specs.LeastFeasible.{next_pair}
use Rattle.hlc_causality.specs.Predecessors.{previous_of, send_of}
use Rattle.hlc_causality.proofs.ClockChains.{clock_chain_of_is_unique, clock_chain_of_push}
use Rattle.hlc_causality.proofs.ClockEvents.{skeleton_size}
use Rattle.hlc_causality.proofs.ClockForcing.{clock_forcing_is_earlier}
use Rattle.hlc_causality.proofs.Pairs.{same_parts}
use Rattle.hlc_causality.proofs.Predecessors.{previous_is_unique}
use Rattle.hlc_causality.proofs.PredecessorsFound.{Finds, previous_found, send_found}

pub same_pair_from : (p q : Pair) → is_same_pair p q ≡ true → p ≡ q
same_pair_from p q test =
    let parts = and_parts (p.l == q.l) (p.c == q.c) test in
    let l : p.l ≡ q.l = grind (arith, nat_tests, parts.0) in
    let c : p.c ≡ q.c = grind (arith, nat_tests, parts.1) in
    same_parts p q l c

pub same_pair_tested : (p q : Pair) → p ≡ q → is_same_pair p q ≡ true
same_pair_tested p q same =
    let l : p.l ≡ q.l = ap (λ (x : Pair). x.l) same in
    let c : p.c ≡ q.c = ap (λ (x : Pair). x.c) same in
    and_from (p.l == q.l) (p.c == q.c) (grind (arith, nat_tests, l)) (grind (arith, nat_tests, c))

-- what is found is the forcing event
module _ (t : ClockEvents) (pairs : List Pair) (f : ℕ) where
  abbrev here : ClockEvent
  here = clock_event_at t f

  abbrev pair : Pair
  pair = pair_at pairs f

  off_floor : is_by_itself here pair ≡ false → pair ≢ here.floor
  off_floor raised same =
      let yes = or_left (is_same_pair pair here.floor) (here.ticks && (pair.c == 0)) (same_pair_tested pair here.floor same) in
      let both : true ≡ false = sym yes ∙ raised in
      cc

  above_zero : is_by_itself here pair ≡ false → IsTrue here.ticks → 0 < pair.c
  above_zero raised ticks = elim (cases_eq pair.c 0) [
    | inr ne ↦ omega arith
    | inl least ↦
        let test : (pair.c == 0) ≡ true = grind (arith, nat_tests, least) in
        let yes = or_right (is_same_pair pair here.floor) (here.ticks && (pair.c == 0)) (and_from here.ticks (pair.c == 0) ticks test) in
        let both : true ≡ false = sym yes ∙ raised in
        absurd cc
  ]

  by_itself : is_by_itself here pair ≡ true → IsClockOrigin t pairs f
  by_itself test d h = elim (or_cases (is_same_pair pair here.floor) (here.ticks && (pair.c == 0)) test) [
    | inl same ↦ h.off_floor (same_pair_from pair here.floor same)
    | inr least ↦
        let parts = and_parts here.ticks (pair.c == 0) least in
        let high : 0 < pair.c = h.above_zero parts.0 in
        let low : pair.c ≡ 0 = grind (arith, nat_tests, parts.1) in
        omega arith
  ]

  abbrev FindsForcing : Option ℕ → Type 0
  FindsForcing found = Finds (λ d. IsClockForcing t pairs d f) found

  by_send : (send : Option ℕ) → is_by_itself here pair ≡ false → NoPreviousNext t pairs f
      → Finds (λ d. IsSendOf (clock_skeleton t) d f) send → FindsForcing send
  by_send None raised none unsent = λ d h. elim h.event [ inl found ↦ none d found | inr sent ↦ unsent d sent.1 ]
  by_send (Some d) raised none send = record { off_floor = off_floor raised; above_zero = above_zero raised; event = inr (none, send) }

  by_previous : (previous send : Option ℕ) → is_by_itself here pair ≡ false
      → Finds (λ d. IsPrevious (clock_skeleton t) d f) previous → Finds (λ d. IsSendOf (clock_skeleton t) d f) send
      → FindsForcing (next_or_send t pairs f previous send)
  by_previous None send raised first found = by_send send raised (λ d h. first d h.previous) found
  by_previous (Some d) send raised previous found =
      let next = next_pair here.ticks (pair_at pairs d) in
      elim (cases_Bool (is_same_pair next pair)) [
        | inl test ↦ rw test (record {
          off_floor = off_floor raised;
          above_zero = above_zero raised;
          event = inl (record { previous = previous; next = same_pair_from next pair test });
        })
        | inr test ↦
            let none : NoPreviousNext t pairs f = λ m h.
            let same : m ≡ d = previous_is_unique (clock_skeleton t) m d f h.previous previous in
            let is : next ≡ pair = subst (λ x. IsNext t pairs x f) same h.next in
            let both : true ≡ false = sym (same_pair_tested next pair is) ∙ test in
            cc in
            rw test (by_send send raised none found)
      ]

  pub clock_forcing_found_among : (previous send : Option ℕ)
      → Finds (λ d. IsPrevious (clock_skeleton t) d f) previous → Finds (λ d. IsSendOf (clock_skeleton t) d f) send
      → Finds (λ d. IsClockForcing t pairs d f) (clock_forcing_among t pairs f previous send)
  clock_forcing_found_among previous send found_previous found_send = elim (cases_Bool (is_by_itself here pair)) [
    | inl test ↦ rw test (by_itself test)
    | inr test ↦ rw test (by_previous previous send test found_previous found_send)
  ]

  pub clock_forcing_found : f < length t → Finds (λ d. IsClockForcing t pairs d f) (clock_forcing_of t pairs f)
  clock_forcing_found exists =
      let s = clock_skeleton t in
      let there : f < length (clock_skeleton t) = omega (arith, exists, skeleton_size t) in
      clock_forcing_found_among (previous_of s f) (send_of s f) (previous_found s f there) (send_found s f there)

followed_in :
    (t : ClockEvents) (pairs : List Pair) (f : ℕ) (before : ℕ → List ℕ) (o : Option ℕ)
    → f < length t → ((d : ℕ) → d < f → IsClockChainOf t pairs d (before d)) →
    Finds (λ d. IsClockForcing t pairs d f) o → IsClockChainOf t pairs f (unwrap_or (option_map (λ d. before d) o) [] ++ f ∷ [])
followed_in t pairs f before None exists earlier found = record { exists = exists; origin = found; forces = refl }
followed_in t pairs f before (Some d) exists earlier found =
    clock_chain_of_push t pairs d f (before d) (earlier d (clock_forcing_is_earlier t pairs d f found)) found

followed : (t : ClockEvents) (pairs : List Pair) (n f : ℕ) → f ≤ n → f < length t → IsClockChainOf t pairs f (clock_followed_back t pairs n f)
followed t pairs zero f le exists = record {
  exists = exists;
  origin = λ d h. let earlier = clock_forcing_is_earlier t pairs d f h in omega arith;
  forces = refl;
}
followed t pairs (suc n) f le exists =
    followed_in t pairs f (clock_followed_back t pairs n) (clock_forcing_of t pairs f) exists
    (λ d lt. followed t pairs n d (omega arith) (omega arith)) (clock_forcing_found t pairs f exists)

-- the chain of an event is the one that is followed back
pub clock_chain_is_followed : (t : ClockEvents) (pairs : List Pair) (f : ℕ) (chain : List ℕ)
    → f < length t → IsClockChainOf t pairs f chain → chain ≡ clock_chain_of t pairs f
clock_chain_is_followed t pairs f chain exists h =
    clock_chain_of_is_unique t pairs f chain (clock_chain_of t pairs f) h (followed t pairs f f (omega arith) exists)

-- The test of a list tells whether it explains a stamp by floors and ticks.
use Rattle.std.proofs.Common.{◌≡◌, ◌↔◌, ◌∙◌, Bool, true, false, ℕ, ◌+◌, ◌==◌, ◌&&◌, ◌<◌, inl, inr, List, [], ◌∷◌, length, arith, sym}
use Rattle.std.specs.Prelude.{nat_lt}
use Rattle.std.proofs.lemmas.Bool.{and_from, and_parts, cases_Bool}
use Rattle.std.proofs.lemmas.Bool.Decides.{nat_tests}
use Rattle.hlc_stamp.specs.Order.{Pair}
use Rattle.hlc_causality.specs.Assignment.{pair_at}
use Rattle.hlc_causality.specs.ClockChain.{IsClockChain, ticks_among}
use Rattle.hlc_causality.specs.ClockEvents.{ClockEvents, clock_event_at, clock_skeleton}
use Rattle.hlc_causality.specs.ClockExplanation.{IsClockExplainedBy}
use Rattle.hlc_causality.specs.FollowedChains.{leads_to}
use Rattle.hlc_causality.specs.FollowedClockChains.{is_clock_chain, is_clock_explained_by}
use Rattle.hlc_causality.proofs.FollowedChains.{leads_from, leads_tested}

chain_from : (t : ClockEvents) (p : Pair) (f : ℕ) (list : List ℕ) → is_clock_chain t p f list ≡ true → IsClockChain t p f list
chain_from t p f [] test = let both : false ≡ true = test in absurd cc
chain_from t p f (e ∷ rest) test =
    let floor = (clock_event_at t e).floor in
    let count = floor.c + ticks_among t rest in
    let leads = leads_to (clock_skeleton t) e rest f in
    let exists = and_parts (nat_lt e (length t)) ((floor.l == p.l) && ((count == p.c) && leads)) test in
    let reads = and_parts (floor.l == p.l) ((count == p.c) && leads) exists.1 in
    let counts = and_parts (count == p.c) leads reads.1 in
    record {
      exists = grind (arith, nat_tests, exists.0);
      floor = grind (arith, nat_tests, reads.0);
      counts = grind (arith, nat_tests, counts.0);
      linked = leads_from (clock_skeleton t) e rest f counts.1;
    }

chain_tested : (t : ClockEvents) (p : Pair) (f : ℕ) (list : List ℕ) → IsClockChain t p f list → is_clock_chain t p f list ≡ true
chain_tested t p f [] h = absurd h
chain_tested t p f (e ∷ rest) h =
    let floor = (clock_event_at t e).floor in
    let count = floor.c + ticks_among t rest in
    let exists : e < length t = h.exists in
    let reads : floor.l ≡ p.l = h.floor in
    let counts : count ≡ p.c = h.counts in
    and_from (nat_lt e (length t)) _ (grind (arith, nat_tests, exists))
    (and_from (floor.l == p.l) _ (grind (arith, nat_tests, reads))
    (and_from (count == p.c) _ (grind (arith, nat_tests, counts)) (leads_tested (clock_skeleton t) e rest f h.linked)))

pub clock_explained_is_tested : (t : ClockEvents) (pairs : List Pair) (e : ℕ) (list : List ℕ)
    → (is_clock_explained_by t pairs e list ≡ true) ↔ IsClockExplainedBy t pairs e list
clock_explained_is_tested t pairs e list = (
  λ test.
      let parts = and_parts (nat_lt e (length t)) (is_clock_chain t (pair_at pairs e) e list) test in
      record { exists = grind (arith, nat_tests, parts.0); chain = chain_from t (pair_at pairs e) e list parts.1 },
  λ h.
      let exists : e < length t = h.exists in
      and_from (nat_lt e (length t)) _ (grind (arith, nat_tests, exists)) (chain_tested t (pair_at pairs e) e list h.chain),
)

-- a test that tells whether a list explains the stamp is this one
pub clock_explained_by_test : (t : ClockEvents) (pairs : List Pair) (e : ℕ) (list : List ℕ) (answer : Bool)
    → ((answer ≡ true) ↔ IsClockExplainedBy t pairs e list) → answer ≡ is_clock_explained_by t pairs e list
clock_explained_by_test t pairs e list answer tells =
    let same = clock_explained_is_tested t pairs e list in
    elim (cases_Bool answer) [
      | inl told ↦ told ∙ sym (same.1 (tells.0 told))
      | inr denied ↦
          elim (cases_Bool (is_clock_explained_by t pairs e list)) [
            | inl told ↦ let both : true ≡ false = sym (tells.1 (same.0 told)) ∙ denied in absurd cc
            | inr also ↦ denied ∙ sym also
          ]
    ]

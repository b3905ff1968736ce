-- The steps with which the chain goes on after the range.
use Rattle.std.proofs.Common.{◌≡◌, ◌∙◌, ℕ, zero, suc, ◌<◌, ◌≤◌, ◌==◌, Bool, true, false, inl, inr, List, [], ◌∷◌, ◌++◌, Contains, Option, Some, None, ap, arith, find, length, refl, subst, sym}
use Rattle.std.specs.List.{cons_option}
use Rattle.std.specs.Option.{option_or}
use Rattle.std.specs.Prelude.{nat_le, nat_lt, option_map, unwrap_or}
use Rattle.std.proofs.lemmas.Bool.{and_from, cases_Bool}
use Rattle.std.proofs.lemmas.Bool.Decides.{nat_tests}
use Rattle.std.proofs.lemmas.List.Elements.{Contains-append_cases, Contains-append_left, Contains-append_right}
use Rattle.hlc_stamp.specs.Order.{Pair}
use Rattle.hlc_causality.specs.Causality.{skeleton_at}
use Rattle.hlc_causality.specs.ClockChain.{IsClockForcing}
use Rattle.hlc_causality.specs.ClockEvents.{ClockEvents}
use Rattle.hlc_causality.specs.FollowedChains.{is_event}
use Rattle.hlc_causality.specs.FollowedClockChains.{clock_chain_of, clock_followed_back, clock_forcing_of}
use Rattle.hlc_causality.proofs.ClockForcing.{clock_forcing_is_earlier}
use Rattle.hlc_causality.proofs.FollowedClockChains.{clock_forcing_found}
use Rattle.hlc_causality.proofs.PredecessorsFound.{Finds}
use Rattle.hlc_figures.specs.Chosen.{chosen}
use Rattle.hlc_figures.specs.Content.{clock_events_of}
use Rattle.hlc_figures.specs.Figure.{delivery_after, first_after, forcing_at, goes_on, leaving_to, next_of, step_after}
use Rattle.hlc_figures.proofs.Links.{clock_size, in_followed}
use Rattle.hlc_figures.proofs.Placed.{in_one}
use Rattle.hlc_diagram.specs.Laws.{StepsGoOn}
use Rattle.hlc_diagram.proofs.Crossings.{crosses_lower, end_from, leaving, leaving_at, leaving_more}
use Rattle.hlc_diagram.proofs.Drawn.{chosen_is_chain, drawn_there, frame, lanes}
use Rattle.hlc_diagram.proofs.Steps.{forced_by}

-- what is found among the first is found among all, and what isn't there is found among the rest
found_first : (test : ℕ → Bool) (xs ys : List ℕ) (x : ℕ) → find test xs ≡ Some x → find test (xs ++ ys) ≡ Some x
found_first test [] ys x found = let none : None ≡ Some x = found in absurd (cc)
found_first test (y ∷ xs) ys x found =
    elim (cases_Bool (test y)) [ inl is ↦ rw is (rw is at found) | inr isnt ↦ rw isnt (found_first test xs ys x (rw isnt at found)) ]

found_later : (test : ℕ → Bool) (xs ys : List ℕ) → ((x : ℕ) → Contains xs x → test x ≡ false) → find test (xs ++ ys) ≡ find test ys
found_later test [] ys none = refl
found_later test (y ∷ xs) ys none =
    let isnt : test y ≡ false = none y (Contains-append_left (y ∷ []) xs y (0, omega arith, refl)) in
    rw isnt (found_later test xs ys (λ x among. none x (Contains-append_right (y ∷ []) xs x among)))

-- the first event past a place in a chain is the one whose forcing event stands before that
module _ (t : ClockEvents) (pairs : List Pair) (s f end : ℕ) (forced : clock_forcing_of t pairs f ≡ Some s) (before : s < end) (after : end ≤ f) where
  abbrev past : ℕ → Bool
  past x = nat_le end x

  itself : past f ≡ true
  itself = grind (arith, nat_tests, after)

  alone : find past (f ∷ []) ≡ Some f
  alone = rw itself refl

  none_before : (n : ℕ) → s < length t → (x : ℕ) → Contains (clock_followed_back t pairs n s) x → past x ≡ false
  none_before n exists x among =
      let low : x ≤ s = in_followed t pairs n s x exists among in
      let lower : x < end = omega arith in
      grind (arith, nat_tests, lower)

  earlier : (n e : ℕ) → e < length t → (o : Option ℕ) → clock_forcing_of t pairs e ≡ o →
      ((d : ℕ) → d < length t → Contains (clock_followed_back t pairs n d) f → find past (clock_followed_back t pairs n d) ≡ Some f) →
      Contains (unwrap_or (option_map (λ d. clock_followed_back t pairs n d) o) []) f →
      find past (unwrap_or (option_map (λ d. clock_followed_back t pairs n d) o) [] ++ e ∷ []) ≡ Some f
  earlier n e exists None is found among = let lt = among.1 in absurd (omega arith)
  earlier n e exists (Some d) is found among =
      let forces = subst (λ (o : Option ℕ). Finds (λ x. IsClockForcing t pairs x e) o) is (clock_forcing_found t pairs e exists) in
      let lt : d < e = clock_forcing_is_earlier t pairs d e forces in
      found_first past (clock_followed_back t pairs n d) (e ∷ []) f (found d (omega arith) among)

  last : (n : ℕ) → f < length t → (o : Option ℕ) → o ≡ Some s →
      find past (unwrap_or (option_map (λ d. clock_followed_back t pairs n d) o) [] ++ f ∷ []) ≡ Some f
  last n exists o is =
      subst (λ (o : Option ℕ). find past (unwrap_or (option_map (λ d. clock_followed_back t pairs n d) o) [] ++ f ∷ []) ≡ Some f) (sym is)
      (found_later past (clock_followed_back t pairs n s) (f ∷ []) (none_before n (omega arith)) ∙ alone)

  pub next_in_chain : (n e : ℕ) → e < length t → Contains (clock_followed_back t pairs n e) f → find past (clock_followed_back t pairs n e) ≡ Some f
  next_in_chain zero e exists among =
      let same : e ≡ f = in_one e f among in subst (λ (x : ℕ). find past (x ∷ []) ≡ Some f) (sym same) alone
  next_in_chain (suc n) e exists among =
      elim (Contains-append_cases (unwrap_or (option_map (λ d. clock_followed_back t pairs n d) (clock_forcing_of t pairs e)) []) (e ∷ []) f among) [
        | inl first ↦ earlier n e exists (clock_forcing_of t pairs e) refl (next_in_chain n) first
        | inr here ↦
            let same : e ≡ f = in_one e f here in
            subst (λ (x : ℕ). find past (clock_followed_back t pairs (suc n) x) ≡ Some f) (sym same)
            (last n (omega arith) (clock_forcing_of t pairs f) forced)
      ]

pub steps_go_on : StepsGoOn
steps_go_on c view e chain s f well explained exists is_chain has forces leaves =
    let t = clock_events_of c in
    let pairs = c.stamps in
    let sends = leaves.sends in
    let within = sends.exists in
    let there_e : e.0 < length (clock_events_of c) = omega (arith, exists, clock_size c) in
    let there_f : f < length (clock_events_of c) = omega (arith, within, clock_size c) in
    let test : nat_lt e.0 (length (clock_events_of c)) ≡ true = grind (arith, nat_tests, there_e) in
    let whole : chosen t pairs view.explained ≡ clock_chain_of t pairs e.0 = ap (chosen t pairs) explained ∙ (rw test refl) in
    let listed = sym (chosen_is_chain c view e chain explained exists is_chain) ∙ whole in
    let among : Contains (clock_chain_of t pairs e.0) f = subst (λ (xs : List ℕ). Contains xs f) listed has in
    let forced : forcing_at c f ≡ Some s = forced_by t pairs s f (clock_forcing_of t pairs f) (clock_forcing_found t pairs f there_f) forces in
    let from = leaves.inside.to in
    let in_events = leaves.inside.exists in
    let past = leaves.after in
    let before : s < (frame c view).end = omega arith in
    let after : (frame c view).end ≤ f = omega arith in
    let next : next_of c view.explained (frame c view) ≡ Some f =
    ap (λ (xs : List ℕ). find (λ x. nat_le (frame c view).end x) xs) whole
    ∙ next_in_chain t pairs s f (frame c view).end forced before after e.0 e.0 there_e among in
    let same_s : (s == s) ≡ true = grind (arith, nat_tests) in
    let same_f : (f == f) ≡ true = grind (arith, nat_tests) in
    let by_force : is_event (forcing_at c f) s ≡ true = rw forced same_s in
    let by_message : is_event (skeleton_at c.events f).send s ≡ true = rw sends.delivers same_s in
    let both = and_from (is_event (forcing_at c f) s) (is_event (skeleton_at c.events f).send s) by_force by_message in
    let step : step_after c s (Some f) ≡ Some f = rw both refl in
    let leads : delivery_after c view.explained (frame c view) s ≡ Some f =
    ap (λ (o : Option ℕ). option_or (step_after c s o) (first_after c (frame c view) s)) next
    ∙ ap (λ (o : Option ℕ). option_or o (first_after c (frame c view) s)) step in
    let is_next : is_event (next_of c view.explained (frame c view)) f ≡ true = rw next same_f in
    let marked : goes_on c view.explained (frame c view) s f ≡ true =
    and_from (is_event (next_of c view.explained (frame c view)) f) (is_event (forcing_at c f) s) is_next by_force in
    let there : Contains (leaving_at c view s) (end_from c view s f) =
    subst (λ (o : Option ℕ). Contains (cons_option (leaving_to c view.explained (frame c view) (lanes c view) s o) []) (end_from c view s f)) (sym leads)
    (0, omega arith, refl) in (
      end_from c view s f,
      drawn_there c view (leaving c view) (leaving_at c view) refl (leaving_more c view) s (end_from c view s f) leaves.inside there,
      crosses_lower c view s f leaves.inside,
      marked,
    )

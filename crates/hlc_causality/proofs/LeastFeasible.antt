-- There is one least feasible assignment, place by place, and its prefixes are least.
use Rattle.std.proofs.Common.{◌≡◌, ℕ, zero, suc, ◌+◌, ◌<◌, ◌≤◌, inl, inr, List, [], ◌∷◌, ◌++◌, length, take, min, arith, refl, subst, sym, ap, ◌∙◌}
use Rattle.std.proofs.lemmas.Bool.{cases_eq}
use Rattle.std.proofs.lemmas.List.{ext_get_or, get_or_push, length-take, length_push}
use Rattle.hlc_stamp.specs.Order.{Pair, zero_pair}
use Rattle.hlc_causality.specs.Assignment.{pair_at}
use Rattle.hlc_causality.specs.ClockEvents.{ClockEvents, clock_event_at, clock_skeleton}
use Rattle.hlc_causality.specs.Causality.{skeleton_at}
use Rattle.hlc_causality.specs.Feasible.{EachIsLeastFeasible, IsFeasible, IsLeastFeasible, IsLeastFeasibleAt}
use Rattle.hlc_causality.specs.FloorLaws.{FeasiblePastIsNotLow, LIsGreatestFloor, LeastFeasibleIsComputed, LeastFeasibleIsUnique, LeastFeasiblePlaceByPlace, OneMoreStaysLeastFeasible, PrefixesAreLeastFeasible}
use Rattle.hlc_causality.specs.LeastFeasible.{first_least_feasible, least_feasible, least_feasible_at}
use Rattle.hlc_causality.specs.Past.{IsInPast}
use Rattle.hlc_causality.proofs.ClockEvents.{IsSameAt, clock_skeleton_at, same_at_itself, same_event_at_push, same_event_at_take}
use Rattle.hlc_causality.proofs.Feasible.{feasible_never_falls, feasible_past_is_not_lower, least_feasible_at_is, least_feasible_at_moves, least_feasible_from_each, least_feasible_source}
use Rattle.hlc_causality.proofs.NextPairs.{l_of_next}
use Rattle.hlc_causality.proofs.Pairs.{at_most_antisymm, l_of_at_most}
use Rattle.hlc_causality.proofs.Past.{direct_happened_before, happened_before_earlier, past_trans}
use Rattle.hlc_causality.proofs.Predecessors.{direct_earlier}
use Rattle.hlc_causality.proofs.SamePrefix.{pairs_at_push, pairs_at_take}

-- pairs for the first n events, each the least that is feasible at its place
abbrev IsBuilt : ClockEvents → ℕ → List Pair → Type 0
IsBuilt t n pairs = (length pairs ≡ n) × ((f : ℕ) → f < n → IsLeastFeasibleAt t pairs f (pair_at pairs f))

-- a pair stays the least when another is pushed, and the pushed one is the least at the last place
pushed_least :
    (t u : ClockEvents) (pairs : List Pair) (p : Pair) (f : ℕ) → f < length u →
    ((e : ℕ) → e < length pairs → IsSameAt t u e) → f ≤ length pairs →
    ((e : ℕ) → e < length pairs → IsLeastFeasibleAt t pairs e (pair_at pairs e)) → IsLeastFeasibleAt u pairs (length pairs) p →
    IsLeastFeasibleAt u (pairs ++ p ∷ []) f (pair_at (pairs ++ p ∷ []) f)
pushed_least t u pairs p f exists same le each new =
    elim (cases_eq f (length pairs)) [
      | inl here ↦
          let moved : IsLeastFeasibleAt u (pairs ++ p ∷ []) f p =
          least_feasible_at_moves u u pairs (pairs ++ p ∷ []) f p (same_at_itself u f exists) (λ d h. pairs_at_push pairs p d (omega arith))
          (subst (λ (g : ℕ). IsLeastFeasibleAt u pairs g p) (sym here) new) in
          subst (λ (x : Pair). IsLeastFeasibleAt u (pairs ++ p ∷ []) f x) (sym (get_or_push pairs p zero_pair f (sym here))) moved
      | inr ne ↦
          let below : f < length pairs = omega arith in
          subst (λ (x : Pair). IsLeastFeasibleAt u (pairs ++ p ∷ []) f x) (pairs_at_push pairs p f below)
          (least_feasible_at_moves t u pairs (pairs ++ p ∷ []) f (pair_at pairs f)
          (same f below) (λ d h. pairs_at_push pairs p d (omega arith)) (each f below))
    ]

built_more : (t : ClockEvents) (n : ℕ) (pairs : List Pair) (p : Pair)
    → n < length t → IsBuilt t n pairs → IsLeastFeasibleAt t pairs n p → IsBuilt t (suc n) (pairs ++ p ∷ [])
built_more t n pairs p exists built next =
    let size : length pairs ≡ n = built.0 in (
      length_push pairs p ∙ omega arith,
      λ f lt. pushed_least t t pairs p f (omega arith) (λ e h. same_at_itself t e (omega arith)) (omega arith) (λ e h. built.1 e (omega arith))
          (subst (λ (g : ℕ). IsLeastFeasibleAt t pairs g p) (sym size) next),
    )

built : (t : ClockEvents) (n : ℕ) → n ≤ length t → IsBuilt t n (first_least_feasible t n)
built t zero le = (refl, λ f lt. absurd (omega arith))
built t (suc n) le =
    let before = first_least_feasible t n in
    built_more t n before (least_feasible_at t before n) (omega arith) (built t n (omega arith)) (least_feasible_at_is t before n (omega arith))

all_built : (t : ClockEvents) → IsBuilt t (length t) (least_feasible t)
unfolding least_feasible
all_built t = built t (length t) (omega arith)

pub least_feasible_is_computed : LeastFeasibleIsComputed
least_feasible_is_computed t = let all = all_built t in least_feasible_from_each t (least_feasible t) all.0 all.1

pub least_feasible_is_unique : LeastFeasibleIsUnique
least_feasible_is_unique t pairs others a b =
    ext_get_or zero_pair pairs others (a.feasible.one_each ∙ sym b.feasible.one_each) (λ i lt.
    let exists : i < length t = omega (arith, a.feasible.one_each) in
    at_most_antisymm (pair_at pairs i) (pair_at others i) (a.least others b.feasible i exists) (b.least pairs a.feasible i exists))

pub each_from_least_feasible : (t : ClockEvents) (pairs : List Pair) → IsLeastFeasible t pairs → EachIsLeastFeasible t pairs
each_from_least_feasible t pairs least =
    let same = least_feasible_is_unique t (least_feasible t) pairs (least_feasible_is_computed t) least in
    subst (λ (x : List Pair). EachIsLeastFeasible t x) same (all_built t).1

pub least_feasible_place_by_place : LeastFeasiblePlaceByPlace
least_feasible_place_by_place t pairs = (
  λ least. (least.feasible.one_each, each_from_least_feasible t pairs least),
  λ each. least_feasible_from_each t pairs each.0 each.1,
)

pub feasible_past_is_not_low : FeasiblePastIsNotLow
feasible_past_is_not_low t pairs others f exists least past =
    feasible_past_is_not_lower t pairs others f exists (each_from_least_feasible t pairs least) past

pub prefixes_are_least_feasible : PrefixesAreLeastFeasible
prefixes_are_least_feasible t pairs n least =
    least_feasible_from_each (take n t) (take n pairs)
    (length-take n pairs ∙ (ap (λ (k : ℕ). min n k) least.feasible.one_each ∙ sym (length-take n t)))
    (λ f lt.
    let shorter : length (take n t) ≡ min n (length t) = length-take n t in
    let below : f < n = omega arith in
    let exists : f < length t = omega arith in
    subst (λ (x : Pair). IsLeastFeasibleAt (take n t) (take n pairs) f x) (pairs_at_take pairs n f below)
    (least_feasible_at_moves t (take n t) pairs (take n pairs) f (pair_at pairs f)
    (same_event_at_take t n f below exists) (λ d h. pairs_at_take pairs n d (omega arith))
    (each_from_least_feasible t pairs least f exists)))

pub one_more_stays_least_feasible : OneMoreStaysLeastFeasible
one_more_stays_least_feasible t pairs x p least new =
    let size : length pairs ≡ length t = least.feasible.one_each in
    let longer : length (t ++ x ∷ []) ≡ length t + 1 = length_push t x in
    least_feasible_from_each (t ++ x ∷ []) (pairs ++ p ∷ [])
    (length_push pairs p ∙ (ap (λ (n : ℕ). n + 1) size ∙ sym longer))
    (λ f lt. pushed_least t (t ++ x ∷ []) pairs p f lt (λ e h. same_event_at_push t x e (omega arith)) (omega arith)
    (λ e h. each_from_least_feasible t pairs least e (omega arith))
    (subst (λ (g : ℕ). IsLeastFeasibleAt (t ++ x ∷ []) pairs g p) (sym size) new))

floor_reached : (t : ClockEvents) (pairs : List Pair) → EachIsLeastFeasible t pairs → (n f : ℕ) → f < n → f < length t
    → (e : ℕ) × IsInPast (clock_skeleton t) e f × ((skeleton_at (clock_skeleton t) e).reading ≡ (pair_at pairs f).l)
floor_reached t pairs each zero f lt exists = absurd (omega (arith, lt))
floor_reached t pairs each (suc n) f lt exists =
    let s = clock_skeleton t in
    elim (least_feasible_source t pairs f (pair_at pairs f) exists (each f exists)) [
      | inl own ↦ (f, inl refl, ap (λ x. x.reading) (clock_skeleton_at t f) ∙ sym (ap (λ (x : Pair). x.l) own))
      | inr from ↦
          let d = from.0 in
          let earlier = direct_earlier s d f from.1 in
          let before = floor_reached t pairs each n d (omega arith) (omega arith) in
          let same = sym (l_of_next (clock_event_at t f).ticks (pair_at pairs d)) ∙ ap (λ (x : Pair). x.l) from.2 in
          (before.0, past_trans s before.0 d f before.1 (inr (direct_happened_before s d f from.1)), before.2 ∙ same)
    ]

own_floor_is_at_most : (t : ClockEvents) (pairs : List Pair) (f : ℕ) → f < length t → IsFeasible t pairs
    → (skeleton_at (clock_skeleton t) f).reading ≤ (pair_at pairs f).l
own_floor_is_at_most t pairs f exists feasible =
    let floor = (clock_event_at t f).floor in
    rw (clock_skeleton_at t f) (l_of_at_most floor.l floor (pair_at pairs f) (omega arith) (feasible.each f exists).not_below)

-- with feasible pairs no floor of the past has a greater l
past_floors_are_at_most : (t : ClockEvents) (pairs : List Pair) (e f : ℕ) → f < length t → IsFeasible t pairs
    → IsInPast (clock_skeleton t) e f → (skeleton_at (clock_skeleton t) e).reading ≤ (pair_at pairs f).l
past_floors_are_at_most t pairs e f exists feasible (inl same) =
    subst (λ x. (skeleton_at (clock_skeleton t) x).reading ≤ (pair_at pairs f).l) (sym same) (own_floor_is_at_most t pairs f exists feasible)
past_floors_are_at_most t pairs e f exists feasible (inr h) =
    let earlier = happened_before_earlier (clock_skeleton t) e f h in
    l_of_at_most (skeleton_at (clock_skeleton t) e).reading (pair_at pairs e) (pair_at pairs f)
    (own_floor_is_at_most t pairs e (omega arith) feasible) (feasible_never_falls t pairs feasible e f h)

pub l_is_greatest_floor : LIsGreatestFloor
l_is_greatest_floor t pairs f exists least = record {
  reached = floor_reached t pairs (each_from_least_feasible t pairs least) (suc f) f (omega arith) exists;
  none_greater = λ e h. past_floors_are_at_most t pairs e f exists least.feasible h;
}

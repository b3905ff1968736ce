-- What the order of vectors tells.
use Rattle.std.proofs.Common.{◌≡◌, ◌∙◌, ℕ, ◌+◌, ◌==◌, ◌<◌, ◌≤◌, inl, inr, Bool, true, false, length, arith, refl, sym, eq-eqb, eqb-true}
use Rattle.std.proofs.lemmas.Bool.{cases_Bool, cases_eq, cases_lt}
use Rattle.hlc_causality.specs.Causality.{Skeleton, skeleton_at}
use Rattle.hlc_causality.specs.Past.{IsInPast}
use Rattle.hlc_causality.proofs.Past.{happened_before_earlier, past_trans}
use Rattle.hlc_explain.specs.Findings.{happened_before}
use Rattle.hlc_explain.proofs.Findings.{happened_before_is_tested}
use Rattle.hlc_explain.specs.VectorLaws.{OwnCountIsNodesEvents, OwnCountTellsThePast, VectorOrderIsHappenedBefore}
use Rattle.hlc_explain.specs.Vectors.{is_counted, vector_at}
use Rattle.hlc_explain.proofs.Pasts.{counted_tells, earlier_is_past, not_counted, past_counted_too, past_is_at_most, past_is_counted}
use Rattle.hlc_explain.proofs.PlaceCounts.{bool_is, count_at_most, count_le, count_lt, count_same, none_from}

pub vector_at_most : (s : Skeleton) (e node : ℕ) → vector_at s e node ≤ length s
vector_at_most s e node = count_at_most (is_counted s e node) (length s)

-- what is in the past has no greater number
past_has_no_more : (s : Skeleton) (e f node : ℕ) → IsInPast s e f → vector_at s e node ≤ vector_at s f node
past_has_no_more s e f node past = count_le (is_counted s e node) (is_counted s f node) (length s) (past_counted_too s e f node past)

-- what isn't in the past of f has more events of its own node than f
own_count_is_more : (s : Skeleton) (e f : ℕ) → e < length s → ¬ IsInPast s e f
    → vector_at s f (skeleton_at s e).node < vector_at s e (skeleton_at s e).node
own_count_is_more s e f exists not_past =
    let node = (skeleton_at s e).node in
    let at_f = not_counted s f node e (λ both. not_past both.1) in
    let at_e = past_is_counted s e node e refl (inl refl) in
    count_lt (is_counted s f node) (is_counted s e node) (length s) e exists at_f at_e (λ d there told.
    let (at_node, past) = counted_tells s f node d told in
    elim (cases_lt e d) [
      | inl lt ↦ absurd (not_past (past_trans s e d f (earlier_is_past s e d (omega arith) there (sym at_node)) past))
      | inr le ↦ past_is_counted s e node d at_node (earlier_is_past s d e le exists at_node)
    ])

-- an event is in the past of another or isn't
tell_past : (s : Skeleton) (e f : ℕ) → (¬ IsInPast s e f → ⊥) → IsInPast s e f
tell_past s e f not_not = elim (cases_eq e f) [
  | inl same ↦ inl same
  | inr differ ↦ elim (cases_Bool (happened_before s e f)) [
    | inl before ↦ inr ((happened_before_is_tested s e f).0 before)
    | inr denied ↦ absurd (not_not (λ past. elim past [
      | inl same ↦ differ same
      | inr before ↦ let both : true ≡ false = sym ((happened_before_is_tested s e f).1 before) ∙ denied in cc
    ]))
  ]
]

pub own_count_tells_the_past : OwnCountTellsThePast
own_count_tells_the_past s e f exists there = (
  λ past. past_has_no_more s e f (skeleton_at s e).node past,
  λ le. tell_past s e f (λ not_past. let more = own_count_is_more s e f exists not_past in omega arith),
)

pub vector_order_is_happened_before : VectorOrderIsHappenedBefore
vector_order_is_happened_before s e f exists there = (
  λ before. (
    λ same. let lt = (happened_before_earlier s e f before).0 in omega arith,
    λ node. past_has_no_more s e f node (inr before),
  ),
  λ both. elim ((own_count_tells_the_past s e f exists there).1 (both.1 (skeleton_at s e).node)) [
    | inl same ↦ absurd (both.0 same)
    | inr before ↦ before
  ],
)

pub own_count_is_nodes_events : OwnCountIsNodesEvents
own_count_is_nodes_events s e exists =
    let node = (skeleton_at s e).node in
    let at_node : ℕ → Bool = λ d. (skeleton_at s d).node == node in
    none_from (is_counted s e node) (e + 1) (length s) (omega arith) (λ d from lt. not_counted s e node d (λ both.
    let most = past_is_at_most s d e both.1 in omega arith))
    ∙ count_same (is_counted s e node) at_node (e + 1) (λ d lt. bool_is (is_counted s e node d) (at_node d)
    (λ told. eq-eqb (skeleton_at s d).node node (counted_tells s e node d told).0)
    (λ told.
    let same : (skeleton_at s d).node ≡ node = eqb-true (skeleton_at s d).node node told in
    past_is_counted s e node d same (earlier_is_past s d e (omega arith) exists same)))

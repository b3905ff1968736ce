-- What is found of events, as the functions give it, and that it is of events.
use Rattle.std.proofs.Common.{◌≡◌, ◌↔◌, true, sym, ℕ, zero, suc, ◌<◌, ◌≤◌, List, [], ◌∷◌, ◌++◌, length, Option, Some, None, arith, ap, refl, subst}
use Rattle.std.specs.Prelude.{All, option_map, unwrap_or}
use Rattle.std.proofs.lemmas.List.Elements.{All-append, All-cons, All-filter, All-head, All-nil, All-tail}
use Rattle.hlc_stamp.specs.declared.id.EventId.{EventId}
use Rattle.hlc_stamp.specs.Order.{Pair}
use Rattle.hlc_causality.specs.Causality.{HappenedBefore, Skeleton}
use Rattle.hlc_causality.specs.ClockChain.{IsClockForcing}
use Rattle.hlc_causality.specs.ClockEvents.{ClockEvents}
use Rattle.hlc_causality.specs.FollowedClockChains.{clock_chain_of, clock_followed_back, clock_forcing_of}
use Rattle.hlc_causality.specs.Past.{LeadsTo}
use Rattle.hlc_causality.specs.Places.{places_below}
use Rattle.hlc_causality.proofs.ClockForcing.{clock_forcing_is_earlier}
use Rattle.hlc_causality.proofs.FollowedClockChains.{clock_forcing_found}
use Rattle.hlc_causality.proofs.Predecessors.{direct_exists}
use Rattle.hlc_causality.proofs.PredecessorsFound.{Finds}
use Rattle.hlc_explain.specs.declared.answers.Relation.{Relation as RelationFound}
use Rattle.hlc_explain.specs.declared.answers.Relation.TheVariants.{After, Before, Same}
use Rattle.hlc_explain.specs.Findings.{happened_before, influenced_by, relation_of}
use Rattle.hlc_explain.specs.Paths.{IsPathFound, path_of}
use Rattle.hlc_explain.specs.Taints.{is_raised, tainted_by}
use Rattle.hlc_explain.proofs.Findings.{relation_is}
use Rattle.hlc_explain.proofs.ShortestPaths.{paths_are_found}
use Rattle.hlc_explain.specs.Answer.{answer_of, path_answer}
use Rattle.hlc_explain.specs.EventQuestion.{Check, EventQuestion, Explain, Influenced, Relation, Tainted, Why, can_be_asked}
use Rattle.hlc_explain.proofs.Asked.{within_among}

-- a relation that was found is the one that the function gives
pub relation_found : (s : Skeleton) (e f : EventId) (relation : RelationFound) → ((relation ≡ Before) ↔ HappenedBefore s e.0 f.0)
    → ((relation ≡ After) ↔ HappenedBefore s f.0 e.0) → ((relation ≡ Same) ↔ (e ≡ f)) → relation ≡ relation_of s e.0 f.0
relation_found s e f relation before after same =
    relation_is s e.0 f.0 relation (record {
      before = before;
      after = after;
      same = (λ is. ap (λ (id : EventId). id.0) (same.0 is), λ is. same.1 (ap (λ (n : ℕ). let id : EventId = record { 0 = n } in id) is));
    })

-- a walk back by a step is within n if each step leads to an earlier event
module _ (n : ℕ) where
  pub only_within : (f : ℕ) → f < n → All (λ (k : ℕ). k < n) (f ∷ [])
  only_within f lt = All-cons (λ (k : ℕ). k < n) f [] lt (All-nil (λ (k : ℕ). k < n))

  pub within_joined : (before : ℕ → List ℕ) (o : Option ℕ) (f : ℕ) → f < n → ((d : ℕ) → o ≡ Some d → All (λ (k : ℕ). k < n) (before d))
      → All (λ (k : ℕ). k < n) (unwrap_or (option_map (λ d. before d) o) [] ++ f ∷ [])
  within_joined before None f lt earlier = only_within f lt
  within_joined before (Some d) f lt earlier = All-append (λ (k : ℕ). k < n) (before d) (f ∷ []) (earlier d refl) (only_within f lt)

-- so a chain has events
module _ (t : ClockEvents) (pairs : List Pair) where
  forcing_earlier : (f : ℕ) → f < length t → (d : ℕ) → clock_forcing_of t pairs f ≡ Some d → d < f
  forcing_earlier f exists d is =
      clock_forcing_is_earlier t pairs d f (subst (Finds (λ d. IsClockForcing t pairs d f)) is (clock_forcing_found t pairs f exists))

  followed_within : (n f : ℕ) → f < length t → All (λ (k : ℕ). k < length t) (clock_followed_back t pairs n f)
  followed_within zero f exists = only_within (length t) f exists
  followed_within (suc n) f exists =
      within_joined (length t) (clock_followed_back t pairs n) (clock_forcing_of t pairs f) f exists
      (λ d is. let earlier = forcing_earlier f exists d is in followed_within n d (omega arith))

  pub chain_within : (f : ℕ) → f < length t → All (λ (k : ℕ). k < length t) (clock_chain_of t pairs f)
  chain_within f exists = followed_within f f exists

places_within : (n m : ℕ) → n ≤ m → All (λ (k : ℕ). k < m) (places_below n)
places_within zero m le = All-nil (λ (k : ℕ). k < m)
places_within (suc n) m le =
    let Within : ℕ → Type 0 = λ k. k < m in
    All-append Within (places_below n) (n ∷ []) (places_within n m (omega arith)) (All-cons Within n [] (omega arith) (All-nil Within))

-- what an event happened before are events
pub influenced_within : (s : Skeleton) (e : ℕ) → All (λ (k : ℕ). k < length s) (influenced_by s e)
influenced_within s e =
    All-filter (happened_before s e) (λ (k : ℕ). k < length s) (places_below (length s)) (places_within (length s) (length s) (omega arith))

-- what lies on a way are events
pub leads_within : (s : Skeleton) (e : ℕ) (rest : List ℕ) (f : ℕ) → LeadsTo s e rest f → All (λ (k : ℕ). k < length s) rest
leads_within s e [] f h = All-nil (λ (k : ℕ). k < length s)
leads_within s e (m ∷ rest) f h =
    All-cons (λ (k : ℕ). k < length s) m rest (direct_exists s e m h.0) (leads_within s m rest f h.1)

path_within : (s : Skeleton) (e f : ℕ) → e < length s → (found : Option (List ℕ)) → IsPathFound s e f found
    → All (λ (k : ℕ). k < length s) ((path_answer found).events)
path_within s e f exists None is = All-nil (λ (k : ℕ). k < length s)
path_within s e f exists (Some []) is = absurd is.leads
path_within s e f exists (Some (first ∷ rest)) is =
    All-cons (λ (k : ℕ). k < length s) first rest (subst (λ (k : ℕ). k < length s) (sym is.leads.0) exists) (leads_within s e rest f is.leads.1)

-- what a floor raised are events
pub tainted_within : (t : ClockEvents) (pairs : List Pair) (e : ℕ) → All (λ (k : ℕ). k < length t) (tainted_by t pairs e)
tainted_within t pairs e =
    All-filter (is_raised t pairs e) (λ (k : ℕ). k < length t) (places_below (length t)) (places_within (length t) (length t) (omega arith))

-- an answer has events
pub answer_within : (s : Skeleton) (t : ClockEvents) (pairs : List Pair) (question : EventQuestion) → length t ≡ length s
    → can_be_asked (length s) question ≡ true → All (λ (k : ℕ). k < length s) ((answer_of s t pairs question).events)
answer_within s t pairs (Explain event) size there =
    let lt : event < length s = All-head (λ (k : ℕ). k < length s) event [] (within_among (length s) (event ∷ []) there) in
    subst (λ (n : ℕ). All (λ (k : ℕ). k < n) (clock_chain_of t pairs event)) size (chain_within t pairs event (omega arith))
answer_within s t pairs (Check event chain) size there = All-nil (λ (k : ℕ). k < length s)
answer_within s t pairs (Relation first second) size there = All-nil (λ (k : ℕ). k < length s)
answer_within s t pairs (Influenced event) size there = influenced_within s event
answer_within s t pairs (Why first second) size there =
    let within = within_among (length s) (first ∷ second ∷ []) there in
    let one : first < length s = All-head (λ (k : ℕ). k < length s) first (second ∷ []) within in
    let other : second < length s = All-head (λ (k : ℕ). k < length s) second [] (All-tail (λ (k : ℕ). k < length s) first (second ∷ []) within) in
    path_within s first second one (path_of s first second) (paths_are_found s first second other)
answer_within s t pairs (Tainted event) size there =
    subst (λ (n : ℕ). All (λ (k : ℕ). k < n) (tainted_by t pairs event)) size (tainted_within t pairs event)

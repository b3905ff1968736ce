-- Walks over direct predecessors, and marks on what they reach.
use Rattle.std.proofs.Common.{◌≡◌, ◌↔◌, ◌⊎◌, ℕ, ◌+◌, ◌-◌, ◌<◌, ◌≤◌, inl, inr, Bool, true, false, List, length, get_or, Option, Some, None, arith, subst, sym, ◌∙◌}
use Rattle.std.proofs.Math.ListN.{replicate}
use Rattle.std.proofs.lemmas.Bool.{cases_lt}
use Rattle.std.proofs.lemmas.List.{get_or-replicate, get_or_default, get_or_past, length-replicate}
use Rattle.hlc_stamp.specs.declared.id.EventId.{EventId}
use Rattle.hlc_causality.specs.Causality.{HappenedBefore, IsDirectPredecessor, IsPrevious, IsSendOf, Skeleton}
use Rattle.hlc_causality.specs.Neighbours.{NamesPrevious, NamesSend}
use Rattle.hlc_causality.specs.Past.{IsInPast}
use Rattle.hlc_causality.proofs.Past.{happened_before_earlier}
use Rattle.hlc_causality.proofs.Predecessors.{previous_is_unique, send_is_unique}
use Rattle.hlc_explain.specs.Marks.{IsMarked, IsNamed}

-- what the links of an event name are its direct predecessors
pub named_is_direct :
    (s : Skeleton) (f : ℕ) (previous send : Option EventId) → NamesPrevious s f previous → NamesSend s f send →
    (e : ℕ) → IsNamed previous e ⊎ IsNamed send e → IsDirectPredecessor s e f
named_is_direct s f None send p q e (inl h) = absurd h
named_is_direct s f (Some d) send p q e (inl h) = inl (subst (λ m. IsPrevious s m f) h p)
named_is_direct s f previous None p q e (inr h) = absurd h
named_is_direct s f previous (Some d) p q e (inr h) = inr (subst (λ m. IsSendOf s m f) h q)

named_previous : (s : Skeleton) (f : ℕ) (previous : Option EventId) → NamesPrevious s f previous → (e : ℕ) → IsPrevious s e f
    → IsNamed previous e
named_previous s f None p e h = absurd (p e h.at_node)
named_previous s f (Some d) p e h = previous_is_unique s d.0 e f p h

named_send : (s : Skeleton) (f : ℕ) (send : Option EventId) → NamesSend s f send → (e : ℕ) → IsSendOf s e f → IsNamed send e
named_send s f None q e h = absurd (q e h)
named_send s f (Some d) q e h = send_is_unique s d.0 e f q h

pub direct_is_named :
    (s : Skeleton) (f : ℕ) (previous send : Option EventId) → NamesPrevious s f previous → NamesSend s f send →
    (e : ℕ) → IsDirectPredecessor s e f → IsNamed previous e ⊎ IsNamed send e
direct_is_named s f previous send p q e (inl h) = inl (named_previous s f previous p e h)
direct_is_named s f previous send p q e (inr h) = inr (named_send s f send q e h)

pub past_is_earlier : (s : Skeleton) (e f : ℕ) → IsInPast s e f → e ≤ f
past_is_earlier s e f (inl same) = omega arith
past_is_earlier s e f (inr h) = let lt = (happened_before_earlier s e f h).0 in omega arith

none_marked : (n k : ℕ) → get_or (replicate n false) k false ≡ false
none_marked n k = elim (cases_lt k n) [
  | inl lt ↦ get_or-replicate n k false false lt
  | inr le ↦ get_or_past (replicate n false) k false (let size = length-replicate n false in omega arith)
]

-- nothing is marked if no mark is set
pub unmarked : (first n e : ℕ) → ¬ IsMarked first (replicate n false) e
unmarked first n e h = let both : false ≡ true = sym (none_marked n (e - first)) ∙ h.marked in cc

-- what a mark says
pub marked_tells :
    (first : ℕ) (marks : List Bool) (e : ℕ) (b : Bool) → first ≤ e → e < first + length marks → b ≡ get_or marks (e - first) b →
    (b ≡ true) ↔ IsMarked first marks e
marked_tells first marks e b from within is =
    let read : b ≡ get_or marks (e - first) false = is ∙ get_or_default marks (e - first) b false (omega arith) in
    (λ h. record { from = from; marked = sym read ∙ h }, λ h. read ∙ h.marked)

-- a past event that comes earlier happened before
pub past_happened_before : (s : Skeleton) (e f : ℕ) → e < f → IsInPast s e f → HappenedBefore s e f
past_happened_before s e f lt (inl same) = absurd (omega arith)
past_happened_before s e f lt (inr h) = h

-- nothing happened before an event that isn't later
pub not_before : (s : Skeleton) (e f : ℕ) → f ≤ e → ¬ HappenedBefore s e f
not_before s e f le h = let lt = (happened_before_earlier s e f h).0 in omega arith

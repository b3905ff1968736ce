use Rattle.std.proofs.Common.{inl, inr, ap}
use Rattle.hlc_stamp.specs.declared.id.NodeId.{NodeId}
use Rattle.std.proofs.lemmas.List.Sorted.{IsPermutation-sym}
use Rattle.hlc_log.proofs.HeapTurns.{contains_with}
use Rattle.hlc_log.proofs.turns.Turns.take.Goals as goal

pub returns-clause-taken : goal.returns-clause-taken
returns-clause-taken c node =
    let held = contains_with _ (record { 0 = node }) _ _ (IsPermutation-sym _ _ c.in_ok-node.ensures.permutation) in
    let same = c.begin_round.ensures.same node in (
      λ had. elim (same.1 had) [
        | inl now ↦ elim (held.0 now) [ inl taken ↦ inl (ap (λ turn. turn.0) taken) | inr left ↦ inr (inl left) ]
        | inr later ↦ inr (inr later)
      ],
      λ h. same.0 (elim h [
        | inl taken ↦ inl (held.1 (inl (ap (λ (node : NodeId). record { 0 = node }) taken)))
        | inr has ↦ elim has [ inl left ↦ inl (held.1 (inr left)) | inr later ↦ inr later ]
      ]),
    )

use Rattle.std.proofs.Common.{inl, inr, ap}
use Rattle.hlc_stamp.specs.declared.id.NodeId.{NodeId}
use Rattle.hlc_log.proofs.HeapTurns.{contains_with}
use Rattle.hlc_log.proofs.turns.Turns.give.Goals as goal

pub returns-in_ok-push : goal.returns-in_ok-push
returns-in_ok-push c other =
    let held = contains_with _ (record { 0 = other }) _ _ c.in_ok-push.ensures.permutation in (
      λ has. elim has [
        | inl now ↦ inl (inl now)
        | inr later ↦ elim (held.0 later) [ inl same ↦ inr (ap (λ turn. turn.0) same) | inr had ↦ inl (inr had) ]
      ],
      λ h. elim h [
        | inl had ↦ elim had [ inl now ↦ inl now | inr later ↦ inr (held.1 (inr later)) ]
        | inr same ↦ inr (held.1 (inl (ap (λ (node : NodeId). record { 0 = node }) same)))
      ],
    )

pub returns-in_ok-push-2 : goal.returns-in_ok-push-2
returns-in_ok-push-2 c other =
    let held = contains_with _ (record { 0 = other }) _ _ c.in_ok-push-2.ensures.permutation in (
      λ has. elim has [
        | inl now ↦ elim (held.0 now) [ inl same ↦ inr (ap (λ turn. turn.0) same) | inr had ↦ inl (inl had) ]
        | inr later ↦ inl (inr later)
      ],
      λ h. elim h [
        | inl had ↦ elim had [ inl now ↦ inl (held.1 (inr now)) | inr later ↦ inr later ]
        | inr same ↦ inl (held.1 (inl (ap (λ (node : NodeId). record { 0 = node }) same)))
      ],
    )

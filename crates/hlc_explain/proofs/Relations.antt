-- Answers about how two events stand.
use Rattle.std.proofs.Common.{◌≡◌, ◌↔◌, ◌⊎◌, ℕ, ◌<◌, ◌≤◌, inl, inr, Err, Ok, Result, ap, arith}
use Rattle.hlc_stamp.specs.declared.id.EventId.{EventId}
use Rattle.hlc_verdict.specs.declared.audit_fault.AuditFault.{AuditFault}
use Rattle.hlc_verdict.specs.declared.audit_fault.AuditFault.TheVariants.{NoEvent}
use Rattle.hlc_explain.specs.declared.answers.Relation.{Relation}
use Rattle.hlc_explain.specs.declared.answers.Relation.TheVariants.{Same}

-- the same of two events by their numbers
pub same_event : {r : Relation} (e f : EventId) → (r ≡ Same) ↔ (e.0 ≡ f.0) → (r ≡ Same) ↔ (e ≡ f)
same_event e f h = (λ is. ap (λ (n : ℕ). record { 0 = n }) (h.0 is), λ same. h.1 (ap (λ (x : EventId). x.0) same))

-- what is answered of two events that are there
abbrev pub answered : Relation → Result Relation AuditFault
answered r = Ok r

-- no such answer is a fault
pub no_fault : (n e f : ℕ) (r : Relation) → e < n → f < n → (answered r ≡ Err NoEvent) ↔ ((n ≤ e) ⊎ (n ≤ f))
no_fault n e f r e_in f_in = (
  λ is. absurd (cc),
  λ missing. absurd (elim missing [
    | inl past ↦ omega arith
    | inr past ↦ omega arith
  ]),
)

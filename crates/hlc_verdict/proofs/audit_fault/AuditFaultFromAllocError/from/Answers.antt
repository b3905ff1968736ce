use Rattle.std.proofs.Common.{rules}
use Rattle.hlc_verdict.proofs.audit_fault.AuditFaultFromAllocError.from.Goals as goal

pub returns : goal.returns
returns c = search rules

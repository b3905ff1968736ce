use Rattle.std.proofs.Common.{Bool, ℕ, subst, sym}
use Rattle.std.proofs.lemmas.Result.{IfOk-weaker}
use Rattle.csv.specs.Records.{fields_of}
use Rattle.hlc_log_text.specs.PartialLog.{Takes}
use Rattle.hlc_log_text.specs.declared.bad_log.BadLine.{BadLine}
use Rattle.hlc_log_text.proofs.LeftOut.{left_or_kept}
use Rattle.hlc_log_text.proofs.partial_log.PartialLog.take.Goals as goal

pub returns-in-Some-clause-taken : goal.returns-in-Some-clause-taken
returns-in-Some-clause-taken c =
    let fields = fields_of c.args.fields.now in
    let new = c.leave_out.new.self in
    let b : BadLine = record { line = c.next_line-line.result; why = c.in-Some.why } in
    IfOk-weaker c.leave_out.result _ _ (λ kept leaves items lines h.
    subst (λ (line : ℕ). Takes c.args.rules items lines fields c.args.found.is_open line new kept) c.next_line-line.ensures.line
    (subst (λ (is_open : Bool). Takes c.args.rules items lines fields is_open c.next_line-line.result new kept) (sym c.if-found.false)
    (left_or_kept c.args.rules items lines fields b c.args.self.now c.take_at.new.self new h c.next_line-line.ensures.next
    ((rw c.in-Some.is at c.in_ok-why.ensures.taken) items lines h) kept leaves)))
    c.leave_out.ensures.left

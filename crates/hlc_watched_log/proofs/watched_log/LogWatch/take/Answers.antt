use Rattle.std.proofs.Common.{◌≡◌, ◌∙◌, Bool, None, Option, Some, ap, cond, sym}
use Rattle.hlc_log_text.specs.declared.bad_log.BadLog.{BadLog}
use Rattle.hlc_watched_log.specs.Taken.{ends_with}
use Rattle.hlc_watched_log.proofs.EventsTaken.{bad_taken, good_taken}
use Rattle.hlc_watched_log.proofs.watched_log.LogWatch.take.Goals as goal

pub returns-in_default-clause-taken : goal.returns-in_default-clause-taken
returns-in_default-clause-taken g c said is =
    let t = (rw c.in_default.is at c.in_ok-why.ensures.taken) said is in
    good_taken c.args.rules.now said c.args.self.now (g.W.Write.contents c.args.writer.now) (g.W.Write.contents c.take_told.new.writer) c.take_told.new.self t.0 t.1

pub returns-then-leaves_out-clause-taken : goal.returns-then-leaves_out-clause-taken
returns-then-leaves_out-clause-taken g c said is =
    let at = g.W.Write.contents in
    let why = c.in-Some.why in
    let t = (rw c.in-Some.is at c.in_ok-why.ensures.taken) said is in
    let ends : None ≡ ends_with c.args.rules.now.records.faults (Some why) =
    sym (ap (λ (b : Bool). (let o : Option BadLog = cond b None (Some why) in o)) (sym c.leaves_out.ensures ∙ c.if-leaves_out.true)) in
    bad_taken c.args.rules.now said c.args.self.now (at c.args.writer.now) (at c.write_bad.new.writer) c.count_bad.new.self why c.take_told.new.self
    (at c.take_told.new.writer) None t.0 t.1.0 t.1.1 c.in_ok-write_bad.ensures c.count_bad.ensures ends

pub returns-else-leaves_out-clause-taken : goal.returns-else-leaves_out-clause-taken
returns-else-leaves_out-clause-taken g c said is =
    let at = g.W.Write.contents in
    let why = c.in-Some.why in
    let t = (rw c.in-Some.is at c.in_ok-why.ensures.taken) said is in
    let ends : Some why ≡ ends_with c.args.rules.now.records.faults (Some why) =
    sym (ap (λ (b : Bool). (let o : Option BadLog = cond b None (Some why) in o)) (sym c.leaves_out.ensures ∙ c.if-leaves_out.false)) in
    bad_taken c.args.rules.now said c.args.self.now (at c.args.writer.now) (at c.write_bad.new.writer) c.count_bad.new.self why c.take_told.new.self
    (at c.take_told.new.writer) (Some why) t.0 t.1.0 t.1.1 c.in_ok-write_bad.ensures c.count_bad.ensures ends

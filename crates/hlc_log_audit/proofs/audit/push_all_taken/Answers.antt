use Rattle.std.specs.Prelude.{codes}
use Rattle.std.proofs.lemmas.Result.{on_ok_weaker}
use Rattle.hlc_log_audit.specs.Audit.{taken_row}
use Rattle.hlc_log_text.proofs.RowsAdded.{adds_joined}
use Rattle.hlc_log_audit.proofs.audit.push_all_taken.Goals as goal

pub returns : goal.returns
returns g c =
    on_ok_weaker c.push_taken-2.result (λ last.
    adds_joined _ _ _ _ _ _ (taken_row (codes "unsent") c.args.unsent) (taken_row (codes "resent") c.args.resent) c.in_ok-push_taken.ensures last)
    c.push_taken-2.ensures

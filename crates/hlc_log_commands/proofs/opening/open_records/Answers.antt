use Rattle.std.proofs.Common.{List, Option, ℕ, subst}
use Rattle.std.specs.Prelude.{IfErr, IfOk}
use Rattle.hlc_open_log.specs.Opened.{IsOpened}
use Rattle.hlc_open_log.specs.Unopened.{ExplainsOpenFault}
use Rattle.hlc_log_commands.proofs.opening.open_records.Goals as goal

pub returns-in-Ok-clause-opened : goal.returns-in-Ok-clause-opened
returns-in-Ok-clause-opened g c =
    subst (λ (bytes : Option (List ℕ)). IfOk c.open_log.result (IsOpened c.args.rules c.args.most bytes)) c.in-Ok.ensures c.open_log.ensures.opened

pub returns-in-Ok-clause-fault : goal.returns-in-Ok-clause-fault
returns-in-Ok-clause-fault g c =
    subst (λ (bytes : Option (List ℕ)). IfErr c.open_log.result (ExplainsOpenFault c.args.rules c.args.most bytes)) c.in-Ok.ensures c.open_log.ensures.fault

use Rattle.std.proofs.lemmas.Result.{IfErr-weaker, IfOk-weaker}
use Rattle.hlc_open_log.proofs.OpenedLogs.{explained}
use Rattle.hlc_open_log.proofs.opening.open_log.Goals as goal

pub returns-clause-opened : goal.returns-clause-opened
returns-clause-opened g c =
    IfOk-weaker c.open_text.result _ _ (λ opened is. (c.in_ok-text.text, c.in_ok-text.ensures.log, is)) c.open_text.ensures.opened

pub returns-clause-fault : goal.returns-clause-fault
returns-clause-fault g c =
    IfErr-weaker c.open_text.result _ _
    (explained c.args.rules c.args.most (g.R.Read.remaining c.args.reader) c.in_ok-text.text c.in_ok-text.ensures.log) c.open_text.ensures.fault

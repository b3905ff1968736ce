use Rattle.hlc_c.proofs.judging.hlc_judge_next.Goals as goal

pub returns-clause-least : goal.returns-clause-least
returns-clause-least c = λ _.
    let merge = c.hlc_merge-status.ensures.least c.if-status-ne-HLC_OK.false in
    record { above_old = merge.above_old; above_sent = merge.above_message; not_behind = merge.not_behind; least = merge.least }

use Rattle.hlc_log_commands.proofs.grouped_audit.audit_opened_grouped.Goals as goal

pub returns-clause-told : goal.returns-clause-told
returns-clause-told g c =
    let told = c.in_ok-audited.ensures.told in
    let groups = c.in_ok-write_groups.ensures in
    (g.W.Write.contents c.audit_opened.new.writer, told.0, groups.0, told.1, told.2, told.3, groups.1, groups.2)

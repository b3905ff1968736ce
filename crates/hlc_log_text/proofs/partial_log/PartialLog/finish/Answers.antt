use Rattle.std.proofs.Common.{◌∙◌}
use Rattle.hlc_log_text.proofs.ApartTexts.{is_finished}
use Rattle.hlc_log_text.proofs.partial_log.PartialLog.finish.Goals as goal

pub returns : goal.returns
returns c =
    is_finished c.args.self.now c.tell_apart.new.self c.requires c.in_ok-tell_apart.ensures c.replace-nodes.result c.replace-nodes.new.dest
    c.replace-nodes.ensures.value (c.replace-nodes.ensures.after ∙ c.new.ensures) c.into_names.result c.into_names.ensures

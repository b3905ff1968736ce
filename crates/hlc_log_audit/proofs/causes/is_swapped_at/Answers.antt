use Rattle.std.proofs.Common.{◌∙◌, ap}
use Rattle.hlc_ordered_log.specs.Found.{is_swapped_in}
use Rattle.hlc_log_audit.proofs.causes.is_swapped_at.Goals as goal

pub returns : goal.returns
returns c = c.is_swapped.ensures ∙ ap (is_swapped_in c.args.log.now c.args.full) c.position.ensures.index

use Rattle.std.proofs.Common.{◌∙◌, Some, sym}
use Rattle.hlc_arena.proofs.Histories.{pair_at_place}
use Rattle.hlc_core.proofs.clock.last_stamp.Goals as goal

pub returns-in-Some : goal.returns-in-Some
returns-in-Some c =
    (Some c.in-Some.last, c.in-Some.ensures, c.stamp_of.ensures ∙ sym (pair_at_place c.args.history.now.events c.in-Some.last.0))

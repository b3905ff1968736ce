use Rattle.hlc_diagram.proofs.Crossings.{arrows_come_in, arrows_leave, messages_come_in, messages_leave}
use Rattle.hlc_diagram.proofs.laws.arrows_end_at_the_border.Goals as goal

pub returns : goal.returns
returns c =
    record { come_in = messages_come_in; only_these_come_in = arrows_come_in; leave = messages_leave; only_these_leave = arrows_leave }

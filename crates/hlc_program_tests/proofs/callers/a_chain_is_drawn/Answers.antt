use Rattle.std.proofs.Common.{subst, sym}
use Rattle.hlc_arena.specs.Arena.{history_of}
use Rattle.hlc_arena.specs.ClockRule.{HasLeastStamps}
use Rattle.hlc_arena.specs.History.{History}
use Rattle.hlc_picture.proofs.Histories.{least_as_shown}
use Rattle.hlc_program_tests.proofs.callers.a_chain_is_drawn.Goals as goal

pub draw_subject-requires : goal.draw_subject-requires
draw_subject-requires g c =
    least_as_shown (history_of c.history-2.result.now)
    (subst (λ (h : History). HasLeastStamps h.events) (sym c.history-2.ensures.history) c.history-2.ensures.sound.least)

use Rattle.std.proofs.Common.{◌∙◌, ap, subst, sym}
use Rattle.hlc_arena.specs.ClockRule.{HasLeastStamps}
use Rattle.hlc_arena.specs.History.{History, causality_of, stamps_of}
use Rattle.hlc_text.proofs.question_reply.execution_of.Goals as goal

pub returns-clause-events : goal.returns-clause-events
returns-clause-events c = c.execution.ensures.events ∙ ap (λ (h : History). causality_of h.events) c.history.ensures.history

pub returns-clause-stamps : goal.returns-clause-stamps
returns-clause-stamps c = c.execution.ensures.stamps ∙ ap (λ (h : History). stamps_of h.events) c.history.ensures.history

pub returns-clause-nodes : goal.returns-clause-nodes
returns-clause-nodes c = c.execution.ensures.nodes ∙ ap (λ (h : History). h.nodes) c.history.ensures.history

pub returns-clause-least : goal.returns-clause-least
returns-clause-least c = c.execution.ensures.least.0 (subst (λ (h : History). HasLeastStamps h.events) (sym c.history.ensures.history) c.history.ensures.sound.least)

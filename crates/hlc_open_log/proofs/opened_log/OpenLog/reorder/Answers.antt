use Rattle.std.proofs.Common.{◌∙◌, List, subst, sym}
use Rattle.hlc_log.specs.declared.log_event.LogEvent.{LogEvent}
use Rattle.hlc_log_text.specs.ReadText.{HaveNames, LinesRise}
use Rattle.hlc_open_log.proofs.opened_log.OpenLog.reorder.Goals as goal

pub invariant_of-self : goal.invariant_of-self
invariant_of-self c =
    let was = c.self.invariant in
    let kept = c.reorder.ensures in
    record {
      ordered = kept.ordered;
      nodes_are = kept.nodes ∙ was.nodes_are;
      rise = subst LinesRise (sym kept.events) was.rise;
      few = was.few;
      named = subst (λ (es : List LogEvent). HaveNames es c.self.inside.details.nodes) (sym kept.events) was.named;
    }

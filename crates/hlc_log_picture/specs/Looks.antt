-- How dots tell what is found of a stamp.
use Rattle.std.specs.Prelude.{Option, Some, None}
use Rattle.hlc_causes.specs.declared.answers.Finding.{Finding}
use Rattle.hlc_causes.specs.declared.answers.Finding.TheVariants.{Judged, RolledOver}
use Rattle.hlc_svg.specs.declared.look.Form.{Form}
use Rattle.hlc_svg.specs.declared.look.Form.TheVariants as form
use Rattle.hlc_svg.specs.declared.look.Look.{Look}
use Rattle.hlc_verdict.specs.declared.verdict.Verdict.TheVariants as verdict
use Rattle.hlc_log_picture.specs.declared.event_finding.EventFinding.{EventFinding}

-- the form of a dot, which has its own colour: one for each verdict, and one for stamps that rolled over
abbrev pub form_of : Finding → Form
form_of (Judged verdict.Least) = form.Pill
form_of (Judged verdict.Behind) = form.Dip
form_of (Judged (verdict.NotAbove d)) = form.Box
form_of (Judged (verdict.Low least)) = form.Slant
form_of (Judged (verdict.Ahead least)) = form.Peak
form_of RolledOver = form.Hexagon

-- the form of a dot by what is found of its stamp, of which nothing is if the log doesn't tell it
abbrev pub form_of_found : Option Finding → Form
form_of_found None = form.Pill
form_of_found (Some found) = form_of found

-- causes have a ring
abbrev pub look_of : EventFinding → Look
look_of event_finding = record { form = form_of_found event_finding.finding; is_ringed = event_finding.is_cause }

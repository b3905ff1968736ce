use Rattle.std.proofs.Common.{◌≡◌, ◌+◌, ◌-◌, length, arith, ap, ◌∙◌}
use Rattle.hlc_stamp.specs.Order.{zero_pair}
use Rattle.hlc_causality.proofs.Forcing.{forcing_event_is_earlier}
use Rattle.hlc_explain.specs.declared.answers.Summary.{Summary}
use Rattle.hlc_explain.specs.Summaries.{origin_of}
use Rattle.hlc_explain.proofs.ForcingSteps.{forcing_exists}
use Rattle.hlc_explain.proofs.Origins.{forced_origin, own_origin}
use Rattle.hlc_explain.proofs.summaries.origin_in_range.Goals as goal

pub returns-in-None-clause-origin : goal.returns-in-None-clause-origin
returns-in-None-clause-origin c =
    own_origin c.args.execution.now.events c.args.execution.now.stamps c.args.event.0 c.requires.exists (c.in-None.ensures.ticking c.requires.ticking)

pub returns-in-Some-clause-origin : goal.returns-in-Some-clause-origin
returns-in-Some-clause-origin c =
    let s = c.args.execution.now.events in
    let pairs = c.args.execution.now.stamps in
    let exists = c.requires.exists in
    let before = c.in-Some.before.0 in
    let first = c.args.event.0 - length c.args.finished.now in
    let within = c.requires.range in
    let from = c.if-before-first.true in
    let forces = c.in-Some.ensures.ticking c.requires.ticking in
    let earlier = forcing_event_is_earlier s pairs before c.args.event.0 forces in
    let other : Summary = record { origin = record { 0 = 0 }; stamp = zero_pair; ahead = 0 } in
    let place : first + (before - first) ≡ before = omega arith in
    ap (λ (x : Summary). x.origin.0) (c.requires.finished (before - first) other (omega arith))
    ∙ ap (origin_of s pairs) place
    ∙ forced_origin s pairs before c.args.event.0 (forcing_exists s pairs before c.args.event.0 exists forces) exists forces

pub returns-in-Some-2-clause-origin : goal.returns-in-Some-2-clause-origin
returns-in-Some-2-clause-origin c =
    let s = c.args.execution.now.events in
    let pairs = c.args.execution.now.stamps in
    let exists = c.requires.exists in
    let before = c.in-Some.before.0 in
    let forces = c.in-Some.ensures.ticking c.requires.ticking in
    c.origin.ensures.origin
    ∙ forced_origin s pairs before c.args.event.0 (forcing_exists s pairs before c.args.event.0 exists forces) exists forces

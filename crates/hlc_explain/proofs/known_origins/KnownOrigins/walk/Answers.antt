use Rattle.std.proofs.Common.{◌<◌, length, arith, ◌∙◌}
use Rattle.hlc_causality.proofs.Forcing.{forcing_event_is_earlier}
use Rattle.hlc_explain.specs.Summaries.{origin_of}
use Rattle.hlc_explain.proofs.KnownOrigins.{known_no_later, known_origin}
use Rattle.hlc_explain.proofs.Origins.{forced_origin, own_origin}
use Rattle.hlc_explain.proofs.known_origins.KnownOrigins.walk.Goals as goal

pub loop-before-init : goal.loop-before-init
loop-before-init c =
    let s = c.args.execution.now.events in
    let pairs = c.args.execution.now.stamps in
    let origins = c.args.self.now.origins.items in
    let at = c.known-at.ensures in
    let within = c.requires.exists in
    let before = known_no_later s pairs origins c.requires.known c.args.event.0 within in
    record {
      exists = omega arith;
      origin = (λ i. origin_of s pairs (at i)) ∙ known_origin s pairs origins c.requires.known c.args.event.0 within;
    }

pub loop-before-smaller : goal.loop-before-smaller
loop-before-smaller c =
    let s = c.args.execution.now.events in
    let pairs = c.args.execution.now.stamps in
    let within = c.loop-before.invariant.exists in
    let earlier = forcing_event_is_earlier s pairs c.in-Some.before.0 c.loop-before.at.0 (c.in-Some.ensures.ticking c.requires.ticking) in
    let before = known_no_later s pairs c.args.self.now.origins.items c.requires.known c.in-Some.before.0 (omega arith) in
    let at = c.known-at-in-Some.ensures in
    omega arith

pub loop-before-preserved : goal.loop-before-preserved
loop-before-preserved c =
    let s = c.args.execution.now.events in
    let pairs = c.args.execution.now.stamps in
    let origins = c.args.self.now.origins.items in
    let h = c.loop-before.invariant in
    let within = h.exists in
    let forces = c.in-Some.ensures.ticking c.requires.ticking in
    let earlier = forcing_event_is_earlier s pairs c.in-Some.before.0 c.loop-before.at.0 forces in
    let exists : c.in-Some.before.0 < length s = omega arith in
    let before = known_no_later s pairs origins c.requires.known c.in-Some.before.0 exists in
    let at = c.known-at-in-Some.ensures in
    record {
      exists = omega arith;
      origin =
          (λ i. origin_of s pairs (at i))
          ∙ known_origin s pairs origins c.requires.known c.in-Some.before.0 exists
          ∙ forced_origin s pairs c.in-Some.before.0 c.loop-before.at.0 exists within forces
          ∙ h.origin;
    }

pub returns : goal.returns
returns c =
    let s = c.args.execution.now.events in
    let pairs = c.args.execution.now.stamps in
    let h = c.loop-before.invariant in
    own_origin s pairs c.loop-before.at.0 h.exists (c.in_default.ensures.ticking c.requires.ticking) ∙ h.origin

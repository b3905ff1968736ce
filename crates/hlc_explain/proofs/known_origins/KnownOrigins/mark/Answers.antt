use Rattle.std.proofs.Common.{◌<◌, length, arith, sym, ◌∙◌}
use Rattle.hlc_causality.proofs.Forcing.{forcing_event_is_earlier}
use Rattle.hlc_explain.proofs.KnownOrigins.{marked}
use Rattle.hlc_explain.proofs.Origins.{forced_origin}
use Rattle.hlc_explain.proofs.known_origins.KnownOrigins.mark.Goals as goal

pub loop-origin-preserved : goal.loop-origin-preserved
loop-origin-preserved c =
    let s = c.args.execution.now.events in
    let pairs = c.args.execution.now.stamps in
    let h = c.loop-origin.invariant in
    let at = c.loop-origin.at.0 in
    let within = h.exists in
    let forces = c.in-Some.ensures.ticking c.requires.ticking in
    let earlier = forcing_event_is_earlier s pairs c.in-Some.before.0 at forces in
    let exists : c.in-Some.before.0 < length s = omega arith in
    record {
      exists = exists;
      origin = h.origin ∙ sym (forced_origin s pairs c.in-Some.before.0 at exists within forces);
      known = marked s pairs c.loop-origin.self.origins.items h.known at c.args.origin (c.is_unknown.ensures c.loop-origin-test.true) h.origin;
    }

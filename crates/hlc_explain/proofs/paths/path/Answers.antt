use Rattle.std.proofs.Common.{◌∙◌, ◌<◌, length, arith, ap}
use Rattle.hlc_stamp.specs.declared.id.EventId.{EventId}
use Rattle.hlc_explain.specs.Paths.{path_of}
use Rattle.hlc_explain.proofs.PathLengths.{found_shortest}
use Rattle.hlc_explain.proofs.paths.path.Goals as goal

pub returns-clause-shortest : goal.returns-clause-shortest
returns-clause-shortest c =
    let s = c.args.execution.now.events in
    let second = c.args.second.0 in
    let exists : second < length s = omega (arith, c.if-second-len.false, c.len-len.ensures.value) in
    found_shortest s c.args.first.0 second c.in_ok-path.path exists
    (c.in_ok-path.ensures ∙ ap (λ (x : EventId). path_of s x.0 second) c.in_ok-lengths.ensures.first)

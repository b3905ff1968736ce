use Rattle.std.proofs.Common.{◌<◌, ◌≤◌, rules}
use Rattle.std.proofs.lemmas.Result.{on_ok_weaker}
use Rattle.hlc_svg.specs.Path.{lanes_of}
use Rattle.hlc_svg.proofs.PathTexts.{way_begins, way_crosses, way_ends}
use Rattle.hlc_svg.proofs.route.put_way.Goals as goal

pub loop-place-init : goal.loop-place-init
loop-place-init c = way_begins c.args.route c.start-start.result _ _ c.start-start.ensures c.in_ok-write.ensures.bytes

pub loop-place-preserved : goal.loop-place-preserved
loop-place-preserved c =
    let within : c.loop-place.place < lanes_of c.args.route = search rules in
    way_crosses c.args.route c.loop-place.place _ _ _ _ within c.loop-place.invariant c.in_ok-put_crossing.ensures

pub returns : goal.returns
returns c =
    let past : lanes_of c.args.route ≤ c.loop-place.place = search rules in
    on_ok_weaker c.write-2.result
    (λ is. way_ends c.args.route c.end-end.result c.loop-place.place _ _ _ c.end-end.ensures past c.loop-place.invariant is)
    c.write-2.ensures.bytes

use Rattle.std.proofs.Common.{◌≡◌, ◌-◌, ◌++◌, [], string_bytes}
use Rattle.hlc_svg.specs.Path.{lanes_of, points_text, way_of}
use Rattle.hlc_svg.proofs.PathTexts.{rest_text}
use Rattle.hlc_svg.proofs.route.put_way.Given as goal

-- what is written so far, with the rest of the way, is the whole
abbrev pub invariant-loop-place : goal.invariant-loop-place
invariant-loop-place l =
    string_bytes l.text ++ rest_text l.route l.place (lanes_of l.route - l.place) [] ≡ string_bytes l.fn.text ++ points_text (way_of l.route)

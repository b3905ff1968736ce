use Rattle.std.proofs.Common.{◌≡◌, drop}
use Rattle.csv.specs.Records.{fields_of}
use Rattle.hlc_log_text.specs.Question.{locations_in}
use Rattle.hlc_log_text.proofs.ListedLocations.{with_rest}
use Rattle.hlc_log_text.proofs.question.read_locations.Given as goal

-- those so far, with those that are to come, are all
abbrev pub invariant-loop-place : goal.invariant-loop-place
invariant-loop-place l =
    let fields = fields_of l.fields in
    with_rest l.found.items (locations_in (drop l.place fields)) ≡ locations_in (drop l.fn.start fields)

use Rattle.std.proofs.Common.{◌∙◌, ◌≤◌, ◌<◌, ◌+◌, List, Option, ap, arith, drop, length, sym}
use Rattle.csv.specs.Records.{fields_of}
use Rattle.hlc_log_text.specs.Question.{location_before, locations_in}
use Rattle.hlc_log_text.specs.declared.location.Location.{Location}
use Rattle.hlc_log_text.proofs.ListedLocations.{locations_in-at, locations_in-end, with_rest, with_rest-none, with_rest-push}
use Rattle.hlc_log_text.proofs.question.read_locations.Goals as goal

pub loop-place-init : goal.loop-place-init
loop-place-init c = rw c.new-found.ensures.items (with_rest-none (locations_in (drop c.args.start (fields_of c.args.fields.now))))

pub loop-place-preserved : goal.loop-place-preserved
loop-place-preserved c =
    let fields = fields_of c.args.fields.now in
    let within : c.loop-place.place < length fields = omega (arith, c.len-place-end.ensures, c.loop-place-test.true) in
    let rest = locations_in (drop (c.loop-place.place + 1) fields) in
    let found = c.loop-place.found.items in
    let here = locations_in-at fields c.loop-place.place within in
    let one = sym c.in-Some.is ∙ c.in_ok-location.ensures in
    ap (λ (list : List Location). with_rest list rest) c.in_ok-push.ensures.items ∙ sym (with_rest-push found c.in-Some.location rest)
    ∙ ap (λ (o : Option Location). with_rest found (location_before o rest)) one
    ∙ sym (ap (λ (o : Option (List Location)). with_rest found o) here) ∙ c.loop-place.invariant

pub returns-in_default : goal.returns-in_default
returns-in_default c =
    let fields = fields_of c.args.fields.now in
    let within : c.loop-place.place < length fields = omega (arith, c.len-place-end.ensures, c.loop-place-test.true) in
    let rest = locations_in (drop (c.loop-place.place + 1) fields) in
    let found = c.loop-place.found.items in
    let here = locations_in-at fields c.loop-place.place within in
    let none = sym c.in_default.is ∙ c.in_ok-location.ensures in
    ap (λ (o : Option Location). with_rest found (location_before o rest)) none
    ∙ sym (ap (λ (o : Option (List Location)). with_rest found o) here) ∙ c.loop-place.invariant

pub returns : goal.returns
returns c =
    let fields = fields_of c.args.fields.now in
    let beyond : length fields ≤ c.loop-place.place = omega (arith, c.len-place-end.ensures, c.loop-place-test.false) in
    sym (locations_in-end fields c.loop-place.place c.loop-place.found.items beyond) ∙ c.loop-place.invariant

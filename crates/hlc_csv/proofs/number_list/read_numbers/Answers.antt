use Rattle.std.proofs.Common.{◌∙◌, ◌≤◌, ◌<◌, ◌+◌, List, ℕ, Option, ap, arith, drop, length, refl, sym}
use Rattle.std.proofs.iter.Next.{says_at}
use Rattle.csv.specs.Records.{fields_of}
use Rattle.hlc_csv.specs.NumberList.{number_before, numbers_in}
use Rattle.hlc_csv.proofs.ListedNumbers.{numbers_in-at, numbers_in-end, with_rest, with_rest-none, with_rest-push}
use Rattle.hlc_csv.proofs.number_list.read_numbers.Goals as goal

pub loop-place-init : goal.loop-place-init
loop-place-init g c =
    λ value number reads. rw c.new-numbers.ensures.items (with_rest-none value (numbers_in number (drop c.args.start (fields_of c.args.fields.now))))

pub loop-place-preserved : goal.loop-place-preserved
loop-place-preserved g c =
    λ value number reads.
    let fields = fields_of c.args.fields.now in
    let within : c.loop-place.place < length fields = omega (arith, c.len-place-end.ensures, c.loop-place-test.true) in
    let rest = numbers_in number (drop (c.loop-place.place + 1) fields) in
    let numbers = c.loop-place.numbers.items in
    let here = numbers_in-at number fields c.loop-place.place within in
    let found = reads _ _ (says_at g.F.Fn c.in-Some.ensures refl) ∙ ap number c.field.ensures in
    ap (λ (list : List g.row.N.Denot). with_rest value list rest) c.in_ok-push.ensures.items ∙ sym (with_rest-push value numbers c.in-Some.number rest)
    ∙ ap (λ (o : Option ℕ). with_rest value numbers (number_before o rest)) found
    ∙ sym (ap (λ (o : Option (List ℕ)). with_rest value numbers o) here) ∙ c.loop-place.invariant value number reads

pub returns-in_default : goal.returns-in_default
returns-in_default g c =
    λ value number reads.
    let fields = fields_of c.args.fields.now in
    let within : c.loop-place.place < length fields = omega (arith, c.len-place-end.ensures, c.loop-place-test.true) in
    let rest = numbers_in number (drop (c.loop-place.place + 1) fields) in
    let numbers = c.loop-place.numbers.items in
    let here = numbers_in-at number fields c.loop-place.place within in
    let none = reads _ _ (says_at g.F.Fn c.in_default.ensures refl) ∙ ap number c.field.ensures in
    ap (λ (o : Option ℕ). with_rest value numbers (number_before o rest)) none
    ∙ sym (ap (λ (o : Option (List ℕ)). with_rest value numbers o) here) ∙ c.loop-place.invariant value number reads

pub returns : goal.returns
returns g c =
    λ value number reads.
    let fields = fields_of c.args.fields.now in
    let beyond : length fields ≤ c.loop-place.place = omega (arith, c.len-place-end.ensures, c.loop-place-test.false) in
    sym (numbers_in-end value number fields c.loop-place.place c.loop-place.numbers.items beyond) ∙ c.loop-place.invariant value number reads

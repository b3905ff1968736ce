use Rattle.std.proofs.Common.{◌≡◌, ◌∙◌, ◌<◌, ◌≤◌, [], ap, arith, map, refl, sym}
use Rattle.std.specs.Prelude.{Ok}
use Rattle.csv.specs.Records.{fields_of}
use Rattle.hlc_trace.proofs.TraceFacts.{claims_so_far-bad, claims_so_far-ended, claims_so_far-more, claims_so_far-stopped}
use Rattle.hlc_trace.proofs.trace.read_records.Goals as goal

pub loop-count-init : goal.loop-count-init
loop-count-init g c = (
  c.requires.script,
  λ bytes start. record {
    records = [];
    script = c.requires.script;
    read = start;
    make = ap (map (λ claim. Ok claim)) (sym c.requires.none_yet);
    counted = refl;
  },
)

pub returns-in-Some : goal.returns-in-Some
returns-in-Some g c = λ bytes start.
    let within : c.loop-count._count ≤ c.args.most = omega arith in
    let so_far = c.loop-count.invariant.1 bytes start in
    claims_so_far-stopped _ bytes _ c.read_next.new.input _ _ (fields_of c.read_next.new.fields) so_far _ c.in-Some.end within
    (rw c.in-Some.is at c.in_ok-end.ensures)

pub returns-in-Err : goal.returns-in-Err
returns-in-Err g c = λ bytes start.
    let below : c.loop-count._count < c.args.most = omega arith in
    let so_far = c.loop-count.invariant.1 bytes start in
    let no_claim = sym c.parse_claim.ensures ∙ c.in-Err.is in
    claims_so_far-bad _ bytes _ c.read_next.new.input _ _ (fields_of c.read_next.new.fields) so_far _ c.in-Err.bad below
    (rw c.in_default.is at c.in_ok-end.ensures) no_claim

pub loop-count-preserved : goal.loop-count-preserved
loop-count-preserved g c =
    let read = rw c.in_default.is at c.in_ok-end.ensures in
    let makes = sym c.parse_claim.ensures ∙ c.in-Ok.is in (
      read.0,
      λ bytes start.
          let so_far = c.loop-count.invariant.1 bytes start in
          claims_so_far-more _ bytes _ _ _ _ (fields_of c.read_next.new.fields) so_far c.in-Ok.claim _ read makes c.in_ok-push-in-Ok.ensures.items,
    )

pub returns : goal.returns
returns g c = λ bytes start.
    let full : c.loop-count._count ≡ c.args.most = omega arith in
    let so_far = c.loop-count.invariant.1 bytes start in
    rw c.unwrap_or.ensures
    (claims_so_far-ended _ bytes _ _ _ _ (fields_of c.read_next-2.new.fields) so_far _ c.in_ok-end-2.end full c.in_ok-end-2.ensures)

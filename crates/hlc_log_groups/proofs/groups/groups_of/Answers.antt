use Rattle.std.proofs.Common.{◌≡◌, ℕ, [], ◌∷◌, ◌++◌, length, arith, subst, sym, ap}
use Rattle.hlc_ordered_log.specs.Found.{AreCausesBefore}
use Rattle.hlc_ordered_log.proofs.PlacedCauses.{causes_push, no_answers}
use Rattle.hlc_log_groups.specs.Groups.{AreGroups, KeyedCauses, keyed_in, total}
use Rattle.hlc_log_groups.proofs.GroupSteps.{no_groups, none_name}
use Rattle.hlc_log_groups.proofs.GroupsSoFar.{keyed_more}
use Rattle.hlc_log_groups.proofs.groups.groups_of.Goals as goal

pub loop-place-init : goal.loop-place-init
loop-place-init c =
    let log = c.args.log.now in
    let none = c.with_hasher-groups.ensures.empty in (
      [],
      no_answers log c.args.full,
      no_groups c.with_hasher-groups.result.entries none,
      none_name (length log.events) c.with_hasher-groups.result.entries none,
      omega (arith, ap total none),
    )

pub add_causes-requires-clause-few : goal.add_causes-requires-clause-few
add_causes-requires-clause-few c =
    let before = c.loop-place.invariant in
    omega (arith, before.4, c.len-place-end.ensures.ordered.few, c.len-place-end.ensures.value)

pub loop-place-preserved : goal.loop-place-preserved
loop-place-preserved c =
    let log = c.args.log.now in
    let before = c.loop-place.invariant in
    let place = c.loop-place.place in
    let found = c.causes_of-found.result in
    let added = c.in_ok-add_causes.ensures in (
      before.0 ++ found ∷ [],
      causes_push log c.args.full place before.0 found before.1 c.causes_of-found.ensures.causes,
      subst (λ (causes : KeyedCauses). AreGroups causes c.add_causes.new.groups.entries) (sym (keyed_more log place before.0 found before.1.one_each))
          (added.added (keyed_in log place before.0) before.2),
      added.places before.3,
      omega (arith, added.total, before.4),
    )

pub returns-clause-groups : goal.returns-clause-groups
returns-clause-groups c =
    let log = c.args.log.now in
    let told = c.loop-place.invariant in
    let all : c.loop-place.place ≡ length log.events = omega (arith, c.len-place-end.ensures.value) in (
      told.0,
      subst (λ (n : ℕ). AreCausesBefore log c.args.full n told.0) all told.1,
      subst (λ (n : ℕ). AreGroups (keyed_in log n told.0) c.loop-place.groups.entries) all told.2,
    )

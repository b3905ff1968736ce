use Rattle.std.proofs.Common.{◌≡◌, ◌∙◌, ◌++◌, ◌∷◌, ℕ, [], append-nil, append_assoc, ap, flat_map, length, refl, rules, subst, sym}
use Rattle.std.proofs.lemmas.List.Elements.{All-head, All-tail}
use Rattle.hlc_ordered_log.specs.InOrder.{LogInOrder}
use Rattle.hlc_log_text.proofs.RowsAdded.{adds_none, adds_rows}
use Rattle.hlc_log_groups.specs.GroupRows.{group_rows}
use Rattle.hlc_log_groups.specs.Groups.{AreGroupsOf, Groups, NameBefore, NamesBefore}
use Rattle.hlc_log_groups.specs.declared.cause_group.CauseGroup.{CauseGroup}
use Rattle.hlc_log_groups.specs.declared.group_key.GroupKey.{GroupKey}
use Rattle.hlc_log_groups.proofs.group_rows.push_groups.Goals as goal

pub loop-common-init : goal.loop-common-init
loop-common-init g c =
    let log = c.args.log.now in
    let groups = c.in_ok-groups.groups.entries in
    let same : groups ≡ c.into_iter-common-iterator.result = search rules in
    let are : AreGroupsOf log.log log.full groups =
    subst (λ (full : ℕ). AreGroupsOf log.log full groups) c.full.ensures
    (subst (λ (log : LogInOrder). AreGroupsOf log c.full.result groups) c.ordered.ensures.value c.in_ok-groups.ensures.groups) in
    let name : NameBefore (length log.log.events) groups =
    subst (λ (log : LogInOrder). NameBefore (length log.events) groups) c.ordered.ensures.value c.in_ok-groups.ensures.places in (
      [],
      subst (AreGroupsOf log.log log.full) same are,
      subst (NameBefore (length log.log.events)) same name,
      adds_none (g.W.Write.contents c.args.writer.now) c.args.rows.now,
    )

-- the group that comes next
module _ (n : ℕ) (rest next : Groups) (here : GroupKey × CauseGroup) (steps : rest ≡ here ∷ next) (name : NameBefore n rest) where
  all : NameBefore n (here ∷ next)
  all = subst (NameBefore n) steps name

  names_here : NamesBefore n here.1
  names_here = All-head (λ (group : GroupKey × CauseGroup). NamesBefore n group.1) here next all

  name_next : NameBefore n next
  name_next = All-tail (λ (group : GroupKey × CauseGroup). NamesBefore n group.1) here next all

pub push_told-requires : goal.push_told-requires
push_told-requires g c =
    let here : GroupKey × CauseGroup = (c.in-Some.common.now, c.in-Some.group.now) in
    names_here (length c.args.log.now.log.events) c.loop-common.common-iterator c.next.new.self here c.in-Some.ensures.steps c.loop-common.invariant.2

pub loop-common-preserved : goal.loop-common-preserved
loop-common-preserved g c =
    let told = c.loop-common.invariant in
    let log = c.args.log.now in
    let next = c.next.new.self in
    let here : GroupKey × CauseGroup = (c.in-Some.common.now, c.in-Some.group.now) in
    let same : told.0 ++ c.loop-common.common-iterator ≡ (told.0 ++ here ∷ []) ++ next =
    ap (λ (rest : Groups). told.0 ++ rest) c.in-Some.ensures.steps ∙ sym (append_assoc told.0 (here ∷ []) next) in (
      told.0 ++ here ∷ [],
      subst (AreGroupsOf log.log log.full) same told.1,
      name_next (length log.log.events) c.loop-common.common-iterator next here c.in-Some.ensures.steps told.2,
      adds_rows _ _ _ _ _ _ (group_rows c.args.told log) told.0 here told.3 c.in_ok-push_told.ensures,
    )

pub returns : goal.returns
returns g c =
    let told = c.loop-common.invariant in
    let log = c.args.log.now in
    let all : told.0 ++ c.loop-common.common-iterator ≡ told.0 = ap (λ (rest : Groups). told.0 ++ rest) c.in-None.ensures.steps.0 ∙ append-nil told.0 in
    (flat_map (group_rows c.args.told log) told.0, (told.0, subst (AreGroupsOf log.log log.full) all told.1, refl), told.3)

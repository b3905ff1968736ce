use Rattle.std.proofs.Common.{◌≡◌, ◌∙◌, sym, ap, ◌<◌, ◌++◌, ◌-◌, ◌^◌, Option, Some, append-nil, arith, cond, subst}
use Rattle.std.specs.Prelude.{IfSome, option_to_list}
use Rattle.std.specs.Map.{lookup}
use Rattle.indexmap.specs.IndexMap.{insert_entry}
use Rattle.hlc_log_groups.specs.Groups.{AreGroups, Groups, KeyedCause, KeyedCauses, NameBefore, NamesEventsBefore, is_same_key, total, with_cause}
use Rattle.hlc_log_groups.specs.declared.cause_group.CauseGroup.{CauseGroup}
use Rattle.hlc_log_groups.specs.declared.cause_place.CausePlace.{CausePlace}
use Rattle.hlc_log_groups.specs.declared.group_key.GroupKey.{GroupKey}
use Rattle.hlc_log_groups.proofs.GroupSteps.{few_found, groups_more, name_more, none_listed, total_more}
use Rattle.hlc_log_groups.proofs.groups.add_cause.Goals as goal
use Rattle.hlc_log_groups.proofs.groups.add_cause.Goals.{In_ok-insert}

pub with_cause-group-requires : goal.with_cause-group-requires
with_cause-group-requires c =
    subst (λ (g : Option CauseGroup). IfSome g (λ g. g.causes < 2 ^ 32 - 1)) (sym (c.copied.ensures ∙ c.get.ensures.value))
    (few_found c.in-Some.key c.in-Some.place (2 ^ 32 - 1) c.args.groups.now.entries c.requires.few)

-- with no cause nothing is added
pub returns-in_default-clause-added : goal.returns-in_default-clause-added
returns-in_default-clause-added c causes are =
    subst (λ (cs : KeyedCauses). AreGroups cs c.args.groups.now.entries)
    (sym (ap (λ (cs : KeyedCauses). causes ++ cs) (none_listed c.args.cause c.in_default.not-Some) ∙ append-nil causes)) are

module _ (c : In_ok-insert) where
  abbrev groups : Groups
  groups = c.args.groups.now.entries

  abbrev k : GroupKey
  k = c.in-Some.key

  abbrev place : CausePlace
  place = c.in-Some.place

  grown : c.with_cause-group.result ≡ with_cause (lookup (is_same_key k) groups) place
  grown = c.with_cause-group.ensures ∙ ap (λ (g : Option CauseGroup). with_cause g place) (c.copied.ensures ∙ c.get.ensures.value)

  becomes : c.insert.new.self.entries ≡ insert_entry is_same_key groups k (with_cause (lookup (is_same_key k) groups) place)
  becomes = c.in_ok-insert.ensures.entries ∙ ap (insert_entry is_same_key groups k) grown

pub returns-clause-added : goal.returns-clause-added
returns-clause-added c causes are =
    subst (λ (cause : Option KeyedCause). AreGroups (causes ++ option_to_list cause) c.insert.new.self.entries) (sym c.in-Some.is)
    (groups_more (k c) (place c) causes (groups c) c.insert.new.self.entries are (becomes c)
    (λ key. c.in_ok-insert.ensures.updates.0 key
    ∙ ap (λ (g : CauseGroup). (let o : Option CauseGroup = cond (is_same_key (k c) key) (Some g) (lookup (is_same_key key) (groups c)) in o)) (grown c)))

pub returns-clause-total : goal.returns-clause-total
returns-clause-total c = omega (arith, ap total (becomes c), total_more (k c) (place c) (groups c))

pub returns-clause-places : goal.returns-clause-places
returns-clause-places c n here all =
    let names : NamesEventsBefore n (place c) = rw c.in-Some.is at here in
    subst (NameBefore n) (sym (becomes c)) (name_more (k c) (place c) n (groups c) names all)

-- The causes of a log in groups.
use Rattle.std.specs.Prelude.{◌≡◌, ◌==◌, ◌&&◌, Bool, ℕ, ◌+◌, ◌<◌, All, List, [], ◌∷◌, ◌++◌, Option, Some, None, codes, IfSome, filter, fold, if◌then◌else◌, is_some, length, map, option_map, slice_get, slice_index_or, sum_by}
use Rattle.std.specs.Bool.{then_some}
use Rattle.std.specs.List.{flat_map, list_any}
use Rattle.std.specs.Map.{keys_of, lookup}
use Rattle.std.specs.Option.{option_eq, option_or, option_to_list}
use denote.Enum.Bare.{sameb}
use Rattle.hlc_stamp.specs.declared.id.EventId.{EventId}
use Rattle.hlc_causality.specs.Places.{places_below}
use Rattle.hlc_causes.specs.Causes.{no_causes}
use Rattle.hlc_causes.specs.declared.answers.Causes.{Causes}
use Rattle.hlc_log.specs.Events.{event_at}
use Rattle.hlc_log.specs.OrderSkeleton.{index_in}
use Rattle.hlc_ordered_log.specs.InOrder.{LogInOrder, event_in_order}
use Rattle.hlc_ordered_log.specs.Found.{AreCausesBefore, wrong_at}
use Rattle.hlc_log_groups.specs.Followed.{followed_in}
use Rattle.hlc_log_groups.specs.contracts.broken_rule.BrokenRule.{the_type}
use Rattle.hlc_log_groups.specs.declared.broken_rule.BrokenRule.{BrokenRule}
use Rattle.hlc_log_groups.specs.declared.broken_rule.BrokenRule.TheVariants as rule
use Rattle.hlc_log_groups.specs.declared.cause_group.CauseGroup.{CauseGroup}
use Rattle.hlc_log_groups.specs.declared.cause_place.CausePlace.{CausePlace}
use Rattle.hlc_log_groups.specs.declared.group_key.GroupKey.{GroupKey}

-- the word of a rule, as the rows of causes have it
abbrev pub rule_word : BrokenRule → List ℕ
rule_word rule.Behind = codes "behind"
rule_word rule.NotAbove = codes "not-above"
rule_word rule.Ahead = codes "ahead"
rule_word rule.Carried = codes "carried"

-- whether two rules are the same
abbrev pub is_same_rule : BrokenRule → BrokenRule → Bool
is_same_rule = sameb the_type

-- whether two keys are the same
abbrev pub is_same_key : GroupKey → GroupKey → Bool
is_same_key a b = (a.node.0 == b.node.0) && (is_same_rule a.rule b.rule && option_eq (λ x y. x.0 == y.0) a.of b.of)

-- a cause, by the key of its group and by where it stands
abbrev pub KeyedCause : Type 0
KeyedCause = GroupKey × CausePlace

-- some causes
abbrev pub KeyedCauses : Type 0
KeyedCauses = List KeyedCause

-- groups by their keys
abbrev pub Groups : Type 0
Groups = List (GroupKey × CauseGroup)

-- a group with one cause more, which stands at a place, and is kept if it is one of the first three; or one that has this cause alone
abbrev pub with_cause : Option CauseGroup → CausePlace → CauseGroup
with_cause None place = record { causes = 1; first = place; second = None; third = None }
with_cause (Some group) place = record {
  causes = group.causes + 1;
  first = group.first;
  second = option_or group.second (Some place);
  third = if is_some group.second then option_or group.third (Some place) else None;
}

-- where the causes of a key stand
abbrev pub places_with : KeyedCauses → GroupKey → List CausePlace
places_with causes key = map (λ cause. cause.1) (filter (λ cause. is_same_key key cause.0) causes)

-- the group of causes that stand at some places: how many they are, and the first three; None if there are none
abbrev pub group_at : List CausePlace → Option CauseGroup
group_at [] = None
group_at (first ∷ more) = Some (record { causes = length (first ∷ more); first = first; second = slice_get more 0; third = slice_get more 1 })

-- what the group of a key has of some causes
abbrev pub group_of : KeyedCauses → GroupKey → Option CauseGroup
group_of causes key = group_at (places_with causes key)

-- a key more, if it isn't there
abbrev pub with_key : List GroupKey → GroupKey → List GroupKey
with_key keys key = if list_any (is_same_key key) keys then keys else keys ++ key ∷ []

-- the keys of some causes, each once, in the order in which the causes first have them
abbrev pub keys_in : KeyedCauses → List GroupKey
keys_in causes = fold (λ keys cause. with_key keys cause.0) [] causes

-- how many causes some groups have together
abbrev pub total : Groups → ℕ
total groups = sum_by (λ group. group.1.causes) groups

-- these are the groups of some causes: one for each key that they have, in the order of the first cause of each; and together they have as many
-- causes as there are
pub record AreGroups (causes : KeyedCauses) (groups : Groups) : Type 0 where
  pub order : keys_of groups ≡ keys_in causes
  pub each : (key : GroupKey) → lookup (is_same_key key) groups ≡ group_of causes key
  pub all : total groups ≡ length causes

-- a cause names events that are among the first n: its own, and the one with which its rule compares
abbrev pub NamesEventsBefore : (n : ℕ) → CausePlace → Type 0
NamesEventsBefore n place = (place.event.0 < n) × IfSome place.compared (λ d. d.0 < n)

-- so do the first three causes of a group
pub record NamesBefore (n : ℕ) (group : CauseGroup) : Type 0 where
  pub first : NamesEventsBefore n group.first
  pub second : IfSome group.second (NamesEventsBefore n)
  pub third : IfSome group.third (NamesEventsBefore n)

-- so do those of each group
abbrev pub NameBefore : (n : ℕ) → Groups → Type 0
NameBefore n groups = All (λ group. NamesBefore n group.1) groups

-- a cause at a place of a log, by the rule that is broken, and by the event whose stamp the rule compares with, if it compares with that of an event
abbrev pub cause_at : LogInOrder → (e : ℕ) → BrokenRule → (compared : Option EventId) → KeyedCause
cause_at log e broken compared = (
  record { node = (event_at log.events e).node; rule = broken; of = option_map (λ d. (event_in_order log.events log.order d.0).node) compared },
  record { event = record { 0 = e }; compared = compared },
)

-- an event by its position, if there is one
abbrev pub id_of : Option ℕ → Option EventId
id_of position = option_map (λ k. record { 0 = k }) position

-- the causes at a place of a log: one for each rule that its event breaks, and one if its message carried another stamp than its send
abbrev pub keyed_at : LogInOrder → (e : ℕ) → Causes → KeyedCauses
keyed_at log e causes =
    option_to_list (then_some causes.behind (cause_at log e rule.Behind None))
    ++ (option_to_list (option_map (λ d. cause_at log e rule.NotAbove (Some d)) causes.not_above_previous)
    ++ (option_to_list (option_map (λ d. cause_at log e rule.NotAbove (Some d)) causes.not_above_send)
    ++ (option_to_list (option_map (λ p. cause_at log e rule.Ahead (id_of (followed_in log (index_in log.order e)))) causes.ahead)
    ++ option_to_list (option_map (λ d. cause_at log e rule.Carried (Some d)) (id_of (wrong_at log e))))))

-- those of the first n events, in the order of the lines
abbrev pub keyed_in : LogInOrder → (n : ℕ) → List Causes → KeyedCauses
keyed_in log n causes = flat_map (λ e. keyed_at log e (slice_index_or causes e no_causes)) (places_below n)

-- these are the groups of the causes of the first n events of a log
abbrev pub AreGroupsBefore : LogInOrder → (full n : ℕ) → Groups → Type 0
AreGroupsBefore log full n groups = (causes : List Causes) × AreCausesBefore log full n causes × AreGroups (keyed_in log n causes) groups

-- these are the groups of all causes of a log
abbrev pub AreGroupsOf : LogInOrder → (full : ℕ) → Groups → Type 0
AreGroupsOf log full groups = AreGroupsBefore log full (length log.events) groups

-- The groups of some causes, and of one more.
use Rattle.std.proofs.Common.{◌≡◌, ◌∙◌, Bool, true, false, cond, ℕ, ◌+◌, ◌<◌, ◌||◌, ◌&&◌, ◌==◌, eq-eqb, eqb-true, inl, inr, List, [], ◌∷◌, ◌++◌, Option, Some, None, append-nil, arith, length, length-append, refl, subst, sym, ap}
use Rattle.std.specs.Prelude.{IfSome, filter, if◌then◌else◌, is_some, map, option_to_list}
use Rattle.std.specs.List.{list_any}
use Rattle.std.specs.Map.{keys_of, lookup}
use Rattle.std.specs.Option.{option_eq, option_or}
use Rattle.std.proofs.lemmas.Bool.{and_parts, cases_Bool}
use Rattle.std.proofs.lemmas.List.{append_assoc, length_push, map-append}
use Rattle.std.proofs.lemmas.List.Elements.{All-cons, All-head, All-nil, All-tail, filter-append}
use Rattle.std.proofs.lemmas.List.Sums.{fold-append, sum_by-cons}
use Rattle.std.specs.Io.KnownBytes.{Appends}
use Rattle.hlc_csv.specs.Rows.{text_of}
use Rattle.indexmap.specs.IndexMap.{insert_entry}
use Rattle.hlc_causality.specs.Neighbours.{place_of}
use Rattle.hlc_stamp.specs.declared.id.EventId.{EventId}
use Rattle.hlc_stamp.specs.declared.id.NodeId.{NodeId}
use Rattle.hlc_log_groups.specs.declared.broken_rule.BrokenRule.{BrokenRule}
use Rattle.hlc_log_groups.specs.declared.broken_rule.BrokenRule.TheVariants.{Behind, NotAbove, Ahead, Carried}
use Rattle.hlc_log_groups.specs.declared.cause_group.CauseGroup.{CauseGroup}
use Rattle.hlc_log_groups.specs.declared.cause_place.CausePlace.{CausePlace}
use Rattle.hlc_log_groups.specs.declared.group_key.GroupKey.{GroupKey}
use Rattle.hlc_log_groups.specs.Groups.{AreGroups, Groups, KeyedCause, KeyedCauses, NameBefore, NamesBefore, NamesEventsBefore, group_at, group_of, id_of, is_same_key, is_same_rule, keys_in, places_with, total, with_cause, with_key}

-- keys are told apart
same_rule : (a b : BrokenRule) → is_same_rule a b ≡ true → a ≡ b
same_rule Behind Behind is = refl
same_rule Behind NotAbove is = absurd cc
same_rule Behind Ahead is = absurd cc
same_rule Behind Carried is = absurd cc
same_rule NotAbove Behind is = absurd cc
same_rule NotAbove NotAbove is = refl
same_rule NotAbove Ahead is = absurd cc
same_rule NotAbove Carried is = absurd cc
same_rule Ahead Behind is = absurd cc
same_rule Ahead NotAbove is = absurd cc
same_rule Ahead Ahead is = refl
same_rule Ahead Carried is = absurd cc
same_rule Carried Behind is = absurd cc
same_rule Carried NotAbove is = absurd cc
same_rule Carried Ahead is = absurd cc
same_rule Carried Carried is = refl

rule_itself : (a : BrokenRule) → is_same_rule a a ≡ true
rule_itself Behind = refl
rule_itself NotAbove = refl
rule_itself Ahead = refl
rule_itself Carried = refl

abbrev is_same_of : Option NodeId → Option NodeId → Bool
is_same_of a b = option_eq (λ x y. x.0 == y.0) a b

same_of : (a b : Option NodeId) → is_same_of a b ≡ true → a ≡ b
same_of None None is = refl
same_of None (Some y) is = absurd cc
same_of (Some x) None is = absurd cc
same_of (Some x) (Some y) is = let same = eqb-true x.0 y.0 is in λ i. Some (record { 0 = same i })

of_itself : (a : Option NodeId) → is_same_of a a ≡ true
of_itself None = refl
of_itself (Some x) = eq-eqb x.0 x.0 refl

pub same_key : (a b : GroupKey) → is_same_key a b ≡ true → a ≡ b
same_key a b is =
    let parts = and_parts (a.node.0 == b.node.0) (is_same_rule a.rule b.rule && is_same_of a.of b.of) is in
    let others = and_parts (is_same_rule a.rule b.rule) (is_same_of a.of b.of) parts.1 in
    let node = eqb-true a.node.0 b.node.0 parts.0 in
    let rule = same_rule a.rule b.rule others.0 in
    let of = same_of a.of b.of others.1 in
    λ i. record { node = record { 0 = node i }; rule = rule i; of = of i }

pub key_itself : (a : GroupKey) → is_same_key a a ≡ true
key_itself a =
    let node : (a.node.0 == a.node.0) ≡ true = eq-eqb a.node.0 a.node.0 refl in
    let rule = rule_itself a.rule in
    let of = of_itself a.of in
    λ i. node i && (rule i && of i)

other_way : (a b : GroupKey) → is_same_key a b ≡ false → is_same_key b a ≡ false
other_way a b differs = elim (cases_Bool (is_same_key b a)) [
  | inl same ↦
      let both : true ≡ false = sym (key_itself a) ∙ sym (ap (is_same_key a) (same_key b a same)) ∙ differs in
      absurd cc
  | inr other ↦ other
]

-- one cause more, of a key and at a place
module _ (k : GroupKey) (place : CausePlace) where
  abbrev one : KeyedCauses
  one = (k, place) ∷ []

  -- what groups become
  abbrev after : Groups → Groups
  after groups = insert_entry is_same_key groups k (with_cause (lookup (is_same_key k) groups) place)

  -- at the first of some groups, or past it
  abbrev at_or_past : (v : CauseGroup) → GroupKey × CauseGroup → Groups → Bool → Groups
  at_or_past v e es b = if b then (e.0, v) ∷ es else e ∷ insert_entry is_same_key es k v

  abbrev found_or : GroupKey × CauseGroup → Groups → Bool → Option CauseGroup
  found_or e es b = cond b (Some e.1) (lookup (is_same_key k) es)

  -- the keys
  key_past : (x : GroupKey) (keys : List GroupKey) → is_same_key k x ≡ false → with_key (x ∷ keys) k ≡ x ∷ with_key keys k
  key_past x keys differs =
      ap (λ (b : Bool). if b || list_any (is_same_key k) keys then x ∷ keys else x ∷ (keys ++ k ∷ [])) differs ∙ by_test (list_any (is_same_key k) keys)
    where
      by_test : (b : Bool) → (if b then x ∷ keys else x ∷ (keys ++ k ∷ [])) ≡ x ∷ (if b then keys else keys ++ k ∷ [])
      by_test true = refl
      by_test false = refl

  keys_inserted : (v : CauseGroup) (groups : Groups) → keys_of (insert_entry is_same_key groups k v) ≡ with_key (keys_of groups) k
  keys_inserted v [] = refl
  keys_inserted v (e ∷ es) = elim (cases_Bool (is_same_key k e.0)) [
    | inl same ↦
        ap (λ (b : Bool). keys_of (at_or_past v e es b)) same
        ∙ sym (ap (λ (b : Bool). if b || list_any (is_same_key k) (keys_of es) then e.0 ∷ keys_of es else e.0 ∷ (keys_of es ++ k ∷ [])) same)
    | inr differs ↦
        ap (λ (b : Bool). keys_of (at_or_past v e es b)) differs
        ∙ ap (λ (keys : List GroupKey). e.0 ∷ keys) (keys_inserted v es)
        ∙ sym (key_past e.0 (keys_of es) differs)
  ]

  pub keys_more : (causes : KeyedCauses) (groups : Groups) → keys_of groups ≡ keys_in causes → keys_of (after groups) ≡ keys_in (causes ++ one)
  keys_more causes groups order =
      keys_inserted (with_cause (lookup (is_same_key k) groups) place) groups
      ∙ ap (λ (keys : List GroupKey). with_key keys k) order
      ∙ sym (fold-append (λ keys cause. with_key keys cause.0) [] causes one)

  -- how many causes there are
  abbrev size : GroupKey × CauseGroup → ℕ
  size group = group.1.causes

  abbrev causes_of : Option CauseGroup → ℕ
  causes_of None = 0
  causes_of (Some group) = group.causes

  total_inserted : (v : CauseGroup) (groups : Groups)
      → total (insert_entry is_same_key groups k v) + causes_of (lookup (is_same_key k) groups) ≡ total groups + v.causes
  total_inserted v [] = let alone = sum_by-cons size (k, v) [] in omega (arith, alone)
  total_inserted v (e ∷ es) = elim (cases_Bool (is_same_key k e.0)) [
    | inl same ↦
        let inserted : total (insert_entry is_same_key (e ∷ es) k v) ≡ total ((e.0, v) ∷ es) = ap (λ (b : Bool). total (at_or_past v e es b)) same in
        let found : causes_of (lookup (is_same_key k) (e ∷ es)) ≡ e.1.causes = ap (λ (b : Bool). causes_of (found_or e es b)) same in
        omega (arith, inserted, found, sum_by-cons size e es, sum_by-cons size (e.0, v) es)
    | inr differs ↦
        let inserted : total (insert_entry is_same_key (e ∷ es) k v) ≡ total (e ∷ insert_entry is_same_key es k v) =
        ap (λ (b : Bool). total (at_or_past v e es b)) differs in
        let found : causes_of (lookup (is_same_key k) (e ∷ es)) ≡ causes_of (lookup (is_same_key k) es) =
        ap (λ (b : Bool). causes_of (found_or e es b)) differs in
        omega (arith, inserted, found, total_inserted v es, sum_by-cons size e es, sum_by-cons size e (insert_entry is_same_key es k v))
  ]

  counted_more : (group : Option CauseGroup) → (with_cause group place).causes ≡ causes_of group + 1
  counted_more None = omega arith
  counted_more (Some group) = refl

  pub total_more : (groups : Groups) → total (after groups) ≡ total groups + 1
  total_more groups =
      let found = lookup (is_same_key k) groups in
      omega (arith, total_inserted (with_cause found place) groups, counted_more found)

  -- no group has more than all
  pub few_found : (n : ℕ) (groups : Groups) → total groups < n → IfSome (lookup (is_same_key k) groups) (λ group. group.causes < n)
  few_found n [] few = tt
  few_found n (e ∷ es) few =
      let all = sum_by-cons size e es in
      by_test (is_same_key k e.0) (omega (arith, all, few)) (few_found n es (omega (arith, all, few)))
    where
      by_test : (b : Bool) → e.1.causes < n → IfSome (lookup (is_same_key k) es) (λ group. group.causes < n) → IfSome (found_or e es b) (λ group. group.causes < n)
      by_test true here there = here
      by_test false here there = there

  -- the events that the first ones name
  or_this : (n : ℕ) (other : Option CausePlace) → NamesEventsBefore n place → IfSome other (NamesEventsBefore n)
      → IfSome (option_or other (Some place)) (NamesEventsBefore n)
  or_this n None here there = here
  or_this n (Some x) here there = there

  if_both : (n : ℕ) (second third : Option CausePlace) → NamesEventsBefore n place → IfSome third (NamesEventsBefore n)
      → IfSome (if is_some second then option_or third (Some place) else None) (NamesEventsBefore n)
  if_both n None third here there = tt
  if_both n (Some x) third here there = or_this n third here there

  names : (n : ℕ) (group : Option CauseGroup) → NamesEventsBefore n place → IfSome group (NamesBefore n) → NamesBefore n (with_cause group place)
  names n None here there = record { first = here; second = tt; third = tt }
  names n (Some group) here there = record {
    first = there.first;
    second = or_this n group.second here there.second;
    third = if_both n group.second group.third here there.third;
  }

  abbrev Names : (n : ℕ) → GroupKey × CauseGroup → Type 0
  Names n group = NamesBefore n group.1

  names_found : (n : ℕ) (groups : Groups) → NameBefore n groups → IfSome (lookup (is_same_key k) groups) (NamesBefore n)
  names_found n [] all = tt
  names_found n (e ∷ es) all = by_test (is_same_key k e.0) (All-head (Names n) e es all) (names_found n es (All-tail (Names n) e es all))
    where
      by_test : (b : Bool) → Names n e → IfSome (lookup (is_same_key k) es) (NamesBefore n) → IfSome (found_or e es b) (NamesBefore n)
      by_test true here there = here
      by_test false here there = there

  name_inserted : (n : ℕ) (v : CauseGroup) (groups : Groups) → NamesBefore n v → NameBefore n groups → NameBefore n (insert_entry is_same_key groups k v)
  name_inserted n v [] here all = All-cons (Names n) (k, v) [] here (All-nil (Names n))
  name_inserted n v (e ∷ es) here all =
      by_test (is_same_key k e.0) (All-head (Names n) e es all) (All-tail (Names n) e es all)
      (name_inserted n v es here (All-tail (Names n) e es all))
    where
      by_test : (b : Bool) → Names n e → NameBefore n es → NameBefore n (insert_entry is_same_key es k v) → NameBefore n (at_or_past v e es b)
      by_test true first rest inserted = All-cons (Names n) (e.0, v) es here rest
      by_test false first rest inserted = All-cons (Names n) e (insert_entry is_same_key es k v) first inserted

  pub name_more : (n : ℕ) (groups : Groups) → NamesEventsBefore n place → NameBefore n groups → NameBefore n (after groups)
  name_more n groups here all =
      name_inserted n (with_cause (lookup (is_same_key k) groups) place) groups (names n (lookup (is_same_key k) groups) here (names_found n groups all)) all

  -- what is told of a key, with one cause more
  module _ (key : GroupKey) where
    abbrev has_key : KeyedCause → Bool
    has_key cause = is_same_key key cause.0

    places_more : (causes : KeyedCauses) → places_with (causes ++ one) key ≡ places_with causes key ++ (if is_same_key key k then place ∷ [] else [])
    places_more causes =
        ap (map (λ (cause : KeyedCause). cause.1)) (filter-append has_key causes one)
        ∙ map-append (λ (cause : KeyedCause). cause.1) (filter has_key causes) (filter has_key one)
        ∙ ap (λ (last : List CausePlace). places_with causes key ++ last) (by_test (is_same_key key k))
      where
        by_test : (b : Bool) → map (λ (cause : KeyedCause). cause.1) (cond b one []) ≡ (if b then place ∷ [] else [])
        by_test true = refl
        by_test false = refl

    -- what is told of another key stays
    pub other_stays : is_same_key key k ≡ false → (causes : KeyedCauses) → group_of (causes ++ one) key ≡ group_of causes key
    other_stays differs causes =
        let places = places_with causes key in
        ap group_at (places_more causes ∙ ap (λ (b : Bool). places ++ (if b then place ∷ [] else [])) differs ∙ append-nil places)

    -- one place more
    group_at-more : (places : List CausePlace) → group_at (places ++ place ∷ []) ≡ Some (with_cause (group_at places) place)
    group_at-more [] = refl
    group_at-more (a ∷ []) = refl
    group_at-more (a ∷ b ∷ []) = refl
    group_at-more (a ∷ b ∷ c ∷ more) =
        let number : length (a ∷ b ∷ c ∷ more ++ place ∷ []) ≡ length (a ∷ b ∷ c ∷ more) + 1 = length_push (a ∷ b ∷ c ∷ more) place in
        λ i. Some (record { causes = number i; first = a; second = Some b; third = Some c })

    -- its own group has one more
    pub own_grows : is_same_key key k ≡ true → (causes : KeyedCauses) → group_of (causes ++ one) key ≡ Some (with_cause (group_of causes key) place)
    own_grows same causes =
        let places = places_with causes key in
        ap group_at (places_more causes ∙ ap (λ (b : Bool). places ++ (if b then place ∷ [] else [])) same) ∙ group_at-more places

-- the groups of one cause more
module _ (k : GroupKey) (place : CausePlace) (causes : KeyedCauses) (groups next : Groups) (are : AreGroups causes groups) where
  abbrev grown : CauseGroup
  grown = with_cause (lookup (is_same_key k) groups) place

  abbrev Grows : Type 0
  Grows = (key : GroupKey) → lookup (is_same_key key) next ≡ cond (is_same_key k key) (Some grown) (lookup (is_same_key key) groups)

  abbrev grown_or : GroupKey → Bool → Option CauseGroup
  grown_or key b = cond b (Some grown) (lookup (is_same_key key) groups)

  by_key : (key : GroupKey) (b : Bool) → is_same_key k key ≡ b → grown_or key (is_same_key k key) ≡ group_of (causes ++ (k, place) ∷ []) key
  by_key key true same =
      let one : k ≡ key = same_key k key same in
      ap (grown_or key) same
      ∙ ap (λ (o : Option CauseGroup). Some (with_cause o place)) (are.each k ∙ ap (group_of causes) one)
      ∙ sym (own_grows k place key (ap (λ (a : GroupKey). is_same_key a k) (sym one) ∙ key_itself k) causes)
  by_key key false differs = ap (grown_or key) differs ∙ are.each key ∙ sym (other_stays k place key (other_way k key differs) causes)

  pub groups_more : next ≡ insert_entry is_same_key groups k grown → Grows → AreGroups (causes ++ (k, place) ∷ []) next
  groups_more is grows = record {
    order = ap keys_of is ∙ keys_more k place causes groups are.order;
    each = λ key. grows key ∙ by_key key (is_same_key k key) refl;
    all = ap total is ∙ total_more k place groups ∙ ap (λ (n : ℕ). n + 1) are.all ∙ sym (length-append causes ((k, place) ∷ []));
  }

-- without a cause nothing is added
pub none_listed : (cause : Option KeyedCause) → ((c : KeyedCause) → cause ≡ Some c → ⊥) → option_to_list cause ≡ []
none_listed None none = refl
none_listed (Some c) none = absurd (none c refl)

-- an event by the position that it has
pub id_of-place_of : (event : Option EventId) → id_of (place_of event) ≡ event
id_of-place_of None = refl
id_of-place_of (Some d) = refl

-- no groups of no causes
pub no_groups : (groups : Groups) → groups ≡ [] → AreGroups [] groups
no_groups groups none = record { order = ap keys_of none; each = λ key. ap (lookup (is_same_key key)) none; all = ap total none }

-- five times more
pub five_more : (causes a b c d e : KeyedCauses) (groups : Groups) → AreGroups (((((causes ++ a) ++ b) ++ c) ++ d) ++ e) groups
    → AreGroups (causes ++ (a ++ (b ++ (c ++ (d ++ e))))) groups
five_more causes a b c d e groups are =
    subst (λ (cs : KeyedCauses). AreGroups cs groups)
    (append_assoc (((causes ++ a) ++ b) ++ c) d e ∙ append_assoc ((causes ++ a) ++ b) c (d ++ e) ∙ append_assoc (causes ++ a) b (c ++ (d ++ e))
    ∙ append_assoc causes a (b ++ (c ++ (d ++ e)))) are

pub none_name : (n : ℕ) (groups : Groups) → groups ≡ [] → NameBefore n groups
none_name n groups none = subst (NameBefore n) (sym none) (All-nil (λ (group : GroupKey × CauseGroup). NamesBefore n group.1))

-- nothing is written if there are no rows
pub appends_none : (a : Option (List ℕ)) → Appends a a (text_of [])
appends_none None = tt
appends_none (Some x) = sym (append-nil x)

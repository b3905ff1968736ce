-- A node's events are in a cut up to a place, and out of it from there on.
use Rattle.std.proofs.Common.{◌≡◌, ◌≢◌, ◌∙◌, ℕ, ◌+◌, ◌-◌, ◌<◌, ◌≤◌, ◌==◌, inl, inr, Bool, true, false, cond, List, [], length, map, arith, refl, sym, subst, ap, Option, Some, None}
use Rattle.std.specs.Prelude.{IfSome}
use Rattle.std.specs.List.{flat_map}
use Rattle.std.proofs.lemmas.Bool.{cases_Bool, cases_eq, cases_lt, ne_eqb}
use Rattle.hlc_stamp.specs.declared.id.EventId.{EventId}
use Rattle.hlc_stamp.specs.Order.{Pair}
use Rattle.hlc_stamp.proofs.OrderLaws.{at_most_from_below, at_most_trans}
use Rattle.hlc_arena.specs.EntryLaws.{StampsRise}
use Rattle.hlc_arena.specs.History.{StampedEvent, event_at, stamp_at}
use Rattle.hlc_arena.specs.Known.{cut_at, everywhere, learnt_at, rows_of_writes, writes_learnt}
use Rattle.hlc_causality.specs.Places.{places_below}
use Rattle.hlc_arena.specs.NodeEvents.{IsEventOf}
use Rattle.hlc_table.specs.NodeWalk.{StandsAt, Walk, place_of_next}
use Rattle.hlc_table.specs.Tables.{rows_before, table_row}
use Rattle.hlc_table.proofs.PlacesGiven.{given_below}
use Rattle.hlc_table.specs.Snapshot.{snapshot_rows}
use Rattle.hlc_table.proofs.Cuts.{at_most_tested, test_at_most}

-- how many places are left from the next event on
abbrev pub events_left : ℕ → Option EventId → ℕ
events_left n None = 0
events_left n (Some e) = n - e.0

none_either : (b : Bool) (ws : List ℕ) → ws ≡ [] → cond b ws [] ≡ []
none_either true ws is = is
none_either false ws is = refl

module _ (events : List StampedEvent) (places : ℕ → Bool) (node : ℕ) where
  abbrev there : ℕ → List ℕ
  there e = writes_learnt events e (event_at events e).kind

  elsewhere : (e : ℕ) → (event_at events e).node ≢ node → cond ((event_at events e).node == node) (there e) [] ≡ []
  elsewhere e other = ap (λ (b : Bool). cond b (there e) []) (ne_eqb (event_at events e).node node other)

  inside : (e : ℕ) → ((event_at events e).node ≡ node → places e ≡ true)
      → learnt_at events places node e ≡ learnt_at events everywhere node e
  inside e h = elim (cases_eq (event_at events e).node node) [
    | inl here ↦ ap (λ (b : Bool). cond b (cond ((event_at events e).node == node) (there e) []) []) (h here)
    | inr other ↦ none_either (places e) (cond ((event_at events e).node == node) (there e) []) (elsewhere e other)
        ∙ sym (elsewhere e other)
  ]

  outside : (e : ℕ) → ((event_at events e).node ≡ node → places e ≡ false) → learnt_at events places node e ≡ []
  outside e h = elim (cases_eq (event_at events e).node node) [
    | inl here ↦ ap (λ (b : Bool). cond b (cond ((event_at events e).node == node) (there e) []) []) (h here)
    | inr other ↦ none_either (places e) (cond ((event_at events e).node == node) (there e) []) (elsewhere e other)
  ]

-- the rows from the events before the place are the snapshot's
pub rows_of_cut :
    (events : List StampedEvent) (s : Pair) (node n : ℕ) → n ≤ length events →
    ((d : ℕ) → IsEventOf events node d → d < n → cut_at events s d ≡ true) →
    ((d : ℕ) → IsEventOf events node d → n ≤ d → cut_at events s d ≡ false) → rows_before events node n ≡ snapshot_rows events s node
rows_of_cut events s node n le in_cut off_cut =
    let k : ℕ = length events - n in
    let all : n + k ≡ length events = omega arith in
    let f : ℕ → List ℕ = learnt_at events (cut_at events s) node in
    let same : flat_map f (places_below (length events)) ≡ flat_map (learnt_at events everywhere node) (places_below n) =
    ap (λ (m : ℕ). flat_map f (places_below m)) (sym all)
    ∙ given_below f (learnt_at events everywhere node) n k
    (λ e lt. inside events (cut_at events s) node e (λ here. in_cut e (record { exists = omega arith; at_node = here }) lt))
    (λ e from lt. outside events (cut_at events s) node e (λ here. off_cut e (record { exists = omega arith; at_node = here }) from)) in
    ap (λ (ws : List ℕ). map (table_row events) (rows_of_writes events ws)) (sym same)

-- if a later stamp of the node is in the cut, so is an earlier one
in_cut_before :
    (events : List StampedEvent) (s : Pair) (node e d : ℕ) → StampsRise events → IsEventOf events node e → IsEventOf events node d → e ≤ d →
    cut_at events s d ≡ true → cut_at events s e ≡ true
in_cut_before events s node e d rise first later le inside = elim (cases_lt e d) [
  | inl lt ↦
      let p : Pair = stamp_at events e in
      let q : Pair = stamp_at events d in
      let below = rise e d lt later.exists (first.at_node ∙ sym later.at_node) in
      test_at_most p s (at_most_trans p q s (at_most_from_below p q below) (at_most_tested q s inside))
  | inr from ↦ let same : d ≡ e = omega arith in ap (cut_at events s) (sym same) ∙ inside
]

-- if the next event of a walk isn't in the cut, no event of the node is from there on
pub off_cut_from :
    (events : List StampedEvent) (s : Pair) (walk : Walk) → StampsRise events → StandsAt events walk →
    (((next : EventId) × (walk.next ≡ Some next) × (cut_at events s next.0 ≡ true)) → ⊥) →
    (d : ℕ) → IsEventOf events walk.node d → place_of_next events walk.next ≤ d → cut_at events s d ≡ false
off_cut_from events s walk rise stands ended d event from = by walk.next refl where
  by : (next : Option EventId) → walk.next ≡ next → cut_at events s d ≡ false
  by None is =
      let place : place_of_next events walk.next ≡ length events = ap (place_of_next events) is in
      let exists = event.exists in
      absurd (omega arith)
  by (Some e) is =
      let place : place_of_next events walk.next ≡ e.0 = ap (place_of_next events) is in
      let first = subst (λ (o : Option EventId). IfSome o (λ f. IsEventOf events walk.node f.0)) is stands.next_is in
      elim (cases_Bool (cut_at events s d)) [
        | inl inside ↦ absurd (ended (e, is, in_cut_before events s walk.node e.0 d rise first event (omega arith) inside))
        | inr off ↦ off
      ]

pub place_exists : (events : List StampedEvent) (walk : Walk) → StandsAt events walk → place_of_next events walk.next ≤ length events
place_exists events walk stands = by walk.next refl where
  by : (next : Option EventId) → walk.next ≡ next → place_of_next events walk.next ≤ length events
  by None is = let place : place_of_next events walk.next ≡ length events = ap (place_of_next events) is in omega arith
  by (Some e) is =
      let place : place_of_next events walk.next ≡ e.0 = ap (place_of_next events) is in
      let there = subst (λ (o : Option EventId). IfSome o (λ f. IsEventOf events walk.node f.0)) is stands.next_is in
      let exists = there.exists in
      omega arith

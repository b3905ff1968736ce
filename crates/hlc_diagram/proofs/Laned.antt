-- The laws of lanes.
use Rattle.std.proofs.Common.{◌≡◌, ◌∙◌, ℕ, ◌+◌, ◌<◌, ◌≤◌, ◌==◌, Bool, true, false, inl, inr, All, List, [], ◌∷◌, Contains, Option, arith, ap, length, map, refl, subst, sym}
use Rattle.std.specs.Prelude.{nat_lt}
use Rattle.std.proofs.lemmas.Bool.{cases_Bool}
use Rattle.std.proofs.lemmas.Bool.Decides.{nat_tests}
use Rattle.std.proofs.lemmas.List.Elements.{All-contains, Contains-get_or}
use Rattle.std.proofs.lemmas.List.Sums.{sum_by-cons}
use Rattle.hlc_stamp.specs.Ids.{is_among}
use Rattle.hlc_causality.specs.Places.{places_below}
use Rattle.hlc_causality.proofs.PlacesBelow.{contains_passing, length-places_below, passing_from_contains, place_at}
use Rattle.hlc_figures.specs.Columns.{places_from}
use Rattle.hlc_figures.specs.Content.{Content, NodesExist, node_at}
use Rattle.hlc_figures.specs.Rows.{event_row}
use Rattle.hlc_figures.specs.declared.rows.Row.{Row}
use Rattle.hlc_stamp.specs.declared.id.EventId.{EventId}
use Rattle.hlc_svg.specs.declared.frame.Frame.{Frame}
use Rattle.hlc_figures.specs.FigureText.{NamedLane, named_lane_of}
use Rattle.hlc_figures.specs.Lanes.{lane_of, lanes_of}
use Rattle.hlc_svg.specs.Frame.{x_of}
use Rattle.hlc_svg.specs.declared.dot.Dot.{Dot}
use Rattle.hlc_diagram.specs.Layout.{frame_of, lanes_in}
use Rattle.hlc_diagram.specs.Laws.{DotsStandOnLanes, EachNodeHasItsLane, LanesAreOfDots}
use Rattle.hlc_diagram.specs.Picture.{picture_of}
use Rattle.hlc_diagram.specs.declared.view.View.{View}
use Rattle.hlc_figures.proofs.NodeLanes.{among_at, among_from, counts, places_exist}
use Rattle.hlc_diagram.proofs.Drawn.{count, first}
use Rattle.hlc_diagram.proofs.DrawnRows.{dot_stands, dots, mapped, mapped_there}

-- a node counts for no less before a later one
counts_no_less : (a b x : ℕ) → a ≤ b → counts a x ≤ counts b x
counts_no_less a b x le =
    elim (cases_Bool (nat_lt x a)) [
      | inl low ↦
          let lt : x < a = grind (arith, nat_tests, low) in
          let test : nat_lt x b ≡ true = grind (arith, nat_tests, lt, le) in
          rw (low, test) (omega arith)
      | inr high ↦ rw high (omega arith)
    ]

-- a node stands on no lane before that of a node before it
lane_no_less : (xs : List ℕ) (a b : ℕ) → a ≤ b → lane_of xs a ≤ lane_of xs b
lane_no_less [] a b le = omega arith
lane_no_less (x ∷ xs) a b le =
    let more_a : lane_of (x ∷ xs) a ≡ counts a x + lane_of xs a = sum_by-cons (counts a) x xs in
    let more_b : lane_of (x ∷ xs) b ≡ counts b x + lane_of xs b = sum_by-cons (counts b) x xs in
    omega (arith, more_a, more_b, counts_no_less a b x le, lane_no_less xs a b le)

among_rises : (xs : List ℕ) (a b : ℕ) → is_among xs a ≡ true → a < b → lane_of xs a < lane_of xs b
among_rises [] a b among lt = absurd (cc)
among_rises (x ∷ xs) a b among lt =
    let more_a : lane_of (x ∷ xs) a ≡ counts a x + lane_of xs a = sum_by-cons (counts a) x xs in
    let more_b : lane_of (x ∷ xs) b ≡ counts b x + lane_of xs b = sum_by-cons (counts b) x xs in
    elim (cases_Bool (a == x)) [
      | inl is ↦
          let same : a ≡ x = grind (arith, nat_tests, is) in
          let test_a : nat_lt x a ≡ false = grind (arith, nat_tests, same) in
          let test_b : nat_lt x b ≡ true = grind (arith, nat_tests, same, lt) in
          let none : counts a x ≡ 0 = rw test_a refl in
          let one : counts b x ≡ 1 = rw test_b refl in
          omega (arith, more_a, more_b, none, one, lane_no_less xs a b (omega arith))
      | inr isnt ↦
          let rest = among_rises xs a b (rw isnt at among) lt in
          omega (arith, more_a, more_b, counts_no_less a b x (omega arith), rest)
    ]

-- but one with a lane on a lane before it
pub lane_rises : (xs : List ℕ) (a b : ℕ) → Contains xs a → a < b → lane_of xs a < lane_of xs b
lane_rises xs a b has lt = let (k, within, at) = has in among_rises xs a b (among_at xs a k within at) lt

-- the lanes of events
module _ (c : Content) (places : List ℕ) where
  -- unless each node has a lane, an event happens at the node of a lane
  pub lane_has_event : c.every_lane ≡ false → (node : ℕ) → Contains (lanes_of c places) node → (e : ℕ) × Contains places e × (node_at c e ≡ node)
  lane_has_event some node has =
      let test : ℕ → Bool = λ node. is_among (map (node_at c) places) node in
      let passes = passing_from_contains test c.nodes node (rw some at has) in
      mapped (node_at c) places node (among_from (map (node_at c) places) node passes.1)

  -- and the node of an event has a lane
  pub event_has_lane : (e : ℕ) → Contains places e → node_at c e < c.nodes → Contains (lanes_of c places) (node_at c e)
  event_has_lane e has exists =
      elim (cases_Bool c.every_lane) [
        | inl every ↦
            let node : ℕ = node_at c e in
            let within = length-places_below c.nodes in
            let at = Contains-get_or (places_below c.nodes) (node_at c e) 0 (omega arith) in
            rw every (subst (λ (n : ℕ). Contains (places_below c.nodes) n) (place_at c.nodes (node_at c e) exists) at)
        | inr some ↦
            let test : ℕ → Bool = λ node. is_among (map (node_at c) places) node in
            let (k, within, at) = mapped_there (node_at c) places e has in
            rw some (contains_passing test c.nodes (node_at c e) exists (among_at (map (node_at c) places) (node_at c e) k within at))
      ]

-- so it is in a picture with the lanes of those events that have a dot
module _ (c : Content) (explained : Option EventId) (frame : Frame) (places : List ℕ) (rows : List Row)
    (listed : map (λ (d : Dot). d.event.0) (dots c explained frame (lanes_of c places) rows) ≡ places) where
  abbrev own_lanes : List ℕ
  own_lanes = lanes_of c places

  pub lanes_have_dots : (lane : NamedLane) → c.every_lane ≡ false → Contains (map (named_lane_of c frame own_lanes) own_lanes) lane →
      (d : Dot) × Contains (dots c explained frame own_lanes rows) d × (node_at c d.event.0 ≡ lane.lane.node.0) × (d.at.x ≡ lane.lane.x)
  lanes_have_dots lane some among =
      let is = mapped (named_lane_of c frame own_lanes) own_lanes lane among in
      let found = lane_has_event c places some is.0 is.1 in
      let has = subst (λ (xs : List ℕ). Contains xs found.0) (sym listed) found.1 in
      let there = mapped (λ (d : Dot). d.event.0) (dots c explained frame own_lanes rows) found.0 has in
      let node : node_at c there.0.event.0 ≡ is.0 = ap (node_at c) there.2 ∙ found.2 in
      let at = (dot_stands c explained frame own_lanes rows there.0 there.1).1.lane in
      subst (λ (l : NamedLane). (d : Dot) × Contains (dots c explained frame own_lanes rows) d × (node_at c d.event.0 ≡ l.lane.node.0) × (d.at.x ≡ l.lane.x)) is.2
      (there.0, there.1, node, at ∙ ap (λ (n : ℕ). x_of frame (lane_of own_lanes n)) node)

  pub dots_have_lanes : All (λ e. e < length c.events) places → (d : Dot) → NodesExist c → Contains (dots c explained frame own_lanes rows) d →
      (l : NamedLane) × Contains (map (named_lane_of c frame own_lanes) own_lanes) l × (l.lane.node.0 ≡ node_at c d.event.0) × (d.at.x ≡ l.lane.x)
      × (l.name ≡ c.name (node_at c d.event.0))
  dots_have_lanes all d exist among =
      let has = subst (λ (xs : List ℕ). Contains xs d.event.0) listed (mapped_there (λ (d : Dot). d.event.0) (dots c explained frame own_lanes rows) d among) in
      let exists = exist d.event.0 (All-contains (λ (e : ℕ). e < length c.events) places d.event.0 all has) in
      let at = (dot_stands c explained frame own_lanes rows d among).1.lane in
      let node = node_at c d.event.0 in
      (named_lane_of c frame own_lanes node, mapped_there (named_lane_of c frame own_lanes) own_lanes node (event_has_lane c places d.event.0 has exists), refl, at, refl)

-- the events of a range are listed
events_listed : (c : Content) (explained : Option EventId) (frame : Frame) (lanes places : List ℕ) →
    map (λ (d : Dot). d.event.0) (dots c explained frame lanes (map event_row places)) ≡ places
events_listed c explained frame lanes [] = refl
events_listed c explained frame lanes (e ∷ places) = ap (λ (rest : List ℕ). e ∷ rest) (events_listed c explained frame lanes places)

module _ (c : Content) (view : View) where
  abbrev places : List ℕ
  places = places_from (first c view) (count c view)

  listed_of_view : map (λ (d : Dot). d.event.0) (dots c view.explained (frame_of c view) (lanes_in c view) (map event_row places)) ≡ places
  listed_of_view = events_listed c view.explained (frame_of c view) (lanes_in c view) places

  pub lane_there : (node : ℕ) → Contains (lanes_in c view) node → Contains (picture_of c view).lanes (named_lane_of c (frame_of c view) (lanes_in c view) node)
  lane_there node has = mapped_there (named_lane_of c (frame_of c view) (lanes_in c view)) (lanes_in c view) node has

  nodes_named : (xs : List ℕ) → map (λ (lane : NamedLane). lane.lane.node.0) (map (named_lane_of c (frame_of c view) (lanes_in c view)) xs) ≡ xs
  nodes_named [] = refl
  nodes_named (x ∷ xs) = ap (λ (rest : List ℕ). x ∷ rest) (nodes_named xs)

pub lanes_are_of_dots : LanesAreOfDots
lanes_are_of_dots c view lane some among =
    lanes_have_dots c view.explained (frame_of c view) (places c view) (map event_row (places c view)) (listed_of_view c view) lane some among

pub dots_stand_on_lanes : DotsStandOnLanes
dots_stand_on_lanes c view d exist among =
    dots_have_lanes c view.explained (frame_of c view) (places c view) (map event_row (places c view)) (listed_of_view c view)
    (places_exist (first c view) (count c view) (length c.events) (omega arith)) d exist among

pub each_node_has_its_lane : EachNodeHasItsLane
each_node_has_its_lane c view every =
    let all : lanes_in c view ≡ places_below c.nodes = rw every refl in
    nodes_named c view (lanes_in c view) ∙ all

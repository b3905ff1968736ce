-- The laws of pictures.
use Rattle.std.proofs.Common.{◌≡◌, ◌≢◌, ◌∙◌, ◌⊎◌, ◌↔◌, ℕ, ◌+◌, ◌-◌, ◌<◌, ◌≤◌, ◌==◌, Bool, true, false, inl, inr, List, [], ◌∷◌, Contains, Option, Some, None, arith, ap, count_by, filter, length, map, refl, subst, sym}
use Rattle.std.specs.List.{cons_option, filter_map}
use Rattle.std.specs.Prelude.{nat_lt}
use Rattle.std.proofs.lemmas.Bool.{cases_Bool, cases_lt}
use Rattle.std.proofs.lemmas.Bool.Decides.{nat_tests}
use Rattle.std.proofs.lemmas.List.{map_push}
use Rattle.std.proofs.lemmas.List.Sums.{length-filter}
use Rattle.hlc_stamp.specs.Ids.{is_among}
use Rattle.hlc_stamp.specs.declared.id.EventId.{EventId}
use Rattle.hlc_causality.specs.Causality.{IsSendOf, skeleton_at}
use Rattle.hlc_causality.specs.ClockChain.{IsClockChainOf}
use Rattle.hlc_causality.proofs.FollowedClockChains.{clock_chain_is_followed}
use Rattle.hlc_figures.specs.Chosen.{IsMissing, chosen}
use Rattle.hlc_diagram.specs.Layout.{end_of, first_of, frame_of, lanes_in}
use Rattle.hlc_figures.specs.Content.{Content, clock_events_of}
use Rattle.hlc_figures.specs.Lanes.{lane_at}
use Rattle.hlc_figures.specs.Figure.{arrow_between, arrow_into, arrow_of, dot_of}
use Rattle.hlc_figures.specs.Columns.{places_from}
use Rattle.hlc_svg.specs.Shapes.{reach_of}
use Rattle.hlc_svg.specs.Frame.{row_of, row_y, towards, x_of, y_of}
use Rattle.hlc_diagram.specs.Laws.{ArrowsAreOfDeliveries, DotsAreOfEvents, EachDeliveryHasOneArrow, EachEventHasOneDot, IsArrowOfDelivery, IsDotOfEvent, IsInRange, MarkedAreTheChain, NoTwoDotsInOnePlace, NoneIsMarked, TimeRunsDown, TitlesAreOfTheDots, arrows_in, dots_in}
use Rattle.hlc_figures.specs.FigureText.{Figure, figure_of}
use Rattle.hlc_diagram.specs.Picture.{picture_of}
use Rattle.hlc_figures.specs.Rows.{event_row, event_rows}
use Rattle.hlc_svg.specs.declared.frame.Frame.{Frame}
use Rattle.hlc_svg.specs.declared.arrow.Arrow.{Arrow}
use Rattle.hlc_svg.specs.declared.dot.Dot.{Dot}
use Rattle.hlc_svg.specs.declared.shapes.Point.{Point}
use Rattle.hlc_diagram.specs.declared.view.View.{View}
use Rattle.hlc_svg.proofs.Clear.{next_lane, path_never_rises}
use Rattle.hlc_diagram.proofs.DrawnRows.{figures, reach_room, titled}
use Rattle.hlc_figures.proofs.Links.{clock_size}
use Rattle.hlc_figures.proofs.NodeLanes.{among_at, among_from}
use Rattle.hlc_figures.proofs.Placed.{AddsItems, in_one, made_of, made_there, one_passes, parts_more}

module _ (c : Content) (view : View) where
  abbrev pub frame : Frame
  frame = frame_of c view

  abbrev pub lanes : List ℕ
  lanes = lanes_in c view

  abbrev pub first : ℕ
  first = first_of c view

  abbrev pub count : ℕ
  count = end_of c view - first_of c view

  abbrev pub figure : ℕ → Figure
  figure e = figure_of c view.explained frame lanes e

  -- what is drawn of the events of a range, their dots and their arrows are made place by place
  abbrev pub drawn : List ℕ → List Figure
  drawn places = figures c view.explained frame lanes (map event_row places)

  pub drawn_more : AddsItems drawn (λ e. figure e ∷ [])
  drawn_more [] p = refl
  drawn_more (e ∷ places) p = ap (λ (rest : List Figure). figure e ∷ rest) (drawn_more places p)

  abbrev dots : List ℕ → List Dot
  dots places = map (λ f. f.dot) (drawn places)

  abbrev pub dot : ℕ → Dot
  dot e = dot_of c view.explained frame lanes e

  dots_more : AddsItems dots (λ e. dot e ∷ [])
  dots_more places p = ap (map (λ (f : Figure). f.dot)) (drawn_more places p) ∙ map_push (λ (f : Figure). f.dot) (drawn places) (figure p)

  abbrev pub arrows : List ℕ → List Arrow
  arrows places = filter_map (λ f. f.arrow) (drawn places)

  abbrev pub arrow : ℕ → List Arrow
  arrow e = cons_option (arrow_of c view.explained frame lanes e) []

  pub arrows_more : AddsItems arrows arrow
  arrows_more places p = parts_more (λ (f : Figure). f.arrow) drawn figure drawn_more places p

  -- an event of the range is one of the places
  pub placed_from : (e : ℕ) → IsInRange c view e → first ≤ e
  placed_from e r = let exists = r.exists in let from = r.from in let to = r.to in omega arith

  pub placed_to : (e : ℕ) → IsInRange c view e → e < first + count
  placed_to e r = let exists = r.exists in let from = r.from in let to = r.to in omega arith

  pub in_range : (e : ℕ) → first ≤ e → e < first + count → IsInRange c view e
  in_range e from to = record { exists = omega arith; from = omega arith; to = omega arith }

  -- what an event of the range has is among what is drawn
  pub drawn_there :
      {X : Type 0} (made : List ℕ → List X) (item : ℕ → List X) → made [] ≡ [] → AddsItems made item → (e : ℕ) (x : X)
      → IsInRange c view e →
      Contains (item e) x → Contains (made (places_from first count)) x
  drawn_there made item none more e x r has = made_there made item none more first count e x (placed_from e r) (placed_to e r) has

  -- a dot is that of an event of the range
  pub dot_is : (d : Dot) → Contains (dots_in (picture_of c view)) d → (e : ℕ) × IsInRange c view e × (dot e ≡ d)
  dot_is d among =
      let made = made_of dots (λ e. dot e ∷ []) refl dots_more first count d among in
      (made.0, in_range made.0 made.1 made.2, in_one (dot made.0) d made.3)

  pub dot_there : (e : ℕ) → IsInRange c view e → Contains (dots_in (picture_of c view)) (dot e)
  dot_there e r = drawn_there dots (λ e. dot e ∷ []) refl dots_more e (dot e) r (0, omega arith, refl)

  pub one_dot : (e : ℕ) → IsInRange c view e → count_by (λ d. d.event.0 == e) (dots_in (picture_of c view)) ≡ 1
  one_dot e r =
      let test : Dot → Bool = λ d. d.event.0 == e in
      let others : (p : ℕ) → p ≢ e → filter test (dot p ∷ []) ≡ [] =
      λ p ne. (let no : (p == e) ≡ false = grind (arith, nat_tests, ne) in rw no refl) in
      let own : filter test (dot e ∷ []) ≡ dot e ∷ [] = (let yes : (e == e) ≡ true = grind (arith, nat_tests) in rw yes refl) in
      sym (length-filter test (dots_in (picture_of c view)))
      ∙ ap length (one_passes dots (λ e. dot e ∷ []) refl dots_more test e others first count (placed_from e r) (placed_to e r) ∙ own)

pub each_event_has_one_dot : EachEventHasOneDot
each_event_has_one_dot c view e r = one_dot c view e r

pub dots_are_of_events : DotsAreOfEvents
dots_are_of_events c view d among =
    let is = dot_is c view d among in
    subst (λ (d : Dot). IsDotOfEvent c view d) is.2 (record { in_range = is.1; lane = refl; row = refl; number = refl; shown = refl; look = refl })

pub titles_are_of_the_dots : TitlesAreOfTheDots
titles_are_of_the_dots c view f among =
    let frame = frame_of c view in titled c view.explained (frame_of c view) (lanes_in c view) (event_rows frame.first frame.end) f among

-- a later row is a lower one
lower : (frame : Frame) (d e : ℕ) → frame.first ≤ d → d < e → y_of frame d < y_of frame e
lower frame d e from lt = let a : d - frame.first < e - frame.first = omega arith in omega arith

pub time_runs_down : TimeRunsDown
time_runs_down c view a b in_a in_b lt =
    let is_a = dot_is c view a in_a in
    let is_b = dot_is c view b in_b in
    let frame = frame_of c view in
    let from = placed_from c view is_a.0 is_a.1 in
    let earlier : is_a.0 < is_b.0 =
    subst (λ (d : Dot). is_a.0 < d.event.0) (sym is_b.2) (subst (λ (d : Dot). d.event.0 < b.event.0) (sym is_a.2) lt) in
    let down : y_of frame is_a.0 < y_of frame is_b.0 = lower frame is_a.0 is_b.0 from earlier in
    subst (λ (d : Dot). a.at.y < d.at.y) is_b.2 (subst (λ (d : Dot). d.at.y < y_of frame is_b.0) is_a.2 down)

pub no_two_dots_in_one_place : NoTwoDotsInOnePlace
no_two_dots_in_one_place c view a b in_a in_b same =
    let is_a = dot_is c view a in_a in
    let is_b = dot_is c view b in_b in
    let frame = frame_of c view in
    let from_a = placed_from c view is_a.0 is_a.1 in
    let from_b = placed_from c view is_b.0 is_b.1 in
    let rows : y_of frame is_a.0 ≡ y_of frame is_b.0 =
    ap (λ (d : Dot). d.at.y) is_a.2 ∙ ap (λ (p : Point). p.y) same ∙ ap (λ (d : Dot). d.at.y) (sym is_b.2) in
    let one : is_a.0 ≡ is_b.0 = (
    elim (cases_lt is_a.0 is_b.0) [
      | inl lt ↦ let no = lower frame is_a.0 is_b.0 from_a lt in absurd (omega arith)
      | inr ge ↦ elim (cases_lt is_b.0 is_a.0) [ inl gt ↦ let no = lower frame is_b.0 is_a.0 from_b gt in absurd (omega arith) | inr le ↦ omega arith ]
    ]
    ) in
    sym is_a.2 ∙ ap (λ (e : ℕ). dot c view e) one ∙ is_b.2

-- ---- arrows

-- what is drawn into an event of this kind, if it is an arrow
pub arrow_kinds : (c : Content) (explained : Option EventId) (frame : Frame) (lanes : List ℕ) (e : ℕ) (send : Option ℕ) (a : Arrow) →
    Contains (cons_option (arrow_into c explained frame lanes e send) []) a →
    (s : ℕ) × (send ≡ Some s) × (frame.first ≤ s) × (arrow_between c explained frame lanes s e ≡ a)
arrow_kinds c explained frame lanes e None a h = let lt = h.1 in absurd (omega arith)
arrow_kinds c explained frame lanes e (Some s) a h =
    elim (cases_Bool (nat_lt s frame.first)) [
      | inl before ↦ let none : Contains [] a = (rw before at h) in let lt = none.1 in absurd (omega arith)
      | inr after ↦
          let one : Contains (arrow_between c explained frame lanes s e ∷ []) a = (rw after at h) in
          let le : frame.first ≤ s = grind (arith, nat_tests, after) in
          (s, refl, le, in_one (arrow_between c explained frame lanes s e) a one)
    ]

-- an arrow into an event is drawn to it alone
other_arrows : (c : Content) (explained : Option EventId) (frame : Frame) (lanes : List ℕ) (e p : ℕ) (send : Option ℕ) → p ≢ e →
    filter (λ (a : Arrow). a.delivered.0 == e) (cons_option (arrow_into c explained frame lanes p send) []) ≡ []
other_arrows c explained frame lanes e p None ne = refl
other_arrows c explained frame lanes e p (Some s) ne =
    let no : (p == e) ≡ false = grind (arith, nat_tests, ne) in
    elim (cases_Bool (nat_lt s frame.first)) [ inl before ↦ rw before refl | inr after ↦ rw (after, no) refl ]

own_arrow : (c : Content) (explained : Option EventId) (frame : Frame) (lanes : List ℕ) (s f : ℕ) → frame.first ≤ s →
    filter (λ (a : Arrow). a.delivered.0 == f) (cons_option (arrow_into c explained frame lanes f (Some s)) [])
    ≡ arrow_between c explained frame lanes s f ∷ []
own_arrow c explained frame lanes s f from =
    let after : nat_lt s frame.first ≡ false = grind (arith, nat_tests, from) in
    let yes : (f == f) ≡ true = grind (arith, nat_tests) in
    rw (after, yes) refl

pub each_delivery_has_one_arrow : EachDeliveryHasOneArrow
each_delivery_has_one_arrow c view s f sends in_s in_f =
    let frame = frame_of c view in
    let lanes = lanes_in c view in
    let test : Arrow → Bool = λ a. a.delivered.0 == f in
    let own : filter test (arrow c view f) ≡ arrow_between c view.explained frame lanes s f ∷ [] =
    ap (λ (o : Option ℕ). filter test (cons_option (arrow_into c view.explained frame lanes f o) [])) sends.delivers
    ∙ own_arrow c view.explained frame lanes s f (placed_from c view s in_s) in
    let others : (p : ℕ) → p ≢ f → filter test (arrow c view p) ≡ [] =
    λ p ne. other_arrows c view.explained frame lanes f p (skeleton_at c.events p).send ne in
    let from = placed_from c view f in_f in
    let to = placed_to c view f in_f in
    let one = one_passes (arrows c view) (arrow c view) refl (arrows_more c view) test f others (first c view) (count c view) from to in
    sym (length-filter test (arrows_in (picture_of c view))) ∙ ap length (one ∙ own)

-- the ends of an arrow lie at the sides of its dots
module _ (c : Content) (view : View) where
  pub side_of :
      (reach : ℕ) → reach + (frame c view).half ≤ (frame c view).lane_distance → (lane other : ℕ) →
      (towards (frame c view) lane other reach ≡ x_of (frame c view) lane + reach) ⊎
      (towards (frame c view) lane other reach + reach ≡ x_of (frame c view) lane)
  side_of reach within lane other =
      elim (cases_lt other lane) [
        | inl lt ↦
            let test : nat_lt other lane ≡ true = grind (arith, nat_tests, lt) in
            let far = next_lane (frame c view) 0 lane (omega arith) in
            rw test (inr (omega arith))
        | inr ge ↦ let test : nat_lt other lane ≡ false = grind (arith, nat_tests, ge) in rw test (inl refl)
      ]

pub arrows_are_of_deliveries : ArrowsAreOfDeliveries
arrows_are_of_deliveries c view a first_sends among =
    let frame = frame_of c view in
    let lanes = lanes_in c view in
    let made = made_of (arrows c view) (arrow c view) refl (arrows_more c view) (first c view) (count c view) a among in
    let f = made.0 in
    let is = arrow_kinds c view.explained frame lanes f (skeleton_at c.events f).send a made.3 in
    let s = is.0 in
    let r_f : IsInRange c view f = in_range c view f made.1 made.2 in
    let exists = r_f.exists in
    let earlier : s < f = first_sends f s exists is.1 in
    let from : first c view ≤ s = is.2 in
    let to : f < first c view + count c view = made.2 in
    let r_s : IsInRange c view s = in_range c view s from (omega arith) in
    let sends : IsSendOf c.events s f = record { earlier = earlier; exists = exists; delivers = is.1 } in
    let half = frame.half in
    let leaves = side_of c view half (omega arith) (lane_at c lanes s) (lane_at c lanes f) in
    let arrives = side_of c view (reach_of (c.look f) half) (reach_room (c.look f) half).1 (lane_at c lanes f) (lane_at c lanes s) in
    let rows : row_of frame s < row_of frame f = omega arith in
    let level : row_y (row_of frame f) + 0 ≡ row_y (row_of frame f) = omega arith in
    let lowers : y_of frame s < y_of frame f = lower frame s f from earlier in
    subst (λ (a : Arrow). IsArrowOfDelivery c (picture_of c view) a) is.3 (record {
      delivers = sends;
      from = (dot c view s, dot_there c view s r_s, record { event = refl; level = refl; side = leaves });
      to = (dot c view f, dot_there c view f r_f, record { event = refl; level = level; side = arrives });
      down = omega arith;
      falls = path_never_rises (arrow_between c view.explained frame lanes s f).route (omega arith) (omega arith);
    })

-- ---- marks

pub chosen_is_chain :
    (c : Content) (view : View) (e : EventId) (chain : List ℕ) → view.explained ≡ Some e → e.0 < length c.events →
    IsClockChainOf (clock_events_of c) c.stamps e.0 chain → chosen (clock_events_of c) c.stamps view.explained ≡ chain
chosen_is_chain c view e chain explained exists is_chain =
    let t = clock_events_of c in
    let there : e.0 < length (clock_events_of c) = omega (arith, exists, clock_size c) in
    let test : nat_lt e.0 (length (clock_events_of c)) ≡ true = grind (arith, nat_tests, there) in
    ap (chosen t c.stamps) explained ∙ (rw test (sym (clock_chain_is_followed t c.stamps e.0 chain there is_chain)))

pub marked_are_the_chain : MarkedAreTheChain
marked_are_the_chain c view e chain d explained exists is_chain among =
    let is = dot_is c view d among in
    let list = chosen_is_chain c view e chain explained exists is_chain in
    let those = chosen (clock_events_of c) c.stamps view.explained in
    subst (λ (d : Dot). (d.is_marked ≡ true) ↔ Contains chain d.event.0) is.2 (
      λ marked. subst (λ (xs : List ℕ). Contains xs is.0) list (among_from those is.0 marked),
      λ has. let there = subst (λ (xs : List ℕ). Contains xs is.0) (sym list) has in among_at those is.0 there.0 there.1 there.2,
    )

none_chosen : (c : Content) (explained : Option EventId) → (explained ≡ None) ⊎ IsMissing c.events explained
    → chosen (clock_events_of c) c.stamps explained ≡ []
none_chosen c None h = refl
none_chosen c (Some e) h =
    elim h [
      | inl none ↦ absurd (cc)
      | inr missing ↦
          let beyond : length c.events ≤ e.0 = missing in
          let past : length (clock_events_of c) ≤ e.0 = omega (arith, beyond, clock_size c) in
          let no : nat_lt e.0 (length (clock_events_of c)) ≡ false = grind (arith, nat_tests, past) in
          rw no refl
    ]

pub none_is_marked : NoneIsMarked
none_is_marked c view d nothing among =
    let is = dot_is c view d among in
    let none = none_chosen c view.explained nothing in
    subst (λ (d : Dot). (d.is_marked ≡ true) → ⊥) is.2 (λ marked.
    let no : is_among [] is.0 ≡ true = subst (λ (xs : List ℕ). is_among xs is.0 ≡ true) none marked in
    absurd (cc))

-- The laws of arrows and dots that are apart.
use Rattle.std.proofs.Common.{◌≡◌, ◌⊎◌, ℕ, ◌+◌, ◌-◌, ◌*◌, ◌<◌, ◌≤◌, Bool, true, false, inl, inr, ap, arith, refl, subst, sym}
use Rattle.std.specs.Prelude.{nat_lt}
use Rattle.std.proofs.lemmas.Bool.{cases_Bool, cases_eq}
use Rattle.std.proofs.lemmas.Bool.Decides.{nat_tests}
use Rattle.hlc_causality.specs.Causality.{skeleton_at}
use Rattle.hlc_figures.specs.Columns.{lane_distance}
use Rattle.hlc_figures.specs.Content.{Content, node_at}
use Rattle.hlc_figures.specs.Figure.{delivery_after, is_left, side_distance, turn_distance}
use Rattle.hlc_figures.specs.Lanes.{lane_at, lane_of}
use Rattle.hlc_figures.specs.Rows.{event_rows}
use Rattle.hlc_svg.specs.Frame.{aside, x_of}
use Rattle.hlc_diagram.specs.Laws.{ArrowsKeepClear, BorderArrowsKeepClear, LanesAreApart}
use Rattle.hlc_svg.specs.Clear.{KeepsClear, LineKeepsClear}
use Rattle.hlc_svg.specs.Path.{course_of}
use Rattle.hlc_figures.specs.FigureText.{NamedLane, named_lane_of}
use Rattle.hlc_svg.specs.declared.route.TheConstants.{FURTHER}
use Rattle.hlc_svg.specs.declared.shapes.Border.{Border}
use Rattle.hlc_svg.specs.declared.shapes.Border.TheVariants.{Lower, Upper}
use Rattle.hlc_svg.specs.declared.dot.Dot.{Dot}
use Rattle.hlc_svg.specs.declared.frame.Frame.{Frame}
use Rattle.hlc_svg.specs.declared.shapes.End.{End}
use Rattle.hlc_svg.specs.declared.shapes.Point.{Point}
use Rattle.hlc_diagram.specs.declared.view.View.{View}
use Rattle.hlc_svg.proofs.Clear.{IsInGap, StandsAt, left_of_lane, line_in_gap, next_lane, right_of_lane}
use Rattle.hlc_diagram.proofs.Crossings.{end_from, end_to, entering, entering_at, entering_kinds, entering_more, later_first, leaving, leaving_at, leaving_kinds, leaving_more, side_room, turn_room}
use Rattle.hlc_diagram.proofs.Drawn.{count, dot, dot_is, first, frame, lanes}
use Rattle.hlc_diagram.proofs.DrawnRows.{keeps_clear, mapped}
use Rattle.hlc_diagram.proofs.Laned.{lane_rises}
use Rattle.hlc_figures.proofs.NumberedDots.{left_arrows_have_room}
use Rattle.hlc_figures.proofs.Placed.{made_of}

-- lanes have room for a dot
pub room : (half : ℕ) → 2 * half < lane_distance half
room half = omega arith

pub room_for_two : (half : ℕ) → half + half ≤ lane_distance half
room_for_two half = omega arith

pub around_room : (half : ℕ) → half + FURTHER + half ≤ lane_distance half
around_room half = omega arith

module _ (c : Content) (view : View) where
  pub stands : (e : ℕ) → StandsAt (frame c view) (dot c view e) (lane_at c (lanes c view) e) e
  stands e = record { half = refl; lane = refl; row = refl }

pub arrows_keep_clear : ArrowsKeepClear
arrows_keep_clear c view a d among there =
    keeps_clear c view.explained (frame c view) (lanes c view) refl (event_rows (frame c view).first (frame c view).end) a d among there

-- before the first lane, by half a dot's width at least
abbrev IsBeforeLanes : Frame → (x : ℕ) → Type 0
IsBeforeLanes frame x = x + frame.half ≤ x_of frame 0

module _ (c : Content) (view : View) (border : Border) (e other : ℕ) where
  abbrev lane : ℕ
  lane = lane_at c (lanes c view) e

  abbrev near : ℕ
  near = side_distance border (c.look e) (frame c view).half

  abbrev turn : ℕ
  turn = turn_distance border (frame c view).half

  -- on a side the dot ends and the arrow turns in the gap to the next lane
  right_gap : (gap : ℕ) × IsInGap (frame c view) gap (aside (frame c view) lane false near) ×
      IsInGap (frame c view) gap (aside (frame c view) lane false turn)
  right_gap =
      let half = (frame c view).half in
      let fits = turn_room border (frame c view).half in
      let close = side_room border (c.look e) (frame c view).half in
      let wide_turn : half ≤ turn = fits.0 in
      let narrow_turn : turn + half ≤ (frame c view).lane_distance = fits.1 in
      let narrow : near + half ≤ (frame c view).lane_distance = omega (arith, close.1) in
      let le : lane ≤ lane = omega arith in
      let test : nat_lt lane lane ≡ false = grind (arith, nat_tests) in
      let side = right_of_lane (frame c view) lane lane lane near close.0 narrow le refl in
      let turned = right_of_lane (frame c view) lane lane lane turn wide_turn narrow_turn le refl in (
        lane,
        subst (λ (left : Bool). IsInGap (frame c view) lane (aside (frame c view) lane left near)) test side,
        subst (λ (left : Bool). IsInGap (frame c view) lane (aside (frame c view) lane left turn)) test turned,
      )

  left_gap : 0 < lane → (gap : ℕ) × IsInGap (frame c view) gap (aside (frame c view) lane true near) ×
      IsInGap (frame c view) gap (aside (frame c view) lane true turn)
  left_gap some =
      let half = (frame c view).half in
      let fits = turn_room border (frame c view).half in
      let close = side_room border (c.look e) (frame c view).half in
      let wide_turn : half ≤ turn = fits.0 in
      let narrow_turn : turn + half ≤ (frame c view).lane_distance = fits.1 in
      let narrow : near + half ≤ (frame c view).lane_distance = omega (arith, close.1) in
      let lt : lane - 1 < lane = omega arith in
      let next : lane - 1 + 1 ≡ lane = omega arith in
      let test : nat_lt (lane - 1) lane ≡ true = grind (arith, nat_tests, lt) in
      let side = left_of_lane (frame c view) lane (lane - 1) (lane - 1) near close.0 narrow lt next in
      let turned = left_of_lane (frame c view) lane (lane - 1) (lane - 1) turn wide_turn narrow_turn lt next in (
        lane - 1,
        subst (λ (left : Bool). IsInGap (frame c view) (lane - 1) (aside (frame c view) lane left near)) test side,
        subst (λ (left : Bool). IsInGap (frame c view) (lane - 1) (aside (frame c view) lane left turn)) test turned,
      )

  -- or before the first lane, if that isn't the lane of node 0
  before_first : lane ≡ 0 → node_at c other < node_at c e → IsBeforeLanes (frame c view) (aside (frame c view) lane true near) ×
      IsBeforeLanes (frame c view) (aside (frame c view) lane true turn)
  before_first first lower =
      let half = (frame c view).half in
      let fits = turn_room border (frame c view).half in
      let close = side_room border (c.look e) (frame c view).half in
      let wide_near : half ≤ near = close.0 in
      let wide_turn : near ≤ turn = close.1 in
      let wide : half ≤ turn = fits.0 in
      let later = later_first c view e other first lower in
      let room : turn < (frame c view).first_lane = left_arrows_have_room (lanes c view) (frame c view).half border later in
      let at : x_of (frame c view) lane ≡ x_of (frame c view) 0 = ap (λ (n : ℕ). x_of (frame c view) n) first in
      (omega arith, omega arith)

  clear_side :
      ((gap : ℕ) × IsInGap (frame c view) gap (aside (frame c view) lane (is_left c e other) near)
      × IsInGap (frame c view) gap (aside (frame c view) lane (is_left c e other) turn))
      ⊎ (IsBeforeLanes (frame c view) (aside (frame c view) lane (is_left c e other) near)
      × IsBeforeLanes (frame c view) (aside (frame c view) lane (is_left c e other) turn))
  clear_side =
      elim (cases_Bool (is_left c e other)) [
        | inl left ↦
            let lower : node_at c other < node_at c e = grind (arith, nat_tests, left) in
            elim (cases_eq lane 0) [
              | inl first ↦ inr (rw left (before_first first lower))
              | inr later ↦ inl (rw left (left_gap (omega arith)))
            ]
        | inr right ↦ inl (rw right right_gap)
      ]

-- what runs before the first lane keeps clear of the dots on all lanes
line_before : (c : Content) (view : View) (d : ℕ) (p q : Point) → IsBeforeLanes (frame c view) p.x → IsBeforeLanes (frame c view) q.x →
    LineKeepsClear (dot c view d) p q
line_before c view d p q at_p at_q = inl (omega arith, omega arith)

arrow_comes_clear : (c : Content) (view : View) (s f d : ℕ) → KeepsClear (dot c view d) (course_of (end_to c view s f))
arrow_comes_clear c view s f d =
    elim (clear_side c view Upper f s) [
      | inl gap ↦
          let line = line_in_gap (frame c view) (dot c view d) (lane_at c (lanes c view) d) d (stands c view d) gap.0 in
          (line _ _ gap.2 gap.2, (line _ _ gap.2 gap.1, tt))
      | inr before ↦ (let line = line_before c view d in (line _ _ before.1 before.1, (line _ _ before.1 before.0, tt)))
    ]

arrow_leaves_clear : (c : Content) (view : View) (s g d : ℕ) → KeepsClear (dot c view d) (course_of (end_from c view s g))
arrow_leaves_clear c view s g d =
    elim (clear_side c view Lower s g) [
      | inl gap ↦
          let line = line_in_gap (frame c view) (dot c view d) (lane_at c (lanes c view) d) d (stands c view d) gap.0 in
          (line _ _ gap.1 gap.2, (line _ _ gap.2 gap.2, tt))
      | inr before ↦ (let line = line_before c view d in (line _ _ before.0 before.1, (line _ _ before.1 before.1, tt)))
    ]

pub border_arrows_keep_clear : BorderArrowsKeepClear
border_arrows_keep_clear c view end d among there =
    let at = dot_is c view d there in
    subst (λ (d : Dot). KeepsClear d (course_of end)) at.2 (elim among [
      | inl comes ↦
          let made = made_of (entering c view) (entering_at c view) refl (entering_more c view) (first c view) (count c view) end comes in
          let f = made.0 in
          let is = entering_kinds c view.explained (frame c view) (lanes c view) f (skeleton_at c.events f).send end made.3 in
          subst (λ (end : End). KeepsClear (dot c view at.0) (course_of end)) is.3 (arrow_comes_clear c view is.0 f at.0)
      | inr leaves ↦
          let made = made_of (leaving c view) (leaving_at c view) refl (leaving_more c view) (first c view) (count c view) end leaves in
          let s = made.0 in
          let is = leaving_kinds c view.explained (frame c view) (lanes c view) s (delivery_after c view.explained (frame c view) s) end made.3 in
          subst (λ (end : End). KeepsClear (dot c view at.0) (course_of end)) is.2 (arrow_leaves_clear c view s is.0 at.0)
    ])

pub lanes_are_apart : LanesAreApart
lanes_are_apart c view a b in_a in_b lt =
    let is_a = mapped (named_lane_of c (frame c view) (lanes c view)) (lanes c view) a in_a in
    let is_b = mapped (named_lane_of c (frame c view) (lanes c view)) (lanes c view) b in_b in
    let before : is_a.0 < is_b.0 =
    subst (λ (l : NamedLane). is_a.0 < l.lane.node.0) (sym is_b.2) (subst (λ (l : NamedLane). l.lane.node.0 < b.lane.node.0) (sym is_a.2) lt) in
    let lane_a = lane_of (lanes c view) is_a.0 in
    let lane_b = lane_of (lanes c view) is_b.0 in
    let next = next_lane (frame c view) lane_a lane_b (lane_rises (lanes c view) is_a.0 is_b.0 is_a.1 before) in
    let wide = room (frame c view).half in
    subst (λ (l : NamedLane). a.lane.x + 2 * (frame c view).half < l.lane.x) is_b.2
    (subst (λ (l : NamedLane). l.lane.x + 2 * (frame c view).half < x_of (frame c view) lane_b) is_a.2 (omega arith))

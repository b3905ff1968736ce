-- The laws of arrows that don't lie on one another.
use Rattle.std.proofs.Common.{◌≡◌, ◌≢◌, ◌∙◌, ◌⊎◌, ℕ, ◌+◌, ◌<◌, ◌≤◌, Bool, inl, inr, Contains, Option, Some, ap, arith, refl, subst, sym}
use Rattle.std.proofs.lemmas.Bool.{cases_Bool, cases_eq, cases_lt}
use Rattle.hlc_causality.specs.Causality.{skeleton_at}
use Rattle.hlc_figures.specs.Columns.{greatest_number, half_width, places_from}
use Rattle.hlc_figures.specs.Content.{Content}
use Rattle.hlc_figures.specs.Figure.{arrow_between, delivery_after, end_at, is_left, turn_distance}
use Rattle.hlc_figures.specs.Lanes.{lane_at}
use Rattle.hlc_svg.specs.Frame.{x_of, y_of}
use Rattle.hlc_svg.specs.Meeting.{LieApart}
use Rattle.hlc_svg.specs.Path.{around_distance, course_of, path_of}
use Rattle.hlc_svg.specs.Shapes.{reach_of}
use Rattle.hlc_diagram.specs.Cross.{NamedCross, cross_to}
use Rattle.hlc_diagram.specs.CrossLaws.{OwnCrossesLieApart}
use Rattle.hlc_diagram.specs.Failed.{failed_in}
use Rattle.hlc_diagram.specs.Laws.{BorderArrowsTurnInRows, OwnArrowsLieApart, TurnInRows, dots_in, entering_in, leaving_in}
use Rattle.hlc_diagram.specs.Picture.{picture_of}
use Rattle.hlc_svg.specs.declared.arrow.Arrow.{Arrow}
use Rattle.hlc_svg.specs.declared.dot.Dot.{Dot}
use Rattle.hlc_svg.specs.declared.frame.TheConstants.{ROW}
use Rattle.hlc_svg.specs.declared.look.Look.{Look}
use Rattle.hlc_svg.specs.declared.route.Route.{Route}
use Rattle.hlc_svg.specs.declared.route.TheConstants.{AROUND, FURTHER}
use Rattle.hlc_svg.specs.declared.shapes.Border.{Border}
use Rattle.hlc_svg.specs.declared.shapes.Border.TheVariants.{Lower, Upper}
use Rattle.hlc_svg.specs.declared.shapes.End.{End}
use Rattle.hlc_diagram.specs.declared.view.View.{View}
use Rattle.hlc_svg.proofs.Clear.{around_far}
use Rattle.hlc_svg.proofs.Meeting.{path_apart}
use Rattle.hlc_figures.proofs.Placed.{made_of, parts_of}
use Rattle.hlc_diagram.proofs.Crosses.{is_cross}
use Rattle.hlc_diagram.proofs.Crossings.{end_from, end_to, entering, entering_at, entering_kinds, entering_more, leaving, leaving_at, leaving_kinds, leaving_more}
use Rattle.hlc_diagram.proofs.Drawn.{arrow, arrow_kinds, arrows, arrows_more, count, dot_is, first, frame, lanes, placed_from}

-- an arrow to the same lane goes less far than one over a border turns
turns_further : (border : Border) (number distance : ℕ) → distance ≤ half_width number + FURTHER → distance < turn_distance border (half_width number)
turns_further Upper number distance le = omega arith
turns_further Lower number distance le = omega arith

-- and further than where its head ends, even at a ring
head_room : (look : Look) (half : ℕ) → reach_of look half < half + AROUND
head_room look half = elim (cases_Bool look.is_ringed) [ inl ring ↦ rw ring (omega arith) | inr none ↦ rw none (omega arith) ]

module _ (c : Content) (view : View) where
  -- an arrow over a border at the dot of an event
  abbrev end_of_event : (border : Border) (e other : ℕ) (marked : Bool) → End
  end_of_event border e other marked = end_at c (frame c view) (lanes c view) border e other marked

  turns_beside : (border : Border) (e other : ℕ) (marked : Bool) (x distance : ℕ) → 0 < distance → distance ≤ (frame c view).half + FURTHER →
      x_of (frame c view) (lane_at c (lanes c view) e) ≡ x → x + distance ≢ (end_of_event border e other marked).turn_x
  turns_beside border e other marked x distance some narrow at =
      let number = greatest_number c.shown (places_from (first c view) (count c view)) in
      let turns : distance < turn_distance border (frame c view).half = turns_further border number distance narrow in
      elim (cases_Bool (is_left c e other)) [ inl left ↦ rw left (λ is. omega arith) | inr right ↦ rw right (λ is. omega arith) ]

  -- two events in one row are the same
  one_row : (e f : ℕ) → first c view ≤ e → first c view ≤ f → y_of (frame c view) e ≡ y_of (frame c view) f → e ≡ f
  one_row e f from_e from_f row = omega arith

  -- a route in this picture to the same lane
  record IsOwn (a : Route) : Type 0 where
    framed : a.frame ≡ frame c view
    same : a.from ≡ a.to
    near : a.reach < a.frame.half + AROUND

  apart_from_end : (a : Route) (border : Border) (e other : ℕ) (marked : Bool) → IsOwn a →
      x_of (frame c view) (lane_at c (lanes c view) e) ≡ x_of (frame c view) a.from.0 →
      LieApart (path_of a) (course_of (end_of_event border e other marked))
  apart_from_end a border e other marked own at =
      let framed = own.framed in
      let far = around_far a in
      let half : a.frame.half ≡ (frame c view).half = ap (λ f. f.half) framed in
      let place : x_of (frame c view) a.from.0 ≡ x_of a.frame a.from.0 = ap (λ f. x_of f a.from.0) (sym framed) in
      path_apart a (ap (λ lane. lane.0) own.same) own.near (end_of_event border e other marked)
      (turns_beside border e other marked (x_of a.frame a.from.0) (around_distance a) (omega (arith, far.0)) (omega (arith, far.1, half)) (at ∙ place))

  -- what runs over a border at a dot of that lane
  apart_from : (a : Route) (end : End) (d : Dot) → IsOwn a → Contains (entering_in (picture_of c view)) end ⊎ Contains (leaving_in (picture_of c view)) end →
      Contains (dots_in (picture_of c view)) d → d.at.y ≡ end.y → d.at.x ≡ x_of (frame c view) a.from.0 → LieApart (path_of a) (course_of end)
  apart_from a end d own ends there row lane =
      let at = dot_is c view d there in
      let e = at.0 in
      let from_e = placed_from c view e at.1 in
      let level : y_of (frame c view) e ≡ end.y = subst (λ (d : Dot). d.at.y ≡ end.y) (sym at.2) row in
      let on : x_of (frame c view) (lane_at c (lanes c view) e) ≡ x_of (frame c view) a.from.0 =
      subst (λ (d : Dot). d.at.x ≡ x_of (frame c view) a.from.0) (sym at.2) lane in
      elim ends [
        | inl comes ↦
            let made = made_of (entering c view) (entering_at c view) refl (entering_more c view) (first c view) (count c view) end comes in
            let f = made.0 in
            let is = entering_kinds c view.explained (frame c view) (lanes c view) f (skeleton_at c.events f).send end made.3 in
            let here : y_of (frame c view) e ≡ y_of (frame c view) f = subst (λ (x : End). y_of (frame c view) e ≡ x.y) (sym is.3) level in
            let one : e ≡ f = one_row e f from_e made.1 here in
            let at_f = subst (λ (n : ℕ). x_of (frame c view) (lane_at c (lanes c view) n) ≡ x_of (frame c view) a.from.0) one on in
            subst (λ (x : End). LieApart (path_of a) (course_of x)) is.3 (apart_from_end a Upper f is.0 (end_to c view is.0 f).is_marked own at_f)
        | inr leaves ↦
            let made = made_of (leaving c view) (leaving_at c view) refl (leaving_more c view) (first c view) (count c view) end leaves in
            let s = made.0 in
            let is = leaving_kinds c view.explained (frame c view) (lanes c view) s (delivery_after c view.explained (frame c view) s) end made.3 in
            let here : y_of (frame c view) e ≡ y_of (frame c view) s = subst (λ (x : End). y_of (frame c view) e ≡ x.y) (sym is.2) level in
            let one : e ≡ s = one_row e s from_e made.1 here in
            let at_s = subst (λ (n : ℕ). x_of (frame c view) (lane_at c (lanes c view) n) ≡ x_of (frame c view) a.from.0) one on in
            subst (λ (x : End). LieApart (path_of a) (course_of x)) is.2 (apart_from_end a Lower s is.0 (end_from c view s is.0).is_marked own at_s)
      ]

pub own_arrows_lie_apart : OwnArrowsLieApart
own_arrows_lie_apart c view a end d among same ends there row lane =
    let made = made_of (arrows c view) (arrow c view) refl (arrows_more c view) (first c view) (count c view) a among in
    let f = made.0 in
    let is = arrow_kinds c view.explained (frame c view) (lanes c view) f (skeleton_at c.events f).send a made.3 in
    let between = arrow_between c view.explained (frame c view) (lanes c view) is.0 f in
    let own : IsOwn c view between.route = record {
      framed = refl;
      same = subst (λ (a : Arrow). a.route.from ≡ a.route.to) (sym is.3) same;
      near = head_room (c.look f) (frame c view).half;
    } in
    let on = subst (λ (a : Arrow). d.at.x ≡ x_of (frame c view) a.route.from.0) (sym is.3) lane in
    subst (λ (a : Arrow). LieApart (path_of a.route) (course_of end)) is.3 (apart_from c view between.route end d own ends there row on)

pub own_crosses_lie_apart : OwnCrossesLieApart
own_crosses_lie_apart c view undelivered x end d among same ends there row lane =
    let made = parts_of _ (failed_in undelivered) x among in
    let is = is_cross c (frame c view) (lanes c view) made.0 x made.2 in
    let cross = cross_to c (frame c view) (lanes c view) made.0 in
    let own : IsOwn c view cross.route = record {
      framed = refl;
      same = subst (λ (x : NamedCross). x.cross.route.from ≡ x.cross.route.to) (sym is.1) same;
      near = omega arith;
    } in
    let on = subst (λ (x : NamedCross). d.at.x ≡ x_of (frame c view) x.cross.route.from.0) (sym is.1) lane in
    subst (λ (x : NamedCross). LieApart (path_of x.cross.route) (course_of end)) is.1 (apart_from c view cross.route end d own ends there row on)

-- of two events that are drawn, the later stands a row lower at least
rows_apart : (c : Content) (view : View) (e f : ℕ) → first c view ≤ e → first c view ≤ f → e ≢ f →
    (y_of (frame c view) e + ROW ≤ y_of (frame c view) f) ⊎ (y_of (frame c view) f + ROW ≤ y_of (frame c view) e)
rows_apart c view e f from_e from_f differ = elim (cases_lt e f) [ inl lt ↦ inl (omega arith) | inr ge ↦ inr (omega arith) ]

same_value : {X : Type 0} (o : Option X) (x y : X) → o ≡ Some x → o ≡ Some y → x ≡ y
same_value o x y is also = cc

-- those that come in
enter_in_rows : (c : Content) (view : View) → TurnInRows (entering_in (picture_of c view))
enter_in_rows c view a b in_a in_b =
    let of_a = made_of (entering c view) (entering_at c view) refl (entering_more c view) (first c view) (count c view) a in_a in
    let of_b = made_of (entering c view) (entering_at c view) refl (entering_more c view) (first c view) (count c view) b in_b in
    let e = of_a.0 in
    let f = of_b.0 in
    let is_a = entering_kinds c view.explained (frame c view) (lanes c view) e (skeleton_at c.events e).send a of_a.3 in
    let is_b = entering_kinds c view.explained (frame c view) (lanes c view) f (skeleton_at c.events f).send b of_b.3 in
    let at_a : y_of (frame c view) e ≡ a.y = ap (λ (x : End). x.y) is_a.3 in
    let at_b : y_of (frame c view) f ≡ b.y = ap (λ (x : End). x.y) is_b.3 in
    elim (cases_eq e f) [
      | inl same ↦
          let sends : (skeleton_at c.events f).send ≡ Some is_a.0 = ap (λ (n : ℕ). (skeleton_at c.events n).send) (sym same) ∙ is_a.1 in
          let one : is_a.0 ≡ is_b.0 = same_value _ _ _ sends is_b.1 in
          inl (sym is_a.3 ∙ ap (λ (n : ℕ). end_to c view n e) one ∙ ap (end_to c view is_b.0) same ∙ is_b.3)
      | inr differ ↦
          elim (rows_apart c view e f of_a.1 of_b.1 differ) [
            | inl above ↦ inr (inl (omega (arith, above, at_a, at_b)))
            | inr below ↦ inr (inr (omega (arith, below, at_a, at_b)))
          ]
    ]

-- and those that leave
leave_in_rows : (c : Content) (view : View) → TurnInRows (leaving_in (picture_of c view))
leave_in_rows c view a b in_a in_b =
    let of_a = made_of (leaving c view) (leaving_at c view) refl (leaving_more c view) (first c view) (count c view) a in_a in
    let of_b = made_of (leaving c view) (leaving_at c view) refl (leaving_more c view) (first c view) (count c view) b in_b in
    let e = of_a.0 in
    let f = of_b.0 in
    let is_a = leaving_kinds c view.explained (frame c view) (lanes c view) e (delivery_after c view.explained (frame c view) e) a of_a.3 in
    let is_b = leaving_kinds c view.explained (frame c view) (lanes c view) f (delivery_after c view.explained (frame c view) f) b of_b.3 in
    let at_a : y_of (frame c view) e ≡ a.y = ap (λ (x : End). x.y) is_a.2 in
    let at_b : y_of (frame c view) f ≡ b.y = ap (λ (x : End). x.y) is_b.2 in
    elim (cases_eq e f) [
      | inl same ↦
          let leads : delivery_after c view.explained (frame c view) f ≡ Some is_a.0 =
          ap (λ (n : ℕ). delivery_after c view.explained (frame c view) n) (sym same) ∙ is_a.1 in
          let one : is_a.0 ≡ is_b.0 = same_value _ _ _ leads is_b.1 in
          inl (sym is_a.2 ∙ ap (end_from c view e) one ∙ ap (λ (n : ℕ). end_from c view n is_b.0) same ∙ is_b.2)
      | inr differ ↦
          elim (rows_apart c view e f of_a.1 of_b.1 differ) [
            | inl above ↦ inr (inl (omega (arith, above, at_a, at_b)))
            | inr below ↦ inr (inr (omega (arith, below, at_a, at_b)))
          ]
    ]

pub border_arrows_turn_in_rows : BorderArrowsTurnInRows
border_arrows_turn_in_rows c view = (enter_in_rows c view, leave_in_rows c view)

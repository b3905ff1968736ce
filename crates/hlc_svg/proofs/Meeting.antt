-- Lines that don't lie on one another.
use Rattle.std.proofs.Common.{◌≡◌, ◌≢◌, ℕ, ◌+◌, ◌-◌, ◌==◌, ◌<◌, true, false, inl, inr, arith, refl, subst, sym}
use Rattle.std.specs.Prelude.{nat_lt}
use Rattle.std.proofs.lemmas.Bool.Decides.{nat_tests}
use Rattle.hlc_svg.specs.Frame.{row_y, towards, x_of}
use Rattle.hlc_svg.specs.Meeting.{IsSlanted, LieApart}
use Rattle.hlc_svg.specs.Path.{around_distance, around_x, arrow_end, arrow_start, course_along, course_of, end_y, path_of, way_around}
use Rattle.hlc_svg.specs.declared.frame.Frame.{Frame}
use Rattle.hlc_svg.specs.declared.route.Route.{Route}
use Rattle.hlc_svg.specs.declared.route.TheConstants.{AROUND, SLANT}
use Rattle.hlc_svg.specs.declared.shapes.Border.{Border}
use Rattle.hlc_svg.specs.declared.shapes.Border.TheVariants.{Lower, Upper}
use Rattle.hlc_svg.specs.declared.shapes.End.{End}
use Rattle.hlc_svg.specs.declared.shapes.Point.{Point}
use Rattle.hlc_svg.proofs.Clear.{around_far}

-- towards its own lane is to the right of it
own_side : (frame : Frame) (lane other distance : ℕ) → lane ≡ other → towards frame lane other distance ≡ x_of frame lane + distance
own_side frame lane other distance same = let test : nat_lt other lane ≡ false = grind (arith, nat_tests, same) in rw test refl

module _ (a : Route) (same : a.from.0 ≡ a.to.0) (near : a.reach < a.frame.half + AROUND) where
  abbrev out : Point
  out = record { x = around_x a; y = row_y a.from_row + SLANT }

  abbrev back : Point
  back = record { x = around_x a; y = end_y a - SLANT }

  -- it goes out and comes back at a slant
  goes_slanted : IsSlanted (arrow_start a) out
  goes_slanted =
      let far = (around_far a).0 in
      let starts = own_side a.frame a.from.0 a.to.0 a.frame.half same in
      let goes = own_side a.frame a.from.0 a.to.0 (around_distance a) same in
      (λ is. omega arith, λ is. omega arith)

  comes_slanted : IsSlanted back (arrow_end a)
  comes_slanted =
      let far = (around_far a).0 in
      let goes = own_side a.frame a.from.0 a.to.0 (around_distance a) same in
      let ends = subst (λ (lane : ℕ). towards a.frame a.to.0 a.from.0 a.reach ≡ x_of a.frame lane + a.reach) (sym same)
      (own_side a.frame a.to.0 a.from.0 a.reach (sym same)) in
      (λ is. omega arith, λ is. omega arith)

  -- so it meets what runs along a row and turns to a border
  around_apart : (border : Border) (x turn_x y border_y : ℕ) → around_x a ≢ turn_x → LieApart (way_around a) (course_along border x turn_x y border_y)
  around_apart Upper x turn_x y border_y beside = (
    (inl (goes_slanted, inl refl), (inl (goes_slanted, inr refl), tt)),
    (
      (inr (inr (refl, refl, beside)), (inr (inl (refl, refl)), tt)),
      ((inl (comes_slanted, inl refl), (inl (comes_slanted, inr refl), tt)), tt),
    ),
  )
  around_apart Lower x turn_x y border_y beside = (
    (inl (goes_slanted, inr refl), (inl (goes_slanted, inl refl), tt)),
    (
      (inr (inl (refl, refl)), (inr (inr (refl, refl, beside)), tt)),
      ((inl (comes_slanted, inr refl), (inl (comes_slanted, inl refl), tt)), tt),
    ),
  )

  -- an arrow to the same lane doesn't lie on one over a border that turns at another distance from that lane
  pub path_apart : (s : End) → x_of a.frame a.from.0 + around_distance a ≢ s.turn_x → LieApart (path_of a) (course_of s)
  path_apart s beside =
      let test : (a.from.0 == a.to.0) ≡ true = grind (arith, nat_tests, same) in
      let at = own_side a.frame a.from.0 a.to.0 (around_distance a) same in
      let other : around_x a ≢ s.turn_x = λ is. beside (subst (λ (x : ℕ). x ≡ s.turn_x) at is) in
      rw test (around_apart s.border s.x s.turn_x s.y s.border_y other)

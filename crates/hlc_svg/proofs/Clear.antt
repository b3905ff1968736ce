-- Lines that keep clear of dots.
use Rattle.std.proofs.Common.{◌≡◌, ◌≢◌, ◌∙◌, ℕ, zero, suc, ◌+◌, ◌-◌, ◌*◌, ◌/◌, ◌==◌, ◌<◌, ◌≤◌, true, false, inl, inr, ◌∷◌, ap, arith, subst, refl}
use Rattle.std.specs.Prelude.{nat_lt}
use Rattle.std.proofs.Math.Nat.{div-lt_iff_lt-mul, div-mul-le_self, mul-le-mul_left}
use Rattle.std.proofs.lemmas.Bool.{cases_eq, cases_lt}
use Rattle.std.proofs.lemmas.Bool.Decides.{nat_tests}
use Rattle.std.proofs.lemmas.Nat.{le-div}
use Rattle.hlc_svg.specs.Frame.{row_of, row_y, towards, x_of, y_of}
use Rattle.hlc_svg.specs.Clear.{KeepsClear, LineKeepsClear, NeverRises}
use Rattle.hlc_svg.specs.Path.{around_distance, arrow_end, arrow_start, crossing_end, crossing_start, crossing_y, end_y, lane_at, lanes_of, path_from, path_of, way_around, way_of}
use Rattle.hlc_svg.specs.declared.route.Route.{Route}
use Rattle.hlc_svg.specs.declared.route.TheConstants.{AROUND, FURTHER}
use Rattle.hlc_svg.specs.declared.frame.Frame.{Frame}
use Rattle.hlc_svg.specs.declared.frame.TheConstants.{ROW}
use Rattle.hlc_svg.specs.declared.dot.Dot.{Dot}
use Rattle.hlc_svg.specs.declared.shapes.Point.{Point}

-- between a lane and the next one, by half a dot's width from each at least
abbrev pub IsInGap : Frame → (gap x : ℕ) → Type 0
IsInGap frame gap x = (x_of frame gap + frame.half ≤ x) × (x + frame.half ≤ x_of frame (gap + 1))

pub next_lane : (frame : Frame) (n m : ℕ) → n < m → x_of frame n + frame.lane_distance ≤ x_of frame m
next_lane frame n m lt =
    let d : ℕ = frame.lane_distance in
    let le : n + 1 ≤ m = omega arith in
    let far : d * (n + 1) ≤ d * m = mul-le-mul_left d le in
    omega arith

later_lane : (frame : Frame) (n m : ℕ) → n ≤ m → x_of frame n ≤ x_of frame m
later_lane frame n m le =
    let far : frame.lane_distance * n ≤ frame.lane_distance * m = mul-le-mul_left frame.lane_distance le in
    omega arith

-- so far from a lane towards another it is between that lane and the next
module _ (frame : Frame) (node other gap distance : ℕ) (wide : frame.half ≤ distance) (narrow : distance + frame.half ≤ frame.lane_distance)
  where
    pub right_of_lane : node ≤ other → gap ≡ node → IsInGap frame gap (towards frame node other distance)
    right_of_lane le same =
        let test : nat_lt other node ≡ false = grind (arith, nat_tests, le) in
        let next = next_lane frame gap (gap + 1) (omega arith) in
        let at : x_of frame gap ≤ x_of frame node = later_lane frame gap node (omega arith) in
        let back : x_of frame node ≤ x_of frame gap = later_lane frame node gap (omega arith) in
        rw test (omega arith, omega arith)

    pub left_of_lane : other < node → gap + 1 ≡ node → IsInGap frame gap (towards frame node other distance)
    left_of_lane lt same =
        let test : nat_lt other node ≡ true = grind (arith, nat_tests, lt) in
        let next = next_lane frame gap node (omega arith) in
        let at : x_of frame node ≤ x_of frame (gap + 1) = later_lane frame node (gap + 1) (omega arith) in
        rw test (omega arith, omega arith)

-- a dot stands on a lane and in a row
pub record StandsAt (frame : Frame) (dot : Dot) (node e : ℕ) : Type 0 where
  pub half : dot.half ≡ frame.half
  pub lane : dot.at.x ≡ x_of frame node
  pub row : dot.at.y ≡ y_of frame e

module _ (frame : Frame) (dot : Dot) (node e : ℕ) (stands : StandsAt frame dot node e) where
  -- what runs between two lanes keeps clear of the dots on all lanes
  pub line_in_gap : (gap : ℕ) (p q : Point) → IsInGap frame gap p.x → IsInGap frame gap q.x → LineKeepsClear dot p q
  line_in_gap gap p q at_p at_q =
      let half = stands.half in
      let lane = stands.lane in
      let p_from = at_p.0 in
      let p_to = at_p.1 in
      let q_from = at_q.0 in
      let q_to = at_q.1 in
      elim (cases_lt node (gap + 1)) [
        | inl left ↦
            let far : x_of frame node ≤ x_of frame gap = later_lane frame node gap (omega arith) in
            inr (inl (omega arith, omega arith))
        | inr right ↦
            let far : x_of frame (gap + 1) ≤ x_of frame node = later_lane frame (gap + 1) node right in
            inl (omega arith, omega arith)
      ]

  -- and what is level, midway between two rows, of those in all rows
  pub line_between_rows : (from rows : ℕ) (p q : Point) → p.y ≡ row_y from + ROW * rows + ROW / 2 → q.y ≡ p.y → LineKeepsClear dot p q
  line_between_rows from rows p q level same =
      let row = stands.row in
      let at : ℕ = row_of frame e in
      elim (cases_lt (from + rows) at) [
        | inl above ↦ inr (inr (inl (omega arith, omega arith)))
        | inr below ↦ inr (inr (inr (omega arith, omega arith)))
      ]

-- how far an arrow to the same lane goes
pub around_far : (a : Route) → (a.frame.half + AROUND ≤ around_distance a) × (around_distance a ≤ a.frame.half + FURTHER)
around_far a =
    elim (cases_eq a.below 0) [
      | inl none ↦ let test : (a.below == 0) ≡ true = grind (arith, nat_tests, none) in rw test (omega arith, omega arith)
      | inr some ↦ let test : (a.below == 0) ≡ false = grind (arith, nat_tests, some) in rw test (omega arith, omega arith)
    ]

module _ (a : Route) (room : 2 * a.frame.half < a.frame.lane_distance)
    (around : a.frame.half + FURTHER + a.frame.half ≤ a.frame.lane_distance) (outer : a.frame.half ≤ a.reach)
    (inner : a.reach + a.frame.half ≤ a.frame.lane_distance) where
  lanes_right : a.from.0 < a.to.0 → lanes_of a ≡ a.to.0 - a.from.0
  lanes_right lt = omega arith

  lanes_left : a.to.0 < a.from.0 → lanes_of a ≡ a.from.0 - a.to.0
  lanes_left lt = omega arith

  lane_right : a.from.0 < a.to.0 → (place : ℕ) → a.from.0 + place ≡ lane_at a place
  lane_right lt place = let test : nat_lt a.from.0 a.to.0 ≡ true = grind (arith, nat_tests, lt) in rw test refl

  lane_left : a.to.0 < a.from.0 → (place : ℕ) → a.from.0 - place ≡ lane_at a place
  lane_left lt place = let test : nat_lt a.from.0 a.to.0 ≡ false = grind (arith, nat_tests, lt) in rw test refl

  -- from each lane of its way to the next an arrow runs in one gap
  record RunsInGaps (gap : ℕ → ℕ) : Type 0 where
    begins : IsInGap a.frame (gap 0) (arrow_start a).x
    leaves : (place : ℕ) → place < lanes_of a → IsInGap a.frame (gap place) (crossing_end a place).x
    comes : (place : ℕ) → place + 1 < lanes_of a → IsInGap a.frame (gap place) (crossing_start a (place + 1)).x
    ends : (place : ℕ) → place + 1 ≡ lanes_of a → IsInGap a.frame (gap place) (arrow_end a).x

  right_gaps : a.from.0 < a.to.0 → RunsInGaps (λ place. a.from.0 + place)
  right_gaps lt =
      let half = a.frame.half in
      let wide : half ≤ half = omega arith in
      let narrow : half + half ≤ a.frame.lane_distance = omega arith in
      let lanes = lanes_right lt in
      record {
        begins = right_of_lane a.frame a.from.0 a.to.0 (a.from.0 + 0) half wide narrow (omega arith) (omega arith);
        leaves = λ place within. subst (λ (node : ℕ). IsInGap a.frame (a.from.0 + place) (towards a.frame node a.to.0 half)) (lane_right lt place)
            (right_of_lane a.frame (a.from.0 + place) a.to.0 (a.from.0 + place) half wide narrow (omega arith) refl);
        comes = λ place within. subst (λ (node : ℕ). IsInGap a.frame (a.from.0 + place) (towards a.frame node a.from.0 half)) (lane_right lt (place + 1))
            (left_of_lane a.frame (a.from.0 + (place + 1)) a.from.0 (a.from.0 + place) half wide narrow (omega arith) (omega arith));
        ends = λ place last. left_of_lane a.frame a.to.0 a.from.0 (a.from.0 + place) a.reach outer inner lt (omega arith);
      }

  left_gaps : a.to.0 < a.from.0 → RunsInGaps (λ place. a.from.0 - (place + 1))
  left_gaps lt =
      let half = a.frame.half in
      let wide : half ≤ half = omega arith in
      let narrow : half + half ≤ a.frame.lane_distance = omega arith in
      let lanes = lanes_left lt in
      record {
        begins = left_of_lane a.frame a.from.0 a.to.0 (a.from.0 - (0 + 1)) half wide narrow lt (omega arith);
        leaves = λ place within. subst (λ (node : ℕ). IsInGap a.frame (a.from.0 - (place + 1)) (towards a.frame node a.to.0 half)) (lane_left lt place)
            (left_of_lane a.frame (a.from.0 - place) a.to.0 (a.from.0 - (place + 1)) half wide narrow (omega arith) (omega arith));
        comes = λ place within. subst (λ (node : ℕ). IsInGap a.frame (a.from.0 - (place + 1)) (towards a.frame node a.from.0 half)) (lane_left lt (place + 1))
            (right_of_lane a.frame (a.from.0 - (place + 1)) a.from.0 (a.from.0 - (place + 1)) half wide narrow (omega arith) refl);
        ends = λ place last. right_of_lane a.frame a.to.0 a.from.0 (a.from.0 - (place + 1)) a.reach outer inner (omega arith) (omega arith);
      }

  module _ (dot : Dot) (node e : ℕ) (stands : StandsAt a.frame dot node e) where
    path_in_gaps :
        (gap : ℕ → ℕ) → RunsInGaps gap → (place left : ℕ) (p : Point) → place + 1 + left ≡ lanes_of a → IsInGap a.frame (gap place) p.x →
        KeepsClear dot (p ∷ path_from a (place + 1) left)
    path_in_gaps gap runs place zero p count at_p =
        let last = line_in_gap a.frame dot node e stands (gap place) p (arrow_end a) at_p (runs.ends place (omega arith)) in
        (last, tt)
    path_in_gaps gap runs place (suc left) p count at_p =
        let rows : ℕ = (a.to_row - a.from_row) * (place + 1) / lanes_of a in (
          line_in_gap a.frame dot node e stands (gap place) p (crossing_start a (place + 1)) at_p (runs.comes place (omega arith)),
          (
            line_between_rows a.frame dot node e stands a.from_row rows (crossing_start a (place + 1)) (crossing_end a (place + 1)) refl refl,
            path_in_gaps gap runs (place + 1) left (crossing_end a (place + 1)) (omega arith) (runs.leaves (place + 1) (omega arith)),
          ),
        )

    -- an arrow between two lanes keeps clear of all dots
    way_keeps_clear : a.from.0 ≢ a.to.0 → KeepsClear dot (way_of a)
    way_keeps_clear differ =
        elim (cases_lt a.from.0 a.to.0) [
          | inl lt ↦
              let lanes = lanes_right lt in
              let runs = right_gaps lt in
              path_in_gaps (λ place. a.from.0 + place) runs 0 (lanes_of a - 1) (arrow_start a) (omega arith) runs.begins
          | inr ge ↦
              let lt : a.to.0 < a.from.0 = omega arith in
              let lanes = lanes_left lt in
              let runs = left_gaps lt in
              path_in_gaps (λ place. a.from.0 - (place + 1)) runs 0 (lanes_of a - 1) (arrow_start a) (omega arith) runs.begins
        ]

    -- and so does one to the same lane
    way_around_keeps_clear : a.from.0 ≡ a.to.0 → KeepsClear dot (way_around a)
    way_around_keeps_clear same =
        let half = a.frame.half in
        let gap = a.from.0 in
        let wide : half ≤ half = omega arith in
        let narrow : half + half ≤ a.frame.lane_distance = omega arith in
        let far = around_far a in
        let wide_around : half ≤ around_distance a = omega (arith, far.0) in
        let narrow_around : around_distance a + half ≤ a.frame.lane_distance = omega (arith, far.1, around) in
        let begins = right_of_lane a.frame a.from.0 a.to.0 gap half wide narrow (omega arith) refl in
        let goes = right_of_lane a.frame a.from.0 a.to.0 gap (around_distance a) wide_around narrow_around (omega arith) refl in
        let ends = right_of_lane a.frame a.to.0 a.from.0 gap a.reach outer inner (omega arith) (omega arith) in
        let line = line_in_gap a.frame dot node e stands gap in
        (line _ _ begins goes, (line _ _ goes goes, (line _ _ goes ends, tt)))

    pub path_keeps_clear : KeepsClear dot (path_of a)
    path_keeps_clear =
        elim (cases_eq a.from.0 a.to.0) [
          | inl same ↦ let test : (a.from.0 == a.to.0) ≡ true = grind (arith, nat_tests, same) in rw test (way_around_keeps_clear same)
          | inr differ ↦ let test : (a.from.0 == a.to.0) ≡ false = grind (arith, nat_tests, differ) in rw test (way_keeps_clear differ)
        ]

-- the further on its way a lane is, the lower it is crossed
module _ (a : Route) (ordered : a.from_row ≤ a.to_row) (falls : row_y a.from_row + ROW / 2 ≤ end_y a) where
  later_is_lower : (place next : ℕ) → place ≤ next → next < lanes_of a → crossing_y a place ≤ crossing_y a next
  later_is_lower place next le within =
      let rows : ℕ = a.to_row - a.from_row in
      let lanes : ℕ = lanes_of a in
      let more : rows * place ≤ rows * next = mul-le-mul_left rows le in
      let some : rows * place / lanes * lanes ≤ rows * place = div-mul-le_self (rows * place) lanes in
      let further : rows * place / lanes ≤ rows * next / lanes =
      le-div (rows * place / lanes) (rows * next) lanes (omega arith) (omega arith) in
      omega arith

  above_end : (place : ℕ) → place < lanes_of a → crossing_y a place ≤ end_y a
  above_end place within =
      let rows : ℕ = a.to_row - a.from_row in
      let lanes : ℕ = lanes_of a in
      elim (cases_lt a.from_row a.to_row) [
        | inl lower ↦
            let more : rows * (place + 1) ≤ rows * lanes = mul-le-mul_left rows (let le : place + 1 ≤ lanes = omega arith in le) in
            let some : rows * place / lanes < rows =
            (div-lt_iff_lt-mul {k = lanes} {x = rows * place} {y = rows} (omega arith)).1 (omega arith) in
            omega arith
        | inr level ↦
            let none : rows ≡ 0 = omega arith in
            let nothing : rows * place ≡ 0 = ap (λ (n : ℕ). n * place) none ∙ (omega arith) in
            let some : rows * place / lanes < 1 =
            (div-lt_iff_lt-mul {k = lanes} {x = rows * place} {y = 1} (omega arith)).1 (omega arith) in
            omega arith
      ]

  path_falls :
      (place left : ℕ) (p : Point) → place + 1 + left ≡ lanes_of a → p.y ≤ end_y a →
      ((next : ℕ) → place < next → next < lanes_of a → p.y ≤ crossing_y a next) → NeverRises (p ∷ path_from a (place + 1) left)
  path_falls place zero p count end next = (end, tt)
  path_falls place (suc left) p count end next = (
    next (place + 1) (omega arith) (omega arith),
    (
      omega arith,
      path_falls (place + 1) left (crossing_end a (place + 1)) (omega arith) (above_end (place + 1) (omega arith))
          (λ n lt within. later_is_lower (place + 1) n (omega arith) within),
    ),
  )

  -- no line of an arrow rises
  way_never_rises : a.from.0 ≢ a.to.0 → NeverRises (way_of a)
  way_never_rises differ =
      let some : 0 < lanes_of a = omega arith in
      path_falls 0 (lanes_of a - 1) (arrow_start a) (omega arith) (omega arith) (λ next lt within. omega arith)

  way_around_never_rises : NeverRises (way_around a)
  way_around_never_rises = (omega arith, (omega arith, (omega arith, tt)))

  pub path_never_rises : NeverRises (path_of a)
  path_never_rises =
      elim (cases_eq a.from.0 a.to.0) [
        | inl same ↦ let test : (a.from.0 == a.to.0) ≡ true = grind (arith, nat_tests, same) in rw test way_around_never_rises
        | inr differ ↦ let test : (a.from.0 == a.to.0) ≡ false = grind (arith, nat_tests, differ) in rw test (way_never_rises differ)
      ]

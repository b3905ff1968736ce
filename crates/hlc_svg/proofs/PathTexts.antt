-- The text of an arrow's line, point by point.
use Rattle.std.proofs.Common.{◌≡◌, ◌∙◌, ℕ, zero, suc, ◌+◌, ◌-◌, ◌<◌, ◌≤◌, List, [], ◌∷◌, ◌++◌, append-nil, append_assoc, arith, ap, codes, sym}
use Rattle.hlc_svg.specs.Path.{arrow_end, arrow_start, crossing_end, crossing_start, crossing_text, lanes_of, path_from, point_text, points_text, way_of}
use Rattle.hlc_svg.specs.declared.route.Route.{Route}
use Rattle.hlc_svg.specs.declared.shapes.Point.{Point}

-- what is left of the text with this many lanes still to be crossed
abbrev pub rest_text : Route → (place left : ℕ) → (tail : List ℕ) → List ℕ
rest_text a place left tail = codes " " ++ (points_text (path_from a place left) ++ tail)

then_points :
    (a : Route) (p : Point) (place left : ℕ) (tail : List ℕ) →
    points_text (p ∷ path_from a place left) ++ tail ≡ point_text p ++ rest_text a place left tail
then_points a p place zero tail =
    append_assoc (point_text p) (codes " " ++ points_text (arrow_end a ∷ [])) tail
    ∙ ap (λ (t : List ℕ). point_text p ++ t) (append_assoc (codes " ") (points_text (arrow_end a ∷ [])) tail)
then_points a p place (suc left) tail =
    append_assoc (point_text p) (codes " " ++ points_text (path_from a place (suc left))) tail
    ∙ ap (λ (t : List ℕ). point_text p ++ t) (append_assoc (codes " ") (points_text (path_from a place (suc left))) tail)

-- a way begins with its first point
pub way_begins :
    (a : Route) (start : Point) (old written : List ℕ) → start ≡ arrow_start a → written ≡ old ++ point_text start →
    written ++ rest_text a 1 (lanes_of a - 1) [] ≡ old ++ points_text (way_of a)
way_begins a start old written at is =
    let rest = rest_text a 1 (lanes_of a - 1) [] in
    let begun = is ∙ ap (λ (p : Point). old ++ point_text p) at in
    let then = sym (then_points a (arrow_start a) 1 (lanes_of a - 1) []) ∙ append-nil (points_text (way_of a)) in
    ap (λ (t : List ℕ). t ++ rest) begun ∙ append_assoc old (point_text (arrow_start a)) rest ∙ ap (λ (t : List ℕ). old ++ t) then

-- and goes on with the two of a crossing
rest_crosses : (a : Route) (place left : ℕ) (tail : List ℕ)
    → crossing_text a place ++ rest_text a (place + 1) left tail ≡ rest_text a place (suc left) tail
rest_crosses a place left tail =
    let rest = rest_text a (place + 1) left tail in
    let begins = point_text (crossing_start a place) in
    let ends = point_text (crossing_end a place) in
    append_assoc (codes " ") (begins ++ (codes " " ++ ends)) rest
    ∙ ap (λ (t : List ℕ). codes " " ++ t) (append_assoc begins (codes " " ++ ends) rest
    ∙ ap (λ (t : List ℕ). begins ++ t) (append_assoc (codes " ") ends rest
    ∙ ap (λ (t : List ℕ). codes " " ++ t) (sym (then_points a (crossing_end a place) (place + 1) left tail)))
    ∙ sym (append_assoc begins (codes " " ++ points_text (crossing_end a place ∷ path_from a (place + 1) left)) tail
    ∙ ap (λ (t : List ℕ). begins ++ t) (append_assoc (codes " ") (points_text (crossing_end a place ∷ path_from a (place + 1) left)) tail)))

pub way_crosses :
    (a : Route) (place : ℕ) (written new whole tail : List ℕ) → place < lanes_of a → written
    ++ rest_text a place (lanes_of a - place) tail ≡ whole →
    new ≡ written ++ crossing_text a place → new ++ rest_text a (place + 1) (lanes_of a - (place + 1)) tail ≡ whole
way_crosses a place written new whole tail lt before is =
    let left : ℕ = lanes_of a - (place + 1) in
    let more : lanes_of a - place ≡ suc left = omega arith in
    ap (λ (t : List ℕ). t ++ rest_text a (place + 1) left tail) is
    ∙ append_assoc written (crossing_text a place) (rest_text a (place + 1) left tail)
    ∙ ap (λ (t : List ℕ). written ++ t) (rest_crosses a place left tail ∙ ap (λ (n : ℕ). rest_text a place n tail) (sym more)) ∙ before

-- and ends with its last one
pub way_ends :
    (a : Route) (end : Point) (place : ℕ) (written new whole : List ℕ) → end ≡ arrow_end a → lanes_of a ≤ place →
    written ++ rest_text a place (lanes_of a - place) [] ≡ whole → new ≡ written ++ (codes " " ++ point_text end) → new ≡ whole
way_ends a end place written new whole at le before is =
    let none : zero ≡ lanes_of a - place = omega arith in
    is ∙ ap (λ (p : Point). written ++ (codes " " ++ point_text p)) at
    ∙ ap (λ (t : List ℕ). written ++ (codes " " ++ t)) (sym (append-nil (point_text (arrow_end a))))
    ∙ ap (λ (n : ℕ). written ++ rest_text a place n []) none ∙ before

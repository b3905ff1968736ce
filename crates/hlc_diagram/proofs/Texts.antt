-- Texts that are added one after the other.
use Rattle.std.proofs.Common.{◌≡◌, ◌∙◌, ℕ, ◌+◌, ◌<◌, ◌≤◌, List, [], ◌∷◌, ◌++◌, Option, Some, None, ap, append_assoc, append-nil, codes, flat_map, get_or, length, map, refl, sym, subst, take}
use Rattle.hlc_stamp.specs.declared.id.EventId.{EventId}
use Rattle.hlc_causality.specs.Places.{places_below}
use Rattle.std.specs.Io.KnownBytes.{Appends, Keeps, append_known}
use Rattle.std.specs.List.{cons_option, filter_map}
use Rattle.std.proofs.KnownBytes.{Appends-kept, Appends-trans}
use Rattle.std.proofs.lemmas.List.{take_all, take_more}
use Rattle.std.proofs.lemmas.List.Concat.{flat_map-append}
use Rattle.hlc_figures.specs.Content.{Content}
use Rattle.hlc_diagram.specs.Cross.{cross_of, cross_text}
use Rattle.hlc_figures.specs.Head.{caption_of, head_text, heading_of}
use Rattle.hlc_diagram.specs.Picture.{GrowsBy, picture_in, picture_text}
use Rattle.hlc_figures.specs.DrawnRow.{drawn_row, layer_text}
use Rattle.hlc_figures.specs.FigureText.{named_lane_of, named_lane_text}
use Rattle.hlc_figures.specs.declared.layer.Layer.TheVariants.{Back, Front, Lines}
use Rattle.hlc_figures.specs.declared.rows.Row.{Row}
use Rattle.hlc_svg.specs.Shapes.{if_drawn}
use Rattle.hlc_svg.specs.declared.frame.Frame.{Frame}
use Rattle.hlc_diagram.specs.declared.failed.Failed.{Failed}
use Rattle.hlc_figures.proofs.Cells.{flat_map-map}

-- what waits grows
pub adds_grown : (a : Option (List ℕ)) (old new text : List ℕ) → new ≡ old ++ text → GrowsBy a a old new text
adds_grown None old new text grown = tt
adds_grown (Some x) old new text grown = ap (λ (t : List ℕ). x ++ t) grown ∙ sym (append_assoc x old text)

-- a text is added, some of what waits is handed on, and then the rest is added
pub adds_then :
    (a b c : Option (List ℕ)) (old mid new first rest : List ℕ) → GrowsBy a b old mid first → GrowsBy b c mid new rest →
    GrowsBy a c old new (first ++ rest)
adds_then a b c old mid new first rest h t = Appends-trans (append_known a old) (append_known b mid) (append_known c new) first rest h t

pub adds_kept :
    (a b c : Option (List ℕ)) (old mid new text : List ℕ) → GrowsBy a b old mid text → Keeps (append_known b mid) (append_known c new) →
    GrowsBy a c old new text
adds_kept a b c old mid new text h k = Appends-kept (append_known a old) (append_known b mid) (append_known c new) text h k

-- what one thing after another adds
module _ {X : Type 0} (piece : X → List ℕ) where
  pub adds_none : (a : Option (List ℕ)) (old : List ℕ) → GrowsBy a a old old (flat_map piece [])
  adds_none None old = tt
  adds_none (Some x) old = sym (append-nil (x ++ old))

  pub adds_more :
      (a b c : Option (List ℕ)) (old mid grown new : List ℕ) (before : List X) (x : X) → GrowsBy a b old mid (flat_map piece before) →
      grown ≡ mid ++ piece x → Keeps (append_known b grown) (append_known c new) → GrowsBy a c old new (flat_map piece (before ++ x ∷ []))
  adds_more a b c old mid grown new before x h e k =
      let text : flat_map piece before ++ (piece x ++ []) ≡ flat_map piece (before ++ x ∷ []) =
      sym (flat_map-append piece before (x ∷ [])) in
      let grows : grown ≡ mid ++ (piece x ++ []) = e ∙ ap (λ (t : List ℕ). mid ++ t) (sym (append-nil (piece x))) in
      let added : GrowsBy b b mid grown (piece x ++ []) = adds_grown b mid grown (piece x ++ []) grows in
      subst (GrowsBy a c old new) text
      (adds_kept a b c old grown new _ (adds_then a b b old mid grown (flat_map piece before) (piece x ++ []) h added) k)

-- what waits is handed over
pub handed_over : (a b c : Option (List ℕ)) (waiting text : List ℕ) → GrowsBy a b [] waiting text → Appends b c waiting → Appends a c text
handed_over None b c waiting text h t = tt
handed_over (Some x) None c waiting text h t = absurd h
handed_over (Some x) (Some y) None waiting text h t = absurd t
handed_over (Some x) (Some y) (Some z) waiting text h t = t ∙ h ∙ ap (λ (s : List ℕ). s ++ text) (append-nil x)

-- the parts of a picture are added one after the other, and the last of them is handed over with what waits
pub parts_drawn :
    (w0 w1 w2 w3 w4 w5 : Option (List ℕ)) (t0 t1 t2 t3 t4 head backs lanes lines fronts foot : List ℕ) → t0 ≡ [] ++ head →
    GrowsBy w0 w1 t0 t1 backs → GrowsBy w1 w2 t1 t2 lanes → GrowsBy w2 w3 t2 t3 lines → GrowsBy w3 w4 t3 t4 fronts →
    Appends w4 w5 (t4 ++ foot) → Appends w0 w5 (head ++ (backs ++ (lanes ++ (lines ++ (fronts ++ foot)))))
parts_drawn w0 w1 w2 w3 w4 w5 t0 t1 t2 t3 t4 head backs lanes lines fronts foot begins back lane line front ends =
    let t5 = t4 ++ foot in
    let begun : GrowsBy w0 w0 [] t0 head = adds_grown w0 [] t0 head begins in
    let ended : GrowsBy w4 w4 t4 (t4 ++ foot) foot = adds_grown w4 t4 (t4 ++ foot) foot refl in
    let four : GrowsBy w3 w4 t3 (t4 ++ foot) (fronts ++ foot) = adds_then w3 w4 w4 t3 t4 (t4 ++ foot) fronts foot front ended in
    let three : GrowsBy w2 w4 t2 (t4 ++ foot) (lines ++ (fronts ++ foot)) =
    adds_then w2 w3 w4 t2 t3 (t4 ++ foot) lines (fronts ++ foot) line four in
    let two : GrowsBy w1 w4 t1 (t4 ++ foot) (lanes ++ (lines ++ (fronts ++ foot))) =
    adds_then w1 w2 w4 t1 t2 (t4 ++ foot) lanes (lines ++ (fronts ++ foot)) lane three in
    let one : GrowsBy w0 w4 t0 (t4 ++ foot) (backs ++ (lanes ++ (lines ++ (fronts ++ foot)))) =
    adds_then w0 w1 w4 t0 t1 (t4 ++ foot) backs (lanes ++ (lines ++ (fronts ++ foot))) back two in
    let all : GrowsBy w0 w4 [] (t4 ++ foot) (head ++ (backs ++ (lanes ++ (lines ++ (fronts ++ foot))))) =
    adds_then w0 w0 w4 [] t0 (t4 ++ foot) head (backs ++ (lanes ++ (lines ++ (fronts ++ foot)))) begun one in
    handed_over w0 w4 w5 (t4 ++ foot) _ all ends

-- what is added of the elements of a list, one after the other
module _ {X : Type 0} (piece : X → List ℕ) (xs : List X) where
  pub taken_added :
      (i : ℕ) (x : X) (a b c : Option (List ℕ)) (old mid grown new : List ℕ) → i < length xs →
      GrowsBy a b old mid (flat_map piece (take i xs)) → grown ≡ mid ++ piece (get_or xs i x) → Keeps (append_known b grown) (append_known c new) →
      GrowsBy a c old new (flat_map piece (take (i + 1) xs))
  taken_added i x a b c old mid grown new lt h e k =
      subst (λ (taken : List X). GrowsBy a c old new (flat_map piece taken)) (sym (take_more xs i x lt))
      (adds_more piece a b c old mid grown new (take i xs) (get_or xs i x) h e k)

  pub all_taken : (i : ℕ) (a b : Option (List ℕ)) (old new : List ℕ) → length xs ≤ i → GrowsBy a b old new (flat_map piece (take i xs)) →
      GrowsBy a b old new (flat_map piece xs)
  all_taken i a b old new le h = subst (λ (taken : List X). GrowsBy a b old new (flat_map piece taken)) (take_all i xs le) h

module _ {X Y : Type 0} (text : Y → List ℕ) (f : X → Option Y) where
  first_drawn : (o : Option Y) (rest : List Y) → if_drawn text o ++ flat_map text rest ≡ flat_map text (cons_option o rest)
  first_drawn None rest = refl
  first_drawn (Some y) rest = refl

  pub flat_map-filter_map : (xs : List X) → flat_map (λ x. if_drawn text (f x)) xs ≡ flat_map text (filter_map f xs)
  flat_map-filter_map [] = refl
  flat_map-filter_map (x ∷ xs) =
      ap (λ (t : List ℕ). if_drawn text (f x) ++ t) (flat_map-filter_map xs) ∙ first_drawn (f x) (filter_map f xs)

-- the parts of a picture, one after the other
pub parts_of_picture :
    (c : Content) (frame : Frame) (lanes : List ℕ) (explained : Option EventId) (rows : List Row) (failed : List Failed) →
    head_text frame (caption_of c explained frame) c.legend (map (heading_of c frame) (places_below c.columns))
    ++ (flat_map (λ row. layer_text Back (drawn_row c explained frame lanes row)) rows
    ++ (flat_map (λ node. named_lane_text (named_lane_of c frame lanes node)) lanes
    ++ ((flat_map (λ row. layer_text Lines (drawn_row c explained frame lanes row)) rows
    ++ flat_map (λ m. if_drawn cross_text (cross_of c frame lanes m)) failed)
    ++ (flat_map (λ row. layer_text Front (drawn_row c explained frame lanes row)) rows ++ codes "</svg>\n"))))
    ≡ picture_text (picture_in c frame lanes explained rows failed)
unfolding picture_text
parts_of_picture c frame lanes explained rows failed =
    let back = flat_map-map (layer_text Back) (drawn_row c explained frame lanes) rows in
    let named = flat_map-map named_lane_text (named_lane_of c frame lanes) lanes in
    let lines = flat_map-map (layer_text Lines) (drawn_row c explained frame lanes) rows in
    let crosses = flat_map-filter_map cross_text (cross_of c frame lanes) failed in
    let front = flat_map-map (layer_text Front) (drawn_row c explained frame lanes) rows in
    let drawn = map (drawn_row c explained frame lanes) rows in
    let then =
    append_assoc (flat_map (layer_text Lines) drawn) (flat_map cross_text (filter_map (cross_of c frame lanes) failed))
    (flat_map (layer_text Front) drawn ++ codes "</svg>\n") in
    rw (back, named, lines, crosses, front, then) refl

-- The arrows over the borders of a picture.
use Rattle.std.proofs.Common.{◌≡◌, ◌∙◌, ℕ, ◌+◌, ◌<◌, ◌≤◌, ◌&&◌, Bool, true, false, inl, inr, List, [], ◌∷◌, Contains, Option, Some, None, ap, arith, find, refl, subst, sym}
use Rattle.std.specs.List.{cons_option, filter_map}
use Rattle.std.specs.Option.{option_or}
use Rattle.std.specs.Prelude.{nat_le, nat_lt}
use Rattle.std.proofs.lemmas.Bool.{and_parts, cases_Bool, cases_eq}
use Rattle.std.proofs.lemmas.Bool.Decides.{nat_tests}
use Rattle.std.proofs.lemmas.List.Elements.{Contains-append_cases}
use Rattle.hlc_stamp.specs.declared.id.EventId.{EventId}
use Rattle.hlc_causality.specs.Causality.{IsSendOf, skeleton_at}
use Rattle.hlc_causality.specs.FollowedChains.{is_event}
use Rattle.hlc_causality.specs.Neighbours.{deliveries_of}
use Rattle.hlc_causality.proofs.Neighbours.{deliveries_of-complete}
use Rattle.hlc_stamp.specs.Ids.{is_among}
use Rattle.hlc_figures.specs.Chosen.{chosen}
use Rattle.hlc_figures.specs.Columns.{lane_distance}
use Rattle.hlc_figures.specs.Content.{Content, SendsComeFirst, clock_events_of, node_at}
use Rattle.hlc_figures.specs.Figure.{delivery_after, end_at, entering_from, entering_of, first_after, forcing_at, goes_on, is_step, leaving_of, leaving_to, next_of, side_distance, step_after, turn_distance}
use Rattle.hlc_figures.specs.Lanes.{lane_at}
use Rattle.hlc_svg.specs.Frame.{x_of}
use Rattle.hlc_diagram.specs.Laws.{ArrowsComeIn, ArrowsLeave, BeginsBeside, ComesIn, CrossesBorder, IsInRange, Leaves, MessagesComeIn, MessagesLeave, TurnsTowards}
use Rattle.hlc_figures.specs.FigureText.{Figure}
use Rattle.hlc_diagram.specs.Picture.{picture_of}
use Rattle.hlc_svg.specs.declared.frame.Frame.{Frame}
use Rattle.hlc_svg.specs.declared.frame.TheConstants.{TOP}
use Rattle.hlc_svg.specs.declared.look.Look.{Look}
use Rattle.hlc_svg.specs.declared.shapes.Border.{Border}
use Rattle.hlc_svg.specs.declared.shapes.Border.TheVariants.{Lower, Upper}
use Rattle.hlc_svg.specs.declared.shapes.End.{End}
use Rattle.hlc_diagram.specs.declared.view.View.{View}
use Rattle.hlc_diagram.proofs.Drawn.{count, dot, dot_there, drawn, drawn_more, drawn_there, figure, first, frame, in_range, lanes}
use Rattle.hlc_svg.proofs.Clear.{next_lane}
use Rattle.hlc_figures.proofs.Links.{chosen_exists, found_is_among}
use Rattle.hlc_figures.proofs.NodeLanes.{counts_one}
use Rattle.hlc_figures.proofs.NumberedDots.{left_arrows_have_room}
use Rattle.hlc_figures.proofs.Placed.{AddsItems, in_one, made_of, parts_more}

-- what is found passes, and if something passes, something is found
found_passes : (test : ℕ → Bool) (xs : List ℕ) (x : ℕ) → find test xs ≡ Some x → test x ≡ true
found_passes test [] x found = absurd (cc)
found_passes test (y ∷ ys) x found =
    elim (cases_Bool (test y)) [
      | inl is ↦ let same : y ≡ x = (let h = rw is at found in cc) in subst (λ (n : ℕ). test n ≡ true) same is
      | inr isnt ↦ found_passes test ys x (rw isnt at found)
    ]

some_found : (test : ℕ → Bool) (xs : List ℕ) (x : ℕ) → Contains xs x → test x ≡ true → (y : ℕ) × (find test xs ≡ Some y)
some_found test [] x among passes = let lt = among.1 in absurd (omega arith)
some_found test (y ∷ ys) x among passes =
    elim (cases_Bool (test y)) [
      | inl is ↦ (y, rw is refl)
      | inr isnt ↦
          elim (Contains-append_cases (y ∷ []) ys x among) [
            | inl head ↦
                let same : y ≡ x = in_one y x head in
                let no : false ≡ true = sym isnt ∙ subst (λ (n : ℕ). test n ≡ true) (sym same) passes in
                absurd (cc)
            | inr later ↦ (let rest = some_found test ys x later passes in (rest.0, rw isnt rest.1))
          ]
    ]

-- an event is the one that is told
pub is_that_event : (o : Option ℕ) (e : ℕ) → is_event o e ≡ true → o ≡ Some e
is_that_event None e is = absurd (cc)
is_that_event (Some d) e is = let same : d ≡ e = grind (arith, nat_tests, is) in ap (λ (n : ℕ). Some n) same

-- what is drawn of an event at a border, if it is an arrow over the upper one
pub entering_kinds : (c : Content) (explained : Option EventId) (frame : Frame) (lanes : List ℕ) (e : ℕ) (send : Option ℕ) (end : End) →
    Contains (cons_option (entering_from c explained frame lanes e send) []) end →
    (s : ℕ) × (send ≡ Some s) × (s < frame.first) × (end_at c frame lanes Upper e s (is_step c explained s e) ≡ end)
entering_kinds c explained frame lanes e None end h = let lt = h.1 in absurd (omega arith)
entering_kinds c explained frame lanes e (Some s) end h =
    elim (cases_Bool (nat_lt s frame.first)) [
      | inl before ↦
          let one : Contains (end_at c frame lanes Upper e s (is_step c explained s e) ∷ []) end = (rw before at h) in
          let lt : s < frame.first = grind (arith, nat_tests, before) in
          (s, refl, lt, in_one (end_at c frame lanes Upper e s (is_step c explained s e)) end one)
      | inr after ↦ let none : Contains [] end = (rw after at h) in let lt = none.1 in absurd (omega arith)
    ]

-- and over the lower one
pub leaving_kinds : (c : Content) (explained : Option EventId) (frame : Frame) (lanes : List ℕ) (e : ℕ) (found : Option ℕ) (end : End) →
    Contains (cons_option (leaving_to c explained frame lanes e found) []) end →
    (g : ℕ) × (found ≡ Some g) × (end_at c frame lanes Lower e g (goes_on c explained frame e g) ≡ end)
leaving_kinds c explained frame lanes e None end h = let lt = h.1 in absurd (omega arith)
leaving_kinds c explained frame lanes e (Some g) end h =
    (g, refl, in_one (end_at c frame lanes Lower e g (goes_on c explained frame e g)) end h)

-- lanes have room for an arrow that turns
pub turn_room : (border : Border) (half : ℕ) → (half ≤ turn_distance border half) × (turn_distance border half + half ≤ lane_distance half)
turn_room Upper half = (omega arith, omega arith)
turn_room Lower half = (omega arith, omega arith)

-- and an arrow turns no nearer to a lane than it begins or ends
pub side_room : (border : Border) (look : Look) (half : ℕ) → (half ≤ side_distance border look half) × (side_distance border look half ≤ turn_distance border half)
side_room Upper look half = elim (cases_Bool look.is_ringed) [ inl ring ↦ rw ring (omega arith, omega arith) | inr none ↦ rw none (omega arith, omega arith) ]
side_room Lower look half = (omega arith, omega arith)

module _ (c : Content) (view : View) where
  abbrev pub entering_at : ℕ → List End
  entering_at e = cons_option (entering_of c view.explained (frame c view) (lanes c view) e) []

  abbrev pub entering : List ℕ → List End
  entering places = filter_map (λ f. f.entering) (drawn c view places)

  pub entering_more : AddsItems entering entering_at
  entering_more places p = parts_more (λ (f : Figure). f.entering) (drawn c view) (figure c view) (drawn_more c view) places p

  abbrev pub leaving_at : ℕ → List End
  leaving_at e = cons_option (leaving_of c view.explained (frame c view) (lanes c view) e) []

  abbrev pub leaving : List ℕ → List End
  leaving places = filter_map (λ f. f.leaving) (drawn c view places)

  pub leaving_more : AddsItems leaving leaving_at
  leaving_more places p = parts_more (λ (f : Figure). f.leaving) (drawn c view) (figure c view) (drawn_more c view) places p

  -- the arrow over the upper border to a delivery, and the one over the lower border from a send
  abbrev pub end_to : (s f : ℕ) → End
  end_to s f = end_at c (frame c view) (lanes c view) Upper f s (is_step c view.explained s f)

  abbrev pub end_from : (s g : ℕ) → End
  end_from s g = end_at c (frame c view) (lanes c view) Lower s g (goes_on c view.explained (frame c view) s g)

  -- a lane is the first one, and not that of node 0, if a node before its own has none
  pub later_first : (e other : ℕ) → lane_at c (lanes c view) e ≡ 0 → node_at c other < node_at c e → is_among (lanes c view) 0 ≡ false
  later_first e other first lower =
      elim (cases_Bool (is_among (lanes c view) 0)) [
        | inl has ↦
            let more : 0 < lane_at c (lanes c view) e = counts_one (lanes c view) 0 (node_at c e) has (omega arith) in
            absurd (omega arith)
        | inr hasnt ↦ hasnt
      ]

  -- so there is room on the left of a lane for an arrow to a node before that of the lane
  turn_within : (border : Border) (e other : ℕ) → node_at c other < node_at c e →
      turn_distance border (frame c view).half ≤ x_of (frame c view) (lane_at c (lanes c view) e)
  turn_within border e other lower =
      let half = (frame c view).half in
      let lane : ℕ = lane_at c (lanes c view) e in
      let fits = turn_room border (frame c view).half in
      let narrow : turn_distance border half + half ≤ (frame c view).lane_distance = fits.1 in
      elim (cases_eq (lane_at c (lanes c view) e) 0) [
        | inl first ↦
            let room : turn_distance border half < (frame c view).first_lane =
            left_arrows_have_room (lanes c view) (frame c view).half border (later_first e other first lower) in
            omega arith
        | inr later ↦ let next = next_lane (frame c view) 0 (lane_at c (lanes c view) e) (omega arith) in omega arith
      ]

  turns_towards : (border : Border) (e other : ℕ) (marked : Bool) →
      TurnsTowards c other (dot c view e) (end_at c (frame c view) (lanes c view) border e other marked)
  turns_towards border e other marked = (
    λ lower.
        let left : nat_lt (node_at c other) (node_at c e) ≡ true = grind (arith, nat_tests, lower) in
        let within = turn_within border e other lower in
        rw left (omega arith),
    λ no_lower. let right : nat_lt (node_at c other) (node_at c e) ≡ false = grind (arith, nat_tests, no_lower) in rw right refl,
  )

  begins_beside : (border : Border) (e other : ℕ) (marked : Bool) →
      BeginsBeside (dot c view e) (end_at c (frame c view) (lanes c view) border e other marked)
  begins_beside border e other marked =
      elim (cases_Bool (nat_lt (node_at c other) (node_at c e))) [
        | inl left ↦
            let lower : node_at c other < node_at c e = grind (arith, nat_tests, left) in
            let within = turn_within border e other lower in
            let near = (side_room border (c.look e) (frame c view).half).1 in
            rw left (inr (omega arith))
        | inr right ↦ rw right (inl refl)
      ]

  crosses_upper : (s f : ℕ) → IsInRange c view f → CrossesBorder c (picture_of c view) (end_to s f) TOP f s
  crosses_upper s f inside = record { at_border = refl; row = (dot c view f, dot_there c view f inside, refl, refl, turns_towards Upper f s (is_step c view.explained s f), begins_beside Upper f s (is_step c view.explained s f)); event = refl; number = refl }

  pub crosses_lower : (s g : ℕ) → IsInRange c view s → CrossesBorder c (picture_of c view) (end_from s g) (picture_of c view).frame.height s g
  crosses_lower s g inside = record { at_border = refl; row = (dot c view s, dot_there c view s inside, refl, refl, turns_towards Lower s g (goes_on c view.explained (frame c view) s g), begins_beside Lower s g (goes_on c view.explained (frame c view) s g)); event = refl; number = refl }

  pub entering_there : (s f : ℕ) → ComesIn c view s f → Contains (entering_at f) (end_to s f)
  entering_there s f comes =
      let exists = comes.inside.exists in
      let from = comes.inside.from in
      let to = comes.inside.to in
      let ahead = comes.before in
      let lt : s < first c view = omega arith in
      let before : nat_lt s (frame c view).first ≡ true = grind (arith, nat_tests, lt) in
      subst (λ (o : Option ℕ). Contains (cons_option (entering_from c view.explained (frame c view) (lanes c view) f o) []) (end_to s f))
      (sym comes.sends.delivers)
      (rw before (0, omega arith, refl))

  -- the delivery with which the chain goes on is one that comes after the range
  step_leaves : (s g : ℕ) (next : Option ℕ) → SendsComeFirst c → IsInRange c view s → next_of c view.explained (frame c view) ≡ next →
      step_after c s next ≡ Some g → Leaves c view s g
  step_leaves s g None well inside is found = let none : None ≡ Some g = found in absurd (cc)
  step_leaves s g (Some f) well inside is found =
      let chain = chosen (clock_events_of c) c.stamps view.explained in
      elim (cases_Bool (is_event (forcing_at c f) s && is_event (skeleton_at c.events f).send s)) [
        | inl goes ↦
            let same : f ≡ g = (let h : Some f ≡ Some g = rw goes at found in cc) in
            let delivers = is_that_event (skeleton_at c.events f).send s (and_parts (is_event (forcing_at c f) s) _ goes).1 in
            let passes : nat_le (frame c view).end f ≡ true = found_passes _ chain f is in
            let le : (frame c view).end ≤ f = grind (arith, nat_tests, passes) in
            let exists = chosen_exists c view.explained f (found_is_among _ chain f is) in
            let sends : IsSendOf c.events s f = record { earlier = well f s exists delivers; exists = exists; delivers = delivers } in
            subst (λ (n : ℕ). Leaves c view s n) same (record { sends = sends; after = omega arith; inside = inside })
        | inr stays ↦ let none : None ≡ Some g = rw stays at found in absurd (cc)
      ]

  -- and so is the first delivery after the range
  leaves_first : (s g : ℕ) → SendsComeFirst c → IsInRange c view s → first_after c (frame c view) s ≡ Some g → Leaves c view s g
  leaves_first s g well inside found =
      let among = found_is_among _ (deliveries_of c.events s) g found in
      let sends : IsSendOf c.events s g =
      (deliveries_of-complete c.events s well g).0 among in
      let passes : nat_le (frame c view).end g ≡ true = found_passes _ (deliveries_of c.events s) g found in
      let le : (frame c view).end ≤ g = grind (arith, nat_tests, passes) in
      let exists = sends.exists in
      record { sends = sends; after = omega arith; inside = inside }

  first_left : (s f : ℕ) → SendsComeFirst c → Leaves c view s f → (g : ℕ) × (first_after c (frame c view) s ≡ Some g)
  first_left s f well leaves =
      let among : Contains (deliveries_of c.events s) f =
      (deliveries_of-complete c.events s well f).1 leaves.sends in
      let after = leaves.after in
      let le : (frame c view).end ≤ f = omega arith in
      let passes : nat_le (frame c view).end f ≡ true = grind (arith, nat_tests, le) in
      some_found (λ g. nat_le (frame c view).end g) (deliveries_of c.events s) f among passes

  leaves_one : (s g : ℕ) (step : Option ℕ) → SendsComeFirst c → IsInRange c view s → step_after c s (next_of c view.explained (frame c view)) ≡ step →
      option_or step (first_after c (frame c view) s) ≡ Some g → Leaves c view s g
  leaves_one s g None well inside is found = leaves_first s g well inside found
  leaves_one s g (Some f) well inside is found =
      let same : f ≡ g = (let h : Some f ≡ Some g = found in cc) in
      subst (λ (n : ℕ). Leaves c view s n) same (step_leaves s f (next_of c view.explained (frame c view)) well inside refl is)

  pub leaves_after : (s g : ℕ) → SendsComeFirst c → IsInRange c view s → delivery_after c view.explained (frame c view) s ≡ Some g → Leaves c view s g
  leaves_after s g well inside found = leaves_one s g (step_after c s (next_of c view.explained (frame c view))) well inside refl found

  -- if something leaves, an arrow leads to one of the deliveries after the range
  one_or_other : (step after : Option ℕ) (g : ℕ) → after ≡ Some g → (h : ℕ) × (option_or step after ≡ Some h)
  one_or_other None after g found = (g, found)
  one_or_other (Some f) after g found = (f, refl)

  some_left : (s f : ℕ) → SendsComeFirst c → Leaves c view s f → (g : ℕ) × (delivery_after c view.explained (frame c view) s ≡ Some g)
  some_left s f well leaves =
      let first = first_left s f well leaves in
      one_or_other (step_after c s (next_of c view.explained (frame c view))) (first_after c (frame c view) s) first.0 first.1

pub messages_come_in : MessagesComeIn
messages_come_in c view s f comes = (
  end_to c view s f,
  drawn_there c view (entering c view) (entering_at c view) refl (entering_more c view) f (end_to c view s f) comes.inside
      (entering_there c view s f comes),
  crosses_upper c view s f comes.inside,
)

pub arrows_come_in : ArrowsComeIn
arrows_come_in c view end well among =
    let made = made_of (entering c view) (entering_at c view) refl (entering_more c view) (first c view) (count c view) end among in
    let f = made.0 in
    let is = entering_kinds c view.explained (frame c view) (lanes c view) f (skeleton_at c.events f).send end made.3 in
    let s = is.0 in
    let inside : IsInRange c view f = in_range c view f made.1 made.2 in
    let exists = inside.exists in
    let before : s < first c view = is.2 in
    let sends : IsSendOf c.events s f =
    record { earlier = well f s exists is.1; exists = exists; delivers = is.1 } in (
      s,
      f,
      record { sends = sends; before = omega arith; inside = inside },
      subst (λ (x : End). CrossesBorder c (picture_of c view) x TOP f s) is.3 (crosses_upper c view s f inside),
    )

pub messages_leave : MessagesLeave
messages_leave c view s f well leaves =
    let found = some_left c view s f well leaves in
    let g = found.0 in
    let there : Contains (leaving_at c view s) (end_from c view s g) =
    subst (λ (o : Option ℕ). Contains (cons_option (leaving_to c view.explained (frame c view) (lanes c view) s o) []) (end_from c view s g)) (sym found.1)
    (0, omega arith, refl) in (
      end_from c view s g,
      drawn_there c view (leaving c view) (leaving_at c view) refl (leaving_more c view) s (end_from c view s g) leaves.inside there,
      (g, leaves_after c view s g well leaves.inside found.1, crosses_lower c view s g leaves.inside),
    )

pub arrows_leave : ArrowsLeave
arrows_leave c view end well among =
    let made = made_of (leaving c view) (leaving_at c view) refl (leaving_more c view) (first c view) (count c view) end among in
    let s = made.0 in
    let is = leaving_kinds c view.explained (frame c view) (lanes c view) s (delivery_after c view.explained (frame c view) s) end made.3 in
    let inside : IsInRange c view s = in_range c view s made.1 made.2 in (
      s,
      is.0,
      leaves_after c view s is.0 well inside is.1,
      subst (λ (x : End). CrossesBorder c (picture_of c view) x (picture_of c view).frame.height s is.0) is.2 (crosses_lower c view s is.0 inside),
    )

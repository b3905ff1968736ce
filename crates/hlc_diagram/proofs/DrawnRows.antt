-- What is drawn in rows, be they of events of a range or of a chain.
use Rattle.std.proofs.Common.{◌≡◌, ℕ, ◌+◌, ◌≤◌, Bool, true, inl, inr, Contains, List, [], ◌∷◌, Option, Some, None, ap, arith, map, refl, subst}
use Rattle.std.specs.List.{filter_map}
use Rattle.std.specs.Option.{option_and_then}
use Rattle.std.specs.Prelude.{nat_lt}
use Rattle.std.proofs.lemmas.Bool.{cases_Bool}
use Rattle.std.proofs.lemmas.List.Elements.{Contains-append_cases, Contains-append_left, Contains-append_right}
use Rattle.hlc_stamp.specs.declared.id.EventId.{EventId}
use Rattle.hlc_causality.specs.Causality.{skeleton_at}
use Rattle.hlc_causality.specs.FollowedChains.{is_event}
use Rattle.hlc_figures.specs.ChainFigure.{arrow_if_sent, stop_figure}
use Rattle.hlc_figures.specs.Columns.{lane_distance}
use Rattle.hlc_figures.specs.Content.{Content}
use Rattle.hlc_figures.specs.DrawnRow.{drawn_row, figure_in}
use Rattle.hlc_figures.specs.Figure.{arrow_between, arrow_into, is_step}
use Rattle.hlc_figures.specs.FigureText.{Figure, figure_of}
use Rattle.hlc_figures.specs.Lanes.{lane_at}
use Rattle.hlc_figures.specs.Row.{row_at}
use Rattle.hlc_figures.specs.Standing.{arrow_along, stand_in}
use Rattle.hlc_figures.specs.Title.{title_text}
use Rattle.hlc_figures.specs.declared.rows.Row.{Row}
use Rattle.hlc_figures.specs.declared.rows.Row.TheVariants.{Between, Chained, Event}
use Rattle.hlc_figures.specs.declared.rows.Stop.{Stop}
use Rattle.hlc_figures.specs.declared.standing.Standing.{Standing}
use Rattle.hlc_figures.proofs.Placed.{in_one, parts_of}
use Rattle.hlc_svg.specs.Clear.{KeepsClear}
use Rattle.hlc_svg.specs.Path.{path_of}
use Rattle.hlc_svg.specs.Shapes.{reach_of}
use Rattle.hlc_svg.specs.declared.arrow.Arrow.{Arrow}
use Rattle.hlc_svg.specs.declared.dot.Dot.{Dot}
use Rattle.hlc_svg.specs.declared.frame.Frame.{Frame}
use Rattle.hlc_svg.specs.declared.look.Look.{Look}
use Rattle.hlc_svg.proofs.Clear.{StandsAt, path_keeps_clear}

-- what is mapped comes from what was there
pub mapped : {X Y : Type 0} (f : X → Y) (xs : List X) (y : Y) → Contains (map f xs) y → (x : X) × Contains xs x × (f x ≡ y)
mapped f [] y among = let lt = among.1 in absurd (omega arith)
mapped f (x ∷ xs) y among =
    elim (Contains-append_cases (f x ∷ []) (map f xs) y among) [
      | inl here ↦ (x, Contains-append_left (x ∷ []) xs x (0, omega arith, refl), in_one (f x) y here)
      | inr later ↦ (let made = mapped f xs y later in (made.0, Contains-append_right (x ∷ []) xs made.0 made.1, made.2))
    ]

-- and all that was there is mapped
pub mapped_there : {X Y : Type 0} (f : X → Y) (xs : List X) (x : X) → Contains xs x → Contains (map f xs) (f x)
mapped_there f [] x among = let lt = among.1 in absurd (omega arith)
mapped_there f (y ∷ xs) x among =
    elim (Contains-append_cases (y ∷ []) xs x among) [
      | inl here ↦ Contains-append_left (f y ∷ []) (map f xs) (f x) (0, omega arith, ap f (in_one y x here))
      | inr later ↦ Contains-append_right (f y ∷ []) (map f xs) (f x) (mapped_there f xs x later)
    ]

-- lanes have room for a dot and a ring
pub reach_room : (look : Look) (half : ℕ) → (half ≤ reach_of look half) × (reach_of look half + half ≤ lane_distance half)
reach_room look half = elim (cases_Bool look.is_ringed) [ inl ring ↦ rw ring (omega arith, omega arith) | inr none ↦ rw none (omega arith, omega arith) ]

module _ (c : Content) (explained : Option EventId) (frame : Frame) (lanes : List ℕ) where
  abbrev pub figures : List Row → List Figure
  figures rows = filter_map figure_in (map (drawn_row c explained frame lanes) rows)

  abbrev pub dots : List Row → List Dot
  dots rows = map (λ f. f.dot) (figures rows)

  -- what holds of the figure of each event holds of each that is drawn
  pub each_figure : (P : Figure → Type 0) → ((e : ℕ) → P (figure_of c explained frame lanes e)) → ((s : Stop) → P (stop_figure c frame lanes s)) →
      (rows : List Row) (f : Figure) → Contains (figures rows) f → P f
  each_figure P event stop [] f among = let lt = among.1 in absurd (omega arith)
  each_figure P event stop (Event e ∷ rows) f among =
      elim (Contains-append_cases (figure_of c explained frame lanes e.0 ∷ []) (figures rows) f among) [
        | inl here ↦ subst P (in_one (figure_of c explained frame lanes e.0) f here) (event e.0)
        | inr later ↦ each_figure P event stop rows f later
      ]
  each_figure P event stop (Chained s ∷ rows) f among =
      elim (Contains-append_cases (stop_figure c frame lanes s ∷ []) (figures rows) f among) [
        | inl here ↦ subst P (in_one (stop_figure c frame lanes s) f here) (stop s)
        | inr later ↦ each_figure P event stop rows f later
      ]
  each_figure P event stop (Between gap ∷ rows) f among = each_figure P event stop rows f among

  -- the title of a dot, and the row beside it, are those of its event
  pub titled : (rows : List Row) (f : Figure) → Contains (figures rows) f →
      (f.title ≡ title_text c f.dot.event.0) × (f.row ≡ row_at c frame f.dot.at.y f.dot.event.0)
  titled rows f among =
      each_figure (λ f. (f.title ≡ title_text c f.dot.event.0) × (f.row ≡ row_at c frame f.dot.at.y f.dot.event.0)) (λ e. (refl, refl)) (λ s. (refl, refl)) rows
      f among

  -- a dot stands in a row, on the lane of its node
  abbrev Stands : Dot → Type 0
  Stands d = (row : ℕ) × StandsAt frame d (lane_at c lanes d.event.0) row

  pub dot_stands : (rows : List Row) (d : Dot) → Contains (dots rows) d → Stands d
  dot_stands rows d among =
      let is = mapped (λ (f : Figure). f.dot) (figures rows) d among in
      subst Stands is.2 (each_figure (λ f. Stands f.dot) (λ e. (e, record { half = refl; lane = refl; row = refl }))
      (λ s. (frame.first + s.at.row, record { half = refl; lane = refl; row = omega arith })) rows is.0 is.1)

  -- an arrow runs from one event to another
  abbrev Runs : Arrow → Type 0
  Runs a = (d e : Standing) × (marked : Bool) × (arrow_along c frame lanes d e marked ≡ a)

  sent_runs : (e : ℕ) (send : Option ℕ) (a : Arrow) → arrow_into c explained frame lanes e send ≡ Some a → Runs a
  sent_runs e None a is = let none : None ≡ Some a = is in absurd (cc)
  sent_runs e (Some s) a is =
      elim (cases_Bool (nat_lt s frame.first)) [
        | inl before ↦ let none : None ≡ Some a = rw before at is in absurd (cc)
        | inr after ↦
            let same : Some (arrow_between c explained frame lanes s e) ≡ Some a = rw after at is in
            (stand_in frame s, stand_in frame e, is_step c explained s e, cc)
      ]

  stop_runs : (at : Standing) (before : Option Standing) (a : Arrow) → option_and_then (arrow_if_sent c frame lanes at) before ≡ Some a → Runs a
  stop_runs at None a is = let none : None ≡ Some a = is in absurd (cc)
  stop_runs at (Some d) a is =
      elim (cases_Bool (is_event (skeleton_at c.events at.event.0).send d.event.0)) [
        | inl sent ↦ let same : Some (arrow_along c frame lanes d at true) ≡ Some a = rw sent at is in (d, at, true, cc)
        | inr unsent ↦ let none : None ≡ Some a = rw unsent at is in absurd (cc)
      ]

  arrow_runs : (rows : List Row) (a : Arrow) → Contains (filter_map (λ f. f.arrow) (figures rows)) a → Runs a
  arrow_runs rows a among =
      let is = parts_of (λ (f : Figure). f.arrow) (figures rows) a among in
      each_figure (λ f. f.arrow ≡ Some a → Runs a) (λ e. sent_runs e (skeleton_at c.events e).send a) (λ s. stop_runs s.at s.before a) rows is.0 is.1 is.2

  -- so it keeps clear of the dots, if lanes are far enough from one another
  pub keeps_clear : (far : frame.lane_distance ≡ lane_distance frame.half) (rows : List Row) (a : Arrow) (d : Dot) →
      Contains (filter_map (λ f. f.arrow) (figures rows)) a → Contains (dots rows) d → KeepsClear d (path_of a.route)
  keeps_clear far rows a d among there =
      let runs = arrow_runs rows a among in
      let at = dot_stands rows d there in
      let ends = reach_room (c.look runs.1.event.0) frame.half in
      let clear =
      path_keeps_clear (arrow_along c frame lanes runs.0 runs.1 runs.2).route (omega (arith, far)) (omega (arith, far)) ends.0 (omega (arith, far, ends.1)) d
      (lane_at c lanes d.event.0) at.0 at.1 in
      subst (λ (a : Arrow). KeepsClear d (path_of a.route)) runs.3 clear

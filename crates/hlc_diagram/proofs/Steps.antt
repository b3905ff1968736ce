-- The steps of the chain are thick.
use Rattle.std.proofs.Common.{◌≡◌, ℕ, ◌<◌, ◌==◌, true, inl, inr, List, [], Contains, Option, Some, None, arith, ap, length, refl, subst, sym}
use Rattle.std.specs.List.{cons_option, filter_map}
use Rattle.std.specs.Prelude.{nat_lt}
use Rattle.std.proofs.lemmas.Bool.{and_from, cases_Bool, cases_eq}
use Rattle.std.proofs.lemmas.Bool.Decides.{nat_tests}
use Rattle.hlc_stamp.specs.Order.{Pair}
use Rattle.hlc_causality.specs.Causality.{IsSendOf}
use Rattle.hlc_causality.specs.ClockChain.{IsClockForcing}
use Rattle.hlc_causality.specs.ClockEvents.{ClockEvents}
use Rattle.hlc_causality.specs.FollowedChains.{is_event}
use Rattle.hlc_causality.specs.FollowedClockChains.{clock_forcing_of}
use Rattle.hlc_causality.proofs.ClockForcing.{clock_forcing_is_unique}
use Rattle.hlc_causality.proofs.FollowedClockChains.{clock_forcing_found}
use Rattle.hlc_causality.proofs.PredecessorsFound.{Finds}
use Rattle.hlc_causality.proofs.ReceiveEvents.{rules_keep_previous, rules_keep_sends}
use Rattle.hlc_figures.specs.Content.{Content, clock_events_of, node_at}
use Rattle.hlc_figures.specs.Figure.{arrow_between, arrow_into, forcing_at, is_step, link_of, link_top, marked_at}
use Rattle.hlc_figures.specs.Lanes.{lane_at}
use Rattle.hlc_svg.specs.Frame.{x_of, y_of}
use Rattle.hlc_diagram.specs.Laws.{ComesIn, HasThickLine, IsInRange, StepsAreThick}
use Rattle.hlc_figures.specs.FigureText.{Figure}
use Rattle.hlc_diagram.specs.Picture.{picture_of}
use Rattle.hlc_svg.specs.declared.dot.Dot.{Dot}
use Rattle.hlc_svg.specs.declared.shapes.Link.{Link}
use Rattle.hlc_diagram.specs.declared.view.View.{View}
use Rattle.hlc_diagram.proofs.Crossings.{end_to, entering, entering_at, entering_more, entering_there}
use Rattle.hlc_diagram.proofs.Drawn.{arrow, arrows, arrows_more, chosen_is_chain, dot, dot_is, drawn, drawn_more, drawn_there, figure, first, frame, lanes}
use Rattle.hlc_figures.proofs.Links.{clock_size}
use Rattle.hlc_figures.proofs.NodeLanes.{among_at}
use Rattle.hlc_figures.proofs.Placed.{AddsItems, parts_more}

pub forced_by : (t : ClockEvents) (pairs : List Pair) (d f : ℕ) (found : Option ℕ) → Finds (λ c. IsClockForcing t pairs c f) found
    → IsClockForcing t pairs d f → found ≡ Some d
forced_by t pairs d f None found forces = absurd (found d forces)
forced_by t pairs d f (Some c) found forces = ap (λ (x : ℕ). Some x) (clock_forcing_is_unique t pairs c d f found forces)

module _ (c : Content) (view : View) (d f : ℕ) (inside : IsInRange c view f) (marked : marked_at c view.explained f ≡ true)
    (forced : forcing_at c f ≡ Some d) where
  abbrev links : List ℕ → List Link
  links places = filter_map (λ f. f.link) (drawn c view places)

  abbrev link_at : ℕ → List Link
  link_at e = cons_option (link_of c view.explained (frame c view) (lanes c view) e) []

  links_more : AddsItems links link_at
  links_more places p = parts_more (λ (f : Figure). f.link) (drawn c view) (figure c view) (drawn_more c view) places p

  -- along a lane
  linked : node_at c d ≡ node_at c f → HasThickLine (picture_of c view) (dot c view f)
  linked same =
      let line : Link =
      record { x = x_of (frame c view) (lane_at c (lanes c view) f); from = link_top (frame c view) d; to = y_of (frame c view) f } in
      let test : (node_at c d == node_at c f) ≡ true = grind (arith, nat_tests, same) in
      let is : link_of c view.explained (frame c view) (lanes c view) f ≡ Some line = rw (marked, forced, test) refl in
      let there : Contains (link_at f) line =
      subst (λ (o : Option Link). Contains (cons_option o []) line) (sym is) (0, omega arith, refl) in
      inl (line, drawn_there c view links link_at refl links_more f line inside there, refl, refl)

  stepped : is_step c view.explained d f ≡ true
  stepped =
      let test : (d == d) ≡ true = grind (arith, nat_tests) in
      let is : is_event (forcing_at c f) d ≡ true = rw forced test in
      and_from (marked_at c view.explained f) (is_event (forcing_at c f) d) marked is

  -- or as an arrow
  arrived : IsSendOf c.events d f → HasThickLine (picture_of c view) (dot c view f)
  arrived sends =
      elim (cases_Bool (nat_lt d (first c view))) [
        | inl before ↦
            let lt : d < first c view = grind (arith, nat_tests, before) in
            let exists = inside.exists in
            let from = inside.from in
            let comes : ComesIn c view d f = record { sends = sends; before = omega arith; inside = inside } in
            inr (inr (
              end_to c view d f,
              drawn_there c view (entering c view) (entering_at c view) refl (entering_more c view) f (end_to c view d f) inside
                  (entering_there c view d f comes),
              refl,
              stepped,
            ))
        | inr after ↦
            let line = arrow_between c view.explained (frame c view) (lanes c view) d f in
            let there : Contains (arrow c view f) line =
            subst (λ (o : Option ℕ). Contains (cons_option (arrow_into c view.explained (frame c view) (lanes c view) f o) []) line) (sym sends.delivers)
            (rw after (0, omega arith, refl)) in
            inr (inl (
              line,
              drawn_there c view (arrows c view) (arrow c view) refl (arrows_more c view) f line inside there,
              refl,
              stepped,
            ))
      ]

pub steps_are_thick : StepsAreThick
steps_are_thick c view e chain d dot_f explained exists is_chain has forces among =
    let t = clock_events_of c in
    let pairs = c.stamps in
    let at = dot_is c view dot_f among in
    let f = at.0 in
    let inside = at.1 in
    let within = inside.exists in
    let list = chosen_is_chain c view e chain explained exists is_chain in
    let there : Contains chain f = subst (λ (x : Dot). Contains chain x.event.0) (sym at.2) has in
    let chosen_there = subst (λ (xs : List ℕ). Contains xs f) (sym list) there in
    let marked : marked_at c view.explained f ≡ true = among_at _ f chosen_there.0 chosen_there.1 chosen_there.2 in
    let there_f : f < length (clock_events_of c) = omega (arith, within, clock_size c) in
    let forces_f : IsClockForcing t pairs d f = subst (λ (x : Dot). IsClockForcing t pairs d x.event.0) (sym at.2) forces in
    let forced : forcing_at c f ≡ Some d = forced_by t pairs d f (clock_forcing_of t pairs f) (clock_forcing_found t pairs f there_f) forces_f in
    subst (λ (x : Dot). HasThickLine (picture_of c view) x) at.2 (elim forces_f.event [
      | inl found ↦
          let previous = (rules_keep_previous c.rules c.events d f).1 found.previous in
          linked c view d f inside marked forced previous.at_node.same_node
      | inr sends ↦
          elim (cases_eq (node_at c d) (node_at c f)) [
            | inl nodes ↦ linked c view d f inside marked forced nodes
            | inr differ ↦ arrived c view d f inside marked forced ((rules_keep_sends c.rules c.events d f).1 sends.1)
          ]
    ])

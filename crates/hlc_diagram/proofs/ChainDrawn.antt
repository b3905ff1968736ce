-- The laws of pictures of chains.
use Rattle.std.proofs.Common.{◌≡◌, ◌∙◌, ℕ, ◌+◌, ◌<◌, ◌≤◌, true, inl, inr, List, [], ◌∷◌, Option, Some, None, arith, ap, length, map, refl, sym}
use Rattle.std.specs.Prelude.{nat_lt}
use Rattle.std.proofs.lemmas.Bool.{cases_Bool}
use Rattle.std.proofs.lemmas.Bool.Decides.{nat_tests}
use Rattle.hlc_stamp.specs.declared.id.EventId.{EventId}
use Rattle.hlc_causality.proofs.FollowedClockChains.{clock_chain_is_followed}
use Rattle.hlc_diagram.specs.ChainLaws.{ChainArrowsKeepClear, ChainDotsStandOnLanes, ChainLanesAreOfDots, ChainTitlesAreOfTheDots, CountsWhatLies, DotsAreTheChain, EachGapCounts, GapsCountWhatLiesBetween}
use Rattle.hlc_diagram.specs.ChainPicture.{frame_around}
use Rattle.hlc_figures.specs.ChainFigure.{stop_figure}
use Rattle.hlc_figures.specs.ChainRows.{IsRising, RisesAfter, between, rows_from, rows_of}
use Rattle.hlc_figures.specs.Chosen.{chosen}
use Rattle.hlc_figures.specs.Content.{Content, clock_events_of}
use Rattle.hlc_figures.specs.DrawnRow.{OfEvent, drawn_row}
use Rattle.hlc_figures.specs.Lanes.{lanes_of}
use Rattle.hlc_figures.specs.declared.rows.Stop.{Stop}
use Rattle.hlc_figures.specs.declared.standing.Standing.{Standing}
use Rattle.hlc_svg.specs.declared.dot.Dot.{Dot}
use Rattle.hlc_svg.specs.declared.frame.Frame.{Frame}
use Rattle.hlc_figures.proofs.Chains.{chosen_all_exist, chosen_rises}
use Rattle.hlc_figures.proofs.Links.{clock_size}
use Rattle.hlc_diagram.proofs.DrawnRows.{dots, keeps_clear, titled}
use Rattle.hlc_diagram.proofs.Laned.{dots_have_lanes, lanes_have_dots}

module _ (c : Content) (explained : Option EventId) (frame : Frame) (lanes : List ℕ) where
  -- the dots are those of the events
  dots_of_rows : (before : Option Standing) (chain : List ℕ) →
      map (λ (d : Dot). d.event.0) (dots c explained frame lanes (rows_from before chain)) ≡ chain
  dots_of_rows before [] = refl
  dots_of_rows None (e ∷ chain) = ap (λ (t : List ℕ). e ∷ t) (dots_of_rows (Some (record { event = record { 0 = e }; row = 0 })) chain)
  dots_of_rows (Some d) (e ∷ chain) =
      elim (cases_Bool (nat_lt 0 (between d.event.0 e))) [
        | inl some ↦
            rw some (ap (λ (t : List ℕ). e ∷ t) (dots_of_rows (Some (record { event = record { 0 = e }; row = d.row + 2 })) chain))
        | inr none ↦
            rw none (ap (λ (t : List ℕ). e ∷ t) (dots_of_rows (Some (record { event = record { 0 = e }; row = d.row + 1 })) chain))
      ]

  -- after each row of an event comes the next one, or a gap that counts
  counts_after : (stop : Stop) (chain : List ℕ) → RisesAfter stop.at.event.0 chain →
      CountsWhatLies (OfEvent (stop_figure c frame lanes stop)) (map (drawn_row c explained frame lanes) (rows_from (Some stop.at) chain))
  counts_after stop [] rises = tt
  counts_after stop (e ∷ chain) rises =
      let later : stop.at.event.0 < e = rises.0 in
      elim (cases_Bool (nat_lt 0 (between stop.at.event.0 e))) [
        | inl some ↦
            let apart : 0 < between stop.at.event.0 e = grind (arith, nat_tests, some) in
            let at : Standing = record { event = record { 0 = e }; row = stop.at.row + 2 } in
            rw some (apart, omega arith, counts_after (record { at = at; before = Some stop.at }) chain rises.1)
        | inr none ↦
            let near : between stop.at.event.0 e ≤ 0 = grind (arith, nat_tests, none) in
            let at : Standing = record { event = record { 0 = e }; row = stop.at.row + 1 } in
            rw none (omega arith, counts_after (record { at = at; before = Some stop.at }) chain rises.1)
      ]

  each_counts : (chain : List ℕ) → IsRising chain → EachGapCounts (map (drawn_row c explained frame lanes) (rows_of chain))
  each_counts [] rises = tt
  each_counts (e ∷ chain) rises = counts_after (record { at = record { event = record { 0 = e }; row = 0 }; before = None }) chain rises

pub dots_are_the_chain : DotsAreTheChain
dots_are_the_chain c e chain exists is =
    let t = clock_events_of c in
    let there : e.0 < length (clock_events_of c) = omega (arith, exists, clock_size c) in
    let test : nat_lt e.0 (length (clock_events_of c)) ≡ true = grind (arith, nat_tests, there) in
    let list : chosen t c.stamps (Some e) ≡ chain = rw test (sym (clock_chain_is_followed t c.stamps e.0 chain there is)) in
    let those = chosen t c.stamps (Some e) in
    dots_of_rows c (Some e) (frame_around c e those) (lanes_of c those) None those ∙ list

pub gaps_count_what_lies_between : GapsCountWhatLiesBetween
gaps_count_what_lies_between c e =
    let chain = chosen (clock_events_of c) c.stamps (Some e) in
    each_counts c (Some e) (frame_around c e chain) (lanes_of c chain) chain (chosen_rises c (Some e))

module _ (c : Content) (e : EventId) where
  abbrev chain : List ℕ
  chain = chosen (clock_events_of c) c.stamps (Some e)

  abbrev frame : Frame
  frame = frame_around c e chain

  listed : map (λ (d : Dot). d.event.0) (dots c (Some e) frame (lanes_of c chain) (rows_of chain)) ≡ chain
  listed = dots_of_rows c (Some e) frame (lanes_of c chain) None chain

pub chain_arrows_keep_clear : ChainArrowsKeepClear
chain_arrows_keep_clear c e a d among there = keeps_clear c (Some e) (frame c e) (lanes_of c (chain c e)) refl (rows_of (chain c e)) a d among there

pub chain_lanes_are_of_dots : ChainLanesAreOfDots
chain_lanes_are_of_dots c e lane some among = lanes_have_dots c (Some e) (frame c e) (chain c e) (rows_of (chain c e)) (listed c e) lane some among

pub chain_dots_stand_on_lanes : ChainDotsStandOnLanes
chain_dots_stand_on_lanes c e d exist among =
    dots_have_lanes c (Some e) (frame c e) (chain c e) (rows_of (chain c e)) (listed c e) (chosen_all_exist c (Some e)) d exist among

pub chain_titles_are_of_the_dots : ChainTitlesAreOfTheDots
chain_titles_are_of_the_dots c e f among = titled c (Some e) (frame c e) (lanes_of c (chain c e)) (rows_of (chain c e)) f among

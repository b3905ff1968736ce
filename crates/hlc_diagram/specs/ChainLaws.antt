-- The laws of pictures of chains, in a reader's words.
use Rattle.std.specs.Prelude.{◌≡◌, ℕ, ◌+◌, ◌<◌, List, [], ◌∷◌, length, map}
use Rattle.hlc_stamp.specs.declared.id.EventId.{EventId}
use Rattle.hlc_causality.specs.ClockChain.{IsClockChainOf}
use Rattle.hlc_diagram.specs.ChainPicture.{chain_picture_of}
use Rattle.hlc_diagram.specs.Laws.{ArrowsKeepClearIn, DotsStandOnLanesIn, LanesAreOfDotsIn, TitlesAreOfTheDotsIn, dots_in}
use Rattle.hlc_figures.specs.Content.{Content, clock_events_of}
use Rattle.hlc_figures.specs.DrawnRow.{DrawnRow}
use Rattle.hlc_figures.specs.DrawnRow as drawn

-- the dots are those of the events of the chain, in order, and there are no others
abbrev pub DotsAreTheChain : Type 0
DotsAreTheChain = (c : Content) (e : EventId) (chain : List ℕ) → e.0 < length c.events → IsClockChainOf (clock_events_of c) c.stamps e.0 chain →
    map (λ dot. dot.event.0) (dots_in (chain_picture_of c e)) ≡ chain

-- after the row of an event comes that of the very next event, or one that counts exactly what lies before the event of the row after it
abbrev pub CountsWhatLies : DrawnRow → List DrawnRow → Type 0
CountsWhatLies (drawn.OfEvent d) [] = Unit {0}
CountsWhatLies (drawn.OfEvent d) (drawn.OfEvent e ∷ rows) = (d.dot.event.0 + 1 ≡ e.dot.event.0) × CountsWhatLies (drawn.OfEvent e) rows
CountsWhatLies (drawn.OfEvent d) (drawn.OfGap g ∷ []) = ⊥
CountsWhatLies (drawn.OfEvent d) (drawn.OfGap g ∷ drawn.OfGap h ∷ rows) = ⊥
CountsWhatLies (drawn.OfEvent d) (drawn.OfGap g ∷ drawn.OfEvent e ∷ rows) =
    (0 < g.count) × (d.dot.event.0 + 1 + g.count ≡ e.dot.event.0) × CountsWhatLies (drawn.OfEvent e) rows
CountsWhatLies (drawn.OfGap g) rows = ⊥

abbrev pub EachGapCounts : List DrawnRow → Type 0
EachGapCounts [] = Unit {0}
EachGapCounts (row ∷ rows) = CountsWhatLies row rows

abbrev pub GapsCountWhatLiesBetween : Type 0
GapsCountWhatLiesBetween = (c : Content) (e : EventId) → EachGapCounts (chain_picture_of c e).rows

-- no arrow comes nearer to a dot than half its width and height
abbrev pub ChainArrowsKeepClear : Type 0
ChainArrowsKeepClear = (c : Content) (e : EventId) → ArrowsKeepClearIn (chain_picture_of c e)

-- unless each node has a lane, the node of a lane has a dot on it
abbrev pub ChainLanesAreOfDots : Type 0
ChainLanesAreOfDots = (c : Content) (e : EventId) → LanesAreOfDotsIn c (chain_picture_of c e)

-- and each dot stands on the lane of its node
abbrev pub ChainDotsStandOnLanes : Type 0
ChainDotsStandOnLanes = (c : Content) (e : EventId) → DotsStandOnLanesIn c (chain_picture_of c e)

-- the title of a dot, and the row beside it, are those of its event
abbrev pub ChainTitlesAreOfTheDots : Type 0
ChainTitlesAreOfTheDots = (c : Content) (e : EventId) → TitlesAreOfTheDotsIn c (chain_picture_of c e)

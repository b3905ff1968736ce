use Rattle.std.proofs.Common.{◌∙◌, arith, length, refl, ap}
use Rattle.hlc_arena.specs.Arena.{history_of}
use Rattle.hlc_arena.specs.Stored.{places_in}
use Rattle.hlc_pages.proofs.Spans.{extends_itself}
use Rattle.hlc_arena.proofs.Keeping.{HoldsTheSame, arena-extended, history-extended, length-events_in, same_events}
use Rattle.hlc_arena.proofs.arena.Arena.reserve.Goals.{After-reserve, After-reserve-2, After-reserve-3, After-reserve-4}
use Rattle.hlc_arena.proofs.arena.Arena.reserve.Goals as goal

-- before there is room for another kind
same_before_kinds : (c : After-reserve) →
    HoldsTheSame c.self.inside.execution c.reserve.new.self c.self.inside.kinds c.self.inside.kinds
    c.self.inside.bytes c.self.inside.bytes c.self.inside.lists c.self.inside.lists
same_before_kinds c = record {
  rules = c.reserve.ensures.rules;
  nodes = c.reserve.ensures.nodes;
  events = c.reserve.ensures.events;
  stamps = c.reserve.ensures.stamps;
  kinds_are = refl;
  extends = extends_itself c.self.inside.bytes.pages;
  lists_are = refl;
}

-- for its bytes
same_before_bytes : (c : After-reserve-2) →
    HoldsTheSame c.self.inside.execution c.reserve.new.self c.self.inside.kinds c.reserve-2.new.self
    c.self.inside.bytes c.self.inside.bytes c.self.inside.lists c.self.inside.lists
same_before_bytes c = record {
  rules = c.reserve.ensures.rules;
  nodes = c.reserve.ensures.nodes;
  events = c.reserve.ensures.events;
  stamps = c.reserve.ensures.stamps;
  kinds_are = c.reserve-2.ensures.items;
  extends = extends_itself c.self.inside.bytes.pages;
  lists_are = refl;
}

-- for another list
same_before_lists : (c : After-reserve-3) →
    HoldsTheSame c.self.inside.execution c.reserve.new.self c.self.inside.kinds c.reserve-2.new.self
    c.self.inside.bytes c.reserve-3.new.self c.self.inside.lists c.self.inside.lists
same_before_lists c = record {
  rules = c.reserve.ensures.rules;
  nodes = c.reserve.ensures.nodes;
  events = c.reserve.ensures.events;
  stamps = c.reserve.ensures.stamps;
  kinds_are = c.reserve-2.ensures.items;
  extends = c.reserve-3.ensures.extends;
  lists_are = refl;
}

-- and then
same_at_end : (c : After-reserve-4) →
    HoldsTheSame c.self.inside.execution c.reserve.new.self c.self.inside.kinds c.reserve-2.new.self
    c.self.inside.bytes c.reserve-3.new.self c.self.inside.lists c.reserve-4.new.self
same_at_end c = record {
  rules = c.reserve.ensures.rules;
  nodes = c.reserve.ensures.nodes;
  events = c.reserve.ensures.events;
  stamps = c.reserve.ensures.stamps;
  kinds_are = c.reserve-2.ensures.items;
  extends = c.reserve-3.ensures.extends;
  lists_are = ap places_in c.reserve-4.ensures.items;
}

pub invariant_of-self : goal.invariant_of-self
invariant_of-self c = arena-extended (same_before_kinds (goal.at.invariant_of-self c).After-reserve) c.self.invariant

pub returns-in_err-reserve-clause-history : goal.returns-in_err-reserve-clause-history
returns-in_err-reserve-clause-history c =
    let same = same_before_kinds (goal.at.returns-in_err-reserve-clause-history c).After-reserve in
    history-extended same c.self.invariant ∙ ap history_of c.self.view_is

pub invariant_of-self-in_err-reserve-2 : goal.invariant_of-self-in_err-reserve-2
invariant_of-self-in_err-reserve-2 c =
    let same = same_before_bytes (goal.at.invariant_of-self-in_err-reserve-2 c).After-reserve-2 in
    arena-extended same c.self.invariant

pub returns-in_err-reserve-2-clause-history : goal.returns-in_err-reserve-2-clause-history
returns-in_err-reserve-2-clause-history c =
    let same = same_before_bytes (goal.at.returns-in_err-reserve-2-clause-history c).After-reserve-2 in
    history-extended same c.self.invariant ∙ ap history_of c.self.view_is

pub invariant_of-self-in_err-reserve-3 : goal.invariant_of-self-in_err-reserve-3
invariant_of-self-in_err-reserve-3 c =
    let same = same_before_lists (goal.at.invariant_of-self-in_err-reserve-3 c).After-reserve-3 in
    arena-extended same c.self.invariant

pub returns-in_err-reserve-3-clause-history : goal.returns-in_err-reserve-3-clause-history
returns-in_err-reserve-3-clause-history c =
    let same = same_before_lists (goal.at.returns-in_err-reserve-3-clause-history c).After-reserve-3 in
    history-extended same c.self.invariant ∙ ap history_of c.self.view_is

pub invariant_of-self-in_err-reserve-4 : goal.invariant_of-self-in_err-reserve-4
invariant_of-self-in_err-reserve-4 c =
    arena-extended (same_at_end (goal.at.invariant_of-self-in_err-reserve-4 c).After-reserve-4) c.self.invariant

pub returns-in_err-reserve-4-clause-history : goal.returns-in_err-reserve-4-clause-history
returns-in_err-reserve-4-clause-history c =
    let same = same_at_end (goal.at.returns-in_err-reserve-4-clause-history c).After-reserve-4 in
    history-extended same c.self.invariant ∙ ap history_of c.self.view_is

pub invariant_of-self-2 : goal.invariant_of-self-2
invariant_of-self-2 c = arena-extended (same_at_end (goal.at.invariant_of-self-2 c).After-reserve-4) c.self.invariant

pub returns-clause-history : goal.returns-clause-history
returns-clause-history c =
    let same = same_at_end (goal.at.returns-clause-history c).After-reserve-4 in
    history-extended same c.self.invariant ∙ ap history_of c.self.view_is

pub returns-clause-room : goal.returns-clause-room
returns-clause-room c =
    let same = same_events (same_at_end (goal.at.returns-clause-room c).After-reserve-4) c.self.invariant in
    let size = ap length same ∙ length-events_in c.self.invariant.kept in
    let room = c.in_ok-reserve.ensures.room in
    record {
      below_capacity = omega (arith, size);
      spare = omega (arith, room, c.in_ok-reserve-2.ensures.room, c.in_ok-reserve-3.ensures.room, c.in_ok-reserve-4.ensures.room);
    }

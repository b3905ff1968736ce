use Rattle.std.proofs.Common.{sym, subst, ap, ◌∙◌}
use Rattle.hlc_arena.specs.Arena.{history_of}
use Rattle.hlc_arena.proofs.Keeping.{HoldsTheSame, arena-extended, history-extended}
use Rattle.hlc_pages.specs.Log.{Extends}
use Rattle.hlc_pages.proofs.Spans.{extends_itself}
use Rattle.hlc_arena.proofs.arena.Arena.copy.Goals.{In_ok-copy-3}
use Rattle.hlc_arena.proofs.arena.Arena.copy.Goals as goal

copy_holds_the_same : (c : In_ok-copy-3) →
    HoldsTheSame c.self.inside.execution c.in_ok-copy-3.field-0 c.self.inside.kinds c.in_ok-copy.field-0
    c.self.inside.bytes c.in_ok-copy-2.field-0 c.self.inside.lists c.in_ok-share.field-0
copy_holds_the_same c =
    let pages = c.self.inside.bytes.pages in
    record {
      rules = c.in_ok-copy-3.ensures.rules;
      nodes = c.in_ok-copy-3.ensures.nodes;
      events = c.in_ok-copy-3.ensures.events;
      stamps = c.in_ok-copy-3.ensures.stamps;
      kinds_are = c.in_ok-copy.ensures;
      extends = subst (Extends pages) (sym c.in_ok-copy-2.ensures) (extends_itself pages);
      lists_are = c.in_ok-share.ensures;
    }

pub invariant_of-result : goal.invariant_of-result
invariant_of-result c = arena-extended (copy_holds_the_same c) c.self.invariant

pub returns : goal.returns
returns c = history-extended (copy_holds_the_same c) c.self.invariant ∙ ap history_of c.self.view_is

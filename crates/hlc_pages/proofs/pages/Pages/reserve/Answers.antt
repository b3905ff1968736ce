use Rattle.std.proofs.Common.{◌≡◌, ◌⊎◌, arith, ap, ◌∙◌}
use Rattle.std.proofs.lemmas.Result.{on_err_weaker, on_ok_weaker}
use Rattle.hlc_pages.specs.Growth.{HasNewPage}
use Rattle.hlc_pages.specs.Pages.{PagedItems}
use Rattle.hlc_pages.proofs.PageGrowth.{grown_or_same, no_room}
use Rattle.hlc_pages.proofs.Paging.{items-grown, pages-grown, room_in_new_page}
use Rattle.hlc_pages.proofs.pages.Pages.reserve.Goals as goal

grown : (g : _) (c : goal.After-add_page g) → HasNewPage 1024 c.self.inside.pages.items c.add_page.new.pages.items
    ⊎ (c.add_page.new.pages.items ≡ c.self.inside.pages.items)
grown g c = grown_or_same c.add_page.result c.add_page.ensures.added c.add_page.ensures.unchanged

pub invariant_of-self : goal.invariant_of-self
invariant_of-self g c = pages-grown (grown g c) c.self.inside.len c.self.invariant

pub returns : goal.returns
returns g c =
    let full = no_room c.has_room.result c.args.self.now.room c.has_room.ensures c.if-has_room.false in
    record {
      room = on_ok_weaker c.add_page.result (room_in_new_page c.self.inside.len c.self.invariant) c.add_page.ensures.added;
      full = on_err_weaker c.add_page.result (λ _. full) c.add_page.ensures.unchanged;
      items = items-grown (grown g c) ∙ ap (λ (a : PagedItems _). a.items) c.self.view_is;
      keeps_room = omega (arith, full);
    }

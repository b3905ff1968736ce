use Rattle.std.proofs.Common.{arith}
use Rattle.hlc_pages.proofs.Paging.{item_exists_in_page, item_of_page, page_exists}
use Rattle.hlc_pages.proofs.pages.Pages.at.Goals as goal

pub index-page-requires : goal.index-page-requires
index-page-requires g c =
    let i = c.self.inside in
    omega (arith, i.pages.ok.0, page_exists c.args.self.now i.pages.items i.len c.args.place c.self.view_is c.self.invariant c.requires)

pub index-requires : goal.index-requires
index-requires g c =
    let i = c.self.inside in
    item_exists_in_page c.args.self.now i.pages.items i.len c.args.place c.self.view_is c.self.invariant c.requires
    c.index-page.result.now c.index-page.ensures

pub returns : goal.returns
returns g c =
    let i = c.self.inside in
    item_of_page c.args.self.now i.pages.items i.len c.args.place c.self.view_is c.self.invariant c.requires
    c.index-page.result.now c.index-page.ensures c.index.result.now c.index.ensures

use Rattle.std.proofs.Common.{arith, refl}
use Rattle.std.proofs.lemmas.List.{length-set}
use Rattle.hlc_pages.proofs.Paging.{item_exists_in_page, item_of_page, items-set_at, page_exists, pages-set_at}
use Rattle.hlc_pages.proofs.pages.Pages.at_mut.Goals as goal

pub index_mut-page-requires : goal.index_mut-page-requires
index_mut-page-requires g c =
    let i = c.self.inside in
    omega (arith, i.pages.ok.0, page_exists c.args.self.now i.pages.items i.len c.args.place c.self.view_is c.self.invariant c.requires)

pub index_mut-requires : goal.index_mut-requires
index_mut-requires g c =
    let i = c.self.inside in
    item_exists_in_page c.args.self.now i.pages.items i.len c.args.place c.self.view_is c.self.invariant c.requires
    c.index_mut-page.result.now c.index_mut-page.ensures.value

pub invariant_of-self-lent : goal.invariant_of-self-lent
invariant_of-self-lent g c w =
    let i = c.self.inside in
    pages-set_at c.args.self.now i.pages.items i.len c.args.place c.self.view_is c.self.invariant c.requires
    c.index_mut-page.result.now c.index_mut-page.ensures.value w

pub returns : goal.returns
returns g c =
    let i = c.self.inside in
    let page = c.index_mut-page in
    let items_set = items-set_at c.args.self.now i.pages.items i.len c.args.place c.self.view_is c.self.invariant c.requires
    page.result.now page.ensures.value in (
      (refl, λ w. rw (← c.self.view_is, items_set w, length-set)),
      record {
        writes_back = tt;
        value =
            item_of_page c.args.self.now i.pages.items i.len c.args.place c.self.view_is c.self.invariant c.requires
            page.result.now page.ensures.value c.index_mut.result.now c.index_mut.ensures.value;
      },
    )

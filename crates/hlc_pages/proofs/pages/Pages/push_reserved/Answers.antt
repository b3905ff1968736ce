use Rattle.std.proofs.Common.{◌/◌, ◌<◌, ◌+◌, ◌∷◌, [], ◌++◌, length, arith, subst, sym, ap, ◌∙◌}
use Rattle.std.specs.Prelude.{vec_len}
use Rattle.std.specs.Vec.{vec_capacity}
use Rattle.hlc_pages.specs.Pages.{Page, PagedItems}
use Rattle.hlc_pages.proofs.Paging.{length_shown, page_has_space, pages-push, items-push}
use Rattle.hlc_pages.proofs.pages.Pages.push_reserved.Goals as goal

pub push_reserved-requires : goal.push_reserved-requires
push_reserved-requires g c =
    let page = c.index_mut-page.result.now in
    let room = rw (← c.self.view_is) at c.requires.room in
    let exists : c.self.inside.len / 1024 < length c.self.inside.pages.items = omega arith in
    subst (λ (x : Page _). vec_len x < vec_capacity x) (sym c.index_mut-page.ensures.value)
    (let len = c.self.inside.len in
    page_has_space c.self.inside.pages.items len (len / 1024) page c.self.invariant (omega arith) (omega arith) exists)

pub overflow_add-self : goal.overflow_add-self
overflow_add-self g c =
    let size = length_shown c.args.self.now c.self.inside.pages.items c.self.inside.len c.self.view_is c.self.invariant in
    let small = c.requires.small in
    omega arith

pub invariant_of-self : goal.invariant_of-self
invariant_of-self g c =
    let page = c.index_mut-page.result.now in
    let room = rw (← c.self.view_is) at c.requires.room in
    let exists : c.self.inside.len / 1024 < length c.self.inside.pages.items = omega arith in
    let pages = c.self.inside.pages.items in
    let len = c.self.inside.len in
    let is = c.index_mut-page.ensures.value in
    pages-push page c.push_reserved.new.self c.args.item pages len (len / 1024) c.self.invariant (omega arith) (omega arith)
    (c.push_reserved.ensures.len ∙ ap (λ (x : Page _). vec_len x + 1) is)
    (c.push_reserved.ensures.capacity ∙ ap vec_capacity is)
    exists

pub returns-clause-items : goal.returns-clause-items
returns-clause-items g c =
    let page = c.index_mut-page.result.now in
    let room = rw (← c.self.view_is) at c.requires.room in
    let exists : c.self.inside.len / 1024 < length c.self.inside.pages.items = omega arith in
    let pages = c.self.inside.pages.items in
    let len = c.self.inside.len in
    items-push page c.push_reserved.new.self c.args.item pages len (len / 1024) c.self.invariant (omega arith) (omega arith)
    (c.push_reserved.ensures.items ∙ ap (λ (x : Page _). x.items ++ c.args.item ∷ []) c.index_mut-page.ensures.value) exists
    ∙ ap (λ (a : PagedItems _). a.items ++ c.args.item ∷ []) c.self.view_is

use Rattle.std.proofs.Common.{List, subst, ap, ◌∙◌}
use Rattle.hlc_pages.specs.Copies.{AreCopies}
use Rattle.hlc_pages.specs.Pages.{Page, PagedItems}
use Rattle.hlc_pages.proofs.PageCopies.{copies_are_pages, copies_have_items}
use Rattle.hlc_pages.proofs.pages.Pages.copy.Goals as goal

copies_are : (g : _) (c : goal.In_ok-copy_pages g) → AreCopies 1024 c.self.inside.pages.items c.in_ok-copy_pages.field-0.items
copies_are g c =
    subst (λ (pages : List (Page _)). AreCopies 1024 pages c.in_ok-copy_pages.field-0.items) c.deref.ensures.value c.in_ok-copy_pages.ensures

pub invariant_of-result : goal.invariant_of-result
invariant_of-result g c =
    copies_are_pages c.self.inside.pages.items c.in_ok-copy_pages.field-0.items c.self.inside.len (copies_are g c) c.self.invariant

pub returns : goal.returns
returns g c =
    copies_have_items 1024 c.self.inside.pages.items c.in_ok-copy_pages.field-0.items (copies_are g c)
    ∙ ap (λ (a : PagedItems _). a.items) c.self.view_is

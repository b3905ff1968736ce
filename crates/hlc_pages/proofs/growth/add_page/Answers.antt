use Rattle.std.proofs.Common.{List, ◌∷◌, [], ◌++◌, ap, ◌∙◌}
use Rattle.hlc_pages.specs.Pages.{Page}
use Rattle.hlc_pages.proofs.growth.add_page.Goals as goal

pub returns-clause-added : goal.returns-clause-added
returns-clause-added g c = record {
  page = c.in_ok-page.page;
  empty = c.in_ok-page.ensures.items;
  space = c.in_ok-page.ensures.capacity;
  is = c.push_reserved.ensures.items ∙ ap (λ (pages : List (Page _)). pages ++ c.in_ok-page.page ∷ []) c.reserve.ensures.items;
}

-- Copies of pages.
use Rattle.std.specs.Prelude.{◌≡◌, ℕ, ◌≤◌, List, map}
use Rattle.std.specs.List.{All}
use Rattle.std.specs.Vec.{vec_capacity}
use Rattle.hlc_pages.specs.Pages.{Page}

-- copies have the items of the pages, and each has space for so many
pub record AreCopies {X : Type 0} (size : ℕ) (pages copies : List (Page X)) : Type 0 where
  pub items : map (λ page. page.items) copies ≡ map (λ page. page.items) pages
  pub space : All (λ copy. size ≤ vec_capacity copy) copies

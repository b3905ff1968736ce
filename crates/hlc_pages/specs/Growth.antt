-- Pages with one more.
use Rattle.std.specs.Prelude.{◌≡◌, ℕ, ◌≤◌, List, [], ◌∷◌, ◌++◌}
use Rattle.std.specs.Vec.{vec_capacity}
use Rattle.hlc_pages.specs.Pages.{Page}

-- new has the pages of old, and after them one without items that has space for so many
pub record HasNewPage {X : Type 0} (size : ℕ) (old new : List (Page X)) : Type 0 where
  pub page : Page X
  pub empty : page.items ≡ []
  pub space : size ≤ vec_capacity page
  pub is : new ≡ old ++ page ∷ []

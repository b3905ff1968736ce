-- What pages end as when a `&mut` to one of their items is returned.
use Rattle.std.specs.Prelude.{ℕ}
use Rattle.std.specs.Borrow.{Lends, Fml, RattleType, MutBor}
use Rattle.hlc_pages.specs.Pages.{PagedItems, with_item_at}
use Rattle.hlc_pages.specs.contracts.pages.Pages.{the_row}

-- once the borrow r ends, the place has the last item written through r
abbrev pub lends_item : (T : RattleType) → MutBor (PagedItems T.Denot) → ℕ → MutBor T.Denot → Fml
lends_item T pages place r = Lends (the_row T) T pages r (with_item_at pages.now place)

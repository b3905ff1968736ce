-- What is true after a page more was asked for.
use Rattle.std.proofs.Common.{◌≡◌, ℕ, zero, suc, ◌<◌, ◌⊎◌, inl, inr, Bool, true, false, List, arith, refl}
use Rattle.std.specs.Prelude.{◌↔◌, Err, IsTrue, Ok, OnErr, OnOk, Result}
use Rattle.hlc_pages.specs.Growth.{HasNewPage}
use Rattle.hlc_pages.specs.Pages.{Page}

-- one was added, or the pages are as before
pub grown_or_same : {X E : Type 0} {size : ℕ} {old new : List (Page X)} (asked : Result (Unit {0}) E)
    → OnOk asked (HasNewPage size old new) → OnErr asked (new ≡ old) → HasNewPage size old new ⊎ (new ≡ old)
grown_or_same (Ok _) added same = inl added
grown_or_same (Err _) added same = inr same

-- none was asked for while there was room
pub no_room : (has_room : Bool) (room : ℕ) → IsTrue has_room ↔ (0 < room) → has_room ≡ false → room ≡ 0
no_room has_room zero means not = refl
no_room false (suc room) means not = let is : false ≡ true = means.1 (omega arith) in absurd (cc)
no_room true (suc room) means not = absurd (cc)

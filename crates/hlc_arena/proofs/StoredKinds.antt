-- What is stored stays as it is when more is.
use Rattle.std.proofs.Common.{◌≡◌, ℕ, List, [], ◌∷◌, ◌++◌, length-append, map, arith, refl, ap, ◌∙◌}
use Rattle.std.specs.List.{All}
use Rattle.std.proofs.lemmas.List.{get_or_append_left}
use Rattle.std.proofs.lemmas.List.Elements.{All-head, All-tail, All-weaker}
use Rattle.hlc_pages.specs.Log.{Extends, key_in, value_in}
use Rattle.hlc_pages.proofs.Spans.{key_stays, stays_within, value_stays}
use Rattle.hlc_arena.specs.declared.stored_kind.StoredKind.{StoredKind}
use Rattle.hlc_arena.specs.declared.stored_kind.StoredKind.TheVariants.{Deliver, Erase, Send, Sync, Write}
use Rattle.hlc_arena.specs.History.{Erased, EventKind, Synced, Written}
use Rattle.hlc_arena.specs.Stored.{IsStored, kind_in}

-- more bytes in the pages, and more lists
module _ (pages new : List (List ℕ)) (lists more : List (List ℕ)) (extends : Extends pages new) where
  pub stays_stored : (kind : StoredKind) → IsStored pages lists kind → IsStored new (lists ++ more) kind
  stays_stored (Write span) stored = stays_within extends stored
  stays_stored (Erase span) stored = stays_within extends stored
  stays_stored (Send to write) stored = tt
  stays_stored (Sync to list) stored = let size = length-append lists more in omega arith
  stays_stored (Deliver sent) stored = tt

  pub kind_stays : (kind : StoredKind) → IsStored pages lists kind → kind_in new (lists ++ more) kind ≡ kind_in pages lists kind
  kind_stays (Write span) stored =
      ap (λ (key : List ℕ). Written key (value_in new span)) (key_stays extends stored)
      ∙ ap (Written (key_in pages span)) (value_stays extends stored)
  kind_stays (Erase span) stored = ap Erased (key_stays extends stored)
  kind_stays (Send to write) stored = refl
  kind_stays (Sync to list) stored = ap (Synced to.0) (get_or_append_left lists more [] list stored)
  kind_stays (Deliver sent) stored = refl

  pub all_stay_stored : (kinds : List StoredKind) → All (IsStored pages lists) kinds → All (IsStored new (lists ++ more)) kinds
  all_stay_stored kinds stored = All-weaker (IsStored pages lists) (IsStored new (lists ++ more)) stays_stored kinds stored

  pub kinds_stay : (kinds : List StoredKind) → All (IsStored pages lists) kinds →
      map (kind_in new (lists ++ more)) kinds ≡ map (kind_in pages lists) kinds
  kinds_stay [] stored = refl
  kinds_stay (kind ∷ kinds) stored =
      let first = kind_stays kind (All-head (IsStored pages lists) kind kinds stored) in
      let rest = kinds_stay kinds (All-tail (IsStored pages lists) kind kinds stored) in
      ap (λ (k : EventKind). k ∷ map (kind_in new (lists ++ more)) kinds) first
      ∙ ap (λ (ks : List EventKind). kind_in pages lists kind ∷ ks) rest

-- Records that come one after another.
use Rattle.std.proofs.Common.{◌≡◌, ◌∙◌, List, [], ◌∷◌, ◌++◌, append-nil, append_assoc, ap, refl, sym}
use Rattle.hlc_csv.specs.Rows.{Fields}
use Rattle.hlc_watched_log.specs.Watching.{Placed, WatchState, rows_from, rows_next, state_after, state_next}
use Rattle.hlc_watched_log.specs.declared.watch_rules.WatchRules.{WatchRules}

-- what is there after one record more, and what that is answered with
pub state_after-more : (rules : WatchRules) (state : WatchState) (records : List Placed) (next : Placed)
    → state_after rules state (records ++ next ∷ []) ≡ state_next rules (state_after rules state records) next
state_after-more rules state [] next = refl
state_after-more rules state (first ∷ records) next = state_after-more rules (state_next rules state first) records next

pub rows_from-more : (rules : WatchRules) (state : WatchState) (records : List Placed) (next : Placed)
    → rows_from rules state (records ++ next ∷ []) ≡ rows_from rules state records ++ rows_next rules (state_after rules state records) next
rows_from-more rules state [] next = append-nil (rows_next rules state next)
rows_from-more rules state (first ∷ records) next =
    ap (λ (rows : List Fields). rows_next rules state first ++ rows) (rows_from-more rules (state_next rules state first) records next)
    ∙ sym (append_assoc (rows_next rules state first) (rows_from rules (state_next rules state first) records)
    (rows_next rules (state_after rules (state_next rules state first) records) next))

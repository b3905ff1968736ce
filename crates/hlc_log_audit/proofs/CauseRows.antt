-- The rows of causes, one after another.
use Rattle.hlc_log_text.specs.declared.file_mark.FileMark.{FileMark}
use Rattle.std.proofs.Common.{◌≡◌, ◌∙◌, ℕ, zero, suc, ◌+◌, ◌<◌, inl, inr, List, [], ◌∷◌, ◌++◌, length, None, Option, arith, refl, replicate, subst, sym, ap}
use Rattle.std.specs.Prelude.{slice_index_or}
use Rattle.std.specs.List.{flat_map}
use Rattle.std.proofs.lemmas.Bool.{cases_eq}
use Rattle.std.proofs.lemmas.List.{get_or-replicate, get_or_append_left, get_or_push, length-replicate, length_push}
use Rattle.std.proofs.lemmas.List.Concat.{flat_map-append}
use Rattle.hlc_causality.specs.Places.{places_below}
use Rattle.hlc_causes.specs.declared.answers.Causes.{Causes}
use Rattle.hlc_causes.specs.Causes.{no_causes}
use Rattle.hlc_csv.specs.Rows.{AddsText, Fields, text_of}
use Rattle.hlc_ordered_log.specs.InOrder.{LogInOrder}
use Rattle.hlc_ordered_log.specs.Found.{AreCausesBefore, NamesCausesAt, wrong_at}
use Rattle.hlc_log_audit.specs.Report.{cause_rows_at, wrong_row}
use Rattle.hlc_log_audit.proofs.RowsOfPlaces.{adds_place, flat_map-same}

-- places without rows
pub no_rows : (rows : ℕ → List Fields) (n : ℕ) → ((k : ℕ) → k < n → rows k ≡ []) → flat_map rows (places_below n) ≡ []
no_rows rows zero none = refl
no_rows rows (suc n) none =
    flat_map-append rows (places_below n) (n ∷ [])
    ∙ ap (λ (before : List Fields). before ++ (rows n ++ [])) (no_rows rows n (λ k lt. none k (omega arith)))
    ∙ ap (λ (here : List Fields). here ++ []) (none n (omega arith))

module _ (log : LogInOrder) (files : List FileMark) (nodes : List (List ℕ)) (full : ℕ) where
  -- the row at a place, if there is one, by the answers
  abbrev pub row_at : List Causes → ℕ → List Fields
  row_at causes e = cause_rows_at files nodes log full e (slice_index_or causes e no_causes)

  pub no_cause_rows : (n : ℕ) → ((k : ℕ) → k < n → wrong_at log k ≡ None) → flat_map (row_at (replicate n no_causes)) (places_below n) ≡ []
  no_cause_rows n right =
      no_rows (row_at (replicate n no_causes)) n (λ k lt.
      ap (cause_rows_at files nodes log full k) (get_or-replicate n k no_causes no_causes lt) ∙ ap (wrong_row files nodes log k) (right k lt))

  -- its row is added
  pub adds_cause : (a b c : Option (List ℕ)) (old mid new : List ℕ) (n : ℕ) (causes : List Causes) (found : Causes)
      → length causes ≡ n → AddsText a b old mid (text_of (flat_map (row_at causes) (places_below n)))
      → AddsText b c mid new (text_of (cause_rows_at files nodes log full n found))
      → AddsText a c old new (text_of (flat_map (row_at (causes ++ found ∷ [])) (places_below (n + 1))))
  adds_cause a b c old mid new n causes found size h t =
      let more = causes ++ found ∷ [] in
      let before : flat_map (row_at causes) (places_below n) ≡ flat_map (row_at more) (places_below n) =
      flat_map-same (row_at causes) (row_at more) n (λ k lt.
      ap (cause_rows_at files nodes log full k) (sym (get_or_append_left causes (found ∷ []) no_causes k (omega arith)))) in
      let here : cause_rows_at files nodes log full n found ≡ row_at more n = ap (cause_rows_at files nodes log full n) (sym (get_or_push causes found no_causes n size)) in
      adds_place a b c old mid new (row_at more) n
      (subst (λ (rows : List Fields). AddsText a b old mid (text_of rows)) before h)
      (subst (λ (rows : List Fields). AddsText b c mid new (text_of rows)) here t)

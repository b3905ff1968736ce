-- What is kept of each file so that its next record can be read.
use Rattle.std.proofs.Common.{◌≡◌, ◌∙◌, ◌<◌, ◌++◌, ◌∷◌, [], List, ℕ, zero, suc, arith, get_or, length, set, inl, inr, refl, sym}
use Rattle.std.specs.Prelude.{◌==◌}
use Rattle.std.proofs.lemmas.Bool.{cases_Bool, eq-eqb, eqb-true}
use Rattle.hlc_log_text.specs.LogHeader.{IsHeaderAfter}
use Rattle.hlc_log_text.specs.LogItem.{LogItem}
use Rattle.hlc_log_text.specs.declared.log_header.LogHeader.{LogHeader}
use Rattle.hlc_watched_log.specs.Answered.{AreHeadersAfter}
use Rattle.hlc_watched_log.specs.Numbers.{with_number}

-- there is one of each file
pub headers-length : (items : List (List LogItem)) (headers : List LogHeader) → AreHeadersAfter items headers → length items ≡ length headers
headers-length [] [] are = refl
headers-length [] (header ∷ headers) are = absurd are
headers-length (first ∷ items) [] are = absurd are
headers-length (first ∷ items) (header ∷ headers) are = let rest = headers-length items headers are.1 in omega arith

-- that of a file
pub header_at : (items : List (List LogItem)) (headers : List LogHeader) (d : LogHeader) → AreHeadersAfter items headers → (file : ℕ) → file < length headers
    → IsHeaderAfter (get_or items file []) (get_or headers file d)
header_at [] [] d are file within = absurd (omega arith)
header_at [] (header ∷ headers) d are file within = absurd are
header_at (first ∷ items) [] d are file within = absurd are
header_at (first ∷ items) (header ∷ headers) d are zero within = are.0
header_at (first ∷ items) (header ∷ headers) d are (suc file) within = header_at items headers d are.1 file (omega arith)

-- after one record more of a file
pub header_set : (items : List (List LogItem)) (headers : List LogHeader) → AreHeadersAfter items headers → (file : ℕ) (more : List LogItem) (new : LogHeader)
    → IsHeaderAfter more new → AreHeadersAfter (set items file more) (set headers file new)
header_set [] [] are file more new is = tt
header_set [] (header ∷ headers) are file more new is = absurd are
header_set (first ∷ items) [] are file more new is = absurd are
header_set (first ∷ items) (header ∷ headers) are zero more new is = (is, are.1)
header_set (first ∷ items) (header ∷ headers) are (suc file) more new is = (are.0, header_set items headers are.1 file more new is)

-- with one file more
header_push : (items : List (List LogItem)) (headers : List LogHeader) → AreHeadersAfter items headers → (new : LogHeader) → IsHeaderAfter [] new
    → AreHeadersAfter (items ++ [] ∷ []) (headers ++ new ∷ [])
header_push [] [] are new is = (is, tt)
header_push [] (header ∷ headers) are new is = absurd are
header_push (first ∷ items) [] are new is = absurd are
header_push (first ∷ items) (header ∷ headers) are new is = (are.0, header_push items headers are.1 new is)

module _ (items : List (List LogItem)) (headers : List LogHeader) (are : AreHeadersAfter items headers) (file : ℕ) where
  pub header_new : (new : LogHeader) → IsHeaderAfter [] new → file ≡ length headers → AreHeadersAfter (with_number [] items file) (headers ++ new ∷ [])
  header_new new is last = rw (eq-eqb file (length items) (last ∙ sym (headers-length items headers are))) (header_push items headers are new is)

  pub header_known : (file ≡ length headers → ⊥) → AreHeadersAfter (with_number [] items file) headers
  header_known other = elim (cases_Bool (file == length items)) [
    | inl is ↦ absurd (other (eqb-true file (length items) is ∙ headers-length items headers are))
    | inr differs ↦ rw differs are
  ]

-- Whole scripts, one record after the other.
use Rattle.std.proofs.Common.{◌≡◌, ◌∙◌, ◌+◌, List, [], ◌∷◌, ◌++◌, Option, None, Some, refl, sym, ap, append_assoc, append-nil}
use Rattle.std.specs.Prelude.{cond, bytes_eq, codes}
use Rattle.std.specs.List.{cons_option}
use Rattle.std.proofs.lemmas.List.Sums.{sum_by-append}
use Rattle.hlc_stamp.specs.Order.{Pair}
use Rattle.hlc_core.specs.State.{State}
use Rattle.hlc_csv.specs.Rows.{Fields, field_of}
use Rattle.hlc_text.specs.Answer.{refusals_in}
use Rattle.hlc_text.specs.Statement.{statement_of}
use Rattle.hlc_text.specs.Script.{answer_of, answer_rows, state_after}
use Rattle.hlc_text.specs.Undelivered.{undelivered_by_read, undelivered_in}
use Rattle.hlc_text.specs.declared.undelivered.Undelivered.{Undelivered}

pub state_after-more : (stamps : List Pair) (s : State) (rs : List Fields) (r : Fields)
    → state_after stamps s (rs ++ r ∷ []) ≡ (answer_of stamps (state_after stamps s rs) r).state
unfolding state_after
state_after-more stamps s [] r = refl
state_after-more stamps s (x ∷ rs) r = state_after-more stamps (answer_of stamps s x).state rs r

pub rows_from-more : (stamps : List Pair) (s : State) (rs : List Fields) (r : Fields)
    → answer_rows stamps s (rs ++ r ∷ []) ≡ answer_rows stamps s rs ++ (answer_of stamps (state_after stamps s rs) r).rows
unfolding answer_rows state_after
rows_from-more stamps s [] r = append-nil _
rows_from-more stamps s (x ∷ rs) r =
    let first = (answer_of stamps s x).rows in
    let next = (answer_of stamps s x).state in
    ap (λ (t : List Fields). first ++ t) (rows_from-more stamps next rs r)
    ∙ sym (append_assoc first (answer_rows stamps next rs) (answer_of stamps (state_after stamps next rs) r).rows)

-- one element or none before a list, and the rest after it
cons_option-append : (o : Option Undelivered) (xs ys : List Undelivered) → cons_option o (xs ++ ys) ≡ cons_option o xs ++ ys
cons_option-append None xs ys = refl
cons_option-append (Some x) xs ys = refl

pub undelivered_in-more : (stamps : List Pair) (s : State) (rs : List Fields) (r : Fields)
    → undelivered_in stamps s (rs ++ r ∷ [])
    ≡ undelivered_in stamps s rs ++ cons_option (undelivered_by_read (state_after stamps s rs) (statement_of r)) []
unfolding undelivered_in state_after
undelivered_in-more stamps s [] r = refl
undelivered_in-more stamps s (x ∷ rs) r =
    let next = (answer_of stamps s x).state in
    let first = undelivered_by_read s (statement_of x) in
    ap (λ (t : List Undelivered). cons_option first t) (undelivered_in-more stamps next rs r)
    ∙ cons_option-append first (undelivered_in stamps next rs) (cons_option (undelivered_by_read (state_after stamps next rs) (statement_of r)) [])

pub refusals_in-append : (xs ys : List Fields) → refusals_in (xs ++ ys) ≡ refusals_in xs + refusals_in ys
refusals_in-append xs ys = sum_by-append (λ (answer : Fields). cond (bytes_eq (field_of answer 0) (codes "refused")) 1 0) xs ys

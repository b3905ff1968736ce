use Rattle.std.proofs.Common.{◌≡◌, ◌∙◌, ◌<◌, ◌∷◌, [], ℕ, List, decimal, get_or, length, refl, sym, append-nil, arith}
use Rattle.std.proofs.lemmas.Result.{err_from_is_err_and}
use Rattle.csv.specs.Writing.{fields_text}
use Rattle.hlc_csv.proofs.RowTextFacts.{fields_text-next}
use Rattle.hlc_csv.proofs.row_buffer.put_numbers.Goals as goal

-- a list of three
three_of : (l : List ℕ) → length l ≡ 3 → l ≡ get_or l 0 0 ∷ get_or l 1 0 ∷ get_or l 2 0 ∷ []
three_of [] size = absurd (omega arith)
three_of (a ∷ []) size = absurd (omega arith)
three_of (a ∷ b ∷ []) size = absurd (omega arith)
three_of (a ∷ b ∷ c ∷ []) size = refl
three_of (a ∷ b ∷ c ∷ d ∷ rest) size = absurd (omega arith)

pub returns-in-len3 : goal.returns-in-len3
returns-in-len3 c = rw (three_of c.args.numbers.now (omega arith)) c.put_three_numbers.ensures

pub loop-number-init : goal.loop-number-init
unfolding fields_text
loop-number-init c = sym (append-nil c.args.text.now.items)

pub loop-number-preserved : goal.loop-number-preserved
loop-number-preserved c =
    let numbers = c.args.numbers.now in
    let at = c.loop-number.number-index in
    let within : at < length numbers = omega arith in
    rw c.loop-number.invariant at c.in_ok-put_next_number.ensures ∙ fields_text-next c.args.text.now.items decimal numbers at 0 within

pub returns-in_err-put_next_number : goal.returns-in_err-put_next_number
returns-in_err-put_next_number c = rw (err_from_is_err_and c.from_residual.result c.from_residual.ensures.1).1 tt

use Rattle.std.proofs.Common.{◌≡◌, ◌∙◌, ◌+◌, ◌-◌, ◌<◌, ◌≤◌, ◌∷◌, ℕ, List, length, take, drop, get_or, refl, sym, ap, arith}
use Rattle.std.specs.Prelude.{replicate}
use Rattle.std.proofs.lemmas.Fmt.{length-decimal-le}
use Rattle.std.proofs.lemmas.List.{drop_more, get_or-replicate, get_or-take, length-replicate, length-take, take-replicate, take-take}
use Rattle.hlc_csv.proofs.row_buffer.write_next.Goals as goal

-- the commas before a place stay
commas_before : (end at : ℕ) (old new : List ℕ) → at ≤ end → take end old ≡ replicate end 44 → take at new ≡ take at old → take at new ≡ replicate at 44
commas_before end at old new within commas same =
    same ∙ sym (take-take at end old within) ∙ ap (take at) commas ∙ take-replicate at end 44 within

-- there are as many bytes as commas, at least
long_enough : (at : ℕ) (new : List ℕ) → take at new ≡ replicate at 44 → at ≤ length new
long_enough at new commas =
    let size : length (take at new) ≡ at = ap length commas ∙ length-replicate {A = ℕ} at 44 in
    omega (arith, size, length-take at new)

-- the last of the commas comes before what follows them
comma_first : (at : ℕ) (new : List ℕ) → 1 ≤ at → take at new ≡ replicate at 44 → drop (at - 1) new ≡ 44 ∷ drop at new
comma_first at new some commas =
    let inside : at - 1 < length new = omega (arith, long_enough at new commas) in
    let next : at - 1 + 1 ≡ at = omega arith in
    let comma : get_or new (at - 1) 0 ≡ 44 =
    sym (get_or-take at new (at - 1) 0 (omega arith)) ∙ ap (λ (l : List ℕ). get_or l (at - 1) 0) commas
    ∙ get_or-replicate at (at - 1) 44 0 (omega arith) in
    drop_more new (at - 1) 0 inside ∙ ap (λ (n : ℕ). get_or new (at - 1) 0 ∷ drop n new) next ∙ ap (λ (b : ℕ). b ∷ drop at new) comma

pub write_digits-digits-requires : goal.write_digits-digits-requires
write_digits-digits-requires c =
    let few = length-decimal-le 20 c.args.number (omega arith) (omega arith) c.ranges.number.fits in
    (omega (arith, c.requires.room, few), c.requires.within)

pub overflow_sub-result : goal.overflow_sub-result
overflow_sub-result c =
    let few = length-decimal-le 20 c.args.number (omega arith) (omega arith) c.ranges.number.fits in
    omega (arith, c.requires.room, c.write_digits-digits.ensures.start, few)

pub returns-clause-begins : goal.returns-clause-begins
returns-clause-begins c =
    let few = length-decimal-le 20 c.args.number (omega arith) (omega arith) c.ranges.number.fits in
    omega (arith, c.requires.room, c.write_digits-digits.ensures.start, few)

pub returns-clause-near : goal.returns-clause-near
returns-clause-near c =
    let few = length-decimal-le 20 c.args.number (omega arith) (omega arith) c.ranges.number.fits in
    omega (arith, c.requires.room, c.write_digits-digits.ensures.start, few)

pub returns-clause-within : goal.returns-clause-within
returns-clause-within c =
    let made = c.write_digits-digits.ensures in
    let at = c.write_digits-digits.result in
    let new = c.write_digits-digits.new.buf in
    let before : at ≤ c.args.end = omega (arith, made.start) in
    let commas = commas_before c.args.end at c.args.fields.now new before c.requires.commas made.before in
    omega (arith, long_enough at new commas)

pub returns-clause-commas : goal.returns-clause-commas
returns-clause-commas c =
    let made = c.write_digits-digits.ensures in
    let at = c.write_digits-digits.result in
    let new = c.write_digits-digits.new.buf in
    let before : at ≤ c.args.end = omega (arith, made.start) in
    let commas = commas_before c.args.end at c.args.fields.now new before c.requires.commas made.before in
    commas_before at (at - 1) new new (omega arith) commas refl

pub returns-clause-written : goal.returns-clause-written
returns-clause-written c =
    let few = length-decimal-le 20 c.args.number (omega arith) (omega arith) c.ranges.number.fits in
    let made = c.write_digits-digits.ensures in
    let at = c.write_digits-digits.result in
    let new = c.write_digits-digits.new.buf in
    let before : at ≤ c.args.end = omega (arith, made.start) in
    let some : 1 ≤ at = omega (arith, c.requires.room, made.start, few) in
    let commas = commas_before c.args.end at c.args.fields.now new before c.requires.commas made.before in
    comma_first at new some commas ∙ ap (λ (l : List ℕ). 44 ∷ l) made.written

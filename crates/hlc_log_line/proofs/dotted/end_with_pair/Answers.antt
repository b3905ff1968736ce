use Rattle.std.proofs.Common.{◌≡◌, ◌∙◌, ◌+◌, ◌-◌, ◌^◌, ◌<◌, ◌≤◌, ℕ, List, [], ◌∷◌, ◌++◌, decimal, length, drop, append-nil, ap, arith}
use Rattle.std.proofs.lemmas.Fmt.{decimal_nonempty, length-decimal-le}
use Rattle.std.proofs.lemmas.List.{drop-set, length-set}
use Rattle.std.proofs.lemmas.List.{drop_all}
use Rattle.hlc_log_line.proofs.dotted.end_with_pair.Goals as goal

-- a number of 32 bits has at most ten digits
short_count : (c n : ℕ) → c < 2 ^ 32 → n ≡ c → length (decimal n) ≤ 10
short_count c n small same = length-decimal-le 10 n (omega arith) (omega (arith, small, same)) (omega (arith, small, same))

pub write_digits-dot-requires : goal.write_digits-dot-requires
write_digits-dot-requires c =
    let few = short_count c.args.c c.from.result c.ranges.c.fits c.from.ensures in
    (omega (arith, few), omega (arith, c.told-text))

pub overflow_sub-dot : goal.overflow_sub-dot
overflow_sub-dot c =
    let few = short_count c.args.c c.from.result c.ranges.c.fits c.from.ensures in
    omega (arith, few, c.write_digits-dot.ensures.start)

pub write_digits-requires : goal.write_digits-requires
write_digits-requires c =
    let few = short_count c.args.c c.from.result c.ranges.c.fits c.from.ensures in
    let few_l = length-decimal-le 20 c.args.l (omega arith) (omega arith) c.ranges.l.fits in
    let buf = c.write_digits-dot.new.buf in
    let at = c.write_digits-dot.result in
    let same : length buf ≡ 31 = omega (arith, c.write_digits-dot.auto.buf, c.told-text) in
    (omega (arith, few, few_l, c.write_digits-dot.ensures.start), omega (arith, length-set buf (at - 1) 46, same, c.write_digits-dot.ensures.start))

pub returns-clause-text : goal.returns-clause-text
returns-clause-text c =
    let few = short_count c.args.c c.from.result c.ranges.c.fits c.from.ensures in
    let buf = c.write_digits-dot.new.buf in
    let at = c.write_digits-dot.result in
    let made = c.write_digits-dot.ensures in
    let same : length buf ≡ 31 = omega (arith, c.write_digits-dot.auto.buf, c.told-text) in
    let some = decimal_nonempty c.from.result c.from.type_inv in
    let within : at - 1 < length buf = omega (arith, same, made.start, few, some) in
    let next : at - 1 + 1 ≡ at = omega (arith, few, made.start) in
    let none : drop 31 c.args.text.now ≡ [] = drop_all 31 c.args.text.now (omega (arith, c.told-text)) in
    let count : drop at buf ≡ decimal c.args.c =
    made.written ∙ ap (λ (t : List ℕ). decimal c.from.result ++ t) none ∙ append-nil (decimal c.from.result) ∙ ap decimal c.from.ensures in
    let dot = drop-set buf (at - 1) 46 within ∙ ap (λ (n : ℕ). 46 ∷ drop n buf) next ∙ ap (λ (t : List ℕ). 46 ∷ t) count in
    c.write_digits.ensures.written ∙ ap (λ (t : List ℕ). decimal c.args.l ++ t) dot

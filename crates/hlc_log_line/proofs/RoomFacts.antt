-- Texts that are put one after the other.
use Rattle.std.proofs.Common.{◌≡◌, ◌∙◌, ℕ, ◌+◌, ◌-◌, ◌≤◌, ◌<◌, List, [], ◌∷◌, ◌++◌, length, take, drop, refl, sym, ap, append_assoc, append-nil, take-append-drop, length-append, arith}
use Rattle.std.proofs.lemmas.List.{length-drop, length-take, length-take-le}
use Rattle.std.proofs.lemmas.Slice.{drop-append-drop}
use Rattle.std.proofs.Math.Seq.{take-append_seam}
use Rattle.hlc_log_line.specs.Room.{IsPut}

-- a room keeps its length
pub length-put : (old new text : List ℕ) (at end : ℕ) → IsPut old new at text end → end ≤ length old → length new ≡ length old
length-put old new text at end put within =
    let front = length-take at old in
    let rest = length-append text (drop end old) in
    let all = length-append (take at old) (text ++ drop end old) in
    ap length put.bytes ∙ omega (arith, all, rest, front, length-drop end old, put.ends, within)

-- nothing is put
pub put-none : (old : List ℕ) (at : ℕ) → IsPut old old at [] at
put-none old at = record { ends = omega arith; bytes = sym (take-append-drop at old) }

-- two texts are put
pub put-both : (old mid new a b : List ℕ) (at m e : ℕ) → IsPut old mid at a m → IsPut mid new m b e → e ≤ length old → IsPut old new at (a ++ b) e
put-both old mid new a b at m e first next within =
    let head = take at old ++ a in
    let begins : length (take at old) ≡ at = length-take-le at old (omega (arith, first.ends, next.ends, within)) in
    let size : length head ≡ m = length-append (take at old) a ∙ omega (arith, begins, first.ends) in
    let whole : mid ≡ head ++ drop m old = first.bytes ∙ sym (append_assoc (take at old) a (drop m old)) in
    let before : take m mid ≡ head =
    ap (take m) whole ∙ ap (λ (n : ℕ). take n (head ++ drop m old)) (sym size) ∙ take-append_seam head (drop m old) in
    let after : drop e mid ≡ drop e old =
    ap (drop e) whole ∙ drop-append-drop m old head e (omega (arith, next.ends)) size in
    record {
      ends = omega (arith, first.ends, next.ends, length-append a b);
      bytes = next.bytes ∙ ap (λ (t : List ℕ). t ++ (b ++ drop e mid)) before ∙ ap (λ (t : List ℕ). head ++ (b ++ t)) after
          ∙ append_assoc (take at old) a (b ++ drop e old) ∙ ap (λ (t : List ℕ). take at old ++ t) (sym (append_assoc a b (drop e old)));
    }

-- a text that is put at the front is written, if it fits
pub put-written : (old new text : List ℕ) (end : ℕ) → IsPut old new 0 text end → new ≡ text ++ drop (length text) old
put-written old new text end put = put.bytes ∙ ap (λ (n : ℕ). text ++ drop n old) (put.ends ∙ omega arith)

-- The answers of jobs that count lines.
use Rattle.std.proofs.Common.{◌≡◌, ◌==◌, ℕ, List, Result, Ok, Err, map}
use Rattle.std.specs.Prelude.{IfOk, Vec, count_by}
use Rattle.std.specs.declared.alloc.Global.{Global}
use Rattle.std.proofs.lemmas.Slice.Zip.{AllZip-map}
use Rattle.hlc_shared.specs.Endings.{HaveEnded}
use Rattle.hlc_shared.specs.declared.fate.Fate.{Fate}

-- how many lines a text has
abbrev pub lines_in : Vec ℕ Global → ℕ
lines_in text = count_by (λ b. b == 10) text.items

pub lines-counted : (texts : List (Vec ℕ Global)) (result : Result (Vec ℕ Global) Fate) →
    HaveEnded (λ text lines. lines ≡ lines_in text) (λ text node. ⊥) texts result →
    IfOk result (λ counts. counts.items ≡ map lines_in texts)
lines-counted texts (Ok counts) ended = AllZip-map lines_in texts counts.items ended
lines-counted texts (Err fate) ended = tt

-- What a reader of JSON lines will give, as it reads.
use Rattle.std.proofs.Common.{◌≡◌, ◌∙◌, ◌<◌, ℕ, Bool, false, List, [], ◌++◌, Option, Some, None, ap, append_assoc, length, refl, subst, sym}
use Rattle.std.specs.Prelude.{IfSome, Result, Ok, Err, if◌then◌else◌, option_map}
use Rattle.std.specs.Io.BufRead.{DropsThrough, take_through}
use Rattle.std.specs.Io.KnownBytes.{Consumes, IsAtEnd, Keeps, ReadConsumes, prepend_known}
use Rattle.hlc_json_lines.specs.EventRow.{text_of_line}
use Rattle.hlc_json_lines.specs.Lines.{log_text}
use Rattle.hlc_json_lines.specs.Rules.{Rules}
use Rattle.hlc_json_lines.proofs.LineFacts.{log_text-first}

-- the text of what was read of a line and of what follows
abbrev pub line_text : Rules → List ℕ → Option (List ℕ) → Option (List ℕ)
line_text rules line known = option_map (λ bytes. log_text (Some rules) (line ++ bytes)) known

pub keeps-same : (known : Option (List ℕ)) → Keeps known known
keeps-same None = tt
keeps-same (Some bytes) = refl

pub keeps-by : (a b : Option (List ℕ)) → b ≡ a → Keeps a b
keeps-by a b is = subst (Keeps a) (sym is) (keeps-same a)

-- nothing was ready, and some of a line was read
pub keeps-cut : (rules : Rules) (old new : Option (List ℕ)) (line : List ℕ) → Consumes old new line
    → Keeps (prepend_known [] (line_text rules [] old)) (prepend_known [] (line_text rules line new))
keeps-cut rules None new line cut = tt
keeps-cut rules (Some bytes) None line cut = absurd cut
keeps-cut rules (Some bytes) (Some rest) line cut = ap (log_text (Some rules)) (sym cut)

-- a whole line was read, and its text is ready
pub keeps-row : (rules : Rules) (old new : Option (List ℕ)) (line : List ℕ) → IfSome old (λ bytes. line ≡ take_through 10 bytes) → 0 < length line
    → DropsThrough old new 10 → Keeps (prepend_known [] (line_text rules [] old)) (prepend_known (text_of_line rules line) (line_text rules [] new))
keeps-row rules None new line is some drops = tt
keeps-row rules (Some bytes) new line is some drops =
    let first = log_text-first rules bytes (subst (λ (l : List ℕ). 0 < length l) is some) in
    rw (drops, is) (sym first)

-- so, as the parts of a reader tell it
pub keeps-line : (rules : Rules) (ended : Bool) (old new : Option (List ℕ)) (ready before line row after : List ℕ) → ended ≡ false → ready ≡ [] → before ≡ [] → after ≡ []
    → row ≡ text_of_line rules line → IfSome old (λ bytes. line ≡ take_through 10 bytes) → 0 < length line → DropsThrough old new 10
    → Keeps (prepend_known ready (if ended then Some [] else line_text rules before old)) (prepend_known row (if ended then Some [] else line_text rules after new))
keeps-line rules ended old new ready before line row after reads none_ready none_before none_after made is some drops =
    rw (reads, none_ready, none_before, none_after, made) (keeps-row rules old new line is some drops)

-- nothing was left to read
pub keeps-end : (rules : Rules) (old : Option (List ℕ)) → IsAtEnd old → Keeps (prepend_known [] (line_text rules [] old)) (prepend_known [] (Some []))
keeps-end rules None ends = tt
keeps-end rules (Some bytes) ends = sym (ap (log_text (Some rules)) ends)

-- some of what is ready was given
pub gives : (later : Option (List ℕ)) (ready given rest : List ℕ) → ready ≡ given ++ rest
    → Consumes (prepend_known ready later) (prepend_known rest later) given
gives None ready given rest parts = tt
gives (Some text) ready given rest parts = ap (λ (t : List ℕ). t ++ text) parts ∙ append_assoc given rest text

-- what was kept was then read
pub read-kept : {E : Type 0} (a b c : Option (List ℕ)) (r : Result ℕ E) (buf : List ℕ) → Keeps a b → ReadConsumes b c r buf → ReadConsumes a c r buf
read-kept None b c (Ok n) buf kept read = (tt, read.1)
read-kept (Some xs) None c (Ok n) buf kept read = absurd kept
read-kept {E} (Some xs) (Some ys) c (Ok n) buf kept read = subst (λ (zs : List ℕ). ReadConsumes {E = E} (Some zs) c (Ok n) buf) kept read
read-kept None b c (Err e) buf kept read = tt
read-kept (Some xs) None c (Err e) buf kept read = absurd kept
read-kept {E} (Some xs) (Some ys) c (Err e) buf kept read = subst (λ (zs : List ℕ). ReadConsumes {E = E} (Some zs) c (Err e) buf) kept read

-- How texts are written within a line.
use Rattle.std.proofs.Common.{◌≡◌, ◌∙◌, ◌==◌, ◌++◌, ◌∷◌, ◌||◌, ℕ, Bool, false, List, [], refl, sym, ap, append-nil, append_assoc}
use Rattle.std.specs.List.{list_any}
use Rattle.std.proofs.lemmas.Bool.{or_parts}
use Rattle.memchr.specs.Find.{is_byte3}
use Rattle.hlc_json_lines.specs.FieldText.{line_byte, one_line, with_point}

-- a text within a line, in two parts
pub one_line-append : (xs ys : List ℕ) → one_line (xs ++ ys) ≡ one_line xs ++ one_line ys
one_line-append [] ys = refl
one_line-append (x ∷ xs) ys = ap (λ (t : List ℕ). line_byte x ++ t) (one_line-append xs ys) ∙ sym (append_assoc (line_byte x) (one_line xs) (one_line ys))

-- whether a byte is written with a backslash before it
abbrev pub is_marked : ℕ → Bool
is_marked = is_byte3 10 13 92

line_byte-plain : (x : ℕ) → is_marked x ≡ false → line_byte x ≡ x ∷ []
line_byte-plain x plain =
    let two = or_parts (x == 10 || x == 13) (x == 92) plain in
    let one = or_parts (x == 10) (x == 13) two.0 in
    rw (one.0, one.1, two.1) refl

-- a text with no such byte is written as it is
pub one_line-plain : (xs : List ℕ) → list_any is_marked xs ≡ false → one_line xs ≡ xs
one_line-plain [] plain = refl
one_line-plain (x ∷ xs) plain =
    let parts = or_parts (is_marked x) (list_any is_marked xs) plain in
    rw (line_byte-plain x parts.0) (ap (λ (t : List ℕ). x ∷ t) (one_line-plain xs parts.1))

-- a run without such bytes, and then one
pub one_line-past : (done run : List ℕ) (byte : ℕ) → list_any is_marked run ≡ false
    → one_line (done ++ (run ++ byte ∷ [])) ≡ one_line done ++ (run ++ line_byte byte)
one_line-past done run byte plain =
    rw (one_line-append done (run ++ byte ∷ []), one_line-append run (byte ∷ []), one_line-plain run plain, append-nil (line_byte byte)) refl

-- a text without a colon has no point for it
pub with_point-none : (text : List ℕ) → list_any (λ b. b == 58) text ≡ false → with_point text ≡ text
with_point-none [] none = refl
with_point-none (x ∷ text) none =
    let parts = or_parts (x == 58) (list_any (λ b. b == 58) text) none in
    rw parts.0 (ap (λ (t : List ℕ). x ∷ t) (with_point-none text parts.1))

-- the first colon becomes a point
pub with_point-past : (before after : List ℕ) → list_any (λ b. b == 58) before ≡ false → with_point (before ++ 58 ∷ after) ≡ before ++ 46 ∷ after
with_point-past [] after none = refl
with_point-past (x ∷ before) after none =
    let parts = or_parts (x == 58) (list_any (λ b. b == 58) before) none in
    rw parts.0 (ap (λ (t : List ℕ). x ∷ t) (with_point-past before after parts.1))

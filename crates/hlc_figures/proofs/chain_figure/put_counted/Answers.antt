use Rattle.std.proofs.Common.{◌≡◌, ◌∙◌, ◌++◌, List, ℕ, ap, append_assoc, codes, decimal, refl, string_bytes, sym}
use Rattle.std.proofs.lemmas.Result.{on_ok_weaker}
use Rattle.hlc_figures.specs.ChainFigure.{counted_text, events_word}
use Rattle.hlc_figures.proofs.chain_figure.put_counted.Goals as goal

-- numbers and a word in their places
abbrev in_places : (x y count word : List ℕ) → List ℕ
in_places x y count word =
    codes "<text class=\"h\" x=\"" ++ (x ++ (codes "\" y=\"" ++ (y ++ (codes "\" dy=\"4\">&#8230; "
    ++ (count ++ (codes " " ++ (word ++ codes "</text>\n")))))))

-- the text is what comes before the word, and the rest
parts_are :
    (x y count word : List ℕ) →
    (codes "<text class=\"h\" x=\"" ++ (x ++ (codes "\" y=\"" ++ (y ++ (codes "\" dy=\"4\">&#8230; " ++ (count ++ codes " ")))))) ++ (word ++ codes "</text>\n")
    ≡ in_places x y count word
parts_are x y count word = simp append_assoc refl

pub returns : goal.returns
unfolding counted_text
returns c =
    let g = c.args.counted in
    let old = string_bytes c.args.text.now in
    let whole = parts_are (decimal g.x) (decimal g.y) (decimal g.count) (events_word g.count) in
    on_ok_weaker c.write.result (λ e.
    e ∙ ap (λ (word : List ℕ). old ++ in_places (decimal g.x) (decimal g.y) (decimal g.count) word) c.events_word-word.ensures
    ∙ ap (λ (t : List ℕ). old ++ t) (sym whole)) c.write.ensures.bytes

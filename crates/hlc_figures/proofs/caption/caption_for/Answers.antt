use Rattle.std.proofs.Common.{◌≡◌, ◌∙◌, ◌++◌, ℕ, List, ap, length, string_bytes}
use Rattle.hlc_figures.specs.Head.{caption_of, drawn_text, note_of, range_of}
use Rattle.hlc_figures.specs.declared.caption.Range.{Range}
use Rattle.hlc_figures.proofs.caption.caption_for.Goals as goal

pub returns : goal.returns
unfolding caption_of
returns g c =
    let of = g.S.Subject.content c.args.subject.now in
    let drawn = drawn_text c.drawn_range.result c.count.result in
    let begun : string_bytes c.put_drawn.new.text ≡ drawn_text (range_of of c.args.frame) (length of.events) =
    c.in_ok-put_drawn.ensures ∙ ap (λ (t : List ℕ). t ++ drawn) c.new-text.ensures.bytes
    ∙ ap (λ (range : Range). drawn_text range c.count.result) c.drawn_range.ensures
    ∙ ap (λ (total : ℕ). drawn_text (range_of of c.args.frame) total) c.count.ensures in
    c.in_ok-put_note.ensures ∙ ap (λ (t : List ℕ). t ++ note_of of c.args.explained) begun

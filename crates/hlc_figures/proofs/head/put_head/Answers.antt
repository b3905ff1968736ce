use Rattle.std.proofs.Common.{◌∙◌, ◌++◌, List, ℕ, ap, append_assoc, map, string_bytes}
use Rattle.std.proofs.lemmas.Result.{err_from_is_err_and, on_ok_weaker}
use Rattle.hlc_causality.specs.Places.{places_below}
use Rattle.hlc_figures.specs.Head.{description_text, ground_text, head_text, heading_of, headings_text, root_text}
use Rattle.hlc_figures.specs.declared.head.TheConstants.{STYLE}
use Rattle.hlc_svg.proofs.Added.{then_added}
use Rattle.hlc_figures.proofs.head.put_head.Goals as goal

pub returns : goal.returns
unfolding head_text
returns g c =
    let of = g.S.Subject.content c.args.subject.now in
    let frame = c.args.scene.now.frame in
    let root = root_text frame in
    let description = description_text frame c.args.caption.now of.legend in
    let ground = ground_text frame c.args.caption.now in
    let headings = headings_text (map (heading_of of frame) (places_below of.columns)) in
    let old = string_bytes c.args.text.now in
    let one = string_bytes c.put_root.new.text in
    let two = string_bytes c.put_description.new.text in
    let three = string_bytes c.put_ground.new.text in
    let new = string_bytes c.put_headings.new.text in
    on_ok_weaker c.put_headings.result (λ e.
    then_added old one new root (description ++ (STYLE.now ++ (ground ++ headings))) c.in_ok-put_root.ensures
    (then_added one two new description (STYLE.now ++ (ground ++ headings)) c.in_ok-put_description.ensures
    (then_added two three new (STYLE.now ++ ground) headings c.in_ok-put_ground.ensures e
    ∙ ap (λ (t : List ℕ). two ++ t) (append_assoc STYLE.now ground headings)))) c.put_headings.ensures

pub returns-in_err-put_root : goal.returns-in_err-put_root
returns-in_err-put_root g c = rw (err_from_is_err_and c.from_residual.result c.from_residual.ensures.1).1 tt

pub returns-in_err-put_description : goal.returns-in_err-put_description
returns-in_err-put_description g c = rw (err_from_is_err_and c.from_residual-in_err-put_description.result c.from_residual-in_err-put_description.ensures.1).1 tt

pub returns-in_err-put_ground : goal.returns-in_err-put_ground
returns-in_err-put_ground g c = rw (err_from_is_err_and c.from_residual-in_err-put_ground.result c.from_residual-in_err-put_ground.ensures.1).1 tt

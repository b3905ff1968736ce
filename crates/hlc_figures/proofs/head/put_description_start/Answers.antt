use Rattle.std.proofs.Common.{◌∙◌, ◌++◌, List, ℕ, ap, codes, decimal, string_bytes}
use Rattle.std.proofs.lemmas.Result.{on_ok_weaker}
use Rattle.hlc_figures.specs.Head.{description_begins}
use Rattle.hlc_figures.specs.declared.head.TheConstants.{LEGEND}
use Rattle.hlc_figures.proofs.head.put_description_start.Goals as goal

pub returns : goal.returns
unfolding description_begins
returns c =
    let old = string_bytes c.args.text.now in
    on_ok_weaker c.write.result (λ e.
    e ∙ ap (λ (word : List ℕ). old ++ (codes "<title>Space-time diagram of " ++ (decimal c.args.frame.nodes ++ (codes " " ++ (word
    ++ (codes "</title>\n<desc>" ++ (c.args.caption.now ++ (codes " " ++ (LEGEND.now ++ codes " "))))))))) c.nodes_word-word.ensures) c.write.ensures.bytes

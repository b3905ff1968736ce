use Rattle.std.proofs.Common.{◌∙◌, ◌++◌, ℕ, List, ap, ap₂, codes}
use Rattle.hlc_script_commands.proofs.played_script.counts.Goals as goal

pub returns : goal.returns
returns c =
    let events = c.as_bytes-events.ensures.value ∙ c.format.ensures.text in
    let explained = c.as_bytes-explained.ensures.value ∙ c.format-2.ensures.text in
    let one = c.in_ok-extend_from_slice.ensures.items ∙ ap (λ (text : List ℕ). text ++ codes "events,") c.new-text.ensures.items in
    let two = c.in_ok-extend_from_slice-2.ensures.items ∙ ap₂ ◌++◌ one events in
    let three = c.in_ok-extend_from_slice-3.ensures.items ∙ ap (λ (text : List ℕ). text ++ codes "\nexplained,") two in
    let four = c.in_ok-extend_from_slice-4.ensures.items ∙ ap₂ ◌++◌ three explained in
    c.in_ok-extend_from_slice-5.ensures.items ∙ ap (λ (text : List ℕ). text ++ codes "\n") four

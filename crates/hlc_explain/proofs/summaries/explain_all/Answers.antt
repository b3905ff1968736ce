use Rattle.std.proofs.Common.{◌≡◌, ◌<◌, ◌++◌, length, get_or, drop, take, arith, sym, ap, ◌∙◌}
use Rattle.std.proofs.lemmas.List.{take-append-le, take_all}
use Rattle.hlc_explain.specs.Summaries.{summary_of}
use Rattle.hlc_explain.proofs.Explaining.{all_finished}
use Rattle.hlc_explain.proofs.summaries.explain_all.Goals as goal

pub returns-clause-summaries : goal.returns-clause-summaries
returns-clause-summaries g c =
    let s = c.args.execution.now.events in
    let pairs = c.args.execution.now.stamps in
    let blank = c.as_mut_slice.result.now in
    let list = c.par_chunks_mut_for_each.new.s in
    let n = c.in_ok-summaries.summaries.len in
    let same : length list ≡ length blank = c.par_chunks_mut_for_each.auto.s in
    let filled : length blank ≡ n = c.as_mut_slice.ensures.len in
    let made : n ≡ length s = c.in_ok-summaries.ensures.len ∙ c.len-len.ensures.value in
    let rest = drop (length list) c.in_ok-summaries.summaries.items in
    let whole : take n (list ++ rest) ≡ list = take-append-le n list rest (omega arith) ∙ take_all n list (omega arith) in
    whole ∙ all_finished s pairs list (omega arith) (λ i other lt.
    let at = (c.par_chunks_mut_for_each.ensures.by_index i other (omega arith)).1 in
    let offset = at.offset_in_chunk in
    let len = at.call.1 in
    let within : at.offset < length at.after_call.now = omega arith in
    let moved : get_or list i other ≡ get_or at.after_call.now at.offset other = sym at.new_element in
    moved ∙ at.call.0 at.offset other within ∙ ap (summary_of s pairs) at.start_plus_offset)

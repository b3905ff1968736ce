use Rattle.std.proofs.Common.{◌≡◌, ◌∙◌, ◌<◌, ◌≤◌, ℕ, suc, ◌+◌, List, length, max, take, get_or, arith, ap}
use Rattle.std.proofs.Math.Seq.{take-length}
use Rattle.hlc_explain.specs.Frontier.{last_of}
use Rattle.hlc_explain.proofs.Frontiers.{last_of_more}
use Rattle.hlc_explain.proofs.frontier.greatest.Goals as goal
use Rattle.hlc_explain.proofs.frontier.greatest.Goals.{then-greatest-end, else-greatest-end}

greater : (all before end last : ℕ) → all ≡ max before end → last ≡ before → last < end → end ≡ all
greater all before end last more is lt = grind (arith, more, is, lt)

no_greater : (all before end last : ℕ) → all ≡ max before end → last ≡ before → end ≤ last → last ≡ all
no_greater all before end last more is le = grind (arith, more, is, le)

pub loop-end-preserved : goal.loop-end-preserved
loop-end-preserved c =
    let ends : List ℕ = c.args.ends.now in
    let i : ℕ = c.loop-end.end-index in
    let next : i + 1 ≡ suc i = omega arith in
    let more : last_of (take (i + 1) ends) ≡ max (last_of (take i ends)) (get_or ends i 0) =
    ap (λ (k : ℕ). last_of (take k ends)) next ∙ last_of_more ends i (omega arith) in
    elim c.if-greatest-end.branch [
      | then-greatest-end w ↦ w.greatest-is ∙ greater _ _ _ _ more c.loop-end.invariant w.if-greatest-end.true
      | else-greatest-end w ↦ w.greatest-is ∙ no_greater _ _ _ _ more c.loop-end.invariant w.if-greatest-end.false
    ]

pub returns : goal.returns
returns c =
    let ends : List ℕ = c.args.ends.now in
    let all : c.loop-end.end-index ≡ length ends = omega arith in
    c.loop-end.invariant ∙ ap (λ (k : ℕ). last_of (take k ends)) all ∙ ap last_of (take-length ends)

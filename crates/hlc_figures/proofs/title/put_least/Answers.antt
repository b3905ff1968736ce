use Rattle.std.proofs.Common.{◌∙◌, ◌++◌, ℕ, ap, string_bytes}
use Rattle.std.proofs.lemmas.Result.{err_from_is_err_and, on_ok_weaker}
use Rattle.hlc_stamp.specs.Order.{Pair}
use Rattle.hlc_causality.specs.Assignment.{pair_at}
use Rattle.hlc_causality.specs.Causality.{SkeletonEvent, skeleton_at}
use Rattle.hlc_figures.specs.Title.{drift_text, least_text, stamp_begins}
use Rattle.hlc_svg.proofs.Added.{then_added}
use Rattle.hlc_figures.proofs.title.put_least.Goals as goal

pub returns : goal.returns
unfolding least_text
returns g c =
    let of = g.S.Subject.content c.args.subject.now in
    let e = c.args.event.0 in
    let p = pair_at of.stamps e in
    let kept = c.kept-kept in
    let reading = ap (λ (x : SkeletonEvent). x.reading) kept.ensures.event in
    let old = string_bytes c.args.text.now in
    let one = string_bytes c.put_stamp.new.text in
    let new = string_bytes c.put_drift.new.text in
    let begun = c.in_ok-put_stamp.ensures ∙ ap (λ (q : Pair). old ++ stamp_begins q) kept.ensures.stamp in
    on_ok_weaker c.put_drift.result (λ is.
    then_added old one new (stamp_begins p) (drift_text p.l (skeleton_at of.events e).reading) begun
    (is ∙ ap (λ (q : Pair). one ++ drift_text q.l kept.result.reading) kept.ensures.stamp
    ∙ ap (λ (n : ℕ). one ++ drift_text p.l n) reading)) c.put_drift.ensures

pub returns-in_err-put_stamp : goal.returns-in_err-put_stamp
returns-in_err-put_stamp g c = rw (err_from_is_err_and c.from_residual.result c.from_residual.ensures.1).1 tt

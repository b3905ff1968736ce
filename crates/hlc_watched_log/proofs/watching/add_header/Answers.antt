use Rattle.std.proofs.Common.{◌≡◌, [], arith, length, subst, sym}
use Rattle.hlc_watched_log.specs.Answered.{AreHeadersAfter}
use Rattle.hlc_watched_log.specs.Numbers.{with_number}
use Rattle.hlc_watched_log.proofs.Headers.{header_known, header_new}
use Rattle.hlc_watched_log.proofs.watching.add_header.Goals as goal

pub returns-in_ok-push : goal.returns-in_ok-push
returns-in_ok-push c items are =
    let headers = c.args.headers.now.items in
    let last : c.args.file ≡ length headers = omega (arith, c.if-file-len.true, c.len.ensures) in
    subst (AreHeadersAfter (with_number [] items c.args.file)) (sym c.in_ok-push.ensures.items) (header_new items headers are c.args.file c.new.result c.new.ensures last)

pub returns-else-file-len : goal.returns-else-file-len
returns-else-file-len c items are =
    header_known items c.args.headers.now.items are c.args.file (λ is. omega (arith, is, c.if-file-len.false, c.len.ensures))

use Rattle.std.proofs.Common.{ap, arith, length, refl}
use Rattle.hlc_watched_log.specs.Files.{KeptFiles}
use Rattle.hlc_watched_log.proofs.watched_log.LogWatch.new.Goals as goal

pub returns-clause-nothing : goal.returns-clause-nothing
returns-clause-nothing c =
    rw (c.in_ok-files.ensures, c.in_ok-watch.ensures, c.new-3.ensures, c.new-4.ensures, c.new-5.ensures.items, c.new-6.ensures.empty, c.new-7.ensures) refl

pub returns-clause-whole : goal.returns-clause-whole
returns-clause-whole c =
    let nodes = ap length c.new-3.ensures in
    let names = ap length c.new-4.ensures in
    let tallies = ap length c.new-5.ensures.items in
    let files = ap (λ (files : KeptFiles). length files.counted) c.in_ok-files.ensures in
    record { one_each = omega (arith, nodes, tallies); few = omega (arith, nodes); files = omega (arith, files, names) }

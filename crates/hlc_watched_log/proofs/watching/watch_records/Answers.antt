use Rattle.std.proofs.Common.{◌∙◌, Bool, subst, sym}
use Rattle.csv.specs.Records.{fields_of}
use Rattle.hlc_watched_log.specs.Watching.{IsWatched}
use Rattle.hlc_watched_log.specs.declared.outcome.WatchOutcome.{WatchOutcome}
use Rattle.hlc_watched_log.proofs.SoFar.{Reads, so_far-more, so_far-none, watched_to_end, watched_to_open, watched_whole}
use Rattle.hlc_watched_log.proofs.watching.watch_records.Goals as goal

pub loop-count-init : goal.loop-count-init
loop-count-init g c =
    so_far-none c.args.rules.now g.R.Read.remaining c.args.input.now c.args.headers.now.items c.args.log.now (g.W.Write.contents c.args.writer.now) c.requires.headers
    c.requires.one c.requires.nothing c.requires.whole

pub returns-in_default : goal.returns-in_default
returns-in_default g c bytes start =
    let at = g.W.Write.contents in
    let l = c.loop-count in
    subst (λ (o : WatchOutcome). IsWatched c.args.rules.now bytes (at c.args.writer.now) (at c.sum_up.new.writer) o) (sym c.ended_with.ensures)
    (watched_whole c.args.rules.now g.R.Read.remaining c.args.input.now l.input l.headers.items l.log (at c.args.writer.now) (at l.writer) l._count l.invariant
    (rw c.in_default.is at c.in_ok-found.ensures) (at c.sum_up.new.writer) c.in_ok-sum_up.ensures bytes start)

pub returns-then-found : goal.returns-then-found
returns-then-found g c bytes start =
    let at = g.W.Write.contents in
    let rem = g.R.Read.remaining in
    let l = c.loop-count in
    let new = c.next_record.new.input in
    let fields = fields_of c.next_record.new.fields in
    let line = c.in-Some.found.line in
    let reads = subst (λ (b : Bool). Reads c.args.rules.now rem c.args.input.now l.input l.headers.items l.log (at c.args.writer.now) (at l.writer) l._count l.invariant new fields line b)
    c.if-found.true (rw c.in-Some.is at c.in_ok-found.ensures) in
    watched_to_open c.args.rules.now rem c.args.input.now l.input l.headers.items l.log (at c.args.writer.now) (at l.writer) l._count l.invariant new fields line reads
    (at c.write_bad.new.writer) (rw c.move_to.ensures at c.in_ok-write_bad.ensures) bytes start

pub returns-then-is_some : goal.returns-then-is_some
returns-then-is_some g c bytes start =
    let at = g.W.Write.contents in
    let rem = g.R.Read.remaining in
    let l = c.loop-count in
    let new = c.next_record.new.input in
    let fields = fields_of c.next_record.new.fields in
    let line = c.in-Some.found.line in
    let reads = subst (λ (b : Bool). Reads c.args.rules.now rem c.args.input.now l.input l.headers.items l.log (at c.args.writer.now) (at l.writer) l._count l.invariant new fields line b)
    c.if-found.false (rw c.in-Some.is at c.in_ok-found.ensures) in
    watched_to_end c.args.rules.now rem c.args.input.now l.input l.headers.items l.log (at c.args.writer.now) (at l.writer) l._count l.invariant new fields line reads
    (at c.take_next.new.writer) c.take_next.new.headers.items c.take_next.new.log c.in_ok-ends.ends c.in_ok-ends.ensures.answers
    (sym c.is_some.ensures ∙ c.if-is_some.true) bytes start

pub loop-count-preserved : goal.loop-count-preserved
loop-count-preserved g c =
    let at = g.W.Write.contents in
    let rem = g.R.Read.remaining in
    let l = c.loop-count in
    let new = c.next_record.new.input in
    let fields = fields_of c.next_record.new.fields in
    let line = c.in-Some.found.line in
    let reads = subst (λ (b : Bool). Reads c.args.rules.now rem c.args.input.now l.input l.headers.items l.log (at c.args.writer.now) (at l.writer) l._count l.invariant new fields line b)
    c.if-found.false (rw c.in-Some.is at c.in_ok-found.ensures) in
    let e = c.in_ok-ends.ensures in
    so_far-more c.args.rules.now rem c.args.input.now l.input l.headers.items l.log (at c.args.writer.now) (at l.writer) l._count l.invariant new fields line reads
    (at c.take_next.new.writer) c.take_next.new.headers.items c.take_next.new.log c.in_ok-ends.ends e.answers e.whole e.counted

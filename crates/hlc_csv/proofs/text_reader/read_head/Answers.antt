use Rattle.std.proofs.Common.{◌∙◌, ◌+◌, ◌++◌, ◌∷◌, [], arith, ap, inl, inr, length, length-append, subst, sym}
use Rattle.std.specs.Io.KnownBytes.{Consumes}
use Rattle.hlc_csv.proofs.TextFacts.{consumes-more, consumes-none, consumes-start}
use Rattle.hlc_csv.proofs.text_reader.read_head.Goals as goal

pub loop-count-init : goal.loop-count-init
loop-count-init g c =
    let rem = g.R.Read.remaining in
    let none = c.in_ok-head.ensures.items in
    (subst (Consumes (rem c.args.reader.now) (rem c.args.reader.now)) (sym none) (consumes-start (rem c.args.reader.now)), ap length none)

pub returns-in-None : goal.returns-in-None
returns-in-None g c =
    let rem = g.R.Read.remaining in
    let read = rw c.in-None.is at c.in_ok-byte.ensures in
    let size = c.loop-count.invariant.1 in (
      consumes-none (rem c.args.reader.now) (rem c.loop-count.reader) (rem c.read_byte.new.reader) c.loop-count.head.items c.loop-count.invariant.0 read.0,
      inr (omega arith, read.1),
    )

pub loop-count-preserved : goal.loop-count-preserved
loop-count-preserved g c =
    let rem = g.R.Read.remaining in
    let read = rw c.in-Some.is at c.in_ok-byte.ensures in
    let size = c.loop-count.invariant.1 in
    let more = c.in_ok-extend_from_slice-in-Some.ensures.items in (
      subst (Consumes (rem c.args.reader.now) (rem c.read_byte.new.reader)) {x = c.loop-count.head.items ++ c.in-Some.byte ∷ []} (sym more)
          (consumes-more (rem c.args.reader.now) (rem c.loop-count.reader) (rem c.read_byte.new.reader) c.loop-count.head.items (c.in-Some.byte ∷ [])
          c.loop-count.invariant.0 read),
      ap length more ∙ length-append c.loop-count.head.items (c.in-Some.byte ∷ []) ∙ ap (λ n. n + 1) size,
    )

pub returns : goal.returns
returns g c =
    let size = c.loop-count.invariant.1 in
    (c.loop-count.invariant.0, inl (omega arith))

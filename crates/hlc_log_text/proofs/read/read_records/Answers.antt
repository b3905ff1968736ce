use Rattle.std.proofs.Common.{List, Option, ℕ, ◌≡◌, ◌<◌, ◌≤◌, arith, inl}
use Rattle.std.specs.Prelude.{OnOk, Result, Ok, Err}
use Rattle.csv.specs.Records.{fields_of}
use Rattle.hlc_stamp.specs.declared.limits.TheConstants.{MAX_CAPACITY}
use Rattle.hlc_csv.specs.declared.record_reader.RecordReader.{RecordReader}
use Rattle.hlc_log_text.specs.PartialLog.{HasFewNames}
use Rattle.hlc_log_text.specs.declared.fault.LogTextFault.{LogTextFault}
use Rattle.hlc_log_text.specs.declared.log_rules.LogRules.{LogRules}
use Rattle.hlc_log_text.specs.declared.partial_log.PartialLog.{PartialLog}
use Rattle.hlc_log_text.proofs.ReadFacts.{LogSoFar, has_place, has_too_many, is_read_to_end, is_read_up_to_bad, log_so_far-more, log_so_far-none}
use Rattle.hlc_log_text.proofs.read.read_records.Goals as goal

pub loop-count-init : goal.loop-count-init
loop-count-init g c = log_so_far-none c.args.rules g.R.Read.remaining c.args.input.now c.args.reading.now c.requires.none_yet c.requires.marks

pub returns-in_default-clause-read : goal.returns-in_default-clause-read
returns-in_default-clause-read g c bytes start =
    let within : c.loop-count._count ≤ c.args.most = omega arith in
    is_read_to_end c.args.rules g.R.Read.remaining c.args.input.now c.loop-count.input c.loop-count.reading c.loop-count._count c.loop-count.invariant
    c.read_record.new.self (fields_of c.read_record.new.fields) c.args.most bytes within start (rw c.in_default.is at c.in_ok-found.ensures)
    c.end.result c.end.ensures

pub take-requires-clause-place : goal.take-requires-clause-place
take-requires-clause-place g c =
    let below : c.loop-count._count < MAX_CAPACITY = omega arith in
    has_place c.args.rules g.R.Read.remaining c.args.input.now c.loop-count.input c.loop-count.reading c.loop-count._count c.loop-count.invariant below

pub returns-in-Some-2-clause-read : goal.returns-in-Some-2-clause-read
returns-in-Some-2-clause-read g c bytes start =
    let below : c.loop-count._count < c.args.most = omega arith in
    let h = c.loop-count.invariant in
    let takes = rw c.in-Some-2.is at c.in_ok-bad.ensures.taken in
    inl (is_read_up_to_bad c.args.rules g.R.Read.remaining c.args.input.now c.loop-count.input c.loop-count.reading c.loop-count._count h
    c.read_record.new.self (fields_of c.read_record.new.fields) c.in-Some.found (rw c.in-Some.is at c.in_ok-found.ensures) c.args.most bytes
    c.take.new.self c.in-Some-2.bad c.in_ok-told_with.field-0.items below start (takes h.items _ h.reading) c.in_ok-told_with.ensures)

pub loop-count-preserved : goal.loop-count-preserved
loop-count-preserved g c =
    let h = c.loop-count.invariant in
    let takes = rw c.in_default-2.is at c.in_ok-bad.ensures.taken in
    log_so_far-more c.args.rules g.R.Read.remaining c.args.input.now c.loop-count.input c.loop-count.reading c.loop-count._count h
    c.read_record.new.self (fields_of c.read_record.new.fields) c.in-Some.found (rw c.in-Some.is at c.in_ok-found.ensures)
    c.take.new.self (takes h.items _ h.reading) c.take.ensures.marks

pub returns-in-None-clause-read : goal.returns-in-None-clause-read
returns-in-None-clause-read g c bytes start =
    let within : c.loop-count._count ≤ c.args.most = omega arith in
    is_read_to_end c.args.rules g.R.Read.remaining c.args.input.now c.loop-count.input c.loop-count.reading c.loop-count._count c.loop-count.invariant
    c.read_record-2.new.self (fields_of c.read_record-2.new.fields) c.args.most bytes within start (rw c.in-None.is at c.in_ok-read_record.ensures)
    c.end-in-None.result c.end-in-None.ensures

pub returns-in-Some-3-clause-read : goal.returns-in-Some-3-clause-read
returns-in-Some-3-clause-read g c bytes start =
    let full : c.loop-count._count ≡ c.args.most = omega arith in
    has_too_many c.args.rules g.R.Read.remaining c.args.input.now c.loop-count.input c.loop-count.reading c.loop-count._count c.loop-count.invariant
    c.read_record-2.new.self (fields_of c.read_record-2.new.fields) c.in-Some-3.field-0 (rw c.in-Some-3.is at c.in_ok-read_record.ensures) c.args.most bytes full start

few : {R : Type 0} (rules : LogRules) (rem : R → Option (List ℕ)) (initial input : RecordReader R) (now : PartialLog) (count : ℕ)
    → LogSoFar rules rem initial input now count → HasFewNames now
few rules rem initial input now count h = record { few_nodes = h.reading.held.log.few_nodes; few_messages = h.reading.held.log.few_messages }

on_ok : {U : Type 0} (ended : Result U LogTextFault) (P : Type 0) → P → OnOk ended P
on_ok (Ok done) P p = p
on_ok (Err fault) P p = tt

pub returns-in_default-clause-few : goal.returns-in_default-clause-few
returns-in_default-clause-few g c =
    on_ok c.end.result _ (few c.args.rules g.R.Read.remaining c.args.input.now c.loop-count.input c.loop-count.reading c.loop-count._count c.loop-count.invariant)

pub returns-in-None-clause-few : goal.returns-in-None-clause-few
returns-in-None-clause-few g c =
    on_ok c.end-in-None.result _ (few c.args.rules g.R.Read.remaining c.args.input.now c.loop-count.input c.loop-count.reading c.loop-count._count c.loop-count.invariant)

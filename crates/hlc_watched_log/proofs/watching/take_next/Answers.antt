use Rattle.std.proofs.Common.{◌≡◌, ◌∙◌, ap, arith, length}
use Rattle.std.proofs.lemmas.Result.{IfOk-weaker}
use Rattle.csv.specs.Records.{fields_of}
use Rattle.hlc_watched_log.specs.Watched.{WatchedLog}
use Rattle.hlc_watched_log.proofs.Answered.{record_answered}
use Rattle.hlc_watched_log.proofs.watching.take_next.Goals as goal

pub read_told-requires : goal.read_told-requires
read_told-requires g c =
    let same : length c.move_to.new.self.files.counted ≡ length c.args.log.now.files.counted =
    ap (λ (l : WatchedLog). length l.files.counted) c.move_to.ensures in
    omega (arith, same, c.file-file.ensures.within, c.requires.headers)

pub returns-clause-answers : goal.returns-clause-answers
returns-clause-answers g c =
    let at = g.W.Write.contents in
    let file = c.file-file.ensures.file ∙ ap (λ (l : WatchedLog). l.files.current) c.move_to.ensures in
    IfOk-weaker c.take.result _ _ (λ ends takes items are.
    record_answered c.args.rules.now items c.args.log.now (fields_of c.args.fields.now) c.args.line (at c.args.writer.now) (at c.take.new.writer)
    c.read_told.new.headers.items c.take.new.self c.args.headers.now.items are c.file-file.result (fields_of c.read_told.new.placed) c.in_ok-told.told ends
    (rw c.in_default.is at c.begun_file.ensures) file c.in_ok-told.ensures.said takes)
    (rw c.move_to.ensures at c.take.ensures.taken)

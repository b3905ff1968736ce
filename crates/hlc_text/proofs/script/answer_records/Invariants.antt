use Rattle.std.proofs.Common.{◌≡◌, [], List, Option, ℕ}
use Rattle.hlc_csv.specs.Records.{HasRead, IsScript}
use Rattle.hlc_text.proofs.RunFacts.{SoFar}
use Rattle.hlc_text.proofs.script.answer_records.Given as goal

abbrev pub invariant-loop-count : goal.invariant-loop-count
invariant-loop-count g l =
    IsScript l.input × (l.session.answers.records ≡ l._count)
    × ((bytes : Option (List ℕ)) → HasRead g.R.Read.remaining l.initial.input bytes [] →
    SoFar g.R.Read.remaining l.input bytes l.initial.session (g.W.Write.contents l.initial.writer) (g.W.Write.contents l.writer)
    l.session l._count)

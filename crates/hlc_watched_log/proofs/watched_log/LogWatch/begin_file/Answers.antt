use Rattle.std.proofs.Common.{◌∙◌, ◌+◌, List, ℕ, ap, length, subst, sym}
use Rattle.hlc_watched_log.specs.Files.{KeptFiles, marked_at}
use Rattle.hlc_watched_log.specs.Taken.{IsWhole}
use Rattle.hlc_watched_log.proofs.NameNumbers.{marked-whole}
use Rattle.hlc_watched_log.proofs.watched_log.LogWatch.begin_file.Goals as goal

pub returns-clause-whole : goal.returns-clause-whole
returns-clause-whole c =
    let inside = c.self.inside in
    let line = c.args.line in
    let whole = subst IsWhole (sym c.self.view_is) c.requires.whole in
    record {
      one_each = whole.one_each;
      few = whole.few;
      files =
          ap (λ (files : KeptFiles). length files.counted) c.in_ok-begin.ensures
          ∙ ap (λ (n : ℕ). length (marked_at inside.files (n + 1) line).counted) c.name_number.ensures
          ∙ marked-whole inside.names.files c.args.name.now inside.files line whole.files
          ∙ sym (ap (λ (names : List (List ℕ)). length names + 1) c.in_ok-mention.ensures.names);
    }

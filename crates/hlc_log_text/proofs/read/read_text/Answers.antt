use Rattle.std.proofs.Common.{subst, sym}
use Rattle.hlc_log_text.specs.ReadLog.{IsReadWhole}
use Rattle.hlc_log_text.proofs.SoundTexts.{sound_text}
use Rattle.hlc_log_text.proofs.read.read_text.Goals as goal

pub into_text-requires-clause-sound : goal.into_text-requires-clause-sound
into_text-requires-clause-sound g c =
    let begun = c.requires.begun in
    sound_text c.args.rules c.args.most begun.0 _ c.requires.most (c.in_ok-nodes.ensures.read begun.0 begun.1)

pub returns : goal.returns
returns g c bytes start = subst (IsReadWhole c.args.rules c.args.most bytes) (sym c.into_text.ensures) (c.in_ok-nodes.ensures.read bytes start)

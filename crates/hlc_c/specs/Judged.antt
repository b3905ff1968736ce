-- What C keeps of events that were judged.
use Rattle.hlc_verdict.specs.declared.judged.Judged.{Judged}
use Rattle.hlc_c.specs.declared.judged.CJudged.{CJudged}
use Rattle.hlc_c.specs.Stamp.{pair_of}

-- what C means by it
abbrev pub judged_from_c : CJudged → Judged
judged_from_c given = record { event = record { 0 = given.event }; claimed = pair_of given.claimed; least = pair_of given.least }

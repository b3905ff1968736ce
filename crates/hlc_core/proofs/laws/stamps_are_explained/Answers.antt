use Rattle.hlc_core.proofs.Promise.{stamps_are_explained}
use Rattle.hlc_core.proofs.laws.stamps_are_explained.Goals as goal

pub returns : goal.returns
returns c = stamps_are_explained

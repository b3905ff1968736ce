use Rattle.hlc_picture.proofs.Histories.{histories_have_their_chains, histories_have_their_forcing}
use Rattle.hlc_picture.proofs.laws.histories_have_their_chains.Goals as goal

pub returns : goal.returns
returns c = record { forcing = histories_have_their_forcing; chain = histories_have_their_chains }

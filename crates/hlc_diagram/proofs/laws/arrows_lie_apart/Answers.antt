use Rattle.hlc_diagram.proofs.LyingApart.{border_arrows_turn_in_rows, own_arrows_lie_apart, own_crosses_lie_apart}
use Rattle.hlc_diagram.proofs.laws.arrows_lie_apart.Goals as goal

pub returns : goal.returns
returns c = record { own = own_arrows_lie_apart; own_crosses = own_crosses_lie_apart; rows = border_arrows_turn_in_rows }

use Rattle.hlc_diagram.proofs.Apart.{arrows_keep_clear, border_arrows_keep_clear, lanes_are_apart}
use Rattle.hlc_diagram.proofs.laws.arrows_keep_clear_of_dots.Goals as goal

pub returns : goal.returns
returns c = record { between_dots = arrows_keep_clear; at_borders = border_arrows_keep_clear; lanes = lanes_are_apart }

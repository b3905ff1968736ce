-- The legend.
use Rattle.std.proofs.Common.{◌≡◌, refl}
use Rattle.hlc_log_picture.specs.Legend.{legend_text}
use Rattle.hlc_log_picture.specs.declared.cells.TheConstants.{LEGEND}

pub legend_is : LEGEND.now ≡ legend_text
unfolding legend_text
legend_is = refl

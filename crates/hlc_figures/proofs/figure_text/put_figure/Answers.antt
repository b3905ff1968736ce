use Rattle.hlc_figures.specs.FigureText.{back_text}
use Rattle.hlc_figures.proofs.figure_text.put_figure.Goals as goal

pub returns-in-Back : goal.returns-in-Back
unfolding back_text
returns-in-Back g c = rw (c.in-Back.is, ← c.band.ensures) c.put_band.ensures

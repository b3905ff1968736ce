use Rattle.hlc_svg.proofs.CutLabels.{cut_labels_are_harmless, cut_labels_fit, ends_are_ends, fitting_labels_are_whole}
use Rattle.hlc_svg.proofs.laws.labels_are_cut_in_the_middle.Goals as goal

pub returns : goal.returns
returns c = record { fit = cut_labels_fit; whole = fitting_labels_are_whole; ends = ends_are_ends; harmless = cut_labels_are_harmless }

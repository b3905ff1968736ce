use Rattle.hlc_diagram.proofs.Drawn.{dots_are_of_events, each_event_has_one_dot, no_two_dots_in_one_place, time_runs_down, titles_are_of_the_dots}
use Rattle.hlc_diagram.proofs.laws.dots_are_the_events.Goals as goal

pub returns : goal.returns
returns c = record {
  one = each_event_has_one_dot;
  only = dots_are_of_events;
  down = time_runs_down;
  apart = no_two_dots_in_one_place;
  titles = titles_are_of_the_dots;
}

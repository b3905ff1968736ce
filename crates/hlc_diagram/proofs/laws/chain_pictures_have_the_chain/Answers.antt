use Rattle.hlc_diagram.proofs.ChainDrawn.{chain_arrows_keep_clear, chain_dots_stand_on_lanes, chain_lanes_are_of_dots, chain_titles_are_of_the_dots, dots_are_the_chain, gaps_count_what_lies_between}
use Rattle.hlc_diagram.proofs.laws.chain_pictures_have_the_chain.Goals as goal

pub returns : goal.returns
returns c = record {
  dots = dots_are_the_chain;
  gaps = gaps_count_what_lies_between;
  clear = chain_arrows_keep_clear;
  lanes = chain_lanes_are_of_dots;
  stand = chain_dots_stand_on_lanes;
  titles = chain_titles_are_of_the_dots;
}

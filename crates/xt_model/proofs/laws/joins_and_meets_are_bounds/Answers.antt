use Rattle.xt_model.proofs.WindowLaws.{within_join_left, within_join_right, join_is_least, meet_within_left, meet_within_right, meet_is_greatest}
use Rattle.xt_model.proofs.laws.joins_and_meets_are_bounds.Goals as goal

pub returns : goal.returns
returns c = record {
  join_left = within_join_left;
  join_right = within_join_right;
  join_least = join_is_least;
  meet_left = meet_within_left;
  meet_right = meet_within_right;
  meet_greatest = meet_is_greatest;
}

use Rattle.global_model.proofs.Paths.{facts_rooted, facts_near, path_same, path_on, hop_toward, toward_near, toward_nearer, toward_sides, toward_stays, far_stays, path_living}
use Rattle.global_model.proofs.Roads.{path_is, path_only, above_parent, above_zero}
use Rattle.global_model.proofs.laws.trees_have_paths.Goals as goal

pub returns : goal.returns
returns c = record {
  rooted = facts_rooted;
  near = facts_near;
  same = path_same;
  hops = path_on;
  path = path_is;
  one = path_only;
  toward = hop_toward;
  beside = toward_near;
  nearer = toward_nearer;
  sides = toward_sides;
  stays = toward_stays;
  far = far_stays;
  lives = path_living;
  above = above_parent;
  host = above_zero;
}

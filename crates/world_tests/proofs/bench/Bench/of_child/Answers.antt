use Rattle.std.proofs.Common.{ap, sym, subst}
use Rattle.xm_num.specs.Rows.{put}
use Rattle.enclave_node.specs.Nodes.{NodeView}
use Rattle.enclave_rules.specs.Core.{AreDeaths}
use Rattle.world_tests.proofs.Births.{no_blocks, no_deaths}
use Rattle.world_tests.proofs.bench.Bench.of_child.Goals as goal

-- the one channel that is open at a birth is the parent's
pub of-requires-clause-feeds : goal.of-requires-clause-feeds
unfolding put
of-requires-clause-feeds c = λ c'. ap (λ (n : NodeView). n.feeds) c'.in-Ok.ensures.made

pub boot-requires-clause-blocks : goal.boot-requires-clause-blocks
boot-requires-clause-blocks g c = no_blocks

pub boot-requires-clause-heard : goal.boot-requires-clause-heard
boot-requires-clause-heard g c = subst AreDeaths (sym c.new-heard.ensures) no_deaths

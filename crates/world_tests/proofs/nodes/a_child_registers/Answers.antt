use Rattle.std.proofs.Common.{sym, subst}
use Rattle.enclave_rules.specs.Core.{AreDeaths}
use Rattle.world_tests.proofs.Births.{two_blocks, two_deaths}
use Rattle.world_tests.proofs.nodes.a_child_registers.Goals as goal

pub boot-requires-clause-blocks : goal.boot-requires-clause-blocks
boot-requires-clause-blocks g c = two_blocks

pub boot-requires-clause-heard : goal.boot-requires-clause-heard
boot-requires-clause-heard g c = subst AreDeaths (sym c.in_ok-heard.ensures) two_deaths

use Rattle.enclave_node.proofs.PoolLemmas.{lent_are_blocks}
use Rattle.enclave_node.proofs.host.HostPart.lend.Goals as goal
use Rattle.enclave_node.proofs.host.HostPart.lend.Goals.{in-Ok, in-Err}

pub returns-clause-ascend : goal.returns-clause-ascend
returns-clause-ascend c =
    let ascend = lent_are_blocks c.args.n c.self.inside.pool c.in_ok-blocks.blocks c.in_ok-blocks.ensures.blocks c.in_ok-blocks.ensures.range in
    elim c.match-push.branch [
      | in-Ok w ↦ rw w.result-is ascend
      | in-Err w ↦ rw w.result-is tt
    ]

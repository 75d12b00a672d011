-- A node with five neighbours.
use Rattle.std.specs.Prelude.{IsSome}
use Rattle.xm_num.specs.Rows.{at}
use Rattle.enclave_node.specs.Nodes.{NodeView}

-- the channels from the enclaves 1, 2, 5, 6 and 7 are open
pub record IsOpen (n : NodeView) : Type 0 where
  pub one : IsSome (at n.feeds 1)
  pub two : IsSome (at n.feeds 2)
  pub five : IsSome (at n.feeds 5)
  pub six : IsSome (at n.feeds 6)
  pub seven : IsSome (at n.feeds 7)

use Rattle.enclave_node.proofs.BirthLemmas.{child_made}
use Rattle.enclave_node.proofs.node.Node.boot.Goals as goal

pub returns-clause-made : goal.returns-clause-made
returns-clause-made g c =
    child_made c.made.result c.args.me c.args.kind c.args.parent c.args.blocks.now c.args.holder c.args.heard.now c.in_ok-birth.birth c.in_ok-feeds.feeds c.in_ok-fresh.fresh
    c.requires.me.0 c.requires.heard c.in_ok-birth.ensures c.in_ok-feeds.ensures c.in_ok-fresh.ensures c.made.ensures.node

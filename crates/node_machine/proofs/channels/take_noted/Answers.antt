use Rattle.std.proofs.Common.{arith}
use Rattle.node_machine.proofs.IndexLemmas.{noted_taken}
use Rattle.node_machine.proofs.channels.take_noted.Goals as goal

pub returns-else-waiting-eq0-clause-noted : goal.returns-else-waiting-eq0-clause-noted
returns-else-waiting-eq0-clause-noted c =
    noted_taken c.laws.ensures c.args.waiting.now.keys c.args.number c.args.count c.args.link.now c.take_bytes.new.link c.requires.noted c.in_ok-take_bytes.ensures.rest (omega arith)

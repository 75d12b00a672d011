use Rattle.std.proofs.Common.{sym}
use Rattle.node_machine.proofs.DeliveryLemmas.{take_up, take_down}
use Rattle.node_machine.proofs.machine.Machine.deliver.Goals as goal

pub take-requires-clause-flows : goal.take-requires-clause-flows
take-requires-clause-flows c = (take_up c.args.self.now c.args.from c.args.to c.in-Up.i c.requires.ready (sym c.in-Up.ensures.hop)).flows

pub take-requires-clause-open_end : goal.take-requires-clause-open_end
take-requires-clause-open_end c = (take_up c.args.self.now c.args.from c.args.to c.in-Up.i c.requires.ready (sym c.in-Up.ensures.hop)).open_end

pub take-requires-in-Down-clause-flows : goal.take-requires-in-Down-clause-flows
take-requires-in-Down-clause-flows c = (take_down c.args.self.now c.args.from c.args.to c.in-Down.i c.requires.ready (sym c.in-Down.ensures.hop)).0.flows

pub take-requires-in-Down-clause-open_end : goal.take-requires-in-Down-clause-open_end
take-requires-in-Down-clause-open_end c = (take_down c.args.self.now c.args.from c.args.to c.in-Down.i c.requires.ready (sym c.in-Down.ensures.hop)).0.open_end

pub take-requires-in-Down-clause-side : goal.take-requires-in-Down-clause-side
take-requires-in-Down-clause-side c = (take_down c.args.self.now c.args.from c.args.to c.in-Down.i c.requires.ready (sym c.in-Down.ensures.hop)).1

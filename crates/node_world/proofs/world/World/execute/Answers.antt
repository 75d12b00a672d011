use Rattle.std.proofs.Common.{Ok, ap, ◌∙◌}
use Rattle.node_world.proofs.Histories.{cut_first, cut_later, whole_journal, ready_now, can_now, valid_now, lines_now, history_now, along_begun, hand_begun, settle_lines, history_settled}
use Rattle.node_world.proofs.Steps.{no_settle}
use Rattle.node_world.proofs.world.World.execute.Goals as goal

pub returns-in-Some-clause-cut : goal.returns-in-Some-clause-cut
returns-in-Some-clause-cut c which is =
    let stop = c.write_line.ensures.stopped which (c.in_ok-which.was ∙ ap Ok c.in-Some.is ∙ is) in
    cut_first c.laws.ensures _ _ c.requires.history c.args.command.now c.requires.place c.requires.range which _ stop

-- ---- a settle

pub settle-requires-clause-along : goal.settle-requires-clause-along
settle-requires-clause-along c =
    let begun = c.write_line.ensures.written (c.in_ok-which.was ∙ ap Ok c.in_default.is) in
    along_begun c.laws.ensures _ _ c.requires.history c.args.command.now c.requires.place c.requires.range _ begun _ c.write_line.ensures.machine c.in-Settle.most c.in-Settle.is

pub settle-requires-clause-hand : goal.settle-requires-clause-hand
settle-requires-clause-hand c =
    let begun = c.write_line.ensures.written (c.in_ok-which.was ∙ ap Ok c.in_default.is) in
    hand_begun c.laws.ensures _ _ c.requires.history c.args.command.now c.requires.place c.requires.range _ begun _ c.write_line.ensures.machine c.in-Settle.most c.in-Settle.is

pub returns-in-Settle-clause-journal : goal.returns-in-Settle-clause-journal
returns-in-Settle-clause-journal c is =
    let begun = c.write_line.ensures.written (c.in_ok-which.was ∙ ap Ok c.in_default.is) in
    let rules = settle_lines c.laws.ensures _ _ c.requires.history c.args.command.now c.requires.place c.requires.range _ begun _ c.write_line.ensures.machine c.in-Settle.most c.in-Settle.is in
    whole_journal c.laws.ensures _ _ c.requires.history c.args.command.now c.requires.place c.requires.range _ begun _ _ rules (c.settle.ensures.written is)

pub returns-in-Settle-clause-history : goal.returns-in-Settle-clause-history
returns-in-Settle-clause-history c is =
    let begun = c.write_line.ensures.written (c.in_ok-which.was ∙ ap Ok c.in_default.is) in
    history_settled c.laws.ensures _ _ c.requires.history c.args.command.now c.requires.place c.requires.range _ begun _ c.write_line.ensures.machine c.in-Settle.most c.in-Settle.is _ _
    (c.settle.ensures.written is) (c.settle.ensures.along is)

pub returns-in-Settle-clause-cut : goal.returns-in-Settle-clause-cut
returns-in-Settle-clause-cut c which is =
    let begun = c.write_line.ensures.written (c.in_ok-which.was ∙ ap Ok c.in_default.is) in
    let rules = settle_lines c.laws.ensures _ _ c.requires.history c.args.command.now c.requires.place c.requires.range _ begun _ c.write_line.ensures.machine c.in-Settle.most c.in-Settle.is in
    cut_later c.laws.ensures _ _ c.requires.history c.args.command.now c.requires.place c.requires.range _ begun which _ _ rules (c.settle.ensures.stopped which is)

-- ---- a step of the machine

pub run-requires-clause-ready : goal.run-requires-clause-ready
run-requires-clause-ready c =
    let begun = c.write_line.ensures.written (c.in_ok-which.was ∙ ap Ok c.in_default.is) in
    let quiet = no_settle c.args.command.now c.in_default-command.not-Settle in
    ready_now c.laws.ensures _ _ c.requires.history c.args.command.now c.requires.place c.requires.range _ begun _ c.write_line.ensures.machine quiet

pub run-requires-clause-can : goal.run-requires-clause-can
run-requires-clause-can c =
    let begun = c.write_line.ensures.written (c.in_ok-which.was ∙ ap Ok c.in_default.is) in
    let quiet = no_settle c.args.command.now c.in_default-command.not-Settle in
    can_now c.laws.ensures _ _ c.requires.history c.args.command.now c.requires.place c.requires.range _ begun _ c.write_line.ensures.machine quiet

pub run-requires-clause-valid : goal.run-requires-clause-valid
run-requires-clause-valid c =
    let begun = c.write_line.ensures.written (c.in_ok-which.was ∙ ap Ok c.in_default.is) in
    let quiet = no_settle c.args.command.now c.in_default-command.not-Settle in
    valid_now c.laws.ensures _ _ c.requires.history c.args.command.now c.requires.place c.requires.range _ begun _ c.write_line.ensures.machine quiet

pub returns-in_default-command-clause-journal : goal.returns-in_default-command-clause-journal
returns-in_default-command-clause-journal c is =
    let begun = c.write_line.ensures.written (c.in_ok-which.was ∙ ap Ok c.in_default.is) in
    let quiet = no_settle c.args.command.now c.in_default-command.not-Settle in
    let rules = lines_now c.laws.ensures _ _ c.requires.history c.args.command.now c.requires.place c.requires.range _ begun _ c.write_line.ensures.machine quiet in
    whole_journal c.laws.ensures _ _ c.requires.history c.args.command.now c.requires.place c.requires.range _ begun _ _ rules (c.run.ensures.written is)

pub returns-in_default-command-clause-history : goal.returns-in_default-command-clause-history
returns-in_default-command-clause-history c is =
    let begun = c.write_line.ensures.written (c.in_ok-which.was ∙ ap Ok c.in_default.is) in
    let quiet = no_settle c.args.command.now c.in_default-command.not-Settle in
    history_now c.laws.ensures _ _ c.requires.history c.args.command.now c.requires.place c.requires.range _ begun _ c.write_line.ensures.machine quiet _ _
    (c.run.ensures.machine is) (c.run.ensures.written is) (c.run.ensures.short is).words

pub returns-in_default-command-clause-cut : goal.returns-in_default-command-clause-cut
returns-in_default-command-clause-cut c which is =
    let begun = c.write_line.ensures.written (c.in_ok-which.was ∙ ap Ok c.in_default.is) in
    let quiet = no_settle c.args.command.now c.in_default-command.not-Settle in
    let rules = lines_now c.laws.ensures _ _ c.requires.history c.args.command.now c.requires.place c.requires.range _ begun _ c.write_line.ensures.machine quiet in
    cut_later c.laws.ensures _ _ c.requires.history c.args.command.now c.requires.place c.requires.range _ begun which _ _ rules (c.run.ensures.stopped which is)

use Rattle.std.proofs.Common.{sym, ◌∙◌, ◌++◌}
use Rattle.enclave_rules.specs.Steps.{lines_of_records}
use Rattle.enclave_node.proofs.ReceiveLemmas.{first_is, has_given, more_lines, more_view}
use Rattle.enclave_node.proofs.state.State.take_all.Goals as goal

pub loop-rec-preserved : goal.loop-rec-preserved
loop-rec-preserved g c =
    let v = c.loop-rec.self in
    let w = c.take.new.self in
    let r = c.in-Some.rec in
    let all = c.loop-rec.feed.records in
    let rs = c.next.new.self.records in
    let all_lines = c.args.out.now ++ lines_of_records c.args.self.now c.args.from c.args.feed.now.records in
    let first = first_is all r (sym c.in-Some.is ∙ c.in_ok-rec.ensures.first) in
    let gave = has_given c.loop-rec.feed c.next.new.self c.in_ok-rec.ensures.later in
    record {
      lines = more_lines v w c.args.from r all rs c.loop-rec.out c.take.new.out all_lines first gave.later c.in_ok-take.ensures.after c.in_ok-take.ensures.lines c.loop-rec.invariant.lines;
      view = more_view v w c.args.from r all rs first gave.later c.in_ok-take.ensures.after ∙ c.loop-rec.invariant.view;
      feed = gave.rest ∙ c.loop-rec.invariant.feed;
    }

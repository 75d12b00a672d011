use Rattle.std.proofs.Common.{◌++◌, length, ap, ◌∙◌}
use Rattle.enclave_node.specs.Estates.{unused_of}
use Rattle.enclave_node.proofs.GiveLemmas.{moved_ok, they_reach, they_are_few, reached_lines, short_lines, reached_view, short_view}
use Rattle.enclave_node.proofs.TiedLemmas.{no_ok}
use Rattle.enclave_node.proofs.state.State.give.Goals as goal
use Rattle.enclave_node.proofs.state.State.give.Goals.{in-Ok, in-Err-NoFrames, in-Err-Memory}

pub returns-clause-lines : goal.returns-clause-lines
returns-clause-lines g c =
    let enough = length (unused_of c.self.inside.memory) in
    elim c.match-give.branch [
      | in-Ok w ↦
          moved_ok c.match-give.result w.push.result _ _ w.result-is
          (λ is. w.out-is ∙ is ∙ ap (λ journal. c.args.out.now ++ journal)
          (reached_lines _ c.args.self.now c.args.pid c.args.at c.args.n w.in-Ok.frames c.self.view_is w.in-Ok.ensures.frames
          (they_reach c.give.result w.in-Ok.frames enough c.args.n w.in-Ok.is c.give.ensures.short)))
          w.push.ensures.ok
      | in-Err-NoFrames w ↦
          moved_ok c.match-give.result w.refuse.result _ _ w.result-is
          (λ is. w.out-is ∙ is ∙ ap (λ journal. c.args.out.now ++ journal)
          (short_lines _ c.args.self.now c.args.pid c.args.at c.args.n c.self.view_is
          (they_are_few c.give.result w.in-Err-NoFrames.field-0 enough c.args.n w.in-Err-NoFrames.is w.in-Err-NoFrames.field-0-is c.give.ensures.short)))
          w.refuse.ensures
      | in-Err-Memory w ↦ no_ok c.match-give.result _ _ w.result-is
    ]

pub returns-clause-after : goal.returns-clause-after
returns-clause-after g c =
    let enough = length (unused_of c.self.inside.memory) in
    elim c.match-give.branch [
      | in-Ok w ↦
          moved_ok c.match-give.result w.push.result _ _ w.result-is
          (λ is hand. reached_view _ c.args.self.now c.args.pid c.args.at c.args.n c.give.new.self hand c.self.view_is w.in-Ok.ensures.after
          (they_reach c.give.result w.in-Ok.frames enough c.args.n w.in-Ok.is c.give.ensures.short))
          w.push.ensures.ok
      | in-Err-NoFrames w ↦
          moved_ok c.match-give.result w.refuse.result _ _ w.result-is
          (λ is hand. short_view _ c.args.self.now c.args.pid c.args.at c.args.n c.give.new.self hand c.self.view_is w.in-Err-NoFrames.ensures.err
          (they_are_few c.give.result w.in-Err-NoFrames.field-0 enough c.args.n w.in-Err-NoFrames.is w.in-Err-NoFrames.field-0-is c.give.ensures.short))
          w.refuse.ensures
      | in-Err-Memory w ↦ no_ok c.match-give.result _ _ w.result-is
    ]

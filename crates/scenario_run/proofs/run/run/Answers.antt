use Rattle.std.proofs.Common.{◌≡◌, ◌∙◌, None, Ok, sym, ap, arith}
use Rattle.std.proofs.lemmas.Bool.{eqb-true}
use Rattle.std.proofs.lemmas.List.{nil_from_length}
use Rattle.scenario_run.proofs.RunLemmas.{next_command, next_placed, said_found, so_far-comment, so_far-command, leaves_judged, leaves_ok, leaves_fault}
use Rattle.scenario_run.proofs.run.run.Goals as goal
use Rattle.scenario_run.proofs.run.run.Goals.{in-Some+in-Ok-execute, in_default}

pub returns-in-Err-clause-leaves : goal.returns-in-Err-clause-leaves
returns-in-Err-clause-leaves g c =
    leaves_judged c.laws.ensures _ _ _ _ _ _ c.first_line.result.1.now _ _ c.in-Err.status c.loop-rest.invariant.so_far c.first_line.ensures.lines (sym c.in-Err.is ∙ c.judge.ensures)

pub execute-requires-clause-place : goal.execute-requires-clause-place
execute-requires-clause-place g c =
    let said = said_found _ _ _ (sym c.in-Ok.is ∙ c.judge.ensures) ∙ ap Ok c.in-Some.is in
    (next_placed c.laws.ensures _ _ _ _ _ _ (next_command _ _ _ _ _ _ c.first_line.result.1.now _ _ _ c.loop-rest.invariant.so_far c.first_line.ensures.lines said)).0

pub execute-requires-clause-range : goal.execute-requires-clause-range
execute-requires-clause-range g c =
    let said = said_found _ _ _ (sym c.in-Ok.is ∙ c.judge.ensures) ∙ ap Ok c.in-Some.is in
    (next_placed c.laws.ensures _ _ _ _ _ _ (next_command _ _ _ _ _ _ c.first_line.result.1.now _ _ _ c.loop-rest.invariant.so_far c.first_line.ensures.lines said)).1

pub returns-in-Err-execute-clause-leaves : goal.returns-in-Err-execute-clause-leaves
returns-in-Err-execute-clause-leaves g c =
    let said = said_found _ _ _ (sym c.in-Ok.is ∙ c.judge.ensures) ∙ ap Ok c.in-Some.is in
    let next = next_command _ _ _ _ _ _ c.first_line.result.1.now _ _ _ c.loop-rest.invariant.so_far c.first_line.ensures.lines said in
    rw c.status_of.ensures (leaves_fault c.laws.ensures _ _ c.execute.new.world _ _ _ _ _ _ _ _ c.loop-rest.invariant.so_far next _ c.in-Err-execute.ensures.failed)

pub returns-clause-leaves : goal.returns-clause-leaves
returns-clause-leaves g c =
    leaves_ok c.laws.ensures _ _ _ _ _ _ _ c.loop-rest.invariant.so_far (nil_from_length _ (eqb-true _ _ (sym c.is_empty.ensures ∙ c.loop-rest-test.false)))

pub loop-rest-preserved : goal.loop-rest-preserved
loop-rest-preserved g c =
    let after = c.first_line.result.1.now in
    elim c.match-said.branch [
      | in_default w ↦
          let nothing : c.in-Ok.said ≡ None = search in
          record {
            so_far = rw (w.sink-is, w.world-is, w.before-is) (so_far-comment _ _ _ _ _ _ after _ _ c.loop-rest.invariant.so_far c.first_line.ensures.lines (said_found _ _ _ (sym c.in-Ok.is ∙ c.judge.ensures) ∙ ap Ok nothing));
            count = omega (arith, c.first_line.ensures.shorter, c.loop-rest.invariant.count);
            before = omega (arith, w.before-is, c.loop-rest.invariant.before);
            faults = rw w.sink-is c.loop-rest.invariant.faults;
          }
      | in-Some+in-Ok-execute w ↦
          let said = said_found _ _ _ (sym c.in-Ok.is ∙ c.judge.ensures) ∙ ap Ok w.in-Some.is in
          let next = next_command _ _ _ _ _ _ after _ _ _ c.loop-rest.invariant.so_far c.first_line.ensures.lines said in
          record {
            so_far = rw (w.sink-is, w.world-is, w.before-is) (so_far-command _ _ _ _ _ _ _ _ _ _ _ c.loop-rest.invariant.so_far next w.in-Ok-execute.ensures.going w.in-Ok-execute.ensures.commands w.in-Ok-execute.ensures.written);
            count = omega (arith, c.first_line.ensures.shorter, c.loop-rest.invariant.count);
            before = omega (arith, w.before-is, c.loop-rest.invariant.before);
            faults = rw w.sink-is (w.in-Ok-execute.ensures.kept ∙ c.loop-rest.invariant.faults);
          }
    ]

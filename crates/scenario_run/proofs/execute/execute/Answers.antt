use Rattle.std.proofs.Common.{Err, ap}
use Rattle.std.proofs.lemmas.Result.{IfErr-weaker, on_ok_weaker, err_from_is_err_and}
use Rattle.scenario_run.proofs.StepLemmas.{step_going, step_commands, step_writes, step_leaves, cut_length, cut_writes, cut_leaves}
use Rattle.scenario_run.proofs.execute.execute.Goals as goal

pub returns-in-Ok-clause-going : goal.returns-in-Ok-clause-going
returns-in-Ok-clause-going g c = on_ok_weaker c.write_from.result (λ _. step_going c.laws.ensures c.args.world.now c.step.new.self c.args.command.now c.in-Ok.ensures.ok c.in-Ok.ensures.short c.in-Ok.ensures.going.1) c.write_from.ensures.written

pub returns-in-Ok-clause-commands : goal.returns-in-Ok-clause-commands
returns-in-Ok-clause-commands g c = on_ok_weaker c.write_from.result (λ _. step_commands c.laws.ensures c.args.world.now c.step.new.self c.args.command.now c.in-Ok.ensures.ok) c.write_from.ensures.written

pub returns-in-Ok-clause-written : goal.returns-in-Ok-clause-written
returns-in-Ok-clause-written g c =
    let wrote = rw (c.len-before.ensures, c.journal.ensures, c.journal-in-Ok.ensures) at c.write_from.ensures.written in
    on_ok_weaker c.write_from.result (step_writes c.laws.ensures c.args.world.now c.step.new.self c.args.command.now _ _ c.requires.going c.in-Ok.ensures.ok) wrote

pub returns-in-Ok-clause-failed : goal.returns-in-Ok-clause-failed
returns-in-Ok-clause-failed g c =
    let left = rw (c.len-before.ensures, c.journal.ensures, c.journal-in-Ok.ensures) at c.write_from.ensures.failed in
    IfErr-weaker c.write_from.result _ _ (step_leaves c.laws.ensures c.args.world.now c.step.new.self c.args.command.now _ _ c.requires.going c.in-Ok.ensures.ok) left

pub write_from-requires-in-Err-Limit : goal.write_from-requires-in-Err-Limit
write_from-requires-in-Err-Limit g c =
    let cut = (c.in-Err-Limit.ensures.limit _ _ (ap Err c.in-Err-Limit.field-0-is)).3 c.requires.going.going in
    rw (c.len-before.ensures, c.journal.ensures, c.journal-in-Err-Limit.ensures) (cut_length c.args.world.now c.step.new.self _ c.args.command.now c.requires.going cut)

pub returns-in_err-write_from-in-Err-Limit-clause-failed :
    goal.returns-in_err-write_from-in-Err-Limit-clause-failed
returns-in_err-write_from-in-Err-Limit-clause-failed g c =
    let cut = (c.in-Err-Limit.ensures.limit _ _ (ap Err c.in-Err-Limit.field-0-is)).3 c.requires.going.going in
    let left = rw (c.len-before.ensures, c.journal.ensures, c.journal-in-Err-Limit.ensures) at c.in_err-write_from-in-Err-Limit.ensures.failed in
    let p = err_from_is_err_and c.from_residual.result c.from_residual.ensures.1 in
    rw (p.1, p.2) (cut_leaves c.args.world.now c.step.new.self _ c.args.command.now _ _ c.requires.going cut _ left)

pub returns-in_ok-write_from-in-Err-Limit-clause-failed :
    goal.returns-in_ok-write_from-in-Err-Limit-clause-failed
returns-in_ok-write_from-in-Err-Limit-clause-failed g c =
    let limit = c.in-Err-Limit.ensures.limit _ _ (ap Err c.in-Err-Limit.field-0-is) in
    let cut = limit.3 c.requires.going.going in
    let wrote = rw (c.len-before.ensures, c.journal.ensures, c.journal-in-Err-Limit.ensures) at c.in_ok-write_from-in-Err-Limit.ensures.written in
    record { limit = limit.0; most = limit.1; full = limit.2; cut = cut; wrote = cut_writes c.args.world.now c.step.new.self _ c.args.command.now _ _ c.requires.going cut wrote }

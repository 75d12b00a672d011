use Rattle.std.proofs.Common.{◌∙◌, ◌<◌, length, arith}
use Rattle.page_table.specs.Spaces.{page_of}
use Rattle.page_table.proofs.Runs.{front_back, front_more}
use Rattle.page_table.proofs.table.insert_all.Goals as goal

pub returns-in-Err-clause-err : goal.returns-in-Err-clause-err
returns-in-Err-clause-err c =
    c.remove_all.ensures.rows ∙ rw (c.in-Err.ensures.err, c.loop-i.invariant)
    (front_back c.row_laws.ensures (page_of c.args.access c.args.own) c.args.pages.now c.args.first c.loop-i.i c.args.frames.now c.requires.ascending c.requires.free (omega arith))

pub loop-i-preserved : goal.loop-i-preserved
loop-i-preserved c =
    let now = c.in_default.ensures.ok in
    let within : c.loop-i.i < length c.args.frames.now = omega arith in
    now ∙ rw c.loop-i.invariant (front_more c.row_laws.ensures (page_of c.args.access c.args.own) c.args.pages.now c.args.first c.loop-i.i c.args.frames.now _ within)

use Rattle.std.proofs.Common.{◌+◌, ◌≤◌, ◌^◌, map, length, sym}
use Rattle.std.proofs.lemmas.List.{length-map}
use Rattle.page_table.specs.Spaces.{page_of}
use Rattle.page_table.proofs.Runs.{run_back}
use Rattle.page_table.proofs.Within.{within_put_all}
use Rattle.page_table.proofs.Held.{held_put_all}
use Rattle.page_table.proofs.Hinted.{hints_put_all}
use Rattle.page_table.proofs.table.map_all.Goals as goal

pub returns-clause-back : goal.returns-clause-back
returns-clause-back c =
    rw c.in-Ok.ensures.ok
    (run_back c.table_laws.ensures.pages (page_of c.args.access c.args.own) c.args.pages.now c.args.first.0 c.args.frames.now c.lowest_in.ensures.ascending (sym c.in_default.ensures.lowest))

pub returns-clause-now_ascending : goal.returns-clause-now_ascending
returns-clause-now_ascending c =
    rw c.in-Ok.ensures.ok (c.table_laws.ensures.pages.put_all_ascends c.args.pages.now c.args.first.0 (map (page_of c.args.access c.args.own) c.args.frames.now) c.lowest_in.ensures.ascending)

pub returns-clause-now_within : goal.returns-clause-now_within
returns-clause-now_within c =
    let pages = map (page_of c.args.access c.args.own) c.args.frames.now in
    let high : c.args.first.0 + length pages ≤ 2 ^ 24 = rw (length-map c.args.frames.now (page_of c.args.access c.args.own)) c.requires.high in
    rw c.in-Ok.ensures.ok (within_put_all c.table_laws.ensures.pages c.args.pages.now c.args.first.0 pages c.requires.within c.requires.low high)

pub returns-clause-held : goal.returns-clause-held
returns-clause-held c out held =
    let pages = map (page_of c.args.access c.args.own) c.args.frames.now in
    let size = length-map c.args.frames.now (page_of c.args.access c.args.own) in
    rw c.in-Ok.ensures.ok (held_put_all c.table_laws.ensures.pages c.table_laws.ensures.rights c.args.pages.now out c.args.first.0 pages (rw size (sym c.in_default.ensures.lowest)) held)

pub returns-clause-hinted : goal.returns-clause-hinted
returns-clause-hinted c hints hinted =
    let pages = map (page_of c.args.access c.args.own) c.args.frames.now in
    let size = length-map c.args.frames.now (page_of c.args.access c.args.own) in
    rw c.in-Ok.ensures.ok (hints_put_all c.table_laws.ensures.pages c.args.pages.now hints c.args.first.0 pages (rw size (sym c.in_default.ensures.lowest)) hinted)

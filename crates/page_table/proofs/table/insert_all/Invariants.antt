use Rattle.std.proofs.Common.{◌≡◌, map, take}
use Rattle.xm_num.specs.Rows.{put_all}
use Rattle.page_table.specs.Spaces.{page_of}
use Rattle.page_table.proofs.table.insert_all.Given as goal

abbrev pub invariant-loop-i : goal.invariant-loop-i
invariant-loop-i l = l.pages ≡ put_all l.fn.pages l.first (map (page_of l.access l.own) (take l.i l.frames))

use Rattle.std.proofs.Common.{refl}
use Rattle.std.specs.Prelude.{IsSome}
use Rattle.xm_num.specs.Rows.{at}
use Rattle.page_table.specs.Spaces.{AreWithin}
use Rattle.page_table.proofs.Gaps.{is_start, starts_first}
use Rattle.page_table.proofs.rows.Rows.behind_last.Goals as goal

pub returns-in-Some : goal.returns-in-Some
unfolding at
returns-in-Some g c =
    let rows = c.self.inside.items.entries in
    let last = c.in-Some.last.now in
    let range = c.range.ensures.in_range tt in
    let entry = range.3 (last, c.in-Some.field-0-1.now) c.next_back.new.self c.in-Some.ensures.steps in
    let most = range.4 (last, c.in-Some.field-0-1.now) c.next_back.new.self c.in-Some.ensures.steps in
    let some : IsSome (at rows last) = rw entry.1 refl in
    let within : AreWithin rows = rw c.self.view_is c.requires in
    rw (← c.self.view_is) (is_start rows c.args.number last within some entry.0.1 (λ v below. most v (tt, below)))

pub returns-in-None : goal.returns-in-None
unfolding at
returns-in-None g c =
    let range = c.range.ensures.in_range tt in
    rw (← c.self.view_is) (starts_first c.self.inside.items.entries c.args.number (λ v below. range.5 c.in-None.ensures.steps.0 v (tt, below)))

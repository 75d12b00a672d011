use Rattle.std.proofs.Common.{◌-◌, ◌≤◌, ◌≡◌, ◌<◌, ◌^◌, ℕ}
use Rattle.std.specs.Prelude.{min, unwrap_or}
use Rattle.page_table.specs.Hints.{hint_of}
use Rattle.page_table.proofs.Hinted.{Unmaps, low_upto, hints_less_all}
use Rattle.page_table.proofs.table.unmap_all.Goals as goal

pub overflow_sub-high : goal.overflow_sub-high
overflow_sub-high c =
    let removed = c.remove_all.ensures in
    let unmaps : Unmaps c.row_laws.ensures c.args.pages.now c.remove_all.new.self c.args.first c.args.n c.behind_last-low.result c.next_from.result = record {
      gone = removed.rows;
      ascends = removed.was_ascending;
      sorted = removed.ascending;
      within = removed.within c.requires.was_within;
      start = c.behind_last-low.ensures;
      end = c.next_from.ensures.next;
    } in
    rw c.unwrap_or-high.ensures (low_upto c.row_laws.ensures c.args.pages.now c.remove_all.new.self c.args.first c.args.n c.behind_last-low.result c.next_from.result unmaps)

pub returns-clause-hinted : goal.returns-clause-hinted
returns-clause-hinted c =
    let removed = c.remove_all.ensures in
    let unmaps : Unmaps c.row_laws.ensures c.args.pages.now c.remove_all.new.self c.args.first c.args.n c.behind_last-low.result c.next_from.result = record {
      gone = removed.rows;
      ascends = removed.was_ascending;
      sorted = removed.ascending;
      within = removed.within c.requires.was_within;
      start = c.behind_last-low.ensures;
      end = c.next_from.ensures.next;
    } in
    let low = c.behind_last-low.result in
    let few : (n : ℕ) → n ≤ unwrap_or c.next_from.result (2 ^ 24) - low → hint_of c.lower.new.self n ≡ min (hint_of c.args.hints.now n) low = rw c.unwrap_or-high.ensures at c.lower.ensures.few in
    let many : (n : ℕ) → unwrap_or c.next_from.result (2 ^ 24) - low < n → hint_of c.lower.new.self n ≡ hint_of c.args.hints.now n = rw c.unwrap_or-high.ensures at c.lower.ensures.many in
    hints_less_all c.row_laws.ensures c.args.pages.now c.remove_all.new.self c.args.first c.args.n low c.next_from.result unmaps c.args.hints.now c.lower.new.self c.requires.were_hinted few many

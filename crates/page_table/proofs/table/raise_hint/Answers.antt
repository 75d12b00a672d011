use Rattle.page_table.specs.Hints.{IsHint}
use Rattle.page_table.proofs.Hinted.{first_hint, put_hints}
use Rattle.page_table.proofs.table.raise_hint.Goals as goal

pub returns : goal.returns
returns c =
    let is : IsHint c.args.pages.now c.args.n c.unwrap_or-first.result = rw c.unwrap_or-first.ensures (first_hint c.args.pages.now c.args.n c.first_gap.result c.first_gap.ensures) in
    record { hinted = put_hints c.args.pages.now c.args.hints.now c.put.new.self c.args.n c.unwrap_or-first.result c.put.result c.requires.were_hinted is c.put.ensures.ok c.put.ensures.err }

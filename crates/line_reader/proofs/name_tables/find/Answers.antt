use Rattle.std.proofs.Common.{true, false, sym, ◌∙◌}
use Rattle.line_reader.proofs.NameLemmas.{named_at, named_end}
use Rattle.line_reader.proofs.name_tables.find.Goals as goal

pub returns-then-eq : goal.returns-then-eq
returns-then-eq g c =
    let here = named_at c.args.names.now c.loop-name.name-index c.loop-name-item.result c.args.word.now true c.loop-name-test.true c.loop-name-item.is (sym c.if-eq.true ∙ c.eq.ensures) in
    sym here ∙ c.loop-name.invariant

pub loop-name-preserved : goal.loop-name-preserved
loop-name-preserved g c =
    let here = named_at c.args.names.now c.loop-name.name-index c.loop-name-item.result c.args.word.now false c.loop-name-test.true c.loop-name-item.is (sym c.if-eq.false ∙ c.eq.ensures) in
    sym here ∙ c.loop-name.invariant

pub returns : goal.returns
returns g c = sym (named_end c.args.names.now c.loop-name.name-index c.args.word.now c.loop-name-test.false) ∙ c.loop-name.invariant

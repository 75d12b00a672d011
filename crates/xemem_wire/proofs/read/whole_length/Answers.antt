use Rattle.std.proofs.Common.{arith, sym, ap, ◌∙◌}
use Rattle.std.specs.Prelude.{is_some, Some}
use Rattle.xemem_wire.proofs.StreamLemmas.{none_short, none_faulty, none_partial, some_whole}
use Rattle.xemem_wire.proofs.read.whole_length.Goals as goal
use Rattle.xemem_wire.proofs.read.whole_length.Goals.{then-front-lt-HEADER-via-then-front-lt-HEADER, then-front-lt-HEADER-via-else-front-lt-HEADER+then-is_some}

pub returns-then-front-lt-HEADER : goal.returns-then-front-lt-HEADER
returns-then-front-lt-HEADER c =
    elim c.then-front-lt-HEADER.branch [
      | then-front-lt-HEADER-via-then-front-lt-HEADER w ↦ none_short c.args.front.now (omega arith)
      | then-front-lt-HEADER-via-else-front-lt-HEADER+then-is_some w ↦
          none_faulty c.args.front.now
          (sym (ap is_some w.fault_in.ensures.fault) ∙ sym w.is_some.ensures ∙ w.if-is_some.true)
    ]

pub returns-then-front-length : goal.returns-then-front-length
returns-then-front-length c = none_partial c.args.front.now (rw c.u32_at-length.ensures at c.if-front-length.true)

pub returns : goal.returns
returns c =
    ap (λ n. Some n) c.u32_at-length.ensures
    ∙ some_whole c.args.front.now (λ i. omega (arith, c.type_inv.front i)) c.if-front-lt-HEADER.false (rw c.u32_at-length.ensures at c.if-front-length.false)
    (sym (ap is_some c.fault_in.ensures.fault) ∙ sym c.is_some.ensures ∙ c.if-is_some.false)

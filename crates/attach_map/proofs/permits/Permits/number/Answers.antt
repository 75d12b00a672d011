use Rattle.std.proofs.Common.{◌∙◌, sym}
use Rattle.xm_num.specs.Rows.{at}
use Rattle.attach_map.proofs.PermitLemmas.{name_found, name_missed, past_all, none_is, named_alone}
use Rattle.attach_map.proofs.permits.Permits.number.Goals as goal

pub returns-in_err-number-clause-value : goal.returns-in_err-number-clause-value
returns-in_err-number-clause-value c =
    let rows = c.self.inside.rows.entries in
    rw (c.from_residual.ensures, ← c.self.view_is)
    (name_missed c.row_laws.ensures rows c.self.invariant.ascending c.args.apid.0 (past_all rows c.self.invariant.small c.args.apid.0 c.in_err-number.ensures.none))

pub returns-then-not-contains_key-clause-value : goal.returns-then-not-contains_key-clause-value
unfolding at
returns-then-not-contains_key-clause-value c =
    let rows = c.self.inside.rows.entries in
    let missing = none_is (at rows c.in_ok-number.number) (sym c.contains_key.ensures ∙ c.if-not-contains_key.true) in
    rw (← c.self.view_is)
    (name_missed c.row_laws.ensures rows c.self.invariant.ascending c.args.apid.0 (named_alone rows c.args.apid.0 c.in_ok-number.number c.in_ok-number.ensures.is missing))

pub returns-clause-value : goal.returns-clause-value
unfolding at
returns-clause-value c =
    let rows = c.self.inside.rows.entries in
    rw (← c.self.view_is)
    (name_found c.row_laws.ensures rows c.self.invariant.ascending c.args.apid.0 c.in_ok-number.number c.in_ok-number.ensures.is (sym c.contains_key.ensures ∙ c.if-not-contains_key.false))

use Rattle.std.proofs.Common.{ap, sym, ◌∙◌, Some, option_map}
use Rattle.name_server.specs.Names.{segid_numbered}
use Rattle.name_server.proofs.PairLemmas.{no_lowest, lowest}
use Rattle.name_server.proofs.Names.lowest_of.Goals as goal

pub returns-in_err-number : goal.returns-in_err-number
returns-in_err-number c =
    rw (← c.self.view_is)
    (c.from_residual.ensures ∙ ap (option_map segid_numbered) (sym (no_lowest c.row_laws.ensures c.args.owner _ c.self.inside.index c.self.invariant c.in_err-number.ensures)))

pub returns : goal.returns
returns c =
    rw (← c.self.view_is)
    (ap Some c.segid_of.ensures ∙ ap (option_map segid_numbered) (sym (lowest c.row_laws.ensures c.args.owner _ c.self.inside.index c.self.invariant c.in_ok-number.number c.in_ok-number.ensures)))

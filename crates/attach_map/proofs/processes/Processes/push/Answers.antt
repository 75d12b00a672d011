use Rattle.std.proofs.Common.{◌∙◌, sym}
use Rattle.attach_map.proofs.TableLemmas.{pushed, none_last}
use Rattle.attach_map.proofs.processes.Processes.push.Goals.{in-Ok-None, in-Err}
use Rattle.attach_map.proofs.processes.Processes.push.Goals as goal

pub unreachable-requires : goal.unreachable-requires
unreachable-requires g c =
    none_last c.self.inside.map.entries c.args.pid c.in-Ok-Some.other (rw c.self.view_is c.requires) (sym c.in-Ok-Some.field-0-is ∙ c.in-Ok-Some.ensures.old)

pub invariant_of-self : goal.invariant_of-self
invariant_of-self g c =
    let rows = c.self.inside.map.entries in
    let is = pushed c.row_laws.ensures rows c.args.pid c.args.process (rw c.self.view_is c.requires) in
    elim c.match-insert.branch [
      | in-Ok-None w ↦ rw (w.in-Ok-None.ensures.entries ∙ is) (c.row_laws.ensures.put_ascends rows c.args.pid c.args.process c.self.invariant)
      | in-Err w ↦ rw w.in-Err.ensures.err c.self.invariant
    ]

pub returns-clause-ok : goal.returns-clause-ok
returns-clause-ok g c =
    let is = pushed c.row_laws.ensures c.self.inside.map.entries c.args.pid c.args.process (rw c.self.view_is c.requires) in
    elim c.match-insert.branch [
      | in-Ok-None w ↦ rw (w.result-is, ← c.self.view_is) (w.in-Ok-None.ensures.entries ∙ is)
      | in-Err w ↦ rw w.result-is tt
    ]

use Rattle.std.proofs.Common.{◌∙◌, ap, sym, length}
use Rattle.std.specs.Prelude.{List}
use Rattle.xm_num.specs.declared.Frame.{Frame}
use Rattle.exporter_pins.specs.Holdings.{free_frames}
use Rattle.enclave_node.proofs.TiedLemmas.{free_seen, short_is, never_short, given_all, given_after, given_seen, back_tied, back_seen, on_ok, on_err, no_ok, no_err}
use Rattle.enclave_node.proofs.memory.Memory.give.Goals as goal
use Rattle.enclave_node.proofs.memory.Memory.give.Goals.{in-Ok-own_or_free, in-Err-own_or_free}

pub returns-in-Err-clause-short : goal.returns-in-Err-clause-short
returns-in-Err-clause-short g c =
    let s = c.self.inside in
    let count = ap (λ (fs : List Frame). length fs) (free_seen s.blocks s.exporter s.attacher c.args.self.now c.self.invariant c.self.view_is) in
    short_is c.alloc.result _ (length (free_frames s.exporter)) _ c.args.n c.in-Err.is count c.alloc.ensures.short

pub own_or_free-requires-clause-given : goal.own_or_free-requires-clause-given
own_or_free-requires-clause-given g c =
    let s = c.self.inside in
    given_all s.blocks s.exporter s.attacher c.args.self.now c.self.invariant c.self.view_is c.args.pid.0 c.args.n c.alloc.new.self c.as_slice.result.now
    c.in-Ok.ensures.after (c.as_slice.ensures ∙ c.in-Ok.ensures.list) c.row_laws-2.ensures

pub invariant_of-self-2 : goal.invariant_of-self-2
invariant_of-self-2 g c =
    let s = c.self.inside in
    let is = c.as_slice.ensures ∙ c.in-Ok.ensures.list in
    elim c.match-own_or_free.branch [
      | in-Ok-own_or_free w ↦
          given_after s.blocks s.exporter s.attacher c.args.self.now c.self.invariant c.self.view_is c.args.pid.0 c.args.n c.alloc.new.self c.as_slice.result.now
          c.in-Ok.ensures.after is c.own_or_free.new.exporter c.own_or_free.new.attacher c.args.at.0 w.in-Ok-own_or_free.ensures.ok_exporter w.in-Ok-own_or_free.ensures.ok
          c.row_laws.ensures c.row_laws-2.ensures c.rows.ensures.any c.requires.room
      | in-Err-own_or_free w ↦
          back_tied s.blocks s.exporter s.attacher c.args.self.now c.self.invariant c.self.view_is c.args.pid.0 c.args.n c.alloc.new.self c.as_slice.result.now
          c.in-Ok.ensures.after is c.row_laws-2.ensures c.own_or_free.new.exporter c.own_or_free.new.attacher w.in-Err-own_or_free.ensures.err_exporter w.in-Err-own_or_free.ensures.err
    ]

pub returns-clause-after : goal.returns-clause-after
returns-clause-after g c =
    let s = c.self.inside in
    let is = c.as_slice.ensures ∙ c.in-Ok.ensures.list in
    elim c.match-own_or_free.branch [
      | in-Ok-own_or_free w ↦
          on_ok c.match-own_or_free.result _
          (given_seen s.blocks s.exporter s.attacher c.args.self.now c.self.invariant c.self.view_is c.args.pid.0 c.args.n c.alloc.new.self c.as_slice.result.now
          c.in-Ok.ensures.after is c.own_or_free.new.exporter c.own_or_free.new.attacher c.args.at.0 w.in-Ok-own_or_free.ensures.ok_exporter w.in-Ok-own_or_free.ensures.ok)
      | in-Err-own_or_free w ↦ no_ok c.match-own_or_free.result _ _ w.result-is
    ]

pub returns-clause-short : goal.returns-clause-short
returns-clause-short g c =
    let s = c.self.inside in
    let count = ap (λ (fs : List Frame). length fs) (free_seen s.blocks s.exporter s.attacher c.args.self.now c.self.invariant c.self.view_is) in
    elim c.match-own_or_free.branch [
      | in-Ok-own_or_free w ↦ short_is c.alloc.result c.match-own_or_free.result (length (free_frames s.exporter)) _ c.args.n (c.in-Ok.is ∙ sym w.result-is) count c.alloc.ensures.short
      | in-Err-own_or_free w ↦ never_short c.match-own_or_free.result c.alloc.result c.in-Ok.frames (length (free_frames s.exporter)) _ c.args.n w.result-is c.in-Ok.is count c.alloc.ensures.short
    ]

pub returns-clause-err : goal.returns-clause-err
returns-clause-err g c =
    let s = c.self.inside in
    let is = c.as_slice.ensures ∙ c.in-Ok.ensures.list in
    elim c.match-own_or_free.branch [
      | in-Ok-own_or_free w ↦ no_err c.match-own_or_free.result _ _ w.result-is
      | in-Err-own_or_free w ↦
          on_err c.match-own_or_free.result _
          (back_seen s.blocks s.exporter s.attacher c.args.self.now c.self.invariant c.self.view_is c.args.pid.0 c.args.n c.alloc.new.self c.as_slice.result.now
          c.in-Ok.ensures.after is c.row_laws-2.ensures c.own_or_free.new.exporter c.own_or_free.new.attacher w.in-Err-own_or_free.ensures.err_exporter w.in-Err-own_or_free.ensures.err)
    ]

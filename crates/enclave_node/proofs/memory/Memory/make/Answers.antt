use Rattle.std.proofs.Common.{◌≡◌, ◌∙◌, ap, sym, arith, length, Some, rules}
use Rattle.std.specs.Prelude.{option_map, List}
use Rattle.xm_num.specs.declared.Frame.{Frame}
use Rattle.xm_num.specs.Rows.{at}
use Rattle.enclave_node.proofs.SpaceLemmas.{region_length}
use Rattle.enclave_node.proofs.TiedLemmas.{seated, region_is, make_owned, made_tied}
use Rattle.enclave_node.proofs.memory.Memory.make.Goals as goal

pub issue_make-requires-clause-most : goal.issue_make-requires-clause-most
issue_make-requires-clause-most g c =
    let pages = g.A.AddressSpace.pages c.unwrap-space.result.now in
    let region = region_is pages c.args.first.0 c.args.n c.in-Some.frames (sym c.in-Some.is ∙ c.in_ok-frames.ensures) in
    let count : length c.as_slice.result.now ≡ c.args.n = ap (λ (fs : List Frame). length fs) (c.as_slice.ensures ∙ region.frames_are) ∙ region_length pages c.args.first.0 c.args.n in
    omega (arith, count, c.requires.most)

pub issue_make-requires-clause-own : goal.issue_make-requires-clause-own
issue_make-requires-clause-own g c =
    let s = c.self.inside in
    let pages = g.A.AddressSpace.pages c.unwrap-space.result.now in
    let there : Some pages ≡ option_map (λ process. process.pages) (at s.attacher.processes c.args.pid.0) = search rules in
    let region = region_is pages c.args.first.0 c.args.n c.as_slice.result.now (ap Some c.as_slice.ensures ∙ sym c.in-Some.is ∙ c.in_ok-frames.ensures) in
    make_owned s.blocks s.exporter s.attacher c.args.pid.0 c.args.first.0 c.args.n pages c.as_slice.result.now c.self.invariant (seated pages (at s.attacher.processes c.args.pid.0) there) region

pub invariant_of-self-2 : goal.invariant_of-self-2
invariant_of-self-2 g c =
    let s = c.self.inside in
    let pages = g.A.AddressSpace.pages c.unwrap-space.result.now in
    let there : Some pages ≡ option_map (λ process. process.pages) (at s.attacher.processes c.args.pid.0) = search rules in
    made_tied s.blocks s.exporter s.attacher c.issue_make.new.exporter c.issue_make.new.attacher c.args.pid c.args.mode pages c.as_slice.result.now c.self.invariant
    c.export_laws.ensures c.row_laws.ensures (seated pages (at s.attacher.processes c.args.pid.0) there) c.in_ok-call.ensures.ok_exporter c.in_ok-call.ensures.ok

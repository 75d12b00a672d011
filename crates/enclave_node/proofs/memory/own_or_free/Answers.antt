use Rattle.std.proofs.Common.{◌≡◌, ◌+◌, ◌∙◌, ap, sym, length, true, false, [], rules}
use Rattle.std.specs.Prelude.{is_some, Option}
use Rattle.std.specs.Option.{option_map_or}
use Rattle.xm_num.specs.Rows.{any_between}
use Rattle.attach_map.specs.Attaching.{ProcessState, pages_in}
use Rattle.enclave_node.proofs.memory.own_or_free.Goals as goal

pub unreachable-requires : goal.unreachable-requires
unreachable-requires g c =
    let low = c.args.at.0 in
    let high = c.args.at.0 + length c.args.frames.now in
    let pages = pages_in c.args.attacher.now c.args.pid.0 in
    let same : pages ≡ c.requires.room.process.pages = ap (λ (found : Option ProcessState). option_map_or (λ process. process.pages) found []) c.requires.room.lives in
    let free : any_between pages low high ≡ false = ap (λ ps. any_between ps low high) same ∙ c.requires.room.free in
    let found = (c.in-Err-Taken.ensures.taken c.in-Err-Taken.field-0-0).0 (search rules) in
    let clash : false ≡ true = sym free ∙ c.rows.ensures.any pages low high ∙ ap is_some found in
    cc

use Rattle.std.proofs.Common.{◌≡◌, true, List, ℕ, append_assoc}
use Rattle.xemem_wire.specs.Table.{kind_of}
use Rattle.xemem_wire.specs.Fields.{length_of_kind}
use Rattle.xemem_wire.specs.Spelling.{header_of, body_spelling, is_valid}
use Rattle.xemem_wire.proofs.SpellingLemmas.{spelled_by}
use Rattle.xemem_wire.proofs.spell.encode.Goals as goal

pub returns-in-Ok-clause-ok : goal.returns-in-Ok-clause-ok
returns-in-Ok-clause-ok c =
    let r = c.args.rec.now in
    let valid : is_valid r ≡ true = c.requires in
    let spelled = spelled_by r valid in
    let head : List ℕ = header_of (length_of_kind (kind_of r.body)) r in
    let all = append_assoc c.args.out.now.items head (body_spelling r.body) in
    let body = c.in-Ok.ensures.ok in
    let before = c.in_ok-extend_from_slice.ensures.items in
    let header = c.header.ensures in
    let long = c.length_of_kind.ensures in
    let kind = c.kind_number-kind.ensures in
    let fields = c.fields_of_kind-fields.ensures.fields in
    let numbers = c.numbers_of.ensures in
    cc

use Rattle.std.proofs.Common.{◌≡◌, ◌+◌, ◌-◌, length, None, refl, sym, ap, ◌∙◌, arith}
use Rattle.std.specs.Prelude.{is_some}
use Rattle.xemem_wire.specs.Decoding.{Decoding, after_piece}
use Rattle.xemem_wire.proofs.DecodingLemmas.{after_piece-stopped, after_piece-count}
use Rattle.xemem_wire.proofs.KeptLemmas.{Goes, goes, Stops, stops_at}
use Rattle.xemem_wire.proofs.decoder.Decoder.feed.Goals as goal

pub returns-in-Some-clause-refused : goal.returns-in-Some-clause-refused
returns-in-Some-clause-refused c =
    let bad = sym (ap (λ d. d.bad) c.self.view_is) ∙ c.in-Some.is in
    (sym (after_piece-stopped c.args.self.now c.args.piece.now (ap is_some bad)), bad)

-- the piece has come without a bad field
going : (c : goal.In_default-bad) → Goes c.self-2.inside.bytes.items c.args.piece.now c.take_piece.new.bytes.items c.self-2.inside.given c.self-2.inside.whole c.in-Ok.found.0 c.self-2.inside.before c.self-2.inside.bad
going c =
    let none : c.self-2.inside.bad ≡ None
    = ap (λ d. d.bad) (c.self-2.view_is ∙ c.make_room.ensures ∙ sym c.self.view_is) ∙ c.in_default.is in
    goes c.self-2.inside.bytes.items c.args.piece.now c.take_piece.new.bytes.items c.self-2.inside.given
    c.self-2.inside.whole c.in-Ok.found.0 c.self-2.inside.before c.self-2.inside.bad c.in-Ok.found.1
    none c.in_default-bad.is c.self-2.invariant c.in-Ok.ensures.ok

pub invariant_of-self-in_default-bad : goal.invariant_of-self-in_default-bad
invariant_of-self-in_default-bad c = (going c).kept

pub returns-in_default-bad-clause-taken : goal.returns-in_default-bad-clause-taken
returns-in_default-bad-clause-taken c =
    (going c).view ∙ ap (λ d. after_piece d c.args.piece.now) (c.self-2.view_is ∙ c.make_room.ensures)

pub returns-in_default-bad-clause-count : goal.returns-in_default-bad-clause-count
returns-in_default-bad-clause-count c =
    let left = (going c).view ∙ ap (λ d. after_piece d c.args.piece.now) (c.self-2.view_is ∙ c.make_room.ensures) in
    omega (arith, ap (λ (d : Decoding). d.before + length d.rest) left, after_piece-count c.args.self.now c.args.piece.now)

-- the piece has come with a bad field
stopping : (c : goal.After-self-3-1) → Stops c.self-2.inside.bytes.items c.args.piece.now c.take_piece.new.bytes.items c.self-2.inside.given c.self-2.inside.whole c.in-Ok.found.0 c.self-2.inside.before c.self-2.inside.bad (record { fault = c.in-Some-bad.bad.fault; place = c.self-2.inside.before + (c.in-Ok.found.0 - c.self-2.inside.whole) + c.in-Some-bad.bad.place })
stopping c =
    let none : c.self-2.inside.bad ≡ None
    = ap (λ d. d.bad) (c.self-2.view_is ∙ c.make_room.ensures ∙ sym c.self.view_is) ∙ c.in_default.is in
    stops_at c.self-2.inside.bytes.items c.args.piece.now c.take_piece.new.bytes.items c.self-2.inside.given
    c.self-2.inside.whole c.in-Ok.found.0 c.self-2.inside.before c.self-2.inside.bad c.in-Ok.found.1 c.in-Some-bad.bad
    none c.in-Some-bad.is c.self-2.invariant c.in-Ok.ensures.ok

pub invariant_of-self-2 : goal.invariant_of-self-2
invariant_of-self-2 c = (stopping c).kept

pub returns-clause-refused : goal.returns-clause-refused
returns-clause-refused c =
    ((stopping c).view ∙ ap (λ d. after_piece d c.args.piece.now) (c.self-2.view_is ∙ c.make_room.ensures), refl)

pub returns-clause-count : goal.returns-clause-count
returns-clause-count c =
    let left = (stopping c).view ∙ ap (λ d. after_piece d c.args.piece.now) (c.self-2.view_is ∙ c.make_room.ensures) in
    omega (arith, ap (λ (d : Decoding). d.before + length d.rest) left, after_piece-count c.args.self.now c.args.piece.now)

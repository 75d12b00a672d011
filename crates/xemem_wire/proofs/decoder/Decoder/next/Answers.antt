use Rattle.std.proofs.Common.{◌≡◌, ◌<◌, ◌≤◌, ℕ, List, [], length, drop, subst, slice_get, refl, sym, ap, ◌∙◌, arith, length-drop}
use Rattle.std.specs.Prelude.{Some}
use Rattle.std.proofs.lemmas.List.{take_rest}
use Rattle.xemem_wire.specs.Table.{u32_at}
use Rattle.xemem_wire.specs.Faults.{kind_at}
use Rattle.xemem_wire.specs.Fields.{length_of_kind}
use Rattle.xemem_wire.specs.Stream.{record_at, records_of}
use Rattle.xemem_wire.proofs.KeptLemmas.{kept_done, without_none, GivesNext, gives_next, given_next}
use Rattle.xemem_wire.proofs.decoder.Decoder.next.Goals as goal

-- no record is left
done : (c : goal.Then-self) → records_of (drop c.self.inside.given c.self.inside.bytes.items) ≡ []
done c = kept_done c.self.inside.bytes.items c.self.inside.given c.self.inside.whole c.self.inside.bad c.self.invariant c.if-self.true

pub returns-then-self-clause-first : goal.returns-then-self-clause-first
returns-then-self-clause-first c = ap (λ rs. slice_get rs 0) (sym (done c) ∙ ap (λ d. d.records) c.self.view_is)

pub returns-then-self-clause-later : goal.returns-then-self-clause-later
returns-then-self-clause-later c =
    without_none c.args.self.now (sym (ap (λ d. d.records) c.self.view_is) ∙ done c)

pub record_in-rec-requires : goal.record_in-rec-requires
record_in-rec-requires c =
    let less : c.self.inside.given < c.self.inside.whole = omega arith in
    let g = gives_next c.self.inside.bytes.items c.self.inside.given c.self.inside.whole _ c.self.inside.bad c.self.invariant less refl in
    subst (λ (xs : List ℕ). length_of_kind (kind_at xs) ≤ length xs)
    (sym (take_rest c.deref.result.now c.self.inside.given ∙ ap (drop c.self.inside.given) c.deref.ensures.value)) g.whole_long

pub u32_at-requires : goal.u32_at-requires
u32_at-requires c =
    let less : c.self.inside.given < c.self.inside.whole = omega arith in
    let g = gives_next c.self.inside.bytes.items c.self.inside.given c.self.inside.whole _ c.self.inside.bad c.self.invariant less refl in
    rw take_rest (omega (arith, length-drop c.self.inside.given c.deref.result.now, g.long, ap length c.deref.ensures.value))

-- a record is given, and passed over by the length that was read
giving : (c : goal.After-self-1) → GivesNext c.self.inside.bytes.items c.self.inside.given c.self.inside.whole c.u32_at.result c.self.inside.bad
giving c =
    let less : c.self.inside.given < c.self.inside.whole = omega arith in
    gives_next c.self.inside.bytes.items c.self.inside.given c.self.inside.whole c.u32_at.result c.self.inside.bad c.self.invariant less
    (c.u32_at.ensures ∙ ap (λ xs. u32_at xs 0) (take_rest c.deref.result.now c.self.inside.given ∙ ap (drop c.self.inside.given) c.deref.ensures.value))

pub invariant_of-self : goal.invariant_of-self
invariant_of-self c = (giving c).kept

pub returns-clause-first : goal.returns-clause-first
returns-clause-first c =
    ap (λ r. Some r)
    (c.record_in-rec.ensures ∙ ap record_at (take_rest c.deref.result.now c.self.inside.given ∙ ap (drop c.self.inside.given) c.deref.ensures.value))
    ∙ ap (λ rs. slice_get rs 0) (sym (giving c).records ∙ ap (λ d. d.records) c.self.view_is)

pub returns-clause-later : goal.returns-clause-later
returns-clause-later c =
    given_next c.self.inside.bytes.items c.self.inside.given c.self.inside.whole c.self.inside.before c.u32_at.result c.self.inside.bad c.args.self.now
    (giving c) c.self.view_is

use Rattle.std.proofs.Common.{◌≡◌, ◌∙◌, sym, refl, Some, None}
use Rattle.xm_num.specs.Rows.{at}
use Rattle.exporter_pins.specs.Holdings.{live_export}
use Rattle.exporter_pins.proofs.TableLemmas.{find_none, find_some}
use Rattle.exporter_pins.proofs.exported.ExportTable.live.Goals as goal

pub returns-in_err-call : goal.returns-in_err-call
returns-in_err-call c =
    let none : live_export c.self.inside.rows.entries c.args.number ≡ None =
    find_none c.row_laws.ensures c.args.number c.self.inside.rows.entries c.self.invariant.0.ascending
    (λ k is. let bad : None ≡ Some k = sym c.in_err-call.was ∙ c.get.ensures ∙ c.self.invariant.0.live c.args.number k is in (cc)) in
    rw (c.from_residual.ensures, ← c.self.view_is, none) refl

pub returns-in_err-row : goal.returns-in_err-row
unfolding at
returns-in_err-row c =
    let named = c.self.invariant.0.named c.args.number c.in_ok-call.call (sym c.get.ensures ∙ c.in_ok-call.was) in
    let none : at c.self.inside.rows.entries c.in_ok-call.call ≡ None = sym c.in_err-row.ensures.value in
    absurd (let bad : None ≡ Some c.args.number = rw none at named in (cc))

pub returns : goal.returns
unfolding at
returns c =
    let here : at c.self.inside.rows.entries c.in_ok-call.call ≡ Some c.in_ok-row.row.now = sym c.in_ok-row.ensures.value in
    let named = c.self.invariant.0.named c.args.number c.in_ok-call.call (sym c.get.ensures ∙ c.in_ok-call.was) in
    let found =
    find_some c.row_laws.ensures c.args.number c.in_ok-call.call c.in_ok-row.row.now c.self.inside.rows.entries c.self.invariant.0.ascending here (rw here at named)
    (λ k at_k. let both : Some k ≡ Some c.in_ok-call.call = sym (c.self.invariant.0.live c.args.number k at_k) ∙ sym c.get.ensures ∙ c.in_ok-call.was in (cc)) in
    rw (← c.self.view_is, found) (refl)

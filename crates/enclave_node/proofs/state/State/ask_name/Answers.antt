use Rattle.std.proofs.Common.{◌≡◌, ◌++◌, true, Result, Ok, Err, OnOk, if◌then◌else◌, sym, ap, ◌∙◌}
use Rattle.enclave_rules.specs.Sending.{Server, made_lines}
use Rattle.enclave_rules.specs.Segments.{name_request, naming_lines}
use Rattle.enclave_node.proofs.state.State.ask_name.Goals as goal

on_ok : {T E : Type 0} (r : Result T E) (P Q : Type 0) → (P → Q) → OnOk r P → OnOk r Q
on_ok (Ok value) P Q more is = more is
on_ok (Err fault) P Q more is = tt

pub returns-then-is_holder-clause-lines : goal.returns-then-is_holder-clause-lines
returns-then-is_holder-clause-lines g c =
    let held : true ≡ c.args.self.now.core.holder = sym c.if-is_holder.true ∙ c.is_holder.ensures in
    on_ok c.name_own.result _ _
    (λ each hand. each hand ∙ ap (λ b. c.args.out.now ++ (if b then naming_lines hand c.args.self.now c.args.call.0
    else made_lines c.args.self.now Server (name_request c.args.self.now.me c.args.call.0))) held)
    c.name_own.ensures.lines

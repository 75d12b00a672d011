use Rattle.std.proofs.Common.{◌≡◌, ◌+◌, Ok, None, Some, refl, ap, sym, ◌∙◌, subst}
use Rattle.xemem_language.specs.declared.line.Line.TheVariants as lines
use Rattle.node_machine.specs.Machine.{next_delivery}
use Rattle.node_world.specs.World.{IsAlong}
use Rattle.node_world.proofs.Amids.{IsAmid, ready_next, can_next, valid_next, amid_start, due_now, amid_next, amid_stopped, amid_last, amid_last_stopped, last_settled, last_waiting, along_settled, along_waiting, amid_all}
use Rattle.node_world.proofs.world.World.settle.Goals as goal

pub loop-made-init : goal.loop-made-init
loop-made-init c = record { amid = amid_start c.args.most _ _ c.requires.along c.requires.hand; progress = refl }

-- ---- a delivery

pub run-requires-clause-ready : goal.run-requires-clause-ready
run-requires-clause-ready c =
    let amid = c.loop-made.invariant.amid in
    let next : next_delivery c.loop-made.self.machine ≡ Some c.in-Some.delivery = ap (λ w. next_delivery w.machine) (sym c.self.view_is) ∙ sym c.next_delivery.ensures ∙ c.in-Some.is in
    ready_next c.laws.ensures _ _ amid.along c.in-Some.delivery (due_now c.laws.ensures _ _ _ _ _ amid c.in-Some.delivery next)

pub run-requires-clause-can : goal.run-requires-clause-can
run-requires-clause-can c =
    let amid = c.loop-made.invariant.amid in
    let next : next_delivery c.loop-made.self.machine ≡ Some c.in-Some.delivery = ap (λ w. next_delivery w.machine) (sym c.self.view_is) ∙ sym c.next_delivery.ensures ∙ c.in-Some.is in
    can_next c.laws.ensures _ _ amid.along c.in-Some.delivery (due_now c.laws.ensures _ _ _ _ _ amid c.in-Some.delivery next)

pub run-requires-clause-valid : goal.run-requires-clause-valid
run-requires-clause-valid c =
    let amid = c.loop-made.invariant.amid in
    let next : next_delivery c.loop-made.self.machine ≡ Some c.in-Some.delivery = ap (λ w. next_delivery w.machine) (sym c.self.view_is) ∙ sym c.next_delivery.ensures ∙ c.in-Some.is in
    valid_next c.laws.ensures _ _ amid.along c.in-Some.delivery (due_now c.laws.ensures _ _ _ _ _ amid c.in-Some.delivery next)

pub returns-in-Some-2-clause-stopped : goal.returns-in-Some-2-clause-stopped
returns-in-Some-2-clause-stopped c which is =
    let next : next_delivery c.loop-made.self.machine ≡ Some c.in-Some.delivery = ap (λ w. next_delivery w.machine) (sym c.self.view_is) ∙ sym c.next_delivery.ensures ∙ c.in-Some.is in
    let stop = c.run.ensures.stopped which (c.in_ok-which.was ∙ ap Ok c.in-Some-2.is ∙ is) in
    amid_stopped c.laws.ensures _ _ _ _ _ c.loop-made.invariant.amid c.in-Some.delivery next c.loop-made-test.true which _ stop

pub loop-made-preserved : goal.loop-made-preserved
loop-made-preserved c =
    let next : next_delivery c.loop-made.self.machine ≡ Some c.in-Some.delivery = ap (λ w. next_delivery w.machine) (sym c.self.view_is) ∙ sym c.next_delivery.ensures ∙ c.in-Some.is in
    let done : c.run.result ≡ Ok None = c.in_ok-which.was ∙ ap Ok c.in_default-2.is in
    record {
      amid = subst (λ m. IsAmid c.args.most (c.loop-made.made + 1) c.args.self.now.journal m c.run.new.self.journal) (sym (c.run.ensures.machine done))
          (amid_next c.laws.ensures _ _ _ _ _ c.loop-made.invariant.amid c.in-Some.delivery next c.loop-made-test.true c.run.new.self.journal (c.run.ensures.written done) (c.run.ensures.short done));
      progress = c.run.ensures.progress ∙ c.loop-made.invariant.progress;
    }

-- ---- the last line, once nothing waits

pub returns-in_default-clause-written : goal.returns-in_default-clause-written
returns-in_default-clause-written c is =
    let amid = c.loop-made.invariant.amid in
    let none : next_delivery c.loop-made.self.machine ≡ None = ap (λ w. next_delivery w.machine) (sym c.self.view_is) ∙ sym c.next_delivery.ensures ∙ c.in_default.is in
    amid_last c.laws.ensures _ _ _ _ _ amid (lines.Settled c.loop-made.made) (last_settled c.laws.ensures _ _ _ _ _ amid none) c.write_line.new.self.journal (c.write_line.ensures.written is)

pub returns-in_default-clause-along : goal.returns-in_default-clause-along
returns-in_default-clause-along c is =
    subst (λ m. IsAlong m c.write_line.new.self.journal) (sym c.write_line.ensures.machine)
    (along_settled c.laws.ensures c.loop-made.self.machine c.loop-made.self.journal c.loop-made.made c.write_line.new.self.journal c.loop-made.invariant.amid.along (c.write_line.ensures.written is))

pub returns-in_default-clause-stopped : goal.returns-in_default-clause-stopped
returns-in_default-clause-stopped c which is =
    let amid = c.loop-made.invariant.amid in
    let none : next_delivery c.loop-made.self.machine ≡ None = ap (λ w. next_delivery w.machine) (sym c.self.view_is) ∙ sym c.next_delivery.ensures ∙ c.in_default.is in
    amid_last_stopped c.laws.ensures _ _ _ _ _ amid (lines.Settled c.loop-made.made) (last_settled c.laws.ensures _ _ _ _ _ amid none) which c.write_line.new.self.journal (c.write_line.ensures.stopped which is)

-- ---- the last line, once all deliveries were made

pub returns-in-None-clause-written : goal.returns-in-None-clause-written
returns-in-None-clause-written c is =
    let amid = amid_all c.args.most c.loop-made.made _ _ _ c.loop-made.auto.made-end c.loop-made-test.false c.loop-made.invariant.amid in
    let none : next_delivery c.loop-made.self.machine ≡ None = ap (λ w. next_delivery w.machine) (sym c.self-2.view_is) ∙ sym c.next_delivery-2.ensures ∙ c.in-None.is in
    amid_last c.laws.ensures _ _ _ _ _ amid (lines.Settled c.args.most) (last_settled c.laws.ensures _ _ _ _ _ amid none) c.write_line-in-None.new.self.journal (c.write_line-in-None.ensures.written is)

pub returns-in-None-clause-along : goal.returns-in-None-clause-along
returns-in-None-clause-along c is =
    subst (λ m. IsAlong m c.write_line-in-None.new.self.journal) (sym c.write_line-in-None.ensures.machine)
    (along_settled c.laws.ensures c.loop-made.self.machine c.loop-made.self.journal c.args.most c.write_line-in-None.new.self.journal c.loop-made.invariant.amid.along (c.write_line-in-None.ensures.written is))

pub returns-in-None-clause-stopped : goal.returns-in-None-clause-stopped
returns-in-None-clause-stopped c which is =
    let amid = amid_all c.args.most c.loop-made.made _ _ _ c.loop-made.auto.made-end c.loop-made-test.false c.loop-made.invariant.amid in
    let none : next_delivery c.loop-made.self.machine ≡ None = ap (λ w. next_delivery w.machine) (sym c.self-2.view_is) ∙ sym c.next_delivery-2.ensures ∙ c.in-None.is in
    amid_last_stopped c.laws.ensures _ _ _ _ _ amid (lines.Settled c.args.most) (last_settled c.laws.ensures _ _ _ _ _ amid none) which c.write_line-in-None.new.self.journal (c.write_line-in-None.ensures.stopped which is)

pub returns-in-Some-next_delivery-clause-written : goal.returns-in-Some-next_delivery-clause-written
returns-in-Some-next_delivery-clause-written c is =
    let amid = amid_all c.args.most c.loop-made.made _ _ _ c.loop-made.auto.made-end c.loop-made-test.false c.loop-made.invariant.amid in
    let next : next_delivery c.loop-made.self.machine ≡ Some c.in-Some-next_delivery.field-0 = ap (λ w. next_delivery w.machine) (sym c.self-2.view_is) ∙ sym c.next_delivery-2.ensures ∙ c.in-Some-next_delivery.is in
    amid_last c.laws.ensures _ _ _ _ _ amid (lines.Waiting c.args.most) (last_waiting c.laws.ensures _ _ _ _ _ amid refl c.in-Some-next_delivery.field-0 next)
    c.write_line-in-Some-next_delivery.new.self.journal (c.write_line-in-Some-next_delivery.ensures.written is)

pub returns-in-Some-next_delivery-clause-along : goal.returns-in-Some-next_delivery-clause-along
returns-in-Some-next_delivery-clause-along c is =
    subst (λ m. IsAlong m c.write_line-in-Some-next_delivery.new.self.journal) (sym c.write_line-in-Some-next_delivery.ensures.machine)
    (along_waiting c.laws.ensures c.loop-made.self.machine c.loop-made.self.journal c.args.most c.write_line-in-Some-next_delivery.new.self.journal c.loop-made.invariant.amid.along (c.write_line-in-Some-next_delivery.ensures.written is))

pub returns-in-Some-next_delivery-clause-stopped : goal.returns-in-Some-next_delivery-clause-stopped
returns-in-Some-next_delivery-clause-stopped c which is =
    let amid = amid_all c.args.most c.loop-made.made _ _ _ c.loop-made.auto.made-end c.loop-made-test.false c.loop-made.invariant.amid in
    let next : next_delivery c.loop-made.self.machine ≡ Some c.in-Some-next_delivery.field-0 = ap (λ w. next_delivery w.machine) (sym c.self-2.view_is) ∙ sym c.next_delivery-2.ensures ∙ c.in-Some-next_delivery.is in
    amid_last_stopped c.laws.ensures _ _ _ _ _ amid (lines.Waiting c.args.most) (last_waiting c.laws.ensures _ _ _ _ _ amid refl c.in-Some-next_delivery.field-0 next) which
    c.write_line-in-Some-next_delivery.new.self.journal (c.write_line-in-Some-next_delivery.ensures.stopped which is)

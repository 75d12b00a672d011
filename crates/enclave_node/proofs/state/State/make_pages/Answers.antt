use Rattle.std.proofs.Common.{refl}
use Rattle.enclave_node.proofs.GiveLemmas.{moved_ok, make_written, make_viewed}
use Rattle.enclave_node.proofs.state.State.make_pages.Goals as goal

pub returns-clause-lines : goal.returns-clause-lines
returns-clause-lines g c addr size page_is n_is =
    moved_ok c.ask_name.result c.ask_name.result _ _ refl
    (λ each. make_written _ c.args.self.now c.args.pid c.args.first.0 c.args.n c.args.mode c.in-Some.call c.make.new.self c.in_ok-call.field-0 addr size c.args.out.now c.push.new.self c.ask_name.new.out
    c.self.view_is c.in-Some.is c.in_ok-call.ensures.call c.in_ok-call.ensures.after c.in_ok-call.ensures.mapped page_is n_is c.in_ok-push.ensures.ok each)
    c.ask_name.ensures.lines

pub returns-clause-after : goal.returns-clause-after
returns-clause-after g c addr size page_is n_is =
    moved_ok c.ask_name.result c.ask_name.result _ _ refl
    (λ each. make_viewed _ c.args.self.now c.args.pid c.args.first.0 c.args.n c.args.mode c.in-Some.call c.make.new.self c.in_ok-call.field-0 addr size c.ask_name.new.self
    c.self.view_is c.in-Some.is c.in_ok-call.ensures.call c.in_ok-call.ensures.after c.in_ok-call.ensures.mapped page_is n_is each)
    c.ask_name.ensures.after

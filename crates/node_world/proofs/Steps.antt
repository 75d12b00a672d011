-- Each step of the machine writes what the rules give, and the machine shows the facts after it.
use Rattle.std.proofs.Common.{◌≡◌, ◌+◌, ℕ, List, [], ◌∷◌, ◌++◌, length, true, false, cond, ltb, Option, None, Some, refl, sym, ap, ◌∙◌, subst, arith}
use Rattle.std.proofs.lemmas.Bool.{eqb-true, and_parts}
use Rattle.xm_num.specs.declared.Kind.{Kind}
use Rattle.xm_num.specs.declared.Kind.TheVariants as kinds
use Rattle.xm_num.specs.declared.Cause.TheVariants as causes
use Rattle.xemem_wire.specs.Spelling.{AreValid}
use Rattle.xemem_language.specs.declared.command.Command.{Command}
use Rattle.xemem_language.specs.declared.command.Command.TheVariants as commands
use Rattle.xemem_language.specs.declared.call.ProcessCall.{ProcessCall}
use Rattle.xemem_language.specs.declared.call.NodeShow.{NodeShow}
use Rattle.xemem_language.specs.Calls.{call_of, show_of}
use Rattle.xemem_language.specs.declared.line.Line.{Line}
use Rattle.xemem_language.specs.declared.line.Line.TheVariants as lines
use Rattle.global_model.specs.Facts.{no_facts, facts_after}
use Rattle.enclave_rules.specs.Steps.{refusal, host_lines, first_blocks}
use Rattle.global_model.specs.Due.{command_lines, step_lines, journal_of}
use Rattle.global_model.specs.Journals.{Follows}
use Rattle.global_model.specs.Carriage.{CarriedAt}
use Rattle.xemem_language.specs.Ranges.{IsWithin, IsInRange}
use Rattle.enclave_rules.specs.Built.{is_built, is_cokernel}
use Rattle.enclave_rules.specs.Core.{is_guest}
use Rattle.global_model.specs.Place.{may_stand, IsPlaced, IsPlacedAfter}
use Rattle.node_machine.specs.Links.{sent_in}
use Rattle.node_machine.specs.Machine.{MachineView, no_machine, lines_by, after_command}
use Rattle.node_world.specs.Shown.{IsShown}
use Rattle.node_machine.specs.Ready.{IsReady, IsNoSettle, Stands, CanStep}
use Rattle.node_world.specs.Laws.{WorldLaws}
use Rattle.node_world.proofs.Flows.{more-valid}
use Rattle.node_world.proofs.Stills.{IsTied, placed_before, step_of, tied_touch, tied_show, tied_show_names}
use Rattle.node_world.proofs.Owns.{tied_proc, tied_call}
use Rattle.node_world.proofs.Neighbours.{tied_show_link}
use Rattle.node_world.proofs.Deliveries.{tied_deliver}
use Rattle.node_world.proofs.Births.{at_nil, tied_pool, tied_host}
use Rattle.node_world.proofs.Boots.{tied_boot}
use Rattle.node_world.proofs.Readiness.{ready_of}

-- nothing was done
pub start : IsShown no_facts no_machine
start = record {
  pool = refl;
  server = refl;
  holder = refl;
  starts = refl;
  born = refl;
  pairs = refl;
  living = λ e. refl;
  nodes = λ e lives. cc;
  links = λ i within. absurd (omega (arith, within));
  strangers = λ e c far. at_nil c;
}

-- ---- where the command stands

-- the command may stand after the others, and its numbers are in their ranges
pub last_stands : (before : ℕ) (commands : List Command) (c : Command) → IsPlacedAfter before (commands ++ c ∷ []) → (may_stand (before + length commands) c ≡ true) × IsInRange c
last_stands before [] c placed = let none : before + 0 ≡ before = omega arith in (ap (λ n. may_stand n c) none ∙ placed.0, placed.1)
last_stands before (d ∷ commands) c placed =
    let more = last_stands (before + 1) commands c placed.2 in
    let next : before + length (d ∷ commands) ≡ before + 1 + length commands = omega arith in
    (ap (λ n. may_stand n c) next ∙ more.0, more.1)

built_last : (commands : List Command) (c : Command) → IsPlaced (commands ++ c ∷ []) → is_built c ≡ true
built_last commands c placed = (and_parts _ _ (last_stands 0 commands c placed).0).1

none_born : (commands : List Command) → length commands ≡ 0 → (facts_after (journal_of commands)).born ≡ 0
none_born [] none = refl
none_born (c ∷ commands) none = absurd (omega (arith, none))

-- the one command before `host` is `pool`
pub record IsPooled (before : List Command) : Type 0 where
  pub pool : ℕ
  pub is : before ≡ commands.Pool pool ∷ []
  pub range : IsWithin 1 4096 pool

pooled : (before : List Command) → length before ≡ 1 → IsPlaced before → IsPooled before
pooled [] one placed = absurd (omega (arith, one))
pooled (c ∷ d ∷ more) one placed = absurd (omega (arith, one))
pooled (commands.Pool blocks ∷ []) one placed = record { pool = blocks; is = refl; range = placed.1 }
pooled (_ ∷ []) one placed = let no : false ≡ true = placed.0 in cc

-- ---- a step

cokernel_plain : (kind : Kind) → is_cokernel kind ≡ true → is_guest kind ≡ false
cokernel_plain kinds.Host is = refl
cokernel_plain kinds.Cokernel is = refl
cokernel_plain kinds.Vm is = cc

pub no_settle : (c : Command) → ((most : ℕ) → c ≡ commands.Settle most → ⊥) → IsNoSettle c
no_settle (commands.Settle most) other = other most refl
no_settle _ other = tt

-- what the machine writes is what the rules give, and it shows the facts after it: for a command that is no call and shows no node
stepped_other : WorldLaws → (commands : List Command) (c : Command) → call_of c ≡ None → show_of c ≡ None → (m : MachineView) → IsNoSettle c → IsPlaced (commands ++ c ∷ []) → IsShown (facts_after (journal_of commands)) m
    → (lines_by m c ≡ command_lines (facts_after (journal_of commands)) c) × IsShown (facts_after (journal_of (commands ++ c ∷ []))) (after_command m c)
stepped_other laws before (commands.Pool blocks) no_call no_show m step placed h =
    let count = eqb-true (0 + length before) 0 (and_parts _ _ (last_stands 0 before (commands.Pool blocks) placed).0).0 in
    tied_pool _ _ m blocks (step_of laws before (commands.Pool blocks) placed) h (none_born before (omega (arith, count)))
stepped_other laws before (commands.Host blocks ns) no_call no_show m step placed h =
    let count = eqb-true (0 + length before) 1 (and_parts _ _ (last_stands 0 before (commands.Host blocks ns) placed).0).0 in
    let p = pooled before (omega (arith, count)) (placed_before 0 before (commands.Host blocks ns ∷ []) placed) in
    tied_host _ _ m blocks ns (step_of laws before (commands.Host blocks ns) placed) h (ap (λ cs. (facts_after (journal_of cs)).born) p.is) (ap (λ cs. (facts_after (journal_of cs)).server) p.is)
    (subst (λ cs. command_lines (facts_after (journal_of cs)) (commands.Host blocks ns) ≡ cond (ltb (facts_after (journal_of cs)).pool blocks) (refusal causes.NoBlocks) (host_lines (first_blocks blocks) ns)) (sym p.is) (laws.views.host p.pool blocks ns))
stepped_other laws before (commands.Boot kind parent blocks ns) no_call no_show m step placed h = tied_boot _ _ m kind parent blocks ns (cokernel_plain kind (and_parts _ _ (last_stands 0 before (commands.Boot kind parent blocks ns) placed).0).1) (step_of laws before (commands.Boot kind parent blocks ns) placed) h
stepped_other laws before (commands.Proc e uid gid) no_call no_show m step placed h = tied_proc _ _ m e uid gid (step_of laws before (commands.Proc e uid gid) placed) h
stepped_other laws before (commands.Touch e p addr want) no_call no_show m step placed h = tied_touch _ _ m e p addr want (step_of laws before (commands.Touch e p addr want) placed) h
stepped_other laws before (commands.Deliver x y count) no_call no_show m step placed h = tied_deliver laws.wire laws.views _ _ m x y count (last_stands 0 before (commands.Deliver x y count) placed).1.2.0 (step_of laws before (commands.Deliver x y count) placed) h
stepped_other laws before (commands.Settle most) no_call no_show m step placed h = absurd step
stepped_other laws before (commands.ShowLink x y) no_call no_show m step placed h = tied_show_link _ _ m x y (step_of laws before (commands.ShowLink x y) placed) h
stepped_other laws before commands.ShowNames no_call no_show m step placed h = tied_show_names _ _ m (step_of laws before commands.ShowNames placed) h
stepped_other laws before (commands.Alloc e p page count) no_call no_show m step placed h = cc
stepped_other laws before (commands.Make e p addr size mode) no_call no_show m step placed h = cc
stepped_other laws before (commands.Remove e p segid) no_call no_show m step placed h = cc
stepped_other laws before (commands.ShowRoutes e) no_call no_show m step placed h = cc
stepped_other laws before commands.ShowPool no_call no_show m step placed h = cc
stepped_other laws before c no_call no_show m step placed h = let no : false ≡ true = built_last before c placed in cc

-- and for any command
pub stepped : WorldLaws → (commands : List Command) (c : Command) (m : MachineView) → IsNoSettle c → IsPlaced (commands ++ c ∷ []) → IsShown (facts_after (journal_of commands)) m
    → (lines_by m c ≡ command_lines (facts_after (journal_of commands)) c) × IsShown (facts_after (journal_of (commands ++ c ∷ []))) (after_command m c)
stepped laws before c m step placed h = by (call_of c) refl (show_of c) refl
  where
    by : (call : Option ProcessCall) → call_of c ≡ call → (show : Option NodeShow) → show_of c ≡ show
        → IsTied (facts_after (journal_of before)) (facts_after (journal_of (before ++ c ∷ []))) c m
    by (Some k) is show shown = tied_call _ _ m c k is (step_of laws before c placed) h
    by None no_call (Some s) shown = tied_show _ _ m c s shown (step_of laws before c placed) h
    by None no_call None no_show = stepped_other laws before c no_call no_show m step placed h

-- so it may take the step
pub ready : WorldLaws → (commands : List Command) (m : MachineView) → IsPlaced commands → IsShown (facts_after (journal_of commands)) m → IsReady m
ready laws before m placed h = ready_of (facts_after (journal_of before)) m (laws.flowing before placed) h

cokernel_is : (kind : Kind) → is_cokernel kind ≡ true → kind ≡ kinds.Cokernel
cokernel_is kinds.Host is = cc
cokernel_is kinds.Cokernel is = refl
cokernel_is kinds.Vm is = cc

stands : (commands : List Command) (c : Command) (m : MachineView) → IsNoSettle c → IsPlaced (commands ++ c ∷ []) → IsShown (facts_after (journal_of commands)) m → Stands m c
stands before (commands.Pool blocks) m step placed h =
    let count = eqb-true (0 + length before) 0 (and_parts _ _ (last_stands 0 before (commands.Pool blocks) placed).0).0 in
    h.born ∙ none_born before (omega (arith, count))
stands before (commands.Host blocks ns) m step placed h =
    let count = eqb-true (0 + length before) 1 (and_parts _ _ (last_stands 0 before (commands.Host blocks ns) placed).0).0 in
    let p = pooled before (omega (arith, count)) (placed_before 0 before (commands.Host blocks ns ∷ []) placed) in
    let pool : p.pool ≡ m.pool = sym (h.pool ∙ ap (λ cs. (facts_after (journal_of cs)).pool) p.is) in
    let range = subst (IsWithin 1 4096) pool p.range in
    (h.born ∙ ap (λ cs. (facts_after (journal_of cs)).born) p.is, range.0, range.1)
stands before (commands.Boot kind parent blocks ns) m step placed h = cokernel_is kind (and_parts _ _ (last_stands 0 before (commands.Boot kind parent blocks ns) placed).0).1
stands before (commands.Settle most) m step placed h = absurd step
stands before _ m step placed h = tt

pub can_step : WorldLaws → (commands : List Command) (c : Command) (m : MachineView) → IsNoSettle c → IsPlaced (commands ++ c ∷ []) → IsShown (facts_after (journal_of commands)) m → CanStep m c
can_step laws before c m step placed h =
    let last = last_stands 0 before c placed in
    record { built = (and_parts _ _ last.0).1; stands = stands before c m step placed h; ranges = last.1 }

-- ---- what is sent is valid

sent-append : (ls ms : List Line) → sent_in (ls ++ ms) ≡ sent_in ls ++ sent_in ms
sent-append [] ms = refl
sent-append (lines.Sent x y r ∷ ls) ms = ap (λ rs. r ∷ rs) (sent-append ls ms)
sent-append (_ ∷ ls) ms = sent-append ls ms

carried_valid : (past ls : List Line) → Follows CarriedAt past ls → AreValid (sent_in ls)
carried_valid past [] carried = tt
carried_valid past (lines.Sent x y r ∷ ls) carried = (carried.0.2, carried_valid (lines.Sent x y r ∷ past) ls carried.1)
carried_valid past (line ∷ ls) carried = carried_valid (line ∷ past) ls carried.1

pub sent_valid : WorldLaws → (commands : List Command) (c : Command) (m : MachineView) → IsNoSettle c → IsPlaced (commands ++ c ∷ []) → IsShown (facts_after (journal_of commands)) m → AreValid (sent_in (lines_by m c))
sent_valid laws before c m step placed h =
    let G = facts_after (journal_of before) in
    let all = carried_valid [] (journal_of (before ++ c ∷ [])) (laws.carried (before ++ c ∷ []) placed) in
    let split : sent_in (journal_of (before ++ c ∷ [])) ≡ sent_in (journal_of before) ++ sent_in (step_lines G c) = ap sent_in (laws.journal before c) ∙ sent-append (journal_of before) (step_lines G c) in
    subst (λ ls. AreValid (sent_in ls)) (sym (stepped laws before c m step placed h).0) (more-valid (sent_in (journal_of before)) (sent_in (step_lines G c)) (subst AreValid split all))

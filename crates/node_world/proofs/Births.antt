-- A pool is made, and the host is born, as by the facts.
use Rattle.std.proofs.Common.{◌≡◌, ℕ, zero, suc, List, [], ◌∷◌, Bool, true, false, ◌||◌, cond, ltb, None, refl, sym, ap, ◌∙◌, subst, arith}
use Rattle.std.proofs.lemmas.Bool.{ne_eqb}
use Rattle.xm_num.specs.declared.Kind.TheVariants as kinds
use Rattle.xm_num.specs.declared.Cause.TheVariants as causes
use Rattle.xm_num.specs.Rows.{at}
use Rattle.xemem_language.specs.declared.command.Command.{Command}
use Rattle.xemem_language.specs.declared.command.Command.TheVariants as commands
use Rattle.xemem_language.specs.declared.line.Line.{Line}
use Rattle.xemem_language.specs.declared.line.Line.TheVariants as lines
use Rattle.global_model.specs.Facts.{Facts, after_line, after_lines, lives_at}
use Rattle.global_model.specs.Views.{view_of, seen_lines}
use Rattle.enclave_rules.specs.Core.{host}
use Rattle.enclave_rules.specs.Hand.{Nothing}
use Rattle.enclave_rules.specs.View.{own_lines, unborn_view}
use Rattle.enclave_rules.specs.Steps.{refusal, host_lines, first_blocks}
use Rattle.global_model.specs.Due.{command_lines}
use Rattle.enclave_node.specs.Nodes.{new_host}
use Rattle.node_machine.specs.Machine.{MachineView, holder_after, has_node, node_at, lines_by, acted, with_carried, after_command}
use Rattle.node_world.specs.Shown.{IsNodeOf, IsShown}
use Rattle.node_world.proofs.Lists.{node_within}
use Rattle.node_world.proofs.Carriage.{AreUncounted, counted_lines}
use Rattle.node_world.proofs.Acted.{IsActed, shown_by, within_of}
use Rattle.node_world.proofs.Stills.{IsStep, IsTied, AreStill, tied_still}

pub at_nil : {V : Type 0} (k : ℕ) → at {V = V} [] k ≡ None
unfolding at
at_nil k = refl

-- ---- the pool

pub tied_pool : (G H : Facts) (m : MachineView) (blocks : ℕ) → IsStep G H (commands.Pool blocks) → IsShown G m → G.born ≡ 0 → IsTied G H (commands.Pool blocks) m
tied_pool G H m blocks step h none =
    let pairs = h.pairs in
    let shown : IsShown (after_line G (lines.Do (commands.Pool blocks))) (record m { pool = blocks }) = record {
      pool = refl;
      server = h.server;
      holder = h.holder;
      starts = h.starts;
      born = h.born;
      pairs = h.pairs;
      living = h.living;
      nodes = λ e lives. let born = h.born in let within = node_within m.nodes e (h.living e ∙ lives) in absurd (omega (arith, none, born, within));
      links = λ i within. absurd (omega (arith, none, pairs, within));
      strangers = h.strangers;
    } in
    (refl, subst (λ F. IsShown F (record m { pool = blocks })) (sym step.after) shown)

-- ---- the host

abbrev host_rest : Bool → List Line
host_rest ns = cond ns (lines.Admitted host ∷ []) []

uncounted_rest : (ns : Bool) → AreUncounted (host_rest ns)
uncounted_rest true = (tt, tt)
uncounted_rest false = tt

-- the host sees all lines of its birth
host_seen : (G : Facts) (pool blocks : ℕ) (ns : Bool) → seen_lines G (unborn_view pool host) (host_lines (first_blocks blocks) ns) ≡ own_lines Nothing (unborn_view pool host) (host_lines (first_blocks blocks) ns)
host_seen G pool blocks true = refl
host_seen G pool blocks false = refl

host_acted : (G H : Facts) (m : MachineView) (blocks : ℕ) (ns : Bool) → IsStep G H (commands.Host blocks ns) → IsShown G m → G.born ≡ 0 → G.server ≡ false → command_lines G (commands.Host blocks ns) ≡ host_lines (first_blocks blocks) ns → lives_at H 0 ≡ true
    → IsActed (after_line (after_line G (lines.Do (commands.Host blocks ns))) (lines.Born host kinds.Host host ns (first_blocks blocks))) H (record m { server = ns; holder = holder_after m host ns; nodes = new_host m.pool blocks ns ∷ [] })
host_acted G H m blocks ns step h none first is lives =
    let pairs = h.pairs in
    record {
      pool = h.pool;
      server = ap (λ b. b || ns) (sym first);
      holder = ap (cond ns host) h.holder;
      starts = h.starts;
      born = omega (arith, none);
      pairs = omega (arith, none, pairs);
      living = living;
      nodes = λ e lives. node e (first_of e (living e ∙ lives));
      links = λ i within. absurd (omega (arith, none, pairs, within));
      within = within_of G m step.before h;
      feeds = λ i within. absurd (omega (arith, none, pairs, within));
      strangers = λ e c far. stranger e c;
    }
  where
    B : Facts
    B = after_line G (lines.Do (commands.Host blocks ns))

    view : view_of H host ≡ own_lines Nothing (unborn_view m.pool host) (host_lines (first_blocks blocks) ns)
    view =
        step.views 0 lives ∙ ap (seen_lines B (view_of G host)) is ∙ ap (λ v. seen_lines B v (host_lines (first_blocks blocks) ns)) (step.unborn host (omega (arith, none)) ∙ ap (λ n. unborn_view n host) (sym h.pool))
        ∙ host_seen B m.pool blocks ns

    living : (e : ℕ) → has_node (new_host m.pool blocks ns ∷ []) e ≡ lives_at (after_line B (lines.Born host kinds.Host host ns (first_blocks blocks))) e
    living zero = refl
    living (suc e) = let other = ne_eqb (suc e) 0 (λ same. omega (arith, same)) in rw other (by (lives_at G (suc e)) refl)
      where
        by : (b : Bool) → lives_at G (suc e) ≡ b → false ≡ b
        by false is = refl
        by true is = let born = h.born in let within = node_within m.nodes (suc e) (h.living (suc e) ∙ is) in absurd (omega (arith, none, born, within))

    first_of : (e : ℕ) → has_node (new_host m.pool blocks ns ∷ []) e ≡ true → e ≡ 0
    first_of zero has = refl
    first_of (suc e) has = cc

    node : (e : ℕ) → e ≡ 0 → IsNodeOf H e (node_at (new_host m.pool blocks ns ∷ []) e)
    node e is_first = rw is_first (record { view = sym view; going = refl })

    stranger : (e c : ℕ) → at (node_at (new_host m.pool blocks ns ∷ []) e).feeds c ≡ None
    stranger zero c = at_nil c
    stranger (suc e) c = at_nil c

pub tied_host : (G H : Facts) (m : MachineView) (blocks : ℕ) (ns : Bool) → IsStep G H (commands.Host blocks ns) → IsShown G m → G.born ≡ 0 → G.server ≡ false
    → command_lines G (commands.Host blocks ns) ≡ cond (ltb G.pool blocks) (refusal causes.NoBlocks) (host_lines (first_blocks blocks) ns) → IsTied G H (commands.Host blocks ns) m
tied_host G H m blocks ns step h none first rule = by (ltb G.pool blocks) refl
  where
    c : Command
    c = commands.Host blocks ns

    ls : lines_by m c ≡ command_lines G c
    ls = ap (λ n. cond (ltb n blocks) (refusal causes.NoBlocks) (host_lines (first_blocks blocks) ns)) h.pool ∙ sym rule

    few : (b : Bool) → ltb G.pool blocks ≡ b → ltb m.pool blocks ≡ b
    few b is = ap (λ n. ltb n blocks) h.pool ∙ is

    by : (b : Bool) → ltb G.pool blocks ≡ b → IsTied G H c m
    by true is =
        let refused : command_lines G c ≡ refusal causes.NoBlocks = rule ∙ rw is refl in
        let short = few true is in
        tied_still G H c m step h tt (rw short refl) ls (subst AreStill (sym refused) (tt, tt))
    by false is =
        let made : command_lines G c ≡ host_lines (first_blocks blocks) ns = rule ∙ rw is refl in
        let enough = few false is in
        let w : MachineView = record m { server = ns; holder = holder_after m host ns; nodes = new_host m.pool blocks ns ∷ [] } in
        let machine : acted m c ≡ w = rw enough refl in
        let B = after_line G (lines.Do c) in
        let K = after_line B (lines.Born host kinds.Host host ns (first_blocks blocks)) in
        let facts : H ≡ after_lines K (host_rest ns) = step.after ∙ ap (after_lines B) made in
        let lives : lives_at H 0 ≡ true = ap (λ F. lives_at F 0) facts ∙ (counted_lines (host_rest ns) K (uncounted_rest ns)).living 0 in
        let shown = shown_by step.laws K H (host_rest ns) w facts (uncounted_rest ns) step.flowing (host_acted G H m blocks ns step h none first made lives) in
        let after : after_command m c ≡ with_carried w (host_rest ns) = ap (λ n. with_carried n (lines_by m c)) machine ∙ ap (with_carried w) (ls ∙ made) in
        (ls, subst (IsShown H) (sym after) shown)

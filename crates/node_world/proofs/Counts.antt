-- Each command and each delivery of a settle raises what each node appended by the words of its lines that are by that node.
use Rattle.std.proofs.Common.{◌≡◌, ◌+◌, ◌<◌, ◌≤◌, ℕ, zero, suc, List, [], ◌∷◌, ◌++◌, length, take, Bool, true, false, cond, eqb, ltb, leb, not, ◌&&◌, ◌||◌, Option, None, Some, refl, sym, ap, ◌∙◌, subst, inl, inr, arith, length-append}
use Rattle.std.specs.Prelude.{◌⊎◌, slice_set}
use Rattle.std.proofs.lemmas.Bool.{eqb-true, eqb-false, ne_eqb, cases_lt}
use Rattle.std.proofs.lemmas.List.{length-set, get_or_past, get_or-set_same, get_or-set_other}
use Rattle.std.proofs.Math.ListN.{get_or-append}
use Rattle.std.proofs.Math.Seq.{get_or-append_seam}
use Rattle.xm_num.specs.declared.Enclave.{Enclave}
use Rattle.xm_num.specs.declared.Kind.{Kind}
use Rattle.xm_num.specs.declared.Pid.{Pid}
use Rattle.xm_num.specs.declared.Want.{Want}
use Rattle.xm_num.specs.declared.Cause.{Cause}
use Rattle.xm_num.specs.declared.Cause.TheVariants as causes
use Rattle.byte_link.specs.Channel.{fresh, taken, waiting_bytes}
use Rattle.xemem_language.specs.declared.command.Command.{Command}
use Rattle.xemem_language.specs.declared.command.Command.TheVariants as commands
use Rattle.xemem_language.specs.declared.call.ProcessCall.{ProcessCall}
use Rattle.xemem_language.specs.declared.call.NodeShow.{NodeShow}
use Rattle.xemem_language.specs.Calls.{call_of, show_of}
use Rattle.xemem_language.specs.declared.call.Show.TheVariants as shows
use Rattle.enclave_rules.specs.Calls.{AreCallLines, show_lines}
use Rattle.xemem_language.specs.declared.line.Line.{Line}
use Rattle.xemem_language.specs.declared.line.Line.TheVariants as lines
use Rattle.xemem_language.specs.Spelling.{line_words, words_in}
use Rattle.global_model.specs.Facts.{facts_after, facts_at}
use Rattle.global_model.specs.Flow.{IsFlowing}
use Rattle.global_model.specs.Journals.{onto, command_at}
use Rattle.enclave_rules.specs.Core.{host}
use Rattle.enclave_rules.specs.Hand.{Nothing, Calls}
use Rattle.enclave_rules.specs.View.{View}
use Rattle.enclave_rules.specs.Steps.{refusal, host_lines, first_blocks, start_lines, touch_answer, birth_lines, adopt_lines}
use Rattle.enclave_node.specs.Nodes.{NodeView, unborn_node, raised, wrote, new_host, new_node, lent, adopted, fed, fed_lines, after_feed}
use Rattle.node_machine.specs.declared.pair.Hop.{Hop}
use Rattle.node_machine.specs.declared.pair.Hop.TheVariants as hops
use Rattle.node_world.specs.Appended.{refuses, is_by, words_by}
use Rattle.node_machine.specs.Machine.{MachineView, has_node, node_at, with_node, hop_in, link_of, with_link, taken_by, is_idle, holder_after, names_shown, next_born, free_of, is_full, is_short, booted_lines, booted_nodes, touch_by, lines_over, over_machine, deliver_by, after_deliver, shown_by, lines_by, acted, after_command, call_by, node_shown}
use Rattle.node_machine.specs.Ready.{IsReady, Stands}
use Rattle.node_world.specs.Shown.{IsShown}
use Rattle.node_world.specs.World.{most_words}
use Rattle.node_world.proofs.Lists.{cond_case, node_within, set_field}
use Rattle.node_world.proofs.Stills.{AreStill, holder_is, still_answer, still_shown, show_no_call, show_stays, shown_lines, still_bytes}
use Rattle.node_world.proofs.Appends.{AreBy, holder_past, nobody, only, Adds, share, adds_append, adds_by, few_by, by_still, by_birth, by_host, by_adopt, by_records, by_call}
use Rattle.node_world.proofs.Words.{onto-append}
use Rattle.node_world.specs.Laws.{WorldLaws}

abbrev count_at : List NodeView → ℕ → ℕ
count_at nodes e = (node_at nodes e).appended

-- as far as the words are few, each node's count is raised by so many
abbrev Raises : List NodeView → List NodeView → (ℕ → ℕ) → Type 0
Raises nodes after gain = (e : ℕ) → count_at nodes e + gain e ≤ most_words → count_at after e ≡ count_at nodes e + gain e

-- the lines add so many words to those of each enclave, by which the counts of the nodes are raised
pub record Counts (c : Command) (holder : Enclave) (ls : List Line) (nodes after : List NodeView) : Type 0 where
  pub gain : ℕ → ℕ
  pub adds : Adds c holder ls gain
  pub raises : Raises nodes after gain

-- whoever knows of itself that it holds the name server is that enclave
abbrev pub Seats : MachineView → Enclave → Type 0
Seats m holder = (e : Enclave) → has_node m.nodes e.0 ≡ true → (node_at m.nodes e.0).view.core.holder ≡ true → holder ≡ e

-- where the machine shows the facts of a journal, that is the enclave with the name server
pub seats_of : WorldLaws → (m : MachineView) (journal : List Line) → IsFlowing (facts_after journal) → IsShown (facts_after journal) m → Seats m (facts_at (onto journal [])).holder
seats_of laws m journal flowing h e has holds =
    let node = h.nodes e.0 (sym (h.living e.0) ∙ has) in
    ap (λ F. F.holder) (laws.past journal []) ∙ holder_is (facts_after journal) flowing e (ap (λ (v : View). v.core.holder) (sym node.view) ∙ holds)

-- no node appended anything, where none is born
pub nothing : (e : ℕ) → count_at [] e ≡ 0
nothing zero = refl
nothing (suc e) = refl

-- ---- nodes that change

raised_few : (count more : ℕ) → count + more ≤ most_words → raised count more ≡ count + more
raised_few count more few = omega (arith, few)

-- no node writes
counts_none : (c : Command) (holder : Enclave) (ls : List Line) (nodes : List NodeView) → AreBy c holder nobody ls → Counts c holder ls nodes nodes
counts_none c holder ls nodes by = record { gain = share nobody ls; adds = adds_by c holder nobody ls by; raises = λ e few. omega arith }

-- one node changes, and its count is raised by so many
raises_one : (nodes : List NodeView) (of : Enclave) (node : NodeView) (more : ℕ) → of.0 < length nodes → node.appended ≡ raised (count_at nodes of.0) more
    → Raises nodes (slice_set nodes of.0 node) (λ e. cond (only of e) more 0)
raises_one nodes of node more within is e few = by (eqb of.0 e) refl few
  where
    by : (b : Bool) → eqb of.0 e ≡ b → count_at nodes e + cond b more 0 ≤ most_words → count_at (slice_set nodes of.0 node) e ≡ count_at nodes e + cond b more 0
    by true same few =
        let here : of.0 ≡ e = eqb-true of.0 e same in
        ap (λ k. count_at (slice_set nodes of.0 node) k) (sym here) ∙ ap (λ n. n.appended) (get_or-set_same nodes of.0 node (unborn_node 0 host []) within) ∙ is
        ∙ ap (λ k. raised (count_at nodes k) more) here ∙ raised_few (count_at nodes e) more few
    by false same few =
        let apart = eqb-false of.0 e same in
        let other = ap (λ n. n.appended) (get_or-set_other nodes of.0 e node (unborn_node 0 host []) (λ s. apart (sym s))) in
        omega (arith, other)

-- one node writes the lines
counts_one : (c : Command) (holder : Enclave) (nodes : List NodeView) (of : Enclave) (node : NodeView) (ls : List Line) → of.0 < length nodes → node.appended ≡ raised (count_at nodes of.0) (words_in ls) → AreBy c holder (only of) ls
    → Counts c holder ls nodes (slice_set nodes of.0 node)
counts_one c holder nodes of node ls within is by = record { gain = share (only of) ls; adds = adds_by c holder (only of) ls by; raises = raises_one nodes of node (words_in ls) within is }

-- one more node is put behind the others
raises_more : (nodes after : List NodeView) (gain : ℕ → ℕ) (child : Enclave) (node : NodeView) (more : ℕ) → Raises nodes after gain → length after ≡ length nodes → child.0 ≡ length nodes → ((e : ℕ) → length nodes ≤ e → gain e ≡ 0)
    → node.appended ≡ raised 0 more → Raises nodes (after ++ node ∷ []) (λ e. cond (only child e) more 0 + gain e)
raises_more nodes after gain child node more old size last silent is e few = by (cases_lt e (length nodes))
  where
    gone : (k : ℕ) → length nodes ≤ k → count_at nodes k ≡ 0
    gone k past = ap (λ n. n.appended) (get_or_past nodes k (unborn_node 0 host []) past)

    by : (e < length nodes) ⊎ (length nodes ≤ e) → count_at (after ++ node ∷ []) e ≡ count_at nodes e + (cond (only child e) more 0 + gain e)
    by (inl within) =
        let other : only child e ≡ false = ne_eqb child.0 e (λ same. omega (arith, same, last, within)) in
        let share : cond (only child e) more 0 ≡ 0 = ap (λ b. cond b more 0) other in
        let here = ap (λ n. n.appended) (get_or-append after (node ∷ []) (unborn_node 0 host []) e (omega (arith, size, within))) in
        let before = old e (omega (arith, few, share)) in
        omega (arith, here, before, share)
    by (inr past) = new (eqb child.0 e) refl
      where
        new : (b : Bool) → eqb child.0 e ≡ b → count_at (after ++ node ∷ []) e ≡ count_at nodes e + (cond b more 0 + gain e)
        new true same =
            let at : e ≡ length after = sym (eqb-true child.0 e same) ∙ last ∙ sym size in
            let here = ap (count_at (after ++ node ∷ [])) at ∙ ap (λ n. n.appended) (get_or-append_seam after node [] (unborn_node 0 host [])) ∙ is in
            let share : cond (only child e) more 0 ≡ more = ap (λ b. cond b more 0) same in
            omega (arith, here, share, few, gone e past, silent e past)
        new false apart =
            let far = eqb-false child.0 e apart in
            let long = length-append after (node ∷ []) in
            let beyond : length (after ++ node ∷ []) ≤ e = omega (arith, long, size, past, last, λ (same : child.0 ≡ e). far same) in
            let here = ap (λ n. n.appended) (get_or_past (after ++ node ∷ []) e (unborn_node 0 host []) beyond) in
            omega (arith, here, gone e past, silent e past)

-- ---- births

counts_host : (holder : Enclave) (m : MachineView) (blocks : ℕ) (ns : Bool) → length m.nodes ≡ 0 → Counts (commands.Host blocks ns) holder (lines_by m (commands.Host blocks ns)) m.nodes (acted m (commands.Host blocks ns)).nodes
counts_host holder m blocks ns none = by (ltb m.pool blocks)
  where
    c : Command
    c = commands.Host blocks ns

    ls : List Line
    ls = host_lines (first_blocks blocks) ns

    w : MachineView
    w = record m { server = ns; holder = holder_after m host ns; nodes = new_host m.pool blocks ns ∷ [] }

    gone : (e : ℕ) → count_at m.nodes e ≡ 0
    gone e = ap (λ n. n.appended) (get_or_past m.nodes e (unborn_node 0 host []) (omega (arith, none)))

    raises : Raises m.nodes w.nodes (share (only host) ls)
    raises zero few = omega (arith, gone zero, few)
    raises (suc e) few =
        let none : share (only host) ls (suc e) ≡ 0 = ap (λ b. cond b (words_in ls) 0) (ne_eqb 0 (suc e) (λ same. omega (arith, same))) in
        omega (arith, gone (suc e), none)

    by : (b : Bool) → Counts c holder (cond b (refusal causes.NoBlocks) ls) m.nodes (cond b m w).nodes
    by true = counts_none c holder (refusal causes.NoBlocks) m.nodes (λ e. refl, tt)
    by false = record { gain = share (only host) ls; adds = adds_by c holder (only host) ls (by_host c holder (first_blocks blocks) ns); raises = raises }

module _ (holder : Enclave) (m : MachineView) (kind : Kind) (parent : Enclave) (blocks : ℕ) (ns : Bool) (me : has_node m.nodes parent.0 ≡ true → (node_at m.nodes parent.0).view.me ≡ parent) where
  abbrev boot : Command
  boot = commands.Boot kind parent blocks ns

  abbrev child : Enclave
  child = next_born m

  abbrev birth : List Line
  birth = birth_lines child kind parent (take blocks (free_of m)) ns (node_at m.nodes parent.0).view.core.heard

  abbrev asked : List Line
  asked = adopt_lines (node_at m.nodes parent.0).view child

  booted_raises : parent.0 < length m.nodes → Raises m.nodes (booted_nodes m kind parent blocks ns) (λ e. share (only child) birth e + share (only parent) asked e)
  booted_raises within = raises_more m.nodes taking (share (only parent) asked) child (new_node child kind parent (take blocks (free_of m)) ns (node_at m.nodes parent.0).view.core.heard) (words_in birth) taken (size_then ∙ size) refl silent refl
    where
      lending : List NodeView
      lending = slice_set m.nodes 0 (lent (node_at m.nodes 0) child parent (take blocks (free_of m)))

      taking : List NodeView
      taking = slice_set lending parent.0 (wrote Nothing (adopted (node_at lending parent.0) child kind) asked)

      size : length lending ≡ length m.nodes
      size = length-set m.nodes 0 (lent (node_at m.nodes 0) child parent (take blocks (free_of m)))

      size_then : length taking ≡ length lending
      size_then = length-set lending parent.0 (wrote Nothing (adopted (node_at lending parent.0) child kind) asked)

      -- lending writes nothing
      same : (e : ℕ) → count_at lending e ≡ count_at m.nodes e
      same e = set_field (λ n. n.appended) m.nodes 0 e (lent (node_at m.nodes 0) child parent (take blocks (free_of m))) (unborn_node 0 host []) refl

      taken : Raises m.nodes taking (share (only parent) asked)
      taken e few =
          let raised = raises_one lending parent (wrote Nothing (adopted (node_at lending parent.0) child kind) asked) (words_in asked) (omega (arith, size, within)) refl e (omega (arith, same e, few)) in
          omega (arith, raised, same e)

      silent : (e : ℕ) → length m.nodes ≤ e → share (only parent) asked e ≡ 0
      silent e past = ap (λ b. cond b (words_in asked) 0) (ne_eqb parent.0 e (λ is. omega (arith, is, past, within)))

  booted : has_node m.nodes parent.0 ≡ true → Counts boot holder (booted_lines m kind parent blocks ns) m.nodes (booted_nodes m kind parent blocks ns)
  booted has = record {
    gain = λ e. share (only child) birth e + share (only parent) asked e;
    adds = adds_append boot holder birth asked (share (only child) birth) (share (only parent) asked)
        (adds_by boot holder (only child) birth (by_birth boot holder child kind parent (take blocks (free_of m)) ns (node_at m.nodes parent.0).view.core.heard))
        (adds_by boot (holder_past holder birth) (only parent) asked
        (subst (λ e. AreBy boot (holder_past holder birth) (only e) asked) (me has) (by_adopt boot (holder_past holder birth) (node_at m.nodes parent.0).view child)));
    raises = booted_raises (node_within m.nodes parent.0 has);
  }

  counts_boot : Counts boot holder (lines_by m boot) m.nodes (acted m boot).nodes
  counts_boot = by (has_node m.nodes parent.0) (is_full m) (ns && m.server) (is_short m blocks) refl
    where
      w : MachineView
      w = record m {
        server = m.server || ns;
        holder = holder_after m child ns;
        nodes = booted_nodes m kind parent blocks ns;
        pairs = m.pairs ++ record { parent = parent; up = fresh; down = fresh } ∷ [];
      }

      by : (a b t d : Bool) → has_node m.nodes parent.0 ≡ a
          → Counts boot holder (cond a (cond b (refusal causes.TooMany) (cond t (refusal causes.NameServerTaken) (cond d (refusal causes.NoBlocks) (booted_lines m kind parent blocks ns)))) (refusal causes.NoEnclave)) m.nodes
          (cond (not a) m (cond b m (cond t m (cond d m w)))).nodes
      by false b t d is = counts_none boot holder (refusal causes.NoEnclave) m.nodes (λ e. refl, tt)
      by true true t d is = counts_none boot holder (refusal causes.TooMany) m.nodes (λ e. refl, tt)
      by true false true d is = counts_none boot holder (refusal causes.NameServerTaken) m.nodes (λ e. refl, tt)
      by true false false true is = counts_none boot holder (refusal causes.NoBlocks) m.nodes (λ e. refl, tt)
      by true false false false is = booted is

-- ---- calls of processes

counts_start : (holder : Enclave) (m : MachineView) (e : Enclave) (uid gid : ℕ) → (has_node m.nodes e.0 ≡ true → (node_at m.nodes e.0).view.me ≡ e) → Counts (commands.Proc e uid gid) holder (lines_by m (commands.Proc e uid gid)) m.nodes (acted m (commands.Proc e uid gid)).nodes
counts_start holder m e uid gid me = by (has_node m.nodes e.0) (leb 1024 m.starts) refl
  where
    c : Command
    c = commands.Proc e uid gid

    ls : List Line
    ls = start_lines (node_at m.nodes e.0).view uid gid

    w : MachineView
    w = record m { nodes = slice_set m.nodes e.0 (wrote Nothing (node_at m.nodes e.0) ls); starts = m.starts + 1 }

    by : (a b : Bool) → has_node m.nodes e.0 ≡ a → Counts c holder (cond a (cond b (refusal causes.TooMany) ls) (refusal causes.NoEnclave)) m.nodes (cond (not a) m (cond b m w)).nodes
    by false b is = counts_none c holder (refusal causes.NoEnclave) m.nodes (λ e. refl, tt)
    by true true is = counts_none c holder (refusal causes.TooMany) m.nodes (λ e. refl, tt)
    by true false is =
        let lt = node_within m.nodes e.0 is in
        counts_one c holder m.nodes e (wrote Nothing (node_at m.nodes e.0) ls) ls lt refl (λ k. ap (λ a. only a k) (me is), tt)

counts_call : WorldLaws → (holder : Enclave) (m : MachineView) (c : Command) (k : ProcessCall) → call_of c ≡ Some k → Seats m holder → (has_node m.nodes k.enclave.0 ≡ true → (node_at m.nodes k.enclave.0).view.me ≡ k.enclave)
    → Counts c holder (lines_by m c) m.nodes (acted m c).nodes
counts_call laws holder m c k is seats me = rw is (by (has_node m.nodes k.enclave.0) refl)
  where
    e : Enclave
    e = k.enclave

    v : View
    v = (node_at m.nodes e.0).view

    ls : List Line
    ls = call_by m k

    refused : (j : ℕ) → refuses j (Some c) causes.NoEnclave ≡ false
    refused j = rw is refl

    by : (a : Bool) → has_node m.nodes e.0 ≡ a → Counts c holder (cond a ls (refusal causes.NoEnclave)) m.nodes (cond a (with_node m e.0 (wrote (Calls k) (node_at m.nodes e.0) ls)) m).nodes
    by false gone = counts_none c holder (refusal causes.NoEnclave) m.nodes (refused, tt)
    by true here =
        let lt = node_within m.nodes e.0 here in
        let own : AreCallLines holder e ls = subst (λ (a : Enclave). AreCallLines holder a ls) (me here) (laws.views.calls holder v k.pid k.call (λ holds. seats e here holds ∙ sym (me here))) in
        counts_one c holder m.nodes e (wrote (Calls k) (node_at m.nodes e.0) ls) ls lt refl (by_call c k is holder ls own)

-- ---- deliveries

-- The command at hand is the delivery's own, or a settle.
module _ (laws : WorldLaws) (hand : Command) (quiet : (e : ℕ) (cause : Cause) → refuses e (Some hand) cause ≡ false) (holder : Enclave) (m : MachineView) (x y : Enclave) (count : ℕ) (seats : Seats m holder) (me : has_node m.nodes y.0 ≡ true → (node_at m.nodes y.0).view.me ≡ y) where
  -- nothing goes to an enclave that doesn't live
  gone_hop : has_node m.nodes y.0 ≡ false → hop_in m x y ≡ hops.NoEnclave
  gone_hop is = rw is refl

  counts_over : has_node m.nodes y.0 ≡ true → (hop : Hop) → Counts hand holder (lines_over m x y count hop) m.nodes (over_machine m x y count hop).nodes
  counts_over has hop = by (is_idle (link_of m.pairs hop))
    where
      n : ℕ
      n = taken_by (link_of m.pairs hop) count

      node : NodeView
      node = node_at m.nodes y.0

      piece : List ℕ
      piece = take n (waiting_bytes (link_of m.pairs hop))

      ls : List Line
      ls = fed_lines node x piece

      w : MachineView
      w = record (with_node m y.0 (after_feed node x piece)) { pairs = with_link m.pairs hop (taken (link_of m.pairs hop) n) }

      took : List Line
      took = lines.Took x y n ∷ []

      busy : Counts hand holder (took ++ ls) m.nodes w.nodes
      busy = record {
        gain = λ e. share nobody took e + share (only y) ls e;
        adds = adds_append hand holder took ls (share nobody took) (share (only y) ls) (adds_by hand holder nobody took (λ e. refl, tt))
            (adds_by hand holder (only y) ls (subst (λ e. AreBy hand holder (only e) ls) (me has) (by_records laws.views hand holder node.view x (fed node x piece).records (λ holds. seats y has holds ∙ sym (me has)))));
        raises = λ e few. raises_one m.nodes y (after_feed node x piece) (words_in ls) (node_within m.nodes y.0 has) refl e (omega (arith, few)) ∙ omega arith;
      }

      by : (b : Bool) → Counts hand holder (cond b (lines.Idle x y ∷ []) (lines.Took x y n ∷ ls)) m.nodes (cond b m w).nodes
      by true = counts_none hand holder (lines.Idle x y ∷ []) m.nodes (λ e. refl, tt)
      by false = busy

  counts_deliver : Counts hand holder (deliver_by m x y count (hop_in m x y)) m.nodes (after_deliver m x y count (hop_in m x y)).nodes
  counts_deliver = by (has_node m.nodes y.0) refl
    where
      at : (hop : Hop) → Type 0
      at hop = Counts hand holder (deliver_by m x y count hop) m.nodes (after_deliver m x y count hop).nodes

      refused : (cause : Cause) → Counts hand holder (refusal cause) m.nodes m.nodes
      refused cause = counts_none hand holder (refusal cause) m.nodes (λ e. quiet e cause, tt)

      over : has_node m.nodes y.0 ≡ true → (hop : Hop) → at hop
      over within hops.NoEnclave = refused causes.NoEnclave
      over within hops.NoLink = refused causes.NoLink
      over within (hops.Up i) = counts_over within (hops.Up i)
      over within (hops.Down i) = counts_over within (hops.Down i)

      by : (b : Bool) → has_node m.nodes y.0 ≡ b → at (hop_in m x y)
      by true is = over is (hop_in m x y)
      by false is = subst at (sym (gone_hop is)) (refused causes.NoEnclave)

-- ---- what is shown

counts_still : (c : Command) → ((e : ℕ) (cause : Cause) → refuses e (Some c) cause ≡ false) → (holder : Enclave) (ls : List Line) (nodes : List NodeView) → AreStill ls → Counts c holder ls nodes nodes
counts_still c quiet holder ls nodes still = counts_none c holder ls nodes (by_still c quiet ls still holder)

counts_touch : (holder : Enclave) (m : MachineView) (e : Enclave) (p : Pid) (addr : ℕ) (want : Want) → Counts (commands.Touch e p addr want) holder (lines_by m (commands.Touch e p addr want)) m.nodes m.nodes
counts_touch holder m e p addr want = counts_still (commands.Touch e p addr want) (λ e cause. refl) holder (lines_by m (commands.Touch e p addr want)) m.nodes
    (cond_case (has_node m.nodes e.0) (touch_by m e p addr want) (refusal causes.NoEnclave) AreStill (still_answer e p (touch_answer (node_at m.nodes e.0).view p addr want)) (tt, tt))

counts_show_link : (holder : Enclave) (m : MachineView) (x y : Enclave) → Counts (commands.ShowLink x y) holder (lines_by m (commands.ShowLink x y)) m.nodes m.nodes
counts_show_link holder m x y = counts_still (commands.ShowLink x y) (λ e cause. refl) holder (lines_by m (commands.ShowLink x y)) m.nodes (by (hop_in m x y))
  where
    by : (hop : Hop) → AreStill (shown_by m x y hop)
    by hops.NoEnclave = (tt, tt)
    by hops.NoLink = (tt, tt)
    by (hops.Up i) = still_bytes x y _ 0 _
    by (hops.Down i) = still_bytes x y _ 0 _

counts_show_names : WorldLaws → (holder : Enclave) (m : MachineView) → Counts commands.ShowNames holder (names_shown m) m.nodes m.nodes
counts_show_names laws holder m =
    let names = show_lines (node_at m.nodes m.holder.0).view shows.Names in
    counts_still commands.ShowNames (λ e cause. refl) holder (names_shown m) m.nodes
    (cond_case m.server names (refusal causes.NotReady) AreStill (still_shown names (laws.views.shows (node_at m.nodes m.holder.0).view shows.Names)) (tt, tt))

counts_show : WorldLaws → (holder : Enclave) (m : MachineView) (c : Command) (s : NodeShow) → show_of c ≡ Some s → Counts c holder (lines_by m c) m.nodes (acted m c).nodes
counts_show laws holder m c s is = subst (λ (w : MachineView). Counts c holder (lines_by m c) m.nodes w.nodes) (sym (show_stays m c s is))
    (counts_still c (λ e cause. let none = show_no_call c s is in rw none refl) holder (lines_by m c) m.nodes
    (subst AreStill (sym (shown_lines m c s is))
    (cond_case (has_node m.nodes s.enclave.0) (node_shown m s) (refusal causes.NoEnclave) AreStill
    (still_shown (node_shown m s) (laws.views.shows (node_at m.nodes s.enclave.0).view s.show)) (tt, tt))))

-- ---- any command

counted_other : WorldLaws → (holder : Enclave) (m : MachineView) (c : Command) → call_of c ≡ None → show_of c ≡ None → Seats m holder → IsReady m → Stands m c → Counts c holder (lines_by m c) m.nodes (acted m c).nodes
counted_other laws holder m (commands.Pool blocks) no_call no_show seats ready stands = counts_none (commands.Pool blocks) holder [] m.nodes tt
counted_other laws holder m (commands.Host blocks ns) no_call no_show seats ready stands = counts_host holder m blocks ns stands.0
counted_other laws holder m (commands.Boot kind parent blocks ns) no_call no_show seats ready stands = counts_boot holder m kind parent blocks ns (λ within. (ready.nodes parent.0 within).me)
counted_other laws holder m (commands.Proc e uid gid) no_call no_show seats ready stands = counts_start holder m e uid gid (λ within. (ready.nodes e.0 within).me)
counted_other laws holder m (commands.Touch e p addr want) no_call no_show seats ready stands = counts_touch holder m e p addr want
counted_other laws holder m (commands.Deliver x y count) no_call no_show seats ready stands = counts_deliver laws (commands.Deliver x y count) (λ e cause. refl) holder m x y count seats (λ within. (ready.nodes y.0 within).me)
counted_other laws holder m (commands.Settle most) no_call no_show seats ready stands = absurd stands
counted_other laws holder m (commands.ShowLink x y) no_call no_show seats ready stands = counts_show_link holder m x y
counted_other laws holder m commands.ShowNames no_call no_show seats ready stands = counts_show_names laws holder m
counted_other laws holder m (commands.Alloc e p page count) no_call no_show seats ready stands = cc
counted_other laws holder m (commands.Make e p addr size mode) no_call no_show seats ready stands = cc
counted_other laws holder m (commands.Remove e p segid) no_call no_show seats ready stands = cc
counted_other laws holder m (commands.ShowRoutes e) no_call no_show seats ready stands = cc
counted_other laws holder m commands.ShowPool no_call no_show seats ready stands = cc
counted_other laws holder m c no_call no_show seats ready stands = counts_none c holder [] m.nodes tt

pub counted : WorldLaws → (holder : Enclave) (m : MachineView) (c : Command) → Seats m holder → IsReady m → Stands m c → Counts c holder (lines_by m c) m.nodes (acted m c).nodes
counted laws holder m c seats ready stands = by (call_of c) refl (show_of c) refl
  where
    by : (call : Option ProcessCall) → call_of c ≡ call → (show : Option NodeShow) → show_of c ≡ show → Counts c holder (lines_by m c) m.nodes (acted m c).nodes
    by (Some k) is show shown = counts_call laws holder m c k is seats (λ within. (ready.nodes k.enclave.0 within).me)
    by None no_call (Some s) shown = counts_show laws holder m c s shown
    by None no_call None no_show = counted_other laws holder m c no_call no_show seats ready stands

-- ---- a journal

-- what each node appended are its own words of the journal
abbrev pub AreOwnWords : MachineView → List Line → Type 0
AreOwnWords m journal = (e : ℕ) → count_at m.nodes e ≡ words_by e (onto journal [])

-- a line by no node
pub counted_line : (m : MachineView) (journal : List Line) (line : Line) → ((e : ℕ) (past : List Line) → is_by e past line ≡ false) → AreOwnWords m journal → AreOwnWords m (journal ++ line ∷ [])
counted_line m journal line quiet counted e =
    counted e ∙ sym (ap (words_by e) (onto-append journal (line ∷ []) []) ∙ ap (λ b. cond b (length (line_words line)) 0 + words_by e (onto journal [])) (quiet e (onto journal [])) ∙ omega arith)

-- the lines of a command raise the counts, as long as the journal is short
counted_more : (hand : Command) (m : MachineView) (ls journal : List Line) (after : List NodeView) → Counts hand (facts_at (onto journal [])).holder ls m.nodes after → command_at (onto journal []) ≡ Some hand → AreOwnWords m journal → words_in (journal ++ ls) ≤ most_words
    → (e : ℕ) → count_at after e ≡ words_by e (onto (journal ++ ls) [])
counted_more hand m ls journal after k at old short e =
    let all = ap (words_by e) (onto-append journal ls []) in
    let words = k.adds.words (onto journal []) at refl e in
    let few = few_by e (journal ++ ls) [] in
    let sum : count_at m.nodes e + k.gain e ≡ words_by e (onto (journal ++ ls) []) = omega (arith, old e, all, words) in
    k.raises e (omega (arith, sum, few, short)) ∙ sum

-- those of a command at hand
pub counted_after : WorldLaws → (m : MachineView) (c : Command) (journal : List Line) → IsReady m → Stands m c → Seats m (facts_at (onto journal [])).holder → command_at (onto journal []) ≡ Some c → AreOwnWords m journal → words_in (journal ++ lines_by m c) ≤ most_words
    → AreOwnWords (after_command m c) (journal ++ lines_by m c)
counted_after laws m c journal ready stands seats at old short = counted_more c m (lines_by m c) journal (acted m c).nodes (counted laws (facts_at (onto journal [])).holder m c seats ready stands) at old short

-- those of a delivery, while a settle is at hand, which stays so
module _ (laws : WorldLaws) (m : MachineView) (x y : Enclave) (count most : ℕ) (journal : List Line) (ready : IsReady m) (seats : Seats m (facts_at (onto journal [])).holder) (at : command_at (onto journal []) ≡ Some (commands.Settle most)) where
  abbrev ls : List Line
  ls = lines_by m (commands.Deliver x y count)

  made : Counts (commands.Settle most) (facts_at (onto journal [])).holder ls m.nodes (acted m (commands.Deliver x y count)).nodes
  made = counts_deliver laws (commands.Settle most) (λ e cause. refl) (facts_at (onto journal [])).holder m x y count seats (λ within. (ready.nodes y.0 within).me)

  pub counted_delivery : AreOwnWords m journal → words_in (journal ++ ls) ≤ most_words → AreOwnWords (after_command m (commands.Deliver x y count)) (journal ++ ls)
  counted_delivery old short = counted_more (commands.Settle most) m ls journal (acted m (commands.Deliver x y count)).nodes made at old short

  pub hand_delivery : command_at (onto (journal ++ ls) []) ≡ Some (commands.Settle most)
  hand_delivery = ap command_at (onto-append journal ls []) ∙ made.adds.hand (onto journal []) at

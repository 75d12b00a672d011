-- A command by the facts is the one that the machine makes: those that change nothing.
use Rattle.std.proofs.Common.{◌≡◌, ◌+◌, ◌≤◌, ℕ, zero, suc, List, [], ◌∷◌, ◌++◌, drop, Bool, true, false, cond, Option, None, Some, Result, Ok, Err, refl, sym, ap, ◌∙◌, subst}
use Rattle.std.specs.Prelude.{is_some}
use Rattle.std.proofs.lemmas.Bool.{ltb-true}
use Rattle.xm_num.specs.declared.Enclave.{Enclave}
use Rattle.xm_num.specs.declared.Pid.{Pid}
use Rattle.xm_num.specs.declared.Vpn.{Vpn}
use Rattle.xm_num.specs.declared.Frame.{Frame}
use Rattle.xm_num.specs.declared.Want.{Want}
use Rattle.xm_num.specs.declared.Cause.{Cause}
use Rattle.xm_num.specs.declared.Cause.TheVariants as causes
use Rattle.xemem_language.specs.declared.command.Command.{Command}
use Rattle.xemem_language.specs.declared.command.Command.TheVariants as commands
use Rattle.xemem_language.specs.declared.call.NodeShow.{NodeShow}
use Rattle.xemem_language.specs.declared.call.Show.TheVariants as shows
use Rattle.xemem_language.specs.Calls.{call_of, show_of}
use Rattle.enclave_rules.specs.Calls.{show_lines, AreShowLines}
use Rattle.xemem_language.specs.declared.line.Line.{Line}
use Rattle.xemem_language.specs.declared.line.Line.TheVariants as lines
use Rattle.global_model.specs.Facts.{EnclaveFact, Facts, facts_after, after_line, after_lines, fact_of, lives_at}
use Rattle.global_model.specs.Flow.{IsFlowing}
use Rattle.enclave_rules.specs.Core.{is_guest}
use Rattle.enclave_rules.specs.Hand.{Hand}
use Rattle.enclave_rules.specs.View.{View, unborn_view}
use Rattle.global_model.specs.Apt.{IsTaking}
use Rattle.global_model.specs.Handled.{AreHandled}
use Rattle.global_model.specs.Views.{view_of, seen_lines}
use Rattle.enclave_rules.specs.Steps.{refusal, answer_lines, touch_answer, bytes_lines}
use Rattle.global_model.specs.Known.{IsAnswered, at_living, names_asked}
use Rattle.global_model.specs.Due.{command_lines, step_lines, journal_of}
use Rattle.global_model.specs.Place.{IsPlaced, IsPlacedAfter}
use Rattle.node_machine.specs.declared.pair.Pair.{Pair}
use Rattle.enclave_node.specs.Nodes.{NodeView}
use Rattle.node_machine.specs.Machine.{MachineView, node_at, at_node, lines_by, acted, carried, with_carried, after_command, node_shown}
use Rattle.node_machine.specs.Machine.{enclave_numbered}
use Rattle.node_world.specs.Shown.{IsShown}
use Rattle.node_world.specs.Laws.{WorldLaws}
use Rattle.node_world.proofs.Lists.{cond_case}

-- ---- a step by the facts

-- the laws, the facts before and after a command, and the views of the enclaves that then live
pub record IsStep (G H : Facts) (c : Command) : Type 0 where
  pub laws : WorldLaws
  pub after : H ≡ after_lines G (step_lines G c)
  pub before : IsFlowing G
  pub flowing : IsFlowing H
  pub answered : IsAnswered G
  pub views : (e : ℕ) → lives_at H e ≡ true → view_of H (enclave_numbered e) ≡ seen_lines (after_line G (lines.Do c)) (view_of G (enclave_numbered e)) (command_lines G c)
  pub unborn : (e : Enclave) → G.born ≤ e.0 → view_of G e ≡ unborn_view G.pool e
  pub plain : (e : Enclave) → is_guest (view_of G e).core.kind ≡ false
  pub handled : (x y : Enclave) (n : ℕ) → IsTaking G x y n → AreHandled (after_line G (lines.Took x y n)) x y

pub placed_before : (before : ℕ) (commands more : List Command) → IsPlacedAfter before (commands ++ more) → IsPlacedAfter before commands
placed_before before [] more placed = tt
placed_before before (c ∷ commands) more placed = (placed.0, placed.1, placed_before (before + 1) commands more placed.2)

pub step_of : WorldLaws → (commands : List Command) (c : Command) → IsPlaced (commands ++ c ∷ []) → IsStep (facts_after (journal_of commands)) (facts_after (journal_of (commands ++ c ∷ []))) c
step_of laws commands c placed =
    let G = facts_after (journal_of commands) in
    let H = facts_after (journal_of (commands ++ c ∷ [])) in
    let first = placed_before 0 commands (c ∷ []) placed in
    let flowing = laws.flowing (commands ++ c ∷ []) placed in
    record {
      laws = laws;
      after = ap facts_after (laws.journal commands c) ∙ laws.facts (journal_of commands) (step_lines G c);
      before = laws.flowing commands first;
      flowing = flowing;
      answered = laws.views.answered commands first;
      views = λ e lives. laws.views.seen commands c placed (enclave_numbered e) lives;
      unborn = laws.views.unborn commands first;
      plain = laws.views.plain commands first;
      handled = laws.views.handled commands first;
    }

-- the machine's lines are those of the rules, and it shows the facts after them
abbrev pub IsTied : Facts → Facts → Command → MachineView → Type 0
IsTied G H c m = (lines_by m c ≡ command_lines G c) × IsShown H (after_command m c)

-- ---- the name server

-- who knows that it holds the name server is the one that does
pub holder_is : (G : Facts) → IsFlowing G → (e : Enclave) → (view_of G e).core.holder ≡ true → G.holder ≡ e
holder_is G flowing e holds = ap enclave_numbered (flowing.server.held e.0 holds).1

-- and that one lives
pub holder_lives : (G : Facts) → IsFlowing G → G.server ≡ true → lives_at G G.holder.0 ≡ true
holder_lives G flowing served = flowing.tree.all_live G.holder.0 (ltb-true G.holder.0 G.born (sym (flowing.tree.enclaves G.holder.0).known ∙ known (G.enclave G.holder.0) (flowing.server.seated served)))
  where
    known : (fact : Option EnclaveFact) → (fact_of fact).ns ≡ true → is_some fact ≡ true
    known None holds = cc
    known (Some fact) holds = refl

-- ---- lines that change nothing

abbrev pub IsStill : Line → Type 0
IsStill (lines.Refused cause) = Unit {0}
IsStill (lines.Touched e p page frame) = Unit {0}
IsStill (lines.Idle x y) = Unit {0}
IsStill (lines.Bytes x y at bytes) = Unit {0}
IsStill (lines.AtWayOwn e) = Unit {0}
IsStill (lines.AtWayNone e) = Unit {0}
IsStill (lines.AtWay e over) = Unit {0}
IsStill (lines.AtRoute e of over) = Unit {0}
IsStill (lines.BlockFree b) = Unit {0}
IsStill (lines.BlockLent b e) = Unit {0}
IsStill (lines.BlockHeld b e) = Unit {0}
IsStill (lines.Name segid owner) = Unit {0}
IsStill line = ⊥

abbrev pub AreStill : List Line → Type 0
AreStill [] = Unit {0}
AreStill (line ∷ journal) = IsStill line × AreStill journal

still_facts : (ls : List Line) (G : Facts) → AreStill ls → after_lines G ls ≡ G
still_facts [] G still = refl
still_facts (lines.Refused cause ∷ ls) G still = still_facts ls G still.1
still_facts (lines.Touched e p page frame ∷ ls) G still = still_facts ls G still.1
still_facts (lines.Idle x y ∷ ls) G still = still_facts ls G still.1
still_facts (lines.Bytes x y at bytes ∷ ls) G still = still_facts ls G still.1
still_facts (lines.AtWayOwn e ∷ ls) G still = still_facts ls G still.1
still_facts (lines.AtWayNone e ∷ ls) G still = still_facts ls G still.1
still_facts (lines.AtWay e over ∷ ls) G still = still_facts ls G still.1
still_facts (lines.AtRoute e of over ∷ ls) G still = still_facts ls G still.1
still_facts (lines.BlockFree b ∷ ls) G still = still_facts ls G still.1
still_facts (lines.BlockLent b e ∷ ls) G still = still_facts ls G still.1
still_facts (lines.BlockHeld b e ∷ ls) G still = still_facts ls G still.1
still_facts (lines.Name segid owner ∷ ls) G still = still_facts ls G still.1
still_facts (_ ∷ ls) G still = absurd still.0

still_carried : (ls : List Line) (nodes : List NodeView) (pairs : List Pair) → AreStill ls → carried nodes pairs ls ≡ pairs
still_carried [] nodes pairs still = refl
still_carried (lines.Sent x y r ∷ ls) nodes pairs still = absurd still.0
still_carried (_ ∷ ls) nodes pairs still = still_carried ls nodes pairs still.1

-- a command that makes no pool
abbrev pub IsNoPool : Command → Type 0
IsNoPool (commands.Pool blocks) = ⊥
IsNoPool command = Unit {0}

-- leaves what the machine shows as it was by its `do` line
pub shown_hand : (G : Facts) (hand : Hand) (m : MachineView) → IsShown G m → IsShown (record G { hand = hand }) m
shown_hand G hand m h = record {
  pool = h.pool;
  server = h.server;
  holder = h.holder;
  starts = h.starts;
  born = h.born;
  pairs = h.pairs;
  living = h.living;
  nodes = λ e lives. let node = h.nodes e lives in record { view = node.view; going = node.going };
  links = λ i within. let pair = h.links i within in record {
    parent = pair.parent;
    above = pair.above;
    up = λ lives. let link = pair.up lives in record { bytes = link.bytes; feed = link.feed };
    down = λ lives. let link = pair.down lives in record { bytes = link.bytes; feed = link.feed };
  };
  strangers = h.strangers;
}

pub shown_begun : (G : Facts) (c : Command) (m : MachineView) → IsNoPool c → IsShown G m → IsShown (after_line G (lines.Do c)) m
shown_begun G (commands.Pool blocks) m other h = absurd other
shown_begun G _ m other h = shown_hand G _ m h

-- a command that leaves the machine as it is
pub tied_still : (G H : Facts) (c : Command) (m : MachineView) → IsStep G H c → IsShown G m → IsNoPool c → acted m c ≡ m → lines_by m c ≡ command_lines G c → AreStill (command_lines G c) → IsTied G H c m
tied_still G H c m step h other same ls still =
    let B = after_line G (lines.Do c) in
    let facts : H ≡ B = step.after ∙ still_facts (command_lines G c) B still in
    let machine : after_command m c ≡ m = ap (λ n. with_carried n (lines_by m c)) same ∙ ap (with_carried m) ls ∙ ap (λ (pairs : List Pair). record m { pairs = pairs }) (still_carried (command_lines G c) m.nodes m.pairs still) in
    (ls, subst (λ F. IsShown F (after_command m c)) (sym facts) (subst (IsShown B) (sym machine) (shown_begun G c m other h)))

-- ---- lines at an enclave

-- what is written at an enclave by its view is what the rules write there
pub at_is : (G : Facts) (m : MachineView) → IsShown G m → (e : Enclave) (f : View → List Line) → at_node m e (f (node_at m.nodes e.0).view) ≡ at_living G e (f (view_of G e))
at_is G m h e f = ap (λ b. cond b (f (node_at m.nodes e.0).view) (refusal causes.NoEnclave)) (h.living e.0) ∙ by (lives_at G e.0) refl
  where
    by : (b : Bool) → lives_at G e.0 ≡ b → cond b (f (node_at m.nodes e.0).view) (refusal causes.NoEnclave) ≡ cond b (f (view_of G e)) (refusal causes.NoEnclave)
    by true is = ap f (h.nodes e.0 is).view
    by false is = refl

pub still_answer : (e : Enclave) (p : Pid) (answer : Result (Vpn × Frame) Cause) → AreStill (answer_lines e p answer)
still_answer e p (Ok found) = (tt, tt)
still_answer e p (Err cause) = (tt, tt)

pub tied_touch : (G H : Facts) (m : MachineView) (e : Enclave) (p : Pid) (addr : ℕ) (want : Want) → IsStep G H (commands.Touch e p addr want) → IsShown G m → IsTied G H (commands.Touch e p addr want) m
tied_touch G H m e p addr want step h =
    let rule = step.answered.touch e p addr want in
    tied_still G H (commands.Touch e p addr want) m step h tt refl (at_is G m h e (λ v. answer_lines e p (touch_answer v p addr want)) ∙ sym rule)
    (subst AreStill (sym rule) (cond_case (lives_at G e.0) _ (refusal causes.NoEnclave) AreStill (still_answer e p (touch_answer (view_of G e) p addr want)) (tt, tt)))

-- ---- what is shown of a node

-- lines that show something are still
pub still_shown : (ls : List Line) → AreShowLines ls → AreStill ls
still_shown [] shown = tt
still_shown (lines.AtWay e over ∷ ls) shown = (tt, still_shown ls shown.1)
still_shown (lines.AtWayOwn e ∷ ls) shown = (tt, still_shown ls shown.1)
still_shown (lines.AtWayNone e ∷ ls) shown = (tt, still_shown ls shown.1)
still_shown (lines.AtRoute e of over ∷ ls) shown = (tt, still_shown ls shown.1)
still_shown (lines.BlockFree b ∷ ls) shown = (tt, still_shown ls shown.1)
still_shown (lines.BlockLent b e ∷ ls) shown = (tt, still_shown ls shown.1)
still_shown (lines.BlockHeld b e ∷ ls) shown = (tt, still_shown ls shown.1)
still_shown (lines.Name segid owner ∷ ls) shown = (tt, still_shown ls shown.1)
still_shown (_ ∷ ls) shown = absurd shown.0

-- a command that shows a node is no call, and changes neither the facts nor the machine
pub show_no_call : (c : Command) (s : NodeShow) → show_of c ≡ Some s → call_of c ≡ None
show_no_call (commands.Alloc e p at pages) s is = cc
show_no_call (commands.Make e p addr size mode) s is = cc
show_no_call (commands.Remove e p segid) s is = cc
show_no_call _ s is = refl

show_no_pool : (c : Command) (s : NodeShow) → show_of c ≡ Some s → IsNoPool c
show_no_pool (commands.Pool blocks) s is = cc
show_no_pool _ s is = tt

pub show_stays : (m : MachineView) (c : Command) (s : NodeShow) → show_of c ≡ Some s → acted m c ≡ m
show_stays m (commands.ShowRoutes e) s is = refl
show_stays m commands.ShowPool s is = refl
show_stays m _ s is = cc

pub shown_lines : (m : MachineView) (c : Command) (s : NodeShow) → show_of c ≡ Some s → lines_by m c ≡ at_node m s.enclave (node_shown m s)
shown_lines m c s is = rw (show_no_call c s is, is) refl

pub tied_show : (G H : Facts) (m : MachineView) (c : Command) (s : NodeShow) → show_of c ≡ Some s → IsStep G H c → IsShown G m → IsTied G H c m
tied_show G H m c s is step h =
    let rule = step.answered.show c s is in
    let still = still_shown (show_lines (view_of G s.enclave) s.show) (step.laws.views.shows (view_of G s.enclave) s.show) in
    tied_still G H c m step h (show_no_pool c s is) (show_stays m c s is)
    (shown_lines m c s is ∙ at_is G m h s.enclave (λ v. show_lines v s.show) ∙ sym rule)
    (subst AreStill (sym rule) (cond_case (lives_at G s.enclave.0) _ (refusal causes.NoEnclave) AreStill still (tt, tt)))

-- the names are shown of the node that holds them
pub tied_show_names : (G H : Facts) (m : MachineView) → IsStep G H commands.ShowNames → IsShown G m → IsTied G H commands.ShowNames m
tied_show_names G H m step h = tied_still G H commands.ShowNames m step h tt refl (shown G.server refl ∙ sym rule) (subst AreStill (sym rule) still)
  where
    rule : command_lines G commands.ShowNames ≡ names_asked G
    rule = step.answered.names

    still : AreStill (names_asked G)
    still = cond_case G.server (show_lines (view_of G G.holder) shows.Names) (refusal causes.NotReady) AreStill
        (still_shown (show_lines (view_of G G.holder) shows.Names) (step.laws.views.shows (view_of G G.holder) shows.Names)) (tt, tt)

    shown : (b : Bool) → G.server ≡ b → lines_by m commands.ShowNames ≡ names_asked G
    shown true served =
        let known : m.server ≡ true = h.server ∙ served in
        let there = holder_lives G step.before served in
        rw (known, served) (ap (λ (e : Enclave). show_lines (node_at m.nodes e.0).view shows.Names) h.holder ∙ ap (λ v. show_lines v shows.Names) (h.nodes G.holder.0 there).view)
    shown false served = let known : m.server ≡ false = h.server ∙ served in rw (known, served) refl

pub still_bytes : (x y : Enclave) (most at : ℕ) (bytes : List ℕ) → AreStill (bytes_lines x y most at bytes)
still_bytes x y zero at bytes = tt
still_bytes x y (suc most) at [] = tt
still_bytes x y (suc most) at (byte ∷ bytes) = (tt, still_bytes x y most (at + 32) (drop 32 (byte ∷ bytes)))

-- Commands whose lines are all at one enclave: a process starts, and a process makes a call.
use Rattle.std.proofs.Common.{◌≡◌, ◌+◌, ◌<◌, ℕ, List, [], ◌∷◌, length, Bool, true, false, cond, leb, Some, refl, sym, ap, ◌∙◌, subst}
use Rattle.std.specs.Prelude.{slice_set}
use Rattle.std.proofs.lemmas.List.{length-set}
use Rattle.xm_num.specs.declared.Enclave.{Enclave}
use Rattle.xm_num.specs.declared.Cause.TheVariants as causes
use Rattle.xm_num.specs.Rows.{at}
use Rattle.xemem_wire.specs.Decoding.{Decoding}
use Rattle.xemem_language.specs.declared.command.Command.{Command}
use Rattle.xemem_language.specs.declared.command.Command.TheVariants as commands
use Rattle.xemem_language.specs.declared.call.ProcessCall.{ProcessCall}
use Rattle.xemem_language.specs.Calls.{call_of}
use Rattle.enclave_rules.specs.Calls.{call_lines, IsCallLine, AreCallLines}
use Rattle.xemem_language.specs.declared.line.Line.{Line}
use Rattle.xemem_language.specs.declared.line.Line.TheVariants as lines
use Rattle.global_model.specs.Facts.{Facts, after_line, after_lines, lives_at}
use Rattle.enclave_rules.specs.Hand.{Hand, Nothing, Calls}
use Rattle.attach_map.specs.Attaching.{AttacherState}
use Rattle.enclave_rules.specs.View.{View, own_lines, IsAbout, AreAbout}
use Rattle.global_model.specs.Views.{view_of, seen_lines}
use Rattle.xemem_language.specs.declared.call.Call.TheVariants as calls
use Rattle.enclave_rules.specs.Steps.{refusal, start_lines}
use Rattle.global_model.specs.Known.{at_living}
use Rattle.global_model.specs.Due.{command_lines}
use Rattle.enclave_node.specs.Nodes.{NodeView, unborn_node, wrote}
use Rattle.node_machine.specs.Machine.{MachineView, has_node, node_at, pair_at, at_node, lines_by, acted, with_carried, after_command, call_by, after_call}
use Rattle.node_machine.specs.Machine.{enclave_numbered}
use Rattle.node_world.specs.Shown.{IsNodeOf, IsShown}
use Rattle.node_world.proofs.Lists.{has-set, node_within, set_case}
use Rattle.node_world.proofs.Carriage.{IsUncounted, AreUncounted, counted_lines}
use Rattle.node_world.proofs.Acted.{IsActed, shown_by, linked_of, within_of, fed_of}
use Rattle.node_world.proofs.Stills.{IsStep, IsTied, IsNoPool, AreStill, holder_is, tied_still, at_is}

-- ---- one node writes

module _ (G H : Facts) (c : Command) (m : MachineView) (step : IsStep G H c) (h : IsShown G m) (e : Enclave) (lives : lives_at G e.0 ≡ true) where
  abbrev hand : Hand
  hand = (after_line G (lines.Do c)).hand

  inside : e.0 < length m.nodes
  inside = node_within m.nodes e.0 (h.living e.0 ∙ lives)

  -- the nodes once that of the enclave wrote the lines of the command
  own_nodes : (ls : List Line) → command_lines G c ≡ ls → AreAbout G.holder e ls → ((d : ℕ) → lives_at H d ≡ lives_at G d) → (d : ℕ) → lives_at G d ≡ true → IsNodeOf H d (node_at (slice_set m.nodes e.0 (wrote hand (node_at m.nodes e.0) ls)) d)
  own_nodes ls is about living d there =
      let view : (k : ℕ) → lives_at G k ≡ true → view_of H (enclave_numbered k) ≡ seen_lines (after_line G (lines.Do c)) (view_of G (enclave_numbered k)) ls = λ k lt. step.views k (living k ∙ lt) ∙ ap (seen_lines (after_line G (lines.Do c)) (view_of G (enclave_numbered k))) is in
      let views = step.laws.views in
      let old = h.nodes e.0 lives in
      let here : IsNodeOf H e.0 (wrote hand (node_at m.nodes e.0) ls) = record { view = ap (λ v. own_lines hand v ls) old.view ∙ sym (view e.0 lives ∙ views.own (after_line G (lines.Do c)) (view_of G e) ls (step.plain e) about); going = old.going } in
      set_case m.nodes e.0 d (wrote hand (node_at m.nodes e.0) ls) (unborn_node 0 (record { 0 = 0 }) []) (IsNodeOf H d) inside
      (λ same. subst (λ k. IsNodeOf H k (wrote hand (node_at m.nodes e.0) ls)) (sym same) here)
      (λ apart. let k = h.nodes d there in record { view = k.view ∙ sym (view d there ∙ views.others (after_line G (lines.Do c)) e (view_of G (enclave_numbered d)) ls about apart); going = k.going })

  -- and what their decoders have
  own_feed : (n : NodeView) → n.feeds ≡ (node_at m.nodes e.0).feeds → (d a : ℕ) → at (node_at (slice_set m.nodes e.0 n) d).feeds a ≡ at (node_at m.nodes d).feeds a
  own_feed n same d a =
      set_case m.nodes e.0 d n (unborn_node 0 (record { 0 = 0 }) []) (λ k. at k.feeds a ≡ at (node_at m.nodes d).feeds a) inside
      (λ is. ap (λ (rows : List (ℕ × Decoding)). at rows a) same ∙ ap (λ k. at (node_at m.nodes k).feeds a) (sym is))
      (λ apart. refl)

  -- the machine shows the facts after that, where the processes are counted as by the facts
  own_acted : (ls : List Line) → command_lines G c ≡ ls → AreAbout G.holder e ls → ((d : ℕ) → lives_at H d ≡ lives_at G d) → (count starts : ℕ) (memory : ℕ → AttacherState) (more : Hand) → count ≡ starts
      → IsActed (record G { starts = starts; memory = memory; hand = more }) H (record m { nodes = slice_set m.nodes e.0 (wrote hand (node_at m.nodes e.0) ls); starts = count })
  own_acted ls is about living count starts memory more same = record {
    pool = h.pool;
    server = h.server;
    holder = h.holder;
    starts = same;
    born = length-set m.nodes e.0 (wrote hand (node_at m.nodes e.0) ls) ∙ h.born;
    pairs = h.pairs;
    living = λ d. has-set m.nodes e.0 d (wrote hand (node_at m.nodes e.0) ls) ∙ h.living d;
    nodes = own_nodes ls is about living;
    links = linked_of G m step.before h;
    within = within_of G m step.before h;
    feeds = λ i within. let k = fed_of G m step.before h i within in
        let p = (pair_at m.pairs i).parent.0 in
        record { up = λ there. own_feed (wrote hand (node_at m.nodes e.0) ls) refl p (i + 1) ∙ k.up there; down = λ there. own_feed (wrote hand (node_at m.nodes e.0) ls) refl (i + 1) p ∙ k.down there };
    strangers = λ d a far. own_feed (wrote hand (node_at m.nodes e.0) ls) refl d a ∙ h.strangers d a far;
  }

-- ---- proc

pub tied_proc : (G H : Facts) (m : MachineView) (e : Enclave) (uid gid : ℕ) → IsStep G H (commands.Proc e uid gid) → IsShown G m → IsTied G H (commands.Proc e uid gid) m
tied_proc G H m e uid gid step h = by (lives_at G e.0) (leb 1024 G.starts) refl refl
  where
    c : Command
    c = commands.Proc e uid gid

    v : View
    v = view_of G e

    rule : command_lines G c ≡ at_living G e (cond (leb 1024 G.starts) (refusal causes.TooMany) (start_lines v uid gid))
    rule = step.answered.proc e uid gid

    ls : lines_by m c ≡ command_lines G c
    ls = ap (λ n. at_node m e (cond (leb 1024 n) (refusal causes.TooMany) (start_lines (node_at m.nodes e.0).view uid gid))) h.starts
        ∙ at_is G m h e (λ v. cond (leb 1024 G.starts) (refusal causes.TooMany) (start_lines v uid gid)) ∙ sym rule

    known : (b : Bool) → lives_at G e.0 ≡ b → has_node m.nodes e.0 ≡ b
    known b is = h.living e.0 ∙ is

    many : (b : Bool) → leb 1024 G.starts ≡ b → leb 1024 m.starts ≡ b
    many b is = ap (leb 1024) h.starts ∙ is

    by : (a b : Bool) → lives_at G e.0 ≡ a → leb 1024 G.starts ≡ b → IsTied G H c m
    by false b one two =
        let refused : command_lines G c ≡ refusal causes.NoEnclave = rule ∙ rw one refl in
        let same : acted m c ≡ m = let lives = known false one in rw lives refl in
        tied_still G H c m step h tt same ls (subst AreStill (sym refused) (tt, tt))
    by true true one two =
        let refused : command_lines G c ≡ refusal causes.TooMany = rule ∙ rw (one, two) refl in
        let same : acted m c ≡ m = let lives = known true one in let full = many true two in rw (lives, full) refl in
        tied_still G H c m step h tt same ls (subst AreStill (sym refused) (tt, tt))
    by true false one two =
        let started : command_lines G c ≡ start_lines v uid gid = rule ∙ rw (one, two) refl in
        let lives = known true one in let full = many false two in
        let node = h.nodes e.0 one in
        let machine : acted m c ≡ record m { nodes = slice_set m.nodes e.0 (wrote Nothing (node_at m.nodes e.0) (start_lines v uid gid)); starts = m.starts + 1 } =
        rw (lives, full, node.view) refl in
        let B = after_line G (lines.Do c) in
        let K = after_lines B (start_lines v uid gid) in
        let facts : H ≡ K = step.after ∙ ap (after_lines B) started in
        let made = own_acted G H c m step h e one (start_lines v uid gid) started (refl, tt) (λ d. ap (λ F. lives_at F d) facts) (m.starts + 1) K.starts K.memory K.hand (ap (λ n. n + 1) h.starts) in
        let shown = shown_by step.laws K H [] (record m { nodes = slice_set m.nodes e.0 (wrote Nothing (node_at m.nodes e.0) (start_lines v uid gid)); starts = m.starts + 1 }) facts tt step.flowing made in
        let after : after_command m c ≡ record m { nodes = slice_set m.nodes e.0 (wrote Nothing (node_at m.nodes e.0) (start_lines v uid gid)); starts = m.starts + 1 } =
        ap (λ n. with_carried n (lines_by m c)) machine ∙ ap (with_carried (record m { nodes = slice_set m.nodes e.0 (wrote Nothing (node_at m.nodes e.0) (start_lines v uid gid)); starts = m.starts + 1 })) (ls ∙ started) in
        (ls, subst (IsShown H) (sym after) shown)

-- ---- calls

-- the lines of a call are about its enclave, and uncounted
about_line : (holder e : Enclave) (line : Line) → IsCallLine holder e line → IsAbout holder e line
about_line holder e (lines.Refused cause) own = tt
about_line holder e (lines.Alloc of p page frames) own = own
about_line holder e (lines.Issue of p call) own = own
about_line holder e (lines.Drew of call segid) own = own
about_line holder e (lines.Named of call segid) own = own
about_line holder e (lines.Unnamed segid) own = own
about_line holder e (lines.Remove of segid) own = own
about_line holder e (lines.AnswerSegid of p call segid) own = own
about_line holder e (lines.Sent a b r) own = tt
about_line holder e (lines.Dropped of) own = tt
about_line holder e _ own = absurd own

about_call : (holder e : Enclave) (ls : List Line) → AreCallLines holder e ls → AreAbout holder e ls
about_call holder e [] own = tt
about_call holder e (line ∷ ls) own = (about_line holder e line own.0, about_call holder e ls own.1)

uncounted_line : (holder e : Enclave) (line : Line) → IsCallLine holder e line → IsUncounted line
uncounted_line holder e (lines.Do command) own = absurd own
uncounted_line holder e (lines.Born child kind parent ns blocks) own = absurd own
uncounted_line holder e (lines.Proc of p uid gid) own = absurd own
uncounted_line holder e (lines.Took x y count) own = absurd own
uncounted_line holder e _ own = tt

uncounted_call : (holder e : Enclave) (ls : List Line) → AreCallLines holder e ls → AreUncounted ls
uncounted_call holder e [] own = tt
uncounted_call holder e (line ∷ ls) own = (uncounted_line holder e line own.0, uncounted_call holder e ls own.1)

-- the `do` line of a call gives it into the hand
call_begun : (G : Facts) (c : Command) (k : ProcessCall) → call_of c ≡ Some k → after_line G (lines.Do c) ≡ record G { hand = Calls k }
call_begun G (commands.Alloc e p page count) k is =
    let same : record { enclave = e; pid = p; call = calls.Alloc page count } ≡ k = cc in
    ap (λ (k : ProcessCall). record G { hand = Calls k }) same
call_begun G (commands.Make e p addr size mode) k is =
    let same : record { enclave = e; pid = p; call = calls.Make addr size mode } ≡ k = cc in
    ap (λ (k : ProcessCall). record G { hand = Calls k }) same
call_begun G (commands.Remove e p segid) k is =
    let same : record { enclave = e; pid = p; call = calls.Remove segid } ≡ k = cc in
    ap (λ (k : ProcessCall). record G { hand = Calls k }) same
call_begun G _ k is = cc

call_no_pool : (c : Command) (k : ProcessCall) → call_of c ≡ Some k → IsNoPool c
call_no_pool (commands.Pool blocks) k is = cc
call_no_pool _ k is = tt

pub tied_call : (G H : Facts) (m : MachineView) (c : Command) (k : ProcessCall) → call_of c ≡ Some k → IsStep G H c → IsShown G m → IsTied G H c m
tied_call G H m c k is step h = by (lives_at G e.0) refl
  where
    e : Enclave
    e = k.enclave

    own : List Line
    own = call_lines (view_of G e) k.pid k.call

    rule : command_lines G c ≡ at_living G e own
    rule = step.answered.call c k is

    called : lines_by m c ≡ at_node m e (call_by m k)
    called = rw is refl

    acted_is : acted m c ≡ after_call m k
    acted_is = rw is refl

    ls : lines_by m c ≡ command_lines G c
    ls = called ∙ at_is G m h e (λ v. call_lines v k.pid k.call) ∙ sym rule

    known : (b : Bool) → lives_at G e.0 ≡ b → has_node m.nodes e.0 ≡ b
    known b is = h.living e.0 ∙ is

    by : (b : Bool) → lives_at G e.0 ≡ b → IsTied G H c m
    by false gone =
        let refused : command_lines G c ≡ refusal causes.NoEnclave = rule ∙ rw gone refl in
        let lives = known false gone in
        let stays : after_call m k ≡ m = rw lives refl in
        tied_still G H c m step h (call_no_pool c k is) (acted_is ∙ stays) ls (subst AreStill (sym refused) (tt, tt))
    by true here =
        let own_is : command_lines G c ≡ own = rule ∙ rw here refl in
        let lives = known true here in
        let node = h.nodes e.0 here in
        let w : MachineView = record m { nodes = slice_set m.nodes e.0 (wrote (Calls k) (node_at m.nodes e.0) own) } in
        let made_is : after_call m k ≡ w = rw (lives, node.view) refl in
        let lines_are = step.laws.views.calls G.holder (view_of G e) k.pid k.call (holder_is G step.before e) in
        let about : AreAbout G.holder e own = about_call G.holder e own lines_are in
        let plain : AreUncounted own = uncounted_call G.holder e own lines_are in
        let B : Facts = record G { hand = Calls k } in
        let facts : H ≡ after_lines B own = step.after ∙ ap (λ F. after_lines F (command_lines G c)) (call_begun G c k is) ∙ ap (after_lines B) own_is in
        let living : (d : ℕ) → lives_at H d ≡ lives_at G d = λ d. ap (λ F. lives_at F d) facts ∙ (counted_lines own B plain).living d in
        let held : (after_line G (lines.Do c)).hand ≡ Calls k = ap (λ F. F.hand) (call_begun G c k is) in
        let made = subst (λ hand. IsActed B H (record m { nodes = slice_set m.nodes e.0 (wrote hand (node_at m.nodes e.0) own); starts = m.starts })) held
        (own_acted G H c m step h e here own own_is about living m.starts G.starts G.memory (Calls k) h.starts) in
        let shown = shown_by step.laws B H own w facts plain step.flowing made in
        let after : after_command m c ≡ with_carried w own = ap (λ n. with_carried n (lines_by m c)) (acted_is ∙ made_is) ∙ ap (with_carried w) (ls ∙ own_is) in
        (ls, subst (IsShown H) (sym after) shown)

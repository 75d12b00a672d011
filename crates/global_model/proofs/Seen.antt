-- Apt lines change each view by themselves; who isn't born knows nothing.
use Rattle.std.proofs.Common.{◌≡◌, ◌<◌, ◌≤◌, ℕ, List, [], ◌∷◌, ◌++◌, map, Bool, true, false, cond, eqb, None, refl, sym, ap, ◌∙◌, subst, inl, inr, arith}
use Rattle.std.specs.List.{range_with_len}
use Rattle.std.proofs.lemmas.Bool.{cases_eq, ne_eqb, false_from_ne_true}
use Rattle.xm_num.specs.declared.Enclave.{Enclave}
use Rattle.frame_pool.specs.declared.BlockState.{BlockState}
use Rattle.frame_pool.specs.declared.BlockState.TheVariants as states
use Rattle.xemem_language.specs.declared.command.Command.{Command}
use Rattle.xemem_language.specs.declared.command.Command.TheVariants as commands
use Rattle.xemem_language.specs.declared.line.Line.{Line}
use Rattle.xemem_language.specs.declared.line.Line.TheVariants as lines
use Rattle.enclave_rules.specs.Core.{unborn_core}
use Rattle.enclave_rules.specs.Host.{no_host, free_pool}
use Rattle.enclave_rules.specs.View.{View, is_at, unborn_host, unborn_view, IsAbout}
use Rattle.global_model.specs.Facts.{Facts, no_facts, facts_after, facts_at, fact_of, is_living_enclave, after_line, after_lines}
use Rattle.global_model.specs.Channels.{is_child_of}
use Rattle.global_model.specs.Views.{child_row, core_of, view_of, seen_lines}
use Rattle.global_model.specs.Apt.{IsApt, AreApt}
use Rattle.global_model.specs.Place.{IsPlaced}
use Rattle.global_model.specs.Journals.{Follows}
use Rattle.global_model.specs.Due.{command_lines, step_lines, journal_of}
use Rattle.global_model.specs.Parts.{Opening, Lacks}
use Rattle.global_model.specs.Plain.{IsAct}
use Rattle.global_model.specs.Handled.{SeenAt}
use Rattle.global_model.proofs.Pasts.{facts_by-more}
use Rattle.global_model.proofs.Tree.{child_under, living_born}
use Rattle.global_model.proofs.Runs.{map_run-same, filter_run-none}
use Rattle.global_model.proofs.Lent.{IsOfPool}
use Rattle.global_model.proofs.Sound.{IsSound, no_fact, sound_line, sound_start}
use Rattle.global_model.proofs.Shown.{SeesLine, same_core, ways_shown, memory_shown, exports_shown, grants_shown, names_shown, call_shown, shown_admitted}
use Rattle.global_model.proofs.Births.{shown_born}
use Rattle.global_model.proofs.Writes.{EachIs}
use Rattle.global_model.proofs.Plain.{each-weaker}
use Rattle.global_model.proofs.Acts.{command_lines-acts}
use Rattle.global_model.proofs.Commands.{IsLastRun, last_runs, runs_after}

-- ---- lines

-- a line that changes nothing of a view, at the enclave or not
unmoved : (at : Bool) (v : View) → v ≡ cond at v v
unmoved true v = refl
unmoved false v = refl

-- a line that begins no command
pub shown_line : (G : Facts) (line : Line) (k : Enclave) → Lacks (Opening ∷ []) line → IsSound G → IsApt G line → SeesLine G k line
shown_line G (lines.Do command) k later sound apt = absurd later
shown_line G (lines.Born e kind parent ns blocks) k later sound apt = shown_born G e kind parent ns blocks sound apt k
shown_line G (lines.Told e of) k later sound apt = absurd apt
shown_line G (lines.Heard e of) k later sound apt = absurd apt
shown_line G (lines.Admitted e) k later sound apt = shown_admitted G e k apt
shown_line G (lines.Proc e p uid gid) k later sound apt = memory_shown G e k (lines.Proc e p uid gid)
shown_line G (lines.Alloc e p page frames) k later sound apt = memory_shown G e k (lines.Alloc e p page frames)
shown_line G (lines.Asked e by) k later sound apt = ways_shown G e k (lines.Asked e by)
shown_line G (lines.Way e over) k later sound apt = ways_shown G e k (lines.Way e over)
shown_line G (lines.Back e of over) k later sound apt = ways_shown G e k (lines.Back e of over)
shown_line G (lines.Route e of over) k later sound apt = ways_shown G e k (lines.Route e of over)
shown_line G (lines.Issue e p call) k later sound apt = call_shown G e k (lines.Issue e p call)
shown_line G (lines.Drew e call segid) k later sound apt = names_shown G k (lines.Drew e call segid)
shown_line G (lines.Named e call segid) k later sound apt = exports_shown G e k (lines.Named e call segid)
shown_line G (lines.Unnamed segid) k later sound apt = names_shown G k (lines.Unnamed segid)
shown_line G (lines.Grant owner e call segid access) k later sound apt = grants_shown G owner k (lines.Grant owner e call segid access)
shown_line G (lines.Ungrant owner e call) k later sound apt = grants_shown G owner k (lines.Ungrant owner e call)
shown_line G (lines.Remove e segid) k later sound apt = exports_shown G e k (lines.Remove e segid)
shown_line G (lines.AnswerSegid e p call segid) k later sound apt = memory_shown G e k (lines.AnswerSegid e p call segid)
shown_line G (lines.AnswerApid e p call apid pages) k later sound apt = memory_shown G e k (lines.AnswerApid e p call apid pages)
shown_line G (lines.AnswerRefused e p call cause) k later sound apt = memory_shown G e k (lines.AnswerRefused e p call cause)
shown_line G (lines.Release e call) k later sound apt = memory_shown G e k (lines.Release e call)
shown_line G line k later sound apt = unmoved (is_at G.holder k line) (view_of G k)

pub seen_by : (ls : List Line) (G : Facts) (k : Enclave) → EachIs (Lacks (Opening ∷ [])) ls → IsSound G → AreApt G ls → view_of (after_lines G ls) k ≡ seen_lines G (view_of G k) ls
seen_by [] G k later sound apt = refl
seen_by (l ∷ ls) G k later sound apt =
    seen_by ls (after_line G l) k later.1 (sound_line G l sound apt.0) apt.1
    ∙ ap (λ v. seen_lines (after_line G l) v ls) (shown_line G l k later.0 sound apt.0)

-- acts begin no command, and no line about an enclave does
act_later : (line : Line) → IsAct line → Lacks (Opening ∷ []) line
act_later (lines.Do command) act = absurd act
act_later _ act = tt

pub about_later : (holder y : Enclave) (line : Line) → IsAbout holder y line → Lacks (Opening ∷ []) line
about_later holder y (lines.Do command) about = absurd about
about_later holder y _ about = tt

-- ---- commands

-- a `do` line leaves the views of those that live: the pool is made before them
opened_same : (G : Facts) (c : Command) (e : Enclave) → IsSound G → IsApt G (lines.Do c) → is_living_enclave (G.enclave e.0) ≡ true
    → view_of (after_line G (lines.Do c)) e ≡ view_of G e
opened_same G (commands.Pool blocks) e sound apt living = let born = living_born G e.0 sound.tree living in absurd (omega (arith, born, apt))
opened_same G _ e sound apt living = refl

-- along a journal, the view of an enclave that lives after a line is what the line leaves of its view
seen_at : (past : List Line) (line : Line) → IsSound (facts_at past) → IsApt (facts_at past) line → SeenAt past line
seen_at past (lines.Do command) sound apt e living = opened_same (facts_at past) command e sound apt living
seen_at past line sound apt e living = shown_line (facts_at past) line e tt sound apt

follows_seen : (ls past : List Line) → IsSound (facts_at past) → AreApt (facts_at past) ls → Follows SeenAt past ls
follows_seen [] past sound apt = tt
follows_seen (l ∷ ls) past sound apt = (seen_at past l sound apt.0, follows_seen ls (l ∷ past) (sound_line (facts_at past) l sound apt.0) apt.1)

pub journal_of-seen : (cs : List Command) → IsPlaced cs → Follows SeenAt [] (journal_of cs)
journal_of-seen cs placed = follows_seen (journal_of cs) [] sound_start (runs_after cs placed).apt

-- what the last command of a scenario leaves of the view of an enclave that lives then
begun_same : (G : Facts) (c : Command) (e : Enclave) → IsSound G → IsApt G (lines.Do c) → is_living_enclave ((after_lines G (step_lines G c)).enclave e.0) ≡ true
    → view_of (after_line G (lines.Do c)) e ≡ view_of G e
begun_same G (commands.Pool blocks) e sound apt living = opened_same G (commands.Pool blocks) e sound apt living
begun_same G _ e sound apt living = refl

pub seen_after : (cs : List Command) (one : Command) → IsPlaced (cs ++ one ∷ []) → (e : Enclave) → is_living_enclave ((facts_after (journal_of (cs ++ one ∷ []))).enclave e.0) ≡ true
    → view_of (facts_after (journal_of (cs ++ one ∷ []))) e ≡ seen_lines (after_line (facts_after (journal_of cs)) (lines.Do one)) (view_of (facts_after (journal_of cs)) e) (command_lines (facts_after (journal_of cs)) one)
seen_after cs one placed e living =
    let G = facts_after (journal_of cs) in
    let H = after_line G (lines.Do one) in
    let last : IsLastRun cs one = last_runs cs one placed in
    let more : facts_after (journal_of (cs ++ one ∷ [])) ≡ after_lines G (step_lines G one) = facts_by-more no_facts cs one in
    let begun : view_of H e ≡ view_of G e
    = begun_same G one e last.ready.sound last.run.apt.0 (ap (λ K. is_living_enclave (K.enclave e.0)) (sym more) ∙ living) in
    ap (λ K. view_of K e) more
    ∙ seen_by (command_lines G one) H e (each-weaker IsAct (Lacks (Opening ∷ [])) act_later (command_lines G one) (command_lines-acts G one)) (sound_line G (lines.Do one) last.ready.sound last.run.apt.0) last.run.apt.1
    ∙ ap (λ v. seen_lines H v (command_lines G one)) begun

-- ---- who isn't born

all_free : (state : BlockState) → IsOfPool 0 state → state ≡ states.Free
all_free states.Free is = refl
all_free (states.Lent e) is = absurd (omega (arith, is))
all_free (states.Held e) is = absurd is

-- before the host is born, all blocks are free
host_unborn : (G : Facts) → IsSound G → (e : Enclave) → G.born ≤ e.0 → (view_of G e).host ≡ cond (eqb e.0 0) (unborn_host G.pool) no_host
host_unborn G sound e le =
    elim (cases_eq e.0 0) [
      | inl first ↦
          let none : G.born ≡ 0 = omega (arith, le, first) in
          let states : map G.block (range_with_len 0 G.pool) ≡ free_pool G.pool
          = map_run-same G.block (λ b. states.Free) 0 G.pool (λ b low high. all_free (G.block b) (subst (λ n. IsOfPool n (G.block b)) none (sound.pool b (omega (arith, high))))) in
          let parents : map (λ c. (fact_of (G.enclave c)).parent) (range_with_len 0 G.born) ≡ [] = rw none refl in
          λ i. cond (eqb e.0 0) (record { states = states i; parents = parents i }) no_host
      | inr child ↦ let beyond : eqb e.0 0 ≡ false = ne_eqb e.0 0 child in rw beyond refl
    ]

pub unborn_known : (G : Facts) → IsSound G → (e : Enclave) → G.born ≤ e.0 → view_of G e ≡ unborn_view G.pool e
unborn_known G sound e le =
    let fact : G.enclave e.0 ≡ None = no_fact G sound.tree e.0 le in
    let core : core_of G e.0 ≡ unborn_core = same_core (core_of G e.0) unborn_core (record {
      kind = ap (λ o. (fact_of o).kind) fact;
      parent = ap (λ o. (fact_of o).parent) fact;
      blocks = ap (λ o. (fact_of o).blocks) fact;
      holder = ap (λ o. (fact_of o).ns) fact;
      admitted = ap (λ o. (fact_of o).admitted) fact;
      heard = sound.heard e.0;
      children = ap (map (child_row G)) (filter_run-none (λ c. is_child_of G c e.0) 0 G.born (λ c low high. childless c (omega (arith, high))));
    }) in
    let ways = sound.unaware e.0 le in
    let memory = sound.empty e.0 le in
    let exports = sound.unasked e.0 le in
    let grants = sound.ungranted e.0 le in
    let names = sound.nameless e.0 le in
    let host = host_unborn G sound e le in
    λ i. record { me = e; core = core i; ways = ways i; memory = memory i; exports = exports i; grants = grants i; names = names i; host = host i }
  where
    childless : (c : ℕ) → c < G.born → is_child_of G c e.0 ≡ false
    childless c born = false_from_ne_true (is_child_of G c e.0) (λ is. let under = child_under G c e.0 sound.tree is in omega (arith, under.above, born, le))

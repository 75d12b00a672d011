-- At every pause each call is idle or on its way.
use Rattle.std.proofs.Common.{◌+◌, List, [], ◌∷◌, ◌++◌, Bool, cond, refl, sym, ap, subst}
use Rattle.xm_num.specs.declared.Block.{Block}
use Rattle.xm_num.specs.declared.Enclave.{Enclave}
use Rattle.xm_num.specs.declared.Kind.{Kind}
use Rattle.xm_num.specs.declared.Kind.TheVariants as kinds
use Rattle.xm_num.specs.declared.Pid.{Pid}
use Rattle.xemem_language.specs.declared.call.Call.{Call}
use Rattle.xemem_language.specs.declared.call.Call.TheVariants as calls
use Rattle.xemem_language.specs.declared.command.Command.{Command}
use Rattle.xemem_language.specs.declared.line.Line.{Line}
use Rattle.xemem_language.specs.declared.line.Line.TheVariants as lines
use Rattle.enclave_rules.specs.Calls.{at_hand}
use Rattle.enclave_rules.specs.Core.{host}
use Rattle.enclave_rules.specs.Exports.{segid_number}
use Rattle.enclave_rules.specs.Hand.{Hand}
use Rattle.enclave_rules.specs.View.{View, own_lines}
use Rattle.enclave_rules.specs.Segments.{asking_lines, issue_line, make_of, unname_lines, unname_record}
use Rattle.enclave_rules.specs.Sending.{Server, made_lines}
use Rattle.enclave_rules.specs.Steps.{adopt_lines, child_lines, told_lines}
use Rattle.global_model.specs.Due.{journal_of}
use Rattle.global_model.specs.Facts.{after_lines, facts_at, no_facts}
use Rattle.global_model.specs.Journals.{Follows, onto}
use Rattle.global_model.specs.Pauses.{AreSteps, Asks, Bears, Handles, Hosts, IsPause, MayAsk, MayCome, Step, Takes, Written, asked_lines, written_by, written_in}
use Rattle.global_model.specs.Place.{IsPlaced}
use Rattle.global_model.specs.Views.{view_of}
use Rattle.discovery_laws.specs.Ways.{IsLeading}
use Rattle.call_laws.specs.Cells.{makes}
use Rattle.call_laws.specs.Laws.{CallLaws, CallRows, TreePaths}
use Rattle.call_laws.specs.Places.{HaveSegids, HasRoom}
use Rattle.call_laws.proofs.Asks.{asked_runs, removed_has}
use Rattle.call_laws.proofs.BoundSteps.{asked_serving, bound_lines, bound_step}
use Rattle.call_laws.proofs.Flights.{next_flight}
use Rattle.call_laws.proofs.Guides.{more_lines, roads_lines}
use Rattle.call_laws.proofs.Guiding.{IsWalked, guides_step, leading_at, no_roads, walked_more}
use Rattle.call_laws.proofs.Idle.{AreIdle, idle_lines, spare_free}
use Rattle.call_laws.proofs.IdleAsks.{idle_make}
use Rattle.call_laws.proofs.IdleRemoves.{idle_remove}
use Rattle.call_laws.proofs.IdleSteps.{idle_handled, is_number}
use Rattle.call_laws.proofs.Journals.{IsTiedAtPause, at_pause_first}
use Rattle.call_laws.proofs.Numbers.{AreNumbered, numbered_lines}
use Rattle.call_laws.proofs.Onward.{AreBound}
use Rattle.call_laws.proofs.Roads.{AreRoads}
use Rattle.call_laws.proofs.Room.{named_lines_by, room_lines}
use Rattle.call_laws.proofs.Steps.{free_alone, goes_step}
use Rattle.call_laws.proofs.Each.{each_birth, each_either}
use Rattle.call_laws.proofs.Tied.{AreFreeOfCalls, IsFreeOfCalls, AreNearAnswered, IsTied, KeepsAt, tied_lines}

-- ---- each step

module _ (rows : CallRows) (tree : TreePaths) (past : List Line) (pause : IsPause (facts_at past)) (tied : IsTied past) (answered : AreNearAnswered past) (numbered : AreNumbered past)
    (roads : AreRoads (facts_at past)) (leading : IsLeading (facts_at past)) (bound : AreBound (facts_at past)) (idle : AreIdle past) where
  idle_free : (ls : List Line) → AreFreeOfCalls ls → Follows KeepsAt past ls → AreIdle (onto ls past)
  idle_free ls free keeps f j = idle_lines rows past ls f j keeps tied (spare_free past ls f j free) (idle f j)

  idle_born : (e : Enclave) (kind : Kind) (parent : Enclave) (ns : Bool) (blocks : List Block) (ls : List Line) → AreFreeOfCalls ls
      → Follows KeepsAt past (lines.Born e kind parent ns blocks ∷ ls) → AreIdle (onto (lines.Born e kind parent ns blocks ∷ ls) past)
  idle_born e kind parent ns blocks ls free keeps f j =
      idle_lines rows past (lines.Born e kind parent ns blocks ∷ ls) f j keeps tied (tt, spare_free (lines.Born e kind parent ns blocks ∷ past) ls f j free) (idle f j)

  idle_call : (e : Enclave) (p : Pid) (call : Call) → MayAsk (facts_at past) e p call → HasRoom (onto (asked_lines (view_of (facts_at past) e) p call) past)
      → HaveSegids (onto (asked_lines (view_of (facts_at past) e) p call) past) → HasRoom past → AreIdle (onto (asked_lines (view_of (facts_at past) e) p call) past)
  idle_call e p (calls.Alloc page n) may later named room = idle
  idle_call e p (calls.Make addr size mode) may later named room =
      let G = facts_at past in
      let v : View = view_of G e in
      let hand : Hand = at_hand v p (calls.Make addr size mode) in
      let serving = asked_serving G may.command e p (calls.Make addr size mode) may.asks may.allowed refl in
      idle_make rows past e p hand tied (asked_runs G may.command e p (calls.Make addr size mode) may.asks may.allowed)
      (ap makes may.hand)
      may.hand (is_number G e.0 pause.tree serving.living) (roads.ready e.0 serving.admitted).knowing
      (room_lines (issue_line v p ∷ past) (asking_lines hand (own_lines hand v (issue_line v p ∷ [])) (v.memory.issued + 1)) later) room idle
  idle_call e p (calls.Remove segid) may later named room =
      let G = facts_at past in
      let v : View = view_of G e in
      let serving = asked_serving G may.command e p (calls.Remove segid) may.asks may.allowed refl in
      idle_remove rows past e segid tied answered (removed_has G may.command e p segid may.asks may.allowed) (is_number G e.0 pause.tree serving.living)
      (named_lines_by (lines.Remove e segid ∷ past) (cond v.core.holder (unname_lines v e segid) (made_lines v Server (unname_record e (make_of v.exports (segid_number segid)) segid))) named).0
      (roads.ready e.0 serving.admitted).knowing numbered.zero room idle

  idle_step : (step : Step) → MayCome (facts_at past) step → HasRoom (onto (written_by (facts_at past) step) past) → HaveSegids (onto (written_by (facts_at past) step) past)
      → HasRoom past → AreIdle (onto (written_by (facts_at past) step) past)
  idle_step (Written line) may later named room = idle_free (line ∷ []) (free_alone (facts_at past) line may.1, tt) (goes_step rows past (Written line) pause may tied answered).keeps
  idle_step (Takes x y count) may later named room = idle_free (lines.Took x y count ∷ []) (tt, tt) (goes_step rows past (Takes x y count) pause may tied answered).keeps
  idle_step (Handles x y r) may later named room =
      let next = next_flight (facts_at past) x.0 y.0 r may.others may.next in
      idle_handled rows tree past x y r tied pause roads leading bound room idle next.others next.is may.living
  idle_step (Asks e p call) may later named room = idle_call e p call may.1 later named room
  idle_step (Hosts ns blocks) may later named room =
      idle_born host kinds.Host host ns blocks (cond ns (lines.Admitted host ∷ []) []) (each_either IsFreeOfCalls ns (lines.Admitted host ∷ []) [] (tt, tt) tt) (goes_step rows past (Hosts ns blocks) pause may tied answered).keeps
  idle_step (Bears child kind parent ns blocks) may later named room =
      let G = facts_at past in
      idle_born child kind parent ns blocks ((told_lines child (G.heard parent.0) ++ child_lines child parent ns) ++ adopt_lines (view_of G parent) child)
      (each_birth IsFreeOfCalls child parent ns (G.heard parent.0) (view_of G parent) (λ d. tt) tt (λ a b. tt))
      (goes_step rows past (Bears child kind parent ns blocks) pause may tied answered).keeps

-- ---- at every pause

pub record IsSound (past : List Line) : Type 0 where
  pub at_pause : IsTiedAtPause past
  pub numbered : AreNumbered past
  pub roads : AreRoads (facts_at past)
  pub bound : AreBound (facts_at past)
  pub idle : HasRoom past → HaveSegids past → AreIdle past

sound_step : (laws : CallLaws) (done : List Step) (past : List Line) (step : Step) → IsWalked done (facts_at past) → IsPause (facts_at past) → MayCome (facts_at past) step → IsSound past
    → IsSound (onto (written_by (facts_at past) step) past)
sound_step laws done past step walked pause may old =
    let G = facts_at past in
    let ls = written_by G step in
    let on = goes_step laws.rows past step pause may old.at_pause.tied old.at_pause.answered in
    let leading = leading_at laws done G walked in
    let next = walked_more laws done G step walked pause may in
    let guides = guides_step laws.rows.names laws.tree G step pause may old.roads leading (leading_at laws (done ++ step ∷ []) (after_lines G ls) next) in
    let here = sym (laws.facts ls past) in
    let bound = bound_step laws.tree G step pause may old.roads leading old.bound in
    record {
      at_pause = record { tied = tied_lines laws.rows past ls on.keeps old.at_pause.tied; answered = on.answered old.at_pause.tied old.at_pause.answered };
      numbered = numbered_lines past ls on.keeps old.numbered;
      roads = subst AreRoads here (roads_lines laws.rows.names laws.tree G ls guides old.roads);
      bound = subst AreBound here (bound_lines G ls (more_lines laws.tree G ls guides) bound old.bound);
      idle = λ later named.
          let room = room_lines past ls later in
          idle_step laws.rows laws.tree past pause old.at_pause.tied old.at_pause.answered old.numbered old.roads leading old.bound (old.idle room (named_lines_by past ls named)) step may later named room;
    }

pub all_sound : (laws : CallLaws) (steps done : List Step) (past : List Line) → IsWalked done (facts_at past) → AreSteps (facts_at past) steps → IsSound past
    → IsSound (onto (written_in (facts_at past) steps) past)
all_sound laws [] done past walked are old = old
all_sound laws (step ∷ steps) done past walked are old =
    let G = facts_at past in
    let ls = written_by G step in
    let here = sym (laws.facts ls past) in
    let next = walked_more laws done G step walked are.0 are.1 in
    let more : IsSound (onto (written_in (after_lines G ls) steps) (onto ls past))
    = subst (λ H. IsSound (onto (written_in H steps) (onto ls past))) (laws.facts ls past)
    (all_sound laws steps (done ++ step ∷ []) (onto ls past) (subst (IsWalked (done ++ step ∷ [])) here next) (subst (λ H. AreSteps H steps) here are.2)
    (sound_step laws done past step walked are.0 are.1 old)) in
    subst IsSound (sym (laws.pasts ls (written_in (after_lines G ls) steps) past)) more

sound_first : (laws : CallLaws) → IsSound []
sound_first laws = record {
  at_pause = at_pause_first laws;
  numbered = record { zero = λ e. refl; settled = λ e k issued waits. absurd (cc) };
  roads = no_roads laws;
  bound = λ a b. tt;
  idle = λ room named e k none. record { waits = refl; even = refl };
}

pub steps_sound : (laws : CallLaws) (steps : List Step) → AreSteps no_facts steps → IsSound (onto (written_in no_facts steps) [])
steps_sound laws steps are = all_sound laws steps [] [] (record { are = tt; is = refl }) are (sound_first laws)

pub journal_of-sound : (laws : CallLaws) (commands : List Command) → IsPlaced commands → IsSound (onto (journal_of commands) [])
journal_of-sound laws commands placed =
    let in_steps = laws.steps commands placed in
    subst (λ journal. IsSound (onto journal [])) (sym in_steps.written) (steps_sound laws in_steps.steps in_steps.are)

-- Whole runs: what was done so far, and what each end leaves.
use Rattle.std.proofs.Common.{◌≡◌, ◌+◌, ℕ, List, [], ◌∷◌, ◌++◌, length, take, true, Option, None, Some, Result, Ok, Err, refl, sym, ap, ◌∙◌, subst, arith, append_assoc, append-nil, length-append}
use Rattle.std.specs.Io.KnownBytes.{Appends}
use Rattle.std.proofs.KnownBytes.{Appends-trans}
use Rattle.std.proofs.Math.Seq.{take-append-add}
use Rattle.xemem_language.specs.declared.command.Command.{Command}
use Rattle.xemem_language.specs.declared.line.Line.{Line}
use Rattle.std.specs.List.{All}
use Rattle.xemem_language.specs.Ranges.{IsInRange, IsSpelled}
use Rattle.global_model.specs.Place.{may_stand, IsPlaced}
use Rattle.global_model.specs.Due.{journal_of}
use Rattle.xemem_language.specs.Spelling.{text_of}
use Rattle.global_model.specs.Journals.{do_commands}
use Rattle.history_laws.specs.Fitting.{IsCountable}
use Rattle.xm_num.specs.Rows.{at}
use Rattle.history_laws.specs.History.{IsAnswered, IsFound, IsHistory}
use Rattle.scenario_text.specs.Reading.{IsReadAs}
use Rattle.scenario_text.specs.Typed.{IsTyped}
use Rattle.scenario_text.specs.Words.{lines_of}
use Rattle.scenario_text.specs.Scenario.{Ending, Stop, TooMany, TooLong, Faulty, Unbuilt, Scenario, onto_scenario}
use Rattle.scenario_run.specs.Scenario.{scenario_of, scenario_left, line_says}
use Rattle.node_world.specs.declared.world.Which.{Which}
use Rattle.node_world.specs.declared.world.Which.TheVariants as whiches
use Rattle.node_world.specs.World.{WorldView, IsCut, IsShort, Passes, most_of, no_world}
use Rattle.scenario_run.specs.declared.status.Status.{Status}
use Rattle.scenario_run.specs.declared.status.Status.TheVariants as statuses
use Rattle.scenario_run.specs.declared.execute.Fault.{Fault}
use Rattle.scenario_run.specs.declared.execute.Fault.TheVariants as faults
use Rattle.scenario_run.specs.Laws.{RunLaws}
use Rattle.scenario_run.specs.Run.{IsRun, IsRunSoFar, IsRunFull, IsGoing, IsFilled, Writes, WritesFront, LeavesWritten, LeavesIn, FaultLeaves, FillsOn, Ends, ending_status, judged_status, status_of, stop_status}
use Rattle.scenario_run.proofs.HistoryLemmas.{All-front, placed_front, placed_last, text_of-append, line_in, one_delivery, journal_more}
use Rattle.scenario_run.proofs.StepLemmas.{cut_whole}

-- what was done so far on the world, after so many commands, and what is left of the scenario
pub record SoFar (bytes : List ℕ) (v : WorldView) (before number : ℕ) (rest : List ℕ) (old new : Option (List ℕ)) : Type 0 where
  pub going : IsGoing v
  pub count : before ≡ length (do_commands v.journal)
  pub scenario_is : scenario_of bytes ≡ onto_scenario (do_commands v.journal) (scenario_left before number (lines_of rest))
  pub put : Appends old new (text_of v.journal)

pub appends_none : (a : Option (List ℕ)) → Appends a a []
appends_none None = tt
appends_none (Some xs) = sym (append-nil xs)

pub so_far-nothing : (bytes : List ℕ) (v : WorldView) (a : Option (List ℕ)) → v ≡ no_world → SoFar bytes v 0 1 bytes a a
so_far-nothing bytes v a fresh = rw fresh (record { going = record { told = refl; short = record { words = omega arith; deliveries = omega arith }; going = refl }; count = refl; scenario_is = refl; put = appends_none a })

-- ---- what a line said

pub said_found : (number : ℕ) (r : Result (Option Command) Stop) (found : Option Command) → Ok found ≡ judged_status number r → r ≡ Ok found
said_found number (Ok x) found is = cc
said_found number (Err stop) found is = cc

said_stop : (number : ℕ) (r : Result (Option Command) Stop) (status : Status) → Err status ≡ judged_status number r → (stop : Stop) × (r ≡ Err stop) × (status ≡ stop_status number stop)
said_stop number (Ok x) status is = cc
said_stop number (Err stop) status is = (stop, refl, cc)

-- ---- one line more

pub so_far-comment : (bytes : List ℕ) (v : WorldView) (before number : ℕ) (rest line after : List ℕ) (old new : Option (List ℕ)) → SoFar bytes v before number rest old new → lines_of rest ≡ line ∷ lines_of after → line_says before number line ≡ Ok None
    → SoFar bytes v before (number + 1) after old new
so_far-comment bytes v before number rest line after old new s is comment =
    let same : before + 0 ≡ before = omega arith in
    let here : scenario_left before number (lines_of rest) ≡ scenario_left before (number + 1) (lines_of after) = ap (scenario_left before number) is ∙ rw (comment, same) refl in
    record { going = s.going; count = s.count; scenario_is = s.scenario_is ∙ ap (onto_scenario (do_commands v.journal)) here; put = s.put }

-- the scenario, by the commands that were done and the next one
pub record IsNextCommand (bytes : List ℕ) (v : WorldView) (before number : ℕ) (c : Command) (after : List ℕ) : Type 0 where
  pub is : scenario_of bytes ≡ onto_scenario (do_commands v.journal ++ c ∷ []) (scenario_left (before + 1) (number + 1) (lines_of after))

pub next_command : (bytes : List ℕ) (v : WorldView) (before number : ℕ) (rest line after : List ℕ) (c : Command) (old new : Option (List ℕ)) → SoFar bytes v before number rest old new → lines_of rest ≡ line ∷ lines_of after
    → line_says before number line ≡ Ok (Some c) → IsNextCommand bytes v before number c after
next_command bytes v before number rest line after c old new s is command =
    let done = do_commands v.journal in
    let left = scenario_left (before + 1) (number + 1) (lines_of after) in
    let here : scenario_left before number (lines_of rest) ≡ onto_scenario (c ∷ []) left = ap (scenario_left before number) is ∙ rw command refl in
    record { is = s.scenario_is ∙ ap (onto_scenario done) here ∙ ap (λ (cs : List Command). record { commands = cs; ending = left.ending }) (sym (append_assoc done (c ∷ []) left.commands)) }

pub so_far-command : (bytes : List ℕ) (v w : WorldView) (before number : ℕ) (rest after : List ℕ) (c : Command) (old new newer : Option (List ℕ)) → SoFar bytes v before number rest old new → IsNextCommand bytes v before number c after
    → IsGoing w → do_commands w.journal ≡ do_commands v.journal ++ c ∷ [] → Writes new newer v.journal w.journal → SoFar bytes w (before + 1) (number + 1) after old newer
so_far-command bytes v w before number rest after c old new newer s next going commands writes =
    let left = scenario_left (before + 1) (number + 1) (lines_of after) in
    let text : text_of v.journal ++ text_of writes.lines ≡ text_of w.journal = sym (text_of-append v.journal writes.lines) ∙ ap text_of (sym writes.grown) in
    let more : before + 1 ≡ length (do_commands w.journal) = let sum = ap length commands ∙ length-append (do_commands v.journal) (c ∷ []) in omega (arith, sum, s.count) in
    record {
      going = going;
      count = more;
      scenario_is = next.is ∙ ap (λ cs. onto_scenario cs left) (sym commands);
      put = subst (Appends old newer) text (Appends-trans old new newer _ _ s.put writes.wrote);
    }

-- ---- where the commands stand

-- the first commands of the scenario stand where they may
front_placed : RunLaws → (bytes : List ℕ) (done : List Command) (left : Scenario) → scenario_of bytes ≡ onto_scenario done left → IsPlaced done
front_placed laws bytes done left is = placed_front done left.commands 0 (subst IsPlaced (ap (λ s. s.commands) is) (laws.placed bytes))

pub next_placed : RunLaws → (bytes : List ℕ) (v : WorldView) (before number : ℕ) (c : Command) (after : List ℕ) → IsNextCommand bytes v before number c after → (may_stand (length (do_commands v.journal)) c ≡ true) × IsInRange c
next_placed laws bytes v before number c after next =
    let done = do_commands v.journal in
    let sum : 0 + length done ≡ length done = omega arith in
    subst (λ n. (may_stand n c ≡ true) × IsInRange c) sum (placed_last done c 0 (front_placed laws bytes _ _ next.is))

-- ---- what each end leaves

-- a front of the journal of first commands of the scenario is a lawful history
lawful_front : RunLaws → (bytes : List ℕ) (done : List Command) (left : Scenario) (journal rest : List Line) → scenario_of bytes ≡ onto_scenario done left → journal_of done ≡ journal ++ rest → IsHistory journal
lawful_front laws bytes done left journal rest is whole =
    laws.fronts journal rest (subst IsHistory whole (laws.history done (front_placed laws bytes done left is)))

-- ---- how what was written is read

-- the world's journal is short
going_countable : (v : WorldView) → IsGoing v → IsCountable (journal_of (do_commands v.journal))
going_countable v going = let few = going.short.words in rw (← going.told) (omega (arith, few))

-- its numbers fit, and so do those of one command more
going_fits : RunLaws → (bytes : List ℕ) (v : WorldView) (left : Scenario) → IsGoing v → scenario_of bytes ≡ onto_scenario (do_commands v.journal) left
    → All IsTyped (journal_of (do_commands v.journal))
going_fits laws bytes v left going is = laws.fits (do_commands v.journal) (front_placed laws bytes (do_commands v.journal) left is) (going_countable v going)

next_fits : RunLaws → (bytes : List ℕ) (v : WorldView) (c : Command) (left : Scenario) → IsGoing v → scenario_of bytes ≡ onto_scenario (do_commands v.journal ++ c ∷ []) left
    → All IsTyped (journal_of (do_commands v.journal ++ c ∷ []))
next_fits laws bytes v c left going is = laws.fits_more (do_commands v.journal) c (front_placed laws bytes (do_commands v.journal ++ c ∷ []) left is) (going_countable v going)

-- a front of the journal of first commands of the scenario is read back from its text
read_front : RunLaws → (bytes : List ℕ) (done : List Command) (left : Scenario) (journal rest : List Line) → scenario_of bytes ≡ onto_scenario done left → All IsTyped (journal_of done)
    → journal_of done ≡ journal ++ rest → IsReadAs (text_of journal) journal
read_front laws bytes done left journal rest is fits whole =
    let spelled = laws.spelled done (front_placed laws bytes done left is) in
    laws.read journal (All-front IsTyped journal rest (subst (All IsTyped) whole fits)) (All-front IsSpelled journal rest (subst (All IsSpelled) whole spelled))

-- the journal of first commands of the scenario
run_so_far : RunLaws → (bytes : List ℕ) (done : List Command) (left : Scenario) → scenario_of bytes ≡ onto_scenario done left → All IsTyped (journal_of done)
    → IsRunSoFar bytes (text_of (journal_of done))
run_so_far laws bytes done left is fits = record {
  journal = journal_of done;
  text = refl;
  read = read_front laws bytes done left (journal_of done) [] is fits (sym (append-nil _));
  commands = record { rest = left.commands; is = ap (λ s. s.commands) is ∙ ap (λ cs. cs ++ left.commands) (sym (laws.commands done)) };
  history = lawful_front laws bytes done left (journal_of done) [] is (sym (append-nil _));
  whole = laws.whole done;
}

leaves_memory : RunLaws → (bytes : List ℕ) (v w : WorldView) (before number : ℕ) (rest : List ℕ) (old new newer : Option (List ℕ)) → SoFar bytes v before number rest old new → Appends new newer [] → LeavesIn old newer statuses.Memory bytes w
leaves_memory laws bytes v w before number rest old new newer s none =
    let text = text_of v.journal in
    (text, subst (Appends old newer) (append-nil text) (Appends-trans old new newer text [] s.put none), rw s.going.told (run_so_far laws bytes (do_commands v.journal) _ s.scenario_is (going_fits laws bytes v _ s.going s.scenario_is)))

-- the journal of all of them is the world's
run_whole : RunLaws → (bytes : List ℕ) (v : WorldView) (left : Scenario) → IsGoing v → scenario_of bytes ≡ onto_scenario (do_commands v.journal) left → left.commands ≡ [] → IsRun bytes (text_of v.journal)
run_whole laws bytes v left going is none = record {
  journal = v.journal;
  text = refl;
  read = read_front laws bytes (do_commands v.journal) left v.journal [] is (going_fits laws bytes v left going is) (sym going.told ∙ sym (append-nil v.journal));
  commands = sym (ap (λ s. s.commands) is ∙ ap (λ cs. do_commands v.journal ++ cs) none ∙ append-nil (do_commands v.journal));
  history = lawful_front laws bytes (do_commands v.journal) left v.journal [] is (sym going.told ∙ sym (append-nil v.journal));
  whole = rw going.told (laws.whole (do_commands v.journal));
  short = going.short;
}

-- the scenario ends here, at a line or at its end
ends_here : RunLaws → (bytes : List ℕ) (v : WorldView) (ending : Option Ending) → IsGoing v → scenario_of bytes ≡ onto_scenario (do_commands v.journal) (record { commands = []; ending = ending }) → Ends (ending_status ending) bytes v (text_of v.journal)
unfolding run_whole
ends_here laws bytes v ending going scenario =
    (ending, refl, (ap (λ x. x.ending) scenario, run_whole laws bytes v (record { commands = []; ending = ending }) going scenario refl, record { has = refl; going = going.going }))

-- what it leaves by its status
stop_leaves : (bytes : List ℕ) (v : WorldView) (written : List ℕ) (number : ℕ) (stop : Stop) → Ends (stop_status number stop) bytes v written → LeavesWritten (stop_status number stop) bytes v written
stop_leaves bytes v written number TooMany ends = ends
stop_leaves bytes v written number TooLong ends = ends
stop_leaves bytes v written number (Faulty fault) ends = ends
stop_leaves bytes v written number Unbuilt ends = ends

-- a line at which the scenario ends
leaves_stop : RunLaws → (bytes : List ℕ) (v : WorldView) (before number : ℕ) (rest line after : List ℕ) (old new : Option (List ℕ)) (stop : Stop) → SoFar bytes v before number rest old new → lines_of rest ≡ line ∷ lines_of after → line_says before number line ≡ Err stop
    → LeavesIn old new (stop_status number stop) bytes v
leaves_stop laws bytes v before number rest line after old new stop s is stops =
    let ending : Ending = record { line = number; stop = stop } in
    let here : scenario_left before number (lines_of rest) ≡ record { commands = []; ending = Some ending } = ap (scenario_left before number) is ∙ rw stops refl in
    let scenario : scenario_of bytes ≡ onto_scenario (do_commands v.journal) (record { commands = []; ending = Some ending }) = s.scenario_is ∙ ap (onto_scenario (do_commands v.journal)) here in
    (text_of v.journal, s.put, stop_leaves bytes v (text_of v.journal) number stop (ends_here laws bytes v (Some ending) s.going scenario))

pub leaves_judged : RunLaws → (bytes : List ℕ) (v : WorldView) (before number : ℕ) (rest line after : List ℕ) (old new : Option (List ℕ)) (status : Status) → SoFar bytes v before number rest old new → lines_of rest ≡ line ∷ lines_of after
    → Err status ≡ judged_status number (line_says before number line) → LeavesIn old new status bytes v
leaves_judged laws bytes v before number rest line after old new status s is judged =
    let found = said_stop number (line_says before number line) status judged in
    subst (λ st. LeavesIn old new st bytes v) (sym found.2) (leaves_stop laws bytes v before number rest line after old new found.0 s is found.1)

pub leaves_ok : RunLaws → (bytes : List ℕ) (v : WorldView) (before number : ℕ) (rest : List ℕ) (old new : Option (List ℕ)) → SoFar bytes v before number rest old new → rest ≡ [] → LeavesIn old new statuses.Ok bytes v
leaves_ok laws bytes v before number rest old new s none =
    let here : scenario_left before number (lines_of rest) ≡ record { commands = []; ending = None } = ap (λ r. scenario_left before number (lines_of r)) none in
    let scenario : scenario_of bytes ≡ onto_scenario (do_commands v.journal) (record { commands = []; ending = None }) = s.scenario_is ∙ ap (onto_scenario (do_commands v.journal)) here in
    (text_of v.journal, s.put, ends_here laws bytes v None s.going scenario)

leaves_write : RunLaws → (bytes : List ℕ) (v w : WorldView) (before number : ℕ) (rest after : List ℕ) (c : Command) (old new newer : Option (List ℕ)) → SoFar bytes v before number rest old new → IsNextCommand bytes v before number c after
    → WritesFront new newer v.journal (journal_of (do_commands v.journal ++ c ∷ [])) → LeavesIn old newer statuses.WriteFault bytes w
leaves_write laws bytes v w before number rest after c old new newer s next writes =
    let n = writes.wrote.0 in
    let done = do_commands v.journal ++ c ∷ [] in
    let piece = text_of writes.lines in
    let all : text_of (journal_of done) ≡ text_of v.journal ++ piece = ap text_of writes.grown ∙ text_of-append v.journal writes.lines in
    let m = length (text_of v.journal) + n in
    let cut : text_of v.journal ++ take n piece ≡ take m (text_of (journal_of done)) = sym (take-append-add (text_of v.journal) piece n) ∙ ap (take m) (sym all) in
    (text_of v.journal ++ take n piece, Appends-trans old new newer (text_of v.journal) (take n piece) s.put writes.wrote.2, record { text = text_of (journal_of done); run = run_so_far laws bytes done _ next.is (next_fits laws bytes v c _ s.going next.is); count = m; front = cut })

-- the journal of first commands, cut
run_full : RunLaws → (bytes : List ℕ) (which : Which) (done : List Command) (c : Command) (left : Scenario) (journal : List Line) → scenario_of bytes ≡ onto_scenario (done ++ c ∷ []) left → All IsTyped (journal_of (done ++ c ∷ []))
    → IsCut which done c journal → IsRunFull which bytes (text_of journal)
run_full laws bytes which done c left journal is fits cut =
    let all = done ++ c ∷ [] in
    let rest = cut.2.line ∷ cut.2.rest in
    let whole = cut_whole which done c journal cut in
    let commands : all ≡ do_commands journal ++ do_commands rest = sym (laws.commands all) ∙ ap do_commands whole ∙ laws.parts journal rest in
    record {
      journal = journal;
      text = refl;
      read = read_front laws bytes all left journal rest is fits whole;
      commands = record { rest = do_commands rest ++ left.commands; is = ap (λ s. s.commands) is ∙ ap (λ cs. cs ++ left.commands) commands ∙ append_assoc (do_commands journal) (do_commands rest) left.commands };
      history = lawful_front laws bytes all left journal rest is whole;
      done = done;
      command = c;
      next = record { rest = left.commands; is = ap (λ s. s.commands) is };
      cut = cut;
    }

-- what a limit of worlds leaves
limit_leaves : (bytes : List ℕ) (w : WorldView) (written : List ℕ) (which : Which) → FillsOn which bytes w written → LeavesWritten (statuses.Limit which (most_of which)) bytes w written
limit_leaves bytes w written whiches.Scenario fills = absurd fills.0
limit_leaves bytes w written whiches.Lines fills = absurd fills.0
limit_leaves bytes w written whiches.LineBytes fills = absurd fills.0
limit_leaves bytes w written whiches.Deliveries fills = (refl, fills)
limit_leaves bytes w written whiches.Words fills = (refl, fills)

leaves_limit : RunLaws → (bytes : List ℕ) (v w : WorldView) (before number : ℕ) (rest after : List ℕ) (c : Command) (old new newer : Option (List ℕ)) (which : Which) (limit : ℕ) → SoFar bytes v before number rest old new
    → IsNextCommand bytes v before number c after → IsFilled new newer which limit v c w → LeavesIn old newer (statuses.Limit which limit) bytes w
unfolding run_full
leaves_limit laws bytes v w before number rest after c old new newer which limit s next filled =
    let lines = filled.wrote.lines in
    let text : text_of v.journal ++ text_of lines ≡ text_of w.journal = sym (text_of-append v.journal lines) ∙ ap text_of (sym filled.wrote.grown) in
    let run = run_full laws bytes which (do_commands v.journal) c _ w.journal next.is (next_fits laws bytes v c _ s.going next.is) filled.cut in
    rw filled.most
    (text_of w.journal, subst (Appends old newer) text (Appends-trans old new newer _ _ s.put filled.wrote.wrote), limit_leaves bytes w (text_of w.journal) which (filled.limit, run, record { has = refl; full = filled.full }))

pub leaves_fault : RunLaws → (bytes : List ℕ) (v w : WorldView) (before number : ℕ) (rest after : List ℕ) (c : Command) (old new newer : Option (List ℕ)) → SoFar bytes v before number rest old new → IsNextCommand bytes v before number c after
    → (fault : Fault) → FaultLeaves new newer v c w fault → LeavesIn old newer (status_of fault) bytes w
leaves_fault laws bytes v w before number rest after c old new newer s next faults.Memory none = leaves_memory laws bytes v w before number rest old new newer s none
leaves_fault laws bytes v w before number rest after c old new newer s next faults.Write front = leaves_write laws bytes v w before number rest after c old new newer s next front
leaves_fault laws bytes v w before number rest after c old new newer s next (faults.Limit which limit) filled = leaves_limit laws bytes v w before number rest after c old new newer which limit s next filled

-- only a failed write is reported as one
pub was_write : (fault : Fault) → status_of fault ≡ statuses.WriteFault → fault ≡ faults.Write
was_write faults.Memory is = cc
was_write faults.Write is = refl
was_write (faults.Limit which limit) is = cc

-- a journal that was cut is one of a scenario whose whole journal passes the limit
passes_all : (which : Which) (journal rest : List Line) (line : Line) → Passes which journal line → IsShort (journal ++ line ∷ rest) → ⊥
passes_all whiches.Scenario journal rest line passes short = absurd passes
passes_all whiches.Lines journal rest line passes short = absurd passes
passes_all whiches.LineBytes journal rest line passes short = absurd passes
passes_all whiches.Deliveries journal rest line passes short = let more = one_delivery journal rest line passes.0 in omega (arith, more, passes.1, short.deliveries)
passes_all whiches.Words journal rest line passes short = let more = line_in journal rest line in omega (arith, more, passes.0, short.words)

pub too_long : (which : Which) (bytes written : List ℕ) → IsRunFull which bytes written → IsShort (journal_of (scenario_of bytes).commands) → ⊥
too_long which bytes written run short =
    let stopped = run.cut.2 in
    let more = journal_more (run.done ++ run.command ∷ []) run.next.rest in
    let all : journal_of (scenario_of bytes).commands ≡ run.journal ++ stopped.line ∷ (stopped.rest ++ more.0) =
    ap journal_of run.next.is ∙ more.1 ∙ ap (λ ls. ls ++ more.0) (cut_whole which run.done run.command run.journal run.cut) ∙ append_assoc run.journal (stopped.line ∷ stopped.rest) more.0 in
    passes_all which run.journal (stopped.rest ++ more.0) stopped.line stopped.passes (subst IsShort all short)

-- ---- nothing done

-- there is no holder yet
none_found : IsFound []
none_found [] behind is whole still server = cc
none_found (l ∷ ls) behind is whole still server = cc

-- and no call
none_answered : IsAnswered []
unfolding at
none_answered [] behind is whole still few = record { waits = λ e k. refl; named = λ e k s live. absurd (let none = live.stands in cc); lives = λ s of some. absurd (cc) }
none_answered (l ∷ ls) behind is whole still few = cc

pub no_run : (bytes : List ℕ) → IsRunSoFar bytes []
no_run bytes = record {
  journal = [];
  text = refl;
  read = refl;
  commands = record { rest = (scenario_of bytes).commands; is = refl };
  history = record { legal = tt; carried = tt; told = tt; rested = tt; found = none_found; calls = tt; answered = none_answered };
  whole = refl;
}

-- One command: how the journal of a world grows by it.
use Rattle.std.proofs.Common.{◌≡◌, ◌≤◌, ℕ, List, [], ◌∷◌, ◌++◌, length, drop, Option, sym, ap, ◌∙◌, subst, arith, append_assoc, length-append}
use Rattle.std.specs.Io.KnownBytes.{Appends}
use Rattle.std.proofs.Math.Seq.{drop-append_seam}
use Rattle.std.proofs.lemmas.List.{take-append-le}
use Rattle.xm_edge.specs.Whole.{AppendsFront}
use Rattle.xemem_language.specs.declared.command.Command.{Command}
use Rattle.xemem_language.specs.declared.line.Line.{Line}
use Rattle.global_model.specs.Facts.{facts_after}
use Rattle.global_model.specs.Due.{journal_of, step_lines}
use Rattle.global_model.specs.Journals.{do_commands}
use Rattle.xemem_language.specs.Spelling.{text_of}
use Rattle.node_world.specs.declared.world.Progress.TheVariants as progresses
use Rattle.node_world.specs.declared.world.Which.{Which}
use Rattle.node_world.specs.World.{WorldView, IsCut, IsShort}
use Rattle.scenario_run.specs.Laws.{RunLaws}
use Rattle.scenario_run.specs.declared.execute.Fault.{Fault}
use Rattle.scenario_run.specs.declared.execute.Fault.TheVariants as faults
use Rattle.scenario_run.specs.Run.{IsGoing, Writes, WritesFront, LinesLeave, FaultLeaves}
use Rattle.scenario_run.proofs.HistoryLemmas.{text_of-append}

-- what a list grew by lies behind its length
grown_by : {A : Type 0} (xs ys zs : List A) → zs ≡ xs ++ ys → zs ≡ xs ++ drop (length xs) zs
grown_by xs ys zs is = is ∙ ap (λ more. xs ++ more) (sym (drop-append_seam xs ys) ∙ ap (drop (length xs)) (sym is))

grown_length : {A : Type 0} (xs ys zs : List A) → zs ≡ xs ++ ys → length xs ≤ length zs
grown_length xs ys zs is = let sum = ap length is ∙ length-append xs ys in omega (arith, sum)

-- the journal of one command more goes on from that of the world
goes_on : RunLaws → (v : WorldView) (c : Command) → IsGoing v → journal_of (do_commands v.journal ++ c ∷ []) ≡ v.journal ++ step_lines (facts_after (journal_of (do_commands v.journal))) c
goes_on laws v c going = laws.more (do_commands v.journal) c ∙ ap (λ ls. ls ++ step_lines (facts_after (journal_of (do_commands v.journal))) c) (sym going.told)

-- ---- a step that was carried through

pub step_length : RunLaws → (v w : WorldView) (c : Command) → IsGoing v → w.journal ≡ journal_of (do_commands v.journal ++ c ∷ []) → length v.journal ≤ length w.journal
step_length laws v w c going is = grown_length v.journal _ w.journal (is ∙ goes_on laws v c going)

pub step_commands : RunLaws → (v w : WorldView) (c : Command) → w.journal ≡ journal_of (do_commands v.journal ++ c ∷ []) → do_commands w.journal ≡ do_commands v.journal ++ c ∷ []
step_commands laws v w c is = ap do_commands is ∙ laws.commands (do_commands v.journal ++ c ∷ [])

pub step_going : RunLaws → (v w : WorldView) (c : Command) → w.journal ≡ journal_of (do_commands v.journal ++ c ∷ []) → IsShort w.journal → w.progress ≡ progresses.Going → IsGoing w
step_going laws v w c is short going = record { told = is ∙ ap journal_of (sym (step_commands laws v w c is)); short = short; going = going }

pub step_writes : RunLaws → (v w : WorldView) (c : Command) (old new : Option (List ℕ)) → IsGoing v → w.journal ≡ journal_of (do_commands v.journal ++ c ∷ []) → Appends old new (text_of (drop (length v.journal) w.journal)) → Writes old new v.journal w.journal
step_writes laws v w c old new going is wrote = record { lines = drop (length v.journal) w.journal; grown = grown_by v.journal _ w.journal (is ∙ goes_on laws v c going); wrote = wrote }

step_front : RunLaws → (v w : WorldView) (c : Command) (old new : Option (List ℕ)) → IsGoing v → w.journal ≡ journal_of (do_commands v.journal ++ c ∷ []) → AppendsFront old new (text_of (drop (length v.journal) w.journal))
    → WritesFront old new v.journal (journal_of (do_commands v.journal ++ c ∷ []))
step_front laws v w c old new going is wrote = record { lines = drop (length v.journal) w.journal; grown = sym is ∙ grown_by v.journal _ w.journal (is ∙ goes_on laws v c going); wrote = wrote }

-- what a step that was carried through leaves where its lines failed to be written
pub step_leaves : RunLaws → (v w : WorldView) (c : Command) (old new : Option (List ℕ)) → IsGoing v → w.journal ≡ journal_of (do_commands v.journal ++ c ∷ []) → (fault : Fault) → LinesLeave old new (drop (length v.journal) w.journal) fault → FaultLeaves old new v c w fault
step_leaves laws v w c old new going is faults.Memory none = none
step_leaves laws v w c old new going is faults.Write wrote = step_front laws v w c old new going is wrote
step_leaves laws v w c old new going is (faults.Limit which number) never = absurd never

-- ---- a step that met a limit

-- what was written lies behind the world's journal
cut_grown : (v w : WorldView) (which : Which) (c : Command) → IsGoing v → (cut : IsCut which (do_commands v.journal) c w.journal) → w.journal ≡ v.journal ++ cut.2.written
cut_grown v w which c going cut = cut.2.grown ∙ ap (λ ls. ls ++ cut.2.written) (sym going.told)

-- and the journal of all lines goes on from it
pub cut_whole : (which : Which) (done : List Command) (c : Command) (journal : List Line) → (cut : IsCut which done c journal) → journal_of (done ++ c ∷ []) ≡ journal ++ cut.2.line ∷ cut.2.rest
cut_whole which done c journal cut =
    let stopped = cut.2 in
    let rest = stopped.line ∷ stopped.rest in
    cut.1 ∙ ap (λ ls. journal_of done ++ ls) stopped.is ∙ sym (append_assoc (journal_of done) stopped.written rest) ∙ ap (λ ls. ls ++ rest) (sym stopped.grown)

pub cut_length : (v w : WorldView) (which : Which) (c : Command) → IsGoing v → IsCut which (do_commands v.journal) c w.journal → length v.journal ≤ length w.journal
cut_length v w which c going cut = grown_length v.journal _ w.journal (cut_grown v w which c going cut)

pub cut_writes : (v w : WorldView) (which : Which) (c : Command) (old new : Option (List ℕ)) → IsGoing v → IsCut which (do_commands v.journal) c w.journal → Appends old new (text_of (drop (length v.journal) w.journal)) → Writes old new v.journal w.journal
cut_writes v w which c old new going cut wrote = record { lines = drop (length v.journal) w.journal; grown = grown_by v.journal _ w.journal (cut_grown v w which c going cut); wrote = wrote }

-- a front of a front
front_of_more : (old new : Option (List ℕ)) (xs ys : List ℕ) → AppendsFront old new xs → AppendsFront old new (xs ++ ys)
front_of_more old new xs ys front =
    (front.0, (let sum = length-append xs ys in omega (arith, sum, front.1)), subst (Appends old new) (sym (take-append-le front.0 xs ys front.1)) front.2)

cut_front : (v w : WorldView) (which : Which) (c : Command) (old new : Option (List ℕ)) → IsGoing v → IsCut which (do_commands v.journal) c w.journal → AppendsFront old new (text_of (drop (length v.journal) w.journal))
    → WritesFront old new v.journal (journal_of (do_commands v.journal ++ c ∷ []))
cut_front v w which c old new going cut wrote =
    let rest = cut.2.line ∷ cut.2.rest in
    let lines = drop (length v.journal) w.journal in
    let own : w.journal ≡ v.journal ++ lines = grown_by v.journal _ w.journal (cut_grown v w which c going cut) in
    record {
      lines = lines ++ rest;
      grown = cut_whole which (do_commands v.journal) c w.journal cut ∙ ap (λ ls. ls ++ rest) own ∙ append_assoc v.journal lines rest;
      wrote = subst (AppendsFront old new) (sym (text_of-append lines rest)) (front_of_more old new (text_of lines) (text_of rest) wrote);
    }

pub cut_leaves : (v w : WorldView) (which : Which) (c : Command) (old new : Option (List ℕ)) → IsGoing v → IsCut which (do_commands v.journal) c w.journal → (fault : Fault) → LinesLeave old new (drop (length v.journal) w.journal) fault
    → FaultLeaves old new v c w fault
cut_leaves v w which c old new going cut faults.Memory none = none
cut_leaves v w which c old new going cut faults.Write wrote = cut_front v w which c old new going cut wrote
cut_leaves v w which c old new going cut (faults.Limit limit number) never = absurd never

-- A step of the world goes on with its history, or is cut where a line would pass a limit.
use Rattle.std.proofs.Common.{◌≡◌, ◌+◌, ◌≤◌, ℕ, List, [], ◌∷◌, ◌++◌, length, true, Some, refl, sym, ap, ◌∙◌, subst, arith, append_assoc}
use Rattle.xemem_wire.specs.Spelling.{AreValid}
use Rattle.xemem_language.specs.declared.command.Command.{Command}
use Rattle.xemem_language.specs.declared.command.Command.TheVariants as commands
use Rattle.xemem_language.specs.declared.line.Line.{Line}
use Rattle.xemem_language.specs.declared.line.Line.TheVariants as lines
use Rattle.xemem_language.specs.Ranges.{IsInRange}
use Rattle.enclave_rules.specs.Hand.{Nothing}
use Rattle.global_model.specs.Place.{may_stand, IsPlacedAfter, IsPlaced}
use Rattle.xemem_language.specs.Spelling.{words_in}
use Rattle.global_model.specs.Facts.{facts_after, facts_at, after_line}
use Rattle.global_model.specs.Flow.{IsFlowing}
use Rattle.global_model.specs.Due.{command_lines, journal_of, settle_from, step_lines}
use Rattle.global_model.specs.Journals.{do_commands, onto, command_at}
use Rattle.node_world.specs.declared.world.Which.{Which}
use Rattle.node_world.specs.Laws.{WorldLaws}
use Rattle.node_machine.specs.Links.{sent_in}
use Rattle.node_machine.specs.Machine.{MachineView, lines_by, after_command}
use Rattle.node_machine.specs.Ready.{IsReady, IsNoSettle, CanStep}
use Rattle.node_world.specs.Shown.{IsShown}
use Rattle.node_world.specs.World.{most_words, holding, IsHistoryOf, IsAlong, IsCut, IsStopped}
use Rattle.node_world.proofs.Stills.{shown_hand}
use Rattle.node_world.proofs.Steps.{stepped, ready, can_step, sent_valid}
use Rattle.node_world.proofs.Counts.{AreOwnWords, Seats, seats_of, counted_line, counted_after}
use Rattle.node_world.proofs.Stops.{stopped_more, stopped_behind}
use Rattle.node_world.proofs.Words.{onto-append}

placed_more : (n : ℕ) (before : List Command) (c : Command) → IsPlacedAfter n before → may_stand (n + length before) c ≡ true → IsInRange c → IsPlacedAfter n (before ++ c ∷ [])
placed_more n [] c placed may range = let none : n + 0 ≡ n = omega arith in (subst (λ k. may_stand k c ≡ true) none may, range, tt)
placed_more n (b ∷ before) c placed may range =
    let count : n + length (b ∷ before) ≡ (n + 1) + length before = omega arith in
    (placed.0, placed.1, placed_more (n + 1) before c placed.2 (subst (λ k. may_stand k c ≡ true) count may) range)

module _ (laws : WorldLaws) (m : MachineView) (journal : List Line) (h : IsHistoryOf m journal) (c : Command) (may : may_stand (length (do_commands journal)) c ≡ true) (range : IsInRange c) where
  placed : IsPlaced (do_commands journal ++ c ∷ [])
  placed = let none : 0 + length (do_commands journal) ≡ length (do_commands journal) = omega arith in placed_more 0 (do_commands journal) c h.placed (subst (λ k. may_stand k c ≡ true) (sym none) may) range

  shown : IsShown (facts_after (journal_of (do_commands journal))) m
  shown = subst (λ j. IsShown (facts_after j) m) h.told h.shown

  -- the journal goes on by the command's lines
  all_lines : journal_of (do_commands journal ++ c ∷ []) ≡ journal ++ step_lines (facts_after journal) c
  all_lines = laws.journal (do_commands journal) c ∙ ap (λ j. j ++ step_lines (facts_after j) c) (sym h.told)

  -- ---- what was cut

  cut_of : (which : Which) (after : List Line) → IsStopped which journal (step_lines (facts_after journal) c) after → IsCut which (do_commands journal) c after
  cut_of which after stop = (
    step_lines (facts_after journal) c,
    all_lines ∙ ap (λ j. j ++ step_lines (facts_after journal) c) h.told,
    subst (λ j. IsStopped which j (step_lines (facts_after journal) c) after) h.told stop,
  )

  -- at its `do` line
  pub cut_first : (which : Which) (after : List Line) → IsStopped which journal (lines.Do c ∷ []) after → IsCut which (do_commands journal) c after
  cut_first which after stop = cut_of which after (stopped_more which journal (lines.Do c ∷ []) (command_lines (facts_after journal) c) after stop)

  -- ---- behind the `do` line

  module _ (begun : List Line) (out : begun ≡ journal ++ lines.Do c ∷ []) where
    pub cut_later : (which : Which) (after ls : List Line) → ls ≡ command_lines (facts_after journal) c → IsStopped which begun ls after → IsCut which (do_commands journal) c after
    cut_later which after ls is stop =
        cut_of which after (stopped_behind which journal (lines.Do c ∷ []) (command_lines (facts_after journal) c) after
        (subst (λ j. IsStopped which j (command_lines (facts_after journal) c) after) out (subst (λ ls. IsStopped which begun ls after) is stop)))

    pub whole_journal : (after ls : List Line) → ls ≡ command_lines (facts_after journal) c → after ≡ begun ++ ls → after ≡ journal_of (do_commands journal ++ c ∷ [])
    whole_journal after ls is grown =
        grown ∙ ap (λ j. j ++ ls) out ∙ append_assoc journal (lines.Do c ∷ []) ls ∙ ap (λ ls. journal ++ lines.Do c ∷ ls) is ∙ sym all_lines

    history_of : (w : MachineView) (after : List Line) → after ≡ journal_of (do_commands journal ++ c ∷ []) → IsShown (facts_after after) w → AreOwnWords w after → IsHistoryOf w after
    history_of w after whole shows counted =
        let commands : do_commands after ≡ do_commands journal ++ c ∷ [] = ap do_commands whole ∙ laws.commands (do_commands journal ++ c ∷ []) in
        record { placed = subst IsPlaced (sym commands) placed; told = whole ∙ ap journal_of (sym commands); shown = shows; appended = counted }

    at_hand : command_at (onto begun []) ≡ Some c
    at_hand = ap (λ j. command_at (onto j [])) out ∙ ap command_at (onto-append journal (lines.Do c ∷ []) [])

    counted_begun : AreOwnWords m begun
    counted_begun = subst (AreOwnWords m) (sym out) (counted_line m journal (lines.Do c) (λ e past. refl) h.appended)

    seats_begun : Seats m (facts_at (onto begun [])).holder
    seats_begun =
        let flowing : IsFlowing (facts_after journal) = subst (λ j. IsFlowing (facts_after j)) (sym h.told) (laws.flowing (do_commands journal) h.placed) in
        let same = ap (λ j. (facts_at (onto j [])).holder) out ∙ ap (λ past. (facts_at past).holder) (onto-append journal (lines.Do c ∷ []) []) in
        subst (Seats m) (sym same) (seats_of laws m journal flowing h.shown)

    -- ---- a step of the machine

    module _ (w : MachineView) (same : w ≡ m) (quiet : IsNoSettle c) where
      pub ready_now : IsReady w
      ready_now = subst IsReady (sym same) (ready laws (do_commands journal) m h.placed shown)

      pub can_now : CanStep w c
      can_now = subst (λ w. CanStep w c) (sym same) (can_step laws (do_commands journal) c m quiet placed shown)

      pub valid_now : AreValid (sent_in (lines_by w c))
      valid_now = subst (λ w. AreValid (sent_in (lines_by w c))) (sym same) (sent_valid laws (do_commands journal) c m quiet placed shown)

      pub lines_now : lines_by w c ≡ command_lines (facts_after journal) c
      lines_now = ap (λ w. lines_by w c) same ∙ (stepped laws (do_commands journal) c m quiet placed shown).0 ∙ ap (λ j. command_lines (facts_after j) c) (sym h.told)

      pub history_now : (v : MachineView) (after : List Line) → v ≡ after_command w c → after ≡ begun ++ lines_by w c → words_in after ≤ most_words → IsHistoryOf v after
      history_now v after is grown few =
          let whole = whole_journal after (lines_by w c) lines_now grown in
          let then : v ≡ after_command m c = is ∙ ap (λ w. after_command w c) same in
          let written : after ≡ begun ++ lines_by m c = grown ∙ ap (λ w. begun ++ lines_by w c) same in
          history_of v after whole
          (subst (λ v. IsShown (facts_after after) v) (sym then) (subst (λ j. IsShown (facts_after j) (after_command m c)) (sym whole) (stepped laws (do_commands journal) c m quiet placed shown).1))
          (subst (λ v. AreOwnWords v after) (sym then) (subst (AreOwnWords (after_command m c)) (sym written)
          (counted_after laws m c begun (ready laws (do_commands journal) m h.placed shown) (can_step laws (do_commands journal) c m quiet placed shown).stands seats_begun at_hand counted_begun (subst (λ j. words_in j ≤ most_words) written few))))

    -- ---- a settle

    module _ (w : MachineView) (same : w ≡ m) (most : ℕ) (settles : c ≡ commands.Settle most) where
      facts_begun : facts_after begun ≡ after_line (facts_after journal) (lines.Do (commands.Settle most))
      facts_begun = ap facts_after out ∙ laws.facts journal (lines.Do c ∷ []) ∙ ap (λ c. after_line (facts_after journal) (lines.Do c)) settles

      pub along_begun : IsAlong w begun
      along_begun = subst (λ w. IsAlong w begun) (sym same) (record {
        played = do_commands journal;
        placed = h.placed;
        hand = Nothing;
        facts = facts_begun ∙ ap (λ j. holding Nothing (facts_after j)) h.told;
        shown = subst (λ F. IsShown F m) (sym facts_begun) (shown_hand (facts_after journal) Nothing m h.shown);
        appended = counted_begun;
      })

      pub hand_begun : command_at (onto begun []) ≡ Some (commands.Settle most)
      hand_begun = at_hand ∙ ap Some settles

      pub settle_lines : settle_from most 0 (facts_after begun) ≡ command_lines (facts_after journal) c
      settle_lines = ap (settle_from most 0) facts_begun ∙ ap (command_lines (facts_after journal)) (sym settles)

      pub history_settled : (v : MachineView) (after : List Line) → after ≡ begun ++ settle_from most 0 (facts_after begun) → IsAlong v after → IsHistoryOf v after
      history_settled v after grown along = history_of v after (whole_journal after _ settle_lines grown) along.shown along.appended

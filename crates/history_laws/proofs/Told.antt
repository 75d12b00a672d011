-- Exactly one journal is told and whole for given commands.
use Rattle.std.proofs.Common.{◌≡◌, ◌+◌, ℕ, zero, suc, List, [], ◌∷◌, ◌++◌, drop, Bool, true, false, None, Some, refl, sym, ap, ◌∙◌, subst, arith, add-one, append_assoc, append-nil}
use Rattle.std.specs.List.{slice_get}
use Rattle.xemem_language.specs.declared.command.Command.{Command}
use Rattle.xemem_language.specs.declared.line.Line.{Line}
use Rattle.xemem_language.specs.declared.line.Line.TheVariants as lines
use Rattle.global_model.specs.Facts.{Facts, after_lines, facts_at, no_facts}
use Rattle.global_model.specs.Due.{command_lines, step_lines, journal_from, journal_of, due_since, due_line}
use Rattle.global_model.specs.Plain.{IsAct, AreActs}
use Rattle.global_model.specs.Journals.{Follows, onto, do_commands}
use Rattle.history_laws.specs.History.{IsDueAt, IsTold, IsWhole}
use Rattle.history_laws.specs.Laws.{HistoryLaws}
use Rattle.history_laws.proofs.Follow.{Follows-append}

-- ---- lines that begin no command

pub is_do : Line → Bool
is_do (lines.Do command) = true
is_do line = false

no_do : (line : Line) → IsAct line → is_do line ≡ false
unfolding is_do
no_do (lines.Do command) act = absurd act
no_do _ act = refl

do_commands-act : (line : Line) (ls : List Line) → is_do line ≡ false → do_commands (line ∷ ls) ≡ do_commands ls
unfolding is_do
do_commands-act (lines.Do command) ls act = cc
do_commands-act _ ls act = refl

-- ---- what is due after a past

-- the lines of the command at hand that are still to come
rest_since : ℕ → List Line → List Line
rest_since since [] = []
rest_since since (lines.Do command ∷ past) = drop since (command_lines (facts_at past) command)
rest_since since (line ∷ past) = rest_since (since + 1) past

pub rest_of : List Line → List Line
rest_of past = rest_since 0 past

get_first-drop : (n : ℕ) (ls : List Line) → slice_get ls n ≡ slice_get (drop n ls) 0
get_first-drop zero ls = refl
get_first-drop (suc n) [] = refl
get_first-drop (suc n) (l ∷ ls) = get_first-drop n ls

drop-drop_one : (n : ℕ) (ls : List Line) → drop (n + 1) ls ≡ drop 1 (drop n ls)
drop-drop_one zero ls = refl
drop-drop_one (suc n) [] = rw add-one refl
drop-drop_one (suc n) (l ∷ ls) = let e : suc n + 1 ≡ suc (n + 1) = omega arith in rw e (drop-drop_one n ls)

due_is_first : (n : ℕ) (past : List Line) → due_since n past ≡ slice_get (rest_since n past) 0
unfolding rest_since
due_is_first n [] = refl
due_is_first n (lines.Do command ∷ past) = get_first-drop n (command_lines (facts_at past) command)
due_is_first n (_ ∷ past) = due_is_first (n + 1) past

one_less : (n : ℕ) (past : List Line) → rest_since (n + 1) past ≡ drop 1 (rest_since n past)
unfolding rest_since
one_less n [] = refl
one_less n (lines.Do command ∷ past) = drop-drop_one n (command_lines (facts_at past) command)
one_less n (_ ∷ past) = one_less (n + 1) past

pub due_line-first : (past : List Line) → due_line past ≡ slice_get (rest_of past) 0
unfolding rest_of
due_line-first past = due_is_first 0 past

-- a line of a command takes one away from what is to come
rest_of-act : (line : Line) (past : List Line) → is_do line ≡ false → rest_of (line ∷ past) ≡ drop 1 (rest_of past)
unfolding rest_of rest_since is_do
rest_of-act (lines.Do command) past h = cc
rest_of-act _ past h = one_less 0 past

rest_of-do : (command : Command) (past : List Line) → rest_of (lines.Do command ∷ past) ≡ command_lines (facts_at past) command
unfolding rest_of rest_since
rest_of-do command past = refl

-- what is due of a line that begins no command
act_is_due : (line : Line) (past : List Line) → is_do line ≡ false → due_line past ≡ Some line → IsDueAt past line
unfolding is_do
act_is_due (lines.Do command) past h due = cc
act_is_due _ past h due = due

due_of_act : (line : Line) (past : List Line) → is_do line ≡ false → IsDueAt past line → due_line past ≡ Some line
unfolding is_do
due_of_act (lines.Do command) past h due = cc
due_of_act _ past h due = due

-- ---- the journal of commands is told and whole

pub record IsToldUpTo (past journal : List Line) : Type 0 where
  pub told : Follows IsDueAt past journal
  pub whole : rest_of (onto journal past) ≡ []

told_acts : (journal past : List Line) → rest_of past ≡ journal → AreActs journal → IsToldUpTo past journal
told_acts [] past rest acts = record { told = tt; whole = rest }
told_acts (line ∷ journal) past rest acts =
    let due : due_line past ≡ Some line = due_line-first past ∙ ap (λ ls. slice_get ls 0) rest in
    let less : rest_of (line ∷ past) ≡ journal = rest_of-act line past (no_do line acts.0) ∙ ap (drop 1) rest in
    let more = told_acts journal (line ∷ past) less acts.1 in
    record { told = (act_is_due line past (no_do line acts.0) due, more.told); whole = more.whole }

nothing_due : (past : List Line) → rest_of past ≡ [] → due_line past ≡ None
nothing_due past none = due_line-first past ∙ ap (λ ls. slice_get ls 0) none

told_step : HistoryLaws → (command : Command) (past : List Line) → rest_of past ≡ [] → IsToldUpTo past (step_lines (facts_at past) command)
told_step laws command past none =
    let more = told_acts (command_lines (facts_at past) command) (lines.Do command ∷ past) (rest_of-do command past) (laws.act.acts (facts_at past) command) in
    record { told = (nothing_due past none, more.told); whole = more.whole }

pub told_journal : HistoryLaws → (cs : List Command) (G : Facts) (past : List Line) → G ≡ facts_at past → rest_of past ≡ []
    → IsToldUpTo past (journal_from G cs)
told_journal laws [] G past is none = record { told = tt; whole = none }
told_journal laws (c ∷ cs) G past is none =
    let ls = step_lines G c in
    let one : IsToldUpTo past ls = rw is (told_step laws c past none) in
    let facts : after_lines G ls ≡ facts_at (onto ls past) = ap (λ H. after_lines H ls) is ∙ sym (laws.past.facts ls past) in
    let more = told_journal laws cs (after_lines G ls) (onto ls past) facts one.whole in
    record {
      told = Follows-append IsDueAt ls (journal_from (after_lines G ls) cs) past one.told more.told;
      whole = ap rest_of (laws.past.pasts ls (journal_from (after_lines G ls) cs) past) ∙ more.whole;
    }

rest_of-nil : rest_of [] ≡ []
unfolding rest_of rest_since
rest_of-nil = refl

pub journal_of-told : HistoryLaws → (cs : List Command) → IsToldUpTo [] (journal_of cs)
journal_of-told laws cs = told_journal laws cs no_facts [] refl rest_of-nil

pub journal_of-whole : HistoryLaws → (cs : List Command) → IsWhole (journal_of cs)
journal_of-whole laws cs = nothing_due _ (journal_of-told laws cs).whole

-- ---- no other journal is told and whole

-- what was told so far, and what is to come of the command at hand, is the journal of the commands so far
pub IsSoFar : List Line → Type 0
IsSoFar front = journal_of (do_commands front) ≡ front ++ rest_of (onto front [])

first_none : (ls : List Line) → slice_get ls 0 ≡ None → ls ≡ []
first_none [] none = refl
first_none (l ∷ ls) none = cc

first_some : (ls : List Line) (line : Line) → slice_get ls 0 ≡ Some line → ls ≡ line ∷ drop 1 ls
first_some [] line some = cc
first_some (l ∷ ls) line some = let same : l ≡ line = cc in ap (λ x. x ∷ ls) same

so_far-do : HistoryLaws → (front : List Line) (c : Command) → IsSoFar front → IsDueAt (onto front []) (lines.Do c) → IsSoFar (front ++ lines.Do c ∷ [])
unfolding IsSoFar
so_far-do laws front c is due =
    let past = onto front [] in
    let step = λ (G : Facts). step_lines G c in
    let none : rest_of past ≡ [] = first_none (rest_of past) (sym (due_line-first past) ∙ due) in
    let whole : journal_of (do_commands front) ≡ front = is ∙ ap (λ ls. front ++ ls) none ∙ append-nil front in
    let facts : facts_at past ≡ after_lines no_facts front = laws.past.facts front [] in
    let rest : rest_of (onto (front ++ lines.Do c ∷ []) []) ≡ command_lines (after_lines no_facts front) c = ap rest_of (laws.past.pasts front (lines.Do c ∷ []) []) ∙ rest_of-do c past ∙ ap (λ G. command_lines G c) facts in
    let journal : journal_of (do_commands (front ++ lines.Do c ∷ [])) ≡ front ++ step (after_lines no_facts front) = ap journal_of (laws.past.commands front (lines.Do c ∷ [])) ∙ laws.journal.more (do_commands front) c ∙ ap (λ ls. ls ++ step (after_lines no_facts ls)) whole in
    journal ∙ sym (append_assoc front (lines.Do c ∷ []) (command_lines (after_lines no_facts front) c)) ∙ ap (λ ls. (front ++ lines.Do c ∷ []) ++ ls) (sym rest)

so_far-act : HistoryLaws → (front : List Line) (line : Line) → is_do line ≡ false → IsSoFar front → IsDueAt (onto front []) line
    → IsSoFar (front ++ line ∷ [])
unfolding IsSoFar
so_far-act laws front line act is due =
    let past = onto front [] in
    let first : rest_of past ≡ line ∷ drop 1 (rest_of past) = first_some (rest_of past) line (sym (due_line-first past) ∙ due_of_act line past act due) in
    let rest : rest_of (onto (front ++ line ∷ []) []) ≡ drop 1 (rest_of past) = ap rest_of (laws.past.pasts front (line ∷ []) []) ∙ rest_of-act line past act in
    let commands : do_commands (front ++ line ∷ []) ≡ do_commands front = laws.past.commands front (line ∷ []) ∙ ap (λ cs. do_commands front ++ cs) (do_commands-act line [] act) ∙ append-nil (do_commands front) in
    ap journal_of commands ∙ is ∙ ap (λ ls. front ++ ls) first ∙ sym (append_assoc front (line ∷ []) (drop 1 (rest_of past))) ∙ ap (λ ls. (front ++ line ∷ []) ++ ls) (sym rest)

so_far-line : HistoryLaws → (front : List Line) (line : Line) → IsSoFar front → IsDueAt (onto front []) line → IsSoFar (front ++ line ∷ [])
unfolding is_do
so_far-line laws front (lines.Do c) is due = so_far-do laws front c is due
so_far-line laws front line is due = so_far-act laws front line refl is due

so_far-journal : HistoryLaws → (back front : List Line) → Follows IsDueAt (onto front []) back → IsSoFar front → IsSoFar (front ++ back)
so_far-journal laws [] front told is = subst IsSoFar (sym (append-nil front)) is
so_far-journal laws (line ∷ back) front told is =
    let past : onto (front ++ line ∷ []) [] ≡ line ∷ onto front [] = laws.past.pasts front (line ∷ []) [] in
    let more = so_far-journal laws back (front ++ line ∷ []) (subst (λ p. Follows IsDueAt p back) (sym past) told.1) (so_far-line laws front line is told.0) in
    subst IsSoFar (append_assoc front (line ∷ []) back) more

so_far-nil : IsSoFar []
unfolding IsSoFar
so_far-nil = sym rest_of-nil

-- what is told is a front of the journal of its commands
pub told_front : HistoryLaws → (journal : List Line) → IsTold journal → journal_of (do_commands journal) ≡ journal ++ rest_of (onto journal [])
unfolding IsSoFar
told_front laws journal told = so_far-journal laws journal [] told so_far-nil

pub only_journal : HistoryLaws → (journal : List Line) → IsTold journal → IsWhole journal → journal ≡ journal_of (do_commands journal)
only_journal laws journal told whole =
    let none : rest_of (onto journal []) ≡ [] = first_none _ (sym (due_line-first (onto journal [])) ∙ whole) in
    sym (told_front laws journal told ∙ ap (λ ls. journal ++ ls) none ∙ append-nil journal)

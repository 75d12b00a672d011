-- Each line of the journal of commands that stand where they may has a spelling.
use Rattle.std.proofs.Common.{◌≡◌, ◌+◌, ◌≤◌, ℕ, List, [], ◌∷◌, ◌++◌, true, not, Option, None, Some, arith}
use Rattle.std.specs.List.{All, AllByRecursion}
use Rattle.std.proofs.lemmas.Bool.{leb-true, and_parts}
use Rattle.std.proofs.lemmas.List.Elements.{All-nil, All-cons}
use Rattle.xm_num.specs.declared.Enclave.{Enclave}
use Rattle.xemem_language.specs.declared.record.Record.{Record}
use Rattle.xemem_wire.specs.Table.{kind_of, is_enclave, is_undirected, is_destination}
use Rattle.xemem_wire.specs.Spelling.{is_valid}
use Rattle.xemem_language.specs.declared.command.Command.{Command}
use Rattle.xemem_language.specs.declared.line.Line.{Line}
use Rattle.xemem_language.specs.declared.line.Line.TheVariants as lines
use Rattle.global_model.specs.Facts.{Facts, after_lines, no_facts}
use Rattle.xemem_language.specs.Ranges.{IsPlainOption, IsSpelledBody, IsSpelled}
use Rattle.global_model.specs.Apt.{AptAt}
use Rattle.global_model.specs.Plain.{IsTellable, IsAct}
use Rattle.history_laws.specs.Laws.{HistoryLaws}
use Rattle.global_model.specs.Place.{IsPlacedAfter, IsPlaced}
use Rattle.global_model.specs.Due.{command_lines, step_lines, journal_from, journal_of}
use Rattle.global_model.specs.Carriage.{CarriedAt}
use Rattle.global_model.specs.Journals.{Follows}

-- ---- valid records

spelled_dest : (kind : ℕ) (dest : Option Enclave) → is_destination kind dest ≡ true → IsPlainOption dest
spelled_dest kind None is = tt
spelled_dest kind (Some e) is =
    let most : e.0 ≤ 255 = leb-true e.0 255 (and_parts (not (is_undirected kind)) (is_enclave e.0) is).1 in
    omega (arith, most)

spelled_record : HistoryLaws → (r : Record) → is_valid r ≡ true → IsPlainOption r.dest × IsSpelledBody r.body
unfolding is_valid
spelled_record laws r valid =
    let called = and_parts _ _ valid in
    let sent = and_parts _ _ called.0 in
    (spelled_dest (kind_of r.body) r.dest sent.1, laws.wire.body r valid)

-- ---- lines

tellable_act : (line : Line) → IsAct line → IsTellable line
tellable_act (lines.Do command) act = absurd act
tellable_act _ act = act

-- the acts of a command, and what stands behind them
tellable_acts : (ls ms : List Line) → AllByRecursion IsAct ls → AllByRecursion IsTellable ms → AllByRecursion IsTellable (ls ++ ms)
tellable_acts [] ms acts more = more
tellable_acts (l ∷ ls) ms acts more = (tellable_act l acts.0, tellable_acts ls ms acts.1 more)

tellable_journal : HistoryLaws → (cs : List Command) (before : ℕ) (G : Facts) → IsPlacedAfter before cs → AllByRecursion IsTellable (journal_from G cs)
tellable_journal laws [] before G placed = tt
tellable_journal laws (c ∷ cs) before G placed =
    let H = after_lines G (step_lines G c) in
    (placed.1, tellable_acts (command_lines G c) (journal_from H cs) (laws.act.acts G c) (tellable_journal laws cs (before + 1) H placed.2))

-- the record that is sent is valid, as the journal is carried, and a segid that is named is in its range, as the line is apt
spelled_line : HistoryLaws → (past : List Line) (line : Line) → IsTellable line → CarriedAt past line → AptAt past line → IsSpelled line
spelled_line laws past (lines.Sent x y r) tellable carried apt = spelled_record laws r carried.2
spelled_line laws past (lines.Drew e call segid) tellable carried apt = apt.range
spelled_line laws past (lines.Named e call segid) tellable carried apt = apt.range
spelled_line laws past (lines.Unnamed segid) tellable carried apt = apt.range
spelled_line laws past (lines.Grant owner e call segid access) tellable carried apt = apt.range
spelled_line laws past (lines.Remove e segid) tellable carried apt = apt.range
spelled_line laws past (lines.AnswerSegid e p call segid) tellable carried apt = apt.range
spelled_line laws past (lines.Name segid owner) tellable carried apt = apt
spelled_line laws past _ tellable carried apt = tellable

spelled_lines : HistoryLaws → (ls past : List Line) → AllByRecursion IsTellable ls → Follows CarriedAt past ls → Follows AptAt past ls → All IsSpelled ls
spelled_lines laws [] past tellable carried apt = All-nil IsSpelled
spelled_lines laws (l ∷ ls) past tellable carried apt =
    All-cons IsSpelled l ls (spelled_line laws past l tellable.0 carried.0 apt.0) (spelled_lines laws ls (l ∷ past) tellable.1 carried.1 apt.1)

pub journal_of-spelled : HistoryLaws → (cs : List Command) → IsPlaced cs → All IsSpelled (journal_of cs)
journal_of-spelled laws cs placed =
    spelled_lines laws (journal_of cs) [] (tellable_journal laws cs 0 no_facts placed) (laws.journal.carried cs placed) (laws.journal.apt cs placed)

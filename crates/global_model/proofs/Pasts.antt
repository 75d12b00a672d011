-- Pasts, and the facts and laws along a journal.
use Rattle.std.proofs.Common.{◌≡◌, List, [], ◌∷◌, ◌++◌, refl, sym, ap, ◌∙◌, append_assoc, append-nil}
use Rattle.xemem_language.specs.declared.command.Command.{Command}
use Rattle.xemem_language.specs.declared.line.Line.{Line}
use Rattle.xemem_language.specs.declared.line.Line.TheVariants as lines
use Rattle.global_model.specs.Facts.{Facts, after_line, after_lines, facts_at}
use Rattle.global_model.specs.Due.{step_lines, journal_from}
use Rattle.global_model.specs.Journals.{Follows, onto, do_commands}

pub onto-append : (ls ms past : List Line) → onto (ls ++ ms) past ≡ onto ms (onto ls past)
onto-append [] ms past = refl
onto-append (l ∷ ls) ms past = onto-append ls ms (l ∷ past)

pub after_lines-append : (G : Facts) (ls ms : List Line) → after_lines G (ls ++ ms) ≡ after_lines (after_lines G ls) ms
after_lines-append G [] ms = refl
after_lines-append G (l ∷ ls) ms = after_lines-append (after_line G l) ls ms

pub facts_at-onto : (ls past : List Line) → facts_at (onto ls past) ≡ after_lines (facts_at past) ls
facts_at-onto [] past = refl
facts_at-onto (l ∷ ls) past = facts_at-onto ls (l ∷ past)

pub Follows-append : (Law : List Line → Line → Type 0) (ls ms past : List Line) → Follows Law past ls → Follows Law (onto ls past) ms
    → Follows Law past (ls ++ ms)
Follows-append Law [] ms past f g = g
Follows-append Law (l ∷ ls) ms past f g = (f.0, Follows-append Law ls ms (l ∷ past) f.1 g)

-- ---- several commands

-- the facts after commands
abbrev pub facts_by : Facts → List Command → Facts
facts_by G cs = after_lines G (journal_from G cs)

pub facts_by-cons : (G : Facts) (c : Command) (cs : List Command) → facts_by G (c ∷ cs) ≡ facts_by (after_lines G (step_lines G c)) cs
facts_by-cons G c cs = after_lines-append G (step_lines G c) (journal_from (after_lines G (step_lines G c)) cs)

-- the last command's lines come after those of the others
pub facts_by-more : (G : Facts) (cs : List Command) (c : Command)
    → facts_by G (cs ++ c ∷ []) ≡ after_lines (facts_by G cs) (step_lines (facts_by G cs) c)
facts_by-more G [] c = facts_by-cons G c []
facts_by-more G (first ∷ cs) c =
    let H = after_lines G (step_lines G first) in
    facts_by-cons G first (cs ++ c ∷ []) ∙ facts_by-more H cs c
    ∙ ap (λ K. after_lines K (step_lines K c)) (sym (facts_by-cons G first cs))

pub do_commands-append : (ls ms : List Line) → do_commands (ls ++ ms) ≡ do_commands ls ++ do_commands ms
do_commands-append [] ms = refl
do_commands-append (lines.Do command ∷ ls) ms = ap (λ cs. command ∷ cs) (do_commands-append ls ms)
do_commands-append (_ ∷ ls) ms = do_commands-append ls ms

pub journal_from-more : (G : Facts) (done : List Command) (c : Command)
    → journal_from G (done ++ c ∷ []) ≡ journal_from G done ++ step_lines (after_lines G (journal_from G done)) c
journal_from-more G [] c = append-nil _
journal_from-more G (first ∷ done) c =
    let ls = step_lines G first in
    let H = after_lines G ls in
    let facts : after_lines H (journal_from H done) ≡ after_lines G (ls ++ journal_from H done) = sym (after_lines-append G ls (journal_from H done)) in
    ap (λ more. ls ++ more) (journal_from-more H done c) ∙ sym (append_assoc ls (journal_from H done) _) ∙ ap (λ K. (ls ++ journal_from H done) ++ step_lines K c) facts

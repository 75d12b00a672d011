-- Apt lines are carried, and so the journal of commands that stand where they may; wherever a command has ended all channels flow.
use Rattle.std.proofs.Common.{◌/◌, refl, ap, ◌∙◌, ◌≡◌, ℕ, Some, List, [], ◌∷◌}
use Rattle.xemem_language.specs.declared.command.Command.{Command}
use Rattle.xemem_language.specs.declared.line.Line.{Line}
use Rattle.xemem_language.specs.declared.line.Line.TheVariants as lines
use Rattle.global_model.specs.Facts.{Facts, fact_of, facts_at, facts_after}
use Rattle.global_model.specs.Space.{frame_of, is_lent_to}
use Rattle.xm_num.specs.declared.Frame.{Frame}
use Rattle.global_model.specs.Apt.{IsApt, AreApt, AptAt, AreOwned, OwnedAt}
use Rattle.global_model.specs.Carriage.{CarriedAt, IsCarried}
use Rattle.global_model.specs.Flow.{IsFlowing}
use Rattle.global_model.specs.Journals.{Follows}
use Rattle.global_model.specs.Place.{IsPlaced}
use Rattle.global_model.specs.Due.{journal_of}
use Rattle.attach_map.specs.Attaching.{ProcessState}
use Rattle.xm_num.specs.declared.Page.{Page}
use Rattle.xm_num.specs.Rows.{at}
use Rattle.global_model.proofs.Rows.{all_at}
use Rattle.global_model.proofs.Owned.{IsOwned, OwnsAll}
use Rattle.global_model.proofs.Flow.{next_arrives}
use Rattle.global_model.proofs.Sound.{IsSound, sound_line, sound_flowing, sound_start}
use Rattle.global_model.proofs.Commands.{runs_after}

-- apt lines, as a law along a journal
pub follows_apt : (ls past : List Line) → AreApt (facts_at past) ls → Follows AptAt past ls
follows_apt [] past apt = tt
follows_apt (l ∷ ls) past apt = (apt.0, follows_apt ls (l ∷ past) apt.1)

carried_line : (past : List Line) (line : Line) → IsSound (facts_at past) → IsApt (facts_at past) line → CarriedAt past line
carried_line past (lines.Took x y count) sound apt = (apt.some, apt.wait)
carried_line past (lines.Got x y) sound apt =
    let channel = (facts_at past).channel x.0 y.0 in
    let next = next_arrives channel apt.rec apt.later (sound.flows x.0 y.0) apt.arrives in
    (next.sent, next.whole)
carried_line past (lines.Sent x y r) sound apt = (apt.between.living, apt.between.near, apt.valid)
carried_line past (lines.Killed x cut) sound apt = absurd apt
carried_line past (lines.End x y torn) sound apt = absurd apt
carried_line past _ sound apt = tt

carried_lines : (ls past : List Line) → IsSound (facts_at past) → AreApt (facts_at past) ls → Follows CarriedAt past ls
carried_lines [] past sound apt = tt
carried_lines (l ∷ ls) past sound apt =
    (carried_line past l sound apt.0, carried_lines ls (l ∷ past) (sound_line (facts_at past) l sound apt.0) apt.1)

owned_facts : (G : Facts) → IsSound G → AreOwned G
owned_facts G sound = record {
  own = λ e p v process page one two. (found e p v process page one two).own;
  lent = λ e p v process page one two.
      let frame : frame_of (fact_of (G.enclave e)) page ≡ page.frame = rw (sound.plain e) refl in
      ap (λ (f : Frame). is_lent_to e (G.block (f.0 / 64))) frame ∙ (found e p v process page one two).lent;
}
  where
    found : (e p v : ℕ) (process : ProcessState) (page : Page) → at (G.memory e).processes p ≡ Some process → at process.pages v ≡ Some page → IsOwned G.block e page
    found e p v process page one two =
        let all : OwnsAll G.block e process = all_at (OwnsAll G.block e) (G.memory e).processes p process (sound.owned e) one in
        all_at (IsOwned G.block e) process.pages v page all two

owned_lines : (ls past : List Line) → IsSound (facts_at past) → AreApt (facts_at past) ls → Follows OwnedAt past ls
owned_lines [] past sound apt = tt
owned_lines (l ∷ ls) past sound apt =
    (owned_facts (facts_at past) sound, owned_lines ls (l ∷ past) (sound_line (facts_at past) l sound apt.0) apt.1)

pub journal_of-owned : (cs : List Command) → IsPlaced cs → Follows OwnedAt [] (journal_of cs)
journal_of-owned cs placed = owned_lines (journal_of cs) [] sound_start (runs_after cs placed).apt

pub journal_of-apt : (cs : List Command) → IsPlaced cs → Follows AptAt [] (journal_of cs)
journal_of-apt cs placed = follows_apt (journal_of cs) [] (runs_after cs placed).apt

pub journal_of-carried : (cs : List Command) → IsPlaced cs → IsCarried (journal_of cs)
journal_of-carried cs placed = carried_lines (journal_of cs) [] sound_start (runs_after cs placed).apt

pub journal_of-flowing : (cs : List Command) → IsPlaced cs → IsFlowing (facts_after (journal_of cs))
journal_of-flowing cs placed =
    let ready = (runs_after cs placed).ready in
    sound_flowing (facts_after (journal_of cs)) ready.sound ready.got

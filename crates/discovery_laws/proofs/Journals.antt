-- Along every journal discovery goes as it is to, and no record is got twice.
use Rattle.std.proofs.Common.{ℕ, List, [], ◌∷◌, ◌++◌, cond, sym, subst}
use Rattle.xm_num.specs.declared.Kind.TheVariants as kinds
use Rattle.xemem_language.specs.declared.command.Command.{Command}
use Rattle.xemem_language.specs.declared.line.Line.{Line}
use Rattle.xemem_language.specs.declared.line.Line.TheVariants as lines
use Rattle.enclave_rules.specs.Steps.{adopt_lines, child_lines, told_lines}
use Rattle.enclave_rules.specs.Core.{host}
use Rattle.global_model.specs.Due.{journal_of}
use Rattle.global_model.specs.Facts.{Facts, after_lines, facts_after, facts_at, no_facts}
use Rattle.global_model.specs.Journals.{Follows, onto}
use Rattle.global_model.specs.Pauses.{AreSteps, IsPause, MayCome, Step, Written, Hosts, Bears, Takes, Handles, Asks, asked_lines, written_by, written_in}
use Rattle.global_model.specs.Place.{IsPlaced}
use Rattle.global_model.specs.Views.{view_of}
use Rattle.discovery_laws.specs.Laws.{DiscoveryLaws}
use Rattle.discovery_laws.specs.Once.{OnceAt, IsOnce, records_got}
use Rattle.discovery_laws.proofs.Each.{each_birth, each_either}
use Rattle.discovery_laws.proofs.Joined.{IsJoined, joined_first, joined_step}
use Rattle.discovery_laws.proofs.Discovered.{AreMarked, GoesOn, IsDiscovered, inner_asked, goes_born, goes_handled, goes_within, kept_step}
use Rattle.discovery_laws.proofs.Pausing.{aside_alone}
use Rattle.discovery_laws.proofs.Unmoved.{IsWithinStep, inner_aside}

-- ---- steps

goes_on : DiscoveryLaws → (past : List Line) (step : Step) → IsPause (facts_at past) → MayCome (facts_at past) step → IsDiscovered past
    → GoesOn past (written_by (facts_at past) step)
goes_on laws past (Written line) pause may old = goes_within past (line ∷ []) (inner_aside line 0 (aside_alone (facts_at past) line 0 may.1), tt) (kept_step laws (facts_at past) (Written line) pause may) old
goes_on laws past (Takes x y count) pause may old = goes_within past (lines.Took x y count ∷ []) (tt, tt) (kept_step laws (facts_at past) (Takes x y count) pause may) old
goes_on laws past (Asks e p call) pause may old =
    let v = view_of (facts_at past) e in
    goes_within past (asked_lines v p call) (inner_asked v p call) (kept_step laws (facts_at past) (Asks e p call) pause may) old
goes_on laws past (Handles x y r) pause may old = goes_handled laws past x y r pause may old (kept_step laws (facts_at past) (Handles x y r) pause may)
goes_on laws past (Hosts ns blocks) pause may old =
    goes_born past host kinds.Host host ns blocks (cond ns (lines.Admitted host ∷ []) []) (each_either IsWithinStep ns (lines.Admitted host ∷ []) [] (tt, tt) tt)
    (kept_step laws (facts_at past) (Hosts ns blocks) pause may) old
goes_on laws past (Bears child kind parent ns blocks) pause may old =
    let G = facts_at past in
    let v = view_of G parent in
    goes_born past child kind parent ns blocks ((told_lines child (G.heard parent.0) ++ child_lines child parent ns) ++ adopt_lines v child)
    (each_birth IsWithinStep child parent ns (G.heard parent.0) v (λ d. tt) tt (λ a b. tt))
    (kept_step laws (facts_at past) (Bears child kind parent ns blocks) pause may) old

after_step : (laws : DiscoveryLaws) (past : List Line) (step : Step) → IsPause (facts_at past) → MayCome (facts_at past) step → IsDiscovered past
    → GoesOn past (written_by (facts_at past) step) → IsDiscovered (onto (written_by (facts_at past) step) past)
after_step laws past step pause may old on =
    let G = facts_at past in
    let ls = written_by G step in
    let P : Facts → Type 0 = λ H. IsJoined H × ((y : ℕ) → AreMarked H y (records_got y (onto ls past))) in
    let all : P (facts_at (onto ls past)) = subst P (sym (laws.past.facts ls past)) (joined_step laws G step pause may old.joined, on.got) in
    record { joined = all.0; got = all.1 }

Follows-append : (Law : List Line → Line → Type 0) (ls ms past : List Line) → Follows Law past ls → Follows Law (onto ls past) ms
    → Follows Law past (ls ++ ms)
Follows-append Law [] ms past first more = more
Follows-append Law (l ∷ ls) ms past first more = (first.0, Follows-append Law ls ms (l ∷ past) first.1 more)

record GoesAll (past ls : List Line) : Type 0 where
  once : Follows OnceAt past ls
  end : IsDiscovered (onto ls past)

all_steps : (laws : DiscoveryLaws) (steps : List Step) (past : List Line) → AreSteps (facts_at past) steps → IsDiscovered past
    → GoesAll past (written_in (facts_at past) steps)
all_steps laws [] past are old = record { once = tt; end = old }
all_steps laws (step ∷ steps) past are old =
    let G = facts_at past in
    let ls = written_by G step in
    let on = goes_on laws past step are.0 are.1 old in
    let here = sym (laws.past.facts ls past) in
    let after = after_step laws past step are.0 are.1 old on in
    let more : GoesAll (onto ls past) (written_in (after_lines G ls) steps)
    = subst (λ H. GoesAll (onto ls past) (written_in H steps)) (laws.past.facts ls past)
    (all_steps laws steps (onto ls past) (subst (λ H. AreSteps H steps) here are.2) after) in
    record {
      once = Follows-append OnceAt ls (written_in (after_lines G ls) steps) past on.once more.once;
      end = subst IsDiscovered (sym (laws.past.pasts ls (written_in (after_lines G ls) steps) past)) more.end;
    }

-- ---- whole journals

from_the_start : (laws : DiscoveryLaws) (commands : List Command) → IsPlaced commands → GoesAll [] (journal_of commands)
from_the_start laws commands placed =
    let in_steps = laws.journal.steps commands placed in
    subst (GoesAll []) (sym in_steps.written)
    (all_steps laws in_steps.steps [] in_steps.are (record { joined = joined_first laws; got = λ y. tt }))

pub journal_of-once : (laws : DiscoveryLaws) (commands : List Command) → IsPlaced commands → IsOnce (journal_of commands)
journal_of-once laws commands placed = (from_the_start laws commands placed).once

-- ---- pauses

-- after any steps that may come
pub steps_joined : (laws : DiscoveryLaws) (steps : List Step) → AreSteps no_facts steps → IsJoined (after_lines no_facts (written_in no_facts steps))
steps_joined laws steps are = subst IsJoined (laws.past.facts (written_in no_facts steps) []) (all_steps laws steps [] are first_discovered).end.joined
  where
    first_discovered : IsDiscovered []
    first_discovered = record { joined = joined_first laws; got = λ y. tt }

-- where every command has ended
pub journal_of-joined : (laws : DiscoveryLaws) (commands : List Command) → IsPlaced commands → IsJoined (facts_after (journal_of commands))
journal_of-joined laws commands placed =
    let in_steps = laws.journal.steps commands placed in
    subst (λ journal. IsJoined (facts_after journal)) (sym in_steps.written) (steps_joined laws in_steps.steps in_steps.are)

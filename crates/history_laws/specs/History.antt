-- Journals as histories: legal, carried, told, rested, found, lawful in their calls, answered, and whole.
use Rattle.std.specs.Prelude.{◌≡◌, ◌<◌, ◌^◌, ◌++◌, List, [], length, None, Some, true}
use Rattle.xemem_language.specs.declared.line.Line.{Line}
use Rattle.xemem_language.specs.declared.line.Line.TheVariants as lines
use Rattle.global_model.specs.Carriage.{IsCarried}
use Rattle.global_model.specs.Due.{due_line}
use Rattle.global_model.specs.Journals.{Follows, onto}
use Rattle.global_model.specs.Facts.{facts_after}
use Rattle.global_model.specs.Rest.{IsAtRest, IsRested}
use Rattle.discovery_laws.specs.Known.{AreAdmitted}
use Rattle.call_laws.specs.Legal.{AreCalls}
use Rattle.call_laws.specs.Places.{IsEven}
use Rattle.history_laws.specs.Lawful.{IsLegalAt}

-- told: a `do` line stands where nothing is due, and every other line is the one that is due
abbrev pub IsDueAt : List Line → Line → Type 0
IsDueAt past (lines.Do command) = due_line past ≡ None
IsDueAt past line = due_line past ≡ Some line

abbrev pub IsLegal : List Line → Type 0
IsLegal journal = Follows IsLegalAt [] journal

abbrev pub IsTold : List Line → Type 0
IsTold journal = Follows IsDueAt [] journal

-- whole: nothing is due
abbrev pub IsWhole : List Line → Type 0
IsWhole journal = due_line (onto journal []) ≡ None

-- found: wherever nothing is due and nothing waits, and an enclave was born with the name server, each that lives is admitted and
-- knows the way to it
abbrev pub IsFound : List Line → Type 0
IsFound journal = (front rest : List Line) → journal ≡ front ++ rest → IsWhole front → IsAtRest (facts_after front)
    → (facts_after front).server ≡ true → AreAdmitted (facts_after front)

-- answered: wherever nothing is due and nothing waits, each call has its answer, and the names are those of the live segments; behind
-- 2^32 lines numbers may have run out
abbrev pub IsAnswered : List Line → Type 0
IsAnswered journal = (front rest : List Line) → journal ≡ front ++ rest → IsWhole front → IsAtRest (facts_after front) → length front < 2 ^ 32
    → IsEven (onto front [])

-- a lawful history
pub record IsHistory (journal : List Line) : Type 0 where
  pub legal : IsLegal journal
  pub carried : IsCarried journal
  pub told : IsTold journal
  pub rested : IsRested journal
  pub found : IsFound journal
  pub calls : AreCalls journal
  pub answered : IsAnswered journal

-- The commands of a scenario stand where they may, their numbers in their ranges.
use Rattle.std.proofs.Common.{◌≡◌, ◌+◌, ℕ, List, [], ◌∷◌, length, Bool, true, Option, None, Some, Result, Ok, Err, ltb, refl, ap, ◌∙◌, inl, inr, arith}
use Rattle.std.proofs.lemmas.Bool.{cases_Bool, and_from}
use Rattle.xemem_language.specs.declared.command.Command.{Command}
use Rattle.xemem_language.specs.Place.{is_in_place, may_stand_by, ArePlacedBy}
use Rattle.xemem_language.specs.Ranges.{IsInRange}
use Rattle.command_reader.specs.declared.fault.SyntaxFault.{SyntaxFault}
use Rattle.command_reader.specs.declared.fault.SyntaxFault.TheVariants as faults
use Rattle.text_words.specs.Laws.{NumberLaws}
use Rattle.text_words.specs.Words.{words_of}
use Rattle.command_reader.specs.Forms.{command_of}
use Rattle.command_reader.specs.Scenario.{Stop, Unbuilt, Faulty, is_comment, as_said, line_command, placed, judged, said, scenario_with, scenario_from, most_lines, most_line_bytes}
use Rattle.command_reader.proofs.FormLemmas.{command_of-spells}
use Rattle.command_reader.proofs.SlotLemmas.{chosen}

-- a command that is placed is the one that was found, and may stand
record IsPlacedAs (built : Command → Bool) (before : ℕ) (o : Option Command) (command : Command) : Type 0 where
  found : o ≡ Some command
  may : may_stand_by built before command ≡ true

placed_as : (built : Command → Bool) (before : ℕ) (o : Option Command) (command : Command) → placed built before o ≡ Ok (Some command) → IsPlacedAs built before o command
placed_as built before None command h = cc
placed_as built before (Some c) command h =
    elim (cases_Bool (is_in_place before c)) [
      | inl there ↦ elim (cases_Bool (built c)) [
        | inl can ↦ let e : Ok (Some c) ≡ Ok (Some command) = rw (there, can) at h in let same : c ≡ command = cc in record { found = ap Some same; may = rw (← same) (and_from _ _ there can) }
        | inr unbuilt ↦ let e : Err Unbuilt ≡ Ok (Some command) = rw (there, unbuilt) at h in cc
      ]
      | inr elsewhere ↦ let e : Err (Faulty faults.Place) ≡ Ok (Some command) = rw elsewhere at h in cc
    ]

-- a command that a line spells has its numbers in their ranges
as_said_is : (r : Result Command SyntaxFault) (command : Command) → as_said r ≡ Ok (Some command) → r ≡ Ok command
as_said_is (Ok c) command e = let same : c ≡ command = cc in ap Ok same
as_said_is (Err fault) command e = cc

spelled_ranges : (laws : NumberLaws) (line : List ℕ) (command : Command) → line_command line ≡ Ok (Some command) → IsInRange command
spelled_ranges laws line command is =
    elim (cases_Bool (is_comment (words_of line))) [
      | inl comment ↦ let e : Ok None ≡ Ok (Some command) = rw comment at is in cc
      | inr plain ↦ (command_of-spells laws (words_of line) command (as_said_is (command_of (words_of line)) command (rw plain at is))).ranges
    ]

-- what a line says that does not end the scenario may stand there, its numbers in their ranges
record IsSaid (built : Command → Bool) (before : ℕ) (command : Command) : Type 0 where
  may : may_stand_by built before command ≡ true
  ranges : IsInRange command

judged_is : (laws : NumberLaws) (built : Command → Bool) (before : ℕ) (line : List ℕ) (command : Command) → judged built before (line_command line) ≡ Ok (Some command) → IsSaid built before command
judged_is laws built before line command h = by (line_command line) refl h
  where
    by : (r : Result (Option Command) SyntaxFault) → line_command line ≡ r → judged built before r ≡ Ok (Some command) → IsSaid built before command
    by (Ok o) is h = let p = placed_as built before o command h in record { may = p.may; ranges = spelled_ranges laws line command (is ∙ ap Ok p.found) }
    by (Err fault) is h = cc

said_is : (laws : NumberLaws) (built : Command → Bool) (before number : ℕ) (line : List ℕ) (command : Command) → said built before number line ≡ Ok (Some command) → IsSaid built before command
said_is laws built before number line command h =
    chosen (IsSaid built before command) (ltb most_lines number) _ _ _ h (λ test is. cc) (λ few.
    chosen (IsSaid built before command) (ltb most_line_bytes (length line)) _ _ _ few (λ test is. cc) (λ is. judged_is laws built before line command is))

placed_from : (laws : NumberLaws) (built : Command → Bool) (lines : List (List ℕ)) (before number : ℕ) → ArePlacedBy built before (scenario_from built before number lines).commands
placed_from laws built [] before number = tt
placed_from laws built (line ∷ lines) before number =
    by (λ bs. placed_from laws built lines bs (number + 1)) (said built before number line) (said_is laws built before number line)
  where
    by : ((bs : ℕ) → ArePlacedBy built bs (scenario_from built bs (number + 1) lines).commands) → (r : Result (Option Command) Stop) → ((command : Command) → r ≡ Ok (Some command) → IsSaid built before command)
        → ArePlacedBy built before (scenario_with number r (λ found. scenario_from built (before + length found) (number + 1) lines)).commands
    by more (Err stop) is = tt
    by more (Ok None) is = let none : before + 0 ≡ before = omega arith in rw none (more before)
    by more (Ok (Some command)) is = let k = is command refl in (k.may, k.ranges, more (before + 1))

pub scenario_placed : (laws : NumberLaws) (built : Command → Bool) (lines : List (List ℕ)) → ArePlacedBy built 0 (scenario_from built 0 1 lines).commands
scenario_placed laws built lines = placed_from laws built lines 0 1

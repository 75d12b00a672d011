-- What each line of a journal must meet, by the lines before it. A past has its newest line first.
use Rattle.std.specs.Prelude.{◌≡◌, ℕ, List, ◌∷◌, length, take, true, Option, None, Some, All}
use Rattle.xm_num.specs.declared.Cause.{Cause}
use Rattle.xm_num.specs.declared.Access.{Access}
use Rattle.xm_num.specs.declared.Frame.{Frame}
use Rattle.xm_num.specs.Rows.{at}
use Rattle.xemem_language.specs.declared.command.Command.{Command}
use Rattle.xemem_language.specs.declared.command.Command.TheVariants as commands
use Rattle.xemem_language.specs.declared.line.Line.{Line}
use Rattle.xemem_language.specs.declared.line.Line.TheVariants as lines
use Rattle.exporter_pins.specs.Holdings.{Export}
use Rattle.enclave_rules.specs.Pages.{allows, block_frames}
use Rattle.global_model.specs.Facts.{Facts, fact_of, facts_at}
use Rattle.global_model.specs.Journals.{command_at}
use Rattle.global_model.specs.Refusals.{refusal_of}
use Rattle.global_model.specs.Space.{IsUnmapped, blocks_left, names_frame, space_of, unused_frames}

-- some enclave's export, asked or live, names the frame
pub record IsExported (G : Facts) (frame : Frame) : Type 0 where
  pub enclave : ℕ
  pub call : ℕ
  pub export : Export
  pub held : at (G.exports enclave) call ≡ Some export
  pub named : names_frame (fact_of (G.enclave enclave)) frame.0 export ≡ true

abbrev pub IsUnexported : Facts → Frame → Type 0
IsUnexported G frame = IsExported G frame → ⊥

-- lending: what is allocated or lent are the lowest unused frames and the lowest free blocks, and none of it is mapped or exported
abbrev pub LawfulLending : List Line → Line → Type 0
LawfulLending past (lines.Alloc e p page frames) =
    (frames ≡ take (length frames) (unused_frames (facts_at past) e.0)) × All (IsUnmapped (facts_at past)) frames
    × All (IsUnexported (facts_at past)) frames
LawfulLending past (lines.Born e kind parent ns blocks) =
    (blocks ≡ take (length blocks) (blocks_left (facts_at past))) × All (λ block. All (IsUnmapped (facts_at past)) (block_frames block)) blocks
    × All (λ block. All (IsUnexported (facts_at past)) (block_frames block)) blocks
LawfulLending past line = Unit {0}

-- the mapping allows what the command at hand wants
abbrev pub AllowsCommand : Access → Option Command → Type 0
AllowsCommand access (Some (commands.Touch e p addr want)) = allows access want ≡ true
AllowsCommand access command = ⊥

-- acts: a touched page is mapped to its frame, with an access that allows what was wanted
abbrev pub LawfulAct : List Line → Line → Type 0
LawfulAct past (lines.Touched e p page frame) =
    (access : Access) × (space_of (facts_at past) e.0 p.0 page.0 ≡ Some (record { frame = frame; access = access })) × AllowsCommand access (command_at past)
LawfulAct past line = Unit {0}

-- the cause, where the line is a refusal
abbrev pub cause_of : Line → Option Cause
cause_of (lines.Refused cause) = Some cause
cause_of line = None

-- refusals: the line after a `do` line is a refusal exactly where a condition holds, for the first that does, and
-- no other line is one
abbrev pub LawfulRefusal : List Line → Line → Type 0
LawfulRefusal (lines.Do command ∷ past) line = cause_of line ≡ refusal_of (facts_at past) command
LawfulRefusal past line = cause_of line ≡ None

pub record IsLegalAt (past : List Line) (line : Line) : Type 0 where
  pub lending : LawfulLending past line
  pub act : LawfulAct past line
  pub refusal : LawfulRefusal past line

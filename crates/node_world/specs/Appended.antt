-- How many words the lines have that a node appended, by the journal.
use Rattle.std.specs.Prelude.{◌+◌, ℕ, List, [], ◌∷◌, length, Bool, true, false, not, ◌&&◌, ◌==◌, if◌then◌else◌, Option, Some, None}
use Rattle.std.specs.Option.{option_map_or}
use Rattle.xm_num.specs.declared.Cause.{Cause}
use Rattle.xm_num.specs.declared.Enclave.{Enclave}
use Rattle.xm_num.specs.declared.Cause.TheVariants as causes
use Rattle.xemem_language.specs.declared.command.Command.{Command}
use Rattle.xemem_language.specs.declared.call.ProcessCall.{ProcessCall}
use Rattle.xemem_language.specs.Calls.{call_of}
use Rattle.xemem_language.specs.declared.line.Line.{Line}
use Rattle.xemem_language.specs.declared.line.Line.TheVariants as lines
use Rattle.xemem_language.specs.Spelling.{line_words}
use Rattle.enclave_rules.specs.View.{is_writer}
use Rattle.global_model.specs.Facts.{facts_at}
use Rattle.global_model.specs.Journals.{command_at}

-- the enclave doesn't live: the world refuses so, and no node does
abbrev pub is_unborn : Cause → Bool
is_unborn causes.NoEnclave = true
is_unborn cause = false

-- the enclave's node refuses the command's call for this cause
abbrev pub refuses_call : ℕ → Cause → ProcessCall → Bool
refuses_call e cause k = not (is_unborn cause) && (k.enclave.0 == e)

-- the command at hand is a call that the enclave's node refuses for this cause; no other refusal is a node's
abbrev pub refuses : ℕ → Option Command → Cause → Bool
refuses e None cause = false
refuses e (Some command) cause = option_map_or (refuses_call e cause) (call_of command) false

-- the world writes what a touch found, and which bytes are taken; all other lines of enclaves are appended by their nodes
abbrev pub is_worlds : Line → Bool
is_worlds (lines.Touched of p page frame) = true
is_worlds (lines.Took x y count) = true
is_worlds line = false

-- the enclave's node appended this line, where that command is at hand, and `holder` is the enclave with the name server
abbrev pub is_appended : Enclave → Option Command → ℕ → Line → Bool
is_appended holder hand e (lines.Refused cause) = refuses e hand cause
is_appended holder hand e line = not (is_worlds line) && is_writer holder e line

-- and behind a past, the newest line first
abbrev pub is_by : ℕ → List Line → Line → Bool
is_by e past line = is_appended (facts_at past).holder (command_at past) e line

-- how many words the lines of a past have that the enclave's node appended
abbrev pub words_by : ℕ → List Line → ℕ
words_by e [] = 0
words_by e (line ∷ past) = (if is_by e past line then length (line_words line) else 0) + words_by e past

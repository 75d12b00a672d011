-- What a command writes, by the views of the enclaves.
use Rattle.std.specs.Prelude.{Some, ◌≡◌, ℕ, List, ◌++◌, length, take, Bool, ◌&&◌, nat_le, nat_lt, if◌then◌else◌}
use Rattle.xm_num.specs.declared.Enclave.{Enclave}
use Rattle.xm_num.specs.declared.Pid.{Pid}
use Rattle.xm_num.specs.declared.Want.{Want}
use Rattle.xm_num.specs.declared.Kind.{Kind}
use Rattle.xm_num.specs.declared.Cause.TheVariants as causes
use Rattle.xemem_language.specs.declared.command.Command.{Command}
use Rattle.xemem_language.specs.declared.command.Command.TheVariants as commands
use Rattle.xemem_language.specs.declared.call.ProcessCall.{ProcessCall}
use Rattle.xemem_language.specs.declared.call.NodeShow.{NodeShow}
use Rattle.xemem_language.specs.declared.call.Show.TheVariants as shows
use Rattle.xemem_language.specs.Calls.{call_of, show_of}
use Rattle.xemem_language.specs.declared.line.Line.{Line}
use Rattle.frame_pool.specs.Blocks.{free_blocks}
use Rattle.enclave_rules.specs.Steps.{adopt_lines, answer_lines, birth_lines, refusal, start_lines, touch_answer}
use Rattle.enclave_rules.specs.Calls.{call_lines, show_lines}
use Rattle.enclave_rules.specs.Core.{host}
use Rattle.global_model.specs.Due.{command_lines, next_enclave}
use Rattle.global_model.specs.Facts.{Facts, lives_at}
use Rattle.global_model.specs.Views.{view_of}

-- the lines of a command at an enclave, where it lives
abbrev pub at_living : Facts → Enclave → List Line → List Line
at_living G e journal = if lives_at G e.0 then journal else refusal causes.NoEnclave

abbrev pub start_asked : Facts → Enclave → ℕ → ℕ → List Line
start_asked G e uid gid = if nat_le 1024 G.starts then refusal causes.TooMany else start_lines (view_of G e) uid gid

abbrev pub boot_asked : Facts → Kind → Enclave → ℕ → Bool → List Line
boot_asked G kind parent blocks ns =
    let free = free_blocks (view_of G host).host.states in
    if nat_le 256 G.born then refusal causes.TooMany
    else (if ns && G.server then refusal causes.NameServerTaken
    else (if nat_lt (length free) blocks then refusal causes.NoBlocks
    else birth_lines (next_enclave G) kind parent (take blocks free) ns (view_of G parent).core.heard ++ adopt_lines (view_of G parent) (next_enclave G)))

-- the names are shown of the enclave that was born with the name server
abbrev pub names_asked : Facts → List Line
names_asked G = if G.server then show_lines (view_of G G.holder) shows.Names else refusal causes.NotReady

-- each command's lines follow from which enclaves live, the views of those that it names, how many enclaves were born, and how
-- many processes were started
pub record IsAnswered (G : Facts) : Type 0 where
  pub boot : (kind : Kind) (parent : Enclave) (blocks : ℕ) (ns : Bool) → command_lines G (commands.Boot kind parent blocks ns) ≡ at_living G parent (boot_asked G kind parent blocks ns)
  pub proc : (e : Enclave) (uid gid : ℕ) → command_lines G (commands.Proc e uid gid) ≡ at_living G e (start_asked G e uid gid)
  pub touch : (e : Enclave) (p : Pid) (addr : ℕ) (want : Want) → command_lines G (commands.Touch e p addr want) ≡ at_living G e (answer_lines e p (touch_answer (view_of G e) p addr want))
  pub call : (command : Command) (k : ProcessCall) → call_of command ≡ Some k → command_lines G command ≡ at_living G k.enclave (call_lines (view_of G k.enclave) k.pid k.call)
  pub names : command_lines G commands.ShowNames ≡ names_asked G
  pub show : (command : Command) (s : NodeShow) → show_of command ≡ Some s → command_lines G command ≡ at_living G s.enclave (show_lines (view_of G s.enclave) s.show)

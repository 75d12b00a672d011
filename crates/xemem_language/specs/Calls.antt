-- The calls of processes, and what can be shown of a node, by the command that asks for it.
use Rattle.std.specs.Prelude.{◌≡◌, Option, None, Some}
use Rattle.xm_num.specs.declared.Enclave.{Enclave}
use Rattle.xemem_language.specs.declared.command.Command.{Command}
use Rattle.xemem_language.specs.declared.command.Command.TheVariants as commands
use Rattle.xemem_language.specs.declared.call.Call.{Call}
use Rattle.xemem_language.specs.declared.call.Call.TheVariants as calls
use Rattle.xemem_language.specs.declared.call.ProcessCall.{ProcessCall}
use Rattle.xemem_language.specs.declared.call.Show.{Show}
use Rattle.xemem_language.specs.declared.call.Show.TheVariants as shows
use Rattle.xemem_language.specs.declared.call.NodeShow.{NodeShow}
use Rattle.xemem_language.specs.Ranges.{IsWithin, IsName, most64}

-- the call for which the command asks
abbrev pub call_of : Command → Option ProcessCall
call_of (commands.Alloc e p at n) = Some (record { enclave = e; pid = p; call = calls.Alloc at n })
call_of (commands.Make e p addr size mode) = Some (record { enclave = e; pid = p; call = calls.Make addr size mode })
call_of (commands.Remove e p segid) = Some (record { enclave = e; pid = p; call = calls.Remove segid })
call_of command = None

-- each number of a call is in its range
abbrev pub IsCallInRange : Call → Type 0
IsCallInRange (calls.Alloc at n) = IsWithin 1 16777215 at.0 × IsWithin 1 4096 n
IsCallInRange (calls.Make addr size mode) = IsWithin 0 most64 addr × IsWithin 0 most64 size × IsWithin 0 511 mode
IsCallInRange (calls.Remove segid) = IsName segid.0

-- What the command asks to be shown of a node: the pool is shown of the host, which is enclave 0. Which enclave holds the names
-- isn't told by the command.
abbrev pub show_of : Command → Option NodeShow
show_of (commands.ShowRoutes e) = Some (record { enclave = e; show = shows.Routes })
show_of commands.ShowPool = Some (record { enclave = record { 0 = 0 }; show = shows.Pool })
show_of command = None

-- the pool is shown of the host alone
abbrev pub IsShownOf : Enclave → Show → Type 0
IsShownOf e shows.Routes = Unit {0}
IsShownOf e shows.Pool = e.0 ≡ 0
IsShownOf e shows.Names = Unit {0}

abbrev pub IsShowable : NodeShow → Type 0
IsShowable s = IsShownOf s.enclave s.show

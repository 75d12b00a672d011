-- Which table of the printer has the row of a line or of a command.
use Rattle.std.specs.Prelude.{ℕ}
use Rattle.xemem_language.specs.declared.command.Command.{Command}
use Rattle.xemem_language.specs.declared.command.Command.TheVariants as commands
use Rattle.xemem_language.specs.declared.line.Line.{Line}
use Rattle.xemem_language.specs.declared.line.Line.TheVariants as lines

-- the tables stand in this order, and each passes on what the later ones have
abbrev pub table_of : Line → ℕ
table_of (lines.Took from to count) = 1
table_of (lines.Idle from to) = 1
table_of (lines.Got from to) = 1
table_of (lines.End from to torn) = 1
table_of (lines.Dropped enclave) = 1
table_of (lines.Bytes from to at bytes) = 1
table_of (lines.Asked enclave by) = 2
table_of (lines.Way enclave over) = 2
table_of (lines.Back enclave of over) = 2
table_of (lines.Route enclave of over) = 2
table_of (lines.Gmap monitor guest owner call first) = 2
table_of (lines.Gdrop monitor guest call) = 2
table_of (lines.Issue enclave pid call) = 3
table_of (lines.Drew enclave call segid) = 3
table_of (lines.Named enclave call segid) = 3
table_of (lines.Unnamed segid) = 3
table_of (lines.Map enclave call page) = 3
table_of (lines.Unmap enclave call) = 3
table_of (lines.Release enclave call) = 3
table_of (lines.Remove enclave segid) = 3
table_of (lines.Undo enclave call) = 3
table_of (lines.Closed enclave call) = 3
table_of (lines.Grant owner enclave call segid access) = 4
table_of (lines.Deny at enclave call cause) = 4
table_of (lines.Pin owner enclave call) = 4
table_of (lines.Unpin owner enclave call) = 4
table_of (lines.Ungrant owner enclave call) = 4
table_of (lines.AnswerSegid enclave pid call segid) = 5
table_of (lines.AnswerApid enclave pid call apid pages) = 5
table_of (lines.AnswerAddr enclave pid call addr) = 5
table_of (lines.AnswerRefused enclave pid call cause) = 5
table_of (lines.Proc enclave pid uid gid) = 6
table_of (lines.Alloc enclave pid at frames) = 6
table_of (lines.Free enclave pid at pages) = 6
table_of (lines.Touched enclave pid page frame) = 6
table_of (lines.Exit enclave pid) = 6
table_of (lines.Born enclave kind parent ns blocks) = 7
table_of (lines.Told enclave of) = 7
table_of (lines.Admitted enclave) = 7
table_of (lines.Killed enclave cut) = 7
table_of (lines.Stopped enclave) = 7
table_of (lines.Held enclave) = 7
table_of (lines.Heard enclave of) = 7
table_of (lines.Confirmed of by) = 7
table_of (lines.Unheld enclave) = 7
table_of (lines.Settled made) = 7
table_of (lines.Waiting made) = 7
table_of (lines.Page enclave pid page frame access) = 8
table_of (lines.AtWay enclave over) = 8
table_of (lines.AtWayOwn enclave) = 8
table_of (lines.AtWayNone enclave) = 8
table_of (lines.AtRoute enclave of over) = 8
table_of (lines.AtPin owner enclave call segid offset pages) = 8
table_of (lines.Name segid owner) = 8
table_of (lines.BlockFree block) = 8
table_of (lines.BlockLent block enclave) = 8
table_of (lines.BlockHeld block enclave) = 8
table_of line = 0

-- the same for commands
abbrev pub command_table_of : Command → ℕ
command_table_of (commands.Proc enclave uid gid) = 1
command_table_of (commands.Alloc enclave pid at pages) = 1
command_table_of (commands.Free enclave pid at pages) = 1
command_table_of (commands.Touch enclave pid addr want) = 1
command_table_of (commands.Exit enclave pid) = 1
command_table_of (commands.Make enclave pid addr size mode) = 2
command_table_of (commands.Remove enclave pid segid) = 2
command_table_of (commands.Get enclave pid segid access) = 2
command_table_of (commands.Release enclave pid apid) = 2
command_table_of (commands.Attach enclave pid apid offset size addr) = 2
command_table_of (commands.Detach enclave pid addr) = 2
command_table_of (commands.ShowMaps enclave pid) = 3
command_table_of (commands.ShowRoutes enclave) = 3
command_table_of (commands.ShowPins enclave) = 3
command_table_of (commands.ShowLink from to) = 3
command_table_of commands.ShowPool = 3
command_table_of commands.ShowNames = 3
command_table_of command = 0

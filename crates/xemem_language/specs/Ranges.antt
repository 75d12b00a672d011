-- The ranges of the numbers of commands and lines.
use Rattle.std.specs.Prelude.{◌≤◌, ◌<◌, ◌^◌, ℕ, ℤ, pos, ◌≤ℤ◌, length, Option, None, Some}
use Rattle.xm_num.specs.declared.Enclave.{Enclave}
use Rattle.xm_num.specs.declared.Kind.{Kind}
use Rattle.xm_num.specs.declared.Kind.TheVariants as kinds
use Rattle.xemem_language.specs.declared.record.Body.{Body}
use Rattle.xemem_language.specs.declared.record.Body.TheVariants as bodies
use Rattle.xemem_language.specs.declared.command.Command.{Command}
use Rattle.xemem_language.specs.declared.command.Command.TheVariants as commands
use Rattle.xemem_language.specs.declared.line.Line.{Line}
use Rattle.xemem_language.specs.declared.line.Line.TheVariants as lines

-- the highest number of an enclave
abbrev pub most16 : ℕ
most16 = 65534

-- the highest number of 32 bits
abbrev pub most32 : ℕ
most32 = 4294967295

-- the highest number of 64 bits
abbrev pub most64 : ℕ
most64 = 18446744073709551615

abbrev pub IsWithin : ℕ → ℕ → ℕ → Type 0
IsWithin low high n = (low ≤ n) × (n ≤ high)

-- a segid or an apid: it isn't negative, and has 64 bits with its sign
abbrev pub IsName : ℤ → Type 0
IsName z = (pos 0 ≤ℤ z) × (z ≤ℤ pos 9223372036854775807)

-- the kinds that are booted
abbrev pub IsBootable : Kind → Type 0
IsBootable kinds.Host = ⊥
IsBootable kinds.Cokernel = Unit {0}
IsBootable kinds.Vm = Unit {0}

-- each number is in the range of the command's form
abbrev pub IsInRange : Command → Type 0
IsInRange (commands.Pool blocks) = IsWithin 1 4096 blocks
IsInRange (commands.Host blocks ns) = IsWithin 1 4096 blocks
IsInRange (commands.Boot kind parent blocks ns) = IsBootable kind × IsWithin 0 most16 parent.0 × IsWithin 1 4096 blocks
IsInRange (commands.Proc e uid gid) = IsWithin 0 most16 e.0 × IsWithin 0 most32 uid × IsWithin 0 most32 gid
IsInRange (commands.Alloc e p at pages) = IsWithin 0 most16 e.0 × IsWithin 0 most32 p.0 × IsWithin 1 16777215 at.0 × IsWithin 1 4096 pages
IsInRange (commands.Free e p at pages) = IsWithin 0 most16 e.0 × IsWithin 0 most32 p.0 × IsWithin 1 16777215 at.0 × IsWithin 1 4096 pages
IsInRange (commands.Make e p addr size mode) = IsWithin 0 most16 e.0 × IsWithin 0 most32 p.0 × IsWithin 0 most64 addr × IsWithin 0 most64 size × IsWithin 0 511 mode
IsInRange (commands.Remove e p segid) = IsWithin 0 most16 e.0 × IsWithin 0 most32 p.0 × IsName segid.0
IsInRange (commands.Get e p segid access) = IsWithin 0 most16 e.0 × IsWithin 0 most32 p.0 × IsName segid.0
IsInRange (commands.Release e p apid) = IsWithin 0 most16 e.0 × IsWithin 0 most32 p.0 × IsName apid.0
IsInRange (commands.Attach e p apid offset size addr) =
    IsWithin 0 most16 e.0 × IsWithin 0 most32 p.0 × IsName apid.0 × IsWithin 0 most64 offset × IsWithin 0 most64 size × IsWithin 0 most64 addr
IsInRange (commands.Detach e p addr) = IsWithin 0 most16 e.0 × IsWithin 0 most32 p.0 × IsWithin 0 most64 addr
IsInRange (commands.Exit e p) = IsWithin 0 most16 e.0 × IsWithin 0 most32 p.0
IsInRange (commands.Touch e p addr want) = IsWithin 0 most16 e.0 × IsWithin 0 most32 p.0 × IsWithin 0 most64 addr
IsInRange (commands.Deliver x y count) = IsWithin 0 most16 x.0 × IsWithin 0 most16 y.0 × IsWithin 1 most32 count
IsInRange (commands.Settle most) = IsWithin 0 most32 most
IsInRange (commands.Kill e cut) = IsWithin 0 most16 e.0 × IsWithin 0 most32 cut
IsInRange (commands.Stop e) = IsWithin 0 most16 e.0
IsInRange (commands.ShowMaps e p) = IsWithin 0 most16 e.0 × IsWithin 0 most32 p.0
IsInRange (commands.ShowRoutes e) = IsWithin 0 most16 e.0
IsInRange (commands.ShowPins e) = IsWithin 0 most16 e.0
IsInRange (commands.ShowLink x y) = IsWithin 0 most16 x.0 × IsWithin 0 most16 y.0
IsInRange commands.ShowPool = Unit {0}
IsInRange commands.ShowNames = Unit {0}

-- ---- lines

-- an enclave, or none: 65535 always stands for none
abbrev pub IsPlainOption : Option Enclave → Type 0
IsPlainOption None = Unit {0}
IsPlainOption (Some e) = e.0 ≤ most16

abbrev pub IsSpelledBody : Body → Type 0
IsSpelledBody (bodies.Named segid) = IsName segid.0
IsSpelledBody (bodies.Unname segid) = IsName segid.0
IsSpelledBody (bodies.Lookup segid) = IsName segid.0
IsSpelledBody (bodies.Found segid owner) = IsName segid.0 × IsPlainOption owner
IsSpelledBody (bodies.Get segid flags uid gid) = IsName segid.0
IsSpelledBody (bodies.Release apid) = IsName apid.0
IsSpelledBody (bodies.Attach apid offset pages) = IsName apid.0
IsSpelledBody (bodies.Attached frames) = length frames < 2 ^ 32
IsSpelledBody body = Unit {0}

-- The line has a spelling: its segids and apids aren't negative, no enclave stands where 65535 means none, a command's numbers
-- are in their ranges, and bytes are 1 to 32. Each other number may be any of its type.
abbrev pub IsSpelled : Line → Type 0
IsSpelled (lines.Do command) = IsInRange command
IsSpelled (lines.Drew e call segid) = IsName segid.0
IsSpelled (lines.Named e call segid) = IsName segid.0
IsSpelled (lines.Unnamed segid) = IsName segid.0
IsSpelled (lines.Grant owner e call segid access) = IsName segid.0
IsSpelled (lines.Remove e segid) = IsName segid.0
IsSpelled (lines.AnswerSegid e p call segid) = IsName segid.0
IsSpelled (lines.AnswerApid e p call apid pages) = IsName apid.0
IsSpelled (lines.AtPin owner e call segid offset pages) = IsName segid.0
IsSpelled (lines.Name segid owner) = IsName segid.0
IsSpelled (lines.Sent x y r) = IsPlainOption r.dest × IsSpelledBody r.body
IsSpelled (lines.Bytes x y at bytes) = IsWithin 1 32 (length bytes)
IsSpelled line = Unit {0}

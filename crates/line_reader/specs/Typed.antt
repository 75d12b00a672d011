-- Which lines the program's types can hold: each number fits its type.
use Rattle.std.specs.Prelude.{◌≤◌, ℕ}
use Rattle.std.specs.List.{All}
use Rattle.xemem_language.specs.declared.record.Body.{Body}
use Rattle.xemem_language.specs.declared.record.Body.TheVariants as bodies
use Rattle.xemem_language.specs.declared.line.Line.{Line}
use Rattle.xemem_language.specs.declared.line.Line.TheVariants as lines

-- a number of so many bits
abbrev pub Is8 : ℕ → Type 0
Is8 n = n ≤ 255

abbrev pub Is16 : ℕ → Type 0
Is16 n = n ≤ 65535

abbrev pub Is32 : ℕ → Type 0
Is32 n = n ≤ 4294967295

abbrev pub Is64 : ℕ → Type 0
Is64 n = n ≤ 18446744073709551615

-- each number of what a record says, but for its segids, apids and enclaves that may be none
abbrev pub IsTypedBody : Body → Type 0
IsTypedBody (bodies.Get segid flags uid gid) = Is32 flags × Is32 uid × Is32 gid
IsTypedBody (bodies.Granted pages) = Is32 pages
IsTypedBody (bodies.GetRefused cause) = Is32 cause
IsTypedBody (bodies.Attach apid offset pages) = Is32 offset × Is32 pages
IsTypedBody (bodies.Attached frames) = All (λ f. Is32 f.0) frames
IsTypedBody (bodies.AttachRefused cause) = Is32 cause
IsTypedBody (bodies.Died enclave) = Is16 enclave.0
IsTypedBody (bodies.Dead enclave) = Is16 enclave.0
IsTypedBody (bodies.Confirm enclave) = Is16 enclave.0
IsTypedBody body = Unit {0}

-- Each number of the line fits its type. The ranges of a command's numbers, of segids and apids, and of enclaves that may be
-- none are those of `IsSpelled`.
abbrev pub IsTyped : Line → Type 0
IsTyped (lines.Born e kind parent ns blocks) = Is16 e.0 × Is16 parent.0 × All (λ b. Is16 b.0) blocks
IsTyped (lines.Alloc e p at frames) = Is16 e.0 × Is32 p.0 × Is32 at.0 × All (λ f. Is32 f.0) frames
IsTyped (lines.Told e of) = Is16 e.0 × Is16 of.0
IsTyped (lines.Admitted e) = Is16 e.0
IsTyped (lines.Proc e p uid gid) = Is16 e.0 × Is32 p.0 × Is32 uid × Is32 gid
IsTyped (lines.Free e p at pages) = Is16 e.0 × Is32 p.0 × Is32 at.0 × Is32 pages
IsTyped (lines.Touched e p page frame) = Is16 e.0 × Is32 p.0 × Is32 page.0 × Is32 frame.0
IsTyped (lines.Issue e p call) = Is16 e.0 × Is32 p.0 × Is32 call.0
IsTyped (lines.Drew e call segid) = Is16 e.0 × Is32 call.0
IsTyped (lines.Named e call segid) = Is16 e.0 × Is32 call.0
IsTyped (lines.Grant owner e call segid access) = Is16 owner.0 × Is16 e.0 × Is32 call.0
IsTyped (lines.Deny at e call cause) = Is16 at.0 × Is16 e.0 × Is32 call.0
IsTyped (lines.Pin owner e call) = Is16 owner.0 × Is16 e.0 × Is32 call.0
IsTyped (lines.Map e call page) = Is16 e.0 × Is32 call.0 × Is32 page.0
IsTyped (lines.Unmap e call) = Is16 e.0 × Is32 call.0
IsTyped (lines.Unpin owner e call) = Is16 owner.0 × Is16 e.0 × Is32 call.0
IsTyped (lines.Release e call) = Is16 e.0 × Is32 call.0
IsTyped (lines.Ungrant owner e call) = Is16 owner.0 × Is16 e.0 × Is32 call.0
IsTyped (lines.Remove e segid) = Is16 e.0
IsTyped (lines.Undo e call) = Is16 e.0 × Is32 call.0
IsTyped (lines.Closed e call) = Is16 e.0 × Is32 call.0
IsTyped (lines.Exit e p) = Is16 e.0 × Is32 p.0
IsTyped (lines.Took x y count) = Is16 x.0 × Is16 y.0 × Is32 count
IsTyped (lines.Idle x y) = Is16 x.0 × Is16 y.0
IsTyped (lines.Got x y) = Is16 x.0 × Is16 y.0
IsTyped (lines.End x y torn) = Is16 x.0 × Is16 y.0 × Is32 torn
IsTyped (lines.Dropped e) = Is16 e.0
IsTyped (lines.Asked e by) = Is16 e.0 × Is16 by.0
IsTyped (lines.Way e over) = Is16 e.0 × Is16 over.0
IsTyped (lines.Back e of over) = Is16 e.0 × Is16 of.0 × Is16 over.0
IsTyped (lines.Route e of over) = Is16 e.0 × Is16 of.0 × Is16 over.0
IsTyped (lines.Gmap monitor guest owner call first) = Is16 monitor.0 × Is16 guest.0 × Is16 owner.0 × Is32 call.0 × Is32 first.0
IsTyped (lines.Gdrop monitor guest call) = Is16 monitor.0 × Is16 guest.0 × Is32 call.0
IsTyped (lines.Killed e cut) = Is16 e.0 × Is32 cut
IsTyped (lines.Stopped e) = Is16 e.0
IsTyped (lines.Held e) = Is16 e.0
IsTyped (lines.Heard e of) = Is16 e.0 × Is16 of.0
IsTyped (lines.Confirmed of by) = Is16 of.0 × Is16 by.0
IsTyped (lines.Unheld e) = Is16 e.0
IsTyped (lines.Settled made) = Is32 made
IsTyped (lines.Waiting made) = Is32 made
IsTyped (lines.Page e p page frame access) = Is16 e.0 × Is32 p.0 × Is32 page.0 × Is32 frame.0
IsTyped (lines.Name segid owner) = Is16 owner.0
IsTyped (lines.AnswerSegid e p call segid) = Is16 e.0 × Is32 p.0 × Is32 call.0
IsTyped (lines.AnswerApid e p call apid pages) = Is16 e.0 × Is32 p.0 × Is32 call.0 × Is32 pages
IsTyped (lines.AnswerAddr e p call addr) = Is16 e.0 × Is32 p.0 × Is32 call.0 × Is64 addr
IsTyped (lines.AnswerRefused e p call cause) = Is16 e.0 × Is32 p.0 × Is32 call.0
IsTyped (lines.Sent x y r) = Is16 x.0 × Is16 y.0 × Is16 r.origin.0 × Is32 r.call × IsTypedBody r.body
IsTyped (lines.AtWay e over) = Is16 e.0 × Is16 over.0
IsTyped (lines.AtWayOwn e) = Is16 e.0
IsTyped (lines.AtWayNone e) = Is16 e.0
IsTyped (lines.AtRoute e of over) = Is16 e.0 × Is16 of.0 × Is16 over.0
IsTyped (lines.AtPin owner e call segid offset pages) = Is16 owner.0 × Is16 e.0 × Is32 call.0 × Is32 offset × Is32 pages
IsTyped (lines.Bytes x y at bytes) = Is16 x.0 × Is16 y.0 × Is32 at × All Is8 bytes
IsTyped (lines.BlockFree b) = Is16 b.0
IsTyped (lines.BlockLent b e) = Is16 b.0 × Is16 e.0
IsTyped (lines.BlockHeld b e) = Is16 b.0 × Is16 e.0
IsTyped line = Unit {0}

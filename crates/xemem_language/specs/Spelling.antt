-- How commands and journal lines are spelled, and the text of a journal.
use Rattle.std.specs.Prelude.{◌+◌, ◌/◌, ◌%◌, ℕ, ℤ, nat_abs, List, [], ◌∷◌, ◌++◌, codes, decimal, length, map, Bool, if◌then◌else◌}
use Rattle.std.specs.List.{join_with_byte, flat_map}
use Rattle.xm_num.specs.declared.Kind.{Kind}
use Rattle.xm_num.specs.declared.Kind.TheVariants as kinds
use Rattle.xm_num.specs.declared.Want.{Want}
use Rattle.xm_num.specs.declared.Want.TheVariants as wants
use Rattle.xm_num.specs.declared.Frame.{Frame}
use Rattle.xm_num.specs.declared.Access.{Access}
use Rattle.xm_num.specs.declared.Access.TheVariants as accesses
use Rattle.xm_num.specs.declared.Cause.{Cause}
use Rattle.xm_num.specs.declared.Cause.TheVariants as causes
use Rattle.xemem_language.specs.declared.record.Record.{Record}
use Rattle.xemem_language.specs.declared.record.Body.{Body}
use Rattle.xemem_language.specs.declared.record.Body.TheVariants as bodies
use Rattle.xemem_language.specs.Destinations.{destination_number}
use Rattle.hex.specs.Hex.{encode_lower}
use Rattle.xemem_language.specs.declared.command.Command.{Command}
use Rattle.xemem_language.specs.declared.command.Command.TheVariants as commands
use Rattle.xemem_language.specs.declared.line.Line.{Line}
use Rattle.xemem_language.specs.declared.line.Line.TheVariants as lines

abbrev pub ns_word : Bool → List (List ℕ)
ns_word ns = if ns then codes "ns" ∷ [] else []

abbrev pub want_word : Want → List ℕ
want_word wants.Read = codes "r"
want_word wants.Write = codes "w"

abbrev pub access_word : Access → List ℕ
access_word accesses.ReadOnly = codes "ro"
access_word accesses.ReadWrite = codes "rw"

-- a segid or an apid, which is never negative
abbrev pub signed_word : ℤ → List ℕ
signed_word z = decimal (nat_abs z)

-- the digit of a number below ten
abbrev pub digit_of : ℕ → ℕ
digit_of n = 48 + n

-- a mode as four octal digits, the first of them 0
abbrev pub mode_word : ℕ → List ℕ
mode_word mode = 48 ∷ digit_of (mode / 64 % 8) ∷ digit_of (mode / 8 % 8) ∷ digit_of (mode % 8) ∷ []

abbrev pub kind_word : Kind → List ℕ
kind_word kinds.Host = codes "host"
kind_word kinds.Cokernel = codes "cokernel"
kind_word kinds.Vm = codes "vm"

abbrev pub cause_word : Cause → List ℕ
cause_word causes.NotReady = codes "NotReady"
cause_word causes.NoProcess = codes "NoProcess"
cause_word causes.Busy = codes "Busy"
cause_word causes.BadAlign = codes "BadAlign"
cause_word causes.BadRange = codes "BadRange"
cause_word causes.NoSegment = codes "NoSegment"
cause_word causes.Denied = codes "Denied"
cause_word causes.NoPermit = codes "NoPermit"
cause_word causes.Taken = codes "Taken"
cause_word causes.OwnerDied = codes "OwnerDied"
cause_word causes.NoFrames = codes "NoFrames"
cause_word causes.NoBlocks = codes "NoBlocks"
cause_word causes.TooLarge = codes "TooLarge"
cause_word causes.NotOwner = codes "NotOwner"
cause_word causes.NotMapped = codes "NotMapped"
cause_word causes.NoEnclave = codes "NoEnclave"
cause_word causes.BadParent = codes "BadParent"
cause_word causes.NameServerHeld = codes "NameServerHeld"
cause_word causes.NameServerTaken = codes "NameServerTaken"
cause_word causes.TooMany = codes "TooMany"
cause_word causes.NoLink = codes "NoLink"

-- the words of a command
abbrev pub command_words : Command → List (List ℕ)
command_words (commands.Pool blocks) = codes "pool" ∷ decimal blocks ∷ []
command_words (commands.Host blocks ns) = codes "host" ∷ decimal blocks ∷ ns_word ns
command_words (commands.Proc e uid gid) = codes "proc" ∷ decimal e.0 ∷ decimal uid ∷ decimal gid ∷ []
command_words (commands.Alloc e p at pages) = codes "alloc" ∷ decimal e.0 ∷ decimal p.0 ∷ decimal at.0 ∷ decimal pages ∷ []
command_words (commands.Free e p at pages) = codes "free" ∷ decimal e.0 ∷ decimal p.0 ∷ decimal at.0 ∷ decimal pages ∷ []
command_words (commands.Make e p addr size mode) = codes "make" ∷ decimal e.0 ∷ decimal p.0 ∷ decimal addr ∷ decimal size ∷ mode_word mode ∷ []
command_words (commands.Remove e p segid) = codes "remove" ∷ decimal e.0 ∷ decimal p.0 ∷ signed_word segid.0 ∷ []
command_words (commands.Get e p segid access) = codes "get" ∷ decimal e.0 ∷ decimal p.0 ∷ signed_word segid.0 ∷ access_word access ∷ []
command_words (commands.Release e p apid) = codes "release" ∷ decimal e.0 ∷ decimal p.0 ∷ signed_word apid.0 ∷ []
command_words (commands.Attach e p apid offset size addr) =
    codes "attach" ∷ decimal e.0 ∷ decimal p.0 ∷ signed_word apid.0 ∷ decimal offset ∷ decimal size ∷ decimal addr ∷ []
command_words (commands.Detach e p addr) = codes "detach" ∷ decimal e.0 ∷ decimal p.0 ∷ decimal addr ∷ []
command_words (commands.Exit e p) = codes "exit" ∷ decimal e.0 ∷ decimal p.0 ∷ []
command_words (commands.Touch e p addr want) = codes "touch" ∷ decimal e.0 ∷ decimal p.0 ∷ decimal addr ∷ want_word want ∷ []
command_words (commands.Boot kind parent blocks ns) = codes "boot" ∷ kind_word kind ∷ codes "under" ∷ decimal parent.0 ∷ codes "blocks" ∷ decimal blocks ∷ ns_word ns
command_words (commands.Deliver x y count) = codes "deliver" ∷ decimal x.0 ∷ decimal y.0 ∷ decimal count ∷ []
command_words (commands.Settle most) = codes "settle" ∷ decimal most ∷ []
command_words (commands.Kill e cut) = codes "kill" ∷ decimal e.0 ∷ codes "cut" ∷ decimal cut ∷ []
command_words (commands.Stop e) = codes "stop" ∷ decimal e.0 ∷ []
command_words (commands.ShowMaps e p) = codes "show" ∷ codes "maps" ∷ decimal e.0 ∷ decimal p.0 ∷ []
command_words (commands.ShowRoutes e) = codes "show" ∷ codes "routes" ∷ decimal e.0 ∷ []
command_words (commands.ShowPins e) = codes "show" ∷ codes "pins" ∷ decimal e.0 ∷ []
command_words (commands.ShowLink x y) = codes "show" ∷ codes "link" ∷ decimal x.0 ∷ decimal y.0 ∷ []
command_words commands.ShowPool = codes "show" ∷ codes "pool" ∷ []
command_words commands.ShowNames = codes "show" ∷ codes "names" ∷ []

-- the name of a record
abbrev pub name_word : Body → List ℕ
name_word bodies.Query = codes "query"
name_word bodies.Here = codes "here"
name_word bodies.Register = codes "register"
name_word bodies.Admit = codes "admit"
name_word bodies.NameReq = codes "namereq"
name_word (bodies.Named segid) = codes "named"
name_word (bodies.Unname segid) = codes "unname"
name_word (bodies.Lookup segid) = codes "lookup"
name_word (bodies.Found segid owner) = codes "found"
name_word (bodies.Get segid flags uid gid) = codes "get"
name_word (bodies.Granted pages) = codes "granted"
name_word (bodies.GetRefused cause) = codes "getrefused"
name_word (bodies.Release apid) = codes "release"
name_word (bodies.Attach apid offset pages) = codes "attach"
name_word (bodies.Attached frames) = codes "attached"
name_word (bodies.AttachRefused cause) = codes "attachrefused"
name_word bodies.Detach = codes "detach"
name_word (bodies.Died enclave) = codes "died"
name_word (bodies.Dead enclave) = codes "dead"
name_word (bodies.Confirm enclave) = codes "confirm"

abbrev pub frame_words : List Frame → List (List ℕ)
frame_words frames = map (λ f. decimal f.0) frames

-- the words of what a record says, behind its name and its header
abbrev pub body_words : Body → List (List ℕ)
body_words bodies.Query = []
body_words bodies.Here = []
body_words bodies.Register = []
body_words bodies.Admit = []
body_words bodies.NameReq = []
body_words (bodies.Named segid) = signed_word segid.0 ∷ []
body_words (bodies.Unname segid) = signed_word segid.0 ∷ []
body_words (bodies.Lookup segid) = signed_word segid.0 ∷ []
body_words (bodies.Found segid owner) = signed_word segid.0 ∷ decimal (destination_number owner) ∷ []
body_words (bodies.Get segid flags uid gid) = signed_word segid.0 ∷ decimal flags ∷ decimal uid ∷ decimal gid ∷ []
body_words (bodies.Granted pages) = decimal pages ∷ []
body_words (bodies.GetRefused cause) = decimal cause ∷ []
body_words (bodies.Release apid) = signed_word apid.0 ∷ []
body_words (bodies.Attach apid offset pages) = signed_word apid.0 ∷ decimal offset ∷ decimal pages ∷ []
body_words (bodies.Attached frames) = decimal (length frames) ∷ frame_words frames
body_words (bodies.AttachRefused cause) = decimal cause ∷ []
body_words bodies.Detach = []
body_words (bodies.Died enclave) = decimal enclave.0 ∷ []
body_words (bodies.Dead enclave) = decimal enclave.0 ∷ []
body_words (bodies.Confirm enclave) = decimal enclave.0 ∷ []

-- the words of a record
abbrev pub record_words : Record → List (List ℕ)
record_words r = name_word r.body ∷ decimal r.origin.0 ∷ decimal (destination_number r.dest) ∷ decimal r.call ∷ body_words r.body

-- bytes as one word, where there are any
abbrev pub hex_words : List ℕ → List (List ℕ)
hex_words [] = []
hex_words (byte ∷ bytes) = encode_lower (byte ∷ bytes) ∷ []

-- the words of a line
abbrev pub line_words : Line → List (List ℕ)
line_words (lines.Do command) = codes "do" ∷ command_words command
line_words (lines.Refused cause) = codes "refused" ∷ cause_word cause ∷ []
line_words (lines.Born e kind parent ns blocks) =
    codes "born" ∷ decimal e.0 ∷ kind_word kind ∷ decimal parent.0 ∷ (if ns then codes "ns" else codes "-") ∷ map (λ b. decimal b.0) blocks
line_words (lines.Told e of) = codes "told" ∷ decimal e.0 ∷ decimal of.0 ∷ []
line_words (lines.Admitted e) = codes "admitted" ∷ decimal e.0 ∷ []
line_words (lines.Proc e p uid gid) = codes "proc" ∷ decimal e.0 ∷ decimal p.0 ∷ decimal uid ∷ decimal gid ∷ []
line_words (lines.Alloc e p at frames) = codes "alloc" ∷ decimal e.0 ∷ decimal p.0 ∷ decimal at.0 ∷ frame_words frames
line_words (lines.Free e p at pages) = codes "free" ∷ decimal e.0 ∷ decimal p.0 ∷ decimal at.0 ∷ decimal pages ∷ []
line_words (lines.Touched e p page frame) = codes "touched" ∷ decimal e.0 ∷ decimal p.0 ∷ decimal page.0 ∷ decimal frame.0 ∷ []
line_words (lines.Issue e p call) = codes "issue" ∷ decimal e.0 ∷ decimal p.0 ∷ decimal call.0 ∷ []
line_words (lines.Drew e call segid) = codes "drew" ∷ decimal e.0 ∷ decimal call.0 ∷ signed_word segid.0 ∷ []
line_words (lines.Named e call segid) = codes "named" ∷ decimal e.0 ∷ decimal call.0 ∷ signed_word segid.0 ∷ []
line_words (lines.Unnamed segid) = codes "unnamed" ∷ signed_word segid.0 ∷ []
line_words (lines.Grant owner e call segid access) =
    codes "grant" ∷ decimal owner.0 ∷ decimal e.0 ∷ decimal call.0 ∷ signed_word segid.0 ∷ access_word access ∷ []
line_words (lines.Deny at e call cause) = codes "deny" ∷ decimal at.0 ∷ decimal e.0 ∷ decimal call.0 ∷ cause_word cause ∷ []
line_words (lines.Pin owner e call) = codes "pin" ∷ decimal owner.0 ∷ decimal e.0 ∷ decimal call.0 ∷ []
line_words (lines.Map e call page) = codes "map" ∷ decimal e.0 ∷ decimal call.0 ∷ decimal page.0 ∷ []
line_words (lines.Unmap e call) = codes "unmap" ∷ decimal e.0 ∷ decimal call.0 ∷ []
line_words (lines.Unpin owner e call) = codes "unpin" ∷ decimal owner.0 ∷ decimal e.0 ∷ decimal call.0 ∷ []
line_words (lines.Release e call) = codes "release" ∷ decimal e.0 ∷ decimal call.0 ∷ []
line_words (lines.Ungrant owner e call) = codes "ungrant" ∷ decimal owner.0 ∷ decimal e.0 ∷ decimal call.0 ∷ []
line_words (lines.Remove e segid) = codes "remove" ∷ decimal e.0 ∷ signed_word segid.0 ∷ []
line_words (lines.Undo e call) = codes "undo" ∷ decimal e.0 ∷ decimal call.0 ∷ []
line_words (lines.Closed e call) = codes "closed" ∷ decimal e.0 ∷ decimal call.0 ∷ []
line_words (lines.Exit e p) = codes "exit" ∷ decimal e.0 ∷ decimal p.0 ∷ []
line_words (lines.AnswerSegid e p call segid) =
    codes "answer" ∷ decimal e.0 ∷ decimal p.0 ∷ decimal call.0 ∷ codes "segid" ∷ signed_word segid.0 ∷ []
line_words (lines.AnswerApid e p call apid pages) =
    codes "answer" ∷ decimal e.0 ∷ decimal p.0 ∷ decimal call.0 ∷ codes "apid" ∷ signed_word apid.0 ∷ codes "pages" ∷ decimal pages ∷ []
line_words (lines.AnswerAddr e p call addr) =
    codes "answer" ∷ decimal e.0 ∷ decimal p.0 ∷ decimal call.0 ∷ codes "addr" ∷ decimal addr ∷ []
line_words (lines.AnswerRefused e p call cause) =
    codes "answer" ∷ decimal e.0 ∷ decimal p.0 ∷ decimal call.0 ∷ codes "refused" ∷ cause_word cause ∷ []
line_words (lines.Sent x y r) = codes "sent" ∷ decimal x.0 ∷ decimal y.0 ∷ record_words r
line_words (lines.Took x y count) = codes "took" ∷ decimal x.0 ∷ decimal y.0 ∷ decimal count ∷ []
line_words (lines.Idle x y) = codes "idle" ∷ decimal x.0 ∷ decimal y.0 ∷ []
line_words (lines.Got x y) = codes "got" ∷ decimal x.0 ∷ decimal y.0 ∷ []
line_words (lines.End x y torn) = codes "end" ∷ decimal x.0 ∷ decimal y.0 ∷ decimal torn ∷ []
line_words (lines.Dropped e) = codes "drop" ∷ decimal e.0 ∷ []
line_words (lines.Asked e by) = codes "asked" ∷ decimal e.0 ∷ decimal by.0 ∷ []
line_words (lines.Way e over) = codes "way" ∷ decimal e.0 ∷ decimal over.0 ∷ []
line_words (lines.Back e of over) = codes "back" ∷ decimal e.0 ∷ decimal of.0 ∷ decimal over.0 ∷ []
line_words (lines.Route e of over) = codes "route" ∷ decimal e.0 ∷ decimal of.0 ∷ decimal over.0 ∷ []
line_words (lines.Gmap monitor guest owner call first) =
    codes "gmap" ∷ decimal monitor.0 ∷ decimal guest.0 ∷ decimal owner.0 ∷ decimal call.0 ∷ decimal first.0 ∷ []
line_words (lines.Gdrop monitor guest call) = codes "gdrop" ∷ decimal monitor.0 ∷ decimal guest.0 ∷ decimal call.0 ∷ []
line_words (lines.Killed e cut) = codes "killed" ∷ decimal e.0 ∷ decimal cut ∷ []
line_words (lines.Stopped e) = codes "stopped" ∷ decimal e.0 ∷ []
line_words (lines.Held e) = codes "held" ∷ decimal e.0 ∷ []
line_words (lines.Heard e of) = codes "heard" ∷ decimal e.0 ∷ decimal of.0 ∷ []
line_words (lines.Confirmed of by) = codes "confirmed" ∷ decimal of.0 ∷ decimal by.0 ∷ []
line_words (lines.Unheld e) = codes "unheld" ∷ decimal e.0 ∷ []
line_words (lines.Settled made) = codes "settled" ∷ decimal made ∷ []
line_words (lines.Waiting made) = codes "waiting" ∷ decimal made ∷ []
line_words (lines.Page e p page frame access) =
    codes "page" ∷ decimal e.0 ∷ decimal p.0 ∷ decimal page.0 ∷ decimal frame.0 ∷ access_word access ∷ []
line_words (lines.AtWay e over) = codes "at" ∷ decimal e.0 ∷ codes "way" ∷ decimal over.0 ∷ []
line_words (lines.AtWayOwn e) = codes "at" ∷ decimal e.0 ∷ codes "way" ∷ codes "own" ∷ []
line_words (lines.AtWayNone e) = codes "at" ∷ decimal e.0 ∷ codes "way" ∷ codes "none" ∷ []
line_words (lines.AtRoute e of over) = codes "at" ∷ decimal e.0 ∷ codes "route" ∷ decimal of.0 ∷ decimal over.0 ∷ []
line_words (lines.AtPin owner e call segid offset pages) =
    codes "at" ∷ decimal owner.0 ∷ codes "pin" ∷ decimal e.0 ∷ decimal call.0 ∷ signed_word segid.0 ∷ decimal offset ∷ decimal pages ∷ []
line_words (lines.BlockFree b) = codes "block" ∷ decimal b.0 ∷ codes "free" ∷ []
line_words (lines.BlockLent b e) = codes "block" ∷ decimal b.0 ∷ codes "lent" ∷ decimal e.0 ∷ []
line_words (lines.BlockHeld b e) = codes "block" ∷ decimal b.0 ∷ codes "held" ∷ decimal e.0 ∷ []
line_words (lines.Name segid owner) = codes "name" ∷ signed_word segid.0 ∷ decimal owner.0 ∷ []
line_words (lines.Bytes x y at bytes) = codes "bytes" ∷ decimal x.0 ∷ decimal y.0 ∷ decimal at ∷ hex_words bytes

-- how many words a journal has
abbrev pub words_in : List Line → ℕ
words_in [] = 0
words_in (line ∷ journal) = length (line_words line) + words_in journal

-- each word with a space before it
abbrev pub spaced : List (List ℕ) → List ℕ
spaced words = flat_map (λ word. 32 ∷ word) words

-- the words with one space between, and a line feed
abbrev pub line_text : Line → List ℕ
line_text line = join_with_byte 32 (line_words line) ++ 10 ∷ []

-- the text of a journal
abbrev pub text_of : List Line → List ℕ
text_of journal = flat_map line_text journal

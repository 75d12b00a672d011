-- The words of a line are words.
use Rattle.std.proofs.Common.{◌/◌, ◌%◌, ℕ, zero, suc, List, [], ◌∷◌, length, map, Bool, true, false, decimal, codes, slice_index, refl, arith, if◌then◌else◌}
use Rattle.hex.specs.Hex.{encode_lower, encode_with, lower_digits}
use Rattle.xm_num.specs.declared.Access.{Access}
use Rattle.xm_num.specs.declared.Access.TheVariants as accesses
use Rattle.xm_num.specs.declared.Block.{Block}
use Rattle.xm_num.specs.declared.Cause.{Cause}
use Rattle.xm_num.specs.declared.Cause.TheVariants as causes
use Rattle.xm_num.specs.declared.Frame.{Frame}
use Rattle.xm_num.specs.declared.Kind.{Kind}
use Rattle.xm_num.specs.declared.Kind.TheVariants as kinds
use Rattle.xemem_language.specs.Destinations.{destination_number}
use Rattle.xemem_language.specs.declared.record.Body.{Body}
use Rattle.xemem_language.specs.declared.record.Body.TheVariants as bodies
use Rattle.xemem_language.specs.declared.record.Record.{Record}
use Rattle.xemem_language.specs.declared.line.Line.{Line}
use Rattle.xemem_language.specs.declared.line.Line.TheVariants as lines
use Rattle.xemem_language.specs.Spelling.{access_word, kind_word, cause_word, name_word, body_words, record_words, hex_words, line_words}
use Rattle.text_words.specs.Solid.{IsSolidByte, IsSolid, IsWord, AreWords}
use Rattle.line_reader.specs.Laws.{Laws}

-- ---- each word of a line is one

mark_name : (laws : Laws) (ns : Bool) → IsWord (if ns then codes "ns" else codes "-")
mark_name laws true = laws.words.name (codes "ns") refl
mark_name laws false = laws.words.name (codes "-") refl

an_access : (laws : Laws) (a : Access) → IsWord (access_word a)
an_access laws accesses.ReadOnly = laws.words.name (codes "ro") refl
an_access laws accesses.ReadWrite = laws.words.name (codes "rw") refl

a_kind : (laws : Laws) (k : Kind) → IsWord (kind_word k)
a_kind laws kinds.Host = laws.words.name (codes "host") refl
a_kind laws kinds.Cokernel = laws.words.name (codes "cokernel") refl
a_kind laws kinds.Vm = laws.words.name (codes "vm") refl

a_cause : (laws : Laws) (c : Cause) → IsWord (cause_word c)
a_cause laws causes.NotReady = laws.words.name (codes "NotReady") refl
a_cause laws causes.NoProcess = laws.words.name (codes "NoProcess") refl
a_cause laws causes.Busy = laws.words.name (codes "Busy") refl
a_cause laws causes.BadAlign = laws.words.name (codes "BadAlign") refl
a_cause laws causes.BadRange = laws.words.name (codes "BadRange") refl
a_cause laws causes.NoSegment = laws.words.name (codes "NoSegment") refl
a_cause laws causes.Denied = laws.words.name (codes "Denied") refl
a_cause laws causes.NoPermit = laws.words.name (codes "NoPermit") refl
a_cause laws causes.Taken = laws.words.name (codes "Taken") refl
a_cause laws causes.OwnerDied = laws.words.name (codes "OwnerDied") refl
a_cause laws causes.NoFrames = laws.words.name (codes "NoFrames") refl
a_cause laws causes.NoBlocks = laws.words.name (codes "NoBlocks") refl
a_cause laws causes.TooLarge = laws.words.name (codes "TooLarge") refl
a_cause laws causes.NotOwner = laws.words.name (codes "NotOwner") refl
a_cause laws causes.NotMapped = laws.words.name (codes "NotMapped") refl
a_cause laws causes.NoEnclave = laws.words.name (codes "NoEnclave") refl
a_cause laws causes.BadParent = laws.words.name (codes "BadParent") refl
a_cause laws causes.NameServerHeld = laws.words.name (codes "NameServerHeld") refl
a_cause laws causes.NameServerTaken = laws.words.name (codes "NameServerTaken") refl
a_cause laws causes.TooMany = laws.words.name (codes "TooMany") refl
a_cause laws causes.NoLink = laws.words.name (codes "NoLink") refl

blocks_words : (laws : Laws) (blocks : List Block) → AreWords (map (λ b. decimal b.0) blocks)
blocks_words laws [] = tt
blocks_words laws (block ∷ blocks) = (laws.words.number block.0, blocks_words laws blocks)

frames_words : (laws : Laws) (frames : List Frame) → AreWords (map (λ f. decimal f.0) frames)
frames_words laws [] = tt
frames_words laws (frame ∷ frames) = (laws.words.number frame.0, frames_words laws frames)

-- whatever stands at a place of the table, also behind its end, where 0 is read
digit_solid : (table : List ℕ) (i : ℕ) → IsSolid table → IsSolidByte (slice_index table i)
digit_solid [] i h = record { no_space = λ e. omega arith; no_tab = λ e. omega arith; no_feed = λ e. omega arith }
digit_solid (c ∷ table) zero h = h.0
digit_solid (c ∷ table) (suc i) h = digit_solid table i h.1

hex_digit_solid : (laws : Laws) (d : ℕ) → IsSolidByte (slice_index lower_digits d)
hex_digit_solid laws d = digit_solid lower_digits d (laws.words.name lower_digits refl).solid

hex_solid : (laws : Laws) (bytes : List ℕ) → IsSolid (encode_lower bytes)
unfolding encode_with
hex_solid laws [] = tt
hex_solid laws (b ∷ bytes) = (hex_digit_solid laws (b / 16), (hex_digit_solid laws (b % 16), hex_solid laws bytes))

hex_in_words : (laws : Laws) (bytes : List ℕ) → AreWords (hex_words bytes)
unfolding encode_with
hex_in_words laws [] = tt
hex_in_words laws (b ∷ bytes) = (record { filled = omega arith; solid = hex_solid laws (b ∷ bytes) }, tt)

body_name : (laws : Laws) (body : Body) → IsWord (name_word body)
body_name laws bodies.Query = laws.words.name (codes "query") refl
body_name laws bodies.Here = laws.words.name (codes "here") refl
body_name laws bodies.Register = laws.words.name (codes "register") refl
body_name laws bodies.Admit = laws.words.name (codes "admit") refl
body_name laws bodies.NameReq = laws.words.name (codes "namereq") refl
body_name laws (bodies.Named segid) = laws.words.name (codes "named") refl
body_name laws (bodies.Unname segid) = laws.words.name (codes "unname") refl
body_name laws (bodies.Lookup segid) = laws.words.name (codes "lookup") refl
body_name laws (bodies.Found segid owner) = laws.words.name (codes "found") refl
body_name laws (bodies.Get segid flags uid gid) = laws.words.name (codes "get") refl
body_name laws (bodies.Granted pages) = laws.words.name (codes "granted") refl
body_name laws (bodies.GetRefused cause) = laws.words.name (codes "getrefused") refl
body_name laws (bodies.Release apid) = laws.words.name (codes "release") refl
body_name laws (bodies.Attach apid offset pages) = laws.words.name (codes "attach") refl
body_name laws (bodies.AttachRefused cause) = laws.words.name (codes "attachrefused") refl
body_name laws bodies.Detach = laws.words.name (codes "detach") refl
body_name laws (bodies.Died e) = laws.words.name (codes "died") refl
body_name laws (bodies.Dead e) = laws.words.name (codes "dead") refl
body_name laws (bodies.Confirm e) = laws.words.name (codes "confirm") refl
body_name laws (bodies.Attached frames) = laws.words.name (codes "attached") refl

body_in_words : (laws : Laws) (body : Body) → AreWords (body_words body)
body_in_words laws bodies.Query = tt
body_in_words laws bodies.Here = tt
body_in_words laws bodies.Register = tt
body_in_words laws bodies.Admit = tt
body_in_words laws bodies.NameReq = tt
body_in_words laws (bodies.Named segid) = (laws.words.number _, tt)
body_in_words laws (bodies.Unname segid) = (laws.words.number _, tt)
body_in_words laws (bodies.Lookup segid) = (laws.words.number _, tt)
body_in_words laws (bodies.Found segid owner) = (laws.words.number _, (laws.words.number (destination_number owner), tt))
body_in_words laws (bodies.Get segid flags uid gid) = (laws.words.number _, (laws.words.number flags, (laws.words.number uid, (laws.words.number gid, tt))))
body_in_words laws (bodies.Granted pages) = (laws.words.number pages, tt)
body_in_words laws (bodies.GetRefused cause) = (laws.words.number cause, tt)
body_in_words laws (bodies.Release apid) = (laws.words.number _, tt)
body_in_words laws (bodies.Attach apid offset pages) = (laws.words.number _, (laws.words.number offset, (laws.words.number pages, tt)))
body_in_words laws (bodies.AttachRefused cause) = (laws.words.number cause, tt)
body_in_words laws bodies.Detach = tt
body_in_words laws (bodies.Died e) = (laws.words.number e.0, tt)
body_in_words laws (bodies.Dead e) = (laws.words.number e.0, tt)
body_in_words laws (bodies.Confirm e) = (laws.words.number e.0, tt)
body_in_words laws (bodies.Attached frames) = (laws.words.number (length frames), frames_words laws frames)

record_in_words : (laws : Laws) (r : Record) → AreWords (record_words r)
record_in_words laws r = (body_name laws r.body, (laws.words.number r.origin.0, (laws.words.number (destination_number r.dest), (laws.words.number r.call, body_in_words laws r.body))))

pub line_in_words : (laws : Laws) (line : Line) → AreWords (line_words line)
line_in_words laws (lines.Do command) = (laws.words.name (codes "do") refl, laws.commands.words command)
line_in_words laws (lines.Born e kind parent ns blocks) = (laws.words.name (codes "born") refl, (laws.words.number e.0, (a_kind laws kind, (laws.words.number parent.0, (mark_name laws ns, blocks_words laws blocks)))))
line_in_words laws (lines.Alloc e p at frames) = (laws.words.name (codes "alloc") refl, (laws.words.number e.0, (laws.words.number p.0, (laws.words.number at.0, frames_words laws frames))))
line_in_words laws (lines.Sent x y r) = (laws.words.name (codes "sent") refl, (laws.words.number x.0, (laws.words.number y.0, record_in_words laws r)))
line_in_words laws (lines.Bytes x y at bytes) = (laws.words.name (codes "bytes") refl, (laws.words.number x.0, (laws.words.number y.0, (laws.words.number at, hex_in_words laws bytes))))
line_in_words laws (lines.Refused cause) = (laws.words.name (codes "refused") refl, (a_cause laws cause, tt))
line_in_words laws (lines.Told e of) = (laws.words.name (codes "told") refl, (laws.words.number e.0, (laws.words.number of.0, tt)))
line_in_words laws (lines.Admitted e) = (laws.words.name (codes "admitted") refl, (laws.words.number e.0, tt))
line_in_words laws (lines.Proc e p uid gid) = (laws.words.name (codes "proc") refl, (laws.words.number e.0, (laws.words.number p.0, (laws.words.number uid, (laws.words.number gid, tt)))))
line_in_words laws (lines.Free e p at pages) = (laws.words.name (codes "free") refl, (laws.words.number e.0, (laws.words.number p.0, (laws.words.number at.0, (laws.words.number pages, tt)))))
line_in_words laws (lines.Touched e p page frame) = (laws.words.name (codes "touched") refl, (laws.words.number e.0, (laws.words.number p.0, (laws.words.number page.0, (laws.words.number frame.0, tt)))))
line_in_words laws (lines.Issue e p call) = (laws.words.name (codes "issue") refl, (laws.words.number e.0, (laws.words.number p.0, (laws.words.number call.0, tt))))
line_in_words laws (lines.Drew e call segid) = (laws.words.name (codes "drew") refl, (laws.words.number e.0, (laws.words.number call.0, (laws.words.number _, tt))))
line_in_words laws (lines.Named e call segid) = (laws.words.name (codes "named") refl, (laws.words.number e.0, (laws.words.number call.0, (laws.words.number _, tt))))
line_in_words laws (lines.Unnamed segid) = (laws.words.name (codes "unnamed") refl, (laws.words.number _, tt))
line_in_words laws (lines.Grant owner e call segid access) = (laws.words.name (codes "grant") refl, (laws.words.number owner.0, (laws.words.number e.0, (laws.words.number call.0, (laws.words.number _, (an_access laws access, tt))))))
line_in_words laws (lines.Deny at e call cause) = (laws.words.name (codes "deny") refl, (laws.words.number at.0, (laws.words.number e.0, (laws.words.number call.0, (a_cause laws cause, tt)))))
line_in_words laws (lines.Pin owner e call) = (laws.words.name (codes "pin") refl, (laws.words.number owner.0, (laws.words.number e.0, (laws.words.number call.0, tt))))
line_in_words laws (lines.Map e call page) = (laws.words.name (codes "map") refl, (laws.words.number e.0, (laws.words.number call.0, (laws.words.number page.0, tt))))
line_in_words laws (lines.Unmap e call) = (laws.words.name (codes "unmap") refl, (laws.words.number e.0, (laws.words.number call.0, tt)))
line_in_words laws (lines.Unpin owner e call) = (laws.words.name (codes "unpin") refl, (laws.words.number owner.0, (laws.words.number e.0, (laws.words.number call.0, tt))))
line_in_words laws (lines.Release e call) = (laws.words.name (codes "release") refl, (laws.words.number e.0, (laws.words.number call.0, tt)))
line_in_words laws (lines.Ungrant owner e call) = (laws.words.name (codes "ungrant") refl, (laws.words.number owner.0, (laws.words.number e.0, (laws.words.number call.0, tt))))
line_in_words laws (lines.Remove e segid) = (laws.words.name (codes "remove") refl, (laws.words.number e.0, (laws.words.number _, tt)))
line_in_words laws (lines.Undo e call) = (laws.words.name (codes "undo") refl, (laws.words.number e.0, (laws.words.number call.0, tt)))
line_in_words laws (lines.Closed e call) = (laws.words.name (codes "closed") refl, (laws.words.number e.0, (laws.words.number call.0, tt)))
line_in_words laws (lines.Exit e p) = (laws.words.name (codes "exit") refl, (laws.words.number e.0, (laws.words.number p.0, tt)))
line_in_words laws (lines.Took x y count) = (laws.words.name (codes "took") refl, (laws.words.number x.0, (laws.words.number y.0, (laws.words.number count, tt))))
line_in_words laws (lines.Idle x y) = (laws.words.name (codes "idle") refl, (laws.words.number x.0, (laws.words.number y.0, tt)))
line_in_words laws (lines.Got x y) = (laws.words.name (codes "got") refl, (laws.words.number x.0, (laws.words.number y.0, tt)))
line_in_words laws (lines.End x y torn) = (laws.words.name (codes "end") refl, (laws.words.number x.0, (laws.words.number y.0, (laws.words.number torn, tt))))
line_in_words laws (lines.Dropped e) = (laws.words.name (codes "drop") refl, (laws.words.number e.0, tt))
line_in_words laws (lines.Asked e by) = (laws.words.name (codes "asked") refl, (laws.words.number e.0, (laws.words.number by.0, tt)))
line_in_words laws (lines.Way e over) = (laws.words.name (codes "way") refl, (laws.words.number e.0, (laws.words.number over.0, tt)))
line_in_words laws (lines.Back e of over) = (laws.words.name (codes "back") refl, (laws.words.number e.0, (laws.words.number of.0, (laws.words.number over.0, tt))))
line_in_words laws (lines.Route e of over) = (laws.words.name (codes "route") refl, (laws.words.number e.0, (laws.words.number of.0, (laws.words.number over.0, tt))))
line_in_words laws (lines.Gmap monitor guest owner call first) = (laws.words.name (codes "gmap") refl, (laws.words.number monitor.0, (laws.words.number guest.0, (laws.words.number owner.0, (laws.words.number call.0, (laws.words.number first.0, tt))))))
line_in_words laws (lines.Gdrop monitor guest call) = (laws.words.name (codes "gdrop") refl, (laws.words.number monitor.0, (laws.words.number guest.0, (laws.words.number call.0, tt))))
line_in_words laws (lines.Killed e cut) = (laws.words.name (codes "killed") refl, (laws.words.number e.0, (laws.words.number cut, tt)))
line_in_words laws (lines.Stopped e) = (laws.words.name (codes "stopped") refl, (laws.words.number e.0, tt))
line_in_words laws (lines.Held e) = (laws.words.name (codes "held") refl, (laws.words.number e.0, tt))
line_in_words laws (lines.Heard e of) = (laws.words.name (codes "heard") refl, (laws.words.number e.0, (laws.words.number of.0, tt)))
line_in_words laws (lines.Confirmed of by) = (laws.words.name (codes "confirmed") refl, (laws.words.number of.0, (laws.words.number by.0, tt)))
line_in_words laws (lines.Unheld e) = (laws.words.name (codes "unheld") refl, (laws.words.number e.0, tt))
line_in_words laws (lines.Settled made) = (laws.words.name (codes "settled") refl, (laws.words.number made, tt))
line_in_words laws (lines.Waiting made) = (laws.words.name (codes "waiting") refl, (laws.words.number made, tt))
line_in_words laws (lines.Page e p page frame access) = (laws.words.name (codes "page") refl, (laws.words.number e.0, (laws.words.number p.0, (laws.words.number page.0, (laws.words.number frame.0, (an_access laws access, tt))))))
line_in_words laws (lines.Name segid owner) = (laws.words.name (codes "name") refl, (laws.words.number _, (laws.words.number owner.0, tt)))
line_in_words laws (lines.AnswerSegid e p k s) = (laws.words.name (codes "answer") refl, (laws.words.number e.0, (laws.words.number p.0, (laws.words.number k.0, (laws.words.name (codes "segid") refl, (laws.words.number _, tt))))))
line_in_words laws (lines.AnswerApid e p k a pages) = (laws.words.name (codes "answer") refl, (laws.words.number e.0, (laws.words.number p.0, (laws.words.number k.0, (laws.words.name (codes "apid") refl, (laws.words.number _, (laws.words.name (codes "pages") refl, (laws.words.number pages, tt))))))))
line_in_words laws (lines.AnswerAddr e p k addr) = (laws.words.name (codes "answer") refl, (laws.words.number e.0, (laws.words.number p.0, (laws.words.number k.0, (laws.words.name (codes "addr") refl, (laws.words.number addr, tt))))))
line_in_words laws (lines.AnswerRefused e p k c) = (laws.words.name (codes "answer") refl, (laws.words.number e.0, (laws.words.number p.0, (laws.words.number k.0, (laws.words.name (codes "refused") refl, (a_cause laws c, tt))))))
line_in_words laws (lines.AtWay e over) = (laws.words.name (codes "at") refl, (laws.words.number e.0, (laws.words.name (codes "way") refl, (laws.words.number over.0, tt))))
line_in_words laws (lines.AtWayOwn e) = (laws.words.name (codes "at") refl, (laws.words.number e.0, (laws.words.name (codes "way") refl, (laws.words.name (codes "own") refl, tt))))
line_in_words laws (lines.AtWayNone e) = (laws.words.name (codes "at") refl, (laws.words.number e.0, (laws.words.name (codes "way") refl, (laws.words.name (codes "none") refl, tt))))
line_in_words laws (lines.AtRoute e of over) = (laws.words.name (codes "at") refl, (laws.words.number e.0, (laws.words.name (codes "route") refl, (laws.words.number of.0, (laws.words.number over.0, tt)))))
line_in_words laws (lines.AtPin owner e k s offset pages) = (laws.words.name (codes "at") refl, (laws.words.number owner.0, (laws.words.name (codes "pin") refl, (laws.words.number e.0, (laws.words.number k.0, (laws.words.number _, (laws.words.number offset, (laws.words.number pages, tt))))))))
line_in_words laws (lines.BlockFree b) = (laws.words.name (codes "block") refl, (laws.words.number b.0, (laws.words.name (codes "free") refl, tt)))
line_in_words laws (lines.BlockLent b e) = (laws.words.name (codes "block") refl, (laws.words.number b.0, (laws.words.name (codes "lent") refl, (laws.words.number e.0, tt))))
line_in_words laws (lines.BlockHeld b e) = (laws.words.name (codes "block") refl, (laws.words.number b.0, (laws.words.name (codes "held") refl, (laws.words.number e.0, tt))))

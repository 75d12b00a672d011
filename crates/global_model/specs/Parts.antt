-- What a line is to the machine as a whole, in one table. A class of lines is a list of parts that its lines don't play, so a
-- kind of line that plays none is in each of them.
use Rattle.std.specs.Prelude.{ℕ, List, [], ◌∷◌, Bool, true, false, ◌||◌, ◌==◌}
use Rattle.xemem_language.specs.declared.line.Line.{Line}
use Rattle.xemem_language.specs.declared.line.Line.TheVariants as lines

pub data Part : Type 0 where
  -- a command begins, and a settle ends
  Opening : Part
  Closing : Part
  -- an enclave is born or admitted, is told of a death at its birth or hears of one later, and is killed
  Birth : Part
  Admission : Part
  Warning : Part
  Death : Part
  Kill : Part
  -- a process is started, or gets pages
  Start : Part
  Owning : Part
  -- a call is issued or answered, and what is done for one
  Calling : Part
  -- a record is sent, bytes or an end mark are taken, and a record is got
  Sending : Part
  Delivery : Part
  Receipt : Part
  -- who asks for the way is remembered; the way is learned; a way back or a route is
  Asking : Part
  Learning : Part
  Noting : Part
  -- none of these
  Rest : Part

abbrev pub part_of : Line → Part
part_of (lines.Do command) = Opening
part_of (lines.Settled made) = Closing
part_of (lines.Waiting made) = Closing
part_of (lines.Born e kind parent ns blocks) = Birth
part_of (lines.Admitted e) = Admission
part_of (lines.Told e dead) = Warning
part_of (lines.Heard e dead) = Death
part_of (lines.Killed e cut) = Kill
part_of (lines.Proc e p uid gid) = Start
part_of (lines.Alloc e p at frames) = Owning
part_of (lines.Issue e p call) = Calling
part_of (lines.Drew e call segid) = Calling
part_of (lines.Named e call segid) = Calling
part_of (lines.Unnamed segid) = Calling
part_of (lines.Grant owner e call segid access) = Calling
part_of (lines.Ungrant owner e call) = Calling
part_of (lines.Remove e segid) = Calling
part_of (lines.AnswerSegid e p call segid) = Calling
part_of (lines.AnswerApid e p call apid pages) = Calling
part_of (lines.AnswerRefused e p call cause) = Calling
part_of (lines.Release e call) = Calling
part_of (lines.Deny at e call cause) = Calling
part_of (lines.Sent x y r) = Sending
part_of (lines.Took x y count) = Delivery
part_of (lines.End x y torn) = Delivery
part_of (lines.Got x y) = Receipt
part_of (lines.Asked e by) = Asking
part_of (lines.Way e over) = Learning
part_of (lines.Back e of over) = Noting
part_of (lines.Route e of over) = Noting
part_of line = Rest

abbrev pub part_number : Part → ℕ
part_number Opening = 0
part_number Closing = 1
part_number Birth = 2
part_number Admission = 3
part_number Warning = 4
part_number Death = 5
part_number Kill = 6
part_number Start = 7
part_number Owning = 8
part_number Sending = 9
part_number Delivery = 10
part_number Receipt = 11
part_number Asking = 12
part_number Learning = 13
part_number Noting = 14
part_number Calling = 15
part_number Rest = 16

abbrev pub plays : List Part → Part → Bool
plays [] part = false
plays (one ∷ parts) part = part_number one == part_number part || plays parts part

abbrev pub IsNot : Bool → Type 0
IsNot true = ⊥
IsNot false = Unit {0}

-- the line plays none of the parts
abbrev pub Lacks : List Part → Line → Type 0
Lacks parts line = IsNot (plays parts (part_of line))

-- The causes and their numbers.
use Rattle.std.specs.Prelude.{ℕ}
use Rattle.xm_num.specs.declared.Cause.{Cause}
use Rattle.xm_num.specs.declared.Cause.TheVariants.{NotReady, NoProcess, Busy, BadAlign, BadRange, NoSegment, Denied, NoPermit, Taken, OwnerDied, NoFrames, NoBlocks, TooLarge, NotOwner, NotMapped, NoEnclave, BadParent, NameServerHeld, NameServerTaken, TooMany, NoLink}

-- the number that stands for a cause in a record
abbrev pub number_of : Cause → ℕ
number_of NotReady = 1
number_of NoProcess = 2
number_of Busy = 3
number_of BadAlign = 4
number_of BadRange = 5
number_of NoSegment = 6
number_of Denied = 7
number_of NoPermit = 8
number_of Taken = 9
number_of OwnerDied = 10
number_of NoFrames = 11
number_of NoBlocks = 12
number_of TooLarge = 13
number_of NotOwner = 14
number_of NotMapped = 15
number_of NoEnclave = 16
number_of BadParent = 17
number_of NameServerHeld = 18
number_of NameServerTaken = 19
number_of TooMany = 20
number_of NoLink = 21

-- The words of a journal line from left to right: what each may stand for, and what a row of them makes.
use Rattle.std.specs.Prelude.{ℕ, pos, List, [], ◌∷◌, length, Bool, true, false, ◌&&◌, ◌==◌, nat_le, if◌then◌else◌, Option, None, Some, option_map, option_and_then, codes}
use Rattle.std.specs.Borrow.{Bor}
use Rattle.std.specs.List.{list_any, slice_split}
use Rattle.std.specs.Result.{result_ok}
use Rattle.std.specs.Str.{bytes_eq}
use Rattle.hex.specs.Hex.{decode_of}
use Rattle.xm_num.specs.declared.Access.{Access}
use Rattle.xm_num.specs.declared.Access.TheVariants as accesses
use Rattle.xm_num.specs.declared.Apid.{Apid}
use Rattle.xm_num.specs.declared.Block.{Block}
use Rattle.xm_num.specs.declared.CallNo.{CallNo}
use Rattle.xm_num.specs.declared.Cause.{Cause}
use Rattle.xm_num.specs.declared.Cause.TheVariants as causes
use Rattle.xm_num.specs.declared.Enclave.{Enclave}
use Rattle.xm_num.specs.declared.Frame.{Frame}
use Rattle.xm_num.specs.declared.Kind.{Kind}
use Rattle.xm_num.specs.declared.Kind.TheVariants as kinds
use Rattle.xm_num.specs.declared.Pid.{Pid}
use Rattle.xm_num.specs.declared.Segid.{Segid}
use Rattle.xm_num.specs.declared.Vpn.{Vpn}
use Rattle.text_words.specs.Words.{number_in}

-- ---- words

-- the pieces of a text between single spaces
abbrev pub pieces : List ℕ → List (List ℕ)
pieces bytes = slice_split (λ c. c == 32) bytes

-- the words of the text that is left, or none behind the last word
abbrev pub words_left : Option (Bor (List ℕ)) → List (List ℕ)
words_left None = []
words_left (Some rest) = pieces rest.now

-- no word is left
abbrev pub is_done : List (List ℕ) → Bool
is_done [] = true
is_done (word ∷ words) = false

-- ---- names

-- what the first text stands for that the word is
unfoldable pub named : {A : Type 0} → List (List ℕ × A) → List ℕ → Option A
named [] word = None
named ((name, a) ∷ names) word = if bytes_eq word name then Some a else named names word

abbrev pub access_names : List (List ℕ × Access)
access_names = (codes "ro", accesses.ReadOnly) ∷ (codes "rw", accesses.ReadWrite) ∷ []

abbrev pub kind_names : List (List ℕ × Kind)
kind_names = (codes "host", kinds.Host) ∷ (codes "cokernel", kinds.Cokernel) ∷ (codes "vm", kinds.Vm) ∷ []

-- whether an enclave is born with the name server
abbrev pub mark_names : List (List ℕ × Bool)
mark_names = (codes "ns", true) ∷ (codes "-", false) ∷ []

abbrev pub cause_names : List (List ℕ × Cause)
cause_names =
    (codes "NotReady", causes.NotReady)
    ∷ (codes "NoProcess", causes.NoProcess)
    ∷ (codes "Busy", causes.Busy)
    ∷ (codes "BadAlign", causes.BadAlign)
    ∷ (codes "BadRange", causes.BadRange)
    ∷ (codes "NoSegment", causes.NoSegment)
    ∷ (codes "Denied", causes.Denied)
    ∷ (codes "NoPermit", causes.NoPermit)
    ∷ (codes "Taken", causes.Taken)
    ∷ (codes "OwnerDied", causes.OwnerDied)
    ∷ (codes "NoFrames", causes.NoFrames)
    ∷ (codes "NoBlocks", causes.NoBlocks)
    ∷ (codes "TooLarge", causes.TooLarge)
    ∷ (codes "NotOwner", causes.NotOwner)
    ∷ (codes "NotMapped", causes.NotMapped)
    ∷ (codes "NoEnclave", causes.NoEnclave)
    ∷ (codes "BadParent", causes.BadParent)
    ∷ (codes "NameServerHeld", causes.NameServerHeld)
    ∷ (codes "NameServerTaken", causes.NameServerTaken)
    ∷ (codes "TooMany", causes.TooMany)
    ∷ (codes "NoLink", causes.NoLink)
    ∷ []

-- ---- slots

-- what a word of a line may stand for
pub data Slot : Type 0 where
  enclave : Slot
  destination : Slot
  pid : Slot
  call : Slot
  segid : Slot
  apid : Slot
  page : Slot
  frame : Slot
  block : Slot
  word32 : Slot
  word64 : Slot
  access : Slot
  cause : Slot
  kind : Slot
  mark : Slot
  hex : Slot
  text : Slot
  keyword : (name : List ℕ) → Slot

-- the type of what it stands for
abbrev pub Value : Slot → Type 0
Value enclave = Enclave
Value destination = Option Enclave
Value pid = Pid
Value call = CallNo
Value segid = Segid
Value apid = Apid
Value page = Vpn
Value frame = Frame
Value block = Block
Value word32 = ℕ
Value word64 = ℕ
Value access = Access
Value cause = Cause
Value kind = Kind
Value mark = Bool
Value hex = List ℕ
Value text = List ℕ
Value (keyword name) = Unit {0}

-- ---- bytes

abbrev pub is_upper : ℕ → Bool
is_upper c = nat_le 65 c && nat_le c 90

-- 1 to 32 bytes in hex digits, no letter of which is a capital
unfoldable pub bytes_of : List ℕ → Option (List ℕ)
bytes_of word =
    if list_any is_upper word then None
    else if nat_le 2 (length word) && nat_le (length word) 64 then result_ok (decode_of word)
    else None

-- ---- what is read

-- 65535 stands for no enclave
abbrev pub word_destination : ℕ → Option Enclave
word_destination n = if n == 65535 then None else Some (record { 0 = n })

-- what is read off the front of words, and the words behind it
abbrev pub Read : Type 0 → Type 0
Read A = Option (A × List (List ℕ))

-- what is made of what was read, where it can be made
abbrev pub made : {A B : Type 0} → (A → Option B) → Read A → Read B
made f None = None
made f (Some (a, words)) = option_map (λ b. (b, words)) (f a)

unfoldable pub next_word : List (List ℕ) → Read (List ℕ)
next_word [] = None
next_word (word ∷ words) = Some (word, words)

-- a number that is at most so high
unfoldable pub next_number : ℕ → List (List ℕ) → Read ℕ
next_number high words = made (number_in 0 high) (next_word words)

-- what one of these names stands for
unfoldable pub next_named : {A : Type 0} → List (List ℕ × A) → List (List ℕ) → Read A
next_named names words = made (named names) (next_word words)

-- what the first word stands for in a slot, and the words behind it
unfoldable pub next : (slot : Slot) → List (List ℕ) → Read (Value slot)
next enclave words = made (λ n. Some (record { 0 = n })) (next_number 65535 words)
next destination words = made (λ n. Some (word_destination n)) (next_number 65535 words)
next pid words = made (λ n. Some (record { 0 = n })) (next_number 4294967295 words)
next call words = made (λ n. Some (record { 0 = n })) (next_number 4294967295 words)
next segid words = made (λ n. Some (record { 0 = pos n })) (next_number 9223372036854775807 words)
next apid words = made (λ n. Some (record { 0 = pos n })) (next_number 9223372036854775807 words)
next page words = made (λ n. Some (record { 0 = n })) (next_number 4294967295 words)
next frame words = made (λ n. Some (record { 0 = n })) (next_number 4294967295 words)
next block words = made (λ n. Some (record { 0 = n })) (next_number 65535 words)
next word32 words = next_number 4294967295 words
next word64 words = next_number 18446744073709551615 words
next access words = next_named access_names words
next cause words = next_named cause_names words
next kind words = next_named kind_names words
next mark words = next_named mark_names words
next hex words = made bytes_of (next_word words)
next text words = next_word words
next (keyword name) words = made (λ word. if bytes_eq word name then Some tt else None) (next_word words)

-- the values of all words that are left, each in such a slot
unfoldable pub all_next : (slot : Slot) → List (List ℕ) → Option (List (Value slot))
all_next slot [] = Some []
all_next slot (word ∷ words) =
    option_and_then (λ (value, rest). option_map (λ values. value ∷ values) (all_next slot words)) (next slot (word ∷ words))

-- the same, with no word left behind them
abbrev pub all_read : (slot : Slot) → List (List ℕ) → Read (List (Value slot))
all_read slot words = option_map (λ values. (values, [])) (all_next slot words)

-- ---- rows

-- what makes a result out of the values of slots
abbrev pub Maker : List Slot → Type 0 → Type 0
Maker [] R = R
Maker (slot ∷ slots) R = Value slot → Maker slots R

-- the result that slots make of the first words, and the words behind them
abbrev pub filled : {R : Type 0} → (slots : List Slot) → Maker slots R → List (List ℕ) → Read R
filled [] made words = Some (made, words)
filled (slot ∷ slots) make words = option_and_then (λ (value, rest). filled slots (make value) rest) (next slot words)

-- a row of a table: the first word, and how the words behind it are read
pub record Row (R : Type 0) : Type 0 where
  pub first : List ℕ
  pub read : List (List ℕ) → Read R

-- a row of slots, by what they make
abbrev pub row : {R : Type 0} → List ℕ → (slots : List Slot) → Maker slots R → Row R
row first slots make = record { first = first; read = filled slots make }

-- the row of the first word reads the words behind it
abbrev pub row_read : {R : Type 0} → List (Row R) → List ℕ → List (List ℕ) → Read R
row_read [] first words = None
row_read (row ∷ rows) first words = if bytes_eq first row.first then row.read words else row_read rows first words

-- a list of what all words behind stand for, in such a slot
abbrev pub listed : {R : Type 0} → (slot : Slot) → Read (List (Value slot) → R) → Read R
listed slot None = None
listed slot (Some (make, words)) = made (λ values. Some (make values)) (all_read slot words)

-- the next word chooses a row of what was read
abbrev pub chosen : {R : Type 0} → Read (List (Row R)) → Read R
chosen None = None
chosen (Some (rows, words)) = option_and_then (λ (word, rest). row_read rows word rest) (next_word words)

-- what is read of all words
abbrev pub whole : {R : Type 0} → Read R → Option R
whole None = None
whole (Some (made, [])) = Some made
whole (Some (made, word ∷ words)) = None

-- The forms of commands: what the words of a line say, or what is wrong with them first.
use Rattle.std.specs.Prelude.{ℕ, pos, List, [], ◌∷◌, length, Bool, true, false, ◌&&◌, ◌==◌, nat_le, if◌then◌else◌, Option, None, Some, Result, Ok, Err, codes, slice_index_or}
use Rattle.std.specs.List.{list_any, list_all}
use Rattle.std.specs.Option.{option_map_or}
use Rattle.std.specs.Str.{bytes_eq}
use Rattle.std.specs.Str.Parse.{digits_value}
use Rattle.xm_num.specs.declared.Access.{Access}
use Rattle.xm_num.specs.declared.Access.TheVariants as accesses
use Rattle.xm_num.specs.declared.Kind.{Kind}
use Rattle.xm_num.specs.declared.Kind.TheVariants as kinds
use Rattle.xm_num.specs.declared.Want.{Want}
use Rattle.xm_num.specs.declared.Want.TheVariants as wants
use Rattle.xemem_language.specs.declared.command.Command.{Command}
use Rattle.xemem_language.specs.declared.command.Command.TheVariants as commands
use Rattle.xemem_language.specs.Ranges.{most16, most32, most64}
use Rattle.command_reader.specs.declared.fault.SyntaxFault.{SyntaxFault}
use Rattle.command_reader.specs.declared.fault.SyntaxFault.TheVariants as faults
use Rattle.text_words.specs.Words.{number_in}

infixl 10 ◌>>=◌
abbrev pub ◌>>=◌ : {A B : Type 0} → Result A SyntaxFault → (A → Result B SyntaxFault) → Result B SyntaxFault
(Ok x) >>= f = f x
(Err fault) >>= f = Err fault

-- the word at that place, from 0
abbrev pub word : ℕ → List (List ℕ) → List ℕ
word i words = slice_index_or words i []

-- ---- words

-- the number at a place, where the word there is one in the range
unfoldable pub number : ℕ → ℕ → ℕ → List (List ℕ) → Result ℕ SyntaxFault
number i low high words = option_map_or (λ n. Ok n) (number_in low high (word i words)) (Err (faults.Number i))

-- the word at a place is this keyword
unfoldable pub keyword : ℕ → List ℕ → List (List ℕ) → Result (Unit {0}) SyntaxFault
keyword i text words = if bytes_eq (word i words) text then Ok tt else Err (faults.Keyword i)

-- the word at a place is one of two keywords, each of which stands for something
unfoldable pub either : {A : Type 0} → ℕ → List ℕ → A → List ℕ → A → List (List ℕ) → Result A SyntaxFault
either i one a other b words = if bytes_eq (word i words) one then Ok a else (if bytes_eq (word i words) other then Ok b else Err (faults.Keyword i))

abbrev pub is_octal : ℕ → Bool
is_octal digit = nat_le 48 digit && nat_le digit 55

-- four octal digits, the first of them 0
abbrev pub is_mode : List ℕ → Bool
is_mode text = (length text == 4) && (slice_index_or text 0 0 == 48) && list_all is_octal text

-- the mode at a place
unfoldable pub mode : ℕ → List (List ℕ) → Result ℕ SyntaxFault
mode i words = if is_mode (word i words) then Ok (digits_value 8 (word i words)) else Err (faults.Number i)

abbrev pub enclave : ℕ → List (List ℕ) → Result ℕ SyntaxFault
enclave i words = number i 0 most16 words

-- the number of a process, a user or a group
abbrev pub id : ℕ → List (List ℕ) → Result ℕ SyntaxFault
id i words = number i 0 most32 words

-- an address, an offset or a size
abbrev pub wide : ℕ → List (List ℕ) → Result ℕ SyntaxFault
wide i words = number i 0 most64 words

-- a segid or an apid
abbrev pub name : ℕ → List (List ℕ) → Result ℕ SyntaxFault
name i words = number i 0 9223372036854775807 words

abbrev pub kind : ℕ → List (List ℕ) → Result Kind SyntaxFault
kind i words = either i (codes "cokernel") kinds.Cokernel (codes "vm") kinds.Vm words

abbrev pub access : ℕ → List (List ℕ) → Result Access SyntaxFault
access i words = either i (codes "ro") accesses.ReadOnly (codes "rw") accesses.ReadWrite words

abbrev pub want : ℕ → List (List ℕ) → Result Want SyntaxFault
want i words = either i (codes "r") wants.Read (codes "w") wants.Write words

-- ---- forms

unfoldable pub pool_form : List (List ℕ) → Result Command SyntaxFault
pool_form words = do
  blocks ← number 1 1 4096 words
  Ok (commands.Pool blocks)

unfoldable pub host_form : List (List ℕ) → Result Command SyntaxFault
host_form words = do
  blocks ← number 1 1 4096 words
  Ok (commands.Host blocks false)

unfoldable pub host_ns_form : List (List ℕ) → Result Command SyntaxFault
host_ns_form words = do
  blocks ← number 1 1 4096 words
  ns ← keyword 2 (codes "ns") words
  Ok (commands.Host blocks true)

unfoldable pub boot_form : List (List ℕ) → Result Command SyntaxFault
boot_form words = do
  kind ← kind 1 words
  under ← keyword 2 (codes "under") words
  parent ← enclave 3 words
  with ← keyword 4 (codes "blocks") words
  blocks ← number 5 1 4096 words
  Ok (commands.Boot kind (record { 0 = parent }) blocks false)

unfoldable pub boot_ns_form : List (List ℕ) → Result Command SyntaxFault
boot_ns_form words = do
  kind ← kind 1 words
  under ← keyword 2 (codes "under") words
  parent ← enclave 3 words
  with ← keyword 4 (codes "blocks") words
  blocks ← number 5 1 4096 words
  ns ← keyword 6 (codes "ns") words
  Ok (commands.Boot kind (record { 0 = parent }) blocks true)

unfoldable pub proc_form : List (List ℕ) → Result Command SyntaxFault
proc_form words = do
  e ← enclave 1 words
  uid ← id 2 words
  gid ← id 3 words
  Ok (commands.Proc (record { 0 = e }) uid gid)

unfoldable pub alloc_form : List (List ℕ) → Result Command SyntaxFault
alloc_form words = do
  e ← enclave 1 words
  p ← id 2 words
  at ← number 3 1 16777215 words
  pages ← number 4 1 4096 words
  Ok (commands.Alloc (record { 0 = e }) (record { 0 = p }) (record { 0 = at }) pages)

unfoldable pub free_form : List (List ℕ) → Result Command SyntaxFault
free_form words = do
  e ← enclave 1 words
  p ← id 2 words
  at ← number 3 1 16777215 words
  pages ← number 4 1 4096 words
  Ok (commands.Free (record { 0 = e }) (record { 0 = p }) (record { 0 = at }) pages)

unfoldable pub make_form : List (List ℕ) → Result Command SyntaxFault
make_form words = do
  e ← enclave 1 words
  p ← id 2 words
  addr ← wide 3 words
  size ← wide 4 words
  mode ← mode 5 words
  Ok (commands.Make (record { 0 = e }) (record { 0 = p }) addr size mode)

unfoldable pub remove_form : List (List ℕ) → Result Command SyntaxFault
remove_form words = do
  e ← enclave 1 words
  p ← id 2 words
  segid ← name 3 words
  Ok (commands.Remove (record { 0 = e }) (record { 0 = p }) (record { 0 = pos segid }))

unfoldable pub get_form : List (List ℕ) → Result Command SyntaxFault
get_form words = do
  e ← enclave 1 words
  p ← id 2 words
  segid ← name 3 words
  access ← access 4 words
  Ok (commands.Get (record { 0 = e }) (record { 0 = p }) (record { 0 = pos segid }) access)

unfoldable pub release_form : List (List ℕ) → Result Command SyntaxFault
release_form words = do
  e ← enclave 1 words
  p ← id 2 words
  apid ← name 3 words
  Ok (commands.Release (record { 0 = e }) (record { 0 = p }) (record { 0 = pos apid }))

unfoldable pub attach_form : List (List ℕ) → Result Command SyntaxFault
attach_form words = do
  e ← enclave 1 words
  p ← id 2 words
  apid ← name 3 words
  offset ← wide 4 words
  size ← wide 5 words
  addr ← wide 6 words
  Ok (commands.Attach (record { 0 = e }) (record { 0 = p }) (record { 0 = pos apid }) offset size addr)

unfoldable pub detach_form : List (List ℕ) → Result Command SyntaxFault
detach_form words = do
  e ← enclave 1 words
  p ← id 2 words
  addr ← wide 3 words
  Ok (commands.Detach (record { 0 = e }) (record { 0 = p }) addr)

unfoldable pub exit_form : List (List ℕ) → Result Command SyntaxFault
exit_form words = do
  e ← enclave 1 words
  p ← id 2 words
  Ok (commands.Exit (record { 0 = e }) (record { 0 = p }))

unfoldable pub touch_form : List (List ℕ) → Result Command SyntaxFault
touch_form words = do
  e ← enclave 1 words
  p ← id 2 words
  addr ← wide 3 words
  want ← want 4 words
  Ok (commands.Touch (record { 0 = e }) (record { 0 = p }) addr want)

unfoldable pub deliver_form : List (List ℕ) → Result Command SyntaxFault
deliver_form words = do
  x ← enclave 1 words
  y ← enclave 2 words
  count ← number 3 1 most32 words
  Ok (commands.Deliver (record { 0 = x }) (record { 0 = y }) count)

unfoldable pub settle_form : List (List ℕ) → Result Command SyntaxFault
settle_form words = do
  most ← number 1 0 most32 words
  Ok (commands.Settle most)

unfoldable pub kill_form : List (List ℕ) → Result Command SyntaxFault
kill_form words = do
  e ← enclave 1 words
  with ← keyword 2 (codes "cut") words
  cut ← number 3 0 most32 words
  Ok (commands.Kill (record { 0 = e }) cut)

unfoldable pub stop_form : List (List ℕ) → Result Command SyntaxFault
stop_form words = do
  e ← enclave 1 words
  Ok (commands.Stop (record { 0 = e }))

-- ---- what is shown: the word behind `show` tells which form it is

unfoldable pub maps_form : List (List ℕ) → Result Command SyntaxFault
maps_form words = do
  e ← enclave 2 words
  p ← id 3 words
  Ok (commands.ShowMaps (record { 0 = e }) (record { 0 = p }))

unfoldable pub link_form : List (List ℕ) → Result Command SyntaxFault
link_form words = do
  x ← enclave 2 words
  y ← enclave 3 words
  Ok (commands.ShowLink (record { 0 = x }) (record { 0 = y }))

unfoldable pub show_four : List (List ℕ) → Result Command SyntaxFault
show_four words = do
  form ← either 1 (codes "maps") maps_form (codes "link") link_form words
  form words

unfoldable pub routes_form : List (List ℕ) → Result Command SyntaxFault
routes_form words = do
  e ← enclave 2 words
  Ok (commands.ShowRoutes (record { 0 = e }))

unfoldable pub pins_form : List (List ℕ) → Result Command SyntaxFault
pins_form words = do
  e ← enclave 2 words
  Ok (commands.ShowPins (record { 0 = e }))

unfoldable pub show_three : List (List ℕ) → Result Command SyntaxFault
show_three words = do
  form ← either 1 (codes "routes") routes_form (codes "pins") pins_form words
  form words

unfoldable pub show_two : List (List ℕ) → Result Command SyntaxFault
show_two words = either 1 (codes "pool") commands.ShowPool (codes "names") commands.ShowNames words

-- ---- the table of forms

-- the first word of a form, how many words it has, and how they are read
pub record Form : Type 0 where
  pub first : List ℕ
  pub count : ℕ
  pub read : List (List ℕ) → Result Command SyntaxFault

abbrev pub form : List ℕ → ℕ → (List (List ℕ) → Result Command SyntaxFault) → Form
form first count read = record { first = first; count = count; read = read }

abbrev pub forms : List Form
forms =
    form (codes "pool") 2 pool_form
    ∷ form (codes "host") 2 host_form
    ∷ form (codes "host") 3 host_ns_form
    ∷ form (codes "boot") 6 boot_form
    ∷ form (codes "boot") 7 boot_ns_form
    ∷ form (codes "proc") 4 proc_form
    ∷ form (codes "alloc") 5 alloc_form
    ∷ form (codes "free") 5 free_form
    ∷ form (codes "make") 6 make_form
    ∷ form (codes "remove") 4 remove_form
    ∷ form (codes "get") 5 get_form
    ∷ form (codes "release") 4 release_form
    ∷ form (codes "attach") 7 attach_form
    ∷ form (codes "detach") 4 detach_form
    ∷ form (codes "exit") 3 exit_form
    ∷ form (codes "touch") 5 touch_form
    ∷ form (codes "deliver") 4 deliver_form
    ∷ form (codes "settle") 2 settle_form
    ∷ form (codes "kill") 4 kill_form
    ∷ form (codes "stop") 2 stop_form
    ∷ form (codes "show") 4 show_four
    ∷ form (codes "show") 3 show_three
    ∷ form (codes "show") 2 show_two
    ∷ []

abbrev pub begins : List (List ℕ) → Form → Bool
begins words form = bytes_eq (word 0 words) form.first

abbrev pub fits : List (List ℕ) → Form → Bool
fits words form = (length words == form.count) && begins words form

-- the first form that fits
abbrev pub form_of : List Form → List (List ℕ) → Option Form
form_of [] words = None
form_of (form ∷ forms) words = if fits words form then Some form else form_of forms words

-- no form has this first word, or none that has it has so many words
abbrev pub misfit : List (List ℕ) → SyntaxFault
misfit words = if list_any (begins words) forms then faults.Count else faults.Word

-- the command that the words spell, or what is wrong with them
unfoldable pub command_of : List (List ℕ) → Result Command SyntaxFault
command_of words = option_map_or (λ form. form.read words) (form_of forms words) (Err (misfit words))

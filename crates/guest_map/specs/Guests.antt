-- What a guest names the frames of the machine, and what each call changes of it.
use Rattle.std.specs.Prelude.{◌≡◌, ◌+◌, ◌-◌, ◌*◌, ◌/◌, ◌%◌, ◌≤◌, ◌==◌, ◌&&◌, ℕ, nat_le, nat_lt, Bool, true, false, not, List, [], length, slice_get, find, filter, Option, None, option_map, option_and_then, IfSome, if◌then◌else◌}
use Rattle.std.specs.Option.{option_or, option_map_or}
use Rattle.xm_num.specs.declared.Block.{Block}
use Rattle.xm_num.specs.declared.CallNo.{CallNo}
use Rattle.xm_num.specs.declared.Enclave.{Enclave}
use Rattle.xm_num.specs.declared.Frame.{Frame}
use Rattle.xm_num.specs.Rows.{at, put, less, IsAscending}

-- what a call admitted: whose frames, the guest frame that names the first, and the frames of the machine
pub record Entry : Type 0 where
  pub owner : Enclave
  pub first : ℕ
  pub frames : List Frame

-- the guest's own blocks, the next fresh guest frame, and the entries by their calls, ascending
pub record GuestState : Type 0 where
  pub blocks : List Block
  pub next_fresh : ℕ
  pub entries : List (ℕ × Entry)

-- own memory alone
abbrev pub own_memory : List Block → GuestState
own_memory blocks = record { blocks = blocks; next_fresh = 64 * length blocks; entries = [] }

-- the frame that a guest frame of own memory names: own memory goes block by block
abbrev pub own_machine : List Block → ℕ → Option Frame
own_machine blocks g = option_map (λ block. record { 0 = block.0 * 64 + g % 64 }) (slice_get blocks (g / 64))

-- the entry has the guest frame
abbrev pub has_guest : Entry → ℕ → Bool
has_guest e g = nat_le e.first g && nat_lt g (e.first + length e.frames)

-- the frame that a guest frame of the entry names
abbrev pub entry_machine : Entry → ℕ → Option Frame
entry_machine e g = if has_guest e g then slice_get e.frames (g - e.first) else None

-- the entry that has the guest frame
abbrev pub entry_having : List (ℕ × Entry) → ℕ → Option Entry
entry_having entries g = option_map (λ row. row.1) (find (λ row. has_guest row.1 g) entries)

-- the frame that an admitted guest frame names
abbrev pub admitted_machine : List (ℕ × Entry) → ℕ → Option Frame
admitted_machine entries g = option_and_then (λ e. entry_machine e g) (entry_having entries g)

-- the frame that a guest frame names, where it is own or admitted
abbrev pub to_machine : GuestState → ℕ → Option Frame
to_machine s g = option_or (own_machine s.blocks g) (admitted_machine s.entries g)

-- what is admitted next
abbrev pub next_entry : Enclave → List Frame → GuestState → Entry
next_entry owner frames s = record { owner = owner; first = s.next_fresh; frames = frames }

-- the call admits these frames
abbrev pub with_entry : ℕ → Enclave → List Frame → GuestState → GuestState
with_entry call owner frames s = record {
  blocks = s.blocks;
  next_fresh = s.next_fresh + length frames;
  entries = put s.entries call (next_entry owner frames s);
}

-- what the call admitted is dropped
abbrev pub without_entry : ℕ → GuestState → GuestState
without_entry call s = record s { entries = less s.entries call }

abbrev pub is_of : Enclave → Entry → Bool
is_of owner e = e.owner.0 == owner.0

-- what was admitted of the owner's is dropped
abbrev pub without_owner : Enclave → GuestState → GuestState
without_owner owner s = record s { entries = filter (λ row. not (is_of owner row.1)) s.entries }

-- the least call of all entries
abbrev pub lowest_call : GuestState → Option ℕ
lowest_call s = option_map (λ row. row.0) (slice_get s.entries 0)

-- the least call of the owner's entries
abbrev pub lowest_call_of : Enclave → GuestState → Option ℕ
lowest_call_of owner s = option_map (λ row. row.0) (find (λ row. is_of owner row.1) s.entries)

abbrev pub call_numbered : ℕ → CallNo
call_numbered n = record { 0 = n }

-- an entry was found, and has the guest frame
abbrev pub has_found : Option Entry → ℕ → Bool
has_found found g = option_map_or (λ e. has_guest e g) found false

-- an entry was found, and is the owner's
abbrev pub is_found_of : Enclave → Option Entry → Bool
is_found_of owner found = option_map_or (is_of owner) found false

-- the guest frames of an entry are above own memory, and were drawn
pub record IsDrawn (s : GuestState) (e : Entry) : Type 0 where
  pub above : 64 * length s.blocks ≤ e.first
  pub below : e.first + length e.frames ≤ s.next_fresh

-- fresh guest frames are above own memory, each entry's were drawn, and no two entries have one
pub record IsGuest (s : GuestState) : Type 0 where
  pub ascending : IsAscending s.entries
  pub own : 64 * length s.blocks ≤ s.next_fresh
  pub drawn : (call : ℕ) → IfSome (at s.entries call) (IsDrawn s)
  pub apart : (a b g : ℕ) → has_found (at s.entries a) g ≡ true → has_found (at s.entries b) g ≡ true → a ≡ b

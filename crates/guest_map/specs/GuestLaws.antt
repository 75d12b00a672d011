-- What changes leave of a guest's names, for proofs that need several of these laws.
use Rattle.std.specs.Prelude.{◌≡◌, ◌-◌, ◌↔◌, ℕ, List, slice_get, true, false, None, Some, if◌then◌else◌}
use Rattle.xm_num.specs.declared.Block.{Block}
use Rattle.xm_num.specs.declared.Enclave.{Enclave}
use Rattle.xm_num.specs.declared.Frame.{Frame}
use Rattle.xm_num.specs.Rows.{at}
use Rattle.xm_num.specs.RowLaws.{RowLaws}
use Rattle.guest_map.specs.Guests.{Entry, GuestState, IsGuest, own_machine, entry_machine, to_machine, own_memory, next_entry, with_entry, without_entry, without_owner, has_guest, has_found, entry_having, is_found_of}

pub record GuestLaws : Type 0 where
  pub rows : RowLaws Entry
  -- a guest stays one
  pub boots : (blocks : List Block) → IsGuest (own_memory blocks)
  pub admits : (s : GuestState) (call : ℕ) (owner : Enclave) (frames : List Frame) → IsGuest s → at s.entries call ≡ None → IsGuest (with_entry call owner frames s)
  pub drops : (s : GuestState) (call : ℕ) → IsGuest s → IsGuest (without_entry call s)
  pub drops_owner : (s : GuestState) (owner : Enclave) → IsGuest s → IsGuest (without_owner owner s)
  -- what a guest frame names: the frame that an entry has for it, and none where it is neither own nor admitted
  pub found : (s : GuestState) (call g : ℕ) (e : Entry) → IsGuest s → at s.entries call ≡ Some e → has_guest e g ≡ true → to_machine s g ≡ entry_machine e g
  pub none : (s : GuestState) (g : ℕ) → IsGuest s
      → (to_machine s g ≡ None) ↔ ((own_machine s.blocks g ≡ None) × ((call : ℕ) → has_found (at s.entries call) g ≡ false))
  -- what it names after a change: admitted frames have the new guest frames, and what is dropped has none any more
  pub admitted : (s : GuestState) (call g : ℕ) (owner : Enclave) (frames : List Frame) → IsGuest s → at s.entries call ≡ None
      → to_machine (with_entry call owner frames s) g ≡ (if has_guest (next_entry owner frames s) g then slice_get frames (g - s.next_fresh) else to_machine s g)
  pub dropped : (s : GuestState) (call g : ℕ) → IsGuest s
      → to_machine (without_entry call s) g ≡ (if has_found (at s.entries call) g then None else to_machine s g)
  pub dropped_owner : (s : GuestState) (owner : Enclave) (g : ℕ) → IsGuest s
      → to_machine (without_owner owner s) g ≡ (if is_found_of owner (entry_having s.entries g) then None else to_machine s g)
  -- which entries are left of an owner's
  pub left : (s : GuestState) (owner : Enclave) (call : ℕ) → IsGuest s
      → at (without_owner owner s).entries call ≡ (if is_found_of owner (at s.entries call) then None else at s.entries call)

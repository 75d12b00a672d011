-- The space of a process, the frames that are mapped, and those that are unused.
use Rattle.std.specs.Prelude.{◌≡◌, ◌*◌, ◌/◌, ℕ, List, [], Bool, true, false, not, ◌&&◌, ◌||◌, ◌==◌, Option, Some, filter, map}
use Rattle.std.specs.List.{range_with_len, list_any}
use Rattle.std.specs.Option.{option_map, option_map_or}
use Rattle.xm_num.specs.declared.Frame.{Frame}
use Rattle.xm_num.specs.declared.Block.{Block}
use Rattle.xm_num.specs.declared.Page.{Page}
use Rattle.xm_num.specs.Rows.{at}
use Rattle.xm_num.specs.declared.Access.{Access}
use Rattle.frame_pool.specs.declared.BlockState.{BlockState}
use Rattle.frame_pool.specs.declared.BlockState.TheVariants as states
use Rattle.frame_pool.specs.Blocks.{is_free}
use Rattle.exporter_pins.specs.Holdings.{Export}
use Rattle.enclave_rules.specs.Core.{machine_frame}
use Rattle.enclave_rules.specs.Pages.{frame_list}
use Rattle.global_model.specs.Facts.{EnclaveFact, Facts, fact_of, is_living_enclave, lives}

-- what a page is mapped to: a machine frame, and what it may be used for
pub record Mapping : Type 0 where
  pub frame : Frame
  pub access : Access

-- the machine's frame of a page of the enclave
abbrev pub frame_of : EnclaveFact → Page → Frame
frame_of fact page = machine_frame fact.kind fact.blocks page.frame

abbrev pub mapping_of : EnclaveFact → Page → Mapping
mapping_of fact page = record { frame = frame_of fact page; access = page.access }

-- the pages of a process, ascending, as its enclave names frames
abbrev pub pages_at : Facts → ℕ → ℕ → List (ℕ × Page)
pages_at G e p = option_map_or (λ process. process.pages) (at (G.memory e).processes p) []

-- the space of a process: what each page is mapped to
abbrev pub space_of : Facts → ℕ → ℕ → ℕ → Option Mapping
space_of G e p page = option_map (mapping_of (fact_of (G.enclave e))) (at (pages_at G e p) page)

-- some living process maps the frame
pub record IsMapped (G : Facts) (frame : Frame) : Type 0 where
  pub enclave : ℕ
  pub pid : ℕ
  pub page : ℕ
  pub access : Access
  pub living : lives G enclave pid ≡ true
  pub mapped : space_of G enclave pid page ≡ Some (record { frame = frame; access = access })

abbrev pub IsUnmapped : Facts → Frame → Type 0
IsUnmapped G frame = IsMapped G frame → ⊥

-- the page is an own one, of that frame
abbrev pub owns : EnclaveFact → ℕ → Page → Bool
owns fact frame page = page.own && ((frame_of fact page).0 == frame)

-- an own page of a process of the enclave has the frame
abbrev pub is_own_frame : Facts → ℕ → ℕ → Bool
is_own_frame G e frame = list_any (λ process. list_any (λ row. owns (fact_of (G.enclave e)) frame row.1) process.1.pages) (G.memory e).processes

-- the block is lent to the enclave
abbrev pub is_lent_to : ℕ → BlockState → Bool
is_lent_to e states.Free = false
is_lent_to e (states.Lent owner) = owner.0 == e
is_lent_to e (states.Held owner) = false

-- the export names the frame
abbrev pub names_frame : EnclaveFact → ℕ → Export → Bool
names_frame fact frame export = list_any (λ own. (machine_frame fact.kind fact.blocks own).0 == frame) export.frames

-- an export of the enclave that is asked or live names the frame
abbrev pub is_export_frame : Facts → ℕ → ℕ → Bool
is_export_frame G e frame = list_any (λ row. names_frame (fact_of (G.enclave e)) frame row.1) (G.exports e)

-- the enclave lives, the frame's block is lent to it, and no own page and no export of it has the frame
abbrev pub is_unused : Facts → ℕ → ℕ → Bool
is_unused G e frame = is_living_enclave (G.enclave e) && is_lent_to e (G.block (frame / 64)) && not (is_own_frame G e frame || is_export_frame G e frame)

-- the unused frames of an enclave, ascending
abbrev pub unused_frames : Facts → ℕ → List Frame
unused_frames G e = frame_list (filter (is_unused G e) (range_with_len 0 (64 * G.pool)))

-- the free blocks, ascending
abbrev pub blocks_left : Facts → List Block
blocks_left G = map (λ b. record { 0 = b }) (filter (λ b. is_free (G.block b)) (range_with_len 0 G.pool))

-- What the frames of an enclave are used for, and what is done with them.
use Rattle.std.specs.Prelude.{◌≡◌, ◌≤◌, ℕ, ◌==◌, Bool, true, false, ◌&&◌, not, is_some, List, [], map, length, Option, None, Some}
use Rattle.std.specs.List.{list_any, filter, find, fold}
use Rattle.std.specs.Option.{option_map_or}
use Rattle.std.specs.List.Sorted.{IsStrictlySortedBy}
use Rattle.std.specs.Ordering.{nat_cmp}
use Rattle.xm_num.specs.Rows.{at, put, less}
use Rattle.xm_num.specs.declared.Access.{Access}
use Rattle.xm_num.specs.declared.CallNo.{CallNo}
use Rattle.xm_num.specs.declared.Enclave.{Enclave}
use Rattle.xm_num.specs.declared.Frame.{Frame}
use Rattle.xm_num.specs.declared.Segid.{Segid}
use Rattle.permit_check.specs.Permits.{is_met}
use Rattle.holder_table.specs.Holding.{Holding, with_held, without_held, without_enclave}
use Rattle.exporter_pins.specs.declared.Segment.{Segment}

-- who made it, for which user, group and mode; its frames; its segid once it is live
pub record Export : Type 0 where
  pub pid : ℕ
  pub uid : ℕ
  pub gid : ℕ
  pub mode : ℕ
  pub frames : List Frame
  pub segid : Option ℕ

-- all frames, ascending; the process that has each, by the frames' numbers; the exports by their calls; the grants by the enclaves
-- that have them and their calls
pub record Holdings : Type 0 where
  pub frames : List Frame
  pub owners : List (ℕ × ℕ)
  pub exports : List (ℕ × Export)
  pub grants : Holding (Unit {0})

-- the frames ascend, and none is listed twice
abbrev pub AreAscendingFrames : List Frame → Type 0
AreAscendingFrames frames = IsStrictlySortedBy nat_cmp (map (λ frame. frame.0) frames)

-- all frames are free
abbrev pub no_holdings : List Frame → Holdings
no_holdings frames = record { frames = frames; owners = []; exports = []; grants = [] }

-- the list has the frame with that number
abbrev pub has_frame : List Frame → ℕ → Bool
has_frame frames k = list_any (λ frame. frame.0 == k) frames

-- some export has the frame
abbrev pub is_covered : List (ℕ × Export) → ℕ → Bool
is_covered exports k = list_any (λ row. has_frame row.1.frames k) exports

-- no process has the frame, and it isn't covered
abbrev pub is_free_frame : List (ℕ × ℕ) → (ℕ → Bool) → ℕ → Bool
is_free_frame owners covered k = not (is_some (at owners k)) && not (covered k)

-- those of the frames that are free
abbrev pub free_among : List Frame → List (ℕ × ℕ) → (ℕ → Bool) → List Frame
free_among frames owners covered = filter (λ frame. is_free_frame owners covered frame.0) frames

-- the free frames, ascending
abbrev pub free_frames : Holdings → List Frame
free_frames h = free_among h.frames h.owners (is_covered h.exports)

-- the processes' frames once the process has these too
abbrev pub own_all : List (ℕ × ℕ) → ℕ → List Frame → List (ℕ × ℕ)
own_all owners pid frames = fold (λ rows frame. put rows frame.0 pid) owners frames

-- the process has these frames too
abbrev pub with_owned : ℕ → List Frame → Holdings → Holdings
with_owned pid frames h = record h { owners = own_all h.owners pid frames }

-- no process has the frame
abbrev pub without_owner : ℕ → Holdings → Holdings
without_owner k h = record h { owners = less h.owners k }

-- the rows of other processes
abbrev pub owned_by_others : ℕ → List (ℕ × ℕ) → List (ℕ × ℕ)
owned_by_others pid owners = filter (λ row. not (row.1 == pid)) owners

-- the process has no frame
abbrev pub without_process : ℕ → Holdings → Holdings
without_process pid h = record h { owners = owned_by_others pid h.owners }

-- an export that was asked for and isn't live
abbrev pub asked_export : ℕ → ℕ → ℕ → ℕ → List Frame → Export
asked_export pid uid gid mode frames = record { pid = pid; uid = uid; gid = gid; mode = mode; frames = frames; segid = None }

-- the export is live with this segid
abbrev pub live_with : ℕ → Export → Export
live_with segid e = record { pid = e.pid; uid = e.uid; gid = e.gid; mode = e.mode; frames = e.frames; segid = Some segid }

-- the exports once that of the call is live with this segid
abbrev pub with_live : ℕ → ℕ → List (ℕ × Export) → List (ℕ × Export)
with_live call segid exports = by (at exports call)
  where
    by : Option Export → List (ℕ × Export)
    by None = exports
    by (Some e) = put exports call (live_with segid e)

abbrev pub with_export : ℕ → Export → Holdings → Holdings
with_export call e h = record h { exports = put h.exports call e }

abbrev pub with_segid : ℕ → ℕ → Holdings → Holdings
with_segid call segid h = record h { exports = with_live call segid h.exports }

abbrev pub without_export : ℕ → Holdings → Holdings
without_export call h = record h { exports = less h.exports call }

-- the export was asked for, and isn't live
abbrev pub is_asked : Option Export → Bool
is_asked None = false
is_asked (Some e) = not (is_some e.segid)

-- the export is live with this segid
abbrev pub has_segid : ℕ → Option ℕ → Bool
has_segid segid None = false
has_segid segid (Some n) = n == segid

-- the live export with this segid, and its call
abbrev pub live_export : List (ℕ × Export) → ℕ → Option (ℕ × Export)
live_export exports segid = find (λ row. has_segid segid row.1.segid) exports

abbrev pub segment_of : ℕ × Export → Segment
segment_of row = record { call = record { 0 = row.0 }; pid = record { 0 = row.1.pid }; pages = length row.1.frames }

-- it is a live export of the process with this segid
abbrev pub is_live_of : ℕ → ℕ → Export → Bool
is_live_of pid segid e = (e.pid == pid) && has_segid segid e.segid

-- some live export of the process has the segid
abbrev pub has_live : List (ℕ × Export) → ℕ → ℕ → Bool
has_live exports pid segid = list_any (λ row. is_live_of pid segid row.1) exports

-- the segid is the least of the live exports of the process
pub record IsLeastLive (exports : List (ℕ × Export)) (pid segid : ℕ) : Type 0 where
  pub here : has_live exports pid segid ≡ true
  pub least : (n : ℕ) → has_live exports pid n ≡ true → segid ≤ n

-- a user may have the access to the export
abbrev pub is_permitted : ℕ → ℕ → Access → Export → Bool
is_permitted uid gid access e = is_met e.mode e.uid e.gid uid gid access

-- a user has no such access to the live export
abbrev pub is_denied : List (ℕ × Export) → ℕ → ℕ → ℕ → Access → Bool
is_denied exports segid uid gid access = option_map_or (λ row. not (is_permitted uid gid access row.1)) (live_export exports segid) false

-- the enclave has a grant of the segment for that call
abbrev pub with_grant : Enclave → CallNo → Segid → Holdings → Holdings
with_grant to call segid h = record h { grants = with_held h.grants to.0 call.0 (record { segid = segid; value = tt }) }

abbrev pub without_grant : Enclave → CallNo → Holdings → Holdings
without_grant to call h = record h { grants = without_held h.grants to.0 call.0 }

-- an enclave has no grants
abbrev pub without_holder : Enclave → Holdings → Holdings
without_holder gone h = record h { grants = without_enclave h.grants gone.0 }

-- What is kept beside the frames and the exports, and how it goes with them.
use Rattle.std.specs.Prelude.{◌≡◌, ◌<◌, ◌≤◌, ℕ, nat_lt, nat_le, ◌==◌, Bool, true, false, not, ◌&&◌, ◌/◌, List, [], ◌∷◌, length, map, get_or, Option, None, Some, IsSome, is_some, if◌then◌else◌}
use Rattle.std.specs.List.{count_by, sum_by, filter}
use Rattle.std.specs.Map.{lookup, values_of}
use Rattle.std.specs.Option.{unwrap_or}
use Rattle.xm_num.specs.Rows.{at, IsAscending}
use Rattle.xm_num.specs.declared.Access.{Access}
use Rattle.xm_num.specs.declared.Frame.{Frame}
use Rattle.number_pairs.specs.Pairs.{has_pair}
use Rattle.exporter_pins.specs.Holdings.{Export, AreAscendingFrames, has_frame, is_free_frame, free_among, is_permitted}

-- a queue of numbers, and for how many it has room
pub record Queue : Type 0 where
  pub items : List ℕ
  pub room : ℕ

-- names of calls, and for how many more there is room
pub record Names : Type 0 where
  pub entries : List (ℕ × ℕ)
  pub spare : ℕ

-- how often the number stands in the list
abbrev pub times : List ℕ → ℕ → ℕ
times xs k = count_by (λ x. x == k) xs

-- the numbers of the frames
abbrev pub numbers : List Frame → List ℕ
numbers frames = map (λ frame. frame.0) frames

-- what has that name
abbrev pub name_at : List (ℕ × ℕ) → ℕ → Option ℕ
name_at entries n = lookup (λ k. n == k) entries

-- the frames, the process that has each, and how many exports have each
pub record FrameUse : Type 0 where
  pub frames : List Frame
  pub owners : List (ℕ × ℕ)
  pub covers : List (ℕ × ℕ)

-- how often the frame stands in the list
abbrev pub frame_times : List Frame → ℕ → ℕ
frame_times frames k = count_by (λ frame. frame.0 == k) frames

-- how many exports have the frame
abbrev pub cover_at : List (ℕ × ℕ) → ℕ → ℕ
cover_at covers k = unwrap_or (at covers k) 0

abbrev pub has_cover : List (ℕ × ℕ) → ℕ → Bool
has_cover covers k = not (cover_at covers k == 0)

abbrev pub is_owner : ℕ → Option ℕ → Bool
is_owner pid None = false
is_owner pid (Some owner) = owner == pid

-- the process that has the frame at that place
abbrev pub owner_at : List (Option ℕ) → ℕ → Option ℕ
owner_at slots i = get_or slots i None

-- the rows, and one before them where there is an owner
abbrev pub with_row : ℕ → Option ℕ → List (ℕ × ℕ) → List (ℕ × ℕ)
with_row k None rows = rows
with_row k (Some pid) rows = (k, pid) ∷ rows

-- the process that has each frame, by the frames' numbers, from what stands at the frames' places
abbrev pub owner_rows : List Frame → List (Option ℕ) → List (ℕ × ℕ)
owner_rows [] slots = []
owner_rows (f ∷ frames) [] = []
owner_rows (f ∷ frames) (owner ∷ slots) = with_row f.0 owner (owner_rows frames slots)

-- all frames, and the process that has each
pub record OwnerTable : Type 0 where
  pub frames : List Frame
  pub rows : List (ℕ × ℕ)

-- the process has a frame at a place of that group of 64
pub record HasPlace (slots : List (Option ℕ)) (pid group : ℕ) : Type 0 where
  pub place : ℕ
  pub within : place / 64 ≡ group
  pub here : owner_at slots place ≡ Some pid

-- the pairs are the processes and the groups in which they have frames
pub record AreGrouped (slots : List (Option ℕ)) (groups : List (ℕ × ℕ)) : Type 0 where
  pub listed : (i pid : ℕ) → owner_at slots i ≡ Some pid → has_pair groups pid (i / 64) ≡ true
  pub exact : (pid group : ℕ) → has_pair groups pid group ≡ true → HasPlace slots pid group

-- each frame has a place, and what process has which groups goes with that
pub record AreOwned (frames : List Frame) (slots : List (Option ℕ)) (groups : List (ℕ × ℕ)) : Type 0 where
  pub ascending : AreAscendingFrames frames
  pub long : length slots ≡ length frames
  pub grouped : AreGrouped slots groups

-- the free ones of these frames
abbrev pub free_in : FrameUse → List Frame
free_in u = free_among u.frames u.owners (has_cover u.covers)

-- the queue has those of the frames that are free, each once, and room for all frames
pub record IsQueued (frames : List Frame) (free : ℕ → Bool) (queue : Queue) : Type 0 where
  pub room : length frames ≤ queue.room
  pub counted : length queue.items ≡ length (filter (λ frame. free frame.0) frames)
  pub queued : (k : ℕ) → times queue.items k ≡ (if has_frame frames k && free k then 1 else 0)

-- what is kept with the frames: the free ones in a queue
pub record IsIndexed (u : FrameUse) (queue : Queue) : Type 0 where
  pub ascending : AreAscendingFrames u.frames
  pub rows : IsAscending u.owners
  pub free : IsQueued u.frames (is_free_frame u.owners (has_cover u.covers)) queue
  pub owned : (k : ℕ) → IsSome (at u.owners k) → has_frame u.frames k ≡ true
  pub covered : (k : ℕ) → 0 < cover_at u.covers k → has_frame u.frames k ≡ true

-- how often exports have the frame
abbrev pub cover_sum : List (ℕ × Export) → ℕ → ℕ
cover_sum exports k = sum_by (λ e. frame_times e.frames k) (values_of exports)

-- how many exports aren't live
abbrev pub asked_count : List (ℕ × Export) → ℕ
asked_count exports = sum_by (λ e. if is_some e.segid then 0 else 1) (values_of exports)

abbrev pub segid_in : Option Export → Option ℕ
segid_in None = None
segid_in (Some e) = e.segid

-- how many pages an export has, and whether the user may have the access to it
abbrev pub permit_of : ℕ → ℕ → Access → ℕ × Export → ℕ × Bool
permit_of uid gid access row = (length row.1.frames, is_permitted uid gid access row.1)

-- the process asked for the export
abbrev pub is_made_by : ℕ → Option Export → Bool
is_made_by pid None = false
is_made_by pid (Some e) = e.pid == pid

-- the calls of each process
abbrev pub AreMade : List (ℕ × Export) → List (ℕ × ℕ) → Type 0
AreMade exports made = (pid call : ℕ) → has_pair made pid call ≡ is_made_by pid (at exports call)

-- the lower of two numbers, where there are some
abbrev pub lower_of : Option ℕ → Option ℕ → Option ℕ
lower_of None b = b
lower_of (Some a) None = Some a
lower_of (Some a) (Some b) = if nat_lt b a then Some b else Some a

-- there is a number, and it is at most that one
abbrev pub is_at_most : Option ℕ → ℕ → Bool
is_at_most None n = false
is_at_most (Some m) n = nat_le m n

-- the names are those of the live exports, so no two have one, and there is room for those of the others
pub record IsTable (exports : List (ℕ × Export)) (names : Names) (asked : ℕ) : Type 0 where
  pub ascending : IsAscending exports
  pub named : (n call : ℕ) → name_at names.entries n ≡ Some call → segid_in (at exports call) ≡ Some n
  pub live : (n call : ℕ) → segid_in (at exports call) ≡ Some n → name_at names.entries n ≡ Some call
  pub counted : asked ≡ asked_count exports
  pub room : asked ≤ names.spare

-- the covers of the frames are those of the exports
abbrev pub AreCounted : List (ℕ × ℕ) → List (ℕ × Export) → Type 0
AreCounted covers exports = (k : ℕ) → cover_at covers k ≡ cover_sum exports k

-- What is kept of a process, and how a table of them changes.
use Rattle.std.specs.Prelude.{◌≡◌, ◌<◌, ℕ, List, [], map, Option, None, Some, IsSome, option_map}
use Rattle.std.specs.Option.{option_map_or}
use Rattle.xm_num.specs.declared.CallNo.{CallNo}
use Rattle.xm_num.specs.declared.Frame.{Frame}
use Rattle.xm_num.specs.declared.Page.{Page}
use Rattle.xm_num.specs.Rows.{at, put, put_all, less_all}
use Rattle.page_table.specs.Spaces.{owned}
use Rattle.attach_map.specs.Attaching.{ProcessState}

-- a process and the call that it waits for
pub record Seat : Type 0 where
  pub process : ProcessState
  pub call : Option CallNo

abbrev pub with_seat_pages : Seat → List (ℕ × Page) → Seat
with_seat_pages seat pages = record seat { process = record seat.process { pages = pages } }

-- a process with these frames as own pages from that one on, and one without n pages
abbrev pub with_own_pages : ℕ → List Frame → Seat → Seat
with_own_pages page frames seat = with_seat_pages seat (put_all seat.process.pages page (owned frames))

abbrev pub without_owned : ℕ → ℕ → Seat → Seat
without_owned page n seat = with_seat_pages seat (less_all seat.process.pages page n)

abbrev pub with_seat_call : Option CallNo → Seat → Seat
with_seat_call call seat = record seat { call = call }

-- the pages of a process that lives
abbrev pub seat_pages : List (ℕ × Seat) → ℕ → List (ℕ × Page)
seat_pages rows k = option_map_or (λ seat. seat.process.pages) (at rows k) []

-- the number of the call that a process waits for that lives
abbrev pub beside : Option Seat → Option ℕ
beside None = None
beside (Some seat) = option_map (λ call. call.0) seat.call

-- what is seen of the processes
abbrev pub seen : List (ℕ × Seat) → List (ℕ × ProcessState)
seen rows = map (λ row. (row.0, row.1.process)) rows

-- each number that has a row is below that one
abbrev pub IsLast : {V : Type 0} → List (ℕ × V) → ℕ → Type 0
IsLast rows k = (q : ℕ) → IsSome (at rows q) → q < k

-- what stands at the number is changed so
abbrev pub ChangesAt : {V : Type 0} → (V → V) → List (ℕ × V) → ℕ → List (ℕ × V) → Type 0
ChangesAt {V} change old k new = (v : V) → at old k ≡ Some v → new ≡ put old k (change v)

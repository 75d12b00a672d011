-- What the pages of a space are mapped to, as rows by the pages' numbers.
use Rattle.std.specs.Prelude.{◌≡◌, ◌+◌, ◌<◌, ◌≤◌, ◌^◌, ℕ, Bool, true, false, List, map, Option, None, Some, IsSome, if◌then◌else◌}
use Rattle.xm_num.specs.Rows.{at}
use Rattle.xm_num.specs.declared.Vpn.{Vpn}
use Rattle.xm_num.specs.declared.Frame.{Frame}
use Rattle.xm_num.specs.declared.Access.{Access}
use Rattle.xm_num.specs.declared.Access.TheVariants.{ReadWrite}
use Rattle.xm_num.specs.declared.Page.{Page}

-- a mapped range, as its right shows it
pub record Range : Type 0 where
  pub first : Vpn
  pub pages : ℕ

abbrev pub page_of : Access → Bool → Frame → Page
page_of access own frame = record { frame = frame; access = access; own = own }

-- own pages with these frames
abbrev pub owned : List Frame → List Page
owned frames = map (page_of ReadWrite true) frames

-- attached pages with these frames, all of one access
abbrev pub attached : Access → List Frame → List Page
attached access frames = map (page_of access false) frames

-- the frame of an own page
abbrev pub own_frame : Option Page → Option Frame
own_frame None = None
own_frame (Some page) = if page.own then Some page.frame else None

-- n pages from the first on are all own pages
abbrev pub AreOwn : List (ℕ × Page) → ℕ → ℕ → Type 0
AreOwn rows first n = (v : ℕ) → first ≤ v → v < first + n → IsSome (own_frame (at rows v))

-- numbers with a row are among 1 to 16,777,215
abbrev pub AreWithin : {V : Type 0} → List (ℕ × V) → Type 0
AreWithin rows = (v : ℕ) → IsSome (at rows v) → (1 ≤ v) × (v < 2 ^ 24)

-- n numbers from the first on lie within 1 to 16,777,215, and none has a row
pub record IsGap {V : Type 0} (rows : List (ℕ × V)) (n first : ℕ) : Type 0 where
  pub low : 1 ≤ first
  pub high : first + n ≤ 2 ^ 24
  pub free : (v : ℕ) → first ≤ v → v < first + n → at rows v ≡ None

-- the lowest gap, or that there is none
abbrev pub IsFirstGap : {V : Type 0} → List (ℕ × V) → ℕ → Option ℕ → Type 0
IsFirstGap rows n None = (v : ℕ) → ¬ IsGap rows n v
IsFirstGap rows n (Some first) = IsGap rows n first × ((v : ℕ) → v < first → ¬ IsGap rows n v)

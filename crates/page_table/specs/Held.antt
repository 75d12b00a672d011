-- How the rights that are out go with the pages.
use Rattle.std.specs.Prelude.{◌≡◌, ◌+◌, ◌<◌, ◌≤◌, ℕ, Bool, false, not, List, Option, None, Some, IsTrue}
use Rattle.xm_num.specs.Rows.{at}
use Rattle.xm_num.specs.declared.Page.{Page}

-- an attached page is mapped there
abbrev pub is_attached : Option Page → Bool
is_attached None = false
is_attached (Some page) = not page.own

-- the range of a right that is out, which begins with that page, has the page v
pub record Covers (out : List (ℕ × ℕ)) (first n v : ℕ) : Type 0 where
  pub right : at out first ≡ Some n
  pub low : first ≤ v
  pub high : v < first + n

-- the range of each right that is out has pages, all of them attached, and no two ranges share one
pub record AreHeld (pages : List (ℕ × Page)) (out : List (ℕ × ℕ)) : Type 0 where
  pub filled : (first n : ℕ) → at out first ≡ Some n → 1 ≤ n
  pub attached : (first n v : ℕ) → Covers out first n v → IsTrue (is_attached (at pages v))
  pub apart : (first n other m v : ℕ) → Covers out first n v → Covers out other m v → first ≡ other

-- The tree of enclaves: the path between two, the next enclave on it, and who stands above whom.
use Rattle.std.specs.Prelude.{zero, suc, ◌≡◌, ◌≢◌, ◌⊎◌, ◌+◌, ◌-◌, ◌<◌, ℕ, List, [], ◌∷◌, ◌++◌, length, Bool, ◌&&◌, ◌||◌, ◌==◌, nat_lt, if◌then◌else◌}
use Rattle.std.specs.List.{AllByRecursion}
use Rattle.global_model.specs.Facts.{Facts, fact_of}

-- a tree below 0: each other number has a lower one as its parent
pub record IsRooted (parent : ℕ → ℕ) : Type 0 where
  pub lower : (e : ℕ) → 0 < e → parent e < e

-- one is the parent of the other
abbrev pub AreNear : (ℕ → ℕ) → ℕ → ℕ → Type 0
AreNear parent x y = ((0 < x) × (parent x ≡ y)) ⊎ ((0 < y) × (parent y ≡ x))

-- the path in at most so many steps: the higher of its ends isn't above the other, so the path goes over its parent
abbrev pub path_within : ℕ → (ℕ → ℕ) → ℕ → ℕ → List ℕ
path_within zero parent a b = a ∷ []
path_within (suc steps) parent a b =
    if a == b then a ∷ []
    else (if nat_lt b a then a ∷ path_within steps parent (parent a) b else path_within steps parent a (parent b) ++ b ∷ [])

-- the enclaves from a to b, each the parent or a child of the one before it, and none twice
abbrev pub path : (ℕ → ℕ) → ℕ → ℕ → List ℕ
path parent a b = path_within (a + b) parent a b

abbrev pub second_or : ℕ → List ℕ → ℕ
second_or none (first ∷ second ∷ more) = second
second_or none few = none

-- the enclave behind a on the path to b, or a itself where it is b
abbrev pub hop : (ℕ → ℕ) → ℕ → ℕ → ℕ
hop parent a b = second_or a (path parent a b)

-- how many channels lie between two
abbrev pub distance : (ℕ → ℕ) → ℕ → ℕ → ℕ
distance parent a b = length (path parent a b) - 1

abbrev pub is_above_within : ℕ → (ℕ → ℕ) → ℕ → ℕ → Bool
is_above_within zero parent a e = a == e
is_above_within (suc steps) parent a e = (a == e) || (nat_lt a e && is_above_within steps parent a (parent e))

-- a is e, or its parent, or that one's, and so on
abbrev pub is_above : (ℕ → ℕ) → ℕ → ℕ → Bool
is_above parent a e = is_above_within e parent a e

-- each is a neighbour of the one before it
abbrev pub AreLinked : (ℕ → ℕ) → List ℕ → Type 0
AreLinked parent (a ∷ b ∷ more) = AreNear parent a b × AreLinked parent (b ∷ more)
AreLinked parent few = Unit {0}

abbrev pub AreDistinct : List ℕ → Type 0
AreDistinct [] = Unit {0}
AreDistinct (a ∷ more) = AllByRecursion (λ b. a ≢ b) more × AreDistinct more

abbrev pub last_or : ℕ → List ℕ → ℕ
last_or none [] = none
last_or none (a ∷ more) = last_or a more

-- the enclaves go from a to b over neighbours, and none comes twice
pub record IsPath (parent : ℕ → ℕ) (a b : ℕ) (enclaves : List ℕ) : Type 0 where
  pub behind : List ℕ
  pub begins : enclaves ≡ a ∷ behind
  pub ends : last_or a behind ≡ b
  pub linked : AreLinked parent enclaves
  pub distinct : AreDistinct enclaves

-- ---- by the facts

abbrev pub parent_of : Facts → ℕ → ℕ
parent_of G e = (fact_of (G.enclave e)).parent.0

-- x isn't d, and y is the enclave behind it on the path to d; all of them were born
pub record IsToward (parent : ℕ → ℕ) (born x d y : ℕ) : Type 0 where
  pub from : x < born
  pub to : d < born
  pub over : y < born
  pub apart : x ≢ d
  pub next : y ≡ hop parent x d

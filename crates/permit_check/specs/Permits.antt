-- The permit rule: which class of users a user is of, and what the digit of that class in a mode grants.
use Rattle.std.specs.Prelude.{ℕ, ◌/◌, ◌%◌, ◌==◌, Bool, List, [], ◌∷◌, if◌then◌else◌}
use Rattle.std.specs.List.{list_all, list_any}
use Rattle.xm_num.specs.declared.Access.{Access}
use Rattle.xm_num.specs.declared.Access.TheVariants as accesses
use Rattle.xm_num.specs.declared.Want.{Want}
use Rattle.xm_num.specs.declared.Want.TheVariants as wants

-- the classes of users, each with a digit of its own in a mode
pub data Class : Type 0 where
  Maker : Class
  Group : Class
  Others : Class

-- the class of a user: that of the maker's user, else that of the maker's group, else that of all others
abbrev pub class_of : ℕ → ℕ → ℕ → ℕ → Class
class_of maker_uid maker_gid uid gid = if uid == maker_uid then Maker else if gid == maker_gid then Group else Others

-- the octal digit of a mode that speaks of a class
abbrev pub class_digit : ℕ → Class → ℕ
class_digit mode Maker = mode / 64 % 8
class_digit mode Group = mode / 8 % 8
class_digit mode Others = mode % 8

-- the digits that have the 4, by which one may read, and those that have the 2, by which one may write
abbrev pub digits_with : Want → List ℕ
digits_with wants.Read = 4 ∷ 5 ∷ 6 ∷ 7 ∷ []
digits_with wants.Write = 2 ∷ 3 ∷ 6 ∷ 7 ∷ []

-- what an access is to
abbrev pub wants_of : Access → List Want
wants_of accesses.ReadOnly = wants.Read ∷ []
wants_of accesses.ReadWrite = wants.Read ∷ wants.Write ∷ []

-- the digit is among those of each thing that the access is to
abbrev pub grants : ℕ → Access → Bool
grants digit access = list_all (λ want. list_any (λ other. digit == other) (digits_with want)) (wants_of access)

-- a user has an access by the mode
unfoldable pub is_met : ℕ → ℕ → ℕ → ℕ → ℕ → Access → Bool
is_met mode maker_uid maker_gid uid gid access = grants (class_digit mode (class_of maker_uid maker_gid uid gid)) access

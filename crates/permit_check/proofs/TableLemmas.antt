-- The table of all modes, accesses and classes, which the checker computes, and the rule at each entry.
use Rattle.std.proofs.Common.{◌≡◌, ℕ, ◌+◌, ◌*◌, ◌<◌, Bool, true, false, ◌&&◌, not, nat_le, refl, sym, ◌∙◌, subst, List, zero-add, arith}
use Rattle.std.specs.List.{list_all, range_with_len}
use Rattle.std.proofs.lemmas.Bool.{eq-eqb, ne_eqb}
use Rattle.std.proofs.lemmas.List.Elements.{All-get_or}
use Rattle.std.proofs.lemmas.List.FromFn.{get_or-range_with_len}
use Rattle.std.proofs.lemmas.List.Sums.{AllPass-from_list_all}
use Rattle.xm_num.specs.declared.Access.{Access}
use Rattle.xm_num.specs.declared.Access.TheVariants.{ReadOnly, ReadWrite}
use Rattle.permit_check.specs.Modes.{least_digit, mode_with}
use Rattle.permit_check.specs.Permits.{Class, Maker, Group, Others, class_digit, class_of, grants}

-- ---- the table

are_same : Bool → Bool → Bool
are_same true b = b
are_same false b = not b

octal_digits : List ℕ
octal_digits = range_with_len 0 8

-- the mode grants the class the access exactly where that class's digit is large enough
is_right : ℕ → Class → Access → ℕ → Bool
is_right mode class access digit = are_same (grants (class_digit mode class) access) (nat_le (least_digit access) digit)

-- so it is for each class
is_entry : Access → ℕ → ℕ → ℕ → Bool
is_entry access maker group others =
    is_right (mode_with maker group others) Maker access maker
    && (is_right (mode_with maker group others) Group access group && is_right (mode_with maker group others) Others access others)

is_table : Access → Bool
is_table access = list_all (λ maker. list_all (λ group. list_all (λ others. is_entry access maker group others) octal_digits) octal_digits) octal_digits

table : (access : Access) → is_table access ≡ true
unfolding is_table is_entry is_right are_same octal_digits
table ReadOnly = refl
table ReadWrite = refl

-- ---- from the table to its entries

same_are_equal : (a b : Bool) → are_same a b ≡ true → a ≡ b
unfolding are_same
same_are_equal true b same = sym same
same_are_equal false true same = cc
same_are_equal false false same = refl

at_digit : (test : ℕ → Bool) → list_all test octal_digits ≡ true → (digit : ℕ) → digit < 8 → test digit ≡ true
unfolding octal_digits
at_digit test all digit low =
    subst (λ d. test d ≡ true) (get_or-range_with_len 0 8 digit 0 low ∙ zero-add digit)
    (All-get_or (λ d. test d ≡ true) (range_with_len 0 8) digit 0 low (AllPass-from_list_all test (range_with_len 0 8) all))

both : (a b : Bool) → (a && b) ≡ true → (a ≡ true) × (b ≡ true)
both true b all = (refl, all)
both false b all = absurd (cc)

entry : (access : Access) (maker group others : ℕ) → maker < 8 → group < 8 → others < 8 → is_entry access maker group others ≡ true
unfolding is_table
entry access maker group others m g o =
    at_digit (λ digit. is_entry access maker group digit)
    (at_digit (λ second. list_all (λ digit. is_entry access maker second digit) octal_digits)
    (at_digit (λ first. list_all (λ second. list_all (λ digit. is_entry access first second digit) octal_digits) octal_digits) (table access) maker m)
    group g)
    others o

-- what the digit of each class grants
pub record Granted (access : Access) (maker group others : ℕ) : Type 0 where
  pub to_maker : grants (class_digit (mode_with maker group others) Maker) access ≡ nat_le (least_digit access) maker
  pub to_group : grants (class_digit (mode_with maker group others) Group) access ≡ nat_le (least_digit access) group
  pub to_others : grants (class_digit (mode_with maker group others) Others) access ≡ nat_le (least_digit access) others

pub granted : (access : Access) (maker group others : ℕ) → maker < 8 → group < 8 → others < 8 → Granted access maker group others
unfolding is_entry is_right
granted access maker group others m g o =
    let parts = both _ _ (entry access maker group others m g o) in
    let rest = both _ _ parts.1 in
    record { to_maker = same_are_equal _ _ parts.0; to_group = same_are_equal _ _ rest.0; to_others = same_are_equal _ _ rest.1 }

-- ---- which class is asked

pub asks_maker : (maker_uid maker_gid gid : ℕ) → class_of maker_uid maker_gid maker_uid gid ≡ Maker
asks_maker maker_uid maker_gid gid = rw (eq-eqb maker_uid maker_uid refl)

pub asks_group : (maker_uid maker_gid uid : ℕ) → (uid ≡ maker_uid → ⊥) → class_of maker_uid maker_gid uid maker_gid ≡ Group
asks_group maker_uid maker_gid uid other = rw (ne_eqb uid maker_uid other, eq-eqb maker_gid maker_gid refl)

pub asks_others : (maker_uid maker_gid uid gid : ℕ) → (uid ≡ maker_uid → ⊥) → (gid ≡ maker_gid → ⊥) → class_of maker_uid maker_gid uid gid ≡ Others
asks_others maker_uid maker_gid uid gid user group = rw (ne_eqb uid maker_uid user, ne_eqb gid maker_gid group)

-- ---- what stands above the three digits

pub digits_below : (mode more : ℕ) (class : Class) → class_digit (mode + more * 512) class ≡ class_digit mode class
digits_below mode more Maker = omega arith
digits_below mode more Group = omega arith
digits_below mode more Others = omega arith

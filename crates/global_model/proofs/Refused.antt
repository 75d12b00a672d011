-- What holds where a command isn't refused.
use Rattle.std.proofs.Common.{◌≡◌, List, [], ◌∷◌, Bool, true, false, cond, not, None, Some, refl}
use Rattle.xm_num.specs.declared.Cause.{Cause}
use Rattle.global_model.specs.Refusals.{Condition, when, first_cause}

-- no condition of it holds
pub no_condition : (cause : Cause) (holds : Bool) (others : List Condition) → first_cause (when cause holds ∷ others) ≡ None
    → (holds ≡ false) × (first_cause others ≡ None)
no_condition cause true others none = cc
no_condition cause false others none = (refl, none)

pub not_false : (b : Bool) → not b ≡ false → b ≡ true
not_false true is = refl
not_false false is = cc

-- no condition of them holds
abbrev pub AreUnmet : List Condition → Type 0
AreUnmet [] = Unit {0}
AreUnmet (condition ∷ conditions) = (condition.holds ≡ false) × AreUnmet conditions

-- a command that isn't refused meets no condition
pub all_unmet : (conditions : List Condition) → first_cause conditions ≡ None → AreUnmet conditions
all_unmet [] none = tt
all_unmet (c ∷ cs) none = by (all_unmet cs) c.holds refl none
  where
    by : (first_cause cs ≡ None → AreUnmet cs) → (b : Bool) → c.holds ≡ b → cond b (Some c.cause) (first_cause cs) ≡ None → (c.holds ≡ false) × AreUnmet cs
    by more true is e = cc
    by more false is e = (is, more e)

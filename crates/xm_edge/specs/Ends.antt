-- Where the input ends.
use Rattle.std.specs.Prelude.{◌≡◌, ◌↔◌, ⊤, ℕ, List, [], Option, None, Some, Result, IfOk}

-- a source that tells its bytes gives none exactly where none is left
abbrev pub GivesNoneAtEnd : {E : Type 0} → Option (List ℕ) → Result ℕ E → Type 0
GivesNoneAtEnd None result = ⊤
GivesNoneAtEnd (Some bytes) result = IfOk result (λ n. (n ≡ 0) ↔ (bytes ≡ []))

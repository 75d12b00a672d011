-- Names and what they stand for.
use Rattle.std.proofs.Common.{◌≡◌, ◌<◌, ◌≤◌, ◌+◌, ℕ, zero, suc, List, [], ◌∷◌, Bor, Bool, cond, None, Some, length, get_or, map, drop, refl, arith, add-one}
use Rattle.std.specs.Str.{bytes_eq}
use Rattle.line_reader.specs.Slots.{named}

abbrev Entries : Type 0 → Type 0
Entries T = List (Bor (List ℕ) × T)

abbrev seen : {T : Type 0} → Entries T → List (List ℕ × T)
seen entries = map (λ entry. (entry.0.now, entry.1)) entries

-- the entry at a place is what the word names, or another behind it is
pub named_at : {T : Type 0} (entries : Entries T) (i : ℕ) (entry : Bor (List ℕ) × T) (word : List ℕ) (same : Bool) → i < length entries → entry ≡ get_or entries i entry → same ≡ bytes_eq word entry.0.now
    → named (seen (drop i entries)) word ≡ cond same (Some entry.1) (named (seen (drop (i + 1) entries)) word)
unfolding named
named_at [] i entry word same h at is = absurd (omega arith)
named_at (first ∷ entries) zero entry word same h at is =
    let here : entry ≡ first = at in
    rw (is, here) refl
named_at (first ∷ entries) (suc i) entry word same h at is =
    rw add-one (rw add-one at (named_at entries i entry word same (omega arith) at is))

-- behind the last entry nothing is named
pub named_end : {T : Type 0} (entries : Entries T) (i : ℕ) (word : List ℕ) → length entries ≤ i → named (seen (drop i entries)) word ≡ None
unfolding named
named_end [] zero word h = refl
named_end [] (suc i) word h = refl
named_end (first ∷ entries) zero word h = absurd (omega arith)
named_end (first ∷ entries) (suc i) word h = named_end entries i word (omega arith)

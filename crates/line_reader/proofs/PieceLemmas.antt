-- The pieces of a text between single spaces.
use Rattle.std.proofs.Common.{◌≡◌, ◌≢◌, ◌<◌, ℕ, zero, suc, List, [], ◌∷◌, length, get_or, take, drop, eqb, Bool, true, false, not, cond, Bor, Option, None, Some, refl, sym, arith}
use Rattle.std.proofs.lemmas.Bool.{ne_eqb}
use Rattle.std.specs.List.{onto_first}
use Rattle.std.specs.Option.{is_some}
use Rattle.line_reader.specs.Slots.{pieces, words_left, is_done}

-- the first piece ends at the first space
pub pieces_at : (text : List ℕ) (n : ℕ) → n < length text → ((k : ℕ) → k < n → get_or text k 0 ≢ 32) → get_or text n 0 ≡ 32 → pieces text ≡ take n text ∷ pieces (drop (suc n) text)
pieces_at [] n h before at = absurd (omega arith)
pieces_at (c ∷ text) zero h before at = rw at refl
pieces_at (c ∷ text) (suc n) h before at =
    let first : eqb c 32 ≡ false = ne_eqb c 32 (before 0 (omega arith)) in
    let rest = pieces_at text n (omega arith) (λ k lt. before (suc k) (omega arith)) at in
    rw (first, rest) refl

-- the last piece has no space
pub pieces_last : (text : List ℕ) → ((k : ℕ) → k < length text → get_or text k 0 ≢ 32) → pieces text ≡ text ∷ []
pieces_last [] before = refl
pieces_last (c ∷ text) before =
    let first : eqb c 32 ≡ false = ne_eqb c 32 (before 0 (omega arith)) in
    let rest = pieces_last text (λ k lt. before (suc k) (omega arith)) in
    rw (first, rest) refl

-- a text has a piece
onto_done : (c : ℕ) (words : List (List ℕ)) → is_done (onto_first c words) ≡ false
onto_done c [] = refl
onto_done c (word ∷ words) = refl

either_done : (b : Bool) (xs ys : List (List ℕ)) → is_done xs ≡ false → is_done ys ≡ false → is_done (cond b xs ys) ≡ false
either_done true xs ys h k = h
either_done false xs ys h k = k

pub pieces_some : (text : List ℕ) → is_done (pieces text) ≡ false
pieces_some [] = refl
pieces_some (c ∷ text) = either_done (eqb c 32) ([] ∷ pieces text) (onto_first c (pieces text)) refl (onto_done c (pieces text))

-- none is left where no text is
pub left_none : (rest : Option (Bor (List ℕ))) (none : Bool) → is_some rest ≡ not none → none ≡ is_done (words_left rest)
left_none None true h = refl
left_none None false h = cc
left_none (Some text) true h = cc
left_none (Some text) false h = sym (pieces_some text.now)

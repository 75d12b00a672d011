-- Fronts of journals and of their commands.
use Rattle.std.proofs.Common.{◌≡◌, ◌+◌, ◌≤◌, ℕ, List, [], ◌∷◌, ◌++◌, length, length-append, true, refl, sym, ap, ◌∙◌, arith, append_assoc}
use Rattle.std.proofs.lemmas.List.Elements.{filter-append, All-nil, All-cons, All-head, All-tail}
use Rattle.std.specs.List.{filter, All}
use Rattle.std.proofs.lemmas.List.Concat.{flat_map-append}
use Rattle.xemem_language.specs.declared.command.Command.{Command}
use Rattle.xemem_language.specs.declared.line.Line.{Line}
use Rattle.xemem_language.specs.Spelling.{line_words, words_in, line_text, text_of}
use Rattle.global_model.specs.Facts.{Facts, no_facts, after_lines}
use Rattle.global_model.specs.Due.{journal_from, journal_of, step_lines}
use Rattle.global_model.specs.Journals.{deliveries_in, is_delivery}
use Rattle.global_model.specs.Place.{may_stand, IsPlacedAfter}
use Rattle.xemem_language.specs.Ranges.{IsInRange}

-- a front of commands, each of which may stand after those before it
pub placed_front : (xs ys : List Command) (before : ℕ) → IsPlacedAfter before (xs ++ ys) → IsPlacedAfter before xs
placed_front [] ys before placed = tt
placed_front (x ∷ xs) ys before placed = (placed.0, placed.1, placed_front xs ys (before + 1) placed.2)

-- the last of them
pub placed_last : (xs : List Command) (x : Command) (before : ℕ) → IsPlacedAfter before (xs ++ x ∷ []) → (may_stand (before + length xs) x ≡ true) × IsInRange x
placed_last [] x before placed = let none : before + 0 ≡ before = omega arith in rw none (placed.0, placed.1)
placed_last (y ∷ ys) x before placed = let more : before + length (y ∷ ys) ≡ (before + 1) + length ys = omega arith in rw more (placed_last ys x (before + 1) placed.2)

-- the words of two pieces of a journal
pub words_in-append : (ls ms : List Line) → words_in (ls ++ ms) ≡ words_in ls + words_in ms
words_in-append [] ms = omega arith
words_in-append (l ∷ ls) ms = omega (arith, words_in-append ls ms)

-- the texts of two pieces of a journal
pub text_of-append : (ls ms : List Line) → text_of (ls ++ ms) ≡ text_of ls ++ text_of ms
text_of-append ls ms = flat_map-append line_text ls ms

-- the deliveries of two pieces of a journal
pub deliveries_in-append : (ls ms : List Line) → deliveries_in (ls ++ ms) ≡ deliveries_in ls + deliveries_in ms
deliveries_in-append ls ms = ap length (filter-append is_delivery ls ms) ∙ length-append (filter is_delivery ls) (filter is_delivery ms)

-- a delivery in the midst counts
pub one_delivery : (ls ms : List Line) (line : Line) → is_delivery line ≡ true → deliveries_in ls + 1 ≤ deliveries_in (ls ++ line ∷ ms)
one_delivery ls ms line is =
    let here : deliveries_in (line ∷ ms) ≡ deliveries_in ms + 1 = rw is (omega arith) in
    omega (arith, deliveries_in-append ls (line ∷ ms), here)

-- and so do a line's words
pub line_in : (ls ms : List Line) (line : Line) → words_in ls + length (line_words line) ≤ words_in (ls ++ line ∷ ms)
line_in ls ms line = let sum = words_in-append ls (line ∷ ms) in omega (arith, sum)

-- ---- the journal of more commands

journal_from-append : (G : Facts) (xs ys : List Command) → (rest : List Line) × (journal_from G (xs ++ ys) ≡ journal_from G xs ++ rest)
journal_from-append G [] ys = (journal_from G ys, refl)
journal_from-append G (x ∷ xs) ys =
    let more = journal_from-append (after_lines G (step_lines G x)) xs ys in
    (more.0, ap (λ ls. step_lines G x ++ ls) more.1 ∙ sym (append_assoc (step_lines G x) (journal_from (after_lines G (step_lines G x)) xs) more.0))

-- the journal of more commands goes on from that of the first ones
pub journal_more : (xs ys : List Command) → (rest : List Line) × (journal_of (xs ++ ys) ≡ journal_of xs ++ rest)
journal_more xs ys = journal_from-append no_facts xs ys

-- ---- fronts of lines

-- what holds of each line holds of each of a front
pub All-front : (P : Line → Type 0) (journal rest : List Line) → All P (journal ++ rest) → All P journal
All-front P [] rest all = All-nil P
All-front P (l ∷ ls) rest all = All-cons P l ls (All-head P l (ls ++ rest) all) (All-front P ls rest (All-tail P l (ls ++ rest) all))

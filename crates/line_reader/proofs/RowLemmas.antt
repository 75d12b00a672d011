-- Rows of slots: what they make of words, and the words that they make it of.
use Rattle.std.proofs.Common.{◌≡◌, ℕ, List, [], ◌∷◌, Bool, true, false, cond, None, Some, refl, ap, ◌∙◌}
use Rattle.std.proofs.lemmas.Slice.Eq.{bytes_eq-Decides}
use Rattle.std.specs.Option.{option_and_then}
use Rattle.std.specs.Str.{bytes_eq}
use Rattle.line_reader.specs.Laws.{Laws}
use Rattle.line_reader.specs.Slots.{Slot, Value, Read, Row, Maker, filled, row, row_read, next}
use Rattle.line_reader.proofs.ValueLemmas.{spell, IsMeant, next-back, next-some}

-- a value for each slot, and what they make
abbrev pub Values : List Slot → Type 0
Values [] = Unit {0}
Values (slot ∷ slots) = Value slot × Values slots

abbrev pub all_made : {R : Type 0} → (slots : List Slot) → Maker slots R → Values slots → R
all_made [] made values = made
all_made (slot ∷ slots) make values = all_made slots (make values.0) values.1

-- the words of the values, with more behind them
abbrev pub spelled : (slots : List Slot) → Values slots → List (List ℕ) → List (List ℕ)
spelled [] values rest = rest
spelled (slot ∷ slots) values rest = spell slot values.0 ∷ spelled slots values.1 rest

abbrev pub AreMeant : (slots : List Slot) → Values slots → Type 0
AreMeant [] values = Unit {0}
AreMeant (slot ∷ slots) values = IsMeant slot values.0 × AreMeant slots values.1

-- what is spelled is read again
pub filled-back : (laws : Laws) {R : Type 0} (slots : List Slot) (make : Maker slots R) (values : Values slots) (rest : List (List ℕ)) → AreMeant slots values
    → filled slots make (spelled slots values rest) ≡ Some (all_made slots make values, rest)
filled-back laws [] make values rest meant = refl
filled-back laws (slot ∷ slots) make values rest meant =
    rw (next-back laws slot values.0 (spelled slots values.1 rest) meant.0) (filled-back laws slots (make values.0) values.1 rest meant.1)

-- what is read was spelled
pub record Filled {R : Type 0} (slots : List Slot) (make : Maker slots R) (words : List (List ℕ)) (result : R) (rest : List (List ℕ)) : Type 0 where
  pub values : Values slots
  pub meant : AreMeant slots values
  pub words_are : words ≡ spelled slots values rest
  pub result_is : all_made slots make values ≡ result

pub filled-some : (laws : Laws) {R : Type 0} (slots : List Slot) (make : Maker slots R) (words : List (List ℕ)) (result : R) (rest : List (List ℕ)) → filled slots make words ≡ Some (result, rest) → Filled slots make words result rest
filled-some laws {R} [] made words result rest h =
    let pair : ◌≡◌ {A = R × List (List ℕ)} (made, words) (result, rest) = cc in
    record { values = tt; meant = tt; words_are = ap (λ p. p.1) pair; result_is = ap (λ p. p.0) pair }
filled-some laws {R} (slot ∷ slots) make words result rest h = by (λ value left. filled-some laws slots (make value) left result rest) (next slot words) refl h
  where
    by : ((value : Value slot) (left : List (List ℕ)) → filled slots (make value) left ≡ Some (result, rest) → Filled slots (make value) left result rest)
        → (o : Read (Value slot)) → next slot words ≡ o → option_and_then (λ (value, left). filled slots (make value) left) o ≡ Some (result, rest) → Filled (slot ∷ slots) make words result rest
    by more None is e = cc
    by more (Some pair) is e =
        let first = next-some laws slot pair.0 words pair.1 is in
        let others = more pair.0 pair.1 e in
        record {
          values = (pair.0, others.values);
          meant = (first.meant, others.meant);
          words_are = first.is ∙ ap (λ ws. spell slot pair.0 ∷ ws) others.words_are;
          result_is = others.result_is;
        }

-- ---- tables

-- a fact of what any row reads
abbrev pub EachRow : {R : Type 0} → (List (List ℕ) → R → List (List ℕ) → Type 0) → List (Row R) → Type 0
EachRow IsRead [] = Unit {0}
EachRow {R} IsRead (row ∷ rows) = ((words : List (List ℕ)) (result : R) (rest : List (List ℕ)) → row.read words ≡ Some (result, rest) → IsRead (row.first ∷ words) result rest) × EachRow IsRead rows

pub row_read-some : {R : Type 0} (IsRead : List (List ℕ) → R → List (List ℕ) → Type 0) (rows : List (Row R)) (first : List ℕ) (words : List (List ℕ)) (result : R) (rest : List (List ℕ)) → EachRow IsRead rows
    → row_read rows first words ≡ Some (result, rest) → IsRead (first ∷ words) result rest
row_read-some IsRead [] first words result rest each h = cc
row_read-some {R} IsRead (row ∷ rows) first words result rest each h = by (row_read-some IsRead rows first words result rest each.1) (bytes_eq first row.first) refl h
  where
    by : (row_read rows first words ≡ Some (result, rest) → IsRead (first ∷ words) result rest)
        → (same : Bool) → bytes_eq first row.first ≡ same → cond same (row.read words) (row_read rows first words) ≡ Some (result, rest) → IsRead (first ∷ words) result rest
    by behind true is e = rw ((bytes_eq-Decides first row.first).0 is) (each.0 words result rest e)
    by behind false is e = behind e

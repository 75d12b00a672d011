-- Lists of the values of words.
use Rattle.std.proofs.Common.{◌≡◌, ◌<◌, ℕ, List, [], ◌∷◌, ◌++◌, length, true, false, Option, None, Some, option_map, map, drop, get_or, refl, sym, ap, ◌∙◌, arith, append_assoc, append-nil}
use Rattle.std.proofs.lemmas.List.Elements.{All-head, All-tail, All-nil, All-cons}
use Rattle.std.specs.List.{All}
use Rattle.std.specs.Option.{option_and_then}
use Rattle.line_reader.specs.Laws.{Laws}
use Rattle.line_reader.specs.Slots.{is_done, Slot, Value, Read, next, all_next, all_read}
use Rattle.line_reader.proofs.ValueLemmas.{next-back, next-some, spell, IsMeant}

-- a value more is read
pub all_next-more : (laws : Laws) (slot : Slot) (words rest : List (List ℕ)) (value : Value slot) → next slot words ≡ Some (value, rest) → all_next slot words ≡ option_map (λ values. value ∷ values) (all_next slot rest)
unfolding all_next
all_next-more laws slot words rest value h =
    let s = next-some laws slot value words rest h in
    let again : next slot (spell slot value ∷ rest) ≡ Some (value, rest) = ap (next slot) (sym s.is) ∙ h in
    ap (all_next slot) s.is ∙ rw again refl

-- a word that stands for nothing
pub all_next-none : (slot : Slot) (words : List (List ℕ)) → is_done words ≡ false → next slot words ≡ None → all_next slot words ≡ None
unfolding all_next
all_next-none slot [] some h = cc
all_next-none slot (word ∷ words) some h = rw h refl

-- no word is left
pub all_next-done : (slot : Slot) (words : List (List ℕ)) → is_done words ≡ true → (words ≡ []) × (all_next slot words ≡ Some [])
unfolding all_next
all_next-done slot [] done = (refl, refl)
all_next-done slot (word ∷ words) done = cc

pub fewer : (laws : Laws) (slot : Slot) (words rest : List (List ℕ)) (value : Value slot) → next slot words ≡ Some (value, rest) → length rest < length words
fewer laws slot words rest value h = let s = next-some laws slot value words rest h in rw s.is (omega arith)

-- what is in front of more
pub onto : {A : Type 0} (done : List A) (value : A) (more : Option (List A)) → option_map (λ values. (done ++ value ∷ []) ++ values) more ≡ option_map (λ values. done ++ values) (option_map (λ values. value ∷ values) more)
onto done value None = refl
onto done value (Some values) = ap Some (append_assoc done (value ∷ []) values)

-- ---- the loop over the words that are left

-- a value more
pub reached-more : (laws : Laws) (slot : Slot) (done : List (Value slot)) (value : Value slot) (words rest : List (List ℕ)) (all : Option (List (Value slot))) → Some (value, rest) ≡ next slot words
    → option_map (λ more. done ++ more) (all_next slot words) ≡ all → option_map (λ more. (done ++ value ∷ []) ++ more) (all_next slot rest) ≡ all
reached-more laws slot done value words rest all h inv =
    onto done value (all_next slot rest) ∙ ap (option_map (λ more. done ++ more)) (sym (all_next-more laws slot words rest value (sym h))) ∙ inv

-- a word that stands for nothing
pub reached-none : (slot : Slot) (done : List (Value slot)) (words all : List (List ℕ)) → is_done words ≡ false → None ≡ next slot words
    → option_map (λ more. done ++ more) (all_next slot words) ≡ all_next slot all → None ≡ all_read slot all
reached-none slot done words all some h inv =
    let none : all_next slot words ≡ None = all_next-none slot words some (sym h) in
    let all_none : None ≡ all_next slot all = sym (ap (option_map (λ more. done ++ more)) none) ∙ inv in
    ap (option_map (λ values. (values, []))) all_none

-- no word is left
pub reached-all : (slot : Slot) (done : List (Value slot)) (words all : List (List ℕ)) → is_done words ≡ true
    → option_map (λ more. done ++ more) (all_next slot words) ≡ all_next slot all → Some (done, words) ≡ all_read slot all
reached-all slot done words all last inv =
    let e = all_next-done slot words last in
    let found : Some (done ++ []) ≡ all_next slot all = sym (ap (option_map (λ more. done ++ more)) e.1) ∙ inv in
    let whole : Some done ≡ all_next slot all = ap Some (sym (append-nil done)) ∙ found in
    rw e.0 (ap (option_map (λ values. (values, []))) whole)

-- ---- what is spelled is read again, and what is read was spelled

pub all_next-back : (laws : Laws) (slot : Slot) (values : List (Value slot)) → All (IsMeant slot) values → all_next slot (map (spell slot) values) ≡ Some values
unfolding all_next
all_next-back laws slot [] meant = refl
all_next-back laws slot (value ∷ values) meant =
    rw (next-back laws slot value (map (spell slot) values) (All-head (IsMeant slot) value values meant), all_next-back laws slot values (All-tail (IsMeant slot) value values meant)) refl

pub record SpeltAll (slot : Slot) (words : List (List ℕ)) (values : List (Value slot)) : Type 0 where
  pub is : words ≡ map (spell slot) values
  pub meant : All (IsMeant slot) values

pub all_next-some : (laws : Laws) (slot : Slot) (words : List (List ℕ)) (values : List (Value slot)) → all_next slot words ≡ Some values → SpeltAll slot words values
unfolding all_next
all_next-some laws slot [] values h = let none : [] ≡ values = cc in rw (← none) (record { is = refl; meant = All-nil (IsMeant slot) })
all_next-some laws slot (word ∷ words) values h = by (λ others. all_next-some laws slot words others) (next slot (word ∷ words)) (all_next slot words) refl refl h
  where
    by : ((others : List (Value slot)) → all_next slot words ≡ Some others → SpeltAll slot words others)
        → (o : Read (Value slot)) (more : Option (List (Value slot))) → next slot (word ∷ words) ≡ o → all_next slot words ≡ more
        → option_and_then (λ (value, rest). option_map (λ values. value ∷ values) more) o ≡ Some values → SpeltAll slot (word ∷ words) values
    by behind None more is are e = cc
    by behind (Some pair) None is are e = cc
    by behind (Some pair) (Some others) is are e =
        let first = next-some laws slot pair.0 (word ∷ words) pair.1 is in
        let rest = behind others are in
        let whole : pair.0 ∷ others ≡ values = cc in
        let left : words ≡ pair.1 = ap (drop 1) first.is in
        let name : word ≡ spell slot pair.0 = ap (λ ws. get_or ws 0 word) first.is in
        rw (← whole) (record { is = cc (name, rest.is); meant = All-cons (IsMeant slot) pair.0 others first.meant rest.meant })

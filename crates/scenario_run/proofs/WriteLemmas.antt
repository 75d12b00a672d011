-- What has been written of a text after one piece more, and after a piece that was cut.
use Rattle.std.proofs.Common.{◌≡◌, ◌+◌, ◌-◌, ◌≤◌, ℕ, List, length, take, drop, Option, Result, Ok, Err, OnErr, sym, ap, ◌∙◌, subst, arith, length-take, length-drop}
use Rattle.std.specs.Io.KnownBytes.{Appends}
use Rattle.std.proofs.KnownBytes.{Appends-trans}
use Rattle.std.proofs.Math.Seq.{take-add}
use Rattle.std.proofs.lemmas.List.{take-take}
use Rattle.xm_edge.specs.Whole.{AppendsFront}

pub on_err : {T E X : Type 0} (r : Result T E) → X → OnErr r X
on_err (Ok x) h = tt
on_err (Err e) h = h

-- one piece more
pub piece_put : (a b c : Option (List ℕ)) (text : List ℕ) (at m : ℕ) → Appends a b (take at text) → Appends b c (take ((at + m) - at) (drop at text)) → Appends a c (take (at + m) text)
piece_put a b c text at m put more =
    let e : (at + m) - at ≡ m = omega arith in
    subst (Appends a c) (sym (take-add at m text)) (Appends-trans a b c (take at text) (take m (drop at text)) put (subst (λ n. Appends b c (take n (drop at text))) e more))

-- a piece that was cut
pub piece_cut : (a b c : Option (List ℕ)) (text : List ℕ) (at m : ℕ) → at ≤ length text → Appends a b (take at text) → AppendsFront b c (take ((at + m) - at) (drop at text)) → AppendsFront a c text
piece_cut a b c text at m within put more =
    let n = more.0 in
    let e : (at + m) - at ≡ m = omega arith in
    let fits : n ≤ length (take m (drop at text)) = subst (λ k. n ≤ length (take k (drop at text))) e more.1 in
    let short : n ≤ m = omega (arith, length-take m (drop at text)) in
    let room : at + n ≤ length text = omega (arith, length-take m (drop at text), length-drop at text) in
    let front : take n (take ((at + m) - at) (drop at text)) ≡ take n (drop at text) = ap (λ k. take n (take k (drop at text))) e ∙ take-take n m (drop at text) short in
    (at + n, room, subst (Appends a c) (sym (take-add at n text)) (Appends-trans a b c (take at text) (take n (drop at text)) put (subst (Appends b c) front more.2)))

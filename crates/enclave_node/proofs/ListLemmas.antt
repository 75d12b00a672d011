-- Lists that are gone through item by item.
use Rattle.std.proofs.Common.{◌≡◌, ◌+◌, ◌<◌, ℕ, List, ◌++◌, length, drop, get_or, ◌∷◌, sym, ap, ◌∙◌, append_assoc, add-one}
use Rattle.std.proofs.Math.Seq.{drop-cons}
use Rattle.std.specs.List.{flat_map}

-- one item more was gone through
pub flat_map-step : {X A : Type 0} (f : X → List A) (xs : List X) (i : ℕ) (d : X) (before new : List A) → i < length xs → new ≡ before ++ f (get_or xs i d) → new ++ flat_map f (drop (i + 1) xs) ≡ before ++ flat_map f (drop i xs)
flat_map-step f xs i d before new lt is =
    let next : drop i xs ≡ get_or xs i d ∷ drop (i + 1) xs = rw add-one (drop-cons xs i d lt) in
    ap (λ ys. ys ++ flat_map f (drop (i + 1) xs)) is ∙ append_assoc before (f (get_or xs i d)) (flat_map f (drop (i + 1) xs)) ∙ sym (ap (λ ys. before ++ flat_map f ys) next)

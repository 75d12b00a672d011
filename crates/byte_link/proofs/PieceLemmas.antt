use Rattle.std.proofs.Common.{◌≡◌, ℕ, suc, ◌+◌, ◌-◌, ◌<◌, ◌≤◌, List, [], ◌∷◌, ◌++◌, length, take, drop, refl, sym, ap, ◌∙◌, append_assoc, length-append, length-drop, arith}
use Rattle.std.specs.List.{concat}
use Rattle.std.proofs.lemmas.List.{drop-drop, drop-take, take_all, length-take}
use Rattle.byte_link.specs.Channel.{filled_pieces, first_bytes, later_bytes}
use Rattle.byte_link.proofs.Splits.{nothing_dropped, nothing_taken, drop-append, take-append}

pub concat-filled : (ps : List (List ℕ)) → concat (filled_pieces ps) ≡ concat ps
concat-filled [] = refl
concat-filled ([] ∷ ps) = concat-filled ps
concat-filled ((b ∷ bs) ∷ ps) = ap (λ rest. (b ∷ bs) ++ rest) (concat-filled ps)

pub concat-append : (ps qs : List (List ℕ)) → concat (ps ++ qs) ≡ concat ps ++ concat qs
concat-append [] qs = refl
concat-append (p ∷ ps) qs = ap (λ rest. p ++ rest) (concat-append ps qs) ∙ sym (append_assoc p (concat ps) (concat qs))

pub concat-later : (n : ℕ) (ps : List (List ℕ)) → concat (later_bytes n ps) ≡ drop n (concat ps)
concat-later n [] = sym (nothing_dropped n)
concat-later n (p ∷ ps) =
    ap (λ rest. drop n p ++ rest) (concat-later (n - length p) ps) ∙ sym (drop-append n p (concat ps))

pub concat-first : (n : ℕ) (ps : List (List ℕ)) → concat (first_bytes n ps) ≡ take n (concat ps)
concat-first n [] = sym (nothing_taken n)
concat-first n (p ∷ ps) =
    ap (λ rest. take n p ++ rest) (concat-first (n - length p) ps) ∙ sym (take-append n p (concat ps))

-- a piece before rows that show the same
pub filled-cons : (p : List ℕ) (xs ys : List (List ℕ)) → filled_pieces xs ≡ filled_pieces ys → filled_pieces (p ∷ xs) ≡ filled_pieces (p ∷ ys)
filled-cons [] xs ys e = e
filled-cons (b ∷ bs) xs ys e = ap (λ rest. (b ∷ bs) ∷ rest) e

pub filled-filled : (ps : List (List ℕ)) → filled_pieces (filled_pieces ps) ≡ filled_pieces ps
filled-filled [] = refl
filled-filled ([] ∷ ps) = filled-filled ps
filled-filled ((b ∷ bs) ∷ ps) = ap (λ rest. (b ∷ bs) ∷ rest) (filled-filled ps)

pub later-filled : (n : ℕ) (ps : List (List ℕ)) → filled_pieces (later_bytes n (filled_pieces ps)) ≡ filled_pieces (later_bytes n ps)
later-filled n [] = refl
later-filled n ([] ∷ ps) =
    let e : n - 0 ≡ n = omega arith in rw (nothing_dropped {X = ℕ} n, e) (later-filled n ps)
later-filled n ((b ∷ bs) ∷ ps) =
    let m = n - suc (length bs) in
    filled-cons (drop n (b ∷ bs)) (later_bytes m (filled_pieces ps)) (later_bytes m ps) (later-filled m ps)

pub first-filled : (n : ℕ) (ps : List (List ℕ)) → filled_pieces (first_bytes n (filled_pieces ps)) ≡ filled_pieces (first_bytes n ps)
first-filled n [] = refl
first-filled n ([] ∷ ps) =
    let e : n - 0 ≡ n = omega arith in rw (nothing_taken {X = ℕ} n, e) (first-filled n ps)
first-filled n ((b ∷ bs) ∷ ps) =
    let m = n - suc (length bs) in
    filled-cons (take n (b ∷ bs)) (first_bytes m (filled_pieces ps)) (first_bytes m ps) (first-filled m ps)

pub later_none : (ps : List (List ℕ)) → later_bytes 0 ps ≡ ps
later_none [] = refl
later_none (p ∷ ps) = let e : 0 - length p ≡ 0 = omega arith in rw e (ap (λ rest. p ∷ rest) (later_none ps))

pub first_all : (n : ℕ) (ps : List (List ℕ)) → length (concat ps) ≤ n → first_bytes n ps ≡ ps
first_all n [] h = refl
first_all n (p ∷ ps) h =
    let long = length-append p (concat ps) in
    let whole : take n p ≡ p = take_all n p (omega arith) in
    let rest : first_bytes (n - length p) ps ≡ ps = first_all (n - length p) ps (omega arith) in
    cc

pub later-later : (n m : ℕ) (ps : List (List ℕ)) → later_bytes n (later_bytes m ps) ≡ later_bytes (m + n) ps
later-later n m [] = refl
later-later n m (p ∷ ps) =
    let front : drop n (drop m p) ≡ drop (m + n) p = drop-drop n m p in
    let back = later-later (n - length (drop m p)) (m - length p) ps in
    let short = length-drop m p in
    let e : (m - length p) + (n - length (drop m p)) ≡ (m + n) - length p = omega arith in
    cc

-- the first n bytes after the first m
pub first-later : (n m : ℕ) (ps : List (List ℕ)) → first_bytes n (later_bytes m ps) ≡ later_bytes m (first_bytes (m + n) ps)
first-later n m [] = refl
first-later n m (p ∷ ps) =
    let front : drop m (take (m + n) p) ≡ take n (drop m p) = drop-take m n p in
    let back = first-later (n - length (drop m p)) (m - length p) ps in
    let short = length-drop m p in
    let cut = length-take (m + n) p in
    let e : (m - length p) + (n - length (drop m p)) ≡ (m + n) - length p = omega arith in
    let f : m - length (take (m + n) p) ≡ m - length p = omega arith in
    cc

pub later-append : (n : ℕ) (ps qs : List (List ℕ)) → n ≤ length (concat ps) → later_bytes n (ps ++ qs) ≡ later_bytes n ps ++ qs
later-append n [] qs h = let e : n ≡ 0 = omega arith in rw e (later_none qs)
later-append n (p ∷ ps) qs h =
    let long = length-append p (concat ps) in
    ap (λ rest. drop n p ∷ rest) (later-append (n - length p) ps qs (omega arith))

-- a filled piece at the end stays there
pub filled_push : (ps : List (List ℕ)) (p : List ℕ) → 0 < length p → filled_pieces (ps ++ p ∷ []) ≡ filled_pieces ps ++ p ∷ []
filled_push [] [] h = absurd (omega arith)
filled_push [] (b ∷ bs) h = refl
filled_push ([] ∷ ps) p h = filled_push ps p h
filled_push ((c ∷ cs) ∷ ps) p h = ap (λ rest. (c ∷ cs) ∷ rest) (filled_push ps p h)

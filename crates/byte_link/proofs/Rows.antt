use Rattle.std.proofs.Common.{◌≡◌, ℕ, zero, suc, min, ◌+◌, ◌-◌, ◌^◌, ◌<◌, ◌≤◌, Bool, true, false, nat_lt, List, [], ◌∷◌, ◌++◌, length, take, drop, sum, All, inl, inr, refl, sym, ap, ◌∙◌, length-append, length-drop, arith}
use Rattle.std.specs.List.{concat}
use Rattle.std.proofs.lemmas.Bool.{cases_Bool, cases_lt}
use Rattle.std.proofs.lemmas.Bool.Decides.{nat_tests}
use Rattle.std.proofs.lemmas.List.{drop-drop, drop-take, drop_all, take_all, length-take, take-append-drop, take-append-le, drop-append-le, nil_from_length}
use Rattle.std.proofs.lemmas.List.Elements.{All-push}
use Rattle.std.proofs.lemmas.List.Sums.{sum_by-cons, sum_by_push}
use Rattle.byte_link.specs.Channel.{filled_pieces, first_bytes, later_bytes, first_length}
use Rattle.byte_link.specs.Layout.{rows_of, pieces_of, lengths_after, IsLaid}
use Rattle.byte_link.proofs.Splits.{nothing_dropped, nothing_taken, take-take_comm, drop-take_less}
use Rattle.byte_link.proofs.PieceLemmas.{concat-filled, filled-cons, filled_push, later-filled, first-filled, later_none}

pub lt_from_test : (m n : ℕ) → nat_lt m n ≡ true → m < n
lt_from_test m n e = grind (arith, nat_tests)

pub ge_from_test : (m n : ℕ) → nat_lt m n ≡ false → n ≤ m
ge_from_test m n e = grind (arith, nat_tests)

pub sum-cons : (n : ℕ) (ns : List ℕ) → sum (n ∷ ns) ≡ n + sum ns
sum-cons n ns = sum_by-cons (λ x. x) n ns

pub positive-cons : (n : ℕ) (ns : List ℕ) → 0 < n → All (λ n. 0 < n) ns → All (λ n. 0 < n) (n ∷ ns)
positive-cons n ns h all zero d i = h
positive-cons n ns h all (suc k) d i = all k d (omega arith)

pub positive-rest : (n : ℕ) (ns : List ℕ) → All (λ n. 0 < n) (n ∷ ns) → All (λ n. 0 < n) ns
positive-rest n ns all k d i = all (suc k) d (omega arith)

-- rows of no bytes are empty
pub no_rows : (ns : List ℕ) → filled_pieces (rows_of ns []) ≡ []
no_rows [] = refl
no_rows (n ∷ ns) = rw (nothing_taken {X = ℕ} n, nothing_dropped {X = ℕ} n) (no_rows ns)

pub no_first_rows : (m : ℕ) (ns : List ℕ) → filled_pieces (first_bytes m (rows_of ns [])) ≡ []
no_first_rows m [] = refl
no_first_rows m (n ∷ ns) =
    let e : m - 0 ≡ m = omega arith in
    rw (nothing_taken {X = ℕ} n, nothing_dropped {X = ℕ} n, nothing_taken {X = ℕ} m, e) (no_first_rows m ns)

pub concat-rows : (ns bs : List ℕ) → length bs ≤ sum ns → concat (rows_of ns bs) ≡ bs
concat-rows [] bs h = sym (nil_from_length bs (omega arith))
concat-rows (n ∷ ns) bs h =
    let total = sum-cons n ns in
    let short = length-drop n bs in
    ap (λ rest. take n bs ++ rest) (concat-rows ns (drop n bs) (omega arith)) ∙ take-append-drop n bs

-- what a link shows of its bytes is all of them
pub concat-pieces : (ns bs : List ℕ) → length bs ≤ sum ns → concat (pieces_of ns bs) ≡ bs
concat-pieces ns bs h = concat-filled (rows_of ns bs) ∙ concat-rows ns bs h

pub rows_push : (ns bs new : List ℕ) → sum ns ≡ length bs → rows_of (ns ++ length new ∷ []) (bs ++ new) ≡ rows_of ns bs ++ new ∷ []
rows_push [] bs new h =
    let none : bs ≡ [] = nil_from_length bs (omega arith) in
    rw none (ap (λ row. row ∷ []) (take_all (length new) new (omega arith)))
rows_push (n ∷ ns) bs new h =
    let total = sum-cons n ns in
    let short = length-drop n bs in
    let in_range : n ≤ length bs = omega arith in
    let front : take n (bs ++ new) ≡ take n bs = take-append-le n bs new in_range in
    let back : drop n (bs ++ new) ≡ drop n bs ++ new = drop-append-le n bs new in_range in
    let rest = rows_push ns (drop n bs) new (omega arith) in
    cc

-- a record that is sent is one more piece
pub pieces_push : (ns bs new : List ℕ) → sum ns ≡ length bs → 0 < length new → pieces_of (ns ++ length new ∷ []) (bs ++ new) ≡ pieces_of ns bs ++ new ∷ []
pieces_push ns bs new h k = ap filled_pieces (rows_push ns bs new h) ∙ filled_push (rows_of ns bs) new k

-- a take that ends within the first row
pub rows_within : (k m : ℕ) (ns bs : List ℕ) → k ≤ length bs → filled_pieces (rows_of (m ∷ ns) (drop k bs)) ≡ filled_pieces (later_bytes k (rows_of ((k + m) ∷ ns) bs))
rows_within k m ns bs h =
    let front : drop k (take (k + m) bs) ≡ take m (drop k bs) = drop-take k m bs in
    let back : drop m (drop k bs) ≡ drop (k + m) bs = drop-drop m k bs in
    let long = length-take (k + m) bs in
    let e : k - length (take (k + m) bs) ≡ 0 = omega arith in
    let same : later_bytes 0 (rows_of ns (drop (k + m) bs)) ≡ rows_of ns (drop (k + m) bs) = later_none (rows_of ns (drop (k + m) bs)) in
    cc

-- a take leaves the rows of the bytes after it
pub rows_after : (k : ℕ) (ns bs : List ℕ) → k ≤ length bs → filled_pieces (rows_of (lengths_after k ns) (drop k bs)) ≡ filled_pieces (later_bytes k (rows_of ns bs))
rows_after k [] bs h = refl
rows_after k (n ∷ ns) bs h =
    elim (cases_Bool (nat_lt k n)) [
      | inl e ↦ (
          let less = lt_from_test k n e in
          let parts : k + (n - k) ≡ n = omega arith in
          let within = rows_within k (n - k) ns bs h in
          rw e (rw parts at within))
      | inr e ↦ (
          let above = ge_from_test k n e in
          let parts : n + (k - n) ≡ k = omega arith in
          let short = length-drop n bs in
          let row = length-take n bs in
          let long : length (take n bs) ≡ n = omega arith in
          let back : drop (k - n) (drop n bs) ≡ drop k bs = drop-drop (k - n) n bs ∙ ap (λ m. drop m bs) parts in
          let gone : drop k (take n bs) ≡ [] = drop_all k (take n bs) (omega arith) in
          let rest = rows_after (k - n) ns (drop n bs) (omega arith) in
          rw (e, gone, long, ← back) rest)
    ]

pub pieces_after : (k : ℕ) (ns bs : List ℕ) → k ≤ length bs → pieces_of (lengths_after k ns) (drop k bs) ≡ filled_pieces (later_bytes k (pieces_of ns bs))
pieces_after k ns bs h = rows_after k ns bs h ∙ sym (later-filled k (rows_of ns bs))

-- a cut leaves the rows of the bytes before it
pub rows_before : (m : ℕ) (ns bs : List ℕ) → filled_pieces (rows_of ns (take m bs)) ≡ filled_pieces (first_bytes m (rows_of ns bs))
rows_before m [] bs = refl
rows_before m (n ∷ ns) bs =
    let front : take n (take m bs) ≡ take m (take n bs) = take-take_comm n m bs in
    let back : drop n (take m bs) ≡ take (m - n) (drop n bs) = drop-take_less n m bs in
    rw (front, back) (filled-cons (take m (take n bs)) (rows_of ns (take (m - n) (drop n bs))) (first_bytes (m - length (take n bs)) (rows_of ns (drop n bs)))
    (elim (cases_lt (length bs) n) [
      | inl less ↦ (
          let none : drop n bs ≡ [] = drop_all n bs (omega arith) in
          rw (none, nothing_taken {X = ℕ} (m - n)) (no_rows ns ∙ sym (no_first_rows (m - length (take n bs)) ns)))
      | inr more ↦ (
          let row = length-take n bs in
          let long : length (take n bs) ≡ n = omega arith in
          rw long (rows_before (m - n) ns (drop n bs)))
    ]))

pub pieces_before : (m : ℕ) (ns bs : List ℕ) → pieces_of ns (take m bs) ≡ filled_pieces (first_bytes m (pieces_of ns bs))
pieces_before m ns bs = rows_before m ns bs ∙ sym (first-filled m (rows_of ns bs))

-- the first piece is the first row
pub first_row : (n : ℕ) (ns bs : List ℕ) → 0 < n → first_length (pieces_of (n ∷ ns) bs) ≡ min n (length bs)
first_row zero ns bs h = absurd (omega arith)
first_row (suc n) ns [] h = ap first_length (no_rows ns) ∙ omega arith
first_row (suc n) ns (b ∷ bs) h = let row = length-take n bs in omega arith

pub sum-lengths_after : (k : ℕ) (ns : List ℕ) → k ≤ sum ns → sum (lengths_after k ns) ≡ sum ns - k
sum-lengths_after k [] h = omega arith
sum-lengths_after k (n ∷ ns) h =
    let total = sum-cons n ns in
    elim (cases_Bool (nat_lt k n)) [
      | inl e ↦ (
          let less = lt_from_test k n e in
          let left = sum-cons (n - k) ns in
          rw e (omega arith))
      | inr e ↦ (
          let above = ge_from_test k n e in
          let rest = sum-lengths_after (k - n) ns (omega arith) in
          rw e (omega arith))
    ]

pub positive-lengths_after : (k : ℕ) (ns : List ℕ) → All (λ n. 0 < n) ns → All (λ n. 0 < n) (lengths_after k ns)
positive-lengths_after k [] h = h
positive-lengths_after k (n ∷ ns) h =
    elim (cases_Bool (nat_lt k n)) [
      | inl e ↦ (
          let less = lt_from_test k n e in
          rw e (positive-cons (n - k) ns (omega arith) (positive-rest n ns h)))
      | inr e ↦ rw e (positive-lengths_after (k - n) ns (positive-rest n ns h))
    ]

pub laid_sent : (ns bs new : List ℕ) (ended : Bool) → IsLaid ns bs ended → ended ≡ false → 0 < length new → length bs + length new < 2 ^ 32 → IsLaid (ns ++ length new ∷ []) (bs ++ new) ended
laid_sent ns bs new ended laid going h fits =
    let long = length-append bs new in
    let total = sum_by_push (λ x. x) ns (length new) in
    let exact = laid.exact going in
    record {
      small = omega arith;
      covered = omega arith;
      exact = λ _. omega arith;
      positive = All-push (λ n. 0 < n) ns (length new) laid.positive h;
    }

pub laid_taken : (k : ℕ) (ns bs : List ℕ) (ended : Bool) → k ≤ length bs → IsLaid ns bs ended → IsLaid (lengths_after k ns) (drop k bs) ended
laid_taken k ns bs ended h laid =
    let short = length-drop k bs in
    let covered = laid.covered in
    let small = laid.small in
    let total = sum-lengths_after k ns (omega arith) in
    record {
      small = omega arith;
      covered = omega arith;
      exact = λ e. (let exact = laid.exact e in omega arith);
      positive = positive-lengths_after k ns laid.positive;
    }

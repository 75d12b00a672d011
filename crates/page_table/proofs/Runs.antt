-- Runs of rows that are put one by one.
use Rattle.std.proofs.Common.{◌≡◌, ◌+◌, ◌<◌, ◌≤◌, ℕ, List, [], ◌∷◌, ◌++◌, length, map, take, get_or, None, refl, ap, ◌∙◌, arith}
use Rattle.std.proofs.lemmas.List.{length-map, length-take-le, map-append}
use Rattle.std.proofs.lemmas.Grind.{take_at_read}
use Rattle.xm_num.specs.Rows.{put, put_all, less_all, lowest_in, IsAscending}
use Rattle.xm_num.specs.RowLaws.{RowLaws}

module _ {A V : Type 0} (laws : RowLaws V) (f : A → V) where
  -- a run that was put, and then taken away again
  pub run_back : (rows : List (ℕ × V)) (first : ℕ) (xs : List A) → IsAscending rows → lowest_in rows first (first + length xs) ≡ None → less_all (put_all rows first (map f xs)) first (length xs) ≡ rows
  run_back rows first xs ascends free =
      let size : length (map f xs) ≡ length xs = length-map xs f in
      rw size at (laws.back rows first (map f xs) ascends (rw size free))

  -- the same of the first rows of a run
  pub front_back : (rows : List (ℕ × V)) (first i : ℕ) (xs : List A) → IsAscending rows → lowest_in rows first (first + length xs) ≡ None → i ≤ length xs
      → less_all (put_all rows first (map f (take i xs))) first i ≡ rows
  front_back rows first i xs ascends free within =
      let size : length (take i xs) ≡ i = length-take-le i xs within in
      let unmapped = (laws.no_lowest rows first (first + length xs)).0 free in
      let front : lowest_in rows first (first + i) ≡ None = (laws.no_lowest rows first (first + i)).1 (λ q low high. unmapped q low (omega arith)) in
      rw size at (run_back rows first (take i xs) ascends (rw size front))

  -- one row more
  pub front_more : (rows : List (ℕ × V)) (first i : ℕ) (xs : List A) (d : A) → i < length xs
      → put (put_all rows first (map f (take i xs))) (first + i) (f (get_or xs i d)) ≡ put_all rows first (map f (take (i + 1) xs))
  front_more rows first i xs d within =
      let size : length (map f (take i xs)) ≡ i = length-map (take i xs) f ∙ length-take-le i xs (omega arith) in
      let place : first + length (map f (take i xs)) ≡ first + i = ap (λ n. first + n) size in
      let next : map f (take (i + 1) xs) ≡ map f (take i xs) ++ f (get_or xs i d) ∷ [] = ap (map f) (take_at_read xs i d within).1 ∙ map-append f (take i xs) (get_or xs i d ∷ []) in
      rw (next, laws.push rows first (map f (take i xs)) (f (get_or xs i d)), place) refl

-- The bytes that wait in a channel, told 32 a line.
use Rattle.std.proofs.Common.{min, ◌≡◌, ◌+◌, ◌-◌, ◌^◌, ◌<◌, ◌≤◌, ℕ, zero, suc, List, [], ◌∷◌, length, take, drop, refl, sym, ap, ◌∙◌, arith, length-drop, Bool, true, false, leb}
use Rattle.std.proofs.lemmas.List.{drop_all, drop-drop, take_all, take_min}
use Rattle.std.proofs.lemmas.Bool.{leb-true, leb-false}
use Rattle.xm_num.specs.declared.Enclave.{Enclave}
use Rattle.xemem_language.specs.declared.line.Line.{Line}
use Rattle.xemem_language.specs.declared.line.Line.TheVariants as lines
use Rattle.enclave_rules.specs.Steps.{bytes_lines}

-- no bytes have no lines
pub no_bytes-lines : (x y : Enclave) (most at : ℕ) → bytes_lines x y most at [] ≡ []
no_bytes-lines x y zero at = refl
no_bytes-lines x y (suc most) at = refl

-- as many lines as bytes are enough
enough_lines : (x y : Enclave) (most more at : ℕ) (bytes : List ℕ) → length bytes ≤ most → length bytes ≤ more → bytes_lines x y most at bytes ≡ bytes_lines x y more at bytes
enough_lines x y most more at [] one two = no_bytes-lines x y most at ∙ sym (no_bytes-lines x y more at)
enough_lines x y zero more at (byte ∷ bytes) one two = absurd (omega arith)
enough_lines x y (suc most) zero at (byte ∷ bytes) one two = absurd (omega arith)
enough_lines x y (suc most) (suc more) at (byte ∷ bytes) one two =
    let size = length-drop 32 (byte ∷ bytes) in
    ap (λ ls. lines.Bytes x y at (take 32 (byte ∷ bytes)) ∷ ls) (enough_lines x y most more (at + 32) (drop 32 (byte ∷ bytes)) (omega (arith, size)) (omega (arith, size)))

-- the first line, and those of the other bytes
first_line : (x y : Enclave) (at : ℕ) (bytes : List ℕ) → 0 < length bytes → bytes_lines x y (length bytes) at bytes ≡ lines.Bytes x y at (take 32 bytes) ∷ bytes_lines x y (length (drop 32 bytes)) (at + 32) (drop 32 bytes)
first_line x y at [] some = absurd (omega arith)
first_line x y at (byte ∷ bytes) some =
    let size = length-drop 32 (byte ∷ bytes) in
    ap (λ ls. lines.Bytes x y at (take 32 (byte ∷ bytes)) ∷ ls) (enough_lines x y (length bytes) (length (drop 32 (byte ∷ bytes))) (at + 32) (drop 32 (byte ∷ bytes)) (omega (arith, size)) (omega arith))

-- the lines of the bytes from that one on
abbrev pub lines_from : Enclave → Enclave → ℕ → List ℕ → List Line
lines_from x y at bytes = bytes_lines x y (length (drop at bytes)) at (drop at bytes)

-- beyond the last byte there are none
pub lines_from-past : (x y : Enclave) (at : ℕ) (bytes : List ℕ) → length bytes ≤ at → lines_from x y at bytes ≡ []
lines_from-past x y at bytes past = let none = drop_all at bytes past in rw none refl

-- one line more; the place of a byte is below 2 ^ 32
pub lines_from-more : (x y : Enclave) (at next : ℕ) (bytes : List ℕ) → at < length bytes → length bytes ≤ 2 ^ 32 - 1 → next ≡ min (at + 32) (2 ^ 32 - 1)
    → lines_from x y at bytes ≡ lines.Bytes x y at (take 32 (drop at bytes)) ∷ lines_from x y next bytes
lines_from-more x y at next bytes within small is =
    let size = length-drop at bytes in
    let first = first_line x y at (drop at bytes) (omega (arith, size)) in
    let line = lines.Bytes x y at (take 32 (drop at bytes)) in
    first ∙ ap (λ bs. line ∷ bytes_lines x y (length bs) (at + 32) bs) (drop-drop 32 at bytes) ∙ ap (λ ls. line ∷ ls) (rest (leb (at + 32) (2 ^ 32 - 1)) refl)
  where
    rest : (b : Bool) → leb (at + 32) (2 ^ 32 - 1) ≡ b → lines_from x y (at + 32) bytes ≡ lines_from x y next bytes
    rest true le = let same : next ≡ at + 32 = omega (arith, leb-true _ _ le) in rw same refl
    rest false gt = let far = leb-false _ _ gt in lines_from-past x y (at + 32) bytes (omega arith) ∙ sym (lines_from-past x y next bytes (omega arith))

-- at most 32 bytes from that one on, as a loop over their places reads them
pub read_at : (bytes : List ℕ) (at stop : ℕ) → (at < length bytes → stop ≡ min (length bytes) (at + 32)) → take (stop - at) (drop at bytes) ≡ take 32 (drop at bytes)
read_at bytes at stop stops = by (leb (length bytes) at) refl
  where
    by : (b : Bool) → leb (length bytes) at ≡ b → take (stop - at) (drop at bytes) ≡ take 32 (drop at bytes)
    by true past = let none = drop_all at bytes (leb-true _ _ past) in rw none (take_all (stop - at) [] (omega arith))
    by false within =
        let size = length-drop at bytes in
        let stop_is = stops (leb-false _ _ within) in
        let count : stop - at ≡ min 32 (length (drop at bytes)) = omega (arith, size, leb-false _ _ within) in
        ap (λ n. take n (drop at bytes)) count ∙ take_min 32 (drop at bytes)

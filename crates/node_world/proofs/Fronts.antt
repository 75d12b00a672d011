-- What a decoder makes of the first bytes of records.
use Rattle.std.proofs.Common.{◌≡◌, ◌+◌, ◌-◌, ◌<◌, ◌≤◌, ℕ, zero, suc, List, [], ◌∷◌, ◌++◌, length, take, drop, Bool, true, false, None, cond, leb, refl, sym, ap, ◌∙◌, arith, append-nil, append_assoc, length-append}
use Rattle.std.specs.Option.{option_map}
use Rattle.std.proofs.lemmas.Bool.{leb-true, leb-false, le-leb, lt-leb}
use Rattle.std.proofs.Math.Seq.{take-append-add, drop-append-add}
use Rattle.std.proofs.lemmas.List.{take-append-le, take-append-drop, length-take-le}
use Rattle.std.proofs.lemmas.Grind.{flat_map-append}
use Rattle.xemem_language.specs.declared.record.Record.{Record}
use Rattle.xemem_wire.specs.Spelling.{spelling_of, spellings_of, is_valid, AreValid}
use Rattle.xemem_wire.specs.Faults.{fault_of, first_failed}
use Rattle.xemem_wire.specs.Stream.{reading_of, reading_within, record_onto, nothing_read, first_bad, moved}
use Rattle.global_model.specs.Channels.{size_of, whole_records}
use Rattle.node_world.specs.Laws.{WireLaws}

pub spellings-append : (rs ss : List Record) → spellings_of (rs ++ ss) ≡ spellings_of rs ++ spellings_of ss
spellings-append rs ss = flat_map-append spelling_of rs ss

pub spellings-length : (rs ss : List Record) → length (spellings_of (rs ++ ss)) ≡ length (spellings_of rs) + length (spellings_of ss)
spellings-length rs ss = ap length (spellings-append rs ss) ∙ length-append (spellings_of rs) (spellings_of ss)

-- what a decoder makes of the first m bytes of records: these are whole, and the bytes after them
pub record IsReadFront (rs : List Record) (m : ℕ) (ws : List Record) : Type 0 where
  pub more : List Record
  pub tail : List ℕ
  pub whole : rs ≡ ws ++ more
  pub front : take m (spellings_of rs) ≡ spellings_of ws ++ tail
  pub reading : reading_of (take m (spellings_of rs)) ≡ record { records = ws; rest = tail }
  pub fine : first_bad (take m (spellings_of rs)) ≡ None
  pub bytes : tail ++ drop m (spellings_of rs) ≡ spellings_of more
  pub taken : length (spellings_of ws) + length tail ≡ m

reading_nil : reading_of [] ≡ nothing_read []
unfolding reading_of reading_within
reading_nil = refl

fine_nil : first_bad [] ≡ None
unfolding first_bad reading_of reading_within fault_of first_failed
fine_nil = refl

-- one whole record more in front
front_whole : WireLaws → (r : Record) (rs ws : List Record) (m k : ℕ) → is_valid r ≡ true → m ≡ length (spelling_of r) + k → IsReadFront rs k ws → IsReadFront (r ∷ rs) m (r ∷ ws)
front_whole laws r rs ws m k valid is f =
    let front : take m (spellings_of (r ∷ rs)) ≡ spelling_of r ++ take k (spellings_of rs) = ap (λ n. take n (spellings_of (r ∷ rs))) is ∙ take-append-add (spelling_of r) (spellings_of rs) k in
    let back : drop m (spellings_of (r ∷ rs)) ≡ drop k (spellings_of rs) = ap (λ n. drop n (spellings_of (r ∷ rs))) is ∙ drop-append-add (spelling_of r) (spellings_of rs) k in
    let one : spellings_of (r ∷ []) ≡ spelling_of r = append-nil (spelling_of r) in
    let bad : first_bad (spelling_of r ++ take k (spellings_of rs)) ≡ option_map (moved (length (spellings_of (r ∷ [])))) (first_bad (take k (spellings_of rs))) = ap (λ xs. first_bad (xs ++ take k (spellings_of rs))) (sym one) ∙ laws.bad (r ∷ []) (take k (spellings_of rs)) (valid, tt) in
    record {
      more = f.more;
      tail = f.tail;
      whole = ap (λ xs. r ∷ xs) f.whole;
      front = front ∙ ap (λ xs. spelling_of r ++ xs) f.front ∙ sym (append_assoc (spelling_of r) (spellings_of ws) f.tail);
      reading = ap reading_of front ∙ laws.first r (take k (spellings_of rs)) valid ∙ ap (record_onto r) f.reading;
      fine = ap first_bad front ∙ bad ∙ ap (option_map (moved (length (spellings_of (r ∷ []))))) f.fine;
      bytes = ap (λ xs. f.tail ++ xs) back ∙ f.bytes;
      taken = omega (arith, length-append (spelling_of r) (spellings_of ws), f.taken);
    }

-- the first record is cut
front_cut : WireLaws → (r : Record) (rs : List Record) (m : ℕ) → is_valid r ≡ true → m < length (spelling_of r) → IsReadFront (r ∷ rs) m []
front_cut laws r rs m valid short =
    let front : take m (spellings_of (r ∷ rs)) ≡ take m (spelling_of r) = take-append-le m (spelling_of r) (spellings_of rs) (omega arith) in
    let len : length (take m (spelling_of r)) ≡ m = length-take-le m (spelling_of r) (omega arith) in
    record {
      more = r ∷ rs;
      tail = take m (spelling_of r);
      whole = refl;
      front = front;
      reading = ap reading_of front ∙ laws.reading [] r m tt valid short;
      fine = ap first_bad front ∙ laws.fine [] r m tt valid short;
      bytes = ap (λ xs. xs ++ drop m (spellings_of (r ∷ rs))) (sym front) ∙ take-append-drop m (spellings_of (r ∷ rs));
      taken = omega (arith, len);
    }

front_none : (m : ℕ) → m ≡ 0 → IsReadFront [] m []
front_none m none = rw none (record { more = []; tail = []; whole = refl; front = refl; reading = reading_nil; fine = fine_nil; bytes = refl; taken = refl })

pub front_of : WireLaws → (rs : List Record) (m : ℕ) → AreValid rs → m ≤ length (spellings_of rs) → IsReadFront rs m (whole_records m rs)
front_of laws [] m valid fits = front_none m (omega arith)
front_of laws (r ∷ rs) m valid fits = by (λ short. front_of laws rs (m - size_of r) valid.1 short) (leb (size_of r) m) refl
  where
    room : length (spelling_of r ++ spellings_of rs) ≡ length (spelling_of r) + length (spellings_of rs)
    room = length-append (spelling_of r) (spellings_of rs)

    by : ((m - size_of r ≤ length (spellings_of rs)) → IsReadFront rs (m - size_of r) (whole_records (m - size_of r) rs)) → (b : Bool) → leb (size_of r) m ≡ b → IsReadFront (r ∷ rs) m (cond b (r ∷ whole_records (m - size_of r) rs) [])
    by more true is = let le : size_of r ≤ m = leb-true _ _ is in front_whole laws r rs _ m (m - size_of r) valid.0 (omega arith) (more (omega (arith, room, fits)))
    by more false is = front_cut laws r rs m valid.0 (leb-false _ _ is)

-- ---- the whole records of so many bytes

-- behind records that are whole the others are as by the bytes after theirs
pub whole-after : (done coming : List Record) (m : ℕ) → whole_records (length (spellings_of done) + m) (done ++ coming) ≡ done ++ whole_records m coming
whole-after [] coming m = let all : 0 + m ≡ m = omega arith in ap (λ n. whole_records n coming) all
whole-after (r ∷ done) coming m =
    let size : length (spellings_of (r ∷ done)) ≡ size_of r + length (spellings_of done) = length-append (spelling_of r) (spellings_of done) in
    let fits : leb (size_of r) (length (spellings_of (r ∷ done)) + m) ≡ true = le-leb (size_of r) _ (omega (arith, size)) in
    let left : length (spellings_of (r ∷ done)) + m - size_of r ≡ length (spellings_of done) + m = omega (arith, size) in
    ap (λ b. cond b (r ∷ whole_records (length (spellings_of (r ∷ done)) + m - size_of r) (done ++ coming)) []) fits ∙ ap (λ n. r ∷ whole_records n (done ++ coming)) left ∙ ap (λ rs. r ∷ rs) (whole-after done coming m)

-- they are the first ones
pub whole-take : (n : ℕ) (rs : List Record) → take (length (whole_records n rs)) rs ≡ whole_records n rs
whole-take n [] = refl
whole-take n (r ∷ rs) = by (whole-take (n - size_of r) rs) (leb (size_of r) n)
  where
    by : take (length (whole_records (n - size_of r) rs)) rs ≡ whole_records (n - size_of r) rs → (b : Bool)
        → take (length (cond b (r ∷ whole_records (n - size_of r) rs) [])) (r ∷ rs) ≡ cond b (r ∷ whole_records (n - size_of r) rs) []
    by more true = ap (λ xs. r ∷ xs) more
    by more false = refl

pub whole-length : (n : ℕ) (rs : List Record) → length (whole_records n rs) ≤ length rs
whole-length n [] = omega arith
whole-length n (r ∷ rs) = by (whole-length (n - size_of r) rs) (leb (size_of r) n)
  where
    by : length (whole_records (n - size_of r) rs) ≤ length rs → (b : Bool) → length (cond b (r ∷ whole_records (n - size_of r) rs) []) ≤ length (r ∷ rs)
    by more true = omega (arith, more)
    by more false = omega arith

-- and have no more bytes than that
pub whole-bytes : (k n : ℕ) (rs : List Record) → k ≤ length (whole_records n rs) → length (spellings_of (take k rs)) ≤ n
whole-bytes zero n rs some = omega arith
whole-bytes (suc k) n [] some = absurd (omega (arith, some))
whole-bytes (suc k) n (r ∷ rs) some = by (whole-bytes k (n - size_of r) rs) (leb (size_of r) n) refl some
  where
    size : length (spellings_of (take (suc k) (r ∷ rs))) ≡ size_of r + length (spellings_of (take k rs))
    size = length-append (spelling_of r) (spellings_of (take k rs))

    by : (k ≤ length (whole_records (n - size_of r) rs) → length (spellings_of (take k rs)) ≤ n - size_of r) → (b : Bool) → leb (size_of r) n ≡ b
        → suc k ≤ length (cond b (r ∷ whole_records (n - size_of r) rs) []) → length (spellings_of (take (suc k) (r ∷ rs))) ≤ n
    by more true is some = let rest = more (omega (arith, some)) in let le : size_of r ≤ n = leb-true _ _ is in omega (arith, size, rest, le)
    by more false is some = absurd (omega (arith, some))

-- a record that is sent later is none of them
pub whole-more : WireLaws → (n : ℕ) (rs : List Record) (r : Record) → n ≤ length (spellings_of rs) → whole_records n (rs ++ r ∷ []) ≡ whole_records n rs
whole-more laws n [] r fits =
    let size = laws.least r in
    let long : leb (size_of r) n ≡ false = lt-leb (size_of r) n (omega (arith, fits, size)) in
    ap (λ b. cond b (r ∷ whole_records (n - size_of r) []) []) long
whole-more laws n (s ∷ rs) r fits = ap (λ ws. cond (leb (size_of s) n) (s ∷ ws) []) (whole-more laws (n - size_of s) rs r (omega (arith, fits, length-append (spelling_of s) (spellings_of rs))))

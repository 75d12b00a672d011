-- Whole records, and what a line does to a channel.
use Rattle.std.proofs.Common.{◌≡◌, ◌+◌, ◌-◌, ◌<◌, ◌≤◌, ℕ, zero, suc, List, [], ◌∷◌, ◌++◌, length, take, drop, Bool, true, false, cond, leb, refl, sym, ap, ◌∙◌, subst, arith, length-append, length-drop, length-take}
use Rattle.std.proofs.lemmas.Bool.{leb-true, le-leb}
use Rattle.std.proofs.lemmas.Grind.{flat_map-append}
use Rattle.xemem_language.specs.declared.record.Record.{Record}
use Rattle.xemem_wire.specs.Spelling.{spelling_of, header_of, spellings_of, is_valid, AreValid}
use Rattle.global_model.specs.Facts.{ChannelFact, Facts, lives_at, with_sent, with_taken, with_got}
use Rattle.global_model.specs.Channels.{size_of, whole_records, arriving, waiting_in, waiting_of}
use Rattle.global_model.specs.Flow.{IsFlow}

-- ---- sizes

abbrev pub bytes_of : List Record → ℕ
bytes_of rs = length (spellings_of rs)

filled : (r : Record) → 1 ≤ size_of r
unfolding spelling_of header_of
filled r = omega arith

pub bytes-cons : (r : Record) (rs : List Record) → bytes_of (r ∷ rs) ≡ size_of r + bytes_of rs
bytes-cons r rs = length-append (spelling_of r) (spellings_of rs)

bytes-more : (rs : List Record) (r : Record) → bytes_of rs ≤ bytes_of (rs ++ r ∷ [])
bytes-more rs r =
    let e : bytes_of (rs ++ r ∷ []) ≡ bytes_of rs + bytes_of (r ∷ [])
    = ap length (flat_map-append spelling_of rs (r ∷ [])) ∙ length-append (spellings_of rs) (spellings_of (r ∷ [])) in
    omega (arith, e)

-- ---- whole records

-- the two cases of a first record
first_whole : (P : List Record → Type 0) (n : ℕ) (r : Record) (rs : List Record)
    → (size_of r ≤ n → P (r ∷ whole_records (n - size_of r) rs)) → P [] → P (whole_records n (r ∷ rs))
first_whole P n r rs fits none = by (leb (size_of r) n) refl
  where
    by : (b : Bool) → leb (size_of r) n ≡ b → P (cond b (r ∷ whole_records (n - size_of r) rs) [])
    by true is = fits (leb-true (size_of r) n is)
    by false is = none

-- where the first record fits
whole-fits : (n : ℕ) (r : Record) (rs : List Record) → size_of r ≤ n → whole_records n (r ∷ rs) ≡ r ∷ whole_records (n - size_of r) rs
whole-fits n r rs fits = rw (le-leb (size_of r) n fits) refl

pub whole-length : (n : ℕ) (rs : List Record) → length (whole_records n rs) ≤ length rs
whole-length n [] = omega arith
whole-length n (r ∷ rs) = first_whole (λ ws. length ws ≤ length (r ∷ rs)) n r rs (λ fits. omega (arith, whole-length (n - size_of r) rs))
    (omega arith)

whole-grows : (n m : ℕ) (rs : List Record) → n ≤ m → length (whole_records n rs) ≤ length (whole_records m rs)
whole-grows n m [] le = omega arith
whole-grows n m (r ∷ rs) le =
    first_whole (λ ws. length ws ≤ length (whole_records m (r ∷ rs))) n r rs
    (λ fits. rw (whole-fits m r rs (omega arith)) (omega (arith, whole-grows (n - size_of r) (m - size_of r) rs (omega arith))))
    (omega arith)

-- so many records have all their bytes among the first n
pub front_bytes : (k n : ℕ) (rs : List Record) → k ≤ length (whole_records n rs) → bytes_of (take k rs) ≤ n
front_bytes zero n rs le = omega arith
front_bytes (suc k) n [] le = omega arith
front_bytes (suc k) n (r ∷ rs) le =
    first_whole (λ ws. suc k ≤ length ws → bytes_of (take (suc k) (r ∷ rs)) ≤ n) n r rs
    (λ fits more. omega (arith, bytes-cons r (take k rs), front_bytes k (n - size_of r) rs (omega arith)))
    (λ none. absurd (omega arith))
    le

-- a record that is sent later isn't among bytes that were sent before
pub whole-sent : (n : ℕ) (rs : List Record) (r : Record) → n ≤ bytes_of rs → whole_records n (rs ++ r ∷ []) ≡ whole_records n rs
whole-sent n [] r le = first_whole (λ ws. ws ≡ []) n r [] (λ fits. absurd (omega (arith, filled r))) refl
whole-sent n (s ∷ ss) r le = by (λ fits. whole-sent (n - size_of s) ss r (omega (arith, bytes-cons s ss, fits))) (leb (size_of s) n) refl
  where
    by : (size_of s ≤ n → whole_records (n - size_of s) (ss ++ r ∷ []) ≡ whole_records (n - size_of s) ss) → (b : Bool)
        → leb (size_of s) n ≡ b
        → cond b (s ∷ whole_records (n - size_of s) (ss ++ r ∷ [])) [] ≡ cond b (s ∷ whole_records (n - size_of s) ss) []
    by same true is = ap (λ ws. s ∷ ws) (same (leb-true (size_of s) n is))
    by same false is = refl

-- after so many whole records the others are whole by the bytes after theirs
pub whole-rest : (k n : ℕ) (rs : List Record) → k ≤ length (whole_records n rs)
    → drop k (whole_records n rs) ≡ whole_records (n - bytes_of (take k rs)) (drop k rs)
whole-rest zero n rs le = let all : n ≡ n - 0 = omega arith in ap (λ m. whole_records m rs) all
whole-rest (suc k) n [] le = refl
whole-rest (suc k) n (r ∷ rs) le =
    first_whole (λ ws. suc k ≤ length ws → drop (suc k) ws ≡ whole_records (n - bytes_of (take (suc k) (r ∷ rs))) (drop k rs)) n r rs
    (λ fits more.
    let bytes : n - size_of r - bytes_of (take k rs) ≡ n - bytes_of (r ∷ take k rs) = omega (arith, bytes-cons r (take k rs)) in
    whole-rest k (n - size_of r) rs (omega arith) ∙ ap (λ m. whole_records m (drop k rs)) bytes)
    (λ none. absurd (omega arith))
    le

-- ---- validity

valid-sent : (rs : List Record) (r : Record) → AreValid rs → is_valid r ≡ true → AreValid (rs ++ r ∷ [])
valid-sent [] r all valid = (valid, tt)
valid-sent (s ∷ ss) r all valid = (all.0, valid-sent ss r all.1 valid)

valid-whole : (n : ℕ) (rs : List Record) → AreValid rs → AreValid (whole_records n rs)
valid-whole n [] all = tt
valid-whole n (r ∷ rs) all = first_whole AreValid n r rs (λ fits. (all.0, valid-whole (n - size_of r) rs all.1)) tt

pub valid-drop : (k : ℕ) (rs : List Record) → AreValid rs → AreValid (drop k rs)
valid-drop zero rs all = all
valid-drop (suc k) [] all = tt
valid-drop (suc k) (r ∷ rs) all = valid-drop k rs all.1

pub valid_arriving : (c : ChannelFact) → IsFlow c → AreValid (arriving c)
valid_arriving c flow = valid-drop c.got (whole_records c.taken c.sent) (valid-whole c.taken c.sent flow.valid)

-- ---- what a line does to a channel

few_taken : (c : ChannelFact) → IsFlow c → c.taken ≤ bytes_of c.sent
few_taken c flow = omega (arith, flow.taken)

pub flow_sent : (r : Record) (c : ChannelFact) → is_valid r ≡ true → IsFlow c → IsFlow (with_sent r c)
flow_sent r c valid flow = record {
  valid = valid-sent c.sent r flow.valid valid;
  taken = omega (arith, flow.taken, bytes-more c.sent r);
  got = subst (λ ws. c.got ≤ length ws) (sym (whole-sent c.taken c.sent r (few_taken c flow))) flow.got;
}

pub arriving_sent : (r : Record) (c : ChannelFact) → IsFlow c → arriving (with_sent r c) ≡ arriving c
arriving_sent r c flow = ap (drop c.got) (whole-sent c.taken c.sent r (few_taken c flow))

-- how many bytes wait, where the receiver lives
pub waiting_size : (c : ChannelFact) → length (waiting_of c) ≡ bytes_of c.sent - c.cut - c.taken
waiting_size c =
    let bytes = spellings_of c.sent in
    let front = length-take (length bytes - c.cut) bytes in
    let rest = length-drop c.taken (take (length bytes - c.cut) bytes) in
    omega (arith, front, rest)

-- and no more wait elsewhere
pub waiting_few : (G : Facts) (x y : ℕ) → length (waiting_in G x y) ≤ length (waiting_of (G.channel x y))
waiting_few G x y = by (lives_at G y)
  where
    by : (b : Bool) → length (cond b (waiting_of (G.channel x y)) []) ≤ length (waiting_of (G.channel x y))
    by true = omega arith
    by false = omega arith

pub flow_taken : (n : ℕ) (c : ChannelFact) → n ≤ length (waiting_of c) → IsFlow c → IsFlow (with_taken n c)
flow_taken n c le flow =
    record {
      valid = flow.valid;
      taken = omega (arith, waiting_size c, le, flow.taken);
      got = omega (arith, flow.got, whole-grows c.taken (c.taken + n) c.sent (omega arith));
    }

-- where a record arrives, it is the next one and whole
pub record IsNextToGet (c : ChannelFact) (rs : List Record) : Type 0 where
  pub sent : c.got < length c.sent
  pub whole : length (spellings_of (take (c.got + 1) c.sent)) ≤ c.taken
  pub flow : IsFlow (with_got c)
  pub rest : arriving (with_got c) ≡ rs

drop-more : {A : Type 0} (n : ℕ) (x : A) (ws xs : List A) → drop n ws ≡ x ∷ xs → drop (n + 1) ws ≡ xs
drop-more zero x [] xs is = cc
drop-more zero x (w ∷ ws) xs is = cc
drop-more (suc n) x [] xs is = cc
drop-more (suc n) x (w ∷ ws) xs is = let e : suc n + 1 ≡ suc (n + 1) = omega arith in rw e (drop-more n x ws xs is)

pub next_arrives : (c : ChannelFact) (r : Record) (rs : List Record) → IsFlow c → arriving c ≡ r ∷ rs → IsNextToGet c rs
next_arrives c r rs flow is =
    let ws = whole_records c.taken c.sent in
    let some : length ws - c.got ≡ suc (length rs) = sym (length-drop c.got ws) ∙ ap length is in
    let within : c.got + 1 ≤ length ws = omega (arith, some) in
    record {
      sent = omega (arith, within, whole-length c.taken c.sent);
      whole = front_bytes (c.got + 1) c.taken c.sent within;
      flow = record { valid = flow.valid; taken = flow.taken; got = within };
      rest = drop-more c.got r ws rs is;
    }

-- Words and what they stand for.
use Rattle.std.proofs.Common.{◌≡◌, ◌<◌, ◌≤◌, ◌^◌, ℕ, ℤ, pos, negsuc, nat_abs, List, [], ◌∷◌, length, Bool, true, false, cond, Option, None, Some, option_map, codes, decimal, refl, sym, ap, ◌∙◌, arith, inl, inr, if◌then◌else◌}
use Rattle.std.proofs.lemmas.Bool.{cases_eq, ne_eqb}
use Rattle.std.proofs.lemmas.Int.{ints}
use Rattle.std.proofs.lemmas.Slice.Eq.{bytes_eq-Decides}
use Rattle.std.specs.Str.{bytes_eq}
use Rattle.hex.specs.Hex.{encode_lower, IsBytes}
use Rattle.xm_num.specs.declared.Access.{Access}
use Rattle.xm_num.specs.declared.Access.TheVariants as accesses
use Rattle.xm_num.specs.declared.Cause.{Cause}
use Rattle.xm_num.specs.declared.Cause.TheVariants as causes
use Rattle.xm_num.specs.declared.Enclave.{Enclave}
use Rattle.xm_num.specs.declared.Kind.{Kind}
use Rattle.xm_num.specs.declared.Kind.TheVariants as kinds
use Rattle.xemem_language.specs.Destinations.{destination_number}
use Rattle.xemem_language.specs.Ranges.{IsName, IsPlainOption, IsWithin}
use Rattle.xemem_language.specs.Spelling.{access_word, cause_word, kind_word, signed_word}
use Rattle.text_words.specs.Words.{number_in}
use Rattle.line_reader.specs.Laws.{Laws}
use Rattle.line_reader.specs.Slots.{Slot, Value, Read, made, named, next, next_word, next_number, next_named, bytes_of, word_destination, access_names, kind_names, mark_names, cause_names, enclave, destination, pid, call, segid, apid, page, frame, block, word32, word64, access, cause, kind, mark, hex, text, keyword}
use Rattle.line_reader.proofs.BytesLemmas.{bytes_of-spells, bytes_of-back}

-- ---- how a value is spelled, and which values are

abbrev pub mark_word : Bool → List ℕ
mark_word ns = if ns then codes "ns" else codes "-"

abbrev pub spell : (slot : Slot) → Value slot → List ℕ
spell enclave e = decimal e.0
spell destination d = decimal (destination_number d)
spell pid p = decimal p.0
spell call k = decimal k.0
spell segid s = signed_word s.0
spell apid a = signed_word a.0
spell page v = decimal v.0
spell frame f = decimal f.0
spell block b = decimal b.0
spell word32 n = decimal n
spell word64 n = decimal n
spell access a = access_word a
spell cause c = cause_word c
spell kind k = kind_word k
spell mark ns = mark_word ns
spell hex bytes = encode_lower bytes
spell text t = t
spell (keyword name) u = name

abbrev pub IsMeant : (slot : Slot) → Value slot → Type 0
IsMeant enclave e = e.0 ≤ 65535
IsMeant destination d = IsPlainOption d
IsMeant pid p = p.0 ≤ 4294967295
IsMeant call k = k.0 ≤ 4294967295
IsMeant segid s = IsName s.0
IsMeant apid a = IsName a.0
IsMeant page v = v.0 ≤ 4294967295
IsMeant frame f = f.0 ≤ 4294967295
IsMeant block b = b.0 ≤ 65535
IsMeant word32 n = n ≤ 4294967295
IsMeant word64 n = n ≤ 18446744073709551615
IsMeant hex bytes = IsWithin 1 32 (length bytes) × IsBytes bytes
IsMeant slot value = Unit {0}

-- ---- numbers

next_number-back : (laws : Laws) (high n : ℕ) (words : List (List ℕ)) → n ≤ high → high < 2 ^ 64 → next_number high (decimal n ∷ words) ≡ Some (n, words)
unfolding next_number next_word
next_number-back laws high n words h fits = rw (laws.numbers.back 0 high n (omega arith) h (omega arith)) refl

-- what was made was made of something that was read
pub record Made {A B : Type 0} (f : A → Option B) (r : Read A) (b : B) (rest : List (List ℕ)) : Type 0 where
  pub found : A
  pub was : r ≡ Some (found, rest)
  pub gave : f found ≡ Some b

pub made-some : {A B : Type 0} (f : A → Option B) (r : Read A) (b : B) (rest : List (List ℕ)) → made f r ≡ Some (b, rest) → Made f r b rest
made-some f None b rest h = cc
made-some {A} {B} f (Some (a, words)) b rest h = by (f a) refl h
  where
    by : (o : Option B) → f a ≡ o → option_map {U = B × List (List ℕ)} (λ x. (x, words)) o ≡ Some (b, rest) → Made f (Some (a, words)) b rest
    by None is e = cc
    by (Some x) is e =
        let pair : ◌≡◌ {A = B × List (List ℕ)} (x, words) (b, rest) = cc in
        let same : x ≡ b = ap (λ p. p.0) pair in
        let left : words ≡ rest = ap (λ p. p.1) pair in
        record { found = a; was = ap (λ ws. Some (a, ws)) left; gave = is ∙ ap Some same }

pub next_word-some : (words : List (List ℕ)) (word : List ℕ) (rest : List (List ℕ)) → next_word words ≡ Some (word, rest) → words ≡ word ∷ rest
unfolding next_word
next_word-some [] word rest h = cc
next_word-some (w ∷ words) word rest h =
    let same : ◌≡◌ {A = List ℕ × List (List ℕ)} (w, words) (word, rest) = cc in
    ap (λ pair. pair.0 ∷ pair.1) same

-- a first word that is the number's
record Numbered (high n : ℕ) (words rest : List (List ℕ)) : Type 0 where
  is : words ≡ decimal n ∷ rest
  most : n ≤ high

next_number-some : (laws : Laws) (high n : ℕ) (words rest : List (List ℕ)) → high < 2 ^ 64 → next_number high words ≡ Some (n, rest) → Numbered high n words rest
unfolding next_number
next_number-some laws high n words rest fits h =
    let m = made-some (number_in 0 high) (next_word words) n rest h in
    let s = laws.numbers.spelled 0 high m.found n fits m.gave in
    record { is = next_word-some words m.found rest m.was ∙ ap (λ w. w ∷ rest) s.is; most = s.most }

-- ---- names

abbrev Each : {A : Type 0} → (A → List ℕ) → List (List ℕ × A) → Type 0
Each spelled [] = Unit {0}
Each spelled ((name, a) ∷ names) = (name ≡ spelled a) × Each spelled names

named-some : {A : Type 0} (spelled : A → List ℕ) (names : List (List ℕ × A)) (word : List ℕ) (a : A) → Each spelled names → named names word ≡ Some a → word ≡ spelled a
unfolding named
named-some spelled [] word a each h = cc
named-some {A} spelled ((name, x) ∷ names) word a each h = by (named-some spelled names word a each.1) (bytes_eq word name) refl h
  where
    by : (named names word ≡ Some a → word ≡ spelled a) → (same : Bool) → bytes_eq word name ≡ same → cond same (Some x) (named names word) ≡ Some a → word ≡ spelled a
    by behind true is e = let here : x ≡ a = cc in (bytes_eq-Decides word name).0 is ∙ each.0 ∙ ap spelled here
    by behind false is e = behind e

next_named-some : {A : Type 0} (spelled : A → List ℕ) (names : List (List ℕ × A)) (words : List (List ℕ)) (a : A) (rest : List (List ℕ)) → Each spelled names → next_named names words ≡ Some (a, rest) → words ≡ spelled a ∷ rest
unfolding next_named
next_named-some spelled names words a rest each h =
    let m = made-some (named names) (next_word words) a rest h in
    next_word-some words m.found rest m.was ∙ ap (λ w. w ∷ rest) (named-some spelled names m.found a each m.gave)

access-back : (a : Access) → named access_names (access_word a) ≡ Some a
unfolding named
access-back accesses.ReadOnly = refl
access-back accesses.ReadWrite = refl

kind-back : (k : Kind) → named kind_names (kind_word k) ≡ Some k
unfolding named
kind-back kinds.Host = refl
kind-back kinds.Cokernel = refl
kind-back kinds.Vm = refl

mark-back : (ns : Bool) → named mark_names (mark_word ns) ≡ Some ns
unfolding named
mark-back true = refl
mark-back false = refl

cause-back : (c : Cause) → named cause_names (cause_word c) ≡ Some c
unfolding named
cause-back causes.NotReady = refl
cause-back causes.NoProcess = refl
cause-back causes.Busy = refl
cause-back causes.BadAlign = refl
cause-back causes.BadRange = refl
cause-back causes.NoSegment = refl
cause-back causes.Denied = refl
cause-back causes.NoPermit = refl
cause-back causes.Taken = refl
cause-back causes.OwnerDied = refl
cause-back causes.NoFrames = refl
cause-back causes.NoBlocks = refl
cause-back causes.TooLarge = refl
cause-back causes.NotOwner = refl
cause-back causes.NotMapped = refl
cause-back causes.NoEnclave = refl
cause-back causes.BadParent = refl
cause-back causes.NameServerHeld = refl
cause-back causes.NameServerTaken = refl
cause-back causes.TooMany = refl
cause-back causes.NoLink = refl

each_cause : Each cause_word cause_names
each_cause = (refl, (refl, (refl, (refl, (refl, (refl, (refl, (refl, (refl, (refl, (refl, (refl, (refl, (refl, (refl, (refl, (refl, (refl, (refl, (refl, (refl, tt)))))))))))))))))))))

-- ---- what is spelled is read again

destination-back : (d : Option Enclave) → IsPlainOption d → word_destination (destination_number d) ≡ d
destination-back None h = refl
destination-back (Some e) h = rw (ne_eqb e.0 65535 (λ is. omega arith)) refl

destination-most : (d : Option Enclave) → IsPlainOption d → destination_number d ≤ 65535
destination-most None h = omega arith
destination-most (Some e) h = omega arith

name_is : (z : ℤ) → IsName z → pos (nat_abs z) ≡ z
name_is (pos n) h = refl
name_is (negsuc n) h = absurd (omega (arith, ints, h.0))

name_most : (z : ℤ) → IsName z → nat_abs z ≤ 9223372036854775807
name_most (pos n) h = omega (arith, ints, h.1)
name_most (negsuc n) h = absurd (omega (arith, ints, h.0))

pub next-back : (laws : Laws) (slot : Slot) (value : Value slot) (words : List (List ℕ)) → IsMeant slot value → next slot (spell slot value ∷ words) ≡ Some (value, words)
unfolding next next_named next_word
next-back laws enclave e words h = rw (next_number-back laws 65535 e.0 words h (omega arith)) refl
next-back laws destination d words h = rw (next_number-back laws 65535 (destination_number d) words (destination-most d h) (omega arith), destination-back d h) refl
next-back laws pid p words h = rw (next_number-back laws 4294967295 p.0 words h (omega arith)) refl
next-back laws call k words h = rw (next_number-back laws 4294967295 k.0 words h (omega arith)) refl
next-back laws segid s words h = rw (next_number-back laws 9223372036854775807 (nat_abs s.0) words (name_most s.0 h) (omega arith), name_is s.0 h) refl
next-back laws apid a words h = rw (next_number-back laws 9223372036854775807 (nat_abs a.0) words (name_most a.0 h) (omega arith), name_is a.0 h) refl
next-back laws page v words h = rw (next_number-back laws 4294967295 v.0 words h (omega arith)) refl
next-back laws frame f words h = rw (next_number-back laws 4294967295 f.0 words h (omega arith)) refl
next-back laws block b words h = rw (next_number-back laws 65535 b.0 words h (omega arith)) refl
next-back laws word32 n words h = next_number-back laws 4294967295 n words h (omega arith)
next-back laws word64 n words h = next_number-back laws 18446744073709551615 n words h (omega arith)
next-back laws access a words h = rw (access-back a) refl
next-back laws cause c words h = rw (cause-back c) refl
next-back laws kind k words h = rw (kind-back k) refl
next-back laws mark ns words h = rw (mark-back ns) refl
next-back laws hex bytes words h = rw (bytes_of-back bytes h.0 h.1) refl
next-back laws text t words h = refl
next-back laws (keyword name) u words h = rw ((bytes_eq-Decides name name).1 refl) refl

-- ---- what is read was spelled

pub record Spelt (slot : Slot) (value : Value slot) (words rest : List (List ℕ)) : Type 0 where
  pub is : words ≡ spell slot value ∷ rest
  pub meant : IsMeant slot value

-- a value that is made of a number by a constructor
numbered : (laws : Laws) {B : Type 0} (high : ℕ) (f : ℕ → B) (words rest : List (List ℕ)) (b : B) (spelled : B → List ℕ) (most : B → Type 0) → high < 2 ^ 64 → ((n : ℕ) → n ≤ high → (spelled (f n) ≡ decimal n) × most (f n))
    → made (λ n. Some (f n)) (next_number high words) ≡ Some (b, rest) → (words ≡ spelled b ∷ rest) × most b
numbered laws high f words rest b spelled most fits each h =
    let m = made-some (λ n. Some (f n)) (next_number high words) b rest h in
    let s = next_number-some laws high m.found words rest fits m.was in
    let is : f m.found ≡ b = cc (m.gave) in
    let e = each m.found s.most in
    rw (← is) (s.is ∙ ap (λ w. w ∷ rest) (sym e.0), e.1)

destination-spelled : (n : ℕ) → n ≤ 65535 → (decimal (destination_number (word_destination n)) ≡ decimal n) × IsPlainOption (word_destination n)
destination-spelled n h = elim (cases_eq n 65535) [
  | inl none ↦ rw none (refl, tt)
  | inr some ↦ rw (ne_eqb n 65535 some) (refl, omega arith)
]

keyword-some : {A : Type 0} (u v : A) (name word : List ℕ) (same : Bool) → bytes_eq word name ≡ same → (if same then Some u else None) ≡ Some v → word ≡ name
keyword-some u v name word true is e = (bytes_eq-Decides word name).0 is
keyword-some u v name word false is e = cc

pub next-some : (laws : Laws) (slot : Slot) (value : Value slot) (words rest : List (List ℕ)) → next slot words ≡ Some (value, rest) → Spelt slot value words rest
unfolding next
next-some laws enclave e words rest h = let s = numbered laws 65535 (λ n. record { 0 = n }) words rest e (spell enclave) (IsMeant enclave) (omega arith) (λ n le. (refl, le)) h in record { is = s.0; meant = s.1 }
next-some laws destination d words rest h = let s = numbered laws 65535 word_destination words rest d (spell destination) (IsMeant destination) (omega arith) destination-spelled h in record { is = s.0; meant = s.1 }
next-some laws pid p words rest h = let s = numbered laws 4294967295 (λ n. record { 0 = n }) words rest p (spell pid) (IsMeant pid) (omega arith) (λ n le. (refl, le)) h in record { is = s.0; meant = s.1 }
next-some laws call k words rest h = let s = numbered laws 4294967295 (λ n. record { 0 = n }) words rest k (spell call) (IsMeant call) (omega arith) (λ n le. (refl, le)) h in record { is = s.0; meant = s.1 }
next-some laws segid x words rest h = let s = numbered laws 9223372036854775807 (λ n. record { 0 = pos n }) words rest x (spell segid) (IsMeant segid) (omega arith) (λ n le. (refl, (omega (arith, ints), omega (arith, ints)))) h in record { is = s.0; meant = s.1 }
next-some laws apid a words rest h = let s = numbered laws 9223372036854775807 (λ n. record { 0 = pos n }) words rest a (spell apid) (IsMeant apid) (omega arith) (λ n le. (refl, (omega (arith, ints), omega (arith, ints)))) h in record { is = s.0; meant = s.1 }
next-some laws page v words rest h = let s = numbered laws 4294967295 (λ n. record { 0 = n }) words rest v (spell page) (IsMeant page) (omega arith) (λ n le. (refl, le)) h in record { is = s.0; meant = s.1 }
next-some laws frame f words rest h = let s = numbered laws 4294967295 (λ n. record { 0 = n }) words rest f (spell frame) (IsMeant frame) (omega arith) (λ n le. (refl, le)) h in record { is = s.0; meant = s.1 }
next-some laws block b words rest h = let s = numbered laws 65535 (λ n. record { 0 = n }) words rest b (spell block) (IsMeant block) (omega arith) (λ n le. (refl, le)) h in record { is = s.0; meant = s.1 }
next-some laws word32 n words rest h = let s = next_number-some laws 4294967295 n words rest (omega arith) h in record { is = s.is; meant = s.most }
next-some laws word64 n words rest h = let s = next_number-some laws 18446744073709551615 n words rest (omega arith) h in record { is = s.is; meant = s.most }
next-some laws access a words rest h = record { is = next_named-some access_word access_names words a rest (refl, (refl, tt)) h; meant = tt }
next-some laws cause c words rest h = record { is = next_named-some cause_word cause_names words c rest each_cause h; meant = tt }
next-some laws kind k words rest h = record { is = next_named-some kind_word kind_names words k rest (refl, (refl, (refl, tt))) h; meant = tt }
next-some laws mark ns words rest h = record { is = next_named-some mark_word mark_names words ns rest (refl, (refl, tt)) h; meant = tt }
next-some laws hex bytes words rest h =
    let m = made-some bytes_of (next_word words) bytes rest h in
    let s = bytes_of-spells m.found bytes m.gave in
    record { is = next_word-some words m.found rest m.was ∙ ap (λ w. w ∷ rest) s.is; meant = (s.within, s.bytes) }
next-some laws text t words rest h = record { is = next_word-some words t rest h; meant = tt }
next-some laws (keyword name) u words rest h =
    let m = made-some {B = Unit {0}} (λ word. if bytes_eq word name then Some tt else None) (next_word words) u rest h in
    record { is = next_word-some words m.found rest m.was ∙ ap (λ w. w ∷ rest) (keyword-some {A = Unit {0}} tt u name m.found (bytes_eq m.found name) refl m.gave); meant = tt }

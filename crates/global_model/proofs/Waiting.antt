-- What waits: the rest of a record, the first channel in which something waits, and rest.
use Rattle.std.proofs.Common.{◌≡◌, ◌+◌, ◌-◌, ◌<◌, ◌≤◌, ℕ, zero, suc, List, [], ◌∷◌, length, Bool, true, false, cond, not, ◌&&◌, ◌||◌, eqb, leb, ltb, is_some, filter, flat_map, slice_get, Option, None, Some, inl, inr, refl, sym, ap, ◌∙◌, subst, arith}
use Rattle.std.specs.List.{AllByRecursion, range_with_len}
use Rattle.std.proofs.lemmas.Bool.{eqb-true, eqb-false, eq-eqb, and_parts, leb-true, leb-false, ltb-true, ltb-false, lt-ltb, or_cases, both_ways, false_from_ne_true}
use Rattle.xm_num.specs.declared.Enclave.{Enclave}
use Rattle.xemem_language.specs.declared.record.Record.{Record}
use Rattle.xemem_wire.specs.Spelling.{is_valid, spelling_of, AreValid}
use Rattle.global_model.specs.Facts.{Facts, EnclaveFact, fact_of, has_parent, lives_at, no_channel}
use Rattle.global_model.specs.Channels.{end_waits, is_child_of, is_neighbour, size_of, waiting_in, waiting_of}
use Rattle.global_model.specs.Flow.{IsTree, IsFlowing}
use Rattle.global_model.specs.Due.{rest_of_record, next_rest, channels_of, waits, first_waiting}
use Rattle.global_model.specs.Rest.{IsAtRest}
use Rattle.global_model.proofs.Flow.{bytes_of, bytes-cons, waiting_few, waiting_size}
use Rattle.global_model.proofs.Tree.{AllLive, child_near, child_under, is_child, no_end, parent_near, tree_lives}

-- ---- the rest of a record

-- where some bytes aren't taken, the rest of the next record has one or more, which are among them
pub record IsRest (n : ℕ) (rs : List Record) (rest : ℕ) : Type 0 where
  pub some : 1 ≤ rest
  pub within : n + rest ≤ bytes_of rs

pub rest_is : (n : ℕ) (rs : List Record) → n < bytes_of rs → IsRest n rs (rest_of_record n rs)
rest_is n [] more = absurd (omega (arith, more))
rest_is n (r ∷ rs) more = by (leb (size_of r) n) refl (λ some. rest_is (n - size_of r) rs some)
  where
    by : (b : Bool) → leb (size_of r) n ≡ b → (n - size_of r < bytes_of rs → IsRest (n - size_of r) rs (rest_of_record (n - size_of r) rs))
        → IsRest n (r ∷ rs) (cond b (rest_of_record (n - size_of r) rs) (size_of r - n))
    by true is later =
        let le : size_of r ≤ n = leb-true (size_of r) n is in
        let rest = later (omega (arith, le, more, bytes-cons r rs)) in
        record { some = rest.some; within = omega (arith, le, rest.within, bytes-cons r rs) }
    by false is later =
        let lt : n < size_of r = leb-false (size_of r) n is in
        record { some = omega (arith, lt); within = omega (arith, lt, bytes-cons r rs) }

-- no record is longer than the longest
abbrev pub RecordsAreShort : Type 0
RecordsAreShort = (r : Record) → is_valid r ≡ true → length (spelling_of r) ≤ 16404

pub rest_short : RecordsAreShort → (n : ℕ) (rs : List Record) → AreValid rs → rest_of_record n rs ≤ 16404
rest_short short n [] valid = omega arith
rest_short short n (r ∷ rs) valid = by (leb (size_of r) n) (rest_short short (n - size_of r) rs valid.1)
  where
    by : (b : Bool) → rest_of_record (n - size_of r) rs ≤ 16404 → cond b (rest_of_record (n - size_of r) rs) (size_of r - n) ≤ 16404
    by true later = later
    by false later = let most = short r valid.0 in omega (arith, most)

-- ---- the channels of the children

own_parent : (fact : Option EnclaveFact) → is_some fact ≡ true → has_parent (fact_of fact).parent.0 fact ≡ true
own_parent None is = cc
own_parent (Some fact) is = eq-eqb fact.parent.0 fact.parent.0 refl

parent_is : (p : ℕ) (fact : Option EnclaveFact) → has_parent p fact ≡ true → (fact_of fact).parent.0 ≡ p
parent_is p None is = cc
parent_is p (Some fact) is = eqb-true fact.parent.0 p is

-- an enclave that was born, but the host, is the child of its parent
pub born_child : (G : Facts) (c : ℕ) → IsTree G → 0 < c → c < G.born → is_child_of G c (fact_of (G.enclave c)).parent.0 ≡ true
born_child G c tree some lt = is_child G c (fact_of (G.enclave c)).parent.0 some
    (own_parent (G.enclave c) ((tree.enclaves c).known ∙ lt-ltb c G.born lt))

abbrev EachChannel : (Enclave × Enclave → Type 0) → List (Enclave × Enclave) → Type 0
EachChannel P channels = AllByRecursion P channels

-- each of them lies between neighbours
channels_near : (G : Facts) → IsTree G → (low n : ℕ) → 0 < low → ((k : ℕ) → k < n → low + k < G.born)
    → EachChannel (λ channel. is_neighbour G channel.0.0 channel.1.0 ≡ true) (flat_map (channels_of G) (range_with_len low n))
channels_near G tree low zero some within = tt
channels_near G tree low (suc n) some within =
    let here = within 0 (omega arith) in
    let child = born_child G low tree some (omega (arith, here)) in (
      child_near G low (fact_of (G.enclave low)).parent.0 child,
      (
        parent_near G low (fact_of (G.enclave low)).parent.0 child,
        channels_near G tree (low + 1) n (omega arith) (λ k lt. let next = within (suc k) (omega (arith, lt)) in omega (arith, next)),
      ),
    )

-- and each child that was born has its two
channel_each : (G : Facts) (P : Enclave × Enclave → Type 0) (low n c : ℕ) → low ≤ c → c < low + n
    → EachChannel P (flat_map (channels_of G) (range_with_len low n))
    → P (record { 0 = c }, (fact_of (G.enclave c)).parent) × P ((fact_of (G.enclave c)).parent, record { 0 = c })
channel_each G P low zero c le lt each = absurd (omega (arith, le, lt))
channel_each G P low (suc n) c le lt each = by (eqb low c) refl (λ above. channel_each G P (low + 1) n c above (omega (arith, lt)) each.1.1)
  where
    by : (b : Bool) → eqb low c ≡ b
        → (low + 1 ≤ c → P (record { 0 = c }, (fact_of (G.enclave c)).parent) × P ((fact_of (G.enclave c)).parent, record { 0 = c }))
        → P (record { 0 = c }, (fact_of (G.enclave c)).parent) × P ((fact_of (G.enclave c)).parent, record { 0 = c })
    by true is later =
        subst (λ k. P (record { 0 = k }, (fact_of (G.enclave k)).parent) × P ((fact_of (G.enclave k)).parent, record { 0 = k }))
        (eqb-true low c is) (each.0, each.1.0)
    by false is later = let apart : low ≡ c → ⊥ = eqb-false low c is in later (omega (arith, le, apart))

-- ---- the first channel in which something waits

-- the first element that passes
record IsFirst {X : Type 0} (P : X → Type 0) (test : X → Bool) (x : X) : Type 0 where
  has : P x
  passes : test x ≡ true

first_passes : {X : Type 0} (P : X → Type 0) (test : X → Bool) (xs : List X) (x : X) → AllByRecursion P xs
    → slice_get (filter test xs) 0 ≡ Some x → IsFirst P test x
first_passes P test [] x each is = cc
first_passes {X = X} P test (y ∷ ys) x each is = by (test y) refl (first_passes P test ys x each.1) is
  where
    by : (b : Bool) → test y ≡ b → (slice_get (filter test ys) 0 ≡ Some x → IsFirst P test x)
        → slice_get (cond b (y ∷ filter test ys) (filter test ys)) 0 ≡ Some x → IsFirst P test x
    by true passes later found = let same : y ≡ x = cc in record { has = subst P same each.0; passes = ap test (sym same) ∙ passes }
    by false passes later found = later found

none_passes : {X : Type 0} (test : X → Bool) (xs : List X) → slice_get (filter test xs) 0 ≡ None → AllByRecursion (λ x. test x ≡ false) xs
none_passes test [] is = tt
none_passes {X = X} test (y ∷ ys) is = by (test y) refl (none_passes test ys) is
  where
    by : (b : Bool) → test y ≡ b → (slice_get (filter test ys) 0 ≡ None → AllByRecursion (λ x. test x ≡ false) ys)
        → slice_get (cond b (y ∷ filter test ys) (filter test ys)) 0 ≡ None
        → AllByRecursion (λ x. test x ≡ false) (y ∷ ys)
    by true passes later found = cc
    by false passes later found = (passes, later found)

-- something waits between neighbours, of which the receiver lives
pub record IsWaiting (G : Facts) (x y : Enclave) : Type 0 where
  pub near : is_neighbour G x.0 y.0 ≡ true
  pub living : lives_at G y.0 ≡ true
  pub some : 0 < length (waiting_in G x.0 y.0)

-- where bytes wait, the receiver lives
waiting_living : (G : Facts) (x y : ℕ) → 0 < length (waiting_in G x y) → lives_at G y ≡ true
waiting_living G x y = by (lives_at G y)
  where
    by : (b : Bool) → 0 < length (cond b (waiting_of (G.channel x y)) []) → b ≡ true
    by true some = refl
    by false some = absurd (omega (arith, some))

-- as long as all live, bytes wait where something does
bytes_wait : (G : Facts) (x y : ℕ) → AllLive G → (ltb 0 (length (waiting_in G x y)) || end_waits G x y) ≡ true → 0 < length (waiting_in G x y)
bytes_wait G x y all is = elim (or_cases (ltb 0 (length (waiting_in G x y))) (end_waits G x y) is) [
  | inl bytes ↦ ltb-true 0 (length (waiting_in G x y)) bytes
  | inr end ↦ absurd (both_ways (end_waits G x y) (no_end G x y all) end)
]

pub first_waits : (G : Facts) (x y : Enclave) → IsTree G → first_waiting G ≡ Some (x, y) → IsWaiting G x y
first_waits G x y tree is =
    let channels = flat_map (channels_of G) (range_with_len 1 (G.born - 1)) in
    let each = channels_near G tree 1 (G.born - 1) (omega arith) (λ k lt. omega (arith, lt)) in
    let first : IsFirst (λ channel. is_neighbour G channel.0.0 channel.1.0 ≡ true) (waits G) (x, y)
    = first_passes (λ channel. is_neighbour G channel.0.0 channel.1.0 ≡ true) (waits G) channels (x, y) each is in
    let some = bytes_wait G x.0 y.0 (tree_lives G tree) first.passes in
    record { near = first.has; living = waiting_living G x.0 y.0 some; some = some }

-- what a delivery of a settle takes there
pub rest_waits : (G : Facts) (x y : Enclave) → 0 < length (waiting_in G x.0 y.0)
    → IsRest (G.channel x.0 y.0).taken (G.channel x.0 y.0).sent (next_rest G x y)
rest_waits G x y some =
    let channel = G.channel x.0 y.0 in
    let few = waiting_few G x.0 y.0 in
    let rest = rest_is channel.taken channel.sent (omega (arith, some, few, waiting_size channel)) in
    record { some = omega (arith, some, rest.some); within = omega (arith, rest.within) }

-- ---- rest

no_bytes : (bytes : List ℕ) → ltb 0 (length bytes) ≡ false → bytes ≡ []
no_bytes [] none = refl
no_bytes (byte ∷ bytes) none = let le : length (byte ∷ bytes) ≤ 0 = ltb-false 0 (length (byte ∷ bytes)) none in absurd (omega (arith, le))

-- nothing waits in the channel
record IsIdle (G : Facts) (x y : ℕ) : Type 0 where
  bytes : waiting_in G x y ≡ []
  end : end_waits G x y ≡ false

idle : (G : Facts) (x y : Enclave) → waits G (x, y) ≡ false → IsIdle G x.0 y.0
idle G x y is = by (ltb 0 (length (waiting_in G x.0 y.0))) refl is
  where
    by : (b : Bool) → ltb 0 (length (waiting_in G x.0 y.0)) ≡ b → (b || end_waits G x.0 y.0) ≡ false → IsIdle G x.0 y.0
    by true some none = cc
    by false some none = record { bytes = no_bytes (waiting_in G x.0 y.0) some; end = none }

-- nor in those of a child with its parent
child_idle : (G : Facts) (c p : ℕ) → IsTree G → first_waiting G ≡ None → is_child_of G c p ≡ true → IsIdle G c p × IsIdle G p c
child_idle G c p tree none is =
    let under = child_under G c p tree is in
    let parent = (fact_of (G.enclave c)).parent in
    let same : parent.0 ≡ p = parent_is p (G.enclave c) (and_parts (not (eqb c 0)) (has_parent p (G.enclave c)) is).1 in
    let each = none_passes (waits G) (flat_map (channels_of G) (range_with_len 1 (G.born - 1))) none in
    let both = channel_each G (λ channel. waits G channel ≡ false) 1 (G.born - 1) c (omega (arith, under.some))
    (omega (arith, under.below)) each in (
      subst (IsIdle G c) same (idle G (record { 0 = c }) parent both.0),
      subst (λ q. IsIdle G q c) same (idle G parent (record { 0 = c }) both.1),
    )

-- nor in one over which nothing was sent, and that isn't a child's
far_idle : (G : Facts) (x y : ℕ) → G.channel x y ≡ no_channel → is_child_of G x y ≡ false → IsIdle G x y
far_idle G x y silent far = record { bytes = by (lives_at G y); end = ap (λ b. lives_at G y && (b && (not (lives_at G x) && not (G.channel x y).end_taken))) far ∙ none (lives_at G y) }
  where
    by : (b : Bool) → cond b (waiting_of (G.channel x y)) [] ≡ []
    by true = ap waiting_of silent
    by false = refl

    none : (b : Bool) → (b && false) ≡ false
    none true = refl
    none false = refl

-- where nothing waits in the channels of the children, nothing waits at all
pub none_rests : (G : Facts) → IsFlowing G → first_waiting G ≡ None → IsAtRest G
none_rests G flowing none x y = let idle = by (is_neighbour G x y) refl in (idle.bytes, idle.end)
  where
    by : (b : Bool) → is_neighbour G x y ≡ b → IsIdle G x y
    by false far = far_idle G x y (flowing.apart x y far) (false_from_ne_true (is_child_of G x y) (λ is. both_ways (is_neighbour G x y) far (child_near G x y is)))
    by true near = elim (or_cases (is_child_of G x y) (is_child_of G y x) near) [
      | inl up ↦ (child_idle G x y flowing.tree none up).0
      | inr down ↦ (child_idle G y x flowing.tree none down).1
    ]

any_channels : (channels : List (Enclave × Enclave)) → EachChannel (λ channel. Unit {0}) channels
any_channels [] = tt
any_channels (channel ∷ channels) = (tt, any_channels channels)

pub first_passed : (G : Facts) (x y : Enclave) → first_waiting G ≡ Some (x, y) → waits G (x, y) ≡ true
first_passed G x y is =
    let channels = flat_map (channels_of G) (range_with_len 1 (G.born - 1)) in
    let first : IsFirst (λ channel. Unit {0}) (waits G) (x, y)
    = first_passes (λ channel. Unit {0}) (waits G) channels (x, y) (any_channels channels) is in
    first.passes

pub first_some : (G : Facts) (x y : Enclave) → AllLive G → first_waiting G ≡ Some (x, y) → 0 < length (waiting_in G x.0 y.0)
first_some G x y all is = bytes_wait G x.0 y.0 all (first_passed G x y is)

pub rests_none : (G : Facts) → IsAtRest G → first_waiting G ≡ None
rests_none G rest = by (first_waiting G) refl
  where
    quiet : (x y : Enclave) → waits G (x, y) ≡ true → ⊥
    quiet x y is =
        let none : waits G (x, y) ≡ false = rw ((rest x.0 y.0).0, (rest x.0 y.0).1) refl in
        both_ways (waits G (x, y)) none is

    by : (o : Option (Enclave × Enclave)) → first_waiting G ≡ o → o ≡ None
    by None is = refl
    by (Some channel) is = absurd (quiet channel.0 channel.1 (first_passed G channel.0 channel.1 is))

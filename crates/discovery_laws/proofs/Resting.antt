-- At rest nothing is under way; so where an enclave holds the name server all know the way to it.
use Rattle.std.proofs.Common.{◌≡◌, ◌+◌, ◌-◌, ◌<◌, ◌≤◌, ℕ, zero, suc, List, [], ◌∷◌, Bool, true, false, cond, not, eqb, leb, drop, take, length, is_some, Option, None, Some, refl, sym, ap, ◌∙◌, arith, length-append, length-drop}
use Rattle.std.proofs.lemmas.List.{length-take}
use Rattle.std.proofs.lemmas.Bool.{eqb-true, eqb-false, eq-eqb, ne_eqb, le-leb, lt-ltb, and_from, or_left}
use Rattle.xemem_language.specs.declared.record.Record.{Record}
use Rattle.xemem_wire.specs.Spelling.{spelling_of, spellings_of}
use Rattle.global_model.specs.Facts.{Facts, EnclaveFact, fact_of, has_parent, is_living_enclave, lives_at}
use Rattle.global_model.specs.Channels.{is_child_of, is_neighbour, size_of, waiting_of, whole_records}
use Rattle.global_model.specs.Flow.{IsFlowing, IsTree}
use Rattle.global_model.specs.Rest.{IsAtRest}
use Rattle.global_model.specs.Tree.{parent_of}
use Rattle.discovery_laws.specs.Known.{holds, in_flight, knows, way_at}
use Rattle.discovery_laws.proofs.Flights.{one_if, count}
use Rattle.discovery_laws.proofs.Asking.{is_query, is_here, remembers, queries_flying, heres_flying, place}
use Rattle.discovery_laws.proofs.Newborn.{near_born, near_turned}
use Rattle.discovery_laws.proofs.Answered.{holder_born, living_born}
use Rattle.discovery_laws.proofs.Asked.{IsAsked}

-- ---- nothing is under way

-- once all bytes are taken all records are whole
all_whole : (n : ℕ) (rs : List Record) → length (spellings_of rs) ≤ n → whole_records n rs ≡ rs
all_whole n [] le = refl
all_whole n (r ∷ rs) le =
    let both : length (spellings_of (r ∷ rs)) ≡ size_of r + length (spellings_of rs) = length-append (spelling_of r) (spellings_of rs) in
    let here : leb (size_of r) n ≡ true = le-leb (size_of r) n (omega (arith, both, le)) in
    rw here (ap (λ more. r ∷ more) (all_whole (n - size_of r) rs (omega (arith, both, le))))

-- nothing is cut off, and who is a neighbour's neighbour was born and lives
pub rest_flight : (G : Facts) → IsFlowing G → ((x y : ℕ) → (G.channel x y).cut ≡ 0) → IsAtRest G → (x y : ℕ) → in_flight G x y ≡ []
rest_flight G flowing uncut rest x y = by (is_neighbour G x y) refl
  where
    waits : lives_at G y ≡ true → waiting_of (G.channel x y) ≡ []
    waits living = ap (λ t. cond t (waiting_of (G.channel x y)) []) (sym living) ∙ (rest x y).0

    by : (t : Bool) → is_neighbour G x y ≡ t → in_flight G x y ≡ []
    by false far = ap (λ c. drop c.got c.sent) (flowing.apart x y far)
    by true near =
        let bytes = spellings_of (G.channel x y).sent in
        let living = flowing.tree.all_live y (near_born G y x flowing.tree (near_turned G x y near)) in
        let none : length (waiting_of (G.channel x y)) ≡ 0 = ap length (waits living) in
        let taken : length bytes ≤ (G.channel x y).taken
        = omega (
          arith,
          none,
          uncut x y,
          length-drop (G.channel x y).taken (take (length bytes - (G.channel x y).cut) bytes),
          length-take (length bytes - (G.channel x y).cut) bytes,
        ) in
        ap (drop (G.channel x y).got) (sym (all_whole (G.channel x y).taken (G.channel x y).sent taken)) ∙ flowing.arrived x y

-- ---- all know the way

-- who knows the way remembers nobody, so its neighbours know it too
neighbour_knows : (G : Facts) → IsFlowing G → IsAsked G → IsAtRest G → (a b : ℕ) → is_neighbour G a b ≡ true → knows G b ≡ true → knows G a ≡ true
neighbour_knows G flowing asked rest a b near knowing =
    let queries : queries_flying G a b ≡ 0 = ap (count is_query) (rest_flight G flowing asked.known.uncut rest a b) in
    let heres : heres_flying G b a ≡ 0 = ap (count is_here) (rest_flight G flowing asked.known.uncut rest b a) in
    let none : one_if (remembers G b a) ≡ 0 = ap (λ o. one_if (is_some o)) (asked.counted.still b (place (parent_of G b) a) knowing) in
    by (knows G a) (omega (arith, queries, heres, none, asked.counted.asked a b near))
  where
    by : (t : Bool) → 1 ≤ one_if t → t ≡ true
    by true some = refl
    by false some = absurd (omega (arith, some))

own_parent : (fact : Option EnclaveFact) → is_some fact ≡ true → has_parent (fact_of fact).parent.0 fact ≡ true
own_parent None is = absurd (cc)
own_parent (Some fact) is = eq-eqb fact.parent.0 fact.parent.0 refl

not_true : (b : Bool) → b ≡ false → not b ≡ true
not_true true is = absurd (cc)
not_true false is = refl

-- an enclave that was born, but the host, is its parent's child
parents_child : (G : Facts) (e : ℕ) → IsTree G → 0 < e → e < G.born → is_child_of G e (parent_of G e) ≡ true
parents_child G e tree some below = and_from (not (eqb e 0)) (has_parent (parent_of G e) (G.enclave e))
    (not_true (eqb e 0) (ne_eqb e 0 (λ same. omega (arith, same, some))))
    (own_parent (G.enclave e) ((tree.enclaves e).known ∙ lt-ltb e G.born below))

module _ (G : Facts) (flowing : IsFlowing G) (asked : IsAsked G) (rest : IsAtRest G) where
  -- the parent of an enclave that isn't the host
  parent_below : (e : ℕ) → eqb e 0 ≡ false → parent_of G e < e
  parent_below e other = let apart = eqb-false e 0 other in asked.rooted.lower e (omega (arith, apart))

  parents_near : (e : ℕ) → eqb e 0 ≡ false → e < G.born → is_neighbour G e (parent_of G e) ≡ true
  parents_near e other below =
      let apart = eqb-false e 0 other in
      or_left (is_child_of G e (parent_of G e)) (is_child_of G (parent_of G e) e) (parents_child G e flowing.tree (omega (arith, apart)) below)

  -- up to the host
  host_knows : (n e : ℕ) → e ≤ n → e < G.born → knows G e ≡ true → knows G 0 ≡ true
  host_knows zero e most below knowing = let same : e ≡ 0 = omega (arith, most) in ap (knows G) (sym same) ∙ knowing
  host_knows (suc n) e most below knowing = by (eqb e 0) refl (host_knows n)
    where
      by : (t : Bool) → eqb e 0 ≡ t → ((e : ℕ) → e ≤ n → e < G.born → knows G e ≡ true → knows G 0 ≡ true) → knows G 0 ≡ true
      by true is more = ap (knows G) (sym (eqb-true e 0 is)) ∙ knowing
      by false is more =
          let p = parent_of G e in
          let lower : p < e = parent_below e is in
          more p (omega (arith, most, lower)) (omega (arith, below, lower))
          (neighbour_knows G flowing asked rest p e (near_turned G e p (parents_near e is below)) knowing)

  -- and down from it
  all_know : knows G 0 ≡ true → (n e : ℕ) → e ≤ n → e < G.born → knows G e ≡ true
  all_know first zero e most below = let same : e ≡ 0 = omega (arith, most) in ap (knows G) same ∙ first
  all_know first (suc n) e most below = by (eqb e 0) refl (all_know first n)
    where
      by : (t : Bool) → eqb e 0 ≡ t → ((e : ℕ) → e ≤ n → e < G.born → knows G e ≡ true) → knows G e ≡ true
      by true is more = ap (knows G) (eqb-true e 0 is) ∙ first
      by false is more =
          let p = parent_of G e in
          let lower : p < e = parent_below e is in
          neighbour_knows G flowing asked rest e p (parents_near e is below) (more p (omega (arith, most, lower)) (omega (arith, below, lower)))

  -- where an enclave was born with the name server each living one knows the way to it
  pub knows_at_rest : G.server ≡ true → (e : ℕ) → is_living_enclave (G.enclave e) ≡ true → knows G e ≡ true
  knows_at_rest served e living =
      let held = asked.known.held served in
      let low : held.holder < G.born = holder_born G held.holder flowing.tree held.holds in
      let below : e < G.born = living_born G e flowing.tree living in
      let top : knows G 0 ≡ true = host_knows held.holder held.holder (omega arith) low (or_left (holds G held.holder) (is_some (way_at G held.holder)) held.holds) in
      all_know top e e (omega arith) below

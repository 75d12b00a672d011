-- The first channel in which something waits is the one of the least number.
use Rattle.std.proofs.Common.{◌≡◌, ◌+◌, ◌*◌, ◌<◌, ◌≤◌, ℕ, zero, suc, List, [], ◌∷◌, ◌++◌, length, Bool, true, false, not, None, Some, refl, sym, ap, ◌∙◌, subst, inl, inr, arith, length-append, length-drop}
use Rattle.std.specs.Prelude.{◌⊎◌, slice_get, slice_set, IsTrue, Result, Ok, Err, is_err, OnOk, OnErr}
use Rattle.std.specs.Ordering.{is_gt, nat_cmp}
use Rattle.std.proofs.lemmas.Bool.{eq-eqb, ne_eqb, eqb-true, cases_lt, false_from_ne_true}
use Rattle.std.proofs.lemmas.List.{get_or_past, length-set}
use Rattle.std.proofs.lemmas.Map.Keys.{le_from_not_gt}
use Rattle.byte_link.specs.Channel.{Channel, waiting_bytes, sent, taken}
use Rattle.xemem_language.specs.declared.record.Record.{Record}
use Rattle.xemem_wire.specs.Spelling.{spelling_of}
use Rattle.node_machine.specs.declared.pair.Pair.{Pair}
use Rattle.node_machine.specs.declared.pair.Hop.TheVariants as hops
use Rattle.node_machine.specs.Machine.{no_pair, pair_at, is_idle, waiting_hops_of, waiting_hops, first_hop}
use Rattle.node_machine.specs.Index.{has, IsIndex, IsNoted, SameBut, up_number, down_number}
use Rattle.node_machine.specs.Laws.{MachineLaws}
use Rattle.node_machine.proofs.Lists.{set_case, set_field}

pub busy_is : (link : Channel) → 0 < length (waiting_bytes link) → is_idle link ≡ false
busy_is link some = ne_eqb (length (waiting_bytes link)) 0 (λ none. omega (arith, none, some))

pub idle_is : (link : Channel) → length (waiting_bytes link) ≡ 0 → is_idle link ≡ true
idle_is link none = eq-eqb (length (waiting_bytes link)) 0 none

pub none_waits : (link : Channel) → is_idle link ≡ true → length (waiting_bytes link) ≡ 0
none_waits link idle = eqb-true (length (waiting_bytes link)) 0 idle

-- ---- the first hop

-- nothing waits in the channels of the first so many children
abbrev AreIdle : ℕ → List Pair → Type 0
AreIdle i pairs = (j : ℕ) → j < i → (is_idle (pair_at pairs j).up ≡ true) × (is_idle (pair_at pairs j).down ≡ true)

idle_later : (i : ℕ) (pair : Pair) (pairs : List Pair) → AreIdle (i + 1) (pair ∷ pairs) → AreIdle i pairs
idle_later i pair pairs idle j within = idle (suc j) (omega arith)

none_here : (o : ℕ) (pair : Pair) → is_idle pair.up ≡ true → is_idle pair.down ≡ true → waiting_hops_of o pair ≡ []
none_here o pair up down = rw (up, down) refl

none_found : (o : ℕ) (pairs : List Pair) → AreIdle (length pairs) pairs → waiting_hops o pairs ≡ []
none_found o [] idle = refl
none_found o (pair ∷ pairs) idle =
    let here = idle 0 (omega arith) in
    ap (λ hops. hops ++ waiting_hops (o + 1) pairs) (none_here o pair here.0 here.1) ∙ none_found (o + 1) pairs (λ j within. idle (suc j) (omega arith))

up_found : (o : ℕ) (pairs : List Pair) (i : ℕ) → AreIdle i pairs → is_idle (pair_at pairs i).up ≡ false → slice_get (waiting_hops o pairs) 0 ≡ Some (hops.Up (o + i))
up_found o [] i idle busy = let no : true ≡ false = busy in cc
up_found o (pair ∷ pairs) zero idle busy = let place : o ≡ o + 0 = omega arith in rw busy (ap (λ k. Some (hops.Up k)) place)
up_found o (pair ∷ pairs) (suc i) idle busy =
    let here = idle 0 (omega arith) in
    let place : o + 1 + i ≡ o + suc i = omega arith in
    ap (λ hops. slice_get (hops ++ waiting_hops (o + 1) pairs) 0) (none_here o pair here.0 here.1)
    ∙ up_found (o + 1) pairs i (λ j within. idle (suc j) (omega arith)) busy ∙ ap (λ k. Some (hops.Up k)) place

down_found : (o : ℕ) (pairs : List Pair) (i : ℕ) → AreIdle i pairs → is_idle (pair_at pairs i).up ≡ true → is_idle (pair_at pairs i).down ≡ false → slice_get (waiting_hops o pairs) 0 ≡ Some (hops.Down (o + i))
down_found o [] i idle up busy = let no : true ≡ false = busy in cc
down_found o (pair ∷ pairs) zero idle up busy = let place : o ≡ o + 0 = omega arith in rw (up, busy) (ap (λ k. Some (hops.Down k)) place)
down_found o (pair ∷ pairs) (suc i) idle up busy =
    let here = idle 0 (omega arith) in
    let place : o + 1 + i ≡ o + suc i = omega arith in
    ap (λ hops. slice_get (hops ++ waiting_hops (o + 1) pairs) 0) (none_here o pair here.0 here.1)
    ∙ down_found (o + 1) pairs i (λ j within. idle (suc j) (omega arith)) up busy ∙ ap (λ k. Some (hops.Down k)) place

-- ---- by the index

pub no_number : (keys : List ℕ) → (0 < length keys → false ≡ true) → keys ≡ []
no_number [] none = refl
no_number (k ∷ keys) none = let no = none (omega arith) in cc

pub not_false : (b : Bool) → false ≡ not b → b ≡ true
not_false true is = refl
not_false false is = cc

not_true : (b : Bool) → true ≡ not b → b ≡ false
not_true true is = cc
not_true false is = refl

inside : (pairs : List Pair) (i : ℕ) (link : Pair → Channel) → is_idle (link no_pair) ≡ true → is_idle (link (pair_at pairs i)) ≡ false → i < length pairs
inside pairs i link fresh busy = by (cases_lt i (length pairs))
  where
    by : (i < length pairs) ⊎ (length pairs ≤ i) → i < length pairs
    by (inl within) = within
    by (inr past) = let no : true ≡ false = sym fresh ∙ ap (λ pair. is_idle (link pair)) (sym (get_or_past pairs i no_pair past)) ∙ busy in cc

-- the index has no number below this one
abbrev IsLeast : List ℕ → ℕ → Type 0
IsLeast keys n = (q : ℕ) → IsTrue (has keys q) → is_gt (nat_cmp n q) ≡ false

below : (keys : List ℕ) (n q : ℕ) → IsLeast keys n → q < n → has keys q ≡ false
below keys n q least lower = false_from_ne_true (has keys q) (λ found. let no = le_from_not_gt n q (least q found) in omega (arith, no, lower))

module _ (keys : List ℕ) (pairs : List Pair) (index : IsIndex keys pairs) where
  pub nothing_first : keys ≡ [] → first_hop pairs ≡ None
  nothing_first none =
      let idle : AreIdle (length pairs) pairs = λ j within. (
        not_false _ (ap (λ ks. has ks (up_number j)) (sym none) ∙ index.up j),
        not_false _ (ap (λ ks. has ks (down_number j)) (sym none) ∙ index.down j),
      ) in
      ap (λ hops. slice_get hops 0) (none_found 0 pairs idle)

  module _ (n i : ℕ) (found : has keys n ≡ true) (least : IsLeast keys n) where
    idle_before : i * 2 ≤ n → AreIdle i pairs
    idle_before place j within = (
      not_false _ (sym (below keys n (up_number j) least (omega arith)) ∙ index.up j),
      not_false _ (sym (below keys n (down_number j) least (omega arith)) ∙ index.down j),
    )

    pub up_first : n ≡ up_number i → (Some (hops.Up i) ≡ first_hop pairs) × (i < length pairs)
    up_first is =
        let busy = not_true _ (sym found ∙ ap (has keys) is ∙ index.up i) in
        let place : 0 + i ≡ i = omega arith in
        (sym (up_found 0 pairs i (idle_before (omega (arith, is))) busy ∙ ap (λ k. Some (hops.Up k)) place), inside pairs i (λ pair. pair.up) refl busy)

    pub down_first : n ≡ down_number i → (Some (hops.Down i) ≡ first_hop pairs) × (i < length pairs)
    down_first is =
        let busy = not_true _ (sym found ∙ ap (has keys) is ∙ index.down i) in
        let up = not_false _ (sym (below keys n (up_number i) least (omega (arith, is))) ∙ index.up i) in
        let place : 0 + i ≡ i = omega arith in
        (sym (down_found 0 pairs i (idle_before (omega (arith, is))) up busy ∙ ap (λ k. Some (hops.Down k)) place), inside pairs i (λ pair. pair.down) refl busy)

-- ---- the index after a change

added_idle : (pairs : List Pair) (pair : Pair) (link : Pair → Channel) → is_idle (link no_pair) ≡ true → is_idle (link pair) ≡ true → (i : ℕ) → is_idle (link (pair_at pairs i)) ≡ is_idle (link (pair_at (pairs ++ pair ∷ []) i))
added_idle [] pair link none idle zero = none ∙ sym idle
added_idle [] pair link none idle (suc i) = refl
added_idle (p ∷ pairs) pair link none idle zero = refl
added_idle (p ∷ pairs) pair link none idle (suc i) = added_idle pairs pair link none idle i

-- a child more, in whose channels nothing waits
pub index_added : (keys : List ℕ) (pairs : List Pair) (pair : Pair) → IsIndex keys pairs → length pairs < 256 → is_idle pair.up ≡ true → is_idle pair.down ≡ true → IsIndex keys (pairs ++ pair ∷ [])
index_added keys pairs pair index few up down = record {
  few = let size = length-append pairs (pair ∷ []) in omega (arith, size, few);
  up = λ i. index.up i ∙ ap not (added_idle pairs pair (λ pair. pair.up) refl up i);
  down = λ i. index.down i ∙ ap not (added_idle pairs pair (λ pair. pair.down) refl down i);
}

module _ (keys more : List ℕ) (pairs : List Pair) (i : ℕ) (link : Channel) (index : IsIndex keys pairs) (within : i < length pairs) where
  -- the channel up from a child changes, and the one down to it
  pub index_up : SameBut (up_number i) keys more → IsNoted more (up_number i) link → IsIndex more (slice_set pairs i (record (pair_at pairs i) { up = link }))
  index_up same here =
      let pair = record (pair_at pairs i) { up = link } in
      record {
        few = let size = length-set pairs i pair in let few = index.few in omega (arith, size, few);
        up = λ j. set_case pairs i j pair no_pair (λ p. has more (up_number j) ≡ not (is_idle p.up)) within
            (λ is. ap (λ k. has more (up_number k)) is ∙ here) (λ apart. same (up_number j) (λ is. apart (omega (arith, is))) ∙ index.up j);
        down = λ j. same (down_number j) (λ is. omega (arith, is)) ∙ index.down j ∙ ap (λ link. not (is_idle link)) (sym (set_field (λ (p : Pair). p.down) pairs i j pair no_pair refl));
      }

  pub index_down : SameBut (down_number i) keys more → IsNoted more (down_number i) link → IsIndex more (slice_set pairs i (record (pair_at pairs i) { down = link }))
  index_down same here =
      let pair = record (pair_at pairs i) { down = link } in
      record {
        few = let size = length-set pairs i pair in let few = index.few in omega (arith, size, few);
        up = λ j. same (up_number j) (λ is. omega (arith, is)) ∙ index.up j ∙ ap (λ link. not (is_idle link)) (sym (set_field (λ (p : Pair). p.up) pairs i j pair no_pair refl));
        down = λ j. set_case pairs i j pair no_pair (λ p. has more (down_number j) ≡ not (is_idle p.down)) within
            (λ is. ap (λ k. has more (down_number k)) is ∙ here) (λ apart. same (down_number j) (λ is. apart (omega (arith, is))) ∙ index.down j);
      }

-- ---- one link

-- the number stays where something waited and still waits
pub noted_still : (keys : List ℕ) (n : ℕ) (old new : Channel) → IsNoted keys n old → 0 < length (waiting_bytes old) → 0 < length (waiting_bytes new) → IsNoted keys n new
noted_still keys n old new noted before after = noted ∙ ap not (busy_is old before ∙ sym (busy_is new after))

pub noted_none : (keys : List ℕ) (n : ℕ) (link : Channel) → has keys n ≡ false → length (waiting_bytes link) ≡ 0 → IsNoted keys n link
noted_none keys n link gone none = gone ∙ ap not (sym (idle_is link none))

pub noted_some : (keys : List ℕ) (n : ℕ) (link : Channel) → has keys n ≡ true → 0 < length (waiting_bytes link) → IsNoted keys n link
noted_some keys n link here some = here ∙ ap not (sym (busy_is link some))

-- what holds where no error came, and where one did
pub on_ok : {T E P : Type 0} (r : Result T E) → is_err r ≡ false → OnOk r P → P
on_ok (Ok value) fine holds = holds
on_ok (Err fault) fine holds = cc

pub on_err : {T E P : Type 0} (r : Result T E) → is_err r ≡ true → OnErr r P → P
on_err (Ok value) fails holds = cc
on_err (Err fault) fails holds = holds

-- a record is sent over the link, and its number is there
pub noted_sent : MachineLaws → (keys : List ℕ) (n : ℕ) (old new : Channel) (r : Record) → has keys n ≡ true → new ≡ sent old (spelling_of r) → IsNoted keys n new
noted_sent laws keys n old new r here is =
    let size = ap (λ link. length (waiting_bytes link)) is ∙ ap length (laws.send old (spelling_of r)) ∙ length-append (waiting_bytes old) (spelling_of r) in
    noted_some keys n new here (omega (arith, size, laws.least r))

-- the link stays, and its number too
pub noted_kept : (keys : List ℕ) (n : ℕ) (old new : Channel) → IsNoted keys n old → new ≡ old → IsNoted keys n new
noted_kept keys n old new noted is = subst (IsNoted keys n) (sym is) noted

-- bytes are taken out of the link, in which something still waits
pub noted_taken : MachineLaws → (keys : List ℕ) (n count : ℕ) (old new : Channel) → IsNoted keys n old → new ≡ taken old count → 0 < length (waiting_bytes new) → IsNoted keys n new
noted_taken laws keys n count old new noted is left =
    let size = ap (λ link. length (waiting_bytes link)) is ∙ ap length (laws.take old count) ∙ length-drop count (waiting_bytes old) in
    noted_still keys n old new noted (omega (arith, size, left)) left

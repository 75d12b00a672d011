-- No record is got twice: what an enclave keeps of those that it got tells that the next one is new.
use Rattle.std.proofs.Common.{◌≡◌, ◌+◌, ◌≤◌, ℕ, List, [], ◌∷◌, zero, suc, take, drop, Bool, true, false, leb, ◌&&◌, ◌||◌, eqb, Option, None, Some, refl, sym, ap, ◌∙◌, arith}
use Rattle.std.specs.Option.{option_map_or}
use Rattle.std.proofs.lemmas.Bool.{eqb-true, eq-eqb, and_parts, le-leb}
use Rattle.xm_num.specs.declared.Enclave.{Enclave}
use Rattle.xemem_language.specs.Destinations.{destination_number}
use Rattle.xemem_language.specs.declared.record.Record.{Record}
use Rattle.xemem_language.specs.declared.record.Body.{Body}
use Rattle.xemem_language.specs.declared.record.Body.TheVariants as bodies
use Rattle.xemem_language.specs.declared.line.Line.TheVariants as lines
use Rattle.xemem_wire.specs.Table.{kind_of, is_destination}
use Rattle.xemem_wire.specs.Spelling.{is_valid}
use Rattle.enclave_rules.specs.Steps.{record_lines}
use Rattle.global_model.specs.Facts.{Facts, after_line, after_lines}
use Rattle.global_model.specs.Pauses.{IsPause, MayHandle}
use Rattle.global_model.specs.Tree.{parent_of}
use Rattle.global_model.specs.Views.{view_of}
use Rattle.discovery_laws.specs.Known.{in_flight}
use Rattle.discovery_laws.specs.Laws.{DiscoveryLaws}
use Rattle.discovery_laws.specs.Once.{is_alike, is_of_discovery}
use Rattle.discovery_laws.proofs.Underway.{IsNextOf, bounded_got, drop-more, first_has, next_flight}
use Rattle.discovery_laws.proofs.Flights.{count, one_if}
use Rattle.discovery_laws.proofs.Asked.{IsAsked, asked_led}
use Rattle.discovery_laws.proofs.Asking.{is_here, is_here_body, is_query, is_query_body}
use Rattle.discovery_laws.proofs.Knowing.{IsOwn}
use Rattle.discovery_laws.proofs.Marks.{got_of, is_kind, kept_lines, mark, mark_kept, mark_of}
use Rattle.discovery_laws.proofs.Received.{inner_record}
use Rattle.discovery_laws.proofs.Registrations.{moves, pause_bounded}
use Rattle.discovery_laws.proofs.Stages.{IsRegistered, is_about, is_about_by}

-- ---- records that are alike

pub alike_kind : (r q : Record) → is_alike r q ≡ true → kind_of r.body ≡ kind_of q.body
alike_kind r q is =
    let kinds = eqb (kind_of r.body) (kind_of q.body) in
    let origins = eqb r.origin.0 q.origin.0 in
    let dests = eqb (destination_number r.dest) (destination_number q.dest) in
    let three = (and_parts (kinds && origins && dests) (eqb r.call q.call) is).0 in
    let two = and_parts (kinds && origins) dests three in
    eqb-true (kind_of r.body) (kind_of q.body) (and_parts kinds origins two.0).0

pub alike_mark : (G : Facts) (y : ℕ) (r q : Record) → is_alike r q ≡ true → mark G y r ≡ mark G y q
alike_mark G y r q is =
    let kinds = eqb (kind_of r.body) (kind_of q.body) in
    let origins = eqb r.origin.0 q.origin.0 in
    let dests = eqb (destination_number r.dest) (destination_number q.dest) in
    let three = (and_parts (kinds && origins && dests) (eqb r.call q.call) is).0 in
    let two = and_parts (kinds && origins) dests three in
    let one = and_parts kinds origins two.0 in
    ap (λ k. mark_of G y k r.origin.0 (destination_number r.dest)) (eqb-true (kind_of r.body) (kind_of q.body) one.0)
    ∙ ap (λ o. mark_of G y (kind_of q.body) o (destination_number r.dest)) (eqb-true r.origin.0 q.origin.0 one.1)
    ∙ ap (λ d. mark_of G y (kind_of q.body) q.origin.0 d) (eqb-true (destination_number r.dest) (destination_number q.dest) two.1)

-- ---- a valid record

record IsProperKind (r : Record) : Type 0 where
  dest : is_destination (kind_of r.body) r.dest ≡ true

proper_kind : (r : Record) → is_valid r ≡ true → IsProperKind r
unfolding is_valid
proper_kind r valid =
    let three = and_parts _ _ valid in
    let two = and_parts _ _ three.0 in
    record { dest = two.1 }

-- ---- queries and heres

-- counts by tests that agree are the same
count_same : (test other : Record → Bool) (rs : List Record) → ((r : Record) → test r ≡ other r) → count test rs ≡ count other rs
count_same test other [] same = refl
count_same test other (r ∷ rs) same = let first = ap one_if (same r) in let more = count_same test other rs same in omega (arith, first, more)

query_kind : (r : Record) → is_query r ≡ is_kind 1 r
query_kind r = by r.body
  where
    by : (body : Body) → is_query_body body ≡ eqb (kind_of body) 1
    by bodies.Query = refl
    by _ = refl

here_kind : (r : Record) → is_here r ≡ is_kind 2 r
here_kind r = by r.body
  where
    by : (body : Body) → is_here_body body ≡ eqb (kind_of body) 2
    by bodies.Here = refl
    by _ = refl

few_queries : (G : Facts) → IsAsked G → (a b : ℕ) → count (is_kind 1) (G.channel a b).sent ≤ 1
few_queries G asked a b =
    let same = count_same is_query (is_kind 1) (G.channel a b).sent query_kind in
    let few = asked.counted.asks a b in
    omega (arith, same, few)

few_heres : (G : Facts) → IsAsked G → (a b : ℕ) → count (is_kind 2) (G.channel a b).sent ≤ 1
few_heres G asked a b =
    let same = count_same is_here (is_kind 2) (G.channel a b).sent here_kind in
    let few = asked.counted.once a b in
    omega (arith, same, few)

count-split : (test : Record → Bool) (n : ℕ) (rs : List Record) → count test rs ≡ count test (take n rs) + count test (drop n rs)
count-split test zero rs = omega arith
count-split test (suc n) [] = omega arith
count-split test (suc n) (r ∷ rs) = let more = count-split test n rs in omega (arith, more)

-- the next record of a channel is of a kind of which at most one was sent: none was got before, and one now
record IsOneMore (G : Facts) (x y kind : ℕ) : Type 0 where
  none : leb 1 (count (is_kind kind) (got_of (G.channel x y))) ≡ false
  one : leb 1 (count (is_kind kind) (take ((G.channel x y).got + 1) (G.channel x y).sent)) ≡ true

one_more : (G : Facts) (x y kind : ℕ) (r : Record) (rs : List Record) → in_flight G x y ≡ r ∷ rs → is_kind kind r ≡ true
    → count (is_kind kind) (G.channel x y).sent ≤ 1 → IsOneMore G x y kind
one_more G x y kind r rs flight is few =
    let sent = (G.channel x y).sent in
    let got = (G.channel x y).got in
    let now = count-split (is_kind kind) got sent in
    let further = count-split (is_kind kind) (got + 1) sent in
    let left : count (is_kind kind) (drop got sent) ≡ 1 + count (is_kind kind) rs = ap (count (is_kind kind)) flight ∙ rw is refl in
    let behind : count (is_kind kind) (drop (got + 1) sent) ≡ count (is_kind kind) rs = ap (count (is_kind kind)) (drop-more got r sent rs flight) in
    let zero_got : count (is_kind kind) (take got sent) ≡ 0 = omega (arith, now, left, few) in
    record {
      none = rw zero_got refl;
      one = le-leb 1 (count (is_kind kind) (take (got + 1) sent)) (omega (arith, now, further, left, behind));
    }

-- ---- what is kept of the record at hand

-- of the record at hand nothing is kept before it is got, and then it is
pub record IsNew (G : Facts) (x y : Enclave) (r : Record) : Type 0 where
  pub before : mark G y.0 r ≡ false
  pub after : mark (after_lines G (lines.Got x y ∷ record_lines (view_of G y) x r)) y.0 r ≡ true

-- of another kind than a register or an admit
mark_other : (G : Facts) (y kind origin dest : ℕ) → eqb kind 3 ≡ false → eqb kind 4 ≡ false
    → mark_of G y kind origin dest ≡ leb 1 (count (is_kind kind) (got_of (G.channel origin y)))
mark_other G y kind origin dest three four = rw (three, four) refl

module _ (laws : DiscoveryLaws) (G : Facts) (x y : Enclave) (r : Record) (pause : IsPause G) (may : MayHandle G x y r) (asked : IsAsked G)
    (registered : (d : ℕ) → IsRegistered (parent_of G) G.born G d) where
  next : IsNextOf r (in_flight G x.0 y.0)
  next = next_flight G x.0 y.0 r may.others may.next

  -- a query or a here, of which at most one was sent
  marks_are : (kind : ℕ) → kind_of r.body ≡ kind → eqb kind 3 ≡ false → eqb kind 4 ≡ false → r.origin.0 ≡ x.0 → (K : Facts)
      → mark K y.0 r ≡ leb 1 (count (is_kind kind) (got_of (K.channel x.0 y.0)))
  marks_are kind is three four from K =
      ap (λ k. mark_of K y.0 k r.origin.0 (destination_number r.dest)) is
      ∙ ap (λ o. mark_of K y.0 kind o (destination_number r.dest)) from
      ∙ mark_other K y.0 kind x.0 (destination_number r.dest) three four

  new_asking : (kind : ℕ) → kind_of r.body ≡ kind → eqb kind 3 ≡ false → eqb kind 4 ≡ false → r.origin.0 ≡ x.0
      → count (is_kind kind) (G.channel x.0 y.0).sent ≤ 1 → IsNew G x y r
  new_asking kind is three four from few =
      let of_kind : is_kind kind r ≡ true = eq-eqb (kind_of r.body) kind is in
      let more = one_more G x.0 y.0 kind r next.others next.is of_kind few in
      let G1 = after_line G (lines.Got x y) in
      let now : mark G1 y.0 r ≡ true = marks_are kind is three four from G1 ∙ rw (eq-eqb x.0 x.0 refl, eq-eqb y.0 y.0 refl) more.one in
      record {
        before = marks_are kind is three four from G ∙ more.none;
        after = mark_kept G1 (after_lines G1 (record_lines (view_of G y) x r)) y.0 (kind_of r.body) r.origin.0 (destination_number r.dest)
            (kept_lines laws.row G1 (record_lines (view_of G y) x r) (inner_record (view_of G y) x r)
            (bounded_got G x y r next.others next.is (pause_bounded G pause))) now;
      }

  -- a register or an admit of d
  new_about : (d : ℕ) → is_about d r ≡ true → IsNew G x y r
  new_about d about =
      let moved = moves laws G x y r next.others d (registered d).stage (asked_led G asked) pause.tree (pause_bounded G pause) next.is about (registered d).is in
      record { before = moved.before; after = moved.after }

  own : IsOwn x.0 r
  own = first_has (IsOwn x.0) G x.0 y.0 r next.others (asked.known.own x.0 y.0) next.is

  proper : IsProperKind r
  proper = proper_kind r (first_has (λ s. is_valid s ≡ true) G x.0 y.0 r next.others (pause.flows x.0 y.0).valid next.is)

  new_admit : (dest : Option Enclave) → r.dest ≡ dest → r.body ≡ bodies.Admit → IsNew G x y r
  new_admit None is admit =
      let none : is_destination 4 None ≡ true = ap (is_destination 4) (sym is) ∙ ap (λ b. is_destination (kind_of b) r.dest) (sym admit) ∙ proper.dest in
      absurd (cc)
  new_admit (Some e) is admit = new_about e.0
      (ap (is_about_by e.0 r) admit ∙ ap (λ dest. option_map_or (λ (d : Enclave). eqb d.0 e.0) dest false) is ∙ eq-eqb e.0 e.0 refl)

  new_body : (body : Body) → r.body ≡ body → leb (kind_of body) 4 ≡ true → IsNew G x y r
  new_body bodies.Query is of = new_asking 1 (ap kind_of is) refl refl (own (ap (λ b. is_query_body b || is_here_body b) is)) (few_queries G asked x.0 y.0)
  new_body bodies.Here is of = new_asking 2 (ap kind_of is) refl refl (own (ap (λ b. is_query_body b || is_here_body b) is)) (few_heres G asked x.0 y.0)
  new_body bodies.Register is of = new_about r.origin.0 (ap (is_about_by r.origin.0 r) is ∙ eq-eqb r.origin.0 r.origin.0 refl)
  new_body bodies.Admit is of = new_admit r.dest refl is
  new_body _ is of = absurd (cc)

  -- one of discovery
  pub new_record : is_of_discovery r ≡ true → IsNew G x y r
  new_record of = new_body r.body refl of

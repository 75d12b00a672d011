-- What an enclave keeps of a record that it got.
use Rattle.std.proofs.Common.{◌≡◌, ◌+◌, ◌≤◌, ℕ, List, [], ◌∷◌, ◌++◌, zero, suc, length, take, Bool, true, false, cond, leb, ◌&&◌, eqb, Option, None, Some, is_some, refl, sym, ap, ◌∙◌, arith, if◌then◌else◌}
use Rattle.std.proofs.lemmas.Bool.{eqb-true, le-leb, leb-true}
use Rattle.xm_num.specs.declared.Enclave.{Enclave}
use Rattle.xm_num.specs.Rows.{at, put}
use Rattle.xemem_language.specs.Destinations.{destination_number}
use Rattle.xemem_language.specs.declared.record.Record.{Record}
use Rattle.xemem_language.specs.declared.line.Line.{Line}
use Rattle.xemem_language.specs.declared.line.Line.TheVariants as lines
use Rattle.xemem_language.specs.declared.command.Command.TheVariants as commands
use Rattle.xemem_wire.specs.Table.{kind_of}
use Rattle.global_model.specs.Facts.{Facts, ChannelFact, EnclaveFact, after_line, after_lines, as_admitted, is_admitted, with_got, with_sent, with_taken}
use Rattle.discovery_laws.specs.Known.{backs_of, routes_of, back_at, is_admitted_at, route_at}
use Rattle.discovery_laws.specs.Laws.{WayPutLaws}
use Rattle.discovery_laws.proofs.Effects.{asked_leaves_rows, back_leaves_routes, back_puts, route_leaves_backs, route_puts, way_leaves}
use Rattle.discovery_laws.proofs.Underway.{IsBounded}
use Rattle.discovery_laws.proofs.Flights.{count}
use Rattle.global_model.specs.Tree.{parent_of}
use Rattle.discovery_laws.proofs.Stages.{IsRegistered}
use Rattle.discovery_laws.proofs.Unmoved.{AreWithinStep, IsWithinStep, bounded_line}

-- ---- marks

abbrev pub is_kind : ℕ → Record → Bool
is_kind kind r = eqb (kind_of r.body) kind

-- the records of a channel that were got
abbrev pub got_of : ChannelFact → List Record
got_of channel = take channel.got channel.sent

-- Of a register an enclave keeps the way back, of an admit the route, or that it is admitted itself. A query and a here are told by
-- those that were got of the channel from their origin.
abbrev pub mark_of : Facts → ℕ → ℕ → ℕ → ℕ → Bool
mark_of G y kind origin dest =
    if eqb kind 3 then is_some (back_at G y origin)
    else (if eqb kind 4 then (if eqb dest y then is_admitted_at G y else is_some (route_at G y dest))
    else leb 1 (count (is_kind kind) (got_of (G.channel origin y))))

abbrev pub mark : Facts → ℕ → Record → Bool
mark G y r = mark_of G y (kind_of r.body) r.origin.0 (destination_number r.dest)

-- ---- they last

-- what is kept isn't lost
pub record IsLasting (G H : Facts) : Type 0 where
  pub backs : (e d : ℕ) → is_some (back_at G e d) ≡ true → is_some (back_at H e d) ≡ true
  pub routes : (e d : ℕ) → is_some (route_at G e d) ≡ true → is_some (route_at H e d) ≡ true
  pub ready : (e : ℕ) → is_admitted_at G e ≡ true → is_admitted_at H e ≡ true
  pub got : (test : Record → Bool) (a b : ℕ) → count test (got_of (G.channel a b)) ≤ count test (got_of (H.channel a b))

pub kept-trans : (G H K : Facts) → IsLasting G H → IsLasting H K → IsLasting G K
kept-trans G H K one two = record {
  backs = λ e d is. two.backs e d (one.backs e d is);
  routes = λ e d is. two.routes e d (one.routes e d is);
  ready = λ e is. two.ready e (one.ready e is);
  got = λ test a b. let first = one.got test a b in let second = two.got test a b in omega (arith, first, second);
}

pub mark_kept : (G H : Facts) (y kind origin dest : ℕ) → IsLasting G H → mark_of G y kind origin dest ≡ true → mark_of H y kind origin dest ≡ true
mark_kept G H y kind origin dest kept = by (eqb kind 3) (eqb kind 4) (eqb dest y)
  where
    by : (three four home : Bool)
        → cond three (is_some (back_at G y origin)) (cond four (cond home (is_admitted_at G y) (is_some (route_at G y dest)))
        (leb 1 (count (is_kind kind) (got_of (G.channel origin y))))) ≡ true
        → cond three (is_some (back_at H y origin)) (cond four (cond home (is_admitted_at H y) (is_some (route_at H y dest)))
        (leb 1 (count (is_kind kind) (got_of (H.channel origin y))))) ≡ true
    by true four home is = kept.backs y origin is
    by false true true is = kept.ready y is
    by false true false is = kept.routes y dest is
    by false false home is =
        let some = leb-true 1 (count (is_kind kind) (got_of (G.channel origin y))) is in
        let more = kept.got (is_kind kind) origin y in
        le-leb 1 (count (is_kind kind) (got_of (H.channel origin y))) (omega (arith, some, more))

-- ---- line by line

take-behind : {A : Type 0} (n : ℕ) (xs : List A) (x : A) → n ≤ length xs → take n (xs ++ x ∷ []) ≡ take n xs
take-behind zero xs x le = refl
take-behind (suc n) [] x le = absurd (omega (arith, le))
take-behind (suc n) (w ∷ xs) x le = ap (λ ws. w ∷ ws) (take-behind n xs x (omega (arith, le)))

count-take : (test : Record → Bool) (n : ℕ) (rs : List Record) → count test (take n rs) ≤ count test (take (n + 1) rs)
count-take test zero rs = omega arith
count-take test (suc n) [] = omega arith
count-take test (suc n) (r ∷ rs) =
    let next : suc n + 1 ≡ suc (n + 1) = omega arith in
    let more = count-take test n rs in
    rw next (omega (arith, more))

at_pair_kept : (P : ChannelFact → ChannelFact → Type 0) (x y : ℕ) (h : ChannelFact → ChannelFact) (f : ℕ → ℕ → ChannelFact) (a b : ℕ)
    → P (f a b) (h (f a b)) → P (f a b) (f a b) → P (f a b) (cond (eqb a x && eqb b y) (h (f a b)) (f a b))
at_pair_kept P x y h f a b new old = by (eqb a x && eqb b y)
  where
    by : (t : Bool) → P (f a b) (cond t (h (f a b)) (f a b))
    by true = new
    by false = old

ready_more : (G : Facts) (e : Enclave) (a : ℕ) → is_admitted_at G a ≡ true → is_admitted_at (after_line G (lines.Admitted e)) a ≡ true
ready_more G e a is = by (eqb a e.0) refl
  where
    some : (fact : Option EnclaveFact) → is_admitted fact ≡ true → is_admitted (as_admitted fact) ≡ true
    some None is = is
    some (Some fact) is = refl

    by : (t : Bool) → eqb a e.0 ≡ t → is_admitted (cond t (as_admitted (G.enclave e.0)) (G.enclave a)) ≡ true
    by true here = some (G.enclave e.0) (ap (is_admitted_at G) (sym (eqb-true a e.0 here)) ∙ is)
    by false there = is

-- a row that is there isn't lost when one is put
some_row : WayPutLaws → (f g : ℕ → List (ℕ × Enclave)) (e of : ℕ) (over : Enclave) → ((a : ℕ) → g a ≡ cond (eqb a e) (put (f e) of over) (f a))
    → (a d : ℕ) → is_some (at (f a) d) ≡ true → is_some (at (g a) d) ≡ true
some_row rows f g e of over changed a d is = ap (λ table. is_some (at table d)) (changed a) ∙ by (eqb a e) refl
  where
    either : (t : Bool) (old : Option Enclave) → is_some old ≡ true → is_some (cond t (Some over) old) ≡ true
    either true old some = refl
    either false old some = some

    by : (t : Bool) → eqb a e ≡ t → is_some (at (cond t (put (f e) of over) (f a)) d) ≡ true
    by true here = ap is_some (rows.ways (f e) of d over) ∙ either (eqb of d) (at (f e) d) (ap (λ n. is_some (at (f n) d)) (sym (eqb-true a e here)) ∙ is)
    by false there = is

-- tables that are the same
left_row : (f g : ℕ → List (ℕ × Enclave)) → ((a : ℕ) → g a ≡ f a) → (a d : ℕ) → is_some (at (f a) d) ≡ true → is_some (at (g a) d) ≡ true
left_row f g same a d is = ap (λ table. is_some (at table d)) (same a) ∙ is

-- counts of the same are the same
same_got : (G : Facts) (test : Record → Bool) (a b : ℕ) → count test (got_of (G.channel a b)) ≤ count test (got_of (G.channel a b))
same_got G test a b = omega arith

pub kept_line : WayPutLaws → (G : Facts) (line : Line) → IsWithinStep line → IsBounded G → IsLasting G (after_line G line)
kept_line rows G (lines.Born e kind parent ns blocks) inner bounded = absurd inner
kept_line rows G (lines.Back e of over) inner bounded =
    let H = after_line G (lines.Back e of over) in
    record {
      backs = some_row rows (backs_of G) (backs_of H) e.0 of.0 over (back_puts G e of over);
      routes = left_row (routes_of G) (routes_of H) (back_leaves_routes G e of over);
      ready = λ a is. is;
      got = same_got G;
    }
kept_line rows G (lines.Route e of over) inner bounded =
    let H = after_line G (lines.Route e of over) in
    record {
      backs = left_row (backs_of G) (backs_of H) (route_leaves_backs G e of over);
      routes = some_row rows (routes_of G) (routes_of H) e.0 of.0 over (route_puts G e of over);
      ready = λ a is. is;
      got = same_got G;
    }
kept_line rows G (lines.Way e over) inner bounded =
    let H = after_line G (lines.Way e over) in
    record {
      backs = left_row (backs_of G) (backs_of H) (way_leaves G e over).backs;
      routes = left_row (routes_of G) (routes_of H) (way_leaves G e over).routes;
      ready = λ a is. is;
      got = same_got G;
    }
kept_line rows G (lines.Asked e over) inner bounded =
    let H = after_line G (lines.Asked e over) in
    record {
      backs = left_row (backs_of G) (backs_of H) (asked_leaves_rows G e over).backs;
      routes = left_row (routes_of G) (routes_of H) (asked_leaves_rows G e over).routes;
      ready = λ a is. is;
      got = same_got G;
    }
kept_line rows G (lines.Admitted e) inner bounded = record { backs = λ a d is. is; routes = λ a d is. is; ready = ready_more G e; got = same_got G }
kept_line rows G (lines.Sent x y r) inner bounded = record {
  backs = λ a d is. is;
  routes = λ a d is. is;
  ready = λ a is. is;
  got = λ test a b. at_pair_kept (λ c c'. count test (got_of c) ≤ count test (got_of c')) x.0 y.0 (with_sent r) G.channel a b
      (rw (take-behind (G.channel a b).got (G.channel a b).sent r (bounded a b)) (omega arith)) (omega arith);
}
kept_line rows G (lines.Heard e of) inner bounded = absurd inner
kept_line rows G (lines.Got x y) inner bounded = absurd inner
kept_line rows G (lines.Took x y n) inner bounded = record {
  backs = λ a d is. is;
  routes = λ a d is. is;
  ready = λ a is. is;
  got = λ test a b. at_pair_kept (λ c c'. count test (got_of c) ≤ count test (got_of c')) x.0 y.0 (with_taken n) G.channel a b
      (omega arith) (omega arith);
}
kept_line rows G (lines.Do (commands.Pool blocks)) inner bounded = record { backs = λ a d is. is; routes = λ a d is. is; ready = λ a is. is; got = same_got G }
kept_line rows G _ inner bounded = record { backs = λ a d is. is; routes = λ a d is. is; ready = λ a is. is; got = same_got G }

pub kept_lines : WayPutLaws → (G : Facts) (ls : List Line) → AreWithinStep ls → IsBounded G → IsLasting G (after_lines G ls)
kept_lines rows G [] inner bounded = record { backs = λ a d is. is; routes = λ a d is. is; ready = λ a is. is; got = same_got G }
kept_lines rows G (l ∷ ls) inner bounded =
    kept-trans G (after_line G l) (after_lines (after_line G l) ls) (kept_line rows G l inner.0 bounded)
    (kept_lines rows (after_line G l) ls inner.1 (bounded_line G l bounded inner.0))

pub kept_got : (G : Facts) (x y : Enclave) → IsLasting G (after_line G (lines.Got x y))
kept_got G x y = record {
  backs = λ a d is. is;
  routes = λ a d is. is;
  ready = λ a is. is;
  got = λ test a b. at_pair_kept (λ c c'. count test (got_of c) ≤ count test (got_of c')) x.0 y.0 with_got G.channel a b
      (count-take test (G.channel a b).got (G.channel a b).sent) (omega arith);
}

-- what comes of a record of d at y: its registration is at a stage, and y has kept of the record what it didn't have before
pub record IsMoved (G : Facts) (x y : Enclave) (d : ℕ) (r : Record) (ls : List Line) : Type 0 where
  pub registered : IsRegistered (parent_of G) G.born (after_lines G (lines.Got x y ∷ ls)) d
  pub before : mark G y.0 r ≡ false
  pub after : mark (after_lines G (lines.Got x y ∷ ls)) y.0 r ≡ true

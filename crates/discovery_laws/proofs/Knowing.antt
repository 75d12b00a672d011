-- Who knows the way learned it of one that knows it, which is next on the path to the holder of the name server.
use Rattle.std.proofs.Common.{◌≡◌, ◌≤◌, ℕ, List, [], ◌∷◌, Bool, true, false, ◌&&◌, ◌||◌, eqb, is_some, Option, Some, refl, sym, ap, ◌∙◌, subst, arith}
use Rattle.std.specs.Prelude.{◌++◌}
use Rattle.std.specs.List.{AllByRecursion}
use Rattle.std.proofs.lemmas.Bool.{eqb-true, eqb-false, and_parts, or_right}
use Rattle.xm_num.specs.declared.Enclave.{Enclave}
use Rattle.xemem_language.specs.declared.record.Record.{Record}
use Rattle.xemem_language.specs.declared.line.Line.TheVariants as lines
use Rattle.global_model.specs.Facts.{Facts, after_line, with_got, with_sent}
use Rattle.global_model.specs.Tree.{IsRooted, IsToward, parent_of}
use Rattle.discovery_laws.specs.Known.{holds, in_flight, knows, way_at}
use Rattle.discovery_laws.specs.Laws.{TreeLaws}
use Rattle.discovery_laws.proofs.Led.{IsHeld}
use Rattle.discovery_laws.proofs.Underway.{IsBounded}
use Rattle.discovery_laws.proofs.Flights.{count, add, pair_has, flies_more, got_sent, flies_less}
use Rattle.discovery_laws.proofs.Effects.{number_at, way_learns, asked_leaves}
use Rattle.discovery_laws.proofs.Asking.{is_query, is_here, heres_flying, IsAlike, same_knows, same_flight}

-- a query and a here are their sender's own
abbrev pub IsOwn : ℕ → Record → Type 0
IsOwn x r = (is_query r || is_here r) ≡ true → r.origin.0 ≡ x

pub record IsKnown (G : Facts) : Type 0 where
  pub quiet : (e : ℕ) → G.heard e ≡ []
  pub uncut : (a b : ℕ) → (G.channel a b).cut ≡ 0
  pub own : (a b : ℕ) → AllByRecursion (IsOwn a) (G.channel a b).sent
  pub told : (a b : ℕ) → 1 ≤ heres_flying G a b → knows G a ≡ true
  pub over : (e : ℕ) (x : Enclave) → way_at G e ≡ Some x → knows G x.0 ≡ true
  pub server : (e : ℕ) → knows G e ≡ true → G.server ≡ true
  pub held : G.server ≡ true → IsHeld G
  pub one : (a b : ℕ) → holds G a ≡ true → holds G b ≡ true → a ≡ b
  pub leads : (h e : ℕ) (x : Enclave) → holds G h ≡ true → way_at G e ≡ Some x → IsToward (parent_of G) G.born e h x.0

pub own-append : (x : ℕ) (rs : List Record) (r : Record) → AllByRecursion (IsOwn x) rs → IsOwn x r → AllByRecursion (IsOwn x) (rs ++ r ∷ [])
own-append x [] r all own = (own, tt)
own-append x (s ∷ rs) r all own = (all.0, own-append x rs r all.1 own)

-- ---- lines that change nothing of this

pub known_same : (laws : TreeLaws) (G H : Facts) → IsAlike G H → IsRooted (parent_of G) → IsKnown G → IsKnown H
known_same laws G H same rooted old = record {
  quiet = λ e. same.heard e ∙ old.quiet e;
  uncut = λ a b. same.cut a b ∙ old.uncut a b;
  own = λ a b. rw (same.sent a b) (old.own a b);
  told = λ a b some. same_knows G H same a ∙ old.told a b (subst (λ rs. 1 ≤ count is_here rs) (same_flight G H same a b) some);
  over = λ e x is. same_knows G H same x.0 ∙ old.over e x (sym (same.way e) ∙ is);
  server = λ e is. same.server ∙ old.server e (sym (same_knows G H same e) ∙ is);
  held = λ is. let was = old.held (sym same.server ∙ is) in record { holder = was.holder; holds = same.holds was.holder ∙ was.holds };
  one = λ a b first second. old.one a b (sym (same.holds a) ∙ first) (sym (same.holds b) ∙ second);
  leads = λ h e x is way.
      let was = old.leads h e x (sym (same.holds h) ∙ is) (sym (same.way e) ∙ way) in
      laws.stays (parent_of G) (parent_of H) G.born H.born e h x.0 rooted (λ e some below. same.parent e) (omega (arith, same.born)) was;
}

-- ---- records

pub known_sent : (G : Facts) (x y : Enclave) (r : Record) → IsBounded G
    → IsOwn x.0 r → (is_here r ≡ true → knows G x.0 ≡ true) → IsKnown G → IsKnown (after_line G (lines.Sent x y r))
known_sent G x y r within own knowing old = record {
  quiet = old.quiet;
  uncut = λ a b. pair_has (λ a b t c. c.cut ≡ 0) x.0 y.0 (with_sent r) G.channel a b (old.uncut x.0 y.0) (old.uncut a b);
  own = λ a b. pair_has (λ a b t c. AllByRecursion (IsOwn a) c.sent) x.0 y.0 (with_sent r) G.channel a b
      (own-append x.0 (G.channel x.0 y.0).sent r (old.own x.0 y.0) own) (old.own a b);
  told = λ a b some. by a b (is_here r) refl (eqb a x.0 && eqb b y.0) refl some;
  over = old.over;
  server = old.server;
  held = λ is. record { holder = (old.held is).holder; holds = (old.held is).holds };
  one = old.one;
  leads = old.leads;
}
  where
    by : (a b : ℕ) (here : Bool) → is_here r ≡ here → (t : Bool) → (eqb a x.0 && eqb b y.0) ≡ t
        → 1 ≤ heres_flying (after_line G (lines.Sent x y r)) a b → knows G a ≡ true
    by a b false is t at some =
        let more = flies_more is_here G x y r a b within in
        let none : add (is_here r) x.0 y.0 a b ≡ 0 = rw is refl in
        old.told a b (omega (arith, more, none, some))
    by a b true is true at some = ap (knows G) (eqb-true a x.0 (and_parts (eqb a x.0) (eqb b y.0) at).0) ∙ knowing is
    by a b true is false at some =
        let more = flies_more is_here G x y r a b within in
        let none : add (is_here r) x.0 y.0 a b ≡ 0 = rw (is, at) refl in
        old.told a b (omega (arith, more, none, some))

pub known_got : (G : Facts) (x y : Enclave) (r : Record) (behind : List Record) → in_flight G x.0 y.0 ≡ r ∷ behind
    → IsKnown G → IsKnown (after_line G (lines.Got x y))
known_got G x y r behind next old = record {
  quiet = old.quiet;
  uncut = λ a b. pair_has (λ a b t c. c.cut ≡ 0) x.0 y.0 with_got G.channel a b (old.uncut x.0 y.0) (old.uncut a b);
  own = λ a b. rw (got_sent G x y a b) (old.own a b);
  told = λ a b some. let less = flies_less G x y r behind next is_here a b in old.told a b (omega (arith, less, some));
  over = old.over;
  server = old.server;
  held = λ is. record { holder = (old.held is).holder; holds = (old.held is).holds };
  one = old.one;
  leads = old.leads;
}

pub known_asked : (laws : TreeLaws) (G : Facts) (y asker : Enclave) → IsRooted (parent_of G) → IsKnown G → IsKnown (after_line G (lines.Asked y asker))
known_asked laws G y asker rooted old = known_same laws G (after_line G (lines.Asked y asker)) (record {
  born = refl;
  server = refl;
  holds = λ e. refl;
  parent = λ e. refl;
  near = λ a b. refl;
  way = asked_leaves G y asker;
  heard = λ e. refl;
  sent = λ a b. refl;
  got = λ a b. refl;
  cut = λ a b. refl;
}) rooted old

-- ---- the way is learned

-- who knew the way knows it still, and y does now
module _ (G : Facts) (y from : Enclave) where
  abbrev H : Facts
  H = after_line G (lines.Way y from)

  way_either : (P : ℕ → Option Enclave → Type 0) (e : ℕ) → P y.0 (Some from) → (eqb e y.0 ≡ false → P e (way_at G e)) → P e (way_at H e)
  way_either P e here there = number_at P y.0 (Some from) (way_at G) (way_at H) (way_learns G y from) e here there

  pub way_knows : (e : ℕ) → knows G e ≡ true → knows H e ≡ true
  way_knows e is = way_either (λ e way. (holds G e || is_some way) ≡ true) e (or_right (holds G y.0) true refl) (λ other. is)

  pub way_learned : knows H y.0 ≡ true
  way_learned = way_either (λ e way. (holds G e || is_some way) ≡ true) y.0 (or_right (holds G y.0) true refl) (λ other. absurd (eqb-false y.0 y.0 other refl))

  pub known_way : knows G from.0 ≡ true
      → ((h : ℕ) → holds G h ≡ true → IsToward (parent_of G) G.born y.0 h from.0)
      → IsKnown G → IsKnown H
  known_way knowing toward old = record {
    quiet = old.quiet;
    uncut = old.uncut;
    own = old.own;
    told = λ a b some. way_knows a (old.told a b some);
    over = λ e x. way_either (λ e way. way ≡ Some x → knows H x.0 ≡ true) e
        (λ is. let same : from ≡ x = cc in way_knows x.0 (subst (λ z. knows G z.0 ≡ true) same knowing))
        (λ other is. way_knows x.0 (old.over e x is));
    server = λ e. way_either (λ e way. (holds G e || is_some way) ≡ true → G.server ≡ true) e
        (λ is. old.server from.0 knowing) (λ other is. old.server e is);
    held = λ is. record { holder = (old.held is).holder; holds = (old.held is).holds };
    one = old.one;
    leads = λ h e x is. way_either (λ e way. way ≡ Some x → IsToward (parent_of G) G.born e h x.0) e
        (λ found. let same : from ≡ x = cc in subst (λ z. IsToward (parent_of G) G.born y.0 h z.0) same (toward h is))
        (λ other found. old.leads h e x is found);
  }

-- Lines that say nothing of d leave its registration where it was.
use Rattle.std.proofs.Common.{◌≡◌, ◌≢◌, ◌≤◌, ℕ, List, [], ◌∷◌, ◌++◌, append-nil, length, drop, filter, Bool, true, false, cond, ◌&&◌, ◌||◌, eqb, Option, Some, is_some, inl, inr, refl, sym, ap, ◌∙◌}
use Rattle.std.specs.List.{AllByRecursion}
use Rattle.std.proofs.lemmas.Bool.{eqb-true, ne_eqb}
use Rattle.std.proofs.lemmas.List.Elements.{filter-append}
use Rattle.xm_num.specs.declared.Enclave.{Enclave}
use Rattle.xm_num.specs.Rows.{at, put}
use Rattle.xemem_language.specs.declared.record.Record.{Record}
use Rattle.xemem_language.specs.declared.line.Line.{Line}
use Rattle.xemem_language.specs.declared.line.Line.TheVariants as lines
use Rattle.xemem_language.specs.declared.command.Command.TheVariants as commands
use Rattle.global_model.specs.Facts.{Facts, after_line, after_lines, is_admitted, is_holder, with_taken}
use Rattle.global_model.specs.Parts.{Birth, Death, Receipt, Lacks}
use Rattle.discovery_laws.specs.Known.{backs_of, routes_of, back_at, holds, in_flight, is_admitted_at, knows, route_at, way_at}
use Rattle.discovery_laws.specs.Laws.{WayPutLaws}
use Rattle.discovery_laws.proofs.Effects.{asked_leaves, asked_leaves_rows, back_leaves, back_leaves_routes, back_puts, holder_kept, kept_by, route_leaves, route_leaves_backs, route_puts, way_learns, way_leaves}
use Rattle.discovery_laws.proofs.Underway.{IsBounded, bounded_sent, flight_sent}
use Rattle.discovery_laws.proofs.Stages.{about_in, is_about, Stage, Answers, IsBack, IsAt, IsStaged, Silent, Registering, Admitting, Ready}

-- ---- what a registration rests on

-- the same is known of d everywhere, and no enclave knows less of the way than before
pub record IsUnmoved (G H : Facts) (d : ℕ) : Type 0 where
  pub flight : (a b : ℕ) → about_in H d a b ≡ about_in G d a b
  pub backs : (e : ℕ) → back_at H e d ≡ back_at G e d
  pub routes : (e : ℕ) → route_at H e d ≡ route_at G e d
  pub holders : (e : ℕ) → holds G e ≡ true → holds H e ≡ true
  pub knowing : (e : ℕ) → knows G e ≡ true → knows H e ≡ true
  pub held : holds H d ≡ holds G d
  pub known : knows H d ≡ knows G d
  pub admitted : is_admitted_at H d ≡ is_admitted_at G d

pub unmoved-refl : (G : Facts) (d : ℕ) → IsUnmoved G G d
unmoved-refl G d = record {
  flight = λ a b. refl;
  backs = λ e. refl;
  routes = λ e. refl;
  holders = λ e is. is;
  knowing = λ e is. is;
  held = refl;
  known = refl;
  admitted = refl;
}

pub unmoved-trans : (G H K : Facts) (d : ℕ) → IsUnmoved G H d → IsUnmoved H K d → IsUnmoved G K d
unmoved-trans G H K d one two = record {
  flight = λ a b. two.flight a b ∙ one.flight a b;
  backs = λ e. two.backs e ∙ one.backs e;
  routes = λ e. two.routes e ∙ one.routes e;
  holders = λ e is. two.holders e (one.holders e is);
  knowing = λ e is. two.knowing e (one.knowing e is);
  held = two.held ∙ one.held;
  known = two.known ∙ one.known;
  admitted = two.admitted ∙ one.admitted;
}

-- ---- its stage stays

pub answers_stay : (back later : ℕ → ℕ → Option Enclave) (d x : ℕ) → ((e : ℕ) → later e d ≡ back e d) → Answers back d x → Answers later d x
answers_stay back later d x same (inl is) = inl is
answers_stay back later d x same (inr is) = inr (ap is_some (same x) ∙ is)

pub back_stays : (parent : ℕ → ℕ) (born : ℕ) (back later : ℕ → ℕ → Option Enclave) (d : ℕ) (stage : Stage) (e x : ℕ) → ((e : ℕ) → later e d ≡ back e d)
    → IsBack parent born back d stage e x → IsBack parent born later d stage e x
back_stays parent born back later d stage e x same was = record {
  toward = was.toward;
  leads = answers_stay back later d x same was.leads;
  may = was.may;
}

at_stays : (parent : ℕ → ℕ) (born : ℕ) (G H : Facts) (d : ℕ) (stage : Stage) → IsUnmoved G H d → IsAt parent born G d stage → IsAt parent born H d stage
at_stays parent born G H d Silent same at = record { known = same.known ∙ at.known ∙ sym same.held; admitted = same.admitted ∙ at.admitted ∙ sym same.held }
at_stays parent born G H d (Registering h x y) same at = record {
  holder = same.holders h at.holder;
  ahead = at.ahead;
  behind = at.behind;
  nearer = at.nearer;
  answers = answers_stay (back_at G) (back_at H) d x same.backs at.answers;
  knowing = same.knowing y at.knowing;
  known = same.known ∙ at.known;
  waits = same.admitted ∙ at.waits;
}
at_stays parent born G H d (Admitting h x y) same at = record {
  from = at.from;
  ahead = at.ahead;
  nearer = at.nearer;
  answers = answers_stay (back_at G) (back_at H) d y same.backs at.answers;
  known = same.known ∙ at.known;
  waits = same.admitted ∙ at.waits;
}
at_stays parent born G H d Ready same at = record { known = same.known ∙ at.known; admitted = same.admitted ∙ at.admitted }

pub staged_stays : (parent : ℕ → ℕ) (born : ℕ) (G H : Facts) (d : ℕ) (stage : Stage) → IsUnmoved G H d → IsStaged parent born G d stage
    → IsStaged parent born H d stage
staged_stays parent born G H d stage same staged = record {
  flight = λ a b. same.flight a b ∙ staged.flight a b;
  backs = λ e x is. back_stays parent born (back_at G) (back_at H) d stage e x.0 same.backs (staged.backs e x (sym (same.backs e) ∙ is));
  routes = λ e x is. staged.routes e x (sym (same.routes e) ∙ is);
  at = at_stays parent born G H d stage same staged.at;
}

-- ---- lines

-- the line says nothing of d
abbrev pub IsAside : ℕ → Line → Type 0
IsAside d (lines.Sent x y r) = is_about d r ≡ false
IsAside d (lines.Way e over) = e.0 ≢ d
IsAside d (lines.Back e of over) = of.0 ≢ d
IsAside d (lines.Route e of over) = of.0 ≢ d
IsAside d (lines.Admitted e) = e.0 ≢ d
IsAside d line = Lacks (Birth ∷ Death ∷ Receipt ∷ []) line

abbrev pub AreAside : ℕ → List Line → Type 0
AreAside d journal = AllByRecursion (IsAside d) journal

pub about_sent : (G : Facts) (x y : Enclave) (r : Record) (d a b : ℕ) → IsBounded G
    → about_in (after_line G (lines.Sent x y r)) d a b
    ≡ cond (eqb a x.0 && eqb b y.0) (about_in G d a b ++ filter (is_about d) (r ∷ [])) (about_in G d a b)
about_sent G x y r d a b bounded = ap (filter (is_about d)) (flight_sent G x y r a b bounded) ∙ by (eqb a x.0 && eqb b y.0)
  where
    by : (t : Bool) → filter (is_about d) (cond t (in_flight G a b ++ r ∷ []) (in_flight G a b))
        ≡ cond t (about_in G d a b ++ filter (is_about d) (r ∷ [])) (about_in G d a b)
    by true = filter-append (is_about d) (in_flight G a b) (r ∷ [])
    by false = refl

unmoved_sent : (G : Facts) (x y : Enclave) (r : Record) (d : ℕ) → IsBounded G → is_about d r ≡ false → IsUnmoved G (after_line G (lines.Sent x y r)) d
unmoved_sent G x y r d bounded other = record {
  flight = λ a b. about_sent G x y r d a b bounded ∙ rw other (by a b (eqb a x.0 && eqb b y.0));
  backs = λ e. refl;
  routes = λ e. refl;
  holders = λ e is. is;
  knowing = λ e is. is;
  held = refl;
  known = refl;
  admitted = refl;
}
  where
    by : (a b : ℕ) (t : Bool) → cond t (about_in G d a b ++ []) (about_in G d a b) ≡ about_in G d a b
    by a b true = append-nil (about_in G d a b)
    by a b false = refl

-- a table that gets a row of another number has the same at d
pub other_row : WayPutLaws → (f g : ℕ → List (ℕ × Enclave)) (e of : ℕ) (over : Enclave) → ((a : ℕ) → g a ≡ cond (eqb a e) (put (f e) of over) (f a))
    → (d a : ℕ) → of ≢ d → at (g a) d ≡ at (f a) d
other_row rows f g e of over changed d a apart = ap (λ table. at table d) (changed a) ∙ by (eqb a e) refl
  where
    by : (t : Bool) → eqb a e ≡ t → at (cond t (put (f e) of over) (f a)) d ≡ at (f a) d
    by true is = rows.ways (f e) of d over ∙ rw (ne_eqb of d apart) (ap (λ k. at (f k) d) (sym (eqb-true a e is)))
    by false is = refl

-- a line that leaves channels and enclaves, and all ways
unmoved_by : (G H : Facts) (d : ℕ) → ((a b : ℕ) → in_flight H a b ≡ in_flight G a b) → ((e : ℕ) → H.enclave e ≡ G.enclave e)
    → ((e : ℕ) → way_at H e ≡ way_at G e) → ((e : ℕ) → back_at H e d ≡ back_at G e d) → ((e : ℕ) → route_at H e d ≡ route_at G e d)
    → IsUnmoved G H d
unmoved_by G H d flight enclaves ways backs routes = record {
  flight = λ a b. ap (filter (is_about d)) (flight a b);
  backs = backs;
  routes = routes;
  holders = λ e is. ap is_holder (enclaves e) ∙ is;
  knowing = λ e is. same e ∙ is;
  held = ap is_holder (enclaves d);
  known = same d;
  admitted = ap is_admitted (enclaves d);
}
  where
    same : (e : ℕ) → knows H e ≡ knows G e
    same e = ap (λ fact. is_holder fact || is_some (way_at H e)) (enclaves e) ∙ ap (λ way. holds G e || is_some way) (ways e)

knows_more : (held : Bool) (t : Bool) (over : Enclave) (way : Option Enclave) → (held || is_some way) ≡ true
    → (held || is_some (cond t (Some over) way)) ≡ true
knows_more true t over way is = refl
knows_more false true over way is = refl
knows_more false false over way is = is

unmoved_way : (G : Facts) (e over : Enclave) (d : ℕ) → e.0 ≢ d → IsUnmoved G (after_line G (lines.Way e over)) d
unmoved_way G e over d apart = record {
  flight = λ a b. refl;
  backs = λ a. ap (λ table. at table d) ((way_leaves G e over).backs a);
  routes = λ a. ap (λ table. at table d) ((way_leaves G e over).routes a);
  holders = λ a is. is;
  knowing = λ a is. learns a ∙ knows_more (holds G a) (eqb a e.0) over (way_at G a) is;
  held = refl;
  known = learns d ∙ rw (ne_eqb d e.0 (λ is. apart (sym is))) refl;
  admitted = refl;
}
  where
    learns : (a : ℕ) → knows (after_line G (lines.Way e over)) a ≡ (holds G a || is_some (cond (eqb a e.0) (Some over) (way_at G a)))
    learns a = ap (λ way. holds G a || is_some way) (way_learns G e over a)

pub holds_admitted : (G : Facts) (e : Enclave) (a : ℕ) → holds (after_line G (lines.Admitted e)) a ≡ holds G a
holds_admitted = kept_by is_holder holder_kept

unmoved_admitted : (G : Facts) (e : Enclave) (d : ℕ) → e.0 ≢ d → IsUnmoved G (after_line G (lines.Admitted e)) d
unmoved_admitted G e d apart = record {
  flight = λ a b. refl;
  backs = λ a. refl;
  routes = λ a. refl;
  holders = λ a is. holds_admitted G e a ∙ is;
  knowing = λ a is. ap (λ t. t || is_some (way_at G a)) (holds_admitted G e a) ∙ is;
  held = holds_admitted G e d;
  known = ap (λ t. t || is_some (way_at G d)) (holds_admitted G e d);
  admitted = rw (ne_eqb d e.0 (λ is. apart (sym is))) refl;
}

unmoved_took : (G : Facts) (x y : Enclave) (count d : ℕ) → IsUnmoved G (after_line G (lines.Took x y count)) d
unmoved_took G x y count d = record {
  flight = λ a b. by a b (eqb a x.0 && eqb b y.0);
  backs = λ e. refl;
  routes = λ e. refl;
  holders = λ e is. is;
  knowing = λ e is. is;
  held = refl;
  known = refl;
  admitted = refl;
}
  where
    by : (a b : ℕ) (t : Bool) → filter (is_about d) (drop (cond t (with_taken count (G.channel a b)) (G.channel a b)).got (cond t (with_taken count (G.channel a b)) (G.channel a b)).sent)
        ≡ about_in G d a b
    by a b true = refl
    by a b false = refl

pub unmoved_line : WayPutLaws → (G : Facts) (line : Line) (d : ℕ) → IsBounded G → IsAside d line → IsUnmoved G (after_line G line) d
unmoved_line rows G (lines.Born e kind parent ns blocks) d bounded aside = absurd aside
unmoved_line rows G (lines.Heard e of) d bounded aside = absurd aside
unmoved_line rows G (lines.Got x y) d bounded aside = absurd aside
unmoved_line rows G (lines.Sent x y r) d bounded aside = unmoved_sent G x y r d bounded aside
unmoved_line rows G (lines.Way e over) d bounded aside = unmoved_way G e over d aside
unmoved_line rows G (lines.Asked e by) d bounded aside =
    let left = asked_leaves_rows G e by in
    unmoved_by G (after_line G (lines.Asked e by)) d (λ a b. refl) (λ a. refl) (asked_leaves G e by)
    (λ a. ap (λ table. at table d) (left.backs a)) (λ a. ap (λ table. at table d) (left.routes a))
unmoved_line rows G (lines.Back e of over) d bounded aside =
    let H = after_line G (lines.Back e of over) in
    unmoved_by G H d (λ a b. refl) (λ a. refl) (back_leaves G e of over).way
    (λ a. other_row rows (backs_of G) (backs_of H) e.0 of.0 over (back_puts G e of over) d a aside)
    (λ a. ap (λ table. at table d) (back_leaves_routes G e of over a))
unmoved_line rows G (lines.Route e of over) d bounded aside =
    let H = after_line G (lines.Route e of over) in
    unmoved_by G H d (λ a b. refl) (λ a. refl) (route_leaves G e of over).way
    (λ a. ap (λ table. at table d) (route_leaves_backs G e of over a))
    (λ a. other_row rows (routes_of G) (routes_of H) e.0 of.0 over (route_puts G e of over) d a aside)
unmoved_line rows G (lines.Admitted e) d bounded aside = unmoved_admitted G e d aside
unmoved_line rows G (lines.Took x y count) d bounded aside = unmoved_took G x y count d
unmoved_line rows G (lines.Do (commands.Pool blocks)) d bounded aside =
    unmoved_by G (after_line G (lines.Do (commands.Pool blocks))) d (λ a b. refl) (λ e. refl) (λ e. refl) (λ e. refl) (λ e. refl)
unmoved_line rows G line d bounded aside = unmoved_by G (after_line G line) d (λ a b. refl) (λ e. refl) (λ e. refl) (λ e. refl) (λ e. refl)

-- a line within a step: it bears no enclave, hears of no death and gets no record
abbrev pub IsWithinStep : Line → Type 0
IsWithinStep line = Lacks (Birth ∷ Death ∷ Receipt ∷ []) line

abbrev pub AreWithinStep : List Line → Type 0
AreWithinStep journal = AllByRecursion IsWithinStep journal

pub inner_aside : (line : Line) (d : ℕ) → IsAside d line → IsWithinStep line
inner_aside (lines.Sent x y r) d aside = tt
inner_aside _ d aside = search

pub inner_all : (ls : List Line) (d : ℕ) → AreAside d ls → AreWithinStep ls
inner_all [] d aside = tt
inner_all (l ∷ ls) d aside = (inner_aside l d aside.0, inner_all ls d aside.1)

pub bounded_line : (G : Facts) (line : Line) → IsBounded G → IsWithinStep line → IsBounded (after_line G line)
bounded_line G (lines.Born e kind parent ns blocks) bounded inner = absurd inner
bounded_line G (lines.Heard e of) bounded inner = absurd inner
bounded_line G (lines.Got x y) bounded inner = absurd inner
bounded_line G (lines.Sent x y r) bounded inner = bounded_sent G x y r bounded
bounded_line G (lines.Took x y count) bounded inner = λ a b. by a b (eqb a x.0 && eqb b y.0)
  where
    by : (a b : ℕ) (t : Bool) → (cond t (with_taken count (G.channel a b)) (G.channel a b)).got ≤ length (cond t (with_taken count (G.channel a b)) (G.channel a b)).sent
    by a b true = bounded a b
    by a b false = bounded a b
bounded_line G (lines.Do (commands.Pool blocks)) bounded inner = bounded
bounded_line G _ bounded inner = bounded

-- ---- several lines

pub record AreUnmoved (G H : Facts) (d : ℕ) : Type 0 where
  pub same : IsUnmoved G H d
  pub bounded : IsBounded H

pub unmoved_lines : WayPutLaws → (G : Facts) (ls : List Line) (d : ℕ) → IsBounded G → AreAside d ls → AreUnmoved G (after_lines G ls) d
unmoved_lines rows G [] d bounded aside = record { same = unmoved-refl G d; bounded = bounded }
unmoved_lines rows G (l ∷ ls) d bounded aside =
    let one = unmoved_line rows G l d bounded aside.0 in
    let more = unmoved_lines rows (after_line G l) ls d (bounded_line G l bounded (inner_aside l d aside.0)) aside.1 in
    record { same = unmoved-trans G (after_line G l) (after_lines (after_line G l) ls) d one more.same; bounded = more.bounded }

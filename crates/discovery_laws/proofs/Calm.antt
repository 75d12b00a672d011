-- What holds in the middle of a step of who asks and who knows, and lines that leave it as it is.
use Rattle.std.proofs.Common.{◌≡◌, ◌≤◌, ℕ, List, [], ◌∷◌, Bool, true, false, not, ◌&&◌, ◌||◌, eqb, refl, sym, ap, ◌∙◌, arith}
use Rattle.std.specs.List.{AllByRecursion}
use Rattle.xemem_language.specs.declared.command.Command.TheVariants as commands
use Rattle.xemem_language.specs.declared.line.Line.{Line}
use Rattle.xemem_language.specs.declared.line.Line.TheVariants as lines
use Rattle.xm_num.specs.declared.Enclave.{Enclave}
use Rattle.xemem_language.specs.declared.record.Record.{Record}
use Rattle.global_model.specs.Facts.{Facts, after_line, after_lines, fact_of, has_parent, is_holder, with_taken}
use Rattle.global_model.specs.Channels.{is_child_of}
use Rattle.global_model.specs.Parts.{Birth, Warning, Death, Receipt, Asking, Learning, Lacks}
use Rattle.global_model.specs.Pauses.{MayStandAlone}
use Rattle.global_model.specs.Tree.{IsRooted, parent_of}
use Rattle.discovery_laws.specs.Known.{knows}
use Rattle.discovery_laws.specs.Laws.{TreeLaws}
use Rattle.discovery_laws.proofs.Flights.{one_if, add, pair_has}
use Rattle.discovery_laws.proofs.Effects.{kept_by, holder_kept, parent_kept, has_kept, LeavesWays, admitted_leaves, back_leaves, route_leaves}
use Rattle.discovery_laws.proofs.Asking.{is_query, is_here, IsAlike, AsksSame, same_knows, IsCounted, counted_same, counted_sent}
use Rattle.discovery_laws.proofs.Knowing.{IsKnown, known_same, known_sent}

-- more may be about to know
pub counted_knowing : (owed : ℕ → ℕ → ℕ) (knowing later : ℕ → Bool) (G : Facts) → ((a : ℕ) → one_if (knowing a) ≤ one_if (later a))
    → IsCounted owed knowing G → IsCounted owed later G
counted_knowing owed knowing later G grows old = record {
  within = old.within;
  ascends = old.ascends;
  keyed = old.keyed;
  still = old.still;
  asks = old.asks;
  once = old.once;
  asked = λ a b near. omega (arith, grows a, old.asked a b near);
}

-- the same is owed
pub counted_owed : (owed left : ℕ → ℕ → ℕ) (knowing : ℕ → Bool) (G : Facts) → ((a b : ℕ) → owed a b ≡ left a b)
    → IsCounted owed knowing G → IsCounted left knowing G
counted_owed owed left knowing G same old = record {
  within = old.within;
  ascends = old.ascends;
  keyed = old.keyed;
  still = old.still;
  asks = old.asks;
  once = λ a b. omega (arith, same a b, old.once a b);
  asked = λ a b near. omega (arith, same b a, old.asked a b near);
}

pub record IsAsking (owed : ℕ → ℕ → ℕ) (G : Facts) : Type 0 where
  pub counted : IsCounted owed (knows G) G
  pub known : IsKnown G
  pub rooted : IsRooted (parent_of G)

-- ---- lines that leave all of it

child_kept : (G : Facts) (e : Enclave) (a b : ℕ) → is_child_of (after_line G (lines.Admitted e)) a b ≡ is_child_of G a b
child_kept G e a b = ap (λ has. not (eqb a 0) && has) (kept_by (has_parent b) (has_kept b) G e a)

pub alike_admitted : (G : Facts) (e : Enclave) → IsAlike G (after_line G (lines.Admitted e))
alike_admitted G e = record {
  born = refl;
  server = refl;
  holds = kept_by is_holder holder_kept G e;
  parent = kept_by (λ fact. (fact_of fact).parent.0) parent_kept G e;
  near = λ a b i. child_kept G e a b i || child_kept G e b a i;
  way = (admitted_leaves G e e e).way;
  heard = λ a. refl;
  sent = λ a b. refl;
  got = λ a b. refl;
  cut = λ a b. refl;
}

alike_took : (G : Facts) (x y : Enclave) (n : ℕ) → IsAlike G (after_line G (lines.Took x y n))
alike_took G x y n = record {
  born = refl;
  server = refl;
  holds = λ a. refl;
  parent = λ a. refl;
  near = λ a b. refl;
  way = λ a. refl;
  heard = λ a. refl;
  sent = λ a b. pair_has (λ a b t c. c.sent ≡ (G.channel a b).sent) x.0 y.0 (with_taken n) G.channel a b refl refl;
  got = λ a b. pair_has (λ a b t c. c.got ≡ (G.channel a b).got) x.0 y.0 (with_taken n) G.channel a b refl refl;
  cut = λ a b. pair_has (λ a b t c. c.cut ≡ (G.channel a b).cut) x.0 y.0 (with_taken n) G.channel a b refl refl;
}

-- it asks for no way, tells none, and bears no enclave
abbrev pub IsCalm : Line → Type 0
IsCalm (lines.Sent x y r) = (is_query r || is_here r) ≡ false
IsCalm line = Lacks (Birth ∷ Warning ∷ Death ∷ Receipt ∷ Asking ∷ Learning ∷ []) line

abbrev pub AreCalm : List Line → Type 0
AreCalm journal = AllByRecursion IsCalm journal

neither : (a b : Bool) → (a || b) ≡ false → (a ≡ false) × (b ≡ false)
neither true b is = cc
neither false b is = (refl, is)

pub asking_same : (laws : TreeLaws) (owed : ℕ → ℕ → ℕ) (G H : Facts) → AsksSame G H → IsAsking owed G → IsAsking owed H
asking_same laws owed G H same old = record {
  counted = counted_knowing owed (knows G) (knows H) H (λ a. let is : one_if (knows H a) ≡ one_if (knows G a) = ap one_if (same_knows G H same.alike a) in omega (arith, is))
      (counted_same G H same owed (knows G) old.counted);
  known = known_same laws G H same.alike old.rooted old.known;
  rooted = record { lower = λ e some. rw (same.alike.parent e) (old.rooted.lower e some) };
}

pub asking_sent : (owed : ℕ → ℕ → ℕ) (G : Facts) (x y : Enclave) (r : Record) → (is_query r || is_here r) ≡ false
    → IsAsking owed G → IsAsking owed (after_line G (lines.Sent x y r))
asking_sent owed G x y r calm old =
    let both = neither (is_query r) (is_here r) calm in
    record {
      counted = counted_sent owed owed (knows G) G x y r
          (λ a b.
          let here : add (is_here r) x.0 y.0 a b ≡ 0 = ap (λ t. add t x.0 y.0 a b) both.1 in
          let query : add (is_query r) y.0 x.0 a b ≡ 0 = ap (λ t. add t y.0 x.0 a b) both.0 in
          omega (arith, here, query))
          (λ is. let clash : true ≡ false = sym is ∙ both.0 in absurd (cc)) old.counted;
      known = known_sent G x y r old.counted.within (λ is. let clash : true ≡ false = sym is ∙ calm in absurd (cc))
          (λ is. let clash : true ≡ false = sym is ∙ both.1 in absurd (cc)) old.known;
      rooted = old.rooted;
    }

-- where the enclaves, the channels and the deaths are as before by themselves
still_same : (G H : Facts) → LeavesWays G H → H.born ≡ G.born → H.server ≡ G.server → ((e : ℕ) → H.enclave e ≡ G.enclave e)
    → ((a b : ℕ) → H.channel a b ≡ G.channel a b) → ((e : ℕ) → H.heard e ≡ G.heard e) → AsksSame G H
still_same G H leaves born server enclaves channels heard = record {
  alike = record {
    born = born;
    server = server;
    holds = λ e. ap is_holder (enclaves e);
    parent = λ e. ap (λ fact. (fact_of fact).parent.0) (enclaves e);
    near = λ a b i. (not (eqb a 0) && has_parent b (enclaves a i)) || (not (eqb b 0) && has_parent a (enclaves b i));
    way = leaves.way;
    heard = heard;
    sent = λ a b. ap (λ c. c.sent) (channels a b);
    got = λ a b. ap (λ c. c.got) (channels a b);
    cut = λ a b. ap (λ c. c.cut) (channels a b);
  };
  askers = leaves.askers;
}

pub calm_line : (laws : TreeLaws) (owed : ℕ → ℕ → ℕ) (G : Facts) (line : Line) → IsCalm line → IsAsking owed G → IsAsking owed (after_line G line)
calm_line laws owed G (lines.Born e kind parent ns blocks) calm old = absurd calm
calm_line laws owed G (lines.Told e of) calm old = absurd calm
calm_line laws owed G (lines.Heard e of) calm old = absurd calm
calm_line laws owed G (lines.Got x y) calm old = absurd calm
calm_line laws owed G (lines.Asked e by) calm old = absurd calm
calm_line laws owed G (lines.Way e over) calm old = absurd calm
calm_line laws owed G (lines.Sent x y r) calm old = asking_sent owed G x y r calm old
calm_line laws owed G (lines.Admitted e) calm old = asking_same laws owed G (after_line G (lines.Admitted e))
    (record { alike = alike_admitted G e; askers = (admitted_leaves G e e e).askers }) old
calm_line laws owed G (lines.Took x y n) calm old = asking_same laws owed G (after_line G (lines.Took x y n))
    (record { alike = alike_took G x y n; askers = λ e. refl }) old
calm_line laws owed G (lines.Back e d over) calm old = asking_same laws owed G (after_line G (lines.Back e d over))
    (still_same G (after_line G (lines.Back e d over)) (back_leaves G e d over) refl refl (λ e. refl) (λ a b. refl) (λ e. refl)) old
calm_line laws owed G (lines.Route e d over) calm old = asking_same laws owed G (after_line G (lines.Route e d over))
    (still_same G (after_line G (lines.Route e d over)) (route_leaves G e d over) refl refl (λ e. refl) (λ a b. refl) (λ e. refl)) old
calm_line laws owed G (lines.Do (commands.Pool blocks)) calm old = asking_same laws owed G (after_line G (lines.Do (commands.Pool blocks)))
    (still_same G (after_line G (lines.Do (commands.Pool blocks))) (record { way = λ e. refl; askers = λ e. refl }) refl refl (λ e. refl) (λ a b. refl) (λ e. refl)) old
calm_line laws owed G line calm old = asking_same laws owed G (after_line G line)
    (still_same G (after_line G line) (record { way = λ e. refl; askers = λ e. refl }) refl refl (λ e. refl) (λ a b. refl) (λ e. refl)) old

pub calm_lines : (laws : TreeLaws) (owed : ℕ → ℕ → ℕ) (ls : List Line) (G : Facts) → AreCalm ls → IsAsking owed G → IsAsking owed (after_lines G ls)
calm_lines laws owed [] G calm old = old
calm_lines laws owed (l ∷ ls) G calm old = calm_lines laws owed ls (after_line G l) calm.1 (calm_line laws owed G l calm.0 old)

-- a line that may stand by itself is calm
pub calm_alone : (G : Facts) (line : Line) → MayStandAlone G line → IsCalm line
calm_alone G (lines.Sent x y r) may = absurd may
calm_alone G _ may = search

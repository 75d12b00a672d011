-- A record of a call goes straight to its goal.
use Rattle.std.proofs.Common.{◌≡◌, ◌≢◌, ◌⊎◌, ◌+◌, ℕ, List, [], ◌∷◌, length, Bool, true, false, cond, ◌&&◌, eqb, Option, None, Some, is_some, inl, inr, refl, sym, ap, subst, arith}
use Rattle.std.specs.List.{AllByRecursion}
use Rattle.std.proofs.lemmas.Bool.{eqb-true, and_parts, or_cases}
use Rattle.xm_num.specs.declared.Enclave.{Enclave}
use Rattle.xemem_language.specs.declared.command.Command.TheVariants as commands
use Rattle.xemem_language.specs.declared.line.Line.{Line}
use Rattle.xemem_language.specs.declared.line.Line.TheVariants as lines
use Rattle.xemem_language.specs.declared.record.Record.{Record}
use Rattle.xemem_language.specs.declared.record.Body.{Body}
use Rattle.xemem_language.specs.declared.record.Body.TheVariants as bodies
use Rattle.global_model.specs.Facts.{Facts, after_line, after_lines, with_got, with_sent, with_taken}
use Rattle.global_model.specs.Tree.{IsRooted, distance, parent_of}
use Rattle.discovery_laws.specs.Known.{holds, knows, route_at, way_at}
use Rattle.discovery_laws.specs.Ways.{IsLeading}
use Rattle.call_laws.specs.Laws.{TreePaths}
use Rattle.call_laws.specs.Onward.{IsForCaller, IsForServer, IsOnward, OnwardBy}
use Rattle.call_laws.specs.Roads.{IsReachable}
use Rattle.call_laws.proofs.Rows.{all_append}
use Rattle.call_laws.proofs.Roads.{IsMore, Toward, road_more}
use Rattle.call_laws.proofs.Guides.{pair_sents}

-- ---- on the path

-- from o on each of these enclaves, the last first, is followed on the path to g by the one behind it, and the last by b
abbrev pub Came : Facts → ℕ → ℕ → ℕ → List ℕ → Type 0
Came G g o b [] = b ≡ o
Came G g o b (a ∷ before) = Toward G a g b × Came G g o a before

-- b and each of these but the last has a route to d, over the next one; the last is d
abbrev pub Ahead : Facts → ℕ → ℕ → List ℕ → Type 0
Ahead G d b [] = b ≡ d
Ahead G d b (c ∷ after) = (is_some (route_at G b d) ≡ true) × Toward G b d c × Ahead G d c after

-- on its way from o to g a record was sent from a to b
pub record IsSentOn (G : Facts) (g o a b : ℕ) : Type 0 where
  pub before : List ℕ
  pub came : Came G g o a before
  pub next : Toward G a g b

pub record IsToServer (G : Facts) (o a b : ℕ) : Type 0 where
  pub holder : ℕ
  pub holds : holds G holder ≡ true
  pub sent : IsSentOn G holder o a b
  pub knowing : knows G b ≡ true

pub record IsToCaller (G : Facts) (a b : ℕ) (r : Record) : Type 0 where
  pub caller : Enclave
  pub is : r.dest ≡ Some caller
  pub sent : IsSentOn G caller.0 r.origin.0 a b
  pub after : List ℕ
  pub ahead : Ahead G caller.0 b after

-- what holds of a record of a call, that was sent from a to b
abbrev pub BoundBy : Facts → ℕ → ℕ → Record → Body → Type 0
BoundBy G a b r bodies.NameReq = IsToServer G r.origin.0 a b × IsReachable G r.origin.0
BoundBy G a b r (bodies.Named segid) = IsToCaller G a b r
BoundBy G a b r (bodies.Unname segid) = IsToServer G r.origin.0 a b
BoundBy G a b r body = Unit {0}

abbrev pub Bound : Facts → ℕ → ℕ → Record → Type 0
Bound G a b r = BoundBy G a b r r.body

abbrev pub AreBound : Facts → Type 0
AreBound G = (a b : ℕ) → AllByRecursion (Bound G a b) (G.channel a b).sent

-- ---- more is known

came_more : (G H : Facts) → IsMore G H → (g o b : ℕ) (before : List ℕ) → Came G g o b before → Came H g o b before
came_more G H more g o b [] is = is
came_more G H more g o b (a ∷ before) is = (more.toward a g b is.0, came_more G H more g o a before is.1)

ahead_more : (G H : Facts) → IsMore G H → (d b : ℕ) (after : List ℕ) → Ahead G d b after → Ahead H d b after
ahead_more G H more d b [] is = is
ahead_more G H more d b (c ∷ after) is = (more.routes b d is.0, more.toward b d c is.1, ahead_more G H more d c after is.2)

sent_on_more : (G H : Facts) → IsMore G H → (g o a b : ℕ) → IsSentOn G g o a b → IsSentOn H g o a b
sent_on_more G H more g o a b sent =
    record { before = sent.before; came = came_more G H more g o a sent.before sent.came; next = more.toward a g b sent.next }

to_server_more : (G H : Facts) → IsMore G H → (o a b : ℕ) → IsToServer G o a b → IsToServer H o a b
to_server_more G H more o a b to = record {
  holder = to.holder;
  holds = more.holders to.holder to.holds;
  sent = sent_on_more G H more to.holder o a b to.sent;
  knowing = more.knowing b to.knowing;
}

pub bound_more : (G H : Facts) → IsMore G H → (a b : ℕ) (r : Record) → Bound G a b r → Bound H a b r
bound_more G H more a b r = by r.body
  where
    by : (body : Body) → BoundBy G a b r body → BoundBy H a b r body
    by bodies.NameReq is = (
      to_server_more G H more r.origin.0 a b is.0,
      record { road = road_more G H more r.origin.0 r.origin.0 is.1.road; knowing = more.knowing r.origin.0 is.1.knowing },
    )
    by (bodies.Named segid) is = record {
      caller = is.caller;
      is = is.is;
      sent = sent_on_more G H more is.caller.0 r.origin.0 a b is.sent;
      after = is.after;
      ahead = ahead_more G H more is.caller.0 b is.after is.ahead;
    }
    by (bodies.Unname segid) is = to_server_more G H more r.origin.0 a b is
    by _ is = tt

-- ---- what is sent by lines

abbrev pub SentBy : (ℕ → ℕ → Record → Type 0) → Line → Type 0
SentBy P (lines.Sent x y r) = P x.0 y.0 r
SentBy P line = Unit {0}

abbrev pub AreSent : (ℕ → ℕ → Record → Type 0) → List Line → Type 0
AreSent P ls = AllByRecursion (SentBy P) ls

sent_line : (P : ℕ → ℕ → Record → Type 0) (G : Facts) (line : Line) → SentBy P line → ((a b : ℕ) → AllByRecursion (P a b) (G.channel a b).sent)
    → (a b : ℕ) → AllByRecursion (P a b) ((after_line G line).channel a b).sent
sent_line P G (lines.Sent x y r) one old a b = by (eqb a x.0 && eqb b y.0) refl
  where
    here : (eqb a x.0 && eqb b y.0) ≡ true → P a b r
    here is =
        let both = and_parts (eqb a x.0) (eqb b y.0) is in
        subst (λ n. P n b r) (sym (eqb-true a x.0 both.0)) (subst (λ n. P x.0 n r) (sym (eqb-true b y.0 both.1)) one)

    by : (t : Bool) → (eqb a x.0 && eqb b y.0) ≡ t → AllByRecursion (P a b) (cond t (with_sent r (G.channel a b)) (G.channel a b)).sent
    by true is = all_append (P a b) (G.channel a b).sent (r ∷ []) (old a b) (here is, tt)
    by false is = old a b
sent_line P G (lines.Got x y) one old a b =
    subst (AllByRecursion (P a b)) (sym (pair_sents (eqb a x.0 && eqb b y.0) with_got (G.channel a b) (λ c. refl))) (old a b)
sent_line P G (lines.Took x y count) one old a b =
    subst (AllByRecursion (P a b)) (sym (pair_sents (eqb a x.0 && eqb b y.0) (with_taken count) (G.channel a b) (λ c. refl))) (old a b)
sent_line P G (lines.Do (commands.Pool blocks)) one old a b = old a b
sent_line P G line one old a b = old a b

pub sent_lines : (P : ℕ → ℕ → Record → Type 0) (G : Facts) (ls : List Line) → AreSent P ls → ((a b : ℕ) → AllByRecursion (P a b) (G.channel a b).sent)
    → (a b : ℕ) → AllByRecursion (P a b) ((after_lines G ls).channel a b).sent
sent_lines P G [] all old = old
sent_lines P G (l ∷ ls) all old = sent_lines P (after_line G l) ls all.1 (sent_line P G l all.0 old)

-- ---- each is nearer to its goal than the one before it

module _ (tree : TreePaths) (G : Facts) (rooted : IsRooted (parent_of G)) where
  came_far : (g o b : ℕ) (before : List ℕ) → Came G g o b before → distance (parent_of G) o g ≡ distance (parent_of G) b g + length before
  came_far g o b [] is = rw is (omega arith)
  came_far g o b (a ∷ before) is =
      let far = came_far g o a before is.1 in
      let nearer = tree.nearer (parent_of G) G.born a g b rooted is.0 in
      omega (arith, far, nearer)

  pub is_foreign : (g o a b : ℕ) → IsSentOn G g o a b → o ≢ b
  is_foreign g o a b sent same =
      let far = came_far g o a sent.before sent.came in
      let nearer = tree.nearer (parent_of G) G.born a g b rooted sent.next in
      let there : distance (parent_of G) o g ≡ distance (parent_of G) b g = ap (λ n. distance (parent_of G) n g) same in
      omega (arith, far, nearer, there)

  pub no_turn : (g a b c : ℕ) → Toward G a g b → Toward G b g c → c ≢ a
  no_turn g a b c first second same =
      let nearer = tree.nearer (parent_of G) G.born a g b rooted first in
      let further = tree.nearer (parent_of G) G.born b g c rooted second in
      let there : distance (parent_of G) c g ≡ distance (parent_of G) a g = ap (λ n. distance (parent_of G) n g) same in
      omega (arith, nearer, further, there)

  -- ---- over ways and routes

  module _ (leading : IsLeading G) where
    pub server_onward : (a b : ℕ) (r : Record) → IsToServer G r.origin.0 a b → IsForServer G a b r
    server_onward a b r to = record {
      foreign = is_foreign to.holder r.origin.0 a b to.sent;
      goes = elim (or_cases (holds G b) (is_some (way_at G b)) to.knowing) [
        | inl held ↦ inl held
        | inr way ↦ inr (by (way_at G b) refl way)
      ];
    }
      where
        by : (way : Option Enclave) → way_at G b ≡ way → is_some way ≡ true → IsOnward (way_at G b) a
        by None is some = cc
        by (Some z) is some =
            let leads = leading.way b z is in
            let same : leads.holder ≡ to.holder = leading.holder leads.holder to.holder leads.holds to.holds in
            record { neighbour = z; is = is; apart = no_turn to.holder a b z.0 to.sent.next (subst (λ h. Toward G b h z.0) same leads.toward) }

    pub caller_onward : (a b : ℕ) (r : Record) → IsToCaller G a b r → IsForCaller G a b r
    caller_onward a b r to = record {
      foreign = is_foreign to.caller.0 r.origin.0 a b to.sent;
      caller = to.caller;
      is = to.is;
      goes = by to.after to.ahead;
    }
      where
        over : (route : Option Enclave) → route_at G b to.caller.0 ≡ route → is_some route ≡ true → IsOnward (route_at G b to.caller.0) a
        over None is some = cc
        over (Some z) is some = record { neighbour = z; is = is; apart = no_turn to.caller.0 a b z.0 to.sent.next (leading.routes b to.caller.0 z is) }

        by : (after : List ℕ) → Ahead G to.caller.0 b after → (b ≡ to.caller.0) ⊎ IsOnward (route_at G b to.caller.0) a
        by [] is = inl is
        by (c ∷ after) is = inr (over (route_at G b to.caller.0) refl is.0)

    pub bound_onward : (a b : ℕ) (r : Record) → Bound G a b r → OnwardBy G a b r r.body
    bound_onward a b r = by r.body
      where
        by : (body : Body) → BoundBy G a b r body → OnwardBy G a b r body
        by bodies.NameReq is = server_onward a b r is.0
        by (bodies.Named segid) is = caller_onward a b r is
        by (bodies.Unname segid) is = server_onward a b r is
        by _ is = tt

-- Each step leaves all records of calls on the way to their goals.
use Rattle.std.proofs.Common.{◌≡◌, ℕ, List, [], ◌∷◌, ◌++◌, Bool, true, false, cond, Option, None, Some, refl, ap, ◌∙◌, subst}
use Rattle.std.specs.List.{AllByRecursion}
use Rattle.xm_num.specs.declared.Enclave.{Enclave}
use Rattle.xm_num.specs.declared.Pid.{Pid}
use Rattle.xm_num.specs.declared.Segid.{Segid}
use Rattle.xemem_language.specs.declared.call.Call.{Call}
use Rattle.xemem_language.specs.declared.call.Call.TheVariants as calls
use Rattle.xemem_language.specs.declared.line.Line.{Line}
use Rattle.xemem_language.specs.declared.line.Line.TheVariants as lines
use Rattle.xemem_language.specs.declared.record.Record.{Record}
use Rattle.enclave_rules.specs.Core.{host}
use Rattle.enclave_rules.specs.Calls.{at_hand}
use Rattle.enclave_rules.specs.Hand.{Hand}
use Rattle.enclave_rules.specs.Segments.{make_acts}
use Rattle.enclave_rules.specs.Steps.{adopt_lines, child_lines, told_lines}
use Rattle.global_model.specs.Facts.{Facts}
use Rattle.global_model.specs.Pauses.{Asks, Bears, Handles, Hosts, IsPause, MayCome, Step, Takes, Written, asked_lines, written_by}
use Rattle.global_model.specs.Views.{view_of}
use Rattle.discovery_laws.specs.Known.{in_flight}
use Rattle.discovery_laws.specs.Ways.{IsLeading}
use Rattle.call_laws.specs.Laws.{TreePaths}
use Rattle.call_laws.proofs.Flights.{next_flight}
use Rattle.call_laws.proofs.Onward.{AreBound, AreSent, Bound, SentBy}
use Rattle.call_laws.proofs.Requests.{all-behind}
use Rattle.call_laws.proofs.Roads.{AreRoads}
use Rattle.call_laws.proofs.Steps.{free_alone}
use Rattle.call_laws.proofs.Each.{each_birth, each_either, each_make, each_remove}
use Rattle.call_laws.proofs.Tied.{IsFreeOfCalls}
use Rattle.xemem_language.specs.Calls.{call_of}
use Rattle.xemem_language.specs.declared.call.ProcessCall.{ProcessCall}
use Rattle.xemem_language.specs.declared.command.Command.{Command}
use Rattle.xemem_language.specs.declared.command.Command.TheVariants as commands
use Rattle.enclave_rules.specs.Segments.{remove_acts}
use Rattle.global_model.specs.Facts.{after_lines, is_living_enclave}
use Rattle.global_model.specs.Refusals.{conditions_of, refusal_of}
use Rattle.global_model.specs.Pauses.{MayAsk}
use Rattle.discovery_laws.specs.Known.{is_admitted_at}
use Rattle.call_laws.proofs.Asks.{is_not, none_holds, some_same}
use Rattle.call_laws.proofs.Bounds.{bound_handled, first_server, sent_free, sent_for_calls, server_way}
use Rattle.call_laws.proofs.Onward.{bound_more, sent_lines}
use Rattle.call_laws.proofs.Roads.{IsMore}
use Rattle.call_laws.proofs.Rows.{all_more}

-- ---- an enclave whose process makes or removes

-- the call needs an enclave that is admitted
abbrev pub needs_ready : Call → Bool
needs_ready (calls.Alloc page n) = false
needs_ready (calls.Make addr size mode) = true
needs_ready (calls.Remove segid) = true

pub record IsServing (G : Facts) (e : ℕ) : Type 0 where
  pub living : is_living_enclave (G.enclave e) ≡ true
  pub admitted : is_admitted_at G e ≡ true

pub asked_serving : (G : Facts) (command : Command) (e : Enclave) (p : Pid) (call : Call) → call_of command ≡ Some (record { enclave = e; pid = p; call = call })
    → refusal_of G command ≡ None → needs_ready call ≡ true → IsServing G e.0
asked_serving G command e p call asks allowed ready = by command asks allowed
  where
    moved : (f : Enclave) (q : Pid) (c : Call) → ◌≡◌ {A = Option ProcessCall} (Some (record { enclave = f; pid = q; call = c })) (Some (record { enclave = e; pid = p; call = call }))
        → IsServing G f.0 → IsServing G e.0
    moved f q c is there =
        let whole = some_same is in
        let enclave : f ≡ e = ap (λ (a : ProcessCall). a.enclave) whole in
        subst (λ (e : Enclave). IsServing G e.0) enclave there

    by : (command : Command) → call_of command ≡ Some (record { enclave = e; pid = p; call = call }) → refusal_of G command ≡ None → IsServing G e.0
    by (commands.Alloc f q page n) asks allowed =
        let none : false ≡ needs_ready call = ap (λ (a : ProcessCall). needs_ready a.call) (some_same asks) in
        let clash : false ≡ true = none ∙ ready in
        absurd (cc)
    by (commands.Make f q addr size mode) asks allowed =
        let none = none_holds (conditions_of G (commands.Make f q addr size mode)) allowed in
        moved f q (calls.Make addr size mode) asks
        (record { living = is_not (is_living_enclave (G.enclave f.0)) none.0; admitted = is_not (is_admitted_at G f.0) none.1.1.0 })
    by (commands.Remove f q segid) asks allowed =
        let none = none_holds (conditions_of G (commands.Remove f q segid)) allowed in
        moved f q (calls.Remove segid) asks
        (record { living = is_not (is_living_enclave (G.enclave f.0)) none.0; admitted = is_not (is_admitted_at G f.0) none.1.1.0 })
    by _ asks allowed = cc

module _ (G : Facts) (roads : AreRoads G) (leading : IsLeading G) (e : Enclave) (admitted : is_admitted_at G e.0 ≡ true) where
  bound_make : (hand : Hand) (p : Pid) → AreSent (Bound G) (make_acts hand (view_of G e) p)
  bound_make hand p = each_make (SentBy (Bound G)) (sent_for_calls (Bound G)) hand (view_of G e) p
      (λ z way. (first_server G roads leading e.0 z (server_way G e z way), roads.ready e.0 admitted))

  bound_remove : (segid : Segid) → AreSent (Bound G) (remove_acts (view_of G e) segid)
  bound_remove segid = each_remove (SentBy (Bound G)) (sent_for_calls (Bound G)) (view_of G e) segid
      (λ z way. first_server G roads leading e.0 z (server_way G e z way))

-- ---- each step

bound_call : (G : Facts) → AreRoads G → IsLeading G → (e : Enclave) (p : Pid) (call : Call) → MayAsk G e p call → AreSent (Bound G) (asked_lines (view_of G e) p call)
bound_call G roads leading e p (calls.Alloc page n) may = tt
bound_call G roads leading e p (calls.Make addr size mode) may =
    bound_make G roads leading e (asked_serving G may.command e p (calls.Make addr size mode) may.asks may.allowed refl).admitted (at_hand (view_of G e) p (calls.Make addr size mode)) p
bound_call G roads leading e p (calls.Remove segid) may =
    bound_remove G roads leading e (asked_serving G may.command e p (calls.Remove segid) may.asks may.allowed refl).admitted segid

-- of the next record that is got
pub next_bound : (G : Facts) → AreBound G → (x y : Enclave) (r : Record) (rs : List Record) → in_flight G x.0 y.0 ≡ r ∷ rs → Bound G x.0 y.0 r
next_bound G bound x y r rs is =
    let all = all-behind (Bound G x.0 y.0) (G.channel x.0 y.0).got (G.channel x.0 y.0).sent (bound x.0 y.0) in
    let first : AllByRecursion (Bound G x.0 y.0) (r ∷ rs) = subst (AllByRecursion (Bound G x.0 y.0)) is all in
    first.0

pub bound_step : (tree : TreePaths) (G : Facts) (step : Step) → IsPause G → MayCome G step → AreRoads G → IsLeading G → AreBound G → AreSent (Bound G) (written_by G step)
bound_step tree G (Written line) pause may roads leading bound = sent_free G (line ∷ []) (free_alone G line may.1, tt)
bound_step tree G (Takes x y count) pause may roads leading bound = (tt, tt)
bound_step tree G (Handles x y r) pause may roads leading bound =
    let next = next_flight G x.0 y.0 r may.others may.next in
    bound_handled tree G (tree.rooted G pause.tree) roads leading x y r (next_bound G bound x y r next.others next.is)
bound_step tree G (Asks e p call) pause may roads leading bound = bound_call G roads leading e p call may.1
bound_step tree G (Hosts ns blocks) pause may roads leading bound = (tt, sent_free G (cond ns (lines.Admitted host ∷ []) []) (each_either IsFreeOfCalls ns (lines.Admitted host ∷ []) [] (tt, tt) tt))
bound_step tree G (Bears child kind parent ns blocks) pause may roads leading bound = (
  tt,
  sent_free G ((told_lines child (G.heard parent.0) ++ child_lines child parent ns) ++ adopt_lines (view_of G parent) child)
      (each_birth IsFreeOfCalls child parent ns (G.heard parent.0) (view_of G parent) (λ d. tt) tt (λ a b. tt)),
)

-- the lines after them know more, and so all stays bound
sent_more : (P Q : ℕ → ℕ → Record → Type 0) → ((a b : ℕ) (r : Record) → P a b r → Q a b r) → (ls : List Line) → AreSent P ls → AreSent Q ls
sent_more P Q more [] all = tt
sent_more P Q more (l ∷ ls) all = (by l all.0, sent_more P Q more ls all.1)
  where
    by : (l : Line) → SentBy P l → SentBy Q l
    by (lines.Sent x y r) is = more x.0 y.0 r is
    by _ is = tt

pub bound_lines : (G : Facts) (ls : List Line) → IsMore G (after_lines G ls) → AreSent (Bound G) ls → AreBound G → AreBound (after_lines G ls)
bound_lines G ls more sent bound =
    let H = after_lines G ls in
    sent_lines (Bound H) G ls (sent_more (Bound G) (Bound H) (λ a b r is. bound_more G H more a b r is) ls sent)
    (λ a b. all_more (Bound G a b) (Bound H a b) (G.channel a b).sent (bound a b) (λ r is. bound_more G H more a b r is))

-- Each step of a journal is lawful.
use Rattle.std.proofs.Common.{List, [], ◌∷◌, ◌++◌, Bool, cond, ap, ◌∙◌, arith}
use Rattle.std.proofs.lemmas.Bool.{le-ltb}
use Rattle.xm_num.specs.declared.Block.{Block}
use Rattle.xm_num.specs.declared.Enclave.{Enclave}
use Rattle.xm_num.specs.declared.Kind.{Kind}
use Rattle.xm_num.specs.declared.Kind.TheVariants as kinds
use Rattle.xm_num.specs.declared.Pid.{Pid}
use Rattle.xemem_language.specs.declared.call.Call.{Call}
use Rattle.xemem_language.specs.declared.call.Call.TheVariants as calls
use Rattle.xemem_language.specs.declared.line.Line.{Line}
use Rattle.xemem_language.specs.declared.line.Line.TheVariants as lines
use Rattle.enclave_rules.specs.Calls.{at_hand}
use Rattle.enclave_rules.specs.Core.{host}
use Rattle.enclave_rules.specs.Steps.{adopt_lines, child_lines, told_lines}
use Rattle.global_model.specs.Apt.{IsBirth}
use Rattle.global_model.specs.Facts.{Facts, facts_at}
use Rattle.global_model.specs.Flow.{IsTree}
use Rattle.global_model.specs.Pauses.{Asks, Bears, Handles, Hosts, IsPause, MayAsk, MayCome, MayStandAlone, Step, Takes, Written, asked_lines, written_by}
use Rattle.global_model.specs.Views.{view_of}
use Rattle.call_laws.specs.Cells.{makes}
use Rattle.call_laws.specs.Laws.{CallRows}
use Rattle.call_laws.proofs.Tied.{AreFreeOfCalls, GoesOn, IsFreeOfCalls, AreNearAnswered, IsTied, KeepsAt, goes_free, goes_first}
use Rattle.call_laws.proofs.Each.{each_birth, each_either}
use Rattle.call_laws.proofs.Handled.{goes_handled}
use Rattle.call_laws.proofs.Asks.{asked_runs, goes_make, goes_remove, removed_has}
use Rattle.call_laws.proofs.Flights.{next_flight}

-- ---- lines by themselves

pub free_alone : (G : Facts) (line : Line) → MayStandAlone G line → IsFreeOfCalls line
free_alone G (lines.Sent x y r) may = absurd may
free_alone G _ may = search

-- ---- births

keeps_born : (past : List Line) (e : Enclave) (kind : Kind) (parent : Enclave) (ns : Bool) (blocks : List Block) → IsTree (facts_at past) → IsTied past
    → IsBirth (facts_at past) e kind parent ns blocks → KeepsAt past (lines.Born e kind parent ns blocks)
keeps_born past e kind parent ns blocks tree tied birth = record {
  legal = tt;
  next = tt;
  served = ((tree.enclaves e.0).known ∙ le-ltb e.0 (facts_at past).born (let next = birth.next in omega (arith, next)), birth.one);
  sends = tt;
  once = tt;
  gives = tt;
}

goes_born : CallRows → (past : List Line) (e : Enclave) (kind : Kind) (parent : Enclave) (ns : Bool) (blocks : List Block) (ls : List Line) → IsTree (facts_at past)
    → IsTied past → IsBirth (facts_at past) e kind parent ns blocks → AreFreeOfCalls ls → GoesOn past (lines.Born e kind parent ns blocks ∷ ls)
goes_born rows past e kind parent ns blocks ls tree tied birth free =
    goes_first rows past (lines.Born e kind parent ns blocks) ls (keeps_born past e kind parent ns blocks tree tied birth) tt
    (goes_free rows (lines.Born e kind parent ns blocks ∷ past) ls free)

-- ---- each step

goes_call : CallRows → (past : List Line) (e : Enclave) (p : Pid) (call : Call) → MayAsk (facts_at past) e p call → IsTied past → AreNearAnswered past
    → GoesOn past (asked_lines (view_of (facts_at past) e) p call)
goes_call rows past e p (calls.Alloc page n) may tied answered = goes_free rows past [] tt
goes_call rows past e p (calls.Make addr size mode) may tied answered =
    goes_make rows past e p (at_hand (view_of (facts_at past) e) p (calls.Make addr size mode)) tied
    (asked_runs (facts_at past) may.command e p (calls.Make addr size mode) may.asks may.allowed)
    (ap makes may.hand)
goes_call rows past e p (calls.Remove segid) may tied answered =
    goes_remove rows past e segid tied answered (removed_has (facts_at past) may.command e p segid may.asks may.allowed)

pub goes_step : CallRows → (past : List Line) (step : Step) → IsPause (facts_at past) → MayCome (facts_at past) step → IsTied past → AreNearAnswered past → GoesOn past (written_by (facts_at past) step)
goes_step rows past (Written line) pause may tied answered = goes_free rows past (line ∷ []) (free_alone (facts_at past) line may.1, tt)
goes_step rows past (Takes x y count) pause may tied answered = goes_free rows past (lines.Took x y count ∷ []) (tt, tt)
goes_step rows past (Handles x y r) pause may tied answered =
    let next = next_flight (facts_at past) x.0 y.0 r may.others may.next in
    goes_handled rows past x y r next.others tied next.is
goes_step rows past (Asks e p call) pause may tied answered = goes_call rows past e p call may.1 tied answered
goes_step rows past (Hosts ns blocks) pause may tied answered =
    goes_born rows past host kinds.Host host ns blocks (cond ns (lines.Admitted host ∷ []) []) pause.tree tied may.1
    (each_either IsFreeOfCalls ns (lines.Admitted host ∷ []) [] (tt, tt) tt)
goes_step rows past (Bears child kind parent ns blocks) pause may tied answered =
    let G = facts_at past in
    goes_born rows past child kind parent ns blocks ((told_lines child (G.heard parent.0) ++ child_lines child parent ns) ++ adopt_lines (view_of G parent) child) pause.tree tied may.1
    (each_birth IsFreeOfCalls child parent ns (G.heard parent.0) (view_of G parent) (λ d. tt) tt (λ a b. tt))

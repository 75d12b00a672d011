-- The lines of each command are apt, and wherever a command has ended every whole record was got.
use Rattle.std.proofs.Common.{◌≡◌, ◌+◌, ◌/◌, ◌<◌, ◌≤◌, ℕ, suc, List, [], ◌∷◌, ◌++◌, length, take, map, Bool, true, false, ◌&&◌, leb, Option, None, Some, refl, sym, ap, ◌∙◌, subst, arith}
use Rattle.std.specs.List.{range_with_len}
use Rattle.std.specs.Option.{option_map_or}
use Rattle.std.proofs.lemmas.Bool.{eqb-true, and_parts, and_right, le-leb, leb-true, leb-false}
use Rattle.xm_num.specs.declared.Enclave.{Enclave}
use Rattle.xm_num.specs.declared.Pid.{Pid}
use Rattle.xm_num.specs.declared.Vpn.{Vpn}
use Rattle.xm_num.specs.declared.Block.{Block}
use Rattle.xm_num.specs.declared.Kind.{Kind}
use Rattle.xm_num.specs.declared.Kind.TheVariants as kinds
use Rattle.xm_num.specs.declared.Cause.{Cause}
use Rattle.xemem_wire.specs.Table.{is_enclave}
use Rattle.xemem_wire.specs.Spelling.{is_valid}
use Rattle.xemem_language.specs.declared.command.Command.{Command}
use Rattle.xemem_language.specs.declared.command.Command.TheVariants as commands
use Rattle.xemem_language.specs.declared.line.Line.{Line}
use Rattle.xemem_language.specs.declared.line.Line.TheVariants as lines
use Rattle.xemem_language.specs.Ranges.{IsInRange}
use Rattle.enclave_rules.specs.Built.{is_cokernel}
use Rattle.enclave_rules.specs.Core.{host, is_guest}
use Rattle.enclave_rules.specs.View.{View}
use Rattle.enclave_rules.specs.Sending.{knows_way}
use Rattle.enclave_rules.specs.Steps.{query_of, child_lines, birth_lines, adopt_lines}
use Rattle.global_model.specs.Facts.{Facts, no_facts, facts_after, is_living_enclave, after_line, after_lines}
use Rattle.global_model.specs.Channels.{arriving, is_neighbour, was_born, waiting_in}
use Rattle.global_model.specs.Space.{Mapping, space_of, blocks_left}
use Rattle.global_model.specs.Refusals.{conditions_of, refusal_of}
use Rattle.global_model.specs.Views.{view_of}
use Rattle.global_model.specs.Place.{may_stand, IsPlacedAfter, IsPlaced}
use Rattle.global_model.specs.Due.{next_enclave, touched_lines, acts_of, step_lines, journal_from, journal_of}
use Rattle.global_model.specs.Apt.{IsBirth, IsNear, NothingArrives, IsApt, AreApt}
use Rattle.global_model.proofs.Pasts.{after_lines-append}
use Rattle.global_model.proofs.Refused.{AreUnmet, all_unmet, not_false}
use Rattle.global_model.proofs.Tree.{near-turned, near_living, living_born, near_newborn}
use Rattle.global_model.proofs.Sound.{IsSound, sound_line, sound_start, apt_append}
use Rattle.global_model.proofs.Tells.{tells_bytes, tells_names, tells_routes, tells_states}
use Rattle.xm_num.specs.declared.Segid.{Segid}
use Rattle.xemem_language.specs.Ranges.{IsName}
use Rattle.enclave_rules.specs.Segments.{make_acts, remove_acts}
use Rattle.global_model.proofs.Writes.{each-append, each_either, writes_make, writes_remove}
use Rattle.global_model.proofs.Turns.{begin_turn, end_turn, lives_in, IsClose, IsProper, AreProper, IsUpTo, proper_lines, number_fits, proper_writes, knows_proper}
use Rattle.global_model.proofs.Deliveries.{proper_tells, deliver_up_to, settle_up_to}

-- What holds wherever a command has ended, so many commands having been carried out. No enclave is born before the second.
pub record IsReadyAfter (before : ℕ) (G : Facts) : Type 0 where
  pub sound : IsSound G
  pub got : NothingArrives G
  pub unborn : before ≤ 1 → G.born ≡ 0

-- lines that are apt, and leave it
pub record IsAptRun (before : ℕ) (G : Facts) (journal : List Line) : Type 0 where
  pub apt : AreApt G journal
  pub ready : IsReadyAfter before (after_lines G journal)

-- a command's `do` line, but for the pool's
abbrev pub begun : Facts → Command → Facts
begun G command = after_line G (lines.Do command)

-- ---- one command

-- a command, where one or more stand before it, whose acts are apt where it isn't refused
module _ (before : ℕ) (G : Facts) (c : Command) (late : 1 ≤ before) where
  up_to_run : (near : ℕ → ℕ → Bool) (lives : ℕ → Bool) (H : Facts) (journal : List Line) → IsUpTo near lives 0 0 [] H journal → IsAptRun (before + 1) H journal
  up_to_run near lives H journal up = record {
    apt = up.apt;
    ready = record { sound = up.turn.sound; got = end_turn near lives 0 0 (after_lines H journal) up.turn; unborn = λ few. absurd (omega (arith, few, late)) };
  }

  with_refusal : IsApt G (lines.Do c) → IsReadyAfter before (begun G c) → (refusal_of G c ≡ None → IsAptRun (before + 1) (begun G c) (acts_of (begun G c) c))
      → IsAptRun (before + 1) G (step_lines G c)
  with_refusal apt ready acts = by (refusal_of G c) refl
    where
      by : (o : Option Cause) → refusal_of G c ≡ o
          → IsAptRun (before + 1) G (lines.Do c ∷ option_map_or (λ cause. lines.Refused cause ∷ []) o (acts_of (begun G c) c))
      by None is = let run = acts is in record { apt = (apt, run.apt); ready = run.ready }
      by (Some cause) is = record {
        apt = (apt, (tt, tt));
        ready = record { sound = ready.sound; got = ready.got; unborn = λ few. absurd (omega (arith, few, late)) };
      }

  -- one whose acts neither bear an enclave nor take bytes
  run_proper : IsApt G (lines.Do c) → IsReadyAfter before (begun G c)
      → (refusal_of G c ≡ None → AreProper (is_neighbour (begun G c)) (lives_in (begun G c)) (acts_of (begun G c) c)) → IsAptRun (before + 1) G (step_lines G c)
  run_proper apt ready proper =
      let H = begun G c in
      with_refusal apt ready (λ none. up_to_run (is_neighbour H) (lives_in H) H (acts_of H c)
      (proper_lines (is_neighbour H) (lives_in H) 0 0 [] (acts_of H c) H (proper none) (begin_turn 0 0 H ready.sound ready.got)))

-- ---- births

-- an enclave is born, and lines follow that bear none and take no bytes
run_born : (before : ℕ) (H : Facts) (e : Enclave) (kind : Kind) (parent : Enclave) (ns : Bool) (blocks : List Block) (more : List Line) → 1 ≤ before
    → IsReadyAfter before H → IsBirth H e kind parent ns blocks
    → AreProper (is_neighbour (after_line H (lines.Born e kind parent ns blocks))) (lives_in (after_line H (lines.Born e kind parent ns blocks))) more
    → IsAptRun (before + 1) H (lines.Born e kind parent ns blocks ∷ more)
run_born before H e kind parent ns blocks more late ready birth proper =
    let line = lines.Born e kind parent ns blocks in
    let K = after_line H line in
    let sound : IsSound K = sound_line H line ready.sound birth in
    let up = proper_lines (is_neighbour K) (lives_in K) 0 0 [] more K proper (begin_turn 0 0 K sound ready.got) in
    let run = up_to_run before K (commands.ShowPool) late (is_neighbour K) (lives_in K) K more up in
    record { apt = (birth, run.apt); ready = run.ready }

valid_query : (e : Enclave) → is_enclave e.0 ≡ true → is_valid (query_of e) ≡ true
unfolding is_valid
valid_query e is = rw is refl

-- what follows a birth: the child admits itself or asks its parent, and the parent may ask the child
proper_birth : (near : ℕ → ℕ → Bool) (lives : ℕ → Bool) (child parent : Enclave) (ns : Bool) (v : View) → v.me ≡ parent
    → IsClose near lives child parent → IsClose near lives parent child → is_enclave child.0 ≡ true → is_enclave parent.0 ≡ true
    → AreProper near lives (child_lines child parent ns ++ adopt_lines v child)
proper_birth near lives child parent ns v me up down known_child known_parent =
    let P = IsProper near lives in
    let asks : AreProper near lives (adopt_lines v child)
    = rw me (each_either P (knows_way v) [] (lines.Sent parent child (query_of parent) ∷ []) tt ((down, valid_query parent known_parent), tt)) in
    let own : AreProper near lives (child_lines child parent ns)
    = each_either P ns (lines.Admitted child ∷ []) (lines.Sent child parent (query_of child) ∷ []) (up.living, tt) ((up, valid_query child known_child), tt) in
    each-append P (child_lines child parent ns) (adopt_lines v child) own asks

run_boot : (before : ℕ) (G : Facts) (kind : Kind) (parent : Enclave) (count : ℕ) (ns : Bool) → 1 ≤ before → IsReadyAfter before G → is_guest kind ≡ false
    → IsAptRun (before + 1) G (step_lines G (commands.Boot kind parent count ns))
run_boot before G kind parent count ns late ready plain =
    let c = commands.Boot kind parent count ns in
    let B = begun G c in
    let begin : IsReadyAfter before B = record { sound = sound_line G (lines.Do c) ready.sound tt; got = ready.got; unborn = ready.unborn } in
    with_refusal before G c late tt begin (λ none. acts begin (all_unmet (conditions_of G c) none))
  where
    acts : IsReadyAfter before (begun G (commands.Boot kind parent count ns)) → AreUnmet (conditions_of G (commands.Boot kind parent count ns))
        → IsAptRun (before + 1) (begun G (commands.Boot kind parent count ns)) (acts_of (begun G (commands.Boot kind parent count ns)) (commands.Boot kind parent count ns))
    acts begin unmet =
        let B = begun G (commands.Boot kind parent count ns) in
        let tree = begin.sound.tree in
        let child = next_enclave B in
        let blocks = take count (blocks_left B) in
        let line = lines.Born child kind parent ns blocks in
        let K = after_line B line in
        let lives : is_living_enclave (B.enclave parent.0) ≡ true = not_false _ unmet.0 in
        let lower : parent.0 < B.born = living_born B parent.0 tree lives in
        let room : B.born < 256 = leb-false 256 B.born unmet.1.0 in
        let birth : IsBirth B child kind parent ns blocks = record {
          room = room;
          next = refl;
          under = λ some. lives;
          root = λ first. absurd (omega (arith, first, lower));
          plain = plain;
          one = unmet.1.1.0;
          count = count;
          lowest = refl;
        } in
        let sound : IsSound K = sound_line B line begin.sound birth in
        let up : is_neighbour K child.0 parent.0 ≡ true = near_newborn B child kind parent ns blocks (omega (arith, lower)) in
        let down : is_neighbour K parent.0 child.0 ≡ true = near-turned K parent.0 child.0 ∙ up in
        let proper = proper_birth (is_neighbour K) (lives_in K) child parent ns (view_of B parent) refl
        (record { living = near_living K child.0 parent.0 sound.tree up; beside = up })
        (record { living = near_living K parent.0 child.0 sound.tree down; beside = down })
        (le-leb child.0 255 (omega (arith, room))) (number_fits B.born parent.0 tree.most lower) in
        let more = child_lines child parent ns ++ adopt_lines (view_of B parent) child in
        let run : IsAptRun (before + 1) B (line ∷ more) = run_born before B child kind parent ns blocks more late begin birth proper in
        subst (λ heard. IsAptRun (before + 1) B (birth_lines child kind parent blocks ns heard ++ adopt_lines (view_of B parent) child)) (sym (begin.sound.heard parent.0)) run

run_host : (before : ℕ) (G : Facts) (count : ℕ) (ns : Bool) → before ≡ 1 → IsReadyAfter before G
    → IsAptRun (before + 1) G (step_lines G (commands.Host count ns))
run_host before G count ns second ready =
    let c = commands.Host count ns in
    let B = begun G c in
    let late : 1 ≤ before = omega (arith, second) in
    let none : B.born ≡ 0 = ready.unborn (omega (arith, second)) in
    let begin : IsReadyAfter before B = record { sound = sound_line G (lines.Do c) ready.sound tt; got = ready.got; unborn = ready.unborn } in
    let blocks = take count (blocks_left B) in
    let K = after_line B (lines.Born host kinds.Host host ns blocks) in
    let birth : IsBirth B host kinds.Host host ns blocks = record {
      room = omega (arith, none);
      next = sym none;
      under = λ some. absurd (omega (arith, some));
      root = λ first. refl;
      plain = refl;
      one = and_right ns B.server (begin.sound.unserved none);
      count = count;
      lowest = refl;
    } in
    with_refusal before G c late tt begin (λ not_refused. run_born before B host kinds.Host host ns blocks _ late begin birth
    (each_either (IsProper (is_neighbour K) (lives_in K)) ns (lines.Admitted host ∷ []) [] (refl, tt) tt))

-- ---- deliveries

run_deliver : (before : ℕ) (G : Facts) (x y : Enclave) (count : ℕ) → 1 ≤ before → IsReadyAfter before G → 1 ≤ count
    → IsAptRun (before + 1) G (step_lines G (commands.Deliver x y count))
run_deliver before G x y count late ready some =
    let c = commands.Deliver x y count in
    let B = begun G c in
    let begin : IsReadyAfter before B = record { sound = sound_line G (lines.Do c) ready.sound tt; got = ready.got; unborn = ready.unborn } in
    with_refusal before G c late tt begin (λ none.
    let unmet = all_unmet (conditions_of G c) none in
    let known = and_parts (is_living_enclave (G.enclave y.0)) (was_born G x.0) (not_false _ unmet.0) in
    let between : IsNear B y x = record { living = known.0; near = near-turned G y.0 x.0 ∙ not_false _ unmet.1.0 } in
    up_to_run before B c late (is_neighbour B) (lives_in B) B (acts_of B c)
    (deliver_up_to (is_neighbour B) (lives_in B) x y count B some between (begin_turn 0 0 B begin.sound begin.got)))

run_settle : (before : ℕ) (G : Facts) (most : ℕ) → 1 ≤ before → IsReadyAfter before G → IsAptRun (before + 1) G (step_lines G (commands.Settle most))
run_settle before G most late ready =
    let c = commands.Settle most in
    let B = begun G c in
    let begin : IsReadyAfter before B = record { sound = sound_line G (lines.Do c) ready.sound tt; got = ready.got; unborn = ready.unborn } in
    with_refusal before G c late tt begin (λ none. up_to_run before B c late (is_neighbour B) (lives_in B) B (acts_of B c)
    (settle_up_to (is_neighbour B) (lives_in B) most 0 B (begin_turn 0 0 B begin.sound begin.got)))

-- ---- processes

-- one line, which keeps what arrives and bears nobody
run_line : (before : ℕ) (H : Facts) (line : Line) → 1 ≤ before → IsReadyAfter before H → IsApt H line
    → ((a b : ℕ) → (after_line H line).channel a b ≡ H.channel a b) → IsAptRun (before + 1) H (line ∷ [])
run_line before H line late ready apt channels = record {
  apt = (apt, tt);
  ready = record {
    sound = sound_line H line ready.sound apt;
    got = λ a b. ap arriving (channels a b) ∙ ready.got a b;
    unborn = λ few. absurd (omega (arith, few, late));
  };
}

run_proc : (before : ℕ) (G : Facts) (e : Enclave) (uid gid : ℕ) → 1 ≤ before → IsReadyAfter before G → IsAptRun (before + 1) G (step_lines G (commands.Proc e uid gid))
run_proc before G e uid gid late ready =
    let c = commands.Proc e uid gid in
    let B = begun G c in
    let begin : IsReadyAfter before B = record { sound = sound_line G (lines.Do c) ready.sound tt; got = ready.got; unborn = ready.unborn } in
    with_refusal before G c late tt begin (λ none. let unmet = all_unmet (conditions_of G c) none in run_line before B _ late begin (not_false _ unmet.0, refl) (λ a b. refl))

run_alloc : (before : ℕ) (G : Facts) (e : Enclave) (p : Pid) (page : Vpn) (count : ℕ) → 1 ≤ before → IsReadyAfter before G
    → IsAptRun (before + 1) G (step_lines G (commands.Alloc e p page count))
run_alloc before G e p page count late ready =
    let c = commands.Alloc e p page count in
    let B = begun G c in
    let begin : IsReadyAfter before B = record { sound = sound_line G (lines.Do c) ready.sound tt; got = ready.got; unborn = ready.unborn } in
    with_refusal before G c late tt begin (λ none.
    let unmet = all_unmet (conditions_of G c) none in
    run_line before B _ late begin (record { living = not_false _ unmet.0; running = not_false _ unmet.1.0; count = count; lowest = refl }) (λ a b. refl))

-- ---- calls that may need the name server

-- an enclave that lives, and the host with it
record AreUp (B : Facts) (e : Enclave) : Type 0 where
  own : lives_in B e.0 ≡ true
  host : lives_in B 0 ≡ true

are_up : (B : Facts) (e : Enclave) → IsSound B → is_living_enclave (B.enclave e.0) ≡ true → AreUp B e
are_up B e sound living = record { own = living; host = sound.tree.root (omega (arith, living_born B e.0 sound.tree living)) }

proper_make : (B : Facts) (e : Enclave) (p : Pid) → IsSound B → is_living_enclave (B.enclave e.0) ≡ true
    → AreProper (is_neighbour B) (lives_in B) (make_acts B.hand (view_of B e) p)
proper_make B e p sound living =
    let up : AreUp B e = are_up B e sound living in
    writes_make (IsProper (is_neighbour B) (lives_in B)) (λ x. is_neighbour B e.0 x.0 ≡ true) (λ r. is_valid r ≡ true) (view_of B e)
    (proper_writes (is_neighbour B) (lives_in B) (view_of B e) up.own up.host) (knows_proper (is_neighbour B) (view_of B e) (sound.near e.0)) (λ m is. is)
    (λ p call. up.own) B.hand p

proper_remove : (B : Facts) (e : Enclave) (segid : Segid) → IsName segid.0 → IsSound B → is_living_enclave (B.enclave e.0) ≡ true
    → AreProper (is_neighbour B) (lives_in B) (remove_acts (view_of B e) segid)
proper_remove B e segid range sound living =
    let up : AreUp B e = are_up B e sound living in
    writes_remove (IsProper (is_neighbour B) (lives_in B)) (λ x. is_neighbour B e.0 x.0 ≡ true) (λ r. is_valid r ≡ true) (view_of B e)
    (proper_writes (is_neighbour B) (lives_in B) (view_of B e) up.own up.host) segid (up.own, range) (knows_proper (is_neighbour B) (view_of B e) (sound.near e.0)) (λ m is. is)

run_make : (before : ℕ) (G : Facts) (e : Enclave) (p : Pid) (addr size mode : ℕ) → 1 ≤ before → IsReadyAfter before G
    → IsAptRun (before + 1) G (step_lines G (commands.Make e p addr size mode))
run_make before G e p addr size mode late ready =
    let c = commands.Make e p addr size mode in
    let B = begun G c in
    let begin : IsReadyAfter before B = record { sound = sound_line G (lines.Do c) ready.sound tt; got = ready.got; unborn = ready.unborn } in
    run_proper before G c late tt begin (λ none. let unmet = all_unmet (conditions_of G c) none in proper_make B e p begin.sound (not_false _ unmet.0))

run_remove : (before : ℕ) (G : Facts) (e : Enclave) (p : Pid) (segid : Segid) → 1 ≤ before → IsReadyAfter before G → IsName segid.0
    → IsAptRun (before + 1) G (step_lines G (commands.Remove e p segid))
run_remove before G e p segid late ready range =
    let c = commands.Remove e p segid in
    let B = begun G c in
    let begin : IsReadyAfter before B = record { sound = sound_line G (lines.Do c) ready.sound tt; got = ready.got; unborn = ready.unborn } in
    run_proper before G c late tt begin (λ none. let unmet = all_unmet (conditions_of G c) none in proper_remove B e segid range begin.sound (not_false _ unmet.0))

proper_touched : (near : ℕ → ℕ → Bool) (lives : ℕ → Bool) (e : Enclave) (p : Pid) (page : Vpn) (mapping : Option Mapping)
    → AreProper near lives (touched_lines e p page mapping)
proper_touched near lives e p page None = tt
proper_touched near lives e p page (Some found) = (tt, tt)

-- ---- all commands

run_pool : (before : ℕ) (G : Facts) (blocks : ℕ) → before ≡ 0 → IsReadyAfter before G → IsAptRun (before + 1) G (step_lines G (commands.Pool blocks))
run_pool before G blocks first ready =
    let none : G.born ≡ 0 = ready.unborn (omega (arith, first)) in
    record { apt = (none, tt); ready = record { sound = sound_line G (lines.Do (commands.Pool blocks)) ready.sound none; got = ready.got; unborn = λ few. none } }

pub cokernel_plain : (kind : Kind) → is_cokernel kind ≡ true → is_guest kind ≡ false
cokernel_plain kinds.Host is = refl
cokernel_plain kinds.Cokernel is = refl
cokernel_plain kinds.Vm is = cc

not_built : (b : Bool) → (b && false) ≡ true → ⊥
not_built true is = cc
not_built false is = cc

module _ (before : ℕ) (G : Facts) (ready : IsReadyAfter before G) where
  late_by : (built : Bool) → (leb 2 before && built) ≡ true → 1 ≤ before
  late_by built is = let two : 2 ≤ before = leb-true 2 before (and_parts _ _ is).0 in omega (arith, two)

  -- one that only tells
  run_told : (c : Command) (late : 1 ≤ before) → IsApt G (lines.Do c) → IsReadyAfter before (begun G c)
      → AreProper (is_neighbour (begun G c)) (lives_in (begun G c)) (acts_of (begun G c) c) → IsAptRun (before + 1) G (step_lines G c)
  run_told c late apt begin proper = run_proper before G c late apt begin (λ none. proper)

  -- the `do` line of a command that makes no pool
  begin : (c : Command) → IsApt G (lines.Do c) → ((a b : ℕ) → (begun G c).channel a b ≡ G.channel a b) → (begun G c).born ≡ G.born → IsReadyAfter before (begun G c)
  begin c apt channels born = record {
    sound = sound_line G (lines.Do c) ready.sound apt;
    got = λ a b. ap arriving (channels a b) ∙ ready.got a b;
    unborn = λ few. born ∙ ready.unborn few;
  }

  pub run_step : (c : Command) → may_stand before c ≡ true → IsInRange c → IsAptRun (before + 1) G (step_lines G c)
  run_step (commands.Pool blocks) may range = run_pool before G blocks (eqb-true before 0 (and_parts _ _ may).0) ready
  run_step (commands.Host blocks ns) may range = run_host before G blocks ns (eqb-true before 1 (and_parts _ _ may).0) ready
  run_step (commands.Boot kind parent blocks ns) may range =
      run_boot before G kind parent blocks ns (late_by _ may) ready (cokernel_plain kind (and_parts _ _ may).1)
  run_step (commands.Proc e uid gid) may range = run_proc before G e uid gid (late_by _ may) ready
  run_step (commands.Alloc e p at pages) may range = run_alloc before G e p at pages (late_by _ may) ready
  run_step (commands.Touch e p addr want) may range =
      let c = commands.Touch e p addr want in
      run_told c (late_by _ may) tt (begin c tt (λ a b. refl) refl)
      (proper_touched (is_neighbour G) (lives_in G) e p (record { 0 = addr / 4096 }) (space_of G e.0 p.0 (addr / 4096)))
  run_step (commands.Deliver x y count) may range = run_deliver before G x y count (late_by _ may) ready range.2.0
  run_step (commands.Settle most) may range = run_settle before G most (late_by _ may) ready
  run_step (commands.ShowRoutes e) may range =
      let c = commands.ShowRoutes e in
      run_told c (late_by _ may) tt (begin c tt (λ a b. refl) refl)
      (tells_routes (IsProper (is_neighbour G) (lives_in G)) (proper_tells (is_neighbour G) (lives_in G)) (view_of G e))
  run_step (commands.ShowLink x y) may range =
      let c = commands.ShowLink x y in
      let waiting = waiting_in G x.0 y.0 in
      run_told c (late_by _ may) tt (begin c tt (λ a b. refl) refl)
      (tells_bytes (IsProper (is_neighbour G) (lives_in G)) (proper_tells (is_neighbour G) (lives_in G)) x y (length waiting) 0 waiting)
  run_step (commands.Make e p addr size mode) may range = run_make before G e p addr size mode (late_by _ may) ready
  run_step (commands.Remove e p segid) may range = run_remove before G e p segid (late_by _ may) ready range.2
  run_step commands.ShowNames may range =
      let c = commands.ShowNames in
      run_told c (late_by _ may) tt (begin c tt (λ a b. refl) refl)
      (tells_names (IsProper (is_neighbour G) (lives_in G)) (λ segid owner range. range) (G.names G.holder.0).pairs (ready.sound.named G.holder.0))
  run_step commands.ShowPool may range =
      let c = commands.ShowPool in
      run_told c (late_by _ may) tt (begin c tt (λ a b. refl) refl)
      (tells_states (IsProper (is_neighbour G) (lives_in G)) (proper_tells (is_neighbour G) (lives_in G)) 0 (map G.block (range_with_len 0 G.pool)))
  run_step _ may range = absurd (not_built (leb 2 before) may)

-- ---- whole journals

pub journal_runs : (cs : List Command) (before : ℕ) (G : Facts) → IsReadyAfter before G → IsPlacedAfter before cs → IsAptRun (before + length cs) G (journal_from G cs)
journal_runs [] before G ready placed = let same : before + 0 ≡ before = omega arith in record { apt = tt; ready = subst (λ n. IsReadyAfter n G) (sym same) ready }
journal_runs (c ∷ cs) before G ready placed =
    let ls = step_lines G c in
    let one : IsAptRun (before + 1) G ls = run_step before G ready c placed.0 placed.1 in
    let more : IsAptRun ((before + 1) + length cs) (after_lines G ls) (journal_from (after_lines G ls) cs) = journal_runs cs (before + 1) (after_lines G ls) one.ready placed.2 in
    let same : (before + 1) + length cs ≡ before + suc (length cs) = omega arith in
    let run : IsAptRun ((before + 1) + length cs) G (ls ++ journal_from (after_lines G ls) cs) = record {
      apt = apt_append G ls (journal_from (after_lines G ls) cs) one.apt more.apt;
      ready = subst (IsReadyAfter ((before + 1) + length cs)) (sym (after_lines-append G ls (journal_from (after_lines G ls) cs))) more.ready;
    } in
    subst (λ n. IsAptRun n G (ls ++ journal_from (after_lines G ls) cs)) same run

pub ready_start : IsReadyAfter 0 no_facts
ready_start = record { sound = sound_start; got = λ x y. refl; unborn = λ few. refl }

pub runs_after : (cs : List Command) → IsPlaced cs → IsAptRun (length cs) no_facts (journal_of cs)
runs_after cs placed = let same : 0 + length cs ≡ length cs = omega arith in subst (λ n. IsAptRun n no_facts (journal_of cs)) same (journal_runs cs 0 no_facts ready_start placed)

-- the commands but the last are placed, and the last may stand after them
pub record IsLast (before : ℕ) (cs : List Command) (c : Command) : Type 0 where
  pub front : IsPlacedAfter before cs
  pub may : may_stand (before + length cs) c ≡ true
  pub range : IsInRange c

pub placed_last : (before : ℕ) (cs : List Command) (c : Command) → IsPlacedAfter before (cs ++ c ∷ []) → IsLast before cs c
placed_last before [] c placed =
    let same : before ≡ before + 0 = omega arith in
    record { front = tt; may = ap (λ n. may_stand n c) (sym same) ∙ placed.0; range = placed.1 }
placed_last before (first ∷ cs) c placed =
    let more = placed_last (before + 1) cs c placed.2 in
    let same : before + suc (length cs) ≡ (before + 1) + length cs = omega arith in
    record { front = (placed.0, placed.1, more.front); may = ap (λ n. may_stand n c) same ∙ more.may; range = more.range }

-- what holds before the last of these commands, and what its lines are
pub record IsLastRun (cs : List Command) (c : Command) : Type 0 where
  pub ready : IsReadyAfter (length cs) (facts_after (journal_of cs))
  pub run : IsAptRun (length cs + 1) (facts_after (journal_of cs)) (step_lines (facts_after (journal_of cs)) c)

pub last_runs : (cs : List Command) (c : Command) → IsPlaced (cs ++ c ∷ []) → IsLastRun cs c
last_runs cs c placed =
    let last : IsLast 0 cs c = placed_last 0 cs c placed in
    let ready : IsReadyAfter (length cs) (facts_after (journal_of cs)) = (runs_after cs last.front).ready in
    let same : 0 + length cs ≡ length cs = omega arith in
    record { ready = ready; run = run_step (length cs) (facts_after (journal_of cs)) ready c (ap (λ n. may_stand n c) (sym same) ∙ last.may) last.range }

pub sound_after : (cs : List Command) → IsPlaced cs → IsSound (facts_after (journal_of cs))
sound_after cs placed = (runs_after cs placed).ready.sound

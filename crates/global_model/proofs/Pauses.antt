-- Every journal is one in steps.
use Rattle.std.proofs.Common.{◌≡◌, ◌<◌, ◌+◌, ◌/◌, ◌≤◌, ℕ, zero, suc, min, List, [], ◌∷◌, ◌++◌, length, take, map, Bool, true, false, cond, ◌&&◌, eqb, leb, Option, None, Some, refl, sym, ap, ◌∙◌, subst, arith, append-nil, append_assoc}
use Rattle.std.specs.List.{range_with_len}
use Rattle.std.specs.Option.{option_map_or}
use Rattle.std.proofs.lemmas.Bool.{eqb-false, eqb-true, and_parts, leb-false, and_right}
use Rattle.xm_num.specs.declared.Enclave.{Enclave}
use Rattle.xm_num.specs.declared.Pid.{Pid}
use Rattle.xm_num.specs.declared.Vpn.{Vpn}
use Rattle.xm_num.specs.declared.Want.{Want}
use Rattle.xm_num.specs.declared.Segid.{Segid}
use Rattle.xm_num.specs.declared.Kind.{Kind}
use Rattle.xm_num.specs.declared.Cause.{Cause}
use Rattle.xemem_language.specs.declared.record.Record.{Record}
use Rattle.xemem_language.specs.declared.command.Command.{Command}
use Rattle.xemem_language.specs.declared.command.Command.TheVariants as commands
use Rattle.xemem_language.specs.declared.line.Line.{Line}
use Rattle.xemem_language.specs.declared.line.Line.TheVariants as lines
use Rattle.xemem_language.specs.declared.call.Call.TheVariants as calls
use Rattle.xemem_language.specs.Ranges.{IsInRange}
use Rattle.enclave_rules.specs.Core.{is_guest}
use Rattle.enclave_rules.specs.Steps.{handled_lines}
use Rattle.global_model.specs.Facts.{Facts, after_line, after_lines, no_facts, is_living_enclave}
use Rattle.global_model.specs.Apt.{IsNear, NothingArrives}
use Rattle.global_model.specs.Channels.{arriving, is_neighbour, was_born, waiting_in}
use Rattle.global_model.specs.Views.{view_of}
use Rattle.global_model.specs.Space.{Mapping, space_of, blocks_left, unused_frames}
use Rattle.global_model.specs.Refusals.{conditions_of, refusal_of}
use Rattle.global_model.specs.Place.{may_stand, IsPlacedAfter, IsPlaced}
use Rattle.global_model.specs.Due.{next_enclave, touched_lines, got_lines, took_lines, deliver_lines, next_rest, first_waiting, settle_end, settle_from, acts_of, step_lines, journal_from, journal_of}
use Rattle.global_model.specs.Pauses.{Step, Written, Hosts, Bears, Takes, Handles, Asks, written_by, written_in, MayStandAlone, MayCome, IsPause, AreSteps, IsInSteps}
use Rattle.global_model.proofs.Pasts.{after_lines-append}
use Rattle.global_model.proofs.Refused.{all_unmet, not_false}
use Rattle.global_model.proofs.Tree.{near-turned, living_born}
use Rattle.global_model.proofs.Ways.{ways_near}
use Rattle.global_model.proofs.Tells.{MayTell, tells_end, tells_bytes, tells_names, tells_routes, tells_states}
use Rattle.global_model.proofs.Writes.{EachIs}
use Rattle.global_model.proofs.Sound.{IsSound, sound_line}
use Rattle.global_model.proofs.Turns.{at_pair_same, IsTurn, begin_turn, end_turn, other_turn, lives_in, IsClose, IsProper, IsUpTo, proper_lines, got_step}
use Rattle.global_model.proofs.Waiting.{IsWaiting, first_waits, rest_waits}
use Rattle.global_model.proofs.Deliveries.{took, IsTook, deliver_up_to, settle_at}
use Rattle.global_model.proofs.Commands.{IsReadyAfter, IsAptRun, begun, run_step, ready_start, cokernel_plain}

-- ---- steps one after the other

written_in-append : (G : Facts) (ss ts : List Step) → written_in G (ss ++ ts) ≡ written_in G ss ++ written_in (after_lines G (written_in G ss)) ts
written_in-append G [] ts = refl
written_in-append G (s ∷ ss) ts =
    let own = written_by G s in
    let H = after_lines G own in
    ap (λ more. own ++ more) (written_in-append H ss ts)
    ∙ sym (append_assoc own (written_in H ss) (written_in (after_lines H (written_in H ss)) ts))
    ∙ ap (λ K. (own ++ written_in H ss) ++ written_in K ts) (sym (after_lines-append G own (written_in H ss)))

AreSteps-append : (G : Facts) (ss ts : List Step) → AreSteps G ss → AreSteps (after_lines G (written_in G ss)) ts → AreSteps G (ss ++ ts)
AreSteps-append G [] ts first more = more
AreSteps-append G (s ∷ ss) ts first more =
    let own = written_by G s in
    let H = after_lines G own in
    (first.0, first.1, AreSteps-append H ss ts first.2 (subst (λ K. AreSteps K ts) (after_lines-append G own (written_in H ss)) more))

none_in_steps : (G : Facts) → IsInSteps G []
none_in_steps G = record { steps = []; are = tt; written = refl }

one_in_steps : (G : Facts) (s : Step) → IsPause G → MayCome G s → IsInSteps G (written_by G s)
one_in_steps G s pause may = record { steps = s ∷ []; are = (pause, may, tt); written = sym (append-nil (written_by G s)) }

in_steps-append : (G : Facts) (ls ms : List Line) → IsInSteps G ls → IsInSteps (after_lines G ls) ms → IsInSteps G (ls ++ ms)
in_steps-append G ls ms first more =
    let same : after_lines G ls ≡ after_lines G (written_in G first.steps) = ap (after_lines G) first.written in
    record {
      steps = first.steps ++ more.steps;
      are = AreSteps-append G first.steps more.steps first.are (subst (λ K. AreSteps K more.steps) same more.are);
      written = (λ i. first.written i ++ more.written i) ∙ ap (λ K. written_in G first.steps ++ written_in K more.steps) same
          ∙ sym (written_in-append G first.steps more.steps);
    }

-- ---- pauses

pause_sound : (G : Facts) → IsSound G → IsPause G
pause_sound G sound = record { tree = sound.tree; server = sound.server; ways = ways_near G sound.near; flows = sound.flows; apart = sound.apart }

-- ---- lines by themselves

-- the line changes no tree, channel or way, whatever the facts are
record StandsAlone (line : Line) : Type 0 where
  proper : (near : ℕ → ℕ → Bool) (lives : ℕ → Bool) → IsProper near lives line
  alone : (G : Facts) → MayStandAlone G line

tells_aside : MayTell StandsAlone
tells_aside = record {
  bytes = λ x y at bytes some most. record { proper = λ near lives. tt; alone = λ G. tt };
  own = λ e. record { proper = λ near lives. tt; alone = λ G. tt };
  none = λ e. record { proper = λ near lives. tt; alone = λ G. tt };
  way = λ e over. record { proper = λ near lives. tt; alone = λ G. tt };
  route = λ e d over. record { proper = λ near lives. tt; alone = λ G. tt };
  free = λ b. record { proper = λ near lives. tt; alone = λ G. tt };
  lent = λ b e. record { proper = λ near lives. tt; alone = λ G. tt };
  held = λ b e. record { proper = λ near lives. tt; alone = λ G. tt };
}

module _ (near : ℕ → ℕ → Bool) (lives : ℕ → Bool) where
  told_in_steps : (ls : List Line) (G : Facts) → EachIs StandsAlone ls → IsTurn near lives 0 0 [] G → IsInSteps G ls
  told_in_steps [] G told turn = none_in_steps G
  told_in_steps (l ∷ ls) G told turn =
      let one = proper_lines near lives 0 0 [] (l ∷ []) G (told.0.proper near lives, tt) turn in
      let first : IsInSteps G (l ∷ []) = one_in_steps G (Written l) (pause_sound G turn.sound) (end_turn near lives 0 0 G turn, told.0.alone G) in
      in_steps-append G (l ∷ []) ls first (told_in_steps ls (after_line G l) told.1 one.turn)

  -- ---- deliveries

  got_in_steps : (x y : Enclave) → IsClose near lives y x → (rs : List Record) (G : Facts) → IsTurn near lives x.0 y.0 rs G
      → IsInSteps G (got_lines G x y rs)
  got_in_steps x y close [] G turn = none_in_steps G
  got_in_steps x y close (r ∷ rs) G turn =
      let own = handled_lines (view_of G y) x r in
      let first : IsInSteps G own = one_in_steps G (Handles x y r) (pause_sound G turn.sound) (record {
        living = turn.alive y.0 ∙ close.living;
        near = near-turned G x.0 y.0 ∙ turn.same y.0 x.0 ∙ close.beside;
        others = rs;
        next = turn.arrives x.0 y.0 ∙ at_pair_same x.0 y.0 (λ none. r ∷ rs) (λ x y. []);
      }) in
      let one : IsUpTo near lives x.0 y.0 rs G own = got_step near lives x y close r rs G turn in
      in_steps-append G own (got_lines (after_lines G own) x y rs) first (got_in_steps x y close rs (after_lines G own) one.turn)

  took_in_steps : (x y : Enclave) (n : ℕ) (G : Facts) → IsClose near lives y x → 1 ≤ n → n ≤ length (waiting_in G x.0 y.0)
      → IsTurn near lives x.0 y.0 [] G → IsInSteps G (took_lines G x y n)
  took_in_steps x y n G close one within turn =
      let H = after_line G (lines.Took x y n) in
      let rs = arriving (H.channel x.0 y.0) in
      let start : IsTook near lives x y n G = took near lives x y n G close one within turn in
      let first : IsInSteps G (lines.Took x y n ∷ []) = one_in_steps G (Takes x y n) (pause_sound G turn.sound) start.apt in
      in_steps-append G (lines.Took x y n ∷ []) (got_lines H x y rs) first (got_in_steps x y close rs H start.turn)

  deliver_in_steps : (x y : Enclave) (count : ℕ) (G : Facts) → 1 ≤ count → IsNear G y x → IsTurn near lives 0 0 [] G
      → IsInSteps G (deliver_lines G x y count)
  deliver_in_steps x y count G some between turn = by (eqb (length (waiting_in G x.0 y.0)) 0) refl
    where
      by : (t : Bool) → eqb (length (waiting_in G x.0 y.0)) 0 ≡ t
          → IsInSteps G (cond t (lines.Idle x y ∷ []) (took_lines G x y (min count (length (waiting_in G x.0 y.0)))))
      by true is = told_in_steps (lines.Idle x y ∷ []) G (record { proper = λ near lives. tt; alone = λ G. tt }, tt) turn
      by false is =
          let waiting = length (waiting_in G x.0 y.0) in
          let not_none : waiting ≡ 0 → ⊥ = eqb-false waiting 0 is in
          let close : IsClose near lives y x = record { living = sym (turn.alive y.0) ∙ between.living; beside = sym (turn.same y.0 x.0) ∙ between.near } in
          took_in_steps x y (min count waiting) G close (omega (arith, some, not_none)) (omega arith) (other_turn near lives 0 0 x.0 y.0 G turn)

  end_in_steps : (made : ℕ) (G : Facts) → IsTurn near lives 0 0 [] G → IsInSteps G (settle_end G made ∷ [])
  end_in_steps made G turn = told_in_steps (settle_end G made ∷ []) G
      (tells_end StandsAlone (λ made. record { proper = λ near lives. tt; alone = λ G. tt }) (λ made. record { proper = λ near lives. tt; alone = λ G. tt }) G made, tt) turn

  settle_in_steps : (left made : ℕ) (G : Facts) → IsTurn near lives 0 0 [] G → IsInSteps G (settle_from left made G)
  settle_in_steps zero made G turn = end_in_steps made G turn
  settle_in_steps (suc left) made G turn = by (first_waiting G) refl (settle_in_steps left (made + 1))
    where
      by : (o : Option (Enclave × Enclave)) → first_waiting G ≡ o
          → ((H : Facts) → IsTurn near lives 0 0 [] H → IsInSteps H (settle_from left (made + 1) H))
          → IsInSteps G (settle_at left made G o)
      by None is more = end_in_steps made G turn
      by (Some channel) is more =
          let x = channel.0 in
          let y = channel.1 in
          let found : IsWaiting G x y = first_waits G x y turn.sound.tree is in
          let rest = rest_waits G x y found.some in
          let own = deliver_lines G x y (next_rest G x y) in
          let between : IsNear G y x = record { living = found.living; near = near-turned G y.0 x.0 ∙ found.near } in
          let one : IsUpTo near lives 0 0 [] G own = deliver_up_to near lives x y (next_rest G x y) G rest.some between turn in
          in_steps-append G own (settle_from left (made + 1) (after_lines G own))
          (deliver_in_steps x y (next_rest G x y) G rest.some between turn) (more (after_lines G own) one.turn)

-- ---- commands

told_sound : (ls : List Line) (G : Facts) → EachIs StandsAlone ls → IsSound G → NothingArrives G → IsInSteps G ls
told_sound ls G told sound none = told_in_steps (is_neighbour G) (lives_in G) ls G told (begin_turn 0 0 G sound none)

-- a command, where every whole record was got before it and is after its line
module _ (G : Facts) (sound : IsSound G) (got : NothingArrives G) where
  alone_in_steps : (line : Line) → MayStandAlone G line → IsInSteps G (line ∷ [])
  alone_in_steps line alone = one_in_steps G (Written line) (pause_sound G sound) (got, alone)

  -- its line stands alone, and so does its refusal; else its acts are in steps
  with_refusal : (c : Command) → MayStandAlone G (lines.Do c) → IsSound (begun G c) → NothingArrives (begun G c)
      → (refusal_of G c ≡ None → IsInSteps (begun G c) (acts_of (begun G c) c)) → IsInSteps G (step_lines G c)
  with_refusal c alone after none acts = in_steps-append G (lines.Do c ∷ []) _ (alone_in_steps (lines.Do c) alone) (by (refusal_of G c) refl)
    where
      by : (o : Option Cause) → refusal_of G c ≡ o
          → IsInSteps (begun G c) (option_map_or (λ cause. lines.Refused cause ∷ []) o (acts_of (begun G c) c))
      by None is = acts is
      by (Some cause) is = told_sound (lines.Refused cause ∷ []) (begun G c) (record { proper = λ near lives. tt; alone = λ G. tt }, tt) after none

  boot_in_steps : (kind : Kind) (parent : Enclave) (count : ℕ) (ns : Bool) → is_guest kind ≡ false → IsInSteps G (step_lines G (commands.Boot kind parent count ns))
  boot_in_steps kind parent count ns plain =
      let c = commands.Boot kind parent count ns in
      let B = begun G c in
      let after : IsSound B = sound_line G (lines.Do c) sound tt in
      with_refusal c tt after got (λ none.
      let unmet = all_unmet (conditions_of G c) none in
      let lives : is_living_enclave (B.enclave parent.0) ≡ true = not_false _ unmet.0 in
      let lower : parent.0 < B.born = living_born B parent.0 after.tree lives in
      one_in_steps B (Bears (next_enclave B) kind parent ns (take count (blocks_left B))) (pause_sound B after) (
        got,
        record {
          room = leb-false 256 B.born unmet.1.0;
          next = refl;
          under = λ some. lives;
          root = λ first. absurd (omega (arith, first, lower));
          plain = plain;
          one = unmet.1.1.0;
          count = count;
          lowest = refl;
        },
        omega (arith, lower),
      ))

  host_in_steps : (count : ℕ) (ns : Bool) → G.born ≡ 0 → IsInSteps G (step_lines G (commands.Host count ns))
  host_in_steps count ns none =
      let c = commands.Host count ns in
      let B = begun G c in
      let after : IsSound B = sound_line G (lines.Do c) sound tt in
      with_refusal c tt after got (λ allowed. one_in_steps B (Hosts ns (take count (blocks_left B))) (pause_sound B after) (
        got,
        record {
          room = omega (arith, none);
          next = sym none;
          under = λ some. absurd (omega (arith, some));
          root = λ first. refl;
          plain = refl;
          one = and_right ns B.server (after.unserved none);
          count = count;
          lowest = refl;
        },
      ))

  proc_in_steps : (e : Enclave) (uid gid : ℕ) → IsInSteps G (step_lines G (commands.Proc e uid gid))
  proc_in_steps e uid gid =
      let c = commands.Proc e uid gid in
      let B = begun G c in
      let after : IsSound B = sound_line G (lines.Do c) sound tt in
      with_refusal c tt after got (λ none. one_in_steps B (Written (lines.Proc e (record { 0 = (B.memory e.0).started + 1 }) uid gid)) (pause_sound B after)
      (got, (none, refl)))

  alloc_in_steps : (e : Enclave) (p : Pid) (page : Vpn) (count : ℕ) → IsInSteps G (step_lines G (commands.Alloc e p page count))
  alloc_in_steps e p page count =
      let c = commands.Alloc e p page count in
      let B = begun G c in
      let after : IsSound B = sound_line G (lines.Do c) sound tt in
      with_refusal c tt after got (λ none. one_in_steps B (Written (lines.Alloc e p page (take count (unused_frames B e.0)))) (pause_sound B after)
      (got, record { count = count; lowest = refl; allowed = none }))

  make_in_steps : (e : Enclave) (p : Pid) (addr size mode : ℕ) → IsInSteps G (step_lines G (commands.Make e p addr size mode))
  make_in_steps e p addr size mode =
      let c = commands.Make e p addr size mode in
      let B = begun G c in
      let after : IsSound B = sound_line G (lines.Do c) sound tt in
      with_refusal c tt after got (λ none. one_in_steps B (Asks e p (calls.Make addr size mode)) (pause_sound B after)
      (got, record { command = c; asks = refl; allowed = none; hand = refl }))

  remove_in_steps : (e : Enclave) (p : Pid) (segid : Segid) → IsInSteps G (step_lines G (commands.Remove e p segid))
  remove_in_steps e p segid =
      let c = commands.Remove e p segid in
      let B = begun G c in
      let after : IsSound B = sound_line G (lines.Do c) sound tt in
      with_refusal c tt after got (λ none. one_in_steps B (Asks e p (calls.Remove segid)) (pause_sound B after)
      (got, record { command = c; asks = refl; allowed = none; hand = refl }))

  touch_in_steps : (e : Enclave) (p : Pid) (addr : ℕ) (want : Want) → IsInSteps G (step_lines G (commands.Touch e p addr want))
  touch_in_steps e p addr want =
      let c = commands.Touch e p addr want in
      let B = begun G c in
      let after : IsSound B = sound_line G (lines.Do c) sound tt in
      with_refusal c tt after got (λ none. by none after (space_of B e.0 p.0 (addr / 4096)) refl)
    where
      by : refusal_of G (commands.Touch e p addr want) ≡ None → IsSound (begun G (commands.Touch e p addr want)) → (o : Option Mapping)
          → space_of (begun G (commands.Touch e p addr want)) e.0 p.0 (addr / 4096) ≡ o
          → IsInSteps (begun G (commands.Touch e p addr want)) (touched_lines e p (record { 0 = addr / 4096 }) o)
      by none after None is = none_in_steps (begun G (commands.Touch e p addr want))
      by none after (Some found) is = one_in_steps (begun G (commands.Touch e p addr want)) (Written (lines.Touched e p (record { 0 = addr / 4096 }) found.frame))
          (pause_sound (begun G (commands.Touch e p addr want)) after)
          (got, record { addr = addr; want = want; access = found.access; number = refl; mapped = is; allowed = none })

  deliver_in_turn : (x y : Enclave) (count : ℕ) → 1 ≤ count → IsInSteps G (step_lines G (commands.Deliver x y count))
  deliver_in_turn x y count some =
      let c = commands.Deliver x y count in
      let B = begun G c in
      let after : IsSound B = sound_line G (lines.Do c) sound tt in
      with_refusal c tt after got (λ none.
      let unmet = all_unmet (conditions_of G c) none in
      let known = and_parts (is_living_enclave (G.enclave y.0)) (was_born G x.0) (not_false _ unmet.0) in
      let between : IsNear B y x = record { living = known.0; near = near-turned G y.0 x.0 ∙ not_false _ unmet.1.0 } in
      deliver_in_steps (is_neighbour B) (lives_in B) x y count B some between (begin_turn 0 0 B after got))

  settle_in_turn : (most : ℕ) → IsInSteps G (step_lines G (commands.Settle most))
  settle_in_turn most =
      let c = commands.Settle most in
      let B = begun G c in
      let after : IsSound B = sound_line G (lines.Do c) sound tt in
      with_refusal c tt after got (λ none. settle_in_steps (is_neighbour B) (lives_in B) most 0 B (begin_turn 0 0 B after got))

  -- a command whose acts stand by themselves
  shows_in_steps : (c : Command) → MayStandAlone G (lines.Do c) → IsSound (begun G c) → NothingArrives (begun G c)
      → EachIs StandsAlone (acts_of (begun G c) c) → IsInSteps G (step_lines G c)
  shows_in_steps c alone after none aside = with_refusal c alone after none (λ allowed. told_sound (acts_of (begun G c) c) (begun G c) aside after none)

not_built : (b : Bool) → (b && false) ≡ true → ⊥
not_built true is = cc
not_built false is = cc

command_in_steps : (before : ℕ) (G : Facts) → IsReadyAfter before G → (c : Command) → may_stand before c ≡ true → IsInRange c → IsInSteps G (step_lines G c)
command_in_steps before G ready (commands.Pool blocks) may range =
    let first : before ≡ 0 = eqb-true before 0 (and_parts _ _ may).0 in
    alone_in_steps G ready.sound ready.got (lines.Do (commands.Pool blocks)) (ready.unborn (omega (arith, first)))
command_in_steps before G ready (commands.Host count ns) may range =
    let second : before ≡ 1 = eqb-true before 1 (and_parts _ _ may).0 in
    host_in_steps G ready.sound ready.got count ns (ready.unborn (omega (arith, second)))
command_in_steps before G ready (commands.Boot kind parent count ns) may range =
    boot_in_steps G ready.sound ready.got kind parent count ns (cokernel_plain kind (and_parts _ _ may).1)
command_in_steps before G ready (commands.Proc e uid gid) may range = proc_in_steps G ready.sound ready.got e uid gid
command_in_steps before G ready (commands.Alloc e p page count) may range = alloc_in_steps G ready.sound ready.got e p page count
command_in_steps before G ready (commands.Touch e p addr want) may range = touch_in_steps G ready.sound ready.got e p addr want
command_in_steps before G ready (commands.Deliver x y count) may range = deliver_in_turn G ready.sound ready.got x y count range.2.0
command_in_steps before G ready (commands.Settle most) may range = settle_in_turn G ready.sound ready.got most
command_in_steps before G ready (commands.ShowRoutes e) may range =
    let c = commands.ShowRoutes e in
    shows_in_steps G ready.sound ready.got c tt (sound_line G (lines.Do c) ready.sound tt) ready.got (tells_routes StandsAlone tells_aside (view_of (begun G c) e))
command_in_steps before G ready (commands.ShowLink x y) may range =
    let c = commands.ShowLink x y in
    let waiting = waiting_in (begun G c) x.0 y.0 in
    shows_in_steps G ready.sound ready.got c tt (sound_line G (lines.Do c) ready.sound tt) ready.got (tells_bytes StandsAlone tells_aside x y (length waiting) 0 waiting)
command_in_steps before G ready (commands.Make e p addr size mode) may range = make_in_steps G ready.sound ready.got e p addr size mode
command_in_steps before G ready (commands.Remove e p segid) may range = remove_in_steps G ready.sound ready.got e p segid
command_in_steps before G ready commands.ShowNames may range =
    let c = commands.ShowNames in
    shows_in_steps G ready.sound ready.got c tt (sound_line G (lines.Do c) ready.sound tt) ready.got
    (tells_names StandsAlone (λ segid owner range. record { proper = λ near lives. range; alone = λ G. tt }) (G.names G.holder.0).pairs (ready.sound.named G.holder.0))
command_in_steps before G ready commands.ShowPool may range =
    let c = commands.ShowPool in
    shows_in_steps G ready.sound ready.got c tt (sound_line G (lines.Do c) ready.sound tt) ready.got
    (tells_states StandsAlone tells_aside 0 (map G.block (range_with_len 0 G.pool)))
command_in_steps before G ready _ may range = absurd (not_built (leb 2 before) may)

-- ---- whole journals

journal_in_steps : (cs : List Command) (before : ℕ) (G : Facts) → IsReadyAfter before G → IsPlacedAfter before cs → IsInSteps G (journal_from G cs)
journal_in_steps [] before G ready placed = none_in_steps G
journal_in_steps (c ∷ cs) before G ready placed =
    let ls = step_lines G c in
    let one : IsAptRun (before + 1) G ls = run_step before G ready c placed.0 placed.1 in
    in_steps-append G ls (journal_from (after_lines G ls) cs) (command_in_steps before G ready c placed.0 placed.1)
    (journal_in_steps cs (before + 1) (after_lines G ls) one.ready placed.2)

pub journal_of-in_steps : (cs : List Command) → IsPlaced cs → IsInSteps no_facts (journal_of cs)
journal_of-in_steps cs placed = journal_in_steps cs 0 no_facts ready_start placed

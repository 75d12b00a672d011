-- Along the journal of commands each settle ends as the channels are.
use Rattle.std.proofs.Common.{◌≡◌, ◌+◌, ℕ, List, [], ◌∷◌, ◌++◌, map, Bool, cond, is_some, Option, None, Some, if◌then◌else◌, refl, sym, ap, ◌∙◌, subst, arith}
use Rattle.std.specs.Option.{option_map_or}
use Rattle.std.specs.List.{range_with_len}
use Rattle.xm_num.specs.declared.Enclave.{Enclave}
use Rattle.xm_num.specs.declared.Pid.{Pid}
use Rattle.xm_num.specs.declared.Vpn.{Vpn}
use Rattle.xm_num.specs.declared.Cause.{Cause}
use Rattle.xemem_language.specs.declared.command.Command.{Command}
use Rattle.xemem_language.specs.declared.command.Command.TheVariants as commands
use Rattle.xemem_language.specs.declared.line.Line.{Line}
use Rattle.xemem_language.specs.declared.line.Line.TheVariants as lines
use Rattle.enclave_rules.specs.Steps.{adopt_lines, child_lines, host_lines, query_of, route_lines, told_lines}
use Rattle.enclave_rules.specs.Core.{host}
use Rattle.enclave_rules.specs.Sending.{knows_way}
use Rattle.enclave_rules.specs.View.{View}
use Rattle.global_model.specs.Apt.{NothingArrives}
use Rattle.global_model.specs.Channels.{waiting_in}
use Rattle.global_model.specs.Due.{acts_of, first_waiting, journal_from, journal_of, next_enclave, settle_end, settle_from, step_lines, touched_lines}
use Rattle.global_model.specs.Facts.{Facts, after_lines, facts_at}
use Rattle.global_model.specs.Flow.{IsFlowing}
use Rattle.global_model.specs.Journals.{Follows, command_at, deliveries_in, onto}
use Rattle.global_model.specs.Parts.{Delivery, Lacks}
use Rattle.global_model.specs.Place.{IsPlacedAfter, IsPlaced}
use Rattle.global_model.specs.Refusals.{refusal_of}
use Rattle.global_model.specs.Rest.{IsAtRest, IsRested, IsSettling, RestAt, lines_since}
use Rattle.global_model.specs.Space.{Mapping, space_of}
use Rattle.global_model.specs.Views.{view_of}
use Rattle.global_model.proofs.Tree.{tree_lives}
use Rattle.global_model.proofs.Sound.{IsSound, sound_line}
use Rattle.global_model.proofs.Commands.{IsReadyAfter, IsAptRun, ready_start, run_step}
use Rattle.global_model.proofs.Tells.{MayTell, tells_bytes, tells_routes, tells_states}
use Rattle.global_model.proofs.Pasts.{Follows-append, facts_at-onto}
use Rattle.global_model.proofs.Settles.{brackets, IsSettled, deliveries-append, inner_deliver, knows_any, no_brackets, none_written, settle_flows, settled_before, settled_by}
use Rattle.global_model.proofs.Waiting.{none_rests, rests_none}
use Rattle.xm_num.specs.declared.Segid.{Segid}
use Rattle.enclave_rules.specs.Hand.{Hand}
use Rattle.enclave_rules.specs.Names.{segid_of}
use Rattle.enclave_rules.specs.Segments.{make_acts, name_rows, remove_acts}
use Rattle.global_model.proofs.Writes.{EachIs, each-append, each_either, writes_make, writes_remove}

-- ---- lines that begin no command and end no settle

rests_line : (past : List Line) (line : Line) → Lacks brackets line → RestAt past line
rests_line past (lines.Settled made) inner = absurd inner
rests_line past _ inner = search

rests_inner : (ls past : List Line) → EachIs (Lacks brackets) ls → Follows RestAt past ls
rests_inner [] past inner = tt
rests_inner (l ∷ ls) past inner = (rests_line past l inner.0, rests_inner ls (l ∷ past) inner.1)

-- they leave the command at hand, and stand on the lines since it
since_line : (line : Line) (past : List Line) → Lacks brackets line → lines_since (line ∷ past) ≡ line ∷ lines_since past
since_line (lines.Do command) past inner = absurd inner
since_line _ past inner = refl

command_line : (line : Line) (past : List Line) → Lacks brackets line → command_at (line ∷ past) ≡ command_at past
command_line (lines.Do command) past inner = absurd inner
command_line _ past inner = refl

command_inner : (ls past : List Line) → EachIs (Lacks brackets) ls → command_at (onto ls past) ≡ command_at past
command_inner [] past inner = refl
command_inner (l ∷ ls) past inner = command_inner ls (l ∷ past) inner.1 ∙ command_line l past inner.0

since_inner : (ls past : List Line) → EachIs (Lacks brackets) ls
    → deliveries_in (lines_since (onto ls past)) ≡ deliveries_in ls + deliveries_in (lines_since past)
since_inner [] past inner = omega arith
since_inner (l ∷ ls) past inner =
    let more = since_inner ls (l ∷ past) inner.1 in
    let here : deliveries_in (lines_since (l ∷ past)) ≡ deliveries_in (l ∷ lines_since past) = ap deliveries_in (since_line l past inner.0) in
    omega (arith, more, here, deliveries-append (l ∷ []) (lines_since past), deliveries-append (l ∷ []) ls)

-- ---- so are the lines of a command but a settle

inner_map : {A : Type 0} (f : A → Line) (xs : List A) → ((x : A) → Lacks brackets (f x)) → EachIs (Lacks brackets) (map f xs)
inner_map f [] each = tt
inner_map f (x ∷ xs) each = (each x, inner_map f xs each)

inner_host : (ns : Bool) → EachIs (Lacks brackets) (if ns then lines.Admitted host ∷ [] else [])
inner_host ns = each_either (Lacks brackets) ns (lines.Admitted host ∷ []) [] (tt, tt) tt

inner_adopt : (v : View) (child : Enclave) → EachIs (Lacks brackets) (adopt_lines v child)
inner_adopt v child = each_either (Lacks brackets) (knows_way v) [] (lines.Sent v.me child (query_of v.me) ∷ []) tt (tt, tt)

inner_birth : (child parent : Enclave) (ns : Bool) (heard : List Enclave) → EachIs (Lacks brackets) (told_lines child heard ++ child_lines child parent ns)
inner_birth child parent ns heard =
    each-append (Lacks brackets) (told_lines child heard) (child_lines child parent ns) (inner_map (λ d. lines.Told child d) heard (λ d. tt))
    (each_either (Lacks brackets) ns (lines.Admitted child ∷ []) (lines.Sent child parent (query_of child) ∷ []) (tt, tt) (tt, tt))

inner_touched : (e : Enclave) (p : Pid) (page : Vpn) (mapping : Option Mapping) → EachIs (Lacks brackets) (touched_lines e p page mapping)
inner_touched e p page None = tt
inner_touched e p page (Some found) = (tt, tt)

inner_tells : MayTell (Lacks brackets)
inner_tells = record {
  bytes = λ x y at bytes some most. tt;
  own = λ e. tt;
  none = λ e. tt;
  way = λ e over. tt;
  route = λ e d over. tt;
  free = λ b. tt;
  lent = λ b e. tt;
  held = λ b e. tt;
}

inner_make : (hand : Hand) (v : View) (p : Pid) → EachIs (Lacks brackets) (make_acts hand v p)
inner_make hand v p = no_brackets (make_acts hand v p)
    (writes_make (Lacks (Delivery ∷ brackets)) (λ x. Unit {0}) (λ r. Unit {0}) v (none_written v) (knows_any v) (λ m valid. tt) (λ p call. tt) hand p)

inner_remove : (v : View) (segid : Segid) → EachIs (Lacks brackets) (remove_acts v segid)
inner_remove v segid = no_brackets (remove_acts v segid)
    (writes_remove (Lacks (Delivery ∷ brackets)) (λ x. Unit {0}) (λ r. Unit {0}) v (none_written v) segid tt (knows_any v) (λ m valid. tt))

-- ---- a settle

rests_settle : (past : List Line) (most : ℕ) → IsSound (facts_at (lines.Do (commands.Settle most) ∷ past)) → NothingArrives (facts_at (lines.Do (commands.Settle most) ∷ past))
    → Follows RestAt (lines.Do (commands.Settle most) ∷ past) (settle_from most 0 (facts_at (lines.Do (commands.Settle most) ∷ past)))
rests_settle past most sound none =
    subst (Follows RestAt start) (sym settled.is)
    (Follows-append RestAt settled.before (settle_end H made ∷ []) start (rests_inner settled.before start settled.inner)
    (by (first_waiting H) refl, tt))
  where
    G : Facts
    G = facts_at (lines.Do (commands.Settle most) ∷ past)

    start : List Line
    start = lines.Do (commands.Settle most) ∷ past

    settled : IsSettled most 0 G
    settled = settled_by most 0 G (tree_lives G sound.tree)

    H : Facts
    H = after_lines G settled.before

    made : ℕ
    made = 0 + deliveries_in settled.before

    facts : facts_at (onto settled.before start) ≡ H
    facts = facts_at-onto settled.before start

    settling : IsSettling (onto settled.before start) most made
    settling = record {
      command = command_inner settled.before start settled.inner;
      count = omega (arith, since_inner settled.before start settled.inner);
      few = omega (arith, settled.few);
    }

    by : (o : Option (Enclave × Enclave)) → first_waiting H ≡ o
        → RestAt (onto settled.before start) (cond (is_some (first_waiting H)) (lines.Waiting made) (lines.Settled made))
    by None is =
        let flowing : IsFlowing H = subst IsFlowing (settled_before G most settled) (settle_flows G most sound none) in
        rw is (subst IsAtRest (sym facts) (none_rests H flowing is), most, settling)
    by (Some channel) is =
        let all : most ≡ made = let count = settled.all (ap is_some is) in omega (arith, count) in
        rw is (
          λ rest. let none = rests_none H (subst IsAtRest facts rest) in let clash : Some channel ≡ None = sym is ∙ none in cc,
          subst (λ n. IsSettling (onto settled.before start) n made) all settling,
        )

-- ---- commands

rests_acts : (past : List Line) (c : Command) → IsSound (facts_at (lines.Do c ∷ past)) → NothingArrives (facts_at (lines.Do c ∷ past))
    → Follows RestAt (lines.Do c ∷ past) (acts_of (facts_at (lines.Do c ∷ past)) c)
rests_acts past (commands.Host blocks ns) sound none = rests_inner (host_lines _ ns) _ (tt, inner_host ns)
rests_acts past (commands.Boot kind parent blocks ns) sound none =
    let G = facts_at (lines.Do (commands.Boot kind parent blocks ns) ∷ past) in
    rests_inner (acts_of G (commands.Boot kind parent blocks ns)) _ (
      tt,
      each-append (Lacks brackets) (told_lines (next_enclave G) (G.heard parent.0) ++ child_lines (next_enclave G) parent ns) (adopt_lines (view_of G parent) (next_enclave G))
          (inner_birth (next_enclave G) parent ns (G.heard parent.0)) (inner_adopt (view_of G parent) (next_enclave G)),
    )
rests_acts past (commands.Proc e uid gid) sound none = (tt, tt)
rests_acts past (commands.Alloc e p at pages) sound none = (tt, tt)
rests_acts past (commands.Touch e p addr want) sound none = rests_inner _ _ (inner_touched e p _ (space_of (facts_at past) e.0 p.0 _))
rests_acts past (commands.Deliver x y count) sound none = rests_inner _ _ (inner_deliver (facts_at (lines.Do (commands.Deliver x y count) ∷ past)) x y count)
rests_acts past (commands.Settle most) sound none = rests_settle past most sound none
rests_acts past (commands.ShowRoutes e) sound none =
    rests_inner (route_lines (view_of (facts_at past) e)) (lines.Do (commands.ShowRoutes e) ∷ past) (tells_routes (Lacks brackets) inner_tells (view_of (facts_at past) e))
rests_acts past (commands.ShowLink x y) sound none = rests_inner _ _ (tells_bytes (Lacks brackets) inner_tells x y _ 0 (waiting_in (facts_at past) x.0 y.0))
rests_acts past (commands.Make e p addr size mode) sound none =
    let H = facts_at (lines.Do (commands.Make e p addr size mode) ∷ past) in
    rests_inner (make_acts H.hand (view_of H e) p) _ (inner_make H.hand (view_of H e) p)
rests_acts past (commands.Remove e p segid) sound none =
    let H = facts_at (lines.Do (commands.Remove e p segid) ∷ past) in
    rests_inner (remove_acts (view_of H e) segid) _ (inner_remove (view_of H e) segid)
rests_acts past commands.ShowNames sound none =
    let G = facts_at past in
    rests_inner (name_rows (G.names G.holder.0).pairs) _ (inner_map (λ (row : ℕ × Enclave). lines.Name (segid_of row.0) row.1) (G.names G.holder.0).pairs (λ row. tt))
rests_acts past commands.ShowPool sound none =
    let G = facts_at past in rests_inner _ _ (tells_states (Lacks brackets) inner_tells 0 (map G.block (range_with_len 0 G.pool)))
rests_acts past _ sound none = tt

rests_step : (past : List Line) (c : Command) → IsSound (facts_at (lines.Do c ∷ past)) → NothingArrives (facts_at past) → Follows RestAt past (step_lines (facts_at past) c)
rests_step past c sound none = (tt, by (refusal_of (facts_at past) c) (rests_acts past c sound none))
  where
    acts : List Line
    acts = acts_of (facts_at (lines.Do c ∷ past)) c

    by : (cause : Option Cause) → Follows RestAt (lines.Do c ∷ past) acts
        → Follows RestAt (lines.Do c ∷ past) (option_map_or (λ cause. lines.Refused cause ∷ []) cause acts)
    by None all = all
    by (Some cause) all = (tt, tt)

-- ---- journals

rests_from : (cs : List Command) (before : ℕ) (past : List Line) → IsReadyAfter before (facts_at past) → IsPlacedAfter before cs
    → Follows RestAt past (journal_from (facts_at past) cs)
rests_from [] before past ready placed = tt
rests_from (c ∷ cs) before past ready placed =
    let G = facts_at past in
    let ls = step_lines G c in
    let run : IsAptRun (before + 1) G ls = run_step before G ready c placed.0 placed.1 in
    let facts : facts_at (onto ls past) ≡ after_lines G ls = facts_at-onto ls past in
    let one : Follows RestAt past ls = rests_step past c (sound_line G (lines.Do c) ready.sound run.apt.0) ready.got in
    let more : Follows RestAt (onto ls past) (journal_from (facts_at (onto ls past)) cs)
    = rests_from cs (before + 1) (onto ls past) (subst (IsReadyAfter (before + 1)) (sym facts) run.ready) placed.2 in
    Follows-append RestAt ls (journal_from (after_lines G ls) cs) past one (subst (λ H. Follows RestAt (onto ls past) (journal_from H cs)) facts more)

pub journal_of-rested : (cs : List Command) → IsPlaced cs → IsRested (journal_of cs)
journal_of-rested cs placed = rests_from cs 0 [] ready_start placed

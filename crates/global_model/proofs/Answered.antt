-- What a command writes follows from the views of the enclaves that it names.
use Rattle.std.proofs.Common.{subst, ◌≡◌, ◌+◌, ◌-◌, ◌/◌, ◌≤◌, ℕ, zero, suc, List, [], ◌∷◌, length, take, map, Bool, true, false, cond, not, ◌&&◌, eqb, leb, ltb, Option, None, Some, Result, Ok, Err, refl, sym, ap, ◌∙◌, arith}
use Rattle.std.specs.Prelude.{is_some, is_none}
use Rattle.std.specs.List.{range_with_len, filter, list_any}
use Rattle.std.specs.Option.{option_map, option_map_or}
use Rattle.std.proofs.lemmas.Bool.{ltb-false}
use Rattle.std.proofs.lemmas.List.FromFn.{take-map-range_with_len}
use Rattle.xm_num.specs.declared.Enclave.{Enclave}
use Rattle.xm_num.specs.declared.Pid.{Pid}
use Rattle.xm_num.specs.declared.Vpn.{Vpn}
use Rattle.xm_num.specs.declared.Want.{Want}
use Rattle.xm_num.specs.declared.Kind.{Kind}
use Rattle.xm_num.specs.declared.Page.{Page}
use Rattle.xm_num.specs.declared.Frame.{Frame}
use Rattle.xm_num.specs.declared.Cause.{Cause}
use Rattle.xm_num.specs.declared.Cause.TheVariants as causes
use Rattle.xm_num.specs.Rows.{at, any_between}
use Rattle.frame_pool.specs.declared.BlockState.{BlockState}
use Rattle.frame_pool.specs.Blocks.{is_free, free_from}
use Rattle.xemem_language.specs.declared.command.Command.{Command}
use Rattle.xemem_language.specs.declared.command.Command.TheVariants as commands
use Rattle.xemem_language.specs.declared.call.Call.TheVariants as calls
use Rattle.xemem_language.specs.declared.call.ProcessCall.{ProcessCall}
use Rattle.xemem_language.specs.declared.call.Show.TheVariants as shows
use Rattle.xemem_language.specs.declared.call.NodeShow.{NodeShow}
use Rattle.xemem_language.specs.Calls.{call_of, show_of}
use Rattle.xemem_language.specs.declared.line.Line.{Line}
use Rattle.xemem_language.specs.declared.line.Line.TheVariants as lines
use Rattle.xm_num.specs.declared.Segid.{Segid}
use Rattle.xm_num.specs.Sizes.{page_bytes, most_pages}
use Rattle.exporter_pins.specs.Holdings.{Export, live_export}
use Rattle.enclave_rules.specs.Memory.{is_busy}
use Rattle.enclave_rules.specs.Exports.{segid_number}
use Rattle.enclave_rules.specs.Segments.{are_own_pages, name_rows}
use Rattle.enclave_rules.specs.Calls.{call_lines, make_lines, refused_or, remove_lines, show_lines}
use Rattle.enclave_rules.specs.Core.{host, is_guest, machine_frame}
use Rattle.attach_map.specs.Attaching.{ProcessState}
use Rattle.enclave_rules.specs.Pages.{allows}
use Rattle.enclave_rules.specs.Steps.{refusal, host_lines, process_at, unused_in, alloc_lines, page_answer, touch_answer, answer_lines, route_lines, state_lines, first_blocks}
use Rattle.global_model.specs.Facts.{Facts, EnclaveFact, no_facts, fact_of, is_admitted, is_living_enclave, lives_at, runs, after_line}
use Rattle.global_model.specs.Space.{mapping_of, pages_at, unused_frames, blocks_left}
use Rattle.global_model.specs.Refusals.{is_misaligned, is_outside, is_taken, denies}
use Rattle.global_model.specs.Views.{view_of}
use Rattle.global_model.specs.Due.{touched_lines, command_lines}
use Rattle.global_model.specs.Known.{at_living, names_asked, start_asked, boot_asked, IsAnswered}
use Rattle.global_model.proofs.Runs.{filter_all}
use Rattle.global_model.proofs.Lent.{unused_seen}
use Rattle.global_model.proofs.Tree.{living_born, root_lives}
use Rattle.global_model.proofs.Sound.{IsSound}

-- the facts after the pool's command
abbrev pub pool_facts : ℕ → Facts
pool_facts blocks = after_line no_facts (lines.Do (commands.Pool blocks))

-- ---- the lines of a refusal or of acts

-- a condition that comes first decides, and so does a test of it
either_way : (holds : Bool) (cause : Cause) (rest : Option Cause) (acts others : List Line) → (holds ≡ false → option_map_or (λ c. lines.Refused c ∷ []) rest acts ≡ others)
    → option_map_or (λ c. lines.Refused c ∷ []) (cond holds (Some cause) rest) acts ≡ cond holds (refusal cause) others
either_way true cause rest acts others same = refl
either_way false cause rest acts others same = same refl

-- a condition that an enclave doesn't live, and the test that it does
where_lives : (G : Facts) (e : Enclave) (rest : Option Cause) (acts others : List Line)
    → (is_living_enclave (G.enclave e.0) ≡ true → option_map_or (λ c. lines.Refused c ∷ []) rest acts ≡ others)
    → option_map_or (λ c. lines.Refused c ∷ []) (cond (not (is_living_enclave (G.enclave e.0))) (Some causes.NoEnclave) rest) acts ≡ at_living G e others
where_lives G e rest acts others same = by (is_living_enclave (G.enclave e.0)) refl
  where
    by : (b : Bool) → is_living_enclave (G.enclave e.0) ≡ b → option_map_or (λ c. lines.Refused c ∷ []) (cond (not b) (Some causes.NoEnclave) rest) acts ≡ cond b others (refusal causes.NoEnclave)
    by true is = same is
    by false is = refl

-- ---- births and processes

free_run : (f : ℕ → BlockState) (a n : ℕ) → free_from a (map f (range_with_len a n)) ≡ map (λ b. record { 0 = b }) (filter (λ b. is_free (f b)) (range_with_len a n))
free_run f a zero = refl
free_run f a (suc n) = by (free_run f (a + 1) n) (is_free (f a))
  where
    by : free_from (a + 1) (map f (range_with_len (a + 1) n)) ≡ map (λ b. record { 0 = b }) (filter (λ b. is_free (f b)) (range_with_len (a + 1) n)) → (b : Bool)
        → cond b (record { 0 = a } ∷ free_from (a + 1) (map f (range_with_len (a + 1) n))) (free_from (a + 1) (map f (range_with_len (a + 1) n)))
        ≡ map (λ b. record { 0 = b }) (cond b (a ∷ filter (λ b. is_free (f b)) (range_with_len (a + 1) n)) (filter (λ b. is_free (f b)) (range_with_len (a + 1) n)))
    by more true = ap (λ bs. record { 0 = a } ∷ bs) more
    by more false = more

boot_answered : (G : Facts) → IsSound G → (kind : Kind) (parent : Enclave) (blocks : ℕ) (ns : Bool)
    → command_lines G (commands.Boot kind parent blocks ns) ≡ at_living G parent (boot_asked G kind parent blocks ns)
boot_answered G sound kind parent blocks ns =
    rw (free_run G.block 0 G.pool) (where_lives G parent _ _ _ (λ living. either_way (leb 256 G.born) causes.TooMany _ _ _ (λ room. either_way (ns && G.server) causes.NameServerTaken _ _ _ (λ free. either_way (ltb (length (blocks_left G)) blocks) causes.NoBlocks None _ _ (λ enough. refl)))))

proc_answered : (G : Facts) → IsSound G → (e : Enclave) (uid gid : ℕ) → command_lines G (commands.Proc e uid gid) ≡ at_living G e (start_asked G e uid gid)
proc_answered G sound e uid gid =
    where_lives G e _ _ _ (λ living. either_way (leb 1024 G.starts) causes.TooMany None _ _ (λ room. refl))

routes_answered : (G : Facts) → IsSound G → (e : Enclave) → command_lines G (commands.ShowRoutes e) ≡ at_living G e (route_lines (view_of G e))
routes_answered G sound e = where_lives G e None _ _ (λ living. refl)

pool_answered : (G : Facts) → IsSound G → command_lines G commands.ShowPool ≡ at_living G host (state_lines 0 (view_of G host).host.states)
pool_answered G sound = rw (root_lives G sound.tree) (by (lives_at G 0))
  where
    by : (b : Bool) → option_map_or (λ c. lines.Refused c ∷ []) (cond (not b) (Some causes.NoEnclave) None) (state_lines 0 (map G.block (range_with_len 0 G.pool)))
        ≡ cond b (state_lines 0 (map G.block (range_with_len 0 G.pool))) (refusal causes.NoEnclave)
    by true = refl
    by false = refl

-- ---- the processes of a view

-- a call of a process: a refusal where it doesn't live, else by its pages
where_runs : (G : Facts) (e : Enclave) (p : Pid) (rest : Option Cause) (acts : List Line) (others : ProcessState → List Line)
    → ((process : ProcessState) → at (G.memory e.0).processes p.0 ≡ Some process → option_map_or (λ c. lines.Refused c ∷ []) rest acts ≡ others process)
    → option_map_or (λ c. lines.Refused c ∷ []) (cond (not (runs G e.0 p.0)) (Some causes.NoProcess) rest) acts ≡ option_map_or others (process_at (view_of G e) p) (refusal causes.NoProcess)
where_runs G e p rest acts others same = by (at (G.memory e.0).processes p.0) refl
  where
    by : (found : Option ProcessState) → at (G.memory e.0).processes p.0 ≡ found
        → option_map_or (λ c. lines.Refused c ∷ []) (cond (not (is_some found)) (Some causes.NoProcess) rest) acts ≡ option_map_or others found (refusal causes.NoProcess)
    by None is = refl
    by (Some process) is = same process is

-- ---- own pages

is_some-mapped : (fact : EnclaveFact) (o : Option Page) → is_some (option_map (mapping_of fact) o) ≡ is_some o
is_some-mapped fact None = refl
is_some-mapped fact (Some found) = refl

-- one of the pages of a range has a row, by the law of tables
abbrev AnyMapped : Type 0
AnyMapped = (table : List (ℕ × Page)) (low high : ℕ) → any_between table low high ≡ list_any (λ k. is_some (at table k)) (range_with_len low (high - low))

-- the pages of a process that is there
pages_are : (G : Facts) (e p : ℕ) (process : ProcessState) → at (G.memory e).processes p ≡ Some process → pages_at G e p ≡ process.pages
pages_are G e p process is = ap (λ o. option_map_or (λ (process : ProcessState). process.pages) o []) is

taken_is : AnyMapped → (G : Facts) (e p page count : ℕ) → is_taken G e p page count ≡ any_between (pages_at G e p) page (page + count)
taken_is any G e p page count =
    let size : page + count - page ≡ count = omega arith in
    let rows = any (pages_at G e p) page (page + count) in
    ap (λ t. list_any t (range_with_len page count)) (λ i k. is_some-mapped (fact_of (G.enclave e)) (at (pages_at G e p) k) i) ∙ ap (λ n. list_any (λ k. is_some (at (pages_at G e p) k)) (range_with_len page n)) (sym size) ∙ sym rows

alloc_answered : AnyMapped → (G : Facts) → IsSound G → (e : Enclave) (p : Pid) (page : Vpn) (count : ℕ) → command_lines G (commands.Alloc e p page count) ≡ at_living G e (alloc_lines (view_of G e) p page count)
alloc_answered any G sound e p page count =
    where_lives G e _ _ _ (λ living. where_runs G e p _ _ _ (λ process is.
    let free : unused_frames G e.0 ≡ unused_in (view_of G e) = unused_seen G e.0 living (sound.plain e.0) (sound.lent e.0 (living_born G e.0 sound.tree living)) in
    let taken : is_taken G e.0 p.0 page.0 count ≡ any_between process.pages page.0 (page.0 + count) = taken_is any G e.0 p.0 page.0 count ∙ ap (λ pages. any_between pages page.0 (page.0 + count)) (pages_are G e.0 p.0 process is) in
    either_way (is_busy (G.memory e.0) p.0) causes.Busy _ _ _ (λ idle.
    either_way (ltb 16777216 (page.0 + count)) causes.BadRange _ _ _ (λ within.
    rw taken (either_way (any_between process.pages page.0 (page.0 + count)) causes.Taken _ _ _ (λ clear.
    subst (λ (fs : List Frame). option_map_or (λ c. lines.Refused c ∷ []) (cond (ltb (length (unused_frames G e.0)) count) (Some causes.NoFrames) None) (lines.Alloc e p page (take count (unused_frames G e.0)) ∷ [])
    ≡ cond (ltb (length fs) count) (refusal causes.NoFrames) (lines.Alloc e p page (take count fs) ∷ [])) free
    (either_way (ltb (length (unused_frames G e.0)) count) causes.NoFrames None _ _ (λ enough. refl))))))))

-- ---- makes and removes

admitted_is : (o : Option EnclaveFact) → is_admitted o ≡ (fact_of o).admitted
admitted_is None = refl
admitted_is (Some fact) = refl

-- the conditions of a make in their order, and the refusals by a view
make_chain : (ready busy align empty large outside owned : Bool) (acts : List Line)
    → option_map_or (λ c. lines.Refused c ∷ []) (cond (not ready) (Some causes.NotReady) (cond busy (Some causes.Busy) (cond align (Some causes.BadAlign)
    (cond empty (Some causes.BadRange) (cond large (Some causes.TooLarge) (cond outside (Some causes.BadRange) (cond (not owned) (Some causes.NotMapped) None))))))) acts
    ≡ refused_or (cond (not ready) (Some causes.NotReady) (cond busy (Some causes.Busy) None))
    (refused_or (option_map_or (λ cause. Some cause) (cond align (Some causes.BadAlign) (cond empty (Some causes.BadRange) (cond large (Some causes.TooLarge)
    (cond outside (Some causes.BadRange) None)))) (cond owned None (Some causes.NotMapped))) acts)
make_chain false busy align empty large outside owned acts = refl
make_chain true true align empty large outside owned acts = refl
make_chain true false true empty large outside owned acts = refl
make_chain true false false true large outside owned acts = refl
make_chain true false false false true outside owned acts = refl
make_chain true false false false false true owned acts = refl
make_chain true false false false false false true acts = refl
make_chain true false false false false false false acts = refl

make_answered : (G : Facts) → (e : Enclave) (p : Pid) (addr size mode : ℕ)
    → command_lines G (commands.Make e p addr size mode) ≡ at_living G e (make_lines (view_of G e) p addr size mode)
make_answered G e p addr size mode =
    where_lives G e _ _ _ (λ living. where_runs G e p _ _ _ (λ process is.
    rw (admitted_is (G.enclave e.0), pages_are G e.0 p.0 process is)
    (make_chain (fact_of (G.enclave e.0)).admitted (is_busy (G.memory e.0) p.0) (is_misaligned addr size) (eqb size 0) (ltb most_pages (size / page_bytes)) (is_outside addr size)
    (are_own_pages process.pages (addr / page_bytes) (size / page_bytes)) _)))

remove_chain : (ready busy : Bool) (p : ℕ) (found : Option (ℕ × Export)) (acts : List Line)
    → option_map_or (λ c. lines.Refused c ∷ []) (cond (not ready) (Some causes.NotReady) (cond busy (Some causes.Busy) (cond (not (is_some found)) (Some causes.NoSegment)
    (cond (not (option_map_or (λ row. eqb row.1.pid p) found false)) (Some causes.NotOwner) None)))) acts
    ≡ refused_or (cond (not ready) (Some causes.NotReady) (cond busy (Some causes.Busy) None))
    (refused_or (option_map_or (λ row. cond (eqb row.1.pid p) None (Some causes.NotOwner)) found (Some causes.NoSegment)) acts)
remove_chain false busy p found acts = refl
remove_chain true true p found acts = refl
remove_chain true false p None acts = refl
remove_chain true false p (Some row) acts = by (eqb row.1.pid p)
  where
    by : (same : Bool) → option_map_or (λ c. lines.Refused c ∷ []) (cond (not same) (Some causes.NotOwner) None) acts ≡ refused_or (cond same None (Some causes.NotOwner)) acts
    by true = refl
    by false = refl

remove_answered : (G : Facts) → (e : Enclave) (p : Pid) (segid : Segid)
    → command_lines G (commands.Remove e p segid) ≡ at_living G e (remove_lines (view_of G e) p segid)
remove_answered G e p segid =
    where_lives G e _ _ _ (λ living. where_runs G e p _ _ _ (λ process is.
    rw (admitted_is (G.enclave e.0))
    (remove_chain (fact_of (G.enclave e.0)).admitted (is_busy (G.memory e.0) p.0) p.0 (live_export (G.exports e.0) (segid_number segid)) _)))

names_answered : (G : Facts) → command_lines G commands.ShowNames ≡ names_asked G
names_answered G = by G.server
  where
    by : (b : Bool) → option_map_or (λ c. lines.Refused c ∷ []) (cond (not b) (Some causes.NotReady) None) (name_rows (G.names G.holder.0).pairs)
        ≡ cond b (name_rows (G.names G.holder.0).pairs) (refusal causes.NotReady)
    by true = refl
    by false = refl

-- ---- touches

page_answered : (fact : EnclaveFact) → is_guest fact.kind ≡ false → (e : Enclave) (p : Pid) (page : Vpn) (want : Want) (found : Option Page)
    → option_map_or (λ c. lines.Refused c ∷ []) (cond (is_none (option_map (mapping_of fact) found)) (Some causes.NotMapped) (cond (denies want (option_map (mapping_of fact) found)) (Some causes.Denied) None)) (touched_lines e p page (option_map (mapping_of fact) found))
    ≡ answer_lines e p (page_answer want page found)
page_answered fact plain e p page want None = refl
page_answered fact plain e p page want (Some found) =
    let frame : machine_frame fact.kind fact.blocks found.frame ≡ found.frame = rw plain refl in
    rw frame (by (allows found.access want))
  where
    by : (b : Bool) → option_map_or (λ c. lines.Refused c ∷ []) (cond (not b) (Some causes.Denied) None) (lines.Touched e p page found.frame ∷ []) ≡ answer_lines e p (cond b (Ok (page, found.frame)) (Err causes.Denied))
    by true = refl
    by false = refl

-- the lines of an answer that is looked up
answer_found : (e : Enclave) (p : Pid) (answer : ProcessState → Result (Vpn × Frame) Cause) (process : Option ProcessState)
    → answer_lines e p (option_map_or answer process (Err causes.NoProcess)) ≡ option_map_or (λ found. answer_lines e p (answer found)) process (refusal causes.NoProcess)
answer_found e p answer None = refl
answer_found e p answer (Some process) = refl

touch_answered : (G : Facts) → IsSound G → (e : Enclave) (p : Pid) (addr : ℕ) (want : Want) → command_lines G (commands.Touch e p addr want) ≡ at_living G e (answer_lines e p (touch_answer (view_of G e) p addr want))
touch_answered G sound e p addr want =
    let page : Vpn = record { 0 = addr / 4096 } in
    let answer : ProcessState → Result (Vpn × Frame) Cause = λ process. page_answer want page (at process.pages (addr / 4096)) in
    rw (answer_found e p answer (process_at (view_of G e) p)) (where_lives G e _ _ _ (λ living. where_runs G e p _ _ (λ process. answer_lines e p (answer process)) (λ process is.
    rw (pages_are G e.0 p.0 process is) (page_answered (fact_of (G.enclave e.0)) (sound.plain e.0) e p page want (at process.pages (addr / 4096))))))

-- ---- the host

free_pool_blocks : (pool : ℕ) → blocks_left (pool_facts pool) ≡ first_blocks pool
free_pool_blocks pool = ap (map (λ b. record { 0 = b })) (filter_all (range_with_len 0 pool))

pub host_answered : (pool blocks : ℕ) (ns : Bool) → command_lines (pool_facts pool) (commands.Host blocks ns) ≡ cond (ltb pool blocks) (refusal causes.NoBlocks) (host_lines (first_blocks blocks) ns)
host_answered pool blocks ns = either_way (ltb pool blocks) causes.NoBlocks None _ _ (λ enough.
    let within : blocks ≤ pool = ltb-false pool blocks enough in
    let drawn : take blocks (blocks_left (pool_facts pool)) ≡ first_blocks blocks = ap (take blocks) (free_pool_blocks pool) ∙ take-map-range_with_len (λ b. record { 0 = b }) 0 pool blocks within in
    ap (λ bs. host_lines bs ns) drawn)

-- ---- calls and what is shown

call_answered : AnyMapped → (G : Facts) → IsSound G → (command : Command) (k : ProcessCall) → call_of command ≡ Some k
    → command_lines G command ≡ at_living G k.enclave (call_lines (view_of G k.enclave) k.pid k.call)
call_answered any G sound (commands.Alloc e p page count) k is =
    let same : record { enclave = e; pid = p; call = calls.Alloc page count } ≡ k = cc in
    subst (λ (k : ProcessCall). command_lines G (commands.Alloc e p page count) ≡ at_living G k.enclave (call_lines (view_of G k.enclave) k.pid k.call)) same (alloc_answered any G sound e p page count)
call_answered any G sound (commands.Make e p addr size mode) k is =
    let same : record { enclave = e; pid = p; call = calls.Make addr size mode } ≡ k = cc in
    subst (λ (k : ProcessCall). command_lines G (commands.Make e p addr size mode) ≡ at_living G k.enclave (call_lines (view_of G k.enclave) k.pid k.call)) same (make_answered G e p addr size mode)
call_answered any G sound (commands.Remove e p segid) k is =
    let same : record { enclave = e; pid = p; call = calls.Remove segid } ≡ k = cc in
    subst (λ (k : ProcessCall). command_lines G (commands.Remove e p segid) ≡ at_living G k.enclave (call_lines (view_of G k.enclave) k.pid k.call)) same (remove_answered G e p segid)
call_answered any G sound _ k is = cc

show_answered : (G : Facts) → IsSound G → (command : Command) (s : NodeShow) → show_of command ≡ Some s
    → command_lines G command ≡ at_living G s.enclave (show_lines (view_of G s.enclave) s.show)
show_answered G sound (commands.ShowRoutes e) s is =
    let same : record { enclave = e; show = shows.Routes } ≡ s = cc in
    subst (λ (s : NodeShow). command_lines G (commands.ShowRoutes e) ≡ at_living G s.enclave (show_lines (view_of G s.enclave) s.show)) same (routes_answered G sound e)
show_answered G sound commands.ShowPool s is =
    let same : record { enclave = host; show = shows.Pool } ≡ s = cc in
    subst (λ (s : NodeShow). command_lines G commands.ShowPool ≡ at_living G s.enclave (show_lines (view_of G s.enclave) s.show)) same (pool_answered G sound)
show_answered G sound _ s is = cc

pub answered : AnyMapped → (G : Facts) → IsSound G → IsAnswered G
answered any G sound = record {
  boot = boot_answered G sound;
  proc = proc_answered G sound;
  call = call_answered any G sound;
  touch = touch_answered G sound;
  names = names_answered G;
  show = show_answered G sound;
}

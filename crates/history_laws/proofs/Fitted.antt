-- The lines of a command whose numbers fit their types, and leave facts whose numbers do: births, processes and their pages, and
-- what is shown.
use Rattle.std.proofs.Common.{◌≡◌, ◌+◌, ◌-◌, ◌*◌, ◌/◌, ◌<◌, ◌≤◌, ℕ, zero, suc, List, [], ◌∷◌, ◌++◌, length, take, drop, map, Bool, true, false, cond, leb, ltb, eqb, not, ◌&&◌, ◌||◌, is_some, Option, None, Some, if◌then◌else◌, All, refl, sym, ap, ◌∙◌, subst, arith, length-append, length-drop, length-take}
use Rattle.std.specs.List.{AllByRecursion, range_with_len}
use Rattle.std.specs.Option.{option_map, option_map_or}
use Rattle.std.specs.Map.{values_of, keys_of}
use Rattle.std.specs.Ordering.{nat_cmp}
use Rattle.std.proofs.lemmas.Bool.{leb-false, ltb-false, eqb-true, and_parts, cond_both}
use Rattle.std.proofs.lemmas.List.{length-map}
use Rattle.std.proofs.lemmas.List.Concat.{flat_map-append}
use Rattle.std.proofs.lemmas.Map.Views.{All-values-insert_entry}
use Rattle.std.proofs.lemmas.List.Elements.{All-nil, All-cons, All-head, All-tail, All-append, All-map, All-take, All-drop, All-filter, All-weaker}
use Rattle.xm_num.specs.declared.Enclave.{Enclave}
use Rattle.xm_num.specs.declared.Pid.{Pid}
use Rattle.xm_num.specs.declared.Segid.{Segid}
use Rattle.xm_num.specs.declared.Vpn.{Vpn}
use Rattle.xm_num.specs.declared.Frame.{Frame}
use Rattle.xm_num.specs.declared.Block.{Block}
use Rattle.xm_num.specs.declared.Kind.{Kind}
use Rattle.xm_num.specs.declared.Kind.TheVariants as kinds
use Rattle.xm_num.specs.declared.Want.{Want}
use Rattle.xm_num.specs.declared.Page.{Page}
use Rattle.xm_num.specs.declared.Cause.{Cause}
use Rattle.xm_num.specs.declared.Cause.TheVariants as causes
use Rattle.xm_num.specs.Rows.{at, put, put_all}
use Rattle.xemem_language.specs.declared.command.Command.{Command}
use Rattle.xemem_language.specs.declared.command.Command.TheVariants as commands
use Rattle.xemem_language.specs.declared.record.Record.{Record}
use Rattle.xemem_language.specs.declared.record.Body.{Body}
use Rattle.xemem_language.specs.declared.record.Body.TheVariants as bodies
use Rattle.xemem_language.specs.declared.line.Line.{Line}
use Rattle.xemem_language.specs.declared.line.Line.TheVariants as lines
use Rattle.xemem_language.specs.Spelling.{body_words, line_words, words_in}
use Rattle.xemem_language.specs.Ranges.{IsInRange}
use Rattle.xemem_wire.specs.Spelling.{body_spelling, spelling_of, header_of, spellings_of, AreValid}
use Rattle.line_reader.specs.Typed.{Is8, Is16, Is32, IsTyped}
use Rattle.frame_pool.specs.declared.BlockState.{BlockState}
use Rattle.frame_pool.specs.declared.BlockState.TheVariants as states
use Rattle.frame_pool.specs.Blocks.{is_free, is_listed}
use Rattle.enclave_rules.specs.Core.{host, local_frame}
use Rattle.attach_map.specs.Attaching.{ProcessState, AttacherState}
use Rattle.enclave_rules.specs.Memory.{is_busy, new_process, with_answered, with_granted, with_released, with_issued, with_pages, with_process}
use Rattle.enclave_rules.specs.Segments.{make_acts, name_rows, remove_acts}
use Rattle.enclave_rules.specs.Pages.{own_page}
use Rattle.enclave_rules.specs.Sending.{knows_way}
use Rattle.enclave_rules.specs.Steps.{child_lines, told_lines, adopt_lines, query_of, route_lines, bytes_lines, state_line, state_lines}
use Rattle.global_model.specs.Apt.{AreOwned}
use Rattle.global_model.specs.Facts.{EnclaveFact, Facts, after_line, at_number, facts_at, fact_of, with_sent, with_taken, with_got, is_living_enclave, lives_at, runs}
use Rattle.global_model.specs.Space.{Mapping, frame_of, mapping_of, space_of, is_lent_to, is_unused, unused_frames, blocks_left}
use Rattle.global_model.specs.Channels.{is_neighbour, was_born, waiting_of, waiting_in}
use Rattle.global_model.specs.Views.{view_of}
use Rattle.global_model.specs.Refusals.{when, is_taken, refusal_of}
use Rattle.global_model.specs.Due.{next_enclave, next_pid, touched_lines, acts_of, step_lines}
use Rattle.global_model.specs.Journals.{onto}
use Rattle.history_laws.specs.Fitting.{IsCountable}
use Rattle.history_laws.specs.Laws.{HistoryLaws}
use Rattle.history_laws.proofs.Lending.{All-range}
use Rattle.history_laws.proofs.Fit.{IsNumber, AllNumbers, IsLow, IsFitState, IsFitProcess, IsFitMemory, IsFit, IsSteady, AreSteady, fit_do, fit_line, at_number_fits}
use Rattle.history_laws.proofs.Steady.{at_has, steady_append, steady_either, steady_make, steady_remove, valid_numbers, valid_query, view_fits}

-- ---- steady lines

wide : (e : Enclave) → IsNumber e → Is16 e.0
wide e number = omega (arith, number)

typed_line : (l : Line) → IsSteady l → IsTyped l
typed_line (lines.Told e of) s = (wide e s.0, wide of s.1)
typed_line (lines.Admitted e) s = wide e s
typed_line (lines.Touched e p page frame) s = s
typed_line (lines.Sent x y r) s =
    let numbers = valid_numbers r s.2 in
    (wide x s.0, wide y s.1, wide r.origin numbers.origin, numbers.call, numbers.body)
typed_line (lines.Took x y count) s = (wide x s.0, wide y s.1, s.2)
typed_line (lines.Idle x y) s = (wide x s.0, wide y s.1)
typed_line (lines.Got x y) s = (wide x s.0, wide y s.1)
typed_line (lines.Dropped e) s = wide e s
typed_line (lines.Asked e by) s = (wide e s.0, wide by s.1)
typed_line (lines.Way e over) s = (wide e s.0, wide over s.1)
typed_line (lines.Back e of over) s = (wide e s.0, wide of s.1, wide over s.2)
typed_line (lines.Route e of over) s = (wide e s.0, wide of s.1, wide over s.2)
typed_line (lines.Settled made) s = s
typed_line (lines.Waiting made) s = s
typed_line (lines.AtWay e over) s = (wide e s.0, wide over s.1)
typed_line (lines.AtWayOwn e) s = wide e s
typed_line (lines.AtWayNone e) s = wide e s
typed_line (lines.AtRoute e of over) s = (wide e s.0, wide of s.1, wide over s.2)
typed_line (lines.BlockFree b) s = s
typed_line (lines.BlockLent b e) s = let number = s.1 in (s.0, omega (arith, number))
typed_line (lines.BlockHeld b e) s = let number = s.1 in (s.0, omega (arith, number))
typed_line (lines.Issue e p call) s = (wide e s.0, s.1, s.2)
typed_line (lines.Drew e call segid) s = (wide e s.0, s.1)
typed_line (lines.Named e call segid) s = (wide e s.0, s.1)
typed_line (lines.Unnamed segid) s = tt
typed_line (lines.Remove e segid) s = wide e s
typed_line (lines.AnswerSegid e p call segid) s = (wide e s.0, s.1, s.2)
typed_line (lines.Name segid owner) s = wide owner s
typed_line _ s = absurd s

typed_lines : (ls : List Line) → AreSteady ls → All IsTyped ls
typed_lines [] steady = All-nil IsTyped
typed_lines (l ∷ ls) steady = All-cons IsTyped l ls (typed_line l steady.0) (typed_lines ls steady.1)

-- ---- lines behind a past: where few words stand before their command they are typed, and what they leave fits

pub record IsFittedUpTo (few : Type 0) (past journal : List Line) : Type 0 where
  pub typed : few → All IsTyped journal
  pub fit : few → IsFit (facts_at (onto journal past))

fit_onto : (ls past : List Line) → IsFit (facts_at past) → AreSteady ls → IsFit (facts_at (onto ls past))
fit_onto [] past fit steady = fit
fit_onto (l ∷ ls) past fit steady = fit_onto ls (l ∷ past) (fit_line (facts_at past) fit l steady.0) steady.1

-- lines that are steady where few words stand before them
pub fitted_given : (few : Type 0) (ls past : List Line) → IsFit (facts_at past) → (few → AreSteady ls) → IsFittedUpTo few past ls
fitted_given few ls past fit steady = record { typed = λ is. typed_lines ls (steady is); fit = λ is. fit_onto ls past fit (steady is) }

pub fitted_steady : (few : Type 0) (ls past : List Line) → IsFit (facts_at past) → AreSteady ls → IsFittedUpTo few past ls
fitted_steady few ls past fit steady = fitted_given few ls past fit (λ is. steady)

fitted_cons : (few : Type 0) (l : Line) (ls past : List Line) → IsTyped l → IsFittedUpTo few (l ∷ past) ls → IsFittedUpTo few past (l ∷ ls)
fitted_cons few l ls past typed more = record { typed = λ is. All-cons IsTyped l ls typed (more.typed is); fit = more.fit }

pub fitted_one : (few : Type 0) (l : Line) (past : List Line) → IsTyped l → IsFit (facts_at (l ∷ past)) → IsFittedUpTo few past (l ∷ [])
fitted_one few l past typed fit = fitted_cons few l [] past typed (record { typed = λ is. All-nil IsTyped; fit = λ is. fit })

-- a command whose acts fit where it isn't refused
pub with_refusal : (c : Command) (past : List Line) → IsFit (facts_at past) → IsInRange c
    → (refusal_of (facts_at past) c ≡ None → IsFit (facts_at (lines.Do c ∷ past)) → IsFittedUpTo (IsCountable past) (lines.Do c ∷ past) (acts_of (facts_at (lines.Do c ∷ past)) c))
    → IsFittedUpTo (IsCountable past) past (step_lines (facts_at past) c)
with_refusal c past fit range acts = by (refusal_of (facts_at past) c) refl
  where
    few : Type 0
    few = IsCountable past

    after : IsFit (facts_at (lines.Do c ∷ past))
    after = fit_do (facts_at past) fit c range

    by : (o : Option Cause) → refusal_of (facts_at past) c ≡ o
        → IsFittedUpTo (IsCountable past) past (lines.Do c ∷ option_map_or (λ cause. lines.Refused cause ∷ []) o (acts_of (facts_at (lines.Do c ∷ past)) c))
    by None is = fitted_cons few (lines.Do c) (acts_of (facts_at (lines.Do c ∷ past)) c) past tt (acts is after)
    by (Some cause) is = fitted_cons few (lines.Do c) (lines.Refused cause ∷ []) past tt (fitted_one few (lines.Refused cause) (lines.Do c ∷ past) tt after)

-- ---- conditions that don't hold

not_false : (b : Bool) → not b ≡ false → b ≡ true
not_false true is = refl
not_false false is = cc

living_some : (fact : Option EnclaveFact) → is_living_enclave fact ≡ true → is_some fact ≡ true
living_some None is = cc
living_some (Some fact) is = refl

pub living_number : (G : Facts) (e : Enclave) → IsFit G → not (is_living_enclave (G.enclave e.0)) ≡ false → IsNumber e
living_number G e fit lives = fit.tree.number e.0 (living_some (G.enclave e.0) (not_false _ lives))

-- both ends of a channel
pub channel_numbers : HistoryLaws → (G : Facts) (x y : Enclave) → IsFit G
    → refusal_of G (commands.ShowLink x y) ≡ None → IsNumber x × IsNumber y
channel_numbers laws G x y fit none =
    let there = and_parts _ _ (not_false _ (laws.act.unmet causes.NoEnclave (not (is_living_enclave (G.enclave y.0) && was_born G x.0)) (when causes.NoLink (not (is_neighbour G x.0 y.0)) ∷ []) none).0) in
    (fit.tree.number x.0 there.1, fit.tree.number y.0 (living_some (G.enclave y.0) there.0))

-- ---- births

blocks_fit : (G : Facts) (n : ℕ) → IsFit G → All (λ b. Is16 b.0) (take n (blocks_left G))
blocks_fit G n fit =
    let most = fit.pool.most in
    let low = All-weaker (λ b. (0 ≤ b) × (b < 0 + G.pool)) Is16 (λ b h. omega (arith, h.1, most)) (range_with_len 0 G.pool) (All-range 0 G.pool) in
    All-take (λ b. Is16 b.0) n (blocks_left G) (All-map (λ (b : Block). Is16 b.0) (λ b. record { 0 = b }) _ (All-filter _ Is16 (range_with_len 0 G.pool) low))

listed_fits : (blocks : List Block) (k : ℕ) → All (λ b. Is16 b.0) blocks → is_listed blocks k ≡ true → Is16 k
listed_fits [] k all is = cc
listed_fits (b ∷ blocks) k all is = by (eqb b.0 k) refl (listed_fits blocks k (All-tail (λ (x : Block). Is16 x.0) b blocks all)) is
  where
    by : (here : Bool) → eqb b.0 k ≡ here → (is_listed blocks k ≡ true → Is16 k) → (here || is_listed blocks k) ≡ true → Is16 k
    by true same later h = subst Is16 (eqb-true b.0 k same) (All-head (λ (x : Block). Is16 x.0) b blocks all)
    by false same later h = later h

fit_born : (G : Facts) (e : Enclave) (kind : Kind) (parent : Enclave) (ns : Bool) (blocks : List Block) → IsFit G → G.born ≤ 255 → IsNumber e → IsNumber parent
    → All (λ b. Is16 b.0) blocks → IsFit (after_line G (lines.Born e kind parent ns blocks))
fit_born G e kind parent ns blocks fit room number above lent =
    let fact : Option EnclaveFact = Some (record { kind = kind; parent = parent; blocks = blocks; ns = ns; living = true; admitted = false }) in
    record {
      pool = record {
        most = fit.pool.most;
        state = λ b. cond_both (is_listed blocks b) (states.Lent e) (G.block b) IsFitState (λ is. number) (λ other. fit.pool.state b);
        inside = λ b. cond_both (is_listed blocks b) (states.Lent e) (G.block b) (λ state. is_free state ≡ false → Is16 b) (λ is taken. listed_fits blocks b lent is) (λ other. fit.pool.inside b);
      };
      tree = record {
        most = omega (arith, room);
        number = λ j. cond_both (eqb j e.0) fact (G.enclave j) (λ found. is_some found ≡ true → j ≤ 255) (λ is some. subst (λ k. k ≤ 255) (sym (eqb-true j e.0 is)) number) (λ other. fit.tree.number j);
        parent = λ j. cond_both (eqb j e.0) fact (G.enclave j) (λ found. IsNumber (fact_of found).parent) (λ is. above) (λ other. fit.tree.parent j);
      };
      heard = fit.heard;
      ways = fit.ways;
      channels = fit.channels;
      starts = fit.starts;
      names = fit.names;
      memory = fit.memory;
    }

fitted_born : (few : Type 0) (G : Facts) (past : List Line) (e : Enclave) (kind : Kind) (parent : Enclave) (ns : Bool) (blocks : ℕ) (more : List Line)
    → G ≡ facts_at past → IsFit G → G.born ≤ 255 → IsNumber e → IsNumber parent → AreSteady more
    → IsFittedUpTo few past (lines.Born e kind parent ns (take blocks (blocks_left G)) ∷ more)
fitted_born few G past e kind parent ns blocks more is fit room number above steady =
    let line = lines.Born e kind parent ns (take blocks (blocks_left G)) in
    let lent = blocks_fit G blocks fit in
    let after : IsFit (facts_at (line ∷ past)) = subst (λ H. IsFit (after_line H line)) is (fit_born G e kind parent ns _ fit room number above lent) in
    fitted_cons few line more past (wide e number, wide parent above, lent) (fitted_steady few more (line ∷ past) after steady)

steady_told : (child : Enclave) (dead : List Enclave) → IsNumber child → All IsNumber dead → AreSteady (told_lines child dead)
steady_told child [] number all = tt
steady_told child (d ∷ dead) number all = ((number, All-head IsNumber d dead all), steady_told child dead number (All-tail IsNumber d dead all))

pub fitted_host : (blocks : ℕ) (ns : Bool) (past : List Line) → IsFit (facts_at past) → IsInRange (commands.Host blocks ns) → (facts_at past).born ≡ 0
    → IsFittedUpTo (IsCountable past) past (step_lines (facts_at past) (commands.Host blocks ns))
fitted_host blocks ns past fit range none =
    let c = commands.Host blocks ns in
    with_refusal c past fit range
    (λ met after. fitted_born (IsCountable past) (facts_at (lines.Do c ∷ past)) (lines.Do c ∷ past) host kinds.Host host ns blocks (if ns then lines.Admitted host ∷ [] else []) refl after (omega (arith, none)) (omega arith) (omega arith)
    (steady_either ns (lines.Admitted host ∷ []) [] (omega arith, tt) tt))

pub fitted_boot : HistoryLaws → (kind : Kind) (parent : Enclave) (blocks : ℕ) (ns : Bool) (past : List Line) → IsFit (facts_at past) → IsInRange (commands.Boot kind parent blocks ns)
    → IsFittedUpTo (IsCountable past) past (step_lines (facts_at past) (commands.Boot kind parent blocks ns))
fitted_boot laws kind parent blocks ns past fit range = with_refusal c past fit range acts
  where
    c : Command
    c = commands.Boot kind parent blocks ns

    acts : refusal_of (facts_at past) (commands.Boot kind parent blocks ns) ≡ None → IsFit (facts_at (lines.Do (commands.Boot kind parent blocks ns) ∷ past))
        → IsFittedUpTo (IsCountable past) (lines.Do (commands.Boot kind parent blocks ns) ∷ past) (acts_of (facts_at (lines.Do (commands.Boot kind parent blocks ns) ∷ past)) (commands.Boot kind parent blocks ns))
    acts none after =
        let H = facts_at (lines.Do (commands.Boot kind parent blocks ns) ∷ past) in
        let fourth = when causes.NoBlocks (ltb (length (blocks_left H)) blocks) ∷ [] in
        let third = when causes.NameServerTaken (ns && H.server) ∷ fourth in
        let second = when causes.TooMany (leb 256 H.born) ∷ third in
        let one = laws.act.unmet causes.NoEnclave (not (is_living_enclave (H.enclave parent.0))) second none in
        let two = laws.act.unmet causes.TooMany (leb 256 H.born) third one.1 in
        let room = leb-false 256 H.born two.0 in
        let above : IsNumber parent = living_number H parent after one.0 in
        let child = next_enclave H in
        let number : IsNumber child = omega (arith, room) in
        let told = told_lines child (H.heard parent.0) in
        let own = child_lines child parent ns in
        let adopted = adopt_lines (view_of H parent) child in
        fitted_born (IsCountable past) H (lines.Do (commands.Boot kind parent blocks ns) ∷ past) child kind parent ns blocks ((told ++ own) ++ adopted) refl after (omega (arith, room)) number above
        (steady_append (told ++ own) adopted
        (steady_append told own (steady_told child (H.heard parent.0) number (after.heard parent.0))
        (steady_either ns (lines.Admitted child ∷ []) (lines.Sent child parent (query_of child) ∷ []) (number, tt) ((number, above, valid_query child number), tt)))
        (steady_either (knows_way (view_of H parent)) [] (lines.Sent parent child (query_of parent) ∷ []) tt ((above, number, valid_query parent above), tt)))

-- ---- processes and their pages

put_processes : (rows : List (ℕ × ProcessState)) (p : ℕ) (process : ProcessState) → All IsFitProcess (values_of rows) → IsFitProcess process
    → All IsFitProcess (values_of (put rows p process))
unfolding put
put_processes rows p process all fits = All-values-insert_entry nat_cmp p process IsFitProcess rows all fits

-- a process that has no pages yet
new_fits : (uid gid : ℕ) → IsFitProcess (new_process uid gid)
unfolding at
new_fits uid gid v page is = cc

pub fitted_proc : HistoryLaws → (e : Enclave) (uid gid : ℕ) (past : List Line) → IsFit (facts_at past) → IsInRange (commands.Proc e uid gid)
    → IsFittedUpTo (IsCountable past) past (step_lines (facts_at past) (commands.Proc e uid gid))
fitted_proc laws e uid gid past fit range = with_refusal (commands.Proc e uid gid) past fit range (λ none after.
    let G = facts_at past in
    let one = laws.act.unmet causes.NoEnclave (not (is_living_enclave (G.enclave e.0))) (when causes.TooMany (leb 1024 G.starts) ∷ []) none in
    let few = leb-false 1024 G.starts (laws.act.unmet causes.TooMany (leb 1024 G.starts) [] one.1).0 in
    let mine = fit.memory e.0 in
    let begun = mine.started in
    let number : Is16 e.0 = wide e (living_number G e fit one.0) in
    let new : IsFitMemory (G.starts + 1) (record (G.memory e.0) { started = (G.memory e.0).started + 1; processes = put (G.memory e.0).processes ((G.memory e.0).started + 1) (new_process uid gid) }) =
    record { started = omega (arith, begun); pages = put_processes (G.memory e.0).processes _ (new_process uid gid) mine.pages (new_fits uid gid); waiting = mine.waiting } in
    fitted_one (IsCountable past) (lines.Proc e (next_pid G e) uid gid) (lines.Do (commands.Proc e uid gid) ∷ past) (number, omega (arith, few, begun), range.1.1, range.2.1)
    (record {
      pool = after.pool;
      tree = after.tree;
      heard = after.heard;
      ways = after.ways;
      channels = after.channels;
      starts = omega (arith, few);
      names = after.names;
      memory = at_number_fits (IsFitMemory (G.starts + 1)) e.0 _ G.memory new (λ j. let old = (fit.memory j).started in record { started = omega (arith, old); pages = (fit.memory j).pages; waiting = (fit.memory j).waiting });
    }))

frames_fit : (G : Facts) (e n : ℕ) → IsFit G → All (λ f. Is32 f.0) (take n (unused_frames G e))
frames_fit G e n fit =
    let most = fit.pool.most in
    let low = All-weaker (λ f. (0 ≤ f) × (f < 0 + 64 * G.pool)) Is32 (λ f h. omega (arith, h.1, most)) (range_with_len 0 (64 * G.pool)) (All-range 0 (64 * G.pool)) in
    All-take (λ f. Is32 f.0) n (unused_frames G e) (All-map (λ (f : Frame). Is32 f.0) (λ f. record { 0 = f }) _ (All-filter (is_unused G e) Is32 (range_with_len 0 (64 * G.pool)) low))

-- a page whose number fits, and several
put_fits : HistoryLaws → (rows : List (ℕ × Page)) (k : ℕ) (page : Page) → Is32 k → ((v : ℕ) (x : Page) → at rows v ≡ Some x → Is32 v)
    → (v : ℕ) (x : Page) → at (put rows k page) v ≡ Some x → Is32 v
put_fits laws rows k page low fits v x is = by (eqb k v) refl (sym (laws.row.pages rows k v page) ∙ is)
  where
    by : (b : Bool) → eqb k v ≡ b → cond b (Some page) (at rows v) ≡ Some x → Is32 v
    by true same found = subst Is32 (eqb-true k v same) low
    by false same found = fits v x found

put_all_fits : HistoryLaws → (rows : List (ℕ × Page)) (k : ℕ) (pages : List Page) → k + length pages ≤ 16777216 → ((v : ℕ) (x : Page) → at rows v ≡ Some x → Is32 v)
    → (v : ℕ) (x : Page) → at (put_all rows k pages) v ≡ Some x → Is32 v
put_all_fits laws rows k [] within fits = fits
put_all_fits laws rows k (page ∷ pages) within fits = put_all_fits laws (put rows k page) (k + 1) pages (omega (arith, within)) (put_fits laws rows k page (omega (arith, within)) fits)

pages_fit : HistoryLaws → (starts : ℕ) (m : AttacherState) (p page : ℕ) (frames : List Frame) → IsFitMemory starts m → page + length frames ≤ 16777216
    → IsFitMemory starts (with_process p (with_pages page frames) m)
pages_fit laws starts m p page frames fit within = by (at m.processes p) refl
  where
    by : (o : Option ProcessState) → at m.processes p ≡ o → IsFitMemory starts (option_map_or (λ process. record m { processes = put m.processes p (with_pages page frames process) }) o m)
    by None is = fit
    by (Some process) is =
        let count = length-map frames own_page in
        let old : IsFitProcess process = at_has IsFitProcess m.processes p process fit.pages is in
        let new : IsFitProcess (with_pages page frames process) = put_all_fits laws process.pages page (map own_page frames) (omega (arith, count, within)) old in
        record { started = fit.started; pages = put_processes m.processes p (with_pages page frames process) fit.pages new; waiting = fit.waiting }

pub fitted_alloc : HistoryLaws → (e : Enclave) (p : Pid) (at : Vpn) (pages : ℕ) (past : List Line) → IsFit (facts_at past) → IsInRange (commands.Alloc e p at pages)
    → IsFittedUpTo (IsCountable past) past (step_lines (facts_at past) (commands.Alloc e p at pages))
fitted_alloc laws e p at pages past fit range = with_refusal (commands.Alloc e p at pages) past fit range (λ none after.
    let G = facts_at past in
    let drawn = take pages (unused_frames G e.0) in
    let fifth = when causes.NoFrames (ltb (length (unused_frames G e.0)) pages) ∷ [] in
    let fourth = when causes.Taken (is_taken G e.0 p.0 at.0 pages) ∷ fifth in
    let third = when causes.BadRange (ltb 16777216 (at.0 + pages)) ∷ fourth in
    let second = when causes.Busy (is_busy (G.memory e.0) p.0) ∷ third in
    let first = when causes.NoProcess (not (runs G e.0 p.0)) ∷ second in
    let one = laws.act.unmet causes.NoEnclave (not (is_living_enclave (G.enclave e.0))) first none in
    let two = laws.act.unmet causes.NoProcess (not (runs G e.0 p.0)) second one.1 in
    let three = laws.act.unmet causes.Busy (is_busy (G.memory e.0) p.0) third two.1 in
    let within = ltb-false 16777216 (at.0 + pages) (laws.act.unmet causes.BadRange (ltb 16777216 (at.0 + pages)) fourth three.1).0 in
    let few = length-take pages (unused_frames G e.0) in
    let fact = fact_of (G.enclave e.0) in
    let named = map (local_frame fact.kind fact.blocks) drawn in
    let count = length-map drawn (local_frame fact.kind fact.blocks) in
    fitted_one (IsCountable past) (lines.Alloc e p at drawn) (lines.Do (commands.Alloc e p at pages) ∷ past) (wide e (living_number G e fit one.0), range.1.1, omega (arith, within), frames_fit G e.0 pages fit)
    (record {
      pool = after.pool;
      tree = after.tree;
      heard = after.heard;
      ways = after.ways;
      channels = after.channels;
      starts = after.starts;
      names = after.names;
      memory = at_number_fits (IsFitMemory G.starts) e.0 _ G.memory (pages_fit laws G.starts (G.memory e.0) p.0 at.0 named (fit.memory e.0) (omega (arith, within, few, count))) fit.memory;
    }))

-- a block that is lent isn't free
lent_taken : (e : ℕ) (state : BlockState) → is_lent_to e state ≡ true → is_free state ≡ false
lent_taken e states.Free lent = cc
lent_taken e (states.Lent owner) lent = refl
lent_taken e (states.Held owner) lent = cc

-- a page that is mapped, and its frame
module _ (G : Facts) (fit : IsFit G) (owned : AreOwned G) where
  found_fits : (e p v : ℕ) (found : Option ProcessState) → at (G.memory e).processes p ≡ found → (mapped : Option Page)
      → at (option_map_or (λ (process : ProcessState). process.pages) found []) v ≡ mapped → (m : Mapping) → option_map (mapping_of (fact_of (G.enclave e))) mapped ≡ Some m
      → Is32 v × Is32 m.frame.0
  unfolding at
  found_fits e p v found process None page m is = cc
  found_fits e p v None process (Some row) page m is = cc
  found_fits e p v (Some found) process (Some row) page m is =
      let fact = fact_of (G.enclave e) in
      let mapping : mapping_of fact row ≡ m = cc in
      let frame : (frame_of fact row).0 ≡ m.frame.0 = ap (λ (x : Mapping). x.frame.0) mapping in
      let inside = fit.pool.inside _ (lent_taken e _ (owned.lent e p v found row process page)) in
      (at_has IsFitProcess (G.memory e).processes p found (fit.memory e).pages process v row page, omega (arith, frame, inside))

pub fitted_touch : (e : Enclave) (p : Pid) (addr : ℕ) (want : Want) (past : List Line) → IsFit (facts_at past) → AreOwned (facts_at past) → IsInRange (commands.Touch e p addr want)
    → IsFittedUpTo (IsCountable past) past (step_lines (facts_at past) (commands.Touch e p addr want))
fitted_touch e p addr want past fit owned range = with_refusal (commands.Touch e p addr want) past fit range (λ none after. by after (space_of (facts_at past) e.0 p.0 (addr / 4096)) refl)
  where
    by : IsFit (facts_at (lines.Do (commands.Touch e p addr want) ∷ past)) → (o : Option Mapping) → space_of (facts_at past) e.0 p.0 (addr / 4096) ≡ o
        → IsFittedUpTo (IsCountable past) (lines.Do (commands.Touch e p addr want) ∷ past) (touched_lines e p (record { 0 = addr / 4096 }) o)
    by after None is = record { typed = λ few. All-nil IsTyped; fit = λ few. after }
    by after (Some m) is =
        let found = found_fits (facts_at past) fit owned e.0 p.0 (addr / 4096) _ refl _ refl m is in
        let most = range.0.1 in
        fitted_one (IsCountable past) (lines.Touched e p (record { 0 = addr / 4096 }) m.frame) (lines.Do (commands.Touch e p addr want) ∷ past) (omega (arith, most), range.1.1, found.0, found.1) after

-- ---- makes and removes

-- an enclave issues no more calls than there are words
changed_few : (past : List Line) (line : Line) (of : ℕ) (m : AttacherState) → m.issued ≤ words_in (line ∷ past) → ((e : ℕ) → ((facts_at past).memory e).issued ≤ words_in past)
    → (e : ℕ) → (at_number of m (facts_at past).memory e).issued ≤ words_in (line ∷ past)
changed_few past line of m new old =
    at_number_fits (λ (n : AttacherState). n.issued ≤ words_in (line ∷ past)) of m (facts_at past).memory new (λ j. let few = old j in omega (arith, few))

pages_issue : (p page : ℕ) (frames : List Frame) (m : AttacherState) → (with_process p (with_pages page frames) m).issued ≡ m.issued
pages_issue p page frames m = by (at m.processes p)
  where
    by : (found : Option ProcessState) → (option_map_or (λ process. record m { processes = put m.processes p (with_pages page frames process) }) found m).issued ≡ m.issued
    by None = refl
    by (Some process) = refl

issued_few : (past : List Line) (e : ℕ) → ((facts_at past).memory e).issued ≤ words_in past
issued_few [] e = omega arith
issued_few (lines.Issue of p call ∷ past) e =
    let old = issued_few past of.0 in
    changed_few past (lines.Issue of p call) of.0 (with_issued p call ((facts_at past).memory of.0)) (omega (arith, old)) (issued_few past) e
issued_few (lines.AnswerSegid of p call segid ∷ past) e =
    let old = issued_few past of.0 in
    changed_few past (lines.AnswerSegid of p call segid) of.0 (with_answered call ((facts_at past).memory of.0)) (omega (arith, old)) (issued_few past) e
issued_few (lines.AnswerApid of p call apid pages ∷ past) e =
    let old = issued_few past of.0 in
    changed_few past (lines.AnswerApid of p call apid pages) of.0 (with_granted call pages ((facts_at past).memory of.0)) (omega (arith, old)) (issued_few past) e
issued_few (lines.AnswerRefused of p call cause ∷ past) e =
    let old = issued_few past of.0 in
    changed_few past (lines.AnswerRefused of p call cause) of.0 (with_answered call ((facts_at past).memory of.0)) (omega (arith, old)) (issued_few past) e
issued_few (lines.Release of call ∷ past) e =
    let old = issued_few past of.0 in
    changed_few past (lines.Release of call) of.0 (with_released call ((facts_at past).memory of.0)) (omega (arith, old)) (issued_few past) e
issued_few (lines.Proc of p uid gid ∷ past) e =
    let old = issued_few past of.0 in
    let m = (facts_at past).memory of.0 in
    changed_few past (lines.Proc of p uid gid) of.0 (record m { started = m.started + 1; processes = put m.processes p.0 (new_process uid gid) }) (omega (arith, old)) (issued_few past) e
issued_few (lines.Alloc of p page frames ∷ past) e =
    let old = issued_few past of.0 in
    let fact = fact_of ((facts_at past).enclave of.0) in
    let local = map (local_frame fact.kind fact.blocks) frames in
    let same = pages_issue p.0 page.0 local ((facts_at past).memory of.0) in
    changed_few past (lines.Alloc of p page frames) of.0 (with_process p.0 (with_pages page.0 local) ((facts_at past).memory of.0)) (omega (arith, old, same)) (issued_few past) e
issued_few (line ∷ past) e = let old = issued_few past e in omega (arith, old)

-- the enclave lives, where that isn't the cause
lives_or : (gone : Bool) (other : Option Cause) → cond gone (Some causes.NoEnclave) other ≡ None → gone ≡ false
lives_or true other is = cc
lives_or false other is = refl

pub fitted_make : (e : Enclave) (p : Pid) (addr size mode : ℕ) (past : List Line) → IsFit (facts_at past) → IsInRange (commands.Make e p addr size mode)
    → IsFittedUpTo (IsCountable past) past (step_lines (facts_at past) (commands.Make e p addr size mode))
fitted_make e p addr size mode past fit range = with_refusal (commands.Make e p addr size mode) past fit range (λ none after.
    let G = facts_at past in
    let H = facts_at (lines.Do (commands.Make e p addr size mode) ∷ past) in
    let number = living_number G e fit (lives_or (not (is_living_enclave (G.enclave e.0))) _ none) in
    let issued = issued_few past e.0 in
    fitted_given (IsCountable past) (make_acts H.hand (view_of H e) p) (lines.Do (commands.Make e p addr size mode) ∷ past) after
    (λ few. steady_make (view_of H e) (view_fits H e after number) H.hand p range.1.1 (omega (arith, issued, few))))

pub fitted_remove : (e : Enclave) (p : Pid) (segid : Segid) (past : List Line) → IsFit (facts_at past) → IsInRange (commands.Remove e p segid)
    → IsFittedUpTo (IsCountable past) past (step_lines (facts_at past) (commands.Remove e p segid))
fitted_remove e p segid past fit range = with_refusal (commands.Remove e p segid) past fit range (λ none after.
    let G = facts_at past in
    let H = facts_at (lines.Do (commands.Remove e p segid) ∷ past) in
    let number = living_number G e fit (lives_or (not (is_living_enclave (G.enclave e.0))) _ none) in
    fitted_steady (IsCountable past) (remove_acts (view_of H e) segid) (lines.Do (commands.Remove e p segid) ∷ past) after (steady_remove (view_of H e) (view_fits H e after number) segid))

-- ---- what is shown

pub steady_name_rows : (pairs : List (ℕ × Enclave)) → AllNumbers pairs → AreSteady (name_rows pairs)
steady_name_rows [] all = tt
steady_name_rows (row ∷ pairs) all = (All-head IsNumber row.1 (values_of pairs) all, steady_name_rows pairs (All-tail IsNumber row.1 (values_of pairs) all))

pub steady_routes : (G : Facts) (e : Enclave) → IsFit G → IsNumber e → AreSteady (route_lines (view_of G e))
steady_routes G e fit number = (by (view_of G e).core.holder (G.ways e.0).way (fit.ways e.0).over, rows (G.ways e.0).routes (fit.ways e.0).lies (fit.ways e.0).route)
  where
    by : (holder : Bool) (way : Option Enclave) → ((x : Enclave) → way ≡ Some x → IsNumber x)
        → IsSteady (if holder then lines.AtWayOwn e else option_map_or (λ over. lines.AtWay e over) way (lines.AtWayNone e))
    by true way near = number
    by false None near = number
    by false (Some over) near = (number, near over refl)

    rows : (routes : List (ℕ × Enclave)) → All IsLow (keys_of routes) → AllNumbers routes
        → AreSteady (map (λ row. lines.AtRoute e (record { 0 = row.0 }) row.1) routes)
    rows [] low near = tt
    rows (row ∷ routes) low near =
        ((number, All-head IsLow row.0 (keys_of routes) low, All-head IsNumber row.1 (values_of routes) near), rows routes (All-tail IsLow row.0 (keys_of routes) low) (All-tail IsNumber row.1 (values_of routes) near))

pub steady_states : (b : ℕ) (ss : List BlockState) → b + length ss ≤ 65536 → All IsFitState ss → AreSteady (state_lines b ss)
steady_states b [] within all = tt
steady_states b (s ∷ ss) within all = (by s (All-head IsFitState s ss all), steady_states (b + 1) ss (omega (arith, within)) (All-tail IsFitState s ss all))
  where
    by : (state : BlockState) → IsFitState state → IsSteady (state_line b state)
    by states.Free fits = omega (arith, within)
    by (states.Lent e) fits = (omega (arith, within), fits)
    by (states.Held e) fits = (omega (arith, within), fits)

-- bytes are spelled of valid records
bytes_fit : HistoryLaws → (rs : List Record) → AreValid rs → All Is8 (spellings_of rs)
bytes_fit laws [] valid = All-nil Is8
bytes_fit laws (r ∷ rs) valid = All-append Is8 (spelling_of r) (spellings_of rs) (below (spelling_of r) (laws.wire.bytes r valid.0)) (bytes_fit laws rs valid.1)
  where
    below : (bytes : List ℕ) → AllByRecursion (λ byte. byte < 256) bytes → All Is8 bytes
    below [] all = All-nil Is8
    below (b ∷ bytes) all = let low = all.0 in All-cons Is8 b bytes (omega (arith, low)) (below bytes all.1)

-- a record has at most four bytes for each word of the line that sends it
few_of_body : (body : Body) → length (body_spelling body) ≤ 4 * length (body_words body) + 12
few_of_body (bodies.Named segid) = omega arith
few_of_body (bodies.Unname segid) = omega arith
few_of_body _ = omega arith

few_bytes : (x y : Enclave) (r : Record) → length (spelling_of r) ≤ 4 * length (line_words (lines.Sent x y r))
unfolding spelling_of header_of
few_bytes x y r = let body = few_of_body r.body in omega (arith, body)

sent_bytes : (past : List Line) (x y : ℕ) → length (spellings_of ((facts_at past).channel x y).sent) ≤ 4 * words_in past
sent_bytes [] x y = omega arith
sent_bytes (lines.Sent a b r ∷ past) x y =
    let old = sent_bytes past x y in
    let few = few_bytes a b r in
    let G = facts_at past in
    cond_both (eqb x a.0 && eqb y b.0) (with_sent r (G.channel x y)) (G.channel x y) (λ c. length (spellings_of c.sent) ≤ 4 * words_in (lines.Sent a b r ∷ past))
    (λ is. let sum = ap length (flat_map-append spelling_of (G.channel x y).sent (r ∷ [])) ∙ length-append (spellings_of (G.channel x y).sent) (spellings_of (r ∷ [])) in let last = length-append (spelling_of r) [] in omega (arith, old, few, sum, last))
    (λ other. omega (arith, old))
sent_bytes (lines.Took a b count ∷ past) x y =
    let old = sent_bytes past x y in
    let G = facts_at past in
    cond_both (eqb x a.0 && eqb y b.0) (with_taken count (G.channel x y)) (G.channel x y) (λ c. length (spellings_of c.sent) ≤ 4 * words_in (lines.Took a b count ∷ past)) (λ is. omega (arith, old)) (λ other. omega (arith, old))
sent_bytes (lines.Got a b ∷ past) x y =
    let old = sent_bytes past x y in
    let G = facts_at past in
    cond_both (eqb x a.0 && eqb y b.0) (with_got (G.channel x y)) (G.channel x y) (λ c. length (spellings_of c.sent) ≤ 4 * words_in (lines.Got a b ∷ past)) (λ is. omega (arith, old)) (λ other. omega (arith, old))
sent_bytes (line ∷ past) x y = let old = sent_bytes past x y in omega (arith, old)

waiting_few : (past : List Line) (x y : ℕ) → IsCountable past → length (waiting_in (facts_at past) x y) ≤ 4294967295
waiting_few past x y few =
    let G = facts_at past in
    let channel = G.channel x y in
    let bytes = spellings_of channel.sent in
    let sent = sent_bytes past x y in
    let whole = length-take (length bytes - channel.cut) bytes in
    let left = length-drop channel.taken (take (length bytes - channel.cut) bytes) in
    cond_both (lives_at G y) (waiting_of channel) [] (λ waiting. length waiting ≤ 4294967295) (λ is. omega (arith, sent, whole, left, few)) (λ other. omega arith)

-- lines of bytes, which are no more than so many behind the place of the first
fitted_bytes : (few : Type 0) (all : ℕ) (x y : Enclave) (most at : ℕ) (bytes : List ℕ) (past : List Line) → (few → all ≤ 4294967295) → IsFit (facts_at past)
    → Is16 x.0 → Is16 y.0 → length bytes ≤ all - at → All Is8 bytes → IsFittedUpTo few past (bytes_lines x y most at bytes)
fitted_bytes few all x y zero at bytes past low fit from to within each = record { typed = λ is. All-nil IsTyped; fit = λ is. fit }
fitted_bytes few all x y (suc most) at [] past low fit from to within each = record { typed = λ is. All-nil IsTyped; fit = λ is. fit }
fitted_bytes few all x y (suc most) at (byte ∷ bytes) past low fit from to within each =
    let line = lines.Bytes x y at (take 32 (byte ∷ bytes)) in
    let left = length-drop 32 (byte ∷ bytes) in
    let more = fitted_bytes few all x y most (at + 32) (drop 32 (byte ∷ bytes)) (line ∷ past) low fit from to (omega (arith, within, left)) (All-drop Is8 32 (byte ∷ bytes) each) in
    record {
      typed = λ is. let most_bytes = low is in
          All-cons IsTyped line _ (from, to, omega (arith, within, most_bytes), All-take Is8 32 (byte ∷ bytes) each) (more.typed is);
      fit = more.fit;
    }

bytes_wait : HistoryLaws → (G : Facts) (x y : ℕ) → IsFit G → All Is8 (waiting_in G x y)
bytes_wait laws G x y fit =
    let channel = G.channel x y in
    let bytes = spellings_of channel.sent in
    let whole = All-take Is8 (length bytes - channel.cut) bytes (bytes_fit laws channel.sent (fit.channels x y)) in
    cond_both (lives_at G y) (waiting_of channel) [] (All Is8) (λ is. All-drop Is8 channel.taken (take (length bytes - channel.cut) bytes) whole) (λ other. All-nil Is8)

pub fitted_link : HistoryLaws → (x y : Enclave) (past : List Line) → IsFit (facts_at past) → IsInRange (commands.ShowLink x y)
    → IsFittedUpTo (IsCountable past) past (step_lines (facts_at past) (commands.ShowLink x y))
fitted_link laws x y past fit range = with_refusal (commands.ShowLink x y) past fit range (λ none after.
    let G = facts_at past in
    let ends = channel_numbers laws G x y fit none in
    let waiting = waiting_in G x.0 y.0 in
    fitted_bytes (IsCountable past) (length waiting) x y (length waiting) 0 waiting (lines.Do (commands.ShowLink x y) ∷ past) (waiting_few past x.0 y.0) after (wide x ends.0) (wide y ends.1)
    (omega arith)
    (bytes_wait laws G x.0 y.0 fit))

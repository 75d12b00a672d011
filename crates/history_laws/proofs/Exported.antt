-- The frames of exports lie in blocks that are lent to their enclave, at each line of a journal.
use Rattle.std.proofs.Common.{◌≡◌, ◌+◌, ◌/◌, ℕ, List, [], ◌∷◌, ◌++◌, Bool, true, false, eqb, not, ◌&&◌, ◌||◌, is_some, Option, None, Some, if◌then◌else◌, All, refl, sym, ap, ◌∙◌, subst, arith, append-nil}
use Rattle.std.specs.List.{AllByRecursion, list_all, range_with_len}
use Rattle.std.specs.Option.{option_map_or}
use Rattle.std.specs.Map.{values_of}
use Rattle.std.specs.Ordering.{nat_cmp}
use Rattle.std.specs.BTreeMap.{is_at}
use Rattle.std.proofs.lemmas.Bool.{eqb-true, ltb-true, and_parts, cond_both}
use Rattle.std.proofs.lemmas.List.Elements.{All-nil, All-cons, All-head, All-tail, All-map, All-take, All-weaker}
use Rattle.std.proofs.lemmas.Map.Views.{All-map-remove_entry, All-values-insert_entry}
use Rattle.xm_num.specs.declared.Block.{Block}
use Rattle.xm_num.specs.declared.CallNo.{CallNo}
use Rattle.xm_num.specs.declared.Cause.TheVariants as causes
use Rattle.xm_num.specs.declared.Enclave.{Enclave}
use Rattle.xm_num.specs.declared.Frame.{Frame}
use Rattle.xm_num.specs.declared.Kind.{Kind}
use Rattle.xm_num.specs.declared.Page.{Page}
use Rattle.xm_num.specs.declared.Pid.{Pid}
use Rattle.xm_num.specs.declared.Segid.{Segid}
use Rattle.xm_num.specs.Rows.{at, less, put}
use Rattle.xm_num.specs.Sizes.{page_bytes}
use Rattle.xemem_language.specs.declared.call.Call.{Call}
use Rattle.xemem_language.specs.declared.call.Call.TheVariants as calls
use Rattle.xemem_language.specs.declared.call.ProcessCall.{ProcessCall}
use Rattle.xemem_language.specs.declared.command.Command.{Command}
use Rattle.xemem_language.specs.declared.command.Command.TheVariants as commands
use Rattle.xemem_language.specs.declared.line.Line.{Line}
use Rattle.xemem_language.specs.declared.line.Line.TheVariants as lines
use Rattle.xemem_language.specs.declared.record.Record.{Record}
use Rattle.xemem_language.specs.Calls.{call_of}
use Rattle.xemem_wire.specs.Spelling.{is_valid}
use Rattle.frame_pool.specs.declared.BlockState.{BlockState}
use Rattle.frame_pool.specs.declared.BlockState.TheVariants as states
use Rattle.frame_pool.specs.Blocks.{is_free, is_listed}
use Rattle.attach_map.specs.declared.Waiting.{Waiting}
use Rattle.attach_map.specs.Attaching.{ProcessState}
use Rattle.exporter_pins.specs.Holdings.{Export, live_export, live_with, with_live}
use Rattle.name_server.specs.Names.{has_name}
use Rattle.enclave_rules.specs.Core.{is_guest, machine_frame}
use Rattle.enclave_rules.specs.Exports.{frame_at, is_segid, region_export, segid_number, with_issued_export, without_live}
use Rattle.enclave_rules.specs.Hand.{Hand, Calls}
use Rattle.enclave_rules.specs.Names.{can_draw, next_segid}
use Rattle.enclave_rules.specs.View.{View, own_lines, IsOf, AreOf}
use Rattle.enclave_rules.specs.Sending.{Goal, Server, drop_lines, knows_way, made_lines, over_lines, send_lines, way_to}
use Rattle.enclave_rules.specs.Segments.{asking_lines, drew_line, is_own_page, issue_line, make_of, name_request, named_lines, naming_lines, remove_acts, takes_name, unname_lines, unname_record}
use Rattle.enclave_rules.specs.Steps.{adopt_lines, birth_lines, child_lines, handled_lines, host_lines, query_of, told_lines}
use Rattle.enclave_rules.specs.Calls.{at_hand}
use Rattle.global_model.specs.Apt.{AptAt, AreOwned, IsAptCommand, OwnedAt}
use Rattle.global_model.specs.Facts.{EnclaveFact, Facts, after_lines, as_admitted, at_number, block_after, fact_of, facts_at, is_living_enclave, lent_to, no_facts}
use Rattle.global_model.specs.Flow.{IsTree}
use Rattle.global_model.specs.Journals.{Follows, onto}
use Rattle.global_model.specs.Pauses.{Asks, AreSteps, Bears, Handles, Hosts, IsPause, MayAsk, MayCome, MayStandAlone, Step, Takes, Written, asked_lines, written_by, written_in}
use Rattle.global_model.specs.Refusals.{are_owned, first_cause, refusal_of, when}
use Rattle.global_model.specs.Space.{blocks_left, is_lent_to}
use Rattle.global_model.specs.Views.{view_of}
use Rattle.global_model.specs.Place.{IsPlaced}
use Rattle.global_model.specs.Due.{journal_of}
use Rattle.history_laws.specs.Laws.{HistoryLaws}
use Rattle.history_laws.proofs.Follow.{Follows-append, Follows-behind, Follows-front}
use Rattle.history_laws.proofs.Lending.{blocks_free, not_lent}
use Rattle.history_laws.proofs.Steady.{at_has}

-- each frame of the export lies in a block that is lent to the enclave
abbrev pub IsWithinLent : (ℕ → BlockState) → ℕ → Export → Type 0
IsWithinLent block e export = All (λ f. is_lent_to e (block (f.0 / 64)) ≡ true) export.frames

abbrev AreWithinLent : (ℕ → BlockState) → ℕ → List (ℕ × Export) → Type 0
AreWithinLent block e rows = All (IsWithinLent block e) (values_of rows)

-- no enclave is a virtual machine, so that each names frames as the machine does; and nothing is exported before one is born
pub record AreExportsLent (G : Facts) : Type 0 where
  pub plain : (e : ℕ) → is_guest (fact_of (G.enclave e)).kind ≡ false
  pub empty : G.born ≡ 0 → (e : ℕ) → G.exports e ≡ []
  pub lent : (e : ℕ) → AreWithinLent G.block e (G.exports e)

abbrev pub LentAt : List Line → Line → Type 0
LentAt past line = AreExportsLent (facts_at past)

-- ---- rows

put_lent : (block : ℕ → BlockState) (e : ℕ) (rows : List (ℕ × Export)) (k : ℕ) (export : Export) → AreWithinLent block e rows → IsWithinLent block e export
    → AreWithinLent block e (put rows k export)
unfolding put
put_lent block e rows k export all fits = All-values-insert_entry nat_cmp k export (IsWithinLent block e) rows all fits

live_lent : (block : ℕ → BlockState) (e : ℕ) (rows : List (ℕ × Export)) (call : ℕ) (segid : ℕ) → AreWithinLent block e rows
    → AreWithinLent block e (with_live call segid rows)
live_lent block e rows call segid all = by (at rows call) refl
  where
    by : (found : Option Export) → at rows call ≡ found → AreWithinLent block e (with_live call segid rows)
    by None is = rw is all
    by (Some export) is = rw is (put_lent block e rows call (live_with segid export) all (at_has (IsWithinLent block e) rows call export all is))

removed_lent : (block : ℕ → BlockState) (e : ℕ) (rows : List (ℕ × Export)) (segid : ℕ) → AreWithinLent block e rows
    → AreWithinLent block e (without_live segid rows)
unfolding less
removed_lent block e rows segid all = by (live_export rows segid)
  where
    by : (found : Option (ℕ × Export)) → AreWithinLent block e (option_map_or (λ row. less rows row.0) found rows)
    by None = all
    by (Some row) = All-map-remove_entry (is_at (nat_cmp row.0)) (λ one. one.1) (IsWithinLent block e) rows all

no_live : (rows : List (ℕ × Export)) (call : ℕ) (segid : ℕ) → rows ≡ [] → with_live call segid rows ≡ []
unfolding at
no_live rows call segid none = ap (with_live call segid) none

exports_lent : (G : Facts) (e : ℕ) (rows : List (ℕ × Export)) → AreWithinLent G.block e rows → ((j : ℕ) → AreWithinLent G.block j (G.exports j))
    → (j : ℕ) → AreWithinLent G.block j (at_number e rows G.exports j)
exports_lent G e rows new old j =
    cond_both (eqb j e) rows (G.exports j) (AreWithinLent G.block j) (λ is. subst (λ n. AreWithinLent G.block n rows) (sym (eqb-true j e is)) new) (λ other. old j)

exports_none : (G : Facts) (e : ℕ) (rows : List (ℕ × Export)) → rows ≡ [] → ((j : ℕ) → G.exports j ≡ []) → (j : ℕ) → at_number e rows G.exports j ≡ []
exports_none G e rows new old j = cond_both (eqb j e) rows (G.exports j) (λ found. found ≡ []) (λ is. new) (λ other. old j)

-- ---- blocks

listed_free : (block : ℕ → BlockState) (blocks : List Block) (b : ℕ) → All (λ x. is_free (block x.0) ≡ true) blocks → is_listed blocks b ≡ true → is_free (block b) ≡ true
listed_free block [] b free is = cc
listed_free block (x ∷ blocks) b free is = by (eqb x.0 b) refl (listed_free block blocks b (All-tail (λ (y : Block). is_free (block y.0) ≡ true) x blocks free)) is
  where
    by : (here : Bool) → eqb x.0 b ≡ here → (is_listed blocks b ≡ true → is_free (block b) ≡ true) → (here || is_listed blocks b) ≡ true → is_free (block b) ≡ true
    by true same later h = subst (λ n. is_free (block n) ≡ true) (eqb-true x.0 b same) (All-head (λ (y : Block). is_free (block y.0) ≡ true) x blocks free)
    by false same later h = later h

-- what is lent isn't free, so a birth leaves it
still_lent : (block : ℕ → BlockState) (blocks : List Block) (e : Enclave) (j b : ℕ) → All (λ x. is_free (block x.0) ≡ true) blocks
    → is_lent_to j (block b) ≡ true → is_lent_to j (lent_to blocks e block b) ≡ true
still_lent block blocks e j b free is =
    cond_both (is_listed blocks b) (states.Lent e) (block b) (λ s. is_lent_to j s ≡ true) (λ listed. absurd (not_lent j (block b) (listed_free block blocks b free listed) is)) (λ other. is)

born_lent : (block : ℕ → BlockState) (blocks : List Block) (e : Enclave) (j : ℕ) (rows : List (ℕ × Export)) → All (λ x. is_free (block x.0) ≡ true) blocks
    → AreWithinLent block j rows → AreWithinLent (lent_to blocks e block) j rows
born_lent block blocks e j rows free all =
    All-weaker (IsWithinLent block j) (IsWithinLent (lent_to blocks e block) j)
    (λ export fits. All-weaker (λ (f : Frame). is_lent_to j (block (f.0 / 64)) ≡ true) (λ f. is_lent_to j (lent_to blocks e block (f.0 / 64)) ≡ true) (λ f is. still_lent block blocks e j (f.0 / 64) free is) export.frames fits)
    (values_of rows) all

do_lent : (c : Command) (G : Facts) → IsAptCommand G c → AreExportsLent G → (e : ℕ) → AreWithinLent (block_after c G.block) e (G.exports e)
do_lent (commands.Pool blocks) G none h e =
    let block : ℕ → BlockState = block_after (commands.Pool blocks) G.block in
    subst (AreWithinLent block e) (sym (h.empty none e)) (All-nil (IsWithinLent block e))
do_lent _ G apt h e = h.lent e

-- ---- a line that issues no call

pub is_issue : Line → Bool
is_issue (lines.Issue e p call) = true
is_issue line = false

kept_line : (past : List Line) (l : Line) → is_issue l ≡ false → AptAt past l → AreExportsLent (facts_at past) → AreExportsLent (facts_at (l ∷ past))
unfolding is_issue
kept_line past (lines.Issue e p call) fine apt h = cc
kept_line past (lines.Do c) fine apt h = record { plain = h.plain; empty = h.empty; lent = do_lent c (facts_at past) apt h }
kept_line past (lines.Born e kind parent ns blocks) fine apt h =
    let G = facts_at past in
    let fact : Option EnclaveFact = Some (record { kind = kind; parent = parent; blocks = blocks; ns = ns; living = true; admitted = false }) in
    let free = subst (All (λ (x : Block). is_free (G.block x.0) ≡ true)) (sym apt.lowest) (All-take (λ (x : Block). is_free (G.block x.0) ≡ true) apt.count (blocks_left G) (blocks_free G)) in
    record {
      plain = λ j. cond_both (eqb j e.0) fact (G.enclave j) (λ found. is_guest (fact_of found).kind ≡ false) (λ is. apt.plain) (λ other. h.plain j);
      empty = λ none j. absurd (omega (arith, none));
      lent = λ j. born_lent G.block blocks e j (G.exports j) free (h.lent j);
    }
kept_line past (lines.Admitted e) fine apt h =
    let G = facts_at past in
    record {
      plain = λ j. cond_both (eqb j e.0) (as_admitted (G.enclave e.0)) (G.enclave j) (λ found. is_guest (fact_of found).kind ≡ false) (λ is. same (G.enclave e.0) (h.plain e.0)) (λ other. h.plain j);
      empty = h.empty;
      lent = h.lent;
    }
  where
    same : (found : Option EnclaveFact) → is_guest (fact_of found).kind ≡ false → is_guest (fact_of (as_admitted found)).kind ≡ false
    same None is = is
    same (Some fact) is = is
kept_line past (lines.Named e call segid) fine apt h =
    let G = facts_at past in
    let n = segid_number segid in
    record {
      plain = h.plain;
      empty = λ none. exports_none G e.0 (with_live call.0 n (G.exports e.0)) (no_live (G.exports e.0) call.0 n (h.empty none e.0)) (h.empty none);
      lent = exports_lent G e.0 (with_live call.0 n (G.exports e.0)) (live_lent G.block e.0 (G.exports e.0) call.0 n (h.lent e.0)) h.lent;
    }
kept_line past (lines.Remove e segid) fine apt h =
    let G = facts_at past in
    let n = segid_number segid in
    record {
      plain = h.plain;
      empty = λ none. exports_none G e.0 (without_live n (G.exports e.0)) (ap (without_live n) (h.empty none e.0)) (h.empty none);
      lent = exports_lent G e.0 (without_live n (G.exports e.0)) (removed_lent G.block e.0 (G.exports e.0) n (h.lent e.0)) h.lent;
    }
kept_line past _ fine apt h = record { plain = h.plain; empty = h.empty; lent = h.lent }

-- ---- lines that issue no call

abbrev NoneIssues : List Line → Type 0
NoneIssues journal = AllByRecursion (λ l. is_issue l ≡ false) journal

record IsLentUpTo (past journal : List Line) : Type 0 where
  lines : Follows LentAt past journal
  after : AreExportsLent (facts_at (onto journal past))

lent_lines : (ls past : List Line) → NoneIssues ls → Follows AptAt past ls → AreExportsLent (facts_at past) → IsLentUpTo past ls
lent_lines [] past none apt h = record { lines = tt; after = h }
lent_lines (l ∷ ls) past none apt h =
    let more = lent_lines ls (l ∷ past) none.1 apt.1 (kept_line past l none.0 apt.0 h) in
    record { lines = (h, more.lines); after = more.after }

none_append : (ls ms : List Line) → NoneIssues ls → NoneIssues ms → NoneIssues (ls ++ ms)
none_append [] ms first more = more
none_append (l ∷ ls) ms first more = (first.0, none_append ls ms first.1 more)

none_either : (b : Bool) (ls ms : List Line) → NoneIssues ls → NoneIssues ms → NoneIssues (if b then ls else ms)
none_either true ls ms left right = left
none_either false ls ms left right = right

module _ (v : View) where
  none_drop : NoneIssues (drop_lines v)
  unfolding is_issue
  none_drop = (refl, tt)

  none_over : (came over : Option Enclave) (r : Record) → NoneIssues (over_lines v came over r)
  unfolding is_issue
  none_over came None r = none_drop
  none_over came (Some over) r =
      none_either (option_map_or (λ (from : Enclave). eqb over.0 from.0) came false) (drop_lines v) (lines.Sent v.me over r ∷ []) none_drop (refl, tt)

  none_made : (goal : Goal) (r : Record) → NoneIssues (made_lines v goal r)
  none_made goal r = none_either (is_valid r) (send_lines v None goal r) (drop_lines v) (none_over None (way_to v goal) r) none_drop

  none_named : (call : ℕ) (segid : Segid) → NoneIssues (named_lines v call segid)
  unfolding is_issue
  none_named call segid = by (at v.memory.waiting call)
    where
      by : (found : Option Waiting) → NoneIssues (option_map_or (λ waiting. if takes_name v call segid waiting
          then lines.Named v.me (record { 0 = call }) segid ∷ lines.AnswerSegid v.me waiting.pid (record { 0 = call }) segid ∷ []
          else drop_lines v) found (drop_lines v))
      by None = none_drop
      by (Some waiting) = none_either (takes_name v call segid waiting)
          (lines.Named v.me (record { 0 = call }) segid ∷ lines.AnswerSegid v.me waiting.pid (record { 0 = call }) segid ∷ []) (drop_lines v)
          (refl, (refl, tt)) none_drop

  none_remove : (segid : Segid) → NoneIssues (remove_acts v segid)
  unfolding is_issue
  none_remove segid =
      let away = unname_record v.me (make_of v.exports (segid_number segid)) segid in (
        refl,
        none_either v.core.holder (unname_lines v v.me segid) (made_lines v Server away)
            (none_either (is_segid segid && has_name v.names (segid_number segid) v.me) (lines.Unnamed segid ∷ []) (drop_lines v) (refl, tt) none_drop) (none_made Server away),
      )

none_asking : (hand : Hand) (v : View) (call : ℕ) → NoneIssues (asking_lines hand v call)
unfolding is_issue
none_asking hand v call =
    let w = own_lines hand v (drew_line v v.me call ∷ []) in
    none_either v.core.holder (naming_lines hand v call) (made_lines v Server (name_request v.me call))
    (none_either (can_draw v.names) (drew_line v v.me call ∷ named_lines w call (next_segid v.names)) (drop_lines v) (refl, none_named w call (next_segid v.names)) (none_drop v))
    (none_made v Server (name_request v.me call))

of_none : (holder y : Enclave) (ls : List Line) → AreOf holder y ls → NoneIssues ls
unfolding is_issue
of_none holder y [] of = tt
of_none holder y (l ∷ ls) of = (one l of.0, of_none holder y ls of.1)
  where
    one : (line : Line) → IsOf holder y line → is_issue line ≡ false
    one (lines.Issue e p call) of = absurd of
    one _ of = refl

none_handled : HistoryLaws → (v : View) (x : Enclave) (r : Record) → NoneIssues (handled_lines v x r)
none_handled laws v x r = of_none v.me v.me (handled_lines v x r) (subst (AreOf v.me v.me) (append-nil (handled_lines v x r)) (laws.act.of v.me v x (r ∷ []) (λ held. refl)))

none_told : (child : Enclave) (dead : List Enclave) → NoneIssues (told_lines child dead)
unfolding is_issue
none_told child [] = tt
none_told child (d ∷ dead) = (refl, none_told child dead)

none_host : (ns : Bool) (blocks : List Block) → NoneIssues (host_lines blocks ns)
unfolding is_issue
none_host true blocks = (refl, (refl, tt))
none_host false blocks = (refl, tt)

none_child : (child parent : Enclave) (ns : Bool) → NoneIssues (child_lines child parent ns)
unfolding is_issue
none_child child parent true = (refl, tt)
none_child child parent false = (refl, tt)

none_birth : (child : Enclave) (kind : Kind) (parent : Enclave) (blocks : List Block) (ns : Bool) (heard : List Enclave) (v : View)
    → NoneIssues (birth_lines child kind parent blocks ns heard ++ adopt_lines v child)
unfolding is_issue
none_birth child kind parent blocks ns heard v =
    let told = told_lines child heard in
    let own = child_lines child parent ns in (
      refl,
      none_append (told ++ own) (adopt_lines v child) (none_append told own (none_told child heard) (none_child child parent ns))
          (none_either (knows_way v) [] (lines.Sent v.me child (query_of v.me) ∷ []) tt (refl, tt)),
    )

none_alone : (G : Facts) (line : Line) → MayStandAlone G line → is_issue line ≡ false
unfolding is_issue
none_alone G (lines.Issue e p call) alone = absurd alone
none_alone G _ alone = refl

-- ---- a call that is issued

-- the conditions of a make, in their order: the last doesn't hold where none does
make_owned : (a b c d e f g h i : Bool) → first_cause (when causes.NoEnclave a ∷ when causes.NoProcess b ∷ when causes.NotReady c ∷ when causes.Busy d ∷ when causes.BadAlign e ∷ when causes.BadRange f ∷ when causes.TooLarge g ∷ when causes.BadRange h ∷ when causes.NotMapped (not i) ∷ []) ≡ None
    → i ≡ true
make_owned true b c d e f g h i is = cc
make_owned false true c d e f g h i is = cc
make_owned false false true d e f g h i is = cc
make_owned false false false true e f g h i is = cc
make_owned false false false false true f g h i is = cc
make_owned false false false false false true g h i is = cc
make_owned false false false false false false true h i is = cc
make_owned false false false false false false false true i is = cc
make_owned false false false false false false false false true is = refl
make_owned false false false false false false false false false is = cc

all_pass : (passes : ℕ → Bool) (ns : List ℕ) → list_all passes ns ≡ true → All (λ n. passes n ≡ true) ns
all_pass passes [] is = All-nil (λ n. passes n ≡ true)
all_pass passes (n ∷ ns) is =
    let both = and_parts (passes n) (list_all passes ns) is in
    All-cons (λ m. passes m ≡ true) n ns both.0 (all_pass passes ns both.1)

pub plain_frame : (kind : Kind) (blocks : List Block) (f : Frame) → is_guest kind ≡ false → machine_frame kind blocks f ≡ f
plain_frame kind blocks f is = rw is refl

module _ (G : Facts) (owned : AreOwned G) (h : AreExportsLent G) (e : ℕ) (p : ℕ) where
  page_lent : (process : ProcessState) → at (G.memory e).processes p ≡ Some process → (v : ℕ) → is_own_page process.pages v ≡ true
      → is_lent_to e (G.block ((frame_at process.pages v).0 / 64)) ≡ true
  page_lent process lives v is = by (at process.pages v) refl is
    where
      by : (found : Option Page) → at process.pages v ≡ found → option_map_or (λ (page : Page). page.own) found false ≡ true
          → is_lent_to e (G.block ((option_map_or (λ (page : Page). page.frame) found (record { 0 = 0 })).0 / 64)) ≡ true
      by None there own = cc
      by (Some page) there own =
          let fact = fact_of (G.enclave e) in
          subst (λ f. is_lent_to e (G.block (f.0 / 64)) ≡ true) (plain_frame fact.kind fact.blocks page.frame (h.plain e)) (owned.lent e p v process page lives there)

  asked_lent : (call : CallNo) (addr size mode : ℕ) → are_owned G e p (addr / page_bytes) (size / page_bytes) ≡ true
      → AreWithinLent G.block e (option_map_or (λ process. put (G.exports e) call.0 (region_export p process addr size mode)) (at (G.memory e).processes p) (G.exports e))
  asked_lent call addr size mode all = by (at (G.memory e).processes p) refl all
    where
      by : (found : Option ProcessState) → at (G.memory e).processes p ≡ found
          → list_all (is_own_page (option_map_or (λ (process : ProcessState). process.pages) found [])) (range_with_len (addr / page_bytes) (size / page_bytes)) ≡ true
          → AreWithinLent G.block e (option_map_or (λ process. put (G.exports e) call.0 (region_export p process addr size mode)) found (G.exports e))
      by None lives own = h.lent e
      by (Some process) lives own =
          let pages = range_with_len (addr / page_bytes) (size / page_bytes) in
          put_lent G.block e (G.exports e) call.0 (region_export p process addr size mode) (h.lent e)
          (All-map (λ (f : Frame). is_lent_to e (G.block (f.0 / 64)) ≡ true) (frame_at process.pages) pages
          (All-weaker (λ v. is_own_page process.pages v ≡ true) (λ v. is_lent_to e (G.block ((frame_at process.pages v).0 / 64)) ≡ true) (page_lent process lives) pages (all_pass (is_own_page process.pages) pages own)))

some_of_living : (fact : Option EnclaveFact) → is_living_enclave fact ≡ true → is_some fact ≡ true
some_of_living None is = cc
some_of_living (Some fact) is = refl

-- the command that asks for a make
asked_by : Enclave → Pid → Call → ProcessCall
asked_by e p call = record { enclave = e; pid = p; call = call }

asked_parts : (of e : Enclave) (by p : Pid) (c d : Call) → Some (asked_by of by c) ≡ Some (asked_by e p d) → (of ≡ e) × (by ≡ p) × (c ≡ d)
unfolding asked_by
asked_parts of e by p c d is =
    let same : asked_by of by c ≡ asked_by e p d = cc in
    (ap (λ (x : ProcessCall). x.enclave) same, ap (λ (x : ProcessCall). x.pid) same, ap (λ (x : ProcessCall). x.call) same)

asks_make : (c : Command) (e : Enclave) (p : Pid) (addr size mode : ℕ) → call_of c ≡ Some (record { enclave = e; pid = p; call = calls.Make addr size mode })
    → c ≡ commands.Make e p addr size mode
unfolding asked_by
asks_make (commands.Make of by a s m) e p addr size mode is =
    let parts = asked_parts of e by p (calls.Make a s m) (calls.Make addr size mode) is in
    let enclaves : of ≡ e = parts.0 in
    let pids : by ≡ p = parts.1 in
    let call : calls.Make a s m ≡ calls.Make addr size mode = parts.2 in
    cc
asks_make (commands.Alloc of by from count) e p addr size mode is =
    let call : calls.Alloc from count ≡ calls.Make addr size mode = (asked_parts of e by p (calls.Alloc from count) (calls.Make addr size mode) is).2 in
    cc
asks_make (commands.Remove of by segid) e p addr size mode is =
    let call : calls.Remove segid ≡ calls.Make addr size mode = (asked_parts of e by p (calls.Remove segid) (calls.Make addr size mode) is).2 in
    cc
asks_make _ e p addr size mode is = cc

issue_kept : (past : List Line) (e : Enclave) (p : Pid) (call : CallNo) (addr size mode : ℕ) → IsTree (facts_at past) → AreOwned (facts_at past)
    → is_living_enclave ((facts_at past).enclave e.0) ≡ true → refusal_of (facts_at past) (commands.Make e p addr size mode) ≡ None
    → (facts_at past).hand ≡ Calls (record { enclave = e; pid = p; call = calls.Make addr size mode })
    → AreExportsLent (facts_at past) → AreExportsLent (facts_at (lines.Issue e p call ∷ past))
issue_kept past e p call addr size mode tree owned living allowed hand h =
    let G = facts_at past in
    let rows = with_issued_export G.hand p.0 call (G.memory e.0) (G.exports e.0) in
    let mine = make_owned _ _ _ _ _ _ _ _ (are_owned G e.0 p.0 (addr / page_bytes) (size / page_bytes)) allowed in
    let new : AreWithinLent G.block e.0 rows = subst (λ at_hand. AreWithinLent G.block e.0 (with_issued_export at_hand p.0 call (G.memory e.0) (G.exports e.0))) (sym hand) (asked_lent G owned h e.0 p.0 call addr size mode mine) in
    let born = ltb-true e.0 G.born (sym ((tree.enclaves e.0).known) ∙ some_of_living (G.enclave e.0) living) in
    record {
      plain = h.plain;
      empty = λ none. absurd (omega (arith, none, born));
      lent = exports_lent G e.0 rows new h.lent;
    }

-- ---- steps

lent_asked : (e : Enclave) (p : Pid) (call : Call) (past : List Line) → IsTree (facts_at past) → MayAsk (facts_at past) e p call
    → Follows AptAt past (asked_lines (view_of (facts_at past) e) p call) → Follows OwnedAt past (asked_lines (view_of (facts_at past) e) p call) → AreExportsLent (facts_at past)
    → IsLentUpTo past (asked_lines (view_of (facts_at past) e) p call)
lent_asked e p (calls.Alloc from count) past tree may apt owned h = record { lines = tt; after = h }
lent_asked e p (calls.Remove segid) past tree may apt owned h =
    let v = view_of (facts_at past) e in lent_lines (remove_acts v segid) past (none_remove v segid) apt h
lent_asked e p (calls.Make addr size mode) past tree may apt owned h =
    let G = facts_at past in
    let v = view_of G e in
    let call : CallNo = record { 0 = (G.memory e.0).issued + 1 } in
    let hand = at_hand v p (calls.Make addr size mode) in
    let asked = asking_lines hand (own_lines hand v (issue_line v p ∷ [])) (v.memory.issued + 1) in
    let allowed : refusal_of G (commands.Make e p addr size mode) ≡ None = subst (λ c. refusal_of G c ≡ None) (asks_make may.command e p addr size mode may.asks) may.allowed in
    let more = lent_lines asked (lines.Issue e p call ∷ past) (none_asking hand (own_lines hand v (issue_line v p ∷ [])) (v.memory.issued + 1)) apt.1
    (issue_kept past e p call addr size mode tree owned.0 apt.0 allowed may.hand h) in
    record { lines = (h, more.lines); after = more.after }

lent_step : HistoryLaws → (step : Step) (past : List Line) → IsPause (facts_at past) → MayCome (facts_at past) step
    → Follows AptAt past (written_by (facts_at past) step) → Follows OwnedAt past (written_by (facts_at past) step) → AreExportsLent (facts_at past)
    → IsLentUpTo past (written_by (facts_at past) step)
unfolding is_issue
lent_step laws (Written line) past pause may apt owned h = lent_lines (line ∷ []) past (none_alone (facts_at past) line may.1, tt) apt h
lent_step laws (Hosts ns blocks) past pause may apt owned h = lent_lines (host_lines blocks ns) past (none_host ns blocks) apt h
lent_step laws (Bears child kind parent ns blocks) past pause may apt owned h =
    let G = facts_at past in
    lent_lines (birth_lines child kind parent blocks ns (G.heard parent.0) ++ adopt_lines (view_of G parent) child) past (none_birth child kind parent blocks ns (G.heard parent.0) (view_of G parent)) apt h
lent_step laws (Takes x y count) past pause may apt owned h = lent_lines (lines.Took x y count ∷ []) past (refl, tt) apt h
lent_step laws (Handles x y r) past pause may apt owned h =
    let v = view_of (facts_at past) y in lent_lines (handled_lines v x r) past (none_handled laws v x r) apt h
lent_step laws (Asks e p call) past pause may apt owned h = lent_asked e p call past pause.tree may.1 apt owned h

lent_steps : HistoryLaws → (steps : List Step) (G : Facts) (past : List Line) → G ≡ facts_at past → AreSteps G steps → Follows AptAt past (written_in G steps)
    → Follows OwnedAt past (written_in G steps) → AreExportsLent (facts_at past) → Follows LentAt past (written_in G steps)
lent_steps laws [] G past is are apt owned h = tt
lent_steps laws (step ∷ steps) G past is are apt owned h =
    let ls = written_by G step in
    let rest = written_in (after_lines G ls) steps in
    let next : after_lines G ls ≡ facts_at (onto ls past) = ap (λ H. after_lines H ls) is ∙ sym (laws.past.facts ls past) in
    let one : IsLentUpTo past ls = this (Follows-front AptAt ls rest past apt) (Follows-front OwnedAt ls rest past owned) in
    Follows-append LentAt ls rest past one.lines
    (lent_steps laws steps (after_lines G ls) (onto ls past) next are.2 (Follows-behind AptAt ls rest past apt) (Follows-behind OwnedAt ls rest past owned) one.after)
  where
    this : Follows AptAt past (written_by G step) → Follows OwnedAt past (written_by G step) → IsLentUpTo past (written_by G step)
    this first mine = subst (λ H. Follows AptAt past (written_by H step) → Follows OwnedAt past (written_by H step) → IsLentUpTo past (written_by H step)) (sym is)
        (λ a o. lent_step laws step past (subst IsPause is are.0) (subst (λ H. MayCome H step) is are.1) a o h) first mine

nothing_lent : AreExportsLent no_facts
nothing_lent = record { plain = λ e. refl; empty = λ none e. refl; lent = λ e. All-nil (IsWithinLent no_facts.block e) }

pub journal_of-lent : HistoryLaws → (cs : List Command) → IsPlaced cs → Follows LentAt [] (journal_of cs)
journal_of-lent laws cs placed =
    let steps = laws.journal.steps cs placed in
    let written = steps.written in
    subst (Follows LentAt []) (sym written)
    (lent_steps laws steps.steps no_facts [] refl steps.are (subst (Follows AptAt []) written (laws.journal.apt cs placed)) (subst (Follows OwnedAt []) written (laws.journal.owned cs placed)) nothing_lent)

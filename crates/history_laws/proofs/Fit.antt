-- Facts whose numbers fit the types of lines, and the lines that leave them so.
use Rattle.std.proofs.Common.{◌≡◌, ◌≤◌, ℕ, List, [], ◌∷◌, ◌++◌, true, false, cond, eqb, ltb, ◌&&◌, is_some, Option, None, Some, All, sym, subst, arith}
use Rattle.std.specs.List.{AllByRecursion}
use Rattle.std.specs.Map.{keys_of, values_of}
use Rattle.std.specs.Ordering.{nat_cmp}
use Rattle.std.specs.BTreeMap.{is_at}
use Rattle.std.proofs.lemmas.Bool.{eqb-true, cond_both}
use Rattle.std.proofs.lemmas.List.Elements.{All-nil, All-cons, All-head, All-tail}
use Rattle.std.proofs.lemmas.Map.Views.{All-keys-insert_entry, All-values-insert_entry, All-map-remove_entry}
use Rattle.xm_num.specs.declared.Enclave.{Enclave}
use Rattle.xm_num.specs.declared.Page.{Page}
use Rattle.xm_num.specs.Rows.{at, put, less}
use Rattle.frame_pool.specs.declared.BlockState.{BlockState}
use Rattle.frame_pool.specs.declared.BlockState.TheVariants as states
use Rattle.frame_pool.specs.Blocks.{is_free}
use Rattle.xemem_language.specs.declared.command.Command.{Command}
use Rattle.xemem_language.specs.declared.command.Command.TheVariants as commands
use Rattle.xemem_language.specs.declared.record.Record.{Record}
use Rattle.xemem_language.specs.declared.line.Line.{Line}
use Rattle.xemem_language.specs.declared.line.Line.TheVariants as lines
use Rattle.xemem_language.specs.Ranges.{IsInRange}
use Rattle.xemem_wire.specs.Spelling.{is_valid, AreValid}
use Rattle.line_reader.specs.Typed.{Is16, Is32}
use Rattle.enclave_rules.specs.Core.{with_death}
use Rattle.enclave_rules.specs.Ways.{WaysView, ways_line}
use Rattle.attach_map.specs.declared.Waiting.{Waiting}
use Rattle.attach_map.specs.Attaching.{ProcessState, AttacherState}
use Rattle.enclave_rules.specs.Hand.{Hand}
use Rattle.exporter_pins.specs.Holdings.{Export}
use Rattle.name_server.specs.Names.{NamesState}
use Rattle.enclave_rules.specs.Exports.{segid_number}
use Rattle.enclave_rules.specs.Memory.{with_answered, with_issued}
use Rattle.enclave_rules.specs.Names.{names_line}
use Rattle.global_model.specs.Facts.{ChannelFact, EnclaveFact, Facts, after_line, after_lines, as_admitted, at_number, at_pair, block_after, fact_of, pool_after, with_exports, with_got, with_sent, with_taken, with_ways}

-- ---- what fits

-- the number of an enclave that a record may name
abbrev pub IsNumber : Enclave → Type 0
IsNumber e = e.0 ≤ 255

-- rows that name such enclaves
abbrev pub AllNumbers : List (ℕ × Enclave) → Type 0
AllNumbers rows = All IsNumber (values_of rows)

abbrev pub IsLow : ℕ → Type 0
IsLow n = n ≤ 255

abbrev pub IsFitState : BlockState → Type 0
IsFitState states.Free = Unit {0}
IsFitState (states.Lent e) = IsNumber e
IsFitState (states.Held e) = IsNumber e

-- a block that isn't free has a number that fits
pub record IsFitPool (pool : ℕ) (block : ℕ → BlockState) : Type 0 where
  pub most : pool ≤ 65536
  pub state : (b : ℕ) → IsFitState (block b)
  pub inside : (b : ℕ) → is_free (block b) ≡ false → Is16 b

pub record IsFitTree (born : ℕ) (enclave : ℕ → Option EnclaveFact) : Type 0 where
  pub most : born ≤ 256
  pub number : (e : ℕ) → is_some (enclave e) ≡ true → e ≤ 255
  pub parent : (e : ℕ) → IsNumber (fact_of (enclave e)).parent

pub record IsFitWays (w : WaysView) : Type 0 where
  pub over : (x : Enclave) → w.way ≡ Some x → IsNumber x
  pub asked : AllNumbers w.askers
  pub back : AllNumbers w.backs
  pub route : AllNumbers w.routes
  pub lies : All IsLow (keys_of w.routes)

-- the numbers of a process's pages fit
abbrev pub IsFitProcess : ProcessState → Type 0
IsFitProcess process = (v : ℕ) (page : Page) → at process.pages v ≡ Some page → Is32 v

-- the number of the process whose call waits fits
abbrev pub IsFitWaiting : Waiting → Type 0
IsFitWaiting waiting = Is32 waiting.pid.0

pub record IsFitMemory (starts : ℕ) (m : AttacherState) : Type 0 where
  pub started : m.started ≤ starts
  pub pages : All IsFitProcess (values_of m.processes)
  pub waiting : All IsFitWaiting (values_of m.waiting)

abbrev pub AreFitChannels : (ℕ → ℕ → ChannelFact) → Type 0
AreFitChannels channel = (x y : ℕ) → AreValid (channel x y).sent

pub record IsFit (G : Facts) : Type 0 where
  pub pool : IsFitPool G.pool G.block
  pub tree : IsFitTree G.born G.enclave
  pub heard : (e : ℕ) → All IsNumber (G.heard e)
  pub ways : (e : ℕ) → IsFitWays (G.ways e)
  pub channels : AreFitChannels G.channel
  pub starts : G.starts ≤ 1024
  pub names : (e : ℕ) → AllNumbers (G.names e).pairs
  pub memory : (e : ℕ) → IsFitMemory G.starts (G.memory e)

-- ---- functions that are changed at one number, or at one pair

pub at_number_fits : {A : Type 0} (P : A → Type 0) (k : ℕ) (v : A) (f : ℕ → A) → P v → ((j : ℕ) → P (f j)) → (j : ℕ) → P (at_number k v f j)
at_number_fits P k v f new old j = cond_both (eqb j k) v (f j) P (λ is. new) (λ other. old j)

at_pair_fits : {A : Type 0} (P : A → Type 0) (x y : ℕ) (h : A → A) (f : ℕ → ℕ → A) → ((a b : ℕ) → P (h (f a b))) → ((a b : ℕ) → P (f a b))
    → (a b : ℕ) → P (at_pair x y h f a b)
at_pair_fits P x y h f new old a b = cond_both (eqb a x && eqb b y) (h (f a b)) (f a b) P (λ is. new a b) (λ other. old a b)

put_numbers : (rows : List (ℕ × Enclave)) (k : ℕ) (x : Enclave) → AllNumbers rows → IsNumber x → AllNumbers (put rows k x)
unfolding put
put_numbers rows k x all number = All-values-insert_entry nat_cmp k x IsNumber rows all number

pub less_numbers : (rows : List (ℕ × Enclave)) (k : ℕ) → AllNumbers rows → AllNumbers (less rows k)
unfolding less
less_numbers rows k all = All-map-remove_entry (is_at (nat_cmp k)) (λ row. row.1) IsNumber rows all

pub put_waiting : (rows : List (ℕ × Waiting)) (k : ℕ) (waiting : Waiting) → All IsFitWaiting (values_of rows) → IsFitWaiting waiting
    → All IsFitWaiting (values_of (put rows k waiting))
unfolding put
put_waiting rows k waiting all fits = All-values-insert_entry nat_cmp k waiting IsFitWaiting rows all fits

less_waiting : (rows : List (ℕ × Waiting)) (k : ℕ) → All IsFitWaiting (values_of rows) → All IsFitWaiting (values_of (less rows k))
unfolding less
less_waiting rows k all = All-map-remove_entry (is_at (nat_cmp k)) (λ row. row.1) IsFitWaiting rows all

put_keys : (rows : List (ℕ × Enclave)) (k : ℕ) (x : Enclave) → All IsLow (keys_of rows) → k ≤ 255 → All IsLow (keys_of (put rows k x))
unfolding put
put_keys rows k x all low = All-keys-insert_entry nat_cmp k x IsLow rows all low

death_numbers : (d : Enclave) (heard : List Enclave) → IsNumber d → All IsNumber heard → All IsNumber (with_death d heard)
death_numbers d [] number all = All-cons IsNumber d [] number all
death_numbers d (x ∷ heard) number all =
    let first = All-head IsNumber x heard all in
    let later = All-tail IsNumber x heard all in
    cond_both (ltb d.0 x.0) (d ∷ x ∷ heard) (cond (eqb d.0 x.0) (x ∷ heard) (x ∷ with_death d heard)) (All IsNumber) (λ is. All-cons IsNumber d (x ∷ heard) number all)
    (λ other. cond_both (eqb d.0 x.0) (x ∷ heard) (x ∷ with_death d heard) (All IsNumber) (λ is. all) (λ more. All-cons IsNumber x (with_death d heard) first (death_numbers d heard number later)))

valid-sent : (rs : List Record) (r : Record) → AreValid rs → is_valid r ≡ true → AreValid (rs ++ r ∷ [])
valid-sent [] r all valid = (valid, tt)
valid-sent (s ∷ ss) r all valid = (all.0, valid-sent ss r all.1 valid)

-- ---- steady lines: they bear no enclave, start no process and allocate nothing, and their numbers fit

abbrev pub IsSteady : Line → Type 0
IsSteady (lines.Told e of) = IsNumber e × IsNumber of
IsSteady (lines.Issue e p call) = IsNumber e × Is32 p.0 × Is32 call.0
IsSteady (lines.Drew e call segid) = IsNumber e × Is32 call.0
IsSteady (lines.Named e call segid) = IsNumber e × Is32 call.0
IsSteady (lines.Unnamed segid) = Unit {0}
IsSteady (lines.Remove e segid) = IsNumber e
IsSteady (lines.AnswerSegid e p call segid) = IsNumber e × Is32 p.0 × Is32 call.0
IsSteady (lines.Name segid owner) = IsNumber owner
IsSteady (lines.Admitted e) = IsNumber e
IsSteady (lines.Touched e p page frame) = Is16 e.0 × Is32 p.0 × Is32 page.0 × Is32 frame.0
IsSteady (lines.Sent x y r) = IsNumber x × IsNumber y × (is_valid r ≡ true)
IsSteady (lines.Took x y count) = IsNumber x × IsNumber y × Is32 count
IsSteady (lines.Idle x y) = IsNumber x × IsNumber y
IsSteady (lines.Got x y) = IsNumber x × IsNumber y
IsSteady (lines.Dropped e) = IsNumber e
IsSteady (lines.Asked e by) = IsNumber e × IsNumber by
IsSteady (lines.Way e over) = IsNumber e × IsNumber over
IsSteady (lines.Back e of over) = IsNumber e × IsNumber of × IsNumber over
IsSteady (lines.Route e of over) = IsNumber e × IsNumber of × IsNumber over
IsSteady (lines.Settled made) = Is32 made
IsSteady (lines.Waiting made) = Is32 made
IsSteady (lines.AtWay e over) = IsNumber e × IsNumber over
IsSteady (lines.AtWayOwn e) = IsNumber e
IsSteady (lines.AtWayNone e) = IsNumber e
IsSteady (lines.AtRoute e of over) = IsNumber e × IsNumber of × IsNumber over
IsSteady (lines.BlockFree b) = Is16 b.0
IsSteady (lines.BlockLent b e) = Is16 b.0 × IsNumber e
IsSteady (lines.BlockHeld b e) = Is16 b.0 × IsNumber e
IsSteady line = ⊥

abbrev pub AreSteady : List Line → Type 0
AreSteady journal = AllByRecursion IsSteady journal

-- what a command gives into the pool fits, and what it gives into the hand is no matter
do_pool : (c : Command) (pool : ℕ) (block : ℕ → BlockState) → IsInRange c → IsFitPool pool block → IsFitPool (pool_after c pool) (block_after c block)
do_pool (commands.Pool blocks) pool block range fit = let most = range.1 in record { most = omega (arith, most); state = λ b. tt; inside = λ b taken. cc }
do_pool _ pool block range fit = fit

module _ (G : Facts) (fit : IsFit G) where
  pub fit_do : (c : Command) → IsInRange c → IsFit (after_line G (lines.Do c))
  fit_do c range = record { pool = do_pool c G.pool G.block range fit.pool; tree = fit.tree; heard = fit.heard; ways = fit.ways; channels = fit.channels; starts = fit.starts; names = fit.names; memory = fit.memory }

  fit_ways : (e : Enclave) (l : Line) → IsFitWays (ways_line (fact_of (G.enclave e.0)).parent (G.ways e.0) l) → IsFit (with_ways e l G)
  fit_ways e l new =
      record {
        pool = fit.pool;
        tree = fit.tree;
        heard = fit.heard;
        ways = at_number_fits IsFitWays e.0 _ G.ways new fit.ways;
        channels = fit.channels;
        starts = fit.starts;
        names = fit.names;
        memory = fit.memory;
      }

  fit_channels : (x y : Enclave) (change : ChannelFact → ChannelFact) (hand : Hand) → ((a b : ℕ) → AreValid (change (G.channel a b)).sent)
      → IsFit (record G { channel = at_pair x.0 y.0 change G.channel; hand = hand })
  fit_channels x y change hand new =
      let channels = at_pair_fits (λ (c : ChannelFact). AreValid c.sent) x.0 y.0 change G.channel new fit.channels in
      record { pool = fit.pool; tree = fit.tree; heard = fit.heard; ways = fit.ways; channels = channels; starts = fit.starts; names = fit.names; memory = fit.memory }

  fit_memory : (e : Enclave) (m : AttacherState) (exports : ℕ → List (ℕ × Export)) → IsFitMemory G.starts m → IsFit (record G { memory = at_number e.0 m G.memory; exports = exports })
  fit_memory e m exports new =
      record {
        pool = fit.pool;
        tree = fit.tree;
        heard = fit.heard;
        ways = fit.ways;
        channels = fit.channels;
        starts = fit.starts;
        names = fit.names;
        memory = at_number_fits (IsFitMemory G.starts) e.0 m G.memory new fit.memory;
      }

  fit_names : (n : NamesState) → AllNumbers n.pairs → IsFit (record G { names = at_number G.holder.0 n G.names })
  fit_names n new =
      record {
        pool = fit.pool;
        tree = fit.tree;
        heard = fit.heard;
        ways = fit.ways;
        channels = fit.channels;
        starts = fit.starts;
        names = at_number_fits (λ (s : NamesState). AllNumbers s.pairs) G.holder.0 n G.names new fit.names;
        memory = fit.memory;
      }

  fit_exports : (e : Enclave) (l : Line) → IsFit (with_exports e l G)
  fit_exports e l =
      record { pool = fit.pool; tree = fit.tree; heard = fit.heard; ways = fit.ways; channels = fit.channels; starts = fit.starts; names = fit.names; memory = fit.memory }

  pub fit_line : (l : Line) → IsSteady l → IsFit (after_line G l)
  fit_line (lines.Issue e p call) steady =
      let old = fit.memory e.0 in
      fit_memory e (with_issued p call (G.memory e.0)) _ (record { started = old.started; pages = old.pages; waiting = put_waiting (G.memory e.0).waiting call.0 _ old.waiting steady.1 })
  fit_line (lines.AnswerSegid e p call segid) steady =
      let old = fit.memory e.0 in
      fit_memory e (with_answered call (G.memory e.0)) G.exports (record { started = old.started; pages = old.pages; waiting = less_waiting (G.memory e.0).waiting call.0 old.waiting })
  fit_line (lines.Drew e call segid) steady =
      fit_names (names_line (G.names G.holder.0) (lines.Drew e call segid)) (put_numbers (G.names G.holder.0).pairs (segid_number segid) e (fit.names G.holder.0) steady.0)
  fit_line (lines.Unnamed segid) steady =
      fit_names (names_line (G.names G.holder.0) (lines.Unnamed segid)) (less_numbers (G.names G.holder.0).pairs (segid_number segid) (fit.names G.holder.0))
  fit_line (lines.Named e call segid) steady = fit_exports e (lines.Named e call segid)
  fit_line (lines.Remove e segid) steady = fit_exports e (lines.Remove e segid)
  fit_line (lines.Told e of) steady =
      let heard = at_number_fits (All IsNumber) e.0 _ G.heard (death_numbers of (G.heard e.0) steady.1 (fit.heard e.0)) fit.heard in
      record { pool = fit.pool; tree = fit.tree; heard = heard; ways = fit.ways; channels = fit.channels; starts = fit.starts; names = fit.names; memory = fit.memory }
  fit_line (lines.Admitted e) steady =
      record {
        pool = fit.pool;
        tree = record {
          most = fit.tree.most;
          number = λ j. cond_both (eqb j e.0) (as_admitted (G.enclave e.0)) (G.enclave j) (λ fact. is_some fact ≡ true → j ≤ 255) (λ is some. subst (λ k. k ≤ 255) (sym (eqb-true j e.0 is)) steady) (λ other. fit.tree.number j);
          parent = at_number_fits (λ fact. IsNumber (fact_of fact).parent) e.0 _ G.enclave (admitted (G.enclave e.0) (fit.tree.parent e.0)) fit.tree.parent;
        };
        heard = fit.heard;
        ways = fit.ways;
        channels = fit.channels;
        starts = fit.starts;
        names = fit.names;
        memory = fit.memory;
      }
    where
      admitted : (fact : Option EnclaveFact) → IsNumber (fact_of fact).parent → IsNumber (fact_of (as_admitted fact)).parent
      admitted None number = number
      admitted (Some fact) number = number
  fit_line (lines.Sent x y r) steady = fit_channels x y (with_sent r) _ (λ a b. valid-sent (G.channel a b).sent r (fit.channels a b) steady.2)
  fit_line (lines.Took x y count) steady = fit_channels x y (with_taken count) _ fit.channels
  fit_line (lines.Got x y) steady = fit_channels x y with_got _ fit.channels
  fit_line (lines.Asked e by) steady =
      let old = fit.ways e.0 in
      fit_ways e (lines.Asked e by) (record { over = old.over; asked = put_numbers (G.ways e.0).askers _ by old.asked steady.1; back = old.back; route = old.route; lies = old.lies })
  fit_line (lines.Way e over) steady =
      let old = fit.ways e.0 in
      fit_ways e (lines.Way e over) (record { over = λ x is. let same : over ≡ x = cc in subst IsNumber same steady.1; asked = All-nil IsNumber; back = old.back; route = old.route; lies = old.lies })
  fit_line (lines.Back e of over) steady =
      let old = fit.ways e.0 in
      fit_ways e (lines.Back e of over) (record { over = old.over; asked = old.asked; back = put_numbers (G.ways e.0).backs of.0 over old.back steady.2; route = old.route; lies = old.lies })
  fit_line (lines.Route e of over) steady =
      let old = fit.ways e.0 in
      let rows = (G.ways e.0).routes in
      fit_ways e (lines.Route e of over)
      (record { over = old.over; asked = old.asked; back = old.back; route = put_numbers rows of.0 over old.route steady.2; lies = put_keys rows of.0 over old.lies steady.1 })
  fit_line (lines.Do command) steady = absurd steady
  fit_line (lines.Born e kind parent ns blocks) steady = absurd steady
  fit_line (lines.Heard e of) steady = absurd steady
  fit_line (lines.Proc e p uid gid) steady = absurd steady
  fit_line (lines.Alloc e p at frames) steady = absurd steady
  fit_line (lines.Grant owner e call segid access) steady = absurd steady
  fit_line (lines.Ungrant owner e call) steady = absurd steady
  fit_line (lines.AnswerApid e p call apid pages) steady = absurd steady
  fit_line (lines.AnswerRefused e p call cause) steady = absurd steady
  fit_line (lines.Release e call) steady = absurd steady
  fit_line _ steady = fit

-- and so do several
pub fit_lines : (G : Facts) (ls : List Line) → IsFit G → AreSteady ls → IsFit (after_lines G ls)
fit_lines G [] fit steady = fit
fit_lines G (l ∷ ls) fit steady = fit_lines (after_line G l) ls (fit_line G fit l steady.0) steady.1

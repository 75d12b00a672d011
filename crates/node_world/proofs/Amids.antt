-- In the midst of a settle: its next delivery is that of a `deliver`, and what is left are the lines of the rest.
use Rattle.std.proofs.Common.{◌≡◌, ◌+◌, ◌-◌, ◌<◌, ◌≤◌, ℕ, zero, suc, List, [], ◌∷◌, ◌++◌, length, Bool, cond, true, false, Option, None, Some, refl, sym, ap, ◌∙◌, subst, arith, append-nil, append_assoc}
use Rattle.std.specs.Prelude.{◌==◌, min, is_some}
use Rattle.xm_num.specs.declared.Enclave.{Enclave}
use Rattle.xemem_wire.specs.Spelling.{AreValid}
use Rattle.xemem_language.specs.declared.command.Command.{Command}
use Rattle.xemem_language.specs.declared.command.Command.TheVariants as commands
use Rattle.xemem_language.specs.declared.line.Line.{Line}
use Rattle.xemem_language.specs.declared.line.Line.TheVariants as lines
use Rattle.global_model.specs.Facts.{Facts, facts_after, facts_at, after_line, after_lines}
use Rattle.enclave_rules.specs.Hand.{Hand, Nothing}
use Rattle.global_model.specs.Channels.{waiting_in}
use Rattle.global_model.specs.Flow.{IsFlowing}
use Rattle.xemem_language.specs.Spelling.{words_in}
use Rattle.global_model.specs.Due.{command_lines, deliver_lines, took_lines, next_rest, first_waiting, settle_from, step_lines, journal_of}
use Rattle.global_model.specs.Journals.{onto, command_at}
use Rattle.global_model.specs.Place.{IsPlaced}
use Rattle.node_world.specs.declared.world.Which.{Which}
use Rattle.node_world.specs.Appended.{is_by}
use Rattle.node_world.specs.Laws.{WorldLaws}
use Rattle.node_machine.specs.Links.{sent_in}
use Rattle.node_machine.specs.Machine.{MachineView, lines_by, after_command, next_delivery}
use Rattle.node_machine.specs.Ready.{IsReady, IsNoSettle, CanStep}
use Rattle.node_world.specs.Shown.{IsShown}
use Rattle.node_world.specs.World.{most_words, holding, IsAlong, IsShort, IsStopped}
use Rattle.node_world.proofs.Counts.{AreOwnWords, Seats, seats_of, counted_line, counted_delivery, hand_delivery}
use Rattle.node_world.proofs.Nexts.{IsDue, none_next, some_next}
use Rattle.node_world.proofs.Stills.{shown_hand}
use Rattle.node_world.proofs.Steps.{stepped, ready, can_step, sent_valid}
use Rattle.node_world.proofs.Stops.{stopped_more, stopped_behind}

-- ---- what the rules give next

-- the lines that are left, where a delivery is due
left_some : (G : Facts) (d : Command) (left made : ℕ) (due : IsDue G d)
    → settle_from (suc left) made G ≡ deliver_lines G due.from due.to (next_rest G due.from due.to) ++ settle_from left (made + 1) (after_lines G (deliver_lines G due.from due.to (next_rest G due.from due.to)))
left_some G d left made due = rw due.waits refl

-- the line that is left, where nothing waits
left_none : (G : Facts) (left made : ℕ) → first_waiting G ≡ None → settle_from left made G ≡ lines.Settled made ∷ []
left_none G zero made none = rw none refl
left_none G (suc left) made none = rw none refl

-- the line that is left after all deliveries
left_end : (G : Facts) (d : Command) (left made : ℕ) → left ≡ 0 → IsDue G d → settle_from left made G ≡ lines.Waiting made ∷ []
left_end G d left made none due =
    ap (λ n. settle_from n made G) none ∙ ap (λ (o : Option (Enclave × Enclave)). cond (is_some o) (lines.Waiting made) (lines.Settled made) ∷ []) due.waits

-- ---- what is at hand

-- the same facts, but for what is at hand
record IsSameButHand (F G : Facts) : Type 0 where
  hand : Hand
  same : F ≡ holding hand G

flowing_holding : (hand : Hand) (G : Facts) → IsFlowing G → IsFlowing (holding hand G)
flowing_holding hand G h = record {
  tree = record { most = h.tree.most; enclaves = h.tree.enclaves; root = h.tree.root; upward = h.tree.upward; all_live = h.tree.all_live };
  server = record { held = h.server.held; seated = h.server.seated };
  ways = record { way = h.ways.way; askers = h.ways.askers; backs = h.ways.backs; routes = h.ways.routes };
  flows = h.flows;
  arrived = h.arrived;
  apart = h.apart;
}

-- a delivery asks nothing of the hand, and bytes that are taken leave nothing in it
after_delivery : (G : Facts) (one other : Hand) (x y : Enclave) (n : ℕ)
    → IsSameButHand (after_lines (holding one G) (deliver_lines G x y n)) (after_lines (holding other G) (deliver_lines G x y n))
after_delivery G one other x y n = by (length (waiting_in G x.0 y.0) == 0) refl
  where
    by : (b : Bool) → (length (waiting_in G x.0 y.0) == 0) ≡ b → IsSameButHand (after_lines (holding one G) (deliver_lines G x y n)) (after_lines (holding other G) (deliver_lines G x y n))
    by true none = rw none (record { hand = one; same = refl })
    by false some = rw some (let F = after_lines (holding other G) (took_lines G x y (min n (length (waiting_in G x.0 y.0)))) in record { hand = F.hand; same = refl })

-- ---- one delivery

module _ (laws : WorldLaws) (m : MachineView) (journal : List Line) (along : IsAlong m journal) where
  pub flowing_along : IsFlowing (facts_after journal)
  flowing_along = subst IsFlowing (sym along.facts) (flowing_holding along.hand (facts_after (journal_of along.played)) (laws.flowing along.played along.placed))

  shown_played : IsShown (facts_after (journal_of along.played)) m
  shown_played = shown_hand (holding along.hand (facts_after (journal_of along.played))) (facts_after (journal_of along.played)).hand m (subst (λ F. IsShown F m) along.facts along.shown)

  -- a line that changes no facts and is by no node
  pub along_line : (line : Line) → ((G : Facts) → after_line G line ≡ G) → ((e : ℕ) (past : List Line) → is_by e past line ≡ false) → IsAlong m (journal ++ line ∷ [])
  along_line line keeps quiet =
      let same : facts_after (journal ++ line ∷ []) ≡ facts_after journal = laws.facts journal (line ∷ []) ∙ keeps (facts_after journal) in
      record {
        played = along.played;
        placed = along.placed;
        hand = along.hand;
        facts = same ∙ along.facts;
        shown = subst (λ F. IsShown F m) (sym same) along.shown;
        appended = counted_line m journal line quiet along.appended;
      }

  module _ (d : Command) (due : IsDue (facts_after journal) d) where
    abbrev H : Facts
    H = facts_after (journal_of along.played)

    command_then : d ≡ commands.Deliver due.from due.to (next_rest H due.from due.to)
    command_then = due.is ∙ ap (λ F. commands.Deliver due.from due.to (next_rest F due.from due.to)) along.facts

    waits_then : first_waiting H ≡ Some (due.from, due.to)
    waits_then = ap first_waiting (sym along.facts) ∙ due.waits

    placed_next : IsPlaced (along.played ++ d ∷ [])
    placed_next = subst (λ c. IsPlaced (along.played ++ c ∷ [])) (sym command_then) (laws.settles.placed along.played due.from due.to along.placed waits_then)

    no_settle : IsNoSettle d
    no_settle = subst IsNoSettle (sym due.is) tt

    pub ready_next : IsReady m
    ready_next = ready laws along.played m along.placed shown_played

    pub can_next : CanStep m d
    can_next = can_step laws along.played d m no_settle placed_next shown_played

    pub valid_next : AreValid (sent_in (lines_by m d))
    valid_next = sent_valid laws along.played d m no_settle placed_next shown_played

    seats : Seats m (facts_at (onto journal [])).holder
    seats = seats_of laws m journal flowing_along along.shown

    lines_next : lines_by m d ≡ deliver_lines (facts_after journal) due.from due.to (next_rest (facts_after journal) due.from due.to)
    lines_next =
        (stepped laws along.played d m no_settle placed_next shown_played).0 ∙ ap (command_lines H) command_then ∙ laws.settles.lines along.played due.from due.to along.placed waits_then
        ∙ ap (λ F. deliver_lines F due.from due.to (next_rest F due.from due.to)) (sym along.facts)

    -- a `do` line of the delivery would change only what is at hand
    facts_next : IsSameButHand (facts_after (journal ++ lines_by m d)) (facts_after (journal_of (along.played ++ d ∷ [])))
    facts_next =
        let begun : after_line H (lines.Do d) ≡ holding Nothing H = ap (λ c. after_line H (lines.Do c)) due.is in
        let ls : List Line = deliver_lines H due.from due.to (next_rest H due.from due.to) in
        let are : lines_by m d ≡ ls = lines_next ∙ ap (λ F. deliver_lines F due.from due.to (next_rest F due.from due.to)) along.facts in
        let now : facts_after (journal ++ lines_by m d) ≡ after_lines (holding along.hand H) ls = laws.facts journal (lines_by m d) ∙ ap (λ F. after_lines F (lines_by m d)) along.facts ∙ ap (after_lines (holding along.hand H)) are in
        let then : facts_after (journal_of (along.played ++ d ∷ [])) ≡ after_lines (holding Nothing H) ls =
        ap facts_after (laws.journal along.played d) ∙ laws.facts (journal_of along.played) (step_lines H d) ∙ ap (λ F. after_lines F (command_lines H d)) begun
        ∙ ap (after_lines (holding Nothing H)) (sym (stepped laws along.played d m no_settle placed_next shown_played).0 ∙ are) in
        let same = after_delivery H along.hand Nothing due.from due.to (next_rest H due.from due.to) in
        record { hand = same.hand; same = now ∙ same.same ∙ ap (holding same.hand) (sym then) }

    left_next : (left made : ℕ) → settle_from (suc left) made (facts_after journal) ≡ lines_by m d ++ settle_from left (made + 1) (facts_after (journal ++ lines_by m d))
    left_next left made =
        left_some (facts_after journal) d left made due ∙ ap (λ ls. ls ++ settle_from left (made + 1) (after_lines (facts_after journal) ls)) (sym lines_next)
        ∙ ap (λ F. lines_by m d ++ settle_from left (made + 1) F) (sym (laws.facts journal (lines_by m d)))

    along_next : (most : ℕ) → command_at (onto journal []) ≡ Some (commands.Settle most) → words_in (journal ++ lines_by m d) ≤ most_words → IsAlong (after_command m d) (journal ++ lines_by m d)
    along_next most hand few = record {
      played = along.played ++ d ∷ [];
      placed = placed_next;
      hand = facts_next.hand;
      facts = facts_next.same;
      shown = subst (λ F. IsShown F (after_command m d)) (sym facts_next.same)
          (shown_hand (facts_after (journal_of (along.played ++ d ∷ []))) facts_next.hand (after_command m d) (stepped laws along.played d m no_settle placed_next shown_played).1);
      appended = subst (λ c. words_in (journal ++ lines_by m c) ≤ most_words → AreOwnWords (after_command m c) (journal ++ lines_by m c)) (sym due.is)
          (counted_delivery laws m due.from due.to (next_rest (facts_after journal) due.from due.to) most journal ready_next seats hand along.appended) few;
    }

    hand_next : (most : ℕ) → command_at (onto journal []) ≡ Some (commands.Settle most) → command_at (onto (journal ++ lines_by m d) []) ≡ Some (commands.Settle most)
    hand_next most hand = subst (λ c. command_at (onto (journal ++ lines_by m c) []) ≡ Some (commands.Settle most)) (sym due.is)
        (hand_delivery laws m due.from due.to (next_rest (facts_after journal) due.from due.to) most journal ready_next seats hand)

-- ---- so many deliveries

-- a settle of at most so many deliveries made so many of them, and what it wrote and what is left are its lines
pub record IsAmid (most made : ℕ) (before : List Line) (m : MachineView) (journal : List Line) : Type 0 where
  pub along : IsAlong m journal
  pub hand : command_at (onto journal []) ≡ Some (commands.Settle most)
  pub written : List Line
  pub grown : journal ≡ before ++ written
  pub left : settle_from most 0 (facts_after before) ≡ written ++ settle_from (most - made) made (facts_after journal)

pub amid_start : (most : ℕ) (m : MachineView) (journal : List Line) → IsAlong m journal → command_at (onto journal []) ≡ Some (commands.Settle most) → IsAmid most 0 journal m journal
amid_start most m journal along hand = record { along = along; hand = hand; written = []; grown = sym (append-nil journal); left = ap (λ n. settle_from n 0 (facts_after journal)) (omega arith) }

module _ (laws : WorldLaws) (most made : ℕ) (before : List Line) (m : MachineView) (journal : List Line) (amid : IsAmid most made before m journal) where
  pub due_now : (d : Command) → next_delivery m ≡ Some d → IsDue (facts_after journal) d
  due_now d is = some_next (facts_after journal) m (flowing_along laws m journal amid.along) amid.along.shown d is

  module _ (d : Command) (is : next_delivery m ≡ Some d) where
    -- the lines of the next delivery, and those of the rest
    left_then : made < most → settle_from most 0 (facts_after before) ≡ (amid.written ++ lines_by m d) ++ settle_from (most - (made + 1)) (made + 1) (facts_after (journal ++ lines_by m d))
    left_then more =
        let count : most - made ≡ suc (most - (made + 1)) = omega (arith, more) in
        amid.left ∙ ap (λ n. amid.written ++ settle_from n made (facts_after journal)) count
        ∙ ap (λ ls. amid.written ++ ls) (left_next laws m journal amid.along d (due_now d is) (most - (made + 1)) made)
        ∙ sym (append_assoc amid.written (lines_by m d) _)

    pub amid_next : made < most → (after : List Line) → after ≡ journal ++ lines_by m d → IsShort after → IsAmid most (made + 1) before (after_command m d) after
    amid_next more after out short = subst (IsAmid most (made + 1) before (after_command m d)) (sym out) (record {
      along = along_next laws m journal amid.along d (due_now d is) most amid.hand (subst (λ j. words_in j ≤ most_words) out short.words);
      hand = hand_next laws m journal amid.along d (due_now d is) most amid.hand;
      written = amid.written ++ lines_by m d;
      grown = ap (λ j. j ++ lines_by m d) amid.grown ∙ append_assoc before amid.written (lines_by m d);
      left = left_then more;
    })

    -- a limit that stops the delivery stops the settle
    pub amid_stopped : made < most → (which : Which) (after : List Line) → IsStopped which journal (lines_by m d) after → IsStopped which before (settle_from most 0 (facts_after before)) after
    amid_stopped more which after stop =
        subst (λ ls. IsStopped which before ls after) (sym (left_then more))
        (stopped_more which before (amid.written ++ lines_by m d) _ after (stopped_behind which before amid.written (lines_by m d) after (subst (λ j. IsStopped which j (lines_by m d) after) amid.grown stop)))

  -- the last line
  module _ (end : Line) (is : settle_from (most - made) made (facts_after journal) ≡ end ∷ []) where
    left_last : settle_from most 0 (facts_after before) ≡ amid.written ++ end ∷ []
    left_last = amid.left ∙ ap (λ ls. amid.written ++ ls) is

    pub amid_last : (after : List Line) → after ≡ journal ++ end ∷ [] → after ≡ before ++ settle_from most 0 (facts_after before)
    amid_last after out = out ∙ ap (λ j. j ++ end ∷ []) amid.grown ∙ append_assoc before amid.written (end ∷ []) ∙ ap (λ ls. before ++ ls) (sym left_last)

    pub amid_last_stopped : (which : Which) (after : List Line) → IsStopped which journal (end ∷ []) after → IsStopped which before (settle_from most 0 (facts_after before)) after
    amid_last_stopped which after stop =
        subst (λ ls. IsStopped which before ls after) (sym left_last) (stopped_behind which before amid.written (end ∷ []) after (subst (λ j. IsStopped which j (end ∷ []) after) amid.grown stop))

  pub last_settled : next_delivery m ≡ None → settle_from (most - made) made (facts_after journal) ≡ lines.Settled made ∷ []
  last_settled none = left_none (facts_after journal) (most - made) made (none_next (facts_after journal) m (flowing_along laws m journal amid.along) amid.along.shown none)

  pub last_waiting : made ≡ most → (d : Command) → next_delivery m ≡ Some d → settle_from (most - made) made (facts_after journal) ≡ lines.Waiting made ∷ []
  last_waiting all d is = left_end (facts_after journal) d (most - made) made (omega (arith, all)) (due_now d is)

-- and the machine goes on after it
pub along_settled : WorldLaws → (m : MachineView) (journal : List Line) (made : ℕ) (after : List Line) → IsAlong m journal → after ≡ journal ++ lines.Settled made ∷ [] → IsAlong m after
along_settled laws m journal made after along out = subst (IsAlong m) (sym out) (along_line laws m journal along (lines.Settled made) (λ G. refl) (λ e past. refl))

pub along_waiting : WorldLaws → (m : MachineView) (journal : List Line) (made : ℕ) (after : List Line) → IsAlong m journal → after ≡ journal ++ lines.Waiting made ∷ [] → IsAlong m after
along_waiting laws m journal made after along out = subst (IsAlong m) (sym out) (along_line laws m journal along (lines.Waiting made) (λ G. refl) (λ e past. refl))

pub amid_all : (most made : ℕ) (before : List Line) (m : MachineView) (journal : List Line) → made ≤ most → most ≤ made → IsAmid most made before m journal → IsAmid most most before m journal
amid_all most made before m journal le ge = let all : made ≡ most = omega (arith, le, ge) in subst (λ n. IsAmid most n before m journal) all

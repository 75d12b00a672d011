-- A settle: its deliveries are those of `deliver` commands, and how it ends.
use Rattle.std.proofs.Common.{◌≡◌, ◌+◌, ◌<◌, ◌≤◌, ℕ, zero, suc, min, List, [], ◌∷◌, ◌++◌, length, Bool, true, false, cond, eqb, leb, is_some, filter, Option, None, Some, refl, sym, ap, ◌∙◌, subst, arith, append_assoc, length-append}
use Rattle.std.specs.Prelude.{◌==◌, ◌||◌}
use Rattle.std.specs.Option.{option_map_or}
use Rattle.std.proofs.lemmas.Bool.{le-leb, lt-ltb, ne_eqb}
use Rattle.std.proofs.lemmas.List.Elements.{filter-append}
use Rattle.xm_num.specs.declared.Enclave.{Enclave}
use Rattle.xemem_language.specs.declared.record.Record.{Record}
use Rattle.xemem_language.specs.declared.command.Command.{Command}
use Rattle.xemem_language.specs.declared.command.Command.TheVariants as commands
use Rattle.xemem_language.specs.declared.line.Line.{Line}
use Rattle.xemem_language.specs.declared.line.Line.TheVariants as lines
use Rattle.global_model.specs.Facts.{Facts, after_line, after_lines, facts_after, no_facts, is_living_enclave}
use Rattle.global_model.specs.Channels.{is_neighbour, was_born, waiting_in, arriving}
use Rattle.enclave_rules.specs.View.{View}
use Rattle.global_model.specs.Views.{view_of}
use Rattle.enclave_rules.specs.Steps.{handled_lines}
use Rattle.global_model.specs.Refusals.{refusal_of}
use Rattle.xemem_language.specs.Ranges.{IsInRange}
use Rattle.global_model.specs.Place.{may_stand, IsPlacedAfter, IsPlaced}
use Rattle.global_model.specs.Due.{got_lines, deliver_lines, next_rest, first_waiting, settle_end, settle_from, command_lines, journal_of, rest_of_record}
use Rattle.global_model.specs.Journals.{is_delivery, deliveries_in}
use Rattle.global_model.specs.Parts.{Part, Opening, Closing, Delivery, IsNot, Lacks, part_number, part_of, plays}
use Rattle.global_model.specs.Flow.{IsTree, IsFlowing}
use Rattle.global_model.specs.Rest.{IsAtRest, EndsSettle}
use Rattle.global_model.proofs.Pasts.{after_lines-append, facts_by-more}
use Rattle.global_model.proofs.Tree.{AllLive, live_lines, near-turned, near_born, tree_lives}
use Rattle.global_model.proofs.Writes.{EachIs, KnowsNear, MayWrite, each-append, each_either, writes_record}
use Rattle.global_model.proofs.Plain.{each-weaker}
use Rattle.global_model.specs.Apt.{NothingArrives}
use Rattle.global_model.proofs.Sound.{IsSound, sound_line, sound_flowing}
use Rattle.global_model.proofs.Turns.{begin_turn, end_turn, lives_in}
use Rattle.global_model.proofs.Waiting.{IsWaiting, RecordsAreShort, first_waits, first_some, rest_short, rest_waits, none_rests, rests_none}
use Rattle.global_model.proofs.Deliveries.{settle_at, settle_up_to}
use Rattle.global_model.proofs.Commands.{runs_after, sound_after}

-- ---- how many deliveries lines tell

pub deliveries-append : (ls ms : List Line) → deliveries_in (ls ++ ms) ≡ deliveries_in ls + deliveries_in ms
deliveries-append ls ms = ap length (filter-append is_delivery ls ms) ∙ length-append (filter is_delivery ls) (filter is_delivery ms)

-- what begins a command, and what ends a settle
abbrev pub brackets : List Part
brackets = Opening ∷ Closing ∷ []

lacks_rest : (part : Part) (parts : List Part) (line : Line) → Lacks (part ∷ parts) line → Lacks parts line
lacks_rest part parts line = by (part_number part == part_number (part_of line)) (plays parts (part_of line))
  where
    by : (first rest : Bool) → IsNot (first || rest) → IsNot rest
    by true rest none = absurd none
    by false rest none = none

pub no_brackets : (ls : List Line) → EachIs (Lacks (Delivery ∷ brackets)) ls → EachIs (Lacks brackets) ls
no_brackets ls none = each-weaker (Lacks (Delivery ∷ brackets)) (Lacks brackets) (lacks_rest Delivery brackets) ls none

no_delivery : (line : Line) → Lacks (Delivery ∷ brackets) line → is_delivery line ≡ false
no_delivery (lines.Took x y count) none = absurd none
no_delivery _ none = search

no_deliveries : (ls : List Line) → EachIs (Lacks (Delivery ∷ brackets)) ls → deliveries_in ls ≡ 0
no_deliveries [] each = refl
no_deliveries (l ∷ ls) each = rw (no_delivery l each.0) (no_deliveries ls each.1)

-- what an enclave may write for a record or a call is no delivery, and none of these
pub none_written : (v : View) → MayWrite (Lacks (Delivery ∷ brackets)) (λ x. Unit {0}) (λ r. Unit {0}) v
none_written v = record {
  dropped = tt;
  admitted = tt;
  asked = λ x near. tt;
  way = λ x near. tt;
  back = λ d x near. tt;
  route = λ d x near. tt;
  drew = λ held e call segid range. tt;
  named = λ call segid range. tt;
  unnamed = λ held segid range. tt;
  answered = λ p call segid range. tt;
  sent = λ x r near good. tt;
}

pub knows_any : (v : View) → KnowsNear (λ x. Unit {0}) v
knows_any v = record { way = λ x is. tt; askers = λ k d lt. tt; backs = λ k d lt. tt; routes = λ k d lt. tt }

none_got : (G : Facts) (x y : Enclave) (rs : List Record) → EachIs (Lacks (Delivery ∷ brackets)) (got_lines G x y rs)
none_got G x y [] = tt
none_got G x y (r ∷ rs) =
    let v = view_of G y in
    let own = handled_lines v x r in
    each-append (Lacks (Delivery ∷ brackets)) own (got_lines (after_lines G own) x y rs) (
      tt,
      writes_record (Lacks (Delivery ∷ brackets)) (λ x. Unit {0}) (λ r. Unit {0}) v (none_written v) x r (knows_any v) tt
          (record { here = tt; register = tt; admit = tt; made = λ m valid. tt; passed = tt }),
    ) (none_got (after_lines G own) x y rs)

-- a delivery of what waits is one
one_delivery : (G : Facts) (x y : Enclave) (count : ℕ) → 0 < length (waiting_in G x.0 y.0)
    → deliveries_in (deliver_lines G x y count) ≡ 1
one_delivery G x y count some =
    let waiting = length (waiting_in G x.0 y.0) in
    let n = min count waiting in
    let more : eqb waiting 0 ≡ false = ne_eqb waiting 0 (λ none. omega (arith, none, some)) in
    let H = after_line G (lines.Took x y n) in
    rw more (ap suc (no_deliveries (got_lines H x y (arriving (H.channel x.0 y.0))) (none_got H x y (arriving (H.channel x.0 y.0)))))

-- no line of a delivery begins a command or ends a settle
pub inner_deliver : (G : Facts) (x y : Enclave) (count : ℕ) → EachIs (Lacks brackets) (deliver_lines G x y count)
inner_deliver G x y count =
    let n = min count (length (waiting_in G x.0 y.0)) in
    let H = after_line G (lines.Took x y n) in
    let rs = arriving (H.channel x.0 y.0) in
    each_either (Lacks brackets) (eqb (length (waiting_in G x.0 y.0)) 0) (lines.Idle x y ∷ []) (lines.Took x y n ∷ got_lines H x y rs) (tt, tt)
    (tt, no_brackets (got_lines H x y rs) (none_got H x y rs))

-- ---- how a settle ends

-- the lines before the last one make deliveries, as many as are left where something still waits
pub record IsSettled (left made : ℕ) (G : Facts) : Type 0 where
  pub before : List Line
  pub is : settle_from left made G ≡ before ++ settle_end (after_lines G before) (made + deliveries_in before) ∷ []
  pub inner : EachIs (Lacks brackets) before
  pub few : deliveries_in before ≤ left
  pub all : is_some (first_waiting (after_lines G before)) ≡ true → deliveries_in before ≡ left

settled_here : (left made : ℕ) (G : Facts) → settle_from left made G ≡ settle_end G made ∷ []
    → (is_some (first_waiting G) ≡ true → 0 ≡ left) → IsSettled left made G
settled_here left made G is all =
    let same : made ≡ made + 0 = omega arith in
    record { before = []; is = is ∙ ap (λ n. settle_end G n ∷ []) same; inner = tt; few = omega arith; all = all }

pub settled_by : (left made : ℕ) (G : Facts) → AllLive G → IsSettled left made G
settled_by zero made G live = settled_here zero made G refl (λ some. refl)
settled_by (suc left) made G live = by (first_waiting G) refl (settled_by left (made + 1))
  where
    by : (o : Option (Enclave × Enclave)) → first_waiting G ≡ o → ((H : Facts) → AllLive H → IsSettled left (made + 1) H) → IsSettled (suc left) made G
    by None is later = settled_here (suc left) made G (ap (settle_at left made G) is)
        (λ some. let clash : false ≡ true = sym (ap is_some is) ∙ some in absurd (cc))
    by (Some channel) is later =
        let own = deliver_lines G channel.0 channel.1 (next_rest G channel.0 channel.1) in
        let H = after_lines G own in
        let more : IsSettled left (made + 1) H = later H (live_lines own G live) in
        let before = own ++ more.before in
        let facts : after_lines H more.before ≡ after_lines G before = sym (after_lines-append G own more.before) in
        let count : deliveries_in before ≡ 1 + deliveries_in more.before
        = deliveries-append own more.before ∙ ap (λ n. n + deliveries_in more.before)
        (one_delivery G channel.0 channel.1 (next_rest G channel.0 channel.1) (first_some G channel.0 channel.1 live is)) in
        let number : made + 1 + deliveries_in more.before ≡ made + deliveries_in before = omega (arith, count) in
        let end : settle_end (after_lines H more.before) (made + 1 + deliveries_in more.before) ≡ settle_end (after_lines G before)
        (made + deliveries_in before)
        = ap (λ K. settle_end K (made + 1 + deliveries_in more.before)) facts ∙ ap (settle_end (after_lines G before)) number in
        record {
          before = before;
          is = ap (settle_at left made G) is ∙ ap (λ ls. own ++ ls) more.is ∙ sym
              (append_assoc own more.before (settle_end (after_lines H more.before) (made + 1 + deliveries_in more.before) ∷ [])) ∙ ap
              (λ line. before ++ line ∷ []) end;
          inner = each-append (Lacks brackets) own more.before
              (inner_deliver G channel.0 channel.1 (next_rest G channel.0 channel.1)) more.inner;
          few = omega (arith, count, more.few);
          all = λ some. let left_is : deliveries_in more.before ≡ left = more.all
              (ap (λ K. is_some (first_waiting K)) facts ∙ some) in omega (arith, count, left_is);
        }

-- the last line changes nothing
after_end : (G : Facts) (made : ℕ) → after_line G (settle_end G made) ≡ G
after_end G made = by (is_some (first_waiting G))
  where
    by : (b : Bool) → after_line G (cond b (lines.Waiting made) (lines.Settled made)) ≡ G
    by true = refl
    by false = refl

-- the facts after the lines of a settle
abbrev pub settled_facts : ℕ → Facts → Facts
settled_facts most G = after_lines G (settle_from most 0 G)

-- are those before its last line
pub settled_before : (G : Facts) (most : ℕ) (settled : IsSettled most 0 G) → settled_facts most G ≡ after_lines G settled.before
settled_before G most settled =
    let end = settle_end (after_lines G settled.before) (0 + deliveries_in settled.before) in
    ap (after_lines G) settled.is ∙ after_lines-append G settled.before (end ∷ [])
    ∙ after_end (after_lines G settled.before) (0 + deliveries_in settled.before)

pub settle_flows : (G : Facts) (most : ℕ) → IsSound G → NothingArrives G → IsFlowing (settled_facts most G)
settle_flows G most sound none =
    let up = settle_up_to (is_neighbour G) (lives_in G) most 0 G (begin_turn 0 0 G sound none) in
    sound_flowing (settled_facts most G) up.turn.sound (end_turn (is_neighbour G) (lives_in G) 0 0 (settled_facts most G) up.turn)

ends_settle : (G : Facts) (most : ℕ) → AllLive G → IsFlowing (settled_facts most G) → EndsSettle most (settle_from most 0 G) (settled_facts most G)
ends_settle G most live flowing =
    let settled : IsSettled most 0 G = settled_by most 0 G live in
    let H = after_lines G settled.before in
    let made = deliveries_in settled.before in
    let number : 0 + made ≡ made = omega arith in
    let after : settled_facts most G ≡ H = settled_before G most settled in
    record {
      before = settled.before;
      end = settle_end H made;
      is = settled.is ∙ ap (λ n. settled.before ++ settle_end H n ∷ []) number;
      few = settled.few;
      settled = λ rest. let none : first_waiting H ≡ None = rests_none H (subst IsAtRest after rest) in ap
          (λ o. cond (is_some o) (lines.Waiting made) (lines.Settled made)) none;
      waiting = λ busy. by settled.before (first_waiting H) refl busy after settled.all;
    }
  where
    by : (before : List Line) (o : Option (Enclave × Enclave)) → first_waiting (after_lines G before) ≡ o
        → (IsAtRest (settled_facts most G) → ⊥) → settled_facts most G ≡ after_lines G before
        → (is_some (first_waiting (after_lines G before)) ≡ true → deliveries_in before ≡ most)
        → (settle_end (after_lines G before) (deliveries_in before) ≡ lines.Waiting most) × (deliveries_in before ≡ most)
    by before None is busy after all = absurd (busy (none_rests (settled_facts most G) flowing (ap first_waiting after ∙ is)))
    by before (Some channel) is busy after all =
        let count : deliveries_in before ≡ most = all (ap is_some is) in (
          ap (λ o. cond (is_some o) (lines.Waiting (deliveries_in before)) (lines.Settled (deliveries_in before))) is ∙ ap
              (λ n. lines.Waiting n) count,
          count,
        )

-- ---- journals

pub journal_of-ends : (cs : List Command) (most : ℕ) → IsPlaced cs
    → EndsSettle most (command_lines (facts_after (journal_of cs)) (commands.Settle most))
    (facts_after (journal_of (cs ++ commands.Settle most ∷ [])))
journal_of-ends cs most placed =
    let c = commands.Settle most in
    let G = facts_after (journal_of cs) in
    let B = after_line G (lines.Do c) in
    let ready = (runs_after cs placed).ready in
    let flowing : IsFlowing (settled_facts most B) = settle_flows B most (sound_line G (lines.Do c) ready.sound tt) ready.got in
    subst (EndsSettle most (command_lines G c)) (sym (facts_by-more no_facts cs c)) (ends_settle B most (tree_lives G ready.sound.tree) flowing)

-- ---- its deliveries

-- a delivery to a living neighbour isn't refused
not_refused : (G : Facts) (x y : Enclave) (count : ℕ) → is_living_enclave (G.enclave y.0) ≡ true → was_born G x.0 ≡ true
    → is_neighbour G x.0 y.0 ≡ true → refusal_of G (commands.Deliver x y count) ≡ None
not_refused G x y count living born near = rw (living, born, near) refl

pub journal_of-delivers : (cs : List Command) (x y : Enclave) → IsPlaced cs → first_waiting (facts_after (journal_of cs)) ≡ Some (x, y)
    → command_lines (facts_after (journal_of cs)) (commands.Deliver x y (next_rest (facts_after (journal_of cs)) x y))
    ≡ deliver_lines (facts_after (journal_of cs)) x y (next_rest (facts_after (journal_of cs)) x y)
journal_of-delivers cs x y placed is =
    let G = facts_after (journal_of cs) in
    let tree : IsTree G = (sound_after cs placed).tree in
    let found : IsWaiting G x y = first_waits G x y tree is in
    let born : was_born G x.0 ≡ true = (tree.enclaves x.0).known ∙ lt-ltb x.0 G.born (near_born G x.0 y.0 tree found.near) in
    ap (λ o. option_map_or (λ cause. lines.Refused cause ∷ []) o (deliver_lines G x y (next_rest G x y)))
    (not_refused G x y (next_rest G x y) found.living born found.near)

pub placed_after : (cs : List Command) (before : ℕ) (c : Command) → IsPlacedAfter before cs → may_stand (before + length cs) c ≡ true
    → IsInRange c → IsPlacedAfter before (cs ++ c ∷ [])
placed_after [] before c placed may range = let same : before + 0 ≡ before = omega arith in
    (ap (λ n. may_stand n c) (sym same) ∙ may, range, tt)
placed_after (first ∷ cs) before c placed may range =
    let same : before + suc (length cs) ≡ before + 1 + length cs = omega arith in
    (placed.0, placed.1, placed_after cs (before + 1) c placed.2 (ap (λ n. may_stand n c) (sym same) ∙ may) range)

pub journal_of-placed : RecordsAreShort → (cs : List Command) (x y : Enclave) → IsPlaced cs → first_waiting (facts_after (journal_of cs)) ≡ Some (x, y)
    → IsPlaced (cs ++ commands.Deliver x y (next_rest (facts_after (journal_of cs)) x y) ∷ [])
journal_of-placed short cs x y placed is =
    let G = facts_after (journal_of cs) in
    let most : rest_of_record (G.channel x.0 y.0).taken (G.channel x.0 y.0).sent ≤ 16404
    = rest_short short (G.channel x.0 y.0).taken (G.channel x.0 y.0).sent ((sound_after cs placed).flows x.0 y.0).valid in
    let tree : IsTree G = (sound_after cs placed).tree in
    let found : IsWaiting G x y = first_waits G x y tree is in
    let rest = rest_waits G x y found.some in
    let from : x.0 < G.born = near_born G x.0 y.0 tree found.near in
    let to : y.0 < G.born = near_born G y.0 x.0 tree (near-turned G y.0 x.0 ∙ found.near) in
    let few : length cs ≤ 1 → G.born ≡ 0 = (runs_after cs placed).ready.unborn in
    let many : leb 2 (0 + length cs) ≡ true = le-leb 2 (0 + length cs) (by (length cs) G.born from few) in
    placed_after cs 0 (commands.Deliver x y (next_rest G x y)) placed (rw many refl)
    ((omega arith, omega (arith, from, tree.most)), (omega arith, omega (arith, to, tree.most)), (rest.some, omega (arith, most)))
  where
    by : (n born : ℕ) → x.0 < born → (n ≤ 1 → born ≡ 0) → 2 ≤ 0 + n
    by zero born lt few = absurd (omega (arith, lt, few (omega arith)))
    by (suc zero) born lt few = absurd (omega (arith, lt, few (omega arith)))
    by (suc (suc n)) born lt few = omega arith

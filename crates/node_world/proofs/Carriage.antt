-- The channels of children show the facts while lines are written, and what the lines send is carried.
use Rattle.std.proofs.Common.{◌≡◌, ◌+◌, ◌-◌, ◌<◌, ◌≤◌, ℕ, List, [], ◌∷◌, ◌++◌, length, Bool, true, false, cond, not, eqb, ◌&&◌, Option, None, Some, refl, sym, ap, ◌∙◌, subst, arith}
use Rattle.std.proofs.lemmas.Bool.{and_from, eqb-true, eq-eqb, lt-ltb}
use Rattle.std.proofs.lemmas.List.{length-set}
use Rattle.xm_num.specs.declared.Enclave.{Enclave}
use Rattle.byte_link.specs.Channel.{Channel, sent}
use Rattle.xemem_language.specs.declared.record.Record.{Record}
use Rattle.xemem_wire.specs.Spelling.{spelling_of, spellings_of}
use Rattle.xemem_wire.specs.Decoding.{Decoding}
use Rattle.xemem_language.specs.declared.line.Line.{Line}
use Rattle.xemem_language.specs.declared.line.Line.TheVariants as lines
use Rattle.global_model.specs.Facts.{Facts, EnclaveFact, ChannelFact, at_number, at_pair, as_admitted, with_sent, with_got, after_line, after_lines, fact_of, is_living_enclave, lives_at}
use Rattle.node_machine.specs.declared.pair.Pair.{Pair}
use Rattle.node_machine.specs.declared.pair.Hop.{Hop}
use Rattle.node_machine.specs.declared.pair.Hop.TheVariants as hops
use Rattle.enclave_node.specs.Nodes.{NodeView}
use Rattle.node_machine.specs.Machine.{no_pair, are_known, has_node, pair_at, hop_of, link_of, with_link, carried, carried_over}
use Rattle.node_world.specs.Links.{IsLinkOf}
use Rattle.node_world.proofs.Lists.{cond_case, set_case, set_field}
use Rattle.node_world.proofs.Flows.{link_sent, feed_from, feed_sent}
use Rattle.node_world.proofs.Fronts.{spellings-length}
use Rattle.node_machine.specs.Machine.{AreAbove, IsPairAt}
use Rattle.node_world.specs.Laws.{WireLaws, WorldLaws}

-- ---- a channel changes

pub pair_here : {A : Type 0} (x y : ℕ) (h : A → A) (f : ℕ → ℕ → A) (a b : ℕ) → a ≡ x → b ≡ y → at_pair x y h f a b ≡ h (f x y)
pair_here x y h f a b one two = rw (one, two) (let s = eq-eqb x x refl in let t = eq-eqb y y refl in rw (s, t) refl)

pub pair_other : {A : Type 0} (x y : ℕ) (h : A → A) (f : ℕ → ℕ → A) (a b : ℕ) → (a ≡ x → b ≡ y → ⊥) → at_pair x y h f a b ≡ f a b
pair_other x y h f a b apart = by (eqb a x) (eqb b y) refl refl
  where
    by : (s t : Bool) → eqb a x ≡ s → eqb b y ≡ t → cond (s && t) (h (f a b)) (f a b) ≡ f a b
    by true true one two = absurd (apart (eqb-true a x one) (eqb-true b y two))
    by true false one two = refl
    by false t one two = refl

-- what holds of the changed value and of the one before
pub pair_case : {A : Type 0} (P : A → Type 0) (x y : ℕ) (h : A → A) (f : ℕ → ℕ → A) (a b : ℕ) → P (h (f x y)) → P (f a b) → P (at_pair x y h f a b)
pair_case P x y h f a b new old = by (eqb a x) (eqb b y) refl refl
  where
    by : (s t : Bool) → eqb a x ≡ s → eqb b y ≡ t → P (cond (s && t) (h (f a b)) (f a b))
    by true true one two = subst (λ k. P (h (f k b))) (sym (eqb-true a x one)) (subst (λ k. P (h (f x k))) (sym (eqb-true b y two)) new)
    by true false one two = old
    by false t one two = old

-- the channels between a child and its parent show what was sent and taken, each where its receiver lives; the child is
-- enclave i + 1
pub record IsLinked (enclaves : ℕ → Option EnclaveFact) (channels : ℕ → ℕ → ChannelFact) (i : ℕ) (pair : Pair) : Type 0 where
  pub parent : pair.parent ≡ (fact_of (enclaves (i + 1))).parent
  pub above : pair.parent.0 < i + 1
  pub up : is_living_enclave (enclaves pair.parent.0) ≡ true → IsLinkOf (not (is_living_enclave (enclaves (i + 1)))) (channels (i + 1) pair.parent.0) pair.up
  pub down : is_living_enclave (enclaves (i + 1)) ≡ true → IsLinkOf (not (is_living_enclave (enclaves pair.parent.0))) (channels pair.parent.0 (i + 1)) pair.down

abbrev pub LinksFollow : (ℕ → Option EnclaveFact) → (ℕ → ℕ → ChannelFact) → List Pair → Type 0
LinksFollow enclaves channels pairs = (i : ℕ) → i < length pairs → IsLinked enclaves channels i (pair_at pairs i)

-- who is admitted lives as before
pub admitted_lives : (enclaves : ℕ → Option EnclaveFact) (e d : ℕ) → is_living_enclave (at_number e (as_admitted (enclaves e)) enclaves d) ≡ is_living_enclave (enclaves d)
admitted_lives enclaves e d = by (eqb d e) refl
  where
    same : (fact : Option EnclaveFact) → is_living_enclave (as_admitted fact) ≡ is_living_enclave fact
    same None = refl
    same (Some fact) = refl

    by : (b : Bool) → eqb d e ≡ b → is_living_enclave (cond b (as_admitted (enclaves e)) (enclaves d)) ≡ is_living_enclave (enclaves d)
    by true is = same (enclaves e) ∙ ap (λ n. is_living_enclave (enclaves n)) (sym (eqb-true d e is))
    by false is = refl

module _ (laws : WorldLaws) (enclaves : ℕ → Option EnclaveFact) (channels : ℕ → ℕ → ChannelFact) (pairs : List Pair) (all : LinksFollow enclaves channels pairs) where
  -- the enclave is dead
  abbrev gone : ℕ → Bool
  gone e = not (is_living_enclave (enclaves e))

  pub above_of : AreAbove pairs
  above_of i within = (all i within).above

  -- what shows a channel that isn't between these
  linked_other : (x y : ℕ) (h : ChannelFact → ChannelFact) (i : ℕ) (pair : Pair) → IsLinked enclaves channels i pair → (is_living_enclave (enclaves pair.parent.0) ≡ true → i + 1 ≡ x → pair.parent.0 ≡ y → ⊥)
      → (is_living_enclave (enclaves (i + 1)) ≡ true → pair.parent.0 ≡ x → i + 1 ≡ y → ⊥)
      → IsLinked enclaves (at_pair x y h channels) i pair
  linked_other x y h i pair k one two = record {
    parent = k.parent;
    above = k.above;
    up = λ lives. subst (λ f. IsLinkOf (gone (i + 1)) f pair.up) (sym (pair_other x y h channels (i + 1) pair.parent.0 (one lives))) (k.up lives);
    down = λ lives. subst (λ f. IsLinkOf (gone pair.parent.0) f pair.down) (sym (pair_other x y h channels pair.parent.0 (i + 1) (two lives))) (k.down lives);
  }

  over_up : (x y : Enclave) (h : ChannelFact → ChannelFact) (link : Channel) (j : ℕ) → IsPairAt pairs j x.0 y.0 → ((dead : Bool) → IsLinkOf dead (channels x.0 y.0) (pair_at pairs j).up → IsLinkOf dead (h (channels x.0 y.0)) link)
      → LinksFollow enclaves (at_pair x.0 y.0 h channels) (with_link pairs (hops.Up j) link)
  over_up x y h link j is new i within =
      let size = length-set pairs j (record (pair_at pairs j) { up = link }) in
      let k = all j is.within in
      let one = is.child_is in let two = is.parent_is in let high = k.above in
      let before : channels (j + 1) (pair_at pairs j).parent.0 ≡ channels x.0 y.0 = ap (λ a. channels a (pair_at pairs j).parent.0) (sym one) ∙ ap (channels x.0) two in
      let here : IsLinked enclaves (at_pair x.0 y.0 h channels) j (record (pair_at pairs j) { up = link }) = record {
        parent = k.parent;
        above = k.above;
        up = λ lives. subst (λ f. IsLinkOf (gone (j + 1)) f link) (sym (pair_here x.0 y.0 h channels (j + 1) (pair_at pairs j).parent.0 (sym one) two)) (new (gone (j + 1)) (subst (λ f. IsLinkOf (gone (j + 1)) f (pair_at pairs j).up) before (k.up lives)));
        down = λ lives. subst (λ f. IsLinkOf (gone (pair_at pairs j).parent.0) f (pair_at pairs j).down) (sym (pair_other x.0 y.0 h channels (pair_at pairs j).parent.0 (j + 1) (λ a b. omega (arith, a, one, high)))) (k.down lives);
      } in
      set_case pairs j i (record (pair_at pairs j) { up = link }) no_pair (IsLinked enclaves (at_pair x.0 y.0 h channels) i) is.within
      (λ same. subst (λ n. IsLinked enclaves (at_pair x.0 y.0 h channels) n (record (pair_at pairs j) { up = link })) (sym same) here)
      (λ apart. let q = all i (omega (arith, size, within)) in let low = q.above in
      linked_other x.0 y.0 h i (pair_at pairs i) q (λ lives a b. apart (omega (arith, a, one))) (λ lives a b. omega (arith, a, b, one, two, high, low)))

  over_down : (x y : Enclave) (h : ChannelFact → ChannelFact) (link : Channel) (j : ℕ) → IsPairAt pairs j y.0 x.0 → ((dead : Bool) → IsLinkOf dead (channels x.0 y.0) (pair_at pairs j).down → IsLinkOf dead (h (channels x.0 y.0)) link)
      → LinksFollow enclaves (at_pair x.0 y.0 h channels) (with_link pairs (hops.Down j) link)
  over_down x y h link j is new i within =
      let size = length-set pairs j (record (pair_at pairs j) { down = link }) in
      let k = all j is.within in
      let one = is.child_is in let two = is.parent_is in let high = k.above in
      let before : channels (pair_at pairs j).parent.0 (j + 1) ≡ channels x.0 y.0 = ap (channels (pair_at pairs j).parent.0) (sym one) ∙ ap (λ a. channels a y.0) two in
      let here : IsLinked enclaves (at_pair x.0 y.0 h channels) j (record (pair_at pairs j) { down = link }) = record {
        parent = k.parent;
        above = k.above;
        up = λ lives. subst (λ f. IsLinkOf (gone (j + 1)) f (pair_at pairs j).up) (sym (pair_other x.0 y.0 h channels (j + 1) (pair_at pairs j).parent.0 (λ a b. omega (arith, b, one, high)))) (k.up lives);
        down = λ lives. subst (λ f. IsLinkOf (gone (pair_at pairs j).parent.0) f link) (sym (pair_here x.0 y.0 h channels (pair_at pairs j).parent.0 (j + 1) two (sym one))) (new (gone (pair_at pairs j).parent.0) (subst (λ f. IsLinkOf (gone (pair_at pairs j).parent.0) f (pair_at pairs j).down) before (k.down lives)));
      } in
      set_case pairs j i (record (pair_at pairs j) { down = link }) no_pair (IsLinked enclaves (at_pair x.0 y.0 h channels) i) is.within
      (λ same. subst (λ n. IsLinked enclaves (at_pair x.0 y.0 h channels) n (record (pair_at pairs j) { down = link })) (sym same) here)
      (λ apart. let q = all i (omega (arith, size, within)) in let low = q.above in
      linked_other x.0 y.0 h i (pair_at pairs i) q (λ lives a b. omega (arith, a, b, one, two, high, low)) (λ lives a b. apart (omega (arith, b, one))))

  module _ (nodes : List NodeView) (count : length pairs ≡ length nodes - 1) (living : (e : ℕ) → has_node nodes e ≡ is_living_enclave (enclaves e)) where
    -- the ends are known where the receiver lives
    known_ends : (x y : Enclave) → is_living_enclave (enclaves y.0) ≡ true → x.0 < length nodes → are_known nodes x y ≡ true
    known_ends x y lives born = and_from (has_node nodes y.0) _ (living y.0 ∙ lives) (lt-ltb x.0 (length nodes) born)

    -- nothing goes from x to y, where these are neighbours and y lives
    over_none : (x y : Enclave) (h : ChannelFact → ChannelFact) → ((j : ℕ) → hop_of pairs (are_known nodes x y) x y ≡ hops.Up j → ⊥) → ((j : ℕ) → hop_of pairs (are_known nodes x y) x y ≡ hops.Down j → ⊥)
        → LinksFollow enclaves (at_pair x.0 y.0 h channels) pairs
    over_none x y h not_up not_down i within =
        let q = all i within in let low = q.above in
        linked_other x.0 y.0 h i (pair_at pairs i) q
        (λ lives a b.
        let known = known_ends x y (ap (λ e. is_living_enclave (enclaves e)) (sym b) ∙ lives) (omega (arith, a, count, within)) in
        not_up i (ap (λ t. hop_of pairs t x y) known ∙ laws.hops.to_up pairs x y i (record { within = within; child_is = sym a; parent_is = b })))
        (λ lives a b.
        let known = known_ends x y (ap (λ e. is_living_enclave (enclaves e)) (sym b) ∙ lives) (omega (arith, a, low, count, within)) in
        not_down i (ap (λ t. hop_of pairs t x y) known ∙ laws.hops.to_down pairs x y i above_of (record { within = within; child_is = sym b; parent_is = a })))

    -- the channel from x to y changes, and its link with it
    pub over : (x y : Enclave) (h : ChannelFact → ChannelFact) (link : Channel) (hop : Hop) → hop_of pairs (are_known nodes x y) x y ≡ hop
        → ((dead : Bool) → IsLinkOf dead (channels x.0 y.0) (link_of pairs hop) → IsLinkOf dead (h (channels x.0 y.0)) link) → LinksFollow enclaves (at_pair x.0 y.0 h channels) (with_link pairs hop link)
    over x y h link hops.NoEnclave is new = over_none x y h (λ j up. let no : hops.NoEnclave ≡ hops.Up j = sym is ∙ up in cc) (λ j down. let no : hops.NoEnclave ≡ hops.Down j = sym is ∙ down in cc)
    over x y h link hops.NoLink is new = over_none x y h (λ j up. let no : hops.NoLink ≡ hops.Up j = sym is ∙ up in cc) (λ j down. let no : hops.NoLink ≡ hops.Down j = sym is ∙ down in cc)
    over x y h link (hops.Up j) is new = over_up x y h link j (laws.hops.up pairs (are_known nodes x y) x y j is) new
    over x y h link (hops.Down j) is new = over_down x y h link j (laws.hops.down pairs (are_known nodes x y) x y j is) new

  -- no channel has ended, as all that were born live so far
  pub never_ended : (nodes : List NodeView) → length pairs ≡ length nodes - 1 → ((e : ℕ) → e < length nodes → is_living_enclave (enclaves e) ≡ true) → (x y : Enclave) (hop : Hop) → hop_of pairs (are_known nodes x y) x y ≡ hop
      → (link_of pairs hop).ended ≡ false
  never_ended nodes count alive x y hops.NoEnclave is = refl
  never_ended nodes count alive x y hops.NoLink is = refl
  never_ended nodes count alive x y (hops.Up j) is =
      let within = (laws.hops.up pairs (are_known nodes x y) x y j is).within in
      let k = all j within in let low = k.above in
      (k.up (alive (pair_at pairs j).parent.0 (omega (arith, low, count, within)))).ended ∙ ap not (alive (j + 1) (omega (arith, count, within)))
  never_ended nodes count alive x y (hops.Down j) is =
      let within = (laws.hops.down pairs (are_known nodes x y) x y j is).within in
      let k = all j within in let low = k.above in
      (k.down (alive (j + 1) (omega (arith, count, within)))).ended ∙ ap not (alive (pair_at pairs j).parent.0 (omega (arith, low, count, within)))

  -- a record is got, and an enclave is admitted
  got_linked : (x y : ℕ) → LinksFollow enclaves (at_pair x y with_got channels) pairs
  got_linked x y i within =
      let k = all i within in
      record {
        parent = k.parent;
        above = k.above;
        up = λ lives. got (eqb (i + 1) x && eqb (pair_at pairs i).parent.0 y) (channels (i + 1) (pair_at pairs i).parent.0) (pair_at pairs i).up (k.up lives);
        down = λ lives. got (eqb (pair_at pairs i).parent.0 x && eqb (i + 1) y) (channels (pair_at pairs i).parent.0 (i + 1)) (pair_at pairs i).down (k.down lives);
      }
    where
      got : {dead : Bool} (b : Bool) (f : ChannelFact) (link : Channel) → IsLinkOf dead f link → IsLinkOf dead (cond b (with_got f) f) link
      got true f link k = record { within = k.within; waiting = k.waiting; pieces = k.pieces; ended = k.ended; end_taken = k.end_taken; uncut = k.uncut }
      got false f link k = k

  admitted_linked : (e : ℕ) → LinksFollow (at_number e (as_admitted (enclaves e)) enclaves) channels pairs
  admitted_linked e i within =
      let k = all i within in
      let p = (pair_at pairs i).parent.0 in
      record { parent = k.parent ∙ sym (by (eqb (i + 1) e) refl); above = k.above; up = λ lives. subst (λ dead. IsLinkOf dead (channels (i + 1) p) (pair_at pairs i).up) (sym (ap not (admitted_lives enclaves e (i + 1)))) (k.up (sym (admitted_lives enclaves e p) ∙ lives)); down = λ lives. subst (λ dead. IsLinkOf dead (channels p (i + 1)) (pair_at pairs i).down) (sym (ap not (admitted_lives enclaves e p))) (k.down (sym (admitted_lives enclaves e (i + 1)) ∙ lives)) }
    where
      same : (fact : Option EnclaveFact) → (fact_of (as_admitted fact)).parent ≡ (fact_of fact).parent
      same None = refl
      same (Some fact) = refl

      by : (b : Bool) → eqb (i + 1) e ≡ b → (fact_of (cond b (as_admitted (enclaves e)) (enclaves (i + 1)))).parent ≡ (fact_of (enclaves (i + 1))).parent
      by true is = same (enclaves e) ∙ ap (λ n. (fact_of (enclaves n)).parent) (sym (eqb-true (i + 1) e is))
      by false is = refl

-- ---- lines

-- lines that tell no command, no birth, no process and no bytes that were taken
abbrev pub IsUncounted : Line → Type 0
IsUncounted (lines.Do command) = ⊥
IsUncounted (lines.Born child kind parent ns blocks) = ⊥
IsUncounted (lines.Proc e p uid gid) = ⊥
IsUncounted (lines.Took x y count) = ⊥
IsUncounted line = Unit {0}

abbrev pub AreUncounted : List Line → Type 0
AreUncounted [] = Unit {0}
AreUncounted (line ∷ journal) = IsUncounted line × AreUncounted journal

pub uncounted_append : (ls ms : List Line) → AreUncounted ls → AreUncounted ms → AreUncounted (ls ++ ms)
uncounted_append [] ms first more = more
uncounted_append (line ∷ ls) ms first more = (first.0, uncounted_append ls ms first.1 more)

-- the pairs are as many as before, and of the same parents
pub with_link-parent : (pairs : List Pair) (hop : Hop) (link : Channel) (i : ℕ) → (pair_at (with_link pairs hop link) i).parent ≡ (pair_at pairs i).parent
with_link-parent pairs hops.NoEnclave link i = refl
with_link-parent pairs hops.NoLink link i = refl
with_link-parent pairs (hops.Up j) link i = set_field (λ (p : Pair). p.parent) pairs j i (record (pair_at pairs j) { up = link }) no_pair refl
with_link-parent pairs (hops.Down j) link i = set_field (λ (p : Pair). p.parent) pairs j i (record (pair_at pairs j) { down = link }) no_pair refl

pub with_link-length : (pairs : List Pair) (hop : Hop) (link : Channel) → length (with_link pairs hop link) ≡ length pairs
with_link-length pairs hops.NoEnclave link = refl
with_link-length pairs hops.NoLink link = refl
with_link-length pairs (hops.Up j) link = length-set pairs j (record (pair_at pairs j) { up = link })
with_link-length pairs (hops.Down j) link = length-set pairs j (record (pair_at pairs j) { down = link })

carried_over-parent : (pairs : List Pair) (hop : Hop) (r : Record) (i : ℕ) → (pair_at (carried_over pairs hop r) i).parent ≡ (pair_at pairs i).parent
carried_over-parent pairs hop r i =
    cond_case (link_of pairs hop).ended pairs _ (λ ps. (pair_at ps i).parent ≡ (pair_at pairs i).parent) refl (with_link-parent pairs hop (sent (link_of pairs hop) (spelling_of r)) i)

carried_over-length : (pairs : List Pair) (hop : Hop) (r : Record) → length (carried_over pairs hop r) ≡ length pairs
carried_over-length pairs hop r =
    cond_case (link_of pairs hop).ended pairs _ (λ ps. length ps ≡ length pairs) refl (with_link-length pairs hop (sent (link_of pairs hop) (spelling_of r)))

pub carried-parent : (nodes : List NodeView) (ls : List Line) (pairs : List Pair) (i : ℕ) → (pair_at (carried nodes pairs ls) i).parent ≡ (pair_at pairs i).parent
carried-parent nodes [] pairs i = refl
carried-parent nodes (lines.Sent x y r ∷ ls) pairs i =
    let hop = hop_of pairs (are_known nodes x y) x y in
    carried-parent nodes ls (carried_over pairs hop r) i ∙ carried_over-parent pairs hop r i
carried-parent nodes (_ ∷ ls) pairs i = carried-parent nodes ls pairs i

pub carried-length : (nodes : List NodeView) (ls : List Line) (pairs : List Pair) → length (carried nodes pairs ls) ≡ length pairs
carried-length nodes [] pairs = refl
carried-length nodes (lines.Sent x y r ∷ ls) pairs =
    let hop = hop_of pairs (are_known nodes x y) x y in
    carried-length nodes ls (carried_over pairs hop r) ∙ carried_over-length pairs hop r
carried-length nodes (_ ∷ ls) pairs = carried-length nodes ls pairs

-- the channels show the facts after uncounted lines, once what they send is carried
pub linked_lines : WorldLaws → (nodes : List NodeView) (ls : List Line) (G : Facts) (pairs : List Pair) → length pairs ≡ length nodes - 1 → ((e : ℕ) → has_node nodes e ≡ lives_at G e) → ((e : ℕ) → e < length nodes → lives_at G e ≡ true) → AreUncounted ls → LinksFollow G.enclave G.channel pairs
    → LinksFollow (after_lines G ls).enclave (after_lines G ls).channel (carried nodes pairs ls)
linked_lines laws nodes [] G pairs count living alive plain all = all
linked_lines laws nodes (lines.Sent x y r ∷ ls) G pairs count living alive plain all =
    let hop = hop_of pairs (are_known nodes x y) x y in
    let link = sent (link_of pairs hop) (spelling_of r) in
    let goes : carried_over pairs hop r ≡ with_link pairs hop link = ap (λ b. cond b pairs (with_link pairs hop link)) (never_ended laws G.enclave G.channel pairs all nodes count alive x y hop refl) in
    linked_lines laws nodes ls (after_line G (lines.Sent x y r)) (carried_over pairs hop r) (carried_over-length pairs hop r ∙ count) living alive plain.1
    (subst (LinksFollow G.enclave (at_pair x.0 y.0 (with_sent r) G.channel)) (sym goes)
    (over laws G.enclave G.channel pairs all nodes count living x y (with_sent r) link hop refl (λ dead k. link_sent laws.wire laws.links dead (G.channel x.0 y.0) (link_of pairs hop) r k)))
linked_lines laws nodes (lines.Got x y ∷ ls) G pairs count living alive plain all = linked_lines laws nodes ls (after_line G (lines.Got x y)) pairs count living alive plain.1 (got_linked laws G.enclave G.channel pairs all x.0 y.0)
linked_lines laws nodes (lines.Admitted e ∷ ls) G pairs count living alive plain all =
    linked_lines laws nodes ls (after_line G (lines.Admitted e)) pairs count (λ d. living d ∙ sym (admitted_lives G.enclave e.0 d)) (λ d born. admitted_lives G.enclave e.0 d ∙ alive d born) plain.1 (admitted_linked laws G.enclave G.channel pairs all e.0)
linked_lines laws nodes (lines.Do command ∷ ls) G pairs count living alive plain all = absurd plain.0
linked_lines laws nodes (lines.Born child kind parent ns blocks ∷ ls) G pairs count living alive plain all = absurd plain.0
linked_lines laws nodes (lines.Proc e p uid gid ∷ ls) G pairs count living alive plain all = absurd plain.0
linked_lines laws nodes (lines.Took x y n ∷ ls) G pairs count living alive plain all = absurd plain.0
linked_lines laws nodes (line ∷ ls) G pairs count living alive plain all = linked_lines laws nodes ls (after_line G line) pairs count living alive plain.1 all

-- ---- decoders

-- what the decoder at the end of a channel has
abbrev pub feed_by : ChannelFact → Decoding
feed_by f = feed_from f.sent f.taken

-- no more bytes were taken than were sent
abbrev pub TakenWithin : (ℕ → ℕ → ChannelFact) → Type 0
TakenWithin channels = (a b : ℕ) → (channels a b).taken ≤ length (spellings_of (channels a b).sent)

sent_within : (x y : ℕ) (r : Record) (channels : ℕ → ℕ → ChannelFact) → TakenWithin channels → TakenWithin (at_pair x y (with_sent r) channels)
sent_within x y r channels all a b = by (eqb a x && eqb b y) (channels a b) (all a b)
  where
    by : (t : Bool) (f : ChannelFact) → f.taken ≤ length (spellings_of f.sent) → (cond t (with_sent r f) f).taken ≤ length (spellings_of (cond t (with_sent r f) f).sent)
    by true f fits = let size = spellings-length f.sent (r ∷ []) in omega (arith, size, fits)
    by false f fits = fits

sent_feed : WireLaws → (x y : ℕ) (r : Record) (channels : ℕ → ℕ → ChannelFact) → TakenWithin channels → (a b : ℕ) → feed_by (at_pair x y (with_sent r) channels a b) ≡ feed_by (channels a b)
sent_feed wire x y r channels all a b = by (eqb a x && eqb b y) (channels a b) (all a b)
  where
    by : (t : Bool) (f : ChannelFact) → f.taken ≤ length (spellings_of f.sent) → feed_by (cond t (with_sent r f) f) ≡ feed_by f
    by true f fits = feed_sent wire f.sent f.taken r fits
    by false f fits = refl

got_within : (x y : ℕ) (channels : ℕ → ℕ → ChannelFact) → TakenWithin channels → TakenWithin (at_pair x y with_got channels)
got_within x y channels all a b = by (eqb a x && eqb b y) (channels a b) (all a b)
  where
    by : (t : Bool) (f : ChannelFact) → f.taken ≤ length (spellings_of f.sent) → (cond t (with_got f) f).taken ≤ length (spellings_of (cond t (with_got f) f).sent)
    by true f fits = fits
    by false f fits = fits

got_feed : (x y : ℕ) (channels : ℕ → ℕ → ChannelFact) (a b : ℕ) → feed_by (at_pair x y with_got channels a b) ≡ feed_by (channels a b)
got_feed x y channels a b = by (eqb a x && eqb b y) (channels a b)
  where
    by : (t : Bool) (f : ChannelFact) → feed_by (cond t (with_got f) f) ≡ feed_by f
    by true f = refl
    by false f = refl

-- uncounted lines leave what each decoder has
pub fed_lines : WireLaws → (ls : List Line) (G : Facts) → AreUncounted ls → TakenWithin G.channel → (a b : ℕ) → feed_by ((after_lines G ls).channel a b) ≡ feed_by (G.channel a b)
fed_lines wire [] G plain all a b = refl
fed_lines wire (lines.Sent x y r ∷ ls) G plain all a b = fed_lines wire ls (after_line G (lines.Sent x y r)) plain.1 (sent_within x.0 y.0 r G.channel all) a b ∙ sent_feed wire x.0 y.0 r G.channel all a b
fed_lines wire (lines.Got x y ∷ ls) G plain all a b = fed_lines wire ls (after_line G (lines.Got x y)) plain.1 (got_within x.0 y.0 G.channel all) a b ∙ got_feed x.0 y.0 G.channel a b
fed_lines wire (lines.Do command ∷ ls) G plain all a b = absurd plain.0
fed_lines wire (lines.Took x y n ∷ ls) G plain all a b = absurd plain.0
fed_lines wire (line ∷ ls) G plain all a b = fed_lines wire ls (after_line G line) plain.1 all a b

-- ---- numbers

-- uncounted lines leave what is counted, and who lives
pub record CountsStay (G H : Facts) : Type 0 where
  pub pool : H.pool ≡ G.pool
  pub born : H.born ≡ G.born
  pub starts : H.starts ≡ G.starts
  pub server : H.server ≡ G.server
  pub holder : H.holder ≡ G.holder
  pub living : (e : ℕ) → lives_at H e ≡ lives_at G e

pub counted_lines : (ls : List Line) (G : Facts) → AreUncounted ls → CountsStay G (after_lines G ls)
counted_lines [] G plain = record { pool = refl; born = refl; starts = refl; server = refl; holder = refl; living = λ e. refl }
counted_lines (lines.Do command ∷ ls) G plain = absurd plain.0
counted_lines (lines.Born child kind parent ns blocks ∷ ls) G plain = absurd plain.0
counted_lines (lines.Proc e p uid gid ∷ ls) G plain = absurd plain.0
counted_lines (lines.Admitted e ∷ ls) G plain =
    let more = counted_lines ls (after_line G (lines.Admitted e)) plain.1 in
    record { pool = more.pool; born = more.born; starts = more.starts; server = more.server; holder = more.holder; living = λ d. more.living d ∙ admitted_lives G.enclave e.0 d }
counted_lines (line ∷ ls) G plain =
    let more = counted_lines ls (after_line G line) plain.1 in
    record { pool = more.pool; born = more.born; starts = more.starts; server = more.server; holder = more.holder; living = more.living }

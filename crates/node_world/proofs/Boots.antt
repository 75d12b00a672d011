-- A child is born as by the facts.
use Rattle.std.proofs.Common.{◌≡◌, ◌≢◌, ◌+◌, ◌<◌, ◌≤◌, ℕ, zero, suc, List, [], ◌∷◌, ◌++◌, length, take, Bool, true, false, cond, eqb, ltb, leb, not, ◌&&◌, ◌||◌, Option, None, Some, refl, sym, ap, ◌∙◌, subst, inl, inr, arith, length-append}
use Rattle.std.specs.Prelude.{◌⊎◌, if◌then◌else◌, slice_set, is_some}
use Rattle.std.proofs.lemmas.Bool.{le-ltb, eq-eqb, eqb-false, eqb-true, ne_eqb, cases_lt, and_parts, false_from_ne_true}
use Rattle.std.proofs.lemmas.List.{length-set, get_or_past}
use Rattle.std.specs.Cmp.{unsigned_tied}
use Rattle.std.specs.Ordering.{is_eq, nat_cmp}
use Rattle.xm_num.specs.declared.Enclave.{Enclave}
use Rattle.xm_num.specs.declared.Block.{Block}
use Rattle.xm_num.specs.declared.Kind.{Kind}
use Rattle.xm_num.specs.declared.Cause.{Cause}
use Rattle.xm_num.specs.declared.Cause.TheVariants as causes
use Rattle.xm_num.specs.Rows.{at}
use Rattle.byte_link.specs.Channel.{fresh}
use Rattle.xemem_wire.specs.Decoding.{Decoding, nothing_taken}
use Rattle.xemem_language.specs.declared.command.Command.{Command}
use Rattle.xemem_language.specs.declared.command.Command.TheVariants as commands
use Rattle.xemem_language.specs.declared.line.Line.{Line}
use Rattle.xemem_language.specs.declared.line.Line.TheVariants as lines
use Rattle.global_model.specs.Facts.{Facts, EnclaveFact, no_channel, has_parent, after_line, after_lines, fact_of, lives_at}
use Rattle.global_model.specs.Channels.{is_child_of}
use Rattle.global_model.specs.Flow.{IsFlowing}
use Rattle.frame_pool.specs.Blocks.{free_blocks}
use Rattle.enclave_rules.specs.Core.{host, is_guest, with_child, as_born}
use Rattle.enclave_rules.specs.Hand.{Nothing}
use Rattle.enclave_rules.specs.Host.{with_birth}
use Rattle.enclave_rules.specs.Sending.{knows_way}
use Rattle.enclave_rules.specs.View.{View, own_line, own_lines, unborn_view, AreAbout}
use Rattle.global_model.specs.Views.{view_of, seen_line, seen_lines}
use Rattle.enclave_rules.specs.Steps.{refusal, query_of, told_lines, child_lines, birth_lines, adopt_lines}
use Rattle.global_model.specs.Due.{command_lines}
use Rattle.enclave_node.specs.Nodes.{NodeView, unborn_node, wrote, new_node, lent, adopted}
use Rattle.node_machine.specs.declared.pair.Pair.{Pair}
use Rattle.node_machine.specs.Machine.{MachineView, has_node, no_pair, node_at, pair_at, at_node, lines_by, acted, holder_after, next_born, free_of, is_short, booted_lines, booted_nodes, with_carried, after_command}
use Rattle.node_machine.specs.Machine.{enclave_numbered}
use Rattle.node_world.specs.Shown.{IsNodeOf, IsShown}
use Rattle.node_world.proofs.Lists.{cond_case, has-before, has-last, has-set, node_within, push_case, set_case, set_field}
use Rattle.node_world.specs.Links.{IsLinkOf}
use Rattle.node_world.proofs.Flows.{fresh_link}
use Rattle.node_world.proofs.Carriage.{IsLinked, LinksFollow, AreUncounted, uncounted_append, feed_by, counted_lines}
use Rattle.node_world.proofs.Acted.{IsActed, HasFeed, IsFedPair, shown_by, linked_of, within_of, fed_of}
use Rattle.node_world.proofs.Stills.{IsStep, IsTied, AreStill, tied_still, at_is}
use Rattle.node_world.proofs.Births.{at_nil}

-- ---- the lines of a birth after the first

about_append : (holder e : Enclave) (ls ms : List Line) → AreAbout holder e ls → AreAbout holder e ms → AreAbout holder e (ls ++ ms)
about_append holder e [] ms first more = more
about_append holder e (line ∷ ls) ms first more = (first.0, about_append holder e ls ms first.1 more)

about_told : (holder child : Enclave) (heard : List Enclave) → AreAbout holder child (told_lines child heard)
about_told holder child [] = tt
about_told holder child (dead ∷ heard) = (refl, about_told holder child heard)

about_child : (holder child parent : Enclave) (ns : Bool) → AreAbout holder child (child_lines child parent ns)
about_child holder child parent true = (refl, tt)
about_child holder child parent false = (tt, tt)

uncounted_told : (child : Enclave) (heard : List Enclave) → AreUncounted (told_lines child heard)
uncounted_told child [] = tt
uncounted_told child (dead ∷ heard) = (tt, uncounted_told child heard)

uncounted_child : (child parent : Enclave) (ns : Bool) → AreUncounted (child_lines child parent ns)
uncounted_child child parent true = (tt, tt)
uncounted_child child parent false = (tt, tt)

own_append : (v : View) (ls ms : List Line) → own_lines Nothing v (ls ++ ms) ≡ own_lines Nothing (own_lines Nothing v ls) ms
own_append v [] ms = refl
own_append v (line ∷ ls) ms = own_append (own_line Nothing v line) ls ms

-- a query changes no view
own_adopt : (v w : View) (child : Enclave) → own_lines Nothing w (adopt_lines v child) ≡ w
own_adopt v w child = by (knows_way v)
  where
    by : (b : Bool) → own_lines Nothing w (cond b [] (lines.Sent v.me child (query_of v.me) ∷ [])) ≡ w
    by true = refl
    by false = refl

-- the view of a child that isn't the host, as it is born
abbrev as_child : Kind → Enclave → Bool → List Block → View → View
as_child kind parent ns blocks v = record v { core = as_born kind parent ns blocks v.core }

-- the enclave has a child more; the host lent blocks, and recorded the parent
abbrev with_kin : Enclave → Kind → View → View
with_kin child kind v = record v { core = with_child child kind v.core }

abbrev with_record : Enclave → Enclave → List Block → View → View
with_record child parent blocks v = record v { host = with_birth child parent blocks v.host }

self_born : (G : Facts) (child : Enclave) (kind : Kind) (parent : Enclave) (blocks : List Block) (ns : Bool) → child.0 ≢ 0
    → seen_line G (unborn_view 0 child) (lines.Born child kind parent ns blocks) ≡ as_child kind parent ns blocks (unborn_view 0 child)
self_born G child kind parent blocks ns far = let mine = eq-eqb child.0 child.0 refl in let apart = ne_eqb child.0 0 far in rw (mine, apart) refl

own_born : (child : Enclave) (kind : Kind) (parent : Enclave) (blocks : List Block) (ns : Bool) → child.0 ≢ 0
    → own_line Nothing (unborn_view 0 child) (lines.Born child kind parent ns blocks) ≡ as_child kind parent ns blocks (unborn_view 0 child)
own_born child kind parent blocks ns far = let mine = eq-eqb child.0 child.0 refl in let apart = ne_eqb child.0 0 far in rw (mine, apart) refl

-- what another enclave has of it: the parent a child, the host a record
abbrev after_birth : Enclave → Kind → Enclave → List Block → Bool → Bool → View → View
after_birth child kind parent blocks mine first v =
    let one = if mine then with_kin child kind v else v in
    if first then with_record child parent blocks one else one

birth_me : (child : Enclave) (kind : Kind) (parent : Enclave) (blocks : List Block) (mine first : Bool) (v : View) → (after_birth child kind parent blocks mine first v).me ≡ v.me
birth_me child kind parent blocks true true v = refl
birth_me child kind parent blocks true false v = refl
birth_me child kind parent blocks false true v = refl
birth_me child kind parent blocks false false v = refl

other_born : (G : Facts) (child : Enclave) (kind : Kind) (parent : Enclave) (blocks : List Block) (ns : Bool) (v : View) → v.me.0 ≢ child.0
    → seen_line G v (lines.Born child kind parent ns blocks) ≡ after_birth child kind parent blocks (eqb parent.0 v.me.0) (eqb v.me.0 0) v
other_born G child kind parent blocks ns v far = let apart = ne_eqb child.0 v.me.0 (λ same. far (sym same)) in rw apart (by (eqb parent.0 v.me.0) (eqb v.me.0 0))
  where
    by : (mine first : Bool)
        → cond (mine || first) (record v { core = cond mine (with_child child kind v.core) v.core; host = cond first (with_birth child parent blocks v.host) v.host }) v
        ≡ after_birth child kind parent blocks mine first v
    by true true = refl
    by true false = refl
    by false true = refl
    by false false = refl

-- ---- rows of one decoder

pub at_one : {V : Type 0} (k : ℕ) (v : V) → at ((k, v) ∷ []) k ≡ Some v
unfolding at
at_one k v = let test : is_eq (nat_cmp k k) ≡ true = unsigned_tied k k ∙ eq-eqb k k refl in ap (λ b. cond b (Some v) None) test

at_other : {V : Type 0} (j : ℕ) (v : V) (k : ℕ) → k ≢ j → at ((j, v) ∷ []) k ≡ None
unfolding at
at_other j v k far = let test : is_eq (nat_cmp k j) ≡ false = unsigned_tied k j ∙ ne_eqb k j far in ap (λ b. cond b (Some v) None) test

-- ---- who is no neighbour

no_parent : (p : ℕ) (fact : Option EnclaveFact) → is_some fact ≡ false → has_parent p fact ≡ false
no_parent p None none = refl
no_parent p (Some fact) none = cc

none_and : (b : Bool) → (b && false) ≡ false
none_and true = refl
none_and false = refl

nonzero : (k : ℕ) → not (eqb k 0) ≡ true → k ≢ 0
nonzero zero is = let no : false ≡ true = is in cc
nonzero (suc k) is = λ none. absurd (omega (arith, none))

module _ (G : Facts) (flowing : IsFlowing G) (e p : ℕ) (later : G.born ≤ e) (lives : p < G.born) where
  unborn_child : is_child_of G e p ≡ false
  unborn_child =
      let none = no_parent p (G.enclave e) ((flowing.tree.enclaves e).known ∙ le-ltb e G.born later) in
      ap (λ b. not (eqb e 0) && b) none ∙ none_and (not (eqb e 0))

  born_child : is_child_of G p e ≡ false
  born_child = false_from_ne_true (is_child_of G p e) (λ is.
      let both = and_parts (not (eqb p 0)) (has_parent e (G.enclave p)) is in
      let some = nonzero p both.0 in
      let above = (flowing.tree.enclaves p).above e both.1 (omega (arith, some)) in
      omega (arith, above, later, lives))

  -- nothing was sent between an enclave and one that wasn't born
  silent : (G.channel e p ≡ no_channel) × (G.channel p e ≡ no_channel)
  silent =
      (flowing.apart e p (rw (unborn_child, born_child) refl), flowing.apart p e (rw (unborn_child, born_child) refl))

-- ---- a birth

module _ (G H : Facts) (m : MachineView) (kind : Kind) (parent : Enclave) (blocks : ℕ) (ns : Bool) (step : IsStep G H (commands.Boot kind parent blocks ns)) (h : IsShown G m) (plain_kind : is_guest kind ≡ false) (alive : lives_at G parent.0 ≡ true) (lives : parent.0 < G.born) where
  abbrev child : Enclave
  child = next_born m

  abbrev node : NodeView
  node = node_at m.nodes parent.0

  abbrev first : NodeView
  first = node_at m.nodes 0

  abbrev lending : List Block
  lending = take blocks (free_of m)

  abbrev birth : Line
  birth = lines.Born child kind parent ns lending

  -- the lines after it
  abbrev own : List Line
  own = told_lines child node.view.core.heard ++ child_lines child parent ns

  abbrev ls : List Line
  ls = own ++ adopt_lines node.view child

  abbrev B : Facts
  B = after_line G (lines.Do (commands.Boot kind parent blocks ns))

  abbrev K : Facts
  K = after_line B birth

  about : (holder : Enclave) → AreAbout holder child ls
  about holder = about_append holder child own (adopt_lines node.view child) (about_append holder child (told_lines child node.view.core.heard) (child_lines child parent ns) (about_told holder child node.view.core.heard) (about_child holder child parent ns))
      (cond_case (knows_way node.view) [] (lines.Sent node.view.me child (query_of node.view.me) ∷ []) (AreAbout holder child) tt (tt, tt))

  plain : AreUncounted ls
  plain = uncounted_append own (adopt_lines node.view child) (uncounted_append (told_lines child node.view.core.heard) (child_lines child parent ns) (uncounted_told child node.view.core.heard) (uncounted_child child parent ns))
      (cond_case (knows_way node.view) [] (lines.Sent node.view.me child (query_of node.view.me) ∷ []) AreUncounted tt (tt, tt))

  -- the host, the parent and the child then
  abbrev host_node : NodeView
  host_node = lent first child parent lending

  abbrev lent_nodes : List NodeView
  lent_nodes = slice_set m.nodes 0 host_node

  abbrev taking : NodeView → NodeView
  taking base = wrote Nothing (adopted base child kind) (adopt_lines node.view child)

  abbrev base : NodeView
  base = node_at lent_nodes parent.0

  abbrev child_node : NodeView
  child_node = new_node child kind parent lending ns node.view.core.heard

  abbrev nodes : List NodeView
  nodes = booted_nodes m kind parent blocks ns

  abbrev new_pair : Pair
  new_pair = record { parent = parent; up = fresh; down = fresh }

  abbrev w : MachineView
  w = record m { server = m.server || ns; holder = holder_after m child ns; nodes = nodes; pairs = m.pairs ++ new_pair ∷ [] }

  inside : parent.0 < length m.nodes
  inside = let born = h.born in omega (arith, born, lives)

  some : 0 < length m.nodes
  some = let within = inside in omega (arith, within)

  size : length nodes ≡ length m.nodes + 1
  size =
      let one = length-append (slice_set lent_nodes parent.0 (taking base)) (child_node ∷ []) in
      let two = length-set lent_nodes parent.0 (taking base) in
      let three = length-set m.nodes 0 host_node in
      omega (arith, one, two, three)

  -- what holds of the parent, of a host that isn't the parent, of the other nodes and of the child
  place : (P : NodeView → Type 0) (e : ℕ) → e < length nodes → (e ≡ parent.0 → P (taking base)) → (e ≢ parent.0 → e ≡ 0 → P host_node) → (e ≢ parent.0 → e ≢ 0 → e < length m.nodes → P (node_at m.nodes e))
      → (e ≡ length m.nodes → P child_node) → P (node_at nodes e)
  place P e within mine hosts others last =
      let two = length-set lent_nodes parent.0 (taking base) in
      let three = length-set m.nodes 0 host_node in
      push_case (slice_set lent_nodes parent.0 (taking base)) e child_node (unborn_node 0 host []) P within
      (λ lt. set_case lent_nodes parent.0 e (taking base) (unborn_node 0 host []) P (let here = inside in omega (arith, three, here)) mine
      (λ apart. set_case m.nodes 0 e host_node (unborn_node 0 host []) P some (hosts apart) (λ far. others apart far (omega (arith, two, three, lt)))))
      (λ is. last (is ∙ two ∙ three))

  -- who lives then: the child, and who lived before
  before : (e : ℕ) → e ≢ length m.nodes → lives_at K e ≡ lives_at G e
  before e other = let apart = ne_eqb e (length m.nodes) other in rw apart refl

  born_lives : lives_at K (length m.nodes) ≡ true
  born_lives = let mine = eq-eqb (length m.nodes) (length m.nodes) refl in rw mine refl

  living_then : (e : ℕ) → has_node nodes e ≡ lives_at K e
  living_then e = by (eqb e (length m.nodes)) refl
    where
      old : List NodeView
      old = slice_set lent_nodes parent.0 (taking base)

      long : length old ≡ length m.nodes
      long = length-set lent_nodes parent.0 (taking base) ∙ length-set m.nodes 0 host_node

      by : (b : Bool) → eqb e (length m.nodes) ≡ b → has_node (old ++ child_node ∷ []) e ≡ lives_at K e
      by true is =
          let last : e ≡ length m.nodes = eqb-true e (length m.nodes) is in
          ap (has_node (old ++ child_node ∷ [])) (last ∙ sym long) ∙ has-last old child_node ∙ sym (ap (lives_at K) last ∙ born_lives)
      by false is =
          let other = eqb-false e (length m.nodes) is in
          has-before old child_node e (λ last. other (last ∙ long)) ∙ has-set lent_nodes parent.0 e (taking base) ∙ has-set m.nodes 0 e host_node ∙ h.living e ∙ sym (before e other)

  module _ (is : command_lines G (commands.Boot kind parent blocks ns) ≡ booted_lines m kind parent blocks ns) (living : (e : ℕ) → lives_at H e ≡ lives_at K e) where
    seen : (e : ℕ) → lives_at K e ≡ true → view_of H (enclave_numbered e) ≡ seen_lines B (view_of G (enclave_numbered e)) (birth ∷ ls)
    seen e there = step.views e (living e ∙ there) ∙ ap (seen_lines B (view_of G (enclave_numbered e))) is

    -- what an enclave sees that was born before
    seen_then : (e : ℕ) → e < length m.nodes → lives_at G e ≡ true → view_of H (enclave_numbered e) ≡ after_birth child kind parent lending (eqb parent.0 e) (eqb e 0) (view_of G (enclave_numbered e))
    seen_then e within there =
        let count = h.born in
        let v = view_of G (enclave_numbered e) in
        let u = after_birth child kind parent lending (eqb parent.0 e) (eqb e 0) v in
        let me : u.me.0 ≡ e = ap (λ (e : Enclave). e.0) (birth_me child kind parent lending (eqb parent.0 e) (eqb e 0) v) in
        seen e (before e (λ same. omega (arith, same, within)) ∙ there) ∙ ap (λ v. seen_lines K v ls) (other_born B child kind parent lending ns v (λ same. omega (arith, same, within)))
        ∙ step.laws.views.others K child u ls (about K.holder) (λ same. omega (arith, same, me, within))

    parent_then : IsNodeOf H parent.0 (taking base)
    parent_then =
        let old = h.nodes parent.0 alive in
        let mine = eq-eqb parent.0 parent.0 refl in
        set_case m.nodes 0 parent.0 host_node (unborn_node 0 host []) (λ base. IsNodeOf H parent.0 (taking base)) some
        (λ is_first.
        let test = eq-eqb parent.0 0 is_first in
        let view : view_of H parent ≡ with_record child parent lending (with_kin child kind (view_of G parent)) = seen_then parent.0 inside alive ∙ rw (mine, test) refl in
        let same : first.view ≡ view_of G parent = ap (λ e. (node_at m.nodes e).view) (sym is_first) ∙ old.view in
        record {
          view = own_adopt node.view (with_kin child kind (with_record child parent lending first.view)) child ∙ ap (λ v. with_record child parent lending (with_kin child kind v)) same ∙ sym view;
          going = ap (λ e. (node_at m.nodes e).failed) (sym is_first) ∙ old.going;
        })
        (λ far.
        let test = ne_eqb parent.0 0 far in
        let view : view_of H parent ≡ with_kin child kind (view_of G parent) = seen_then parent.0 inside alive ∙ rw (mine, test) refl in
        record { view = own_adopt node.view (with_kin child kind node.view) child ∙ ap (with_kin child kind) old.view ∙ sym view; going = old.going })

    host_then : 0 ≢ parent.0 → IsNodeOf H 0 host_node
    host_then far =
        let count = h.born in let within = some in
        let there = step.before.tree.root (omega (arith, count, within)) in
        let old = h.nodes 0 there in
        let test = ne_eqb parent.0 0 (λ same. far (sym same)) in
        let view : view_of H host ≡ with_record child parent lending (view_of G host) = seen_then 0 some there ∙ rw test refl in
        record { view = ap (with_record child parent lending) old.view ∙ sym view; going = old.going }

    other_then : (e : ℕ) → lives_at G e ≡ true → e ≢ parent.0 → e ≢ 0 → e < length m.nodes → IsNodeOf H e (node_at m.nodes e)
    other_then e there apart far within =
        let old = h.nodes e there in
        let not_parent = ne_eqb parent.0 e (λ same. apart (sym same)) in
        let not_first = ne_eqb e 0 far in
        let view : view_of H (enclave_numbered e) ≡ view_of G (enclave_numbered e) = seen_then e within there ∙ rw (not_parent, not_first) refl in
        record { view = old.view ∙ sym view; going = old.going }

    child_then : IsNodeOf H (length m.nodes) child_node
    child_then =
        let count = h.born in let within = some in
        let e = length m.nodes in
        let apart : eqb e 0 ≡ false = ne_eqb e 0 (λ same. omega (arith, same, within)) in
        let mine : eqb e e ≡ true = eq-eqb e e refl in
        let far : e ≢ 0 = λ same. omega (arith, same, within) in
        let u = as_child kind parent ns lending (unborn_view 0 child) in
        let unborn : view_of G child ≡ unborn_view 0 child = step.unborn child (omega (arith, count)) ∙ rw apart refl in
        let view : view_of H child ≡ own_lines Nothing u own =
        seen e born_lives ∙ ap (λ v. seen_lines B v (birth ∷ ls)) unborn ∙ ap (λ v. seen_lines K v ls) (self_born B child kind parent lending ns far)
        ∙ step.laws.views.own K u ls plain_kind (about K.holder) ∙ own_append u own (adopt_lines node.view child) ∙ own_adopt node.view (own_lines Nothing u own) child in
        record { view = ap (λ v. own_lines Nothing v own) (own_born child kind parent lending ns far) ∙ sym view; going = refl }

    node_then : (e : ℕ) → lives_at K e ≡ true → IsNodeOf H e (node_at nodes e)
    node_then e there =
        place (IsNodeOf H e) e (node_within nodes e (living_then e ∙ there)) (λ mine. subst (λ k. IsNodeOf H k (taking base)) (sym mine) parent_then)
        (λ apart is_first. subst (λ k. IsNodeOf H k host_node) (sym is_first) (host_then (λ same. apart (is_first ∙ same)))) (λ apart far lt. other_then e (sym (before e (λ same. omega (arith, same, lt))) ∙ there) apart far lt)
        (λ last. subst (λ k. IsNodeOf H k child_node) (sym last) child_then)

  -- ---- channels

  old_linked : (i : ℕ) → i < length m.pairs → IsLinked K.enclave K.channel i (pair_at m.pairs i)
  old_linked i within =
      let count = h.born in let pairs = h.pairs in
      let k = linked_of G m step.before h i within in
      let other : eqb (i + 1) child.0 ≡ false = ne_eqb (i + 1) child.0 (λ same. omega (arith, same, count, pairs, within)) in
      let same : (fact_of (K.enclave (i + 1))).parent ≡ (fact_of (G.enclave (i + 1))).parent = rw other refl in
      let above = k.above in
      let p = (pair_at m.pairs i).parent.0 in
      let above_same : lives_at K p ≡ lives_at G p = before p (λ is. omega (arith, is, above, count, pairs, within)) in
      let below_same : lives_at K (i + 1) ≡ lives_at G (i + 1) = before (i + 1) (λ is. omega (arith, is, count, pairs, within)) in
      record {
        parent = k.parent ∙ sym same;
        above = above;
        up = λ there. subst (λ dead. IsLinkOf dead (G.channel (i + 1) p) (pair_at m.pairs i).up) (sym (ap not below_same)) (k.up (sym above_same ∙ there));
        down = λ there. subst (λ dead. IsLinkOf dead (G.channel p (i + 1)) (pair_at m.pairs i).down) (sym (ap not above_same)) (k.down (sym below_same ∙ there));
      }

  new_linked : (i : ℕ) → i ≡ length m.pairs → IsLinked K.enclave K.channel i new_pair
  new_linked i last =
      let count = h.born in let pairs = h.pairs in
      let next : i + 1 ≡ length m.nodes = omega (arith, count, pairs, last, lives) in
      let is : eqb (i + 1) child.0 ≡ true = eq-eqb (i + 1) child.0 (omega (arith, count, pairs, last, lives)) in
      let quiet = silent G step.before (i + 1) parent.0 (omega (arith, pairs, last)) lives in
      record {
        parent = rw is refl;
        above = omega (arith, count, pairs, last, lives);
        up = λ there. subst (λ dead. IsLinkOf dead (G.channel (i + 1) parent.0) fresh) (sym (ap not (ap (lives_at K) next ∙ born_lives))) (subst (λ f. IsLinkOf false f fresh) (sym quiet.0) fresh_link);
        down = λ there. subst (λ dead. IsLinkOf dead (G.channel parent.0 (i + 1)) fresh) (sym (ap not (before parent.0 (λ same. omega (arith, same, count, lives)) ∙ alive))) (subst (λ f. IsLinkOf false f fresh) (sym quiet.1) fresh_link);
      }

  linked_then : LinksFollow K.enclave K.channel w.pairs
  linked_then i within = push_case m.pairs i new_pair no_pair (IsLinked K.enclave K.channel i) within (old_linked i) (new_linked i)

  -- ---- decoders

  -- the parent's decoders for the other channels are as before
  base_feed : base.feeds ≡ node.feeds
  base_feed = set_field (λ (n : NodeView). n.feeds) m.nodes 0 parent.0 host_node (unborn_node 0 host []) refl

  parent_feed : (a : ℕ) → a ≢ child.0 → at (taking base).feeds a ≡ at node.feeds a
  parent_feed a far =
      step.laws.put base.feeds child.0 a nothing_taken ∙ ap (λ b. cond b (Some nothing_taken) (at base.feeds a)) (ne_eqb child.0 a (λ same. far (sym same))) ∙ ap (λ (rows : List (ℕ × Decoding)). at rows a) base_feed

  old_feed : (a b : ℕ) → a ≢ child.0 → b < length m.nodes → HasFeed G.channel m.nodes a b → HasFeed K.channel nodes a b
  old_feed a b far within old = place (λ n. at n.feeds a ≡ Some (feed_by (K.channel a b))) b (let long = size in omega (arith, long, within))
      (λ mine. parent_feed a far ∙ ap (λ e. at (node_at m.nodes e).feeds a) (sym mine) ∙ old) (λ apart is_first. ap (λ e. at (node_at m.nodes e).feeds a) (sym is_first) ∙ old)
      (λ apart not_first lt. old) (λ last. absurd (omega (arith, last, within)))

  old_pair : (i : ℕ) → i < length m.pairs → IsFedPair K nodes i (pair_at m.pairs i)
  old_pair i within =
      let count = h.born in let pairs = h.pairs in
      let k = fed_of G m step.before h i within in
      let above = (linked_of G m step.before h i within).above in
      let p = (pair_at m.pairs i).parent.0 in
      record {
        up = λ there. old_feed (i + 1) p (λ same. omega (arith, same, count, pairs, within)) (omega (arith, count, pairs, within, above))
            (k.up (sym (before p (λ same. omega (arith, same, count, pairs, within, above))) ∙ there));
        down = λ there. old_feed p (i + 1) (λ same. omega (arith, same, count, pairs, within, above)) (omega (arith, count, pairs, within))
            (k.down (sym (before (i + 1) (λ same. omega (arith, same, count, pairs, within))) ∙ there));
      }

  fresh_pair : (i : ℕ) → i ≡ length m.pairs → IsFedPair K nodes i new_pair
  fresh_pair i last =
      let count = h.born in let pairs = h.pairs in let within = inside in let long = size in
      let next : i + 1 ≡ length m.nodes = omega (arith, count, pairs, last, lives) in
      let quiet = silent G step.before (i + 1) parent.0 (omega (arith, pairs, last)) lives in
      let mine : eqb child.0 (i + 1) ≡ true = eq-eqb child.0 (i + 1) (sym next) in
      let up : at (taking base).feeds (i + 1) ≡ Some nothing_taken = step.laws.put base.feeds child.0 (i + 1) nothing_taken ∙ ap (λ b. cond b (Some nothing_taken) (at base.feeds (i + 1))) mine in
      record {
        up = λ there. place (λ n. at n.feeds (i + 1) ≡ Some (feed_by (K.channel (i + 1) parent.0))) parent.0 (omega (arith, long, within)) (λ same. up ∙ ap (λ f. Some (feed_by f)) (sym quiet.0)) (λ apart is_first. absurd (apart refl))
            (λ apart far lt. absurd (apart refl)) (λ none. absurd (omega (arith, none, within)));
        down = λ there. place (λ n. at n.feeds parent.0 ≡ Some (feed_by (K.channel parent.0 (i + 1)))) (i + 1) (omega (arith, long, next)) (λ none. absurd (omega (arith, none, next, within)))
            (λ apart none. absurd (omega (arith, none))) (λ apart far lt. absurd (omega (arith, lt, next))) (λ is. at_one parent.0 nothing_taken ∙ ap (λ f. Some (feed_by f)) (sym quiet.1));
      }

  fed_then : (i : ℕ) → i < length w.pairs → IsFedPair K nodes i (pair_at w.pairs i)
  fed_then i within = push_case m.pairs i new_pair no_pair (IsFedPair K nodes i) within (old_pair i) (fresh_pair i)

  stranger_then : (e c : ℕ) → K.born ≤ c → at (node_at nodes e).feeds c ≡ None
  stranger_then e c far = by (cases_lt e (length nodes))
    where
      count : length m.nodes ≡ G.born
      count = h.born

      by : (e < length nodes) ⊎ (length nodes ≤ e) → at (node_at nodes e).feeds c ≡ None
      by (inl within) = place (λ n. at n.feeds c ≡ None) e within
          (λ mine. parent_feed c (λ same. omega (arith, same, far, count)) ∙ h.strangers parent.0 c (omega (arith, far)))
          (λ apart is_first. h.strangers 0 c (omega (arith, far)))
          (λ apart not_first lt. h.strangers e c (omega (arith, far)))
          (λ last. at_other parent.0 nothing_taken c (λ none. omega (arith, none, far, lives)))
      by (inr past) = ap (λ (n : NodeView). at n.feeds c) (get_or_past nodes e (unborn_node 0 host []) past) ∙ at_nil c

  booted_acted : command_lines G (commands.Boot kind parent blocks ns) ≡ booted_lines m kind parent blocks ns → ((e : ℕ) → lives_at H e ≡ lives_at K e) → IsActed K H w
  booted_acted is living =
      let count = length-append m.pairs (new_pair ∷ []) in let pairs = h.pairs in
      record {
        pool = h.pool;
        server = ap (λ b. b || ns) h.server;
        holder = ap (cond ns child) h.holder;
        starts = h.starts;
        born = size ∙ ap (λ n. n + 1) h.born;
        pairs = omega (arith, count, pairs, lives);
        living = living_then;
        nodes = node_then is living;
        links = linked_then;
        within = within_of G m step.before h;
        feeds = fed_then;
        strangers = stranger_then;
      }

  -- so the boot is tied, where the machine makes this of it
  tied_born : lines_by m (commands.Boot kind parent blocks ns) ≡ command_lines G (commands.Boot kind parent blocks ns) → lines_by m (commands.Boot kind parent blocks ns) ≡ booted_lines m kind parent blocks ns
      → acted m (commands.Boot kind parent blocks ns) ≡ w → IsTied G H (commands.Boot kind parent blocks ns) m
  tied_born tells made machine =
      let is : command_lines G (commands.Boot kind parent blocks ns) ≡ birth ∷ ls = sym tells ∙ made in
      let facts : H ≡ after_lines K ls = step.after ∙ ap (after_lines B) is in
      let living : (e : ℕ) → lives_at H e ≡ lives_at K e = λ e. ap (λ F. lives_at F e) facts ∙ (counted_lines ls K plain).living e in
      let shown = shown_by step.laws K H ls w facts plain step.flowing (booted_acted is living) in
      let end : after_command m (commands.Boot kind parent blocks ns) ≡ with_carried w ls = ap (λ n. with_carried n (lines_by m (commands.Boot kind parent blocks ns))) machine ∙ ap (with_carried w) made in
      (tells, subst (IsShown H) (sym end) shown)

-- ---- any boot

pub tied_boot : (G H : Facts) (m : MachineView) (kind : Kind) (parent : Enclave) (blocks : ℕ) (ns : Bool) → is_guest kind ≡ false → IsStep G H (commands.Boot kind parent blocks ns) → IsShown G m → IsTied G H (commands.Boot kind parent blocks ns) m
tied_boot G H m kind parent blocks ns plain step h = by (lives_at G parent.0) (leb 256 (length m.nodes)) (ns && m.server) (is_short m blocks) refl refl refl refl
  where
    c : Command
    c = commands.Boot kind parent blocks ns

    -- what is written by the views of the host and of the parent, where so many enclaves were born
    written : ℕ → Bool → View → View → List Line
    written n server first v =
        if leb 256 n then refusal causes.TooMany
        else (if ns && server then refusal causes.NameServerTaken
        else (if ltb (length (free_blocks first.host.states)) blocks then refusal causes.NoBlocks
        else birth_lines (enclave_numbered n) kind parent (take blocks (free_blocks first.host.states)) ns v.core.heard ++ adopt_lines v (enclave_numbered n)))

    -- a parent that lives was born
    below : lives_at G parent.0 ≡ true → parent.0 < G.born
    below is = let born = h.born in let within = node_within m.nodes parent.0 (h.living parent.0 ∙ is) in omega (arith, born, within)

    -- the host's view, where the parent lives
    by_host : (b : Bool) → lives_at G parent.0 ≡ b → cond b (written G.born G.server (node_at m.nodes 0).view (view_of G parent)) (refusal causes.NoEnclave) ≡ cond b (written G.born G.server (view_of G host) (view_of G parent)) (refusal causes.NoEnclave)
    by_host true is = let lives = below is in ap (λ v. written G.born G.server v (view_of G parent)) (h.nodes 0 (step.before.tree.root (omega (arith, lives)))).view
    by_host false is = refl

    ls : lines_by m c ≡ command_lines G c
    ls = ap (λ n. at_node m parent (written n m.server (node_at m.nodes 0).view (node_at m.nodes parent.0).view)) h.born
        ∙ ap (λ server. at_node m parent (written G.born server (node_at m.nodes 0).view (node_at m.nodes parent.0).view)) h.server
        ∙ at_is G m h parent (written G.born G.server (node_at m.nodes 0).view) ∙ by_host (lives_at G parent.0) refl ∙ sym (step.answered.boot kind parent blocks ns)

    still : (cause : Cause) → lines_by m c ≡ refusal cause → acted m c ≡ m → IsTied G H c m
    still cause is same = tied_still G H c m step h tt same ls (subst AreStill (sym (sym ls ∙ is)) (tt, tt))

    known : (b : Bool) → lives_at G parent.0 ≡ b → has_node m.nodes parent.0 ≡ b
    known b is = h.living parent.0 ∙ is

    by : (a b s d : Bool) → lives_at G parent.0 ≡ a → leb 256 (length m.nodes) ≡ b → (ns && m.server) ≡ s → is_short m blocks ≡ d → IsTied G H c m
    by false b s d one two three four = let lives = known false one in still causes.NoEnclave (rw lives refl) (rw lives refl)
    by true true s d one two three four = let lives = known true one in still causes.TooMany (rw (lives, two) refl) (rw (lives, two) refl)
    by true false true d one two three four = let lives = known true one in still causes.NameServerTaken (rw (lives, two, three) refl) (rw (lives, two, three) refl)
    by true false false true one two three four = let lives = known true one in still causes.NoBlocks (rw (lives, two, three, four) refl) (rw (lives, two, three, four) refl)
    by true false false false one two three four =
        let lives = known true one in
        tied_born G H m kind parent blocks ns step h plain one (below one) ls (rw (lives, two, three, four) refl) (rw (lives, two, three, four) refl)

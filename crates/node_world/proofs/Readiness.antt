-- A machine that shows facts is one that may take a step.
use Rattle.std.proofs.Common.{◌≡◌, ◌+◌, ◌-◌, ◌<◌, ◌≤◌, ℕ, zero, suc, ◌∷◌, length, map, Bool, true, false, cond, Option, None, Some, refl, sym, ap, ◌∙◌, subst, arith}
use Rattle.std.specs.Prelude.{IsSome, filter}
use Rattle.std.specs.List.{range_with_len}
use Rattle.std.specs.Option.{option_map_or}
use Rattle.std.specs.Cmp.{unsigned_tied}
use Rattle.std.specs.Ordering.{is_eq, nat_cmp}
use Rattle.std.proofs.lemmas.Bool.{ne_eqb}
use Rattle.std.proofs.lemmas.List.{length-map}
use Rattle.std.proofs.lemmas.List.FromFn.{length-range_with_len}
use Rattle.xm_num.specs.declared.Enclave.{Enclave}
use Rattle.xm_num.specs.Rows.{at}
use Rattle.xemem_wire.specs.Decoding.{Decoding, nothing_taken}
use Rattle.global_model.specs.Facts.{Facts, fact_of}
use Rattle.global_model.specs.Channels.{is_child_of}
use Rattle.global_model.specs.Flow.{IsFlowing}
use Rattle.enclave_rules.specs.View.{View}
use Rattle.global_model.specs.Views.{child_row}
use Rattle.enclave_node.specs.Nodes.{NodeView}
use Rattle.byte_link.specs.Channel.{Channel}
use Rattle.node_machine.specs.Links.{IsLinkFlowing}
use Rattle.node_machine.specs.Machine.{MachineView, enclave_numbered, has_node, node_at, pair_at}
use Rattle.node_world.specs.Shown.{IsShown}
use Rattle.node_machine.specs.Ready.{CanTake, IsPairReady, IsReady}
use Rattle.node_world.proofs.Lists.{node_gone}
use Rattle.node_world.proofs.Flows.{flowing_of}
use Rattle.node_world.proofs.Stills.{holder_lives}
use Rattle.node_world.proofs.Births.{at_nil}

-- the rows of children below a number have none at it
below : (G : Facts) (t : ℕ → Bool) (c n a : ℕ) → a + n ≤ c → at (map (child_row G) (filter t (range_with_len a n))) c ≡ None
unfolding at
below G t c zero a most = refl
below G t c (suc n) a most = by (below G t c n (a + 1) (omega (arith, most))) (t a)
  where
    by : at (map (child_row G) (filter t (range_with_len (a + 1) n))) c ≡ None → (b : Bool) → at (map (child_row G) (cond b (a ∷ filter t (range_with_len (a + 1) n)) (filter t (range_with_len (a + 1) n)))) c ≡ None
    by more true = let test : is_eq (nat_cmp c a) ≡ false = unsigned_tied c a ∙ ne_eqb c a (λ same. omega (arith, same, most)) in ap (λ b. cond b (Some (fact_of (G.enclave a)).kind) (at (map (child_row G) (filter t (range_with_len (a + 1) n))) c)) test ∙ more
    by more false = more

can_take : (link : Channel) (node : NodeView) (x : Enclave) (d : Decoding) → at node.feeds x.0 ≡ Some d → IsLinkFlowing link d → CanTake link node x
can_take link node x d is flow = record {
  flows = subst (IsLinkFlowing link) (sym (ap (λ (o : Option Decoding). option_map_or (λ d. d) o nothing_taken) is)) flow;
  open_end = subst IsSome (sym is) refl;
}

module _ (G : Facts) (m : MachineView) (flowing : IsFlowing G) (h : IsShown G m) where
  pair_ready : (i : ℕ) → i < length m.pairs → IsPairReady m (i + 1) (pair_at m.pairs i)
  pair_ready i within =
      let k = h.links i within in
      let p = pair_at m.pairs i in
      record {
        above = k.above;
        parent = λ has. ap (λ (v : View). v.core.parent) (h.nodes (i + 1) (sym (h.living (i + 1)) ∙ has)).view ∙ sym k.parent;
        up = λ has. let up = k.up (sym (h.living p.parent.0) ∙ has) in
            can_take p.up (node_at m.nodes p.parent.0) (enclave_numbered (i + 1)) _ up.feed (flowing_of _ (G.channel (i + 1) p.parent.0) p.up (flowing.flows (i + 1) p.parent.0) up.bytes);
        down = λ has. let down = k.down (sym (h.living (i + 1)) ∙ has) in
            can_take p.down (node_at m.nodes (i + 1)) p.parent _ down.feed (flowing_of _ (G.channel p.parent.0 (i + 1)) p.down (flowing.flows p.parent.0 (i + 1)) down.bytes);
      }

  -- no node has a child that isn't born
  no_child : (e c : ℕ) → length m.nodes ≤ c → at (node_at m.nodes e).view.core.children c ≡ None
  no_child e c far = by (has_node m.nodes e) refl
    where
      born : length m.nodes ≡ G.born
      born = h.born

      by : (b : Bool) → has_node m.nodes e ≡ b → at (node_at m.nodes e).view.core.children c ≡ None
      by true has = ap (λ (v : View). at v.core.children c) (h.nodes e (sym (h.living e) ∙ has)).view ∙ below G (λ c. is_child_of G c e) c G.born 0 (omega (arith, born, far))
      by false gone = ap (λ (n : NodeView). at n.view.core.children c) (node_gone m.nodes e gone) ∙ at_nil c

  pub ready_of : IsReady m
  ready_of =
      let born = h.born in let most = flowing.tree.most in
      let parents : length (map (λ e. (fact_of (G.enclave e)).parent) (range_with_len 0 G.born)) ≡ G.born = length-map (range_with_len 0 G.born) _ ∙ length-range_with_len 0 G.born in
      record {
        most = omega (arith, born, most);
        pairs = h.pairs ∙ ap (λ n. n - 1) (sym h.born);
        root = λ some. h.living 0 ∙ flowing.tree.root (omega (arith, born, some));
        nodes = λ e has. let k = h.nodes e (sym (h.living e) ∙ has) in record { me = ap (λ (v : View). v.me) k.view; going = k.going };
        links = pair_ready;
        seated = λ served. ap (λ (e : Enclave). has_node m.nodes e.0) h.holder ∙ h.living G.holder.0 ∙ holder_lives G flowing (sym h.server ∙ served);
        holds = λ served. ap (λ (e : Enclave). (node_at m.nodes e.0).view.core.holder) h.holder
            ∙ ap (λ (v : View). v.core.holder) (h.nodes G.holder.0 (holder_lives G flowing (sym h.server ∙ served))).view ∙ flowing.server.seated (sym h.server ∙ served);
        recorded = λ some. ap (λ (v : View). length v.host.parents) (h.nodes 0 (flowing.tree.root (omega (arith, born, some)))).view ∙ parents ∙ sym h.born;
        strangers = λ e c far. h.strangers e c (omega (arith, born, far));
        unborn = no_child;
      }

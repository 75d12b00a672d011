-- What comes over a link that flows has no bad field, and the pair that a hop names.
use Rattle.std.proofs.Common.{◌≡◌, ◌+◌, ◌≤◌, ℕ, List, ◌++◌, length, take, drop, true, None, Some, refl, sym, ap, ◌∙◌, subst, append_assoc}
use Rattle.std.proofs.lemmas.Bool.{and_parts}
use Rattle.std.proofs.lemmas.List.{take-append-drop}
use Rattle.xm_num.specs.declared.Enclave.{Enclave}
use Rattle.byte_link.specs.Channel.{Channel, waiting_bytes}
use Rattle.xemem_wire.specs.declared.format.BadField.{BadField}
use Rattle.xemem_wire.specs.Spelling.{spellings_of}
use Rattle.xemem_wire.specs.Stream.{first_bad}
use Rattle.xemem_wire.specs.Decoding.{Decoding, after_piece}
use Rattle.xm_num.specs.declared.Neighbour.{Neighbour}
use Rattle.enclave_node.specs.Nodes.{NodeView, neighbour_number, feed_at, fed}
use Rattle.node_machine.specs.Links.{IsLinkFlowing}
use Rattle.node_machine.specs.declared.pair.Hop.TheVariants as hops
use Rattle.node_machine.specs.Machine.{MachineView, are_known, enclave_numbered, has_node, hop_in, node_at, pair_at}
use Rattle.node_machine.specs.Ready.{CanTake, IsReady}
use Rattle.node_machine.specs.Laws.{MachineLaws}
use Rattle.node_machine.proofs.Hops.{up_is, down_is, is_known}

-- no field of the first n waiting bytes is bad: with what the decoder has they are a front of what comes
pub never_bad : MachineLaws → (link : Channel) (d : Decoding) → IsLinkFlowing link d → (n : ℕ) → (bad : BadField) → (after_piece d (take n (waiting_bytes link))).bad ≡ Some bad → ⊥
unfolding after_piece
never_bad laws link d f n bad is =
    let waiting = waiting_bytes link in
    let taken : (d.rest ++ take n waiting) ++ drop n waiting ≡ d.rest ++ waiting =
    append_assoc d.rest (take n waiting) (drop n waiting) ∙ ap (λ xs. d.rest ++ xs) (take-append-drop n waiting) in
    let whole : (d.rest ++ take n waiting) ++ (drop n waiting ++ f.off) ≡ spellings_of f.coming =
    sym (append_assoc (d.rest ++ take n waiting) (drop n waiting) f.off) ∙ ap (λ xs. xs ++ f.off) taken ∙ f.bytes in
    let fine : first_bad (d.rest ++ take n waiting) ≡ None = laws.fine f.coming (d.rest ++ take n waiting) (drop n waiting ++ f.off) f.valid whole in
    let made : (after_piece d (take n waiting)).bad ≡ None = rw (f.fine, fine) refl in
    let clash : None ≡ Some bad = sym made ∙ is in
    cc

-- nor is one that the node takes over the channel from its neighbour on that side
pub never_refused : MachineLaws → (link : Channel) (node old : NodeView) (side : Neighbour) (from : Enclave) (n : ℕ) (piece : List ℕ) (bad : BadField) → node ≡ old → IsLinkFlowing link (feed_at old.feeds from)
    → neighbour_number old.view side ≡ from → n ≤ length (waiting_bytes link) → piece ≡ take n (waiting_bytes link) → (fed node (neighbour_number node.view side) piece).bad ≡ Some bad → ⊥
never_refused laws link node old side from n piece bad is flows side_is fits piece_is refused =
    never_bad laws link (feed_at old.feeds from) flows n bad (
    ap (λ xs. (after_piece (feed_at old.feeds from) xs).bad) (sym piece_is) ∙ ap (λ (e : Enclave). (after_piece (feed_at old.feeds e) piece).bad) (sym side_is)
    ∙ ap (λ (k : NodeView). (fed k (neighbour_number k.view side) piece).bad) (sym is) ∙ refused)

-- ---- the channel that a hop names

pub take_up : (m : MachineView) (x y : Enclave) (i : ℕ) → IsReady m → hop_in m x y ≡ hops.Up i → CanTake (pair_at m.pairs i).up (node_at m.nodes y.0) x
take_up m x y i ready hop =
    let known = are_known m.nodes x y in
    let both = and_parts _ _ (is_known m.pairs known x y (λ none. let no : hops.Up i ≡ hops.NoEnclave = sym hop ∙ none in cc)) in
    let k = up_is m.pairs known x y i hop in
    let h = ready.links i k.within in
    let parent = k.parent_is in
    subst (λ c. CanTake (pair_at m.pairs i).up (node_at m.nodes y.0) (enclave_numbered c)) (sym k.child_is)
    (subst (λ e. CanTake (pair_at m.pairs i).up (node_at m.nodes e) (enclave_numbered (i + 1))) parent (h.up (ap (has_node m.nodes) parent ∙ both.0)))

pub take_down : (m : MachineView) (x y : Enclave) (i : ℕ) → IsReady m → hop_in m x y ≡ hops.Down i → CanTake (pair_at m.pairs i).down (node_at m.nodes y.0) x × ((node_at m.nodes y.0).view.core.parent ≡ x)
take_down m x y i ready hop =
    let known = are_known m.nodes x y in
    let both = and_parts _ _ (is_known m.pairs known x y (λ none. let no : hops.Down i ≡ hops.NoEnclave = sym hop ∙ none in cc)) in
    let k = down_is m.pairs known x y i hop in
    let h = ready.links i k.within in
    let parent : (pair_at m.pairs i).parent ≡ x = ap enclave_numbered k.parent_is in
    let child = sym k.child_is in
    let lives : has_node m.nodes (i + 1) ≡ true = ap (has_node m.nodes) child ∙ both.0 in (
      subst (λ c. CanTake (pair_at m.pairs i).down (node_at m.nodes c) x) child (subst (CanTake (pair_at m.pairs i).down (node_at m.nodes (i + 1))) parent (h.down lives)),
      ap (λ c. (node_at m.nodes c).view.core.parent) (sym child) ∙ h.parent lives ∙ parent,
    )

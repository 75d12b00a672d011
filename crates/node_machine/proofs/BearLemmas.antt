-- What a birth writes and leaves, where the child was put behind the others before its parent took it.
use Rattle.std.proofs.Common.{◌≡◌, ◌<◌, ℕ, List, [], ◌∷◌, ◌++◌, ◌||◌, length, ap, ◌∙◌, arith, append_assoc, length-append}
use Rattle.std.specs.Prelude.{Bool, slice_set, slice_index_or}
use Rattle.std.proofs.lemmas.List.{set-append_left, get_or_read}
use Rattle.std.proofs.Math.ListN.{get_or-append}
use Rattle.xm_num.specs.declared.Enclave.{Enclave}
use Rattle.xm_num.specs.declared.Kind.{Kind}
use Rattle.xm_num.specs.declared.Block.{Block}
use Rattle.byte_link.specs.Channel.{Channel, fresh}
use Rattle.xemem_language.specs.declared.line.Line.{Line}
use Rattle.enclave_rules.specs.Core.{host}
use Rattle.enclave_rules.specs.Hand.{Nothing}
use Rattle.enclave_rules.specs.Steps.{birth_lines, adopt_lines}
use Rattle.enclave_node.specs.Nodes.{NodeView, unborn_node, wrote, adopted, new_node}
use Rattle.node_machine.specs.declared.pair.Pair.{Pair}
use Rattle.node_machine.specs.Machine.{MachineView, node_at, holder_after, borne_lines, after_birth}

-- what was read before is the node there
pub node_read : (nodes : List NodeView) (e : ℕ) (node : NodeView) → e < length nodes → node ≡ slice_index_or nodes e node → node ≡ node_at nodes e
node_read nodes e node within read = get_or_read nodes e node within read (unborn_node 0 host [])

-- and is still there with one more behind it
pub node_before : (nodes : List NodeView) (child : NodeView) (e : ℕ) (node : NodeView) → e < length nodes → node ≡ slice_index_or (nodes ++ child ∷ []) e node → node ≡ node_at nodes e
node_before nodes child e node within read =
    let long = length-append nodes (child ∷ []) in
    node_read (nodes ++ child ∷ []) e node (omega (arith, long)) read ∙ get_or-append nodes (child ∷ []) (unborn_node 0 host []) e within

pub pair_is : (pair : Pair) (parent : Enclave) → pair.parent ≡ parent → pair.up ≡ fresh → pair.down ≡ fresh → pair ≡ record { parent = parent; up = fresh; down = fresh }
pair_is pair parent one two three =
    ap (λ (e : Enclave). record pair { parent = e }) one ∙ ap (λ (link : Channel). record { parent = parent; up = link; down = pair.down }) two ∙ ap (λ (link : Channel). record { parent = parent; up = fresh; down = link }) three

module _ (m : MachineView) (child : Enclave) (kind : Kind) (parent : Enclave) (blocks : List Block) (ns : Bool) (node : NodeView) (is : node ≡ node_at m.nodes parent.0) where
  -- the lines of the child and of its parent
  pub borne_are : (out one two : List Line) → one ≡ out ++ birth_lines child kind parent blocks ns node.view.core.heard → two ≡ one ++ adopt_lines node.view child → two ≡ out ++ borne_lines m child kind parent blocks ns
  borne_are out one two first second =
      second ∙ ap (λ ls. ls ++ adopt_lines node.view child) first ∙ append_assoc out (birth_lines child kind parent blocks ns node.view.core.heard) (adopt_lines node.view child)
      ∙ ap (λ (n : NodeView). out ++ (birth_lines child kind parent blocks ns n.view.core.heard ++ adopt_lines n.view child)) is

  -- the machine with the child and these nodes and channels
  abbrev pub borne_with : List NodeView → List Pair → MachineView
  borne_with nodes pairs = record m { server = m.server || ns; holder = holder_after m child ns; nodes = nodes; pairs = pairs }

  -- the nodes and the channels then
  pub birth_is : (born after : NodeView) (pair : Pair) → parent.0 < length m.nodes → born ≡ new_node child kind parent blocks ns node.view.core.heard → after ≡ wrote Nothing (adopted node child kind) (adopt_lines node.view child)
      → pair ≡ record { parent = parent; up = fresh; down = fresh }
      → borne_with (slice_set (m.nodes ++ born ∷ []) parent.0 after) (m.pairs ++ pair ∷ []) ≡ after_birth m child kind parent blocks ns
  birth_is born after pair within one two three =
      ap (λ nodes. borne_with nodes (m.pairs ++ pair ∷ [])) (set-append_left m.nodes (born ∷ []) parent.0 after within)
      ∙ ap (λ (n : NodeView). borne_with (slice_set m.nodes parent.0 after ++ n ∷ []) (m.pairs ++ pair ∷ [])) one
      ∙ ap (λ (n : NodeView). borne_with (slice_set m.nodes parent.0 n ++ new_node child kind parent blocks ns node.view.core.heard ∷ []) (m.pairs ++ pair ∷ [])) two
      ∙ ap (λ (p : Pair). borne_with (slice_set m.nodes parent.0 (wrote Nothing (adopted node child kind) (adopt_lines node.view child)) ++ new_node child kind parent blocks ns node.view.core.heard ∷ []) (m.pairs ++ p ∷ [])) three
      ∙ ap (λ (n : NodeView). borne_with (slice_set m.nodes parent.0 (wrote Nothing (adopted n child kind) (adopt_lines n.view child)) ++ new_node child kind parent blocks ns n.view.core.heard ∷ []) (m.pairs ++ record { parent = parent; up = fresh; down = fresh } ∷ [])) is

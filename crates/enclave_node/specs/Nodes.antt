-- How a node is seen, and what its calls leave.
use Rattle.std.specs.Prelude.{◌+◌, ◌-◌, ◌^◌, ℕ, min, List, [], ◌∷◌, length, Bool, false}
use Rattle.std.specs.Option.{option_map_or}
use Rattle.xm_num.specs.declared.Enclave.{Enclave}
use Rattle.xm_num.specs.declared.Kind.{Kind}
use Rattle.xm_num.specs.declared.Block.{Block}
use Rattle.xm_num.specs.declared.Neighbour.{Neighbour}
use Rattle.xm_num.specs.declared.Neighbour.TheVariants as neighbours
use Rattle.xm_num.specs.Rows.{at, put, less}
use Rattle.xemem_wire.specs.Decoding.{Decoding, nothing_taken, after_piece}
use Rattle.xemem_language.specs.declared.line.Line.{Line}
use Rattle.xemem_language.specs.declared.line.Line.TheVariants as lines
use Rattle.xemem_language.specs.Spelling.{words_in}
use Rattle.enclave_rules.specs.Core.{with_child, host}
use Rattle.enclave_rules.specs.Host.{with_birth}
use Rattle.enclave_rules.specs.Hand.{Hand, Nothing}
use Rattle.enclave_rules.specs.View.{View, own_lines, unborn_view}
use Rattle.enclave_rules.specs.Steps.{host_lines, birth_lines, first_blocks, lines_of_records, after_records}
use Rattle.enclave_node.specs.declared.state.Birth.{Birth}
use Rattle.enclave_node.specs.Births.{born_view}

-- A node: the view of its enclave; what the decoder of each neighbour's channel has, by the neighbour's number; how many words
-- its lines have; and whether it failed for want of memory.
pub record NodeView : Type 0 where
  pub view : View
  pub feeds : List (ℕ × Decoding)
  pub appended : ℕ
  pub failed : Bool

-- a count of 64 bits, which stands still at its end
abbrev pub raised : ℕ → ℕ → ℕ
raised count more = min (count + more) (2 ^ 64 - 1)

-- the words of these lines count too
abbrev pub counted : NodeView → List Line → NodeView
counted n journal = record n { appended = raised n.appended (words_in journal) }

-- the node after it wrote these lines, by what was at hand
abbrev pub wrote : Hand → NodeView → List Line → NodeView
wrote hand n journal = record (counted n journal) { view = own_lines hand n.view journal }

-- ---- births

abbrev pub unborn_node : ℕ → Enclave → List (ℕ × Decoding) → NodeView
unborn_node pool e feeds = record { view = unborn_view pool e; feeds = feeds; appended = 0; failed = false }

abbrev pub new_host : ℕ → ℕ → Bool → NodeView
new_host pool blocks holder = wrote Nothing (unborn_node pool host []) (host_lines (first_blocks blocks) holder)

abbrev pub new_node : Enclave → Kind → Enclave → List Block → Bool → List Enclave → NodeView
new_node me kind parent blocks holder heard = wrote Nothing (unborn_node 0 me ((parent.0, nothing_taken) ∷ [])) (birth_lines me kind parent blocks holder heard)

-- a node that is born so, with these lines
abbrev pub born_node : Birth → List (ℕ × Decoding) → List Line → NodeView
born_node birth feeds journal = record { view = born_view birth; feeds = feeds; appended = raised 0 (words_in journal); failed = false }

-- the host lent these blocks to a child of that parent
abbrev pub lent : NodeView → Enclave → Enclave → List Block → NodeView
lent n child parent blocks = record n { view = record n.view { host = with_birth child parent blocks n.view.host } }

-- the enclave has a child more, with its channel
abbrev pub adopted : NodeView → Enclave → Kind → NodeView
adopted n child kind = record n { view = record n.view { core = with_child child kind n.view.core }; feeds = put n.feeds child.0 nothing_taken }

-- ---- channels

-- the number of a neighbour
abbrev pub neighbour_number : View → Neighbour → Enclave
neighbour_number v neighbours.Up = v.core.parent
neighbour_number v (neighbours.Down child) = child

-- what the decoder of a channel has; nothing where the channel isn't open
abbrev pub feed_at : List (ℕ × Decoding) → Enclave → Decoding
feed_at feeds x = option_map_or (λ d. d) (at feeds x.0) nothing_taken

-- what the decoder has after a piece, before any record is given
abbrev pub fed : NodeView → Enclave → List ℕ → Decoding
fed n x piece = after_piece (feed_at n.feeds x) piece

-- the lines of the records that are whole then
abbrev pub fed_lines : NodeView → Enclave → List ℕ → List Line
fed_lines n x piece = lines_of_records n.view x (fed n x piece).records

-- the view and the decoders after it, with all whole records given
abbrev pub took : NodeView → Enclave → List ℕ → NodeView
took n x piece = record n { view = after_records n.view x (fed n x piece).records; feeds = put n.feeds x.0 (record (fed n x piece) { records = [] }) }

-- the node after it
abbrev pub after_feed : NodeView → Enclave → List ℕ → NodeView
after_feed n x piece = counted (took n x piece) (fed_lines n x piece)

-- the line of a child's end mark: the bytes of a torn record are dropped
abbrev pub end_line : NodeView → Enclave → Line
end_line n child = lines.End child n.view.me (length (feed_at n.feeds child).rest)

abbrev pub after_end : NodeView → Enclave → NodeView
after_end n child = record (wrote Nothing n (end_line n child ∷ [])) { feeds = less n.feeds child.0 }

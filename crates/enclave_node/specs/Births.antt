-- What an enclave knows as it is born.
use Rattle.std.specs.Prelude.{ℕ, Bool, if◌then◌else◌, List, [], ◌∷◌, Option, None, Some}
use Rattle.xm_num.specs.declared.Enclave.{Enclave}
use Rattle.xm_num.specs.declared.Block.{Block}
use Rattle.xm_num.specs.declared.Kind.{Kind}
use Rattle.xm_num.specs.declared.Kind.TheVariants as kinds
use Rattle.xemem_language.specs.declared.line.Line.{Line}
use Rattle.xemem_language.specs.declared.line.Line.TheVariants as lines
use Rattle.enclave_rules.specs.Core.{host}
use Rattle.enclave_rules.specs.Ways.{no_ways}
use Rattle.name_server.specs.Names.{no_names}
use Rattle.enclave_rules.specs.Memory.{no_memory}
use Rattle.enclave_rules.specs.Host.{HostView, no_host, with_birth}
use Rattle.enclave_rules.specs.View.{View, unborn_host}
use Rattle.enclave_rules.specs.Steps.{first_blocks, birth_lines}
use Rattle.enclave_node.specs.declared.state.Birth.{Birth}

-- what an enclave keeps as the host, where it is the host
abbrev pub host_view : Option HostView → HostView
host_view None = no_host
host_view (Some host) = host

-- of a pool of so many blocks the host gets the first ones
abbrev pub born_host : ℕ → ℕ → HostView
born_host pool blocks = with_birth host host (first_blocks blocks) (unborn_host pool)

-- the host with the first blocks of a new pool
abbrev pub host_birth : ℕ → ℕ → Bool → Birth
host_birth pool blocks holder = record {
  me = host;
  kind = kinds.Host;
  parent = host;
  blocks = first_blocks blocks;
  holder = holder;
  heard = [];
  host = Some (born_host pool blocks);
}

abbrev pub child_birth : Enclave → Kind → Enclave → List Block → Bool → List Enclave → Birth
child_birth me kind parent blocks holder heard = record {
  me = me;
  kind = kind;
  parent = parent;
  blocks = blocks;
  holder = holder;
  heard = heard;
  host = None;
}

-- the lines that tell the birth of a host
abbrev pub host_told : Birth → List Line
host_told b = lines.Born b.me b.kind b.parent b.holder b.blocks ∷ (if b.holder then lines.Admitted b.me ∷ [] else [])

-- the lines that tell the birth of a child
abbrev pub child_told : Birth → List Line
child_told b = birth_lines b.me b.kind b.parent b.blocks b.holder b.heard

-- what an enclave knows that is born so
abbrev pub born_view : Birth → View
born_view b = record {
  me = b.me;
  core = record {
    kind = b.kind;
    parent = b.parent;
    blocks = b.blocks;
    holder = b.holder;
    admitted = b.holder;
    heard = b.heard;
    children = [];
  };
  ways = no_ways;
  memory = no_memory;
  exports = [];
  grants = [];
  names = no_names;
  host = host_view b.host;
}

-- The view of an enclave, by the facts, and what lines leave of it.
use Rattle.std.specs.Prelude.{◌==◌, ℕ, List, [], ◌∷◌, map, filter, if◌then◌else◌}
use Rattle.std.specs.List.{range_with_len}
use Rattle.xm_num.specs.declared.Enclave.{Enclave}
use Rattle.xm_num.specs.declared.Kind.{Kind}
use Rattle.xemem_language.specs.declared.line.Line.{Line}
use Rattle.enclave_rules.specs.Core.{CoreView, local_line}
use Rattle.enclave_rules.specs.Host.{HostView, no_host}
use Rattle.enclave_rules.specs.View.{View, is_at, own_line}
use Rattle.global_model.specs.Channels.{is_child_of}
use Rattle.global_model.specs.Facts.{Facts, fact_of, after_line}

abbrev pub child_row : Facts → ℕ → ℕ × Kind
child_row G c = (c, (fact_of (G.enclave c)).kind)

abbrev pub children_of : Facts → ℕ → List (ℕ × Kind)
children_of G e = map (child_row G) (filter (λ c. is_child_of G c e) (range_with_len 0 G.born))

abbrev pub core_of : Facts → ℕ → CoreView
core_of G e = record {
  kind = (fact_of (G.enclave e)).kind;
  parent = (fact_of (G.enclave e)).parent;
  blocks = (fact_of (G.enclave e)).blocks;
  holder = (fact_of (G.enclave e)).ns;
  admitted = (fact_of (G.enclave e)).admitted;
  heard = G.heard e;
  children = children_of G e;
}

abbrev pub host_of : Facts → HostView
host_of G = record { states = map G.block (range_with_len 0 G.pool); parents = map (λ e. (fact_of (G.enclave e)).parent) (range_with_len 0 G.born) }

abbrev pub view_of : Facts → Enclave → View
view_of G e = record {
  me = e;
  core = core_of G e.0;
  ways = G.ways e.0;
  memory = G.memory e.0;
  exports = G.exports e.0;
  grants = G.grants e.0;
  names = G.names e.0;
  host = if e.0 == 0 then host_of G else no_host;
}

-- What a line leaves of a view, by the facts before it: where the line is at the enclave, what it changes there, read as that
-- enclave names frames and by what is at hand; else the view itself.
abbrev pub seen_line : Facts → View → Line → View
seen_line G v line = if is_at G.holder v.me line then own_line G.hand v (local_line v.core.kind v.core.blocks line) else v

-- what the lines leave of it, one after the other
abbrev pub seen_lines : Facts → View → List Line → View
seen_lines G v [] = v
seen_lines G v (line ∷ journal) = seen_lines (after_line G line) (seen_line G v line) journal

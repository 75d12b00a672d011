-- What was heard of ways, as filters over a past. A past has its newest line first.
use Rattle.std.specs.Prelude.{ℕ, List, [], ◌∷◌, ◌&&◌, ◌==◌, if◌then◌else◌, Option, None, Some}
use Rattle.xm_num.specs.declared.Enclave.{Enclave}
use Rattle.xemem_language.specs.declared.line.Line.{Line}
use Rattle.xemem_language.specs.declared.line.Line.TheVariants as lines
use Rattle.enclave_rules.specs.Ways.{place_among}
use Rattle.global_model.specs.Facts.{fact_of, facts_at}

-- the neighbour of the last line `way e X`
abbrev pub way_heard : ℕ → List Line → Option Enclave
way_heard e [] = None
way_heard e (lines.Way of over ∷ past) = if e == of.0 then Some over else way_heard e past
way_heard e (line ∷ past) = way_heard e past

-- the neighbour of the last line `back e d X`, and none once e has heard that d is dead
abbrev pub back_heard : ℕ → ℕ → List Line → Option Enclave
back_heard e d [] = None
back_heard e d (lines.Back of to over ∷ past) = if (e == of.0) && (d == to.0) then Some over else back_heard e d past
back_heard e d (lines.Heard of dead ∷ past) = if (e == of.0) && (d == dead.0) then None else back_heard e d past
back_heard e d (line ∷ past) = back_heard e d past

-- the neighbour of the last line `route e d X`, and none once e has heard that d is dead
abbrev pub route_heard : ℕ → ℕ → List Line → Option Enclave
route_heard e d [] = None
route_heard e d (lines.Route of to over ∷ past) = if (e == of.0) && (d == to.0) then Some over else route_heard e d past
route_heard e d (lines.Heard of dead ∷ past) = if (e == of.0) && (d == dead.0) then None else route_heard e d past
route_heard e d (line ∷ past) = route_heard e d past

-- the neighbour in that place, where a line `asked e X` names it and no line `way e Y` came after it
abbrev pub asker_heard : ℕ → ℕ → List Line → Option Enclave
asker_heard e k [] = None
asker_heard e k (lines.Asked of by ∷ past) =
    if (e == of.0) && (k == place_among (fact_of ((facts_at past).enclave of.0)).parent by) then Some by else asker_heard e k past
asker_heard e k (lines.Way of over ∷ past) = if e == of.0 then None else asker_heard e k past
asker_heard e k (line ∷ past) = asker_heard e k past

use Rattle.std.proofs.Common.{◌≡◌, map, drop}
use Rattle.line_reader.specs.Slots.{named}
use Rattle.line_reader.proofs.name_tables.find.Given as goal

abbrev pub invariant-loop-name : goal.invariant-loop-name
invariant-loop-name g l = named (map (λ entry. (entry.0.now, entry.1)) (drop l.name-index l.names)) l.word ≡ named (map (λ entry. (entry.0.now, entry.1)) l.names) l.word

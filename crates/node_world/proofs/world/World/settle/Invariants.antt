use Rattle.std.proofs.Common.{◌≡◌}
use Rattle.node_world.proofs.Amids.{IsAmid}
use Rattle.node_world.proofs.world.World.settle.Given as goal

-- the settle made so many deliveries
abbrev pub invariant-loop-made : goal.invariant-loop-made
invariant-loop-made l = record {
  amid : IsAmid l.most l.made l.fn.self.journal l.self.machine l.self.journal;
  progress : l.self.progress ≡ l.fn.self.progress;
}

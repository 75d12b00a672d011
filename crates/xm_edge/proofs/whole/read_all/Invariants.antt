use Rattle.std.proofs.Common.{◌≡◌, ◌≤◌, ◌-◌, length, vec_len, is_some}
use Rattle.std.specs.Io.KnownBytes.{Consumes}
use Rattle.xm_edge.proofs.whole.read_all.Given as goal

abbrev pub invariant-loop-count : goal.invariant-loop-count
invariant-loop-count g l = record {
  taken : Consumes (g.S.Source.left l.initial.source) (g.S.Source.left l.source) l.bytes.items;
  fits : vec_len l.bytes ≤ l.most;
  faults : g.S.Source.faults l.source ≡ g.S.Source.faults l.initial.source;
  tells : is_some (g.S.Source.left l.source) ≡ is_some (g.S.Source.left l.initial.source);
  room : length l.piece ≡ 65536;
}

abbrev pub decreases-loop-count : goal.decreases-loop-count
decreases-loop-count g l = l.most - vec_len l.bytes

use Rattle.std.proofs.Common.{refl}
use Rattle.worked_examples.proofs.examples.crowds_are_refused.Goals as goal

pub returns : goal.returns
returns c = record {
  last = refl;
  no_blocks = refl;
  full = refl;
  full_with_server = refl;
  full_without_blocks = refl;
  full_elsewhere = refl;
  last_start = refl;
  all_started = refl;
  started_elsewhere = refl;
}

use Rattle.global_model.proofs.Acts.{command_lines-acts, quiet_plain, behind_plain}
use Rattle.global_model.proofs.laws.acts_are_plain.Goals as goal

pub returns : goal.returns
returns c = record { acts = command_lines-acts; quiet = quiet_plain; behind = behind_plain }

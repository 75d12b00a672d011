use Rattle.global_model.proofs.Pasts.{onto-append, facts_at-onto, after_lines-append, do_commands-append}
use Rattle.global_model.proofs.laws.pasts_grow.Goals as goal

pub returns : goal.returns
returns c = record { onto = onto-append; facts = facts_at-onto; after = after_lines-append; commands = do_commands-append }

use Rattle.std.proofs.Common.{◌∙◌, ap}
use Rattle.byte_link.specs.Channel.{first_length}
use Rattle.byte_link.proofs.LawLemmas.{first-left_of, first-left_of_cut}
use Rattle.byte_link.proofs.laws.boundaries_end_records.Goals as goal

pub returns : goal.returns
returns c =
    record {
      whole = λ c before after first gone e h k. ap first_length e ∙ first-left_of before after first gone h k;
      cut = λ c before after first kept gone e h k. ap first_length e ∙ first-left_of_cut before after first kept gone h k;
    }

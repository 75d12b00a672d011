use Rattle.line_reader.proofs.BytesLemmas.{decode-written}
use Rattle.line_reader.proofs.lists.decode.Goals as goal

pub returns : goal.returns
returns c =
    rw c.is_ok.ensures.value (decode-written c.args.word.now c.decode_to_slice.new.out _ c.decode_to_slice.result c.requires c.decode_to_slice.ensures.value)

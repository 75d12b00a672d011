use Rattle.xemem_wire.proofs.SpellingLemmas.{u32_at-spelling_of, length_by_kind, spelling_long, spelling_short, spelling_bytes}
use Rattle.xemem_wire.proofs.laws.spelling_length.Goals as goal

pub returns-clause-told : goal.returns-clause-told
returns-clause-told c = u32_at-spelling_of

pub returns-clause-kind : goal.returns-clause-kind
returns-clause-kind c = length_by_kind

pub returns-clause-least : goal.returns-clause-least
returns-clause-least c = spelling_long

pub returns-clause-most : goal.returns-clause-most
returns-clause-most c = spelling_short

pub returns-clause-bytes : goal.returns-clause-bytes
returns-clause-bytes c = spelling_bytes

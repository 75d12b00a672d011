use Rattle.std.proofs.Common.{length, sym, ◌∙◌, arith}
use Rattle.std.proofs.lemmas.Bool.{eqb-true}
use Rattle.line_reader.proofs.CommandedLemmas.{gathered-all, gathered-eight, gathered-more, room-left}
use Rattle.line_reader.proofs.commanded.first_words.Goals as goal

pub returns-in_default-clause-kept : goal.returns-in_default-clause-kept
returns-in_default-clause-kept c =
    gathered-all c.loop-words.kept.items c.loop-words.words c.args.words.now c.loop-words.invariant.room c.in_default.ensures.word c.loop-words.invariant.all

pub loop-words-preserved : goal.loop-words-preserved
loop-words-preserved c = record {
  all = rw c.push.ensures.items (gathered-more c.loop-words.kept.items c.in-Some.word c.loop-words.words c.next.new.self c.args.words.now c.in-Some.ensures.word c.loop-words.invariant.all);
  room = omega (arith, c.push.ensures.len, room-left (length c.loop-words.kept.items) (sym c.is_full.ensures.value ∙ c.loop-words-test.true) c.loop-words.invariant.room);
}

pub returns-clause-kept : goal.returns-clause-kept
returns-clause-kept c =
    let full = eqb-true _ _ (sym c.is_full.ensures.value ∙ c.loop-words-test.false) in
    (gathered-eight c.loop-words.kept.items c.loop-words.words c.args.words.now full c.loop-words.invariant.all).0

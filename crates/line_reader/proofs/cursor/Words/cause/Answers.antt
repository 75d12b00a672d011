use Rattle.std.proofs.Common.{◌≡◌, sym, ap, ◌∙◌, refl, Some, option_map}
use Rattle.line_reader.specs.Slots.{next, next_named, next_word}
use Rattle.line_reader.proofs.cursor.Words.cause.Goals as goal

pub returns : goal.returns
unfolding next next_named
returns c =
    let first : next_word c.args.self.now ≡ Some (c.in_ok-word.word.now, c.next.new.self) = sym c.next.ensures.word ∙ ap (option_map (λ word. (word.now, c.next.new.self))) c.in_ok-word.was in
    rw first (rw c.find.ensures refl)

use Rattle.std.proofs.Common.{◌≡◌, ◌++◌, ◌∷◌, [], false, length, ap, ◌∙◌}
use Rattle.byte_link.specs.Channel.{Channel}
use Rattle.byte_link.proofs.Rows.{laid_sent}
use Rattle.byte_link.proofs.Steps.{waits, sent_shown}
use Rattle.byte_link.proofs.Link.send.Goals as goal

pub invariant_of-self-2 : goal.invariant_of-self-2
invariant_of-self-2 c =
    let lengths = c.push_back_reserved.ensures.items ∙ ap (λ items. items ++ length c.args.bytes.now ∷ []) c.reserve.ensures.items in
    let going : c.self.inside.ended ≡ false = ap (λ link. (let l : Channel = link in l.ended)) c.self.view_is ∙ c.requires.not_ended in
    let all = ap length (waits _ _ _ _ _ c.self.view_is c.self.invariant) in
    rw (c.in_ok-append.ensures.ok, lengths) (laid_sent _ _ _ c.self.inside.ended c.self.invariant going c.requires.filled (rw all at c.requires.fits))

pub returns-clause-ok : goal.returns-clause-ok
returns-clause-ok c =
    let lengths = c.push_back_reserved.ensures.items ∙ ap (λ items. items ++ length c.args.bytes.now ∷ []) c.reserve.ensures.items in
    let going : c.self.inside.ended ≡ false = ap (λ link. (let l : Channel = link in l.ended)) c.self.view_is ∙ c.requires.not_ended in
    rw (c.in_ok-append.ensures.ok, lengths) (sent_shown _ _ _ _ c.self.inside.ended c.self.inside.end_taken c.self.view_is c.self.invariant going c.requires.filled)

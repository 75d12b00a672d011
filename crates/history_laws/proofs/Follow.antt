-- Laws along a journal.
use Rattle.std.proofs.Common.{List, [], ◌∷◌, ◌++◌}
use Rattle.xemem_language.specs.declared.line.Line.{Line}
use Rattle.global_model.specs.Journals.{Follows, onto}

pub Follows-append : (Law : List Line → Line → Type 0) (ls ms past : List Line) → Follows Law past ls → Follows Law (onto ls past) ms
    → Follows Law past (ls ++ ms)
Follows-append Law [] ms past f g = g
Follows-append Law (l ∷ ls) ms past f g = (f.0, Follows-append Law ls ms (l ∷ past) f.1 g)

-- a front of lines, each of which may follow those before it
pub Follows-front : (Law : List Line → Line → Type 0) (ls ms past : List Line) → Follows Law past (ls ++ ms) → Follows Law past ls
Follows-front Law [] ms past follows = tt
Follows-front Law (l ∷ ls) ms past follows = (follows.0, Follows-front Law ls ms (l ∷ past) follows.1)

-- and the lines behind it
pub Follows-behind : (Law : List Line → Line → Type 0) (ls ms past : List Line) → Follows Law past (ls ++ ms) → Follows Law (onto ls past) ms
Follows-behind Law [] ms past follows = follows
Follows-behind Law (l ∷ ls) ms past follows = Follows-behind Law ls ms (l ∷ past) follows.1

-- what follows from a law along a journal
pub Follows-weaker : (Law Other : List Line → Line → Type 0) → ((past : List Line) (line : Line) → Law past line → Other past line)
    → (ls past : List Line) → Follows Law past ls → Follows Other past ls
Follows-weaker Law Other h [] past follows = tt
Follows-weaker Law Other h (l ∷ ls) past follows = (h past l follows.0, Follows-weaker Law Other h ls (l ∷ past) follows.1)

-- The one right that is out, as rows.
use Rattle.std.proofs.Common.{◌≡◌, ◌∙◌, ℕ, List, [], Option, Some, refl, eq-eqb}
use Rattle.std.specs.Cmp.{unsigned_tied}
use Rattle.xm_num.specs.Rows.{at, less}
use Rattle.page_table.specs.Spaces.{Range}
use Rattle.layer_tests.specs.Rights.{out_of}

pub right_at : (out : List (ℕ × ℕ)) (held : Option Range) (right : Range) → out ≡ out_of held → held ≡ Some right → at out right.first.0 ≡ Some right.pages
unfolding at
right_at out held right is here = rw (is, here) (rw (unsigned_tied right.first.0 right.first.0 ∙ eq-eqb right.first.0 right.first.0 refl) refl)

pub right_spent : (out now : List (ℕ × ℕ)) (held : Option Range) (right : Range) → out ≡ out_of held → held ≡ Some right → now ≡ less out right.first.0 → now ≡ []
unfolding less
right_spent out now held right is here spent = rw (spent, is, here) (rw (unsigned_tied right.first.0 right.first.0 ∙ eq-eqb right.first.0 right.first.0 refl) refl)

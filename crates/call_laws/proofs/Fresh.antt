-- A number above those of the calls that an enclave issued is no call's.
use Rattle.std.proofs.Common.{◌≡◌, ◌<◌, ℕ, List, ◌∷◌, Bool, true, false, cond, ◌||◌, ◌&&◌, eqb, refl, arith}
use Rattle.std.proofs.lemmas.Bool.{ne_eqb}
use Rattle.xemem_language.specs.declared.line.Line.{Line}
use Rattle.xemem_language.specs.declared.line.Line.TheVariants as lines
use Rattle.attach_map.specs.Attaching.{AttacherState}
use Rattle.enclave_rules.specs.Memory.{with_issued}
use Rattle.global_model.specs.Facts.{facts_at}
use Rattle.call_laws.specs.Cells.{is_cell, issued_in}
use Rattle.call_laws.proofs.MemoryLines.{IssuesNext}
use Rattle.call_laws.proofs.Room.{issued_more}

abbrev pub AreFresh : List Line → Type 0
AreFresh past = (e k : ℕ) → ((facts_at past).memory e).issued < k → issued_in past e k ≡ false

or_none : (s t : Bool) → s ≡ false → t ≡ false → (s || t) ≡ false
or_none true t first more = cc
or_none false t first more = more

pub fresh_line : (past : List Line) (line : Line) → IssuesNext (facts_at past) line → AreFresh past → AreFresh (line ∷ past)
fresh_line past (lines.Issue of p call) next old e k less =
    or_none (is_cell e k of.0 call.0) (issued_in past e k) (by (eqb e of.0) refl less)
    (old e k (let more = issued_more past (lines.Issue of p call) e in omega (arith, more, less)))
  where
    m : AttacherState
    m = (facts_at past).memory of.0

    by : (t : Bool) → eqb e of.0 ≡ t → (cond t (with_issued p call m) ((facts_at past).memory e)).issued < k → (t && eqb call.0 k) ≡ false
    by true is less = ne_eqb call.0 k (λ same. let one = next.1 in omega (arith, same, one, less))
    by false is less = refl
fresh_line past line next old e k less = old e k (let more = issued_more past line e in omega (arith, more, less))

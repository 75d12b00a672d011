-- The first bad field of a record's front, when more bytes come.
use Rattle.std.proofs.Common.{◌≡◌, ℕ, ◌≤◌, nat_le, Bool, true, false, not, Option, Some, None, List, [], ◌∷◌, ◌++◌, length, take, drop, refl, sym, ap, ◌∙◌, ◌⊎◌, inl, inr, arith, length-append, lit≤}
use Rattle.std.proofs.lemmas.Bool.{cases_Bool, cases_lt, and_parts, le-leb}
use Rattle.std.specs.Option.{option_or}
use Rattle.std.proofs.lemmas.Option.{none-some}
use Rattle.std.proofs.lemmas.List.{take-append-le, drop-append-le, drop_all}
use borrow.Author.Tests.{leb-true}
use Rattle.xemem_wire.specs.declared.format.BadField.{BadField}
use Rattle.xemem_wire.specs.Faults.{Check, kind_at, header_checks, is_failed, first_failed, fault_of}
use Rattle.xemem_wire.specs.Fields.{fields_of_kind, fields_fault}
use Rattle.xemem_wire.proofs.FieldLemmas.{fields_fault-none, fields_fault-append}

-- the needs never fall, from low on
abbrev pub Ascend : ℕ → List Check → Type 0
Ascend low [] = Unit {0}
Ascend low (c ∷ cs) = (low ≤ c.needs) × Ascend c.needs cs

pub ascending : Ascend 0 header_checks
ascending = (lit≤ tt, (lit≤ tt, (lit≤ tt, (lit≤ tt, (lit≤ tt, (lit≤ tt, (lit≤ tt, (lit≤ tt, tt))))))))

-- a failed check has its bytes
failed_needs : (bytes : List ℕ) (c : Check) → is_failed bytes c ≡ true → c.needs ≤ length bytes
failed_needs bytes c h = leb-true _ _ (and_parts _ _ h).0

-- a check that has its bytes stands as it did, whatever comes
is_failed-append : (bytes more : List ℕ) (c : Check) → c.needs ≤ length bytes → is_failed (bytes ++ more) c ≡ is_failed bytes c
is_failed-append bytes more c h =
    let longer : c.needs ≤ length (bytes ++ more) = simp length-append (omega arith) in
    rw (le-leb _ _ longer, le-leb _ _ h, take-append-le) refl

-- where a check fails, the bytes are there that the first one needs
first_failed_needs : (low : ℕ) (cs : List Check) (bytes : List ℕ) (bad : BadField) → Ascend low cs → first_failed cs bytes ≡ Some bad → low ≤ length bytes
unfolding first_failed
first_failed_needs low [] bytes bad h e = cc
first_failed_needs low (c ∷ cs) bytes bad h e =
    elim (cases_Bool (is_failed bytes c)) [
      | inl t ↦ let needs : c.needs ≤ length bytes = failed_needs bytes c t in omega arith
      | inr f ↦
          let needs : c.needs ≤ length bytes = first_failed_needs c.needs cs bytes bad h.1 (rw f at e) in
          omega arith
    ]

first_failed-append : (low : ℕ) (cs : List Check) (bytes more : List ℕ) (bad : BadField) → Ascend low cs → first_failed cs bytes ≡ Some bad → first_failed cs (bytes ++ more) ≡ Some bad
unfolding first_failed
first_failed-append low [] bytes more bad h e = cc
first_failed-append low (c ∷ cs) bytes more bad h e =
    elim (cases_Bool (is_failed bytes c)) [
      | inl t ↦ rw (is_failed-append bytes more c (failed_needs bytes c t), t) (rw t at e)
      | inr f ↦
          let needs : c.needs ≤ length bytes = first_failed_needs c.needs cs bytes bad h.1 (rw f at e) in
          rw (is_failed-append bytes more c needs, f)
          (first_failed-append c.needs cs bytes more bad h.1 (rw f at e))
    ]

-- the fields of the header are judged by these first bytes
abbrev pub Within : ℕ → List Check → Type 0
Within most [] = Unit {0}
Within most (c ∷ cs) = (c.needs ≤ most) × Within most cs

within_header : Within 16 header_checks
within_header = (lit≤ tt, (lit≤ tt, (lit≤ tt, (lit≤ tt, (lit≤ tt, (lit≤ tt, (lit≤ tt, (lit≤ tt, tt))))))))

first_failed-same : (most : ℕ) (cs : List Check) (bytes more : List ℕ) → Within most cs → most ≤ length bytes → first_failed cs (bytes ++ more) ≡ first_failed cs bytes
unfolding first_failed
first_failed-same most [] bytes more w h = refl
first_failed-same most (c ∷ cs) bytes more w h =
    let needs : c.needs ≤ length bytes = omega (arith, w.0, h) in
    rw (is_failed-append bytes more c needs, first_failed-same most cs bytes more w.1 h) refl

kind_at-append : (bytes more : List ℕ) → 16 ≤ length bytes → kind_at (bytes ++ more) ≡ kind_at bytes
kind_at-append (a ∷ b ∷ c ∷ d ∷ e ∷ f ∷ bytes) more h = refl
kind_at-append _ more h = absurd (omega arith)

-- the first bad field of the header, and that of the fields behind it
abbrev pub header_fault : List ℕ → Option BadField
header_fault bytes = first_failed header_checks bytes

abbrev pub body_fault : List ℕ → Option BadField
body_fault bytes = fields_fault 16 (fields_of_kind (kind_at bytes)) (drop 16 bytes)

-- without a header there is no other field
pub body_fault_short : (bytes : List ℕ) → length bytes ≤ 16 → None ≡ body_fault bytes
body_fault_short bytes h =
    sym (ap (fields_fault 16 (fields_of_kind (kind_at bytes))) (drop_all 16 bytes h) ∙ fields_fault-none 16 (fields_of_kind (kind_at bytes)))

body_fault-append : (bytes more : List ℕ) (bad : BadField) → 16 ≤ length bytes → body_fault bytes ≡ Some bad → body_fault (bytes ++ more) ≡ Some bad
body_fault-append bytes more bad h e =
    ap (λ kind. fields_fault 16 (fields_of_kind kind) (drop 16 (bytes ++ more))) (kind_at-append bytes more h)
    ∙ ap (fields_fault 16 (fields_of_kind (kind_at bytes))) (drop-append-le 16 bytes more h)
    ∙ fields_fault-append 16 (fields_of_kind (kind_at bytes)) (drop 16 bytes) more bad e

-- an alternative
or_some : (o p : Option BadField) (bad : BadField) → option_or o p ≡ Some bad → (o ≡ Some bad) ⊎ ((o ≡ None) × (p ≡ Some bad))
or_some None p bad e = inr (refl, e)
or_some (Some found) p bad e = inl e

pub or_none : (o p : Option BadField) → option_or o p ≡ None → (o ≡ None) × (p ≡ None)
or_none None p e = (refl, e)
or_none (Some found) p e = absurd (none-some found (sym e))

-- a bad field stays the first one, whatever comes
pub fault_of-append : (bytes more : List ℕ) (bad : BadField) → fault_of bytes ≡ Some bad → fault_of (bytes ++ more) ≡ Some bad
unfolding fault_of
fault_of-append bytes more bad e =
    elim (or_some (header_fault bytes) (body_fault bytes) bad e) [
      | inl failed ↦
          ap (λ o. option_or o (body_fault (bytes ++ more))) (first_failed-append 0 header_checks bytes more bad ascending failed)
      | inr later ↦
          let long : 16 ≤ length bytes = elim (cases_lt (length bytes) 16) [
            | inl short ↦ absurd (none-some bad (body_fault_short bytes (omega (arith, short)) ∙ later.1))
            | inr ge ↦ ge
          ] in
          ap (λ o. option_or o (body_fault (bytes ++ more))) (first_failed-same 16 header_checks bytes more within_header long ∙ later.0)
          ∙ body_fault-append bytes more bad long later.1
    ]

-- no bad field
pub fault_of-none : (bytes : List ℕ) → header_fault bytes ≡ None → body_fault bytes ≡ None → fault_of bytes ≡ None
unfolding fault_of
fault_of-none bytes e f = ap (λ o. option_or o (body_fault bytes)) e ∙ f

pub none-fault_of : (bytes : List ℕ) → fault_of bytes ≡ None → (header_fault bytes ≡ None) × (body_fault bytes ≡ None)
unfolding fault_of
none-fault_of bytes e = or_none (header_fault bytes) (body_fault bytes) e

pub fault_of-empty : fault_of [] ≡ None
unfolding first_failed
fault_of-empty = fault_of-none [] refl (sym (body_fault_short [] (lit≤ tt)))

-- each field that is there is allowed
abbrev pub AreMet : List Check → List ℕ → Type 0
AreMet [] bytes = Unit {0}
AreMet (c ∷ cs) bytes = (c.needs ≤ length bytes → c.is_met (take c.needs bytes) ≡ true) × AreMet cs bytes

pub first_failed-met : (cs : List Check) (bytes : List ℕ) → AreMet cs bytes → first_failed cs bytes ≡ None
unfolding first_failed
first_failed-met [] bytes h = refl
first_failed-met (c ∷ cs) bytes h =
    elim (cases_Bool (nat_le c.needs (length bytes))) [
      | inl t ↦
          rw (t, h.0 (leb-true c.needs (length bytes) t)) (first_failed-met cs bytes h.1)
      | inr f ↦ rw f (first_failed-met cs bytes h.1)
    ]

not_false : (b : Bool) → not b ≡ false → b ≡ true
not_false true h = refl
not_false false h = cc

-- a field that is there and didn't fail is allowed
met_from : (c : Check) (bytes : List ℕ) → is_failed bytes c ≡ false → c.needs ≤ length bytes → c.is_met (take c.needs bytes) ≡ true
met_from c bytes f needs = not_false _ (rw (le-leb c.needs (length bytes) needs) at f)

pub met-first_failed : (cs : List Check) (bytes : List ℕ) → first_failed cs bytes ≡ None → AreMet cs bytes
unfolding first_failed
met-first_failed [] bytes e = tt
met-first_failed (c ∷ cs) bytes e =
    elim (cases_Bool (is_failed bytes c)) [
      | inl t ↦ absurd (none-some _ (sym (rw t at e)))
      | inr f ↦ (met_from c bytes f, met-first_failed cs bytes (rw f at e))
    ]

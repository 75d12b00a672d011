-- The order of names.
use Rattle.std.proofs.Common.{◌≡◌, ◌≤◌, ℕ, true, false, ◌&&◌, refl, sym, ap, ◌∙◌, true≢false, inl, inr, arith}
use Rattle.std.specs.Prelude.{◌==◌}
use Rattle.std.specs.Cmp.{IsTotalOrder, nat_cmp_is, unsigned_tied}
use Rattle.std.specs.declared.cmp.Ordering.{Ordering}
use Rattle.std.specs.declared.cmp.Ordering.TheVariants.{Less, Equal, Greater}
use Rattle.std.specs.Ordering.{is_eq, is_gt, nat_cmp, ordering_then}
use Rattle.std.specs.BTreeMap.{is_at}
use Rattle.std.specs.BTreeMap.Range.{IsLeBy}
use Rattle.std.proofs.lemmas.Bool.{cases_order}
use Rattle.std.proofs.lemmas.Cmp.{nat_cmp_total, on_total, then_total}
use Rattle.std.proofs.lemmas.Map.Lookups.{exact_unsigned, exact_pairs}
use Rattle.holder_table.specs.Holding.{name_order}

pub both : (a b : Ordering) → is_eq (ordering_then a b) ≡ (is_eq a && is_eq b)
both Less b = refl
both Equal b = refl
both Greater b = refl

pub names_total : IsTotalOrder name_order
names_total = then_total (on_total (λ (a : ℕ × ℕ). a.0) nat_cmp_total) (on_total (λ (a : ℕ × ℕ). a.1) nat_cmp_total)

pub names_exact : (a b : ℕ × ℕ) → name_order a b ≡ Equal → a ≡ b
names_exact = exact_pairs nat_cmp nat_cmp exact_unsigned exact_unsigned

pub same_name : (a b : ℕ × ℕ) → is_at (name_order a) b ≡ ((a.0 == b.0) && (a.1 == b.1))
same_name a b = both (nat_cmp a.0 b.0) (nat_cmp a.1 b.1) ∙ rw (unsigned_tied a.0 b.0, unsigned_tied a.1 b.1) refl

-- what comes no later has no greater enclave
pub up_to_enclave : (a b : ℕ × ℕ) → IsLeBy name_order a b → a.0 ≤ b.0
up_to_enclave a b up = elim (cases_order a.0 b.0) [
  | inl same ↦ omega arith
  | inr (inl less) ↦ omega arith
  | inr (inr more) ↦
      let bad : true ≡ false = ap (λ o. is_gt (ordering_then o (nat_cmp a.1 b.1))) (nat_cmp_is a.0 b.0 Greater more) ∙ up in absurd (true≢false bad)
]

-- an enclave's names begin with the call 0
pub from_enclave : (from e c : ℕ) → from ≤ e → IsLeBy name_order (from, 0) (e, c)
from_enclave from e c up = elim (cases_order from e) [
  | inl same ↦
      let first : nat_cmp from e ≡ Equal = sym (nat_cmp_is from e Equal same) in
      rw first (elim (cases_order 0 c) [
        | inl is ↦ let next : nat_cmp 0 c ≡ Equal = sym (nat_cmp_is 0 c Equal is) in rw next refl
        | inr (inl less) ↦ let next : nat_cmp 0 c ≡ Less = sym (nat_cmp_is 0 c Less less) in rw next refl
        | inr (inr more) ↦ absurd (omega arith)
      ])
  | inr (inl less) ↦ let first : nat_cmp from e ≡ Less = sym (nat_cmp_is from e Less less) in rw first refl
  | inr (inr more) ↦ absurd (omega arith)
]

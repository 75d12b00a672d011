-- The least segid of a process, from call to call.
use Rattle.std.proofs.Common.{◌≡◌, ◌-◌, ◌<◌, ℕ, Bool, true, false, cond, List, Option, None, Some, refl, sym, ap, ◌∙◌, inl, inr, arith}
use Rattle.std.specs.Prelude.{◌==◌, nat_lt, IfSome, IfNone, nat_abs}
use Rattle.std.specs.Option.{option_map}
use Rattle.std.proofs.lemmas.Bool.{and_parts, and_from, eq-eqb, ltb-true, le-leb, leb-true, lt-ltb, cases_order, false_from_ne_true}
use Rattle.xm_num.specs.declared.Segid.{Segid}
use Rattle.xm_num.specs.RowLaws.{RowLaws}
use Rattle.xm_num.specs.Rows.{at, IsAscending}
use Rattle.exporter_pins.specs.Holdings.{Export, has_segid, is_live_of, has_live, IsLeastLive}
use Rattle.number_pairs.specs.Pairs.{has_pair, is_after_last}
use Rattle.exporter_pins.specs.Layout.{lower_of, is_at_most, segid_in, AreMade, is_made_by}
use Rattle.exporter_pins.proofs.TableLemmas.{some_row, no_row, has_is}

-- how many numbers are above the last one
abbrev pub left_above : Option ℕ → ℕ
left_above None = 4294967296
left_above (Some a) = 4294967295 - a

lower_is : (P : ℕ → Type 0) (a b : Option ℕ) → IfSome a P → IfSome b P → IfSome (lower_of a b) P
lower_is P None b one other = other
lower_is P (Some a) None one other = one
lower_is P (Some a) (Some b) one other = by (nat_lt b a)
  where
    by : (t : Bool) → IfSome (cond t (Some b) (Some a)) P
    by true = other
    by false = one

lower_first : (a b : Option ℕ) (n : ℕ) → is_at_most a n ≡ true → is_at_most (lower_of a b) n ≡ true
lower_first None b n most = cc
lower_first (Some a) None n most = most
lower_first (Some a) (Some b) n most = by (nat_lt b a) refl
  where
    by : (t : Bool) → nat_lt b a ≡ t → is_at_most (cond t (Some b) (Some a)) n ≡ true
    by true is = le-leb b n (omega (arith, ltb-true b a is, leb-true a n most))
    by false is = most

lower_second : (a : Option ℕ) (n : ℕ) → is_at_most (lower_of a (Some n)) n ≡ true
lower_second None n = le-leb n n (omega arith)
lower_second (Some a) n = by (nat_lt n a) refl
  where
    by : (t : Bool) → nat_lt n a ≡ t → is_at_most (cond t (Some n) (Some a)) n ≡ true
    by true is = le-leb n n (omega arith)
    by false is = elim (cases_order a n) [
      | inl same ↦ le-leb a n (omega arith)
      | inr (inl less) ↦ le-leb a n (omega arith)
      | inr (inr more) ↦ absurd (let bad : true ≡ false = sym (lt-ltb n a more) ∙ is in (cc))
    ]

-- the number is the least live segid of the process among the calls up to the last one
pub record IsLowestTo (rows : List (ℕ × Export)) (pid : ℕ) (last lowest : Option ℕ) : Type 0 where
  pub here : IfSome lowest (λ n. has_live rows pid n ≡ true)
  pub least : (k n : ℕ) → is_after_last last k ≡ false → is_made_by pid (at rows k) ≡ true → segid_in (at rows k) ≡ Some n → is_at_most lowest n ≡ true

module _ (laws : RowLaws Export) (rows : List (ℕ × Export)) (made : List (ℕ × ℕ)) (are : AreMade rows made) (pid : ℕ) (last lowest : Option ℕ) (kept : IsLowestTo rows pid last lowest) where
  live_here : (k : ℕ) → is_made_by pid (at rows k) ≡ true → IfSome (segid_in (at rows k)) (λ n. has_live rows pid n ≡ true)
  live_here k its = by (at rows k) refl its
    where
      by : (o : Option Export) → at rows k ≡ o → is_made_by pid o ≡ true → IfSome (segid_in o) (λ n. has_live rows pid n ≡ true)
      by None here its = cc
      by (Some e) here its = segid e.segid refl
        where
          segid : (s : Option ℕ) → e.segid ≡ s → IfSome s (λ n. has_live rows pid n ≡ true)
          segid None is = tt
          segid (Some n) is = some_row laws (is_live_of pid n) rows k e here (and_from (e.pid == pid) (has_segid n e.segid) its (rw is (eq-eqb n n refl)))

  pub lowest_next : (call : ℕ) → has_pair made pid call ≡ true → ((b : ℕ) → is_after_last last b ≡ true → b < call → has_pair made pid b ≡ false) → IsLowestTo rows pid (Some call) (lower_of lowest (segid_in (at rows call)))
  lowest_next call pair between = record {
    here = lower_is (λ n. has_live rows pid n ≡ true) lowest (segid_in (at rows call)) kept.here (live_here call (sym (are pid call) ∙ pair));
    least = λ k n past its is. elim (cases_order k call) [
      | inl same ↦ rw (← same, is) (lower_second lowest n)
      | inr (inl less) ↦ lower_first lowest (segid_in (at rows call)) n (before k n less its is (is_after_last last k) refl)
      | inr (inr more) ↦ absurd (let bad : true ≡ false = sym (lt-ltb call k more) ∙ past in (cc))
    ];
  }
    where
      before : (k n : ℕ) → k < call → is_made_by pid (at rows k) ≡ true → segid_in (at rows k) ≡ Some n → (t : Bool) → is_after_last last k ≡ t → is_at_most lowest n ≡ true
      before k n less its is true above = absurd (let bad : true ≡ false = sym its ∙ sym (are pid k) ∙ between k above less in (cc))
      before k n less its is false above = kept.least k n above its is

  module _ (ascends : IsAscending rows) (none : (b : ℕ) → is_after_last last b ≡ true → has_pair made pid b ≡ false) where
    at_most : (n : ℕ) → has_live rows pid n ≡ true → (t : Bool) → is_at_most lowest n ≡ t → is_at_most lowest n ≡ true
    at_most n live true is = is
    at_most n live false is = absurd (let bad : true ≡ false = sym live ∙ no_row laws (is_live_of pid n) rows ascends (λ k e here. false_from_ne_true (is_live_of pid n e) (λ its. other k e here (and_parts (e.pid == pid) (has_segid n e.segid) its) (is_after_last last k) refl)) in (cc))
      where
        other : (k : ℕ) (e : Export) → at rows k ≡ Some e → ((e.pid == pid) ≡ true) × (has_segid n e.segid ≡ true) → (t : Bool) → is_after_last last k ≡ t → ⊥
        other k e here parts true above = let bad : true ≡ false = sym parts.0 ∙ ap (is_made_by pid) (sym here) ∙ sym (are pid k) ∙ none k above in cc
        other k e here parts false above = let bad : true ≡ false = sym (kept.least k n above (rw here parts.0) (rw here (has_is n e.segid parts.1))) ∙ is in cc

    pub lowest_most : (n : ℕ) → has_live rows pid n ≡ true → is_at_most lowest n ≡ true
    lowest_most n live = at_most n live (is_at_most lowest n) refl

-- the least of all calls
pub lowest_is : (rows : List (ℕ × Export)) (pid : ℕ) (last : Option ℕ) (o : Option Segid) → IsLowestTo rows pid last (option_map (λ s. nat_abs s.0) o) → ((n : ℕ) → has_live rows pid n ≡ true → is_at_most (option_map (λ s. nat_abs s.0) o) n ≡ true) → IfSome o (λ s. IsLeastLive rows pid (nat_abs s.0))
lowest_is rows pid last None kept most = tt
lowest_is rows pid last (Some s) kept most = record {
  here = kept.here;
  least = λ n live. leb-true (nat_abs s.0) n (most n live);
}

pub none_live : (rows : List (ℕ × Export)) (pid : ℕ) (o : Option Segid) → ((n : ℕ) → has_live rows pid n ≡ true → is_at_most (option_map (λ s. nat_abs s.0) o) n ≡ true) → IfNone o ((n : ℕ) → has_live rows pid n ≡ false)
none_live rows pid None most = λ n. false_from_ne_true (has_live rows pid n) (λ live. let bad : false ≡ true = most n live in cc)
none_live rows pid (Some s) most = tt

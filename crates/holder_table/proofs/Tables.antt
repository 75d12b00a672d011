-- Lists of entries in the order of their keys: what a look-up finds after a change, that look-ups tell the list, and
-- that what holds of some entry holds of one that is found.
use Rattle.std.proofs.Common.{◌≡◌, ◌<◌, Bool, true, false, cond, ◌||◌, List, [], ◌∷◌, None, Some, refl, sym, ap, ◌∙◌, true≢false, length, arith}
use Rattle.std.proofs.lemmas.Bool.{or_left, or_right}
use Rattle.std.proofs.lemmas.Map.{lookup-remove_entry, lookup-none}
use Rattle.std.proofs.lemmas.Map.Keys.{IsDistinct-from_sorted, sorted_tail}
use Rattle.std.proofs.lemmas.Map.Entries.{none_below_head, none_past_head}
use Rattle.std.proofs.lemmas.Cmp.{alike_right, eq_by_cmp_equiv, tied_itself}
use Rattle.std.specs.Cmp.{IsTotalOrder}
use Rattle.std.specs.declared.cmp.Ordering.{Ordering}
use Rattle.std.specs.declared.cmp.Ordering.TheVariants.{Less, Equal, Greater}
use Rattle.std.specs.Ordering.{is_eq, match_ordering, eq_by_cmp, ordering_reverse}
use Rattle.std.specs.BTreeMap.{insert_entry, is_at}
use Rattle.std.specs.Map.{lookup, remove_entry, keys_of}
use Rattle.std.specs.List.{list_any, AllByRecursion}
use Rattle.std.specs.List.Sorted.{IsStrictlySortedBy}

pub equal : (r : Ordering) → is_eq r ≡ true → r ≡ Equal
equal Less is = cc
equal Equal is = refl
equal Greater is = cc

-- an entry that is found is taken out
pub shorter : {K V : Type 0} (test : K → Bool) (es : List (K × V)) (v : V) → lookup test es ≡ Some v → length (remove_entry test es) < length es
shorter test [] v there = cc
shorter test (e ∷ es) v there = by (shorter test es v) (test e.0) there
  where
    by : (lookup test es ≡ Some v → length (remove_entry test es) < length es) → (t : Bool) → cond t (Some e.1) (lookup test es) ≡ Some v → length (cond t es (e ∷ remove_entry test es)) < length (e ∷ es)
    by more true there = omega arith
    by more false there = let less = more there in omega arith

module _ {K V : Type 0} where
  all_less : (P : K → Type 0) (es : List (K × V)) (t : K → Bool) → AllByRecursion P (keys_of es) → AllByRecursion P (keys_of (remove_entry t es))
  all_less P [] t all = tt
  all_less P (e ∷ es) t all = by (all_less P es t all.1) (t e.0)
    where
      by : AllByRecursion P (keys_of (remove_entry t es)) → (b : Bool) → AllByRecursion P (keys_of (cond b es (e ∷ remove_entry t es)))
      by more true = all.1
      by more false = (all.0, more)

  all_put : (R : K → K → Ordering) (P : K → Type 0) (es : List (K × V)) (k : K) (v : V) → P k → AllByRecursion P (keys_of es) → AllByRecursion P (keys_of (insert_entry R es k v))
  all_put R P [] k v p all = (p, tt)
  all_put R P (e ∷ es) k v p all = by (all_put R P es k v p all.1) (R k e.0)
    where
      by : AllByRecursion P (keys_of (insert_entry R es k v)) → (r : Ordering) → AllByRecursion P (keys_of (match_ordering r ((k, v) ∷ e ∷ es) ((e.0, v) ∷ es) (e ∷ insert_entry R es k v)))
      by more Less = (p, all)
      by more Equal = all
      by more Greater = (all.0, more)

module _ {K : Type 0} {R : K → K → Ordering} (o : IsTotalOrder R) where
  all_after : (k e : K) (ks : List K) → R k e ≡ Less → AllByRecursion (λ y. R e y ≡ Less) ks → AllByRecursion (λ y. R k y ≡ Less) ks
  all_after k e [] is all = tt
  all_after k e (q ∷ ks) is all = (o.trans k e q is all.0, all_after k e ks is all.1)

module _ {K V : Type 0} {R : K → K → Ordering} (o : IsTotalOrder R) where
  pub sorted_put : (es : List (K × V)) (k : K) (v : V) → IsStrictlySortedBy R (keys_of es) → IsStrictlySortedBy R (keys_of (insert_entry R es k v))
  unfolding IsStrictlySortedBy
  sorted_put [] k v s = (tt, tt)
  sorted_put (e ∷ es) k v s = by (sorted_put es k v s.1) (R k e.0) refl
    where
      back : R k e.0 ≡ Greater → R e.0 k ≡ Less
      back is = o.antisymm e.0 k ∙ ap ordering_reverse is

      by : IsStrictlySortedBy R (keys_of (insert_entry R es k v)) → (r : Ordering) → R k e.0 ≡ r → IsStrictlySortedBy R (keys_of (match_ordering r ((k, v) ∷ e ∷ es) ((e.0, v) ∷ es) (e ∷ insert_entry R es k v)))
      by more Less is = ((is, all_after o k e.0 (keys_of es) is s.0), s)
      by more Equal is = s
      by more Greater is = (all_put R (λ y. R e.0 y ≡ Less) es k v (back is) s.0, more)

  pub sorted_less : (es : List (K × V)) (t : K → Bool) → IsStrictlySortedBy R (keys_of es) → IsStrictlySortedBy R (keys_of (remove_entry t es))
  unfolding IsStrictlySortedBy
  sorted_less [] t s = tt
  sorted_less (e ∷ es) t s = by (sorted_less es t s.1) (t e.0)
    where
      by : IsStrictlySortedBy R (keys_of (remove_entry t es)) → (b : Bool) → IsStrictlySortedBy R (keys_of (cond b es (e ∷ remove_entry t es)))
      by more true = s.1
      by more false = (all_less (λ y. R e.0 y ≡ Less) es t s.0, more)

  pub lookup_put : (es : List (K × V)) (k : K) (v : V) (q : K) → lookup (is_at (R q)) (insert_entry R es k v) ≡ cond (is_eq (R q k)) (Some v) (lookup (is_at (R q)) es)
  lookup_put [] k v q = refl
  lookup_put (e ∷ es) k v q = by (lookup_put es k v q) (R k e.0) refl
    where
      twice : {A : Type 0} (b : Bool) (x y z : A) → cond b x z ≡ cond b x (cond b y z)
      twice true x y z = refl
      twice false x y z = refl

      swap : {A : Type 0} (a b : Bool) (x y z : A) → (a ≡ true → b ≡ true → ⊥) → cond a x (cond b y z) ≡ cond b y (cond a x z)
      swap true true x y z no_both = absurd (no_both refl refl)
      swap true false x y z no_both = refl
      swap false b x y z no_both = refl

      apart : R k e.0 ≡ Greater → is_eq (R q e.0) ≡ true → is_eq (R q k) ≡ true → ⊥
      apart is one two =
          let same : R q e.0 ≡ R k e.0 = o.congr q k e.0 (equal (R q k) two) in
          let clash : Equal ≡ Greater = sym (equal (R q e.0) one) ∙ same ∙ is in cc

      by : lookup (is_at (R q)) (insert_entry R es k v) ≡ cond (is_eq (R q k)) (Some v) (lookup (is_at (R q)) es) → (r : Ordering) → R k e.0 ≡ r
          → lookup (is_at (R q)) (match_ordering r ((k, v) ∷ e ∷ es) ((e.0, v) ∷ es) (e ∷ insert_entry R es k v)) ≡ cond (is_eq (R q k)) (Some v) (lookup (is_at (R q)) (e ∷ es))
      by more Less is = refl
      by more Equal is = rw (alike_right o k e.0 q is) (twice (is_eq (R q e.0)) (Some v) (Some e.1) (lookup (is_at (R q)) es))
      by more Greater is = rw more (swap (is_eq (R q e.0)) (is_eq (R q k)) (Some e.1) (Some v) (lookup (is_at (R q)) es) (apart is))

  pub lookup_less : (es : List (K × V)) (k q : K) → IsStrictlySortedBy R (keys_of es) → lookup (is_at (R q)) (remove_entry (is_at (R k)) es) ≡ cond (is_eq (R k q)) None (lookup (is_at (R q)) es)
  lookup_less es k q s = lookup-remove_entry (eq_by_cmp_equiv o) (is_at (R k)) one q es (IsDistinct-from_sorted R (keys_of es) s)
    where
      one : (x y : K) → is_at (R k) x ≡ true → is_at (R k) y ≡ eq_by_cmp R x y
      one x y is = ap is_eq (o.congr k x y (equal (R k x) is))

module _ {K V : Type 0} {R : K → K → Ordering} (o : IsTotalOrder R) (exact : (x y : K) → R x y ≡ Equal → x ≡ y) where
  own : (e : K × V) (es : List (K × V)) → lookup (is_at (R e.0)) (e ∷ es) ≡ Some e.1
  own e es = rw (tied_itself o e.0) refl

  none_under : (k : K) (e : K × V) (es : List (K × V)) → IsStrictlySortedBy R (keys_of (e ∷ es)) → R k e.0 ≡ Less → lookup (is_at (R k)) (e ∷ es) ≡ None
  none_under k e es s is = lookup-none (is_at (R k)) (e ∷ es) (none_below_head o k e es s is)

  none_after : (e : K × V) (es : List (K × V)) → IsStrictlySortedBy R (keys_of (e ∷ es)) → lookup (is_at (R e.0)) es ≡ None
  none_after e es s = lookup-none (is_at (R e.0)) es (none_past_head (eq_by_cmp_equiv o) e.0 e es (IsDistinct-from_sorted R (keys_of (e ∷ es)) s) (rw (tied_itself o e.0) refl))

  tails : (d e : K × V) (xs ys : List (K × V)) → d.0 ≡ e.0 → lookup (is_at (R d.0)) xs ≡ None → lookup (is_at (R e.0)) ys ≡ None
      → ((k : K) → lookup (is_at (R k)) (d ∷ xs) ≡ lookup (is_at (R k)) (e ∷ ys)) → (k : K) → lookup (is_at (R k)) xs ≡ lookup (is_at (R k)) ys
  tails d e xs ys is nx ny h k = by (R k d.0) refl
    where
      other : is_eq (R k d.0) ≡ false → lookup (is_at (R k)) xs ≡ lookup (is_at (R k)) ys
      other one =
          let two : is_eq (R k e.0) ≡ false = rw (← is) one in
          let left : lookup (is_at (R k)) (d ∷ xs) ≡ lookup (is_at (R k)) xs = rw one refl in
          let right : lookup (is_at (R k)) (e ∷ ys) ≡ lookup (is_at (R k)) ys = rw two refl in
          sym left ∙ h k ∙ right

      by : (r : Ordering) → R k d.0 ≡ r → lookup (is_at (R k)) xs ≡ lookup (is_at (R k)) ys
      by Equal eq =
          let same = exact k d.0 eq in
          let also = same ∙ is in
          let one : lookup (is_at (R k)) xs ≡ None = rw same nx in
          let two : lookup (is_at (R k)) ys ≡ None = rw also ny in
          one ∙ sym two
      by Less eq = other (rw eq refl)
      by Greater eq = other (rw eq refl)

  pub same_entries : (xs ys : List (K × V)) → IsStrictlySortedBy R (keys_of xs) → IsStrictlySortedBy R (keys_of ys) → ((k : K) → lookup (is_at (R k)) xs ≡ lookup (is_at (R k)) ys) → xs ≡ ys
  same_entries [] [] s t h = refl
  same_entries [] (e ∷ ys) s t h = absurd (let bad : None ≡ Some e.1 = h e.0 ∙ own e ys in (cc))
  same_entries (d ∷ xs) [] s t h = absurd (let bad : Some d.1 ≡ None = sym (own d xs) ∙ h d.0 in (cc))
  same_entries (d ∷ xs) (e ∷ ys) s t h =
      by (R d.0 e.0) refl (λ is. same_entries xs ys (sorted_tail R d.0 (keys_of xs) s) (sorted_tail R e.0 (keys_of ys) t) (tails d e xs ys (exact d.0 e.0 is) (none_after d xs s) (none_after e ys t) h))
    where
      by : (r : Ordering) → R d.0 e.0 ≡ r → (R d.0 e.0 ≡ Equal → xs ≡ ys) → d ∷ xs ≡ e ∷ ys
      by Equal is more =
          let key = exact d.0 e.0 is in
          let found : lookup (is_at (R d.0)) (e ∷ ys) ≡ Some e.1 = rw is refl in
          let values : Some d.1 ≡ Some e.1 = sym (own d xs) ∙ h d.0 ∙ found in
          let value : d.1 ≡ e.1 = cc in
          (λ i. (key i, value i) ∷ more is i)
      by Less is more = absurd (let bad : Some d.1 ≡ None = sym (own d xs) ∙ h d.0 ∙ none_under d.0 e ys t is in (cc))
      by Greater is more = absurd (let bad : None ≡ Some e.1 = sym (none_under e.0 d xs s (o.antisymm e.0 d.0 ∙ ap ordering_reverse is)) ∙ h e.0 ∙ own e ys in (cc))

  -- what is found passes, so some entry does
  pub found : (test : K × V → Bool) (es : List (K × V)) (k : K) (v : V) → lookup (is_at (R k)) es ≡ Some v → test (k, v) ≡ true → list_any test es ≡ true
  found test [] k v there passes = cc
  found test (e ∷ es) k v there passes = by (λ later. found test es k v later passes) (R k e.0) refl there
    where
      by : (lookup (is_at (R k)) es ≡ Some v → list_any test es ≡ true) → (r : Ordering) → R k e.0 ≡ r → cond (is_eq r) (Some e.1) (lookup (is_at (R k)) es) ≡ Some v → (test e || list_any test es) ≡ true
      by more Less is later = or_right (test e) (list_any test es) (more later)
      by more Greater is later = or_right (test e) (list_any test es) (more later)
      by more Equal is here =
          let key : e.0 ≡ k = sym (exact k e.0 is) in
          let value : e.1 ≡ v = cc in
          let its : e ≡ (k, v) = (λ i. (key i, value i)) in
          or_left (test e) (list_any test es) (rw its passes)

  -- an entry that passes is found
  abbrev pub IsSeen : (K × V → Bool) → List (K × V) → Type 0
  IsSeen test es = (k : K) × (v : V) × (lookup (is_at (R k)) es ≡ Some v) × (test (k, v) ≡ true)

  behind : (e : K × V) (es : List (K × V)) → IsStrictlySortedBy R (keys_of (e ∷ es)) → (k : K) (v : V) → lookup (is_at (R k)) es ≡ Some v → lookup (is_at (R k)) (e ∷ es) ≡ Some v
  behind e es s k v there = by (R k e.0) refl
    where
      by : (r : Ordering) → R k e.0 ≡ r → cond (is_eq r) (Some e.1) (lookup (is_at (R k)) es) ≡ Some v
      by Less is = there
      by Greater is = there
      by Equal is =
          let key : k ≡ e.0 = exact k e.0 is in
          let gone : lookup (is_at (R k)) es ≡ None = rw key (none_after e es s) in
          absurd (let bad : None ≡ Some v = sym gone ∙ there in (cc))

  pub seen : (test : K × V → Bool) (es : List (K × V)) → IsStrictlySortedBy R (keys_of es) → list_any test es ≡ true → IsSeen test es
  seen test [] s some = absurd (true≢false (sym some))
  seen test (e ∷ es) s some = by (seen test es (sorted_tail R e.0 (keys_of es) s)) (test e) refl some
    where
      by : (list_any test es ≡ true → IsSeen test es) → (t : Bool) → test e ≡ t → (t || list_any test es) ≡ true → IsSeen test (e ∷ es)
      by more true is some = (e.0, e.1, own e es, is)
      by more false is some = let one = more some in (one.0, one.1, behind e es s one.0 one.1 one.2, one.3)

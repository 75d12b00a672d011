-- Between two numbers of a tree there is one path without repeats; and who stands above whom.
use Rattle.std.proofs.Common.{suc, zero, ◌≡◌, ◌≢◌, ◌+◌, ◌<◌, ◌≤◌, ℕ, List, [], ◌∷◌, Bool, true, false, ◌&&◌, ◌||◌, ltb, eqb, refl, sym, ap, ◌∙◌, subst, inl, inr, arith}
use Rattle.std.specs.List.{AllByRecursion}
use Rattle.std.proofs.lemmas.Bool.{cases_eq, cases_order, eqb-true, eq-eqb, ltb-true, lt-ltb, le-ltb, and_parts, or_cases}
use Rattle.global_model.specs.Tree.{IsRooted, AreNear, AreLinked, AreDistinct, IsPath, last_or, path, hop, distance, is_above, is_above_within}
use Rattle.global_model.proofs.Paths.{IsNearer, near_hop, near_sides, path_on, path_same, hop_nearer}

-- ---- the path is one

-- and comes nearer to its end all along
record IsRoad (parent : ℕ → ℕ) (a b : ℕ) (ws : List ℕ) : Type 0 where
  is : IsPath parent a b ws
  within : AllByRecursion (λ e. distance parent e b ≤ distance parent a b) ws

all_more : (P Q : ℕ → Type 0) (ws : List ℕ) → ((e : ℕ) → P e → Q e) → AllByRecursion P ws → AllByRecursion Q ws
all_more P Q [] more all = tt
all_more P Q (w ∷ ws) more all = (more w all.0, all_more P Q ws more all.1)

road_alone : (parent : ℕ → ℕ) (a b : ℕ) → a ≡ b → IsRoad parent a b (path parent a b)
road_alone parent a b same =
    let alone : path parent a b ≡ a ∷ [] = subst (λ c. path parent a c ≡ a ∷ []) same (path_same parent a) in
    subst (IsRoad parent a b) (sym alone) (record {
      is = record { behind = []; begins = refl; ends = same; linked = tt; distinct = (tt, tt) };
      within = (omega arith, tt);
    })

road_longer : (parent : ℕ → ℕ) (a c b : ℕ) (ws : List ℕ) → AreNear parent a c → distance parent a b ≡ distance parent c b + 1 → IsRoad parent c b ws
    → IsRoad parent a b (a ∷ ws)
road_longer parent a c b ws near nearer road =
    let behind = road.is.behind in
    let apart : (e : ℕ) → distance parent e b ≤ distance parent c b → a ≢ e
    = λ e less same. let clash : distance parent a b ≡ distance parent e b = ap (λ n. distance parent n b) same in omega (arith, clash, less, nearer) in
    record {
      is = record {
        behind = ws;
        begins = refl;
        ends = rw road.is.begins road.is.ends;
        linked = rw road.is.begins (near, rw road.is.begins at road.is.linked);
        distinct = (all_more (λ e. distance parent e b ≤ distance parent c b) (λ e. a ≢ e) ws apart road.within, road.is.distinct);
      };
      within = (
        omega arith,
        all_more (λ e. distance parent e b ≤ distance parent c b) (λ e. distance parent e b ≤ distance parent a b) ws
            (λ e less. omega (arith, less, nearer)) road.within,
      );
    }

road : (parent : ℕ → ℕ) (n a b : ℕ) → IsRooted parent → distance parent a b ≤ n → IsRoad parent a b (path parent a b)
road parent zero a b tree few = elim (cases_eq a b) [
  | inl same ↦ road_alone parent a b same
  | inr apart ↦ let nearer = hop_nearer parent a b tree apart in absurd (omega (arith, nearer, few))
]
road parent (suc n) a b tree few = elim (cases_eq a b) [
  | inl same ↦ road_alone parent a b same
  | inr apart ↦
      let nearer = hop_nearer parent a b tree apart in
      let c = hop parent a b in
      subst (IsRoad parent a b) (sym (path_on parent a b tree apart))
      (road_longer parent a c b (path parent c b) (near_hop parent b a b tree (omega arith) apart) nearer
      (road parent n c b tree (omega (arith, nearer, few))))
]

pub path_is : (parent : ℕ → ℕ) (a b : ℕ) → IsRooted parent → IsPath parent a b (path parent a b)
path_is parent a b tree = (road parent (distance parent a b) a b tree (omega arith)).is

-- ---- and there is no other

-- who goes away from b doesn't come to it
away : (parent : ℕ → ℕ) (b x y : ℕ) (ws : List ℕ) → IsRooted parent → IsNearer parent y b x → AreLinked parent (x ∷ y ∷ ws) → AreDistinct (x ∷ y ∷ ws)
    → last_or y ws ≢ b
away parent b x y [] tree back linked distinct = back.apart
away parent b x y (z ∷ ws) tree back linked distinct = elim (near_sides parent y z b tree linked.1.0) [
  | inl on ↦ absurd (distinct.0.1.0 (back.next ∙ sym on.next))
  | inr further ↦ away parent b y z ws tree further linked.1 distinct.1
]

-- who stands at the end doesn't go on
home : (parent : ℕ → ℕ) (b c : ℕ) (ws : List ℕ) → IsRooted parent → AreLinked parent (b ∷ c ∷ ws) → AreDistinct (b ∷ c ∷ ws) → last_or c ws ≢ b
home parent b c ws tree linked distinct = elim (near_sides parent b c b tree linked.0) [
  | inl on ↦ absurd (on.apart refl)
  | inr back ↦ away parent b b c ws tree back linked distinct
]

one_path : (parent : ℕ → ℕ) (a b : ℕ) (ws : List ℕ) → IsRooted parent → last_or a ws ≡ b → AreLinked parent (a ∷ ws) → AreDistinct (a ∷ ws)
    → a ∷ ws ≡ path parent a b
one_path parent a b [] tree ends linked distinct = subst (λ c. a ∷ [] ≡ path parent a c) ends (sym (path_same parent a))
one_path parent a b (c ∷ ws) tree ends linked distinct = elim (cases_eq a b) [
  | inl same ↦ absurd (home parent a c ws tree linked distinct (ends ∙ sym same))
  | inr apart ↦ elim (near_sides parent a c b tree linked.0) [
    | inl on ↦
        ap (λ ws. a ∷ ws) (one_path parent c b ws tree ends linked.1 distinct.1)
        ∙ ap (λ e. a ∷ path parent e b) on.next ∙ sym (path_on parent a b tree apart)
    | inr back ↦ absurd (away parent b a c ws tree back linked distinct ends)
  ]
]

pub path_only : (parent : ℕ → ℕ) (a b : ℕ) (ws : List ℕ) → IsRooted parent → IsPath parent a b ws → ws ≡ path parent a b
path_only parent a b ws tree is =
    is.begins ∙ one_path parent a b is.behind tree is.ends (subst (AreLinked parent) is.begins is.linked) (subst AreDistinct is.begins is.distinct)

-- ---- who stands above whom

-- nobody stands above a lower number
above_low : (parent : ℕ → ℕ) (n a e : ℕ) → is_above_within n parent a e ≡ true → a ≤ e
above_low parent zero a e is = let same = eqb-true a e is in omega (arith, same)
above_low parent (suc n) a e is = elim (or_cases (eqb a e) (ltb a e && is_above_within n parent a (parent e)) is) [
  | inl same ↦ let here = eqb-true a e same in omega (arith, here)
  | inr over ↦ let less = ltb-true a e (and_parts (ltb a e) _ over).0 in omega (arith, less)
]

none_above : (parent : ℕ → ℕ) (n a e : ℕ) → e ≤ 0 → is_above_within (suc n) parent a e ≡ eqb a e
none_above parent n a e zero_e = rw (le-ltb a e (omega (arith, zero_e))) (by (eqb a e))
  where
    by : (t : Bool) → (t || false) ≡ t
    by true = refl
    by false = refl

-- more steps than there are change nothing
above_enough : (parent : ℕ → ℕ) → IsRooted parent → (n m a e : ℕ) → e ≤ n → e ≤ m → is_above_within n parent a e ≡ is_above_within m parent a e
above_enough parent tree zero zero a e le le' = refl
above_enough parent tree zero (suc m) a e le le' = sym (none_above parent m a e (omega (arith, le)))
above_enough parent tree (suc n) zero a e le le' = none_above parent n a e (omega (arith, le'))
above_enough parent tree (suc n) (suc m) a e le le' = elim (cases_order a e) [
  | inl same ↦ rw (eq-eqb a e same) refl
  | inr (inl under) ↦
      let up = tree.lower e (omega (arith, under)) in
      ap (λ t. eqb a e || ltb a e && t) (above_enough parent tree n m a (parent e) (omega (arith, le, up)) (omega (arith, le', up)))
  | inr (inr over) ↦ rw (le-ltb a e (omega (arith, over))) refl
]

-- who stands above an enclave but 0 is it itself, or stands above its parent
pub above_parent : (parent : ℕ → ℕ) (a e : ℕ) → IsRooted parent → 0 < e → is_above parent a e ≡ (eqb a e || is_above parent a (parent e))
above_parent parent a zero tree some = absurd (omega (arith, some))
above_parent parent a (suc e) tree some =
    let up = tree.lower (suc e) some in
    let same : is_above_within e parent a (parent (suc e)) ≡ is_above parent a (parent (suc e))
    = above_enough parent tree e (parent (suc e)) a (parent (suc e)) (omega (arith, up)) (omega arith) in
    ap (λ t. eqb a (suc e) || ltb a (suc e) && t) same
    ∙ ap (λ t. eqb a (suc e) || t) (by (is_above parent a (parent (suc e))) (λ above. let low = above_low parent (parent (suc e)) a (parent (suc e)) above in
    lt-ltb a (suc e) (omega (arith, low, up))))
  where
    by : (t : Bool) → (t ≡ true → ltb a (suc e) ≡ true) → (ltb a (suc e) && t) ≡ t
    by true below = rw (below refl) refl
    by false below = and_false (ltb a (suc e))
      where
        and_false : (t : Bool) → (t && false) ≡ false
        and_false true = refl
        and_false false = refl

-- only 0 stands above 0
pub above_zero : (parent : ℕ → ℕ) (a : ℕ) → is_above parent a 0 ≡ eqb a 0
above_zero parent a = refl

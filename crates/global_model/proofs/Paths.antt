-- The path between two numbers of a tree.
use Rattle.std.proofs.Common.{suc, zero, ◌≡◌, ◌≢◌, ◌⊎◌, ◌+◌, ◌-◌, ◌<◌, ◌≤◌, ℕ, List, [], ◌∷◌, ◌++◌, length, Option, None, Some, not, Bool, true, eqb, refl, sym, ap, ◌∙◌, subst, inl, inr, arith, eqb-true, eq-eqb, ne_eqb, lt-ltb, le-ltb, length-append}
use Rattle.std.proofs.lemmas.Bool.{and_parts, or_cases, not-true, cases_eq, cases_order, eqb-false}
use Rattle.std.specs.List.{AllByRecursion}
use Rattle.global_model.specs.Facts.{Facts, EnclaveFact, fact_of, has_parent}
use Rattle.global_model.specs.Channels.{is_child_of, is_neighbour}
use Rattle.global_model.specs.Flow.{IsTree}
use Rattle.global_model.specs.Tree.{IsRooted, AreNear, path_within, path, second_or, hop, distance, parent_of, IsToward}

-- ---- the three cases of a path

-- more steps than there are change nothing
enough : (parent : ℕ → ℕ) → IsRooted parent → (n m a b : ℕ) → a + b ≤ n → a + b ≤ m → path_within n parent a b ≡ path_within m parent a b
enough parent tree zero zero a b le le' = refl
enough parent tree zero (suc m) a b le le' = let is : a ≡ b = omega (arith, le) in rw (eq-eqb a b is) refl
enough parent tree (suc n) zero a b le le' = let is : a ≡ b = omega (arith, le') in rw (eq-eqb a b is) refl
enough parent tree (suc n) (suc m) a b le le' = elim (cases_order a b) [
  | inl is ↦ rw (eq-eqb a b is) refl
  | inr (inl under) ↦
      let up = tree.lower b (omega (arith, under)) in
      rw (ne_eqb a b (λ is. omega (arith, is, under)), le-ltb b a (omega (arith, under)))
      (ap (λ ws. ws ++ b ∷ []) (enough parent tree n m a (parent b) (omega (arith, le, up)) (omega (arith, le', up))))
  | inr (inr over) ↦
      let up = tree.lower a (omega (arith, over)) in
      rw (ne_eqb a b (λ is. omega (arith, is, over)), lt-ltb b a over)
      (ap (λ ws. a ∷ ws) (enough parent tree n m (parent a) b (omega (arith, le, up)) (omega (arith, le', up))))
]

pub path_same : (parent : ℕ → ℕ) (a : ℕ) → path parent a a ≡ a ∷ []
path_same parent a = by (a + a)
  where
    by : (n : ℕ) → path_within n parent a a ≡ a ∷ []
    by zero = refl
    by (suc n) = rw (eq-eqb a a refl) refl

pub path_up : (parent : ℕ → ℕ) (a b : ℕ) → IsRooted parent → b < a → path parent a b ≡ a ∷ path parent (parent a) b
path_up parent a b tree over =
    let up = tree.lower a (omega (arith, over)) in
    let more : path_within (a + b) parent (parent a) b ≡ path parent (parent a) b
    = enough parent tree (a + b) (parent a + b) (parent a) b (omega (arith, up)) (omega arith) in
    let first : path_within (suc (a + b)) parent a b ≡ a ∷ path_within (a + b) parent (parent a) b
    = rw (ne_eqb a b (λ is. omega (arith, is, over)), lt-ltb b a over) refl in
    enough parent tree (a + b) (suc (a + b)) a b (omega arith) (omega arith) ∙ first ∙ ap (λ ws. a ∷ ws) more

pub path_down : (parent : ℕ → ℕ) (a b : ℕ) → IsRooted parent → a < b → path parent a b ≡ path parent a (parent b) ++ b ∷ []
path_down parent a b tree under =
    let up = tree.lower b (omega (arith, under)) in
    let more : path_within (a + b) parent a (parent b) ≡ path parent a (parent b)
    = enough parent tree (a + b) (a + parent b) a (parent b) (omega (arith, up)) (omega arith) in
    let first : path_within (suc (a + b)) parent a b ≡ path_within (a + b) parent a (parent b) ++ b ∷ []
    = rw (ne_eqb a b (λ is. omega (arith, is, under)), le-ltb b a (omega (arith, under))) refl in
    enough parent tree (a + b) (suc (a + b)) a b (omega arith) (omega arith) ∙ first ∙ ap (λ ws. ws ++ b ∷ []) more

-- ---- what a path begins with

-- a path begins with its first end, and where its ends are two, with the next enclave behind it
record IsBegun (parent : ℕ → ℕ) (a b : ℕ) : Type 0 where
  more : List ℕ
  is : path parent a b ≡ a ∷ more
  some : a ≢ b → 1 ≤ length more

begun : (parent : ℕ → ℕ) (n a b : ℕ) → IsRooted parent → a + b ≤ n → IsBegun parent a b
begun parent zero a b tree le =
    let is : a ≡ b = omega (arith, le) in
    record { more = []; is = subst (λ c. path parent a c ≡ a ∷ []) is (path_same parent a); some = λ apart. absurd (apart is) }
begun parent (suc n) a b tree le = elim (cases_order a b) [
  | inl is ↦ record { more = []; is = subst (λ c. path parent a c ≡ a ∷ []) is (path_same parent a); some = λ apart. absurd (apart is) }
  | inr (inl under) ↦
      let up = tree.lower b (omega (arith, under)) in
      let shorter = begun parent n a (parent b) tree (omega (arith, le, up)) in
      record {
        more = shorter.more ++ b ∷ [];
        is = path_down parent a b tree under ∙ ap (λ ws. ws ++ b ∷ []) shorter.is;
        some = λ apart. omega (arith, length-append shorter.more (b ∷ []));
      }
  | inr (inr over) ↦
      let up = tree.lower a (omega (arith, over)) in
      let shorter = begun parent n (parent a) b tree (omega (arith, le, up)) in
      record { more = path parent (parent a) b; is = path_up parent a b tree over; some = λ apart. rw shorter.is (omega arith) }
]

some_path : (parent : ℕ → ℕ) (a b : ℕ) → IsRooted parent → 1 ≤ length (path parent a b)
some_path parent a b tree = rw (begun parent (a + b) a b tree (omega arith)).is (omega arith)

-- ---- the three cases of the next enclave, and of the distance

pub hop_up : (parent : ℕ → ℕ) (a b : ℕ) → IsRooted parent → b < a → hop parent a b ≡ parent a
hop_up parent a b tree over =
    let shorter = begun parent (parent a + b) (parent a) b tree (omega arith) in
    rw (path_up parent a b tree over, shorter.is) refl

pub hop_child : (parent : ℕ → ℕ) (a b : ℕ) → IsRooted parent → a < b → parent b ≡ a → hop parent a b ≡ b
hop_child parent a b tree under is =
    let alone : path parent a (parent b) ≡ a ∷ [] = rw is (path_same parent a) in
    rw (path_down parent a b tree under, alone) refl

second-append : (none b : ℕ) (first : ℕ) (more : List ℕ) → 1 ≤ length more → second_or none (first ∷ more ++ b ∷ []) ≡ second_or none (first ∷ more)
second-append none b first [] some = absurd (omega (arith, some))
second-append none b first (second ∷ more) some = refl

pub hop_down : (parent : ℕ → ℕ) (a b : ℕ) → IsRooted parent → a < b → parent b ≢ a → hop parent a b ≡ hop parent a (parent b)
hop_down parent a b tree under other =
    let shorter = begun parent (a + parent b) a (parent b) tree (omega arith) in
    let apart : a ≢ parent b = λ is. other (sym is) in
    rw (path_down parent a b tree under, shorter.is) (second-append a b a shorter.more (shorter.some apart))

pub far_same : (parent : ℕ → ℕ) (a : ℕ) → distance parent a a ≡ 0
far_same parent a = rw (path_same parent a) refl

pub far_up : (parent : ℕ → ℕ) (a b : ℕ) → IsRooted parent → b < a → distance parent a b ≡ distance parent (parent a) b + 1
far_up parent a b tree over =
    let some = some_path parent (parent a) b tree in
    rw (path_up parent a b tree over) (omega (arith, some))

pub far_down : (parent : ℕ → ℕ) (a b : ℕ) → IsRooted parent → a < b → distance parent a b ≡ distance parent a (parent b) + 1
far_down parent a b tree under =
    let some = some_path parent a (parent b) tree in
    let longer = length-append (path parent a (parent b)) (b ∷ []) in
    rw (path_down parent a b tree under) (omega (arith, some, longer))

-- ---- the two sides of a channel

-- y is the next enclave from x toward d, and nearer to it
pub record IsNearer (parent : ℕ → ℕ) (x d y : ℕ) : Type 0 where
  pub apart : x ≢ d
  pub next : y ≡ hop parent x d
  pub nearer : distance parent x d ≡ distance parent y d + 1

abbrev AreSides : (ℕ → ℕ) → ℕ → ℕ → ℕ → Type 0
AreSides parent x y d = IsNearer parent x d y ⊎ IsNearer parent y d x

-- of a child and its parent each is next from the other to those on its own side
child_over : (parent : ℕ → ℕ) (c d : ℕ) → IsRooted parent → d < c → IsNearer parent c d (parent c)
child_over parent c d tree over
    = record { apart = λ is. omega (arith, is, over); next = sym (hop_up parent c d tree over); nearer = far_up parent c d tree over }

child_itself : (parent : ℕ → ℕ) (c : ℕ) → IsRooted parent → 0 < c → IsNearer parent (parent c) c c
child_itself parent c tree some =
    let up : parent c < c = tree.lower c some in
    record {
      apart = λ is. omega (arith, is, up);
      next = sym (hop_child parent (parent c) c tree up refl);
      nearer = far_down parent (parent c) c tree up ∙ rw (far_same parent (parent c), far_same parent c) refl;
    }

-- whoever is next to the parent of one below is next to that one
child_below : (parent : ℕ → ℕ) (c d : ℕ) → IsRooted parent → 0 < c → c < d → AreSides parent c (parent c) (parent d)
    → AreSides parent c (parent c) d
child_below parent c d tree some under (inl up) =
    let shorter = far_down parent c d tree under in
    let above : parent c < d = omega (arith, tree.lower c some, under) in
    let longer = far_down parent (parent c) d tree above in
    inl (record {
      apart = λ is. omega (arith, is, under);
      next = up.next ∙ sym (hop_down parent c d tree under (λ is. up.apart (sym is)));
      nearer = omega (arith, shorter, longer, up.nearer);
    })
child_below parent c d tree some under (inr down) =
    let shorter = far_down parent c d tree under in
    let above : parent c < d = omega (arith, tree.lower c some, under) in
    let longer = far_down parent (parent c) d tree above in
    inr (record {
      apart = λ is. omega (arith, is, above);
      next = down.next ∙ sym (hop_down parent (parent c) d tree above (λ is. down.apart (sym is)));
      nearer = omega (arith, shorter, longer, down.nearer);
    })

child_sides : (parent : ℕ → ℕ) (n c d : ℕ) → IsRooted parent → 0 < c → d ≤ n → AreSides parent c (parent c) d
child_sides parent zero c d tree some le = inl (child_over parent c d tree (omega (arith, some, le)))
child_sides parent (suc n) c d tree some le = elim (cases_order c d) [
  | inl is ↦ inr (subst (λ e. IsNearer parent (parent c) e c) is (child_itself parent c tree some))
  | inr (inl under) ↦
      let up = tree.lower d (omega (arith, under)) in
      child_below parent c d tree some under (child_sides parent n c (parent d) tree some (omega (arith, le, up)))
  | inr (inr over) ↦ inl (child_over parent c d tree over)
]

other_side : (parent : ℕ → ℕ) (x y d : ℕ) → AreSides parent x y d → AreSides parent y x d
other_side parent x y d (inl one) = inr one
other_side parent x y d (inr other) = inl other

-- of two neighbours one is next from the other to any enclave, and nearer
pub near_sides : (parent : ℕ → ℕ) (x y d : ℕ) → IsRooted parent → AreNear parent x y → AreSides parent x y d
near_sides parent x y d tree (inl up) = subst (λ z. AreSides parent x z d) up.1 (child_sides parent d x d tree up.0 (omega arith))
near_sides parent x y d tree (inr down)
    = other_side parent y x d (subst (λ z. AreSides parent y z d) down.1 (child_sides parent d y d tree down.0 (omega arith)))

-- ---- the next enclave is a neighbour

pub near_hop : (parent : ℕ → ℕ) (n x d : ℕ) → IsRooted parent → d ≤ n → x ≢ d → AreNear parent x (hop parent x d)
near_hop parent zero x d tree le apart =
    let over : d < x = omega (arith, le, apart) in
    rw (hop_up parent x d tree over) (inl (omega (arith, over), refl))
near_hop parent (suc n) x d tree le apart = elim (cases_order x d) [
  | inl is ↦ absurd (apart is)
  | inr (inl under) ↦ elim (cases_eq (parent d) x) [
    | inl is ↦ rw (hop_child parent x d tree under is) (inr (omega (arith, under), is))
    | inr other ↦
        let up = tree.lower d (omega (arith, under)) in
        rw (hop_down parent x d tree under other) (near_hop parent n x (parent d) tree (omega (arith, le, up)) (λ is. other (sym is)))
  ]
  | inr (inr over) ↦ rw (hop_up parent x d tree over) (inl (omega (arith, over), refl))
]

-- it has no higher number than any above both ends
pub hop_below : (parent : ℕ → ℕ) (most n x d : ℕ) → IsRooted parent → d ≤ n → x < most → d < most → hop parent x d < most
hop_below parent most zero x d tree le from to = elim (cases_order x d) [
  | inl is ↦ let P : ℕ → Type 0 = λ e. hop parent x e < most in subst P is (rw (path_same parent x) from)
  | inr (inl under) ↦ absurd (omega (arith, under, le))
  | inr (inr over) ↦ rw (hop_up parent x d tree over) (omega (arith, tree.lower x (omega (arith, over)), from))
]
hop_below parent most (suc n) x d tree le from to = elim (cases_order x d) [
  | inl is ↦ let P : ℕ → Type 0 = λ e. hop parent x e < most in subst P is (rw (path_same parent x) from)
  | inr (inl under) ↦ elim (cases_eq (parent d) x) [
    | inl is ↦ rw (hop_child parent x d tree under is) to
    | inr other ↦
        let up = tree.lower d (omega (arith, under)) in
        rw (hop_down parent x d tree under other) (hop_below parent most n x (parent d) tree (omega (arith, le, up)) from (omega (arith, up, to)))
  ]
  | inr (inr over) ↦ rw (hop_up parent x d tree over) (omega (arith, tree.lower x (omega (arith, over)), from))
]

-- a path goes on from its second enclave
pub path_hops : (parent : ℕ → ℕ) (n a b : ℕ) → IsRooted parent → b ≤ n → a ≢ b → path parent a b ≡ a ∷ path parent (hop parent a b) b
path_hops parent zero a b tree le apart =
    let over : b < a = omega (arith, le, apart) in
    path_up parent a b tree over ∙ ap (λ c. a ∷ path parent c b) (sym (hop_up parent a b tree over))
path_hops parent (suc n) a b tree le apart = elim (cases_order a b) [
  | inl is ↦ absurd (apart is)
  | inr (inl under) ↦ elim (cases_eq (parent b) a) [
    | inl is ↦
        let alone : path parent a (parent b) ≡ a ∷ [] = rw is (path_same parent a) in
        rw (hop_child parent a b tree under is, path_same parent b, path_down parent a b tree under, alone) refl
    | inr other ↦
        let up = tree.lower b (omega (arith, under)) in
        let below : hop parent a b < b = rw (hop_down parent a b tree under other) (hop_below parent b n a (parent b) tree (omega (arith, le, up)) under up) in
        let shorter : path parent a (parent b) ≡ a ∷ path parent (hop parent a b) (parent b)
        = path_hops parent n a (parent b) tree (omega (arith, le, up)) (λ is. other (sym is))
        ∙ ap (λ c. a ∷ path parent c (parent b)) (sym (hop_down parent a b tree under other)) in
        path_down parent a b tree under ∙ ap (λ ws. ws ++ b ∷ []) shorter
        ∙ ap (λ ws. a ∷ ws) (sym (path_down parent (hop parent a b) b tree below))
  ]
  | inr (inr over) ↦ path_up parent a b tree over ∙ ap (λ c. a ∷ path parent c b) (sym (hop_up parent a b tree over))
]

-- ---- what a birth leaves

-- paths between lower numbers are the same where the parents of those are
pub same_path : (parent parent' : ℕ → ℕ) (born : ℕ) → IsRooted parent → ((e : ℕ) → 0 < e → e < born → parent' e ≡ parent e)
    → (n a b : ℕ) → a < born → b < born → path_within n parent' a b ≡ path_within n parent a b
same_path parent parent' born tree same zero a b from to = refl
same_path parent parent' born tree same (suc n) a b from to = elim (cases_order a b) [
  | inl is ↦ rw (eq-eqb a b is) refl
  | inr (inl under) ↦
      let some : 0 < b = omega (arith, under) in
      let up = tree.lower b some in
      rw (ne_eqb a b (λ is. omega (arith, is, under)), le-ltb b a (omega (arith, under)), same b some to)
      (ap (λ ws. ws ++ b ∷ []) (same_path parent parent' born tree same n a (parent b) from (omega (arith, up, to))))
  | inr (inr over) ↦
      let some : 0 < a = omega (arith, over) in
      let up = tree.lower a some in
      rw (ne_eqb a b (λ is. omega (arith, is, over)), lt-ltb b a over, same a some from)
      (ap (λ ws. a ∷ ws) (same_path parent parent' born tree same n (parent a) b (omega (arith, up, from)) to))
]

-- ---- toward an enclave

pub hop_toward : (parent : ℕ → ℕ) (born x d : ℕ) → IsRooted parent → x < born → d < born → x ≢ d → IsToward parent born x d (hop parent x d)
hop_toward parent born x d tree from to apart
    = record { from = from; to = to; over = hop_below parent born d x d tree (omega arith) from to; apart = apart; next = refl }

pub toward_near : (parent : ℕ → ℕ) (born x d y : ℕ) → IsRooted parent → IsToward parent born x d y → AreNear parent x y
toward_near parent born x d y tree toward = subst (λ z. AreNear parent x z) (sym toward.next) (near_hop parent d x d tree (omega arith) toward.apart)

pub toward_sides : (parent : ℕ → ℕ) (born x y d : ℕ) → IsRooted parent → AreNear parent x y → x < born → y < born → d < born
    → IsToward parent born x d y ⊎ IsToward parent born y d x
toward_sides parent born x y d tree near x_born y_born d_born = elim (near_sides parent x y d tree near) [
  | inl one ↦ inl (record { from = x_born; to = d_born; over = y_born; apart = one.apart; next = one.next })
  | inr other ↦ inr (record { from = y_born; to = d_born; over = x_born; apart = other.apart; next = other.next })
]

pub hop_nearer : (parent : ℕ → ℕ) (x d : ℕ) → IsRooted parent → x ≢ d → distance parent x d ≡ distance parent (hop parent x d) d + 1
hop_nearer parent x d tree apart =
    let some = some_path parent (hop parent x d) d tree in
    let longer : distance parent x d ≡ length (x ∷ path parent (hop parent x d) d) - 1 = ap (λ ws. length ws - 1) (path_hops parent d x d tree (omega arith) apart) in
    omega (arith, longer, some)

pub toward_nearer : (parent : ℕ → ℕ) (born x d y : ℕ) → IsRooted parent → IsToward parent born x d y
    → distance parent x d ≡ distance parent y d + 1
toward_nearer parent born x d y tree toward =
    hop_nearer parent x d tree toward.apart ∙ ap (λ c. distance parent c d + 1) (sym toward.next)

pub toward_stays : (parent parent' : ℕ → ℕ) (born born' x d y : ℕ) → IsRooted parent → ((e : ℕ) → 0 < e → e < born → parent' e ≡ parent e)
    → born ≤ born' → IsToward parent born x d y → IsToward parent' born' x d y
toward_stays parent parent' born born' x d y tree same grows toward = record {
  from = omega (arith, grows, toward.from);
  to = omega (arith, grows, toward.to);
  over = omega (arith, grows, toward.over);
  apart = toward.apart;
  next = toward.next ∙ sym (ap (second_or x) (same_path parent parent' born tree same (x + d) x d toward.from toward.to));
}

pub far_stays : (parent parent' : ℕ → ℕ) (born x d : ℕ) → IsRooted parent → ((e : ℕ) → 0 < e → e < born → parent' e ≡ parent e)
    → x < born → d < born → distance parent' x d ≡ distance parent x d
far_stays parent parent' born x d tree same from to = ap (λ ws. length ws - 1) (same_path parent parent' born tree same (x + d) x d from to)

all-behind : (P : ℕ → Type 0) (ws : List ℕ) (b : ℕ) → AllByRecursion P ws → P b → AllByRecursion P (ws ++ b ∷ [])
all-behind P [] b all last = (last, tt)
all-behind P (w ∷ ws) b all last = (all.0, all-behind P ws b all.1 last)

-- a path goes over those alone that live, where each of these but the host has a living parent
pub path_lives : (parent : ℕ → ℕ) (lives : ℕ → Bool) → ((e : ℕ) → 0 < e → lives e ≡ true → lives (parent e) ≡ true)
    → (n a b : ℕ) → lives a ≡ true → lives b ≡ true → AllByRecursion (λ e. lives e ≡ true) (path_within n parent a b)
path_lives parent lives up zero a b here there = (here, tt)
path_lives parent lives up (suc n) a b here there = elim (cases_order a b) [
  | inl is ↦ rw (eq-eqb a b is) (here, tt)
  | inr (inl under) ↦
      rw (ne_eqb a b (λ is. omega (arith, is, under)), le-ltb b a (omega (arith, under)))
      (all-behind (λ e. lives e ≡ true) (path_within n parent a (parent b)) b
      (path_lives parent lives up n a (parent b) here (up b (omega (arith, under)) there)) there)
  | inr (inr over) ↦
      rw (ne_eqb a b (λ is. omega (arith, is, over)), lt-ltb b a over)
      (here, path_lives parent lives up n (parent a) b (up a (omega (arith, over)) here) there)
]

-- ---- by the facts

pub facts_rooted : (G : Facts) → IsTree G → IsRooted (parent_of G)
facts_rooted G tree = record { lower = λ e some. by (G.enclave e) e some (tree.enclaves e).above }
  where
    by : (fact : Option EnclaveFact) (e : ℕ) → 0 < e → ((p : ℕ) → has_parent p fact ≡ true → 0 < e → p < e) → (fact_of fact).parent.0 < e
    by None e some above = some
    by (Some fact) e some above = above fact.parent.0 (eq-eqb fact.parent.0 fact.parent.0 refl) some

child_facts : (G : Facts) (c p : ℕ) → is_child_of G c p ≡ true → (0 < c) × (parent_of G c ≡ p)
child_facts G c p is =
    let parts = and_parts (not (eqb c 0)) (has_parent p (G.enclave c)) is in
    let apart : c ≢ 0 = eqb-false c 0 (not-true (eqb c 0) parts.0) in
    (omega (arith, apart), by (G.enclave c) parts.1)
  where
    by : (fact : Option EnclaveFact) → has_parent p fact ≡ true → (fact_of fact).parent.0 ≡ p
    by None has = cc
    by (Some fact) has = eqb-true fact.parent.0 p has

pub facts_near : (G : Facts) (x y : ℕ) → is_neighbour G x y ≡ true → AreNear (parent_of G) x y
facts_near G x y is = elim (or_cases (is_child_of G x y) (is_child_of G y x) is) [
  | inl up ↦ inl (child_facts G x y up)
  | inr down ↦ inr (child_facts G y x down)
]

pub path_living : (parent : ℕ → ℕ) (lives : ℕ → Bool) (a b : ℕ) → ((e : ℕ) → 0 < e → lives e ≡ true → lives (parent e) ≡ true)
    → lives a ≡ true → lives b ≡ true → AllByRecursion (λ e. lives e ≡ true) (path parent a b)
path_living parent lives a b up here there = path_lives parent lives up (a + b) a b here there

pub path_on : (parent : ℕ → ℕ) (a b : ℕ) → IsRooted parent → a ≢ b → path parent a b ≡ a ∷ path parent (hop parent a b) b
path_on parent a b tree apart = path_hops parent b a b tree (omega arith) apart

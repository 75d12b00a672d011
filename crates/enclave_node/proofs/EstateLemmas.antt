-- The frames and pages of an enclave, as they are handed out, exported and given back.
use Rattle.std.proofs.Common.{◌≡◌, ◌<◌, ◌≤◌, ◌+◌, ℕ, zero, suc, Bool, true, false, cond, not, ◌||◌, ◌&&◌, List, [], ◌∷◌, length, take, map, filter, Option, None, Some, refl, sym, ap, ◌∙◌, eq-eqb, ne_eqb, arith, subst}
use Rattle.std.specs.Prelude.{◌==◌, slice_get, is_some, if◌then◌else◌}
use Rattle.std.specs.Option.{option_map_or}
use Rattle.std.specs.List.{list_any}
use Rattle.std.specs.Ordering.{nat_cmp, match_ordering, is_eq}
use Rattle.std.specs.BTreeMap.{is_at}
use Rattle.std.specs.Cmp.{unsigned_tied}
use Rattle.std.specs.declared.cmp.Ordering.{Ordering}
use Rattle.std.specs.declared.cmp.Ordering.TheVariants.{Less, Equal, Greater}
use Rattle.std.proofs.lemmas.Bool.{eqb-true}
use Rattle.xm_num.specs.declared.Block.{Block}
use Rattle.xm_num.specs.declared.Frame.{Frame}
use Rattle.xm_num.specs.declared.Page.{Page}
use Rattle.xm_num.specs.RowLaws.{RowLaws}
use Rattle.xm_num.specs.Rows.{at, put, less, put_all, any_between, lowest_in, IsAscending}
use Rattle.page_table.specs.Spaces.{owned}
use Rattle.exporter_pins.specs.Holdings.{Export, Holdings, own_all, free_frames, is_free_frame, is_covered, is_asked, with_owned, without_owner}
use Rattle.attach_map.specs.Attaching.{ProcessState, AttacherState, pages_in, with_pages_in}
use Rattle.enclave_rules.specs.Pages.{own_page}
use Rattle.enclave_rules.specs.Memory.{has_own, with_pages, with_process}
use Rattle.enclave_node.specs.Layout.{AreTied}
use Rattle.enclave_node.specs.Estates.{HasAll, freed}
use Rattle.enclave_node.proofs.FrameLemmas.{Climbs, is_among}

-- ---- tests

past : (a b c : Bool) → (a || (b || c)) ≡ (b || (a || c))
past true true c = refl
past true false c = refl
past false true c = refl
past false false c = refl

both : (a b c : Bool) → (a || (b || c)) ≡ ((b || a) || c)
both true true c = refl
both true false c = refl
both false true c = refl
both false false c = refl

grouped : (a b c : Bool) → ((a || b) || c) ≡ (a || (b || c))
grouped true b c = refl
grouped false b c = refl

or_true : (b : Bool) → (b || true) ≡ true
or_true true = refl
or_true false = refl

absorbed : (n extra o r u : Bool) → n ≡ (extra || o) → (o ≡ true → u ≡ true) → (n || (r || u)) ≡ (extra || (r || u))
absorbed n true o r u is has = rw is refl
absorbed n false true r u is has = let there = has refl in rw (is, there) (sym (or_true r))
absorbed n false false r u is has = rw is refl

turned : (a b : ℕ) → (a == b) ≡ (b == a)
turned a b = by (a == b) refl
  where
    by : (c : Bool) → (a == b) ≡ c → c ≡ (b == a)
    by true is = sym (eq-eqb b a (sym (eqb-true a b is)))
    by false is = sym (ne_eqb b a (λ same. clash same))
      where
        clash : b ≡ a → ⊥
        clash same = let here : (a == b) ≡ true = eq-eqb a b (sym same) in cc

pub neither : (a b : Bool) → (not a && not b) ≡ not (a || b)
neither true b = refl
neither false b = refl

-- ---- the frames of own pages

-- a value that passes a test, put where nothing stands
pub any_put : {V : Type 0} (p : V → Bool) (rows : List (ℕ × V)) (k : ℕ) (v : V) → at rows k ≡ None → list_any (λ row. p row.1) (put rows k v) ≡ (p v || list_any (λ row. p row.1) rows)
unfolding at put
any_put p [] k v none = refl
any_put p (row ∷ rows) k v none = by (nat_cmp k row.0) none (any_put p rows k v)
  where
    by : (o : Ordering) → cond (is_eq o) (Some row.1) (at rows k) ≡ None
        → (at rows k ≡ None → list_any (λ row. p row.1) (put rows k v) ≡ (p v || list_any (λ row. p row.1) rows))
        → list_any (λ row. p row.1) (match_ordering o ((k, v) ∷ row ∷ rows) ((row.0, v) ∷ rows) (row ∷ put rows k v)) ≡ (p v || (p row.1 || list_any (λ row. p row.1) rows))
    by Less none more = refl
    by Equal none more = cc
    by Greater none more = ap (λ b. p row.1 || b) (more none) ∙ past (p row.1) (p v) (list_any (λ row. p row.1) rows)

-- what stands at a number after a change of one
pub put_at : {V : Type 0} (rows : List (ℕ × V)) (k q : ℕ) (v : V) → at (put rows k v) q ≡ (if k == q then Some v else at rows q)
unfolding at put
put_at [] k q v = rw (unsigned_tied q k ∙ turned q k) refl
put_at (row ∷ rows) k q v = by (nat_cmp k row.0) refl (put_at rows k q v)
  where
    by : (o : Ordering) → nat_cmp k row.0 ≡ o → at (put rows k v) q ≡ (if k == q then Some v else at rows q)
        → at (match_ordering o ((k, v) ∷ row ∷ rows) ((row.0, v) ∷ rows) (row ∷ put rows k v)) q ≡ (if k == q then Some v else at (row ∷ rows) q)
    by Less is more = rw (unsigned_tied q k ∙ turned q k) refl
    by Equal is more = equal (k == q) refl
      where
        same : k ≡ row.0
        same = eqb-true k row.0 (sym (unsigned_tied k row.0) ∙ ap is_eq is)

        equal : (b : Bool) → (k == q) ≡ b → at ((row.0, v) ∷ rows) q ≡ (if b then Some v else at (row ∷ rows) q)
        equal true here = let hit : is_at (nat_cmp q) row.0 ≡ true = unsigned_tied q row.0 ∙ eq-eqb q row.0 (sym (eqb-true k q here) ∙ same) in rw hit refl
        equal false other =
            let miss : is_at (nat_cmp q) row.0 ≡ false = unsigned_tied q row.0 ∙ ap (λ x. q == x) (sym same) ∙ turned q k ∙ other in
            rw miss refl
    by Greater is more = greater (is_at (nat_cmp q) row.0) refl
      where
        greater : (b : Bool) → is_at (nat_cmp q) row.0 ≡ b → cond b (Some row.1) (at (put rows k v) q) ≡ (if k == q then Some v else cond b (Some row.1) (at rows q))
        greater false miss = more
        greater true hit =
            let q_is : q ≡ row.0 = eqb-true q row.0 (sym (unsigned_tied q row.0) ∙ hit) in
            let apart : (k == row.0) ≡ false = sym (unsigned_tied k row.0) ∙ ap is_eq is in
            let other : (k == q) ≡ false = ap (λ x. k == x) q_is ∙ apart in
            rw other refl

-- what is put where nothing stands is taken away again
pub put_less : {V : Type 0} (rows : List (ℕ × V)) (k : ℕ) (v : V) → at rows k ≡ None → less (put rows k v) k ≡ rows
unfolding at put less
put_less [] k v none = let here : is_at (nat_cmp k) k ≡ true = unsigned_tied k k ∙ eq-eqb k k refl in rw here refl
put_less (row ∷ rows) k v none = by (nat_cmp k row.0) refl none (put_less rows k v)
  where
    by : (o : Ordering) → nat_cmp k row.0 ≡ o → cond (is_eq o) (Some row.1) (at rows k) ≡ None → (at rows k ≡ None → less (put rows k v) k ≡ rows)
        → less (match_ordering o ((k, v) ∷ row ∷ rows) ((row.0, v) ∷ rows) (row ∷ put rows k v)) k ≡ row ∷ rows
    by Less is none more = let here : is_at (nat_cmp k) k ≡ true = unsigned_tied k k ∙ eq-eqb k k refl in rw here refl
    by Equal is none more = cc
    by Greater is none more = let other : is_at (nat_cmp k) row.0 ≡ false = ap is_eq is in rw other (ap (λ rs. row ∷ rs) (more none))

-- none of n numbers from the first on has a row
abbrev pub AreFree : {V : Type 0} → List (ℕ × V) → ℕ → ℕ → Type 0
AreFree rows first n = (q : ℕ) → first ≤ q → q < first + n → at rows q ≡ None

free_put : RowLaws Page → (rows : List (ℕ × Page)) (first n : ℕ) (v : Page) → AreFree rows first (suc n) → AreFree (put rows first v) (first + 1) n
free_put laws rows first n v free q low high =
    let other : (first == q) ≡ false = ne_eqb first q (λ is. omega arith) in
    laws.put_at rows first q v ∙ rw other (free q (omega arith) (omega arith))

pub own_more : RowLaws Page → (k : ℕ) (frames : List Frame) (pages : List (ℕ × Page)) (first : ℕ) → AreFree pages first (length frames)
    → has_own k (put_all pages first (map own_page frames)) ≡ (is_among frames k || has_own k pages)
own_more laws k [] pages first free = refl
own_more laws k (f ∷ frames) pages first free =
    own_more laws k frames (put pages first (own_page f)) (first + 1) (free_put laws pages first (length frames) (own_page f) free)
    ∙ ap (λ b. is_among frames k || b) (any_put (λ page. page.own && (page.frame.0 == k)) pages first (own_page f) (free first (omega arith) (omega arith)))
    ∙ both (is_among frames k) (f.0 == k) (has_own k pages)

none_is : (found : Option ℕ) → is_some found ≡ false → found ≡ None
none_is None is = refl
none_is (Some k) is = cc

pub are_free : ((rows : List (ℕ × Page)) (low high : ℕ) → any_between rows low high ≡ is_some (lowest_in rows low high)) → RowLaws Page → (rows : List (ℕ × Page)) (first n : ℕ)
    → any_between rows first (first + n) ≡ false → AreFree rows first n
are_free any laws rows first n none = (laws.no_lowest rows first (first + n)).0 (none_is (lowest_in rows first (first + n)) (sym (any rows first (first + n)) ∙ none))

-- one of the processes has the frame
abbrev pub used_by : ℕ → List (ℕ × ProcessState) → Bool
used_by k processes = list_any (λ row. has_own k row.1.pages) processes

found_used : (k p : ℕ) (rows : List (ℕ × ProcessState)) (process : ProcessState) → at rows p ≡ Some process → has_own k process.pages ≡ true → used_by k rows ≡ true
unfolding at
found_used k p [] process is has = cc
found_used k p (row ∷ rows) process is has = by (nat_cmp p row.0) is (found_used k p rows process)
  where
    by : (o : Ordering) → cond (is_eq o) (Some row.1) (at rows p) ≡ Some process → (at rows p ≡ Some process → has_own k process.pages ≡ true → used_by k rows ≡ true)
        → (has_own k row.1.pages || used_by k rows) ≡ true
    by Less is more = let rest = more is has in rw rest (or_true (has_own k row.1.pages))
    by Equal is more =
        let same : row.1 ≡ process = cc in
        let here : has_own k row.1.pages ≡ true = ap (λ (x : ProcessState). has_own k x.pages) same ∙ has in
        rw here refl
    by Greater is more = let rest = more is has in rw rest (or_true (has_own k row.1.pages))

-- a process that is there has frames more
pub used_put : (k p : ℕ) (extra : Bool) (rows : List (ℕ × ProcessState)) (old new : ProcessState) → at rows p ≡ Some old
    → has_own k new.pages ≡ (extra || has_own k old.pages) → used_by k (put rows p new) ≡ (extra || used_by k rows)
unfolding at put
used_put k p extra [] old new is more = cc
used_put k p extra (row ∷ rows) old new is more = by (nat_cmp p row.0) is (used_put k p extra rows old new) (found_used k p rows old)
  where
    by : (o : Ordering) → cond (is_eq o) (Some row.1) (at rows p) ≡ Some old
        → (at rows p ≡ Some old → has_own k new.pages ≡ (extra || has_own k old.pages) → used_by k (put rows p new) ≡ (extra || used_by k rows))
        → (at rows p ≡ Some old → has_own k old.pages ≡ true → used_by k rows ≡ true)
        → used_by k (match_ordering o ((p, new) ∷ row ∷ rows) ((row.0, new) ∷ rows) (row ∷ put rows p new)) ≡ (extra || (has_own k row.1.pages || used_by k rows))
    by Less is rest found = absorbed (has_own k new.pages) extra (has_own k old.pages) (has_own k row.1.pages) (used_by k rows) more (found is)
    by Equal is rest found =
        let same : row.1 ≡ old = cc in
        let here : has_own k new.pages ≡ (extra || has_own k row.1.pages) = more ∙ ap (λ (x : ProcessState). extra || has_own k x.pages) (sym same) in
        ap (λ b. b || used_by k rows) here ∙ grouped extra (has_own k row.1.pages) (used_by k rows)
    by Greater is rest found = ap (λ b. has_own k row.1.pages || b) (rest is more) ∙ past (has_own k row.1.pages) extra (used_by k rows)

-- ---- frames that are given to a process

pub own_all_at : RowLaws ℕ → (owners : List (ℕ × ℕ)) (p k : ℕ) (frames : List Frame) → at (own_all owners p frames) k ≡ (if is_among frames k then Some p else at owners k)
own_all_at laws owners p k [] = refl
own_all_at laws owners p k (f ∷ frames) =
    own_all_at laws (put owners f.0 p) p k frames ∙ rw (laws.put_at owners f.0 k p) (by (f.0 == k) (is_among frames k))
  where
    by : (a b : Bool) → (if b then Some p else (if a then Some p else at owners k)) ≡ (if a || b then Some p else at owners k)
    by true true = refl
    by true false = refl
    by false true = refl
    by false false = refl

among_take : (n k : ℕ) (frames : List Frame) → is_among (take n frames) k ≡ true → is_among frames k ≡ true
among_take zero k frames is = cc
among_take (suc n) k [] is = cc
among_take (suc n) k (f ∷ frames) is = by (f.0 == k) is (among_take n k frames)
  where
    by : (b : Bool) → (b || is_among (take n frames) k) ≡ true → (is_among (take n frames) k ≡ true → is_among frames k ≡ true) → (b || is_among frames k) ≡ true
    by true is more = refl
    by false is more = more is

among_filter : (good : ℕ → Bool) (k : ℕ) (frames : List Frame) → is_among (filter (λ f. good f.0) frames) k ≡ true → good k ≡ true
among_filter good k [] is = cc
among_filter good k (f ∷ frames) is = by (good f.0) refl is (among_filter good k frames)
  where
    here : (b : Bool) → (f.0 == k) ≡ b → good f.0 ≡ true → (b || is_among (filter (λ f. good f.0) frames) k) ≡ true
        → (is_among (filter (λ f. good f.0) frames) k ≡ true → good k ≡ true) → good k ≡ true
    here true same passes is more = ap good (sym (eqb-true f.0 k same)) ∙ passes
    here false other passes is more = more is

    by : (b : Bool) → good f.0 ≡ b → is_among (cond b (f ∷ filter (λ f. good f.0) frames) (filter (λ f. good f.0) frames)) k ≡ true
        → (is_among (filter (λ f. good f.0) frames) k ≡ true → good k ≡ true) → good k ≡ true
    by true passes is more = here (f.0 == k) refl passes is more
    by false fails is more = more is

unowned : (found : Option ℕ) (b : Bool) → (not (is_some found) && b) ≡ true → found ≡ None
unowned None b is = refl
unowned (Some p) b is = cc

-- frames that are free have no owner
pub taken_free : (n k : ℕ) (h : Holdings) → is_among (take n (free_frames h)) k ≡ true → at h.owners k ≡ None
taken_free n k h is =
    unowned (at h.owners k) (not (is_covered h.exports k)) (among_filter (is_free_frame h.owners (is_covered h.exports)) k h.frames (among_take n k (free_frames h) is))

pub climbs_take : (n low : ℕ) (frames : List Frame) → Climbs low frames → Climbs low (take n frames)
climbs_take zero low frames climbs = tt
climbs_take (suc n) low [] climbs = tt
climbs_take (suc n) low (f ∷ frames) climbs = (climbs.0, climbs_take n (f.0 + 1) frames climbs.1)

among_above : (low k : ℕ) (frames : List Frame) → Climbs low frames → is_among frames k ≡ true → low ≤ k
among_above low k [] climbs is = cc
among_above low k (f ∷ frames) climbs is = by (f.0 == k) refl is (among_above (f.0 + 1) k frames climbs.1)
  where
    by : (b : Bool) → (f.0 == k) ≡ b → (b || is_among frames k) ≡ true → (is_among frames k ≡ true → f.0 + 1 ≤ k) → low ≤ k
    by true same is more = let from = climbs.0 in let eq = eqb-true f.0 k same in omega (arith, from, eq)
    by false other is more = let from = climbs.0 in let above = more is in omega (arith, from, above)

pub get_among : (frames : List Frame) (i : ℕ) (f : Frame) → slice_get frames i ≡ Some f → is_among frames f.0 ≡ true
get_among [] i f is = cc
get_among (x ∷ frames) zero f is =
    let same : x ≡ f = cc in
    let here : (x.0 == f.0) ≡ true = eq-eqb x.0 f.0 (ap (λ (y : Frame). y.0) same) in
    rw here refl
get_among (x ∷ frames) (suc i) f is = let rest = get_among frames i f is in rw rest (or_true (x.0 == f.0))

-- frames that climb stand each at one place
pub one_place : (low i j : ℕ) (frames : List Frame) (f g : Frame) → Climbs low frames → slice_get frames i ≡ Some f → slice_get frames j ≡ Some g → f.0 ≡ g.0 → i ≡ j
one_place low i j [] f g climbs is at_j same = cc
one_place low zero zero (x ∷ frames) f g climbs is at_j same = refl
one_place low zero (suc j) (x ∷ frames) f g climbs is at_j same =
    let eq : x ≡ f = cc in
    let num : x.0 ≡ f.0 = ap (λ (y : Frame). y.0) eq in
    let above = among_above (x.0 + 1) g.0 frames climbs.1 (get_among frames j g at_j) in
    absurd (omega (arith, above, num, same))
one_place low (suc i) zero (x ∷ frames) f g climbs is at_j same =
    let eq : x ≡ g = cc in
    let num : x.0 ≡ g.0 = ap (λ (y : Frame). y.0) eq in
    let above = among_above (x.0 + 1) f.0 frames climbs.1 (get_among frames i f is) in
    absurd (omega (arith, above, num, same))
one_place low (suc i) (suc j) (x ∷ frames) f g climbs is at_j same = ap suc (one_place (x.0 + 1) i j frames f g climbs.1 is at_j same)

pub has_all : RowLaws ℕ → (p low : ℕ) (owners : List (ℕ × ℕ)) (frames : List Frame) → IsAscending owners → Climbs low frames
    → ((k : ℕ) → is_among frames k ≡ true → at owners k ≡ Some p) → HasAll owners p frames
has_all laws p low owners [] ascend climbs each = tt
has_all laws p low owners (f ∷ frames) ascend climbs each =
    (each f.0 here, has_all laws p (f.0 + 1) (less owners f.0) frames (laws.less_ascends owners f.0 ascend) climbs.1 later)
  where
    here : is_among (f ∷ frames) f.0 ≡ true
    here = let itself : (f.0 == f.0) ≡ true = eq-eqb f.0 f.0 refl in rw itself refl

    later : (k : ℕ) → is_among frames k ≡ true → at (less owners f.0) k ≡ Some p
    later k among =
        let above = among_above (f.0 + 1) k frames climbs.1 among in
        let other : (f.0 == k) ≡ false = ne_eqb f.0 k (λ is. omega (arith, above, is)) in
        laws.less_at owners f.0 k ascend ∙ rw other (each k (rw other among))

-- ---- frames that are given back

pub freed_frames : (frames : List Frame) (h : Holdings) → (freed frames h).frames ≡ h.frames
freed_frames [] h = refl
freed_frames (f ∷ frames) h = freed_frames frames (without_owner f.0 h)

pub freed_exports : (frames : List Frame) (h : Holdings) → (freed frames h).exports ≡ h.exports
freed_exports [] h = refl
freed_exports (f ∷ frames) h = freed_exports frames (without_owner f.0 h)

pub freed_grants : (frames : List Frame) (h : Holdings) → (freed frames h).grants ≡ h.grants
freed_grants [] h = refl
freed_grants (f ∷ frames) h = freed_grants frames (without_owner f.0 h)

pub freed_at : RowLaws ℕ → (k : ℕ) (frames : List Frame) (h : Holdings) → IsAscending h.owners → at (freed frames h).owners k ≡ (if is_among frames k then None else at h.owners k)
freed_at laws k [] h ascend = refl
freed_at laws k (f ∷ frames) h ascend =
    freed_at laws k frames (without_owner f.0 h) (laws.less_ascends h.owners f.0 ascend) ∙ rw (laws.less_at h.owners f.0 k ascend) (by (f.0 == k) (is_among frames k))
  where
    by : (a b : Bool) → (if b then None else (if a then None else at h.owners k)) ≡ (if a || b then None else at h.owners k)
    by true true = refl
    by true false = refl
    by false true = refl
    by false false = refl

-- frames that were free, given to a process and given back
pub back_at : RowLaws ℕ → (n p k : ℕ) (h given : Holdings) → given ≡ with_owned p (take n (free_frames h)) h → IsAscending given.owners
    → at (freed (take n (free_frames h)) given).owners k ≡ at h.owners k
back_at laws n p k h given is ascend =
    freed_at laws k F given ascend
    ∙ ap (λ (g : Holdings). if is_among F k then None else at g.owners k) is
    ∙ rw (own_all_at laws h.owners p k F) (by (is_among F k) refl)
  where
    F : List Frame
    F = take n (free_frames h)

    by : (b : Bool) → is_among F k ≡ b → (if b then None else (if b then Some p else at h.owners k)) ≡ at h.owners k
    by true among = sym (taken_free n k h among)
    by false among = refl

pub own_all_ascends : RowLaws ℕ → (owners : List (ℕ × ℕ)) (p : ℕ) (frames : List Frame) → IsAscending owners → IsAscending (own_all owners p frames)
own_all_ascends laws owners p [] ascend = ascend
own_all_ascends laws owners p (f ∷ frames) ascend = own_all_ascends laws (put owners f.0 p) p frames (laws.put_ascends owners f.0 p ascend)

pub freed_ascends : RowLaws ℕ → (frames : List Frame) (h : Holdings) → IsAscending h.owners → IsAscending (freed frames h).owners
freed_ascends laws [] h ascend = ascend
freed_ascends laws (f ∷ frames) h ascend = freed_ascends laws frames (without_owner f.0 h) (laws.less_ascends h.owners f.0 ascend)

-- ---- the process of given pages

pub given_is : (s : AttacherState) (p page : ℕ) (frames : List Frame)
    → with_pages_in s p (put_all (pages_in s p) page (owned frames)) ≡ with_process p (with_pages page frames) s
given_is s p page frames = by (at s.processes p)
  where
    by : (found : Option ProcessState)
        → option_map_or (λ process. record s { processes = put s.processes p (record process { pages = put_all (option_map_or (λ x. x.pages) found []) page (owned frames) }) }) found s
        ≡ option_map_or (λ process. record s { processes = put s.processes p (with_pages page frames process) }) found s
    by None = refl
    by (Some process) = refl

pub filter_same : (a b : Frame → Bool) (frames : List Frame) → ((f : Frame) → a f ≡ b f) → filter a frames ≡ filter b frames
filter_same a b [] same = refl
filter_same a b (f ∷ frames) same = rw (same f, filter_same a b frames same) refl

-- ---- what is tied

-- the holdings with other owners, the same by their numbers
pub tied_same : (blocks : List Block) (h g : Holdings) (m : AttacherState) → AreTied blocks h m → g.frames ≡ h.frames → g.exports ≡ h.exports
    → IsAscending g.owners → ((k : ℕ) → at g.owners k ≡ at h.owners k) → AreTied blocks g m
tied_same blocks h g m tied frames exports ascend owners = record {
  blocks_ascend = tied.blocks_ascend;
  frames_are = frames ∙ tied.frames_are;
  owners_ascend = ascend;
  exports_ascend = subst (λ (rows : List (ℕ × Export)). IsAscending rows) (sym exports) tied.exports_ascend;
  waiting_ascend = tied.waiting_ascend;
  used = λ k. ap is_some (owners k) ∙ tied.used k;
  owned = λ p page k own. owners k ∙ tied.owned p page k own;
  single = tied.single;
  ahead = λ call above. ap (λ rows. at rows call) exports ∙ tied.ahead call above;
  asked = λ call waiting is make. ap (λ rows. is_asked (at rows call)) exports ∙ tied.asked call waiting is make;
}

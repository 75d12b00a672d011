-- How frames, pages and exports stay tied as an enclave's calls change them.
use Rattle.std.proofs.Common.{◌≡◌, ◌<◌, ◌≤◌, ◌+◌, ◌-◌, ℕ, zero, suc, Bool, true, false, cond, not, ◌||◌, ◌&&◌, List, [], ◌∷◌, length, take, map, filter, Option, None, Some, refl, sym, ap, ◌∙◌, ne_eqb, arith, subst}
use Rattle.std.specs.Prelude.{Result, Ok, Err, OnOk, OnErr, IsErrOf, ◌↔◌, ◌==◌, nat_le, nat_lt, slice_get, is_some, IsTrue, IsSome, option_map, if◌then◌else◌}
use Rattle.std.specs.Option.{option_map_or}
use Rattle.std.specs.List.{All, AllByRecursion}
use Rattle.std.specs.List.Sorted.{IsStrictlySortedBy}
use Rattle.std.specs.Ordering.{nat_cmp}
use Rattle.std.specs.declared.cmp.Ordering.TheVariants.{Less}
use Rattle.std.specs.Map.{keys_of}
use Rattle.std.specs.Cmp.{ranked}
use Rattle.std.proofs.lemmas.Bool.{eqb-true, leb-true, lt-ltb}
use Rattle.xm_num.specs.declared.Block.{Block}
use Rattle.xm_num.specs.declared.Enclave.{Enclave}
use Rattle.xm_num.specs.declared.Frame.{Frame}
use Rattle.xm_num.specs.declared.Page.{Page}
use Rattle.xm_num.specs.declared.Pid.{Pid}
use Rattle.xm_num.specs.RowLaws.{RowLaws}
use Rattle.xm_num.specs.Rows.{at, put, less, put_all, any_between, lowest_in, IsAscending}
use Rattle.page_table.specs.Spaces.{owned}
use Rattle.exporter_pins.specs.declared.ExportFault.{ExportFault}
use Rattle.exporter_pins.specs.declared.ExportFault.TheVariants as faults
use Rattle.exporter_pins.specs.Holdings.{asked_export, Export, Holdings, AreAscendingFrames, no_holdings, live_export, has_segid, own_all, free_frames, is_covered, is_asked, live_with, with_live, with_owned, with_export, with_segid, without_export}
use Rattle.attach_map.specs.declared.Waiting.{Waiting}
use Rattle.attach_map.specs.declared.Pending.{Pending}
use Rattle.attach_map.specs.declared.Pending.TheVariants as pendings
use Rattle.attach_map.specs.declared.Permit.{Permit}
use Rattle.attach_map.specs.Attaching.{ProcessState, PermitState, AttacherState, nothing_started, fresh_process, process_started, pages_in, with_pages_in, call_issued, call_settled, is_lookup, looks_up, to_owner, with_owner, owner_found, wanted_permit, with_permit, permit_granted, permit_released}
use Rattle.attach_map.specs.Numbers.{AreNumbered}
use Rattle.enclave_rules.specs.Pages.{AreBlocks, frames_of, own_page}
use Rattle.enclave_rules.specs.Memory.{has_own, is_used, unused, with_pages, with_process}
use Rattle.enclave_rules.specs.Exports.{region_frames}
use Rattle.enclave_rules.specs.Grants.{Grants}
use Rattle.enclave_rules.specs.Segments.{is_make, is_waiting_make, are_own_pages}
use Rattle.enclave_node.specs.Layout.{AreTied, IsOwn, HasRoom}
use Rattle.enclave_node.specs.Estates.{Estate, with_asked_for, unused_of, with_lowest, HasAll, freed}
use Rattle.enclave_node.proofs.FrameLemmas.{Climbs, is_among, blocks_climb, climbs_filter}
use Rattle.enclave_node.proofs.SpaceLemmas.{region_owned}
use Rattle.enclave_node.proofs.EstateLemmas.{put_at, put_less, are_free, has_all, freed_frames, freed_exports, freed_grants, freed_ascends, back_at, given_is, tied_same, AreFree, own_more, used_put, any_put, own_all_at, taken_free, own_all_ascends, climbs_take, get_among, one_place, filter_same, neither}

-- where an own page comes from: it was there, or it is one of the new ones
data Origin (m : AttacherState) (p first : ℕ) (drawn : List Frame) (q page k : ℕ) : Type 0 where
  Was : (own : IsOwn m q page k) → Origin m p first drawn q page k
  New : (is : q ≡ p) (i : ℕ) (place : page ≡ first + i) (f : Frame) (found : slice_get drawn i ≡ Some f) (number : f.0 ≡ k) → Origin m p first drawn q page k

map_get : (drawn : List Frame) (i : ℕ) (page : Page) → slice_get (map own_page drawn) i ≡ Some page → slice_get drawn i ≡ Some page.frame
map_get [] i page is = cc
map_get (f ∷ drawn) zero page is = let same : own_page f ≡ page = cc in ap (λ (x : Page). Some x.frame) same
map_get (f ∷ drawn) (suc i) page is = map_get drawn i page is

right_true : (a b : Bool) → (a && b) ≡ true → b ≡ true
right_true true b is = is
right_true false b is = cc

left_true : (a b : Bool) → (a && b) ≡ true → a ≡ true
left_true true b is = refl
left_true false b is = cc

nothing : {P : Type 0} (page : ℕ) (found : Page) → at [] page ≡ Some found → P
unfolding at
nothing page found is = absurd (cc)

module _ (blocks : List Block) (h : Holdings) (m : AttacherState) (tied : AreTied blocks h m) where
  -- the free frames are the unused ones
  pub free_unused : free_frames h ≡ unused blocks m h.exports
  free_unused =
      filter_same (λ f. not (is_some (at h.owners f.0)) && not (is_covered h.exports f.0)) (λ f. not (is_used m f.0 || is_covered h.exports f.0)) h.frames
      (λ f. ap (λ b. not b && not (is_covered h.exports f.0)) (tied.used f.0) ∙ neither (is_used m f.0) (is_covered h.exports f.0))
      ∙ ap (filter (λ f. not (is_used m f.0 || is_covered h.exports f.0))) tied.frames_are

  pub free_climb : (n : ℕ) → Climbs 0 (take n (free_frames h))
  free_climb n =
      climbs_take n 0 (free_frames h)
      (climbs_filter (λ f. not (is_some (at h.owners f.0)) && not (is_covered h.exports f.0)) 0 h.frames (subst (Climbs 0) (sym tied.frames_are) (blocks_climb blocks tied.blocks_ascend)))

  -- ---- a process gets pages with the first n free frames

  module _ (laws : RowLaws Page) (rows : RowLaws ℕ) (p first n : ℕ) (process : ProcessState) (lives : at m.processes p ≡ Some process)
      (free : AreFree process.pages first (length (take n (free_frames h)))) where
    abbrev pub drawn : List Frame
    drawn = take n (free_frames h)

    abbrev pub more : AttacherState
    more = record m { processes = put m.processes p (with_pages first drawn process) }

    given_used : (k : ℕ) → is_some (at (own_all h.owners p drawn) k) ≡ is_used more k
    given_used k =
        ap is_some (own_all_at rows h.owners p k drawn) ∙ by (is_among drawn k)
        ∙ ap (λ b. is_among drawn k || b) (tied.used k)
        ∙ sym (used_put k p (is_among drawn k) m.processes process (with_pages first drawn process) lives (own_more laws k drawn process.pages first free))
      where
        by : (b : Bool) → is_some (if b then Some p else at h.owners k) ≡ (b || is_some (at h.owners k))
        by true = refl
        by false = refl

    origin : (q page k : ℕ) → IsOwn more q page k → Origin m p first drawn q page k
    origin q page k own = by (p == q) refl (sym (put_at m.processes p q (with_pages first drawn process)) ∙ own.lives)
      where
        old : (found : Page) → q ≡ p → at process.pages page ≡ Some found → found.own ≡ true → found.frame.0 ≡ k → Origin m p first drawn q page k
        old found is mapped mine number = Was (record { process = process; found = found; lives = ap (at m.processes) is ∙ lives; mapped = mapped; own = mine; frame_is = number })

        new : (found : Page) (b : Bool) → (nat_le first page && nat_lt page (first + length (map own_page drawn))) ≡ b → q ≡ p
            → (if b then slice_get (map own_page drawn) (page - first) else at process.pages page) ≡ Some found → found.own ≡ true → found.frame.0 ≡ k → Origin m p first drawn q page k
        new found true range is mapped mine number =
            let low : first ≤ page = leb-true first page (left_true (nat_le first page) (nat_lt page (first + length (map own_page drawn))) range) in
            New is (page - first) (omega (arith, low)) found.frame (map_get drawn (page - first) found mapped) number
        new found false range is mapped mine number = old found is mapped mine number

        by : (b : Bool) → (p == q) ≡ b → (if b then Some (with_pages first drawn process) else at m.processes q) ≡ Some own.process → Origin m p first drawn q page k
        by true same is =
            let one : with_pages first drawn process ≡ own.process = cc in
            let here : at (put_all process.pages first (map own_page drawn)) page ≡ Some own.found = ap (λ (x : ProcessState). at x.pages page) one ∙ own.mapped in
            new own.found (nat_le first page && nat_lt page (first + length (map own_page drawn))) refl (sym (eqb-true p q same))
            (sym (laws.put_all_at process.pages first page (map own_page drawn)) ∙ here) own.own own.frame_is
        by false other is = Was (record { process = own.process; found = own.found; lives = is; mapped = own.mapped; own = own.own; frame_is = own.frame_is })

    among_of : (i : ℕ) (f : Frame) (k : ℕ) → slice_get drawn i ≡ Some f → f.0 ≡ k → is_among drawn k ≡ true
    among_of i f k found number = ap (is_among drawn) (sym number) ∙ get_among drawn i f found

    given_owned : (q page k : ℕ) → Origin m p first drawn q page k → at (own_all h.owners p drawn) k ≡ Some q
    given_owned q page k (Was own) = own_all_at rows h.owners p k drawn ∙ by (is_among drawn k) refl
      where
        by : (b : Bool) → is_among drawn k ≡ b → (if b then Some p else at h.owners k) ≡ Some q
        by true among = let clash : None ≡ Some q = sym (taken_free n k h among) ∙ tied.owned q page k own in absurd (cc)
        by false among = tied.owned q page k own
    given_owned q page k (New is i place f found number) =
        let among = among_of i f k found number in
        own_all_at rows h.owners p k drawn ∙ rw among (ap Some (sym is))

    apart : (q a k i : ℕ) (f : Frame) → IsOwn m q a k → slice_get drawn i ≡ Some f → f.0 ≡ k → ⊥
    apart q a k i f own found number = let clash : None ≡ Some q = sym (taken_free n k h (among_of i f k found number)) ∙ tied.owned q a k own in cc

    given_single : (q a b k : ℕ) → Origin m p first drawn q a k → Origin m p first drawn q b k → a ≡ b
    given_single q a b k (Was own) (Was other) = tied.single q a b k own other
    given_single q a b k (Was own) (New is i place f found number) = absurd (apart q a k i f own found number)
    given_single q a b k (New is i place f found number) (Was other) = absurd (apart q b k i f other found number)
    given_single q a b k (New is i place f found number) (New is_too j place_too g found_too number_too) =
        let same = one_place 0 i j drawn f g (free_climb n) found found_too (number ∙ sym number_too) in
        place ∙ ap (λ x. first + x) same ∙ sym place_too

    pub given_tied : AreTied blocks (with_owned p drawn h) more
    given_tied = record {
      blocks_ascend = tied.blocks_ascend;
      frames_are = tied.frames_are;
      owners_ascend = own_all_ascends rows h.owners p drawn tied.owners_ascend;
      exports_ascend = tied.exports_ascend;
      waiting_ascend = tied.waiting_ascend;
      used = given_used;
      owned = λ q page k own. given_owned q page k (origin q page k own);
      single = λ q a b k own other. given_single q a b k (origin q a k own) (origin q b k other);
      ahead = tied.ahead;
      asked = tied.asked;
    }

  -- ---- a process starts

  module _ (uid gid : ℕ) (fresh : at m.processes (m.started + 1) ≡ None) where
    started_own : (q page k : ℕ) → IsOwn (process_started m uid gid) q page k → IsOwn m q page k
    started_own q page k own = by (m.started + 1 == q) refl (sym (put_at m.processes (m.started + 1) q (fresh_process uid gid)) ∙ own.lives)
      where
        by : (b : Bool) → (m.started + 1 == q) ≡ b → (if b then Some (fresh_process uid gid) else at m.processes q) ≡ Some own.process → IsOwn m q page k
        by true same is =
            let one : fresh_process uid gid ≡ own.process = cc in
            let none : at [] page ≡ Some own.found = ap (λ (x : ProcessState). at x.pages page) one ∙ own.mapped in
            nothing page own.found none
        by false other is = record { process = own.process; found = own.found; lives = is; mapped = own.mapped; own = own.own; frame_is = own.frame_is }

    pub started_tied : AreTied blocks h (process_started m uid gid)
    started_tied = record {
      blocks_ascend = tied.blocks_ascend;
      frames_are = tied.frames_are;
      owners_ascend = tied.owners_ascend;
      exports_ascend = tied.exports_ascend;
      waiting_ascend = tied.waiting_ascend;
      used = λ k. tied.used k ∙ sym (any_put (λ (x : ProcessState). has_own k x.pages) m.processes (m.started + 1) (fresh_process uid gid) fresh);
      owned = λ q page k own. tied.owned q page k (started_own q page k own);
      single = λ q a b k own other. tied.single q a b k (started_own q a k own) (started_own q b k other);
      ahead = tied.ahead;
      asked = tied.asked;
    }

  -- ---- a make is issued

  pub issued_tied : RowLaws Export → RowLaws Waiting → (p : Pid) (what : Pending) (e : Export) → is_asked (Some e) ≡ true → AreTied blocks (with_export (m.issued + 1) e h) (call_issued m p what)
  issued_tied laws calls p what e asks = record {
    blocks_ascend = tied.blocks_ascend;
    frames_are = tied.frames_are;
    owners_ascend = tied.owners_ascend;
    exports_ascend = laws.put_ascends h.exports (m.issued + 1) e tied.exports_ascend;
    waiting_ascend = calls.put_ascends m.waiting (m.issued + 1) (record { call = record { 0 = m.issued + 1 }; pid = p; living = true; what = what }) tied.waiting_ascend;
    used = tied.used;
    owned = λ q page k own. tied.owned q page k (same_own q page k own);
    single = λ q a b k own other. tied.single q a b k (same_own q a k own) (same_own q b k other);
    ahead = λ call above.
        let other : (m.issued + 1 == call) ≡ false = ne_eqb (m.issued + 1) call (λ is. omega (arith, above, is)) in
        laws.put_at h.exports (m.issued + 1) call e ∙ rw other (tied.ahead call (omega (arith, above)));
    asked = λ call waiting is make. now_asked call waiting is make;
  }
    where
      same_own : (q page k : ℕ) → IsOwn (call_issued m p what) q page k → IsOwn m q page k
      same_own q page k own = record { process = own.process; found = own.found; lives = own.lives; mapped = own.mapped; own = own.own; frame_is = own.frame_is }

      now_asked : (call : ℕ) (waiting : Waiting) → at (call_issued m p what).waiting call ≡ Some waiting → is_waiting_make waiting ≡ true → is_asked (at (put h.exports (m.issued + 1) e) call) ≡ true
      now_asked call waiting is make =
          ap is_asked (laws.put_at h.exports (m.issued + 1) call e)
          ∙ by (m.issued + 1 == call) (sym (calls.put_at m.waiting (m.issued + 1) call (record { call = record { 0 = m.issued + 1 }; pid = p; living = true; what = what })) ∙ is)
        where
          by : (b : Bool) → (if b then Some (record { call = record { 0 = m.issued + 1 }; pid = p; living = true; what = what }) else at m.waiting call) ≡ Some waiting
              → is_asked (if b then Some e else at h.exports call) ≡ true
          by true found = asks
          by false found = tied.asked call waiting found make

  -- ---- other calls wait, and other permits are held

  pub gets_tied : (issued : ℕ) (waiting : List (ℕ × Waiting)) (permits : List (ℕ × PermitState)) → m.issued ≤ issued → IsAscending waiting
      → ((call : ℕ) (w : Waiting) → at waiting call ≡ Some w → is_waiting_make w ≡ true → is_asked (at h.exports call) ≡ true)
      → AreTied blocks h (record m { issued = issued; waiting = waiting; permits = permits })
  gets_tied issued waiting permits later ascends asked = record {
    blocks_ascend = tied.blocks_ascend;
    frames_are = tied.frames_are;
    owners_ascend = tied.owners_ascend;
    exports_ascend = tied.exports_ascend;
    waiting_ascend = ascends;
    used = tied.used;
    owned = λ q page k own. tied.owned q page k (same_own q page k own);
    single = λ q a b k own other. tied.single q a b k (same_own q a k own) (same_own q b k other);
    ahead = λ call above. tied.ahead call (omega (arith, above, later));
    asked = asked;
  }
    where
      same_own : (q page k : ℕ) → IsOwn (record m { issued = issued; waiting = waiting; permits = permits }) q page k → IsOwn m q page k
      same_own q page k own = record { process = own.process; found = own.found; lives = own.lives; mapped = own.mapped; own = own.own; frame_is = own.frame_is }

  -- one call more or another, which is no make
  put_asked : RowLaws Waiting → (k : ℕ) (new : Waiting) → is_make new.what ≡ false → (call : ℕ) (w : Waiting) → at (put m.waiting k new) call ≡ Some w → is_waiting_make w ≡ true
      → is_asked (at h.exports call) ≡ true
  put_asked calls k new get call w is make = by (k == call) (sym (calls.put_at m.waiting k call new) ∙ is)
    where
      by : (b : Bool) → (if b then Some new else at m.waiting call) ≡ Some w → is_asked (at h.exports call) ≡ true
      by true found =
          let same : new ≡ w = cc in
          let clash : true ≡ false = sym (right_true w.living (is_make w.what) make) ∙ ap (λ (x : Waiting). is_make x.what) (sym same) ∙ get in
          absurd (cc)
      by false found = tied.asked call w found make

  less_asked : RowLaws Waiting → (k call : ℕ) (w : Waiting) → at (less m.waiting k) call ≡ Some w → is_waiting_make w ≡ true → is_asked (at h.exports call) ≡ true
  less_asked calls k call w is make = by (k == call) (sym (calls.less_at m.waiting k call tied.waiting_ascend) ∙ is)
    where
      by : (b : Bool) → (if b then None else at m.waiting call) ≡ Some w → is_asked (at h.exports call) ≡ true
      by true found = cc
      by false found = tied.asked call w found make

  pub get_tied : RowLaws Waiting → (p : Pid) (what : Pending) → is_make what ≡ false → AreTied blocks h (call_issued m p what)
  get_tied calls p what get =
      let new : Waiting = record { call = record { 0 = m.issued + 1 }; pid = p; living = true; what = what } in
      gets_tied (m.issued + 1) (put m.waiting (m.issued + 1) new) m.permits (omega arith) (calls.put_ascends m.waiting (m.issued + 1) new tied.waiting_ascend)
      (put_asked calls (m.issued + 1) new get)

  pub call_ended : RowLaws Waiting → (call : ℕ) → AreTied blocks h (call_settled m call)
  call_ended calls call = gets_tied m.issued (less m.waiting call) m.permits (omega arith) (calls.less_ascends m.waiting call tied.waiting_ascend) (less_asked calls call)

  pub found_tied : RowLaws Waiting → (call : ℕ) (owner : Enclave) → looks_up (at m.waiting call) ≡ true → AreTied blocks h (owner_found m call owner)
  found_tied calls call owner seeks = by (at m.waiting call) seeks
    where
      no_make : (what : Pending) → is_lookup what ≡ true → is_make (to_owner owner what) ≡ false
      no_make pendings.Make is = cc
      no_make (pendings.Lookup segid access) is = refl
      no_make (pendings.GetFrom other segid access) is = cc

      by : (found : Option Waiting) → looks_up found ≡ true → AreTied blocks h (option_map_or (λ w. record m { waiting = put m.waiting call (with_owner owner w) }) found m)
      by None is = cc
      by (Some w) is =
          gets_tied m.issued (put m.waiting call (with_owner owner w)) m.permits (omega arith) (calls.put_ascends m.waiting call (with_owner owner w) tied.waiting_ascend)
          (put_asked calls call (with_owner owner w) (no_make w.what is))

  pub granted_tied : RowLaws Waiting → (call pages : ℕ) → AreTied blocks h (permit_granted m call pages)
  granted_tied calls call pages = by (at m.waiting call)
    where
      with : (p : ℕ) (wanted : Option Permit) → AreTied blocks h (option_map_or (with_permit m call p) wanted m)
      with p None = tied
      with p (Some permit) =
          gets_tied m.issued (less m.waiting call) (put m.permits call (record { pid = p; permit = permit })) (omega arith) (calls.less_ascends m.waiting call tied.waiting_ascend)
          (less_asked calls call)

      by : (found : Option Waiting) → AreTied blocks h (option_map_or (λ w. option_map_or (with_permit m call w.pid.0) (wanted_permit w.what pages) m) found m)
      by None = tied
      by (Some w) = with w.pid.0 (wanted_permit w.what pages)

  pub released_tied : (apid : ℕ) → AreTied blocks h (permit_released m apid)
  released_tied apid = gets_tied m.issued m.waiting (less m.permits apid) (omega arith) tied.waiting_ascend tied.asked

  -- ---- other grants stand

  pub grants_tied : (grants : Grants) → AreTied blocks (record h { grants = grants }) m
  grants_tied grants = record {
    blocks_ascend = tied.blocks_ascend;
    frames_are = tied.frames_are;
    owners_ascend = tied.owners_ascend;
    exports_ascend = tied.exports_ascend;
    waiting_ascend = tied.waiting_ascend;
    used = tied.used;
    owned = tied.owned;
    single = tied.single;
    ahead = tied.ahead;
    asked = tied.asked;
  }

  -- ---- a make is answered, and its export live

  live_at : RowLaws Export → (call segid c : ℕ) → at (with_live call segid h.exports) c ≡ (if call == c then option_map (live_with segid) (at h.exports call) else at h.exports c)
  live_at laws call segid c = by (at h.exports call) refl
    where
      by : (found : Option Export) → at h.exports call ≡ found → at (with_live call segid h.exports) c ≡ (if call == c then option_map (live_with segid) found else at h.exports c)
      by None is = rw is (none (call == c) refl)
        where
          none : (b : Bool) → (call == c) ≡ b → at h.exports c ≡ (if b then None else at h.exports c)
          none true same = ap (at h.exports) (sym (eqb-true call c same)) ∙ is
          none false other = refl
      by (Some e) is = rw is (laws.put_at h.exports call c (live_with segid e))

  pub settled_tied : RowLaws Export → RowLaws Waiting → (call segid : ℕ) → AreTied blocks (with_segid call segid h) (call_settled m call)
  settled_tied laws calls call segid = record {
    blocks_ascend = tied.blocks_ascend;
    frames_are = tied.frames_are;
    owners_ascend = tied.owners_ascend;
    exports_ascend = live_ascends (at h.exports call) refl;
    waiting_ascend = calls.less_ascends m.waiting call tied.waiting_ascend;
    used = tied.used;
    owned = λ q page k own. tied.owned q page k (same_own q page k own);
    single = λ q a b k own other. tied.single q a b k (same_own q a k own) (same_own q b k other);
    ahead = λ c above. live_at laws call segid c ∙ none_ahead c (call == c) refl (tied.ahead c above);
    asked = λ c waiting is make. still_asked c waiting is make;
  }
    where
      live_ascends : (found : Option Export) → at h.exports call ≡ found → IsAscending (with_live call segid h.exports)
      live_ascends None is = rw is tied.exports_ascend
      live_ascends (Some e) is = rw is (laws.put_ascends h.exports call (live_with segid e) tied.exports_ascend)

      same_own : (q page k : ℕ) → IsOwn (call_settled m call) q page k → IsOwn m q page k
      same_own q page k own = record { process = own.process; found = own.found; lives = own.lives; mapped = own.mapped; own = own.own; frame_is = own.frame_is }

      none_ahead : (c : ℕ) (b : Bool) → (call == c) ≡ b → at h.exports c ≡ None → (if b then option_map (live_with segid) (at h.exports call) else at h.exports c) ≡ None
      none_ahead c true same none = ap (λ k. option_map (live_with segid) (at h.exports k)) (eqb-true call c same) ∙ ap (option_map (live_with segid)) none
      none_ahead c false other none = none

      still_asked : (c : ℕ) (waiting : Waiting) → at (less m.waiting call) c ≡ Some waiting → is_waiting_make waiting ≡ true → is_asked (at (with_live call segid h.exports) c) ≡ true
      still_asked c waiting is make =
          ap is_asked (live_at laws call segid c) ∙ by (call == c) (sym (calls.less_at m.waiting call c tied.waiting_ascend) ∙ is)
        where
          by : (b : Bool) → (if b then None else at m.waiting c) ≡ Some waiting
              → is_asked (if b then option_map (live_with segid) (at h.exports call) else at h.exports c) ≡ true
          by true found = cc
          by false found = tied.asked c waiting found make

  -- ---- a live export ends

  pub ended_tied : RowLaws Export → (call : ℕ) → is_asked (at h.exports call) ≡ false → AreTied blocks (without_export call h) m
  ended_tied laws call live = record {
    blocks_ascend = tied.blocks_ascend;
    frames_are = tied.frames_are;
    owners_ascend = tied.owners_ascend;
    exports_ascend = laws.less_ascends h.exports call tied.exports_ascend;
    waiting_ascend = tied.waiting_ascend;
    used = tied.used;
    owned = tied.owned;
    single = tied.single;
    ahead = λ c above. laws.less_at h.exports call c tied.exports_ascend ∙ none_ahead (call == c) (at h.exports c) (tied.ahead c above);
    asked = λ c waiting is make. still_asked c (tied.asked c waiting is make);
  }
    where
      none_ahead : (b : Bool) (found : Option Export) → found ≡ None → (if b then None else found) ≡ None
      none_ahead true found none = refl
      none_ahead false found none = none

      still_asked : (c : ℕ) → is_asked (at h.exports c) ≡ true → is_asked (at (less h.exports call) c) ≡ true
      still_asked c asked = ap is_asked (laws.less_at h.exports call c tied.exports_ascend) ∙ by (call == c) refl
        where
          by : (b : Bool) → (call == c) ≡ b → is_asked (if b then None else at h.exports c) ≡ true
          by true here =
              let clash : true ≡ false = sym asked ∙ ap (λ k. is_asked (at h.exports k)) (sym (eqb-true call c here)) ∙ live in
              absurd (cc)
          by false other = asked

-- ---- the same, as a call leaves it

abbrev pub estate : List Block → AttacherState → Holdings → Estate
estate blocks m h = record { blocks = blocks; memory = m; exports = h.exports; grants = h.grants }

absent : (rows : List (ℕ × ProcessState)) (k last : ℕ) → ((q : ℕ) → IsSome (at rows q) → q ≤ last) → last < k → at rows k ≡ None
absent rows k last high above = by (at rows k) refl
  where
    by : (found : Option ProcessState) → at rows k ≡ found → found ≡ None
    by None is = refl
    by (Some process) is = let low = high k (rw is refl) in absurd (omega (arith, low, above))

pub started_after : {T E : Type 0} (done : Result T E) (blocks : List Block) (h : Holdings) (m new : AttacherState) (uid gid : ℕ) → AreTied blocks h m → AreNumbered m
    → OnOk done (new ≡ process_started m uid gid) → OnErr done (new ≡ m) → AreTied blocks h new
started_after (Ok t) blocks h m new uid gid tied numbered ok err =
    subst (λ (x : AttacherState). AreTied blocks h x) (sym ok) (started_tied blocks h m tied uid gid (absent m.processes (m.started + 1) m.started numbered.processes.high (omega arith)))
started_after (Err e) blocks h m new uid gid tied numbered ok err = subst (λ (x : AttacherState). AreTied blocks h x) (sym err) tied

pub withdrawn : (k : ℕ) (e : Export) (h : Holdings) → at h.exports k ≡ None → without_export k (with_export k e h) ≡ h
withdrawn k e h none = ap (λ (rows : List (ℕ × Export)). record h { exports = rows }) (put_less h.exports k e none)

-- what holds of all keys holds of that of a row that is found
key_found : (P : ℕ → Type 0) (segid : ℕ) (rows : List (ℕ × Export)) (row : ℕ × Export) → AllByRecursion P (keys_of rows) → live_export rows segid ≡ Some row → P row.0
key_found P segid [] row all is = cc
key_found P segid (r ∷ rows) row all is = by (has_segid segid r.1.segid) is (key_found P segid rows row all.1)
  where
    by : (b : Bool) → cond b (Some r) (live_export rows segid) ≡ Some row → (live_export rows segid ≡ Some row → P row.0) → P row.0
    by true is more = let same : r ≡ row = cc in subst (λ (x : ℕ × Export). P x.0) same all.0
    by false is more = more is

-- the live row of a segid stands at its call, and isn't asked for
live_found : (segid : ℕ) (rows : List (ℕ × Export)) (row : ℕ × Export) → RowLaws Export → IsAscending rows → live_export rows segid ≡ Some row → is_asked (at rows row.0) ≡ false
unfolding IsStrictlySortedBy
live_found segid [] row laws ascend is = cc
live_found segid (r ∷ rows) row laws ascend is = by (has_segid segid r.1.segid) refl is (live_found segid rows row laws ascend.1)
  where
    live : (found : Option ℕ) → has_segid segid found ≡ true → not (is_some found) ≡ false
    live None has = cc
    live (Some n) has = refl

    by : (b : Bool) → has_segid segid r.1.segid ≡ b → cond b (Some r) (live_export rows segid) ≡ Some row → (live_export rows segid ≡ Some row → is_asked (at rows row.0) ≡ false)
        → is_asked (at (r ∷ rows) row.0) ≡ false
    by true has is more =
        let same : r ≡ row = cc in
        ap (λ (x : ℕ × Export). is_asked (at (r ∷ rows) x.0)) (sym same) ∙ ap is_asked (laws.head r rows) ∙ live r.1.segid has
    by false has is more =
        let less : nat_cmp r.0 row.0 ≡ Less = key_found (λ q. nat_cmp r.0 q ≡ Less) segid rows row ascend.0 is in
        let above : r.0 < row.0 = ranked r.0 row.0 Less (sym less) in
        ap is_asked (laws.later r rows row.0 (λ same. omega (arith, above, same))) ∙ more is

pub ended_after : (blocks : List Block) (h : Holdings) (m : AttacherState) (new : Holdings) (e : Estate) (call segid : ℕ) → AreTied blocks h m → RowLaws Export
    → estate blocks m h ≡ e → option_map (λ row. row.0) (live_export e.exports segid) ≡ Some call → new ≡ without_export call h → AreTied blocks new m
ended_after blocks h m new e call segid tied laws sees is after =
    subst (λ (x : Holdings). AreTied blocks x m) (sym after)
    (ended_tied blocks h m tied laws call (by (live_export h.exports segid) refl (ap (λ (x : Estate). option_map (λ row. row.0) (live_export x.exports segid)) sees ∙ is)))
  where
    by : (found : Option (ℕ × Export)) → live_export h.exports segid ≡ found → option_map (λ row. row.0) found ≡ Some call → is_asked (at h.exports call) ≡ false
    by None found is = cc
    by (Some row) found is =
        let same : row.0 ≡ call = cc in
        ap (λ k. is_asked (at h.exports k)) (sym same) ∙ live_found segid h.exports row laws tied.exports_ascend found

-- what a call that may fail leaves
after_either : {T E : Type 0} (done : Result T E) (blocks : List Block) (h : Holdings) (m changed new : AttacherState) → AreTied blocks h m → AreTied blocks h changed
    → OnOk done (new ≡ changed) → OnErr done (new ≡ m) → AreTied blocks h new
after_either (Ok t) blocks h m changed new tied now ok err = subst (λ (x : AttacherState). AreTied blocks h x) (sym ok) now
after_either (Err e) blocks h m changed new tied now ok err = subst (λ (x : AttacherState). AreTied blocks h x) (sym err) tied

pub get_after : {T E : Type 0} (done : Result T E) (blocks : List Block) (h : Holdings) (m new : AttacherState) (p : Pid) (what : Pending) → AreTied blocks h m → RowLaws Waiting
    → is_make what ≡ false → OnOk done (new ≡ call_issued m p what) → OnErr done (new ≡ m) → AreTied blocks h new
get_after done blocks h m new p what tied calls get ok err = after_either done blocks h m (call_issued m p what) new tied (get_tied blocks h m tied calls p what get) ok err

pub permit_after : {T E : Type 0} (done : Result T E) (blocks : List Block) (h : Holdings) (m new : AttacherState) (call pages : ℕ) → AreTied blocks h m → RowLaws Waiting
    → OnOk done (new ≡ permit_granted m call pages) → OnErr done (new ≡ m) → AreTied blocks h new
permit_after done blocks h m new call pages tied calls ok err = after_either done blocks h m (permit_granted m call pages) new tied (granted_tied blocks h m tied calls call pages) ok err

pub found_after : (blocks : List Block) (h : Holdings) (m new : AttacherState) (e : Estate) (call : ℕ) (owner : Enclave) → AreTied blocks h m → RowLaws Waiting
    → estate blocks m h ≡ e → IsTrue (looks_up (at e.memory.waiting call)) → new ≡ owner_found m call owner → AreTied blocks h new
found_after blocks h m new e call owner tied calls sees seeks after =
    subst (λ (x : AttacherState). AreTied blocks h x) (sym after)
    (found_tied blocks h m tied calls call owner (ap (λ (x : Estate). looks_up (at x.memory.waiting call)) sees ∙ seeks))

pub ended_call_after : (blocks : List Block) (h : Holdings) (m new : AttacherState) (call : ℕ) → AreTied blocks h m → RowLaws Waiting → new ≡ call_settled m call → AreTied blocks h new
ended_call_after blocks h m new call tied calls after = subst (λ (x : AttacherState). AreTied blocks h x) (sym after) (call_ended blocks h m tied calls call)

pub released_after : (blocks : List Block) (h : Holdings) (m new : AttacherState) (apid : ℕ) → AreTied blocks h m → new ≡ permit_released m apid → AreTied blocks h new
released_after blocks h m new apid tied after = subst (λ (x : AttacherState). AreTied blocks h x) (sym after) (released_tied blocks h m tied apid)

pub grants_after : {T E : Type 0} (done : Result T E) (blocks : List Block) (h new : Holdings) (m : AttacherState) (grants : Grants) → AreTied blocks h m
    → OnOk done (new ≡ record h { grants = grants }) → OnErr done (new ≡ h) → AreTied blocks new m
grants_after (Ok t) blocks h new m grants tied ok err = subst (λ (x : Holdings). AreTied blocks x m) (sym ok) (grants_tied blocks h m tied grants)
grants_after (Err e) blocks h new m grants tied ok err = subst (λ (x : Holdings). AreTied blocks x m) (sym err) tied

pub ungranted_after : (blocks : List Block) (h new : Holdings) (m : AttacherState) (grants : Grants) → AreTied blocks h m → new ≡ record h { grants = grants } → AreTied blocks new m
ungranted_after blocks h new m grants tied after = subst (λ (x : Holdings). AreTied blocks x m) (sym after) (grants_tied blocks h m tied grants)

pub settled_after : (blocks : List Block) (h : Holdings) (m : AttacherState) (g : Holdings) (new : AttacherState) (call segid : ℕ) → AreTied blocks h m → RowLaws Export → RowLaws Waiting
    → g ≡ with_segid call segid h → new ≡ call_settled m call → AreTied blocks g new
settled_after blocks h m g new call segid tied laws calls exported settled =
    subst (λ (x : Holdings). AreTied blocks x new) (sym exported) (subst (λ (x : AttacherState). AreTied blocks (with_segid call segid h) x) (sym settled) (settled_tied blocks h m tied laws calls call segid))

-- ---- an enclave's blocks at its birth

above_all : (k low : ℕ) (frames : List Frame) → k < low → Climbs low frames → AllByRecursion (λ q. nat_cmp k q ≡ Less) (map (λ f. f.0) frames)
above_all k low [] lt climbs = tt
above_all k low (f ∷ frames) lt climbs =
    let from = climbs.0 in
    let less : nat_lt k f.0 ≡ true = lt-ltb k f.0 (omega (arith, lt, from)) in
    (rw less refl, above_all k (f.0 + 1) frames (omega (arith, lt, from)) climbs.1)

climbs_ascend : (low : ℕ) (frames : List Frame) → Climbs low frames → IsStrictlySortedBy nat_cmp (map (λ f. f.0) frames)
unfolding IsStrictlySortedBy
climbs_ascend low [] climbs = tt
climbs_ascend low (f ∷ frames) climbs = (above_all f.0 (f.0 + 1) frames (omega arith) climbs.1, climbs_ascend (f.0 + 1) frames climbs.1)

pub frames_ascend : (blocks : List Block) (frames : List Frame) → AreBlocks blocks → frames ≡ frames_of blocks → AreAscendingFrames frames
frames_ascend blocks frames are is = climbs_ascend 0 frames (subst (Climbs 0) (sym is) (blocks_climb blocks are))

no_own : {P : Type 0} (p page k : ℕ) → IsOwn nothing_started p page k → P
unfolding at
no_own p page k own = let none = own.lives in absurd (cc)

empty_tied : (blocks : List Block) → AreBlocks blocks → AreTied blocks (no_holdings (frames_of blocks)) nothing_started
unfolding at IsStrictlySortedBy
empty_tied blocks are = record {
  blocks_ascend = are;
  frames_are = refl;
  owners_ascend = tt;
  exports_ascend = tt;
  waiting_ascend = tt;
  used = λ k. refl;
  owned = λ p page k own. no_own p page k own;
  single = λ p a b k own other. no_own p a k own;
  ahead = λ call above. refl;
  asked = λ call waiting is make. absurd (cc);
}

pub new_tied : (blocks : List Block) (frames : List Frame) (h : Holdings) (m : AttacherState) → AreBlocks blocks → frames ≡ frames_of blocks → h ≡ no_holdings frames → m ≡ nothing_started
    → AreTied blocks h m
new_tied blocks frames h m are is holds nothing =
    subst (λ (x : Holdings). AreTied blocks x m) (sym (holds ∙ ap no_holdings is)) (subst (λ (x : AttacherState). AreTied blocks (no_holdings (frames_of blocks)) x) (sym nothing) (empty_tied blocks are))

-- ---- frames are given

length_taken : (n : ℕ) (frames : List Frame) → length (take n frames) ≤ n
length_taken zero frames = omega arith
length_taken (suc n) [] = omega arith
length_taken (suc n) (f ∷ frames) = let rest = length_taken n frames in omega (arith, rest)

pub free_seen : (blocks : List Block) (h : Holdings) (m : AttacherState) (now : Estate) → AreTied blocks h m → estate blocks m h ≡ now
    → free_frames h ≡ unused_of now
free_seen blocks h m now tied sees = free_unused blocks h m tied ∙ ap unused_of sees

-- too few are free, by another form of the answer and of the number
pub short_is : {T : Type 0} (r q : Result T ExportFault) (a b n : ℕ) → r ≡ q → a ≡ b → (IsErrOf r faults.NoFrames ↔ (a < n)) → (IsErrOf q faults.NoFrames ↔ (b < n))
short_is r q a b n same number short = subst (λ x. IsErrOf x faults.NoFrames ↔ (b < n)) same (subst (λ k. IsErrOf r faults.NoFrames ↔ (k < n)) number short)

pub never_short : {T U : Type 0} (r : Result T ExportFault) (q : Result U ExportFault) (u : U) (a b n : ℕ) → r ≡ Err faults.Memory → q ≡ Ok u → a ≡ b → (IsErrOf q faults.NoFrames ↔ (a < n)) → (IsErrOf r faults.NoFrames ↔ (b < n))
never_short r q u a b n is fine number short =
    subst (λ x. IsErrOf x faults.NoFrames ↔ (b < n)) (sym is) (
      (λ none. absurd (cc)),
      (λ few. let clash : Ok u ≡ Err faults.NoFrames = (subst (λ x. IsErrOf x faults.NoFrames ↔ (b < n)) fine (subst (λ k. IsErrOf q faults.NoFrames ↔ (k < n)) number short)).1 few in absurd (cc)),
    )

pub on_ok : {T E : Type 0} (r : Result T E) (P : Type 0) → P → OnOk r P
on_ok (Ok t) P holds = holds
on_ok (Err e) P holds = tt

pub on_err : {T E : Type 0} (r : Result T E) (P : Type 0) → P → OnErr r P
on_err (Ok t) P holds = tt
on_err (Err e) P holds = holds

pub no_ok : {T E : Type 0} (r : Result T E) (e : E) (P : Type 0) → r ≡ Err e → OnOk r P
no_ok (Ok t) e P is = cc
no_ok (Err f) e P is = tt

pub no_err : {T E : Type 0} (r : Result T E) (t : T) (P : Type 0) → r ≡ Ok t → OnErr r P
no_err (Ok u) t P is = tt
no_err (Err f) t P is = cc

module _ (blocks : List Block) (h : Holdings) (m : AttacherState) (now : Estate) (tied : AreTied blocks h m) (sees : estate blocks m h ≡ now)
    (p n : ℕ) (given : Holdings) (frames : List Frame) (gives : given ≡ with_owned p (take n (free_frames h)) h) (is : frames ≡ take n (free_frames h)) where
  free_is : free_frames h ≡ unused_of now
  free_is = free_seen blocks h m now tied sees

  pub listed : frames ≡ take n (unused_of now)
  listed = is ∙ ap (take n) free_is

  owners_ascend : RowLaws ℕ → IsAscending given.owners
  owners_ascend rows = subst (λ (x : Holdings). IsAscending x.owners) (sym gives) (own_all_ascends rows h.owners p (take n (free_frames h)) tied.owners_ascend)

  pub given_all : RowLaws ℕ → HasAll given.owners p frames
  given_all rows =
      subst (HasAll given.owners p) (sym is) (has_all rows p 0 given.owners (take n (free_frames h)) (owners_ascend rows) (free_climb blocks h m tied n)
      (λ k among. ap (λ (x : Holdings). at x.owners k) gives ∙ own_all_at rows h.owners p k (take n (free_frames h)) ∙ rw among refl))

  -- they are given back
  module _ (rows : RowLaws ℕ) (g : Holdings) (new : AttacherState) (back : g ≡ freed frames given) (same : new ≡ m) where
    back_is : g ≡ freed (take n (free_frames h)) given
    back_is = back ∙ ap (λ fs. freed fs given) is

    exports_are : g.exports ≡ h.exports
    exports_are = ap (λ (x : Holdings). x.exports) back_is ∙ freed_exports (take n (free_frames h)) given ∙ ap (λ (x : Holdings). x.exports) gives

    frames_are : g.frames ≡ h.frames
    frames_are = ap (λ (x : Holdings). x.frames) back_is ∙ freed_frames (take n (free_frames h)) given ∙ ap (λ (x : Holdings). x.frames) gives

    pub back_tied : AreTied blocks g new
    back_tied =
        subst (λ (x : AttacherState). AreTied blocks g x) (sym same)
        (tied_same blocks h g m tied frames_are exports_are
        (subst (λ (x : Holdings). IsAscending x.owners) (sym back_is) (freed_ascends rows (take n (free_frames h)) given (owners_ascend rows)))
        (λ k. ap (λ (x : Holdings). at x.owners k) back_is ∙ back_at rows n p k h given gives (owners_ascend rows)))

    grants_are : g.grants ≡ h.grants
    grants_are = ap (λ (x : Holdings). x.grants) back_is ∙ freed_grants (take n (free_frames h)) given ∙ ap (λ (x : Holdings). x.grants) gives

    pub back_seen : estate blocks new g ≡ now
    back_seen =
        ap (λ (x : AttacherState). estate blocks x g) same ∙ (λ i. record { blocks = blocks; memory = m; exports = exports_are i; grants = grants_are i }) ∙ sees

  -- they are mapped
  module _ (g : Holdings) (new : AttacherState) (first : ℕ) (kept : g ≡ given) (maps : new ≡ with_pages_in m p (put_all (pages_in m p) first (owned frames))) where
    pub given_seen : estate blocks new g ≡ with_lowest p first n now
    given_seen =
        ap (λ (x : AttacherState). estate blocks x g) (maps ∙ ap (λ fs. with_pages_in m p (put_all (pages_in m p) first (owned fs))) (is ∙ ap (take n) (free_unused blocks h m tied)) ∙ given_is m p first (take n (unused blocks m h.exports)))
        ∙ ap (λ (x : Holdings). estate blocks (with_process p (with_pages first (take n (unused blocks m h.exports))) m) x) (kept ∙ gives)
        ∙ ap (with_lowest p first n) sees

    pub given_after : RowLaws Page → RowLaws ℕ → ((table : List (ℕ × Page)) (low high : ℕ) → any_between table low high ≡ is_some (lowest_in table low high))
        → HasRoom now.memory p first n → AreTied blocks g new
    given_after laws rows any room =
        subst (λ (x : Holdings). AreTied blocks x new) (sym (kept ∙ gives))
        (subst (λ (x : AttacherState). AreTied blocks (with_owned p (take n (free_frames h)) h) x) (sym new_is)
        (given_tied blocks h m tied laws rows p first n room.process lives free))
      where
        lives : at m.processes p ≡ Some room.process
        lives = ap (λ (x : Estate). at x.memory.processes p) sees ∙ room.lives

        free : AreFree room.process.pages first (length (take n (free_frames h)))
        free q low high = let most = length_taken n (free_frames h) in are_free any laws room.process.pages first n room.free q low (omega (arith, high, most))

        new_is : new ≡ record m { processes = put m.processes p (with_pages first (take n (free_frames h)) room.process) }
        new_is =
            maps ∙ ap (λ fs. with_pages_in m p (put_all (pages_in m p) first (owned fs))) is ∙ given_is m p first (take n (free_frames h))
            ∙ ap (λ (found : Option ProcessState). option_map_or (λ process. record m { processes = put m.processes p (with_pages first (take n (free_frames h)) process) }) found m) lives

-- ---- a make is issued, in the words of its call

-- a process with those pages is there
pub record IsSeated (pages : List (ℕ × Page)) (found : Option ProcessState) : Type 0 where
  pub process : ProcessState
  pub lives : found ≡ Some process
  pub pages_are : process.pages ≡ pages

pub seated : (pages : List (ℕ × Page)) (found : Option ProcessState) → Some pages ≡ option_map (λ process. process.pages) found → IsSeated pages found
seated pages None is = cc
seated pages (Some process) is = record { process = process; lives = refl; pages_are = let same : process.pages ≡ pages = cc in same }

pub record IsRegion (pages : List (ℕ × Page)) (first n : ℕ) (frames : List Frame) : Type 0 where
  pub own : are_own_pages pages first n ≡ true
  pub frames_are : frames ≡ region_frames pages first n

pub region_is : (pages : List (ℕ × Page)) (first n : ℕ) (frames : List Frame) → Some frames ≡ (if are_own_pages pages first n then Some (region_frames pages first n) else None) → IsRegion pages first n frames
region_is pages first n frames is = by (are_own_pages pages first n) refl is
  where
    by : (b : Bool) → are_own_pages pages first n ≡ b → Some frames ≡ (if b then Some (region_frames pages first n) else None) → IsRegion pages first n frames
    by true own is = record { own = own; frames_are = let same : frames ≡ region_frames pages first n = cc in same }
    by false own is = cc

pub make_owned : (blocks : List Block) (h : Holdings) (m : AttacherState) (p first n : ℕ) (pages : List (ℕ × Page)) (frames : List Frame) → AreTied blocks h m → IsSeated pages (at m.processes p)
    → IsRegion pages first n frames → All (λ frame. at h.owners frame.0 ≡ Some p) frames
make_owned blocks h m p first n pages frames tied seat region =
    subst (λ (fs : List Frame). All (λ frame. at h.owners frame.0 ≡ Some p) fs) (sym region.frames_are)
    (region_owned h.owners p pages first n region.own (λ v found mapped own.
    tied.owned p v found.frame.0 (record { process = seat.process; found = found; lives = seat.lives; mapped = ap (λ (ps : List (ℕ × Page)). at ps v) seat.pages_are ∙ mapped; own = own; frame_is = refl })))

pub made_tied : (blocks : List Block) (h : Holdings) (m : AttacherState) (g : Holdings) (new : AttacherState) (p : Pid) (mode : ℕ) (pages : List (ℕ × Page)) (frames : List Frame) → AreTied blocks h m
    → RowLaws Export → RowLaws Waiting → IsSeated pages (at m.processes p.0) → g ≡ with_asked_for m p.0 mode frames h → new ≡ call_issued m p pendings.Make → AreTied blocks g new
made_tied blocks h m g new p mode pages frames tied laws calls seat asked issued =
    let e = asked_export p.0 seat.process.uid seat.process.gid mode frames in
    let one = asked ∙ ap (λ (found : Option ProcessState). option_map_or (λ process. with_export (m.issued + 1) (asked_export p.0 process.uid process.gid mode frames) h) found h) seat.lives in
    subst (λ (x : Holdings). AreTied blocks x new) (sym one)
    (subst (λ (x : AttacherState). AreTied blocks (with_export (m.issued + 1) e h) x) (sym issued) (issued_tied blocks h m tied laws calls p pendings.Make e refl))

-- What holds of the facts along a journal, and that apt lines keep it.
use Rattle.std.proofs.Common.{◌≡◌, ◌≢◌, ◌⊎◌, inl, inr, ◌+◌, ◌/◌, ◌<◌, ◌≤◌, ℕ, All, map, List, [], ◌∷◌, ◌++◌, Bool, true, false, cond, ◌&&◌, ◌||◌, eqb, ltb, Option, None, Some, refl, sym, ap, ◌∙◌, subst, arith}
use Rattle.std.specs.Prelude.{is_some}
use Rattle.std.proofs.lemmas.Bool.{cases_eq, ne_eqb, le-ltb, eqb-true, eqb-false, and_parts, eq-eqb, or_right}
use Rattle.xm_num.specs.declared.Enclave.{Enclave}
use Rattle.xm_num.specs.declared.Kind.{Kind}
use Rattle.xm_num.specs.declared.Block.{Block}
use Rattle.xemem_language.specs.declared.command.Command.TheVariants as commands
use Rattle.xemem_language.specs.declared.line.Line.{Line}
use Rattle.xemem_language.specs.declared.line.Line.TheVariants as lines
use Rattle.xm_num.specs.declared.Frame.{Frame}
use Rattle.frame_pool.specs.declared.BlockState.{BlockState}
use Rattle.frame_pool.specs.declared.BlockState.TheVariants as states
use Rattle.frame_pool.specs.Blocks.{is_free, is_listed}
use Rattle.enclave_rules.specs.Core.{is_guest, local_frame, place_in}
use Rattle.enclave_rules.specs.Pages.{frames_of}
use Rattle.enclave_rules.specs.Ways.{WaysView, no_ways}
use Rattle.attach_map.specs.Attaching.{AttacherState}
use Rattle.std.specs.Map.{keys_of}
use Rattle.std.specs.BTreeMap.{is_at}
use Rattle.std.specs.Ordering.{nat_cmp}
use Rattle.std.proofs.lemmas.Int.{ints}
use Rattle.std.proofs.lemmas.List.Elements.{All-nil}
use Rattle.std.proofs.lemmas.Map.Views.{All-keys-insert_entry, All-map-remove_entry}
use Rattle.xm_num.specs.declared.Segid.{Segid}
use Rattle.xm_num.specs.Rows.{put, less}
use Rattle.xemem_language.specs.Ranges.{IsName}
use Rattle.exporter_pins.specs.Holdings.{Export}
use Rattle.name_server.specs.Names.{NamesState, no_names}
use Rattle.enclave_rules.specs.Exports.{segid_number}
use Rattle.enclave_rules.specs.Grants.{Grants}
use Rattle.enclave_rules.specs.Memory.{no_memory, with_issued, with_answered, with_granted, with_released}
use Rattle.enclave_rules.specs.Hand.{Hand}
use Rattle.global_model.specs.Facts.{Facts, no_facts, EnclaveFact, ChannelFact, no_channel, fact_of, as_admitted, at_number, at_pair, lent_to, with_sent, with_taken, with_got, after_line, after_lines}
use Rattle.global_model.specs.Channels.{is_neighbour}
use Rattle.global_model.specs.Flow.{IsTree, IsFlow, IsFlowing, IsServer}
use Rattle.global_model.specs.Apt.{IsBirth, IsNear, NothingArrives, IsApt, AreApt}
use Rattle.global_model.proofs.Flow.{waiting_few, flow_sent, flow_taken, IsNextToGet, next_arrives}
use Rattle.global_model.specs.Space.{is_lent_to}
use Rattle.global_model.proofs.Owned.{Owns, owns_none, owns_more, owns_start, owns_pages, unused_lent}
use Rattle.global_model.proofs.Lent.{lent_blocks, IsOfPool, listed_is_free, lent_born, lent_stay, pool_born}
use Rattle.global_model.proofs.Tree.{same_tree, living_tree, near-turned, living_born, tree_born, tree_admitted, near_admitted, near_grows, far_before}
use Rattle.global_model.proofs.Ways.{NamesNear, AllNameNear, ways_near, none_near, near_more, near_asked, near_way, near_back, near_route, at_number_has}

-- the segids of the names are in their range
abbrev pub AreNames : List (ℕ × Enclave) → Type 0
AreNames pairs = All (λ segid. segid ≤ 9223372036854775807) (keys_of pairs)

-- The enclaves are a tree, none holds the name server before one is born, and none is a virtual machine. Nobody has heard of a death. Each block is free or lent, and an enclave's
-- blocks are those that are lent to it. Those who aren't born know nothing, and the pages of processes are own ones of the enclave's blocks. Ways name neighbours, and records flow between
-- neighbours alone.
pub record IsSound (G : Facts) : Type 0 where
  pub tree : IsTree G
  pub unserved : G.born ≡ 0 → G.server ≡ false
  pub seat : 0 < G.born → G.holder.0 < G.born
  pub server : IsServer G
  pub early : G.born ≡ 0 → G.holder.0 ≡ 0
  pub plain : (e : ℕ) → is_guest (fact_of (G.enclave e)).kind ≡ false
  pub heard : (e : ℕ) → G.heard e ≡ []
  pub pool : (b : ℕ) → b < G.pool → IsOfPool G.born (G.block b)
  pub lent : (e : ℕ) → e < G.born → (fact_of (G.enclave e)).blocks ≡ lent_blocks G e
  pub unaware : (e : ℕ) → G.born ≤ e → G.ways e ≡ no_ways
  pub empty : (e : ℕ) → G.born ≤ e → G.memory e ≡ no_memory
  pub unasked : (e : ℕ) → G.born ≤ e → G.exports e ≡ []
  pub ungranted : (e : ℕ) → G.born ≤ e → G.grants e ≡ []
  pub nameless : (e : ℕ) → G.born ≤ e → G.names e ≡ no_names
  pub named : (e : ℕ) → AreNames (G.names e).pairs
  pub owned : (e : ℕ) → Owns G.block e (G.memory e)
  pub near : AllNameNear (is_neighbour G) G.ways
  pub flows : (x y : ℕ) → IsFlow (G.channel x y)
  pub apart : (x y : ℕ) → is_neighbour G x y ≡ false → G.channel x y ≡ no_channel

-- who isn't born has no fact
pub no_fact : (G : Facts) → IsTree G → (e : ℕ) → G.born ≤ e → G.enclave e ≡ None
no_fact G tree e le = by (G.enclave e) ((tree.enclaves e).known ∙ le-ltb e G.born le)
  where
    by : (o : Option EnclaveFact) → is_some o ≡ false → o ≡ None
    by None is = refl
    by (Some fact) is = cc

-- what changes at an enclave that was born leaves those that aren't as they were
unborn_stay : {A : Type 0} (born : ℕ) (f : ℕ → A) (none : A) (e : ℕ) (x : A) → e < born → ((k : ℕ) → born ≤ k → f k ≡ none)
    → (k : ℕ) → born ≤ k → at_number e x f k ≡ none
unborn_stay born f none e x here stays k le = let apart : eqb k e ≡ false = ne_eqb k e (omega (arith, le, here)) in rw apart (stays k le)

-- an enclave that is no virtual machine names frames as the machine does
map_same : (frames : List Frame) → map (λ f. f) frames ≡ frames
map_same [] = refl
map_same (f ∷ frames) = ap (λ fs. f ∷ fs) (map_same frames)

pub local_same : (kind : Kind) (blocks : List Block) (frames : List Frame) → is_guest kind ≡ false → map (local_frame kind blocks) frames ≡ frames
local_same kind blocks frames plain =
    ap (λ guest. map (λ (f : Frame). cond guest (record { 0 = place_in (frames_of blocks) f }) f) frames) plain ∙ map_same frames

-- ---- one pair of numbers

pub at_pair_has : {A : Type 0} (P : A → Type 0) (x y : ℕ) (h : A → A) (f : ℕ → ℕ → A) (a b : ℕ) → (a ≡ x → b ≡ y → P (h (f a b)))
    → P (f a b) → P (at_pair x y h f a b)
at_pair_has {A = A} P x y h f a b here there = by (eqb a x && eqb b y) refl
  where
    by : (t : Bool) → (eqb a x && eqb b y) ≡ t → P (cond t (h (f a b)) (f a b))
    by true is = let both = and_parts (eqb a x) (eqb b y) is in here (eqb-true a x both.0) (eqb-true b y both.1)
    by false is = there

-- what one channel has, the channel of these numbers has
pub at_channel : (G : Facts) (x y : ℕ) (P : ChannelFact → Type 0) (a b : ℕ) → P (G.channel x y) → a ≡ x → b ≡ y → P (G.channel a b)
at_channel G x y P a b has is_x is_y = subst (λ n. P (G.channel n b)) (sym is_x) (subst (λ n. P (G.channel x n)) (sym is_y) has)

-- what isn't between neighbours is another channel
pub not_near : (near : ℕ → ℕ → Bool) (x y a b : ℕ) → near x y ≡ true → near a b ≡ false → a ≡ x → b ≡ y → ⊥
not_near near x y a b is far is_x is_y =
    let clash : true ≡ false = sym is ∙ ap (λ n. near n y) (sym is_x) ∙ ap (near a) (sym is_y) ∙ far in
    cc

-- ---- lines that bear and admit nobody

-- other ways, memory and channels
sound_with : (G : Facts) (ways : ℕ → WaysView) (memory : ℕ → AttacherState) (starts : ℕ) (channel : ℕ → ℕ → ChannelFact) (hand : Hand) → IsSound G
    → ((e : ℕ) → G.born ≤ e → ways e ≡ no_ways) → ((e : ℕ) → G.born ≤ e → memory e ≡ no_memory) → ((e : ℕ) → Owns G.block e (memory e)) → AllNameNear (is_neighbour G) ways
    → ((x y : ℕ) → IsFlow (channel x y)) → ((x y : ℕ) → is_neighbour G x y ≡ false → channel x y ≡ no_channel)
    → IsSound (record G { ways = ways; memory = memory; starts = starts; channel = channel; hand = hand })
sound_with G ways memory starts channel hand sound unaware empty owned near flows apart = record {
  tree = same_tree G _ refl (λ k. refl) sound.tree;
  unserved = sound.unserved;
  seat = sound.seat;
  server = record { held = sound.server.held; seated = sound.server.seated };
  early = sound.early;
  plain = sound.plain;
  heard = sound.heard;
  pool = sound.pool;
  lent = sound.lent;
  unaware = unaware;
  empty = empty;
  unasked = sound.unasked;
  ungranted = sound.ungranted;
  nameless = sound.nameless;
  named = sound.named;
  owned = owned;
  near = near;
  flows = flows;
  apart = apart;
}

sound_hand : (G : Facts) (hand : Hand) → IsSound G → IsSound (record G { hand = hand })
sound_hand G hand sound = sound_with G G.ways G.memory G.starts G.channel hand sound sound.unaware sound.empty sound.owned sound.near sound.flows sound.apart

sound_ways : (G : Facts) (e : Enclave) (w : WaysView) → IsSound G → e.0 < G.born → NamesNear (λ x. is_neighbour G e.0 x.0 ≡ true) w
    → IsSound (record G { ways = at_number e.0 w G.ways })
sound_ways G e w sound born near =
    sound_with G (at_number e.0 w G.ways) G.memory G.starts G.channel G.hand sound (unborn_stay G.born G.ways no_ways e.0 w born sound.unaware) sound.empty sound.owned
    (at_number_has (λ e w. NamesNear (λ x. is_neighbour G e x.0 ≡ true) w) e.0 w G.ways near sound.near) sound.flows sound.apart

sound_memory : (G : Facts) (e : Enclave) (m : AttacherState) (starts : ℕ) → IsSound G → e.0 < G.born → Owns G.block e.0 m
    → IsSound (record G { memory = at_number e.0 m G.memory; starts = starts })
sound_memory G e m starts sound born owns =
    sound_with G G.ways (at_number e.0 m G.memory) starts G.channel G.hand sound sound.unaware (unborn_stay G.born G.memory no_memory e.0 m born sound.empty)
    (at_number_has (Owns G.block) e.0 m G.memory owns sound.owned) sound.near sound.flows sound.apart

-- other exports, grants and names
sound_exports : (G : Facts) (e : Enclave) (exports : List (ℕ × Export)) → IsSound G → e.0 < G.born → IsSound (record G { exports = at_number e.0 exports G.exports })
sound_exports G e exports sound born = record {
  tree = same_tree G _ refl (λ k. refl) sound.tree;
  unserved = sound.unserved;
  seat = sound.seat;
  server = record { held = sound.server.held; seated = sound.server.seated };
  early = sound.early;
  plain = sound.plain;
  heard = sound.heard;
  pool = sound.pool;
  lent = sound.lent;
  unaware = sound.unaware;
  empty = sound.empty;
  unasked = unborn_stay G.born G.exports [] e.0 exports born sound.unasked;
  ungranted = sound.ungranted;
  nameless = sound.nameless;
  named = sound.named;
  owned = sound.owned;
  near = sound.near;
  flows = sound.flows;
  apart = sound.apart;
}

sound_grants : (G : Facts) (e : Enclave) (grants : Grants) → IsSound G → e.0 < G.born → IsSound (record G { grants = at_number e.0 grants G.grants })
sound_grants G e grants sound born = record {
  tree = same_tree G _ refl (λ k. refl) sound.tree;
  unserved = sound.unserved;
  seat = sound.seat;
  server = record { held = sound.server.held; seated = sound.server.seated };
  early = sound.early;
  plain = sound.plain;
  heard = sound.heard;
  pool = sound.pool;
  lent = sound.lent;
  unaware = sound.unaware;
  empty = sound.empty;
  unasked = sound.unasked;
  ungranted = unborn_stay G.born G.grants [] e.0 grants born sound.ungranted;
  nameless = sound.nameless;
  named = sound.named;
  owned = sound.owned;
  near = sound.near;
  flows = sound.flows;
  apart = sound.apart;
}

sound_names : (G : Facts) (names : NamesState) → IsSound G → G.holder.0 < G.born → AreNames names.pairs → IsSound (record G { names = at_number G.holder.0 names G.names })
sound_names G names sound born ranges = record {
  tree = same_tree G _ refl (λ k. refl) sound.tree;
  unserved = sound.unserved;
  seat = sound.seat;
  server = record { held = sound.server.held; seated = sound.server.seated };
  early = sound.early;
  plain = sound.plain;
  heard = sound.heard;
  pool = sound.pool;
  lent = sound.lent;
  unaware = sound.unaware;
  empty = sound.empty;
  unasked = sound.unasked;
  ungranted = sound.ungranted;
  nameless = unborn_stay G.born G.names no_names G.holder.0 names born sound.nameless;
  named = at_number_has (λ e n. AreNames n.pairs) G.holder.0 names G.names ranges sound.named;
  owned = sound.owned;
  near = sound.near;
  flows = sound.flows;
  apart = sound.apart;
}

-- the names with one more, and with one less
names_put : (pairs : List (ℕ × Enclave)) (segid : Segid) (owner : Enclave) → IsName segid.0 → AreNames pairs → AreNames (put pairs (segid_number segid) owner)
unfolding put
names_put pairs segid owner range are = All-keys-insert_entry nat_cmp (segid_number segid) owner (λ n. n ≤ 9223372036854775807) pairs are (omega (arith, ints, range.0, range.1))

names_less : (pairs : List (ℕ × Enclave)) (segid : ℕ) → AreNames pairs → AreNames (less pairs segid)
unfolding less
names_less pairs segid are = All-map-remove_entry (is_at (nat_cmp segid)) (λ row. row.0) (λ n. n ≤ 9223372036854775807) pairs are

-- a channel between neighbours
sound_channel : (G : Facts) (x y : ℕ) (change : ChannelFact → ChannelFact) (hand : Hand) → IsSound G → is_neighbour G x y ≡ true → IsFlow (change (G.channel x y))
    → IsSound (record G { channel = at_pair x y change G.channel; hand = hand })
sound_channel G x y change hand sound near flow =
    sound_with G G.ways G.memory G.starts (at_pair x y change G.channel) hand sound sound.unaware sound.empty sound.owned sound.near
    (λ a b. at_pair_has IsFlow x y change G.channel a b (at_channel G x y (λ c. IsFlow (change c)) a b flow) (sound.flows a b))
    (λ a b far. at_pair_has (λ channel. channel ≡ no_channel) x y change G.channel a b (λ is_x is_y. absurd (not_near (is_neighbour G) x y a b near far is_x is_y)) (sound.apart a b far))

-- ---- births and admissions

-- a block that is lent to an enclave isn't free
by_lent : (k : ℕ) (e : Enclave) (state : BlockState) (listed : Bool) → (listed ≡ true → is_free state ≡ true) → is_lent_to k state ≡ true → is_lent_to k (cond listed (states.Lent e) state) ≡ true
by_lent k e state false free is = is
by_lent k e states.Free true free is = cc
by_lent k e (states.Lent o) true free is = let clash : false ≡ true = free refl in cc
by_lent k e (states.Held o) true free is = cc

-- who is born with the name server is the only one
server_born : (G : Facts) (e : Enclave) (kind : Kind) (parent : Enclave) (ns : Bool) (blocks : List Block) → IsServer G → (ns && G.server) ≡ false
    → (G.server ≡ true → G.holder.0 ≢ e.0) → IsServer (after_line G (lines.Born e kind parent ns blocks))
server_born G e kind parent ns blocks server one apart = record { held = λ k. held k (eqb k e.0) refl ns one; seated = seated ns one }
  where
    fact : Bool → EnclaveFact
    fact ns = record { kind = kind; parent = parent; blocks = blocks; ns = ns; living = true; admitted = false }

    held : (k : ℕ) (here : Bool) → eqb k e.0 ≡ here → (ns : Bool) → (ns && G.server) ≡ false → (fact_of (cond here (Some (fact ns)) (G.enclave k))).ns ≡ true
        → ((G.server || ns) ≡ true) × ((cond ns e G.holder).0 ≡ k)
    held k true is true one has = (or_right G.server true refl, sym (eqb-true k e.0 is))
    held k true is false one has = cc
    held k false is true one has = let before = server.held k has in let clash : true ≡ false = sym before.0 ∙ one in cc
    held k false is false one has = let before = server.held k has in (rw (before.0) refl, before.1)

    seated : (ns : Bool) → (ns && G.server) ≡ false → (G.server || ns) ≡ true
        → (fact_of (cond (eqb (cond ns e G.holder).0 e.0) (Some (fact ns)) (G.enclave (cond ns e G.holder).0))).ns ≡ true
    seated true one is = rw (eq-eqb e.0 e.0 refl) refl
    seated false one is = stays (eqb G.holder.0 e.0) refl (is_there G.server is)
      where
        is_there : (b : Bool) → (b || false) ≡ true → b ≡ true
        is_there true is = refl
        is_there false is = is

        stays : (here : Bool) → eqb G.holder.0 e.0 ≡ here → G.server ≡ true → (fact_of (cond here (Some (fact false)) (G.enclave G.holder.0))).ns ≡ true
        stays false other mark = server.seated mark
        stays true same mark = absurd (apart mark (eqb-true G.holder.0 e.0 same))

sound_born : (G : Facts) (e : Enclave) (kind : Kind) (parent : Enclave) (ns : Bool) (blocks : List Block) → IsSound G → IsBirth G e kind parent ns blocks
    → IsSound (after_line G (lines.Born e kind parent ns blocks))
sound_born G e kind parent ns blocks sound birth =
    let H = after_line G (lines.Born e kind parent ns blocks) in
    let grows : (x y : ℕ) → is_neighbour G x y ≡ true → is_neighbour H x y ≡ true = near_grows G e kind parent ns blocks sound.tree birth.next in
    record {
      tree = tree_born G e kind parent ns blocks sound.tree birth.room birth.next (λ some. let below = living_born G parent.0 sound.tree (birth.under some) in omega (arith, below, birth.next));
      unserved = λ none. absurd (omega (arith, none));
      seat = λ some. by_seat ns;
      server = server_born G e kind parent ns blocks sound.server birth.one (before_seat (cases_eq G.born 0));
      early = λ none. absurd (omega (arith, none));
      plain = λ k. by_kind k (eqb k e.0);
      heard = sound.heard;
      pool = λ b within. pool_born G.born e (is_listed blocks b) (G.block b) birth.next (sound.pool b within);
      lent = λ k below. by_blocks k below (eqb k e.0) refl;
      unaware = λ k le. sound.unaware k (omega (arith, le));
      empty = λ k le. sound.empty k (omega (arith, le));
      unasked = λ k le. sound.unasked k (omega (arith, le));
      ungranted = λ k le. sound.ungranted k (omega (arith, le));
      nameless = λ k le. sound.nameless k (omega (arith, le));
      named = sound.named;
      owned = λ k. owns_more G.block H.block k (λ b is. stays k b is) (G.memory k) (sound.owned k);
      near = near_more (is_neighbour G) (is_neighbour H) G.ways grows sound.near;
      flows = sound.flows;
      apart = λ a b far. sound.apart a b (far_before G H grows a b far);
    }
  where
    by_kind : (k : ℕ) (b : Bool) → is_guest (fact_of (cond b (Some (record { kind = kind; parent = parent; blocks = blocks; ns = ns; living = true; admitted = false })) (G.enclave k))).kind ≡ false
    by_kind k true = birth.plain
    by_kind k false = sound.plain k

    by_seat : (b : Bool) → (cond b e G.holder).0 < G.born + 1
    by_seat true = omega (arith, birth.next)
    by_seat false = first (cases_eq G.born 0)
      where
        first : (G.born ≡ 0) ⊎ (G.born ≢ 0) → G.holder.0 < G.born + 1
        first (inl none) = omega (arith, sound.early none)
        first (inr some) = let below = sound.seat (omega (arith, some)) in omega (arith, below)

    before_seat : (G.born ≡ 0) ⊎ (G.born ≢ 0) → G.server ≡ true → G.holder.0 ≢ e.0
    before_seat (inl none) mark same = let clash : true ≡ false = sym mark ∙ sound.unserved none in cc
    before_seat (inr some) mark same = let below = sound.seat (omega (arith, some)) in omega (arith, below, same, birth.next)

    stays : (k b : ℕ) → is_lent_to k (G.block b) ≡ true → is_lent_to k (lent_to blocks e G.block b) ≡ true
    stays k b is = by_lent k e (G.block b) (is_listed blocks b) (listed_is_free G blocks birth.count birth.lowest b) is

    by_blocks : (k : ℕ) → k < G.born + 1 → (b : Bool) → eqb k e.0 ≡ b
        → (fact_of (cond b (Some (record { kind = kind; parent = parent; blocks = blocks; ns = ns; living = true; admitted = false })) (G.enclave k))).blocks ≡ lent_blocks (after_line G (lines.Born e kind parent ns blocks)) k
    by_blocks k below true is =
        sym (lent_born G e kind parent ns blocks birth.count birth.next birth.lowest sound.pool)
        ∙ ap (lent_blocks (after_line G (lines.Born e kind parent ns blocks))) (sym (eqb-true k e.0 is))
    by_blocks k below false is =
        let apart : k ≢ e.0 = eqb-false k e.0 is in
        sound.lent k (omega (arith, below, apart, birth.next))
        ∙ sym (lent_stay G e kind parent ns blocks birth.count birth.next birth.lowest k (λ same. apart (sym same)))

-- an admission keeps what it doesn't speak of
pub admitted_keeps : {A : Type 0} (f : Option EnclaveFact → A) → ((o : Option EnclaveFact) → f (as_admitted o) ≡ f o) → (G : Facts) (a : Enclave) (k : ℕ)
    → f ((after_line G (lines.Admitted a)).enclave k) ≡ f (G.enclave k)
admitted_keeps f keeps G a k = by (eqb k a.0) refl
  where
    by : (b : Bool) → eqb k a.0 ≡ b → f (cond b (as_admitted (G.enclave a.0)) (G.enclave k)) ≡ f (G.enclave k)
    by true is = keeps (G.enclave a.0) ∙ ap (λ n. f (G.enclave n)) (sym (eqb-true k a.0 is))
    by false is = refl

pub keeps_kind : (o : Option EnclaveFact) → (fact_of (as_admitted o)).kind ≡ (fact_of o).kind
keeps_kind None = refl
keeps_kind (Some fact) = refl

pub keeps_blocks : (o : Option EnclaveFact) → (fact_of (as_admitted o)).blocks ≡ (fact_of o).blocks
keeps_blocks None = refl
keeps_blocks (Some fact) = refl

pub keeps_ns : (o : Option EnclaveFact) → (fact_of (as_admitted o)).ns ≡ (fact_of o).ns
keeps_ns None = refl
keeps_ns (Some fact) = refl

server_admitted : (G : Facts) (a : Enclave) → IsServer G → IsServer (after_line G (lines.Admitted a))
server_admitted G a server = record {
  held = λ e is. server.held e (sym (admitted_keeps (λ o. (fact_of o).ns) keeps_ns G a e) ∙ is);
  seated = λ mark. admitted_keeps (λ o. (fact_of o).ns) keeps_ns G a G.holder.0 ∙ server.seated mark;
}

sound_admitted : (G : Facts) (e : Enclave) → IsSound G → IsSound (after_line G (lines.Admitted e))
sound_admitted G e sound =
    let H = after_line G (lines.Admitted e) in
    record {
      tree = tree_admitted G e sound.tree;
      unserved = sound.unserved;
      seat = sound.seat;
      server = server_admitted G e sound.server;
      early = sound.early;
      plain = λ k. ap is_guest (admitted_keeps (λ o. (fact_of o).kind) keeps_kind G e k) ∙ sound.plain k;
      heard = sound.heard;
      pool = sound.pool;
      lent = λ k below. admitted_keeps (λ o. (fact_of o).blocks) keeps_blocks G e k ∙ sound.lent k below;
      unaware = sound.unaware;
      empty = sound.empty;
      unasked = sound.unasked;
      ungranted = sound.ungranted;
      nameless = sound.nameless;
      named = sound.named;
      owned = sound.owned;
      near = near_more (is_neighbour G) (is_neighbour H) G.ways (λ x y is. near_admitted G e x y ∙ is) sound.near;
      flows = sound.flows;
      apart = λ x y far. sound.apart x y (sym (near_admitted G e x y) ∙ far);
    }

-- the pool comes before all enclaves
sound_pool : (G : Facts) (blocks : ℕ) → IsSound G → G.born ≡ 0 → IsSound (after_line G (lines.Do (commands.Pool blocks)))
sound_pool G blocks sound none = record {
  tree = same_tree G _ refl (λ k. refl) sound.tree;
  unserved = sound.unserved;
  seat = sound.seat;
  server = record { held = sound.server.held; seated = sound.server.seated };
  early = sound.early;
  plain = sound.plain;
  heard = sound.heard;
  pool = λ b within. tt;
  lent = λ e below. absurd (omega (arith, below, none));
  unaware = sound.unaware;
  empty = sound.empty;
  unasked = sound.unasked;
  ungranted = sound.ungranted;
  nameless = sound.nameless;
  named = sound.named;
  owned = λ e. subst (Owns (λ b. states.Free) e) (sym (sound.empty e (omega (arith, none)))) (owns_none (λ b. states.Free) e);
  near = sound.near;
  flows = sound.flows;
  apart = sound.apart;
}

-- ---- all lines

-- the neighbour's channel, turned
turned : (G : Facts) (x y : Enclave) → IsNear G y x → is_neighbour G x.0 y.0 ≡ true
turned G x y near = near-turned G x.0 y.0 ∙ near.near

-- the enclave was born
there : (G : Facts) (e x : Enclave) → IsSound G → IsNear G e x → e.0 < G.born
there G e x sound near = living_born G e.0 sound.tree near.living

pub sound_line : (G : Facts) (line : Line) → IsSound G → IsApt G line → IsSound (after_line G line)
sound_line G (lines.Do (commands.Pool blocks)) sound apt = sound_pool G blocks sound apt
sound_line G (lines.Do _) sound apt = sound_hand G _ sound
sound_line G (lines.Born e kind parent ns blocks) sound apt = sound_born G e kind parent ns blocks sound apt
sound_line G (lines.Told e dead) sound apt = absurd apt
sound_line G (lines.Heard e dead) sound apt = absurd apt
sound_line G (lines.Admitted e) sound apt = sound_admitted G e sound
sound_line G (lines.Proc e p uid gid) sound apt =
    sound_memory G e _ (G.starts + 1) sound (living_born G e.0 sound.tree apt.0) (owns_start G.block e.0 p.0 uid gid ((G.memory e.0).started + 1) (G.memory e.0) (sound.owned e.0))
sound_line G (lines.Alloc e p page frames) sound apt =
    let fact = fact_of (G.enclave e.0) in
    let lent : All (λ f. is_lent_to e.0 (G.block (f.0 / 64)) ≡ true) (map (local_frame fact.kind fact.blocks) frames)
    = subst (All (λ f. is_lent_to e.0 (G.block (f.0 / 64)) ≡ true)) (sym (local_same fact.kind fact.blocks frames (sound.plain e.0) ∙ apt.lowest)) (unused_lent G e.0 apt.count) in
    sound_memory G e _ G.starts sound (living_born G e.0 sound.tree apt.living) (owns_pages G.block e.0 p.0 page.0 _ (G.memory e.0) lent (sound.owned e.0))
sound_line G (lines.Issue e p call) sound apt =
    let born = living_born G e.0 sound.tree apt in
    let issued = with_issued p call (G.memory e.0) in
    sound_exports (record G { memory = at_number e.0 issued G.memory }) e _ (sound_memory G e issued G.starts sound born (sound.owned e.0)) born
sound_line G (lines.Drew e call segid) sound apt =
    sound_names G _ sound (living_born G G.holder.0 sound.tree apt.living) (names_put (G.names G.holder.0).pairs segid e apt.range (sound.named G.holder.0))
sound_line G (lines.Named e call segid) sound apt = sound_exports G e _ sound (living_born G e.0 sound.tree apt.living)
sound_line G (lines.Unnamed segid) sound apt =
    sound_names G _ sound (living_born G G.holder.0 sound.tree apt.living) (names_less (G.names G.holder.0).pairs (segid_number segid) (sound.named G.holder.0))
sound_line G (lines.Grant owner e call segid access) sound apt = sound_grants G owner _ sound (living_born G owner.0 sound.tree apt.living)
sound_line G (lines.Ungrant owner e call) sound apt = sound_grants G owner _ sound (living_born G owner.0 sound.tree apt)
sound_line G (lines.Remove e segid) sound apt = sound_exports G e _ sound (living_born G e.0 sound.tree apt.living)
sound_line G (lines.AnswerSegid e p call segid) sound apt =
    sound_memory G e (with_answered call (G.memory e.0)) G.starts sound (living_born G e.0 sound.tree apt.living) (sound.owned e.0)
sound_line G (lines.AnswerApid e p call apid pages) sound apt =
    sound_memory G e (with_granted call pages (G.memory e.0)) G.starts sound (living_born G e.0 sound.tree apt) (sound.owned e.0)
sound_line G (lines.AnswerRefused e p call cause) sound apt =
    sound_memory G e (with_answered call (G.memory e.0)) G.starts sound (living_born G e.0 sound.tree apt) (sound.owned e.0)
sound_line G (lines.Release e call) sound apt =
    sound_memory G e (with_released call (G.memory e.0)) G.starts sound (living_born G e.0 sound.tree apt) (sound.owned e.0)
sound_line G (lines.Sent x y r) sound apt =
    sound_channel G x.0 y.0 (with_sent r) G.hand sound apt.between.near (flow_sent r (G.channel x.0 y.0) apt.valid (sound.flows x.0 y.0))
sound_line G (lines.Took x y count) sound apt =
    sound_channel G x.0 y.0 (with_taken count) _ sound (turned G x y apt.between) (flow_taken count (G.channel x.0 y.0) (omega (arith, apt.wait, waiting_few G x.0 y.0)) (sound.flows x.0 y.0))
sound_line G (lines.Got x y) sound apt =
    let next : IsNextToGet (G.channel x.0 y.0) apt.later = next_arrives (G.channel x.0 y.0) apt.rec apt.later (sound.flows x.0 y.0) apt.arrives in
    sound_channel G x.0 y.0 with_got _ sound (turned G x y apt.between) next.flow
sound_line G (lines.Asked e by) sound apt = sound_ways G e _ sound (there G e by sound apt) (near_asked (λ x. is_neighbour G e.0 x.0 ≡ true) (fact_of (G.enclave e.0)).parent by (G.ways e.0) apt.near (sound.near e.0))
sound_line G (lines.Way e over) sound apt = sound_ways G e _ sound (there G e over sound apt) (near_way (λ x. is_neighbour G e.0 x.0 ≡ true) over (G.ways e.0) apt.near (sound.near e.0))
sound_line G (lines.Back e of over) sound apt = sound_ways G e _ sound (there G e over sound apt) (near_back (λ x. is_neighbour G e.0 x.0 ≡ true) of.0 over (G.ways e.0) apt.near (sound.near e.0))
sound_line G (lines.Route e of over) sound apt = sound_ways G e _ sound (there G e over sound apt) (near_route (λ x. is_neighbour G e.0 x.0 ≡ true) of.0 over (G.ways e.0) apt.near (sound.near e.0))
sound_line G _ sound apt = sound

pub sound_lines : (G : Facts) (ls : List Line) → IsSound G → AreApt G ls → IsSound (after_lines G ls)
sound_lines G [] sound apt = sound
sound_lines G (l ∷ ls) sound apt = sound_lines (after_line G l) ls (sound_line G l sound apt.0) apt.1

pub apt_append : (G : Facts) (ls ms : List Line) → AreApt G ls → AreApt (after_lines G ls) ms → AreApt G (ls ++ ms)
apt_append G [] ms first more = more
apt_append G (l ∷ ls) ms first more = (first.0, apt_append (after_line G l) ls ms first.1 more)

-- where no record that is whole waits, all channels flow
pub sound_flowing : (G : Facts) → IsSound G → NothingArrives G → IsFlowing G
sound_flowing G sound none = record { tree = sound.tree; server = sound.server; ways = ways_near G sound.near; flows = sound.flows; arrived = none; apart = sound.apart }

-- before the first command
pub sound_start : IsSound no_facts
sound_start = record {
  tree = living_tree no_facts (omega arith)
      (λ e. let none : ltb e 0 ≡ false = le-ltb e 0 (omega arith) in record { known = sym none; above = λ p has some. cc })
      (λ e lt. absurd (omega (arith, lt)));
  unserved = λ none. refl;
  seat = λ some. absurd (omega (arith, some));
  server = record { held = λ e is. cc; seated = λ is. cc };
  early = λ none. refl;
  plain = λ e. refl;
  heard = λ e. refl;
  pool = λ b within. absurd (omega (arith, within));
  lent = λ e below. absurd (omega (arith, below));
  unaware = λ e le. refl;
  empty = λ e le. refl;
  unasked = λ e le. refl;
  ungranted = λ e le. refl;
  nameless = λ e le. refl;
  named = λ e. All-nil _;
  owned = λ e. owns_none no_facts.block e;
  near = λ e. none_near (λ x. is_neighbour no_facts e x.0 ≡ true);
  flows = λ x y. record { valid = tt; taken = omega arith; got = omega arith };
  apart = λ x y far. refl;
}

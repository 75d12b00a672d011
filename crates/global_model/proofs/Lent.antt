-- The blocks that are lent to an enclave, what a birth changes of them, and their frames that are in no use.
use Rattle.std.proofs.Common.{◌≡◌, ◌≢◌, ◌+◌, ◌*◌, ◌/◌, ◌<◌, ℕ, List, [], ◌∷◌, ◌++◌, take, get_or, map, Bool, true, false, cond, not, ◌&&◌, ◌||◌, eqb, refl, sym, ap, ◌∙◌, arith}
use Rattle.std.specs.List.{range_with_len, filter, flat_map, list_any}
use Rattle.std.proofs.lemmas.Bool.{eq-eqb, ne_eqb}
use Rattle.std.proofs.lemmas.List.{take-map, map-append}
use Rattle.xm_num.specs.declared.Enclave.{Enclave}
use Rattle.xm_num.specs.declared.Kind.{Kind}
use Rattle.xm_num.specs.declared.Block.{Block}
use Rattle.xm_num.specs.declared.Page.{Page}
use Rattle.frame_pool.specs.declared.BlockState.{BlockState}
use Rattle.frame_pool.specs.declared.BlockState.TheVariants as states
use Rattle.frame_pool.specs.Blocks.{is_listed, is_free}
use Rattle.xemem_language.specs.declared.line.Line.TheVariants as lines
use Rattle.enclave_rules.specs.Core.{is_guest}
use Rattle.attach_map.specs.Attaching.{ProcessState}
use Rattle.xm_num.specs.declared.Frame.{Frame}
use Rattle.exporter_pins.specs.Holdings.{Export, is_covered}
use Rattle.enclave_rules.specs.Memory.{is_used, unused}
use Rattle.enclave_rules.specs.Pages.{frame_list, frames_of}
use Rattle.global_model.specs.Facts.{Facts, fact_of, is_living_enclave, after_line}
use Rattle.global_model.specs.Space.{is_export_frame, is_lent_to, is_own_frame, is_unused, unused_frames, blocks_left}
use Rattle.global_model.proofs.Runs.{filter_run-same, filter_groups, is_among, first_of_run, first_taken, first_passes}

-- ---- blocks

abbrev pub block_list : List ℕ → List Block
block_list bs = map (λ b. record { 0 = b }) bs

-- the blocks that are lent to an enclave, ascending
abbrev pub lent_blocks : Facts → ℕ → List Block
lent_blocks G e = block_list (filter (λ b. is_lent_to e (G.block b)) (range_with_len 0 G.pool))

-- a block is free, or lent to an enclave that was born
abbrev pub IsOfPool : ℕ → BlockState → Type 0
IsOfPool born states.Free = Unit {0}
IsOfPool born (states.Lent e) = e.0 < born
IsOfPool born (states.Held e) = ⊥

-- the numbers of the lowest free blocks
abbrev pub lowest_free : Facts → ℕ → List ℕ
lowest_free G count = first_of_run count (λ b. is_free (G.block b)) 0 G.pool

listed_among : (bs : List ℕ) (k : ℕ) → is_listed (block_list bs) k ≡ is_among bs k
listed_among [] k = refl
listed_among (b ∷ bs) k = ap (λ t. eqb b k || t) (listed_among bs k)

-- the blocks that are drawn are the lowest free ones
module _ (G : Facts) (blocks : List Block) (count : ℕ) (lowest : blocks ≡ take count (blocks_left G)) where
  drawn_blocks : blocks ≡ block_list (lowest_free G count)
  drawn_blocks = lowest ∙ take-map (λ b. record { 0 = b }) count (filter (λ b. is_free (G.block b)) (range_with_len 0 G.pool))

  listed_are : (k : ℕ) → is_listed blocks k ≡ is_among (lowest_free G count) k
  listed_are k = ap (λ bs. is_listed bs k) drawn_blocks ∙ listed_among (lowest_free G count) k

  pub listed_is_free : (k : ℕ) → is_listed blocks k ≡ true → is_free (G.block k) ≡ true
  listed_is_free k listed = first_passes count (λ b. is_free (G.block b)) 0 G.pool k (sym (listed_are k) ∙ listed)

  -- those of the pool that are listed are just these
  pub listed_all : block_list (filter (is_listed blocks) (range_with_len 0 G.pool)) ≡ blocks
  listed_all =
      let same : filter (is_listed blocks) (range_with_len 0 G.pool) ≡ filter (is_among (lowest_free G count)) (range_with_len 0 G.pool)
      = filter_run-same (is_listed blocks) (is_among (lowest_free G count)) 0 G.pool (λ k low high. listed_are k) in
      ap block_list (same ∙ first_taken count (λ b. is_free (G.block b)) 0 G.pool) ∙ sym drawn_blocks

lent_now : (born : ℕ) (e : Enclave) (listed : Bool) (state : BlockState) → e.0 ≡ born → IsOfPool born state
    → is_lent_to e.0 (cond listed (states.Lent e) state) ≡ listed
lent_now born e true state next is = eq-eqb e.0 e.0 refl
lent_now born e false states.Free next is = refl
lent_now born e false (states.Lent o) next is = ne_eqb o.0 e.0 (omega (arith, is, next))
lent_now born e false (states.Held o) next is = absurd is

lent_before : (k : ℕ) (e : Enclave) (listed : Bool) (state : BlockState) → e.0 ≢ k → (listed ≡ true → is_free state ≡ true)
    → is_lent_to k (cond listed (states.Lent e) state) ≡ is_lent_to k state
lent_before k e false state apart free = refl
lent_before k e true state apart free = ne_eqb e.0 k apart ∙ by state (free refl)
  where
    by : (state : BlockState) → is_free state ≡ true → false ≡ is_lent_to k state
    by states.Free is = refl
    by (states.Lent o) is = cc
    by (states.Held o) is = cc

-- ---- a birth

module _ (G : Facts) (e : Enclave) (kind : Kind) (parent : Enclave) (ns : Bool) (blocks : List Block) (count : ℕ)
    (next : e.0 ≡ G.born) (lowest : blocks ≡ take count (blocks_left G)) where
  pub lent_born : ((b : ℕ) → b < G.pool → IsOfPool G.born (G.block b)) → lent_blocks (after_line G (lines.Born e kind parent ns blocks)) e.0 ≡ blocks
  lent_born pool =
      ap block_list (filter_run-same _ (is_listed blocks) 0 G.pool (λ b low high. lent_now G.born e (is_listed blocks b) (G.block b) next (pool b (omega (arith, high)))))
      ∙ listed_all G blocks count lowest

  pub lent_stay : (k : ℕ) → e.0 ≢ k → lent_blocks (after_line G (lines.Born e kind parent ns blocks)) k ≡ lent_blocks G k
  lent_stay k apart =
      ap block_list (filter_run-same _ _ 0 G.pool (λ b low high. lent_before k e (is_listed blocks b) (G.block b) apart (listed_is_free G blocks count lowest b)))

pub pool_born : (born : ℕ) (e : Enclave) (listed : Bool) (state : BlockState) → e.0 ≡ born → IsOfPool born state → IsOfPool (born + 1) (cond listed (states.Lent e) state)
pool_born born e true state next is = omega (arith, next)
pool_born born e false states.Free next is = tt
pool_born born e false (states.Lent o) next is = omega (arith, is)
pool_born born e false (states.Held o) next is = absurd is

-- ---- frames

frame_list-append : (a b : List ℕ) → frame_list (a ++ b) ≡ frame_list a ++ frame_list b
frame_list-append a b = map-append (λ f. record { 0 = f }) a b

frames_of_list : (bs : List ℕ) → frame_list (flat_map (λ b. range_with_len (64 * b) 64) bs) ≡ frames_of (block_list bs)
frames_of_list [] = refl
frames_of_list (b ∷ bs) = frame_list-append (range_with_len (64 * b) 64) (flat_map (λ b. range_with_len (64 * b) 64) bs) ∙ ap (λ fs. frame_list (range_with_len (64 * b) 64) ++ fs) (frames_of_list bs)

filter_both : (p q : ℕ → Bool) (ns : List ℕ) → filter (λ n. p n && q n) ns ≡ filter q (filter p ns)
filter_both p q [] = refl
filter_both p q (n ∷ ns) = by (p n) (filter_both p q ns)
  where
    by : (b : Bool) → filter (λ n. p n && q n) ns ≡ filter q (filter p ns)
        → cond (b && q n) (n ∷ filter (λ n. p n && q n) ns) (filter (λ n. p n && q n) ns) ≡ filter q (cond b (n ∷ filter p ns) (filter p ns))
    by true more = ap (λ rest. cond (q n) (n ∷ rest) rest) more
    by false more = more

filter_frames : (q : ℕ → Bool) (ns : List ℕ) → frame_list (filter q ns) ≡ filter (λ f. q f.0) (frame_list ns)
filter_frames q [] = refl
filter_frames q (n ∷ ns) = by (q n) (filter_frames q ns)
  where
    by : (b : Bool) → frame_list (filter q ns) ≡ filter (λ f. q f.0) (frame_list ns)
        → frame_list (cond b (n ∷ filter q ns) (filter q ns)) ≡ cond b (record { 0 = n } ∷ filter (λ f. q f.0) (frame_list ns)) (filter (λ f. q f.0) (frame_list ns))
    by true more = ap (λ rest. record { 0 = n } ∷ rest) more
    by false more = more

-- of all frames of a pool, those of the blocks that pass one test which pass another
pub frames_passing : (lent q : ℕ → Bool) (pool : ℕ)
    → frame_list (filter (λ f. lent (f / 64) && q f) (range_with_len 0 (64 * pool))) ≡ filter (λ f. q f.0) (frames_of (block_list (filter lent (range_with_len 0 pool))))
frames_passing lent q pool =
    let bs = filter lent (range_with_len 0 pool) in
    ap frame_list (filter_both (λ f. lent (f / 64)) q (range_with_len 0 (64 * pool)) ∙ ap (filter q) (filter_groups lent 0 pool))
    ∙ filter_frames q (flat_map (λ b. range_with_len (64 * b) 64) bs) ∙ ap (filter (λ f. q f.0)) (frames_of_list bs)

-- an enclave that is no virtual machine names frames as the machine does
own_is_used : (G : Facts) (e f : ℕ) → is_guest (fact_of (G.enclave e)).kind ≡ false → is_own_frame G e f ≡ is_used (G.memory e) f
own_is_used G e f plain =
    ap (λ guest. list_any (λ (process : ℕ × ProcessState). list_any (λ (row : ℕ × Page). row.1.own && eqb (cond guest (get_or (frames_of (fact_of (G.enclave e)).blocks) row.1.frame.0 row.1.frame) row.1.frame).0 f) process.1.pages) (G.memory e).processes) plain

exported_seen : (G : Facts) (e f : ℕ) → is_guest (fact_of (G.enclave e)).kind ≡ false → is_export_frame G e f ≡ is_covered (G.exports e) f
exported_seen G e f plain =
    ap (λ guest. list_any (λ (row : ℕ × Export). list_any (λ (own : Frame). eqb (cond guest (get_or (frames_of (fact_of (G.enclave e)).blocks) own.0 own) own).0 f) row.1.frames) (G.exports e)) plain

-- the unused frames, by the facts, are those that the enclave has in no use
pub unused_seen : (G : Facts) (e : ℕ) → is_living_enclave (G.enclave e) ≡ true → is_guest (fact_of (G.enclave e)).kind ≡ false
    → (fact_of (G.enclave e)).blocks ≡ lent_blocks G e → unused_frames G e ≡ unused (fact_of (G.enclave e)).blocks (G.memory e) (G.exports e)
unused_seen G e living plain lent =
    let lent_to : ℕ → Bool = λ b. is_lent_to e (G.block b) in
    let used : ℕ → Bool = λ f. is_used (G.memory e) f || is_covered (G.exports e) f in
    let same : filter (is_unused G e) (range_with_len 0 (64 * G.pool)) ≡ filter (λ f. lent_to (f / 64) && not (used f)) (range_with_len 0 (64 * G.pool))
    = filter_run-same (is_unused G e) (λ f. lent_to (f / 64) && not (used f)) 0 (64 * G.pool)
    (λ f low high. rw (living, own_is_used G e f plain, exported_seen G e f plain) refl) in
    ap frame_list same ∙ frames_passing lent_to (λ f. not (used f)) G.pool ∙ ap (λ bs. unused bs (G.memory e) (G.exports e)) (sym lent)

-- Each page of a process is an own one, of a frame in a block that is lent to its enclave.
use Rattle.std.proofs.Common.{◌≡◌, ◌*◌, ◌/◌, ℕ, List, map, take, true, All, Option, None, Some, refl}
use Rattle.std.specs.List.{range_with_len}
use Rattle.std.proofs.lemmas.Bool.{and_parts}
use Rattle.std.proofs.lemmas.List.Elements.{All-nil, All-weaker, All-map, All-take, filter_passes}
use Rattle.xm_num.specs.declared.Frame.{Frame}
use Rattle.xm_num.specs.declared.Page.{Page}
use Rattle.std.specs.Option.{option_map_or}
use Rattle.xm_num.specs.Rows.{at, put}
use Rattle.frame_pool.specs.declared.BlockState.{BlockState}
use Rattle.enclave_rules.specs.Pages.{own_page}
use Rattle.attach_map.specs.Attaching.{ProcessState, AttacherState}
use Rattle.enclave_rules.specs.Memory.{no_memory, new_process, with_pages, with_process}
use Rattle.global_model.specs.Facts.{Facts, is_living_enclave}
use Rattle.global_model.specs.Space.{is_lent_to, is_unused, unused_frames}
use Rattle.global_model.proofs.Rows.{AllRows, all_put, all_put_all, all_at}

-- an own page of a frame in a block that is lent to the enclave
pub record IsOwned (block : ℕ → BlockState) (e : ℕ) (page : Page) : Type 0 where
  pub own : page.own ≡ true
  pub lent : is_lent_to e (block (page.frame.0 / 64)) ≡ true

abbrev pub OwnsAll : (ℕ → BlockState) → ℕ → ProcessState → Type 0
OwnsAll block e process = AllRows (IsOwned block e) process.pages

-- all pages of the enclave's processes are
abbrev pub Owns : (ℕ → BlockState) → ℕ → AttacherState → Type 0
Owns block e m = AllRows (OwnsAll block e) m.processes

pub owns_none : (block : ℕ → BlockState) (e : ℕ) → Owns block e no_memory
owns_none block e = All-nil _

-- other blocks, where none that is lent to the enclave is another's
pub owns_more : (block more : ℕ → BlockState) (e : ℕ) → ((b : ℕ) → is_lent_to e (block b) ≡ true → is_lent_to e (more b) ≡ true) → (m : AttacherState)
    → Owns block e m → Owns more e m
owns_more block more e stays m owns =
    All-weaker (OwnsAll block e) (OwnsAll more e) (λ process all. All-weaker (IsOwned block e) (IsOwned more e) (λ page is. record { own = is.own; lent = stays (page.frame.0 / 64) is.lent }) _ all) _ owns

pub owns_start : (block : ℕ → BlockState) (e p uid gid started : ℕ) (m : AttacherState) → Owns block e m
    → Owns block e (record m { started = started; processes = put m.processes p (new_process uid gid) })
owns_start block e p uid gid started m owns = all_put (OwnsAll block e) m.processes p (new_process uid gid) owns (All-nil _)

-- frames of blocks that are lent to the enclave become own pages
pub owns_pages : (block : ℕ → BlockState) (e p page : ℕ) (frames : List Frame) (m : AttacherState) → All (λ f. is_lent_to e (block (f.0 / 64)) ≡ true) frames
    → Owns block e m → Owns block e (with_process p (with_pages page frames) m)
owns_pages block e p page frames m lent owns = by (at m.processes p) refl
  where
    each : (fs : List Frame) → All (λ f. is_lent_to e (block (f.0 / 64)) ≡ true) fs → All (IsOwned block e) (map own_page fs)
    each fs all = All-map (IsOwned block e) own_page fs (All-weaker (λ f. is_lent_to e (block (f.0 / 64)) ≡ true) (λ f. IsOwned block e (own_page f)) (λ f is. record { own = refl; lent = is }) fs all)

    by : (found : Option ProcessState) → at m.processes p ≡ found → Owns block e (option_map_or (λ process. record m { processes = put m.processes p (with_pages page frames process) }) found m)
    by None is = owns
    by (Some process) is =
        let before : OwnsAll block e process = all_at (OwnsAll block e) m.processes p process owns is in
        all_put (OwnsAll block e) m.processes p (with_pages page frames process) owns (all_put_all (IsOwned block e) process.pages page (map own_page frames) before (each frames lent))

-- unused frames are lent
pub unused_lent : (G : Facts) (e count : ℕ) → All (λ f. is_lent_to e (G.block (f.0 / 64)) ≡ true) (take count (unused_frames G e))
unused_lent G e count =
    All-take (λ (f : Frame). is_lent_to e (G.block (f.0 / 64)) ≡ true) count (unused_frames G e)
    (All-map (λ (f : Frame). is_lent_to e (G.block (f.0 / 64)) ≡ true) (λ n. record { 0 = n }) _
    (All-weaker (λ n. is_unused G e n ≡ true) (λ n. is_lent_to e (G.block (n / 64)) ≡ true) (λ n is. (and_parts (is_living_enclave (G.enclave e)) _ (and_parts _ _ is).0).1) _ (filter_passes (is_unused G e) (range_with_len 0 (64 * G.pool)))))

-- No export names what is allocated or lent, so apt lines lend lawfully.
use Rattle.std.proofs.Common.{◌≡◌, ◌/◌, ℕ, List, [], ◌∷◌, length, take, Bool, true, false, eqb, not, ◌||◌, refl, sym, ap, ◌∙◌, subst}
use Rattle.std.specs.List.{All, list_any}
use Rattle.std.proofs.lemmas.Bool.{eqb-true, and_parts}
use Rattle.std.proofs.lemmas.List.Elements.{All-head, All-tail, All-take, All-weaker}
use Rattle.xm_num.specs.declared.Block.{Block}
use Rattle.xm_num.specs.declared.Frame.{Frame}
use Rattle.frame_pool.specs.Blocks.{is_free}
use Rattle.xemem_language.specs.declared.line.Line.{Line}
use Rattle.xemem_language.specs.declared.line.Line.TheVariants as lines
use Rattle.enclave_rules.specs.Core.{machine_frame}
use Rattle.enclave_rules.specs.Pages.{block_frames}
use Rattle.global_model.specs.Apt.{AptAt, OwnedAt}
use Rattle.global_model.specs.Facts.{Facts, fact_of, facts_at}
use Rattle.global_model.specs.Space.{IsUnmapped, blocks_left, is_export_frame, is_lent_to, is_own_frame, is_unused, names_frame, unused_frames}
use Rattle.history_laws.specs.Lawful.{IsExported, IsUnexported, LawfulLending}
use Rattle.history_laws.proofs.Exported.{AreExportsLent, IsWithinLent, LentAt, plain_frame}
use Rattle.history_laws.proofs.Lending.{at_any, block_unmapped, blocks_free, frames_of_block, frames_unused, not_lent, one_owner, take-length-take, unused_unmapped}
use Rattle.history_laws.proofs.Steady.{at_has}

clash_right : (x y : Bool) → y ≡ true → not (x || y) ≡ true → ⊥
clash_right true y a c = cc
clash_right false true a c = cc
clash_right false false a c = cc

module _ (G : Facts) (h : AreExportsLent G) where
  named_lent : (e : ℕ) (frame : Frame) (frames : List Frame) → All (λ f. is_lent_to e (G.block (f.0 / 64)) ≡ true) frames
      → list_any (λ own. eqb (machine_frame (fact_of (G.enclave e)).kind (fact_of (G.enclave e)).blocks own).0 frame.0) frames ≡ true → is_lent_to e (G.block (frame.0 / 64)) ≡ true
  named_lent e frame [] all is = cc
  named_lent e frame (f ∷ frames) all is = by (eqb (named f).0 frame.0) refl (named_lent e frame frames (All-tail (λ (x : Frame). is_lent_to e (G.block (x.0 / 64)) ≡ true) f frames all)) is
    where
      named : Frame → Frame
      named own = machine_frame (fact_of (G.enclave e)).kind (fact_of (G.enclave e)).blocks own

      by : (here : Bool) → eqb (named f).0 frame.0 ≡ here → (list_any (λ own. eqb (named own).0 frame.0) frames ≡ true → is_lent_to e (G.block (frame.0 / 64)) ≡ true)
          → (here || list_any (λ own. eqb (named own).0 frame.0) frames) ≡ true → is_lent_to e (G.block (frame.0 / 64)) ≡ true
      by true same later any =
          let fact = fact_of (G.enclave e) in
          let number : f.0 ≡ frame.0 = ap (λ (x : Frame). x.0) (sym (plain_frame fact.kind fact.blocks f (h.plain e))) ∙ eqb-true (named f).0 frame.0 same in
          subst (λ n. is_lent_to e (G.block (n / 64)) ≡ true) number (All-head (λ (x : Frame). is_lent_to e (G.block (x.0 / 64)) ≡ true) f frames all)
      by false other later any = later any

  exported_lent : (frame : Frame) (x : IsExported G frame) → is_lent_to x.enclave (G.block (frame.0 / 64)) ≡ true
  exported_lent frame x =
      named_lent x.enclave frame x.export.frames (at_has (IsWithinLent G.block x.enclave) (G.exports x.enclave) x.call x.export (h.lent x.enclave) x.held) x.named

  unused_unexported : (e : ℕ) (frame : Frame) → is_unused G e frame.0 ≡ true → IsUnexported G frame
  unused_unexported e frame unused x =
      let tests = and_parts _ _ unused in
      let first = and_parts _ _ tests.0 in
      let same : x.enclave ≡ e = one_owner x.enclave e (G.block (frame.0 / 64)) (exported_lent frame x) first.1 in
      let names : is_export_frame G x.enclave frame.0 ≡ true = at_any (names_frame (fact_of (G.enclave x.enclave)) frame.0) (G.exports x.enclave) x.call x.export x.held x.named in
      clash_right (is_own_frame G e frame.0) (is_export_frame G e frame.0) (subst (λ k. is_export_frame G k frame.0 ≡ true) same names) tests.1

  block_unexported : (b : Block) → is_free (G.block b.0) ≡ true → All (IsUnexported G) (block_frames b)
  block_unexported b free = All-weaker (λ f. f.0 / 64 ≡ b.0) (IsUnexported G)
      (λ f in_block x. not_lent x.enclave (G.block (f.0 / 64)) (ap (λ n. is_free (G.block n)) in_block ∙ free) (exported_lent f x)) (block_frames b) (frames_of_block b)

-- ---- apt lines lend lawfully

pub lawful_lending : (past : List Line) (line : Line) → AptAt past line → OwnedAt past line → LentAt past line → LawfulLending past line
lawful_lending past (lines.Alloc e p page frames) apt owned lent =
    let G = facts_at past in
    let P = λ (fs : List Frame). (fs ≡ take (length fs) (unused_frames G e.0)) × All (IsUnmapped G) fs × All (IsUnexported G) fs in
    subst P (sym apt.lowest) (
      take-length-take apt.count (unused_frames G e.0),
      All-take (IsUnmapped G) apt.count (unused_frames G e.0)
          (All-weaker (λ f. is_unused G e.0 f.0 ≡ true) (IsUnmapped G) (unused_unmapped G owned e.0) (unused_frames G e.0) (frames_unused G e.0)),
      All-take (IsUnexported G) apt.count (unused_frames G e.0)
          (All-weaker (λ f. is_unused G e.0 f.0 ≡ true) (IsUnexported G) (unused_unexported G lent e.0) (unused_frames G e.0) (frames_unused G e.0)),
    )
lawful_lending past (lines.Born e kind parent ns blocks) apt owned lent =
    let G = facts_at past in
    let P = λ (bs : List Block). (bs ≡ take (length bs) (blocks_left G)) × All (λ block. All (IsUnmapped G) (block_frames block)) bs × All (λ block. All (IsUnexported G) (block_frames block)) bs in
    subst P (sym apt.lowest) (
      take-length-take apt.count (blocks_left G),
      All-take (λ block. All (IsUnmapped G) (block_frames block)) apt.count (blocks_left G)
          (All-weaker (λ b. is_free (G.block b.0) ≡ true) (λ block. All (IsUnmapped G) (block_frames block)) (block_unmapped G owned) (blocks_left G) (blocks_free G)),
      All-take (λ block. All (IsUnexported G) (block_frames block)) apt.count (blocks_left G)
          (All-weaker (λ b. is_free (G.block b.0) ≡ true) (λ block. All (IsUnexported G) (block_frames block)) (block_unexported G lent) (blocks_left G) (blocks_free G)),
    )
lawful_lending past _ apt owned lent = tt

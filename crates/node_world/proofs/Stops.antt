-- Lines that were written up to a limit.
use Rattle.std.proofs.Common.{◌≡◌, ◌+◌, ◌≤◌, ℕ, List, [], ◌∷◌, ◌++◌, length, take, false, cond, refl, sym, ap, ◌∙◌, subst, arith, append-nil, append_assoc}
use Rattle.std.proofs.lemmas.List.{take-append-drop}
use Rattle.xemem_language.specs.declared.line.Line.{Line}
use Rattle.xemem_language.specs.Spelling.{line_words, words_in}
use Rattle.global_model.specs.Journals.{is_delivery, deliveries_in}
use Rattle.node_world.specs.declared.world.Which.{Which}
use Rattle.node_world.specs.declared.world.Which.TheVariants as whiches
use Rattle.node_world.specs.declared.world.Progress.{Progress}
use Rattle.node_world.specs.declared.world.Progress.TheVariants as progresses
use Rattle.node_machine.specs.Machine.{MachineView}
use Rattle.node_world.specs.World.{most_words, most_deliveries, IsShort, IsNextOver, IsStopped, IsOfWorlds, IsWorldKept, PassesBy}
use Rattle.node_world.proofs.Words.{words-append, deliveries-append}

-- a world meets no other limits
pub worlds_limit : (which : Which) (words deliveries : ℕ) (line : Line) → PassesBy which words deliveries line → IsOfWorlds which
worlds_limit whiches.Scenario words deliveries line passes = passes
worlds_limit whiches.Lines words deliveries line passes = passes
worlds_limit whiches.LineBytes words deliveries line passes = passes
worlds_limit whiches.Deliveries words deliveries line passes = tt
worlds_limit whiches.Words words deliveries line passes = tt

-- the lines that were kept are those before the one that would pass the limit
pub stopped_at : (which : Which) (journal fresh kept : List Line) (count words deliveries : ℕ) → IsNextOver which words deliveries count fresh → kept ≡ take count fresh
    → words ≡ words_in (journal ++ kept) → deliveries ≡ deliveries_in (journal ++ kept) → IsShort (journal ++ kept) → IsStopped which journal fresh (journal ++ kept)
stopped_at which journal fresh kept count words deliveries next front sum made short = record {
  written = kept;
  line = next.line;
  rest = next.rest;
  is = sym (take-append-drop count fresh) ∙ ap (λ ls. take count fresh ++ ls) next.is ∙ ap (λ ls. ls ++ next.line ∷ next.rest) (sym front);
  grown = refl;
  short = short;
  passes = subst (λ d. PassesBy which (words_in (journal ++ kept)) d next.line) made (subst (λ w. PassesBy which w deliveries next.line) sum next.passes);
}

-- no line was written
pub stopped_first : (which : Which) (journal : List Line) (line : Line) (words deliveries : ℕ) → PassesBy which words deliveries line → words ≡ words_in journal → deliveries ≡ deliveries_in journal → IsShort journal
    → IsStopped which journal (line ∷ []) journal
stopped_first which journal line words deliveries passes sum made short = record {
  written = [];
  line = line;
  rest = [];
  is = refl;
  grown = sym (append-nil journal);
  short = short;
  passes = subst (λ d. PassesBy which (words_in journal) d line) made (subst (λ w. PassesBy which w deliveries line) sum passes);
}

-- a limit that stops the first lines stops them all
pub stopped_more : (which : Which) (journal fresh more after : List Line) → IsStopped which journal fresh after → IsStopped which journal (fresh ++ more) after
stopped_more which journal fresh more after stop = record {
  written = stop.written;
  line = stop.line;
  rest = stop.rest ++ more;
  is = ap (λ ls. ls ++ more) stop.is ∙ append_assoc stop.written (stop.line ∷ stop.rest) more;
  grown = stop.grown;
  short = stop.short;
  passes = stop.passes;
}

-- and so it does with lines that were written before
pub stopped_behind : (which : Which) (journal first fresh after : List Line) → IsStopped which (journal ++ first) fresh after → IsStopped which journal (first ++ fresh) after
stopped_behind which journal first fresh after stop = record {
  written = first ++ stop.written;
  line = stop.line;
  rest = stop.rest;
  is = ap (λ ls. first ++ ls) stop.is ∙ sym (append_assoc first stop.written (stop.line ∷ stop.rest));
  grown = stop.grown ∙ append_assoc journal first stop.written;
  short = stop.short;
  passes = stop.passes;
}

-- a world that counts as failed keeps its counts alone
pub failed_keeps : (m : MachineView) (journal : List Line) (progress : Progress) (words deliveries : ℕ) → progress ≡ progresses.Failed → words ≡ words_in journal → deliveries ≡ deliveries_in journal
    → words ≤ most_words → deliveries ≤ most_deliveries → IsWorldKept m journal progress words deliveries
failed_keeps m journal progress words deliveries failed sum made words_fit deliveries_fit = record {
  words = sum;
  deliveries = made;
  short = record { words = omega (arith, sum, words_fit); deliveries = omega (arith, made, deliveries_fit) };
  history = λ going. absurd (cc);
  limit = λ which full. absurd (cc);
}

-- one more line, which tells no delivery
pub one_more : (journal after : List Line) (line : Line) → after ≡ journal ++ line ∷ [] → is_delivery line ≡ false → (words_in after ≡ words_in journal + length (line_words line)) × (deliveries_in after ≡ deliveries_in journal)
one_more journal after line is still = (
  ap words_in is ∙ words-append journal (line ∷ []) ∙ omega arith,
  ap deliveries_in is ∙ deliveries-append journal (line ∷ []) ∙ ap (λ b. deliveries_in journal + length (cond b (line ∷ []) [])) still ∙ omega arith,
)

-- lines of which the first ones were counted
pub counted_more : (journal kept seen fresh after : List Line) (count words deliveries sum made : ℕ) → seen ≡ fresh → kept ≡ take count fresh → after ≡ journal ++ kept → words ≡ words_in journal → deliveries ≡ deliveries_in journal
    → sum ≡ words + words_in (take count seen) → made ≡ deliveries + deliveries_in (take count seen) → (sum ≡ words_in after) × (made ≡ deliveries_in after)
counted_more journal kept seen fresh after count words deliveries sum made is front grown had were now then =
    let same : take count seen ≡ kept = ap (take count) is ∙ sym front in
    let more = words-append journal kept in
    let further = deliveries-append journal kept in (
      omega (arith, now, ap words_in same, had, ap words_in grown, more),
      omega (arith, then, ap deliveries_in same, were, ap deliveries_in grown, further),
    )

-- What a line's text is read for, and which text a line that is read has.
use Rattle.std.proofs.Common.{◌≡◌, ℕ, List, [], ◌∷◌, ◌++◌, Bool, true, false, cond, eqb, None, Some, refl, sym, ap, ◌∙◌, append-nil}
use Rattle.std.proofs.lemmas.Bool.{ne_eqb, eqb-true}
use Rattle.std.specs.List.{onto_first, join_with_byte}
use Rattle.xemem_language.specs.declared.line.Line.{Line}
use Rattle.xemem_language.specs.declared.line.Line.TheVariants as lines
use Rattle.xemem_language.specs.Ranges.{IsSpelled}
use Rattle.xemem_language.specs.Spelling.{line_words}
use Rattle.text_words.specs.Solid.{IsSolid, AreWords}
use Rattle.line_reader.specs.Laws.{Laws}
use Rattle.line_reader.specs.Slots.{pieces, is_done, whole, Read, row_read}
use Rattle.line_reader.specs.Lines.{line_of, line_rows, text_line}
use Rattle.line_reader.specs.Typed.{IsTyped}
use Rattle.line_reader.proofs.LineBack.{line_of-words}
use Rattle.line_reader.proofs.LineRows.{IsLine, lines_read}
use Rattle.line_reader.proofs.LineWords.{line_in_words}
use Rattle.line_reader.proofs.PieceLemmas.{pieces_some}
use Rattle.line_reader.proofs.RowLemmas.{row_read-some}

-- ---- pieces between spaces

piece_then : (word rest : List ℕ) → IsSolid word → pieces (word ++ 32 ∷ rest) ≡ word ∷ pieces rest
piece_then [] rest h = refl
piece_then (c ∷ word) rest h = rw (ne_eqb c 32 h.0.no_space, piece_then word rest h.1) refl

piece_whole : (word : List ℕ) → IsSolid word → pieces word ≡ word ∷ []
piece_whole [] h = refl
piece_whole (c ∷ word) h = rw (ne_eqb c 32 h.0.no_space, piece_whole word h.1) refl

pieces-joined : (words : List (List ℕ)) → is_done words ≡ false → AreWords words → pieces (join_with_byte 32 words) ≡ words
pieces-joined [] some h = cc
pieces-joined (word ∷ []) some h = piece_whole word h.0.solid
pieces-joined (word ∷ next ∷ words) some h =
    piece_then word (join_with_byte 32 (next ∷ words)) h.0.solid ∙ ap (λ ws. word ∷ ws) (pieces-joined (next ∷ words) refl h.1)

-- a byte in front of the first piece stands in front of the text
joined_first : (c : ℕ) (words : List (List ℕ)) → join_with_byte 32 (onto_first c words) ≡ c ∷ join_with_byte 32 words
joined_first c [] = refl
joined_first c (word ∷ []) = refl
joined_first c (word ∷ next ∷ words) = refl

joined_space : (words : List (List ℕ)) → is_done words ≡ false → join_with_byte 32 ([] ∷ words) ≡ 32 ∷ join_with_byte 32 words
joined_space [] some = cc
joined_space (word ∷ words) some = refl

joined-pieces : (text : List ℕ) → join_with_byte 32 (pieces text) ≡ text
joined-pieces [] = refl
joined-pieces (c ∷ text) = by (joined-pieces text) (eqb c 32) refl
  where
    by : join_with_byte 32 (pieces text) ≡ text → (space : Bool) → eqb c 32 ≡ space → join_with_byte 32 (cond space ([] ∷ pieces text) (onto_first c (pieces text))) ≡ c ∷ text
    by behind true is = joined_space (pieces text) (pieces_some text) ∙ ap (λ more. 32 ∷ more) behind ∙ ap (λ d. d ∷ text) (sym (eqb-true c 32 is))
    by behind false is = joined_first c (pieces text) ∙ ap (λ more. c ∷ more) behind

-- ---- lines of texts

a_word : (line : Line) → is_done (line_words line) ≡ false
a_word (lines.Refused cause) = refl
a_word (lines.Told e of) = refl
a_word (lines.Admitted e) = refl
a_word (lines.Proc e p uid gid) = refl
a_word (lines.Free e p at pages) = refl
a_word (lines.Touched e p page frame) = refl
a_word (lines.Issue e p call) = refl
a_word (lines.Drew e call segid) = refl
a_word (lines.Named e call segid) = refl
a_word (lines.Unnamed segid) = refl
a_word (lines.Grant owner e call segid access) = refl
a_word (lines.Deny at e call cause) = refl
a_word (lines.Pin owner e call) = refl
a_word (lines.Map e call page) = refl
a_word (lines.Unmap e call) = refl
a_word (lines.Unpin owner e call) = refl
a_word (lines.Release e call) = refl
a_word (lines.Ungrant owner e call) = refl
a_word (lines.Remove e segid) = refl
a_word (lines.Undo e call) = refl
a_word (lines.Closed e call) = refl
a_word (lines.Exit e p) = refl
a_word (lines.Took x y count) = refl
a_word (lines.Idle x y) = refl
a_word (lines.Got x y) = refl
a_word (lines.End x y torn) = refl
a_word (lines.Dropped e) = refl
a_word (lines.Asked e by) = refl
a_word (lines.Way e over) = refl
a_word (lines.Back e of over) = refl
a_word (lines.Route e of over) = refl
a_word (lines.Gmap monitor guest owner call first) = refl
a_word (lines.Gdrop monitor guest call) = refl
a_word (lines.Killed e cut) = refl
a_word (lines.Stopped e) = refl
a_word (lines.Held e) = refl
a_word (lines.Heard e of) = refl
a_word (lines.Confirmed of by) = refl
a_word (lines.Unheld e) = refl
a_word (lines.Settled made) = refl
a_word (lines.Waiting made) = refl
a_word (lines.Page e p page frame access) = refl
a_word (lines.Name segid owner) = refl
a_word (lines.AnswerSegid e p k s) = refl
a_word (lines.AnswerApid e p k a pages) = refl
a_word (lines.AnswerAddr e p k addr) = refl
a_word (lines.AnswerRefused e p k c) = refl
a_word (lines.AtWay e over) = refl
a_word (lines.AtWayOwn e) = refl
a_word (lines.AtWayNone e) = refl
a_word (lines.AtRoute e of over) = refl
a_word (lines.AtPin owner e k s offset pages) = refl
a_word (lines.BlockFree b) = refl
a_word (lines.BlockLent b e) = refl
a_word (lines.BlockHeld b e) = refl
a_word (lines.Do command) = refl
a_word (lines.Born e kind parent ns blocks) = refl
a_word (lines.Alloc e p at frames) = refl
a_word (lines.Sent x y r) = refl
a_word (lines.Bytes x y at bytes) = refl

-- the text is the line's
abbrev pub IsTextOf : List ℕ → Line → Type 0
IsTextOf text line = (text ≡ join_with_byte 32 (line_words line)) × IsSpelled line × IsTyped line

pub text_line-back : (laws : Laws) (text : List ℕ) (line : Line) → IsTextOf text line → text_line text ≡ Some line
text_line-back laws text line (is, spelled, typed) = ap text_line is ∙ ap line_of (pieces-joined (line_words line) (a_word line) (line_in_words laws line)) ∙ line_of-words laws line typed spelled

whole-some : {R : Type 0} (read : Read R) (result : R) → whole read ≡ Some result → read ≡ Some (result, [])
whole-some None result h = cc
whole-some {R} (Some (made, [])) result h = let same : made ≡ result = cc in ap (λ (r : R). Some (r, [])) same
whole-some (Some (made, word ∷ words)) result h = cc

line_of-some : (laws : Laws) (words : List (List ℕ)) (line : Line) → line_of words ≡ Some line → IsLine words line []
unfolding line_of
line_of-some laws [] line h = cc
line_of-some laws (first ∷ words) line h = row_read-some IsLine line_rows first words line [] (lines_read laws) (whole-some (row_read line_rows first words) line h)

pub text_line-some : (laws : Laws) (text : List ℕ) (line : Line) → text_line text ≡ Some line → IsTextOf text line
text_line-some laws text line h =
    let s = line_of-some laws (pieces text) line h in
    (sym (joined-pieces text) ∙ ap (join_with_byte 32) (s.is ∙ append-nil (line_words line)), s.spelled, s.typed)

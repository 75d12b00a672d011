-- What each row of the table reads is a line's own words.
use Rattle.std.proofs.Common.{◌≡◌, ◌≤◌, ◌<◌, ◌^◌, ◌==◌, if◌then◌else◌, get_or, drop, ℕ, List, [], ◌∷◌, ◌++◌, length, map, Bool, true, false, cond, Option, None, Some, Result, Ok, Err, option_map, codes, decimal, refl, sym, ap, ◌∙◌, arith, append-nil}
use Rattle.std.proofs.lemmas.Bool.{eqb-true}
use Rattle.std.proofs.lemmas.Slice.Eq.{bytes_eq-Decides}
use Rattle.std.specs.List.{All}
use Rattle.std.specs.Result.{result_ok}
use Rattle.std.specs.Str.{bytes_eq}
use Rattle.xm_num.specs.declared.Block.{Block}
use Rattle.xm_num.specs.declared.CallNo.{CallNo}
use Rattle.xm_num.specs.declared.Enclave.{Enclave}
use Rattle.xm_num.specs.declared.Frame.{Frame}
use Rattle.xm_num.specs.declared.Pid.{Pid}
use Rattle.xemem_language.specs.declared.record.Body.{Body}
use Rattle.xemem_language.specs.declared.record.Body.TheVariants as bodies
use Rattle.xemem_language.specs.Destinations.{destination_number}
use Rattle.xemem_language.specs.declared.command.Command.{Command}
use Rattle.xemem_language.specs.declared.line.Line.{Line}
use Rattle.xemem_language.specs.declared.line.Line.TheVariants as lines
use Rattle.xemem_language.specs.Ranges.{IsSpelled, IsSpelledBody, IsPlainOption}
use Rattle.xemem_language.specs.Spelling.{line_words, name_word, body_words, hex_words}
use Rattle.hex.specs.Hex.{encode_lower}
use Rattle.command_reader.specs.declared.fault.SyntaxFault.{SyntaxFault}
use Rattle.command_reader.specs.Forms.{command_of}
use Rattle.text_words.specs.Words.{number_in}
use Rattle.line_reader.specs.Laws.{Laws}
use Rattle.line_reader.specs.Slots.{Slot, Value, Read, Row, Maker, filled, listed, chosen, row_read, next, next_word, all_next, all_read, enclave, destination, pid, call, segid, apid, page, frame, block, word32, word64, access, cause, kind, mark, hex, text, keyword}
use Rattle.line_reader.specs.Lines.{attached_form, frames_counted, ended_body_rows, call_body_rows, fixed_body_rows, body_rows, sent_row, with_body, sent_form, answer_rows, answer_form, shown_way, at_rows, at_form, block_rows, block_form, shown_rows, death_rows, kill_rows, way_rows, channel_rows, exit_rows, end_rows, grant_rows, call_rows, do_form, fixed_rows, born_form, frames_form, bytes_form, line_rows}
use Rattle.line_reader.specs.Typed.{IsTyped, IsTypedBody, Is16, Is32}
use Rattle.line_reader.proofs.ValueLemmas.{spell, IsMeant, made-some, next_word-some, next-some}
use Rattle.line_reader.proofs.ListLemmas.{all_next-some}
use Rattle.line_reader.proofs.RowLemmas.{Values, all_made, spelled, AreMeant, filled-some, EachRow, row_read-some}
use Rattle.line_reader.proofs.BytesLemmas.{bytes_typed}

-- the words are the line's, with more behind them
pub record IsLine (words : List (List ℕ)) (line : Line) (rest : List (List ℕ)) : Type 0 where
  pub is : words ≡ line_words line ++ rest
  pub spelled : IsSpelled line
  pub typed : IsTyped line

line_moved : (words others : List (List ℕ)) (line other : Line) (rest : List (List ℕ)) → words ≡ others → other ≡ line → IsLine others other rest → IsLine words line rest
line_moved words others line other rest is same h = rw (is, ← same) h

-- a table that is another's reads what that one reads
same_rows : {R : Type 0} (rows others : List (Row R)) (name : List ℕ) (words : List (List ℕ)) (found : Read R) → others ≡ rows → row_read rows name words ≡ found → row_read others name words ≡ found
same_rows rows others name words found is h = rw is h

-- what stands behind the values of slots is something else
behind : (slots : List Slot) (v : Values slots) (words left others : List (List ℕ)) → words ≡ spelled slots v left → left ≡ others → words ≡ spelled slots v others
behind slots v words left others is same = rw (← same) is

-- what makes a line is something else
made_by : {A R : Type 0} (make other : A → R) (value : A) (result : R) → other ≡ make → make value ≡ result → other value ≡ result
made_by make other value result is h = rw is h

-- a name and what stands behind it are others
renamed : (front : List ℕ → List (List ℕ) → List (List ℕ)) (words : List (List ℕ)) (name other : List ℕ) (fields others : List (List ℕ)) → words ≡ front name fields → name ≡ other → fields ≡ others → words ≡ front other others
renamed front words name other fields others is named behind = rw (← named, ← behind) is

-- what a row of slots reads
row_line : (laws : Laws) (front : List (List ℕ) → List (List ℕ)) (slots : List Slot) (make : Maker slots Line) → ((v : Values slots) (m : AreMeant slots v) (rest : List (List ℕ)) → IsLine (front (spelled slots v rest)) (all_made slots make v) rest)
    → (words : List (List ℕ)) (line : Line) (rest : List (List ℕ)) → filled slots make words ≡ Some (line, rest) → IsLine (front words) line rest
row_line laws front slots make each words line rest h =
    let f = filled-some laws slots make words line rest h in
    line_moved _ _ _ _ rest (ap front f.words_are) f.result_is (each f.values f.meant rest)

-- a row that was chosen by a word
record Chosen {R : Type 0} (r : Read (List (Row R))) (result : R) (rest : List (List ℕ)) : Type 0 where
  rows : List (Row R)
  name : List ℕ
  words : List (List ℕ)
  was : r ≡ Some (rows, name ∷ words)
  gave : row_read rows name words ≡ Some (result, rest)

chosen-some : {R : Type 0} (r : Read (List (Row R))) (result : R) (rest : List (List ℕ)) → chosen r ≡ Some (result, rest) → Chosen r result rest
unfolding next_word
chosen-some None result rest h = cc
chosen-some (Some (rows, [])) result rest h = cc
chosen-some (Some (rows, name ∷ words)) result rest h = record { rows = rows; name = name; words = words; was = refl; gave = h }

-- ---- lines with a choice

abbrev AnswerLine : Enclave → Pid → CallNo → List (List ℕ) → Line → List (List ℕ) → Type 0
AnswerLine e p k words line rest = IsLine (codes "answer" ∷ decimal e.0 ∷ decimal p.0 ∷ decimal k.0 ∷ words) line rest

answers_read : (laws : Laws) (e : Enclave) (p : Pid) (k : CallNo) → Is16 e.0 → Is32 p.0 → Is32 k.0 → EachRow (AnswerLine e p k) (answer_rows e p k)
answers_read laws e p k is_e is_p is_k =
    let front : List (List ℕ) → List (List ℕ) = λ ws. codes "answer" ∷ decimal e.0 ∷ decimal p.0 ∷ decimal k.0 ∷ ws in (
      row_line laws (λ ws. front (codes "segid" ∷ ws)) (segid ∷ []) (lines.AnswerSegid e p k) (λ v m rest. record { is = refl; spelled = m.0; typed = (is_e, is_p, is_k) }),
      (
        row_line laws (λ ws. front (codes "apid" ∷ ws)) (apid ∷ keyword (codes "pages") ∷ word32 ∷ []) (λ a with. lines.AnswerApid e p k a) (λ v m rest. record { is = refl; spelled = m.0; typed = (is_e, is_p, is_k, m.1.1.0) }),
        (
          row_line laws (λ ws. front (codes "addr" ∷ ws)) (word64 ∷ []) (lines.AnswerAddr e p k) (λ v m rest. record { is = refl; spelled = tt; typed = (is_e, is_p, is_k, m.0) }),
          (
            row_line laws (λ ws. front (codes "refused" ∷ ws)) (cause ∷ []) (lines.AnswerRefused e p k) (λ v m rest. record { is = refl; spelled = tt; typed = (is_e, is_p, is_k) }),
            tt,
          ),
        ),
      ),
    )

answer_read : (laws : Laws) (words : List (List ℕ)) (line : Line) (rest : List (List ℕ)) → answer_form words ≡ Some (line, rest) → IsLine (codes "answer" ∷ words) line rest
unfolding answer_form
answer_read laws words line rest h =
    let c = chosen-some (filled (enclave ∷ pid ∷ call ∷ []) answer_rows words) line rest h in
    let f = filled-some laws (enclave ∷ pid ∷ call ∷ []) answer_rows words c.rows (c.name ∷ c.words) c.was in
    let e = f.values.0 in let p = f.values.1.0 in let k = f.values.1.1.0 in
    let gave = same_rows c.rows (answer_rows e p k) c.name c.words (Some (line, rest)) f.result_is c.gave in
    line_moved _ _ line line rest (ap (λ ws. codes "answer" ∷ ws) f.words_are) refl (row_read-some (AnswerLine e p k) (answer_rows e p k) c.name c.words line rest (answers_read laws e p k f.meant.0 f.meant.1.0 f.meant.1.1.0) gave)

abbrev AtLine : Enclave → List (List ℕ) → Line → List (List ℕ) → Type 0
AtLine e words line rest = IsLine (codes "at" ∷ decimal e.0 ∷ words) line rest

way_read : (laws : Laws) (e : Enclave) (word : List ℕ) (line : Line) (rest : List (List ℕ)) → Is16 e.0 → shown_way e word ≡ Some line → AtLine e (codes "way" ∷ word ∷ rest) line rest
way_read laws e word line rest is_e h = by (bytes_eq word (codes "own")) (bytes_eq word (codes "none")) (number_in 0 65535 word) refl refl refl h
  where
    by : (own none : Bool) (over : Option ℕ) → bytes_eq word (codes "own") ≡ own → bytes_eq word (codes "none") ≡ none → number_in 0 65535 word ≡ over
        → cond own (Some (lines.AtWayOwn e)) (cond none (Some (lines.AtWayNone e)) (option_map (λ n. lines.AtWay e (record { 0 = n })) over)) ≡ Some line → AtLine e (codes "way" ∷ word ∷ rest) line rest
    by true none over is other at k =
        let this : lines.AtWayOwn e ≡ line = cc in
        rw (← this, (bytes_eq-Decides word (codes "own")).0 is) (record { is = refl; spelled = tt; typed = is_e })
    by false true over is other at k =
        let this : lines.AtWayNone e ≡ line = cc in
        rw (← this, (bytes_eq-Decides word (codes "none")).0 other) (record { is = refl; spelled = tt; typed = is_e })
    by false false None is other at k = cc
    by false false (Some n) is other at k =
        let this : lines.AtWay e (record { 0 = n }) ≡ line = cc in
        let s = laws.numbers.spelled 0 65535 word n (omega arith) at in
        rw (← this, s.is) (record { is = refl; spelled = tt; typed = (is_e, s.most) })

ats_read : (laws : Laws) (e : Enclave) → Is16 e.0 → EachRow (AtLine e) (at_rows e)
ats_read laws e is_e =
    let front : List (List ℕ) → List (List ℕ) = λ ws. codes "at" ∷ decimal e.0 ∷ ws in (
      (λ words line rest h.
          let m = made-some (shown_way e) (next_word words) line rest h in
          rw (next_word-some words m.found rest m.was) (way_read laws e m.found line rest is_e m.gave)),
      (
        row_line laws (λ ws. front (codes "route" ∷ ws)) (enclave ∷ enclave ∷ []) (lines.AtRoute e) (λ v m rest. record { is = refl; spelled = tt; typed = (is_e, m.0, m.1.0) }),
        (
          row_line laws (λ ws. front (codes "pin" ∷ ws)) (enclave ∷ call ∷ segid ∷ word32 ∷ word32 ∷ []) (lines.AtPin e) (λ v m rest. record { is = refl; spelled = m.1.1.0; typed = (is_e, m.0, m.1.0, m.1.1.1.0, m.1.1.1.1.0) }),
          tt,
        ),
      ),
    )

at_read : (laws : Laws) (words : List (List ℕ)) (line : Line) (rest : List (List ℕ)) → at_form words ≡ Some (line, rest) → IsLine (codes "at" ∷ words) line rest
unfolding at_form
at_read laws words line rest h =
    let c = chosen-some (filled (enclave ∷ []) at_rows words) line rest h in
    let f = filled-some laws (enclave ∷ []) at_rows words c.rows (c.name ∷ c.words) c.was in
    let e = f.values.0 in
    let gave = same_rows c.rows (at_rows e) c.name c.words (Some (line, rest)) f.result_is c.gave in
    line_moved _ _ line line rest (ap (λ ws. codes "at" ∷ ws) f.words_are) refl (row_read-some (AtLine e) (at_rows e) c.name c.words line rest (ats_read laws e f.meant.0) gave)

abbrev BlockLine : Block → List (List ℕ) → Line → List (List ℕ) → Type 0
BlockLine b words line rest = IsLine (codes "block" ∷ decimal b.0 ∷ words) line rest

blocks_read : (laws : Laws) (b : Block) → Is16 b.0 → EachRow (BlockLine b) (block_rows b)
blocks_read laws b is_b =
    let front : List (List ℕ) → List (List ℕ) = λ ws. codes "block" ∷ decimal b.0 ∷ ws in (
      row_line laws (λ ws. front (codes "free" ∷ ws)) [] (lines.BlockFree b) (λ v m rest. record { is = refl; spelled = tt; typed = is_b }),
      (
        row_line laws (λ ws. front (codes "lent" ∷ ws)) (enclave ∷ []) (lines.BlockLent b) (λ v m rest. record { is = refl; spelled = tt; typed = (is_b, m.0) }),
        (
          row_line laws (λ ws. front (codes "held" ∷ ws)) (enclave ∷ []) (lines.BlockHeld b) (λ v m rest. record { is = refl; spelled = tt; typed = (is_b, m.0) }),
          tt,
        ),
      ),
    )

block_read : (laws : Laws) (words : List (List ℕ)) (line : Line) (rest : List (List ℕ)) → block_form words ≡ Some (line, rest) → IsLine (codes "block" ∷ words) line rest
unfolding block_form
block_read laws words line rest h =
    let c = chosen-some (filled (block ∷ []) block_rows words) line rest h in
    let f = filled-some laws (block ∷ []) block_rows words c.rows (c.name ∷ c.words) c.was in
    let b = f.values.0 in
    let gave = same_rows c.rows (block_rows b) c.name c.words (Some (line, rest)) f.result_is c.gave in
    line_moved _ _ line line rest (ap (λ ws. codes "block" ∷ ws) f.words_are) refl (row_read-some (BlockLine b) (block_rows b) c.name c.words line rest (blocks_read laws b f.meant.0) gave)

-- ---- records

record IsBody (words : List (List ℕ)) (body : Body) (rest : List (List ℕ)) : Type 0 where
  is : words ≡ name_word body ∷ body_words body ++ rest
  spelled : IsSpelledBody body
  typed : IsTypedBody body

body_moved : (words others : List (List ℕ)) (body other : Body) (rest : List (List ℕ)) → words ≡ others → other ≡ body → IsBody others other rest → IsBody words body rest
body_moved words others body other rest is same h = rw (is, ← same) h

row_body : (laws : Laws) (name : List ℕ) (slots : List Slot) (make : Maker slots Body) → ((v : Values slots) (m : AreMeant slots v) (rest : List (List ℕ)) → IsBody (name ∷ spelled slots v rest) (all_made slots make v) rest)
    → (words : List (List ℕ)) (body : Body) (rest : List (List ℕ)) → filled slots make words ≡ Some (body, rest) → IsBody (name ∷ words) body rest
row_body laws name slots make each words body rest h =
    let f = filled-some laws slots make words body rest h in
    body_moved _ _ _ _ rest (ap (λ ws. name ∷ ws) f.words_are) f.result_is (each f.values f.meant rest)

-- a list of all words that are left
record AllRead (slot : Slot) (words rest : List (List ℕ)) (values : List (Value slot)) : Type 0 where
  none_left : [] ≡ rest
  is : words ≡ map (spell slot) values
  meant : All (IsMeant slot) values

all_read-some : (laws : Laws) (slot : Slot) (words rest : List (List ℕ)) (values : List (Value slot)) → all_read slot words ≡ Some (values, rest) → AllRead slot words rest values
all_read-some laws slot words rest values h = by (all_next slot words) refl h
  where
    by : (o : Option (List (Value slot))) → all_next slot words ≡ o → option_map {U = List (Value slot) × List (List ℕ)} (λ values. (values, [])) o ≡ Some (values, rest) → AllRead slot words rest values
    by None is e = cc
    by (Some found) is e =
        let pair : ◌≡◌ {A = List (Value slot) × List (List ℕ)} (found, []) (values, rest) = cc in
        let same : found ≡ values = ap (λ p. p.0) pair in
        let s = all_next-some laws slot words values (is ∙ ap Some same) in
        record { none_left = ap (λ p. p.1) pair; is = s.is; meant = s.meant }

counted-some : (count : ℕ) (frames : List Frame) (body : Body) → (if length frames == count then Some (bodies.Attached frames) else None) ≡ Some body → (length frames ≡ count) × (bodies.Attached frames ≡ body)
counted-some count frames body h = by (length frames == count) refl h
  where
    by : (same : Bool) → (length frames == count) ≡ same → cond same (Some (bodies.Attached frames)) None ≡ Some body → (length frames ≡ count) × (bodies.Attached frames ≡ body)
    by true is e = (eqb-true _ _ is, cc)
    by false is e = cc

small : (n m : ℕ) → n ≡ m → m ≤ 4294967295 → n < 2 ^ 32
small n m e h = omega arith

attached_read : (laws : Laws) (words : List (List ℕ)) (body : Body) (rest : List (List ℕ)) → attached_form words ≡ Some (body, rest) → IsBody (codes "attached" ∷ words) body rest
unfolding attached_form
attached_read laws words body rest h = by (next word32 words) refl h
  where
    by : (o : Read ℕ) → next word32 words ≡ o → frames_counted o ≡ Some (body, rest) → IsBody (codes "attached" ∷ words) body rest
    by None is e = cc
    by (Some pair) is e =
        let first = next-some laws word32 pair.0 words pair.1 is in
        let m = made-some (λ frames. if length frames == pair.0 then Some (bodies.Attached frames) else None) (all_read frame pair.1) body rest e in
        let all = all_read-some laws frame pair.1 rest m.found m.was in
        let c = counted-some pair.0 m.found body m.gave in
        let words_are : words ≡ decimal (length m.found) ∷ map (spell frame) m.found ++ rest = first.is ∙ ap (λ n. decimal n ∷ pair.1) (sym c.0) ∙ ap (λ ws. decimal (length m.found) ∷ ws) (all.is ∙ sym (append-nil (map (spell frame) m.found)) ∙ ap (λ ws. map (spell frame) m.found ++ ws) all.none_left) in
        body_moved _ _ _ _ rest (ap (λ ws. codes "attached" ∷ ws) words_are) c.1 (record { is = refl; spelled = small (length m.found) pair.0 c.0 first.meant; typed = all.meant })

ended_bodies_read : Laws → EachRow IsBody ended_body_rows
unfolding ended_body_rows
ended_bodies_read laws = (
  row_body laws (codes "attachrefused") (word32 ∷ []) bodies.AttachRefused (λ v m rest. record { is = refl; spelled = tt; typed = m.0 }),
  (
    row_body laws (codes "detach") [] bodies.Detach (λ v m rest. record { is = refl; spelled = tt; typed = tt }),
    (
      row_body laws (codes "died") (enclave ∷ []) bodies.Died (λ v m rest. record { is = refl; spelled = tt; typed = m.0 }),
      (
        row_body laws (codes "dead") (enclave ∷ []) bodies.Dead (λ v m rest. record { is = refl; spelled = tt; typed = m.0 }),
        (
          row_body laws (codes "confirm") (enclave ∷ []) bodies.Confirm (λ v m rest. record { is = refl; spelled = tt; typed = m.0 }),
          tt,
        ),
      ),
    ),
  ),
)

call_bodies_read : Laws → EachRow IsBody call_body_rows
unfolding call_body_rows
call_bodies_read laws = (
  row_body laws (codes "found") (segid ∷ destination ∷ []) bodies.Found (λ v m rest. record { is = refl; spelled = (m.0, m.1.0); typed = tt }),
  (
    row_body laws (codes "get") (segid ∷ word32 ∷ word32 ∷ word32 ∷ []) bodies.Get (λ v m rest. record { is = refl; spelled = m.0; typed = (m.1.0, m.1.1.0, m.1.1.1.0) }),
    (
      row_body laws (codes "granted") (word32 ∷ []) bodies.Granted (λ v m rest. record { is = refl; spelled = tt; typed = m.0 }),
      (
        row_body laws (codes "getrefused") (word32 ∷ []) bodies.GetRefused (λ v m rest. record { is = refl; spelled = tt; typed = m.0 }),
        (
          row_body laws (codes "release") (apid ∷ []) bodies.Release (λ v m rest. record { is = refl; spelled = m.0; typed = tt }),
          (
            row_body laws (codes "attach") (apid ∷ word32 ∷ word32 ∷ []) bodies.Attach (λ v m rest. record { is = refl; spelled = m.0; typed = (m.1.0, m.1.1.0) }),
            ended_bodies_read laws,
          ),
        ),
      ),
    ),
  ),
)

fixed_bodies_read : Laws → EachRow IsBody fixed_body_rows
unfolding fixed_body_rows
fixed_bodies_read laws = (
  row_body laws (codes "query") [] bodies.Query (λ v m rest. record { is = refl; spelled = tt; typed = tt }),
  (
    row_body laws (codes "here") [] bodies.Here (λ v m rest. record { is = refl; spelled = tt; typed = tt }),
    (
      row_body laws (codes "register") [] bodies.Register (λ v m rest. record { is = refl; spelled = tt; typed = tt }),
      (
        row_body laws (codes "admit") [] bodies.Admit (λ v m rest. record { is = refl; spelled = tt; typed = tt }),
        (
          row_body laws (codes "namereq") [] bodies.NameReq (λ v m rest. record { is = refl; spelled = tt; typed = tt }),
          (
            row_body laws (codes "named") (segid ∷ []) bodies.Named (λ v m rest. record { is = refl; spelled = m.0; typed = tt }),
            (
              row_body laws (codes "unname") (segid ∷ []) bodies.Unname (λ v m rest. record { is = refl; spelled = m.0; typed = tt }),
              (
                row_body laws (codes "lookup") (segid ∷ []) bodies.Lookup (λ v m rest. record { is = refl; spelled = m.0; typed = tt }),
                call_bodies_read laws,
              ),
            ),
          ),
        ),
      ),
    ),
  ),
)

bodies_read : Laws → EachRow IsBody body_rows
unfolding body_rows
bodies_read laws = (
  attached_read laws,
  fixed_bodies_read laws,
)

-- what was read with its body
record Sent (r : Read (List ℕ × (Body → Line))) (line : Line) (rest : List (List ℕ)) : Type 0 where
  name : List ℕ
  make : Body → Line
  words : List (List ℕ)
  body : Body
  was : r ≡ Some ((name, make), words)
  gave : row_read body_rows name words ≡ Some (body, rest)
  makes : make body ≡ line

with_body-some : (r : Read (List ℕ × (Body → Line))) (line : Line) (rest : List (List ℕ)) → with_body r ≡ Some (line, rest) → Sent r line rest
with_body-some None line rest h = cc
with_body-some (Some (pair, words)) line rest h =
    let m = made-some (λ body. Some (pair.1 body)) (row_read body_rows pair.0 words) line rest h in
    record { name = pair.0; make = pair.1; words = words; body = m.found; was = refl; gave = m.was; makes = cc (m.gave) }

-- the line of a record, by its fields
a_sent : (x y origin : Enclave) (dest : Option Enclave) (k : ℕ) (body : Body) (rest : List (List ℕ)) → Is16 x.0 → Is16 y.0 → Is16 origin.0 → IsPlainOption dest → Is32 k → IsSpelledBody body → IsTypedBody body
    → IsLine (codes "sent" ∷ decimal x.0 ∷ decimal y.0 ∷ name_word body ∷ decimal origin.0 ∷ decimal (destination_number dest) ∷ decimal k ∷ body_words body ++ rest) (lines.Sent x y (record { origin = origin; dest = dest; call = k; body = body })) rest
a_sent x y origin dest k body rest is_x is_y is_origin is_dest is_k is_spelled is_typed = record { is = refl; spelled = (is_dest, is_spelled); typed = (is_x, is_y, is_origin, is_k, is_typed) }

sent_read : (laws : Laws) (words : List (List ℕ)) (line : Line) (rest : List (List ℕ)) → sent_form words ≡ Some (line, rest) → IsLine (codes "sent" ∷ words) line rest
unfolding sent_form
sent_read laws words line rest h =
    let slots = enclave ∷ enclave ∷ text ∷ enclave ∷ destination ∷ word32 ∷ [] in
    let s = with_body-some (filled slots sent_row words) line rest h in
    let f = filled-some laws slots sent_row words (s.name, s.make) s.words s.was in
    let v = f.values in
    let m = f.meant in
    let name_is : v.1.1.0 ≡ s.name = ap (λ p. p.0) f.result_is in
    let make : Body → Line = λ body. lines.Sent v.0 v.1.0 (record { origin = v.1.1.1.0; dest = v.1.1.1.1.0; call = v.1.1.1.1.1.0; body = body }) in
    let make_is : make ≡ s.make = ap (λ p. p.1) f.result_is in
    let b = row_read-some IsBody body_rows s.name s.words s.body rest (bodies_read laws) s.gave in
    let line_is = made_by s.make make s.body line make_is s.makes in
    let names_are : s.name ≡ name_word s.body = ap (λ ws. get_or ws 0 s.name) b.is in
    let fields_are : s.words ≡ body_words s.body ++ rest = ap (drop 1) b.is in
    let front : List ℕ → List (List ℕ) → List (List ℕ) = λ name ws. codes "sent" ∷ decimal v.0.0 ∷ decimal v.1.0.0 ∷ name ∷ decimal v.1.1.1.0.0 ∷ decimal (destination_number v.1.1.1.1.0) ∷ decimal v.1.1.1.1.1.0 ∷ ws in
    let named : v.1.1.0 ≡ name_word s.body = name_is ∙ names_are in
    let words_are = renamed front (codes "sent" ∷ words) v.1.1.0 (name_word s.body) s.words (body_words s.body ++ rest) (ap (λ ws. codes "sent" ∷ ws) f.words_are) named fields_are in
    line_moved (codes "sent" ∷ words) (front (name_word s.body) (body_words s.body ++ rest)) line (make s.body) rest words_are line_is (a_sent v.0 v.1.0 v.1.1.1.0 v.1.1.1.1.0 v.1.1.1.1.1.0 s.body rest m.0 m.1.0 m.1.1.1.0 m.1.1.1.1.0 m.1.1.1.1.1.0 b.spelled b.typed)

-- ---- lines with lists

record Listed {R : Type 0} (slot : Slot) (r : Read (List (Value slot) → R)) (result : R) (rest : List (List ℕ)) : Type 0 where
  make : List (Value slot) → R
  words : List (List ℕ)
  values : List (Value slot)
  was : r ≡ Some (make, words)
  all : AllRead slot words rest values
  makes : make values ≡ result

listed-some : (laws : Laws) {R : Type 0} (slot : Slot) (r : Read (List (Value slot) → R)) (result : R) (rest : List (List ℕ)) → listed slot r ≡ Some (result, rest) → Listed slot r result rest
listed-some laws slot None result rest h = cc
listed-some laws slot (Some (make, words)) result rest h =
    let m = made-some (λ values. Some (make values)) (all_read slot words) result rest h in
    record { make = make; words = words; values = m.found; was = refl; all = all_read-some laws slot words rest m.found m.was; makes = cc (m.gave) }

-- the words of a list to the end, with none behind them
to_end : (words listed rest : List (List ℕ)) → words ≡ listed → [] ≡ rest → words ≡ listed ++ rest
to_end words listed rest is none = is ∙ sym (append-nil listed) ∙ ap (λ ws. listed ++ ws) none

born_read : (laws : Laws) (words : List (List ℕ)) (line : Line) (rest : List (List ℕ)) → born_form words ≡ Some (line, rest) → IsLine (codes "born" ∷ words) line rest
unfolding born_form
born_read laws words line rest h =
    let slots = enclave ∷ kind ∷ enclave ∷ mark ∷ [] in
    let born : Maker slots (List Block → Line) = λ e of parent ns blocks. lines.Born e of parent ns blocks in
    let l = listed-some laws block (filled slots born words) line rest h in
    let f = filled-some laws slots born words l.make l.words l.was in
    let v = f.values in
    let m = f.meant in
    let line_is = made_by l.make (lines.Born v.0 v.1.0 v.1.1.0 v.1.1.1.0) l.values line f.result_is l.makes in
    let words_are = behind slots v words l.words (map (spell block) l.values ++ rest) f.words_are (to_end l.words (map (spell block) l.values) rest l.all.is l.all.none_left) in
    line_moved (codes "born" ∷ words) (codes "born" ∷ spelled slots v (map (spell block) l.values ++ rest)) line (lines.Born v.0 v.1.0 v.1.1.0 v.1.1.1.0 l.values) rest (ap (λ ws. codes "born" ∷ ws) words_are) line_is (record { is = refl; spelled = tt; typed = (m.0, m.1.1.0, l.all.meant) })

alloc_read : (laws : Laws) (words : List (List ℕ)) (line : Line) (rest : List (List ℕ)) → frames_form words ≡ Some (line, rest) → IsLine (codes "alloc" ∷ words) line rest
unfolding frames_form
alloc_read laws words line rest h =
    let slots = enclave ∷ pid ∷ page ∷ [] in
    let allocated : Maker slots (List Frame → Line) = λ e p at frames. lines.Alloc e p at frames in
    let l = listed-some laws frame (filled slots allocated words) line rest h in
    let f = filled-some laws slots allocated words l.make l.words l.was in
    let v = f.values in
    let m = f.meant in
    let line_is = made_by l.make (lines.Alloc v.0 v.1.0 v.1.1.0) l.values line f.result_is l.makes in
    let words_are = behind slots v words l.words (map (spell frame) l.values ++ rest) f.words_are (to_end l.words (map (spell frame) l.values) rest l.all.is l.all.none_left) in
    line_moved _ _ _ _ rest (ap (λ ws. codes "alloc" ∷ ws) words_are) line_is (record { is = refl; spelled = tt; typed = (m.0, m.1.0, m.1.1.0, l.all.meant) })

hex_is : (bytes : List ℕ) → 1 ≤ length bytes → encode_lower bytes ∷ [] ≡ hex_words bytes
hex_is [] some = absurd (omega arith)
hex_is (b ∷ bytes) some = refl

bytes_read : (laws : Laws) (words : List (List ℕ)) (line : Line) (rest : List (List ℕ)) → bytes_form words ≡ Some (line, rest) → IsLine (codes "bytes" ∷ words) line rest
unfolding bytes_form
bytes_read laws words line rest h =
    row_line laws (λ ws. codes "bytes" ∷ ws) (enclave ∷ enclave ∷ word32 ∷ hex ∷ []) lines.Bytes (λ v m rest. record { is = ap (λ ws. codes "bytes" ∷ decimal v.0.0 ∷ decimal v.1.0.0 ∷ decimal v.1.1.0 ∷ (ws ++ rest)) (hex_is v.1.1.1.0 m.1.1.1.0.0.0); spelled = m.1.1.1.0.0; typed = (m.0, m.1.0, m.1.1.0, bytes_typed v.1.1.1.0 m.1.1.1.0.1) }) words line rest h

commanded : (laws : Laws) (words : List (List ℕ)) (line : Line) (rest : List (List ℕ)) (r : Result Command SyntaxFault) → command_of words ≡ r → option_map {U = Line × List (List ℕ)} (λ command. (lines.Do command, [])) (result_ok r) ≡ Some (line, rest) → IsLine (codes "do" ∷ words) line rest
commanded laws words line rest (Ok command) is h =
    let pair : ◌≡◌ {A = Line × List (List ℕ)} (lines.Do command, []) (line, rest) = cc in
    let line_is : lines.Do command ≡ line = ap (λ p. p.0) pair in
    let none : [] ≡ rest = ap (λ p. p.1) pair in
    rw (← line_is, ← none) (record { is = ap (λ ws. codes "do" ∷ ws) (laws.commands.spelled words command is ∙ sym (append-nil _)); spelled = laws.commands.ranges words command is; typed = tt })
commanded laws words line rest (Err fault) is h = cc

do_read : (laws : Laws) (words : List (List ℕ)) (line : Line) (rest : List (List ℕ)) → do_form words ≡ Some (line, rest) → IsLine (codes "do" ∷ words) line rest
unfolding do_form
do_read laws words line rest h = commanded laws words line rest (command_of words) refl h

-- ---- the table

shown_read_all : Laws → EachRow IsLine shown_rows
unfolding shown_rows
shown_read_all laws = (
  row_line laws (λ ws. codes "page" ∷ ws) (enclave ∷ pid ∷ page ∷ frame ∷ access ∷ []) lines.Page (λ v m rest. record { is = refl; spelled = tt; typed = (m.0, m.1.0, m.1.1.0, m.1.1.1.0) }),
  (
    at_read laws,
    (
      block_read laws,
      (
        row_line laws (λ ws. codes "name" ∷ ws) (segid ∷ enclave ∷ []) lines.Name (λ v m rest. record { is = refl; spelled = m.0; typed = m.1.0 }),
        tt,
      ),
    ),
  ),
)

death_read_all : Laws → EachRow IsLine death_rows
unfolding death_rows
death_read_all laws = (
  row_line laws (λ ws. codes "heard" ∷ ws) (enclave ∷ enclave ∷ []) lines.Heard (λ v m rest. record { is = refl; spelled = tt; typed = (m.0, m.1.0) }),
  (
    row_line laws (λ ws. codes "confirmed" ∷ ws) (enclave ∷ enclave ∷ []) lines.Confirmed (λ v m rest. record { is = refl; spelled = tt; typed = (m.0, m.1.0) }),
    (
      row_line laws (λ ws. codes "unheld" ∷ ws) (enclave ∷ []) lines.Unheld (λ v m rest. record { is = refl; spelled = tt; typed = m.0 }),
      (
        row_line laws (λ ws. codes "settled" ∷ ws) (word32 ∷ []) lines.Settled (λ v m rest. record { is = refl; spelled = tt; typed = m.0 }),
        (
          row_line laws (λ ws. codes "waiting" ∷ ws) (word32 ∷ []) lines.Waiting (λ v m rest. record { is = refl; spelled = tt; typed = m.0 }),
          shown_read_all laws,
        ),
      ),
    ),
  ),
)

kill_read_all : Laws → EachRow IsLine kill_rows
unfolding kill_rows
kill_read_all laws = (
  row_line laws (λ ws. codes "gmap" ∷ ws) (enclave ∷ enclave ∷ enclave ∷ call ∷ frame ∷ []) lines.Gmap (λ v m rest. record { is = refl; spelled = tt; typed = (m.0, m.1.0, m.1.1.0, m.1.1.1.0, m.1.1.1.1.0) }),
  (
    row_line laws (λ ws. codes "gdrop" ∷ ws) (enclave ∷ enclave ∷ call ∷ []) lines.Gdrop (λ v m rest. record { is = refl; spelled = tt; typed = (m.0, m.1.0, m.1.1.0) }),
    (
      row_line laws (λ ws. codes "killed" ∷ ws) (enclave ∷ word32 ∷ []) lines.Killed (λ v m rest. record { is = refl; spelled = tt; typed = (m.0, m.1.0) }),
      (
        row_line laws (λ ws. codes "stopped" ∷ ws) (enclave ∷ []) lines.Stopped (λ v m rest. record { is = refl; spelled = tt; typed = m.0 }),
        (
          row_line laws (λ ws. codes "held" ∷ ws) (enclave ∷ []) lines.Held (λ v m rest. record { is = refl; spelled = tt; typed = m.0 }),
          death_read_all laws,
        ),
      ),
    ),
  ),
)

way_read_all : Laws → EachRow IsLine way_rows
unfolding way_rows
way_read_all laws = (
  row_line laws (λ ws. codes "asked" ∷ ws) (enclave ∷ enclave ∷ []) lines.Asked (λ v m rest. record { is = refl; spelled = tt; typed = (m.0, m.1.0) }),
  (
    row_line laws (λ ws. codes "way" ∷ ws) (enclave ∷ enclave ∷ []) lines.Way (λ v m rest. record { is = refl; spelled = tt; typed = (m.0, m.1.0) }),
    (
      row_line laws (λ ws. codes "back" ∷ ws) (enclave ∷ enclave ∷ enclave ∷ []) lines.Back (λ v m rest. record { is = refl; spelled = tt; typed = (m.0, m.1.0, m.1.1.0) }),
      (
        row_line laws (λ ws. codes "route" ∷ ws) (enclave ∷ enclave ∷ enclave ∷ []) lines.Route (λ v m rest. record { is = refl; spelled = tt; typed = (m.0, m.1.0, m.1.1.0) }),
        kill_read_all laws,
      ),
    ),
  ),
)

channel_read_all : Laws → EachRow IsLine channel_rows
unfolding channel_rows
channel_read_all laws = (
  row_line laws (λ ws. codes "took" ∷ ws) (enclave ∷ enclave ∷ word32 ∷ []) lines.Took (λ v m rest. record { is = refl; spelled = tt; typed = (m.0, m.1.0, m.1.1.0) }),
  (
    row_line laws (λ ws. codes "idle" ∷ ws) (enclave ∷ enclave ∷ []) lines.Idle (λ v m rest. record { is = refl; spelled = tt; typed = (m.0, m.1.0) }),
    (
      row_line laws (λ ws. codes "got" ∷ ws) (enclave ∷ enclave ∷ []) lines.Got (λ v m rest. record { is = refl; spelled = tt; typed = (m.0, m.1.0) }),
      (
        row_line laws (λ ws. codes "end" ∷ ws) (enclave ∷ enclave ∷ word32 ∷ []) lines.End (λ v m rest. record { is = refl; spelled = tt; typed = (m.0, m.1.0, m.1.1.0) }),
        (
          row_line laws (λ ws. codes "drop" ∷ ws) (enclave ∷ []) lines.Dropped (λ v m rest. record { is = refl; spelled = tt; typed = m.0 }),
          way_read_all laws,
        ),
      ),
    ),
  ),
)

exit_read_all : Laws → EachRow IsLine exit_rows
unfolding exit_rows
exit_read_all laws = (
  row_line laws (λ ws. codes "closed" ∷ ws) (enclave ∷ call ∷ []) lines.Closed (λ v m rest. record { is = refl; spelled = tt; typed = (m.0, m.1.0) }),
  (
    row_line laws (λ ws. codes "exit" ∷ ws) (enclave ∷ pid ∷ []) lines.Exit (λ v m rest. record { is = refl; spelled = tt; typed = (m.0, m.1.0) }),
    (
      answer_read laws,
      channel_read_all laws,
    ),
  ),
)

end_read_all : Laws → EachRow IsLine end_rows
unfolding end_rows
end_read_all laws = (
  row_line laws (λ ws. codes "unmap" ∷ ws) (enclave ∷ call ∷ []) lines.Unmap (λ v m rest. record { is = refl; spelled = tt; typed = (m.0, m.1.0) }),
  (
    row_line laws (λ ws. codes "unpin" ∷ ws) (enclave ∷ enclave ∷ call ∷ []) lines.Unpin (λ v m rest. record { is = refl; spelled = tt; typed = (m.0, m.1.0, m.1.1.0) }),
    (
      row_line laws (λ ws. codes "release" ∷ ws) (enclave ∷ call ∷ []) lines.Release (λ v m rest. record { is = refl; spelled = tt; typed = (m.0, m.1.0) }),
      (
        row_line laws (λ ws. codes "ungrant" ∷ ws) (enclave ∷ enclave ∷ call ∷ []) lines.Ungrant (λ v m rest. record { is = refl; spelled = tt; typed = (m.0, m.1.0, m.1.1.0) }),
        (
          row_line laws (λ ws. codes "remove" ∷ ws) (enclave ∷ segid ∷ []) lines.Remove (λ v m rest. record { is = refl; spelled = m.1.0; typed = m.0 }),
          (
            row_line laws (λ ws. codes "undo" ∷ ws) (enclave ∷ call ∷ []) lines.Undo (λ v m rest. record { is = refl; spelled = tt; typed = (m.0, m.1.0) }),
            exit_read_all laws,
          ),
        ),
      ),
    ),
  ),
)

grant_read_all : Laws → EachRow IsLine grant_rows
unfolding grant_rows
grant_read_all laws = (
  row_line laws (λ ws. codes "unnamed" ∷ ws) (segid ∷ []) lines.Unnamed (λ v m rest. record { is = refl; spelled = m.0; typed = tt }),
  (
    row_line laws (λ ws. codes "grant" ∷ ws) (enclave ∷ enclave ∷ call ∷ segid ∷ access ∷ []) lines.Grant (λ v m rest. record { is = refl; spelled = m.1.1.1.0; typed = (m.0, m.1.0, m.1.1.0) }),
    (
      row_line laws (λ ws. codes "deny" ∷ ws) (enclave ∷ enclave ∷ call ∷ cause ∷ []) lines.Deny (λ v m rest. record { is = refl; spelled = tt; typed = (m.0, m.1.0, m.1.1.0) }),
      (
        row_line laws (λ ws. codes "pin" ∷ ws) (enclave ∷ enclave ∷ call ∷ []) lines.Pin (λ v m rest. record { is = refl; spelled = tt; typed = (m.0, m.1.0, m.1.1.0) }),
        (
          row_line laws (λ ws. codes "map" ∷ ws) (enclave ∷ call ∷ page ∷ []) lines.Map (λ v m rest. record { is = refl; spelled = tt; typed = (m.0, m.1.0, m.1.1.0) }),
          end_read_all laws,
        ),
      ),
    ),
  ),
)

call_read_all : Laws → EachRow IsLine call_rows
unfolding call_rows
call_read_all laws = (
  row_line laws (λ ws. codes "free" ∷ ws) (enclave ∷ pid ∷ page ∷ word32 ∷ []) lines.Free (λ v m rest. record { is = refl; spelled = tt; typed = (m.0, m.1.0, m.1.1.0, m.1.1.1.0) }),
  (
    row_line laws (λ ws. codes "touched" ∷ ws) (enclave ∷ pid ∷ page ∷ frame ∷ []) lines.Touched (λ v m rest. record { is = refl; spelled = tt; typed = (m.0, m.1.0, m.1.1.0, m.1.1.1.0) }),
    (
      row_line laws (λ ws. codes "issue" ∷ ws) (enclave ∷ pid ∷ call ∷ []) lines.Issue (λ v m rest. record { is = refl; spelled = tt; typed = (m.0, m.1.0, m.1.1.0) }),
      (
        row_line laws (λ ws. codes "drew" ∷ ws) (enclave ∷ call ∷ segid ∷ []) lines.Drew (λ v m rest. record { is = refl; spelled = m.1.1.0; typed = (m.0, m.1.0) }),
        (
          row_line laws (λ ws. codes "named" ∷ ws) (enclave ∷ call ∷ segid ∷ []) lines.Named (λ v m rest. record { is = refl; spelled = m.1.1.0; typed = (m.0, m.1.0) }),
          grant_read_all laws,
        ),
      ),
    ),
  ),
)

fixed_read_all : Laws → EachRow IsLine fixed_rows
unfolding fixed_rows
fixed_read_all laws = (
  do_read laws,
  (
    row_line laws (λ ws. codes "refused" ∷ ws) (cause ∷ []) lines.Refused (λ v m rest. record { is = refl; spelled = tt; typed = tt }),
    (
      row_line laws (λ ws. codes "told" ∷ ws) (enclave ∷ enclave ∷ []) lines.Told (λ v m rest. record { is = refl; spelled = tt; typed = (m.0, m.1.0) }),
      (
        row_line laws (λ ws. codes "admitted" ∷ ws) (enclave ∷ []) lines.Admitted (λ v m rest. record { is = refl; spelled = tt; typed = m.0 }),
        (
          row_line laws (λ ws. codes "proc" ∷ ws) (enclave ∷ pid ∷ word32 ∷ word32 ∷ []) lines.Proc (λ v m rest. record { is = refl; spelled = tt; typed = (m.0, m.1.0, m.1.1.0, m.1.1.1.0) }),
          call_read_all laws,
        ),
      ),
    ),
  ),
)

pub lines_read : Laws → EachRow IsLine line_rows
unfolding line_rows
lines_read laws = (
  born_read laws,
  (
    alloc_read laws,
    (
      sent_read laws,
      (
        bytes_read laws,
        fixed_read_all laws,
      ),
    ),
  ),
)

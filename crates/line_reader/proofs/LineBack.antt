-- A line is read back from its own words.
use Rattle.std.proofs.Common.{◌≡◌, ◌≤◌, ◌==◌, ℕ, List, [], ◌∷◌, length, map, true, false, decimal, None, Some, option_map, codes, refl, sym, ap, ◌∙◌, arith, if◌then◌else◌}
use Rattle.std.proofs.lemmas.Bool.{false_from_ne_true}
use Rattle.std.proofs.lemmas.Bool.Decides.{Decides-eqb}
use Rattle.std.proofs.lemmas.Slice.Eq.{bytes_eq-Decides}
use Rattle.std.specs.Str.{bytes_eq}
use Rattle.xm_num.specs.declared.Enclave.{Enclave}
use Rattle.std.specs.Result.{result_ok}
use Rattle.hex.specs.Hex.{encode_lower}
use Rattle.xemem_language.specs.declared.record.Body.{Body}
use Rattle.xemem_language.specs.declared.record.Body.TheVariants as bodies
use Rattle.xemem_language.specs.declared.line.Line.{Line}
use Rattle.xemem_language.specs.declared.line.Line.TheVariants as lines
use Rattle.xemem_language.specs.Ranges.{IsSpelled, IsSpelledBody}
use Rattle.xemem_language.specs.Spelling.{line_words, name_word, body_words, hex_words}
use Rattle.text_words.specs.Words.{number_in}
use Rattle.line_reader.specs.Laws.{Laws}
use Rattle.line_reader.specs.Slots.{made, listed, chosen, whole, row_read, next_word, enclave, destination, pid, call, segid, apid, page, frame, block, word32, word64, access, cause, kind, mark, hex, text, keyword}
use Rattle.line_reader.specs.Lines.{line_of, attached_form, frames_counted, ended_body_rows, call_body_rows, fixed_body_rows, body_rows, sent_row, with_body, sent_form, answer_rows, answer_form, shown_way, at_rows, at_form, block_rows, block_form, shown_rows, death_rows, kill_rows, way_rows, channel_rows, exit_rows, end_rows, grant_rows, call_rows, do_form, fixed_rows, born_form, frames_form, bytes_form, line_rows}
use Rattle.line_reader.specs.Typed.{IsTyped, IsTypedBody}
use Rattle.line_reader.proofs.BytesLemmas.{typed_bytes}
use Rattle.line_reader.proofs.ValueLemmas.{spell, next-back}
use Rattle.line_reader.proofs.ListLemmas.{all_next-back}
use Rattle.line_reader.proofs.RowLemmas.{filled-back}

-- ---- records

same_count : (n : ℕ) → (n == n) ≡ true
same_count n = (Decides-eqb n n).1 refl

body_back : (laws : Laws) (body : Body) → IsTypedBody body → IsSpelledBody body → row_read body_rows (name_word body) (body_words body) ≡ Some (body, [])
unfolding body_rows fixed_body_rows call_body_rows ended_body_rows attached_form
body_back laws bodies.Query t s = filled-back laws [] bodies.Query tt [] tt
body_back laws bodies.Here t s = filled-back laws [] bodies.Here tt [] tt
body_back laws bodies.Register t s = filled-back laws [] bodies.Register tt [] tt
body_back laws bodies.Admit t s = filled-back laws [] bodies.Admit tt [] tt
body_back laws bodies.NameReq t s = filled-back laws [] bodies.NameReq tt [] tt
body_back laws (bodies.Named s0) t s = filled-back laws (segid ∷ []) bodies.Named (s0, tt) [] (s, tt)
body_back laws (bodies.Unname s0) t s = filled-back laws (segid ∷ []) bodies.Unname (s0, tt) [] (s, tt)
body_back laws (bodies.Lookup s0) t s = filled-back laws (segid ∷ []) bodies.Lookup (s0, tt) [] (s, tt)
body_back laws (bodies.Found s0 owner) t s = filled-back laws (segid ∷ destination ∷ []) bodies.Found (s0, (owner, tt)) [] (s.0, (s.1, tt))
body_back laws (bodies.Get s0 flags uid gid) t s = filled-back laws (segid ∷ word32 ∷ word32 ∷ word32 ∷ []) bodies.Get (s0, (flags, (uid, (gid, tt)))) [] (s, (t.0, (t.1, (t.2, tt))))
body_back laws (bodies.Granted pages) t s = filled-back laws (word32 ∷ []) bodies.Granted (pages, tt) [] (t, tt)
body_back laws (bodies.GetRefused c) t s = filled-back laws (word32 ∷ []) bodies.GetRefused (c, tt) [] (t, tt)
body_back laws (bodies.Release a) t s = filled-back laws (apid ∷ []) bodies.Release (a, tt) [] (s, tt)
body_back laws (bodies.Attach a offset pages) t s = filled-back laws (apid ∷ word32 ∷ word32 ∷ []) bodies.Attach (a, (offset, (pages, tt))) [] (s, (t.0, (t.1, tt)))
body_back laws (bodies.AttachRefused c) t s = filled-back laws (word32 ∷ []) bodies.AttachRefused (c, tt) [] (t, tt)
body_back laws bodies.Detach t s = filled-back laws [] bodies.Detach tt [] tt
body_back laws (bodies.Died e) t s = filled-back laws (enclave ∷ []) bodies.Died (e, tt) [] (t, tt)
body_back laws (bodies.Dead e) t s = filled-back laws (enclave ∷ []) bodies.Dead (e, tt) [] (t, tt)
body_back laws (bodies.Confirm e) t s = filled-back laws (enclave ∷ []) bodies.Confirm (e, tt) [] (t, tt)
body_back laws (bodies.Attached frames) t s =
    ap frames_counted (next-back laws word32 (length frames) (map (spell frame) frames) (omega arith))
    ∙ ap (λ found. made (λ fs. if length fs == length frames then Some (bodies.Attached fs) else None) (option_map (λ values. (values, [])) found)) (all_next-back laws frame frames t)
    ∙ rw (same_count (length frames)) refl

-- ---- lines

hex_is : (bytes : List ℕ) → 1 ≤ length bytes → hex_words bytes ≡ encode_lower bytes ∷ []
hex_is [] some = absurd (omega arith)
hex_is (b ∷ bytes) some = refl

not_digits : (word name : List ℕ) (n : ℕ) → number_in 0 65535 word ≡ Some n → number_in 0 65535 name ≡ None → bytes_eq word name ≡ false
not_digits word name n read none = false_from_ne_true _ (λ same.
    let is : word ≡ name = (bytes_eq-Decides word name).0 same in
    let e : None ≡ Some n = sym none ∙ ap (number_in 0 65535) (sym is) ∙ read in
    cc)

way_is : (e over : Enclave) → number_in 0 65535 (decimal over.0) ≡ Some over.0 → shown_way e (decimal over.0) ≡ Some (lines.AtWay e over)
unfolding number_in
way_is e over read =
    rw (not_digits (decimal over.0) (codes "own") over.0 read refl, not_digits (decimal over.0) (codes "none") over.0 read refl, read) refl

at_way : (laws : Laws) (e over : Enclave) → e.0 ≤ 65535 → over.0 ≤ 65535 → whole (at_form (spell enclave e ∷ codes "way" ∷ spell enclave over ∷ [])) ≡ Some (lines.AtWay e over)
unfolding at_form next_word
at_way laws e over is_e is_over =
    let number = laws.numbers.back 0 65535 over.0 (omega arith) is_over (omega arith) in
    ap (λ r. whole (chosen r)) (filled-back laws (enclave ∷ []) at_rows (e, tt) (codes "way" ∷ spell enclave over ∷ []) (is_e, tt))
    ∙ ap (λ line. whole (option_map (λ l. (l, [])) line)) (way_is e over number)

pub line_of-words : (laws : Laws) (line : Line) → IsTyped line → IsSpelled line → line_of (line_words line) ≡ Some line
unfolding line_of line_rows fixed_rows call_rows grant_rows end_rows exit_rows channel_rows way_rows kill_rows death_rows shown_rows do_form born_form frames_form sent_form bytes_form answer_form at_form block_form next_word
line_of-words laws (lines.Do command) t s = ap (λ r. whole (option_map (λ command. (lines.Do command, [])) (result_ok r))) (laws.commands.back command s)
line_of-words laws (lines.Refused c) t s = ap whole (filled-back laws (cause ∷ []) lines.Refused (c, tt) [] (tt, tt))
line_of-words laws (lines.Told e of) t s = ap whole (filled-back laws (enclave ∷ enclave ∷ []) lines.Told (e, (of, tt)) [] (t.0, (t.1, tt)))
line_of-words laws (lines.Admitted e) t s = ap whole (filled-back laws (enclave ∷ []) lines.Admitted (e, tt) [] (t, tt))
line_of-words laws (lines.Proc e p uid gid) t s = ap whole (filled-back laws (enclave ∷ pid ∷ word32 ∷ word32 ∷ []) lines.Proc (e, (p, (uid, (gid, tt)))) [] (t.0, (t.1, (t.2, (t.3, tt)))))
line_of-words laws (lines.Free e p at pages) t s = ap whole (filled-back laws (enclave ∷ pid ∷ page ∷ word32 ∷ []) lines.Free (e, (p, (at, (pages, tt)))) [] (t.0, (t.1, (t.2, (t.3, tt)))))
line_of-words laws (lines.Touched e p v f) t s = ap whole (filled-back laws (enclave ∷ pid ∷ page ∷ frame ∷ []) lines.Touched (e, (p, (v, (f, tt)))) [] (t.0, (t.1, (t.2, (t.3, tt)))))
line_of-words laws (lines.Issue e p k) t s = ap whole (filled-back laws (enclave ∷ pid ∷ call ∷ []) lines.Issue (e, (p, (k, tt))) [] (t.0, (t.1, (t.2, tt))))
line_of-words laws (lines.Drew e k s0) t s = ap whole (filled-back laws (enclave ∷ call ∷ segid ∷ []) lines.Drew (e, (k, (s0, tt))) [] (t.0, (t.1, (s, tt))))
line_of-words laws (lines.Named e k s0) t s = ap whole (filled-back laws (enclave ∷ call ∷ segid ∷ []) lines.Named (e, (k, (s0, tt))) [] (t.0, (t.1, (s, tt))))
line_of-words laws (lines.Unnamed s0) t s = ap whole (filled-back laws (segid ∷ []) lines.Unnamed (s0, tt) [] (s, tt))
line_of-words laws (lines.Grant owner e k s0 a) t s = ap whole (filled-back laws (enclave ∷ enclave ∷ call ∷ segid ∷ access ∷ []) lines.Grant (owner, (e, (k, (s0, (a, tt))))) [] (t.0, (t.1, (t.2, (s, (tt, tt))))))
line_of-words laws (lines.Deny at e k c) t s = ap whole (filled-back laws (enclave ∷ enclave ∷ call ∷ cause ∷ []) lines.Deny (at, (e, (k, (c, tt)))) [] (t.0, (t.1, (t.2, (tt, tt)))))
line_of-words laws (lines.Pin owner e k) t s = ap whole (filled-back laws (enclave ∷ enclave ∷ call ∷ []) lines.Pin (owner, (e, (k, tt))) [] (t.0, (t.1, (t.2, tt))))
line_of-words laws (lines.Map e k v) t s = ap whole (filled-back laws (enclave ∷ call ∷ page ∷ []) lines.Map (e, (k, (v, tt))) [] (t.0, (t.1, (t.2, tt))))
line_of-words laws (lines.Unmap e k) t s = ap whole (filled-back laws (enclave ∷ call ∷ []) lines.Unmap (e, (k, tt)) [] (t.0, (t.1, tt)))
line_of-words laws (lines.Unpin owner e k) t s = ap whole (filled-back laws (enclave ∷ enclave ∷ call ∷ []) lines.Unpin (owner, (e, (k, tt))) [] (t.0, (t.1, (t.2, tt))))
line_of-words laws (lines.Release e k) t s = ap whole (filled-back laws (enclave ∷ call ∷ []) lines.Release (e, (k, tt)) [] (t.0, (t.1, tt)))
line_of-words laws (lines.Ungrant owner e k) t s = ap whole (filled-back laws (enclave ∷ enclave ∷ call ∷ []) lines.Ungrant (owner, (e, (k, tt))) [] (t.0, (t.1, (t.2, tt))))
line_of-words laws (lines.Remove e s0) t s = ap whole (filled-back laws (enclave ∷ segid ∷ []) lines.Remove (e, (s0, tt)) [] (t, (s, tt)))
line_of-words laws (lines.Undo e k) t s = ap whole (filled-back laws (enclave ∷ call ∷ []) lines.Undo (e, (k, tt)) [] (t.0, (t.1, tt)))
line_of-words laws (lines.Closed e k) t s = ap whole (filled-back laws (enclave ∷ call ∷ []) lines.Closed (e, (k, tt)) [] (t.0, (t.1, tt)))
line_of-words laws (lines.Exit e p) t s = ap whole (filled-back laws (enclave ∷ pid ∷ []) lines.Exit (e, (p, tt)) [] (t.0, (t.1, tt)))
line_of-words laws (lines.Took x y count) t s = ap whole (filled-back laws (enclave ∷ enclave ∷ word32 ∷ []) lines.Took (x, (y, (count, tt))) [] (t.0, (t.1, (t.2, tt))))
line_of-words laws (lines.Idle x y) t s = ap whole (filled-back laws (enclave ∷ enclave ∷ []) lines.Idle (x, (y, tt)) [] (t.0, (t.1, tt)))
line_of-words laws (lines.Got x y) t s = ap whole (filled-back laws (enclave ∷ enclave ∷ []) lines.Got (x, (y, tt)) [] (t.0, (t.1, tt)))
line_of-words laws (lines.End x y torn) t s = ap whole (filled-back laws (enclave ∷ enclave ∷ word32 ∷ []) lines.End (x, (y, (torn, tt))) [] (t.0, (t.1, (t.2, tt))))
line_of-words laws (lines.Dropped e) t s = ap whole (filled-back laws (enclave ∷ []) lines.Dropped (e, tt) [] (t, tt))
line_of-words laws (lines.Asked e by) t s = ap whole (filled-back laws (enclave ∷ enclave ∷ []) lines.Asked (e, (by, tt)) [] (t.0, (t.1, tt)))
line_of-words laws (lines.Way e over) t s = ap whole (filled-back laws (enclave ∷ enclave ∷ []) lines.Way (e, (over, tt)) [] (t.0, (t.1, tt)))
line_of-words laws (lines.Back e of over) t s = ap whole (filled-back laws (enclave ∷ enclave ∷ enclave ∷ []) lines.Back (e, (of, (over, tt))) [] (t.0, (t.1, (t.2, tt))))
line_of-words laws (lines.Route e of over) t s = ap whole (filled-back laws (enclave ∷ enclave ∷ enclave ∷ []) lines.Route (e, (of, (over, tt))) [] (t.0, (t.1, (t.2, tt))))
line_of-words laws (lines.Gmap monitor guest owner k first) t s = ap whole (filled-back laws (enclave ∷ enclave ∷ enclave ∷ call ∷ frame ∷ []) lines.Gmap (monitor, (guest, (owner, (k, (first, tt))))) [] (t.0, (t.1, (t.2, (t.3, (t.4, tt))))))
line_of-words laws (lines.Gdrop monitor guest k) t s = ap whole (filled-back laws (enclave ∷ enclave ∷ call ∷ []) lines.Gdrop (monitor, (guest, (k, tt))) [] (t.0, (t.1, (t.2, tt))))
line_of-words laws (lines.Killed e cut) t s = ap whole (filled-back laws (enclave ∷ word32 ∷ []) lines.Killed (e, (cut, tt)) [] (t.0, (t.1, tt)))
line_of-words laws (lines.Stopped e) t s = ap whole (filled-back laws (enclave ∷ []) lines.Stopped (e, tt) [] (t, tt))
line_of-words laws (lines.Held e) t s = ap whole (filled-back laws (enclave ∷ []) lines.Held (e, tt) [] (t, tt))
line_of-words laws (lines.Heard e of) t s = ap whole (filled-back laws (enclave ∷ enclave ∷ []) lines.Heard (e, (of, tt)) [] (t.0, (t.1, tt)))
line_of-words laws (lines.Confirmed of by) t s = ap whole (filled-back laws (enclave ∷ enclave ∷ []) lines.Confirmed (of, (by, tt)) [] (t.0, (t.1, tt)))
line_of-words laws (lines.Unheld e) t s = ap whole (filled-back laws (enclave ∷ []) lines.Unheld (e, tt) [] (t, tt))
line_of-words laws (lines.Settled made) t s = ap whole (filled-back laws (word32 ∷ []) lines.Settled (made, tt) [] (t, tt))
line_of-words laws (lines.Waiting made) t s = ap whole (filled-back laws (word32 ∷ []) lines.Waiting (made, tt) [] (t, tt))
line_of-words laws (lines.Page e p v f a) t s = ap whole (filled-back laws (enclave ∷ pid ∷ page ∷ frame ∷ access ∷ []) lines.Page (e, (p, (v, (f, (a, tt))))) [] (t.0, (t.1, (t.2, (t.3, (tt, tt))))))
line_of-words laws (lines.Name s0 owner) t s = ap whole (filled-back laws (segid ∷ enclave ∷ []) lines.Name (s0, (owner, tt)) [] (s, (t, tt)))
line_of-words laws (lines.Born e k of ns blocks) t s =
    ap (λ r. whole (listed block r)) (filled-back laws (enclave ∷ kind ∷ enclave ∷ mark ∷ []) (λ e of parent ns blocks. lines.Born e of parent ns blocks) (e, (k, (of, (ns, tt)))) (map (spell block) blocks) (t.0, (tt, (t.1, (tt, tt)))))
    ∙ ap (λ found. whole (made (λ bs. Some (lines.Born e k of ns bs)) (option_map (λ values. (values, [])) found))) (all_next-back laws block blocks t.2)
line_of-words laws (lines.Alloc e p at frames) t s =
    ap (λ r. whole (listed frame r)) (filled-back laws (enclave ∷ pid ∷ page ∷ []) (λ e p at frames. lines.Alloc e p at frames) (e, (p, (at, tt))) (map (spell frame) frames) (t.0, (t.1, (t.2, tt))))
    ∙ ap (λ found. whole (made (λ fs. Some (lines.Alloc e p at fs)) (option_map (λ values. (values, [])) found))) (all_next-back laws frame frames t.3)
line_of-words laws (lines.Sent x y r) t s =
    ap (λ read. whole (with_body read)) (filled-back laws (enclave ∷ enclave ∷ text ∷ enclave ∷ destination ∷ word32 ∷ []) sent_row (x, (y, (name_word r.body, (r.origin, (r.dest, (r.call, tt)))))) (body_words r.body) (t.0, (t.1, (tt, (t.2, (s.0, (t.3, tt)))))))
    ∙ ap (λ read. whole (made (λ body. Some (lines.Sent x y (record { origin = r.origin; dest = r.dest; call = r.call; body = body }))) read)) (body_back laws r.body t.4 s.1)
line_of-words laws (lines.Bytes x y at bytes) t s =
    rw (hex_is bytes s.0) (ap whole (filled-back laws (enclave ∷ enclave ∷ word32 ∷ hex ∷ []) lines.Bytes (x, (y, (at, (bytes, tt)))) [] (t.0, (t.1, (t.2, ((s, typed_bytes bytes t.3), tt))))))
line_of-words laws (lines.AnswerSegid e p k s0) t s =
    ap (λ r. whole (chosen r)) (filled-back laws (enclave ∷ pid ∷ call ∷ []) answer_rows (e, (p, (k, tt))) (codes "segid" ∷ spell segid s0 ∷ []) (t.0, (t.1, (t.2, tt))))
    ∙ ap whole (filled-back laws (segid ∷ []) (lines.AnswerSegid e p k) (s0, tt) [] (s, tt))
line_of-words laws (lines.AnswerApid e p k a pages) t s =
    ap (λ r. whole (chosen r)) (filled-back laws (enclave ∷ pid ∷ call ∷ []) answer_rows (e, (p, (k, tt))) (codes "apid" ∷ spell apid a ∷ codes "pages" ∷ spell word32 pages ∷ []) (t.0, (t.1, (t.2, tt))))
    ∙ ap whole (filled-back laws (apid ∷ keyword (codes "pages") ∷ word32 ∷ []) (λ a with. lines.AnswerApid e p k a) (a, (tt, (pages, tt))) [] (s, (tt, (t.3, tt))))
line_of-words laws (lines.AnswerAddr e p k addr) t s =
    ap (λ r. whole (chosen r)) (filled-back laws (enclave ∷ pid ∷ call ∷ []) answer_rows (e, (p, (k, tt))) (codes "addr" ∷ spell word64 addr ∷ []) (t.0, (t.1, (t.2, tt))))
    ∙ ap whole (filled-back laws (word64 ∷ []) (lines.AnswerAddr e p k) (addr, tt) [] (t.3, tt))
line_of-words laws (lines.AnswerRefused e p k c) t s =
    ap (λ r. whole (chosen r)) (filled-back laws (enclave ∷ pid ∷ call ∷ []) answer_rows (e, (p, (k, tt))) (codes "refused" ∷ spell cause c ∷ []) (t.0, (t.1, (t.2, tt))))
    ∙ ap whole (filled-back laws (cause ∷ []) (lines.AnswerRefused e p k) (c, tt) [] (tt, tt))
line_of-words laws (lines.AtWay e over) t s = at_way laws e over t.0 t.1
line_of-words laws (lines.AtWayOwn e) t s = ap (λ r. whole (chosen r)) (filled-back laws (enclave ∷ []) at_rows (e, tt) (codes "way" ∷ codes "own" ∷ []) (t, tt))
line_of-words laws (lines.AtWayNone e) t s = ap (λ r. whole (chosen r)) (filled-back laws (enclave ∷ []) at_rows (e, tt) (codes "way" ∷ codes "none" ∷ []) (t, tt))
line_of-words laws (lines.AtRoute e of over) t s =
    ap (λ r. whole (chosen r)) (filled-back laws (enclave ∷ []) at_rows (e, tt) (codes "route" ∷ spell enclave of ∷ spell enclave over ∷ []) (t.0, tt))
    ∙ ap whole (filled-back laws (enclave ∷ enclave ∷ []) (lines.AtRoute e) (of, (over, tt)) [] (t.1, (t.2, tt)))
line_of-words laws (lines.AtPin e x k s0 offset pages) t s =
    ap (λ r. whole (chosen r)) (filled-back laws (enclave ∷ []) at_rows (e, tt) (codes "pin" ∷ spell enclave x ∷ spell call k ∷ spell segid s0 ∷ spell word32 offset ∷ spell word32 pages ∷ []) (t.0, tt))
    ∙ ap whole (filled-back laws (enclave ∷ call ∷ segid ∷ word32 ∷ word32 ∷ []) (lines.AtPin e) (x, (k, (s0, (offset, (pages, tt))))) [] (t.1, (t.2, (s, (t.3, (t.4, tt))))))
line_of-words laws (lines.BlockFree b) t s = ap (λ r. whole (chosen r)) (filled-back laws (block ∷ []) block_rows (b, tt) (codes "free" ∷ []) (t, tt))
line_of-words laws (lines.BlockLent b e) t s =
    ap (λ r. whole (chosen r)) (filled-back laws (block ∷ []) block_rows (b, tt) (codes "lent" ∷ spell enclave e ∷ []) (t.0, tt))
    ∙ ap whole (filled-back laws (enclave ∷ []) (lines.BlockLent b) (e, tt) [] (t.1, tt))
line_of-words laws (lines.BlockHeld b e) t s =
    ap (λ r. whole (chosen r)) (filled-back laws (block ∷ []) block_rows (b, tt) (codes "held" ∷ spell enclave e ∷ []) (t.0, tt))
    ∙ ap whole (filled-back laws (enclave ∷ []) (lines.BlockHeld b) (e, tt) [] (t.1, tt))

-- A property of each line of a list that an enclave writes: of what follows a birth, and of what serves calls.
use Rattle.std.proofs.Common.{◌≡◌, ◌+◌, ℕ, List, [], ◌∷◌, ◌++◌, Bool, true, false, cond, ◌&&◌, eqb, Option, None, Some, refl}
use Rattle.std.specs.List.{AllByRecursion}
use Rattle.std.specs.Option.{option_map_or}
use Rattle.xm_num.specs.declared.Enclave.{Enclave}
use Rattle.xm_num.specs.declared.Pid.{Pid}
use Rattle.xm_num.specs.declared.Segid.{Segid}
use Rattle.xm_num.specs.Rows.{at}
use Rattle.xemem_language.specs.declared.line.Line.{Line}
use Rattle.xemem_language.specs.declared.line.Line.TheVariants as lines
use Rattle.xemem_language.specs.declared.record.Record.{Record}
use Rattle.xemem_wire.specs.Spelling.{is_valid}
use Rattle.attach_map.specs.declared.Waiting.{Waiting}
use Rattle.name_server.specs.Names.{has_name}
use Rattle.enclave_rules.specs.Exports.{is_segid, segid_number}
use Rattle.enclave_rules.specs.Hand.{Hand}
use Rattle.enclave_rules.specs.Names.{can_draw, next_segid}
use Rattle.enclave_rules.specs.View.{View, own_lines}
use Rattle.enclave_rules.specs.Segments.{drew_line, issue_line, make_acts, make_of, name_lines, name_request, named_lines, named_record, naming_lines, remove_acts, takes_name, unname_lines, unname_record}
use Rattle.enclave_rules.specs.Sending.{Goal, Server, To, drop_lines, knows_way, made_lines, over_lines, send_lines, way_to}
use Rattle.enclave_rules.specs.Steps.{adopt_lines, child_lines, here_of, query_of, told_askers, told_lines}
use Rattle.global_model.specs.Parts.{Part, Opening, Closing, Birth, Admission, Warning, Death, Kill, Start, Owning, Sending, Delivery, Receipt, Asking, Learning, Noting, Lacks}
use Rattle.call_laws.proofs.Rows.{all_append}

module _ (P : Line → Type 0) where
  pub each_either : (t : Bool) (ls ms : List Line) → AllByRecursion P ls → AllByRecursion P ms → AllByRecursion P (cond t ls ms)
  each_either true ls ms left right = left
  each_either false ls ms left right = right

  -- a record is sent, or dropped
  pub each_over : (v : View) (came over : Option Enclave) (r : Record) → P (lines.Dropped v.me) → ((z : Enclave) → over ≡ Some z → P (lines.Sent v.me z r))
      → AllByRecursion P (over_lines v came over r)
  each_over v came None r dropped sent = (dropped, tt)
  each_over v came (Some z) r dropped sent =
      each_either (option_map_or (λ from. eqb z.0 from.0) came false) (drop_lines v) (lines.Sent v.me z r ∷ []) (dropped, tt) (sent z refl, tt)

  -- those that asked for the way are told it
  pub each_told : (v : View) (askers : List (ℕ × Enclave)) → ((x : Enclave) → P (lines.Sent v.me x (here_of v.me))) → AllByRecursion P (told_askers v askers)
  each_told v [] sent = tt
  each_told v (row ∷ askers) sent = (sent row.1, each_told v askers sent)

  -- a parent that knows no way asks its new child
  pub each_adopt : (v : View) (child : Enclave) → P (lines.Sent v.me child (query_of v.me)) → AllByRecursion P (adopt_lines v child)
  each_adopt v child sent = each_either (knows_way v) [] (lines.Sent v.me child (query_of v.me) ∷ []) tt (sent, tt)

  each_dead : (child : Enclave) (heard : List Enclave) → ((d : Enclave) → P (lines.Told child d)) → AllByRecursion P (told_lines child heard)
  each_dead child [] told = tt
  each_dead child (d ∷ heard) told = (told d, each_dead child heard told)

  -- what follows a birth
  pub each_birth : (child parent : Enclave) (ns : Bool) (heard : List Enclave) (v : View) → ((d : Enclave) → P (lines.Told child d))
      → P (lines.Admitted child) → ((x y : Enclave) → P (lines.Sent x y (query_of x)))
      → AllByRecursion P ((told_lines child heard ++ child_lines child parent ns) ++ adopt_lines v child)
  each_birth child parent ns heard v told admitted sent =
      all_append P (told_lines child heard ++ child_lines child parent ns) (adopt_lines v child)
      (all_append P (told_lines child heard) (child_lines child parent ns) (each_dead child heard told)
      (each_either ns (lines.Admitted child ∷ []) (lines.Sent child parent (query_of child) ∷ []) (admitted, tt) (sent child parent, tt)))
      (each_adopt v child (sent v.me child))

-- the parts that lines for calls don't play, but for the records that are sent
abbrev pub all_but_calls : List Part
all_but_calls =
    Opening ∷ Closing ∷ Birth ∷ Admission ∷ Warning ∷ Death ∷ Kill ∷ Start ∷ Owning ∷ Sending ∷ Delivery ∷ Receipt ∷ Asking ∷ Learning ∷ Noting ∷ []

module _ (P : Line → Type 0) (may : (line : Line) → Lacks all_but_calls line → P line) where
  drops : (v : View) → AllByRecursion P (drop_lines v)
  drops v = (may (lines.Dropped v.me) tt, tt)

  pub each_sent : (v : View) (came : Option Enclave) (goal : Goal) (r : Record) → ((z : Enclave) → way_to v goal ≡ Some z → P (lines.Sent v.me z r))
      → AllByRecursion P (send_lines v came goal r)
  each_sent v came goal r sent = each_over P v came (way_to v goal) r (may (lines.Dropped v.me) tt) sent

  pub each_made : (v : View) (goal : Goal) (r : Record) → ((z : Enclave) → way_to v goal ≡ Some z → P (lines.Sent v.me z r)) → AllByRecursion P (made_lines v goal r)
  each_made v goal r sent = each_either P (is_valid r) (send_lines v None goal r) (drop_lines v) (each_sent v None goal r sent) (drops v)

  pub each_named : (v : View) (call : ℕ) (segid : Segid) → AllByRecursion P (named_lines v call segid)
  each_named v call segid = by (at v.memory.waiting call)
    where
      by : (found : Option Waiting) → AllByRecursion P (option_map_or (λ waiting. cond (takes_name v call segid waiting)
          (lines.Named v.me (record { 0 = call }) segid ∷ lines.AnswerSegid v.me waiting.pid (record { 0 = call }) segid ∷ []) (drop_lines v)) found (drop_lines v))
      by None = drops v
      by (Some w) = each_either P (takes_name v call segid w)
          (lines.Named v.me (record { 0 = call }) segid ∷ lines.AnswerSegid v.me w.pid (record { 0 = call }) segid ∷ []) (drop_lines v)
          (may (lines.Named v.me (record { 0 = call }) segid) tt, (may (lines.AnswerSegid v.me w.pid (record { 0 = call }) segid) tt, tt)) (drops v)

  pub each_name : (v : View) (caller : Enclave) (call : ℕ)
      → ((z : Enclave) → way_to v (To caller) ≡ Some z → P (lines.Sent v.me z (named_record v.me caller call (next_segid v.names))))
      → AllByRecursion P (name_lines v caller call)
  each_name v caller call sent =
      let r = named_record v.me caller call (next_segid v.names) in
      each_either P (can_draw v.names) (drew_line v caller call ∷ made_lines v (To caller) r) (drop_lines v)
      (may (drew_line v caller call) tt, each_made v (To caller) r sent) (drops v)

  pub each_unname : (v : View) (owner : Enclave) (segid : Segid) → AllByRecursion P (unname_lines v owner segid)
  each_unname v owner segid =
      each_either P (is_segid segid && has_name v.names (segid_number segid) owner) (lines.Unnamed segid ∷ []) (drop_lines v) (may (lines.Unnamed segid) tt, tt) (drops v)

  -- what is written for a make
  pub each_make : (hand : Hand) (v : View) (p : Pid)
      → ((z : Enclave) → way_to v Server ≡ Some z → P (lines.Sent v.me z (name_request v.me (v.memory.issued + 1)))) → AllByRecursion P (make_acts hand v p)
  each_make hand v p sent =
      let w = own_lines hand v (issue_line v p ∷ []) in
      let k = v.memory.issued + 1 in
      let named = own_lines hand w (drew_line w w.me k ∷ []) in (
        may (issue_line v p) tt,
        each_either P w.core.holder (naming_lines hand w k) (made_lines w Server (name_request w.me k))
            (each_either P (can_draw w.names) (drew_line w w.me k ∷ named_lines named k (next_segid w.names)) (drop_lines w)
            (may (drew_line w w.me k) tt, each_named named k (next_segid w.names)) (drops w))
            (each_made w Server (name_request w.me k) sent),
      )

  -- and for a remove
  pub each_remove : (v : View) (segid : Segid)
      → ((z : Enclave) → way_to v Server ≡ Some z → P (lines.Sent v.me z (unname_record v.me (make_of v.exports (segid_number segid)) segid)))
      → AllByRecursion P (remove_acts v segid)
  each_remove v segid sent =
      let r = unname_record v.me (make_of v.exports (segid_number segid)) segid in
      (may (lines.Remove v.me segid) tt, each_either P v.core.holder (unname_lines v v.me segid) (made_lines v Server r) (each_unname v v.me segid) (each_made v Server r sent))

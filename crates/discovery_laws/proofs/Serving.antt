-- Lines that serve calls: what an enclave writes for a make or a remove, and for the records that serve them. A property of each kind of
-- these lines is one of all of them.
use Rattle.std.proofs.Common.{◌≡◌, ◌+◌, ◌&&◌, ℕ, List, [], ◌∷◌, Bool, true, false, cond, eqb, Option, None, Some, refl}
use Rattle.std.specs.List.{AllByRecursion}
use Rattle.std.specs.Option.{option_map_or}
use Rattle.xm_num.specs.declared.Enclave.{Enclave}
use Rattle.xm_num.specs.declared.Pid.{Pid}
use Rattle.xm_num.specs.declared.Segid.{Segid}
use Rattle.xm_num.specs.Rows.{at}
use Rattle.xemem_language.specs.declared.call.Call.{Call}
use Rattle.xemem_language.specs.declared.call.Call.TheVariants as calls
use Rattle.xemem_language.specs.declared.record.Record.{Record}
use Rattle.xemem_language.specs.declared.record.Body.{Body}
use Rattle.xemem_language.specs.declared.record.Body.TheVariants as bodies
use Rattle.xemem_language.specs.declared.line.Line.{Line}
use Rattle.xemem_language.specs.declared.line.Line.TheVariants as lines
use Rattle.xemem_wire.specs.Spelling.{is_valid}
use Rattle.attach_map.specs.declared.Waiting.{Waiting}
use Rattle.name_server.specs.Names.{has_name}
use Rattle.enclave_rules.specs.Hand.{Hand}
use Rattle.enclave_rules.specs.Exports.{is_segid, segid_number}
use Rattle.enclave_rules.specs.Names.{can_draw, next_segid}
use Rattle.enclave_rules.specs.View.{View, own_lines}
use Rattle.enclave_rules.specs.Sending.{Goal, Server, To, drop_lines, made_lines, send_lines, way_to}
use Rattle.enclave_rules.specs.Segments.{asking_lines, drew_line, issue_line, make_of, name_lines, name_request, named_lines, named_record, naming_lines, takes_name, unname_lines, unname_record}
use Rattle.enclave_rules.specs.Steps.{body_lines, named_to}
use Rattle.enclave_rules.specs.Calls.{at_hand}
use Rattle.global_model.specs.Parts.{Part, Opening, Closing, Birth, Admission, Warning, Death, Kill, Start, Owning, Sending, Delivery, Receipt, Asking, Learning, Noting, Lacks}
use Rattle.global_model.specs.Pauses.{asked_lines}
use Rattle.discovery_laws.proofs.Each.{each_either, each_over}

-- a record that serves a make
abbrev pub is_serving : Body → Bool
is_serving bodies.NameReq = true
is_serving (bodies.Named segid) = true
is_serving (bodies.Unname segid) = true
is_serving body = false

-- the parts that lines for calls don't play, but for the records that are sent
abbrev pub all_but_calls : List Part
all_but_calls =
    Opening ∷ Closing ∷ Birth ∷ Admission ∷ Warning ∷ Death ∷ Kill ∷ Start ∷ Owning ∷ Sending ∷ Delivery ∷ Receipt ∷ Asking ∷ Learning ∷ Noting ∷ []

module _ (P : Line → Type 0) (may : (line : Line) → Lacks all_but_calls line → P line) (sends : (x y : Enclave) (r : Record) → is_serving r.body ≡ true → P (lines.Sent x y r)) where
  drops : (v : View) → AllByRecursion P (drop_lines v)
  drops v = (may (lines.Dropped v.me) tt, tt)

  serves_made : (v : View) (goal : Goal) (r : Record) → is_serving r.body ≡ true → AllByRecursion P (made_lines v goal r)
  serves_made v goal r is =
      each_either P (is_valid r) (send_lines v None goal r) (drop_lines v) (each_over P v None (way_to v goal) r (may (lines.Dropped v.me) tt) (λ x. sends v.me x r is)) (drops v)

  serves_named : (v : View) (call : ℕ) (segid : Segid) → AllByRecursion P (named_lines v call segid)
  serves_named v call segid = by (at v.memory.waiting call)
    where
      by : (found : Option Waiting) → AllByRecursion P (option_map_or (λ waiting. cond (takes_name v call segid waiting)
          (lines.Named v.me (record { 0 = call }) segid ∷ lines.AnswerSegid v.me waiting.pid (record { 0 = call }) segid ∷ []) (drop_lines v)) found (drop_lines v))
      by None = drops v
      by (Some waiting) = each_either P (takes_name v call segid waiting)
          (lines.Named v.me (record { 0 = call }) segid ∷ lines.AnswerSegid v.me waiting.pid (record { 0 = call }) segid ∷ []) (drop_lines v)
          (may (lines.Named v.me (record { 0 = call }) segid) tt, (may (lines.AnswerSegid v.me waiting.pid (record { 0 = call }) segid) tt, tt)) (drops v)

  serves_names : (v : View) (caller : Enclave) (call : ℕ) → AllByRecursion P (name_lines v caller call)
  serves_names v caller call =
      each_either P (can_draw v.names) (drew_line v caller call ∷ made_lines v (To caller) (named_record v.me caller call (next_segid v.names))) (drop_lines v)
      (may (drew_line v caller call) tt, serves_made v (To caller) (named_record v.me caller call (next_segid v.names)) refl) (drops v)

  serves_unname : (v : View) (owner : Enclave) (segid : Segid) → AllByRecursion P (unname_lines v owner segid)
  serves_unname v owner segid =
      each_either P (is_segid segid && has_name v.names (segid_number segid) owner) (lines.Unnamed segid ∷ []) (drop_lines v) (may (lines.Unnamed segid) tt, tt) (drops v)

  -- what is made of a record that serves a make, which may be passed on
  pub serves_body : (v : View) (from : Enclave) (r : Record) (body : Body) → is_serving body ≡ true → ((x : Enclave) → P (lines.Sent v.me x r))
      → AllByRecursion P (body_lines v from r body)
  serves_body v from r bodies.NameReq is sent =
      each_either P v.core.holder (name_lines v r.origin r.call) (send_lines v (Some from) Server r) (serves_names v r.origin r.call)
      (each_over P v (Some from) (way_to v Server) r (may (lines.Dropped v.me) tt) sent)
  serves_body v from r (bodies.Named segid) is sent = to r.dest
    where
      to : (dest : Option Enclave) → AllByRecursion P (named_to v from r segid dest)
      to None = drops v
      to (Some d) = each_either P (eqb d.0 v.me.0) (named_lines v r.call segid) (send_lines v (Some from) (To d) r) (serves_named v r.call segid)
          (each_over P v (Some from) (way_to v (To d)) r (may (lines.Dropped v.me) tt) sent)
  serves_body v from r (bodies.Unname segid) is sent =
      each_either P v.core.holder (unname_lines v r.origin segid) (send_lines v (Some from) Server r) (serves_unname v r.origin segid)
      (each_over P v (Some from) (way_to v Server) r (may (lines.Dropped v.me) tt) sent)
  serves_body v from r _ is sent = absurd (cc)

  serves_asking : (hand : Hand) (v : View) (call : ℕ) → AllByRecursion P (asking_lines hand v call)
  serves_asking hand v call =
      let w = own_lines hand v (drew_line v v.me call ∷ []) in
      each_either P v.core.holder (naming_lines hand v call) (made_lines v Server (name_request v.me call))
      (each_either P (can_draw v.names) (drew_line v v.me call ∷ named_lines w call (next_segid v.names)) (drop_lines v)
      (may (drew_line v v.me call) tt, serves_named w call (next_segid v.names)) (drops v))
      (serves_made v Server (name_request v.me call) refl)

  -- what is written for a call that may need another enclave
  pub serves_asked : (v : View) (p : Pid) (call : Call) → AllByRecursion P (asked_lines v p call)
  serves_asked v p (calls.Alloc at n) = tt
  serves_asked v p (calls.Make addr size mode) =
      let hand = at_hand v p (calls.Make addr size mode) in
      (may (issue_line v p) tt, serves_asking hand (own_lines hand v (issue_line v p ∷ [])) (v.memory.issued + 1))
  serves_asked v p (calls.Remove segid) =
      let away = unname_record v.me (make_of v.exports (segid_number segid)) segid in
      (may (lines.Remove v.me segid) tt, each_either P v.core.holder (unname_lines v v.me segid) (made_lines v Server away) (serves_unname v v.me segid) (serves_made v Server away refl))

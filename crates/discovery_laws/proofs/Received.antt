-- A record is got; and what an enclave makes of one that says nothing of d says nothing of d either.
use Rattle.std.proofs.Common.{◌≡◌, ◌≢◌, ◌⊎◌, ◌+◌, ℕ, List, [], ◌∷◌, ◌++◌, suc, filter, Bool, true, false, cond, ◌&&◌, eqb, Option, None, Some, inl, inr, refl, sym, ap, ◌∙◌, arith}
use Rattle.std.specs.Option.{option_map_or}
use Rattle.std.proofs.lemmas.Bool.{eqb-true, eqb-false, ne_eqb, and_parts}
use Rattle.xm_num.specs.declared.Enclave.{Enclave}
use Rattle.xm_num.specs.Rows.{at, less}
use Rattle.xemem_language.specs.Destinations.{destination_number}
use Rattle.xemem_language.specs.declared.record.Record.{Record}
use Rattle.xemem_language.specs.declared.record.Body.{Body}
use Rattle.xemem_language.specs.declared.record.Body.TheVariants as bodies
use Rattle.xemem_language.specs.declared.line.Line.{Line}
use Rattle.xemem_language.specs.declared.line.Line.TheVariants as lines
use Rattle.enclave_rules.specs.View.{View}
use Rattle.enclave_rules.specs.Steps.{admit_over, admit_to, body_lines, here_lines, here_of, register_of, admit_of, is_stray, query_lines, record_lines, register_lines, told_askers}
use Rattle.enclave_rules.specs.Sending.{drop_lines, knows_way, over_lines}
use Rattle.enclave_rules.specs.Ways.{place_among}
use Rattle.global_model.specs.Facts.{Facts, after_line}
use Rattle.discovery_laws.specs.Known.{in_flight}
use Rattle.discovery_laws.proofs.Each.{each-append, each_over, each_told}
use Rattle.discovery_laws.proofs.Stages.{about_in, is_about, is_about_by}
use Rattle.discovery_laws.proofs.Underway.{flight_got}
use Rattle.discovery_laws.proofs.Unmoved.{AreAside, AreWithinStep, IsAside, IsUnmoved, inner_all}
use Rattle.discovery_laws.proofs.Serving.{all_but_calls, is_serving, serves_asked, serves_body}
use Rattle.xm_num.specs.declared.Pid.{Pid}
use Rattle.xemem_language.specs.declared.call.Call.{Call}
use Rattle.global_model.specs.Parts.{Lacks}
use Rattle.global_model.specs.Pauses.{asked_lines}

-- ---- a record is got

pub about_got : (G : Facts) (x y : Enclave) (r : Record) (rs : List Record) (d a b : ℕ) → in_flight G x.0 y.0 ≡ r ∷ rs
    → about_in (after_line G (lines.Got x y)) d a b ≡ cond (eqb a x.0 && eqb b y.0) (filter (is_about d) rs) (about_in G d a b)
about_got G x y r rs d a b is = ap (filter (is_about d)) (flight_got G x y r rs a b is) ∙ by (eqb a x.0 && eqb b y.0)
  where
    by : (t : Bool) → filter (is_about d) (cond t rs (in_flight G a b)) ≡ cond t (filter (is_about d) rs) (about_in G d a b)
    by true = refl
    by false = refl

pub unmoved_got : (G : Facts) (x y : Enclave) (r : Record) (rs : List Record) (d : ℕ) → in_flight G x.0 y.0 ≡ r ∷ rs → is_about d r ≡ false
    → IsUnmoved G (after_line G (lines.Got x y)) d
unmoved_got G x y r rs d is other = record {
  flight = λ a b. about_got G x y r rs d a b is ∙ by a b (eqb a x.0 && eqb b y.0) refl;
  backs = λ e. refl;
  routes = λ e. refl;
  holders = λ e is. is;
  knowing = λ e is. is;
  held = refl;
  known = refl;
  admitted = refl;
}
  where
    by : (a b : ℕ) (t : Bool) → (eqb a x.0 && eqb b y.0) ≡ t → cond t (filter (is_about d) rs) (about_in G d a b) ≡ about_in G d a b
    by a b true here =
        let both = and_parts (eqb a x.0) (eqb b y.0) here in
        let same : in_flight G a b ≡ r ∷ rs = rw (eqb-true a x.0 both.0, eqb-true b y.0 both.1) is in
        let first : filter (is_about d) (r ∷ rs) ≡ filter (is_about d) rs = rw other refl in
        sym (ap (filter (is_about d)) same ∙ first)
    by a b false elsewhere = refl

-- ---- what is made of a record

aside_query : (v : View) (from : Enclave) (d : ℕ) → AreAside d (query_lines v from)
aside_query v from d = by (knows_way v)
  where
    by : (t : Bool) → AreAside d (cond t (lines.Sent v.me from (here_of v.me) ∷ []) (lines.Asked v.me from ∷ []))
    by true = (refl, tt)
    by false = (tt, tt)

-- only an enclave that knows no way registers, and for itself
abbrev pub MayHear : View → ℕ → Body → Type 0
MayHear v d bodies.Here = (knows_way v ≡ true) ⊎ (v.me.0 ≢ d)
MayHear v d body = Unit {0}

aside_here : (v : View) (from : Enclave) (d : ℕ) → (knows_way v ≡ true) ⊎ (v.me.0 ≢ d) → AreAside d (here_lines v from)
aside_here v from d may = by (knows_way v) may
  where
    by : (t : Bool) → (t ≡ true) ⊎ (v.me.0 ≢ d)
        → AreAside d (cond t (drop_lines v)
        (lines.Way v.me from ∷ told_askers v (less v.ways.askers (place_among v.core.parent from)) ++ lines.Sent v.me from (register_of v.me) ∷ []))
    by true may = (tt, tt)
    by false (inl is) = absurd (cc)
    by false (inr other) = (
      other,
      each-append (IsAside d) (told_askers v (less v.ways.askers (place_among v.core.parent from))) (lines.Sent v.me from (register_of v.me) ∷ [])
          (each_told (IsAside d) v (less v.ways.askers (place_among v.core.parent from)) (λ x. refl)) (ne_eqb v.me.0 d other, tt),
    )

aside_register : (v : View) (from : Enclave) (r : Record) (d : ℕ) → is_about d r ≡ false → r.origin.0 ≢ d → AreAside d (register_lines v from r)
aside_register v from r d other apart = (apart, by v.core.holder)
  where
    by : (t : Bool) → AreAside d (cond t (lines.Route v.me r.origin from ∷ lines.Sent v.me from (admit_of v.me r.origin) ∷ [])
        (over_lines v (Some from) (cond t None v.ways.way) r))
    by true = (apart, (ne_eqb r.origin.0 d apart, tt))
    by false = each_over (IsAside d) v (Some from) v.ways.way r tt (λ x. other)

aside_over : (v : View) (from e : Enclave) (r : Record) (d : ℕ) (over : Option Enclave) → is_about d r ≡ false → e.0 ≢ d
    → AreAside d (admit_over v from e r over)
aside_over v from e r d None other apart = (tt, tt)
aside_over v from e r d (Some over) other apart = (apart, each_over (IsAside d) v (Some from) (Some over) r tt (λ x. other))

aside_admit : (v : View) (from : Enclave) (r : Record) (d : ℕ) (dest : Option Enclave) → is_about d r ≡ false
    → option_map_or (λ e. eqb e.0 d) dest false ≡ false → AreAside d (admit_to v from r dest)
aside_admit v from r d None other none = (tt, tt)
aside_admit v from r d (Some e) other none = by (eqb e.0 v.me.0) refl v.core.admitted
  where
    apart : e.0 ≢ d
    apart = eqb-false e.0 d none

    by : (t : Bool) → eqb e.0 v.me.0 ≡ t → (ready : Bool)
        → AreAside d (cond t (cond ready (drop_lines v) (lines.Admitted v.me ∷ [])) (admit_over v from e r (at v.ways.backs e.0)))
    by true is true = (tt, tt)
    by true is false = (λ me. apart (eqb-true e.0 v.me.0 is ∙ me), tt)
    by false is ready = aside_over v from e r d (at v.ways.backs e.0) other apart

-- what serves calls says nothing of any registration
serving_other : (d : ℕ) (r : Record) (body : Body) → is_serving body ≡ true → is_about_by d r body ≡ false
serving_other d r bodies.NameReq is = refl
serving_other d r (bodies.Named segid) is = refl
serving_other d r (bodies.Unname segid) is = refl
serving_other d r _ is = absurd (cc)

aside_for_calls : (d : ℕ) (line : Line) → Lacks all_but_calls line → IsAside d line
aside_for_calls d (lines.Sent x y r) none = absurd none
aside_for_calls d _ none = search

-- so does what is written for a call
pub aside_asked : (v : View) (p : Pid) (call : Call) (d : ℕ) → AreAside d (asked_lines v p call)
aside_asked v p call d = serves_asked (IsAside d) (aside_for_calls d) (λ x y r is. serving_other d r r.body is) v p call

aside_body : (v : View) (from : Enclave) (r : Record) (d : ℕ) (body : Body) → is_about d r ≡ false → is_about_by d r body ≡ false → MayHear v d body
    → AreAside d (body_lines v from r body)
aside_body v from r d bodies.Query other none may = aside_query v from d
aside_body v from r d bodies.Here other none may = aside_here v from d may
aside_body v from r d bodies.Register other none may = aside_register v from r d other (eqb-false r.origin.0 d none)
aside_body v from r d bodies.Admit other none may = aside_admit v from r d r.dest other none
aside_body v from r d bodies.NameReq other none may = serves_body (IsAside d) (aside_for_calls d) (λ x y r is. serving_other d r r.body is) v from r bodies.NameReq refl (λ x. other)
aside_body v from r d (bodies.Named segid) other none may = serves_body (IsAside d) (aside_for_calls d) (λ x y r is. serving_other d r r.body is) v from r (bodies.Named segid) refl (λ x. other)
aside_body v from r d (bodies.Unname segid) other none may = serves_body (IsAside d) (aside_for_calls d) (λ x y r is. serving_other d r r.body is) v from r (bodies.Unname segid) refl (λ x. other)
aside_body v from r d _ other none may = (tt, tt)

pub aside_record : (v : View) (from : Enclave) (r : Record) (d : ℕ) → is_about d r ≡ false → MayHear v d r.body → AreAside d (record_lines v from r)
aside_record v from r d other may = by (is_stray v r)
  where
    by : (t : Bool) → AreAside d (cond t (drop_lines v) (body_lines v from r r.body))
    by true = (tt, tt)
    by false = aside_body v from r d r.body other other may

-- a number that no record and no view names: of it nothing is said
beyond : View → Record → ℕ
beyond v r = suc (v.me.0 + r.origin.0 + destination_number r.dest)

-- what is made of a record bears no enclave and gets no record
pub inner_record : (v : View) (from : Enclave) (r : Record) → AreWithinStep (record_lines v from r)
unfolding beyond
inner_record v from r = inner_all (record_lines v from r) (beyond v r) (aside_record v from r (beyond v r) (by r.body) (hears r.body))
  where
    dest_apart : (dest : Option Enclave) (more : ℕ) → option_map_or (λ (e : Enclave). eqb e.0 (suc (more + destination_number dest))) dest false ≡ false
    dest_apart None more = refl
    dest_apart (Some e) more = ne_eqb e.0 (suc (more + e.0)) (λ is. omega (arith, is))

    by : (body : Body) → is_about_by (suc (v.me.0 + r.origin.0 + destination_number r.dest)) r body ≡ false
    by bodies.Register = ne_eqb r.origin.0 (suc (v.me.0 + r.origin.0 + destination_number r.dest)) (λ is. omega (arith, is))
    by bodies.Admit = dest_apart r.dest (v.me.0 + r.origin.0)
    by _ = refl

    hears : (body : Body) → MayHear v (suc (v.me.0 + r.origin.0 + destination_number r.dest)) body
    hears bodies.Here = inr (λ is. omega (arith, is))
    hears _ = tt

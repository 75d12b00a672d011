-- What an enclave learns of ways, by the sides of its neighbours and by their numbers.
use Rattle.std.proofs.Common.{◌≡◌, ◌+◌, ℕ, Bool, true, false, ◌||◌, List, [], ◌∷◌, ◌++◌, Option, None, Some, refl, sym, ap, subst, append_assoc, ◌∙◌}
use Rattle.std.specs.Prelude.{option_map, not, if◌then◌else◌, Result, Ok, Err, OnOk}
use Rattle.xm_num.specs.declared.Enclave.{Enclave}
use Rattle.xm_num.specs.declared.Neighbour.{Neighbour}
use Rattle.xm_num.specs.Rows.{at, put, less, next_from, IsAscending}
use Rattle.route_learn.specs.Routes as ways
use Rattle.route_learn.specs.Routes.{RouteView, place_of, AreNumbers}
use Rattle.xemem_language.specs.declared.line.Line.{Line}
use Rattle.xemem_language.specs.declared.line.Line.TheVariants as lines
use Rattle.enclave_rules.specs.Ways.{WaysView, place_among}
use Rattle.enclave_rules.specs.Hand.{Hand, Nothing}
use Rattle.enclave_rules.specs.View.{View, own_line, own_lines}
use Rattle.route_learn.specs.declared.Way.{Way}
use Rattle.route_learn.specs.declared.Way.TheVariants as way_kinds
use Rattle.enclave_rules.specs.Sending.{To, knows_way, drop_lines, route_or, way_to}
use Rattle.enclave_rules.specs.Steps.{register_of, here_lines, told_askers}
use Rattle.enclave_node.specs.Sides.{enclave_of, side_of, rows_by_number, with_way_over, with_route_over, learned_lines}
use Rattle.enclave_node.proofs.RowLemmas.{put_map, less_map, at_map, next_map, ascending_map, numbers_map, rows_from, first_of_rows}
use Rattle.enclave_node.proofs.SideLemmas.{place_same, number_same, known_same, told_kept}

-- a view with what is learned of ways
abbrev pub seen : View → RouteView → View
seen v r = record v {
  core = record v.core { holder = r.holder };
  ways = record { way = option_map (enclave_of v.core.parent) r.way; askers = rows_by_number v.core.parent r.askers; backs = rows_by_number v.core.parent r.back; routes = rows_by_number v.core.parent r.routes };
}

-- a view with other ways
abbrev pub with_ways : View → WaysView → View
with_ways v w = record v { ways = w }

-- ---- tables by the neighbours' numbers

put_number : (p x : Enclave) (n : Neighbour) (rows : List (ℕ × Neighbour)) (k : ℕ) → n ≡ side_of p x → rows_by_number p (put rows k n) ≡ put (rows_by_number p rows) k x
put_number p x n rows k side = put_map (enclave_of p) rows k n ∙ ap (λ e. put (rows_by_number p rows) k e) (ap (enclave_of p) side ∙ number_same p x)

place_number : (p x : Enclave) (n : Neighbour) → n ≡ side_of p x → place_of n ≡ place_among p x
place_number p x n side = ap place_of side ∙ place_same p x

put_place : (p x : Enclave) (n : Neighbour) (rows : List (ℕ × Neighbour)) → n ≡ side_of p x → rows_by_number p (put rows (place_of n) n) ≡ put (rows_by_number p rows) (place_among p x) x
put_place p x n rows side = put_number p x n rows (place_of n) side ∙ ap (λ k. put (rows_by_number p rows) k x) (place_number p x n side)

less_place : (p x : Enclave) (n : Neighbour) (rows : List (ℕ × Neighbour)) → n ≡ side_of p x → rows_by_number p (less rows (place_of n)) ≡ less (rows_by_number p rows) (place_among p x)
less_place p x n rows side = less_map (enclave_of p) rows (place_of n) ∙ ap (λ k. less (rows_by_number p rows) k) (place_number p x n side)

knows_same : (v : View) (r : RouteView) → knows_way (seen v r) ≡ ways.is_way_known r
knows_same v r = ap (λ b. r.holder || b) (known_same v.core.parent r.way)

-- ---- what each call leaves

asked_view : (v : View) (r : RouteView) (n : Neighbour) (x : Enclave) → n ≡ side_of v.core.parent x
    → seen v (ways.after_asked r n) ≡ (if knows_way (seen v r) then seen v r else own_line Nothing (seen v r) (lines.Asked v.me x))
asked_view v r n x side = rw (knows_same v r) (by (ways.is_way_known r))
  where
    by : (b : Bool) → seen v (if b then r else ways.with_asker r n) ≡ (if b then seen v r else own_line Nothing (seen v r) (lines.Asked v.me x))
    by true = refl
    by false = ap (λ rows. with_ways (seen v r) (record (seen v r).ways { askers = rows })) (put_place v.core.parent x n r.askers side)

told_view : (v : View) (r : RouteView) (n : Neighbour) (x : Enclave) → n ≡ side_of v.core.parent x
    → seen v (ways.after_here r n) ≡ (if knows_way (seen v r) then seen v r else with_way_over (seen v r) x)
told_view v r n x side = rw (knows_same v r) (by (ways.is_way_known r))
  where
    number : enclave_of v.core.parent n ≡ x
    number = ap (enclave_of v.core.parent) side ∙ number_same v.core.parent x

    by : (b : Bool) → seen v (if b then r else ways.with_way r n) ≡ (if b then seen v r else with_way_over (seen v r) x)
    by true = refl
    by false = ap (λ e. with_ways (seen v r) (record (seen v r).ways { way = Some e; askers = rows_by_number v.core.parent (less r.askers (place_of n)) })) number
        ∙ ap (λ rows. with_ways (seen v r) (record (seen v r).ways { way = Some x; askers = rows })) (less_place v.core.parent x n r.askers side)

back_view : (v : View) (r : RouteView) (n : Neighbour) (of x : Enclave) → n ≡ side_of v.core.parent x
    → seen v (ways.with_back r of n) ≡ own_line Nothing (seen v r) (lines.Back v.me of x)
back_view v r n of x side = ap (λ rows. with_ways (seen v r) (record (seen v r).ways { backs = rows })) (put_number v.core.parent x n r.back of.0 side)

learned_view : (v : View) (r : RouteView) (of : Enclave) → seen v (ways.after_learn r of) ≡ with_route_over (seen v r) of (at (rows_by_number v.core.parent r.back) of.0)
learned_view v r of = rw (at_map (enclave_of v.core.parent) r.back of.0) (by (at r.back of.0))
  where
    by : (found : Option Neighbour) → seen v (ways.with_route r of found) ≡ with_route_over (seen v r) of (option_map (enclave_of v.core.parent) found)
    by None = refl
    by (Some n) = ap (λ rows. with_ways (seen v r) (record (seen v r).ways { routes = rows })) (put_map (enclave_of v.core.parent) r.routes of.0 n)

-- ---- the same, where the view was given another form

pub asked_seen : {T E : Type 0} (done : Result T E) (v now : View) (r new : RouteView) (n : Neighbour) (x : Enclave) → v ≡ now → v ≡ seen v r → n ≡ side_of v.core.parent x
    → OnOk done (new ≡ ways.after_asked r n) → OnOk done (seen v new ≡ (if knows_way now then now else own_line Nothing now (lines.Asked now.me x)))
asked_seen (Err e) v now r new n x is sees side after = tt
asked_seen (Ok t) v now r new n x is sees side after = ap (seen v) after ∙ asked_view v r n x side
    ∙ ap (λ w. if knows_way w then w else own_line Nothing w (lines.Asked w.me x)) (sym sees ∙ is)

pub told_seen : (v now : View) (r new : RouteView) (n : Neighbour) (x : Enclave) → v ≡ now → v ≡ seen v r → n ≡ side_of v.core.parent x
    → new ≡ ways.after_here r n → seen v new ≡ (if knows_way now then now else with_way_over now x)
told_seen v now r new n x is sees side after = ap (seen v) after ∙ told_view v r n x side ∙ ap (λ w. if knows_way w then w else with_way_over w x) (sym sees ∙ is)

pub back_seen : {T E : Type 0} (done : Result T E) (v now : View) (r new : RouteView) (n : Neighbour) (of x : Enclave) → v ≡ now → v ≡ seen v r → n ≡ side_of v.core.parent x
    → OnOk done (new ≡ ways.with_back r of n) → OnOk done (seen v new ≡ own_line Nothing now (lines.Back now.me of x))
back_seen (Err e) v now r new n of x is sees side after = tt
back_seen (Ok t) v now r new n of x is sees side after = ap (seen v) after ∙ back_view v r n of x side ∙ ap (λ w. own_line Nothing w (lines.Back w.me of x)) (sym sees ∙ is)

pub learned_seen : (v now : View) (r new : RouteView) (of : Enclave) → v ≡ now → v ≡ seen v r
    → new ≡ ways.after_learn r of → seen v new ≡ with_route_over now of (at now.ways.backs of.0)
learned_seen v now r new of is sees after = ap (seen v) after ∙ learned_view v r of ∙ ap (λ w. with_route_over w of (at w.ways.backs of.0)) (sym sees ∙ is)

-- the way back to an enclave
pub back_at : (v now : View) (r : RouteView) (of : Enclave) (found : Option Neighbour) → v ≡ now → v ≡ seen v r → found ≡ at r.back of.0
    → option_map (enclave_of v.core.parent) found ≡ at now.ways.backs of.0
back_at v now r of found is sees looked =
    ap (option_map (enclave_of v.core.parent)) looked ∙ sym (at_map (enclave_of v.core.parent) r.back of.0) ∙ ap (λ w. at w.ways.backs of.0) (sym sees ∙ is)

-- the neighbour of a way
abbrev pub over_of : Enclave → Way → Option Enclave
over_of p (way_kinds.Over n) = Some (enclave_of p n)
over_of p way = None

-- the way to an enclave
pub way_to_seen : (v now : View) (r : RouteView) (of : Enclave) (found : Way) → v ≡ now → v ≡ seen v r → found ≡ ways.way_toward r of
    → over_of v.core.parent found ≡ way_to now (To of)
way_to_seen v now r of found is sees looked =
    ap (over_of v.core.parent) looked ∙ by (at r.routes of.0) r.holder r.way
    ∙ ap (λ o. route_or o (if r.holder then None else option_map (enclave_of v.core.parent) r.way)) (sym (at_map (enclave_of v.core.parent) r.routes of.0))
    ∙ ap (λ w. way_to w (To of)) (sym sees ∙ is)
  where
    by : (route : Option Neighbour) (holder : Bool) (way : Option Neighbour)
        → over_of v.core.parent (ways.way_along (record r { holder = holder; way = way }) route)
        ≡ route_or (option_map (enclave_of v.core.parent) route) (if holder then None else option_map (enclave_of v.core.parent) way)
    by (Some n) holder way = refl
    by None true way = refl
    by None false None = refl
    by None false (Some n) = refl

-- learned routes
pub next_seen : (v now : View) (r : RouteView) (low : ℕ) (found : Option ℕ) → v ≡ now → v ≡ seen v r → found ≡ next_from r.routes low → found ≡ next_from now.ways.routes low
next_seen v now r low found is sees looked = looked ∙ sym (next_map (enclave_of v.core.parent) r.routes low) ∙ ap (λ w. next_from w.ways.routes low) (sym sees ∙ is)

pub route_at : (v now : View) (r : RouteView) (k : ℕ) (n : Neighbour) (x : Enclave) → v ≡ now → v ≡ seen v r → at r.routes k ≡ Some n → x ≡ enclave_of v.core.parent n
    → at now.ways.routes k ≡ Some x
route_at v now r k n x is sees looked number =
    ap (λ w. at w.ways.routes k) (sym is ∙ sees) ∙ at_map (enclave_of v.core.parent) r.routes k ∙ ap (option_map (enclave_of v.core.parent)) looked ∙ ap Some (sym number)

pub routes_ascend : (v now : View) (r : RouteView) → v ≡ now → v ≡ seen v r → IsAscending r.routes → IsAscending now.ways.routes
routes_ascend v now r is sees ascends = subst (λ (w : View). IsAscending w.ways.routes) (sym sees ∙ is) (ascending_map (enclave_of v.core.parent) r.routes ascends)

pub routes_number : (v now : View) (r : RouteView) → v ≡ now → v ≡ seen v r → AreNumbers r.routes → AreNumbers now.ways.routes
routes_number v now r is sees numbers = subst (λ (w : View). AreNumbers w.ways.routes) (sym sees ∙ is) (numbers_map (enclave_of v.core.parent) r.routes numbers)

-- the next of the learned routes was told
pub route_told : (me of over : Enclave) (routes : List (ℕ × Enclave)) (low : ℕ) (out new all : List Line) → IsAscending routes
    → Some of.0 ≡ next_from routes low → at routes of.0 ≡ Some over → new ≡ out ++ lines.AtRoute me of over ∷ []
    → out ++ learned_lines me (rows_from low routes) ≡ all → new ++ learned_lines me (rows_from (of.0 + 1) routes) ≡ all
route_told me of over routes low out new all ascends next found more told =
    let one = lines.AtRoute me of over ∷ [] in
    let rest = learned_lines me (rows_from (of.0 + 1) routes) in
    ap (λ ls. ls ++ rest) more ∙ append_assoc out one rest
    ∙ ap (λ rows. out ++ learned_lines me rows) (sym (first_of_rows routes low of.0 over ascends next found)) ∙ told

-- ---- the first word of the way

-- the way goes over this neighbour, and none asks for it
abbrev knowing : View → Enclave → View
knowing v from = record v { ways = record v.ways { way = Some from; askers = [] } }

here_is : (hand : Hand) (v told left : View) (from : Enclave) → not (knows_way v) ≡ true → told ≡ (if knows_way v then v else with_way_over v from)
    → left ≡ record told { ways = record told.ways { askers = [] } } → left ≡ own_lines hand v (here_lines v from)
here_is hand v told left from new after last = by (knows_way v) new after
  where
    askers : List (ℕ × Enclave)
    askers = less v.ways.askers (place_among v.core.parent from)

    step : told ≡ with_way_over v from → left ≡ own_lines hand (knowing v from) (told_askers v askers ++ lines.Sent v.me from (register_of v.me) ∷ [])
    step with = last ∙ ap (λ (w : View). record w { ways = record w.ways { askers = [] } }) with ∙ sym (told_kept hand (knowing v from) v askers (lines.Sent v.me from (register_of v.me) ∷ []))

    by : (b : Bool) → not b ≡ true → told ≡ (if b then v else with_way_over v from)
        → left ≡ own_lines hand v (if b then drop_lines v else lines.Way v.me from ∷ told_askers v askers ++ lines.Sent v.me from (register_of v.me) ∷ [])
    by true new with = cc
    by false new with = step with

pub here_seen : {T E : Type 0} (done : Result T E) (v told left : View) (from : Enclave) (first : Bool) → first ≡ true → first ≡ not (knows_way v)
    → told ≡ (if knows_way v then v else with_way_over v from) → left ≡ record told { ways = record told.ways { askers = [] } }
    → OnOk done ((hand : Hand) → left ≡ own_lines hand v (here_lines v from))
here_seen (Err e) v told left from first was is after last = tt
here_seen (Ok t) v told left from first was is after last = λ hand. here_is hand v told left from (sym is ∙ was) after last

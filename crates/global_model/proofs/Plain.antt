-- What an enclave writes and tells is plain.
use Rattle.std.proofs.Common.{◌+◌, ℕ, zero, suc, List, [], ◌∷◌, ◌++◌, length, map, Bool, Option, None, Some, if◌then◌else◌}
use Rattle.std.specs.Prelude.{◌==◌, min}
use Rattle.std.specs.List.{range_with_len}
use Rattle.std.specs.Option.{option_map_or}
use Rattle.xm_num.specs.declared.Enclave.{Enclave}
use Rattle.xemem_language.specs.declared.record.Record.{Record}
use Rattle.xemem_language.specs.declared.line.Line.{Line}
use Rattle.xemem_language.specs.declared.line.Line.TheVariants as lines
use Rattle.global_model.specs.Facts.{Facts, after_line, after_lines}
use Rattle.global_model.specs.Channels.{waiting_in, arriving}
use Rattle.xm_num.specs.declared.Pid.{Pid}
use Rattle.xm_num.specs.declared.Segid.{Segid}
use Rattle.enclave_rules.specs.Core.{host}
use Rattle.enclave_rules.specs.Hand.{Hand}
use Rattle.enclave_rules.specs.Segments.{make_acts, name_rows, remove_acts}
use Rattle.enclave_rules.specs.View.{View}
use Rattle.enclave_rules.specs.Sending.{knows_way}
use Rattle.global_model.specs.Views.{view_of}
use Rattle.enclave_rules.specs.Steps.{query_of, record_lines, child_lines, told_lines, adopt_lines, route_lines, state_lines}
use Rattle.global_model.specs.Due.{got_lines, took_lines, deliver_lines, link_lines, next_rest, first_waiting, settle_end, settle_from}
use Rattle.global_model.specs.Plain.{IsPlain, ArePlain}
use Rattle.global_model.proofs.Tells.{MayTell, tells_told, tells_bytes, tells_end, tells_routes, tells_states}
use Rattle.global_model.proofs.Writes.{EachIs, KnowsNear, MayWrite, each-append, each_either, writes_make, writes_record, writes_remove}

plain-append : (ls ms : List Line) → ArePlain ls → ArePlain ms → ArePlain (ls ++ ms)
plain-append ls ms first more = each-append IsPlain ls ms first more

plain_either : (b : Bool) (ls ms : List Line) → ArePlain ls → ArePlain ms → ArePlain (if b then ls else ms)
plain_either b ls ms left right = each_either IsPlain b ls ms left right

plain_option : {A : Type 0} (f : A → List Line) (found : Option A) (none : List Line)
    → ((x : A) → ArePlain (f x)) → ArePlain none → ArePlain (option_map_or f found none)
plain_option f None none some plain = plain
plain_option f (Some x) none some plain = some x

-- what each of the lines has, each also has where it follows
pub each-weaker : (P Q : Line → Type 0) → ((line : Line) → P line → Q line) → (ls : List Line) → EachIs P ls → EachIs Q ls
each-weaker P Q h [] all = tt
each-weaker P Q h (l ∷ ls) all = (h l all.0, each-weaker P Q h ls all.1)

-- what is told beside records is plain
plain_tells : MayTell IsPlain
plain_tells = record {
  bytes = λ x y at bytes some most. (some, most);
  own = λ e. tt;
  none = λ e. tt;
  way = λ e over. tt;
  route = λ e d over. tt;
  free = λ b. tt;
  lent = λ b e. tt;
  held = λ b e. tt;
}

plain_writes : (v : View) → MayWrite IsPlain (λ x. Unit {0}) (λ sent. Unit {0}) v
plain_writes v = record {
  dropped = tt;
  admitted = tt;
  asked = λ x near. tt;
  way = λ x near. tt;
  back = λ d x near. tt;
  route = λ d x near. tt;
  drew = λ held e call segid range. tt;
  named = λ call segid range. tt;
  unnamed = λ held segid range. tt;
  answered = λ p call segid range. tt;
  sent = λ x sent near good. tt;
}

knows_any : (v : View) → KnowsNear (λ x. Unit {0}) v
knows_any v = record { way = λ x is. tt; askers = λ k d lt. tt; backs = λ k d lt. tt; routes = λ k d lt. tt }

-- what is written for a record, whatever the enclave knows and is sent
plain_record : (v : View) (from : Enclave) (r : Record) → ArePlain (record_lines v from r)
plain_record v from r =
    writes_record IsPlain (λ x. Unit {0}) (λ sent. Unit {0}) v (plain_writes v)
    from r
    (knows_any v)
    tt
    (record { here = tt; register = tt; admit = tt; made = λ m valid. tt; passed = tt })

-- what is written for a make and a remove
pub plain_make : (hand : Hand) (v : View) (p : Pid) → ArePlain (make_acts hand v p)
plain_make hand v p = writes_make IsPlain (λ x. Unit {0}) (λ sent. Unit {0}) v (plain_writes v) (knows_any v) (λ m valid. tt) (λ p call. tt) hand p

pub plain_remove : (v : View) (segid : Segid) → ArePlain (remove_acts v segid)
plain_remove v segid = writes_remove IsPlain (λ x. Unit {0}) (λ sent. Unit {0}) v (plain_writes v) segid tt (knows_any v) (λ m valid. tt)

-- ---- the lines of the commands over channels

plain_got : (G : Facts) (x y : Enclave) (rs : List Record) → ArePlain (got_lines G x y rs)
plain_got G x y [] = tt
plain_got G x y (r ∷ rs) =
    let own = lines.Got x y ∷ record_lines (view_of G y) x r in
    plain-append own (got_lines (after_lines G own) x y rs) (tt, plain_record (view_of G y) x r) (plain_got (after_lines G own) x y rs)

plain_took : (G : Facts) (x y : Enclave) (count : ℕ) → ArePlain (took_lines G x y count)
plain_took G x y count = let H = after_line G (lines.Took x y count) in (tt, plain_got H x y (arriving (H.channel x.0 y.0)))

pub plain_deliver : (G : Facts) (x y : Enclave) (count : ℕ) → ArePlain (deliver_lines G x y count)
plain_deliver G x y count =
    let waiting = length (waiting_in G x.0 y.0) in
    plain_either (waiting == 0) (lines.Idle x y ∷ []) (took_lines G x y (min count waiting)) (tt, tt) (plain_took G x y (min count waiting))

pub plain_settle : (left made : ℕ) (G : Facts) → ArePlain (settle_from left made G)
plain_settle zero made G = (tells_end IsPlain (λ made. tt) (λ made. tt) G made, tt)
plain_settle (suc left) made G =
    plain_option _ (first_waiting G) (settle_end G made ∷ [])
    (λ channel.
    let own = deliver_lines G channel.0 channel.1 (next_rest G channel.0 channel.1) in
    let H = after_lines G own in
    plain-append own (settle_from left (made + 1) H) (plain_deliver G channel.0 channel.1 _) (plain_settle left (made + 1) H))
    (tells_end IsPlain (λ made. tt) (λ made. tt) G made, tt)

pub plain_show : (G : Facts) (x y : Enclave) → ArePlain (link_lines G x y)
plain_show G x y = tells_bytes IsPlain plain_tells x y _ 0 _

-- ---- births

plain_child : (child parent : Enclave) (ns : Bool) → ArePlain (child_lines child parent ns)
plain_child child parent ns = plain_either ns (lines.Admitted child ∷ []) (lines.Sent child parent (query_of child) ∷ []) (tt, tt) (tt, tt)

plain_adopt : (v : View) (child : Enclave) → ArePlain (adopt_lines v child)
plain_adopt v child = plain_either (knows_way v) [] (lines.Sent v.me child (query_of v.me) ∷ []) tt (tt, tt)

-- what follows a birth: the deaths of which the child is told, its own lines, and its parent's
pub plain_birth : (child parent : Enclave) (ns : Bool) (heard : List Enclave) (v : View)
    → ArePlain ((told_lines child heard ++ child_lines child parent ns) ++ adopt_lines v child)
plain_birth child parent ns heard v =
    plain-append (told_lines child heard ++ child_lines child parent ns) (adopt_lines v child)
    (plain-append (told_lines child heard) (child_lines child parent ns) (tells_told IsPlain (λ e d. tt) child heard)
    (plain_child child parent ns))
    (plain_adopt v child)

pub plain_host : (ns : Bool) → ArePlain (if ns then lines.Admitted host ∷ [] else [])
plain_host ns = plain_either ns (lines.Admitted host ∷ []) [] (tt, tt) tt

-- ---- what is shown

pub plain_routes : (v : View) → ArePlain (route_lines v)
plain_routes v = tells_routes IsPlain plain_tells v

pub plain_names : (pairs : List (ℕ × Enclave)) → ArePlain (name_rows pairs)
plain_names [] = tt
plain_names (row ∷ pairs) = (tt, plain_names pairs)

pub plain_pool : (G : Facts) → ArePlain (state_lines 0 (map G.block (range_with_len 0 G.pool)))
plain_pool G = tells_states IsPlain plain_tells 0 (map G.block (range_with_len 0 G.pool))

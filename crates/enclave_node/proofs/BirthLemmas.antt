-- What a child knows once the lines of its birth are written.
use Rattle.std.proofs.Common.{◌≡◌, ◌<◌, ◌≤◌, ℕ, Bool, true, false, List, [], ◌∷◌, ◌++◌, map, refl, sym, ap, ◌∙◌, append-nil, append_assoc, eq-eqb, ne_eqb, arith}
use Rattle.std.specs.Prelude.{◌==◌, nat_lt, Result, Ok, Err, IfOk}
use Rattle.std.specs.List.{AllByRecursion}
use Rattle.std.specs.List.Sorted.{IsStrictlySortedBy}
use Rattle.std.specs.Ordering.{nat_cmp}
use Rattle.std.specs.Cmp.{ranked}
use Rattle.std.specs.declared.cmp.Ordering.TheVariants.{Less}
use Rattle.std.proofs.lemmas.Bool.Decides.{nat_tests}
use Rattle.xm_num.specs.declared.Enclave.{Enclave}
use Rattle.xm_num.specs.declared.Kind.{Kind}
use Rattle.xm_num.specs.declared.Block.{Block}
use Rattle.xm_num.specs.Rows.{put}
use Rattle.xemem_wire.specs.Decoding.{Decoding, nothing_taken}
use Rattle.xemem_language.specs.declared.line.Line.{Line}
use Rattle.xemem_language.specs.declared.line.Line.TheVariants as lines
use Rattle.enclave_rules.specs.Core.{unborn_core, AreDeaths, with_death, as_born}
use Rattle.enclave_rules.specs.Ways.{no_ways}
use Rattle.enclave_rules.specs.Memory.{no_memory}
use Rattle.name_server.specs.Names.{no_names}
use Rattle.enclave_rules.specs.Host.{no_host}
use Rattle.enclave_rules.specs.Hand.{Nothing}
use Rattle.enclave_rules.specs.View.{View, own_lines, born_line, unborn_view}
use Rattle.enclave_rules.specs.Steps.{told_lines, child_lines, birth_lines}
use Rattle.enclave_node.specs.declared.state.Birth.{Birth}
use Rattle.enclave_node.specs.Births.{child_birth, child_told, born_view}
use Rattle.enclave_node.specs.Nodes.{NodeView, born_node, new_node}

-- the view with these deaths
abbrev knowing : View → List Enclave → View
knowing v heard = record v { core = record v.core { heard = heard } }

-- what holds of all numbers holds of that of an item among them
middle : (P : ℕ → Type 0) (front : List Enclave) (d : Enclave) (back : List Enclave) → AllByRecursion P (map (λ e. e.0) (front ++ d ∷ back)) → P d.0
middle P [] d back all = all.0
middle P (x ∷ front) d back all = middle P front d back all.1

-- the place of a death above all others is behind them
behind_all : (heard : List Enclave) (d : Enclave) (back : List Enclave) → AreDeaths (heard ++ d ∷ back) → with_death d heard ≡ heard ++ d ∷ []
unfolding IsStrictlySortedBy
behind_all [] d back ascend = refl
behind_all (x ∷ heard) d back ascend =
    let above : x.0 < d.0 = ranked x.0 d.0 Less (sym (middle (λ q. nat_cmp x.0 q ≡ Less) heard d back ascend.0)) in
    let not_below : nat_lt d.0 x.0 ≡ false = grind (arith, nat_tests) in
    let other : (d.0 == x.0) ≡ false = ne_eqb d.0 x.0 (λ is. omega arith) in
    rw (not_below, other) (ap (λ es. x ∷ es) (behind_all heard d back ascend.1))

-- the deaths that it is told of, which ascend, come behind those that it knows
told : (v : View) (e : Enclave) (known heard : List Enclave) (rest : List Line) → AreDeaths (known ++ heard)
    → own_lines Nothing (knowing v known) (told_lines e heard ++ rest) ≡ own_lines Nothing (knowing v (known ++ heard)) rest
told v e known [] rest ascend = ap (λ es. own_lines Nothing (knowing v es) rest) (sym (append-nil known))
told v e known (d ∷ heard) rest ascend =
    let whole = append_assoc known (d ∷ []) heard in
    ap (λ es. own_lines Nothing (knowing v es) (told_lines e heard ++ rest)) (behind_all known d heard ascend)
    ∙ told v e (known ++ d ∷ []) heard rest (rw whole ascend)
    ∙ ap (λ es. own_lines Nothing (knowing v es) rest) whole

-- a child as the line of its birth leaves it
abbrev new_child : Enclave → Kind → Enclave → List Block → Bool → View
new_child me kind parent blocks holder = record { me = me; core = as_born kind parent holder blocks unborn_core; ways = no_ways; memory = no_memory; exports = []; grants = []; names = no_names; host = no_host }

born : (me : Enclave) (kind : Kind) (parent : Enclave) (blocks : List Block) (holder : Bool) → 1 ≤ me.0
    → born_line (unborn_view 0 me) (lines.Born me kind parent holder blocks) ≡ new_child me kind parent blocks holder
born me kind parent blocks holder child =
    let itself : (me.0 == me.0) ≡ true = eq-eqb me.0 me.0 refl in
    let no_host : (me.0 == 0) ≡ false = ne_eqb me.0 0 (λ is. omega arith) in
    rw (itself, no_host) refl

pub child_view : (me : Enclave) (kind : Kind) (parent : Enclave) (blocks : List Block) (holder : Bool) (heard : List Enclave) → 1 ≤ me.0 → AreDeaths heard
    → own_lines Nothing (unborn_view 0 me) (birth_lines me kind parent blocks holder heard) ≡ born_view (child_birth me kind parent blocks holder heard)
child_view me kind parent blocks holder heard child ascend =
    ap (λ v. own_lines Nothing v (told_lines me heard ++ child_lines me parent holder)) (born me kind parent blocks holder child)
    ∙ told (new_child me kind parent blocks holder) me [] heard (child_lines me parent holder) ascend
    ∙ by holder
  where
    by : (b : Bool) → own_lines Nothing (knowing (new_child me kind parent blocks b) heard) (child_lines me parent b) ≡ born_view (child_birth me kind parent blocks b heard)
    by true = refl
    by false = refl

along : {T E : Type 0} (r : Result T E) (x y : T) → x ≡ y → IfOk r (λ z. z ≡ x) → IfOk r (λ z. z ≡ y)
along (Ok z) x y same is = is ∙ same
along (Err fault) x y same is = tt

-- the node of a child that is born so, where one is made
pub child_made : {E : Type 0} (made : Result NodeView E) (me : Enclave) (kind : Kind) (parent : Enclave) (blocks : List Block) (holder : Bool) (heard : List Enclave) (birth : Birth) (feeds : List (ℕ × Decoding)) (journal : List Line)
    → 1 ≤ me.0 → AreDeaths heard → birth ≡ child_birth me kind parent blocks holder heard → feeds ≡ put [] parent.0 nothing_taken → journal ≡ child_told birth
    → IfOk made (λ node. node ≡ born_node birth feeds journal) → IfOk made (λ node. node ≡ new_node me kind parent blocks holder heard)
unfolding put
child_made made me kind parent blocks holder heard birth feeds journal child ascend is_birth is_feeds is_journal =
    let told : journal ≡ birth_lines me kind parent blocks holder heard = is_journal ∙ ap child_told is_birth in
    along made (born_node birth feeds journal) (new_node me kind parent blocks holder heard) (rw (told, is_birth, is_feeds, child_view me kind parent blocks holder heard child ascend) refl)

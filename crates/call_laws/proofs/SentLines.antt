-- What records under way tell of calls stays true.
use Rattle.std.proofs.Common.{◌≡◌, ℕ, List, [], ◌∷◌, Bool, true, false, cond, ◌&&◌, eqb, None, Some, refl, sym, ◌∙◌, subst}
use Rattle.std.specs.List.{AllByRecursion}
use Rattle.xm_num.specs.declared.Enclave.{Enclave}
use Rattle.xemem_language.specs.declared.record.Record.{Record}
use Rattle.xemem_language.specs.declared.record.Body.{Body}
use Rattle.xemem_language.specs.declared.record.Body.TheVariants as bodies
use Rattle.xemem_language.specs.declared.line.Line.{Line}
use Rattle.xemem_language.specs.declared.line.Line.TheVariants as lines
use Rattle.enclave_rules.specs.Exports.{segid_number}
use Rattle.global_model.specs.Facts.{ChannelFact, facts_at, with_got, with_sent, with_taken}
use Rattle.call_laws.specs.Cells.{CallCell, cells, is_cell, has_drawn, as_issued, as_drawn, as_near, as_answered, as_forgotten, makes}
use Rattle.call_laws.specs.Legal.{CallAt}
use Rattle.call_laws.proofs.CellLines.{new_cell, same_call}
use Rattle.call_laws.proofs.Rows.{all_append, all_more}

-- ---- what records tell

-- the segid was drawn for a call that has ended
pub record IsEnded (c : CallCell) (s : ℕ) : Type 0 where
  pub issued : c.issued ≡ true
  pub drawn : c.drew ≡ Some s
  pub near : c.near ≡ false
  pub waits : c.waits ≡ false

-- a request is for a call that was issued, a name carries the segid that was drawn, and what is to be forgotten has ended
abbrev pub TellsBy : (ℕ → ℕ → CallCell) → Record → Body → Type 0
TellsBy C r bodies.NameReq = ((C r.origin.0 r.call).issued ≡ true) × (r.dest ≡ None)
TellsBy C r (bodies.Named segid) = (d : Enclave) → r.dest ≡ Some d → (C d.0 r.call).drew ≡ Some (segid_number segid)
TellsBy C r (bodies.Unname segid) = IsEnded (C r.origin.0 r.call) (segid_number segid)
TellsBy C r body = Unit {0}

abbrev pub Tells : (ℕ → ℕ → CallCell) → Record → Type 0
Tells C r = TellsBy C r r.body

abbrev pub AreTold : List Line → Type 0
AreTold past = (a b : ℕ) → AllByRecursion (Tells (cells past)) ((facts_at past).channel a b).sent

-- ---- what stays true of a cell

pub record IsLater (c d : CallCell) : Type 0 where
  pub issued : c.issued ≡ true → d.issued ≡ true
  pub drew : (s : ℕ) → c.drew ≡ Some s → d.drew ≡ Some s
  pub near : c.near ≡ false → c.waits ≡ false → d.near ≡ false
  pub waits : c.issued ≡ true → c.waits ≡ false → d.waits ≡ false

later_itself : (c : CallCell) → IsLater c c
later_itself c = record { issued = λ is. is; drew = λ s is. is; near = λ is waits. is; waits = λ issued is. is }

later_cond : (change : CallCell → CallCell) → (t : Bool) (c : CallCell) → (t ≡ true → IsLater c (change c)) → IsLater c (cond t (change c) c)
later_cond change true c later = later refl
later_cond change false c later = later_itself c

-- the cell that a line changes is the call's
own_cell : (P : CallCell → Type 0) (past : List Line) (e k of call : ℕ) → is_cell e k of call ≡ true → P (cells past of call) → P (cells past e k)
own_cell P past e k of call is here =
    let same = same_call e k of call is in
    subst (λ n. P (cells past n k)) (sym same.enclave) (subst (λ n. P (cells past of n)) same.call_is here)

pub later_line : (past : List Line) (line : Line) → CallAt past line → (e k : ℕ) → IsLater (cells past e k) (cells (line ∷ past) e k)
later_line past (lines.Issue of p call) legal e k =
    later_cond (as_issued p.0) (makes (facts_at past).hand && is_cell e k of.0 call.0) (cells past e k) (λ own. record {
      issued = λ is. refl;
      drew = λ s is. is;
      near = λ is waits. is;
      waits = λ issued is. let clash : true ≡ false = sym issued ∙ new_cell past of.0 call.0 legal e k (makes (facts_at past).hand) own in absurd (cc);
    })
later_line past (lines.Drew of call segid) legal e k =
    later_cond (as_drawn (segid_number segid)) (is_cell e k of.0 call.0) (cells past e k)
    (λ is. own_cell (λ c. IsLater c (as_drawn (segid_number segid) c)) past e k of.0 call.0 is (record {
      issued = λ is. is;
      drew = λ s is. let clash : Some s ≡ None = sym is ∙ legal.first in absurd (cc);
      near = λ is waits. is;
      waits = λ issued is. is;
    }))
later_line past (lines.Named of call segid) legal e k =
    later_cond (as_near true) (is_cell e k of.0 call.0) (cells past e k)
    (λ is. own_cell (λ c. IsLater c (as_near true c)) past e k of.0 call.0 is (record {
      issued = λ is. is;
      drew = λ s is. is;
      near = λ is waits. let clash : true ≡ false = sym legal.waits ∙ waits in absurd (cc);
      waits = λ issued is. is;
    }))
later_line past (lines.AnswerSegid of p call segid) legal e k =
    later_cond as_answered (is_cell e k of.0 call.0) (cells past e k)
    (λ is. record { issued = λ is. is; drew = λ s is. is; near = λ is waits. is; waits = λ issued is. refl })
later_line past (lines.Remove of segid) legal e k =
    later_cond (as_near false) (eqb e of.0 && has_drawn (segid_number segid) (cells past e k)) (cells past e k)
    (λ is. record { issued = λ is. is; drew = λ s is. is; near = λ is waits. refl; waits = λ issued is. is })
later_line past (lines.Unnamed segid) legal e k =
    later_cond as_forgotten (has_drawn (segid_number segid) (cells past e k)) (cells past e k)
    (λ is. record { issued = λ is. is; drew = λ s is. is; near = λ is waits. is; waits = λ issued is. is })
later_line past _ legal e k = later_itself (cells past e k)

pub tells_later : (C D : ℕ → ℕ → CallCell) → ((e k : ℕ) → IsLater (C e k) (D e k)) → (r : Record) → Tells C r → Tells D r
tells_later C D later r told = by r.body told
  where
    by : (body : Body) → TellsBy C r body → TellsBy D r body
    by bodies.NameReq told = ((later r.origin.0 r.call).issued told.0, told.1)
    by (bodies.Named segid) told = λ d is. (later d.0 r.call).drew (segid_number segid) (told d is)
    by (bodies.Unname segid) told = record {
      issued = (later r.origin.0 r.call).issued told.issued;
      drawn = (later r.origin.0 r.call).drew (segid_number segid) told.drawn;
      near = (later r.origin.0 r.call).near told.near told.waits;
      waits = (later r.origin.0 r.call).waits told.issued told.waits;
    }
    by _ told = tt

-- ---- line by line

-- a record that is sent tells what is true
abbrev pub SendsTrue : List Line → Line → Type 0
SendsTrue past (lines.Sent x y r) = Tells (cells past) r
SendsTrue past line = Unit {0}

all_later : (past : List Line) (line : Line) → CallAt past line → (rs : List Record) → AllByRecursion (Tells (cells past)) rs
    → AllByRecursion (Tells (cells (line ∷ past))) rs
all_later past line legal rs all = all_more (Tells (cells past)) (Tells (cells (line ∷ past))) rs all
    (λ r told. tells_later (cells past) (cells (line ∷ past)) (later_line past line legal) r told)

pair_sent : (P : List Record → Type 0) (t : Bool) (change : ChannelFact → ChannelFact) (c : ChannelFact) → P (change c).sent → P c.sent → P (cond t (change c) c).sent
pair_sent P true change c new old = new
pair_sent P false change c new old = old

pub told_line : (past : List Line) (line : Line) → CallAt past line → SendsTrue past line → AreTold past → AreTold (line ∷ past)
told_line past (lines.Sent x y r) legal true_of old a b =
    pair_sent (AllByRecursion (Tells (cells past))) (eqb a x.0 && eqb b y.0) (with_sent r) ((facts_at past).channel a b)
    (all_append (Tells (cells past)) ((facts_at past).channel a b).sent (r ∷ []) (old a b) (true_of, tt)) (old a b)
told_line past (lines.Got x y) legal true_of old a b =
    pair_sent (AllByRecursion (Tells (cells past))) (eqb a x.0 && eqb b y.0) with_got ((facts_at past).channel a b) (old a b) (old a b)
told_line past (lines.Took x y count) legal true_of old a b =
    pair_sent (AllByRecursion (Tells (cells past))) (eqb a x.0 && eqb b y.0) (with_taken count) ((facts_at past).channel a b) (old a b) (old a b)
told_line past (lines.Issue e p call) legal true_of old a b = all_later past (lines.Issue e p call) legal ((facts_at past).channel a b).sent (old a b)
told_line past (lines.Drew e call segid) legal true_of old a b = all_later past (lines.Drew e call segid) legal ((facts_at past).channel a b).sent (old a b)
told_line past (lines.Named e call segid) legal true_of old a b = all_later past (lines.Named e call segid) legal ((facts_at past).channel a b).sent (old a b)
told_line past (lines.AnswerSegid e p call segid) legal true_of old a b = all_later past (lines.AnswerSegid e p call segid) legal ((facts_at past).channel a b).sent (old a b)
told_line past (lines.Remove e segid) legal true_of old a b = all_later past (lines.Remove e segid) legal ((facts_at past).channel a b).sent (old a b)
told_line past (lines.Unnamed segid) legal true_of old a b = all_later past (lines.Unnamed segid) legal ((facts_at past).channel a b).sent (old a b)
told_line past _ legal true_of old a b = old a b

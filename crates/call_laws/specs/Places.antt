-- Where a make is: each make has one place, which its cell tells, and that place tells which record of it is under way.
use Rattle.std.specs.Prelude.{◌≡◌, ◌<◌, ◌^◌, ℕ, List, [], ◌∷◌, true, false, if◌then◌else◌, None, Some}
use Rattle.std.specs.List.{AllByRecursion}
use Rattle.xm_num.specs.declared.Enclave.{Enclave}
use Rattle.xm_num.specs.declared.Segid.{Segid}
use Rattle.xm_num.specs.Rows.{at}
use Rattle.xemem_language.specs.declared.line.Line.{Line}
use Rattle.xemem_language.specs.declared.line.Line.TheVariants as lines
use Rattle.xemem_language.specs.declared.record.Record.{Record}
use Rattle.xemem_language.specs.declared.record.Body.{Body}
use Rattle.xemem_language.specs.declared.record.Body.TheVariants as bodies
use Rattle.enclave_rules.specs.Exports.{is_segid, segid_number}
use Rattle.global_model.specs.Facts.{Facts, facts_at}
use Rattle.call_laws.specs.Cells.{CallCell, cells, drawn_in, no_call}
use Rattle.call_laws.specs.Flights.{IsFit, IsNowhere, alone_at, calls_in}
use Rattle.call_laws.specs.One.{IsLiveAt}

-- never issued, or no make; its request is under way, or its name; its segment is live; its name is to be forgotten; it is over
pub data Place : Type 0 where
  Unborn : Place
  Asking : Place
  Answering : Place
  Held : Place
  Undoing : Place
  Done : Place

-- the place of a make, by its cell
abbrev pub place_of : CallCell → Place
place_of c =
    if c.waits then (if c.far then Answering else Asking)
    else (if c.near then Held else (if c.far then Undoing else (if c.issued then Done else Unborn)))

-- one record of the call is under way, in one channel, and it has that body
pub record IsUnderWay (G : Facts) (e k : ℕ) (body : Body) : Type 0 where
  pub from : ℕ
  pub to : ℕ
  pub rec : Record
  pub flight : (a b : ℕ) → calls_in G e k a b ≡ alone_at from to (rec ∷ []) a b
  pub body_is : rec.body ≡ body

-- What the cell is at a place, and what is under way. While a make waits there is a request without a segid, or the name with the segid
-- that was drawn for it. While the segment is live nothing is under way. When it has ended the segid still stands until the record by
-- which it is forgotten has come. A make of the enclave that holds the name server is named at once, and needs no record.
abbrev pub StandsAt : Facts → CallCell → ℕ → ℕ → Place → Type 0
StandsAt G c e k Unborn = (c ≡ no_call) × IsNowhere G e k
StandsAt G c e k Asking = IsFit c true false false None × IsUnderWay G e k bodies.NameReq
StandsAt G c e k Answering = (s : Segid) × IsFit c true false true (Some (segid_number s)) × IsUnderWay G e k (bodies.Named s)
StandsAt G c e k Held = (s : ℕ) × IsFit c false true true (Some s) × IsNowhere G e k
StandsAt G c e k Undoing = (s : Segid) × IsFit c false false true (Some (segid_number s)) × IsUnderWay G e k (bodies.Unname s)
StandsAt G c e k Done = (s : ℕ) × IsFit c false false false (Some s) × IsNowhere G e k

-- each call stands at the place that its cell tells, and one that is no make where nothing is under way
abbrev pub ArePlacedCalls : List Line → Type 0
ArePlacedCalls past = (e k : ℕ) → StandsAt (facts_at past) (cells past e k) e k (place_of (cells past e k))

-- ---- numbers in their ranges

-- A segid is left to be drawn, and the next call's number fits its field. Both counts only rise, so there was room all along. Without
-- it a request is dropped, and its call waits for ever.
pub record HasRoom (past : List Line) : Type 0 where
  pub segids : drawn_in past < 2 ^ 32
  pub calls : (e : ℕ) → ((facts_at past).memory e).issued < 2 ^ 32

-- the segid of a segment that is removed is in its range, as those of commands are
abbrev pub HasSegid : Line → Type 0
HasSegid (lines.Remove e segid) = is_segid segid ≡ true
HasSegid line = Unit {0}

abbrev pub HaveSegids : List Line → Type 0
HaveSegids past = AllByRecursion HasSegid past

-- ---- at rest

-- No call waits, and the name server's names are those of the live segments, each with the enclave that has it.
pub record IsEven (past : List Line) : Type 0 where
  pub waits : (e k : ℕ) → at ((facts_at past).memory e).waiting k ≡ None
  pub named : (e k s : ℕ) → IsLiveAt (facts_at past) e k s
      → at ((facts_at past).names (facts_at past).holder.0).pairs s ≡ Some (record { 0 = e })
  pub lives : (s : ℕ) (of : Enclave) → at ((facts_at past).names (facts_at past).holder.0).pairs s ≡ Some of
      → (k : ℕ) × IsLiveAt (facts_at past) of.0 k s

-- What each line of a make or a remove must meet, by the lines before it.
use Rattle.std.specs.Prelude.{◌≡◌, ◌+◌, ℕ, List, [], true, false, None, Some}
use Rattle.xemem_language.specs.declared.line.Line.{Line}
use Rattle.xemem_language.specs.declared.line.Line.TheVariants as lines
use Rattle.enclave_rules.specs.Exports.{segid_number}
use Rattle.global_model.specs.Facts.{facts_at, runs}
use Rattle.global_model.specs.Journals.{Follows}
use Rattle.call_laws.specs.Cells.{cells, drawn_in, issued_in}

-- a segid is drawn for a make that was issued and has none, and it is the next one
pub record MayDraw (past : List Line) (e k s : ℕ) : Type 0 where
  pub issued : (cells past e k).issued ≡ true
  pub first : (cells past e k).drew ≡ None
  pub next : s ≡ drawn_in past + 1

-- the segment of a make is live once its segid was drawn, while the make waits and its process lives
pub record MayName (past : List Line) (e k s : ℕ) : Type 0 where
  pub waits : (cells past e k).waits ≡ true
  pub process : runs (facts_at past) e (cells past e k).process ≡ true
  pub drawn : (cells past e k).drew ≡ Some s

-- a segid that was drawn and not forgotten is forgotten once no make for which it was drawn waits or has a live segment
pub record MayForget (past : List Line) (s : ℕ) : Type 0 where
  pub enclave : ℕ
  pub call : ℕ
  pub drawn : (cells past enclave call).drew ≡ Some s
  pub stands : (cells past enclave call).far ≡ true
  pub ended : (e k : ℕ) → (cells past e k).drew ≡ Some s → ((cells past e k).near ≡ false) × ((cells past e k).waits ≡ false)

-- a live segment of the enclave ends
pub record MayRemove (past : List Line) (e s : ℕ) : Type 0 where
  pub call : ℕ
  pub drawn : (cells past e call).drew ≡ Some s
  pub live : (cells past e call).near ≡ true

-- a make that waits is answered to its process once its segment is live
pub record MayAnswer (past : List Line) (e p k s : ℕ) : Type 0 where
  pub waits : (cells past e k).waits ≡ true
  pub process : (cells past e k).process ≡ p
  pub named : (cells past e k).near ≡ true
  pub drawn : (cells past e k).drew ≡ Some s

-- the number of a call that is issued is new, among those of all calls of its enclave
abbrev pub CallAt : List Line → Line → Type 0
CallAt past (lines.Issue e p call) = issued_in past e.0 call.0 ≡ false
CallAt past (lines.Drew e call segid) = MayDraw past e.0 call.0 (segid_number segid)
CallAt past (lines.Named e call segid) = MayName past e.0 call.0 (segid_number segid)
CallAt past (lines.Unnamed segid) = MayForget past (segid_number segid)
CallAt past (lines.Remove e segid) = MayRemove past e.0 (segid_number segid)
CallAt past (lines.AnswerSegid e p call segid) = MayAnswer past e.0 p.0 call.0 (segid_number segid)
CallAt past line = Unit {0}

abbrev pub AreCalls : List Line → Type 0
AreCalls journal = Follows CallAt [] journal

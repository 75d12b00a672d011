-- The records of calls that are under way.
use Rattle.std.specs.Prelude.{◌≡◌, ◌⊎◌, ◌==◌, ◌&&◌, ℕ, List, [], ◌∷◌, filter, Bool, true, false, if◌then◌else◌, Option, None, Some}
use Rattle.std.specs.Option.{option_map_or}
use Rattle.xemem_language.specs.declared.line.Line.{Line}
use Rattle.xemem_language.specs.declared.record.Record.{Record}
use Rattle.xemem_language.specs.declared.record.Body.{Body}
use Rattle.xemem_language.specs.declared.record.Body.TheVariants as bodies
use Rattle.enclave_rules.specs.Exports.{segid_number}
use Rattle.global_model.specs.Facts.{Facts, facts_at}
use Rattle.discovery_laws.specs.Known.{in_flight}
use Rattle.call_laws.specs.Cells.{CallCell, cells}

-- a request and what is to be forgotten are of the call of their origin, and a name is of that of the enclave to which it goes
abbrev pub is_of_by : ℕ → ℕ → Record → Body → Bool
is_of_by e k r bodies.NameReq = (r.origin.0 == e) && (r.call == k)
is_of_by e k r (bodies.Named segid) = option_map_or (λ d. d.0 == e) r.dest false && (r.call == k)
is_of_by e k r (bodies.Unname segid) = (r.origin.0 == e) && (r.call == k)
is_of_by e k r body = false

-- the record is of that call
abbrev pub is_of : ℕ → ℕ → Record → Bool
is_of e k r = is_of_by e k r r.body

-- those of them that are under way from one enclave to another
abbrev pub calls_in : Facts → ℕ → ℕ → ℕ → ℕ → List Record
calls_in G e k a b = filter (is_of e k) (in_flight G a b)

-- the records rs under way from x to y, and none elsewhere
abbrev pub alone_at : ℕ → ℕ → List Record → ℕ → ℕ → List Record
alone_at x y rs a b = if (a == x) && (b == y) then rs else []

-- ---- what a record under way says of its call

pub record IsFit (c : CallCell) (waits near far : Bool) (drew : Option ℕ) : Type 0 where
  pub waits_is : c.waits ≡ waits
  pub near_is : c.near ≡ near
  pub far_is : c.far ≡ far
  pub drew_is : c.drew ≡ drew

-- A call whose request is under way waits, and has no segid. One whose name is under way waits, and has that segid, which stands at
-- the name server. One whose segid is to be forgotten has ended, and the segid still stands.
abbrev pub FitsBy : CallCell → Body → Type 0
FitsBy c bodies.NameReq = IsFit c true false false None
FitsBy c (bodies.Named segid) = IsFit c true false true (Some (segid_number segid))
FitsBy c (bodies.Unname segid) = IsFit c false false true (Some (segid_number segid))
FitsBy c body = ⊥

abbrev pub IsNowhere : Facts → ℕ → ℕ → Type 0
IsNowhere G e k = (a b : ℕ) → calls_in G e k a b ≡ []

pub record IsBetween (G : Facts) (c : CallCell) (e k : ℕ) : Type 0 where
  pub from : ℕ
  pub to : ℕ
  pub rec : Record
  pub flight : (a b : ℕ) → calls_in G e k a b ≡ alone_at from to (rec ∷ []) a b
  pub fits : FitsBy c rec.body

-- no record of the call is under way, or one is, in one channel, that its cell fits
abbrev pub IsSingle : List Line → ℕ → ℕ → Type 0
IsSingle past e k = IsNowhere (facts_at past) e k ⊎ IsBetween (facts_at past) (cells past e k) e k

-- each call has at most one; and a live segment stands at the name server
pub record AreSingle (past : List Line) : Type 0 where
  pub single : (e k : ℕ) → IsSingle past e k
  pub stands : (e k : ℕ) → (cells past e k).near ≡ true → (cells past e k).far ≡ true

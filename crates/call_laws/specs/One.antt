-- Segids are one: no two live segments have the same. And what cells say is what the facts say.
use Rattle.std.specs.Prelude.{◌≡◌, ◌≤◌, ℕ, List, Bool, true, false, Option, Some}
use Rattle.std.specs.Option.{option_map_or}
use Rattle.xm_num.specs.Rows.{at}
use Rattle.xm_num.specs.declared.Enclave.{Enclave}
use Rattle.xemem_language.specs.declared.line.Line.{Line}
use Rattle.attach_map.specs.declared.Waiting.{Waiting}
use Rattle.exporter_pins.specs.Holdings.{Export}
use Rattle.enclave_rules.specs.Segments.{is_make}
use Rattle.global_model.specs.Facts.{Facts, facts_at}
use Rattle.call_laws.specs.Cells.{CallCell, cells, drawn_in}

-- the segment of the call is live under that segid
pub record IsLiveAt (G : Facts) (e k s : ℕ) : Type 0 where
  pub export : Export
  pub stands : at (G.exports e) k ≡ Some export
  pub segid : export.segid ≡ Some s

abbrev pub AreSegidsOne : Facts → Type 0
AreSegidsOne G = (e k e' k' s : ℕ) → IsLiveAt G e k s → IsLiveAt G e' k' s → (e ≡ e') × (k ≡ k')

-- a segid stands at the name server for a call of that enclave
pub record IsPair (C : ℕ → ℕ → CallCell) (s e : ℕ) : Type 0 where
  pub call : ℕ
  pub drawn : (C e call).drew ≡ Some s
  pub stands : (C e call).far ≡ true

-- a make waits there
abbrev pub waits_as_make : Option Waiting → Bool
waits_as_make row = option_map_or (λ w. is_make w.what) row false

-- A make waits exactly where its cell does. Live segments are exactly those of the makes whose cells are near, and names those of the
-- makes whose cells are far. Segids were drawn upwards, each for one make.
pub record AreCellsTrue (past : List Line) : Type 0 where
  pub waits : (e k : ℕ) → waits_as_make (at ((facts_at past).memory e).waiting k) ≡ (cells past e k).waits
  pub near : (e k s : ℕ) → IsLiveAt (facts_at past) e k s → (cells past e k).near ≡ true
  pub name : (e k s : ℕ) → IsLiveAt (facts_at past) e k s → (cells past e k).drew ≡ Some s
  pub far : (e s : ℕ) (of : Enclave) → at ((facts_at past).names e).pairs s ≡ Some of → IsPair (cells past) s of.0
  pub stands : (e k s : ℕ) → (cells past e k).drew ≡ Some s → (cells past e k).far ≡ true
      → at ((facts_at past).names (facts_at past).holder.0).pairs s ≡ Some (record { 0 = e })
  pub live : (e k s : ℕ) → (cells past e k).drew ≡ Some s → (cells past e k).near ≡ true → IsLiveAt (facts_at past) e k s
  pub drawn : (e k s : ℕ) → (cells past e k).drew ≡ Some s → (1 ≤ s) × (s ≤ drawn_in past)
  pub one : (e k e' k' s : ℕ) → (cells past e k).drew ≡ Some s → (cells past e' k').drew ≡ Some s → (e ≡ e') × (k ≡ k')

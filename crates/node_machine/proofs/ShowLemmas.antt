-- What a node has to be shown.
use Rattle.std.proofs.Common.{◌≡◌, refl, ap, ◌∙◌}
use Rattle.xm_num.specs.declared.Enclave.{Enclave}
use Rattle.xemem_language.specs.declared.call.Show.{Show}
use Rattle.xemem_language.specs.declared.call.Show.TheVariants as shows
use Rattle.xemem_language.specs.Calls.{IsShownOf}
use Rattle.enclave_rules.specs.View.{View}
use Rattle.enclave_rules.specs.Calls.{HasShown}

-- the routes of each enclave, and the pool of the host; names aren't asked of an enclave that a command names
pub has_shown : (v : View) (e : Enclave) (what : Show) → v.me ≡ e → IsShownOf e what → (what ≡ shows.Names → ⊥) → HasShown v what
has_shown v e shows.Routes me host other = tt
has_shown v e shows.Pool me host other = ap (λ (e : Enclave). e.0) me ∙ host
has_shown v e shows.Names me host other = absurd (other refl)

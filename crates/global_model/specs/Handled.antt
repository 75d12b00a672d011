-- What lines, and the records that arrive at an enclave, leave of the views.
use Rattle.std.specs.Prelude.{◌≡◌, ◌≢◌, List, ◌∷◌, true}
use Rattle.xm_num.specs.declared.Enclave.{Enclave}
use Rattle.enclave_rules.specs.View.{View}
use Rattle.enclave_rules.specs.Steps.{lines_of_records, after_records}
use Rattle.global_model.specs.Channels.{arriving}
use Rattle.global_model.specs.Due.{got_lines}
use Rattle.global_model.specs.Facts.{Facts, facts_at, is_living_enclave}
use Rattle.global_model.specs.Views.{view_of, seen_line, seen_lines}
use Rattle.xemem_language.specs.declared.line.Line.{Line}

-- The enclave at the end of the channel answers the records that arrive by its view alone. That changes its view, record by
-- record, and no other's.
pub record AreHandled (G : Facts) (x y : Enclave) : Type 0 where
  pub lines : got_lines G x y (arriving (G.channel x.0 y.0)) ≡ lines_of_records (view_of G y) x (arriving (G.channel x.0 y.0))
  pub own : seen_lines G (view_of G y) (got_lines G x y (arriving (G.channel x.0 y.0))) ≡ after_records (view_of G y) x (arriving (G.channel x.0 y.0))
  pub others : (w : View) → w.me.0 ≢ y.0 → seen_lines G w (got_lines G x y (arriving (G.channel x.0 y.0))) ≡ w

-- line by line: the view of an enclave that lives after a line is its view before, but for what the line changes where it is at it
abbrev pub SeenAt : List Line → Line → Type 0
SeenAt past line = (e : Enclave) → is_living_enclave ((facts_at (line ∷ past)).enclave e.0) ≡ true
    → view_of (facts_at (line ∷ past)) e ≡ seen_line (facts_at past) (view_of (facts_at past) e) line

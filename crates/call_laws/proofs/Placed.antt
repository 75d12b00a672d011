-- At every pause each call has its place.
use Rattle.std.proofs.Common.{◌≡◌, ℕ, List, [], ◌∷◌, Bool, true, false, cond, Option, None, Some, is_some, inl, inr, refl, sym, ap, ◌∙◌, subst, arith}
use Rattle.std.proofs.lemmas.Int.{ints}
use Rattle.std.specs.Prelude.{ℤ, pos, negsuc}
use Rattle.std.proofs.lemmas.Bool.{le-leb}
use Rattle.xm_num.specs.declared.Segid.{Segid}
use Rattle.xemem_language.specs.declared.command.Command.{Command}
use Rattle.xemem_language.specs.declared.line.Line.{Line}
use Rattle.xemem_language.specs.declared.line.Line.TheVariants as lines
use Rattle.xemem_language.specs.declared.record.Body.{Body}
use Rattle.xemem_language.specs.declared.record.Body.TheVariants as bodies
use Rattle.xemem_language.specs.Ranges.{IsName}
use Rattle.enclave_rules.specs.Exports.{fits_signed, is_segid}
use Rattle.global_model.specs.Apt.{AptAt}
use Rattle.global_model.specs.Due.{journal_of}
use Rattle.global_model.specs.Facts.{Facts, facts_at, no_facts}
use Rattle.global_model.specs.Journals.{Follows, onto}
use Rattle.global_model.specs.Pauses.{AreSteps, Step, written_in}
use Rattle.global_model.specs.Place.{IsPlaced}
use Rattle.call_laws.specs.Cells.{CallCell, cells}
use Rattle.call_laws.specs.Flights.{FitsBy, IsBetween, IsNowhere, IsSingle}
use Rattle.call_laws.specs.Laws.{CallLaws}
use Rattle.call_laws.specs.Places.{HaveSegids, ArePlacedCalls, Answering, Asking, Done, HasRoom, Held, HasSegid, Place, StandsAt, Unborn, Undoing, place_of}
use Rattle.call_laws.proofs.Idle.{IsIdleCell}
use Rattle.call_laws.proofs.Idles.{IsSound, journal_of-sound, steps_sound}

-- ---- places

-- the place where these tests come out so
abbrev pub place_by : Bool → Bool → Bool → Bool → Place
place_by waits far near issued = cond waits (cond far Answering Asking) (cond near Held (cond far Undoing (cond issued Done Unborn)))

some_of : (o : Option ℕ) → is_some o ≡ true → (s : ℕ) × (o ≡ Some s)
some_of None is = cc
some_of (Some s) is = (s, refl)

module _ (past : List Line) (sound : IsSound past) (e k : ℕ) where
  abbrev pub G : Facts
  G = facts_at past

  abbrev pub c : CallCell
  c = cells past e k

  place_is : (waits near far : Bool) → c.waits ≡ waits → c.near ≡ near → c.far ≡ far → place_of c ≡ place_by waits far near c.issued
  place_is waits near far w n f = λ i. place_by (w i) (f i) (n i) c.issued

  placed_between : IsBetween G c e k → StandsAt G c e k (place_of c)
  placed_between one = by one.rec.body refl one.fits
    where
      by : (body : Body) → one.rec.body ≡ body → FitsBy c body → StandsAt G c e k (place_of c)
      by bodies.NameReq is fit = subst (StandsAt G c e k) (sym (place_is true false false fit.waits_is fit.near_is fit.far_is))
          (fit, record { from = one.from; to = one.to; rec = one.rec; flight = one.flight; body_is = is })
      by (bodies.Named segid) is fit = subst (StandsAt G c e k) (sym (place_is true false true fit.waits_is fit.near_is fit.far_is))
          (segid, fit, record { from = one.from; to = one.to; rec = one.rec; flight = one.flight; body_is = is })
      by (bodies.Unname segid) is fit = subst (StandsAt G c e k) (sym (place_is false false true fit.waits_is fit.near_is fit.far_is))
          (segid, fit, record { from = one.from; to = one.to; rec = one.rec; flight = one.flight; body_is = is })
      by _ is fit = absurd fit

  drew_of : c.issued ≡ true → c.waits ≡ false → (s : ℕ) × (c.drew ≡ Some s)
  drew_of issued waits = some_of c.drew (sound.numbered.settled e k issued waits)

  placed_idle : IsNowhere G e k → IsIdleCell c → StandsAt G c e k (place_of c)
  placed_idle none idle = by c.near refl c.issued refl
    where
      by : (near : Bool) → c.near ≡ near → (issued : Bool) → c.issued ≡ issued → StandsAt G c e k (place_of c)
      by true near true issued =
          let drew = drew_of issued idle.waits in
          subst (StandsAt G c e k) (sym (place_is false true true idle.waits near (idle.even ∙ near)))
          (drew.0, record { waits_is = idle.waits; near_is = near; far_is = idle.even ∙ near; drew_is = drew.1 }, none)
      by true near false issued = absurd (let clash : true ≡ false = sym near ∙ ap (λ c. c.near) (sound.at_pause.tied.blank e k issued) in cc)
      by false near true issued =
          let drew = drew_of issued idle.waits in
          subst (StandsAt G c e k) (sym (place_is false false false idle.waits near (idle.even ∙ near) ∙ ap (place_by false false false) issued))
          (drew.0, record { waits_is = idle.waits; near_is = near; far_is = idle.even ∙ near; drew_is = drew.1 }, none)
      by false near false issued =
          subst (StandsAt G c e k) (sym (place_is false false false idle.waits near (idle.even ∙ near) ∙ ap (place_by false false false) issued))
          (sound.at_pause.tied.blank e k issued, none)

  placed_call : (IsNowhere G e k → IsIdleCell c) → IsSingle past e k → StandsAt G c e k (place_of c)
  placed_call idle (inl none) = placed_idle none (idle none)
  placed_call idle (inr one) = placed_between one

pub sound_placed : (past : List Line) → IsSound past → HasRoom past → HaveSegids past → ArePlacedCalls past
sound_placed past sound room named e k = placed_call past sound e k (sound.idle room named e k) (sound.at_pause.tied.only.only e k)

-- ---- commands have segids in their range

in_range : (segid : Segid) → IsName segid.0 → is_segid segid ≡ true
in_range segid is = by segid.0 is
  where
    by : (z : ℤ) → IsName z → fits_signed z ≡ true
    by (pos n) is = let most = is.1 in le-leb n 9223372036854775807 (omega (arith, ints, most))
    by (negsuc n) is = absurd (let least = is.0 in omega (arith, ints, least))

apt_named : (past : List Line) (line : Line) → AptAt past line → HasSegid line
apt_named past (lines.Remove e segid) apt = in_range segid apt.range
apt_named past _ apt = tt

apt_names : (past ls : List Line) → Follows AptAt past ls → HaveSegids past → HaveSegids (onto ls past)
apt_names past [] apt old = old
apt_names past (l ∷ ls) apt old = apt_names (l ∷ past) ls apt.1 (apt_named past l apt.0, old)

pub journal_of-named : (laws : CallLaws) (commands : List Command) → IsPlaced commands → HaveSegids (onto (journal_of commands) [])
journal_of-named laws commands placed = apt_names [] (journal_of commands) (laws.apt commands placed) tt

pub journal_of-placed : (laws : CallLaws) (commands : List Command) → IsPlaced commands → HasRoom (onto (journal_of commands) []) → ArePlacedCalls (onto (journal_of commands) [])
journal_of-placed laws commands placed room =
    sound_placed (onto (journal_of commands) []) (journal_of-sound laws commands placed) room (journal_of-named laws commands placed)

pub steps_placed : (laws : CallLaws) (steps : List Step) → AreSteps no_facts steps → HasRoom (onto (written_in no_facts steps) []) → HaveSegids (onto (written_in no_facts steps) [])
    → ArePlacedCalls (onto (written_in no_facts steps) [])
steps_placed laws steps are room named = sound_placed (onto (written_in no_facts steps) []) (steps_sound laws steps are) room named

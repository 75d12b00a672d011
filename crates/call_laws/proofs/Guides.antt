-- Along every step the ways of those that are admitted are known.
use Rattle.std.proofs.Common.{◌≡◌, ℕ, List, [], ◌∷◌, Bool, true, false, cond, ◌&&◌, eqb, Some, refl, sym, ap, ◌∙◌, subst}
use Rattle.std.specs.List.{AllByRecursion}
use Rattle.std.proofs.lemmas.Bool.{eqb-true, and_parts}
use Rattle.xm_num.specs.declared.Enclave.{Enclave}
use Rattle.xm_num.specs.Rows.{at}
use Rattle.xm_num.specs.RowLaws.{RowLaws}
use Rattle.xemem_language.specs.declared.command.Command.TheVariants as commands
use Rattle.xemem_language.specs.declared.line.Line.{Line}
use Rattle.xemem_language.specs.declared.line.Line.TheVariants as lines
use Rattle.enclave_rules.specs.Ways.{WaysView}
use Rattle.global_model.specs.Facts.{ChannelFact, EnclaveFact, Facts, after_line, after_lines, as_admitted, at_number, is_admitted, with_got, with_sent, with_taken}
use Rattle.discovery_laws.specs.Known.{back_at, is_admitted_at, knows, way_at}
use Rattle.call_laws.specs.Laws.{TreePaths}
use Rattle.call_laws.specs.Roads.{IsReachable}
use Rattle.call_laws.proofs.Rows.{all_append, all_more}
use Rattle.call_laws.proofs.Roads.{AnswersTo, AreRoads, GuidesAt, IsMore, Leads, answers_more, leads_more, more-refl, more-trans, more_line, road_more}

-- ---- a line keeps what is known

-- where neither ways, deaths, channels nor enclaves change
kept_roads : (G H : Facts) → IsMore G H → ((a b : ℕ) → AllByRecursion (Leads H a b) (H.channel a b).sent) → ((a d : ℕ) (x : Enclave) → back_at H a d ≡ Some x → AnswersTo H d x.0)
    → ((a : ℕ) (x : Enclave) → way_at H a ≡ Some x → knows H x.0 ≡ true) → ((d : ℕ) → is_admitted_at H d ≡ true → IsReachable H d) → ((e : ℕ) → H.heard e ≡ G.heard e)
    → AreRoads G → AreRoads H
kept_roads G H more tells backs ways ready heard old = record { tells = tells; backs = backs; ways = ways; ready = ready; quiet = λ e. heard e ∙ old.quiet e }

tells_more : (G H : Facts) → IsMore G H → AreRoads G → (a b : ℕ) → (H.channel a b).sent ≡ (G.channel a b).sent → AllByRecursion (Leads H a b) (H.channel a b).sent
tells_more G H more old a b same =
    subst (AllByRecursion (Leads H a b)) (sym same) (all_more (Leads G a b) (Leads H a b) (G.channel a b).sent (old.tells a b) (λ r leads. leads_more G H more a b r leads))

backs_more : (G H : Facts) → IsMore G H → AreRoads G → (a d : ℕ) (x : Enclave) → back_at H a d ≡ back_at G a d → back_at H a d ≡ Some x → AnswersTo H d x.0
backs_more G H more old a d x same is = answers_more G H more d x.0 (old.backs a d x (sym same ∙ is))

ready_more : (G H : Facts) → IsMore G H → AreRoads G → (d : ℕ) → is_admitted_at G d ≡ true → IsReachable H d
ready_more G H more old d is = record { road = road_more G H more d d (old.ready d is).road; knowing = more.knowing d (old.ready d is).knowing }

-- all but one thing is as before
same_roads : (G H : Facts) → IsMore G H → ((a b : ℕ) → (H.channel a b).sent ≡ (G.channel a b).sent) → ((a : ℕ) → H.ways a ≡ G.ways a)
    → ((d : ℕ) → is_admitted_at H d ≡ true → is_admitted_at G d ≡ true) → ((e : ℕ) → H.heard e ≡ G.heard e) → AreRoads G → AreRoads H
same_roads G H more sents ways admitted heard old =
    kept_roads G H more (λ a b. tells_more G H more old a b (sents a b)) (λ a d x is. backs_more G H more old a d x (ap (λ w. at w.backs d) (ways a)) is)
    (λ a x is. more.knowing x.0 (old.ways a x (ap (λ w. w.way) (sym (ways a)) ∙ is))) (λ d is. ready_more G H more old d (admitted d is)) heard old

-- what holds of the ways of one enclave, that change, and of the others
ways_at : (G : Facts) (e : ℕ) (w : WaysView) (P : ℕ → WaysView → Type 0) (a : ℕ) → P e w → P a (G.ways a) → P a (at_number e w G.ways a)
ways_at G e w P a here there = by (eqb a e) refl
  where
    by : (t : Bool) → eqb a e ≡ t → P a (cond t w (G.ways a))
    by true is = subst (λ n. P n w) (sym (eqb-true a e is)) here
    by false is = there

pub pair_sents : (t : Bool) (change : ChannelFact → ChannelFact) (c : ChannelFact) → ((c : ChannelFact) → (change c).sent ≡ c.sent) → (cond t (change c) c).sent ≡ c.sent
pair_sents true change c same = same c
pair_sents false change c same = refl

not_admitted : (G : Facts) (e : ℕ) (fact : EnclaveFact) → fact.admitted ≡ false → (d : ℕ) → is_admitted (at_number e (Some fact) G.enclave d) ≡ true → is_admitted_at G d ≡ true
not_admitted G e fact none d = by (eqb d e)
  where
    by : (t : Bool) → is_admitted (cond t (Some fact) (G.enclave d)) ≡ true → is_admitted_at G d ≡ true
    by true is = let clash : false ≡ true = sym none ∙ is in absurd (cc)
    by false is = is

pub roads_line : RowLaws Enclave → TreePaths → (G : Facts) (line : Line) → GuidesAt G line → AreRoads G → AreRoads (after_line G line)
roads_line rows laws G (lines.Born e kind parent ns blocks) guides old =
    same_roads G _ (more_line laws G (lines.Born e kind parent ns blocks) guides) (λ a b. refl) (λ a. refl)
    (not_admitted G e.0 (record { kind = kind; parent = parent; blocks = blocks; ns = ns; living = true; admitted = false }) refl) (λ e. refl) old
roads_line rows laws G (lines.Told e dead) guides old = absurd guides
roads_line rows laws G (lines.Heard e dead) guides old = absurd guides
roads_line rows laws G (lines.Admitted e) guides old =
    let H = after_line G (lines.Admitted e) in
    let more = more_line laws G (lines.Admitted e) guides in
    kept_roads G H more (λ a b. tells_more G H more old a b refl) (λ a d x is. backs_more G H more old a d x refl is) (λ a x is. more.knowing x.0 (old.ways a x is))
    (λ d is. by d (eqb d e.0) refl is) (λ e. refl) old
  where
    by : (d : ℕ) (t : Bool) → eqb d e.0 ≡ t → is_admitted (cond t (as_admitted (G.enclave e.0)) (G.enclave d)) ≡ true → IsReachable (after_line G (lines.Admitted e)) d
    by d true here is =
        let more = more_line laws G (lines.Admitted e) guides in
        subst (IsReachable (after_line G (lines.Admitted e))) (sym (eqb-true d e.0 here))
        (record { road = road_more G (after_line G (lines.Admitted e)) more e.0 e.0 guides.road; knowing = more.knowing e.0 guides.knowing })
    by d false there is = ready_more G (after_line G (lines.Admitted e)) (more_line laws G (lines.Admitted e) guides) old d is
roads_line rows laws G (lines.Asked e by) guides old =
    let H = after_line G (lines.Asked e by) in
    let more = more_line laws G (lines.Asked e by) guides in
    kept_roads G H more (λ a b. tells_more G H more old a b refl)
    (λ a d x. ways_at G e.0 _ (λ a w. at w.backs d ≡ Some x → AnswersTo H d x.0) a (λ is. answers_more G H more d x.0 (old.backs e.0 d x is)) (λ is. answers_more G H more d x.0 (old.backs a d x is)))
    (λ a x. ways_at G e.0 _ (λ a w. w.way ≡ Some x → knows H x.0 ≡ true) a (λ is. more.knowing x.0 (old.ways e.0 x is)) (λ is. more.knowing x.0 (old.ways a x is)))
    (λ d is. ready_more G H more old d is) (λ e. refl) old
roads_line rows laws G (lines.Way e over) guides old =
    let H = after_line G (lines.Way e over) in
    let more = more_line laws G (lines.Way e over) guides in
    kept_roads G H more (λ a b. tells_more G H more old a b refl)
    (λ a d x. ways_at G e.0 _ (λ a w. at w.backs d ≡ Some x → AnswersTo H d x.0) a (λ is. answers_more G H more d x.0 (old.backs e.0 d x is)) (λ is. answers_more G H more d x.0 (old.backs a d x is)))
    (λ a x. ways_at G e.0 _ (λ a w. w.way ≡ Some x → knows H x.0 ≡ true) a
    (λ is. let same : over ≡ x = cc in more.knowing x.0 (subst (λ (o : Enclave). knows G o.0 ≡ true) same guides)) (λ is. more.knowing x.0 (old.ways a x is)))
    (λ d is. ready_more G H more old d is) (λ e. refl) old
roads_line rows laws G (lines.Back e of over) guides old =
    let H = after_line G (lines.Back e of over) in
    let more = more_line laws G (lines.Back e of over) guides in
    kept_roads G H more (λ a b. tells_more G H more old a b refl)
    (λ a d x. ways_at G e.0 _ (λ a w. at w.backs d ≡ Some x → AnswersTo H d x.0) a
    (λ is. put_back d x (eqb of.0 d) refl (sym (rows.put_at (G.ways e.0).backs of.0 d over) ∙ is)) (λ is. answers_more G H more d x.0 (old.backs a d x is)))
    (λ a x. ways_at G e.0 _ (λ a w. w.way ≡ Some x → knows H x.0 ≡ true) a (λ is. more.knowing x.0 (old.ways e.0 x is)) (λ is. more.knowing x.0 (old.ways a x is)))
    (λ d is. ready_more G H more old d is) (λ e. refl) old
  where
    put_back : (d : ℕ) (x : Enclave) (t : Bool) → eqb of.0 d ≡ t → cond t (Some over) (at (G.ways e.0).backs d) ≡ Some x → AnswersTo (after_line G (lines.Back e of over)) d x.0
    put_back d x true here is =
        let same : over ≡ x = cc in
        subst (λ n. AnswersTo (after_line G (lines.Back e of over)) n x.0) (eqb-true of.0 d here)
        (answers_more G (after_line G (lines.Back e of over)) (more_line laws G (lines.Back e of over) guides) of.0 x.0
        (subst (λ (o : Enclave). AnswersTo G of.0 o.0) same guides))
    put_back d x false there is =
        answers_more G (after_line G (lines.Back e of over)) (more_line laws G (lines.Back e of over) guides) d x.0 (old.backs e.0 d x is)
roads_line rows laws G (lines.Route e of over) guides old =
    let H = after_line G (lines.Route e of over) in
    let more = more_line laws G (lines.Route e of over) guides in
    kept_roads G H more (λ a b. tells_more G H more old a b refl)
    (λ a d x. ways_at G e.0 _ (λ a w. at w.backs d ≡ Some x → AnswersTo H d x.0) a (λ is. answers_more G H more d x.0 (old.backs e.0 d x is)) (λ is. answers_more G H more d x.0 (old.backs a d x is)))
    (λ a x. ways_at G e.0 _ (λ a w. w.way ≡ Some x → knows H x.0 ≡ true) a (λ is. more.knowing x.0 (old.ways e.0 x is)) (λ is. more.knowing x.0 (old.ways a x is)))
    (λ d is. ready_more G H more old d is) (λ e. refl) old
roads_line rows laws G (lines.Sent x y r) guides old =
    let H = after_line G (lines.Sent x y r) in
    let more = more_line laws G (lines.Sent x y r) guides in
    kept_roads G H more (λ a b. by a b (eqb a x.0 && eqb b y.0) refl) (λ a d z is. backs_more G H more old a d z refl is) (λ a z is. more.knowing z.0 (old.ways a z is))
    (λ d is. ready_more G H more old d is) (λ e. refl) old
  where
    H : Facts
    H = after_line G (lines.Sent x y r)

    here : (a b : ℕ) → (eqb a x.0 && eqb b y.0) ≡ true → Leads H a b r
    here a b is =
        let both = and_parts (eqb a x.0) (eqb b y.0) is in
        subst (λ n. Leads H n b r) (sym (eqb-true a x.0 both.0)) (subst (λ n. Leads H x.0 n r) (sym (eqb-true b y.0 both.1))
        (leads_more G H (more_line laws G (lines.Sent x y r) guides) x.0 y.0 r guides))

    by : (a b : ℕ) (t : Bool) → (eqb a x.0 && eqb b y.0) ≡ t → AllByRecursion (Leads H a b) (cond t (with_sent r (G.channel a b)) (G.channel a b)).sent
    by a b true is = all_append (Leads H a b) (G.channel a b).sent (r ∷ [])
        (all_more (Leads G a b) (Leads H a b) (G.channel a b).sent (old.tells a b) (λ q leads. leads_more G H (more_line laws G (lines.Sent x y r) guides) a b q leads)) (here a b is, tt)
    by a b false is = all_more (Leads G a b) (Leads H a b) (G.channel a b).sent (old.tells a b) (λ q leads. leads_more G H (more_line laws G (lines.Sent x y r) guides) a b q leads)
roads_line rows laws G (lines.Got x y) guides old =
    same_roads G _ (more_line laws G (lines.Got x y) guides) (λ a b. pair_sents (eqb a x.0 && eqb b y.0) with_got (G.channel a b) (λ c. refl)) (λ a. refl) (λ d is. is) (λ e. refl) old
roads_line rows laws G (lines.Took x y count) guides old =
    same_roads G _ (more_line laws G (lines.Took x y count) guides) (λ a b. pair_sents (eqb a x.0 && eqb b y.0) (with_taken count) (G.channel a b) (λ c. refl)) (λ a. refl) (λ d is. is) (λ e. refl) old
roads_line rows laws G (lines.Do (commands.Pool blocks)) guides old =
    same_roads G _ (more_line laws G (lines.Do (commands.Pool blocks)) guides) (λ a b. refl) (λ a. refl) (λ d is. is) (λ e. refl) old
roads_line rows laws G line guides old = same_roads G (after_line G line) (more_line laws G line guides) (λ a b. refl) (λ a. refl) (λ d is. is) (λ e. refl) old

-- ---- lines

abbrev pub Guides : Facts → List Line → Type 0
Guides G [] = Unit {0}
Guides G (line ∷ ls) = GuidesAt G line × Guides (after_line G line) ls

pub roads_lines : RowLaws Enclave → TreePaths → (G : Facts) (ls : List Line) → Guides G ls → AreRoads G → AreRoads (after_lines G ls)
roads_lines rows laws G [] guides old = old
roads_lines rows laws G (l ∷ ls) guides old = roads_lines rows laws (after_line G l) ls guides.1 (roads_line rows laws G l guides.0 old)

pub more_lines : TreePaths → (G : Facts) (ls : List Line) → Guides G ls → IsMore G (after_lines G ls)
more_lines laws G [] guides = more-refl G
more_lines laws G (l ∷ ls) guides = more-trans G (after_line G l) (after_lines (after_line G l) ls) (more_line laws G l guides.0) (more_lines laws (after_line G l) ls guides.1)

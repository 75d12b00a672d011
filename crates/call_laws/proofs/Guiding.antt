-- What each step tells of ways is true.
use Rattle.std.proofs.Common.{◌≡◌, ℕ, List, [], ◌∷◌, ◌++◌, append-nil, Bool, true, false, cond, ◌||◌, eqb, Option, None, Some, is_some, inl, inr, refl, sym, ap, ◌∙◌, subst, arith}
use Rattle.std.specs.List.{AllByRecursion}
use Rattle.std.proofs.lemmas.Bool.{eqb-true, eq-eqb, le-ltb, or_left, or_right}
use Rattle.xm_num.specs.declared.Block.{Block}
use Rattle.xm_num.specs.declared.Enclave.{Enclave}
use Rattle.xm_num.specs.declared.Kind.{Kind}
use Rattle.xm_num.specs.declared.Kind.TheVariants as kinds
use Rattle.xm_num.specs.declared.Pid.{Pid}
use Rattle.xm_num.specs.declared.Segid.{Segid}
use Rattle.xm_num.specs.Rows.{at, less, put}
use Rattle.xm_num.specs.RowLaws.{RowLaws}
use Rattle.xemem_language.specs.declared.call.Call.{Call}
use Rattle.xemem_language.specs.declared.call.Call.TheVariants as calls
use Rattle.xemem_language.specs.declared.line.Line.{Line}
use Rattle.xemem_language.specs.declared.line.Line.TheVariants as lines
use Rattle.xemem_language.specs.declared.record.Record.{Record}
use Rattle.xemem_language.specs.declared.record.Body.{Body}
use Rattle.xemem_language.specs.declared.record.Body.TheVariants as bodies
use Rattle.enclave_rules.specs.Calls.{at_hand}
use Rattle.enclave_rules.specs.Core.{host}
use Rattle.enclave_rules.specs.View.{View}
use Rattle.enclave_rules.specs.Ways.{WaysView, place_among, ways_line}
use Rattle.enclave_rules.specs.Segments.{name_lines, named_lines, unname_lines}
use Rattle.enclave_rules.specs.Sending.{Server, To, drop_lines, over_lines, send_lines, knows_way, way_to}
use Rattle.enclave_rules.specs.Steps.{adopt_lines, admit_of, admit_over, admit_to, body_lines, child_lines, handled_lines, here_lines, here_of, is_stray, named_to, query_lines, query_of, record_lines, register_lines, register_of, told_askers, told_lines}
use Rattle.global_model.specs.Apt.{IsBirth}
use Rattle.global_model.specs.Facts.{Facts, after_line, after_lines, at_number, fact_of, facts_after, is_holder, no_facts}
use Rattle.global_model.specs.Parts.{Lacks}
use Rattle.global_model.specs.Pauses.{AreSteps, Asks, Bears, Handles, Hosts, IsPause, MayCome, MayStandAlone, Step, Takes, Written, asked_lines, written_by, written_in}
use Rattle.global_model.specs.Due.{journal_of}
use Rattle.global_model.specs.Place.{IsPlaced}
use Rattle.xemem_language.specs.declared.command.Command.{Command}
use Rattle.global_model.specs.Views.{view_of}
use Rattle.discovery_laws.specs.Known.{back_at, holds, in_flight, knows, route_at, way_at}
use Rattle.discovery_laws.specs.Ways.{IsLeading}
use Rattle.call_laws.specs.Laws.{CallLaws, TreePaths}
use Rattle.call_laws.specs.Roads.{AreReady, IsReachable, Reaches}
use Rattle.call_laws.proofs.Each.{all_but_calls, each_adopt, each_either, each_make, each_name, each_named, each_remove, each_sent, each_unname}
use Rattle.call_laws.proofs.Rows.{all_append}
use Rattle.call_laws.proofs.Flights.{next_flight}
use Rattle.call_laws.proofs.Requests.{all-behind}
use Rattle.call_laws.proofs.Roads.{AnswersTo, AreRoads, GuidesAt, IsAnnounced, IsMore, Leads, LeadsBy, Toward, answers_more, more_line, reaches_more}
use Rattle.call_laws.proofs.Guides.{Guides, roads_lines}
use Rattle.call_laws.proofs.Handled.{ns_is}

-- ---- lines that tell the truth of ways whatever the facts

abbrev pub GuidesAlways : Line → Type 0
GuidesAlways line = (G : Facts) → GuidesAt G line

pub always : (G : Facts) (ls : List Line) → AllByRecursion GuidesAlways ls → Guides G ls
always G [] all = tt
always G (l ∷ ls) all = (all.0 G, always (after_line G l) ls all.1)

-- so do lines for calls
always_for_calls : (line : Line) → Lacks all_but_calls line → GuidesAlways line
always_for_calls (lines.Sent x y r) none G = absurd none
always_for_calls _ none G = search

always_asked : (v : View) (p : Pid) (call : Call) → AllByRecursion GuidesAlways (asked_lines v p call)
always_asked v p (calls.Alloc page n) = tt
always_asked v p (calls.Make addr size mode) = each_make GuidesAlways always_for_calls (at_hand v p (calls.Make addr size mode)) v p (λ z way G. tt)
always_asked v p (calls.Remove segid) = each_remove GuidesAlways always_for_calls v segid (λ z way G. tt)

module _ (v : View) (x : Enclave) (r : Record) where
  always_request : ((z : Enclave) → GuidesAlways (lines.Sent v.me z r)) → AllByRecursion GuidesAlways (body_lines v x r bodies.NameReq)
  always_request passed = each_either GuidesAlways v.core.holder (name_lines v r.origin r.call) (send_lines v (Some x) Server r)
      (each_name GuidesAlways always_for_calls v r.origin r.call (λ z way G. tt)) (each_sent GuidesAlways always_for_calls v (Some x) Server r (λ z way. passed z))

  always_name : (segid : Segid) → ((z : Enclave) → GuidesAlways (lines.Sent v.me z r)) → (dest : Option Enclave) → AllByRecursion GuidesAlways (named_to v x r segid dest)
  always_name segid passed None = ((λ G. tt), tt)
  always_name segid passed (Some d) = each_either GuidesAlways (eqb d.0 v.me.0) (named_lines v r.call segid) (send_lines v (Some x) (To d) r)
      (each_named GuidesAlways always_for_calls v r.call segid) (each_sent GuidesAlways always_for_calls v (Some x) (To d) r (λ z way. passed z))

  always_forget : (segid : Segid) → ((z : Enclave) → GuidesAlways (lines.Sent v.me z r)) → AllByRecursion GuidesAlways (body_lines v x r (bodies.Unname segid))
  always_forget segid passed = each_either GuidesAlways v.core.holder (unname_lines v r.origin segid) (send_lines v (Some x) Server r)
      (each_unname GuidesAlways always_for_calls v r.origin segid) (each_sent GuidesAlways always_for_calls v (Some x) Server r (λ z way. passed z))

number_itself : {A : Type 0} (k : ℕ) (w : A) (f : ℕ → A) → at_number k w f k ≡ w
number_itself k w f = ap (λ t. cond t w (f k)) (eq-eqb k k refl)

put_itself : RowLaws Enclave → (table : List (ℕ × Enclave)) (k : ℕ) (over : Enclave) → at (put table k over) k ≡ Some over
put_itself rows table k over = rows.put_at table k k over ∙ ap (λ t. cond t (Some over) (at table k)) (eq-eqb k k refl)

-- ---- a record that was got

module _ (rows : RowLaws Enclave) (laws : TreePaths) (G : Facts) (x y : Enclave) (r : Record) (roads : AreRoads G) (leading : IsLeading G) where
  abbrev pub v : View
  v = view_of G y

  -- after the record is got nothing is known but before
  abbrev pub got : Facts
  got = after_line G (lines.Got x y)

  abbrev pub knows_own : knows_way (view_of G y) ≡ knows G y.0
  knows_own = ap (λ b. b || is_some (way_at G y.0)) (ns_is (G.enclave y.0))

  guides_query : Guides got (query_lines v x)
  guides_query = by (knows_way v) refl
    where
      by : (t : Bool) → knows_way v ≡ t → Guides got (cond t (lines.Sent y x (here_of y) ∷ []) (lines.Asked y x ∷ []))
      by true is = (sym knows_own ∙ is, tt)
      by false is = (tt, tt)

  guides_told : (H : Facts) (askers : List (ℕ × Enclave)) (more : List Line) → knows H y.0 ≡ true → ((K : Facts) → knows K y.0 ≡ true → Guides K more)
      → Guides H (told_askers v askers ++ more)
  guides_told H [] more is then_more = then_more H is
  guides_told H (row ∷ askers) more is then_more = (is, guides_told (after_line H (lines.Sent y row.1 (here_of y))) askers more is then_more)

  guides_here : knows G x.0 ≡ true → Guides got (here_lines v x)
  guides_here known = by (knows_way v)
    where
      now : knows (after_line got (lines.Way y x)) y.0 ≡ true
      now = or_right (holds G y.0) (is_some (way_at (after_line got (lines.Way y x)) y.0))
          (ap (λ (w : WaysView). is_some w.way) (number_itself y.0 (ways_line (fact_of (G.enclave y.0)).parent (G.ways y.0) (lines.Way y x)) G.ways))

      by : (t : Bool) → Guides got (cond t (drop_lines v) (lines.Way y x ∷ told_askers v (less v.ways.askers (place_among v.core.parent x)) ++ lines.Sent y x (register_of y) ∷ []))
      by true = (tt, tt)
      by false = (
        known,
        guides_told (after_line got (lines.Way y x)) (less v.ways.askers (place_among v.core.parent x)) (lines.Sent y x (register_of y) ∷ []) now
            (λ K is. ((inl refl, is), tt)),
      )

  guides_over : (H : Facts) (over : Option Enclave) → ((z : Enclave) → over ≡ Some z → Leads H y.0 z.0 r) → Guides H (over_lines v (Some x) over r)
  guides_over H None leads = (tt, tt)
  guides_over H (Some z) leads = by (eqb z.0 x.0)
    where
      by : (t : Bool) → Guides H (cond t (drop_lines v) (lines.Sent y z r ∷ []))
      by true = (tt, tt)
      by false = (leads z refl, tt)

  -- the way back is remembered
  back_there : is_some (back_at (after_line got (lines.Back y r.origin x)) y.0 r.origin.0) ≡ true
  back_there =
      ap (λ (w : WaysView). is_some (at w.backs r.origin.0)) (number_itself y.0 (ways_line (fact_of (G.enclave y.0)).parent (G.ways y.0) (lines.Back y r.origin x)) G.ways)
      ∙ ap is_some (put_itself rows (G.ways y.0).backs r.origin.0 x)

  route_there : (H : Facts) (d over : Enclave) → is_some (route_at (after_line H (lines.Route y d over)) y.0 d.0) ≡ true
  route_there H d over =
      ap (λ (w : WaysView). is_some (at w.routes d.0)) (number_itself y.0 (ways_line (fact_of (H.enclave y.0)).parent (H.ways y.0) (lines.Route y d over)) H.ways)
      ∙ ap is_some (put_itself rows (H.ways y.0).routes d.0 over)

  guides_register : (AnswersTo G r.origin.0 x.0 × (knows G r.origin.0 ≡ true)) → (v.core.holder ≡ true → Toward G y.0 r.origin.0 x.0)
      → r.body ≡ bodies.Register → Guides got (register_lines v x r)
  guides_register leads toward body = (leads.0, by v.core.holder refl)
    where
      back : Facts
      back = after_line got (lines.Back y r.origin x)

      more : IsMore got back
      more = more_line laws got (lines.Back y r.origin x) leads.0

      by : (t : Bool) → v.core.holder ≡ t → Guides back (cond t (lines.Route y r.origin x ∷ lines.Sent y x (admit_of y r.origin) ∷ []) (send_lines v (Some x) Server r))
      by true is =
          let routed : Facts = after_line back (lines.Route y r.origin x) in
          let further : IsMore back routed = more_line laws back (lines.Route y r.origin x) tt in (
            tt,
            (
              (λ d to. let same : r.origin ≡ d = cc in subst (λ (d : Enclave). IsAnnounced routed d.0 x.0) same (record {
                road = record {
                  holder = y.0;
                  holds = further.holders y.0 (more.holders y.0 (sym (ns_is (G.enclave y.0)) ∙ is));
                  before = y.0 ∷ [];
                  reaches = (route_there back r.origin x, further.toward y.0 r.origin.0 x.0 (more.toward y.0 r.origin.0 x.0 (toward is)), refl);
                };
                answers = answers_more back routed further r.origin.0 x.0 (answers_more got back more r.origin.0 x.0 leads.0);
                knowing = further.knowing r.origin.0 (more.knowing r.origin.0 leads.1);
              })),
              tt,
            ),
          )
      by false is = guides_over back (way_to v Server)
          (λ z over. subst (LeadsBy back y.0 z.0 r) (sym body) (inr back_there, more.knowing r.origin.0 leads.1))

  guides_admit : (dest : Option Enclave) → r.dest ≡ dest → ((d : Enclave) → dest ≡ Some d → IsAnnounced G d.0 y.0) → r.body ≡ bodies.Admit → Guides got (admit_to v x r dest)
  guides_admit None to leads body = (tt, tt)
  guides_admit (Some d) to leads body = by (eqb d.0 y.0) refl
    where
      announced : IsAnnounced G d.0 y.0
      announced = leads d refl

      home : (t : Bool) → d.0 ≡ y.0 → Guides got (cond t (drop_lines v) (lines.Admitted y ∷ []))
      home true is = (tt, tt)
      home false is = (
        record {
          road = record { holder = announced.road.holder; holds = announced.road.holds; before = announced.road.before; reaches = reached };
          knowing = subst (λ n. knows got n ≡ true) is announced.knowing;
        },
        tt,
      )
        where
          reached : Reaches got announced.road.holder y.0 y.0 announced.road.before
          reached = reaches_more G got (more_line laws G (lines.Got x y) tt) announced.road.holder y.0 y.0 announced.road.before
              (subst (λ n. Reaches G announced.road.holder n y.0 announced.road.before) is announced.road.reaches)

      over : (found : Option Enclave) → back_at G y.0 d.0 ≡ found → Guides got (admit_over v x d r found)
      over None is = (tt, tt)
      over (Some z) is =
          let routed : Facts = after_line got (lines.Route y d z) in
          let first : IsMore G got = more_line laws G (lines.Got x y) tt in
          let more : IsMore got routed = more_line laws got (lines.Route y d z) tt in (
            tt,
            guides_over routed (Some z) (λ w same. let there : z ≡ w = cc in
                subst (λ (w : Enclave). Leads routed y.0 w.0 r) there (subst (LeadsBy routed y.0 z.0 r) (sym body)
                (λ e goal. let whole : Some d ≡ Some e = sym to ∙ goal in let one : d ≡ e = cc in
                subst (λ (e : Enclave). IsAnnounced routed e.0 z.0) one (record {
                  road = record {
                    holder = announced.road.holder;
                    holds = more.holders announced.road.holder (first.holders announced.road.holder announced.road.holds);
                    before = y.0 ∷ announced.road.before;
                    reaches = (
                      route_there got d z,
                      more.toward y.0 d.0 z.0 (first.toward y.0 d.0 z.0 (leading.backs y.0 d.0 z is)),
                      reaches_more got routed more announced.road.holder d.0 y.0 announced.road.before
                          (reaches_more G got first announced.road.holder d.0 y.0 announced.road.before announced.road.reaches),
                    );
                  };
                  answers = answers_more got routed more d.0 z.0 (answers_more G got first d.0 z.0 (roads.backs y.0 d.0 z is));
                  knowing = more.knowing d.0 (first.knowing d.0 announced.knowing);
                })))),
          )

      by : (t : Bool) → eqb d.0 y.0 ≡ t → Guides got (cond t (cond v.core.admitted (drop_lines v) (lines.Admitted y ∷ [])) (admit_over v x d r (back_at G y.0 d.0)))
      by true is = home v.core.admitted (eqb-true d.0 y.0 is)
      by false is = over (back_at G y.0 d.0) refl

  guides_body : (body : Body) → r.body ≡ body → LeadsBy G x.0 y.0 r body → (body ≡ bodies.Register → v.core.holder ≡ true → Toward G y.0 r.origin.0 x.0)
      → Guides got (body_lines v x r body)
  guides_body bodies.Query is leads toward = guides_query
  guides_body bodies.Here is leads toward = guides_here leads
  guides_body bodies.Register is leads toward = guides_register leads (toward refl) is
  guides_body bodies.Admit is leads toward = guides_admit r.dest refl leads is
  guides_body bodies.NameReq is leads toward =
      always got (body_lines v x r bodies.NameReq) (always_request v x r (λ z H. subst (LeadsBy H y.0 z.0 r) (sym is) tt))
  guides_body (bodies.Named segid) is leads toward =
      always got (body_lines v x r (bodies.Named segid)) (always_name v x r segid (λ z H. subst (LeadsBy H y.0 z.0 r) (sym is) tt) r.dest)
  guides_body (bodies.Unname segid) is leads toward =
      always got (body_lines v x r (bodies.Unname segid)) (always_forget v x r segid (λ z H. subst (LeadsBy H y.0 z.0 r) (sym is) tt))
  guides_body _ is leads toward = (tt, tt)

-- ---- each step

guides_alone : (G : Facts) (line : Line) → MayStandAlone G line → GuidesAlways line
guides_alone G (lines.Sent x y r) may H = absurd may
guides_alone G _ may H = search

-- one that holds the name server is ready
holder_ready : (G : Facts) (e : ℕ) → holds G e ≡ true → IsReachable G e
holder_ready G e held = record { road = record { holder = e; holds = held; before = []; reaches = refl }; knowing = or_left (holds G e) (is_some (way_at G e)) held }

module _ (G : Facts) (child : Enclave) (kind : Kind) (parent : Enclave) (ns : Bool) (blocks : List Block) (pause : IsPause G) (tree : TreePaths)
    (birth : IsBirth G child kind parent ns blocks) where
  abbrev pub born : Facts
  born = after_line G (lines.Born child kind parent ns blocks)

  guides_born : GuidesAt G (lines.Born child kind parent ns blocks)
  guides_born = (tree.rooted G pause.tree, birth.next, (pause.tree.enclaves child.0).known ∙ le-ltb child.0 G.born (let next = birth.next in omega (arith, next)))

  born_holds : ns ≡ true → holds (after_line G (lines.Born child kind parent ns blocks)) child.0 ≡ true
  born_holds is = ap (λ t. is_holder (cond t (Some (record { kind = kind; parent = parent; blocks = blocks; ns = ns; living = true; admitted = false })) (G.enclave child.0))) (eq-eqb child.0 child.0 refl) ∙ is

  -- what follows the birth: it is admitted where it holds the name server, and else it asks; and then others that say nothing of ways
  guides_child : (asks more : List Line) → AllByRecursion GuidesAlways asks → AllByRecursion GuidesAlways more
      → Guides (after_line G (lines.Born child kind parent ns blocks)) (cond ns (lines.Admitted child ∷ []) asks ++ more)
  guides_child asks more first rest = by ns refl
    where
      by : (t : Bool) → ns ≡ t → Guides (after_line G (lines.Born child kind parent ns blocks)) (cond t (lines.Admitted child ∷ []) asks ++ more)
      by true is = (holder_ready born child.0 (born_holds is), always (after_line born (lines.Admitted child)) more rest)
      by false is = always born (asks ++ more) (all_append GuidesAlways asks more first rest)

module _ (rows : RowLaws Enclave) (tree : TreePaths) (G : Facts) (x y : Enclave) (r : Record) (roads : AreRoads G) (leading : IsLeading G) where
  route_is : (H : Facts) (d over : Enclave) → route_at (after_line H (lines.Route y d over)) y.0 d.0 ≡ Some over
  route_is H d over =
      ap (λ (w : WaysView). at w.routes d.0) (number_itself y.0 (ways_line (fact_of (H.enclave y.0)).parent (H.ways y.0) (lines.Route y d over)) H.ways)
      ∙ put_itself rows (H.ways y.0).routes d.0 over

  -- an enclave that is admitted by the holder lies over the neighbour from which it registered
  toward_origin : IsLeading (after_lines G (handled_lines (view_of G y) x r)) → is_stray (view_of G y) r ≡ false → r.body ≡ bodies.Register
      → (view_of G y).core.holder ≡ true → Toward G y.0 r.origin.0 x.0
  toward_origin after stray body holder =
      let all : List Line = lines.Got x y ∷ lines.Back y r.origin x ∷ lines.Route y r.origin x ∷ lines.Sent y x (admit_of y r.origin) ∷ [] in
      let own : record_lines (view_of G y) x r ≡ lines.Back y r.origin x ∷ lines.Route y r.origin x ∷ lines.Sent y x (admit_of y r.origin) ∷ []
      = ap (λ t. cond t (drop_lines (view_of G y)) (body_lines (view_of G y) x r r.body)) stray
      ∙ ap (body_lines (view_of G y) x r) body
      ∙ ap (λ t. lines.Back y r.origin x ∷ cond t (lines.Route y r.origin x ∷ lines.Sent y x (admit_of y r.origin) ∷ []) (send_lines (view_of G y) (Some x) Server r)) holder in
      let end : IsLeading (after_lines G all) = subst (λ ls. IsLeading (after_lines G (lines.Got x y ∷ ls))) own after in
      end.routes y.0 r.origin.0 x (route_is (after_line (after_line G (lines.Got x y)) (lines.Back y r.origin x)) r.origin x)

  guides_handled : (behind : List Record) → in_flight G x.0 y.0 ≡ r ∷ behind → IsLeading (after_lines G (handled_lines (view_of G y) x r))
      → Guides G (handled_lines (view_of G y) x r)
  guides_handled behind next after = (tt, by (is_stray (view_of G y) r) refl)
    where
      leads : Leads G x.0 y.0 r
      leads =
          let all = all-behind (Leads G x.0 y.0) (G.channel x.0 y.0).got (G.channel x.0 y.0).sent (roads.tells x.0 y.0) in
          let first : AllByRecursion (Leads G x.0 y.0) (r ∷ behind) = subst (AllByRecursion (Leads G x.0 y.0)) next all in
          first.0

      by : (t : Bool) → is_stray (view_of G y) r ≡ t
          → Guides (after_line G (lines.Got x y)) (cond t (drop_lines (view_of G y)) (body_lines (view_of G y) x r r.body))
      by true is = (tt, tt)
      by false is = guides_body rows tree G x y r roads leading r.body refl leads (λ body holder. toward_origin after is body holder)

no_deaths : (child : Enclave) (heard : List Enclave) → heard ≡ [] → told_lines child heard ≡ []
no_deaths child heard none = ap (told_lines child) none

pub guides_step : RowLaws Enclave → TreePaths → (G : Facts) (step : Step) → IsPause G → MayCome G step → AreRoads G → IsLeading G → IsLeading (after_lines G (written_by G step))
    → Guides G (written_by G step)
guides_step rows tree G (Written line) pause may roads leading after = always G (line ∷ []) (guides_alone G line may.1, tt)
guides_step rows tree G (Takes x y count) pause may roads leading after = (tt, tt)
guides_step rows tree G (Handles x y r) pause may roads leading after =
    let next = next_flight G x.0 y.0 r may.others may.next in
    guides_handled rows tree G x y r roads leading next.others next.is after
guides_step rows tree G (Asks e p call) pause may roads leading after = always G (asked_lines (view_of G e) p call) (always_asked (view_of G e) p call)
guides_step rows tree G (Hosts ns blocks) pause may roads leading after = (
  guides_born G host kinds.Host host ns blocks pause tree may.1,
  subst (Guides (after_line G (lines.Born host kinds.Host host ns blocks))) (append-nil (cond ns (lines.Admitted host ∷ []) []))
      (guides_child G host kinds.Host host ns blocks pause tree may.1 [] [] tt tt),
)
guides_step rows tree G (Bears child kind parent ns blocks) pause may roads leading after =
    let H = after_line G (lines.Born child kind parent ns blocks) in
    let more = adopt_lines (view_of G parent) child in (
      guides_born G child kind parent ns blocks pause tree may.1,
      subst (λ told. Guides H ((told ++ child_lines child parent ns) ++ more)) (sym (no_deaths child (G.heard parent.0) (roads.quiet parent.0)))
          (guides_child G child kind parent ns blocks pause tree may.1 (lines.Sent child parent (query_of child) ∷ []) more ((λ K. tt), tt)
          (each_adopt GuidesAlways (view_of G parent) child (λ K. tt))),
    )

-- ---- along all steps

pub record IsWalked (done : List Step) (G : Facts) : Type 0 where
  pub are : AreSteps no_facts done
  pub is : after_lines no_facts (written_in no_facts done) ≡ G

steps_append : (laws : CallLaws) (F : Facts) (done : List Step) (step : Step) → AreSteps F done
    → IsPause (after_lines F (written_in F done)) → MayCome (after_lines F (written_in F done)) step → AreSteps F (done ++ step ∷ [])
steps_append laws F [] step are pause may = (pause, may, tt)
steps_append laws F (first ∷ done) step are pause may =
    let G = after_lines F (written_by F first) in
    let same = laws.after F (written_by F first) (written_in G done) in
    (are.0, are.1, steps_append laws G done step are.2 (subst IsPause same pause) (subst (λ H. MayCome H step) same may))

written_append : (laws : CallLaws) (F : Facts) (done : List Step) (step : Step)
    → after_lines F (written_in F (done ++ step ∷ [])) ≡ after_lines (after_lines F (written_in F done)) (written_by (after_lines F (written_in F done)) step)
written_append laws F [] step = ap (after_lines F) (append-nil (written_by F step))
written_append laws F (first ∷ done) step =
    let G = after_lines F (written_by F first) in
    let same = laws.after F (written_by F first) (written_in G done) in
    laws.after F (written_by F first) (written_in G (done ++ step ∷ [])) ∙ written_append laws G done step
    ∙ ap (λ H. after_lines H (written_by H step)) (sym same)

pub walked_more : (laws : CallLaws) (done : List Step) (G : Facts) (step : Step) → IsWalked done G → IsPause G → MayCome G step
    → IsWalked (done ++ step ∷ []) (after_lines G (written_by G step))
walked_more laws done G step walked pause may = record {
  are = steps_append laws no_facts done step walked.are (subst IsPause (sym walked.is) pause) (subst (λ H. MayCome H step) (sym walked.is) may);
  is = written_append laws no_facts done step ∙ ap (λ H. after_lines H (written_by H step)) walked.is;
}

pub leading_at : (laws : CallLaws) (done : List Step) (G : Facts) → IsWalked done G → IsLeading G
leading_at laws done G walked = subst IsLeading walked.is (laws.leads done walked.are)

all_roads : (laws : CallLaws) (steps done : List Step) (G : Facts) → IsWalked done G → AreSteps G steps → AreRoads G → AreRoads (after_lines G (written_in G steps))
all_roads laws [] done G walked are roads = roads
all_roads laws (step ∷ steps) done G walked are roads =
    let H = after_lines G (written_by G step) in
    let next = walked_more laws done G step walked are.0 are.1 in
    let guides = guides_step laws.rows.names laws.tree G step are.0 are.1 roads (leading_at laws done G walked) (leading_at laws (done ++ step ∷ []) H next) in
    subst AreRoads (sym (laws.after G (written_by G step) (written_in H steps)))
    (all_roads laws steps (done ++ step ∷ []) H next are.2 (roads_lines laws.rows.names laws.tree G (written_by G step) guides roads))

pub no_roads : (laws : CallLaws) → AreRoads no_facts
no_roads laws = record {
  tells = λ a b. tt;
  backs = λ a d x is. absurd (let none = laws.rows.names.none d in cc);
  ways = λ a x is. cc;
  ready = λ d is. cc;
  quiet = λ e. refl;
}

pub steps_ready : (laws : CallLaws) (steps : List Step) → AreSteps no_facts steps → AreReady (after_lines no_facts (written_in no_facts steps))
steps_ready laws steps are =
    let roads = all_roads laws steps [] no_facts (record { are = tt; is = refl }) are (no_roads laws) in
    record { ready = roads.ready; ways = roads.ways }

pub journal_of-ready : (laws : CallLaws) (commands : List Command) → IsPlaced commands → AreReady (facts_after (journal_of commands))
journal_of-ready laws commands placed =
    let in_steps = laws.steps commands placed in
    subst (λ journal. AreReady (facts_after journal)) (sym in_steps.written) (steps_ready laws in_steps.steps in_steps.are)

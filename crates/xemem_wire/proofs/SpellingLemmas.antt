-- The spelling of a valid record has no bad field and gives the record back; a front without a bad field is a spelling.
use Rattle.std.proofs.Common.{◌≡◌, ◌≢◌, ℕ, zero, suc, ℤ, pos, negsuc, ◌+◌, ◌*◌, ◌^◌, ◌<◌, ◌≤◌, Bool, true, false, not, inl, inr, Option, Some, None, List, [], ◌∷◌, ◌++◌, ◌&&◌, ◌||◌, if◌then◌else◌, eqb, leb, lit<, lit≤, length, take, drop, get_or, refl, sym, ap, ◌∙◌, subst, arith, drop-drop}
use Rattle.std.proofs.lemmas.Int.{ints}
use Rattle.std.proofs.lemmas.Bool.{cases_Bool, and_parts, and_from, ne_eqb, eqb-true, eq-eqb, le-leb, false≢true}
use Rattle.std.proofs.lemmas.List.{get_or-take}
use borrow.Author.Tests.{leb-true, ltb-true}
use Rattle.std.specs.List.{AllByRecursion}
use Rattle.xm_num.specs.declared.Enclave.{Enclave}
use Rattle.xm_num.specs.declared.Segid.{Segid}
use Rattle.xm_num.specs.declared.Apid.{Apid}
use Rattle.xemem_language.specs.declared.record.Record.{Record}
use Rattle.xemem_language.specs.declared.record.Body.{Body}
use Rattle.xemem_language.specs.declared.record.Body.TheVariants as bodies
use Rattle.xemem_language.specs.Ranges.{IsName, IsPlainOption, IsSpelledBody}
use Rattle.xemem_wire.specs.Table.{kind_of, is_kind_built, is_enclave, has_call, is_undirected, is_destination, is_call, u32_at}
use Rattle.xemem_language.specs.Destinations.{destination_of, destination_number}
use Rattle.xemem_wire.specs.Fields.{segid_field, owner_field, zero_field, user_field, flags_field, pages_field, get_cause_field, apid_field, fields_of_kind, name_number, name_of, owner_number, numbers_of, body_of, is_allowed, fields_length, fields_spelling, fields_numbers, are_allowed, length_of_kind}
use Rattle.xemem_wire.specs.declared.fields.Field.{Field}
use Rattle.xemem_wire.specs.Spelling.{header_of, body_spelling, spelling_of, is_body, is_valid}
use Rattle.xemem_wire.specs.Faults.{kind_at, header_checks, fault_of}
use Rattle.xemem_wire.specs.Stream.{record_at}
use Rattle.xemem_wire.proofs.FieldLemmas.{IsBytes, is_bytes-drop, number_16, number_32, bytes_16, bytes_32, AllFit, in_range, AllAllowed, all_allowed, as_many, fields_numbers-spelling, fields_fault-spelling, length-fields_spelling, AreWhole, are_whole, fields_bytes}
use Rattle.xemem_wire.proofs.FaultLemmas.{first_failed-met, met-first_failed, fault_of-none, none-fault_of}

-- ---- the table

-- a number is that one or another
either : (P : ℕ → Type 0) (kind n : ℕ) → P n → (kind ≢ n → P kind) → P kind
either P kind n p other =
    elim (cases_Bool (eqb kind n)) [
      | inl t ↦ subst P (sym (eqb-true kind n t)) p
      | inr f ↦ other (λ e. false≢true (sym f ∙ eq-eqb kind n e))
    ]

-- what holds at so many numbers from low on
abbrev Each : (ℕ → Type 0) → ℕ → ℕ → Type 0
Each P zero low = Unit {0}
Each P (suc n) low = P low × Each P n (suc low)

each_from : (P : ℕ → Type 0) (n low : ℕ) → Each P n low → (kind : ℕ) → low ≤ kind → kind < n + low → P kind
each_from P zero low all kind least most = absurd (omega arith)
each_from P (suc n) low all kind least most =
    either P kind low all.0 (λ other. each_from P n (suc low) all.1 kind (omega arith) (omega arith))

-- what holds at each built kind
each_kind : (P : ℕ → Type 0) → Each P 13 1 → (kind : ℕ) → is_kind_built kind ≡ true → P kind
each_kind P all kind h =
    let parts = and_parts (leb 1 kind) (leb kind 13) h in
    let most : kind ≤ 13 = leb-true kind 13 parts.1 in
    each_from P 13 1 all kind (leb-true 1 kind parts.0) (omega arith)

-- what holds of each row
each_row : (P : List Field → Type 0) → P [] → P (segid_field ∷ []) → P (segid_field ∷ owner_field ∷ zero_field ∷ [])
    → P (segid_field ∷ flags_field ∷ user_field ∷ user_field ∷ []) → P (pages_field ∷ []) → P (get_cause_field ∷ []) → P (apid_field ∷ [])
    → (kind : ℕ) → P (fields_of_kind kind)
each_row P none segid found get pages cause apid kind =
    by (eqb kind 6 || eqb kind 7 || eqb kind 8) (eqb kind 9) (eqb kind 10) (eqb kind 11) (eqb kind 12) (eqb kind 13)
  where
    by : (named nine ten eleven twelve thirteen : Bool)
        → P (if named then segid_field ∷ []
        else if nine then segid_field ∷ owner_field ∷ zero_field ∷ []
        else if ten then segid_field ∷ flags_field ∷ user_field ∷ user_field ∷ []
        else if eleven then pages_field ∷ []
        else if twelve then get_cause_field ∷ []
        else if thirteen then apid_field ∷ []
        else [])
    by true nine ten eleven twelve thirteen = segid
    by false true ten eleven twelve thirteen = found
    by false false true eleven twelve thirteen = get
    by false false false true twelve thirteen = pages
    by false false false false true thirteen = cause
    by false false false false false true = apid
    by false false false false false false = none

-- each row's numbers have room
all_fit : (kind : ℕ) → AllFit (fields_of_kind kind)
all_fit kind =
    each_row AllFit tt (lit< tt, tt) (lit< tt, (lit< tt, (lit< tt, tt))) (lit< tt, (lit< tt, (lit< tt, (lit< tt, tt))))
    (lit< tt, tt) (lit< tt, tt) (lit< tt, tt) kind

-- and is short
pub fields_short : (kind : ℕ) → fields_length (fields_of_kind kind) ≤ 16388
fields_short kind =
    each_row (λ fields. fields_length fields ≤ 16388) (lit≤ tt) (lit≤ tt) (lit≤ tt) (lit≤ tt) (lit≤ tt) (lit≤ tt) (lit≤ tt) kind

-- a segid and an apid come back, where their fields allow them
name_again : (z : ℤ) → name_number z ≤ 9223372036854775807 → name_of (name_number z) ≡ z
name_again (pos n) h = rw (le-leb n 9223372036854775807 h) refl
name_again (negsuc n) h = absurd (omega arith)

number_again : (n : ℕ) → n ≤ 9223372036854775807 → name_number (name_of n) ≡ n
number_again n h = rw (le-leb n 9223372036854775807 h) refl

segid_again : (segid : Segid) → is_allowed segid_field (name_number segid.0) ≡ true → (let s : Segid = record { 0 = name_of (name_number segid.0) } in s) ≡ segid
segid_again segid h =
    ap (λ z. let s : Segid = record { 0 = z } in s) (name_again segid.0 (in_range segid_field (name_number segid.0) refl h).1)

apid_again : (apid : Apid) → is_allowed apid_field (name_number apid.0) ≡ true → (let a : Apid = record { 0 = name_of (name_number apid.0) } in a) ≡ apid
apid_again apid h =
    let most = (in_range apid_field (name_number apid.0) refl h).1 in
    ap (λ z. let a : Apid = record { 0 = z } in a) (name_again apid.0 (omega (arith, most)))

-- so does an owner
owner_again : (owner : Option Enclave) → is_allowed owner_field (owner_number owner) ≡ true → destination_of (owner_number owner) ≡ owner
owner_again None h = refl
owner_again (Some enclave) h =
    elim (cases_Bool (is_enclave enclave.0)) [
      | inl t ↦
          let small : enclave.0 ≤ 255 = leb-true enclave.0 255 t in
          rw (t, ne_eqb enclave.0 65535 (λ e. omega arith)) refl
      | inr f ↦ absurd (false≢true (rw f at h))
    ]

owner_number_again : (n : ℕ) → is_allowed owner_field n ≡ true → owner_number (destination_of n) ≡ n
owner_number_again n h =
    elim (cases_Bool (eqb n 65535)) [
      | inl t ↦ rw t (sym (eqb-true n 65535 t))
      | inr f ↦
          let range : (leb 0 n && leb n 255) ≡ true = rw f at h in
          rw (f, (and_parts (leb 0 n) (leb n 255) range).1) refl
    ]

-- the body comes back
allowed_numbers : (body : Body) → is_body body ≡ true → AllAllowed (fields_of_kind (kind_of body)) (numbers_of body)
allowed_numbers body h =
    all_allowed (fields_of_kind (kind_of body)) (numbers_of body)
    (and_parts (is_kind_built (kind_of body)) (are_allowed (fields_of_kind (kind_of body)) (numbers_of body)) h).1

body_again : (body : Body) → is_body body ≡ true → body_of (kind_of body) (numbers_of body) ≡ body
body_again bodies.Query h = refl
body_again bodies.Here h = refl
body_again bodies.Register h = refl
body_again bodies.Admit h = refl
body_again bodies.NameReq h = refl
body_again (bodies.Named segid) h = ap (λ s. bodies.Named s) (segid_again segid (allowed_numbers (bodies.Named segid) h).0)
body_again (bodies.Unname segid) h = ap (λ s. bodies.Unname s) (segid_again segid (allowed_numbers (bodies.Unname segid) h).0)
body_again (bodies.Lookup segid) h = ap (λ s. bodies.Lookup s) (segid_again segid (allowed_numbers (bodies.Lookup segid) h).0)
body_again (bodies.Found segid owner) h =
    let allowed = allowed_numbers (bodies.Found segid owner) h in
    let same = segid_again segid allowed.0 in
    let owned = owner_again owner allowed.1.0 in
    ap (λ s. bodies.Found s (destination_of (owner_number owner))) same ∙ ap (λ o. bodies.Found segid o) owned
body_again (bodies.Get segid flags uid gid) h =
    ap (λ s. bodies.Get s flags uid gid) (segid_again segid (allowed_numbers (bodies.Get segid flags uid gid) h).0)
body_again (bodies.Granted pages) h = refl
body_again (bodies.GetRefused cause) h = refl
body_again (bodies.Release apid) h = ap (λ a. bodies.Release a) (apid_again apid (allowed_numbers (bodies.Release apid) h).0)
body_again _ h = cc

-- so does the kind
kind_again : (kind : ℕ) → is_kind_built kind ≡ true → (ns : List ℕ) → kind_of (body_of kind ns) ≡ kind
kind_again kind built ns =
    each_kind (λ k. kind_of (body_of k ns) ≡ k)
    (refl, (refl, (refl, (refl, (refl, (refl, (refl, (refl, (refl, (refl, (refl, (refl, (refl, tt)))))))))))))
    kind built

-- and so do the numbers
no_numbers : (ns : List ℕ) → AllAllowed [] ns → [] ≡ ns
no_numbers [] h = refl
no_numbers (n ∷ ns) h = absurd h

-- a row of one field
one_number : (f : Field) (back : ℕ → ℕ) (ns : List ℕ) → ((n : ℕ) → is_allowed f n ≡ true → back n ≡ n) → AllAllowed (f ∷ []) ns → back (get_or ns 0 0) ∷ [] ≡ ns
one_number f back [] again h = absurd h
one_number f back (n ∷ []) again h = ap (λ m. m ∷ []) (again n h.0)
one_number f back (n ∷ m ∷ ns) again h = absurd h.1

one_segid : (ns : List ℕ) → AllAllowed (segid_field ∷ []) ns → name_number (name_of (get_or ns 0 0)) ∷ [] ≡ ns
one_segid ns h =
    one_number segid_field (λ n. name_number (name_of n)) ns (λ n allowed. number_again n (in_range segid_field n refl allowed).1) h

one_apid : (ns : List ℕ) → AllAllowed (apid_field ∷ []) ns → name_number (name_of (get_or ns 0 0)) ∷ [] ≡ ns
one_apid ns h =
    one_number apid_field (λ n. name_number (name_of n)) ns
    (λ n allowed. let most = (in_range apid_field n refl allowed).1 in number_again n (omega (arith, most))) h

found_numbers : (ns : List ℕ) → AllAllowed (segid_field ∷ owner_field ∷ zero_field ∷ []) ns
    → name_number (name_of (get_or ns 0 0)) ∷ owner_number (destination_of (get_or ns 1 0)) ∷ 0 ∷ [] ≡ ns
found_numbers (a ∷ b ∷ c ∷ []) h =
    let zero = (in_range zero_field c refl h.1.1.0).1 in
    let free : 0 ≡ c = omega (arith, zero) in
    ap (λ n. n ∷ owner_number (destination_of b) ∷ 0 ∷ []) (number_again a (in_range segid_field a refl h.0).1)
    ∙ ap (λ n. a ∷ n ∷ 0 ∷ []) (owner_number_again b h.1.0) ∙ ap (λ n. a ∷ b ∷ n ∷ []) free
found_numbers ns h = absurd (omega (arith, as_many (segid_field ∷ owner_field ∷ zero_field ∷ []) ns h))

get_numbers : (ns : List ℕ) → AllAllowed (segid_field ∷ flags_field ∷ user_field ∷ user_field ∷ []) ns
    → name_number (name_of (get_or ns 0 0)) ∷ get_or ns 1 0 ∷ get_or ns 2 0 ∷ get_or ns 3 0 ∷ [] ≡ ns
get_numbers (a ∷ b ∷ c ∷ d ∷ []) h = ap (λ n. n ∷ b ∷ c ∷ d ∷ []) (number_again a (in_range segid_field a refl h.0).1)
get_numbers ns h = absurd (omega (arith, as_many (segid_field ∷ flags_field ∷ user_field ∷ user_field ∷ []) ns h))

numbers_again : (kind : ℕ) → is_kind_built kind ≡ true → (ns : List ℕ) → are_allowed (fields_of_kind kind) ns ≡ true → numbers_of (body_of kind ns) ≡ ns
numbers_again kind built ns allowed =
    each_kind (λ k. AllAllowed (fields_of_kind k) ns → numbers_of (body_of k ns) ≡ ns) (
      no_numbers ns,
      (
        no_numbers ns,
        (
          no_numbers ns,
          (
            no_numbers ns,
            (
              no_numbers ns,
              (
                one_segid ns,
                (
                  one_segid ns,
                  (
                    one_segid ns,
                    (
                      found_numbers ns,
                      (
                        get_numbers ns,
                        (one_number pages_field (λ n. n) ns (λ n is. refl), (one_number get_cause_field (λ n. n) ns (λ n is. refl), (one_apid ns, tt))),
                      ),
                    ),
                  ),
                ),
              ),
            ),
          ),
        ),
      ),
    )
    kind built (all_allowed (fields_of_kind kind) ns allowed)

-- ---- spellings

length-spelling_of : (r : Record) → length (spelling_of r) ≡ 16 + length (body_spelling r.body)
unfolding spelling_of header_of
length-spelling_of r = omega arith

-- a spelling has a whole header
pub spelling_long : (r : Record) → 16 ≤ length (spelling_of r)
spelling_long r = omega (arith, length-spelling_of r)

body_short : (body : Body) → length (body_spelling body) ≤ 16388
body_short (bodies.Named segid) = lit≤ tt
body_short _ = lit≤ tt

pub spelling_short : (r : Record) → is_valid r ≡ true → length (spelling_of r) ≤ 16404
spelling_short r h = omega (arith, length-spelling_of r, body_short r.body)

-- and begins with its length
pub u32_at-spelling_of : (r : Record) (more : List ℕ) → u32_at (spelling_of r ++ more) 0 ≡ length (spelling_of r)
unfolding spelling_of header_of
u32_at-spelling_of r more =
    number_32 (16 + length (body_spelling r.body)) (omega (arith, body_short r.body)) ∙ sym (length-spelling_of r)

-- the destination and the call
destination_small : (kind : ℕ) (dest : Option Enclave) → is_destination kind dest ≡ true → destination_number dest < 65536
destination_small kind None h = omega arith
destination_small kind (Some enclave) h =
    let small : enclave.0 ≤ 255 = leb-true enclave.0 255 (and_parts (not (is_undirected kind)) (is_enclave enclave.0) h).1 in omega arith

destination_of-number : (kind : ℕ) (dest : Option Enclave) → is_destination kind dest ≡ true → destination_of (destination_number dest) ≡ dest
destination_of-number kind None h = refl
destination_of-number kind (Some enclave) h =
    let small : enclave.0 ≤ 255 = leb-true enclave.0 255 (and_parts (not (is_undirected kind)) (is_enclave enclave.0) h).1 in
    rw (ne_eqb enclave.0 65535 (λ e. omega arith)) refl

call_small : (kind call : ℕ) → is_call kind call ≡ true → call < 2 ^ 32
call_small kind call h =
    elim (cases_Bool (has_call kind)) [
      | inl t ↦ ltb-true call (2 ^ 32) (and_parts _ _ (rw t at h)).1
      | inr f ↦ let none : call ≡ 0 = eqb-true call 0 (rw f at h) in omega arith
    ]

-- the parts of validity
record Valid (r : Record) : Type 0 where
  body : is_body r.body ≡ true
  built : is_kind_built (kind_of r.body) ≡ true
  allowed : are_allowed (fields_of_kind (kind_of r.body)) (numbers_of r.body) ≡ true
  origin : is_enclave r.origin.0 ≡ true
  dest : is_destination (kind_of r.body) r.dest ≡ true
  call : is_call (kind_of r.body) r.call ≡ true

valid_parts : (r : Record) → is_valid r ≡ true → Valid r
unfolding is_valid
valid_parts r h =
    let three = and_parts _ _ h in
    let two = and_parts _ _ three.0 in
    let one = and_parts _ _ two.0 in
    let body = and_parts (is_kind_built (kind_of r.body)) (are_allowed (fields_of_kind (kind_of r.body)) (numbers_of r.body)) one.0 in
    record { body = one.0; built = body.0; allowed = body.1; origin = one.1; dest = two.1; call = three.1 }

-- its body has a spelling
name_range : (z : ℤ) → name_number z ≤ 9223372036854775807 → IsName z
name_range (pos n) h = (omega (arith, ints), omega (arith, ints, h))
name_range (negsuc n) h = absurd (omega (arith, h))

segid_range : (segid : Segid) → is_allowed segid_field (name_number segid.0) ≡ true → IsName segid.0
segid_range segid h = name_range segid.0 (in_range segid_field (name_number segid.0) refl h).1

apid_range : (apid : Apid) → is_allowed apid_field (name_number apid.0) ≡ true → IsName apid.0
apid_range apid h =
    let most = (in_range apid_field (name_number apid.0) refl h).1 in name_range apid.0 (omega (arith, most))

owner_range : (owner : Option Enclave) → is_allowed owner_field (owner_number owner) ≡ true → IsPlainOption owner
owner_range None h = tt
owner_range (Some enclave) h =
    elim (cases_Bool (is_enclave enclave.0)) [
      | inl t ↦ let small : enclave.0 ≤ 255 = leb-true enclave.0 255 t in omega arith
      | inr f ↦ absurd (false≢true (rw f at h))
    ]

spelled_body : (body : Body) → is_body body ≡ true → IsSpelledBody body
spelled_body bodies.Query h = tt
spelled_body bodies.Here h = tt
spelled_body bodies.Register h = tt
spelled_body bodies.Admit h = tt
spelled_body bodies.NameReq h = tt
spelled_body (bodies.Named segid) h = segid_range segid (allowed_numbers (bodies.Named segid) h).0
spelled_body (bodies.Unname segid) h = segid_range segid (allowed_numbers (bodies.Unname segid) h).0
spelled_body (bodies.Lookup segid) h = segid_range segid (allowed_numbers (bodies.Lookup segid) h).0
spelled_body (bodies.Found segid owner) h =
    let allowed = allowed_numbers (bodies.Found segid owner) h in (segid_range segid allowed.0, owner_range owner allowed.1.0)
spelled_body (bodies.Get segid flags uid gid) h = segid_range segid (allowed_numbers (bodies.Get segid flags uid gid) h).0
spelled_body (bodies.Granted pages) h = tt
spelled_body (bodies.GetRefused cause) h = tt
spelled_body (bodies.Release apid) h = apid_range apid (allowed_numbers (bodies.Release apid) h).0
spelled_body _ h = absurd (false≢true h)

pub body_is_spelled : (r : Record) → is_valid r ≡ true → IsSpelledBody r.body
body_is_spelled r h = spelled_body r.body (valid_parts r h).body

-- its length is that of its kind
pub spelled_by : (r : Record) → is_valid r ≡ true → spelling_of r ≡ header_of (length_of_kind (kind_of r.body)) r ++ body_spelling r.body
unfolding spelling_of
spelled_by r h =
    ap (λ n. header_of (16 + n) r ++ body_spelling r.body) (length-fields_spelling (fields_of_kind (kind_of r.body)) (numbers_of r.body) (valid_parts r h).allowed)

pub length_by_kind : (r : Record) → is_valid r ≡ true → length (spelling_of r) ≡ length_of_kind (kind_of r.body)
length_by_kind r h =
    length-spelling_of r ∙ ap (λ n. 16 + n) (length-fields_spelling (fields_of_kind (kind_of r.body)) (numbers_of r.body) (valid_parts r h).allowed)

-- it consists of bytes
pub spelling_bytes : (r : Record) → is_valid r ≡ true → AllByRecursion (λ byte. byte < 256) (spelling_of r)
unfolding spelling_of header_of
spelling_bytes r h =
    let v : Valid r = valid_parts r h in
    let kind : kind_of r.body ≤ 13 = leb-true (kind_of r.body) 13 (and_parts (leb 1 (kind_of r.body)) (leb (kind_of r.body) 13) v.built).1 in
    (omega arith, (omega arith, (omega arith, (omega arith, (omega arith, (omega arith, (omega arith, (omega arith, (omega arith, (omega arith, (omega arith, (omega arith, (omega arith, (omega arith, (omega arith, (omega arith, fields_bytes (fields_of_kind (kind_of r.body)) (numbers_of r.body)))))))))))))))))

pub record_at-spelling_of : (r : Record) (more : List ℕ) → is_valid r ≡ true → record_at (spelling_of r ++ more) ≡ r
unfolding spelling_of header_of record_at
record_at-spelling_of r more h =
    let v : Valid r = valid_parts r h in
    let origin : r.origin.0 ≤ 255 = leb-true r.origin.0 255 v.origin in
    let dest : destination_number r.dest < 65536 = destination_small (kind_of r.body) r.dest v.dest in
    let call : r.call < 2 ^ 32 = call_small (kind_of r.body) r.call v.call in
    rw (
      number_16 r.origin.0 (omega arith),
      number_16 (destination_number r.dest) dest,
      number_32 r.call (omega (arith, call)),
      fields_numbers-spelling (fields_of_kind (kind_of r.body)) (numbers_of r.body) more (all_fit (kind_of r.body)) v.allowed,
      body_again r.body v.body,
      destination_of-number (kind_of r.body) r.dest v.dest,
    )
    refl

pub fault_of-spelling_of : (r : Record) (more : List ℕ) → is_valid r ≡ true → fault_of (spelling_of r ++ more) ≡ None
unfolding spelling_of header_of
fault_of-spelling_of r more h =
    let v : Valid r = valid_parts r h in
    let origin : r.origin.0 ≤ 255 = leb-true r.origin.0 255 v.origin in
    let dest : destination_number r.dest < 65536 = destination_small (kind_of r.body) r.dest v.dest in
    let call : r.call < 2 ^ 32 = call_small (kind_of r.body) r.call v.call in
    let n : ℕ = 16 + length (body_spelling r.body) in
    let small : n ≤ 16404 = omega (arith, body_short r.body) in
    let told = number_32 n (omega (arith, small)) in
    let long : n ≡ length_of_kind (kind_of r.body)
    = ap (λ k. 16 + k) (length-fields_spelling (fields_of_kind (kind_of r.body)) (numbers_of r.body) v.allowed) in
    fault_of-none (spelling_of r ++ more)
    (first_failed-met header_checks (spelling_of r ++ more) (
      λ _. rw told (and_from _ _ (le-leb 16 n (omega arith)) (le-leb n 16404 small)),
      (
        λ _. refl,
        (
          λ _. v.built,
          (
            λ _. rw told (eq-eqb _ _ long),
            (
              λ _. rw (number_16 r.origin.0 (omega arith)) v.origin,
              (
                λ _. rw (number_16 (destination_number r.dest) dest, destination_of-number (kind_of r.body) r.dest v.dest) v.dest,
                (λ _. refl, (λ _. rw (number_32 r.call (omega (arith, call))) v.call, tt)),
              ),
            ),
          ),
        ),
      ),
    ))
    (fields_fault-spelling 16 (fields_of_kind (kind_of r.body)) (numbers_of r.body) more (all_fit (kind_of r.body)) v.allowed)

destination_number-of : (number : ℕ) → destination_number (destination_of number) ≡ number
destination_number-of number =
    elim (cases_Bool (eqb number 65535)) [
      | inl t ↦ rw t (sym (eqb-true number 65535 t))
      | inr f ↦ rw f refl
    ]

-- the length that the front of a record without a bad field tells
pub told_kind : (bytes : List ℕ) → 6 ≤ length bytes → fault_of bytes ≡ None → u32_at bytes 0 ≡ length_of_kind (kind_at bytes)
told_kind (x0 ∷ x1 ∷ x2 ∷ x3 ∷ x4 ∷ x5 ∷ more) n e =
    let m = met-first_failed header_checks (x0 ∷ x1 ∷ x2 ∷ x3 ∷ x4 ∷ x5 ∷ more) (none-fault_of (x0 ∷ x1 ∷ x2 ∷ x3 ∷ x4 ∷ x5 ∷ more) e).0 in
    eqb-true _ _ (m.1.1.1.0 (omega arith))
told_kind _ n e = absurd (omega arith)

-- whole bytes without a bad field are the spelling of the record that they name
whole_bytes : (bytes : List ℕ) → IsBytes bytes → length_of_kind (kind_at bytes) ≤ length bytes → fault_of bytes ≡ None
    → (is_valid (record_at bytes) ≡ true) × (bytes ≡ spelling_of (record_at bytes) ++ drop (fields_length (fields_of_kind (kind_at bytes))) (drop 16 bytes))
unfolding spelling_of header_of record_at is_valid
whole_bytes (x0 ∷ x1 ∷ x2 ∷ x3 ∷ x4 ∷ x5 ∷ x6 ∷ x7 ∷ x8 ∷ x9 ∷ x10 ∷ x11 ∷ x12 ∷ x13 ∷ x14 ∷ x15 ∷ more) h n e =
    let bytes : List ℕ = x0 ∷ x1 ∷ x2 ∷ x3 ∷ x4 ∷ x5 ∷ x6 ∷ x7 ∷ x8 ∷ x9 ∷ x10 ∷ x11 ∷ x12 ∷ x13 ∷ x14 ∷ x15 ∷ more in
    let none = none-fault_of bytes e in
    let m = met-first_failed header_checks bytes none.0 in
    let fields = fields_of_kind x5 in
    let w : AreWhole fields more = are_whole 16 fields more (is_bytes-drop 16 bytes h) (omega arith) none.1 in
    let ns : List ℕ = fields_numbers fields more in
    let built : is_kind_built x5 ≡ true = m.1.1.0 (omega arith) in
    let kind : kind_of (body_of x5 ns) ≡ x5 = kind_again x5 built ns in
    let numbers : numbers_of (body_of x5 ns) ≡ ns = numbers_again x5 built ns w.allowed in
    let origin : is_enclave (x6 + x7 * 256) ≡ true = m.1.1.1.1.0 (omega arith) in
    let dest : is_destination x5 (destination_of (x8 + x9 * 256)) ≡ true = m.1.1.1.1.1.0 (omega arith) in
    let call : is_call x5 (x12 + x13 * 256 + (x14 + x15 * 256) * 65536) ≡ true = m.1.1.1.1.1.1.1.0 (omega arith) in
    let told : x0 + x1 * 256 + (x2 + x3 * 256) * 65536 ≡ length_of_kind x5 = eqb-true _ _ (m.1.1.1.0 (omega arith)) in
    let long : x0 + x1 * 256 + (x2 + x3 * 256) * 65536 ≡ 16 + length (fields_spelling fields ns)
    = told ∙ sym (ap (λ k. 16 + k) (length-fields_spelling fields ns w.allowed)) in
    let e4 : x4 ≡ 1 = eqb-true _ _ (m.1.0 (omega arith)) in
    let zero : x10 + x11 * 256 ≡ 0 = eqb-true _ _ (m.1.1.1.1.1.1.0 (omega arith)) in
    let e10 : x10 ≡ 0 = omega arith in
    let e11 : x11 ≡ 0 = omega arith in
    let length_bytes = bytes_32 x0 x1 x2 x3 (h 0) (h 1) (h 2) (h 3) in
    let origin_bytes = bytes_16 x6 x7 (h 6) (h 7) in
    let dest_bytes = bytes_16 x8 x9 (h 8) (h 9) in
    let call_bytes = bytes_32 x12 x13 x14 x15 (h 12) (h 13) (h 14) (h 15) in
    let spelled = w.spelled in (
      rw (kind, numbers) (and_from _ _ (and_from _ _ (and_from _ _ (and_from _ _ built w.allowed) origin) dest) call),
      rw (kind, numbers, destination_number-of (x8 + x9 * 256)) (cc),
    )
whole_bytes _ h n e = absurd (omega arith)

-- bytes without a bad field that are as long as they tell are the spelling of the record that they name
pub record IsWhole (bytes : List ℕ) : Type 0 where
  pub valid : is_valid (record_at bytes) ≡ true
  pub spelled : bytes ≡ spelling_of (record_at bytes) ++ drop (u32_at bytes 0) bytes

pub is_whole : (bytes : List ℕ) → IsBytes bytes → 16 ≤ length bytes → u32_at bytes 0 ≤ length bytes → fault_of bytes ≡ None → IsWhole bytes
is_whole bytes h n long e =
    let told : u32_at bytes 0 ≡ length_of_kind (kind_at bytes) = told_kind bytes (omega (arith, n)) e in
    let w = whole_bytes bytes h (omega (arith, told, long)) e in
    record {
      valid = w.0;
      spelled = w.1 ∙ ap (λ xs. spelling_of (record_at bytes) ++ xs)
          (drop-drop (fields_length (fields_of_kind (kind_at bytes))) 16 bytes ∙ ap (λ k. drop k bytes) (sym told));
    }

-- the length that they tell is at most that of a longest record
pub told_length : (bytes : List ℕ) → 4 ≤ length bytes → fault_of bytes ≡ None → u32_at bytes 0 ≤ 16404
told_length bytes n e =
    let in_range = (met-first_failed header_checks bytes (none-fault_of bytes e).0).0 n in
    let told : u32_at (take 4 bytes) 0 ≤ 16404 = leb-true (u32_at (take 4 bytes) 0) 16404 (and_parts (leb 16 (u32_at (take 4 bytes) 0)) (leb (u32_at (take 4 bytes) 0) 16404) in_range).1 in
    omega (arith, told, get_or-take 4 bytes 0 0 (lit< tt), get_or-take 4 bytes 1 0 (lit< tt), get_or-take 4 bytes 2 0 (lit< tt), get_or-take 4 bytes 3 0 (lit< tt))

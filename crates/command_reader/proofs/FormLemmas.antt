-- Words that are read for a command are the words of that command, and its numbers are in their ranges.
use Rattle.std.proofs.Common.{◌≡◌, ℕ, pos, List, [], ◌∷◌, length, true, false, Result, Ok, Err, decimal, codes, refl, ap, ◌∙◌, arith, inl, inr}
use Rattle.std.proofs.lemmas.Bool.{and_parts, eqb-true, cases_Bool}
use Rattle.std.proofs.lemmas.Int.{ints}
use Rattle.std.proofs.lemmas.Slice.Eq.{bytes_eq-Decides}
use Rattle.std.specs.Option.{option_map_or}
use Rattle.xm_num.specs.declared.Access.{Access}
use Rattle.xm_num.specs.declared.Access.TheVariants as accesses
use Rattle.xm_num.specs.declared.Kind.{Kind}
use Rattle.xm_num.specs.declared.Kind.TheVariants as kinds
use Rattle.xm_num.specs.declared.Want.{Want}
use Rattle.xm_num.specs.declared.Want.TheVariants as wants
use Rattle.xemem_language.specs.declared.command.Command.{Command}
use Rattle.xemem_language.specs.declared.command.Command.TheVariants as commands
use Rattle.xemem_language.specs.Ranges.{IsInRange, IsName, IsBootable, most16, most32, most64}
use Rattle.xemem_language.specs.Spelling.{command_words, kind_word, access_word, want_word}
use Rattle.text_words.specs.Laws.{NumberLaws}
use Rattle.command_reader.specs.declared.fault.SyntaxFault.{SyntaxFault}
use Rattle.command_reader.specs.Forms.{Form, forms, form_of, fits, command_of, word, either, enclave, id, wide, name, kind, access, want, misfit, ◌>>=◌, pool_form, host_form, host_ns_form, boot_form, boot_ns_form, proc_form, alloc_form, free_form, make_form, remove_form, get_form, release_form, attach_form, detach_form, exit_form, touch_form, deliver_form, settle_form, kill_form, stop_form, maps_form, link_form, routes_form, pins_form, show_four, show_three, show_two}
use Rattle.command_reader.proofs.SlotLemmas.{Made, a_number, a_keyword, a_mode, an_either, IsNumberAt, IsEither, either_spells}

-- ---- the slots of commands

an_enclave : (laws : NumberLaws) (i : ℕ) (words : List (List ℕ)) (f : ℕ → Result Command SyntaxFault) (command : Command) → (enclave i words >>= f) ≡ Ok command → Made (IsNumberAt i 0 most16 words) f command
an_enclave laws i words f command h = a_number laws i 0 most16 words f command (omega arith) h

an_id : (laws : NumberLaws) (i : ℕ) (words : List (List ℕ)) (f : ℕ → Result Command SyntaxFault) (command : Command) → (id i words >>= f) ≡ Ok command → Made (IsNumberAt i 0 most32 words) f command
an_id laws i words f command h = a_number laws i 0 most32 words f command (omega arith) h

a_wide : (laws : NumberLaws) (i : ℕ) (words : List (List ℕ)) (f : ℕ → Result Command SyntaxFault) (command : Command) → (wide i words >>= f) ≡ Ok command → Made (IsNumberAt i 0 most64 words) f command
a_wide laws i words f command h = a_number laws i 0 most64 words f command (omega arith) h

-- what was found meets more than what it was found for
more : {A B : Type 0} (P Q : A → Type 0) (f : A → Result B SyntaxFault) (b : B) → ((a : A) → P a → Q a) → Made P f b → Made Q f b
more P Q f b gives m = record { found = m.found; is = gives m.found m.is; rest = m.rest }

a_name : (laws : NumberLaws) (i : ℕ) (words : List (List ℕ)) (f : ℕ → Result Command SyntaxFault) (command : Command) → (name i words >>= f) ≡ Ok command → Made (λ n. (word i words ≡ decimal n) × IsName (pos n)) f command
a_name laws i words f command h =
    more _ (λ n. (word i words ≡ decimal n) × IsName (pos n)) f command (λ n is. (is.0, (omega (arith, ints), omega (arith, ints, is.1.1)))) (a_number laws i 0 9223372036854775807 words f command (omega arith) h)

kind_is : (i : ℕ) (words : List (List ℕ)) (kind : Kind) → IsEither i (codes "cokernel") kinds.Cokernel (codes "vm") kinds.Vm words kind → (word i words ≡ kind_word kind) × IsBootable kind
kind_is i words kind (inl is) = rw (← is.1) (is.0, tt)
kind_is i words kind (inr is) = rw (← is.1) (is.0, tt)

a_kind : (i : ℕ) (words : List (List ℕ)) (f : Kind → Result Command SyntaxFault) (command : Command) → (kind i words >>= f) ≡ Ok command → Made (λ k. (word i words ≡ kind_word k) × IsBootable k) f command
a_kind i words f command h = more _ _ f command (kind_is i words) (an_either i (codes "cokernel") kinds.Cokernel (codes "vm") kinds.Vm words f command h)

access_is : (i : ℕ) (words : List (List ℕ)) (access : Access) → IsEither i (codes "ro") accesses.ReadOnly (codes "rw") accesses.ReadWrite words access → word i words ≡ access_word access
access_is i words access (inl is) = rw (← is.1) is.0
access_is i words access (inr is) = rw (← is.1) is.0

an_access : (i : ℕ) (words : List (List ℕ)) (f : Access → Result Command SyntaxFault) (command : Command) → (access i words >>= f) ≡ Ok command → Made (λ a. word i words ≡ access_word a) f command
an_access i words f command h = more _ _ f command (access_is i words) (an_either i (codes "ro") accesses.ReadOnly (codes "rw") accesses.ReadWrite words f command h)

want_is : (i : ℕ) (words : List (List ℕ)) (want : Want) → IsEither i (codes "r") wants.Read (codes "w") wants.Write words want → word i words ≡ want_word want
want_is i words want (inl is) = rw (← is.1) is.0
want_is i words want (inr is) = rw (← is.1) is.0

a_want : (i : ℕ) (words : List (List ℕ)) (f : Want → Result Command SyntaxFault) (command : Command) → (want i words >>= f) ≡ Ok command → Made (λ w. word i words ≡ want_word w) f command
a_want i words f command h = more _ _ f command (want_is i words) (an_either i (codes "r") wants.Read (codes "w") wants.Write words f command h)

-- ---- lists of so many words

two : (words : List (List ℕ)) → length words ≡ 2 → words ≡ word 0 words ∷ word 1 words ∷ []
two [] h = absurd (omega arith)
two (a ∷ []) h = absurd (omega arith)
two (a ∷ b ∷ []) h = refl
two (a ∷ b ∷ c ∷ rest) h = absurd (omega arith)

three : (words : List (List ℕ)) → length words ≡ 3 → words ≡ word 0 words ∷ word 1 words ∷ word 2 words ∷ []
three [] h = absurd (omega arith)
three (a ∷ words) h = ap (λ ws. a ∷ ws) (two words (omega arith))

four : (words : List (List ℕ)) → length words ≡ 4 → words ≡ word 0 words ∷ word 1 words ∷ word 2 words ∷ word 3 words ∷ []
four [] h = absurd (omega arith)
four (a ∷ words) h = ap (λ ws. a ∷ ws) (three words (omega arith))

five : (words : List (List ℕ)) → length words ≡ 5 → words ≡ word 0 words ∷ word 1 words ∷ word 2 words ∷ word 3 words ∷ word 4 words ∷ []
five [] h = absurd (omega arith)
five (a ∷ words) h = ap (λ ws. a ∷ ws) (four words (omega arith))

six : (words : List (List ℕ)) → length words ≡ 6 → words ≡ word 0 words ∷ word 1 words ∷ word 2 words ∷ word 3 words ∷ word 4 words ∷ word 5 words ∷ []
six [] h = absurd (omega arith)
six (a ∷ words) h = ap (λ ws. a ∷ ws) (five words (omega arith))

seven : (words : List (List ℕ)) → length words ≡ 7 → words ≡ word 0 words ∷ word 1 words ∷ word 2 words ∷ word 3 words ∷ word 4 words ∷ word 5 words ∷ word 6 words ∷ []
seven [] h = absurd (omega arith)
seven (a ∷ words) h = ap (λ ws. a ∷ ws) (six words (omega arith))

-- ---- one form each

pub record IsSpelled (words : List (List ℕ)) (command : Command) : Type 0 where
  pub is : words ≡ command_words command
  pub ranges : IsInRange command

record HasForm (first : List ℕ) (count : ℕ) (words : List (List ℕ)) : Type 0 where
  count_is : length words ≡ count
  first_is : word 0 words ≡ first

-- what the form reads was spelled so
abbrev IsSpellingOf : List ℕ → ℕ → (List (List ℕ) → Result Command SyntaxFault) → Type 0
IsSpellingOf first count read = (words : List (List ℕ)) (command : Command) → HasForm first count words → read words ≡ Ok command → IsSpelled words command

pool_spells : NumberLaws → IsSpellingOf (codes "pool") 2 pool_form
unfolding pool_form
pool_spells laws words command form h =
    let blocks = a_number laws 1 1 4096 words _ command (omega arith) h in
    let is : commands.Pool blocks.found ≡ command = cc (blocks.rest) in
    let shape = two words form.count_is in
    rw (← is) (record { is = cc (shape, form.first_is, blocks.is.0); ranges = blocks.is.1 })

host_spells : NumberLaws → IsSpellingOf (codes "host") 2 host_form
unfolding host_form
host_spells laws words command form h =
    let blocks = a_number laws 1 1 4096 words _ command (omega arith) h in
    let is : commands.Host blocks.found false ≡ command = cc (blocks.rest) in
    let shape = two words form.count_is in
    rw (← is) (record { is = cc (shape, form.first_is, blocks.is.0); ranges = blocks.is.1 })

host_ns_spells : NumberLaws → IsSpellingOf (codes "host") 3 host_ns_form
unfolding host_ns_form
host_ns_spells laws words command form h =
    let blocks = a_number laws 1 1 4096 words _ command (omega arith) h in
    let ns = a_keyword 2 (codes "ns") words _ command blocks.rest in
    let is : commands.Host blocks.found true ≡ command = cc (ns.rest) in
    let shape = three words form.count_is in
    rw (← is) (record { is = cc (shape, form.first_is, blocks.is.0, ns.is); ranges = blocks.is.1 })

boot_spells : NumberLaws → IsSpellingOf (codes "boot") 6 boot_form
unfolding boot_form
boot_spells laws words command form h =
    let kind = a_kind 1 words _ command h in
    let under = a_keyword 2 (codes "under") words _ command kind.rest in
    let parent = an_enclave laws 3 words _ command under.rest in
    let with = a_keyword 4 (codes "blocks") words _ command parent.rest in
    let blocks = a_number laws 5 1 4096 words _ command (omega arith) with.rest in
    let is : commands.Boot kind.found (record { 0 = parent.found }) blocks.found false ≡ command = cc (blocks.rest) in
    let shape = six words form.count_is in
    rw (← is) (record { is = cc (shape, form.first_is, kind.is.0, under.is, parent.is.0, with.is, blocks.is.0); ranges = (kind.is.1, parent.is.1, blocks.is.1) })

boot_ns_spells : NumberLaws → IsSpellingOf (codes "boot") 7 boot_ns_form
unfolding boot_ns_form
boot_ns_spells laws words command form h =
    let kind = a_kind 1 words _ command h in
    let under = a_keyword 2 (codes "under") words _ command kind.rest in
    let parent = an_enclave laws 3 words _ command under.rest in
    let with = a_keyword 4 (codes "blocks") words _ command parent.rest in
    let blocks = a_number laws 5 1 4096 words _ command (omega arith) with.rest in
    let ns = a_keyword 6 (codes "ns") words _ command blocks.rest in
    let is : commands.Boot kind.found (record { 0 = parent.found }) blocks.found true ≡ command = cc (ns.rest) in
    let shape = seven words form.count_is in
    rw (← is) (record { is = cc (shape, form.first_is, kind.is.0, under.is, parent.is.0, with.is, blocks.is.0, ns.is); ranges = (kind.is.1, parent.is.1, blocks.is.1) })

proc_spells : NumberLaws → IsSpellingOf (codes "proc") 4 proc_form
unfolding proc_form
proc_spells laws words command form h =
    let e = an_enclave laws 1 words _ command h in
    let uid = an_id laws 2 words _ command e.rest in
    let gid = an_id laws 3 words _ command uid.rest in
    let is : commands.Proc (record { 0 = e.found }) uid.found gid.found ≡ command = cc (gid.rest) in
    let shape = four words form.count_is in
    rw (← is) (record { is = cc (shape, form.first_is, e.is.0, uid.is.0, gid.is.0); ranges = (e.is.1, uid.is.1, gid.is.1) })

alloc_spells : NumberLaws → IsSpellingOf (codes "alloc") 5 alloc_form
unfolding alloc_form
alloc_spells laws words command form h =
    let e = an_enclave laws 1 words _ command h in
    let p = an_id laws 2 words _ command e.rest in
    let at = a_number laws 3 1 16777215 words _ command (omega arith) p.rest in
    let pages = a_number laws 4 1 4096 words _ command (omega arith) at.rest in
    let is : commands.Alloc (record { 0 = e.found }) (record { 0 = p.found }) (record { 0 = at.found }) pages.found ≡ command = cc (pages.rest) in
    let shape = five words form.count_is in
    rw (← is) (record { is = cc (shape, form.first_is, e.is.0, p.is.0, at.is.0, pages.is.0); ranges = (e.is.1, p.is.1, at.is.1, pages.is.1) })

free_spells : NumberLaws → IsSpellingOf (codes "free") 5 free_form
unfolding free_form
free_spells laws words command form h =
    let e = an_enclave laws 1 words _ command h in
    let p = an_id laws 2 words _ command e.rest in
    let at = a_number laws 3 1 16777215 words _ command (omega arith) p.rest in
    let pages = a_number laws 4 1 4096 words _ command (omega arith) at.rest in
    let is : commands.Free (record { 0 = e.found }) (record { 0 = p.found }) (record { 0 = at.found }) pages.found ≡ command = cc (pages.rest) in
    let shape = five words form.count_is in
    rw (← is) (record { is = cc (shape, form.first_is, e.is.0, p.is.0, at.is.0, pages.is.0); ranges = (e.is.1, p.is.1, at.is.1, pages.is.1) })

make_spells : NumberLaws → IsSpellingOf (codes "make") 6 make_form
unfolding make_form
make_spells laws words command form h =
    let e = an_enclave laws 1 words _ command h in
    let p = an_id laws 2 words _ command e.rest in
    let addr = a_wide laws 3 words _ command p.rest in
    let size = a_wide laws 4 words _ command addr.rest in
    let mode = a_mode 5 words _ command size.rest in
    let is : commands.Make (record { 0 = e.found }) (record { 0 = p.found }) addr.found size.found mode.found ≡ command = cc (mode.rest) in
    let shape = six words form.count_is in
    rw (← is) (record { is = cc (shape, form.first_is, e.is.0, p.is.0, addr.is.0, size.is.0, mode.is.0); ranges = (e.is.1, p.is.1, addr.is.1, size.is.1, mode.is.1) })

remove_spells : NumberLaws → IsSpellingOf (codes "remove") 4 remove_form
unfolding remove_form
remove_spells laws words command form h =
    let e = an_enclave laws 1 words _ command h in
    let p = an_id laws 2 words _ command e.rest in
    let segid = a_name laws 3 words _ command p.rest in
    let is : commands.Remove (record { 0 = e.found }) (record { 0 = p.found }) (record { 0 = pos segid.found }) ≡ command = cc (segid.rest) in
    let shape = four words form.count_is in
    rw (← is) (record { is = cc (shape, form.first_is, e.is.0, p.is.0, segid.is.0); ranges = (e.is.1, p.is.1, segid.is.1) })

get_spells : NumberLaws → IsSpellingOf (codes "get") 5 get_form
unfolding get_form
get_spells laws words command form h =
    let e = an_enclave laws 1 words _ command h in
    let p = an_id laws 2 words _ command e.rest in
    let segid = a_name laws 3 words _ command p.rest in
    let access = an_access 4 words _ command segid.rest in
    let is : commands.Get (record { 0 = e.found }) (record { 0 = p.found }) (record { 0 = pos segid.found }) access.found ≡ command = cc (access.rest) in
    let shape = five words form.count_is in
    rw (← is) (record { is = cc (shape, form.first_is, e.is.0, p.is.0, segid.is.0, access.is); ranges = (e.is.1, p.is.1, segid.is.1) })

release_spells : NumberLaws → IsSpellingOf (codes "release") 4 release_form
unfolding release_form
release_spells laws words command form h =
    let e = an_enclave laws 1 words _ command h in
    let p = an_id laws 2 words _ command e.rest in
    let apid = a_name laws 3 words _ command p.rest in
    let is : commands.Release (record { 0 = e.found }) (record { 0 = p.found }) (record { 0 = pos apid.found }) ≡ command = cc (apid.rest) in
    let shape = four words form.count_is in
    rw (← is) (record { is = cc (shape, form.first_is, e.is.0, p.is.0, apid.is.0); ranges = (e.is.1, p.is.1, apid.is.1) })

attach_spells : NumberLaws → IsSpellingOf (codes "attach") 7 attach_form
unfolding attach_form
attach_spells laws words command form h =
    let e = an_enclave laws 1 words _ command h in
    let p = an_id laws 2 words _ command e.rest in
    let apid = a_name laws 3 words _ command p.rest in
    let offset = a_wide laws 4 words _ command apid.rest in
    let size = a_wide laws 5 words _ command offset.rest in
    let addr = a_wide laws 6 words _ command size.rest in
    let is : commands.Attach (record { 0 = e.found }) (record { 0 = p.found }) (record { 0 = pos apid.found }) offset.found size.found addr.found ≡ command = cc (addr.rest) in
    let shape = seven words form.count_is in
    rw (← is) (record { is = cc (shape, form.first_is, e.is.0, p.is.0, apid.is.0, offset.is.0, size.is.0, addr.is.0); ranges = (e.is.1, p.is.1, apid.is.1, offset.is.1, size.is.1, addr.is.1) })

detach_spells : NumberLaws → IsSpellingOf (codes "detach") 4 detach_form
unfolding detach_form
detach_spells laws words command form h =
    let e = an_enclave laws 1 words _ command h in
    let p = an_id laws 2 words _ command e.rest in
    let addr = a_wide laws 3 words _ command p.rest in
    let is : commands.Detach (record { 0 = e.found }) (record { 0 = p.found }) addr.found ≡ command = cc (addr.rest) in
    let shape = four words form.count_is in
    rw (← is) (record { is = cc (shape, form.first_is, e.is.0, p.is.0, addr.is.0); ranges = (e.is.1, p.is.1, addr.is.1) })

exit_spells : NumberLaws → IsSpellingOf (codes "exit") 3 exit_form
unfolding exit_form
exit_spells laws words command form h =
    let e = an_enclave laws 1 words _ command h in
    let p = an_id laws 2 words _ command e.rest in
    let is : commands.Exit (record { 0 = e.found }) (record { 0 = p.found }) ≡ command = cc (p.rest) in
    let shape = three words form.count_is in
    rw (← is) (record { is = cc (shape, form.first_is, e.is.0, p.is.0); ranges = (e.is.1, p.is.1) })

touch_spells : NumberLaws → IsSpellingOf (codes "touch") 5 touch_form
unfolding touch_form
touch_spells laws words command form h =
    let e = an_enclave laws 1 words _ command h in
    let p = an_id laws 2 words _ command e.rest in
    let addr = a_wide laws 3 words _ command p.rest in
    let want = a_want 4 words _ command addr.rest in
    let is : commands.Touch (record { 0 = e.found }) (record { 0 = p.found }) addr.found want.found ≡ command = cc (want.rest) in
    let shape = five words form.count_is in
    rw (← is) (record { is = cc (shape, form.first_is, e.is.0, p.is.0, addr.is.0, want.is); ranges = (e.is.1, p.is.1, addr.is.1) })

deliver_spells : NumberLaws → IsSpellingOf (codes "deliver") 4 deliver_form
unfolding deliver_form
deliver_spells laws words command form h =
    let x = an_enclave laws 1 words _ command h in
    let y = an_enclave laws 2 words _ command x.rest in
    let count = a_number laws 3 1 most32 words _ command (omega arith) y.rest in
    let is : commands.Deliver (record { 0 = x.found }) (record { 0 = y.found }) count.found ≡ command = cc (count.rest) in
    let shape = four words form.count_is in
    rw (← is) (record { is = cc (shape, form.first_is, x.is.0, y.is.0, count.is.0); ranges = (x.is.1, y.is.1, count.is.1) })

settle_spells : NumberLaws → IsSpellingOf (codes "settle") 2 settle_form
unfolding settle_form
settle_spells laws words command form h =
    let most = an_id laws 1 words _ command h in
    let is : commands.Settle most.found ≡ command = cc (most.rest) in
    let shape = two words form.count_is in
    rw (← is) (record { is = cc (shape, form.first_is, most.is.0); ranges = most.is.1 })

kill_spells : NumberLaws → IsSpellingOf (codes "kill") 4 kill_form
unfolding kill_form
kill_spells laws words command form h =
    let e = an_enclave laws 1 words _ command h in
    let with = a_keyword 2 (codes "cut") words _ command e.rest in
    let cut = an_id laws 3 words _ command with.rest in
    let is : commands.Kill (record { 0 = e.found }) cut.found ≡ command = cc (cut.rest) in
    let shape = four words form.count_is in
    rw (← is) (record { is = cc (shape, form.first_is, e.is.0, with.is, cut.is.0); ranges = (e.is.1, cut.is.1) })

stop_spells : NumberLaws → IsSpellingOf (codes "stop") 2 stop_form
unfolding stop_form
stop_spells laws words command form h =
    let e = an_enclave laws 1 words _ command h in
    let is : commands.Stop (record { 0 = e.found }) ≡ command = cc (e.rest) in
    let shape = two words form.count_is in
    rw (← is) (record { is = cc (shape, form.first_is, e.is.0); ranges = e.is.1 })

-- what is shown

maps_spells : (laws : NumberLaws) (words : List (List ℕ)) (command : Command) → HasForm (codes "show") 4 words → word 1 words ≡ codes "maps" → maps_form words ≡ Ok command → IsSpelled words command
unfolding maps_form
maps_spells laws words command form keyword h =
    let e = an_enclave laws 2 words _ command h in
    let p = an_id laws 3 words _ command e.rest in
    let is : commands.ShowMaps (record { 0 = e.found }) (record { 0 = p.found }) ≡ command = cc (p.rest) in
    let shape = four words form.count_is in
    rw (← is) (record { is = cc (shape, form.first_is, keyword, e.is.0, p.is.0); ranges = (e.is.1, p.is.1) })

link_spells : (laws : NumberLaws) (words : List (List ℕ)) (command : Command) → HasForm (codes "show") 4 words → word 1 words ≡ codes "link" → link_form words ≡ Ok command → IsSpelled words command
unfolding link_form
link_spells laws words command form keyword h =
    let x = an_enclave laws 2 words _ command h in
    let y = an_enclave laws 3 words _ command x.rest in
    let is : commands.ShowLink (record { 0 = x.found }) (record { 0 = y.found }) ≡ command = cc (y.rest) in
    let shape = four words form.count_is in
    rw (← is) (record { is = cc (shape, form.first_is, keyword, x.is.0, y.is.0); ranges = (x.is.1, y.is.1) })

routes_spells : (laws : NumberLaws) (words : List (List ℕ)) (command : Command) → HasForm (codes "show") 3 words → word 1 words ≡ codes "routes" → routes_form words ≡ Ok command → IsSpelled words command
unfolding routes_form
routes_spells laws words command form keyword h =
    let e = an_enclave laws 2 words _ command h in
    let is : commands.ShowRoutes (record { 0 = e.found }) ≡ command = cc (e.rest) in
    let shape = three words form.count_is in
    rw (← is) (record { is = cc (shape, form.first_is, keyword, e.is.0); ranges = e.is.1 })

pins_spells : (laws : NumberLaws) (words : List (List ℕ)) (command : Command) → HasForm (codes "show") 3 words → word 1 words ≡ codes "pins" → pins_form words ≡ Ok command → IsSpelled words command
unfolding pins_form
pins_spells laws words command form keyword h =
    let e = an_enclave laws 2 words _ command h in
    let is : commands.ShowPins (record { 0 = e.found }) ≡ command = cc (e.rest) in
    let shape = three words form.count_is in
    rw (← is) (record { is = cc (shape, form.first_is, keyword, e.is.0); ranges = e.is.1 })

-- a choice between two ways of reading, by a keyword
chosen_form : (one other : List ℕ) (first second : List (List ℕ) → Result Command SyntaxFault) (words : List (List ℕ)) (command : Command) → (either 1 one first other second words >>= (λ form. form words)) ≡ Ok command
    → (word 1 words ≡ one → first words ≡ Ok command → IsSpelled words command) → (word 1 words ≡ other → second words ≡ Ok command → IsSpelled words command) → IsSpelled words command
chosen_form one other first second words command h by_first by_second = of (an_either 1 one first other second words (λ form. form words) command h)
  where
    of : Made (IsEither 1 one first other second words) (λ form. form words) command → IsSpelled words command
    of m = elim m.is [
      | inl is ↦ by_first is.0 (ap (λ form. form words) is.1 ∙ m.rest)
      | inr is ↦ by_second is.0 (ap (λ form. form words) is.1 ∙ m.rest)
    ]

show_four_spells : NumberLaws → IsSpellingOf (codes "show") 4 show_four
unfolding show_four
show_four_spells laws words command form h = chosen_form (codes "maps") (codes "link") maps_form link_form words command h (maps_spells laws words command form) (link_spells laws words command form)

show_three_spells : NumberLaws → IsSpellingOf (codes "show") 3 show_three
unfolding show_three
show_three_spells laws words command form h = chosen_form (codes "routes") (codes "pins") routes_form pins_form words command h (routes_spells laws words command form) (pins_spells laws words command form)

show_two_spells : NumberLaws → IsSpellingOf (codes "show") 2 show_two
unfolding show_two
show_two_spells laws words command form h =
    let shape = two words form.count_is in
    elim (either_spells 1 (codes "pool") commands.ShowPool (codes "names") commands.ShowNames words command h) [
      | inl is ↦ rw (← is.1) (record { is = cc (shape, form.first_is, is.0); ranges = tt })
      | inr is ↦ rw (← is.1) (record { is = cc (shape, form.first_is, is.0); ranges = tt })
    ]

-- ---- the table of forms

abbrev AreSpellings : List Form → Type 0
AreSpellings [] = Unit {0}
AreSpellings (form ∷ table) = IsSpellingOf form.first form.count form.read × AreSpellings table

forms_are_spellings : NumberLaws → AreSpellings forms
forms_are_spellings laws =
    (pool_spells laws, (host_spells laws, (host_ns_spells laws, (boot_spells laws, (boot_ns_spells laws, (proc_spells laws, (alloc_spells laws, (free_spells laws, (make_spells laws, (remove_spells laws, (get_spells laws, (release_spells laws, (attach_spells laws, (detach_spells laws, (exit_spells laws, (touch_spells laws, (deliver_spells laws, (settle_spells laws, (kill_spells laws, (stop_spells laws, (show_four_spells laws, (show_three_spells laws, (show_two_spells laws, tt)))))))))))))))))))))))

has_form : (form : Form) (words : List (List ℕ)) → fits words form ≡ true → HasForm form.first form.count words
has_form form words test = let parts = and_parts _ _ test in record { count_is = eqb-true _ _ parts.0; first_is = (bytes_eq-Decides _ _).0 parts.1 }

-- what the first form that fits reads was spelled so
found_spells : (table : List Form) (words : List (List ℕ)) (command : Command) (otherwise : SyntaxFault) → AreSpellings table → option_map_or (λ form. form.read words) (form_of table words) (Err otherwise) ≡ Ok command → IsSpelled words command
found_spells [] words command otherwise all h = cc
found_spells (form ∷ table) words command otherwise all h = elim (cases_Bool (fits words form)) [
  | inl test ↦ all.0 words command (has_form form words test) (rw test at h)
  | inr miss ↦ found_spells table words command otherwise all.1 (rw miss at h)
]

pub command_of-spells : (laws : NumberLaws) (words : List (List ℕ)) (command : Command) → command_of words ≡ Ok command → IsSpelled words command
unfolding command_of
command_of-spells laws words command h = found_spells forms words command (misfit words) (forms_are_spellings laws) h

-- How the table's rows and the first eight words of a line tell what the line says.
use Rattle.std.proofs.Common.{◌≡◌, ◌<◌, ◌≤◌, ℕ, List, [], ◌∷◌, length, get_or, take, Bool, true, false, eqb, leb, Option, None, Some, Result, Err, refl, sym, ap, ◌∙◌, arith, inl, inr}
use Rattle.std.proofs.lemmas.Bool.{ne_eqb, and_left, and_parts, cases_lt, eqb-true, leb-true, cases_Bool}
use Rattle.std.proofs.lemmas.List.{length-take-le, take_all}
use Rattle.std.proofs.lemmas.List.Folds.{list_all_at}
use Rattle.std.specs.List.{list_all}
use Rattle.std.specs.Option.{option_map}
use Rattle.xemem_language.specs.declared.command.Command.{Command}
use Rattle.command_reader.specs.declared.fault.SyntaxFault.{SyntaxFault}
use Rattle.command_reader.specs.Forms.{Form, forms, form_of, begins, misfit, command_of}
use Rattle.command_reader.specs.Rows.{Entry, count_of, is_counted}
use Rattle.command_reader.specs.Scenario.{is_comment, as_said, line_command}
use Rattle.text_words.specs.Words.{words_of}

-- each row has the number of words of its form
pub counted_at : (table : List Entry) (i : ℕ) (d : Entry) → is_counted table ≡ true → i < length table → (get_or table i d).1 ≡ count_of (get_or table i d).2
counted_at table i d all lt =
    let p : Entry → Bool = λ entry. eqb entry.1 (count_of entry.2) in
    elim (cases_Bool (p (get_or table i d))) [ inl holds ↦ eqb-true _ _ holds | inr fails ↦ let e = list_all_at p table i d lt fails in cc ]

-- the form that was found is read
pub found_is_read : (words : List (List ℕ)) (read : List (List ℕ) → Result Command SyntaxFault) → option_map (λ f. f.read) (form_of forms words) ≡ Some read → read words ≡ command_of words
unfolding command_of
found_is_read words read found = by (form_of forms words) refl found
  where
    by : (o : Option Form) → form_of forms words ≡ o → option_map (λ f. f.read) o ≡ Some read → read words ≡ command_of words
    by None is found = cc
    by (Some f) is found = let same : f.read ≡ read = cc in rw is (ap (λ r. r words) (sym same))

pub none_is_misfit : (words : List (List ℕ)) → form_of forms words ≡ None → Err (misfit words) ≡ command_of words
unfolding command_of
none_is_misfit words none = rw none refl

-- eight words and more fit no form
abbrev is_short : Form → Bool
is_short form = leb form.count 7

long_fits_none : (table : List Form) (words : List (List ℕ)) → list_all is_short table ≡ true → 8 ≤ length words → form_of table words ≡ None
long_fits_none [] words short long = refl
long_fits_none (form ∷ table) words short long =
    let parts = and_parts _ _ short in
    let few : form.count ≤ 7 = leb-true _ _ parts.0 in
    rw (and_left (eqb (length words) form.count) (begins words form) (ne_eqb _ _ (λ e. omega arith))) (long_fits_none table words parts.1 long)

misfit-take : (words : List (List ℕ)) → misfit (take 8 words) ≡ misfit words
misfit-take [] = refl
misfit-take (first ∷ words) = refl

command_of-take : (words : List (List ℕ)) → command_of (take 8 words) ≡ command_of words
command_of-take words = elim (cases_lt 8 (length words)) [
  | inl long ↦
      let cut = none_is_misfit (take 8 words) (long_fits_none forms (take 8 words) refl (rw (length-take-le 8 words (omega arith)) (omega arith))) in
      let whole = none_is_misfit words (long_fits_none forms words refl (omega arith)) in
      sym cut ∙ ap Err (misfit-take words) ∙ whole
  | inr short ↦ ap command_of (take_all 8 words short)
]

is_comment-take : (words : List (List ℕ)) → is_comment (take 8 words) ≡ is_comment words
is_comment-take [] = refl
is_comment-take (first ∷ words) = refl

-- so the first eight words tell what a line says that is no comment
pub line_command-take : (line : List ℕ) (kept : List (List ℕ)) (found : Result Command SyntaxFault) → kept ≡ take 8 (words_of line) → is_comment kept ≡ false → found ≡ command_of kept → as_said found ≡ line_command line
line_command-take line kept found e plain is =
    let words = words_of line in
    let plain_line : is_comment words ≡ false = sym (is_comment-take words) ∙ ap is_comment (sym e) ∙ plain in
    rw plain_line (ap as_said (is ∙ ap command_of e ∙ command_of-take words))

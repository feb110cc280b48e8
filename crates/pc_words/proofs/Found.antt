-- What a parse found, as the definition of its matches has it.
use Rattle.std.proofs.Common.{◌≡◌, Bool, true, false, cond, List, [], ◌∷◌, map, Option, None, Some, find, option_map, option_and_then, refl, sym, ap, ◌∙◌, bytes_eq, codes, slice_get}
use Rattle.std.proofs.lemmas.Option.{slice_get-map}
use Rattle.clap.proofs.OnLiterals.{clap_on_literals}
use Rattle.clap.specs.Words.{App, HasMatchesOf, IsAmong, Kinds, Row, Text, fault_of, first_of, first_value, found_of, is_simple, is_simple_and_free, matches_of, rows_of}
use Rattle.clap.specs.Facts.{Entry}
use Rattle.clap.specs.Walk.{row_of}
use Rattle.clap.specs.declared.error.kind.ErrorKind.{ErrorKind}
use Rattle.clap.specs.declared.parser.matches.ArgMatches.{ArgMatches}
use Rattle.clap.specs.declared.parser.matches.Found.{Found}
use Rattle.clap.specs.declared.parser.matches.MatchedArg.{MatchedArg}
use Rattle.pc_words.specs.Forms.{FormsAreThese, command, mode_in, mode_named, mode_unless}

first_in : (id : Text) (entries : List Entry) → option_and_then (λ (e : Entry). option_map (λ s. s.now) (slice_get e.1.vals.items 0)) (find (λ (e : Entry). bytes_eq e.0.now id) entries) ≡ first_of id (map row_of entries)
first_in id [] = refl
first_in id (e ∷ es) = by (bytes_eq e.0.now id) (first_in id es)
  where
    by : (b : Bool) → option_and_then (λ (x : Entry). option_map (λ s. s.now) (slice_get x.1.vals.items 0)) (find (λ (x : Entry). bytes_eq x.0.now id) es) ≡ first_of id (map row_of es)
        → option_and_then (λ (x : Entry). option_map (λ s. s.now) (slice_get x.1.vals.items 0)) (cond b (Some e) (find (λ (x : Entry). bytes_eq x.0.now id) es)) ≡ option_and_then (λ (r : Row). slice_get r.values 0) (cond b (Some (row_of e)) (find (λ (r : Row). bytes_eq r.id id) (map row_of es)))
    by true later = sym (slice_get-map (λ s. s.now) e.1.vals.items 0)
    by false later = later

and_then_mapped : {A B C : Type 0} (g : B → Option C) (h : A → B) (o : Option A) → option_and_then g (option_map h o) ≡ option_and_then (λ x. g (h x)) o
and_then_mapped g h None = refl
and_then_mapped g h (Some x) = refl

found_first : (f : Found) (id : Text) → first_value f id ≡ first_of id (rows_of f)
found_first f id =
    and_then_mapped (λ (a : MatchedArg). option_map (λ s. s.now) (slice_get a.vals.items 0)) (λ (e : Entry). e.1) (find (λ (e : Entry). bytes_eq e.0.now id) f.entries.items)
    ∙ first_in id f.entries.items

is_simple_command : is_simple command ≡ true
unfolding clap_on_literals
is_simple_command = refl

pub is_free_command : is_simple_and_free command ≡ true
unfolding clap_on_literals
is_free_command = refl

-- What the parse found of words with which nothing is wrong is the mode that they ask for.
pub matched_is : (app : App) (words : List Text) (m : ArgMatches) → app ≡ command → HasMatchesOf app words m → fault_of app words ≡ [] → mode_named (first_value (found_of m) (codes "mode")) (first_value (found_of m) (codes "number")) ≡ mode_in words
matched_is app words m is has clean =
    let rows : rows_of (found_of m) ≡ matches_of command words = (has (ap is_simple is ∙ is_simple_command)).0 ∙ ap (λ (a : App). matches_of a words) is in
    let first : (id : Text) → first_value (found_of m) id ≡ first_of id (matches_of command words) = λ id. found_first (found_of m) id ∙ ap (first_of id) rows in
    let none : fault_of command words ≡ [] = ap (λ (a : App). fault_of a words) (sym is) ∙ clean in
    ap (λ (o : Option Text). mode_named o (first_value (found_of m) (codes "number"))) (first (codes "mode"))
    ∙ ap (mode_named (first_of (codes "mode") (matches_of command words))) (first (codes "number"))
    ∙ ap (λ (kinds : Kinds). mode_unless kinds words) (sym none)

among_some : (kinds : Kinds) (kind : ErrorKind) (words : List Text) → IsAmong kind kinds → mode_unless kinds words ≡ None
among_some [] kind words h = absurd h
among_some (k ∷ ks) kind words h = refl

-- Where something is wrong with them, they are no form.
pub refused_is : (app : App) (words : List Text) (kind : ErrorKind) → app ≡ command → IsAmong kind (fault_of app words) → mode_in words ≡ None
refused_is app words kind is among =
    ap (λ (a : App). mode_unless (fault_of a words) words) (sym is) ∙ among_some (fault_of app words) kind words among

pub forms_are_these : FormsAreThese
unfolding clap_on_literals
forms_are_these = record { run = refl; check = refl; make = refl; nothing = refl; two = refl; number_ahead = refl; number_behind = refl; help = refl }

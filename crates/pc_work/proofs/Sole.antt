-- What an object with one member states is told by the name of that member.
use Rattle.std.proofs.Common.{◌≡◌, ◌≢◌, ℕ, Bool, true, false, ◌&&◌, ◌||◌, cond, List, [], ◌∷◌, length, slice_get, map, Option, Some, None, codes, String, Global, string_bytes, string_cmp, nat_cmp, is_eq, Ordering, Less, Equal, Greater, bytes_eq, refl, sym, ap, ◌∙◌, subst, arith}
use Rattle.std.specs.Cmp.Lexicographic.{slice_cmp, nat_list_eq_equiv}
use Rattle.std.specs.List.Sorted.{IsStrictlySortedBy}
use Rattle.std.specs.Ordering.{match_ordering}
use Rattle.std.proofs.lemmas.Bool.{and_parts, false≢true}
use Rattle.std.proofs.lemmas.Map.Text.{is_eq-slice_cmp}
use Rattle.std.proofs.lemmas.Option.{same_Some}
use Rattle.std.proofs.lemmas.Slice.Eq.{bytes_eq-Decides}
use Rattle.serde_json.specs.Data.{Data, null, boolean, number, string, array, object, Members}
use Rattle.serde_json.specs.Find.{as_object, get}
use Rattle.serde_json.specs.View.{view, members_view}
use Rattle.serde_json.specs.declared.value.Value.{Value}
use Rattle.pc_work.specs.Members.{has_only}
use Rattle.pc_work.specs.Reading.{◌>>=◌}
use Rattle.pc_work.specs.Refusal.{judged}
use Rattle.pc_work.specs.RefusedStatement.{add_refusal, put_refusal, statement_refusal}
use Rattle.pc_work.specs.RefusedTexts.{key_refusal, span_refusal}
use Rattle.pc_work.specs.Sole.{sole, HasNoSole, refusal_named, statement_named}
use Rattle.pc_work.specs.Statement.{add_statement, delete_statement, get_statement, put_statement, scan_statement, statement_of}
use Rattle.pc_work.specs.declared.refusal.TheConstants.{OTHER_FORM}

at_equal : {X : Type 0} (o : Ordering) (below here above : X) → is_eq o ≡ true → match_ordering o below here above ≡ here
at_equal Less below here above e = absurd (false≢true e)
at_equal Equal below here above e = refl
at_equal Greater below here above e = absurd (false≢true e)

-- Of one member, a test of its name and a look-up are one comparison of names.
named_by : {Y : Type 0} (known name : List ℕ) (value : Data) (g : Option Data → Y) (rest other : Y) → rest ≡ other → (b : Bool) → bytes_eq name known ≡ b
    → cond (has_only (known ∷ []) (sole name value)) (g (get known (sole name value))) rest ≡ cond b (g (Some value)) other
named_by known name value g rest other e true same =
    let flip = nat_list_eq_equiv.symm known name ∙ same in
    ap (λ t. cond ((t || false) && true) (g (get known (sole name value))) rest) flip
    ∙ ap g (at_equal (slice_cmp nat_cmp known name) None (Some value) None (is_eq-slice_cmp known name ∙ flip))
named_by known name value g rest other e false apart =
    ap (λ t. cond ((t || false) && true) (g (get known (sole name value))) rest) (nat_list_eq_equiv.symm known name ∙ apart) ∙ e

named : {Y : Type 0} (known name : List ℕ) (value : Data) (g : Option Data → Y) (rest other : Y) → rest ≡ other
    → cond (has_only (known ∷ []) (sole name value)) (g (get known (sole name value))) rest ≡ cond (bytes_eq name known) (g (Some value)) other
named known name value g rest other e = named_by known name value g rest other e (bytes_eq name known) refl

pub statement_sole : (name : List ℕ) (value : Data) → statement_of (sole name value) ≡ statement_named name value
unfolding statement_of statement_named
statement_sole name value =
    named (codes "get") name value (λ o. o >>= get_statement) _ _
    (named (codes "scan") name value (λ o. o >>= scan_statement) _ _
    (named (codes "put") name value (λ o. o >>= put_statement) _ _
    (named (codes "delete") name value (λ o. o >>= delete_statement) _ _
    (named (codes "add") name value (λ o. o >>= add_statement) _ _ refl))))

pub refusal_sole : (name : List ℕ) (value : Data) → statement_refusal (sole name value) ≡ refusal_named name value
unfolding statement_refusal refusal_named
refusal_sole name value =
    named (codes "get") name value (judged key_refusal) _ _
    (named (codes "scan") name value (judged span_refusal) _ _
    (named (codes "put") name value (judged put_refusal) _ _
    (named (codes "delete") name value (judged key_refusal) _ _
    (named (codes "add") name value (judged add_refusal) _ _ refl))))

-- Where no member is the only one, nothing is found by a name that would be the only one.
unnamed_by : {Y : Type 0} (b : Bool) (found : Option Data) (g : Option Data → Y) (rest other : Y) → (b ≡ true → found ≡ None) → g None ≡ other → rest ≡ other → cond b (g found) rest ≡ other
unnamed_by true found g rest other without none e = ap g (without refl) ∙ none
unnamed_by false found g rest other without none e = e

pub statement_no_sole : (value : Data) → HasNoSole value → statement_of value ≡ None
unfolding statement_of
statement_no_sole value without =
    unnamed_by _ (get (codes "get") value) (λ o. o >>= get_statement) _ None (without (codes "get")) refl
    (unnamed_by _ (get (codes "scan") value) (λ o. o >>= scan_statement) _ None (without (codes "scan")) refl
    (unnamed_by _ (get (codes "put") value) (λ o. o >>= put_statement) _ None (without (codes "put")) refl
    (unnamed_by _ (get (codes "delete") value) (λ o. o >>= delete_statement) _ None (without (codes "delete")) refl
    (unnamed_by _ (get (codes "add") value) (λ o. o >>= add_statement) _ None (without (codes "add")) refl refl))))

pub refusal_no_sole : (value : Data) → HasNoSole value → statement_refusal value ≡ Some OTHER_FORM
unfolding statement_refusal
refusal_no_sole value without =
    unnamed_by _ (get (codes "get") value) (judged key_refusal) _ (Some OTHER_FORM) (without (codes "get")) refl
    (unnamed_by _ (get (codes "scan") value) (judged span_refusal) _ (Some OTHER_FORM) (without (codes "scan")) refl
    (unnamed_by _ (get (codes "put") value) (judged put_refusal) _ (Some OTHER_FORM) (without (codes "put")) refl
    (unnamed_by _ (get (codes "delete") value) (judged key_refusal) _ (Some OTHER_FORM) (without (codes "delete")) refl
    (unnamed_by _ (get (codes "add") value) (judged add_refusal) _ (Some OTHER_FORM) (without (codes "add")) refl refl))))

-- The members of a map with one entry.
pub one_entry : (entries : List (String Global × Value)) (key : String Global) (value : Value) → length entries ≡ 1 → slice_get entries 0 ≡ Some (key, value) → object (members_view entries) ≡ sole (string_bytes key) (view value)
one_entry [] key value one e = cc
one_entry (entry ∷ []) key value one e = ap (λ (x : String Global × Value). sole (string_bytes x.0) (view x.1)) (same_Some entry (key, value) e)
one_entry (entry ∷ other ∷ entries) key value one e = absurd (omega (arith, one))

-- Two entries of a map have two names.
apart : (name : List ℕ) (first second : String Global) → string_cmp first second ≡ Less → bytes_eq name (string_bytes first) ≡ true → bytes_eq name (string_bytes second) ≡ true → ⊥
apart name first second below one two =
    let same : bytes_eq (string_bytes first) (string_bytes second) ≡ true =
    subst (λ bytes. bytes_eq bytes (string_bytes second) ≡ true) ((bytes_eq-Decides name (string_bytes first)).0 one) two in
    false≢true (sym (ap is_eq below) ∙ (is_eq-slice_cmp (string_bytes first) (string_bytes second) ∙ same))

-- A map with no entry, or with more than one, has no only member.
pub no_one_entry : (entries : List (String Global × Value)) → IsStrictlySortedBy string_cmp (map (λ entry. entry.0) entries) → length entries ≢ 1 → HasNoSole (object (members_view entries))
unfolding IsStrictlySortedBy
no_one_entry [] sorted none = λ name e. refl
no_one_entry (entry ∷ []) sorted none = absurd (none refl)
no_one_entry (entry ∷ other ∷ entries) sorted none = λ name e.
    let parts = and_parts (bytes_eq name (string_bytes entry.0) || false) _ e in
    let more = and_parts (bytes_eq name (string_bytes other.0) || false) _ parts.1 in
    absurd (apart name entry.0 other.0 sorted.0.0 (sure _ parts.0) (sure _ more.0))
  where
    sure : (b : Bool) → (b || false) ≡ true → b ≡ true
    sure true e = e
    sure false e = e

-- What is no object has no member.
pub no_object : (value : Data) → as_object value ≡ None → HasNoSole value
no_object null none = λ name e. refl
no_object (boolean b) none = λ name e. refl
no_object (number n) none = λ name e. refl
no_object (string s) none = λ name e. refl
no_object (array items) none = λ name e. refl
no_object (object ms) none = cc

pub is_object : (value : Data) (ms : Members) → as_object value ≡ Some ms → value ≡ object ms
is_object null ms e = cc
is_object (boolean b) ms e = cc
is_object (number n) ms e = cc
is_object (string s) ms e = cc
is_object (array items) ms e = cc
is_object (object others) ms e = ap object (same_Some others ms e)

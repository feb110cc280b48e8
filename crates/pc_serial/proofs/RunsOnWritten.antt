-- Transactions run on one map where each read agrees with what was written before it.
use Rattle.std.proofs.Common.{◌≡◌, ℕ, Bool, true, false, cond, List, [], ◌∷◌, ◌++◌, append_assoc, append-nil, flat_map, map, filter, fold, None, refl, sym, ap, subst, ◌∙◌}
use Rattle.pc_base.specs.declared.span.Span.{Span}
use Rattle.pc_base.specs.declared.transaction.TxnId.{TxnId}
use Rattle.pc_base.specs.Keyed.{at}
use Rattle.pc_base.specs.Span.{contains, same_key}
use Rattle.pc_serial.proofs.Maps.{RisesByKey, at-other, at-part, rises-part, same-entries, sorted-rises}
use Rattle.pc_serial.proofs.SpanRows.{Show}
use Rattle.pc_serial.proofs.Written.{after-at, after-rises, written, written-append, written_after}
use Rattle.pc_world.specs.MapRun.{IsMapRun, Map, ReadsAlong, ReadsMap, map_after}
use Rattle.pc_world.specs.Operations.{Operation, Read, ReadAll, Write}

-- A read gives what was written last by the operations before it.
abbrev pub ReadsWritten : List Operation → Operation → Type 0
ReadsWritten before (Read key value) = value ≡ written key before
ReadsWritten before (ReadAll span rows) = Show span (λ key. written key before) rows
ReadsWritten before (Write key seq value) = Unit {0}

-- The map is in order, and has what was written last.
record HasWritten (before : List Operation) (m : Map) : Type 0 where
  rises : RisesByKey m
  has : (key : List ℕ) → at same_key key m ≡ written key before

rows-of-map : (before : List Operation) (m : Map) (span : Span) (rows : List (List ℕ × List ℕ)) → HasWritten before m → Show span (λ key. written key before) rows → rows ≡ filter (λ e. contains span e.0) m
rows-of-map before m span rows h w =
    same-entries rows (filter (λ e. contains span e.0) m) (sorted-rises rows w.lie.sorted) (rises-part (λ (e : List ℕ × List ℕ). contains span e.0) m h.rises)
    (λ key. by key (contains span key) refl ∙ sym (at-part (contains span) key m))
  where
    by : (key : List ℕ) (b : Bool) → contains span key ≡ b → at same_key key rows ≡ cond (contains span key) (at same_key key m) None
    by key true is = w.has key is ∙ sym (h.has key) ∙ sym (ap (λ b. cond b (at same_key key m) None) is)
    by key false is =
        at-other (λ k. contains span k ≡ true) key rows (λ inside. let both : true ≡ false = sym inside ∙ is in cc) w.lie.inside
        ∙ sym (ap (λ b. cond b (at same_key key m) None) is)

reads-map : (before : List Operation) (m : Map) (o : Operation) → HasWritten before m → ReadsWritten before o → ReadsMap m o
reads-map before m (Read key value) h w = w ∙ sym (h.has key)
reads-map before m (ReadAll span rows) h w = rows-of-map before m span rows h w
reads-map before m (Write key seq value) h w = tt

has-more : (before : List Operation) (m : Map) (o : Operation) → HasWritten before m → HasWritten (before ++ o ∷ []) (map_after m o)
has-more before m o h = record {
  rises = after-rises m o h.rises;
  has = λ key. after-at m o key ∙ (ap (λ was. written_after key was o) (h.has key) ∙ sym (written-append key before (o ∷ [])));
}

-- Each of the operations agrees with what was written before it, these before all included.
abbrev pub AgreeAfter : List Operation → List Operation → Type 0
AgreeAfter before os = (done : List Operation) (o : Operation) (rest : List Operation) → os ≡ done ++ o ∷ rest → ReadsWritten (before ++ done) o

agree-later : (before : List Operation) (o : Operation) (os : List Operation) → AgreeAfter before (o ∷ os) → AgreeAfter (before ++ o ∷ []) os
agree-later before o os agree done p rest is =
    subst (λ xs. ReadsWritten xs p) (sym (append_assoc before (o ∷ []) done)) (agree (o ∷ done) p rest (ap (λ xs. o ∷ xs) is))

along : (before : List Operation) (m : Map) (os : List Operation) → HasWritten before m → AgreeAfter before os → ReadsAlong m os
along before m [] h agree = tt
along before m (o ∷ os) h agree = (
  reads-map before m o h (subst (λ xs. ReadsWritten xs o) (append-nil before) (agree [] o os refl)),
  along (before ++ o ∷ []) (map_after m o) os (has-more before m o h) (agree-later before o os agree),
)

has-all : (before : List Operation) (m : Map) (os : List Operation) → HasWritten before m → HasWritten (before ++ os) (fold map_after m os)
has-all before m [] h = subst (λ xs. HasWritten xs m) (sym (append-nil before)) h
has-all before m (o ∷ os) h =
    subst (λ xs. HasWritten xs (fold map_after (map_after m o) os)) (append_assoc before (o ∷ []) os) (has-all (before ++ o ∷ []) (map_after m o) os (has-more before m o h))

-- Each read of the transactions agrees with what was written before it, by those before its own and by its own.
abbrev pub AllReadWritten : (TxnId → List Operation) → List TxnId → Type 0
AllReadWritten operations ids =
    (before : List TxnId) (id : TxnId) (later : List TxnId) (done : List Operation) (o : Operation) (rest : List Operation)
    → ids ≡ before ++ id ∷ later → operations id ≡ done ++ o ∷ rest → ReadsWritten (flat_map operations before ++ done) o

-- The same, where these operations were done before.
abbrev AllReadAfter : (TxnId → List Operation) → List Operation → List TxnId → Type 0
AllReadAfter operations first ids =
    (before : List TxnId) (id : TxnId) (later : List TxnId) (done : List Operation) (o : Operation) (rest : List Operation)
    → ids ≡ before ++ id ∷ later → operations id ≡ done ++ o ∷ rest → ReadsWritten ((first ++ flat_map operations before) ++ done) o

runs-from : (operations : TxnId → List Operation) (first : List Operation) (m : Map) (ids : List TxnId) → HasWritten first m → AllReadAfter operations first ids → IsMapRun m (map operations ids)
runs-from operations first m [] h all = tt
runs-from operations first m (id ∷ ids) h all =
    let here : AgreeAfter first (operations id) = λ done o rest is.
    subst (λ xs. ReadsWritten (xs ++ done) o) (append-nil first) (all [] id ids done o rest refl is) in
    let later : AllReadAfter operations (first ++ operations id) ids = λ before other behind done o rest is did.
    subst (λ xs. ReadsWritten (xs ++ done) o) (sym (append_assoc first (operations id) (flat_map operations before)))
    (all (id ∷ before) other behind done o rest (ap (λ xs. id ∷ xs) is) did) in
    (along first m (operations id) h here, runs-from operations (first ++ operations id) (fold map_after m (operations id)) ids (has-all first m (operations id) h) later)

-- where each read agrees with what was written before it, the transactions run on the empty map
pub runs_on_written : (operations : TxnId → List Operation) (ids : List TxnId) → AllReadWritten operations ids → IsMapRun [] (map operations ids)
runs_on_written operations ids all = runs-from operations [] [] ids (record { rises = tt; has = λ key. refl }) all

-- What was kept of the transactions' puts, one entry further, and what it says.
use Rattle.std.proofs.Common.{◌≡◌, ℕ, Bool, true, false, ◌&&◌, ◌||◌, ◌==◌, not, cond, List, [], ◌∷◌, ◌++◌, Option, None, Some, refl, sym, ap, ◌∙◌, filter, fold, map}
use Rattle.std.proofs.lemmas.Bool.{eq-eqb, eqb-true}
use Rattle.std.proofs.lemmas.Grind.{fold-append}
use Rattle.std.proofs.lemmas.List.{append-nil, map-append}
use Rattle.std.proofs.lemmas.List.Elements.{filter-append, filter_map-append}
use Rattle.std.specs.BTreeMap.{Updates, get}
use Rattle.std.specs.List.{filter_map, list_any}
use Rattle.std.specs.Ordering.{nat_cmp}
use Rattle.pc_base.specs.declared.entry.Entry.{Entry}
use Rattle.pc_base.specs.declared.span.Span.{Span}
use Rattle.pc_base.specs.declared.transaction.TxnId.{TxnId}
use Rattle.pc_base.specs.Transaction.{same_txn, txn_cmp}
use Rattle.pc_lists.proofs.Same.{same_txn-is}
use Rattle.pc_proto.specs.declared.answer.Answer.{Answer}
use Rattle.pc_proto.specs.declared.answer.Answer.TheVariants as answers
use Rattle.pc_proto.specs.declared.call.Call.{Call}
use Rattle.pc_proto.specs.declared.call.Call.TheVariants as calls
use Rattle.pc_proto.specs.declared.event.Event.{Event}
use Rattle.pc_proto.specs.declared.event.Event.TheVariants as events
use Rattle.pc_proto.specs.declared.request.Request.{Request}
use Rattle.pc_proto.specs.declared.request.Request.TheVariants as requests
use Rattle.pc_puts.specs.declared.puts.Put.{Put}
use Rattle.pc_report.specs.declared.writes.Writes.{Writes}
use Rattle.pc_report.proofs.ByTxn.{updated}
use Rattle.pc_report.specs.Replaying.{held}
use Rattle.pc_report.specs.ReportOf.{written_by}
use Rattle.pc_puts.specs.Changes.{map_with_put, said_by}
use Rattle.pc_puts.specs.Puts.{with_new_put}
use Rattle.pc_report.specs.Writing.{AreWritesOf, LastFollows, PutsFollow, doing_of, is_last_in, is_last_of, is_of_session, put_in, puts_after, puts_held, puts_of, puts_sent, puts_told}
use Rattle.pc_world.specs.MapRun.{Map, map_after}
use Rattle.pc_world.specs.Operations.{Doing, Operation, Read, ReadAll, Write, doing_after, doing_nothing, done_after, done_sent, done_told, is_last_after, is_write}

any-same : (seq : ℕ) (done : List Operation) → list_any (λ (p : Put). p.seq == seq) (filter_map put_in done) ≡ list_any (is_write seq) done
any-same seq [] = refl
any-same seq (Write key own value ∷ done) = ap (λ b. (own == seq) || b) (any-same seq done)
any-same seq (Read key value ∷ done) = any-same seq done
any-same seq (ReadAll span rows ∷ done) = any-same seq done

one-more : (done : List Operation) (o : Operation) → filter_map put_in (done ++ o ∷ []) ≡ filter_map put_in done ++ filter_map put_in (o ∷ [])
one-more done o = filter_map-append put_in done (o ∷ [])

sent-puts : (id : TxnId) (request : Request) (done : List Operation) → filter_map put_in (done_sent id request done) ≡ puts_sent id request (filter_map put_in done)
sent-puts id (requests.Put meta seq ts key value) done = by (same_txn meta.id id) (list_any (is_write seq) done) refl
  where
    put : Put
    put = record { seq = seq; key = key; value = value }

    by : (same any : Bool) → list_any (is_write seq) done ≡ any
        → filter_map put_in (cond (same && not (list_any (is_write seq) done)) (done ++ Write key seq value ∷ []) done) ≡ cond same (with_new_put put (filter_map put_in done)) (filter_map put_in done)
    by true true is =
        let there : list_any (λ (p : Put). p.seq == seq) (filter_map put_in done) ≡ true = any-same seq done ∙ is in
        ap (λ b. filter_map put_in (cond (not b) (done ++ Write key seq value ∷ []) done)) is
        ∙ sym (ap (λ b. cond b (filter_map put_in done) (filter_map put_in done ++ put ∷ [])) there)
    by true false is =
        let there : list_any (λ (p : Put). p.seq == seq) (filter_map put_in done) ≡ false = any-same seq done ∙ is in
        ap (λ b. filter_map put_in (cond (not b) (done ++ Write key seq value ∷ []) done)) is
        ∙ one-more done (Write key seq value)
        ∙ sym (ap (λ b. cond b (filter_map put_in done) (filter_map put_in done ++ put ∷ [])) there)
    by false any is = refl
sent-puts id request done = refl

read-puts : (key : List ℕ) (value : Option (List ℕ)) (done : List Operation) → filter_map put_in (done ++ Read key value ∷ []) ≡ filter_map put_in done
read-puts key value done = one-more done (Read key value) ∙ append-nil (filter_map put_in done)

rows-puts : (span : Span) (rows : List (List ℕ × List ℕ)) (done : List Operation) → filter_map put_in (done ++ ReadAll span rows ∷ []) ≡ filter_map put_in done
rows-puts span rows done = one-more done (ReadAll span rows) ∙ append-nil (filter_map put_in done)

told-puts : (answer : Answer) (call : Option Call) (done : List Operation) → filter_map put_in (done_told answer call done) ≡ puts_told true answer (filter_map put_in done)
told-puts (answers.Value value) (Some (calls.Get key)) done = read-puts key value done
told-puts (answers.Value value) call done = refl
told-puts (answers.Rows rows) (Some (calls.Scan span)) done = rows-puts span _ done
told-puts (answers.Rows rows) call done = refl
told-puts (answers.Restart key ts) call done = refl
told-puts answer call done = refl

untold-puts : (answer : Answer) (puts : List Put) → puts ≡ puts_told false answer puts
untold-puts (answers.Restart key ts) puts = refl
untold-puts answer puts = refl

after-puts : (id : TxnId) (event : Event) (d : Doing) → filter_map put_in (done_after id event d) ≡ puts_after id d.is_last event (filter_map put_in d.done)
after-puts id (events.Send number range request) d = sent-puts id request d.done
after-puts id (events.Tell answer) d = by d.is_last
  where
    by : (last : Bool) → filter_map put_in (cond last (done_told answer d.call d.done) d.done) ≡ puts_told last answer (filter_map put_in d.done)
    by true = told-puts answer d.call d.done
    by false = untold-puts answer (filter_map put_in d.done)
after-puts id event d = refl

doing-push : (history : List (Entry Event)) (e : Entry Event) (id : TxnId) → doing_of (history ++ e ∷ []) id ≡ cond (is_of_session id e.actor) (doing_after id (doing_of history id) e.event) (doing_of history id)
doing-push history e id =
    ap (λ es. fold (doing_after id) doing_nothing (map (λ (x : Entry Event). x.event) es)) (filter-append (λ (x : Entry Event). is_of_session id x.actor) history (e ∷ []))
    ∙ by (is_of_session id e.actor)
  where
    mine : List (Entry Event)
    mine = filter (λ (x : Entry Event). is_of_session id x.actor) history

    by : (b : Bool) → fold (doing_after id) doing_nothing (map (λ (x : Entry Event). x.event) (mine ++ cond b (e ∷ []) [])) ≡ cond b (doing_after id (doing_of history id) e.event) (doing_of history id)
    by true =
        ap (fold (doing_after id) doing_nothing) (map-append (λ (x : Entry Event). x.event) mine (e ∷ []))
        ∙ fold-append (doing_after id) doing_nothing (map (λ (x : Entry Event). x.event) mine) (e.event ∷ [])
    by false = ap (λ es. fold (doing_after id) doing_nothing (map (λ (x : Entry Event). x.event) es)) (append-nil mine)

-- one entry further
pub written_next : (history : List (Entry Event)) (e : Entry Event) (old new : Writes) → AreWritesOf history old → PutsFollow old e new → LastFollows old e new → AreWritesOf (history ++ e ∷ []) new
written_next history e old new was puts last = record {
  puts = λ id. puts id ∙ by-puts id (is_of_session id e.actor) ∙ sym (ap (λ (d : Doing). filter_map put_in d.done) (doing-push history e id));
  last = λ id. last id ∙ by-last id (is_of_session id e.actor) ∙ sym (ap (λ (d : Doing). d.is_last) (doing-push history e id));
}
  where
    by-puts : (id : TxnId) (b : Bool) → cond b (puts_after id (is_last_in old id) e.event (puts_held old id)) (puts_held old id) ≡ filter_map put_in (cond b (doing_after id (doing_of history id) e.event) (doing_of history id)).done
    by-puts id true =
        ap (λ b. puts_after id b e.event (puts_held old id)) (was.last id)
        ∙ ap (puts_after id (doing_of history id).is_last e.event) (was.puts id)
        ∙ sym (after-puts id e.event (doing_of history id))
    by-puts id false = was.puts id

    by-last : (id : TxnId) (b : Bool) → cond b (is_last_after id e.event (is_last_in old id)) (is_last_in old id) ≡ (cond b (doing_after id (doing_of history id) e.event) (doing_of history id)).is_last
    by-last id true = ap (is_last_after id e.event) (was.last id)
    by-last id false = was.last id

-- what the puts say is what the operations write
pub puts_say : (operations : List Operation) → map said_by (filter_map put_in operations) ≡ filter_map written_by operations
puts_say [] = refl
puts_say (Write key seq value ∷ os) = ap (λ rest. (key, value) ∷ rest) (puts_say os)
puts_say (Read key value ∷ os) = puts_say os
puts_say (ReadAll span rows ∷ os) = puts_say os

-- the map after the puts is the map after the operations
pub puts_change : (m : Map) (operations : List Operation) → fold map_with_put m (filter_map put_in operations) ≡ fold map_after m operations
puts_change m [] = refl
puts_change m (Write key seq value ∷ os) = puts_change (map_after m (Write key seq value)) os
puts_change m (Read key value ∷ os) = puts_change m os
puts_change m (ReadAll span rows ∷ os) = puts_change m os

-- the last transaction of the session began anew
pub restarted : (old new : Writes) (session : ℕ) (one : TxnId) → get nat_cmp old.last session ≡ Some one → one.session ≡ session → Updates txn_cmp old.puts new.puts one None
    → (id : TxnId) → puts_held new id ≡ cond (id.session == session) (cond (is_last_in old id) [] (puts_held old id)) (puts_held old id)
restarted old new session one found mine h id = ap puts_of (updated old.puts new.puts one None h id) ∙ by (same_txn one id) refl
  where
    last : id.session ≡ session → is_last_in old id ≡ same_txn one id
    last own = ap (is_last_of id) (ap (get nat_cmp old.last) own ∙ found)

    by-own : same_txn one id ≡ false → (b : Bool) → (id.session == session) ≡ b → puts_held old id ≡ cond b (cond (is_last_in old id) [] (puts_held old id)) (puts_held old id)
    by-own t false e = refl
    by-own t true e = sym (ap (λ b. cond b [] (puts_held old id)) (last (eqb-true id.session session e) ∙ t))

    by : (b : Bool) → same_txn one id ≡ b → puts_of (cond b None (held old.puts id)) ≡ cond (id.session == session) (cond (is_last_in old id) [] (puts_held old id)) (puts_held old id)
    by true t =
        let own : id.session ≡ session = ap (λ (x : TxnId). x.session) (sym (same_txn-is one id t)) ∙ mine in
        sym (ap (λ b. cond b (cond (is_last_in old id) [] (puts_held old id)) (puts_held old id)) (eq-eqb id.session session own)
        ∙ ap (λ b. cond b [] (puts_held old id)) (last own ∙ t))
    by false t = by-own t (id.session == session) refl

-- In every run each read that a transaction did comes from evaluations of its messages, made when it had done what it did before.
use Rattle.std.proofs.Common.{◌≡◌, ℕ, inl, inr, List, [], ◌∷◌, ◌++◌, Option, Some, Contains, sym, ap, subst, ◌∙◌}
use Rattle.std.proofs.lemmas.List.{append_assoc}
use Rattle.std.proofs.lemmas.List.Elements.{Contains-append_left}
use Rattle.pc_base.specs.declared.actor.ActorId.TheVariants as actors
use Rattle.pc_base.specs.declared.entry.Entry.{Entry}
use Rattle.pc_base.specs.declared.span.Span.{Span}
use Rattle.pc_base.specs.declared.transaction.TxnId.{TxnId}
use Rattle.pc_history.specs.History.{MayFollow}
use Rattle.pc_implicit.proofs.Commits.{act_of}
use Rattle.pc_implicit.proofs.Did.{came_from, newly_done, session_at}
use Rattle.pc_implicit.proofs.Doing.{Does, told_by_row}
use Rattle.pc_implicit.proofs.Fronts.{EachAfter, IsFront, each_after_push, each_after_split, each_after_weaker, front_more, front_same}
use Rattle.pc_implicit.proofs.Moves.{Moves, Puts, Reads, Restarts, Stays, TellsRead}
use Rattle.pc_implicit.proofs.ReadSources.{now-read, rows-from, value-from}
use Rattle.pc_implicit.proofs.SessionReads.{ComesFrom, IsReadAt, ReadsFrom, ReadsPieces}
use Rattle.pc_lists.proofs.Lists.{contains_nil}
use Rattle.pc_proto.specs.declared.answer.Answer.{Answer}
use Rattle.pc_proto.specs.declared.answer.Answer.TheVariants as answers
use Rattle.pc_proto.specs.declared.call.Call.{Call}
use Rattle.pc_proto.specs.declared.call.Call.TheVariants as calls
use Rattle.pc_proto.specs.declared.event.Event.{Event}
use Rattle.pc_proto.specs.declared.event.Event.TheVariants as events
use Rattle.pc_proto.specs.declared.reply.Reply.{Reply}
use Rattle.pc_proto.specs.declared.request.Request.{Request}
use Rattle.pc_world.proofs.Prefixes.{run_induction}
use Rattle.pc_world.specs.After.{known_at}
use Rattle.pc_world.specs.Known.{call_in, call_of, open_txn}
use Rattle.pc_world.specs.Known.Reads.{Read as ReadMade, reads_heard}
use Rattle.pc_world.specs.Known.Traffic.{replies_to}
use Rattle.pc_world.specs.Known.Transactions.{Txn}
use Rattle.pc_world.specs.Local.{Head}
use Rattle.pc_world.specs.Operations.{Operation, Read, ReadAll, Write, operations_of}
use Rattle.pc_world.specs.Run.{IsRun, protocol}

-- Where a read comes from stays so.
module _ (head : Head) (history more : List (Entry Event)) (id : TxnId) (epoch : ℕ) (reads longer : List ReadMade) (front : IsFront reads longer) (done : List Operation) where
  at-more : (span : Span) (range : ℕ) (asks : ℕ → ℕ → Request) (told : Reply) → IsReadAt head history id epoch reads done span range asks told → IsReadAt head (history ++ more) id epoch longer done span range asks told
  at-more span range asks told r = record {
    before = r.before;
    e = r.e;
    later = r.later ++ more;
    whole = ap (λ h. h ++ more) r.whole ∙ append_assoc r.before (r.e ∷ r.later) more;
    seq = r.seq;
    ts = r.ts;
    evaluates = r.evaluates;
    last = r.last;
    proved = r.proved;
    kept = subst (λ rs. Contains rs (record { span = span; ts = r.ts })) (sym front.whole) (Contains-append_left reads front.rest (record { span = span; ts = r.ts }) r.kept);
    only = r.only;
    earlier = r.earlier;
  }

  pieces-more : (ps : List (ℕ × Span)) (rows : List (List ℕ × List ℕ)) → ReadsPieces head history id epoch reads done ps rows → ReadsPieces head (history ++ more) id epoch longer done ps rows
  pieces-more [] rows is = is
  pieces-more (p ∷ ps) rows is = (is.0, is.1, at-more p.1 p.0 _ _ is.2, is.3, pieces-more ps is.1 is.4)

  comes-more : (o : Operation) → ComesFrom head history id epoch reads done o → ComesFrom head (history ++ more) id epoch longer done o
  comes-more (Read key value) r = record { origin = r.origin; at = at-more _ _ _ _ r.at }
  comes-more (ReadAll span rows) r = pieces-more _ rows r
  comes-more (Write key seq value) r = tt

module _ (head : Head) where
  AllComeFrom : List (Entry Event) → TxnId → Txn → List Operation → Type 0
  AllComeFrom history id t done = EachAfter (ComesFrom head history id t.epoch t.reads) [] done

  all-more : (history more : List (Entry Event)) (id : TxnId) (t u : Txn) (done : List Operation) → u.epoch ≡ t.epoch → IsFront t.reads u.reads → AllComeFrom history id t done → AllComeFrom (history ++ more) id u done
  unfolding AllComeFrom
  all-more history more id t u done epoch reads each =
      subst (λ n. EachAfter (ComesFrom head (history ++ more) id n u.reads) [] done) (sym epoch)
      (each_after_weaker (ComesFrom head history id t.epoch t.reads) (ComesFrom head (history ++ more) id t.epoch u.reads) (λ done o. comes-more head history more id t.epoch t.reads u.reads reads done o) [] done each)

  -- what is told of a read comes from where it should
  module _ (history : List (Entry Event)) (run : IsRun head history) (id : TxnId) (t : Txn) (named : t.id ≡ id) (opened : open_txn (session_at head id history) ≡ Some t) where
    told-from : (answer : Answer) (o : Operation) → Does head (actors.Session id.session) (session_at head id history) (events.Tell answer) → TellsRead answer (call_of (session_at head id history)) o
        → ComesFrom head history id t.epoch (t.reads ++ reads_heard (replies_to (session_at head id history).sent_now (session_at head id history).heard_now)) (operations_of history id) o
    unfolding now-read
    told-from (answers.Value value) (Read key found) may tells =
        let k = session_at head id history in
        let row = told_by_row head (actors.Session id.session) k (answers.Value value) may (λ e. absurd cc) (λ e. absurd cc) in
        subst (λ v. ReadsFrom head history id t.epoch (t.reads ++ reads_heard (replies_to k.sent_now k.heard_now)) (operations_of history id) key v) (sym tells.1)
        (value-from head history run id t named opened may.s may.opened value key row tells.0)
    told-from (answers.Rows rows) (ReadAll span found) may tells =
        let k = session_at head id history in
        let row = told_by_row head (actors.Session id.session) k (answers.Rows rows) may (λ e. absurd cc) (λ e. absurd cc) in
        let both : ◌≡◌ {A = Option Call} (Some may.s.call) (Some (calls.Scan span)) = sym (ap call_in may.opened) ∙ tells.0 in
        let call : may.s.call ≡ calls.Scan span = cc both in
        subst (λ v. ComesFrom head history id t.epoch (t.reads ++ reads_heard (replies_to k.sent_now k.heard_now)) (operations_of history id) (ReadAll span v)) (sym tells.1)
        (rows-from head history run id t named opened may.s may.opened rows span row call)
    told-from (answers.Value value) (ReadAll span found) may tells = absurd tells
    told-from (answers.Rows rows) (Read key found) may tells = absurd tells
    told-from answer (Write key seq value) may tells = tt
    told-from answer o may tells = absurd tells

  -- One more entry.
  module _ (history : List (Entry Event)) (e : Entry Event) (run : IsRun head history) (may : MayFollow (protocol head) history e) (id : TxnId) (u : Txn) where
    front-is : (xs ys : List ReadMade) → ys ≡ xs → IsFront xs ys
    front-is xs ys same = subst (IsFront xs) (sym same) (front_same xs)

    stays-from : (t : Txn) → u.epoch ≡ t.epoch → u.reads ≡ t.reads → operations_of (history ++ e ∷ []) id ≡ operations_of history id → AllComeFrom history id t (operations_of history id) → AllComeFrom (history ++ e ∷ []) id u (operations_of (history ++ e ∷ []) id)
    stays-from t epoch reads done each =
        subst (AllComeFrom (history ++ e ∷ []) id u) (sym done) (all-more history (e ∷ []) id t u (operations_of history id) epoch (front-is t.reads u.reads reads) each)

    moves-from : (t : Txn) → t.id ≡ id → e.actor ≡ actors.Session id.session → Moves (session_at head id history) e.event t u (operations_of history id) (operations_of (history ++ e ∷ []) id) → AllComeFrom history id t (operations_of history id)
        → AllComeFrom (history ++ e ∷ []) id u (operations_of (history ++ e ∷ []) id)
    unfolding AllComeFrom
    moves-from t named same (Stays epoch reads writes done) each = stays-from t epoch reads done each
    moves-from t named same (Puts key seq value opened asked epoch reads writes done next) each =
        subst (AllComeFrom (history ++ e ∷ []) id u) (sym done)
        (each_after_push (ComesFrom head (history ++ e ∷ []) id u.epoch u.reads) [] (operations_of history id) (Write key seq value)
        (all-more history (e ∷ []) id t u (operations_of history id) epoch (front-is t.reads u.reads reads) each) tt)
    moves-from t named same (Reads answer o opened told tells epoch reads writes done) each =
        let k = session_at head id history in
        let more = reads_heard (replies_to k.sent_now k.heard_now) in
        let acts : Does head (actors.Session id.session) k (events.Tell answer) = subst (Does head (actors.Session id.session) k) told (subst (λ a. Does head a (known_at head a history) e.event) same (act_of head history e may)) in
        let new : ComesFrom head history id t.epoch (t.reads ++ more) (operations_of history id) o = told-from history run id t named opened answer o acts tells in
        let here : ComesFrom head (history ++ e ∷ []) id t.epoch (t.reads ++ more) (operations_of history id) o =
        comes-more head history (e ∷ []) id t.epoch (t.reads ++ more) (t.reads ++ more) (front_same (t.reads ++ more)) (operations_of history id) o new in
        let now : ComesFrom head (history ++ e ∷ []) id u.epoch u.reads (operations_of history id) o =
        subst (λ n. ComesFrom head (history ++ e ∷ []) id n u.reads (operations_of history id) o) (sym epoch) (subst (λ rs. ComesFrom head (history ++ e ∷ []) id t.epoch rs (operations_of history id) o) (sym reads) here) in
        let front : IsFront t.reads u.reads = subst (IsFront t.reads) (sym reads) (front_more t.reads more) in
        subst (AllComeFrom (history ++ e ∷ []) id u) (sym done)
        (each_after_push (ComesFrom head (history ++ e ∷ []) id u.epoch u.reads) [] (operations_of history id) o
        (all-more history (e ∷ []) id t u (operations_of history id) epoch front each) now)
    moves-from t named same (Restarts key ts opened told epoch reads writes done) each = subst (AllComeFrom (history ++ e ∷ []) id u) (sym done) tt

  AllReads : List (Entry Event) → Type 0
  AllReads history = (id : TxnId) (t : Txn) → Contains (session_at head id history).txns t → t.id ≡ id → AllComeFrom history id t (operations_of history id)

  all-reads : (history : List (Entry Event)) → IsRun head history → AllReads history
  unfolding AllReads AllComeFrom
  all-reads = run_induction head AllReads (λ id t mine named. absurd (contains_nil t mine)) (λ history e run may all id u mine named.
      elim (came_from head history e run may id u mine named) [
        | inl new ↦ subst (AllComeFrom (history ++ e ∷ []) id u) (sym (newly_done head history e run may id u named new.0 new.1)) tt
        | inr c ↦ elim c.whose [
          | inl same ↦ moves-from history e run may id u c.t c.named same c.moves (all id c.t c.mine c.named)
          | inr still ↦
              stays-from history e run may id u c.t (ap (λ (x : Txn). x.epoch) still.0) (ap (λ (x : Txn). x.reads) still.0) still.1 (all id c.t c.mine c.named)
        ]
      ])

  -- each operation of a transaction comes from where it should
  pub comes_from_reads : (history : List (Entry Event)) → IsRun head history → (id : TxnId) (t : Txn) → Contains (known_at head (actors.Session id.session) history).txns t → t.id ≡ id
      → (done : List Operation) (o : Operation) (rest : List Operation) → operations_of history id ≡ done ++ o ∷ rest → ComesFrom head history id t.epoch t.reads done o
  unfolding AllReads AllComeFrom
  comes_from_reads history run id t mine named done o rest whole =
      each_after_split (ComesFrom head history id t.epoch t.reads) done o rest (operations_of history id) whole (all-reads history run id t mine named)

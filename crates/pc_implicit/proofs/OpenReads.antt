-- In an open get or scan what was sent of it speaks of the open transaction as it still is: no put is sent for the first time.
use Rattle.std.proofs.Common.{◌≡◌, ℕ, ◌+◌, Bool, true, inl, inr, List, [], ◌∷◌, ◌++◌, map, Option, None, Some, refl, sym, ap, subst, ◌∙◌}
use Rattle.std.specs.List.{AllByRecursion as Each}
use Rattle.std.specs.Prelude.{⊤}
use Rattle.pc_base.specs.declared.actor.ActorId.{ActorId}
use Rattle.pc_base.specs.declared.actor.ActorId.TheVariants as actors
use Rattle.pc_base.specs.declared.entry.Entry.{Entry}
use Rattle.pc_base.specs.declared.span.Span.{Span}
use Rattle.pc_base.specs.declared.transaction.TxnId.{TxnId}
use Rattle.pc_history.specs.History.{MayFollow}
use Rattle.pc_history.specs.Own.{named_in}
use Rattle.pc_implicit.proofs.Agreed.{agreed, open_there, owned}
use Rattle.pc_implicit.proofs.Commits.{act_of}
use Rattle.pc_implicit.proofs.Did.{MovedOn, moved_on, numbered-at, session_at}
use Rattle.pc_implicit.proofs.Doing.{Does, same_or_not}
use Rattle.pc_implicit.proofs.Hearing.{WasSentBy, sent-more, sent-now}
use Rattle.pc_implicit.proofs.Moves.{Moves, Puts, Reads, Restarts, Stays, first_after, first_is_open, is_first, open_is_first}
use Rattle.pc_implicit.proofs.SessionCommits.{written}
use Rattle.pc_implicit.proofs.SessionReads.{last_seq_done}
use Rattle.pc_implicit.proofs.Writings.{last_written}
use Rattle.pc_lists.proofs.Each.{each-append, each-weaker}
use Rattle.pc_proto.specs.declared.answer.Answer.{Answer}
use Rattle.pc_proto.specs.declared.answer.Answer.TheVariants as answers
use Rattle.pc_proto.specs.declared.call.Call.{Call}
use Rattle.pc_proto.specs.declared.call.Call.TheVariants as calls
use Rattle.pc_proto.specs.declared.event.Event.{Event}
use Rattle.pc_proto.specs.declared.event.Event.TheVariants as events
use Rattle.pc_proto.specs.declared.request.Request.{Request}
use Rattle.pc_proto.specs.declared.request.Request.TheVariants as requests
use Rattle.pc_world.proofs.Knowing.{known_other, known_same, run_push}
use Rattle.pc_world.proofs.Prefixes.{run_induction}
use Rattle.pc_world.specs.After.{known_at}
use Rattle.pc_world.specs.Known.{Known, call_in, call_of, open_txn}
use Rattle.pc_world.specs.Known.Statements.{Statement, is_open_after, statement_after}
use Rattle.pc_world.specs.Known.Traffic.{Sent, heard_by, sent_by, sent_now_after}
use Rattle.pc_world.specs.Known.Transactions.{Txn}
use Rattle.pc_world.specs.Known.Writes.{last_seq_of}
use Rattle.pc_world.specs.Local.{Head}
use Rattle.pc_world.specs.Operations.{is_last_after, operations_of}
use Rattle.pc_world.specs.Run.{IsRun, protocol}
use Rattle.pc_world.specs.Send.Put.{AsksFor}

-- The open transaction is this one, in this epoch, and this is the sequence of its last write.
pub record StandsSo (k : Known) (id : TxnId) (epoch seq : ℕ) : Type 0 where
  pub t : Txn
  pub opened : open_txn k ≡ Some t
  pub named : t.id ≡ id
  pub same_epoch : t.epoch ≡ epoch
  pub last : last_seq_of t.writes ≡ seq

-- A get or a piece of a scan was sent in the call that asks for it, by the open transaction as it stands.
abbrev pub IsReadNow : Known → Request → Type 0
IsReadNow k (requests.Get id epoch seq ts key) = StandsSo k id epoch seq × (call_of k ≡ Some (calls.Get key))
IsReadNow k (requests.Scan id epoch seq ts span) = (whole : Span) × StandsSo k id epoch seq × (call_of k ≡ Some (calls.Scan whole))
IsReadNow k request = ⊤

-- A call that asks for no write.
abbrev pub AsksForNone : Option Call → Type 0
AsksForNone call = (key : List ℕ) (value : Option (List ℕ)) → AsksFor call key value → ⊥

get-asks : (call : Option Call) (key : List ℕ) → call ≡ Some (calls.Get key) → AsksForNone call
get-asks call key is own None asks = let both : ◌≡◌ {A = Option Call} (Some (calls.Get key)) (Some (calls.Delete own)) = sym is ∙ asks in cc both
get-asks call key is own (Some value) asks = let both : ◌≡◌ {A = Option Call} (Some (calls.Get key)) (Some (calls.Put own value)) = sym is ∙ asks in cc both

scan-asks : (call : Option Call) (span : Span) → call ≡ Some (calls.Scan span) → AsksForNone call
scan-asks call span is own None asks = let both : ◌≡◌ {A = Option Call} (Some (calls.Scan span)) (Some (calls.Delete own)) = sym is ∙ asks in cc both
scan-asks call span is own (Some value) asks = let both : ◌≡◌ {A = Option Call} (Some (calls.Scan span)) (Some (calls.Put own value)) = sym is ∙ asks in cc both

-- The event asks for no call and tells no answer.
abbrev pub IsWithin : Event → Type 0
IsWithin (events.Ask call reading) = ⊥
IsWithin (events.Tell answer) = ⊥
IsWithin event = ⊤

pub within-tell : (event : Event) (answer : Answer) → IsWithin event → event ≡ events.Tell answer → ⊥
within-tell event answer within is = subst IsWithin is within

pub within-last : (id : TxnId) (event : Event) (b : Bool) → IsWithin event → is_last_after id event b ≡ b
within-last id (events.Ask call reading) b within = absurd within
within-last id (events.Tell answer) b within = absurd within
within-last id event b within = refl

last-same : (t u : Txn) → map written u.writes ≡ map written t.writes → last_seq_of u.writes ≡ last_seq_of t.writes
last-same t u same = last_written u.writes ∙ ap last_seq_done same ∙ sym (last_written t.writes)

pub within-open : (event : Event) (b : Bool) → IsWithin event → is_open_after event b ≡ b
within-open (events.Ask call reading) b within = absurd within
within-open (events.Tell answer) b within = absurd within
within-open event b within = refl

pub within-statement : (event : Event) (s : Option Statement) → IsWithin event → statement_after event s ≡ s
within-statement (events.Ask call reading) s within = absurd within
within-statement (events.Tell answer) s within = absurd within
within-statement event s within = refl

within-sent : (event : Event) (sent : List Sent) → IsWithin event → sent_now_after event sent ≡ sent ++ sent_by event
within-sent (events.Ask call reading) sent within = absurd within
within-sent event sent within = refl

module _ (head : Head) where
  -- What is known after one more event of the session within the call.
  module _ (history : List (Entry Event)) (e : Entry Event) (run : IsRun head history) (may : MayFollow (protocol head) history e) (within : IsWithin e.event) where
    -- the open transaction stays as it is
    still-own : (id : TxnId) (t : Txn) → t.id ≡ id → e.actor ≡ actors.Session id.session → open_txn (session_at head id history) ≡ Some t → AsksForNone (call_of (session_at head id history))
        → StandsSo (session_at head id (history ++ e ∷ [])) id t.epoch (last_seq_of t.writes)
    still-own id t named same opened none =
        let k = session_at head id history in
        let l = session_at head id (history ++ e ∷ []) in
        let known = known_same head (actors.Session id.session) history e same in
        let h = heard_by e.event (named_in (protocol head) history e.event) k.sent in
        let m = moved_on head history e run may id t (open_there k t opened) named in
        let was = open_is_first k t opened in
        let first : is_first id l.txns ≡ true =
        ap (λ (x : Known). is_first id x.txns) known ∙ sym (first_after id e.event h k) ∙ within-last id e.event (is_first id k.txns) within ∙ ap (λ i. is_first i k.txns) (sym named) ∙ was.0 in
        let is_open : l.is_open ≡ true = ap (λ (x : Known). x.is_open) known ∙ within-open e.event k.is_open within ∙ was.1 in
        let now : open_txn l ≡ Some m.u =
        first_is_open (actors.Session id.session) l m.u (numbered-at head (history ++ e ∷ []) (run_push head history e run may) id) m.there (ap (λ i. is_first i l.txns) m.named ∙ first) is_open in
        by m now m.moves
      where
        by : (m : MovedOn head history e id t) → open_txn (session_at head id (history ++ e ∷ [])) ≡ Some m.u
            → Moves (session_at head id history) e.event t m.u (operations_of history id) (operations_of (history ++ e ∷ []) id) → StandsSo (session_at head id (history ++ e ∷ [])) id t.epoch (last_seq_of t.writes)
        by m now (Stays epoch reads writes done) = record { t = m.u; opened = now; named = m.named; same_epoch = epoch; last = last-same t m.u writes }
        by m now (Puts key seq value opened asked epoch reads writes done next) = absurd (none key value asked)
        by m now (Reads answer o opened told tells epoch reads writes done) = absurd (within-tell e.event answer within told)
        by m now (Restarts key ts opened told epoch reads writes done) = absurd (within-tell e.event (answers.Restart key ts) within told)

    still : (n : ℕ) (id : TxnId) (epoch seq : ℕ) → e.actor ≡ actors.Session n → AsksForNone (call_of (known_at head (actors.Session n) history)) → StandsSo (known_at head (actors.Session n) history) id epoch seq
        → StandsSo (known_at head (actors.Session n) (history ++ e ∷ [])) id epoch seq
    still n id epoch seq same none w =
        let k = known_at head (actors.Session n) history in
        let own = owned (actors.Session n) (k.begun + 1) k.txns w.t (agreed head history run (actors.Session n)).numbered (open_there k w.t w.opened) in
        let session : w.t.id.session ≡ n = let both : actors.Session n ≡ actors.Session w.t.id.session = own.0 in cc both in
        let moved : StandsSo (known_at head (actors.Session n) (history ++ e ∷ [])) w.t.id w.t.epoch (last_seq_of w.t.writes) =
        subst (λ m. e.actor ≡ actors.Session m → open_txn (known_at head (actors.Session m) history) ≡ Some w.t → AsksForNone (call_of (known_at head (actors.Session m) history)) → StandsSo (known_at head (actors.Session m) (history ++ e ∷ [])) w.t.id w.t.epoch (last_seq_of w.t.writes)) session
        (λ at opened asks. still-own w.t.id w.t refl at opened asks) same w.opened none in
        record { t = moved.t; opened = moved.opened; named = moved.named ∙ w.named; same_epoch = moved.same_epoch ∙ w.same_epoch; last = moved.last ∙ w.last }

    call-same : (actor : ActorId) → e.actor ≡ actor → call_of (known_at head actor (history ++ e ∷ [])) ≡ call_of (known_at head actor history)
    call-same actor same = ap call_of (known_same head actor history e same) ∙ ap call_in (within-statement e.event (known_at head actor history).statement within)

    read-still : (n : ℕ) → e.actor ≡ actors.Session n → (request : Request) → IsReadNow (known_at head (actors.Session n) history) request → IsReadNow (known_at head (actors.Session n) (history ++ e ∷ [])) request
    read-still n same (requests.Get id epoch seq ts key) w = (still n id epoch seq same (get-asks _ key w.1) w.0, call-same (actors.Session n) same ∙ w.1)
    read-still n same (requests.Scan id epoch seq ts span) w = (w.0, still n id epoch seq same (scan-asks _ w.0 w.2) w.1, call-same (actors.Session n) same ∙ w.2)
    read-still n same request w = tt

  -- what may be sent now is so
  new-read : (actor : ActorId) (k : Known) (number range : ℕ) (request : Request) → Does head actor k (events.Send number range request) → IsReadNow k request
  new-read actor k number range (requests.Get id epoch seq ts key) may =
      let row = may.row in
      (record { t = row.t; opened = row.opened; named = sym row.read.whose; same_epoch = sym row.read.epoch_now; last = sym row.read.own_writes }, row.asked)
  new-read actor k number range (requests.Scan id epoch seq ts span) may =
      let row = may.row in
      (row.whole, record { t = row.t; opened = row.opened; named = sym row.read.whose; same_epoch = sym row.read.epoch_now; last = sym row.read.own_writes }, row.asked)
  new-read actor k number range request may = tt

  new-reads : (k : Known) (actor : ActorId) (P : Request → Type 0) → ((request : Request) → IsReadNow k request → P request) → (event : Event) → Does head actor k event → Each (λ (m : Sent). P m.request) (sent_by event)
  new-reads k actor P on (events.Send number range request) may = (on request (new-read actor k number range request may), tt)
  new-reads k actor P on event may = tt

  -- What was sent since the open call was asked reads for it, where it reads.
  AreReadsNow : List (Entry Event) → Type 0
  AreReadsNow history =
      (n : ℕ) (s : Statement) → (known_at head (actors.Session n) history).statement ≡ Some s
      → Each (λ (m : Sent). IsReadNow (known_at head (actors.Session n) history) m.request) (known_at head (actors.Session n) history).sent_now

  reads-step : (history : List (Entry Event)) (e : Entry Event) → IsRun head history → MayFollow (protocol head) history e → AreReadsNow history → (n : ℕ) → e.actor ≡ actors.Session n → (event : Event) → e.event ≡ event
      → (s : Statement) → (known_at head (actors.Session n) (history ++ e ∷ [])).statement ≡ Some s
      → Each (λ (m : Sent). IsReadNow (known_at head (actors.Session n) (history ++ e ∷ [])) m.request) (known_at head (actors.Session n) (history ++ e ∷ [])).sent_now
  unfolding AreReadsNow
  reads-step history e run may all n same (events.Ask call reading) is s opened =
      let none : (known_at head (actors.Session n) (history ++ e ∷ [])).sent_now ≡ [] =
      ap (λ (x : Known). x.sent_now) (known_same head (actors.Session n) history e same) ∙ ap (λ event. sent_now_after event (known_at head (actors.Session n) history).sent_now) is in
      subst (Each (λ (m : Sent). IsReadNow (known_at head (actors.Session n) (history ++ e ∷ [])) m.request)) (sym none) tt
  reads-step history e run may all n same (events.Tell answer) is s opened =
      let none : (known_at head (actors.Session n) (history ++ e ∷ [])).statement ≡ None =
      ap (λ (x : Known). x.statement) (known_same head (actors.Session n) history e same) ∙ ap (λ event. statement_after event (known_at head (actors.Session n) history).statement) is in
      absurd (let both : ◌≡◌ {A = Option Statement} None (Some s) = sym none ∙ opened in cc both)
  reads-step history e run may all n same event is s opened =
      let k = known_at head (actors.Session n) history in
      let l = known_at head (actors.Session n) (history ++ e ∷ []) in
      let within : IsWithin e.event = subst IsWithin (sym is) tt in
      let known = known_same head (actors.Session n) history e same in
      let before : k.statement ≡ Some s = sym (ap (λ (x : Known). x.statement) known ∙ within-statement e.event k.statement within) ∙ opened in
      let on = read-still history e run may within n same in
      let acts : Does head (actors.Session n) k e.event = subst (λ a. Does head a (known_at head a history) e.event) same (act_of head history e may) in
      subst (Each (λ (m : Sent). IsReadNow l m.request)) (sym (ap (λ (x : Known). x.sent_now) known ∙ within-sent e.event k.sent_now within))
      (each-append (λ (m : Sent). IsReadNow l m.request) k.sent_now (sent_by e.event)
      (each-weaker (λ (m : Sent). IsReadNow k m.request) (λ (m : Sent). IsReadNow l m.request) (λ m. on m.request) k.sent_now (all n s before))
      (new-reads k (actors.Session n) (IsReadNow l) on e.event acts))

  -- what was sent in the open call reads for it, by the open transaction as it stands
  pub reads_now : (history : List (Entry Event)) → IsRun head history → (n : ℕ) (s : Statement) → (known_at head (actors.Session n) history).statement ≡ Some s
      → Each (λ (m : Sent). IsReadNow (known_at head (actors.Session n) history) m.request) (known_at head (actors.Session n) history).sent_now
  unfolding AreReadsNow
  reads_now = run_induction head AreReadsNow (λ n s opened. tt) (λ history e run may all n s opened.
      elim (same_or_not e.actor (actors.Session n)) [
        | inl same ↦ reads-step history e run may all n same e.event refl s opened
        | inr differ ↦
            let known = known_other head (actors.Session n) history e differ in
            subst (λ (k : Known). Each (λ (m : Sent). IsReadNow k m.request) k.sent_now) (sym known) (all n s (ap (λ (k : Known). k.statement) (sym known) ∙ opened))
      ])

  now-sent : (P : Sent → Type 0) (event : Event) (sent : List Sent) → Each P sent → Each P (sent_by event) → Each P (sent_now_after event sent)
  now-sent P (events.Ask call reading) sent old new = tt
  now-sent P event sent old new = each-append P sent (sent_by event) old new

  -- and it was sent
  pub now_was_sent : (history : List (Entry Event)) → IsRun head history → (actor : ActorId) → Each (WasSentBy head history actor) (known_at head actor history).sent_now
  now_was_sent = run_induction head (λ history. (actor : ActorId) → Each (WasSentBy head history actor) (known_at head actor history).sent_now) (λ actor. tt) (λ history e run may all actor.
      let k = known_at head actor history in
      let kept : Each (WasSentBy head (history ++ e ∷ []) actor) k.sent_now =
      each-weaker (WasSentBy head history actor) (WasSentBy head (history ++ e ∷ []) actor) (sent-more head history e actor) k.sent_now (all actor) in
      elim (same_or_not e.actor actor) [
        | inl same ↦
            subst (λ (l : Known). Each (WasSentBy head (history ++ e ∷ []) actor) l.sent_now) (sym (known_same head actor history e same))
            (now-sent (WasSentBy head (history ++ e ∷ []) actor) e.event k.sent_now kept (sent-now head history e actor same e.event refl))
        | inr differ ↦ subst (λ (l : Known). Each (WasSentBy head (history ++ e ∷ []) actor) l.sent_now) (sym (known_other head actor history e differ)) kept
      ])

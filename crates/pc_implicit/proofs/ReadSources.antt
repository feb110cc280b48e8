-- Each read that a transaction did comes from evaluations of its gets and scans.
use Rattle.std.proofs.Common.{◌≡◌, ℕ, ◌==◌, Bool, true, false, ◌||◌, inl, inr, List, [], ◌∷◌, ◌++◌, map, Option, Some, Contains, IsTrue, refl, sym, ap, subst, ◌∙◌}
use Rattle.std.proofs.lemmas.Bool.{eqb-true}
use Rattle.std.proofs.lemmas.List.{map-append}
use Rattle.std.proofs.lemmas.List.Elements.{Contains-append_left, Contains-append_right}
use Rattle.std.specs.List.{flat_map, list_any}
use Rattle.pc_base.specs.declared.actor.ActorId.TheVariants as actors
use Rattle.pc_base.specs.declared.entry.Entry.{Entry}
use Rattle.pc_base.specs.declared.span.Span.{Span}
use Rattle.pc_base.specs.declared.span.Span.TheVariants.{One}
use Rattle.pc_base.specs.declared.transaction.TxnId.{TxnId}
use Rattle.pc_implicit.proofs.Agreed.{open_there}
use Rattle.pc_implicit.proofs.Did.{session_at}
use Rattle.pc_implicit.proofs.Doing.{Does}
use Rattle.pc_implicit.proofs.EvaluatedAt.{AnsweredAt, SentAt, answered_at, one_sent, sent_at}
use Rattle.pc_implicit.proofs.Hearing.{IsSo, WasSentBy, now_is_so}
use Rattle.pc_implicit.proofs.OpenReads.{IsReadNow, StandsSo, now_was_sent, reads_now}
use Rattle.pc_implicit.proofs.PieceRanges.{piece_range}
use Rattle.pc_implicit.proofs.ReadAt.{is_read_at}
use Rattle.pc_implicit.proofs.SessionReads.{IsReadAt, ReadsFrom, ReadsPieces, plain}
use Rattle.pc_lists.proofs.Each.{each-contains}
use Rattle.pc_lists.proofs.Lists.{contains_cons, contains_head, contains_in_filter, contains_nil, contains_tail}
use Rattle.pc_proto.specs.declared.call.Call.{Call}
use Rattle.pc_proto.specs.declared.call.Call.TheVariants as calls
use Rattle.pc_proto.specs.declared.event.Event.{Event}
use Rattle.pc_proto.specs.declared.event.Event.TheVariants as events
use Rattle.pc_proto.specs.declared.reply.Origin.{Origin}
use Rattle.pc_proto.specs.declared.reply.Reply.{Reply}
use Rattle.pc_proto.specs.declared.reply.Reply.TheVariants as replies
use Rattle.pc_proto.specs.declared.request.Request.{Request}
use Rattle.pc_proto.specs.declared.request.Request.TheVariants as requests
use Rattle.pc_world.proofs.Prefixes.{run_front}
use Rattle.pc_world.specs.After.{known_at}
use Rattle.pc_world.specs.Known.{call_of, open_txn}
use Rattle.pc_world.specs.Known.Reads.{Read as ReadMade, read_heard, reads_heard}
use Rattle.pc_world.specs.Known.Statements.{Statement}
use Rattle.pc_world.specs.Known.Traffic.{Heard, Sent, is_reply_to_one, replies_to}
use Rattle.pc_world.specs.Known.Transactions.{Txn}
use Rattle.pc_world.specs.Known.Writes.{last_seq_of}
use Rattle.pc_world.specs.Local.{Head}
use Rattle.pc_world.specs.Operations.{operations_of}
use Rattle.pc_world.specs.RangeOf.{pieces, range_of}
use Rattle.pc_world.specs.Run.{IsRun}
use Rattle.pc_world.specs.Tell.Data.{AreRowsOf, AreRowsOfAll, IsValueOf, MayTellRows, MayTellValue, told_row, was_sent_now}

-- ---- what was heard of a read

-- The reply has this value of the get.
record HasValue (value : Option (List ℕ)) (request : Request) (reply : Reply) : Type 0 where
  id : TxnId
  epoch : ℕ
  seq : ℕ
  ts : ℕ
  key : List ℕ
  origin : Origin
  asked : request ≡ requests.Get id epoch seq ts key
  told : reply ≡ replies.Value origin value

has-value : (value : Option (List ℕ)) (request : Request) (reply : Reply) → IsValueOf value request reply → HasValue value request reply
has-value value (requests.Get id epoch seq ts key) (replies.Value origin found) is =
    record { id = id; epoch = epoch; seq = seq; ts = ts; key = key; origin = origin; asked = refl; told = ap (replies.Value origin) is }
has-value value request reply is = absurd is

-- The reply has these rows of the piece.
record HasRows (span : Span) (rows : List (List ℕ × Origin × List ℕ)) (request : Request) (reply : Reply) : Type 0 where
  id : TxnId
  epoch : ℕ
  seq : ℕ
  ts : ℕ
  asked : request ≡ requests.Scan id epoch seq ts span
  told : reply ≡ replies.Rows rows

has-rows : (span : Span) (rows : List (List ℕ × Origin × List ℕ)) (request : Request) (reply : Reply) → AreRowsOf span rows request reply → HasRows span rows request reply
has-rows span rows (requests.Scan id epoch seq ts piece) (replies.Rows found) is =
    record { id = id; epoch = epoch; seq = seq; ts = ts; asked = ap (requests.Scan id epoch seq ts) is.0; told = ap replies.Rows is.1 }
has-rows span rows request reply is = absurd is

any-number : (number : ℕ) (sent : List Sent) → list_any (λ m. m.number == number) sent ≡ true → (m : Sent) × Contains sent m × (m.number ≡ number)
any-number number [] is = absurd cc
any-number number (m ∷ ms) is = by (m.number == number) refl is (any-number number ms)
  where
    by : (b : Bool) → (m.number == number) ≡ b → (b || list_any (λ m. m.number == number) ms) ≡ true → (list_any (λ m. m.number == number) ms ≡ true → (x : Sent) × Contains ms x × (x.number ≡ number))
        → (x : Sent) × Contains (m ∷ ms) x × (x.number ≡ number)
    by true same is rest = (m, contains_head m ms, eqb-true m.number number same)
    by false other is rest = let r = rest is in (r.0, contains_tail m ms r.0 r.1, r.2)

in-flat : {X Y : Type 0} (f : X → List Y) (xs : List X) (x : X) (y : Y) → Contains xs x → Contains (f x) y → Contains (flat_map f xs) y
in-flat f [] x y there inside = absurd (contains_nil x there)
in-flat f (z ∷ zs) x y there inside =
    elim (contains_cons z zs x there) [
      | inl same ↦ Contains-append_left (f z) (flat_map f zs) y (subst (λ w. Contains (f w) y) (sym same) inside)
      | inr later ↦ Contains-append_right (f z) (flat_map f zs) y (in-flat f zs x y later inside)
    ]

plain-told : (found : List (List ℕ × Origin × List ℕ)) → map plain (map told_row found) ≡ map plain found
plain-told [] = refl
plain-told (row ∷ rows) = ap (λ rs. (row.0, row.2) ∷ rs) (plain-told rows)

-- The open transaction of a session, in an open call.
module _ (head : Head) (history : List (Entry Event)) (run : IsRun head history) (id : TxnId) (t : Txn) (named : t.id ≡ id) (opened : open_txn (session_at head id history) ≡ Some t)
    (s : Statement) (asked : (session_at head id history).statement ≡ Some s) where
  mine : Contains (session_at head id history).txns t
  mine = open_there (session_at head id history) t opened

  -- The reads that are made when the call is told what it read.
  unfoldable pub now-read : List ReadMade
  now-read = t.reads ++ reads_heard (replies_to (session_at head id history).sent_now (session_at head id history).heard_now)

  -- what was heard answers what was sent in the call
  heard-reads : (h : Heard) → Contains (session_at head id history).heard_now h → IsTrue (was_sent_now (session_at head id history) h) → IsReadNow (session_at head id history) h.request
  heard-reads h there now =
      let actor = actors.Session id.session in
      let m = any-number h.number (session_at head id history).sent_now now in
      let sent : WasSentBy head history actor m.0 = each-contains (WasSentBy head history actor) (session_at head id history).sent_now m.0 (now_was_sent head history run actor) m.1 in
      let w : IsSo head history actor h = each-contains (IsSo head history actor) (session_at head id history).heard_now h (now_is_so head history run actor) there in
      let sends : sent.send.event ≡ events.Send h.number m.0.range m.0.request = sent.sends ∙ ap (λ n. events.Send n m.0.range m.0.request) m.2 in
      let one : sent.send ≡ w.send = one_sent head history run actor h.number h.reply sent.send w.send m.0.range w.range m.0.request h.request sent.listed w.listed sent.whose w.whose sends w.sends in
      let both : events.Send h.number m.0.range m.0.request ≡ events.Send h.number w.range h.request = sym sends ∙ ap (λ (x : Entry Event). x.event) one ∙ w.sends in
      let same : m.0.request ≡ h.request = cc both in
      subst (IsReadNow (session_at head id history)) same
      (each-contains (λ (m : Sent). IsReadNow (session_at head id history) m.request) (session_at head id history).sent_now m.0 (reads_now head history run id.session s asked) m.1)

  -- the open transaction stands as the read says
  stands : (other : TxnId) (epoch seq : ℕ) → StandsSo (session_at head id history) other epoch seq → (other ≡ id) × (epoch ≡ t.epoch) × (last_seq_of t.writes ≡ seq)
  stands other epoch seq w =
      let both : Some w.t ≡ Some t = sym w.opened ∙ opened in
      let same : w.t ≡ t = cc both in
      (sym w.named ∙ ap (λ (x : Txn). x.id) same ∙ named, sym w.same_epoch ∙ ap (λ (x : Txn). x.epoch) same, ap (λ (x : Txn). last_seq_of x.writes) (sym same) ∙ w.last)

  module _ (h : Heard) (there : Contains (session_at head id history).heard_now h) (now : IsTrue (was_sent_now (session_at head id history) h)) where
    so : IsSo head history (actors.Session id.session) h
    so = each-contains (IsSo head history (actors.Session id.session)) (session_at head id history).heard_now h (now_is_so head history run (actors.Session id.session)) there

    answered : (request : Request) (told : Reply) → h.request ≡ request → h.reply ≡ told → AnsweredAt head history (actors.Session id.session) h.number so.range request told
    answered request told is also =
        subst (λ q. AnsweredAt head history (actors.Session id.session) h.number so.range q told) is
        (subst (AnsweredAt head history (actors.Session id.session) h.number so.range h.request) also (answered_at head history run (actors.Session id.session) h.number h.request h.reply so))

    kept : (read : ReadMade) → Contains (read_heard h.request h.reply) read → Contains now-read read
    unfolding now-read
    kept read inside =
        let replied = replies_to (session_at head id history).sent_now (session_at head id history).heard_now in
        Contains-append_right t.reads (reads_heard replied) read
        (in-flat (λ (g : Heard). read_heard g.request g.reply) replied h read (contains_in_filter (is_reply_to_one (session_at head id history).sent_now) (session_at head id history).heard_now h there now) inside)

    -- where the message was sent
    sent-from : (number range : ℕ) (request : Request) (told : Reply) (a : AnsweredAt head history (actors.Session id.session) number range request told)
        → (from : SentAt head a.before a.send) × Does head (actors.Session id.session) (session_at head id from.before) (events.Send number range request)
    sent-from number range request told a =
        let from = sent_at head a.before (run_front head a.before (a.e ∷ a.later) (subst (IsRun head) a.whole run)) a.send a.listed in
        (from, subst (λ event. Does head (actors.Session id.session) (session_at head id from.before) event) a.sends (subst (λ who. Does head who (known_at head who from.before) a.send.event) a.whose from.does))

    got : (value : Option (List ℕ)) (key : List ℕ) → call_of (session_at head id history) ≡ Some (calls.Get key) → HasValue value h.request h.reply → ReadsFrom head history id t.epoch now-read (operations_of history id) key value
    got value key call v =
        let now_reads : IsReadNow (session_at head id history) (requests.Get v.id v.epoch v.seq v.ts v.key) = subst (IsReadNow (session_at head id history)) v.asked (heard-reads h there now) in
        let w = stands v.id v.epoch v.seq now_reads.0 in
        let both : ◌≡◌ {A = Option Call} (Some (calls.Get v.key)) (Some (calls.Get key)) = sym now_reads.1 ∙ call in
        let key_is : v.key ≡ key = cc both in
        let request_is : requests.Get v.id v.epoch v.seq v.ts v.key ≡ requests.Get id t.epoch v.seq v.ts key = λ i. requests.Get (w.0 i) (w.1 i) v.seq v.ts (key_is i) in
        let a = answered (requests.Get id t.epoch v.seq v.ts key) (replies.Value v.origin value) (v.asked ∙ request_is) v.told in
        let from = sent-from h.number so.range (requests.Get id t.epoch v.seq v.ts key) (replies.Value v.origin value) a in
        let row = from.1.row in
        let range : so.range ≡ range_of head.splits key = from.1.there in
        let read_is : Contains (read_heard h.request h.reply) (record { span = One key; ts = v.ts }) =
        subst (λ q. Contains (read_heard q h.reply) (record { span = One key; ts = v.ts })) (sym (v.asked ∙ request_is))
        (subst (λ r. Contains (read_heard (requests.Get id t.epoch v.seq v.ts key) r) (record { span = One key; ts = v.ts })) (sym v.told) (contains_head (record { span = One key; ts = v.ts }) [])) in
        record {
          origin = v.origin;
          at =
              subst (λ r. IsReadAt head history id t.epoch now-read (operations_of history id) (One key) r (λ seq ts. requests.Get id t.epoch seq ts key) (replies.Value v.origin value)) range
              (is_read_at head history run id t mine named h.number so.range (requests.Get id t.epoch v.seq v.ts key) (replies.Value v.origin value) a from.0 v.seq v.ts (One key) row.t row.opened row.read w.2
              (λ seq ts. requests.Get id t.epoch seq ts key) refl now-read (kept (record { span = One key; ts = v.ts }) read_is));
        }

    scanned : (whole : Span) (p : ℕ × Span) → Contains (pieces head.splits whole) p → (found : List (List ℕ × Origin × List ℕ)) → HasRows p.1 found h.request h.reply
        → IsReadAt head history id t.epoch now-read (operations_of history id) p.1 p.0 (λ seq ts. requests.Scan id t.epoch seq ts p.1) (replies.Rows found)
    scanned whole p piece found v =
        let now_reads : IsReadNow (session_at head id history) (requests.Scan v.id v.epoch v.seq v.ts p.1) = subst (IsReadNow (session_at head id history)) v.asked (heard-reads h there now) in
        let w = stands v.id v.epoch v.seq now_reads.1 in
        let request_is : requests.Scan v.id v.epoch v.seq v.ts p.1 ≡ requests.Scan id t.epoch v.seq v.ts p.1 = λ i. requests.Scan (w.0 i) (w.1 i) v.seq v.ts p.1 in
        let a = answered (requests.Scan id t.epoch v.seq v.ts p.1) (replies.Rows found) (v.asked ∙ request_is) v.told in
        let from = sent-from h.number so.range (requests.Scan id t.epoch v.seq v.ts p.1) (replies.Rows found) a in
        let row = from.1.row in
        let range : so.range ≡ p.0 = piece_range head.splits whole p piece so.range from.1.there in
        let read_is : Contains (read_heard h.request h.reply) (record { span = p.1; ts = v.ts }) =
        subst (λ q. Contains (read_heard q h.reply) (record { span = p.1; ts = v.ts })) (sym (v.asked ∙ request_is))
        (subst (λ r. Contains (read_heard (requests.Scan id t.epoch v.seq v.ts p.1) r) (record { span = p.1; ts = v.ts })) (sym v.told) (contains_head (record { span = p.1; ts = v.ts }) [])) in
        subst (λ r. IsReadAt head history id t.epoch now-read (operations_of history id) p.1 r (λ seq ts. requests.Scan id t.epoch seq ts p.1) (replies.Rows found)) range
        (is_read_at head history run id t mine named h.number so.range (requests.Scan id t.epoch v.seq v.ts p.1) (replies.Rows found) a from.0 v.seq v.ts p.1 row.t row.opened row.read w.2
        (λ seq ts. requests.Scan id t.epoch seq ts p.1) refl now-read (kept (record { span = p.1; ts = v.ts }) read_is))

  -- the value that is told comes from a get
  pub value-from : (value : Option (List ℕ)) (key : List ℕ) → MayTellValue (session_at head id history) s value → call_of (session_at head id history) ≡ Some (calls.Get key) → ReadsFrom head history id t.epoch now-read (operations_of history id) key value
  value-from value key may call =
      let (n, h, inside, at, is) = may.heard in
      got h (n, inside, at) is.0 value key call (has-value value h.request h.reply is.1)

  -- the rows that are told come from scans of the pieces
  pieces-from : (whole : Span) (ps : List (ℕ × Span)) → ((p : ℕ × Span) → Contains ps p → Contains (pieces head.splits whole) p) → (rows : List (List ℕ × Origin × List ℕ)) → AreRowsOfAll (session_at head id history) ps rows
      → ReadsPieces head history id t.epoch now-read (operations_of history id) ps (map plain rows)
  pieces-from whole [] on rows is = ap (map plain) is
  pieces-from whole (p ∷ ps) on rows is =
      let (n, h, inside, at, tells) = is.2 in (
        is.0,
        map plain is.1,
        scanned h (n, inside, at) tells.0 whole p (on p (contains_head p ps)) is.0 (has-rows p.1 is.0 h.request h.reply tells.1),
        ap (map plain) is.3 ∙ map-append plain (map told_row is.0) is.1 ∙ ap (λ rs. rs ++ map plain is.1) (plain-told is.0),
        pieces-from whole ps (λ q there. on q (contains_tail p ps q there)) is.1 is.4,
      )

  pub rows-from : (rows : List (List ℕ × Origin × List ℕ)) (span : Span) → MayTellRows head.splits (session_at head id history) s rows → s.call ≡ calls.Scan span → ReadsPieces head history id t.epoch now-read (operations_of history id) (pieces head.splits span) (map plain rows)
  rows-from rows span may call =
      let same : may.span ≡ span = let both : calls.Scan may.span ≡ calls.Scan span = sym may.asked ∙ call in cc both in
      subst (λ x. ReadsPieces head history id t.epoch now-read (operations_of history id) (pieces head.splits x) (map plain rows)) same
      (pieces-from may.span (pieces head.splits may.span) (λ p there. there) rows may.heard)

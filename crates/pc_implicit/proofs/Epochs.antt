-- In every run no epoch that a range, a request or a reply has of a transaction is later than the one that its session has reached.
use Rattle.std.proofs.Common.{◌≡◌, ℕ, ◌+◌, ◌<◌, ◌≤◌, nat_le, Bool, true, false, not, ◌&&◌, ◌==◌, inl, inr, List, [], ◌∷◌, ◌++◌, Option, None, Some, IfSome, Contains, refl, sym, ap, subst, ◌∙◌, arith, if◌then◌else◌}
use Rattle.std.proofs.lemmas.Bool.{and_parts, eqb-true, leb-false, le-leb}
use Rattle.std.proofs.lemmas.List.Elements.{Contains-push, Contains-push_cases}
use Rattle.std.specs.Prelude.{⊤}
use Rattle.pc_base.specs.declared.actor.ActorId.{ActorId}
use Rattle.pc_base.specs.declared.actor.ActorId.TheVariants as actors
use Rattle.pc_base.specs.declared.entry.Entry.{Entry}
use Rattle.pc_base.specs.declared.transaction.Priority.{Priority}
use Rattle.pc_base.specs.declared.transaction.TxnId.{TxnId}
use Rattle.pc_base.specs.declared.transaction.Who.{Who}
use Rattle.pc_history.specs.History.{MayFollow}
use Rattle.pc_history.specs.Own.{named_in}
use Rattle.pc_implicit.proofs.Agreed.{agreed, one_txn, open_there, owned}
use Rattle.pc_implicit.proofs.Anchored.{anchor_stays}
use Rattle.pc_implicit.proofs.Doing.{Does, does, same_or_not}
use Rattle.pc_implicit.proofs.EpochRows.{AreReached, IsMetaReached, IsRecordReached, PlaceReached, place_reached, reply_reached, state_reached}
use Rattle.pc_implicit.proofs.Evals.{NamedMessage, evaluated_state, of_entry, range_evaluates}
use Rattle.pc_implicit.proofs.FinalMarks.{marks_final}
use Rattle.pc_implicit.proofs.Hearing.{IsSo, now_is_so}
use Rattle.pc_implicit.proofs.IntentMetas.{AreInReply, meta_named}
use Rattle.pc_implicit.proofs.MetaRows.{MetaHas, RequestHas, brings}
use Rattle.pc_implicit.proofs.Metas.{HasAnchor, metas_agree}
use Rattle.pc_implicit.proofs.Runs.{reply_is}
use Rattle.pc_implicit.proofs.Turns.{Restarted, Turn, WentOn, Wrote, comes_from}
use Rattle.pc_implicit.specs.Epochs.{IsPastWhereElsewhere, IsPastWhereOpen, OpenRecordsArePast, OtherRecordsArePast}
use Rattle.pc_implicit.specs.Writes.{txns_of}
use Rattle.pc_lists.proofs.Each.{each-contains, each-weaker}
use Rattle.pc_lists.proofs.Lists.{contains_nil}
use Rattle.pc_proto.specs.declared.event.Event.{Event}
use Rattle.pc_proto.specs.declared.event.Event.TheVariants as events
use Rattle.pc_proto.specs.declared.fate.Goal.{Goal}
use Rattle.pc_proto.specs.declared.meta.TxnMeta.{TxnMeta}
use Rattle.pc_proto.specs.declared.record.Record.{Record}
use Rattle.pc_proto.specs.declared.record.Standing.{Standing}
use Rattle.pc_proto.specs.declared.record.Standing.TheVariants as standings
use Rattle.pc_proto.specs.declared.record.Status.{Status}
use Rattle.pc_proto.specs.declared.reply.Reply.{Reply}
use Rattle.pc_proto.specs.declared.reply.Reply.TheVariants as replies
use Rattle.pc_proto.specs.declared.request.Request.{Request}
use Rattle.pc_proto.specs.declared.request.Request.TheVariants as requests
use Rattle.pc_proto.specs.Place.{Place, Nothing, Kept, Marked, Stay, Become, after, is_final, status_view, view_of}
use Rattle.pc_proto.specs.RecordRows.{unless_decided}
use Rattle.pc_proto.specs.RecordRows.Commit.{commit}
use Rattle.pc_proto.specs.RecordRows.Reached.{activity_of, alive_at, is_staging, status_of}
use Rattle.pc_proto.specs.RecordRows.Stage.{stage}
use Rattle.pc_proto.specs.Replies.{ConflictsWith}
use Rattle.pc_proto.specs.Table.{place_of}
use Rattle.pc_world.proofs.Knowing.{run_push, state_other}
use Rattle.pc_world.proofs.Prefixes.{run_induction}
use Rattle.pc_world.specs.After.{known_at, state_at}
use Rattle.pc_world.specs.Committed.{anchor_in}
use Rattle.pc_world.specs.Known.{Known}
use Rattle.pc_world.specs.Known.Traffic.{Heard}
use Rattle.pc_world.specs.Known.Transactions.{IsMetaOf, Txn}
use Rattle.pc_world.specs.Local.{Head}
use Rattle.pc_world.specs.MaySend.{MaySend}
use Rattle.pc_world.specs.RangeOf.{GoesTo}
use Rattle.pc_world.specs.RangeState.{RangeState}
use Rattle.pc_world.specs.Run.{IsRun, protocol}
use Rattle.pc_world.specs.Send.Push.{ListsRecord, MaySendPush}

-- The transaction has an anchor, and its session has reached this epoch of it.
pub record HasReached (head : Head) (history : List (Entry Event)) (id : TxnId) (epoch : ℕ) : Type 0 where
  pub anchor : List ℕ
  pub anchored : anchor_in id history ≡ Some anchor
  pub low : (t : Txn) → Contains (txns_of head id history) t → t.id ≡ id → epoch ≤ t.epoch

-- The meta that a message brings, and those in a reply, are in such epochs.
abbrev pub EventReached : Head → List (Entry Event) → Event → Type 0
EventReached head history (events.Send number range request) = IfSome (meta_named request) (IsMetaReached (HasReached head history))
EventReached head history (events.Eval actor number told) = AreInReply (IsMetaReached (HasReached head history)) told
EventReached head history event = ⊤

-- So is all that the entries and the ranges have.
pub record Epochs (head : Head) (history : List (Entry Event)) : Type 0 where
  pub entries : (a : Entry Event) → Contains history a → EventReached head history a.event
  pub states : (range : ℕ) → AreReached (HasReached head history) (state_at head range history)

rises : (history : List (Entry Event)) (e : Entry Event) (k : Known) (t u : Txn) → Turn history e k t u → t.epoch ≤ u.epoch
rises history e k t u (WentOn same alike) = omega (arith, same)
rises history e k t u (Wrote w first same writes) = omega (arith, same)
rises history e k t u (Restarted r next writes) = omega (arith, next)

module _ (head : Head) (history : List (Entry Event)) (run : IsRun head history) (e : Entry Event) (may : MayFollow (protocol head) history e) where
  abbrev longer : List (Entry Event)
  longer = history ++ e ∷ []

  still : (id : TxnId) (epoch : ℕ) → HasReached head history id epoch → HasReached head longer id epoch
  still id epoch h = record {
    anchor = h.anchor;
    anchored = anchor_stays id history e h.anchor h.anchored;
    low = λ u there same. elim (comes_from head history run e may (actors.Session id.session) u there) [
      | inl b ↦ let both : None ≡ Some h.anchor = sym b.new.anchor ∙ ap (λ i. anchor_in i history) same ∙ h.anchored in absurd cc
      | inr c ↦ let low = h.low c.t c.there (sym c.same ∙ same) in let more = rises history e (known_at head (actors.Session id.session) history) c.t u c.turn in omega (arith, low, more)
    ];
  }

  meta-still : (m : TxnMeta) → IsMetaReached (HasReached head history) m → IsMetaReached (HasReached head longer) m
  meta-still m h = still m.id m.epoch h

  some-still : (m : Option TxnMeta) → IfSome m (IsMetaReached (HasReached head history)) → IfSome m (IsMetaReached (HasReached head longer))
  some-still None h = tt
  some-still (Some m) h = meta-still m h

  reply-still : (r : Reply) → AreInReply (IsMetaReached (HasReached head history)) r → AreInReply (IsMetaReached (HasReached head longer)) r
  reply-still (replies.Conflict holder ts key) h = meta-still holder h
  reply-still (replies.Listed metas) h = each-weaker (IsMetaReached (HasReached head history)) (IsMetaReached (HasReached head longer)) meta-still metas h
  reply-still r h = tt

  event-still : (event : Event) → EventReached head history event → EventReached head longer event
  event-still (events.Send number range request) h = some-still (meta_named request) h
  event-still (events.Eval actor number told) h = reply-still told h
  event-still event h = tt

  state-still : (s : RangeState) → AreReached (HasReached head history) s → AreReached (HasReached head longer) s
  state-still s h = record {
    intents = each-weaker (λ x. IsMetaReached (HasReached head history) x.1.meta) (λ x. IsMetaReached (HasReached head longer) x.1.meta) (λ x. meta-still x.1.meta) s.intents h.intents;
    records = each-weaker (λ x. IsRecordReached (HasReached head history) x.0 x.1) (λ x. IsRecordReached (HasReached head longer) x.0 x.1)
        (λ x a. (a.0, still x.0 x.1.status.epoch a.1)) s.table.records h.records;
  }

  -- ---- what is sent

  abbrev k : Known
  k = known_at head e.actor history

  -- a meta of a transaction of the session is in the epoch that the session has reached
  own-reached : (meta : TxnMeta) (t : Txn) → Contains k.txns t → meta.id ≡ t.id → meta.epoch ≡ t.epoch → HasAnchor longer meta.id meta.anchor → IsMetaReached (HasReached head longer) meta
  own-reached meta t mine whose epoch anchored = record {
    anchor = meta.anchor;
    anchored = anchored;
    low = λ u there same.
        let knows = agreed head history run e.actor in
        let who : e.actor ≡ actors.Session t.id.session = (owned e.actor (k.begun + 1) k.txns t knows.numbered mine).0 in
        let here : e.actor ≡ actors.Session meta.id.session = who ∙ ap (λ (i : TxnId). actors.Session i.session) (sym whose) in
        elim (comes_from head history run e may (actors.Session meta.id.session) u there) [
          | inl b ↦
              let first : Contains (known_at head (actors.Session meta.id.session) history).txns t = subst (λ a. Contains (known_at head a history).txns t) here mine in
              let agrees = each-contains _ (known_at head (actors.Session meta.id.session) history).txns t (agreed head history run (actors.Session meta.id.session)).agrees first in
              let both : None ≡ Some t.begin = sym b.new.begin ∙ ap (λ i. Rattle.pc_implicit.proofs.Agreed.begun_at i history) (same ∙ whose) ∙ agrees.begin in
              absurd cc
          | inr c ↦
              let theirs : Contains k.txns c.t = subst (λ a. Contains (known_at head a history).txns c.t) (sym here) c.there in
              let one : t ≡ c.t = one_txn e.actor (k.begun + 1) k.txns t c.t knows.numbered mine theirs (sym whose ∙ sym same ∙ c.same) in
              let more = rises history e (known_at head (actors.Session meta.id.session) history) c.t u c.turn in
              let level : meta.epoch ≡ c.t.epoch = epoch ∙ ap (λ (x : Txn). x.epoch) one in
              omega (arith, more, level)
        ];
  }

  -- that of a meta made of the transaction
  made-reached : (meta : TxnMeta) (t : Txn) → Contains k.txns t → IsMetaOf t meta → HasAnchor longer meta.id meta.anchor → IsMetaReached (HasReached head longer) meta
  made-reached meta t mine is anchored = own-reached meta t mine (ap (λ (m : TxnMeta). m.id) is.same) (ap (λ (m : TxnMeta). m.epoch) is.same) anchored

  module _ (all : Epochs head history) where
    heard-reply : (h : Heard) → IsSo head history e.actor h → AreInReply (IsMetaReached (HasReached head history)) h.reply
    heard-reply h so = subst (EventReached head history) so.told (all.entries so.eval so.evaluated)

    met-reached : (holder : TxnMeta) (r : Reply) → AreInReply (IsMetaReached (HasReached head history)) r → ConflictsWith holder r → IsMetaReached (HasReached head history) holder
    met-reached holder (replies.Conflict other ts key) h is = subst (IsMetaReached (HasReached head history)) is h
    met-reached holder r h is = absurd is

    listed-reached : (holder : TxnMeta) (r : Reply) → AreInReply (IsMetaReached (HasReached head history)) r → ListsRecord holder r → IsMetaReached (HasReached head history) holder
    listed-reached holder (replies.Listed metas) h is = each-contains (IsMetaReached (HasReached head history)) metas holder h is
    listed-reached holder r h is = absurd is

    pushed-reached : (actor : ActorId) → e.actor ≡ actor → (holder : TxnMeta) (by : Who) (level : Priority) (now : ℕ) (goal : Goal) → MaySendPush actor k holder by level now goal → IsMetaReached (HasReached head longer) holder
    pushed-reached (actors.Session number) is holder by level now goal row =
        let (n, h, inside, at, met) = row.conflict in
        meta-still holder (met-reached holder h.reply (heard-reply h (each-contains (IsSo head history e.actor) k.heard_now h (now_is_so head history run e.actor) (n, inside, at))) met.conflict)
    pushed-reached (actors.Recoverer number) is holder by level now goal row =
        let (n, h, inside, at, lists) = row.was_listed in
        meta-still holder (listed-reached holder h.reply (heard-reply h (each-contains (IsSo head history e.actor) k.heard_now h (now_is_so head history run e.actor) (n, inside, at))) lists)
    pushed-reached (actors.Range number) is holder by level now goal row = absurd row

    sent-reached : (number range : ℕ) (request : Request) → MaySend head.splits e.actor k number range request → IfSome (meta_named request) (MetaHas (HasAnchor longer)) → IfSome (meta_named request) (IsMetaReached (HasReached head longer))
    sent-reached number range (requests.Put meta seq ts key value) sent anchored = elim sent.row [
      | inl f ↦ own-reached meta f.t (open_there k f.t f.opened) (ap (λ (m : TxnMeta). m.id) f.whose) (ap (λ (m : TxnMeta). m.epoch) f.whose) anchored
      | inr a ↦ made-reached meta a.t a.mine a.whose anchored
    ]
    sent-reached number range (requests.Beat meta ts now) sent anchored = let row = sent.row in made-reached meta row.t (open_there k row.t row.opened) row.whose anchored
    sent-reached number range (requests.Stage meta ts now writes locks) sent anchored = elim sent.row [
      | inl new ↦ made-reached meta new.t (open_there k new.t new.opened) new.whose anchored
      | inr again ↦ own-reached meta again.t again.mine again.whose again.epoch_now anchored
    ]
    sent-reached number range (requests.Commit meta ts locks) sent anchored = let row = sent.row in made-reached meta row.t row.mine row.whose anchored
    sent-reached number range (requests.Abort meta why locks) sent anchored = let row = sent.row in made-reached meta row.t (open_there k row.t row.opened) row.whose anchored
    sent-reached number range (requests.Push holder by level now goal) sent anchored = pushed-reached e.actor refl holder by level now goal sent.row
    sent-reached number range request sent anchored = tt

    -- ---- one more entry

    evaluated-reached : (actor : ActorId) (number : ℕ) (told : Reply) (ev : NamedMessage head history e.actor actor number told) → IfSome (meta_named ev.request) (IsMetaReached (HasReached head history))
    evaluated-reached actor number told ev = subst (EventReached head history) ev.sends (all.entries ev.send ev.listed)

    event-reached : (event : Event) → e.event ≡ event → EventReached head longer event
    event-reached (events.Send number range request) is =
        let act : Does head e.actor (known_at head e.actor history) (events.Send number range request) = subst (Does head e.actor (known_at head e.actor history)) is (does head e.actor _ e.event (named_in (protocol head) history e.event) may.local.next) in
        let has : GoesTo head.splits request range × RequestHas (HasAnchor longer) request = subst (Rattle.pc_implicit.proofs.Metas.EventHas head longer) is ((metas_agree head longer (run_push head history e run may)).entries e (Contains-push history e)) in
        sent-reached number range request act (brings (HasAnchor longer) request has.1)
    event-reached (events.Eval actor number told) is =
        let ev = of_entry head history e actor number told run may is in
        reply-still told
        (subst (AreInReply (IsMetaReached (HasReached head history))) (sym (reply_is head history e actor number told may is ev)) (reply_reached (HasReached head history) ev.request (state_at head ev.range history) (all.states ev.range)))
    event-reached event is = tt

    state-reached : (range : ℕ) → AreReached (HasReached head longer) (state_at head range longer)
    state-reached range =
        state-still (state_at head range (history ++ e ∷ []))
        (elim (same_or_not e.actor (actors.Range range)) [
          | inl at ↦
              let what = range_evaluates head history e range may at in
              let ev = of_entry head history e what.0 what.1 what.2 run may what.3 in
              let same : ev.range ≡ range = let both = sym ev.there ∙ at in cc both in
              subst (λ r. AreReached (HasReached head history) (state_at head r (history ++ e ∷ []))) same
              (subst (AreReached (HasReached head history)) (sym (evaluated_state head history e what.0 what.1 ev.range what.2 ev what.3))
              (state_reached (HasReached head history) ev.request (state_at head ev.range history) (evaluated-reached what.0 what.1 what.2 ev) (all.states ev.range)))
          | inr differ ↦ subst (AreReached (HasReached head history)) (sym (state_other head (actors.Range range) history e differ)) (all.states range)
        ])

module _ (head : Head) where
  -- in every run all epochs were reached
  pub epochs_are_reached : (history : List (Entry Event)) → IsRun head history → Epochs head history
  epochs_are_reached = run_induction head (Epochs head) (record { entries = λ a there. absurd (contains_nil a there); states = λ range. record { intents = tt; records = tt } }) (λ history e run may all. record {
    entries = λ a there. elim (Contains-push_cases history e a there) [
      | inl before ↦ event-still head history run e may a.event (all.entries a before)
      | inr now ↦ subst (λ (x : Entry Event). EventReached head (history ++ e ∷ []) x.event) now (event-reached head history run e may all e.event refl)
    ];
    states = state-reached head history run e may all;
  })

-- ---- a commit that leaves the record undecided

over-at : (epoch ts : ℕ) (standing : Standing) (other at : ℕ) (writes : List (List ℕ × ℕ)) (locks : List (List ℕ)) → other ≤ epoch → (nat_le other epoch && nat_le at ts) ≡ false
    → IsPastWhereOpen ts (replies.Status (status_view standing other at writes locks))
over-at epoch ts standing other at writes locks low over = by standing (leb-false at ts (sym (ap (λ b. b && nat_le at ts) (le-leb other epoch low)) ∙ over))
  where
    by : (standing : Standing) → ts < at → IsPastWhereOpen ts (replies.Status (status_view standing other at writes locks))
    by standings.Pending past = past
    by standings.Staging past = past
    by standings.Committed past = tt
    by (standings.Aborted why) past = tt

final-at : (ts : ℕ) (standing : Standing) (other at : ℕ) (writes : List (List ℕ × ℕ)) (locks : List (List ℕ)) → is_final standing ≡ true → IsPastWhereOpen ts (replies.Status (status_view standing other at writes locks))
final-at ts standings.Pending other at writes locks final = absurd cc
final-at ts standings.Staging other at writes locks final = absurd cc
final-at ts standings.Committed other at writes locks final = tt
final-at ts (standings.Aborted why) other at writes locks final = tt

-- The epoch of a record there is not above this one.
abbrev IsLowPlace : ℕ → Place → Type 0
IsLowPlace most (Kept r) = r.status.epoch ≤ most
IsLowPlace most p = ⊤

marked-at : (ts : ℕ) (s : Status) → is_final s.standing ≡ true → IsPastWhereOpen ts (replies.Status (view_of (Marked s)))
marked-at ts s final = final-at ts s.standing s.epoch s.ts [] [] final

past-at : (meta : TxnMeta) (ts : ℕ) (locks : List (List ℕ)) (p : Place) → IsLowPlace meta.epoch p → ((s : Status) → p ≡ Marked s → is_final s.standing ≡ true)
    → IsPastWhereOpen ts (replies.Status (view_of (after p (unless_decided p (commit meta ts locks p)))))
past-at meta ts locks Nothing low marks = tt
past-at meta ts locks (Kept r) low marks = by (is_final r.status.standing) refl (nat_le r.status.epoch meta.epoch && nat_le r.status.ts ts) refl
  where
    made : Record
    made = record { meta = meta; status = status_of standings.Committed meta.epoch ts; activity = activity_of (Kept r) meta.born; writes = []; locks = locks }

    by : (b : Bool) → is_final r.status.standing ≡ b → (c : Bool) → (nat_le r.status.epoch meta.epoch && nat_le r.status.ts ts) ≡ c
        → IsPastWhereOpen ts (replies.Status (view_of (after (Kept r) (if b then Stay else (if c then Become made else Stay)))))
    by true final c is = final-at ts r.status.standing r.status.epoch r.status.ts r.writes r.locks final
    by false more true reached = tt
    by false more false over = over-at meta.epoch ts r.status.standing r.status.epoch r.status.ts r.writes r.locks low over
past-at meta ts locks (Marked s) low marks = marked-at ts s (marks s refl)

low-at : (head : Head) (history : List (Entry Event)) (meta : TxnMeta) (t : Txn) (p : Place) → Contains (txns_of head meta.id history) t → t.id ≡ meta.id → t.epoch ≤ meta.epoch → PlaceReached (HasReached head history) meta.id p
    → IsLowPlace meta.epoch p
low-at head history meta t Nothing mine whose low a = tt
low-at head history meta t (Kept r) mine whose low a = let reached = a.1.low t mine whose in omega (arith, reached, low)
low-at head history meta t (Marked s) mine whose low a = tt

-- a commit of the epoch that its session has reached, which leaves the record undecided, finds it past its timestamp
pub open_records_are_past : OpenRecordsArePast
open_records_are_past head history range meta ts locks t run mine whose low =
    let table = (state_at head range history).table in
    past-at meta ts locks (place_of meta.id table)
    (low-at head history meta t (place_of meta.id table) mine whose low (place_reached (HasReached head history) meta.id table ((epochs_are_reached head history run).states range).records))
    (λ s is. marks_final head range meta.id history s is)

-- ---- a stage that leaves the record undecided, and not staging so

elsewhere-over : (epoch ts : ℕ) (standing : Standing) (other at : ℕ) (writes : List (List ℕ × ℕ)) (locks : List (List ℕ)) → other ≤ epoch → (nat_le other epoch && nat_le at ts) ≡ false
    → IsPastWhereElsewhere epoch ts (replies.Status (status_view standing other at writes locks))
elsewhere-over epoch ts standing other at writes locks low over = by standing (leb-false at ts (sym (ap (λ b. b && nat_le at ts) (le-leb other epoch low)) ∙ over))
  where
    by : (standing : Standing) → ts < at → IsPastWhereElsewhere epoch ts (replies.Status (status_view standing other at writes locks))
    by standings.Pending past = past
    by standings.Staging past = inr past
    by standings.Committed past = tt
    by (standings.Aborted why) past = tt

elsewhere-final : (epoch ts : ℕ) (standing : Standing) (other at : ℕ) (writes : List (List ℕ × ℕ)) (locks : List (List ℕ)) → is_final standing ≡ true
    → IsPastWhereElsewhere epoch ts (replies.Status (status_view standing other at writes locks))
elsewhere-final epoch ts standings.Pending other at writes locks final = absurd cc
elsewhere-final epoch ts standings.Staging other at writes locks final = absurd cc
elsewhere-final epoch ts standings.Committed other at writes locks final = tt
elsewhere-final epoch ts (standings.Aborted why) other at writes locks final = tt

staged-so : (epoch ts : ℕ) (standing : Standing) (other at : ℕ) (writes : List (List ℕ × ℕ)) (locks : List (List ℕ)) → (is_staging standing && (other == epoch && at == ts)) ≡ true
    → IsPastWhereElsewhere epoch ts (replies.Status (status_view standing other at writes locks))
staged-so epoch ts standings.Staging other at writes locks so = let both = and_parts (other == epoch) (at == ts) so in inl (eqb-true other epoch both.0, eqb-true at ts both.1)
staged-so epoch ts standings.Pending other at writes locks so = absurd cc
staged-so epoch ts standings.Committed other at writes locks so = absurd cc
staged-so epoch ts (standings.Aborted why) other at writes locks so = absurd cc

marked-elsewhere : (epoch ts : ℕ) (s : Status) → is_final s.standing ≡ true → IsPastWhereElsewhere epoch ts (replies.Status (view_of (Marked s)))
marked-elsewhere epoch ts s final = elsewhere-final epoch ts s.standing s.epoch s.ts [] [] final

elsewhere-at : (meta : TxnMeta) (ts now : ℕ) (writes : List (List ℕ × ℕ)) (locks : List (List ℕ)) (p : Place) → IsLowPlace meta.epoch p → ((s : Status) → p ≡ Marked s → is_final s.standing ≡ true)
    → IsPastWhereElsewhere meta.epoch ts (replies.Status (view_of (after p (unless_decided p (stage meta ts now writes locks p)))))
elsewhere-at meta ts now writes locks Nothing low marks = inl (refl, refl)
elsewhere-at meta ts now writes locks (Kept r) low marks =
    by (is_final r.status.standing) refl (nat_le r.status.epoch meta.epoch && nat_le r.status.ts ts) refl (is_staging r.status.standing && (r.status.epoch == meta.epoch && r.status.ts == ts)) refl
  where
    made : Record
    made = record { meta = meta; status = status_of standings.Staging meta.epoch ts; activity = alive_at (Kept r) now; writes = writes; locks = locks }

    by : (b : Bool) → is_final r.status.standing ≡ b → (c : Bool) → (nat_le r.status.epoch meta.epoch && nat_le r.status.ts ts) ≡ c
        → (d : Bool) → (is_staging r.status.standing && (r.status.epoch == meta.epoch && r.status.ts == ts)) ≡ d
        → IsPastWhereElsewhere meta.epoch ts (replies.Status (view_of (after (Kept r) (if b then Stay else (if c && not d then Become made else Stay)))))
    by true final c is d so = elsewhere-final meta.epoch ts r.status.standing r.status.epoch r.status.ts r.writes r.locks final
    by false more true reached false other = inl (refl, refl)
    by false more true reached true so = staged-so meta.epoch ts r.status.standing r.status.epoch r.status.ts r.writes r.locks so
    by false more false over d so = elsewhere-over meta.epoch ts r.status.standing r.status.epoch r.status.ts r.writes r.locks low over
elsewhere-at meta ts now writes locks (Marked s) low marks = marked-elsewhere meta.epoch ts s (marks s refl)

-- a stage of the epoch that its session has reached, which leaves the record undecided and not staging so, finds it past its timestamp
pub other_records_are_past : OtherRecordsArePast
other_records_are_past head history range meta ts now writes locks t run mine whose low =
    let table = (state_at head range history).table in
    elsewhere-at meta ts now writes locks (place_of meta.id table)
    (low-at head history meta t (place_of meta.id table) mine whose low (place_reached (HasReached head history) meta.id table ((epochs_are_reached head history run).states range).records))
    (λ s is. marks_final head range meta.id history s is)

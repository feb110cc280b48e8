-- In every run each meta in a range, a request or a reply has its transaction's anchor, and each request to a record goes to the range
-- of its transaction's anchor.
use Rattle.std.proofs.Common.{◌≡◌, ℕ, Bool, true, false, cond, ◌⊎◌, if◌then◌else◌, inl, inr, List, [], ◌∷◌, ◌++◌, find, Option, None, Some, IfSome, Contains, refl, sym, ap, subst, ◌∙◌}
use Rattle.std.proofs.lemmas.Bool.{and_parts}
use Rattle.std.proofs.lemmas.List.Elements.{Contains-push, Contains-push_cases}
use Rattle.std.specs.List.{AllByRecursion as Each}
use Rattle.std.specs.Option.{option_and_then}
use Rattle.std.specs.Prelude.{⊤, is_some}
use Rattle.pc_base.specs.declared.actor.ActorId.{ActorId}
use Rattle.pc_base.specs.declared.actor.ActorId.TheVariants as actors
use Rattle.pc_base.specs.declared.entry.Entry.{Entry}
use Rattle.pc_base.specs.declared.transaction.Priority.{Priority}
use Rattle.pc_base.specs.declared.transaction.TxnId.{TxnId}
use Rattle.pc_base.specs.declared.transaction.Who.{Who}
use Rattle.pc_history.specs.History.{MayFollow}
use Rattle.pc_history.specs.Own.{named_in}
use Rattle.pc_implicit.proofs.Agreed.{Knows, agreed, open_there}
use Rattle.pc_implicit.proofs.Anchored.{anchor_stays, commit_anchored, meta-anchored, put_anchored}
use Rattle.pc_implicit.proofs.Doing.{Does, does, same_or_not}
use Rattle.pc_implicit.proofs.Evals.{NamedMessage, evaluated_state, of_entry, range_evaluates}
use Rattle.pc_implicit.proofs.Hearing.{IsSo, WasSentBy, heard_is_so, now_is_so, sent_is_so}
use Rattle.pc_implicit.proofs.MetaRows.{MetaHas, ReplyHas, RequestHas, StateHas, anchor_named, reply_has, state_has}
use Rattle.pc_implicit.proofs.Runs.{reply_is}
use Rattle.pc_implicit.proofs.Views.{subject-is}
use Rattle.pc_lists.proofs.Each.{each-at, each-contains, each-weaker}
use Rattle.pc_lists.proofs.Lists.{contains_nil}
use Rattle.pc_lists.proofs.Same.{same_txn-is}
use Rattle.pc_proto.specs.declared.event.Event.{Event}
use Rattle.pc_proto.specs.declared.event.Event.TheVariants as events
use Rattle.pc_proto.specs.declared.fate.Goal.{Goal}
use Rattle.pc_proto.specs.declared.meta.TxnMeta.{TxnMeta}
use Rattle.pc_proto.specs.declared.reply.Reply.{Reply}
use Rattle.pc_proto.specs.declared.reply.Reply.TheVariants as replies
use Rattle.pc_proto.specs.declared.request.Request.{Request}
use Rattle.pc_proto.specs.declared.request.Request.TheVariants as requests
use Rattle.pc_proto.specs.Replies.{ConflictsWith, view_in}
use Rattle.pc_proto.specs.Requests.{is_about, subject, subject_anchor as anchor_of}
use Rattle.pc_world.proofs.Knowing.{run_push, state_other}
use Rattle.pc_world.proofs.Prefixes.{run_induction}
use Rattle.pc_world.specs.After.{known_at, place_at, state_at}
use Rattle.pc_world.specs.Committed.{anchor_in}
use Rattle.pc_world.specs.Evaluation.{reply}
use Rattle.pc_world.specs.Known.{Known}
use Rattle.pc_world.specs.Known.Traffic.{Heard}
use Rattle.pc_world.specs.Local.{Head}
use Rattle.pc_world.specs.MaySend.{MaySend}
use Rattle.pc_world.specs.RangeOf.{GoesTo, range_of}
use Rattle.pc_world.specs.RangeState.{RangeState}
use Rattle.pc_world.specs.Run.{IsRun, protocol}
use Rattle.pc_world.specs.Send.Push.{ListsRecord, MaySendPush}
use Rattle.pc_world.specs.Send.Stage.{MaySendStage}
use Rattle.pc_world.specs.StageFate.{SentStage}
use Rattle.pc_world.specs.Views.{anchor_heard, shows_view}
use Rattle.pc_proto.specs.Place.{Place, Nothing}
use Rattle.pc_implicit.proofs.Places.{place_kept}
use Rattle.pc_proto.specs.Table.{place_of}
use Rattle.pc_proto.specs.Intents.{intent_at, kept_if, own_at}
use Rattle.pc_proto.specs.declared.record.Intent.{Intent}
use Rattle.pc_base.specs.Span.{same_key}
use Rattle.pc_base.specs.Transaction.{same_txn}

-- The history has this anchor of the transaction.
abbrev pub HasAnchor : List (Entry Event) → TxnId → List ℕ → Type 0
HasAnchor history id anchor = anchor_in id history ≡ Some anchor

-- A request goes to its range and names its transaction's anchor, and so do the metas in a reply.
abbrev pub EventHas : Head → List (Entry Event) → Event → Type 0
EventHas head history (events.Send number range request) = GoesTo head.splits request range × RequestHas (HasAnchor history) request
EventHas head history (events.Eval actor number reply) = ReplyHas (HasAnchor history) reply
EventHas head history event = ⊤

-- Each entry and each range has only metas of its transactions' anchors.
pub record Metas (head : Head) (history : List (Entry Event)) : Type 0 where
  pub entries : (a : Entry Event) → Contains history a → EventHas head history a.event
  pub states : (range : ℕ) → StateHas (HasAnchor history) (state_at head range history)

module _ (history : List (Entry Event)) (e : Entry Event) where
  meta-more : (m : TxnMeta) → MetaHas (HasAnchor history) m → MetaHas (HasAnchor (history ++ e ∷ [])) m
  meta-more m h = anchor_stays m.id history e m.anchor h

  some-more : (n : Option (TxnId × List ℕ)) → IfSome n (λ n. HasAnchor history n.0 n.1) → IfSome n (λ n. HasAnchor (history ++ e ∷ []) n.0 n.1)
  some-more None h = tt
  some-more (Some n) h = anchor_stays n.0 history e n.1 h

  reply-more : (r : Reply) → ReplyHas (HasAnchor history) r → ReplyHas (HasAnchor (history ++ e ∷ [])) r
  reply-more (replies.Conflict holder ts key) h = meta-more holder h
  reply-more (replies.Listed metas) h = each-weaker (MetaHas (HasAnchor history)) (MetaHas (HasAnchor (history ++ e ∷ []))) meta-more metas h
  reply-more r h = tt

  event-more : (head : Head) (event : Event) → EventHas head history event → EventHas head (history ++ e ∷ []) event
  event-more head (events.Send number range request) h = (h.0, some-more (anchor_named request) h.1)
  event-more head (events.Eval actor number r) h = reply-more r h
  event-more head event h = tt

  state-more : (s : RangeState) → StateHas (HasAnchor history) s → StateHas (HasAnchor (history ++ e ∷ [])) s
  state-more s h = record {
    intents = each-weaker (λ x. MetaHas (HasAnchor history) x.1.meta) (λ x. MetaHas (HasAnchor (history ++ e ∷ [])) x.1.meta) (λ x. meta-more x.1.meta) s.intents h.intents;
    records = each-weaker (λ x. MetaHas (HasAnchor history) x.1.meta) (λ x. MetaHas (HasAnchor (history ++ e ∷ [])) x.1.meta) (λ x. meta-more x.1.meta) s.table.records h.records;
  }

-- ---- what was heard names the anchor

module _ (Has : TxnId → List ℕ → Type 0) where
  moved : (i j : TxnId) (a b : List ℕ) → ◌≡◌ {A = Option TxnId} (Some i) (Some j) → ◌≡◌ {A = Option (List ℕ)} (Some a) (Some b) → Has i a → Has j b
  moved i j a b ids anchors h =
      let id : i ≡ j = cc in
      let anchor : a ≡ b = cc in
      subst (λ k. Has k b) id (subst (Has i) anchor h)

  -- the transaction of a request to a record has the anchor that the request names
  pub subject-has : (request : Request) (id : TxnId) (anchor : List ℕ) → RequestHas Has request → subject request ≡ Some id → anchor_of request ≡ Some anchor → Has id anchor
  subject-has (requests.Beat meta ts now) id anchor h who at = moved meta.id id meta.anchor anchor who at h
  subject-has (requests.Stage meta ts now writes locks) id anchor h who at = moved meta.id id meta.anchor anchor who at h
  subject-has (requests.Commit meta ts locks) id anchor h who at = moved meta.id id meta.anchor anchor who at h
  subject-has (requests.Abort meta why locks) id anchor h who at = moved meta.id id meta.anchor anchor who at h
  subject-has (requests.Push holder by level now goal) id anchor h who at = moved holder.id id holder.anchor anchor who at h
  subject-has (requests.Recover other epoch ts named finding) id anchor h who at = moved other id named anchor who at h
  subject-has (requests.Remove other named) id anchor h who at = moved other id named anchor who at h
  subject-has request id anchor h who at = absurd cc

  heard-anchor : (id : TxnId) (anchor : List ℕ) (heard : List Heard) → Each (λ h. RequestHas Has h.request) heard → anchor_heard id heard ≡ Some anchor → Has id anchor
  heard-anchor id anchor [] each is = absurd cc
  heard-anchor id anchor (h ∷ hs) each is = by (shows_view id h) refl is (heard-anchor id anchor hs each.1)
    where
      by : (b : Bool) → shows_view id h ≡ b → option_and_then (λ (g : Heard). anchor_of g.request) (cond b (Some h) (find (shows_view id) hs)) ≡ Some anchor → (anchor_heard id hs ≡ Some anchor → Has id anchor) → Has id anchor
      by true shows is rest =
          let parts = and_parts (is_about id h.request) (is_some (view_in h.reply)) shows in
          subject-has h.request id anchor each.0 (subject-is id (subject h.request) parts.0) is
      by false shows is rest = rest is

  met-has : (holder : TxnMeta) (r : Reply) → ReplyHas Has r → ConflictsWith holder r → MetaHas Has holder
  met-has holder (replies.Conflict other ts key) h is = subst (MetaHas Has) is h
  met-has holder r h is = absurd is

  listed-has : (holder : TxnMeta) (r : Reply) → ReplyHas Has r → ListsRecord holder r → MetaHas Has holder
  listed-has holder (replies.Listed metas) h is = each-contains (MetaHas Has) metas holder h is
  listed-has holder r h is = absurd is

-- ---- one more entry

module _ (head : Head) (history : List (Entry Event)) (run : IsRun head history) (all : Metas head history) where
  heard-reply : (actor : ActorId) (h : Heard) → IsSo head history actor h → ReplyHas (HasAnchor history) h.reply
  heard-reply actor h so = subst (EventHas head history) so.told (all.entries so.eval so.evaluated)

  heard-request : (actor : ActorId) (h : Heard) → IsSo head history actor h → RequestHas (HasAnchor history) h.request
  heard-request actor h so = let has : GoesTo head.splits h.request so.range × RequestHas (HasAnchor history) h.request = subst (EventHas head history) so.sends (all.entries so.send so.listed) in has.1

  push-anchor : (actor : ActorId) (holder : TxnMeta) (by : Who) (level : Priority) (now : ℕ) (goal : Goal) → MaySendPush actor (known_at head actor history) holder by level now goal → MetaHas (HasAnchor history) holder
  push-anchor (actors.Session number) holder by level now goal may =
      let (n, h, inside, at, is) = may.conflict in
      let actor = actors.Session number in
      met-has (HasAnchor history) holder h.reply
      (heard-reply actor h (each-contains (IsSo head history actor) (known_at head actor history).heard_now h (now_is_so head history run actor) (n, inside, at))) is.conflict
  push-anchor (actors.Recoverer number) holder by level now goal may =
      let (n, h, inside, at, is) = may.was_listed in
      let actor = actors.Recoverer number in
      listed-has (HasAnchor history) holder h.reply
      (heard-reply actor h (each-contains (IsSo head history actor) (known_at head actor history).heard_now h (now_is_so head history run actor) (n, inside, at))) is
  push-anchor (actors.Range number) holder by level now goal may = absurd may

  known-anchor : (actor : ActorId) (id : TxnId) (anchor : List ℕ) → anchor_heard id (known_at head actor history).heard ≡ Some anchor → HasAnchor history id anchor
  known-anchor actor id anchor is =
      heard-anchor (HasAnchor history) id anchor (known_at head actor history).heard
      (each-weaker (IsSo head history actor) (λ h. RequestHas (HasAnchor history) h.request) (heard-request actor) (known_at head actor history).heard (heard_is_so head history run actor)) is

  stage-anchor : (e : Entry Event) (s : SentStage) → MaySendStage (known_at head e.actor history) s → MetaHas (HasAnchor history) s.meta
  stage-anchor e s may =
      let k = known_at head e.actor history in
      elim may [
        | inl new ↦ meta-anchored head history e k (agreed head history run e.actor) new.t s.meta (open_there k new.t new.opened) new.whose
        | inr again ↦
            let (n, m, inside, at, is) = again.before in
            let w = each-contains (WasSentBy head history e.actor) k.sent m (sent_is_so head history run e.actor) (n, inside, at) in
            let has : GoesTo head.splits m.request m.range × RequestHas (HasAnchor history) m.request = subst (EventHas head history) w.sends (all.entries w.send w.listed) in
            subst (RequestHas (HasAnchor history)) is has.1
      ]

  module _ (e : Entry Event) (may : MayFollow (protocol head) history e) where
    k : Known
    k = known_at head e.actor history

    knows : Knows history e.actor k
    unfolding k
    knows = agreed head history run e.actor

    request-has : (number range : ℕ) (request : Request) → e.event ≡ events.Send number range request → MaySend head.splits e.actor k number range request → RequestHas (HasAnchor (history ++ e ∷ [])) request
    unfolding k
    request-has number range (requests.Put meta seq ts key value) is sent =
        (put_anchored head (history ++ e ∷ []) (run_push head history e run may) e (Contains-push history e) number range meta seq ts key value is).anchor
    request-has number range (requests.Commit meta ts locks) is sent =
        (commit_anchored head (history ++ e ∷ []) (run_push head history e run may) e (Contains-push history e) number range meta ts locks is).anchor
    request-has number range (requests.Beat meta ts now) is sent =
        let row = sent.row in meta-more history e meta (meta-anchored head history e k knows row.t meta (open_there k row.t row.opened) row.whose)
    request-has number range (requests.Stage meta ts now writes locks) is sent = meta-more history e meta (stage-anchor e (record { meta = meta; ts = ts; now = now; writes = writes; locks = locks }) sent.row)
    request-has number range (requests.Abort meta why locks) is sent =
        let row = sent.row in meta-more history e meta (meta-anchored head history e k knows row.t meta (open_there k row.t row.opened) row.whose)
    request-has number range (requests.Push holder by level now goal) is sent = meta-more history e holder (push-anchor e.actor holder by level now goal sent.row)
    request-has number range (requests.Recover id epoch ts anchor finding) is sent = let row = sent.row in anchor_stays id history e anchor (known-anchor e.actor id anchor row.anchored)
    request-has number range (requests.Remove id anchor) is sent = let row = sent.row in anchor_stays id history e anchor (known-anchor e.actor id anchor row.anchored)
    request-has number range request is sent = tt

    evaluated-has : (actor : ActorId) (number : ℕ) (told : Reply) (ev : NamedMessage head history e.actor actor number told) → RequestHas (HasAnchor history) ev.request
    evaluated-has actor number told ev =
        let has : GoesTo head.splits ev.request ev.range × RequestHas (HasAnchor history) ev.request = subst (EventHas head history) ev.sends (all.entries ev.send ev.listed) in has.1

    event-has : (event : Event) → e.event ≡ event → EventHas head (history ++ e ∷ []) event
    unfolding k
    event-has (events.Send number range request) is =
        let act : Does head e.actor (known_at head e.actor history) (events.Send number range request) = subst (Does head e.actor (known_at head e.actor history)) is (does head e.actor _ e.event (named_in (protocol head) history e.event) may.local.next) in
        (act.there, request-has number range request is act)
    event-has (events.Eval actor number told) is =
        let ev = of_entry head history e actor number told run may is in
        reply-more history e told
        (subst (ReplyHas (HasAnchor history)) (sym (reply_is head history e actor number told may is ev)) (reply_has (HasAnchor history) ev.request (state_at head ev.range history) (all.states ev.range)))
    event-has event is = tt

    state-has : (range : ℕ) → StateHas (HasAnchor (history ++ e ∷ [])) (state_at head range (history ++ e ∷ []))
    state-has range =
        state-more history e (state_at head range (history ++ e ∷ []))
        (elim (same_or_not e.actor (actors.Range range)) [
          | inl at ↦
              let what = range_evaluates head history e range may at in
              let ev = of_entry head history e what.0 what.1 what.2 run may what.3 in
              let same : ev.range ≡ range = let both = sym ev.there ∙ at in cc both in
              subst (λ r. StateHas (HasAnchor history) (state_at head r (history ++ e ∷ []))) same
              (subst (StateHas (HasAnchor history)) (sym (evaluated_state head history e what.0 what.1 ev.range what.2 ev what.3))
              (state_has (HasAnchor history) ev.request (state_at head ev.range history) (evaluated-has what.0 what.1 what.2 ev) (all.states ev.range)))
          | inr differ ↦ subst (StateHas (HasAnchor history)) (sym (state_other head (actors.Range range) history e differ)) (all.states range)
        ])

module _ (head : Head) where
  -- in every run metas agree with their transactions' anchors
  pub metas_agree : (history : List (Entry Event)) → IsRun head history → Metas head history
  metas_agree = run_induction head (Metas head) (record { entries = λ a there. absurd (contains_nil a there); states = λ range. record { intents = tt; records = tt } }) (λ history e run may all. record {
    entries = λ a there. elim (Contains-push_cases history e a there) [
      | inl before ↦ event-more history e head a.event (all.entries a before)
      | inr now ↦ subst (λ (x : Entry Event). EventHas head (history ++ e ∷ []) x.event) now (event-has head history run all e may e.event refl)
    ];
    states = state-has head history run all e may;
  })

  -- a request to a record goes to the range of this anchor, which it names
  pub record GoesToAnchor (range : ℕ) (request : Request) : Type 0 where
    pub anchor : List ℕ
    pub there : range ≡ range_of head.splits anchor
    pub named : anchor_of request ≡ Some anchor

  goes-to : (range : ℕ) (request : Request) (id : TxnId) → subject request ≡ Some id → GoesTo head.splits request range → GoesToAnchor range request
  goes-to range (requests.Beat meta ts now) id who goes = record { anchor = meta.anchor; there = goes; named = refl }
  goes-to range (requests.Stage meta ts now writes locks) id who goes = record { anchor = meta.anchor; there = goes; named = refl }
  goes-to range (requests.Commit meta ts locks) id who goes = record { anchor = meta.anchor; there = goes; named = refl }
  goes-to range (requests.Abort meta why locks) id who goes = record { anchor = meta.anchor; there = goes; named = refl }
  goes-to range (requests.Push holder by level now goal) id who goes = record { anchor = holder.anchor; there = goes; named = refl }
  goes-to range (requests.Recover other epoch ts anchor finding) id who goes = record { anchor = anchor; there = goes; named = refl }
  goes-to range (requests.Remove other anchor) id who goes = record { anchor = anchor; there = goes; named = refl }
  goes-to range request id who goes = absurd cc

  -- The range is that of the transaction's anchor.
  pub record IsAnchorRange (history : List (Entry Event)) (range : ℕ) (id : TxnId) : Type 0 where
    pub anchor : List ℕ
    pub there : range ≡ range_of head.splits anchor
    pub anchored : anchor_in id history ≡ Some anchor

  -- in every run a request to a record goes to the range of its transaction's anchor
  pub subject_anchored : (history : List (Entry Event)) → IsRun head history → (a : Entry Event) → Contains history a → (number range : ℕ) (request : Request) (id : TxnId)
      → a.event ≡ events.Send number range request → subject request ≡ Some id → IsAnchorRange history range id
  subject_anchored history run a there number range request id is who =
      let has : GoesTo head.splits request range × RequestHas (HasAnchor history) request = subst (EventHas head history) is ((metas_agree history run).entries a there) in
      let goes = goes-to range request id who has.0 in
      record { anchor = goes.anchor; there = goes.there; anchored = subject-has (HasAnchor history) request id goes.anchor has.1 who goes.named }

  AreAtAnchors : List (Entry Event) → Type 0
  AreAtAnchors history = (range : ℕ) (id : TxnId) → (place_at head range id history ≡ Nothing) ⊎ IsAnchorRange history range id

  at-more : (history : List (Entry Event)) (e : Entry Event) (range : ℕ) (id : TxnId) → IsAnchorRange history range id → IsAnchorRange (history ++ e ∷ []) range id
  at-more history e range id a = record { anchor = a.anchor; there = a.there; anchored = anchor_stays id history e a.anchor a.anchored }

  -- in every run a range has of a transaction nothing, or it is the range of the transaction's anchor
  pub place_anchored : (history : List (Entry Event)) → IsRun head history → (range : ℕ) (id : TxnId) → (place_at head range id history ≡ Nothing) ⊎ IsAnchorRange history range id
  unfolding AreAtAnchors
  place_anchored = run_induction head AreAtAnchors (λ range id. inl refl) (λ history e run may all range id.
      let P : Place → Type 0 = λ p. (p ≡ Nothing) ⊎ IsAnchorRange history range id in
      let now : P (place_at head range id (history ++ e ∷ [])) =
      elim (same_or_not e.actor (actors.Range range)) [
        | inl at ↦
            let what = range_evaluates head history e range may at in
            let ev = of_entry head history e what.0 what.1 what.2 run may what.3 in
            let same : ev.range ≡ range = let both = sym ev.there ∙ at in cc both in
            subst (λ r. (place_at head r id (history ++ e ∷ []) ≡ Nothing) ⊎ IsAnchorRange history r id) same
            (subst (λ (s : RangeState). (place_of id s.table ≡ Nothing) ⊎ IsAnchorRange history ev.range id) (sym (evaluated_state head history e what.0 what.1 ev.range what.2 ev what.3))
            (place_kept (λ p. (p ≡ Nothing) ⊎ IsAnchorRange history ev.range id) ev.request id (state_at head ev.range history).table
            (λ about before. inr (subject_anchored history run ev.send ev.listed what.1 ev.range ev.request id ev.sends about)) (all ev.range id)))
        | inr differ ↦ subst (λ (s : RangeState). P (place_of id s.table)) (sym (state_other head (actors.Range range) history e differ)) (all range id)
      ] in
      elim now [ inl none ↦ inl none | inr at ↦ inr (at-more history e range id at) ])

  -- a transaction of which no put was sent has neither a record nor a mark
  pub no_place : (history : List (Entry Event)) → IsRun head history → (range : ℕ) (id : TxnId) → anchor_in id history ≡ None → place_at head range id history ≡ Nothing
  no_place history run range id none =
      elim (place_anchored history run range id) [
        | inl nothing ↦ nothing
        | inr at ↦ let both : None ≡ Some at.anchor = sym none ∙ at.anchored in absurd cc
      ]

  -- nor an intent
  pub no_intent : (history : List (Entry Event)) → IsRun head history → (range : ℕ) (id : TxnId) (key : List ℕ) → anchor_in id history ≡ None → own_at id key (state_at head range history).intents ≡ None
  no_intent history run range id key none =
      let intents = (state_at head range history).intents in
      by (intent_at key intents) (each-at (λ (i : Intent). HasAnchor history i.meta.id i.meta.anchor) same_key key intents ((metas_agree history run).states range).intents)
    where
      by : (o : Option Intent) → IfSome o (λ i. HasAnchor history i.meta.id i.meta.anchor) → kept_if (λ (i : Intent). same_txn i.meta.id id) o ≡ None
      by None has = refl
      by (Some i) has = by_id (same_txn i.meta.id id) refl
        where
          by_id : (b : Bool) → same_txn i.meta.id id ≡ b → (if b then Some i else None) ≡ None
          by_id true same =
              let both : None ≡ Some i.meta.anchor = sym none ∙ ap (λ i. anchor_in i history) (sym (same_txn-is i.meta.id id same)) ∙ has in absurd cc
          by_id false same = refl

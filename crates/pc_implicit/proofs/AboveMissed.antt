-- A write that a query missed is written only above that timestamp later, and found only above it.
use Rattle.std.proofs.Common.{◌≡◌, ℕ, suc, ◌+◌, ◌<◌, ◌≤◌, nat_le, true, false, ◌==◌, ◌&&◌, inl, inr, if◌then◌else◌, List, [], ◌∷◌, ◌++◌, length, Option, None, Some, Contains, sym, ap, subst, ◌∙◌, arith, length-append, append-nil, append_assoc}
use Rattle.std.proofs.lemmas.Bool.{and_parts, eq-eqb, le-leb, leb-false, leb-true}
use Rattle.std.proofs.lemmas.List.Elements.{Contains-append_left}
use Rattle.pc_base.specs.declared.actor.ActorId.{ActorId}
use Rattle.pc_base.specs.declared.actor.ActorId.TheVariants as actors
use Rattle.pc_base.specs.declared.entry.Entry.{Entry}
use Rattle.pc_base.specs.declared.transaction.TxnId.{TxnId}
use Rattle.pc_base.specs.declared.transaction.Who.{Who}
use Rattle.pc_history.specs.History.{MayFollow}
use Rattle.pc_implicit.proofs.Agreed.{agreed, one_txn, open_there}
use Rattle.pc_implicit.proofs.Did.{grown_to, session_at}
use Rattle.pc_implicit.proofs.Doing.{Does}
use Rattle.pc_implicit.proofs.EvaluatedAt.{goes_to, sent_at}
use Rattle.pc_implicit.proofs.Forward.{Has}
use Rattle.pc_implicit.proofs.Fronts.{either_front}
use Rattle.pc_implicit.proofs.HeardAt.{HeardAt, heard_at, replied_then}
use Rattle.pc_implicit.proofs.Missing.{missed_stays}
use Rattle.pc_implicit.proofs.OwnStanding.{own_hold}
use Rattle.pc_implicit.proofs.ProofsNow.{proven_now}
use Rattle.pc_implicit.proofs.Runs.{reply_is}
use Rattle.pc_implicit.proofs.Written.{IsRepliedNow, found_is, missed_more}
use Rattle.pc_implicit.specs.Replied.{QueryMissed, WasReplied}
use Rattle.pc_implicit.specs.Staging.{StaysMissing}
use Rattle.pc_implicit.specs.Writes.{own_intent, txns_of}
use Rattle.pc_proto.specs.declared.event.Event.{Event}
use Rattle.pc_proto.specs.declared.event.Event.TheVariants as events
use Rattle.pc_proto.specs.declared.meta.TxnMeta.{TxnMeta}
use Rattle.pc_proto.specs.declared.record.Intent.{Intent}
use Rattle.pc_proto.specs.declared.reply.Reply.{Reply}
use Rattle.pc_proto.specs.declared.reply.Reply.TheVariants as replies
use Rattle.pc_proto.specs.declared.request.Request.{Request}
use Rattle.pc_proto.specs.declared.request.Request.TheVariants as requests
use Rattle.pc_proto.specs.Intents.{last_seq, own_at}
use Rattle.pc_world.proofs.Knowing.{run_push}
use Rattle.pc_world.proofs.Prefixes.{run_front, run_may}
use Rattle.pc_world.specs.After.{known_at, state_at}
use Rattle.pc_world.specs.Evaluation.{reply as reply_of}
use Rattle.pc_world.specs.Evaluation.Query.{is_found, is_it, write_stands}
use Rattle.pc_world.specs.Known.Traffic.{Heard}
use Rattle.pc_world.specs.Known.Transactions.{Txn}
use Rattle.pc_world.specs.Local.{Head}
use Rattle.pc_world.specs.RangeOf.{GoesTo, range_of}
use Rattle.pc_world.specs.Run.{IsRun, protocol}
use Rattle.pc_world.specs.Send.Put.{MaySendPut}

-- an intent that is the write but for its timestamp lies above
it-above : (epoch seq missed : ℕ) (i : Intent) → (i.meta.epoch == epoch) ≡ true → nat_le seq (last_seq i) ≡ true → is_it epoch seq missed i ≡ false → missed < i.ts
it-above epoch seq missed i same has absent =
    leb-false i.ts missed
    (sym (ap (λ b. b && (nat_le seq (last_seq i) && nat_le i.ts missed)) same ∙ ap (λ b. b && nat_le i.ts missed) has) ∙ absent)

-- what is missing at one timestamp is found only above it
found-above : (epoch seq missed ts : ℕ) (own : Option Intent) → is_found epoch seq missed own ≡ false → is_found epoch seq ts own ≡ true → missed < ts
found-above epoch seq missed ts None absent found = absurd cc
found-above epoch seq missed ts (Some i) absent found =
    let parts = and_parts (i.meta.epoch == epoch) (nat_le seq (last_seq i) && nat_le i.ts ts) found in
    let rest = and_parts (nat_le seq (last_seq i)) (nat_le i.ts ts) parts.1 in
    let above = it-above epoch seq missed i parts.0 rest.0 absent in
    let low = leb-true i.ts ts rest.1 in
    omega (arith, above, low)

module _ (head : Head) (history : List (Entry Event)) (run : IsRun head history) (id : TxnId) (g h : Heard) (missing : Contains (session_at head id history).heard g) (there : Contains (session_at head id history).heard h) (first : g.step < h.step) where
  abbrev actor : ActorId
  actor = actors.Session id.session

  g_at : HeardAt head history actor g
  g_at = heard_at head history run actor g missing

  h_at : HeardAt head history actor h
  h_at = heard_at head history run actor h there

  split_run : IsRun head (h_at.before ++ h_at.e ∷ h_at.later)
  split_run = subst (IsRun head) h_at.whole run

  run_before : IsRun head h_at.before
  run_before = run_front head h_at.before (h_at.e ∷ h_at.later) split_run

  may : MayFollow (protocol head) h_at.before h_at.e
  may = run_may head h_at.before h_at.e h_at.later split_run

  replied_on : (front more : List (Entry Event)) → WasReplied front g.request g.reply → WasReplied (front ++ more) g.request g.reply
  replied_on front more r = record {
    send = r.send;
    listed = Contains-append_left front more r.send r.listed;
    number = r.number;
    range = r.range;
    sends = r.sends;
    eval = r.eval;
    evaluated = Contains-append_left front more r.eval r.evaluated;
    told = r.told;
  }

  replied_first : WasReplied h_at.before g.request g.reply
  replied_first =
      let was : WasReplied (g_at.before ++ g_at.e ∷ []) g.request g.reply = replied_then head history run actor g g_at in
      elim (either_front (g_at.before ++ g_at.e ∷ []) g_at.later h_at.before (h_at.e ∷ h_at.later) (append_assoc g_at.before (g_at.e ∷ []) g_at.later ∙ (sym g_at.whole ∙ h_at.whole))) [
        | inl longer ↦ subst (λ es. WasReplied es g.request g.reply) (sym longer.whole) (replied_on (g_at.before ++ g_at.e ∷ []) longer.rest was)
        | inr shorter ↦ by shorter.rest shorter.whole was
      ]
    where
      by : (rest : List (Entry Event)) → g_at.before ++ g_at.e ∷ [] ≡ h_at.before ++ rest → WasReplied (g_at.before ++ g_at.e ∷ []) g.request g.reply → WasReplied h_at.before g.request g.reply
      by [] whole was = subst (λ es. WasReplied es g.request g.reply) (whole ∙ append-nil h_at.before) was
      by (x ∷ rest) whole was =
          let lengths : length g_at.before + 1 ≡ length h_at.before + suc (length rest) = sym (length-append g_at.before (g_at.e ∷ [])) ∙ (ap (λ es. length es) whole ∙ length-append h_at.before (x ∷ rest)) in
          let one = g_at.at in
          let other = h_at.at in
          absurd (omega (arith, lengths, one, other, first))

  replied_now : IsRepliedNow head h_at.before h_at.e h.request h.reply
  replied_now = record { actor = actor; number = h.number; is = h_at.told; ev = h_at.ev; asks = h_at.asks }

  module _ (epoch seq missed : ℕ) (key : List ℕ) (by : Who) (asks : g.request ≡ requests.Query id epoch seq missed key by) (told : g.reply ≡ replies.Missing) where
    was_missed : QueryMissed h_at.before id epoch key seq missed
    was_missed = record { by = by; replied = subst (λ q. WasReplied h_at.before q replies.Missing) asks (subst (WasReplied h_at.before g.request) told replied_first) }

    -- it is found only above
    pub found_past : (ts : ℕ) (other : Who) → h.request ≡ requests.Query id epoch seq ts key other → h.reply ≡ replies.Found → missed < ts
    found_past ts other is found =
        let s = state_at head (range_of head.splits key) h_at.before in
        let stays : StaysMissing id epoch seq missed key s = missed_stays id epoch seq missed key head h_at.before run_before was_missed in
        let goes : GoesTo head.splits (requests.Query id epoch seq ts key other) h_at.ev.range =
        goes_to head h_at.before run_before h_at.ev.send h_at.ev.listed h.number h_at.ev.range (requests.Query id epoch seq ts key other) (h_at.ev.sends ∙ ap (events.Send h.number h_at.ev.range) (h_at.asks ∙ is)) in
        let gives : reply_of (requests.Query id epoch seq ts key other) s ≡ replies.Found =
        ap (λ r. reply_of (requests.Query id epoch seq ts key other) (state_at head r h_at.before)) (sym goes)
        ∙ (ap (λ q. reply_of q (state_at head h_at.ev.range h_at.before)) (sym (h_at.asks ∙ is))
        ∙ (sym (reply_is head h_at.before h_at.e actor h.number h.reply may h_at.told h_at.ev) ∙ found)) in
        found-above epoch seq missed ts (own_at id key s.intents) stays.absent (found_is (write_stands id epoch seq ts key s) gives)

    module _ (t : Txn) (mine : Contains (txns_of head id history) t) (same : t.id ≡ id) (epoch_is : t.epoch ≡ epoch) (meta : TxnMeta) (asked at : ℕ) (value : Option (List ℕ))
        (puts : h.request ≡ requests.Put meta seq asked key value) (written : h.reply ≡ replies.Written at) (whose : meta.id ≡ id) (of_epoch : meta.epoch ≡ epoch) where
      sends_put : h_at.ev.send.event ≡ events.Send h.number h_at.ev.range (requests.Put meta seq asked key value)
      sends_put = h_at.ev.sends ∙ ap (events.Send h.number h_at.ev.range) (h_at.asks ∙ puts)

      -- its session knew the transaction when it sent the put
      known_then : Has id (txns_of head id h_at.before)
      known_then =
          let a = sent_at head h_at.before run_before h_at.ev.send h_at.ev.listed in
          let k = known_at head h_at.ev.send.actor a.before in
          let act : Does head h_at.ev.send.actor k (events.Send h.number h_at.ev.range (requests.Put meta seq asked key value)) = subst (Does head h_at.ev.send.actor k) sends_put a.does in
          let row : MaySendPut k meta seq asked key value = act.row in
          let had : Has id k.txns = elim row [
            | inl f ↦ (f.t, open_there k f.t f.opened, sym (ap (λ (m : TxnMeta). m.id) f.whose) ∙ whose)
            | inr again ↦ (again.t, again.mine, sym (ap (λ (m : TxnMeta). m.id) again.whose.same) ∙ whose)
          ] in
          let had_mine : Has id (session_at head id a.before).txns = subst (λ w. Has id (known_at head w a.before).txns) h_at.ev.whose had in
          let grown = grown_to head a.before (h_at.ev.send ∷ a.later) (subst (IsRun head) a.whole run_before) id had_mine.0 had_mine.1 had_mine.2 in
          subst (λ es. Has id (txns_of head id es)) (sym a.whole) (grown.u, grown.there, grown.named)

      abbrev now : List (Entry Event)
      now = h_at.before ++ h_at.e ∷ []

      run_now : IsRun head now
      run_now = run_push head h_at.before h_at.e run_before may

      -- its own intents are of no later epoch
      own_low : (i : Intent) → own_intent head id key now ≡ Some i → i.meta.epoch ≤ epoch
      own_low i own =
          let once = known_then in
          let here = grown_to head h_at.before (h_at.e ∷ []) run_now id once.0 once.1 once.2 in
          let whole : history ≡ now ++ h_at.later = h_at.whole ∙ sym (append_assoc h_at.before (h_at.e ∷ []) h_at.later) in
          let end = grown_to head now h_at.later (subst (IsRun head) whole run) id here.u here.there here.named in
          let there_end : Contains (txns_of head id history) end.u = subst (λ es. Contains (txns_of head id es) end.u) (sym whole) end.there in
          let k = session_at head id history in
          let one : end.u ≡ t = one_txn actor (k.begun + 1) k.txns end.u t (agreed head history run actor).numbered there_end mine (end.named ∙ sym same) in
          let low : here.u.epoch ≤ end.u.epoch = end.grows.rises in
          let high : end.u.epoch ≡ epoch = ap (λ (x : Txn). x.epoch) one ∙ epoch_is in
          let known : Contains (txns_of head here.u.id now) here.u = subst (λ j. Contains (txns_of head j now) here.u) (sym here.named) here.there in
          let among : i.meta.epoch ≤ here.u.epoch = ((own_hold head now run_now here.u known key).among i (ap (λ j. own_intent head j key now) here.named ∙ own)).low in
          omega (arith, low, high, among)

      -- and it is written only above
      pub written_past : missed < at
      written_past =
          let r : IsRepliedNow head h_at.before h_at.e (requests.Put meta seq asked key value) (replies.Written at) =
          subst (λ q. IsRepliedNow head h_at.before h_at.e q (replies.Written at)) puts (subst (IsRepliedNow head h_at.before h_at.e h.request) written replied_now) in
          let proven =
          proven_now head h_at.before run_before h_at.e may id epoch key seq at
          (inl (record { actor = r.actor; number = r.number; is = r.is; ev = r.ev; meta = meta; asked = asked; value = value; asks = r.asks; whose = whose; epoch_is = of_epoch })) in
          let stays = missed_stays id epoch seq missed key head now run_now (missed_more h_at.before h_at.e id epoch key seq missed was_missed) in
          let absent : is_it epoch seq missed proven.i ≡ false = sym (ap (is_found epoch seq missed) proven.is) ∙ stays.absent in
          let low = proven.low in
          elim proven.has [
            | inl later ↦ let none = own_low proven.i proven.is in absurd (omega (arith, later, none))
            | inr is ↦
                let above : missed < proven.i.ts = it-above epoch seq missed proven.i (eq-eqb proven.i.meta.epoch epoch is.0) (le-leb seq (last_seq proven.i) is.1) absent in
                omega (arith, above, low)
          ]

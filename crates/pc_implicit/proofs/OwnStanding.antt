-- What a transaction wrote in its epoch stands in its intents while it is not decided.
use Rattle.std.proofs.Common.{◌≡◌, ◌≢◌, ℕ, ◌+◌, ◌<◌, ◌≤◌, max, nat_le, Bool, true, false, cond, ◌==◌, ◌&&◌, inl, inr, List, [], ◌∷◌, ◌++◌, map, Option, None, Some, Contains, refl, sym, ap, subst, ◌∙◌, arith}
use Rattle.std.proofs.lemmas.Bool.{and_parts, eqb-true, leb-true}
use Rattle.std.specs.List.{AllByRecursion as Each}
use Rattle.pc_base.specs.declared.actor.ActorId.{ActorId}
use Rattle.pc_base.specs.declared.actor.ActorId.TheVariants as actors
use Rattle.pc_base.specs.declared.entry.Entry.{Entry}
use Rattle.pc_base.specs.declared.transaction.TxnId.{TxnId}
use Rattle.pc_base.specs.declared.transaction.Who.{Who}
use Rattle.pc_base.specs.Span.{same_key}
use Rattle.pc_history.specs.History.{MayFollow}
use Rattle.pc_implicit.proofs.Anchored.{put_anchored}
use Rattle.pc_implicit.proofs.Doing.{same_or_not}
use Rattle.pc_implicit.proofs.Evals.{NamedMessage, evaluated_state, of_entry, range_evaluates}
use Rattle.pc_implicit.proofs.Fates.{FateIsSo, fates_are_so}
use Rattle.pc_implicit.proofs.Homes.{time_on, undecided_before}
use Rattle.pc_implicit.proofs.Metas.{EventHas, metas_agree, no_intent}
use Rattle.pc_implicit.proofs.OwnKeys.{AsBefore, Ends, IsGone, IsLaid, IsMoved, LaidNow, OwnChange, StoodThere, own_changes, put_written}
use Rattle.pc_implicit.proofs.OwnLaid.{Begins, Grows, HasFront, IsAmong, StandsIn, among_longer, front_longer, how_laid, is_overtaken, laid_among, laid_front, laid_itself, laid_stands, moved_stands, stands_later}
use Rattle.pc_implicit.proofs.PutsSent.{AreAnswers, HasPut, orderly, puts_sent}
use Rattle.pc_implicit.proofs.Runs.{reply_is}
use Rattle.pc_implicit.proofs.Turns.{IsAnswered, IsBegun, Restarted, Turn, WentOn, Wrote, comes_from, not_session}
use Rattle.pc_implicit.proofs.WriteLists.{Laid, alike_at, at_low, at_push, proof_of, rise_at, split_at, written_at}
use Rattle.pc_implicit.proofs.Written.{IsFoundNow, IsRepliedNow, IsWrittenNow, found_cases, found_is, none_found, proven_cases, written_cases}
use Rattle.pc_implicit.specs.Decided.{decision, time_of}
use Rattle.pc_implicit.specs.Replied.{QueryFound, WasProven}
use Rattle.pc_implicit.specs.Writes.{OwnStand, home_of, own_intent, txns_of, writes_on}
use Rattle.pc_lists.proofs.Each.{each-weaker}
use Rattle.pc_lists.proofs.Lists.{contains_nil}
use Rattle.pc_proto.specs.declared.event.Event.{Event}
use Rattle.pc_proto.specs.declared.event.Event.TheVariants as events
use Rattle.pc_proto.specs.declared.fate.Fate.{Fate}
use Rattle.pc_proto.specs.declared.fate.Fate.TheVariants as fates
use Rattle.pc_proto.specs.declared.meta.TxnMeta.{TxnMeta}
use Rattle.pc_proto.specs.declared.record.Intent.{Intent}
use Rattle.pc_proto.specs.declared.reply.Reply.{Reply}
use Rattle.pc_proto.specs.declared.reply.Reply.TheVariants as replies
use Rattle.pc_proto.specs.declared.request.Request.{Request}
use Rattle.pc_proto.specs.declared.request.Request.TheVariants as requests
use Rattle.pc_proto.specs.Intents.{last_seq, own_at}
use Rattle.pc_proto.specs.Place.{Place}
use Rattle.pc_world.proofs.Knowing.{known_other, state_other}
use Rattle.pc_world.proofs.Prefixes.{run_induction}
use Rattle.pc_world.specs.After.{known_at, state_at}
use Rattle.pc_world.specs.Committed.{anchor_in}
use Rattle.pc_world.specs.Evaluation.{intents_after, reply}
use Rattle.pc_world.specs.Evaluation.Put.{laid, overtaken, write_ts}
use Rattle.pc_world.specs.Evaluation.Query.{is_found, is_it, write_stands}
use Rattle.pc_world.specs.Known.{Known}
use Rattle.pc_world.specs.Known.Transactions.{Txn}
use Rattle.pc_world.specs.Known.Writes.{Write, is_proved, last_seq_of}
use Rattle.pc_world.specs.Local.{Head}
use Rattle.pc_world.specs.RangeOf.{GoesTo, range_of}
use Rattle.pc_world.specs.RangeState.{RangeState}
use Rattle.pc_world.specs.Run.{IsRun, protocol}

-- What the transaction's own intent at the key has of these writes of its epoch.
pub record Holds (head : Head) (history : List (Entry Event)) (id : TxnId) (key : List ℕ) (epoch : ℕ) (all : List Laid) : Type 0 where
  pub among : (i : Intent) → own_intent head id key history ≡ Some i → IsAmong epoch all i
  pub front : decision (home_of head id history) ≡ None → (i : Intent) → own_intent head id key history ≡ Some i → i.meta.epoch ≡ epoch → HasFront all i
  pub written : decision (home_of head id history) ≡ None → (seq ts : ℕ) → WasProven history id epoch key seq ts
      → (i : Intent) × (own_intent head id key history ≡ Some i) × StandsIn epoch (home_of head id history) seq ts i
  pub found : (at seq ts : ℕ) → QueryFound history id at key seq ts → at ≤ epoch

one-intent : (o : Option Intent) (i j : Intent) → o ≡ Some i → o ≡ Some j → i ≡ j
one-intent o i j is also = let both : Some i ≡ Some j = sym is ∙ also in cc both

-- The range of the key evaluates one more request.
module _ (head : Head) (history : List (Entry Event)) (run : IsRun head history) (e : Entry Event) (may : MayFollow (protocol head) history e)
    (actor : ActorId) (number : ℕ) (told : Reply) (ev : NamedMessage head history e.actor actor number told) (is : e.event ≡ events.Eval actor number told)
    (key : List ℕ) (there : ev.range ≡ range_of head.splits key) (t : Txn) (known : Contains (txns_of head t.id history) t)
    (holds : Holds head history t.id key t.epoch (writes_on key t.writes)) where
  s : RangeState
  s = state_at head (range_of head.splits key) history

  all : List Laid
  all = writes_on key t.writes

  -- the own intent after the evaluation
  later-is : own_intent head t.id key (history ++ e ∷ []) ≡ own_at t.id key (intents_after ev.request s)
  unfolding s
  later-is =
      ap (λ r. own_at t.id key (state_at head r (history ++ e ∷ [])).intents) (sym there)
      ∙ ap (λ (x : RangeState). own_at t.id key x.intents) (evaluated_state head history e actor number ev.range told ev is)
      ∙ ap (λ r. own_at t.id key (intents_after ev.request (state_at head r history))) there

  change : OwnChange t.id key ev.request s (own_at t.id key (intents_after ev.request s))
  change = own_changes t.id key ev.request s

  has-put : (meta : TxnMeta) (seq ts : ℕ) (value : Option (List ℕ)) → ev.request ≡ requests.Put meta seq ts key value → meta.id ≡ t.id → HasPut t meta.epoch seq key value
  has-put meta seq ts value asked whose =
      puts_sent head history run ev.send ev.listed number ev.range meta seq ts key value (ev.sends ∙ ap (events.Send number ev.range) asked)
      t (subst (λ i. Contains (txns_of head i history) t) (sym whose) known) (sym whose)

  lays-all : (meta : TxnMeta) (seq : ℕ) (value : Option (List ℕ)) → HasPut t meta.epoch seq key value → meta.epoch ≡ t.epoch → Contains all (seq, value)
  unfolding all
  lays-all meta seq value put now =
      let w = put.written now in
      let laid_as : Laid = (w.0.seq, w.0.value) in
      let same : laid_as ≡ (seq, value) = (λ i. (w.2 i, w.4 i)) in
      subst (Contains (writes_on key t.writes)) same (written_at key t.writes w.0 w.1 w.3)

  fate-so : (fate : Fate) → ev.request ≡ requests.Resolve t.id key fate → FateIsSo fate (home_of head t.id history)
  fate-so fate asked = fates_are_so head history run ev.send ev.listed number ev.range t.id key fate (ev.sends ∙ ap (events.Send number ev.range) asked)

  undecided-ends : (fate : Fate) → Ends fate → FateIsSo fate (home_of head t.id history) → decision (home_of head t.id history) ≡ None → ⊥
  undecided-ends (fates.Committed epoch ts) ends so none = let both = sym none ∙ so in absurd (nothing both)
    where
      nothing : {X : Type 0} {x : X} → None ≡ Some x → ⊥
      nothing h = absurd cc
  undecided-ends fates.Aborted ends so none = let both = sym none ∙ so.3 in absurd (nothing both)
    where
      nothing : {X : Type 0} {x : X} → None ≡ Some x → ⊥
      nothing h = absurd cc
  undecided-ends (fates.Pending ts) ends so none = ends

  eval-among : (i : Intent) → own_at t.id key (intents_after ev.request s) ≡ Some i → IsAmong t.epoch all i
  unfolding s all change
  eval-among i later =
      elim change [
        | AsBefore same ↦ holds.among i (sym same ∙ later)
        | IsLaid meta seq ts value asked whose over eq ↦
            let put = has-put meta seq ts value asked whose in
            let made = laid_among t.epoch all meta seq (write_ts meta ts key (own_at t.id key s.intents) s) value (own_at t.id key s.intents) put.low (lays-all meta seq value put) holds.among in
            subst (IsAmong t.epoch all) (one-intent (own_at t.id key (intents_after ev.request s)) _ i eq later) made
        | IsMoved ts j asked own eq ↦
            let a = holds.among j own in
            subst (IsAmong t.epoch all) (one-intent (own_at t.id key (intents_after ev.request s)) (record j { ts = max j.ts ts }) i eq later) (record { low = a.low; some = a.some; each = a.each })
        | IsGone fate j asked ends own eq ↦ let both : None ≡ Some i = sym eq ∙ later in absurd cc
      ]

  -- the put of this write: what stands before it at the key stood
  eval-front-laid : decision (home_of head t.id history) ≡ None → (meta : TxnMeta) (seq ts at : ℕ) (value : Option (List ℕ)) → HasPut t meta.epoch seq key value → overtaken meta seq (own_at t.id key s.intents) ≡ false
      → (laid meta seq at value (own_at t.id key s.intents)).meta.epoch ≡ t.epoch → meta.epoch ≡ t.epoch → HasFront all (laid meta seq at value (own_at t.id key s.intents))
  unfolding s all
  eval-front-laid none meta seq ts at value put over now epochs =
      let w = put.written epochs in
      let o = orderly head history run (actors.Session t.id.session) t known in
      let P : ℕ → Type 0 = λ n. (p : ℕ) × WasProven history t.id t.epoch key n p in
      let proved : Each (λ (v : Write). v.key ≡ key → is_proved v ≡ true → P v.seq) t.writes =
      each-weaker (AreAnswers history t.id t.epoch) (λ v. v.key ≡ key → is_proved v ≡ true → P v.seq)
      (λ v answers same is_proved. let p = proof_of v is_proved in (p.0, subst (λ k. WasProven history t.id t.epoch k v.seq p.0) same (answers p.0 p.1))) t.writes o.answers in
      let split = split_at P key t.writes o.turn proved w.0 w.1 w.3 in
      let whole : writes_on key t.writes ≡ split.front ++ (seq, value) ∷ split.later = split.whole ∙ (λ i. split.front ++ (w.2 i, w.4 i) ∷ split.later) in
      laid_front t.epoch (writes_on key t.writes) meta seq at value (own_at t.id key s.intents) put.low (lays-all meta seq value put) split.front split.later whole (rise_at key 0 t.writes o.rise)
      (each-weaker (λ (x : Laid). P x.0) (λ x. (i : Intent) × (own_at t.id key s.intents ≡ Some i) × (i.meta.epoch ≡ t.epoch) × (x.0 ≤ last_seq i))
      (λ x p. let r = holds.written none x.0 p.0 p.1 in let write_stands = r.2 in (r.0, r.1, write_stands.epoch_is, write_stands.has)) split.front split.before)
      (holds.front none) over now

  made-epoch : (meta : TxnMeta) (seq at : ℕ) (value : Option (List ℕ)) (own : Option Intent) → overtaken meta seq own ≡ false → meta.epoch ≤ t.epoch → (laid meta seq at value own).meta.epoch ≡ t.epoch → meta.epoch ≡ t.epoch
  made-epoch meta seq at value own over low now =
      elim (how_laid meta seq at value own) [
        | Grows i own_is same eq ↦ sym same ∙ ap (λ (x : Intent). x.meta.epoch) (sym eq) ∙ now
        | Begins none eq ↦ ap (λ (x : Intent). x.meta.epoch) (sym eq) ∙ now
      ]

  eval-front : decision (home_of head t.id history) ≡ None → (i : Intent) → own_at t.id key (intents_after ev.request s) ≡ Some i → i.meta.epoch ≡ t.epoch → HasFront all i
  unfolding s all change
  eval-front none i later now =
      elim change [
        | AsBefore same ↦ holds.front none i (sym same ∙ later) now
        | IsLaid meta seq ts value asked whose over eq ↦
            let put = has-put meta seq ts value asked whose in
            let own = own_at t.id key s.intents in
            let at = write_ts meta ts key own s in
            let one = one-intent (own_at t.id key (intents_after ev.request s)) (laid meta seq at value own) i eq later in
            let epoch : (laid meta seq at value own).meta.epoch ≡ t.epoch = ap (λ (x : Intent). x.meta.epoch) one ∙ now in
            subst (HasFront all) one (eval-front-laid none meta seq ts at value put over epoch (made-epoch meta seq at value own over put.low epoch))
        | IsMoved ts j asked own eq ↦
            let one = one-intent (own_at t.id key (intents_after ev.request s)) (record j { ts = max j.ts ts }) i eq later in
            let f = holds.front none j own (ap (λ (x : Intent). x.meta.epoch) one ∙ now) in
            subst (HasFront all) one (record { rest = f.rest; whole = f.whole; above = f.above })
        | IsGone fate j asked ends own eq ↦ let both : None ≡ Some i = sym eq ∙ later in absurd cc
      ]

  -- What was written at this timestamp stands in the own intent.
  Stood : Place → ℕ → ℕ → Option Intent → Type 0
  Stood home seq ts o = (i : Intent) × (o ≡ Some i) × StandsIn t.epoch home seq ts i

  eval-old : decision (home_of head t.id history) ≡ None → (seq ts : ℕ) → WasProven history t.id t.epoch key seq ts → Stood (home_of head t.id history) seq ts (own_at t.id key (intents_after ev.request s))
  unfolding s all change Stood
  eval-old none seq ts w =
      let r = holds.written none seq ts w in
      let home = home_of head t.id history in
      elim change [
        | AsBefore same ↦ (r.0, same ∙ r.1, r.2)
        | IsLaid meta seq0 ts0 value asked whose over eq ↦
            let put = has-put meta seq0 ts0 value asked whose in
            let own = own_at t.id key s.intents in
            (laid meta seq0 (write_ts meta ts0 key own s) value own, eq, laid_stands t.epoch all meta seq0 (write_ts meta ts0 key own s) value own put.low (lays-all meta seq0 value put) home seq ts r.0 r.1 over r.2)
        | IsMoved at j asked own eq ↦
            let one : r.0 ≡ j = one-intent (own_at t.id key s.intents) r.0 j r.1 own in
            let low : at ≤ time_of home = fate-so (fates.Pending at) asked in
            (record j { ts = max j.ts at }, eq, moved_stands t.epoch home seq ts at j low (subst (StandsIn t.epoch home seq ts) one r.2))
        | IsGone fate j asked ends own eq ↦ absurd (undecided-ends fate ends (fate-so fate asked) none)
      ]

  -- A message that the entry evaluates is the one that it names: what the range answered to it, and what it left.
  record AnswersSo (request : Request) (tells : Reply) : Type 0 where
    answer : reply request s ≡ tells
    state : own_intent head t.id key (history ++ e ∷ []) ≡ own_at t.id key (intents_after request s)

  answers-now : (request : Request) (tells : Reply) → IsRepliedNow head history e request tells → AnswersSo request tells
  unfolding s
  answers-now request tells w =
      let ev2 = w.ev in
      let same_range : ev2.range ≡ ev.range = let both = sym ev2.there ∙ ev.there in cc both in
      let at_key : ev2.range ≡ range_of head.splits key = same_range ∙ there in
      record {
        answer = ap (λ r. reply r s) (sym w.asks) ∙ ap (λ r. reply ev2.request (state_at head r history)) (sym at_key) ∙ sym (reply_is head history e w.actor w.number tells may w.is ev2);
        state =
            ap (λ r. own_at t.id key (state_at head r (history ++ e ∷ [])).intents) (sym at_key)
            ∙ ap (λ (x : RangeState). own_at t.id key x.intents) (evaluated_state head history e w.actor w.number ev2.range tells ev2 w.is)
            ∙ ap (λ r. own_at t.id key (intents_after ev2.request (state_at head r history))) at_key ∙ ap (λ r. own_at t.id key (intents_after r s)) w.asks;
      }

  -- a query finds the own intent
  found-in : (at seq ts : ℕ) (by : Who) → AnswersSo (requests.Query t.id at seq ts key by) replies.Found → (i : Intent) × (own_at t.id key s.intents ≡ Some i) × (is_it at seq ts i ≡ true)
  unfolding s
  found-in at seq ts by a = elim-found (own_at t.id key s.intents) refl (found_is (write_stands t.id at seq ts key s) a.answer)
    where
      elim-found : (o : Option Intent) → own_at t.id key s.intents ≡ o → is_found at seq ts o ≡ true → (i : Intent) × (own_at t.id key s.intents ≡ Some i) × (is_it at seq ts i ≡ true)
      elim-found None own h = absurd cc
      elim-found (Some i) own h = (i, own, h)

  found-now : (seq ts : ℕ) → IsFoundNow head history e t.id t.epoch key seq ts → Stood (home_of head t.id history) seq ts (own_intent head t.id key (history ++ e ∷ []))
  unfolding s Stood
  found-now seq ts w =
      let a = answers-now (requests.Query t.id t.epoch seq ts key w.by) replies.Found w.replied in
      let f = found-in t.epoch seq ts w.by a in
      let i = f.0 in
      let parts = and_parts (i.meta.epoch == t.epoch) (nat_le seq (last_seq i) && nat_le i.ts ts) f.2 in
      let rest = and_parts (nat_le seq (last_seq i)) (nat_le i.ts ts) parts.1 in
      let low : i.ts ≤ ts = leb-true i.ts ts rest.1 in
      (i, a.state ∙ f.1, record { epoch_is = eqb-true i.meta.epoch t.epoch parts.0; has = leb-true seq (last_seq i) rest.0; low = λ up. omega (arith, low) })

  found-epoch : (at seq ts : ℕ) → IsFoundNow head history e t.id at key seq ts → at ≤ t.epoch
  unfolding s
  found-epoch at seq ts w =
      let f = found-in at seq ts w.by (answers-now (requests.Query t.id at seq ts key w.by) replies.Found w.replied) in
      let i = f.0 in
      let same : i.meta.epoch ≡ at = eqb-true i.meta.epoch at (and_parts (i.meta.epoch == at) (nat_le seq (last_seq i) && nat_le i.ts ts) f.2).0 in
      let low = (holds.among i f.1).low in
      omega (arith, same, low)

  eval-now : (seq ts : ℕ) → IsWrittenNow head history e t.id t.epoch key seq ts → Stood (home_of head t.id history) seq ts (own_intent head t.id key (history ++ e ∷ []))
  unfolding s all Stood
  eval-now seq ts w =
      let home = home_of head t.id history in
      let a = answers-now (requests.Put w.meta seq w.asked key w.value) (replies.Written ts) (record { actor = w.actor; number = w.number; is = w.is; ev = w.ev; asks = w.asks }) in
      let state = a.state in
      let ev2 = w.ev in
      let put : HasPut t w.meta.epoch seq key w.value =
      puts_sent head history run ev2.send ev2.listed w.number ev2.range w.meta seq w.asked key w.value (ev2.sends ∙ ap (events.Send w.number ev2.range) w.asks)
      t (subst (λ i. Contains (txns_of head i history) t) (sym w.whose) known) (sym w.whose) in
      let epochs : w.meta.epoch ≡ t.epoch = w.epoch_is in
      elim (put_written t.id key w.meta seq w.asked w.value s ts w.whose a.answer) [
        | StoodThere i own over at eq ↦
            let low = (holds.among i own).low in (
              i,
              state ∙ eq,
              elim (is_overtaken w.meta seq i over) [
                | inl less ↦ absurd (omega (arith, less, low, epochs))
                | inr is_in ↦ let time : i.ts ≡ ts = at in record { epoch_is = is_in.0 ∙ w.epoch_is; has = is_in.1; low = λ up. omega (arith, time) }
              ],
            )
        | LaidNow over eq ↦
            let own = own_at t.id key s.intents in
            (laid w.meta seq ts w.value own, state ∙ eq, laid_itself t.epoch (writes_on key t.writes) w.meta seq ts w.value own put.low (lays-all w.meta seq w.value put) home w.epoch_is)
      ]

  eval-holds : Holds head (history ++ e ∷ []) t.id key t.epoch (writes_on key t.writes)
  unfolding s all Stood
  eval-holds = record {
    among = λ i own. eval-among i (sym later-is ∙ own);
    front = λ none i own now. eval-front (undecided_before head t.id history e none) i (sym later-is ∙ own) now;
    written = λ none seq ts w.
        let before = undecided_before head t.id history e none in
        let stood : Stood (home_of head t.id history) seq ts (own_intent head t.id key (history ++ e ∷ [])) =
        elim (proven_cases head history run e may t.id t.epoch key seq ts w) [
          | inl old ↦ let r = eval-old before seq ts old in (r.0, later-is ∙ r.1, r.2)
          | inr now ↦ elim now [ inl written ↦ eval-now seq ts written | inr found ↦ found-now seq ts found ]
        ] in
        (stood.0, stood.1, stands_later t.epoch (home_of head t.id history) (home_of head t.id (history ++ e ∷ [])) seq ts stood.0 (time_on head t.id history e) stood.2);
    found = λ at seq ts w. elim (found_cases head history run e may t.id at key seq ts w) [ inl old ↦ holds.found at seq ts old | inr now ↦ found-epoch at seq ts now ];
  }

-- One more entry that is no evaluation in the range of the key.
module _ (head : Head) (history : List (Entry Event)) (run : IsRun head history) (e : Entry Event) (may : MayFollow (protocol head) history e) (key : List ℕ)
    (elsewhere : e.actor ≢ actors.Range (range_of head.splits key)) where
  own-still : (id : TxnId) → own_intent head id key (history ++ e ∷ []) ≡ own_intent head id key history
  own-still id = ap (λ (x : RangeState). own_at id key x.intents) (state_other head (actors.Range (range_of head.splits key)) history e elsewhere)

  found-still : (id : TxnId) (epoch seq ts : ℕ) → QueryFound (history ++ e ∷ []) id epoch key seq ts → QueryFound history id epoch key seq ts
  found-still id epoch seq ts w =
      elim (found_cases head history run e may id epoch key seq ts w) [
        | inl old ↦ old
        | inr now ↦
            let ev = now.replied.ev in
            let goes : GoesTo head.splits (requests.Query id epoch seq ts key now.by) ev.range × _ =
            subst (EventHas head history) (ev.sends ∙ ap (events.Send now.replied.number ev.range) now.replied.asks) ((metas_agree head history run).entries ev.send ev.listed) in
            absurd (elsewhere (ev.there ∙ ap actors.Range goes.0))
      ]

  proven-still : (id : TxnId) (epoch seq ts : ℕ) → WasProven (history ++ e ∷ []) id epoch key seq ts → WasProven history id epoch key seq ts
  proven-still id epoch seq ts (inl w) =
      elim (written_cases head history run e may id epoch key seq ts w) [
        | inl old ↦ inl old
        | inr now ↦
            let ev = now.ev in
            let anchored =
            put_anchored head history run ev.send ev.listed now.number ev.range now.meta seq now.asked key now.value (ev.sends ∙ ap (events.Send now.number ev.range) now.asks) in
            absurd (elsewhere (ev.there ∙ ap actors.Range anchored.there))
      ]
  proven-still id epoch seq ts (inr w) = inr (found-still id epoch seq ts w)

  still-holds : (id : TxnId) (epoch : ℕ) (laid : List Laid) → Holds head history id key epoch laid → Holds head (history ++ e ∷ []) id key epoch laid
  still-holds id epoch laid h = record {
    among = λ i own. h.among i (sym (own-still id) ∙ own);
    front = λ none i own now. h.front (undecided_before head id history e none) i (sym (own-still id) ∙ own) now;
    written = λ none seq ts w.
        let r = h.written (undecided_before head id history e none) seq ts (proven-still id epoch seq ts w) in
        (r.0, own-still id ∙ r.1, stands_later epoch (home_of head id history) (home_of head id (history ++ e ∷ [])) seq ts r.0 (time_on head id history e) r.2);
    found = λ at seq ts w. h.found at seq ts (found-still id at seq ts w);
  }

longer-holds : (head : Head) (history : List (Entry Event)) (id : TxnId) (key : List ℕ) (epoch : ℕ) (all more : List Laid) (n : ℕ) → Each (λ x. x.0 ≤ n) all → Each (λ x. n < x.0) more
    → Holds head history id key epoch all → Holds head history id key epoch (all ++ more)
longer-holds head history id key epoch all more n low high h = record {
  among = λ i own. among_longer epoch all more i (h.among i own);
  front = λ none i own now. front_longer n all more i low high (h.front none i own now);
  written = h.written;
  found = h.found;
}

holds-as : (head : Head) (history : List (Entry Event)) (key : List ℕ) (t u : Txn) (all : List Laid) → u.id ≡ t.id → u.epoch ≡ t.epoch → writes_on key u.writes ≡ all
    → Holds head history t.id key t.epoch all → Holds head history u.id key u.epoch (writes_on key u.writes)
holds-as head history key t u all id epoch writes h =
    subst (λ l. Holds head history u.id key u.epoch l) (sym writes)
    (subst (λ n. Holds head history u.id key n all) (sym epoch) (subst (λ i. Holds head history i key t.epoch all) (sym id) h))

one-more : (key : List ℕ) (n : ℕ) (w : Write) → n < w.seq → Each (λ (x : Laid). n < x.0) (writes_on key (w ∷ []))
one-more key n w low = by (same_key w.key key)
  where
    by : (b : Bool) → Each (λ (x : Laid). n < x.0) (map {B = Laid} (λ (v : Write). (v.seq, v.value)) (cond b (w ∷ []) []))
    by true = (low, tt)
    by false = tt

module _ (head : Head) (history : List (Entry Event)) (run : IsRun head history) (e : Entry Event) (may : MayFollow (protocol head) history e) (key : List ℕ)
    (elsewhere : e.actor ≢ actors.Range (range_of head.splits key)) where
  turn-holds : (k : Known) (t u : Txn) → Contains (txns_of head t.id history) t → u.id ≡ t.id → Turn history e k t u → Holds head history t.id key t.epoch (writes_on key t.writes)
      → Holds head (history ++ e ∷ []) u.id key u.epoch (writes_on key u.writes)
  turn-holds k t u known same (WentOn epoch alike) h =
      holds-as head (history ++ e ∷ []) key t u (writes_on key t.writes) same epoch (alike_at (IsAnswered history t) key t.writes u.writes alike)
      (still-holds head history run e may key elsewhere t.id t.epoch (writes_on key t.writes) h)
  turn-holds k t u known same (Wrote w f epoch writes) h =
      let next : w.seq ≡ last_seq_of t.writes + 1 = f.next in
      let low : last_seq_of t.writes < w.seq = omega (arith, next) in
      holds-as head (history ++ e ∷ []) key t u (writes_on key t.writes ++ writes_on key (w ∷ [])) same epoch (ap (writes_on key) writes ∙ at_push key t.writes w)
      (longer-holds head (history ++ e ∷ []) t.id key t.epoch (writes_on key t.writes) (writes_on key (w ∷ [])) (last_seq_of t.writes) (at_low key t.writes) (one-more key (last_seq_of t.writes) w low)
      (still-holds head history run e may key elsewhere t.id t.epoch (writes_on key t.writes) h))
  turn-holds k t u known same (Restarted r next writes) h = record {
    among = λ i own.
        let low = (h.among i (subst (λ j. own_intent head j key history ≡ Some i) same (sym (own-still head history run e may key elsewhere u.id) ∙ own))).low in
        record { low = omega (arith, low, next); some = λ now. absurd (omega (arith, low, next, now)); each = λ now. absurd (omega (arith, low, next, now)) };
    front = λ none i own now.
        let low = (h.among i (subst (λ j. own_intent head j key history ≡ Some i) same (sym (own-still head history run e may key elsewhere u.id) ∙ own))).low in
        absurd (omega (arith, low, next, now));
    written = λ none seq ts w. absurd (proven-past seq ts (proven-still head history run e may key elsewhere u.id u.epoch seq ts w));
    found = λ at seq ts w.
        let low = h.found at seq ts (subst (λ i. QueryFound history i at key seq ts) same (found-still head history run e may key elsewhere u.id at seq ts w)) in
        omega (arith, low, next);
  }
    where
      -- nothing of its new epoch was written or found
      proven-past : (seq ts : ℕ) → WasProven history u.id u.epoch key seq ts → ⊥
      proven-past seq ts (inl old) =
          let at = old.replied in
          let whose : old.meta.id ≡ t.id = old.whose ∙ same in
          let epoch : old.meta.epoch ≡ u.epoch = old.epoch_is in
          let put = puts_sent head history run at.send at.listed at.number at.range old.meta seq old.asked key old.value at.sends t (subst (λ i. Contains (txns_of head i history) t) (sym whose) known) (sym whose) in
          let low = put.low in
          omega (arith, low, next, epoch)
      proven-past seq ts (inr old) = let low = h.found u.epoch seq ts (subst (λ i. QueryFound history i u.epoch key seq ts) same old) in omega (arith, low, next)

  begun-holds : (u : Txn) → IsBegun history e u → Holds head (history ++ e ∷ []) u.id key u.epoch (writes_on key u.writes)
  begun-holds u b =
      let none : own_intent head u.id key (history ++ e ∷ []) ≡ None = own-still head history run e may key elsewhere u.id ∙ no_intent head history run (range_of head.splits key) u.id key b.new.anchor in
      record {
        among = λ i own. let both : None ≡ Some i = sym none ∙ own in absurd cc;
        front = λ undecided i own now. let both : None ≡ Some i = sym none ∙ own in absurd cc;
        written = λ undecided seq ts w. absurd (none-proven u.epoch seq ts (proven-still head history run e may key elsewhere u.id u.epoch seq ts w));
        found = λ at seq ts w. absurd (none-proven at seq ts (inr (found-still head history run e may key elsewhere u.id at seq ts w)));
      }
    where
      -- nothing was written or found of what was not begun
      none-proven : (at seq ts : ℕ) → WasProven history u.id at key seq ts → ⊥
      none-proven at seq ts (inl old) =
          let w = old.replied in
          let anchored = (put_anchored head history run w.send w.listed w.number w.range old.meta seq old.asked key old.value w.sends).anchor in
          let both : None ≡ Some old.meta.anchor = sym b.new.anchor ∙ ap (λ i. anchor_in i history) (sym old.whose) ∙ anchored in absurd cc
      none-proven at seq ts (inr old) = none_found head history run u.id at key seq ts b.new.anchor old

module _ (head : Head) where
  abbrev AllHold : List (Entry Event) → Type 0
  AllHold history = (t : Txn) → Contains (txns_of head t.id history) t → (key : List ℕ) → Holds head history t.id key t.epoch (writes_on key t.writes)

  holds-more : (history : List (Entry Event)) → IsRun head history → (e : Entry Event) → MayFollow (protocol head) history e → AllHold history
      → (u : Txn) → Contains (txns_of head u.id (history ++ e ∷ [])) u → (key : List ℕ) → Holds head (history ++ e ∷ []) u.id key u.epoch (writes_on key u.writes)
  holds-more history run e may all u there key =
      elim (same_or_not e.actor (actors.Range (range_of head.splits key))) [
        | inl at ↦
            let what = range_evaluates head history e (range_of head.splits key) may at in
            let ev = of_entry head history e what.0 what.1 what.2 run may what.3 in
            let range : ev.range ≡ range_of head.splits key = let both = sym ev.there ∙ at in cc both in
            let known : Contains (txns_of head u.id history) u =
            subst (λ (l : Known). Contains l.txns u) (known_other head (actors.Session u.id.session) history e (λ h. not_session (range_of head.splits key) u.id.session (sym at ∙ h))) there in
            eval-holds head history run e may what.0 what.1 what.2 ev what.3 key range u known (all u known key)
        | inr elsewhere ↦ elim (comes_from head history run e may (actors.Session u.id.session) u there) [
          | inl b ↦ begun-holds head history run e may key elsewhere u b
          | inr c ↦
              let known : Contains (txns_of head c.t.id history) c.t = subst (λ (i : TxnId). Contains (txns_of head i history) c.t) c.same c.there in
              turn-holds head history run e may key elsewhere (known_at head (actors.Session u.id.session) history) c.t u known c.same c.turn (all c.t known key)
        ]
      ]

  -- what a transaction's own intents have of its writes
  pub own_hold : (history : List (Entry Event)) → IsRun head history → (t : Txn) → Contains (txns_of head t.id history) t → (key : List ℕ) → Holds head history t.id key t.epoch (writes_on key t.writes)
  own_hold = run_induction head AllHold (λ t there. absurd (contains_nil t there)) (λ history e run may all. holds-more history run e may all)

  -- what a transaction wrote stands while it is not decided
  pub own_intents_stand : (history : List (Entry Event)) (t : Txn) (key : List ℕ) → IsRun head history → Contains (txns_of head t.id history) t → OwnStand head history t key
  own_intents_stand history t key run known =
      let h = own_hold history run t known key in
      record {
        reached = λ i own. (h.among i own).low;
        front = λ none i own now.
            let f = h.front none i own now in
            let some = (h.among i own).some now in
            record { rest = f.rest; whole = f.whole; first = some.0; some = some.1 };
        written = λ none seq ts w. let r = h.written none seq ts w in let s = r.2 in (r.0, r.1, record { epoch = s.epoch_is; has = s.has; low = s.low });
      }

-- One session alone: what stands along a run. No request ever meets an intent of another transaction.
use Rattle.std.proofs.Common.{◌≡◌, ◌≢◌, ℕ, ◌+◌, Bool, None, true, false, List, [], ◌∷◌, ◌++◌, length, ◌⊎◌, inl, inr, Option, Some, Any, Contains, IsTrue, refl, sym, ap, subst, ◌∙◌, arith, append_assoc, append-nil, cond, not, IfSome}
use Rattle.std.proofs.lemmas.Bool.{and_from, eq-eqb}
use Rattle.std.proofs.lemmas.List.Elements.{All-contains, Contains-append_left, Contains-push_cases}
use Rattle.std.specs.List.{AllByRecursion as Each}
use Rattle.std.specs.Option.{option_to_list}
use Rattle.pc_base.specs.declared.actor.ActorId.{ActorId}
use Rattle.pc_base.specs.declared.actor.ActorId.TheVariants as actors
use Rattle.pc_base.specs.declared.entry.Entry.{Entry}
use Rattle.pc_base.specs.declared.transaction.TxnId.{TxnId}
use Rattle.pc_history.proofs.Histories.{named-one, own-push_other, own-push_same}
use Rattle.pc_history.proofs.Ids.{same_id-equal}
use Rattle.pc_history.specs.History.{MayFollow}
use Rattle.pc_history.specs.Own.{named_in, own, pair, same_id}
use Rattle.pc_implicit.proofs.Agreed.{open_is}
use Rattle.pc_implicit.proofs.Asked.{asked_is_named}
use Rattle.pc_implicit.proofs.Doing.{same_or_not}
use Rattle.pc_implicit.proofs.Evals.{NamedMessage, evaluated_state, of_entry, range_evaluates}
use Rattle.pc_implicit.proofs.EvaluatedAt.{goes_to, one_sent}
use Rattle.pc_implicit.proofs.Fronts.{split_there}
use Rattle.pc_implicit.proofs.Hearing.{heard-event, now_is_so, sent_is_so}
use Rattle.pc_implicit.proofs.OwnKeys.{Ends}
use Rattle.pc_implicit.proofs.ReplyKinds.{replies_have_kinds}
use Rattle.pc_implicit.proofs.Runs.{reply_is}
use Rattle.pc_implicit.proofs.Shown.{WasAnswered, shown}
use Rattle.pc_lists.proofs.Each.{each-contains, each-weaker}
use Rattle.pc_lists.proofs.Lists.{contains_cons, contains_head, contains_nil, contains_tail}
use Rattle.pc_proto.specs.declared.answer.Answer.{Answer}
use Rattle.pc_proto.specs.declared.answer.Answer.TheVariants as answers
use Rattle.pc_proto.specs.declared.event.Event.{Event}
use Rattle.pc_proto.specs.declared.event.Event.TheVariants as events
use Rattle.pc_proto.specs.declared.fate.Fate.{Fate}
use Rattle.pc_proto.specs.declared.meta.TxnMeta.{TxnMeta}
use Rattle.pc_proto.specs.declared.reply.Reply.{Reply}
use Rattle.pc_proto.specs.declared.request.Request.{Request}
use Rattle.pc_proto.specs.declared.request.Request.TheVariants as requests
use Rattle.pc_proto.specs.declared.why.Why.{Why}
use Rattle.pc_proto.specs.Replies.{is_conflict}
use Rattle.pc_proto.specs.Requests.{is_abort_of}
use Rattle.pc_serial.proofs.AloneIntents.{IsOne, intents_step, meets_none}
use Rattle.pc_serial.proofs.AloneJobs.{fate_there, finishing_first, jobs_push}
use Rattle.pc_serial.proofs.AloneStanding.{IsKept, IsOfLast, IsWaiting, MeetsNone, StandsAs, abort-shows, aborted-shows, for_it, heard_evaluated, last_of, now_heard, sent-there}
use Rattle.pc_serial.proofs.AloneSteps.{Goes, evaluates_nothing, session_step}
use Rattle.pc_serial.proofs.AloneWrites.{AreAwaited, IsAwaited, IsPutOfWrite, Lays, awaited_heard, awaited_sent}
use Rattle.pc_serial.proofs.Quiet.{nothing_lost}
use Rattle.pc_serial.specs.Alone.{IsAlone, jobs_at}
use Rattle.pc_serial.specs.Laws.{IsTalk}
use Rattle.pc_serial.specs.QuietWire.{IsEvaluated, stays_open, the_session}
use Rattle.pc_serial.specs.Tidy.{IsTidy}
use Rattle.pc_world.proofs.Knowing.{known_other, known_same, state_other}
use Rattle.pc_world.proofs.Prefixes.{run_induction, run_may}
use Rattle.pc_world.proofs.World.{names_one}
use Rattle.pc_world.specs.After.{known_at, state_at}
use Rattle.pc_world.specs.Caused.{Evaluates, IsCaused}
use Rattle.pc_world.specs.Evaluation.{reply as reply_of, state_after}
use Rattle.pc_follows.specs.FinishingJobs.{jobs_after, jobs_of}
use Rattle.pc_world.specs.Answering.{MayAnswer}
use Rattle.pc_world.specs.Known.{Known, known_after, learn, told_first, txn_begun, txns_told}
use Rattle.pc_world.specs.Known.Clock.{high_after, top_after}
use Rattle.pc_world.specs.Known.Statements.{Statement}
use Rattle.pc_world.specs.Known.Traffic.{Heard, Sent, heard_by, replies_to, request_sent}
use Rattle.pc_world.specs.Known.Transactions.{Txn, epoch_told, txn_told}
use Rattle.pc_world.specs.Known.Writes.{Write, is_proved, writes_told}
use Rattle.pc_world.specs.Local.{Head, IsActorOf, MayComeNext, MayDo}
use Rattle.pc_world.specs.MaySend.{MaySend}
use Rattle.pc_world.specs.Named.{is_send_of, request_in}
use Rattle.pc_world.specs.RangeOf.{GoesTo, range_of}
use Rattle.pc_world.specs.RangeState.{RangeState}
use Rattle.pc_world.specs.Run.{IsRun, protocol}
use Rattle.pc_world.specs.Tell.Refusal.{is_heard}
use Rattle.pc_world.specs.Views.{WasAborted, fate_heard}

-- With the entry a range evaluates a message of the session that waited, for the first time.
pub record EvaluatesWaiting (head : Head) (history : List (Entry Event)) (e : Entry Event) : Type 0 where
  pub range : ℕ
  pub at : e.actor ≡ actors.Range range
  pub m : Sent
  pub listed : Contains (known_at head the_session history).sent m
  pub waits : IsEvaluated m.number history → ⊥
  pub told : Reply
  pub evaluates : e.event ≡ events.Eval the_session m.number told
  pub answers : told ≡ reply_of m.request (state_at head range history)
  pub after : state_at head range (history ++ e ∷ []) ≡ state_after m.request (state_at head range history)

-- All that stands after a history.
pub record StandsAll (head : Head) (history : List (Entry Event)) : Type 0 where
  pub stands : StandsAs history (known_at head the_session history) (jobs_at head history)
  pub kept : (range : ℕ) → Each (IsOne (last_of (known_at head the_session history)) (IsKept head history (known_at head the_session history) (jobs_at head history) range)) (state_at head range history).intents
  pub clear : (x : Entry Event) → Contains history x → MeetsNone x.event
  pub awaited : AreAwaited (known_at head the_session history) (known_at head the_session history).txns

-- what an answer leaves of the writes was there
told-writes : (answer : Answer) (k : Known) (u : Txn) → Contains (txns_told answer k) u → (w : Write) → Contains u.writes w → (t : Txn) × Contains k.txns t × Contains t.writes w × (t.id ≡ u.id) × (t.epoch ≡ u.epoch)
told-writes answer k u there w written = by answer there
  where
    begun : (s : Option Statement) (id : TxnId) (ts : ℕ) → (txn_begun s id ts).writes ≡ []
    begun None id ts = refl
    begun (Some s) id ts = refl

    of-told : (answer : Answer) (ws : List Write) → Contains (writes_told answer ws) w → Contains ws w
    of-told (answers.Restart key ts) ws inside = absurd (contains_nil w inside)
    of-told answer ws inside = inside

    -- an answer that leaves writes leaves the epoch
    epoch-told : (answer : Answer) (ws : List Write) (epoch : ℕ) → Contains (writes_told answer ws) w → epoch ≡ epoch_told answer epoch
    epoch-told (answers.Restart key ts) ws epoch inside = absurd (contains_nil w inside)
    epoch-told answer ws epoch inside = refl

    first : (answer : Answer) (replied : List Heard) (txns : List Txn) → Contains (told_first answer replied txns) u → (t : Txn) × Contains txns t × Contains t.writes w × (t.id ≡ u.id) × (t.epoch ≡ u.epoch)
    first answer replied [] inside = absurd (contains_nil u inside)
    first answer replied (t ∷ ts) inside = elim (contains_cons (txn_told answer replied t) ts u inside) [
      | inl same ↦
          let left : Contains (writes_told answer t.writes) w = subst (λ (x : Txn). Contains x.writes w) (sym same) written in
          (t, contains_head t ts, of-told answer t.writes left, ap (λ (x : Txn). x.id) same, epoch-told answer t.writes t.epoch left ∙ ap (λ (x : Txn). x.epoch) same)
      | inr later ↦ (u, contains_tail t ts u later, written, refl, refl)
    ]

    when : (answer : Answer) (replied : List Heard) (b : Bool) (txns : List Txn) → Contains (cond b (told_first answer replied txns) txns) u → (t : Txn) × Contains txns t × Contains t.writes w × (t.id ≡ u.id) × (t.epoch ≡ u.epoch)
    when answer replied true txns inside = first answer replied txns inside
    when answer replied false txns inside = (u, inside, written, refl, refl)

    by : (answer : Answer) → Contains (txns_told answer k) u → (t : Txn) × Contains k.txns t × Contains t.writes w × (t.id ≡ u.id) × (t.epoch ≡ u.epoch)
    by (answers.Begun id ts) inside = elim (contains_cons (txn_begun k.statement id ts) k.txns u inside) [
      | inl same ↦ absurd (contains_nil w (subst (λ ws. Contains ws w) (sym (ap (λ (x : Txn). x.writes) same) ∙ begun k.statement id ts) written))
      | inr later ↦ (u, later, written, refl, refl)
    ]
    by answer inside = when answer (replies_to k.sent_now k.heard_now) k.is_open k.txns inside

not-proved : (b : Bool) → IsTrue (not b) → b ≡ false
not-proved true is = cc is
not-proved false is = refl

module _ (head : Head) (whole : List (Entry Event)) (run : IsRun head whole) (alone : IsAlone head whole) where
  -- who does an entry
  pub who : (a : ActorId) → IsActorOf head a → (a ≡ the_session) ⊎ ((range : ℕ) × (a ≡ actors.Range range))
  who (actors.Range range) there = inr (range, refl)
  who (actors.Session number) there =
      let some = there.0 in
      let most = there.1 in
      let one = alone.one in
      let is : number ≡ 1 = omega (arith, some, most, one) in
      inl (ap actors.Session is)
  who (actors.Recoverer number) there =
      let some = there.0 in
      let most = there.1 in
      let none = alone.unaided in
      absurd (let no : ⊥ = omega (arith, some, most, none) in no)

  module _ (history : List (Entry Event)) (before : IsRun head history) where
    abbrev k : Known
    k = known_at head the_session history

    -- whoever sends is the session
    sends-me : (x : Entry Event) → Contains history x → (number range : ℕ) (request : Request) → x.event ≡ events.Send number range request → x.actor ≡ the_session
    sends-me x there number range request sends =
        let s = split_there history x there in
        let may : MayFollow (protocol head) s.before x = run_may head s.before x s.later (subst (IsRun head) s.whole before) in
        elim (who x.actor may.local.there) [
          | inl me ↦ me
          | inr at ↦ let what = range_evaluates head s.before x at.0 may at.1 in absurd (let both = sym sends ∙ what.3 in cc both)
        ]

    -- what was evaluated was sent
    evaluated-sent : (number : ℕ) → IsEvaluated number history → (m : Sent) × Contains k.sent m × (m.number ≡ number)
    evaluated-sent number (x, there, evaluates) = by x.event refl evaluates
      where
        by : (event : Event) → x.event ≡ event → Evaluates the_session number event → (m : Sent) × Contains k.sent m × (m.number ≡ number)
        by (events.Eval sender sent told) is (whose, same) =
            let this : x.event ≡ events.Eval the_session number told = is ∙ ap (λ a. events.Eval a sent told) whose ∙ ap (λ n. events.Eval the_session n told) same in
            let so = shown head history before x there the_session number told this in
            let w = so.1 in
            let sends : is_send_of number w.send.event ≡ true = ap (is_send_of number) w.sends ∙ eq-eqb number number refl in
            let named : named_in (protocol head) history (events.Eval the_session number told) ≡ Some w.send =
            named-one (protocol head) history (events.Eval the_session number told) w.send (names_one head history (events.Eval the_session number told) before) w.listed
            (and_from (same_id the_session w.send.actor) (is_send_of number w.send.event) (same_id-equal the_session w.send.actor (sym w.whose)) sends) in
            let asks : request_sent number k.sent ≡ Some so.0 = asked_is_named head the_session number history before told w.send named ∙ ap request_in w.sends in
            let m = sent-there number k.sent so.0 asks in
            (m.0, m.1, m.2)
        by event is evaluates = absurd evaluates

    aborts-known : (t : Txn) → Any (λ h. IsTrue (is_abort_of t.id h.request)) k.heard_now → (fate : Fate) × (fate_heard t.id k.heard ≡ Some fate)
    aborts-known t (n, h, inside, at, is) =
        let w = each-contains _ k.heard_now h (now_is_so head history before the_session) (n, inside, at) in
        let there = each-contains (λ g. Contains k.heard g) k.heard_now h (now_heard head history before the_session) (n, inside, at) in
        let kind : MayAnswer h.request h.reply = subst (MayAnswer h.request) (sym w.answers) (replies_have_kinds head w.front w.range h.request) in
        let f = abort-shows t.id h.request h.reply h.number h.step is kind in
        fate_there t.id k.heard h f.0 there f.1

    aborted-known : (t : Txn) (why : Why) → WasAborted k.heard t.id why → (fate : Fate) × (fate_heard t.id k.heard ≡ Some fate)
    aborted-known t why (n, h, inside, at, shows) = let f = aborted-shows t.id why h shows in fate_there t.id k.heard h f.0 (n, inside, at) f.1

    module _ (e : Entry Event) (later : List (Entry Event)) (split : whole ≡ history ++ e ∷ later) (may : MayFollow (protocol head) history e) (st : StandsAll head history) where
      abbrev after : List (Entry Event)
      after = history ++ e ∷ []

      pub evaluated-more : (number : ℕ) → IsEvaluated number history → IsEvaluated number after
      evaluated-more number (x, there, is) = (x, Contains-append_left history (e ∷ []) x there, is)

      evaluated-cases : (number : ℕ) → IsEvaluated number after → IsEvaluated number history ⊎ Evaluates the_session number e.event
      evaluated-cases number (x, there, is) = elim (Contains-push_cases history e x there) [
        | inl old ↦ inl (x, old, is)
        | inr new ↦ inr (subst (λ (y : Entry Event). Evaluates the_session number y.event) (sym new) is)
      ]

      clear-more : MeetsNone e.event → (x : Entry Event) → Contains after x → MeetsNone x.event
      clear-more now x there = elim (Contains-push_cases history e x there) [
        | inl old ↦ st.clear x old
        | inr new ↦ subst (λ (y : Entry Event). MeetsNone y.event) new now
      ]

      -- ---- a range evaluates

      module _ (range : ℕ) (at : e.actor ≡ actors.Range range) where
        differ : e.actor ≢ the_session
        differ same = let both = sym at ∙ same in cc both

        what : (actor : ActorId) × (number : ℕ) × (reply : Reply) × (e.event ≡ events.Eval actor number reply)
        what = range_evaluates head history e range may at

        abbrev number : ℕ
        number = what.1

        ev : NamedMessage head history e.actor what.0 what.1 what.2
        ev = of_entry head history e what.0 what.1 what.2 before may what.3

        me : what.0 ≡ the_session
        me = sym ev.whose ∙ sends-me ev.send ev.listed number ev.range ev.request ev.sends

        mine : e.event ≡ events.Eval the_session number what.2
        mine = what.3 ∙ ap (λ a. events.Eval a number what.2) me

        -- it was not evaluated before
        first-time : IsEvaluated number history → ⊥
        first-time (x, there, is) =
            let s = split_there history x there in
            let two : whole ≡ s.before ++ x ∷ (s.later ++ e ∷ later) = split ∙ ap (λ l. l ++ e ∷ later) s.whole ∙ append_assoc s.before (x ∷ s.later) (e ∷ later) in
            alone.wire.once s.before s.later later x e the_session number two is (subst (Evaluates the_session number) (sym mine) (refl, refl))

        -- what was sent under the number is what is evaluated
        asks : request_sent number k.sent ≡ Some ev.request
        asks =
            ap (λ a. request_sent number (known_at head a history).sent) (sym me)
            ∙ (asked_is_named head what.0 number history before what.2 ev.send ev.named ∙ ap request_in ev.sends)

        of-last : IsOfLast k ev.request
        of-last =
            let m = sent-there number k.sent ev.request asks in
            subst (IsOfLast k) m.3 (st.stands.waiting m.0 m.1 (λ done. first-time (subst (λ n. IsEvaluated n history) m.2 done)))

        same-request : (m : Sent) → Contains k.sent m → m.number ≡ number → m.request ≡ ev.request
        same-request m there same =
            let w = each-contains _ k.sent m (sent_is_so head history before the_session) there in
            let sends : w.send.event ≡ events.Send number m.range m.request = w.sends ∙ ap (λ n. events.Send n m.range m.request) same in
            let one = one_sent head history before the_session number what.2 w.send ev.send m.range ev.range m.request ev.request w.listed ev.listed w.whose (ev.whose ∙ me) sends ev.sends in
            let both : events.Send number m.range m.request ≡ events.Send number ev.range ev.request = sym sends ∙ ap (λ (x : Entry Event). x.event) one ∙ ev.sends in
            cc both

        -- what waits goes on to wait, but for what is evaluated
        waits-on : (request : Request) → (ev.request ≡ request → ⊥) → IsWaiting history k request → IsWaiting after k request
        waits-on request other w = record {
          m = w.m;
          listed = w.listed;
          asks = w.asks;
          waits = λ done. elim (evaluated-cases w.m.number done) [
            | inl old ↦ w.waits old
            | inr new ↦
                let evals : Evaluates the_session w.m.number (events.Eval the_session number what.2) = subst (Evaluates the_session w.m.number) mine new in
                other (sym (same-request w.m w.listed (sym evals.1)) ∙ w.asks)
          ];
        }

        kept-on : (at_range : ℕ) (key : List ℕ) → IsKept head history k (jobs_at head history) at_range key
            → ((fate : Fate) → Ends fate → ev.request ≡ requests.Resolve (last_of k) key fate → ⊥) → IsKept head after k (jobs_at head history) at_range key
        kept-on at_range key is other = record {
          there = is.there;
          locked = is.locked;
          rest = elim is.rest [
            | inl opens ↦ inl opens
            | inr closed ↦ inr (
              closed.0,
              (
                closed.1.0,
                closed.1.1,
                elim closed.1.2 [
                  | inl has ↦ inl has
                  | inr waits ↦ inr (waits-on (requests.Resolve (last_of k) key closed.1.0) (other closed.1.0 closed.1.1) waits)
                ],
              ),
            )
          ];
        }

        here : (key : List ℕ) → GoesTo head.splits ev.request ev.range
        here key = goes_to head history before ev.send ev.listed number ev.range ev.request ev.sends

        to-range : (id : TxnId) (key : List ℕ) (fate : Fate) → ev.request ≡ requests.Resolve id key fate → ev.range ≡ range_of head.splits key
        to-range id key fate is = subst (λ q. GoesTo head.splits q ev.range) is (here key)

        lays : (meta : TxnMeta) (seq ts : ℕ) (key : List ℕ) (value : Option (List ℕ)) → ev.request ≡ requests.Put meta seq ts key value
            → (meta.id ≡ last_of k) × IsKept head after k (jobs_at head history) ev.range key
        lays meta seq ts key value is =
            let last : IsOfLast k (requests.Put meta seq ts key value) = subst (IsOfLast k) is of-last in
            (last.0, record { there = subst (λ q. GoesTo head.splits q ev.range) is (here key); locked = last.2; rest = inl last.1 })

        kept-here : Each (IsOne (last_of k) (IsKept head after k (jobs_at head history) ev.range)) (state_at head ev.range after).intents
        kept-here =
            subst (λ (s : RangeState). Each (IsOne (last_of k) (IsKept head after k (jobs_at head history) ev.range)) s.intents)
            (sym (evaluated_state head history e what.0 number ev.range what.2 ev what.3))
            (intents_step (last_of k) (IsKept head history k (jobs_at head history) ev.range) (IsKept head after k (jobs_at head history) ev.range) ev.request (state_at head ev.range history) (st.kept ev.range)
            (λ key is other. kept-on ev.range key is other) lays)

        kept-there : (other : ℕ) → Each (IsOne (last_of k) (IsKept head after k (jobs_at head history) other)) (state_at head other after).intents
        kept-there other = elim (same_or_not e.actor (actors.Range other)) [
          | inl same ↦
              let is : ev.range ≡ other = let both = sym ev.there ∙ same in cc both in
              subst (λ r. Each (IsOne (last_of k) (IsKept head after k (jobs_at head history) r)) (state_at head r after).intents) is kept-here
          | inr apart ↦
              subst (λ (s : RangeState). Each (IsOne (last_of k) (IsKept head after k (jobs_at head history) other)) s.intents) (sym (state_other head (actors.Range other) history e apart))
              (each-weaker (IsOne (last_of k) (IsKept head history k (jobs_at head history) other)) (IsOne (last_of k) (IsKept head after k (jobs_at head history) other))
              (λ x is. (
                is.0,
                kept-on other x.0 is.1 (λ fate ends resolves.
                    apart (ev.there ∙ ap actors.Range (to-range (last_of k) x.0 fate resolves ∙ sym is.1.there))),
              ))
              (state_at head other history).intents (st.kept other))
        ]

        evaluates-clear : MeetsNone e.event
        evaluates-clear =
            let s = state_at head ev.range history in
            let told : what.2 ≡ reply_of ev.request s = reply_is head history e what.0 number what.2 may what.3 ev in
            let intents = each-weaker (IsOne (last_of k) (IsKept head history k (jobs_at head history) ev.range)) (λ x. x.1.meta.id ≡ last_of k) (λ x is. is.0) s.intents (st.kept ev.range) in
            let none : is_conflict (reply_of ev.request s) ≡ false =
            meets_none (last_of k) ev.request s intents (for_it k ev.request of-last) (replies_have_kinds head history ev.range ev.request) in
            subst MeetsNone (sym what.3) (ap is_conflict told ∙ none)

        pub evaluates_waiting : EvaluatesWaiting head history e
        evaluates_waiting =
            let m = sent-there number k.sent ev.request asks in
            record {
              range = ev.range;
              at = ev.there;
              m = m.0;
              listed = m.1;
              waits = λ done. first-time (subst (λ n. IsEvaluated n history) m.2 done);
              told = what.2;
              evaluates = mine ∙ ap (λ n. events.Eval the_session n what.2) (sym m.2);
              answers = reply_is head history e what.0 number what.2 may what.3 ev ∙ ap (λ q. reply_of q (state_at head ev.range history)) (sym m.3);
              after = evaluated_state head history e what.0 number ev.range what.2 ev what.3 ∙ ap (λ q. state_after q (state_at head ev.range history)) (sym m.3);
            }

        pub range-step : StandsAll head after
        range-step =
            let same : known_at head the_session after ≡ k = known_other head the_session history e differ in
            let jobs : jobs_at head after ≡ jobs_at head history = ap jobs_of (own-push_other (protocol head) the_session history e differ) in
            let stands : StandsAs after k (jobs_at head history) = record {
              finishing = st.stands.finishing;
              outside = st.stands.outside;
              first = st.stands.first;
              numbered = st.stands.numbered;
              waiting = λ m there none. st.stands.waiting m there (λ done. none (evaluated-more m.number done));
            } in
            record {
              stands = subst (λ l. StandsAs after l (jobs_at head after)) (sym same) (subst (StandsAs after k) (sym jobs) stands);
              kept = λ r. subst (λ l. Each (IsOne (last_of l) (IsKept head after l (jobs_at head after) r)) (state_at head r after).intents) (sym same)
                  (subst (λ js. Each (IsOne (last_of k) (IsKept head after k js r)) (state_at head r after).intents) (sym jobs) (kept-there r));
              clear = clear-more evaluates-clear;
              awaited = subst (λ (l : Known). AreAwaited l l.txns) (sym same) st.awaited;
            }

      -- ---- the session goes on

      module _ (me : e.actor ≡ the_session) where
        pub acts : MayDo head the_session k e.event
        acts = subst (λ a. MayComeNext head a (own (protocol head) a history) e.event (named_in (protocol head) history e.event)) me may.local.next

        still : (number : ℕ) → IsEvaluated number after → IsEvaluated number history
        still number done = elim (evaluated-cases number done) [ inl old ↦ old | inr new ↦ absurd (evaluates_nothing head k e.event number acts new) ]

        pub tidy : IsTidy k (jobs_at head history) e.event
        tidy = alone.tidy history e later split me

        pub all-done : IsTalk e.event → stays_open k e.event ≡ false → (m : Sent) → Contains k.sent m → IsEvaluated m.number history
        all-done talks ends m there = All-contains (λ m. IsEvaluated m.number history) k.sent m (alone.wire.in_time history e later split me talks ends) there

        unsent : (number : ℕ) → length k.sent + 1 ≡ number → IsEvaluated number history → ⊥
        unsent number next done =
            let m = evaluated-sent number done in
            let low = st.stands.numbered m.0 m.1 in
            let is = m.2 in
            absurd (let no : ⊥ = omega (arith, low, is, next) in no)

        puts : (number range : ℕ) (meta : TxnMeta) (seq ts : ℕ) (key : List ℕ) (value : Option (List ℕ)) → MaySend head.splits the_session k number range (requests.Put meta seq ts key value)
            → IsTidy k (jobs_at head history) (events.Send number range (requests.Put meta seq ts key value)) → (meta.id ≡ last_of k) × (k.is_open ≡ true)
        puts number range meta seq ts key value sends tidy_now = elim sends.row [
          | inl f ↦ (ap (λ (m : TxnMeta). m.id) f.whose ∙ st.stands.first f.t f.opened, (open_is k.is_open k.txns f.t f.opened).0)
          | inr a ↦ elim tidy_now.puts [
            | inl of ↦ (of.whose ∙ st.stands.first of.t of.opened, (open_is k.is_open k.txns of.t of.opened).0)
            | inr heard ↦
                let w = st.awaited a.t a.mine a.w a.written (not-proved (is_proved a.w) a.unproved) in
                elim w.1 [
                  | inl is ↦ (ap (λ (m : TxnMeta). m.id) a.whose.same ∙ is.0, is.1)
                  | inr earlier ↦ absurd (by k.statement refl w.0.m w.0.listed w.0.unheard earlier (heard w.0.m w.0.listed))
                ]
          ]
        ]
          where
            by : (o : Option Statement) → k.statement ≡ o → (m : Sent) → Contains k.sent m → is_heard k.heard m ≡ false → ((s : Statement) → k.statement ≡ Some s → Contains k.sent_now m → ⊥) → IsTrue (is_heard k.heard m) ⊎ Contains k.sent_now m → ⊥
            by o is m listed unheard earlier (inl heard) = let both = sym heard ∙ unheard in cc both
            by None is m listed unheard earlier (inr now) = finishing_first (jobs_at head history) (requests.Put meta seq ts key value) st.stands.finishing (tidy_now.finishes is)
            by (Some s) is m listed unheard earlier (inr now) = earlier s is now

        unheard-new : (m : Sent) → length k.sent + 1 ≡ m.number → is_heard k.heard m ≡ false
        unheard-new m next = by (is_heard k.heard m) refl
          where
            by : (b : Bool) → is_heard k.heard m ≡ b → is_heard k.heard m ≡ false
            by true is = absurd (unsent m.number next (heard_evaluated head history before m is))
            by false is = is

        -- what a reply that is heard says
        hears-so : (g : Option Heard) → IfSome g (λ h. WasAnswered head history the_session h.number h.request h.reply)
            → IfSome g (λ h. (MayAnswer h.request h.reply) × (is_conflict h.reply ≡ false) × ((m : Sent) → Contains k.sent m → h.number ≡ m.number → m.request ≡ h.request))
        hears-so None is = tt
        hears-so (Some h) w = (
          subst (MayAnswer h.request) (sym w.answers) (replies_have_kinds head w.front w.range h.request),
          subst MeetsNone w.told (st.clear w.eval w.evaluated),
          λ m there same.
              let x = each-contains _ k.sent m (sent_is_so head history before the_session) there in
              let sends : x.send.event ≡ events.Send h.number m.range m.request = x.sends ∙ ap (λ n. events.Send n m.range m.request) (sym same) in
              let one = one_sent head history before the_session h.number h.reply x.send w.send m.range w.range m.request h.request x.listed w.listed x.whose w.whose sends w.sends in
              let both : events.Send h.number m.range m.request ≡ events.Send h.number w.range h.request = sym sends ∙ ap (λ (y : Entry Event). y.event) one ∙ w.sends in
              cc both,
        )

        lays-last : (number range : ℕ) (request : Request) → MaySend head.splits the_session k number range request → IsTidy k (jobs_at head history) (events.Send number range request)
            → (id : TxnId) (epoch : ℕ) (w : Write) → Lays id epoch request w → (id ≡ last_of k) × (k.is_open ≡ true)
        lays-last number range request sends tidy_now id epoch w lays = by request sends tidy_now lays.put
          where
            by : (request : Request) → MaySend head.splits the_session k number range request → IsTidy k (jobs_at head history) (events.Send number range request) → IsPutOfWrite id epoch w request → (id ≡ last_of k) × (k.is_open ≡ true)
            by (requests.Put meta seq ts key value) sends tidy_now put = let is = puts number range meta seq ts key value sends tidy_now in (sym put.0 ∙ is.0, is.1)
            by request sends tidy_now put = absurd put

        -- the next message is none of those that were sent
        new-message : (m0 : Sent) → length k.sent + 1 ≡ m0.number → (m : Sent) → Contains k.sent m → m0 ≡ m → ⊥
        new-message m0 next m there same =
            let low = st.stands.numbered m there in
            let is : m0.number ≡ m.number = ap (λ (x : Sent). x.number) same in
            let no : ⊥ = omega (arith, low, is, next) in no

        -- the writes that are not proved, by the event
        abbrev same-awaited : (g : Option Heard) → g ≡ None → (id : TxnId) (epoch : ℕ) (w : Write) → IsAwaited k.sent k.heard id epoch w → IsAwaited (k.sent ++ []) (k.heard ++ option_to_list g) id epoch w
        same-awaited g none id epoch w a = record {
          m = a.m;
          listed = subst (λ l. Contains l a.m) (sym (append-nil k.sent)) a.listed;
          put = a.put;
          unheard = subst (λ l. is_heard l a.m ≡ false) (sym (ap (λ o. k.heard ++ option_to_list o) none ∙ append-nil k.heard)) a.unheard;
        }

        awaits : (event : Event) (g : Option Heard) (top high : ℕ) → g ≡ heard_by event (named_in (protocol head) history e.event) k.sent → MayDo head the_session k event
            → IsTidy k (jobs_at head history) event
            → IfSome g (λ h. WasAnswered head history the_session h.number h.request h.reply)
            → AreAwaited (known_after event g top high k) (known_after event g top high k).txns
        awaits (events.Ask call reading) g top high none may_do tidy_now so = λ t there w written unproved.
            (same-awaited g none t.id t.epoch w (st.awaited t there w written unproved).0, inr (λ s is now. contains_nil (st.awaited t there w written unproved).0.m now))
        awaits (events.Send number range request) g top high none may_do tidy_now so =
            awaited_sent k st.awaited (known_after (events.Send number range request) g top high k) number range request refl (ap (λ o. k.heard ++ option_to_list o) none ∙ append-nil k.heard) refl refl refl refl
            (new-message (record { number = number; range = range; request = request }) (sym may_do.next))
            (unheard-new (record { number = number; range = range; request = request }) (sym may_do.next)) (lays-last number range request may_do tidy_now)
        awaits (events.Eval sender sent told) g top high none may_do tidy_now so = absurd may_do
        awaits (events.Hear number step) g top high none may_do tidy_now so =
            awaited_heard k st.awaited (known_after (events.Hear number step) g top high k) g (append-nil k.sent) refl refl refl refl (append-nil k.sent_now) (hears-so g so)
        awaits (events.Tell answer) g top high none may_do tidy_now so = λ u there w written unproved.
            let t = told-writes answer k u there w written in
            let a = (st.awaited t.0 t.1 w t.2 unproved).0 in
            let its : IsAwaited k.sent k.heard u.id u.epoch w = subst (λ i. IsAwaited k.sent k.heard i u.epoch w) t.3 (subst (λ n. IsAwaited k.sent k.heard t.0.id n w) t.4 a) in
            (same-awaited g none u.id u.epoch w its, inr (λ s is. absurd cc))
        awaits (events.Meet id step) g top high none may_do tidy_now so = λ t there w written unproved.
            let a = st.awaited t there w written unproved in (
              same-awaited g none t.id t.epoch w a.0,
              elim a.1 [ inl is ↦ inl is | inr earlier ↦ inr (λ s is now. earlier s is (subst (λ l. Contains l a.0.m) (append-nil k.sent_now) now)) ],
            )

        known-commit : (id : TxnId) → e.event ≡ events.Tell (answers.Unknown id) → ⊥
        known-commit id is =
            nothing_lost head whole run alone.wire.none_lost history e later split me (answers.Unknown id) is tt

        abbrev learnt : Known
        learnt = learn (pair e (named_in (protocol head) history e.event)) k

        goes : Goes head history after k learnt (jobs_at head history) (jobs_after e.event k (jobs_at head history))
        goes =
            let named = named_in (protocol head) history e.event in
            session_step head history after k (jobs_at head history) st.stands evaluated-more still unsent puts aborts-known aborted-known e.event (heard_by e.event named k.sent)
            (top_after e.event named k.top) (high_after e.event named k.high) acts tidy all-done known-commit

        nothing-met : (event : Event) → MayDo head the_session k event → MeetsNone event
        nothing-met (events.Eval sender sent told) may = absurd may
        nothing-met event may = tt

        pub session-step : StandsAll head after
        session-step =
            let same : known_at head the_session after ≡ learnt = known_same head the_session history e me in
            let jobs : jobs_at head after ≡ jobs_after e.event k (jobs_at head history) =
            ap jobs_of (own-push_same (protocol head) the_session history e me) ∙ jobs_push (own (protocol head) the_session history) (pair e (named_in (protocol head) history e.event)) in
            let next = jobs_after e.event k (jobs_at head history) in
            record {
              stands = subst (λ l. StandsAs after l (jobs_at head after)) (sym same) (subst (StandsAs after learnt) (sym jobs) goes.stands);
              kept = λ r.
                  let differ : e.actor ≢ actors.Range r = λ is. let both = sym me ∙ is in cc both in
                  let one : Each (IsOne (last_of learnt) (IsKept head after learnt next r)) (state_at head r history).intents =
                  each-weaker (IsOne (last_of k) (IsKept head history k (jobs_at head history) r)) (IsOne (last_of learnt) (IsKept head after learnt next r))
                  (λ x is. let on = goes.kept r x.0 is.1 in (is.0 ∙ sym on.0, on.1)) (state_at head r history).intents (st.kept r) in
                  let there : Each (IsOne (last_of learnt) (IsKept head after learnt next r)) (state_at head r after).intents =
                  subst (λ (s : RangeState). Each (IsOne (last_of learnt) (IsKept head after learnt next r)) s.intents) (sym (state_other head (actors.Range r) history e differ)) one in
                  subst (λ l. Each (IsOne (last_of l) (IsKept head after l (jobs_at head after) r)) (state_at head r after).intents) (sym same)
                  (subst (λ js. Each (IsOne (last_of learnt) (IsKept head after learnt js r)) (state_at head r after).intents) (sym jobs) there);
              clear = clear-more (nothing-met e.event acts);
              awaited =
                  let named = named_in (protocol head) history e.event in
                  subst (λ (l : Known). AreAwaited l l.txns) (sym same)
                  (awaits e.event (heard_by e.event named k.sent) (top_after e.event named k.top) (high_after e.event named k.high) refl acts tidy
                  (heard-event head history before the_session e.event (subst (IsCaused history e.event) me may.caused)));
            }

  StandsOn : List (Entry Event) → Type 0
  StandsOn history = (later : List (Entry Event)) → whole ≡ history ++ later → StandsAll head history

  -- it stands along the run
  stands-on : (history : List (Entry Event)) → IsRun head history → StandsOn history
  unfolding StandsOn
  stands-on = run_induction head StandsOn (λ later split. record {
    stands = record {
      finishing = tt;
      outside = λ s is. absurd cc;
      first = λ t is. absurd cc;
      numbered = λ m there. absurd (contains_nil m there);
      waiting = λ m there. absurd (contains_nil m there);
    };
    kept = λ range. tt;
    clear = λ x there. absurd (contains_nil x there);
    awaited = λ t there. absurd (contains_nil t there);
  }) (λ history e before may all later split.
      let on : whole ≡ history ++ e ∷ later = split ∙ append_assoc history (e ∷ []) later in
      let st = all (e ∷ later) on in
      elim (who e.actor may.local.there) [
        | inl me ↦ session-step history before e later on may st me
        | inr at ↦ range-step history before e later on may st at.0 at.1
      ])

  pub stands_at : (history : List (Entry Event)) → IsRun head history → (later : List (Entry Event)) → whole ≡ history ++ later → StandsAll head history
  unfolding StandsOn
  stands_at history before later split = stands-on history before later split

  -- no evaluation meets an intent
  pub meets_nothing : (x : Entry Event) → Contains whole x → MeetsNone x.event
  unfolding StandsOn
  meets_nothing = (stands-on whole run [] (sym (append-nil whole))).clear

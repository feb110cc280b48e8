-- One session alone: along a run all times are at or below the begin timestamp of the transaction that it began last. So nothing is refreshed, no
-- transaction restarts, and no commit is moved.
use Rattle.std.proofs.Common.{◌≡◌, ◌≢◌, ℕ, ◌+◌, ◌≤◌, ◌<◌, Bool, true, false, ◌&&◌, cond, if◌then◌else◌, List, [], ◌∷◌, ◌++◌, map, ◌⊎◌, inl, inr, Option, None, Some, IfSome, Any, Contains, IsTrue, refl, sym, ap, subst, ◌∙◌, arith, append-nil, append_assoc}
use Rattle.std.proofs.lemmas.Bool.{and_from, eq-eqb}
use Rattle.std.proofs.lemmas.List.Elements.{Contains-push_cases}
use Rattle.std.specs.List.{AllByRecursion as Each}
use Rattle.std.specs.Option.{option_map_or, option_to_list}
use Rattle.pc_base.specs.Bound.{ReadBound, free_from, owns}
use Rattle.pc_base.specs.declared.actor.ActorId.TheVariants as actors
use Rattle.pc_base.specs.declared.entry.Entry.{Entry}
use Rattle.pc_base.specs.declared.transaction.TxnId.{TxnId}
use Rattle.pc_base.specs.declared.version.Version.{Version}
use Rattle.pc_history.specs.History.{MayFollow}
use Rattle.pc_history.specs.Own.{named_in, own, pair}
use Rattle.pc_implicit.proofs.Clocks.{known_low}
use Rattle.pc_implicit.proofs.Commits.{decided_is_committed, heard_decided}
use Rattle.pc_implicit.proofs.Doing.{same_or_not, told_by_row}
use Rattle.pc_implicit.proofs.Ended.{over_uncommitted}
use Rattle.pc_implicit.proofs.Hearing.{heard-event, heard_is_so, now_is_so}
use Rattle.pc_implicit.proofs.OpenOver.{IsOpenHere, is-commit, open_over, open_untold}
use Rattle.pc_implicit.proofs.ReplyKinds.{replies_have_kinds}
use Rattle.pc_implicit.proofs.Shown.{WasAnswered}
use Rattle.pc_implicit.proofs.StagesKnown.{HasSent}
use Rattle.pc_lists.proofs.Each.{each-contains, each-weaker}
use Rattle.pc_lists.proofs.Lists.{contains_nil}
use Rattle.pc_proto.specs.declared.answer.Answer.{Answer}
use Rattle.pc_proto.specs.declared.answer.Answer.TheVariants as answers
use Rattle.pc_proto.specs.declared.event.Event.{Event}
use Rattle.pc_proto.specs.declared.event.Event.TheVariants as events
use Rattle.pc_proto.specs.declared.fate.Fate.{Fate}
use Rattle.pc_proto.specs.declared.fate.Fate.TheVariants as fates
use Rattle.pc_proto.specs.declared.meta.TxnMeta.{TxnMeta}
use Rattle.pc_proto.specs.declared.reply.Reply.{Reply}
use Rattle.pc_proto.specs.declared.reply.Reply.TheVariants as replies
use Rattle.pc_proto.specs.declared.request.Request.{Request}
use Rattle.pc_proto.specs.declared.request.Request.TheVariants as requests
use Rattle.pc_proto.specs.declared.view.View.{View}
use Rattle.pc_proto.specs.declared.view.View.TheVariants as views
use Rattle.pc_proto.specs.Replies.{is_conflict, view_in}
use Rattle.pc_proto.specs.Requests.{is_about}
use Rattle.pc_proto.specs.Stamps.{reply_stamps}
use Rattle.pc_proto.specs.Views.{IsFateOf, is_committed_at}
use Rattle.pc_serial.proofs.AloneIntents.{IsOne}
use Rattle.pc_serial.proofs.AloneLow.{IsLow, IsLowRequest, SettlesOver, low_after, low_reply}
use Rattle.pc_serial.proofs.AloneRun.{EvaluatesWaiting, StandsAll, acts, all-done, evaluated-more, evaluates_waiting, stands_at, tidy, who}
use Rattle.pc_serial.proofs.AloneStanding.{IsKept, IsOfLast, last_of}
use Rattle.pc_serial.proofs.AloneTimes.{HasBegun, IsLowSent, level, level_map, level_told}
use Rattle.pc_serial.proofs.AloneTimesOver.{LowAs, MayWait, RepliesLow, begins-low, hears-low, rests-low, sends-low, tells-low}
use Rattle.pc_serial.proofs.AloneTold.{conflict-is, heard-clear, pushed-none, sent_known}
use Rattle.pc_serial.specs.Alone.{IsAlone, jobs_at}
use Rattle.pc_serial.specs.Laws.{IsTalk}
use Rattle.pc_serial.specs.QuietWire.{IsEvaluated, stays_open, the_session}
use Rattle.pc_serial.specs.Tidy.{IsTidy}
use Rattle.pc_world.proofs.Knowing.{known_other, known_same, state_other}
use Rattle.pc_world.proofs.Prefixes.{run_induction}
use Rattle.pc_world.proofs.Stamps.Within.{AtMost, StateWithin, at_most-more, state-more}
use Rattle.pc_world.specs.After.{known_at, state_at}
use Rattle.pc_world.specs.Answering.{MayAnswer}
use Rattle.pc_world.specs.Caused.{IsCaused}
use Rattle.pc_world.specs.Committed.{IsCommitted}
use Rattle.pc_world.specs.Known.{Known, call_of, first_if, known_after, learn, told_first, txns_told}
use Rattle.pc_world.specs.Known.Clock.{high_after, top_after}
use Rattle.pc_world.specs.Known.Statements.{is_open_told}
use Rattle.pc_world.specs.Known.Traffic.{Heard, Sent, heard_by, replies_to}
use Rattle.pc_world.specs.Known.Transactions.{Txn, txn_heard, txn_sent}
use Rattle.pc_world.specs.Local.{Head, MayDo, is_outside}
use Rattle.pc_world.specs.MaySend.{MaySend}
use Rattle.pc_world.specs.RangeState.{RangeState}
use Rattle.pc_world.specs.Run.{IsRun, protocol}
use Rattle.pc_world.specs.Send.Push.{StoodInTheWay}
use Rattle.pc_world.specs.Send.Recovery.{WasStaging}
use Rattle.pc_world.specs.Tell.End.{IsUnrefreshed}
use Rattle.pc_world.specs.Views.{WasCommitted, shows_committed}

-- The range is at or below the last begin, and leaves it to the transaction that began there, which has versions only once it is over.
pub record IsLowRange (k : Known) (s : RangeState) : Type 0 where
  pub within : StateWithin (level k.txns) s
  pub free : HasBegun k.txns → free_from (last_of k) s.bound ≤ level k.txns
  pub versions : (v : Version) → Contains s.versions v → (v.ts < level k.txns) ⊎ ((v.id ≡ last_of k) × (k.is_open ≡ false))

-- All times after a history.
pub record LowAll (head : Head) (history : List (Entry Event)) : Type 0 where
  pub low : LowAs history (known_at head the_session history)
  pub ranges : (range : ℕ) → IsLowRange (known_at head the_session history) (state_at head range history)
  pub told : (x : Entry Event) → Contains history x → RepliesLow (level (known_at head the_session history).txns) x.event

-- What an event makes of the last begin: it stays, of the same transaction, which stays over where it was, or is above all that was heard.
pub data Rises (k later : Known) : Type 0 where
  Same : level later.txns ≡ level k.txns → last_of later ≡ last_of k → (HasBegun later.txns → HasBegun k.txns) → (k.is_open ≡ false → later.is_open ≡ false) → Rises k later
  Higher : level k.txns < level later.txns → Rises k later

free-next : (w : TxnId) (b : ReadBound) → free_from w b ≤ b.ts + 1
free-next w b = by (owns w b)
  where
    by : (o : Bool) → (if o then b.ts else b.ts + 1) ≤ b.ts + 1
    by true = omega arith
    by false = omega arith

range-rises : (k later : Known) (s : RangeState) → Rises k later → IsLowRange k s → IsLowRange later s
range-rises k later s (Same lvl last begun over) low = record {
  within = subst (λ n. StateWithin n s) (sym lvl) low.within;
  free = λ some. subst (λ n. free_from (last_of later) s.bound ≤ n) (sym lvl) (subst (λ i. free_from i s.bound ≤ level k.txns) (sym last) (low.free (begun some)));
  versions = λ v there. elim (low.versions v there) [ inl less ↦ inl (omega (arith, lvl, less)) | inr mine ↦ inr (mine.0 ∙ sym last, over mine.1) ];
}
range-rises k later s (Higher above) low = record {
  within = state-more (level k.txns) (level later.txns) s (omega (arith, above)) low.within;
  free = λ some. let b = low.within.bound in let f = free-next (last_of later) s.bound in omega (arith, b, f, above);
  versions = λ v there. let l = each-contains (λ (x : Version). x.ts ≤ level k.txns) s.versions v low.within.versions there in inl (omega (arith, l, above));
}

rises-most : (k later : Known) → Rises k later → level k.txns ≤ level later.txns
rises-most k later (Same lvl last begun over) = omega (arith, lvl)
rises-most k later (Higher above) = omega (arith, above)

replies-more : (n m : ℕ) (event : Event) → n ≤ m → RepliesLow n event → RepliesLow m event
replies-more n m (events.Eval actor number reply) le low = at_most-more n m (reply_stamps reply) le low
replies-more n m event le low = tt

level-low : (high : ℕ) (txns : List Txn) → Each (λ t. t.begin ≤ high) txns → level txns ≤ high
level-low high [] a = omega arith
level-low high (t ∷ ts) a = a.0

begun-map : (f : Txn → Txn) (txns : List Txn) → HasBegun (map f txns) → HasBegun txns
begun-map f [] h = h
begun-map f (t ∷ ts) h = tt

begun-told : (answer : Answer) (replied : List Heard) (b : Bool) (txns : List Txn) → HasBegun (cond b (told_first answer replied txns) txns) → HasBegun txns
begun-told answer replied true [] h = h
begun-told answer replied false [] h = h
begun-told answer replied b (t ∷ ts) h = tt

open-some : (b : Bool) (txns : List Txn) → b ≡ true → HasBegun txns → (t : Txn) × (first_if b txns ≡ Some t)
open-some b [] is some = absurd some
open-some true (t ∷ ts) is some = (t, refl)
open-some false (t ∷ ts) is some = absurd cc

-- only a refresh is answered that it does not hold, and none is sent
unrefreshed-none : (n : ℕ) (request : Request) (key : List ℕ) (ts : ℕ) (told : Reply) → IsUnrefreshed key ts told → MayAnswer request told → IsLowSent n request → ⊥
unrefreshed-none n request key ts (replies.Unrefreshed at_key at) is kind low = by request kind low
  where
    by : (request : Request) → MayAnswer request (replies.Unrefreshed at_key at) → IsLowSent n request → ⊥
    by (requests.Refresh id from to span) kind low = low
    by request kind low = kind
unrefreshed-none n request key ts told is kind low = is

low-request : (k : Known) (s : RangeState) (request : Request) → IsOfLast k request → IsLowSent (level k.txns) request → MayWait k request
    → ((meta : TxnMeta) (seq ts : ℕ) (key : List ℕ) (value : Option (List ℕ)) → request ≡ requests.Put meta seq ts key value → (v : Version) → Contains s.versions v → v.ts < level k.txns)
    → IsLowRequest (level k.txns) (last_of k) (k.is_open ≡ false) s request
low-request k s (requests.Get id epoch seq ts key) last low high clear = (last, let l = low.0 in omega (arith, l, high))
low-request k s (requests.Scan id epoch seq ts span) last low high clear = (last, let l = low.0 in omega (arith, l, high))
low-request k s (requests.Put meta seq ts key value) last low high clear = (last.0, low.0, clear meta seq ts key value refl)
low-request k s (requests.Refresh id from to span) last low high clear = absurd low
low-request k s (requests.Query id epoch seq ts key by) last low high clear = absurd low
low-request k s (requests.Resolve id key fate) last low high clear = (low, high)
low-request k s request last low high clear = low

module _ (head : Head) (whole : List (Entry Event)) (run : IsRun head whole) (alone : IsAlone head whole) where
  module _ (history : List (Entry Event)) (before : IsRun head history) (e : Entry Event) (later : List (Entry Event)) (split : whole ≡ history ++ e ∷ later) (may : MayFollow (protocol head) history e) (all : LowAll head history) where
    abbrev k : Known
    k = known_at head the_session history

    abbrev after : List (Entry Event)
    after = history ++ e ∷ []

    st : StandsAll head history
    st = stands_at head whole run alone history before (e ∷ later) split

    abbrev n : ℕ
    n = level k.txns

    told-more : (m : ℕ) → n ≤ m → RepliesLow m e.event → (x : Entry Event) → Contains after x → RepliesLow m x.event
    told-more m le now x there = elim (Contains-push_cases history e x there) [
      | inl old ↦ replies-more n m x.event le (all.told x old)
      | inr new ↦ subst (λ (y : Entry Event). RepliesLow m y.event) new now
    ]

    -- what was heard was sent
    answered-sent : (number : ℕ) (request : Request) (told : Reply) → WasAnswered head history the_session number request told → IsLowSent n request × AtMost n (reply_stamps told) × HasBegun k.txns
    answered-sent number request told w =
        let has = subst (λ a. HasSent (known_at head a history).sent request) w.whose (sent_known head history before w.send w.listed number w.range request w.sends) in
        let m = has.1 in
        let there : Contains k.sent m = (has.0, has.2, has.3) in
        (subst (IsLowSent n) has.4 (all.low.sent m there), subst (RepliesLow n) w.told (all.told w.eval w.evaluated), all.low.some m there)

    -- ---- a range evaluates

    module _ (w : EvaluatesWaiting head history e) where
      of-last : IsOfLast k w.m.request
      of-last = st.stands.waiting w.m w.listed w.waits

      begun : HasBegun k.txns
      begun = all.low.some w.m w.listed

      low-range : IsLow n (last_of k) (k.is_open ≡ false) (state_at head w.range history)
      low-range = record { within = (all.ranges w.range).within; free = (all.ranges w.range).free begun; versions = (all.ranges w.range).versions }

      -- where a put waits its transaction is open, so it has no version yet
      clear-of : (meta : TxnMeta) (seq ts : ℕ) (key : List ℕ) (value : Option (List ℕ)) → w.m.request ≡ requests.Put meta seq ts key value → (v : Version) → Contains (state_at head w.range history).versions v → v.ts < n
      clear-of meta seq ts key value asks v there = elim ((all.ranges w.range).versions v there) [
        | inl less ↦ less
        | inr mine ↦
            let last : IsOfLast k (requests.Put meta seq ts key value) = subst (IsOfLast k) asks of-last in
            absurd (let both = sym last.1 ∙ mine.1 in cc both)
      ]

      request-low : IsLowRequest n (last_of k) (k.is_open ≡ false) (state_at head w.range history) w.m.request
      request-low = low-request k (state_at head w.range history) w.m.request of-last (all.low.sent w.m w.listed) (all.low.waiting w.m w.listed w.waits) clear-of

      intents : Each (λ x. x.1.meta.id ≡ last_of k) (state_at head w.range history).intents
      intents = each-weaker (IsOne (last_of k) (IsKept head history k (jobs_at head history) w.range)) (λ x. x.1.meta.id ≡ last_of k) (λ x is. is.0) (state_at head w.range history).intents (st.kept w.range)

      evaluated : IsLowRange k (state_at head w.range after)
      evaluated =
          let low = low_after n (last_of k) (k.is_open ≡ false) (state_at head w.range history) low-range w.m.request request-low intents in
          subst (λ (x : RangeState). IsLowRange k x) (sym w.after) (record { within = low.within; free = λ some. low.free; versions = low.versions })

      replied : RepliesLow n e.event
      replied = subst (RepliesLow n) (sym w.evaluates) (subst (λ r. AtMost n (reply_stamps r)) (sym w.answers) (low_reply n (last_of k) (k.is_open ≡ false) (state_at head w.range history) low-range w.m.request request-low))

      ranges-after : (range : ℕ) → IsLowRange k (state_at head range after)
      ranges-after range = elim (same_or_not e.actor (actors.Range range)) [
        | inl same ↦ let is : w.range ≡ range = let both = sym w.at ∙ same in cc both in subst (λ r. IsLowRange k (state_at head r after)) is evaluated
        | inr apart ↦ subst (λ (x : RangeState). IsLowRange k x) (sym (state_other head (actors.Range range) history e apart)) (all.ranges range)
      ]

      low-evaluated : e.actor ≢ the_session → LowAll head after
      low-evaluated differ =
          let same = known_other head the_session history e differ in
          let lows : LowAs after k = record {
            txns = all.low.txns;
            first = all.low.first;
            heard = all.low.heard;
            sent = all.low.sent;
            some = all.low.some;
            waiting = λ m there none. all.low.waiting m there (λ done. none (evaluated-more head whole run alone history before e later split may st m.number done));
          } in
          record {
            low = subst (LowAs after) (sym same) lows;
            ranges = λ r. subst (λ l. IsLowRange l (state_at head r after)) (sym same) (ranges-after r);
            told = subst (λ (l : Known). (x : Entry Event) → Contains after x → RepliesLow (level l.txns) x.event) (sym same) (told-more n (omega arith) replied);
          }

    -- ---- the session goes on

    module _ (me : e.actor ≡ the_session) where
      begins : n ≤ k.high
      begins = level-low k.high k.txns (known_low (own (protocol head) the_session history)).begins_low

      still : (number : ℕ) → IsEvaluated number history → IsEvaluated number after
      still = evaluated-more head whole run alone history before e later split may st

      heard-some : (h : Heard) → Contains k.heard h → HasBegun k.txns
      heard-some h there = (answered-sent h.number h.request h.reply (each-contains _ k.heard h (heard_is_so head history before the_session) there)).2

      clear : (h : Heard) → Contains k.heard_now h → is_conflict h.reply ≡ false
      clear h there = heard-clear head whole run alone history before (e ∷ later) split the_session h there

      unstaged : (id : TxnId) (epoch ts : ℕ) (writes : List (List ℕ × ℕ)) → WasStaging k.heard id epoch ts writes → ⊥
      unstaged id epoch ts writes (i, h, inside, at, is) = pushed-none head whole run alone history before (e ∷ later) split the_session h (i, inside, at) id is.pushed

      unpushed : (number range : ℕ) (holder : TxnMeta) (by : _) (level : _) (now : ℕ) (goal : _) → MaySend head.splits the_session k number range (requests.Push holder by level now goal) → ⊥
      unpushed number range holder by level now goal sends = stood sends.row.conflict
        where
          stood : Any (StoodInTheWay holder goal) k.heard_now → ⊥
          stood (i, h, inside, at, is) = conflict-is holder h.reply is.conflict (clear h (i, inside, at))

      -- a resolve that commits the last transaction goes out only once that is over: in its commit it is told first, and elsewhere it has come to nothing
      unsettled : (number range : ℕ) (id : TxnId) (key : List ℕ) (fate : Fate) → MaySend head.splits the_session k number range (requests.Resolve id key fate) → IsTidy k (jobs_at head history) (events.Send number range (requests.Resolve id key fate))
          → SettlesOver (last_of k) (k.is_open ≡ false) id fate
      unsettled number range id key (fates.Committed epoch ts) sends tidy_now = λ its. by k.is_open refl its
        where
          shows-it : (view : View) (h : Heard) → IsTrue (is_about id h.request) → view_in h.reply ≡ Some view → IsFateOf view (fates.Committed epoch ts) → IsTrue (shows_committed id ts h)
          shows-it (views.Committed at_epoch at locks) h about told fits =
              and_from (is_about id h.request) (option_map_or (is_committed_at ts) (view_in h.reply) false) about (ap (λ o. option_map_or (is_committed_at ts) o false) told ∙ eq-eqb at ts (sym fits.1))
          shows-it view h about told fits = absurd fits

          heard : WasCommitted k.heard id ts
          heard = let (i, h, inside, at, shows) = sends.row in (i, h, inside, at, shows-it shows.view h shows.about shows.told shows.fits)

          some : HasBegun k.txns
          some = let (i, h, inside, at, shows) = sends.row in heard-some h (i, inside, at)

          committed : IsCommitted head history id ts
          committed = decided_is_committed head history id ts (heard_decided head history before the_session id ts heard)

          by : (b : Bool) → k.is_open ≡ b → id ≡ last_of k → k.is_open ≡ false
          by false is its = is
          by true is its =
              let t = open-some k.is_open k.txns is some in
              let named : t.0.id ≡ last_of k = st.stands.first t.0 t.1 in
              absurd (elim (is-commit (call_of k)) [
                | inl asked ↦ tidy_now.early t.0 (inl (ts, record { opened = t.1; asked = asked; why = inl (subst (λ i. WasCommitted k.heard i ts) (its ∙ sym named) heard) }))
                | inr elsewhere ↦
                    let here : IsOpenHere k (last_of k) = record { t = t.0; opened = t.1; named = named } in
                    let over = open_over head history before (last_of k) here elsewhere in
                    let untold = open_untold head history before (last_of k) here in
                    over_uncommitted head history before (last_of k) over untold ts (subst (λ i. IsCommitted head history i ts) its committed)
              ])
      unsettled number range id key fate sends tidy_now = tt

      pub never-restart : (key : List ℕ) (ts : ℕ) → Any (λ h. IsUnrefreshed key ts h.reply) k.heard_now → ⊥
      never-restart key ts (i, h, inside, at, is) =
          let w = each-contains _ k.heard_now h (now_is_so head history before the_session) (i, inside, at) in
          let kind : MayAnswer h.request h.reply = subst (MayAnswer h.request) (sym w.answers) (replies_have_kinds head w.front w.range h.request) in
          unrefreshed-none n h.request key ts h.reply is kind (answered-sent h.number h.request h.reply w).0

      abbrev named : Option (Entry Event)
      named = named_in (protocol head) history e.event

      -- over each event
      over : (event : Event) (g : Option Heard) (top high : ℕ) → g ≡ heard_by event named k.sent → MayDo head the_session k event → IsTidy k (jobs_at head history) event
          → (IsTalk event → stays_open k event ≡ false → (m : Sent) → Contains k.sent m → IsEvaluated m.number after)
          → IfSome g (λ h. IsLowSent n h.request × AtMost n (reply_stamps h.reply))
          → LowAs after (known_after event g top high k) × Rises k (known_after event g top high k)
      over (events.Ask call reading) g top high none acts tidy done is = (
        rests-low head history after k (jobs_at head history) all.low begins still heard-some clear unstaged unpushed unsettled (known_after (events.Ask call reading) g top high k) refl
            (ap (λ o. k.heard ++ option_to_list o) none ∙ append-nil k.heard) (append-nil k.sent) refl refl,
        Same refl refl (λ some. some) (λ over. over),
      )
      over (events.Send number range request) g top high none acts tidy done is = (
        sends-low head history after k (jobs_at head history) all.low begins still heard-some clear unstaged unpushed unsettled number range request g top high acts tidy none,
        Same (level_map (txn_sent request) (λ t. refl) k.txns) refl (begun-map (txn_sent request) k.txns) (λ over. over),
      )
      over (events.Eval sender sent told) g top high none acts tidy done is = absurd acts
      over (events.Hear number step) g top high none acts tidy done is = (
        hears-low head history after k (jobs_at head history) all.low begins still heard-some clear unstaged unpushed unsettled number step g top high is,
        Same (level_map (txn_heard k.sent g) (λ t. refl) k.txns) refl (begun-map (txn_heard k.sent g) k.txns) (λ over. over),
      )
      over (events.Meet id step) g top high none acts tidy done is = (
        rests-low head history after k (jobs_at head history) all.low begins still heard-some clear unstaged unpushed unsettled (known_after (events.Meet id step) g top high k) refl
            (ap (λ o. k.heard ++ option_to_list o) none ∙ append-nil k.heard) (append-nil k.sent) refl refl,
        Same refl refl (λ some. some) (λ over. over),
      )
      over (events.Tell answer) g top high none acts tidy done is = by answer acts (done tt)
        where
          others : (answer : Answer) → ((key : List ℕ) (ts : ℕ) → answer ≡ answers.Restart key ts → ⊥)
              → txns_told answer k ≡ cond k.is_open (told_first answer (replies_to k.sent_now k.heard_now) k.txns) k.txns
              → (known_after (events.Tell answer) g top high k).txns ≡ txns_told answer k
              → (known_after (events.Tell answer) g top high k).begun ≡ k.begun
              → (k.is_open ≡ false → is_open_told answer k.is_open ≡ false)
              → LowAs after (known_after (events.Tell answer) g top high k) × Rises k (known_after (events.Tell answer) g top high k)
          others answer never is same count over = (
            tells-low head history after k (jobs_at head history) all.low begins still heard-some clear unstaged unpushed unsettled answer g top high none never count over is,
            Same (ap level is ∙ level_told answer (replies_to k.sent_now k.heard_now) k.is_open k.txns) (ap (λ (c : ℕ). let i : TxnId = record { session = 1; number = c } in i) count)
                (λ some. begun-told answer (replies_to k.sent_now k.heard_now) k.is_open k.txns (subst HasBegun is some)) over,
          )

          by : (answer : Answer) → MayDo head the_session k (events.Tell answer) → (stays_open k (events.Tell answer) ≡ false → (m : Sent) → Contains k.sent m → IsEvaluated m.number after)
              → LowAs after (known_after (events.Tell answer) g top high k) × Rises k (known_after (events.Tell answer) g top high k)
          by (answers.Begun id ts) acts ends =
              let row = told_by_row head the_session k (answers.Begun id ts) acts (λ h. cc h) (λ h. cc h) in
              let closed : k.is_open ≡ false = st.stands.outside acts.s acts.opened (ap is_outside row.asked) in
              let b = begins-low head history after k (jobs_at head history) all.low begins still heard-some clear unstaged unpushed unsettled id ts g top high none acts (ends (ap (λ b. b && is_open_told (answers.Begun id ts) k.is_open) closed)) in
              let above = b.1 in
              let is = b.2 in
              (b.0, Higher (omega (arith, above, is, begins)))
          by (answers.Restart key ts) acts ends = absurd (never-restart key ts (told_by_row head the_session k (answers.Restart key ts) acts (λ h. cc h) (λ h. cc h)).heard)
          by (answers.Value value) acts ends = others (answers.Value value) (λ key ts h. cc h) refl refl refl (λ over. over)
          by (answers.Rows rows) acts ends = others (answers.Rows rows) (λ key ts h. cc h) refl refl refl (λ over. over)
          by (answers.Committed id ts) acts ends = others (answers.Committed id ts) (λ key ts h. cc h) refl refl refl (λ over. refl)
          by (answers.RolledBack id why) acts ends = others (answers.RolledBack id why) (λ key ts h. cc h) refl refl refl (λ over. refl)
          by (answers.Aborted why) acts ends = others (answers.Aborted why) (λ key ts h. cc h) refl refl refl (λ over. refl)
          by (answers.Unknown id) acts ends = others (answers.Unknown id) (λ key ts h. cc h) refl refl refl (λ over. refl)
          by answer acts ends = others answer (λ key ts h. cc h) refl refl refl (λ over. over)

      abbrev learnt : Known
      learnt = learn (pair e (named_in (protocol head) history e.event)) k

      goes : LowAs after learnt × Rises k learnt
      goes =
          let done : IsTalk e.event → stays_open k e.event ≡ false → (m : Sent) → Contains k.sent m → IsEvaluated m.number after = λ talks ends m there. still m.number (all-done head whole run alone history before e later split may st me talks ends m there) in
          over e.event (heard_by e.event named k.sent) (top_after e.event named k.top) (high_after e.event named k.high) refl
          (acts head whole run alone history before e later split may st me) (tidy head whole run alone history before e later split may st me) done
          (by (heard_by e.event named k.sent) (heard-event head history before the_session e.event (subst (IsCaused history e.event) me may.caused)))
        where
          by : (g : Option Heard) → IfSome g (λ h. WasAnswered head history the_session h.number h.request h.reply) → IfSome g (λ h. IsLowSent n h.request × AtMost n (reply_stamps h.reply))
          by None is = tt
          by (Some h) is = let a = answered-sent h.number h.request h.reply is in (a.0, a.1)

      nothing-told : (event : Event) (m : ℕ) → MayDo head the_session k event → RepliesLow m event
      nothing-told (events.Eval sender sent told) m done = absurd done
      nothing-told event m done = tt

      low-session : LowAll head after
      low-session =
          let same : known_at head the_session after ≡ learnt = known_same head the_session history e me in
          let m = level learnt.txns in
          record {
            low = subst (LowAs after) (sym same) goes.0;
            ranges = λ r.
                let differ : e.actor ≢ actors.Range r = λ is. let both = sym me ∙ is in cc both in
                subst (λ l. IsLowRange l (state_at head r after)) (sym same)
                (subst (λ (x : RangeState). IsLowRange learnt x) (sym (state_other head (actors.Range r) history e differ)) (range-rises k learnt (state_at head r history) goes.1 (all.ranges r)));
            told = subst (λ (l : Known). (x : Entry Event) → Contains after x → RepliesLow (level l.txns) x.event) (sym same)
                (told-more m (rises-most k learnt goes.1) (nothing-told e.event m (acts head whole run alone history before e later split may st me)));
          }

  LowOn : List (Entry Event) → Type 0
  LowOn history = (later : List (Entry Event)) → whole ≡ history ++ later → LowAll head history

  low-on : (history : List (Entry Event)) → IsRun head history → LowOn history
  unfolding LowOn
  low-on = run_induction head LowOn (λ later split. record {
    low = record {
      txns = tt;
      first = tt;
      heard = λ h there. absurd (contains_nil h there);
      sent = λ m there. absurd (contains_nil m there);
      some = λ m there. absurd (contains_nil m there);
      waiting = λ m there. absurd (contains_nil m there);
    };
    ranges = λ range. record { within = record { bound = omega arith; versions = tt; intents = tt; table = record { records = tt; marks = tt } }; free = λ some. absurd some; versions = λ v there. absurd (contains_nil v there) };
    told = λ x there. absurd (contains_nil x there);
  }) (λ history e before may all later split.
      let on : whole ≡ history ++ e ∷ later = split ∙ append_assoc history (e ∷ []) later in
      let low = all (e ∷ later) on in
      let st = stands_at head whole run alone history before (e ∷ later) on in
      elim (who head whole run alone e.actor may.local.there) [
        | inl me ↦ low-session history before e later on may low me
        | inr at ↦ low-evaluated history before e later on may low (evaluates_waiting head whole run alone history before e later on may st at.0 at.1) (λ same. let both = sym at.1 ∙ same in cc both)
      ])

  pub low_at : (history : List (Entry Event)) → IsRun head history → (later : List (Entry Event)) → whole ≡ history ++ later → LowAll head history
  unfolding LowOn
  low_at history before later split = low-on history before later split

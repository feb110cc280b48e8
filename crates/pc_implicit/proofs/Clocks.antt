-- A session that knows of a commit knows a timestamp at or above it, and begins above that.
use Rattle.std.proofs.Common.{◌≡◌, ℕ, ◌+◌, ◌*◌, ◌/◌, ◌^◌, ◌<◌, ◌≤◌, max, nat_lt, Bool, true, false, cond, ◌==◌, inl, inr, List, [], ◌∷◌, ◌++◌, fold, map, Option, None, Some, IfSome, Any, Contains, IsTrue, refl, sym, ap, subst, ◌∙◌, arith}
use Rattle.std.proofs.lemmas.Bool.{and_from, and_parts, eq-eqb, ltb-true}
use Rattle.std.proofs.lemmas.Grind.{fold-append}
use Rattle.std.proofs.lemmas.List.Elements.{Contains-append_left, Contains-append_right}
use Rattle.std.specs.List.{AllByRecursion as Each}
use Rattle.std.specs.Option.{option_map_or, option_to_list}
use Rattle.pc_base.specs.declared.actor.ActorId.{ActorId}
use Rattle.pc_base.specs.declared.actor.ActorId.TheVariants as actors
use Rattle.pc_base.specs.declared.entry.Entry.{Entry}
use Rattle.pc_base.specs.declared.transaction.TxnId.{TxnId}
use Rattle.pc_history.proofs.Histories.{named-one}
use Rattle.pc_history.specs.declared.pair.Pair.{Pair}
use Rattle.pc_history.specs.History.{MayFollow}
use Rattle.pc_history.specs.Own.{named_in, own}
use Rattle.pc_implicit.proofs.Agreed.{committed_row, open_there}
use Rattle.pc_implicit.proofs.Commits.{act_of, committed-view}
use Rattle.pc_implicit.proofs.Doing.{Does, told_by_row}
use Rattle.pc_implicit.proofs.Hearing.{as-heard, to-list}
use Rattle.pc_implicit.proofs.HeardViews.{staging-view}
use Rattle.pc_implicit.proofs.OneDecision.{told_committed}
use Rattle.pc_implicit.proofs.OwnSplit.{own_split}
use Rattle.pc_lists.proofs.Each.{each-append, each-contains, each-flat_unmap, each-map, each-weaker}
use Rattle.pc_lists.proofs.Lists.{contains_head}
use Rattle.pc_proto.specs.declared.answer.Answer.{Answer}
use Rattle.pc_proto.specs.declared.answer.Answer.TheVariants as answers
use Rattle.pc_proto.specs.declared.event.Event.{Event}
use Rattle.pc_proto.specs.declared.event.Event.TheVariants as events
use Rattle.pc_proto.specs.declared.reply.Origin.{Origin}
use Rattle.pc_proto.specs.declared.reply.Origin.TheVariants as origins
use Rattle.pc_proto.specs.declared.reply.Reply.{Reply}
use Rattle.pc_proto.specs.declared.reply.Reply.TheVariants as replies
use Rattle.pc_proto.specs.declared.request.Request.{Request}
use Rattle.pc_proto.specs.declared.request.Request.TheVariants as requests
use Rattle.pc_proto.specs.declared.view.View.{View}
use Rattle.pc_proto.specs.declared.view.View.TheVariants as views
use Rattle.pc_proto.specs.Replies.{view_in}
use Rattle.pc_proto.specs.Requests.{is_about}
use Rattle.pc_proto.specs.Stamps.{event_stamps, greatest_of, origin_stamps, reply_stamps, view_stamps}
use Rattle.pc_proto.specs.Views.{is_committed_at, is_staging_at}
use Rattle.pc_world.proofs.Knowing.{known_push}
use Rattle.pc_world.proofs.Prefixes.{run_front, run_may}
use Rattle.pc_world.proofs.World.{names_one}
use Rattle.pc_world.specs.After.{known_at}
use Rattle.pc_world.specs.Caused.{IsCaused, TellsCommitted}
use Rattle.pc_world.specs.Committed.{IsCommitted}
use Rattle.pc_world.specs.Known.{Known, known_of, learn, nothing_known, told_first, txn_begun, txns_after}
use Rattle.pc_world.specs.Known.Clock.{high_after, named_stamps}
use Rattle.pc_world.specs.Known.Statements.{Statement}
use Rattle.pc_world.specs.Known.Traffic.{Heard, Sent, heard_by, reply_in, reply_named, replies_to, request_sent}
use Rattle.pc_world.specs.Known.Transactions.{Txn, txn_heard, txn_sent}
use Rattle.pc_world.specs.Legal.{Learns, ShowsWrite, ShowsWriteHeard, Wrote}
use Rattle.pc_world.specs.Local.{Head}
use Rattle.pc_world.specs.MayTell.{MayTellRow}
use Rattle.pc_world.specs.Named.{is_tell}
use Rattle.pc_world.specs.Run.{IsRun, protocol}
use Rattle.pc_base.specs.Clock.{clock_now}
use Rattle.pc_world.specs.Tell.End.{shows_staging}
use Rattle.pc_world.specs.Views.{WasCommitted}

high-rises : (event : Event) (named : Option (Entry Event)) (high : ℕ) → high ≤ high_after event named high
high-rises (events.Hear number step) named high = omega arith
high-rises (events.Meet id step) named high = omega arith
high-rises (events.Tell (answers.Begun id ts)) named high = omega arith
high-rises (events.Tell answer) named high = omega arith
high-rises event named high = omega arith

high-along : (k : Known) (entries : List (Pair Event)) → k.high ≤ (fold (λ k p. learn p k) k entries).high
high-along k [] = omega arith
high-along k (p ∷ ps) =
    let first : k.high ≤ (learn p k).high = high-rises p.entry.event p.named k.high in
    let later : (learn p k).high ≤ (fold (λ k p. learn p k) (learn p k) ps).high = high-along (learn p k) ps in
    omega arith

-- the clock of a session never falls
pub high_grows : (entries more : List (Pair Event)) → (known_of entries).high ≤ (known_of (entries ++ more)).high
high_grows entries more =
    subst (λ (k : Known). (known_of entries).high ≤ k.high) (sym (fold-append (λ k p. learn p k) nothing_known entries more)) (high-along (known_of entries) more)

-- The clock is at or above what was heard, and at or above each begin.
pub record IsLow (high : ℕ) (heard : List Heard) (txns : List Txn) : Type 0 where
  pub heard_low : Each (λ h. greatest_of (reply_stamps h.reply) ≤ high) heard
  pub begins_low : Each (λ t. t.begin ≤ high) txns

reply-stamps : (event : Event) (told : Reply) → reply_in event ≡ Some told → greatest_of (reply_stamps told) ≡ greatest_of (event_stamps event)
reply-stamps (events.Eval actor number reply) told h = let same : reply ≡ told = cc in ap (λ r. greatest_of (reply_stamps r)) (sym same)
reply-stamps event told h = absurd cc

named-low : (named : Option (Entry Event)) (told : Reply) → reply_named named ≡ Some told → greatest_of (reply_stamps told) ≡ greatest_of (named_stamps named)
named-low None told h = absurd cc
named-low (Some e) told h = reply-stamps e.event told h

heard-low : (event : Event) (named : Option (Entry Event)) (high : ℕ) (sent : List Sent) → IfSome (heard_by event named sent) (λ h. greatest_of (reply_stamps h.reply) ≤ high_after event named high)
heard-low (events.Hear number step) named high sent =
    as-heard (λ h. greatest_of (reply_stamps h.reply) ≤ max high (greatest_of (named_stamps named))) number step (request_sent number sent) (reply_named named)
    (λ asked told is_asked is_told. omega (arith, named-low named told is_told))
heard-low event named high sent = tt

begins-still : (high more : ℕ) (f : Txn → Txn) (txns : List Txn) → high ≤ more → ((t : Txn) → (f t).begin ≡ t.begin) → Each (λ t. t.begin ≤ high) txns → Each (λ t. t.begin ≤ more) (map f txns)
begins-still high more f txns rises same each =
    each-map (λ t. t.begin ≤ more) f txns (each-weaker (λ t. t.begin ≤ high) (λ t. (f t).begin ≤ more) (λ t low. omega (arith, low, same t)) txns each)

begins-first : (high : ℕ) (answer : Answer) (replied : List Heard) (b : Bool) (txns : List Txn) → Each (λ t. t.begin ≤ high) txns → Each (λ t. t.begin ≤ high) (cond b (told_first answer replied txns) txns)
begins-first high answer replied true [] each = tt
begins-first high answer replied true (t ∷ ts) each = (each.0, each.1)
begins-first high answer replied false txns each = each

begun-low : (s : Option Statement) (id : TxnId) (ts high : ℕ) → (txn_begun s id ts).begin ≤ max high ts
begun-low None id ts high = omega arith
begun-low (Some s) id ts high = omega arith

begins-after : (event : Event) (named : Option (Entry Event)) (h : Option Heard) (k : Known) → Each (λ t. t.begin ≤ k.high) k.txns → Each (λ t. t.begin ≤ high_after event named k.high) (txns_after event h k)
begins-after (events.Send number range request) named h k each = begins-still k.high k.high (txn_sent request) k.txns (omega arith) (λ t. refl) each
begins-after (events.Hear number step) named h k each = begins-still k.high (max k.high (greatest_of (named_stamps named))) (txn_heard k.sent h) k.txns (omega arith) (λ t. refl) each
begins-after (events.Tell (answers.Begun id ts)) named h k each =
    (begun-low k.statement id ts k.high, each-weaker (λ t. t.begin ≤ k.high) (λ t. t.begin ≤ max k.high ts) (λ t low. omega (arith, low)) k.txns each)
begins-after (events.Tell answer) named h k each = begins-first k.high answer (replies_to k.sent_now k.heard_now) k.is_open k.txns each
begins-after (events.Meet id step) named h k each = each-weaker (λ t. t.begin ≤ k.high) (λ t. t.begin ≤ max k.high (greatest_of (named_stamps named))) (λ t low. omega (arith, low)) k.txns each
begins-after event named h k each = each

learn-low : (p : Pair Event) (k : Known) → IsLow k.high k.heard k.txns → IsLow (learn p k).high (learn p k).heard (learn p k).txns
learn-low p k low =
    let h = heard_by p.entry.event p.named k.sent in
    let high = high_after p.entry.event p.named k.high in
    record {
      heard_low =
          each-append (λ g. greatest_of (reply_stamps g.reply) ≤ high) k.heard (option_to_list h)
          (each-weaker (λ g. greatest_of (reply_stamps g.reply) ≤ k.high) (λ g. greatest_of (reply_stamps g.reply) ≤ high) (λ g is. omega (arith, is, high-rises p.entry.event p.named k.high)) k.heard low.heard_low)
          (to-list (λ g. greatest_of (reply_stamps g.reply) ≤ high) h (heard-low p.entry.event p.named k.high k.sent));
      begins_low = begins-after p.entry.event p.named h k low.begins_low;
    }

low-along : (k : Known) (entries : List (Pair Event)) → IsLow k.high k.heard k.txns → IsLow (fold (λ k p. learn p k) k entries).high (fold (λ k p. learn p k) k entries).heard (fold (λ k p. learn p k) k entries).txns
low-along k [] low = low
low-along k (p ∷ ps) low = low-along (learn p k) ps (learn-low p k low)

-- the clock is at or above all that was heard and begun
pub known_low : (entries : List (Pair Event)) → IsLow (known_of entries).high (known_of entries).heard (known_of entries).txns
known_low entries = low-along nothing_known entries (record { heard_low = tt; begins_low = tt })

viewed-low : (reply : Reply) (view : View) (high : ℕ) → view_in reply ≡ Some view → greatest_of (reply_stamps reply) ≤ high → greatest_of (view_stamps view) ≤ high
viewed-low (replies.Status own) view high told low = let same : own ≡ view = cc in subst (λ w. greatest_of (view_stamps w) ≤ high) same low
viewed-low (replies.Refused own) view high told low = let same : own ≡ view = cc in subst (λ w. greatest_of (view_stamps w) ≤ high) same low
viewed-low (replies.Unsure own) view high told low = let same : own ≡ view = cc in subst (λ w. greatest_of (view_stamps w) ≤ high) same low
viewed-low reply view high told low = absurd cc

clock-rises : (reading high : ℕ) → high < clock_now reading high
clock-rises reading high = by (nat_lt (high / 2 ^ 32) reading) refl
  where
    by : (b : Bool) → nat_lt (high / 2 ^ 32) reading ≡ b → high < cond b (reading * 2 ^ 32) (high + 1)
    by true e = let low : high / 2 ^ 32 < reading = ltb-true (high / 2 ^ 32) reading e in omega arith
    by false e = omega arith

module _ (head : Head) (history : List (Entry Event)) (run : IsRun head history) where
  -- a commit that is told is at or below the session's clock
  pub told_below : (actor : ActorId) (id : TxnId) (ts : ℕ) → Does head actor (known_at head actor history) (events.Tell (answers.Committed id ts)) → ts ≤ (known_at head actor history).high
  told_below actor id ts may =
      let k = known_at head actor history in
      let low = known_low (own (protocol head) actor history) in
      let row = committed_row head actor k id ts may in
      elim row.why [
        | inl unwritten ↦
            let begun : row.t.begin ≤ k.high = each-contains (λ t. t.begin ≤ k.high) k.txns row.t low.begins_low (open_there k row.t row.opened) in
            omega (arith, unwritten.at_begin)
        | inr other ↦ elim other [
          | inl heard ↦ heard-below actor row.t.id ts heard
          | inr implicit ↦ staged-below actor row.t.id row.t.epoch ts implicit.staging
        ]
      ]
    where
      reply-low : (actor : ActorId) (h : Heard) → Contains (known_at head actor history).heard h → greatest_of (reply_stamps h.reply) ≤ (known_at head actor history).high
      reply-low actor h there =
          each-contains (λ g. greatest_of (reply_stamps g.reply) ≤ (known_at head actor history).high) (known_at head actor history).heard h (known_low (own (protocol head) actor history)).heard_low there

      staged-below : (actor : ActorId) (id : TxnId) (epoch ts : ℕ) → Any (λ h. IsTrue (shows_staging id epoch ts h)) (known_at head actor history).heard → ts ≤ (known_at head actor history).high
      staged-below actor id epoch ts (n, h, inside, at, shows) =
          let k = known_at head actor history in
          let parts = and_parts (is_about id h.request) (option_map_or (is_staging_at epoch ts) (view_in h.reply) false) shows in
          let view = staging-view epoch ts (view_in h.reply) parts.1 in
          let low : greatest_of (view_stamps (views.Staging epoch view.0 view.1)) ≤ k.high = viewed-low h.reply (views.Staging epoch view.0 view.1) k.high view.2 (reply-low actor h (n, inside, at)) in
          let same : view.0 ≡ ts = view.3 in
          omega (arith, low, same)

      heard-below : (actor : ActorId) (id : TxnId) (ts : ℕ) → WasCommitted (known_at head actor history).heard id ts → ts ≤ (known_at head actor history).high
      heard-below actor id ts (n, h, inside, at, shows) =
          let k = known_at head actor history in
          let parts = and_parts (is_about id h.request) (option_map_or (is_committed_at ts) (view_in h.reply) false) shows in
          let view = committed-view ts (view_in h.reply) parts.1 in
          let low : greatest_of (view_stamps (views.Committed view.0 ts view.1)) ≤ k.high = viewed-low h.reply (views.Committed view.0 ts view.1) k.high view.2 (reply-low actor h (n, inside, at)) in
          omega (arith, low)

begun-at : (head : Head) (session : ℕ) (k : Known) (s : Statement) (id : TxnId) (ts : ℕ) → MayTellRow head.splits (actors.Session session) k s (answers.Begun id ts) → ts ≡ clock_now s.reading k.high
begun-at head session k s id ts row = row.at

tells-what : (id : TxnId) (event : Event) → TellsCommitted id event → (ts : ℕ) × (event ≡ events.Tell (answers.Committed id ts))
tells-what id (events.Tell (answers.Committed other ts)) h = (ts, ap (λ i. events.Tell (answers.Committed i ts)) h)
tells-what id event h = absurd h

-- each timestamp is at or below the greatest
low-each : (most high : ℕ) (stamps : List ℕ) → fold (λ most ts. max most ts) most stamps ≤ high → (most ≤ high) × Each (λ ts. ts ≤ high) stamps
low-each most high [] h = (h, tt)
low-each most high (ts ∷ stamps) h =
    let later = low-each (max most ts) high stamps h in
    let greatest : max most ts ≤ high = later.0 in
    (omega (arith, greatest), (omega (arith, greatest), later.1))

module _ (head : Head) (history : List (Entry Event)) (id : TxnId) (ts high : ℕ) (is : IsCommitted head history id ts) where
  wrote-low : (key : List ℕ) (origin : Origin) → Wrote head history id key origin → Each (λ at. at ≤ high) (origin_stamps origin) → ts ≤ high
  wrote-low key (origins.At at) wrote low =
      let both : Some at ≡ Some ts = sym wrote.0 ∙ is in
      let same : at ≡ ts = cc in
      omega (arith, low.0)
  wrote-low key origins.Own wrote low = absurd wrote
  wrote-low key origins.Nothing wrote low = absurd wrote

  shown-low : (request : Request) (reply : Reply) → ShowsWrite head history id request reply → Each (λ at. at ≤ high) (reply_stamps reply) → ts ≤ high
  shown-low (requests.Get other epoch seq from key) (replies.Value origin value) shows low = wrote-low key origin shows low
  shown-low (requests.Scan other epoch seq from span) (replies.Rows rows) (n, row, inside, at, wrote) low =
      wrote-low row.0 row.1 wrote
      (each-contains (λ (r : List ℕ × Origin × List ℕ). Each (λ at. at ≤ high) (origin_stamps r.1)) rows row
      (each-flat_unmap (λ at. at ≤ high) (λ (r : List ℕ × Origin × List ℕ). origin_stamps r.1) rows low) (n, inside, at))
  shown-low request reply shows low = absurd shows

  -- a value that was heard is at or below what was heard
  heard-value-low : (h : Option Heard) → IfSome h (λ g. greatest_of (reply_stamps g.reply) ≤ high) → ShowsWriteHeard head history id h → ts ≤ high
  heard-value-low None low shows = absurd shows
  heard-value-low (Some h) low shows = shown-low h.request h.reply shows (low-each 0 high (reply_stamps h.reply) low).1

-- What a session learns by its next entry.
module _ (head : Head) (history : List (Entry Event)) (run : IsRun head history) (front back : List (Entry Event)) (e : Entry Event) (whole : history ≡ front ++ e ∷ back) where
  early : IsRun head front
  early = run_front head front (e ∷ back) (subst (IsRun head) whole run)

  may-now : MayFollow (protocol head) front e
  may-now = run_may head front e back (subst (IsRun head) whole run)

  there : Contains history e
  there = subst (λ h. Contains h e) (sym whole) (Contains-append_right front (e ∷ back) e (contains_head e back))

  before-there : (x : Entry Event) → Contains front x → Contains history x
  before-there x inside = subst (λ h. Contains h x) (sym whole) (Contains-append_left front (e ∷ back) x inside)

  one-ts : (x : Entry Event) (id : TxnId) (ts at : ℕ) → Contains history x → x.event ≡ events.Tell (answers.Committed id at) → IsCommitted head history id ts → at ≡ ts
  one-ts x id ts at inside told is = let both : Some at ≡ Some ts = sym (told_committed head history run x inside id at told) ∙ is in cc both

  -- the telling that a meeting names
  meeting-names : (actor : ActorId) (id : TxnId) (step : ℕ) → IsCaused front (events.Meet id step) actor
      → (x : Entry Event) × (ts : ℕ) × Contains front x × (x.event ≡ events.Tell (answers.Committed id ts)) × (named_in (protocol head) front (events.Meet id step) ≡ Some x)
  meeting-names actor id step (k, x, inside, at, is) =
      let what = tells-what id x.event is.tell in (
        x,
        what.0,
        (k, inside, at),
        what.1,
        named-one (protocol head) front (events.Meet id step) x (names_one head front (events.Meet id step) early) (k, inside, at)
            (and_from (x.step == step) (is_tell x.event) (eq-eqb x.step step is.at) (ap is_tell what.1)),
      )

  learnt-now : (event : Event) → e.event ≡ event → (id : TxnId) (ts : ℕ) → Learns head history id (own (protocol head) e.actor front) event (named_in (protocol head) front event) → IsCommitted head history id ts
      → ts ≤ high_after event (named_in (protocol head) front event) (known_at head e.actor front).high
  learnt-now (events.Tell (answers.Committed other at)) same id ts learns is =
      let told : e.event ≡ events.Tell (answers.Committed id at) = same ∙ ap (λ i. events.Tell (answers.Committed i at)) learns in
      let below : at ≤ (known_at head e.actor front).high =
      told_below head front early e.actor id at (subst (Does head e.actor (known_at head e.actor front)) told (act_of head front e may-now)) in
      omega (arith, one-ts e id ts at there told is)
  learnt-now (events.Meet other step) same id ts learns is =
      let names = meeting-names e.actor other step (subst (λ event. IsCaused front event e.actor) same may-now.caused) in
      let told : names.0.event ≡ events.Tell (answers.Committed id names.1) = names.3 ∙ ap (λ i. events.Tell (answers.Committed i names.1)) learns in
      let met : names.1 ≡ ts = one-ts names.0 id ts names.1 (before-there names.0 names.2) told is in
      let stamps : greatest_of (named_stamps (named_in (protocol head) front (events.Meet other step))) ≡ max 0 names.1 =
      ap (λ o. greatest_of (named_stamps o)) names.4 ∙ ap (λ event. greatest_of (event_stamps event)) names.3 in
      omega arith
  learnt-now (events.Hear number step) same id ts learns is =
      let k = known_at head e.actor front in
      let named = named_in (protocol head) front (events.Hear number step) in
      heard-value-low head history id ts (high_after (events.Hear number step) named k.high) is (heard_by (events.Hear number step) named k.sent)
      (heard-low (events.Hear number step) named k.high k.sent) learns
  learnt-now event same id ts learns is = absurd learns

module _ (head : Head) (history : List (Entry Event)) (run : IsRun head history) (session : ℕ) (before : List (Pair Event)) (p : Pair Event) (later : List (Pair Event)) (whole : own (protocol head) (actors.Session session) history ≡ before ++ p ∷ later) where
  -- a transaction begins above all that its session knew
  pub begun_above : (id : TxnId) (ts : ℕ) → p.entry.event ≡ events.Tell (answers.Begun id ts) → (known_of before).high < ts
  begun_above id ts told =
      let s = own_split (protocol head) (actors.Session session) history before p later whole in
      let may = run_may head s.front p.entry s.back (subst (IsRun head) s.whole run) in
      let act : Does head (actors.Session session) (known_of before) (events.Tell (answers.Begun id ts)) =
      subst (Does head (actors.Session session) (known_of before)) told
      (subst (λ own. Does head (actors.Session session) (known_of own) p.entry.event) s.mine
      (subst (λ a. Does head a (known_at head a s.front) p.entry.event) s.actor (act_of head s.front p.entry may))) in
      let row = told_by_row head (actors.Session session) (known_of before) (answers.Begun id ts) act (λ e. absurd cc) (λ e. absurd cc) in
      let at : ts ≡ clock_now act.s.reading (known_of before).high = begun-at head session (known_of before) act.s id ts row in
      omega (arith, clock-rises act.s.reading (known_of before).high)

  -- a session that learns of a commit knows a timestamp at or above it
  pub learnt_below : (id : TxnId) (ts : ℕ) → Learns head history id before p.entry.event p.named → IsCommitted head history id ts → ts ≤ (known_of (before ++ p ∷ [])).high
  learnt_below id ts learns is =
      let s = own_split (protocol head) (actors.Session session) history before p later whole in
      let mine : own (protocol head) p.entry.actor s.front ≡ before = ap (λ a. own (protocol head) a s.front) s.actor ∙ s.mine in
      let learnt : Learns head history id (own (protocol head) p.entry.actor s.front) p.entry.event (named_in (protocol head) s.front p.entry.event) =
      subst (Learns head history id (own (protocol head) p.entry.actor s.front) p.entry.event) s.named
      (subst (λ own. Learns head history id own p.entry.event p.named) (sym mine) learns) in
      let now : ts ≤ high_after p.entry.event (named_in (protocol head) s.front p.entry.event) (known_at head p.entry.actor s.front).high =
      learnt-now head history run s.front s.back p.entry s.whole p.entry.event refl id ts learnt is in
      let same : high_after p.entry.event (named_in (protocol head) s.front p.entry.event) (known_at head p.entry.actor s.front).high ≡ (known_of (before ++ p ∷ [])).high =
      ap (λ o. high_after p.entry.event o (known_at head p.entry.actor s.front).high) (sym s.named)
      ∙ ap (λ own. high_after p.entry.event p.named (known_of own).high) mine
      ∙ ap (λ (k : Known). k.high) (sym (known_push before p)) in
      omega (arith, now, same)

-- One session alone: its times stay at or below the begin timestamp of the transaction that it began last, over each of its entries.
use Rattle.std.proofs.Common.{◌≡◌, ℕ, ◌≤◌, ◌<◌, true, false, cond, List, [], ◌∷◌, ◌++◌, ◌⊎◌, inl, inr, Option, None, Some, IfSome, Contains, refl, sym, ap, subst, ◌∙◌, arith, append-nil}
use Rattle.std.proofs.lemmas.List.Elements.{Contains-append_cases, Contains-push_cases}
use Rattle.std.specs.List.{AllByRecursion as Each}
use Rattle.std.specs.Option.{option_to_list}
use Rattle.std.specs.Prelude.{⊤}
use Rattle.pc_base.specs.Clock.{clock_now}
use Rattle.pc_base.specs.declared.entry.Entry.{Entry}
use Rattle.pc_base.specs.declared.transaction.TxnId.{TxnId}
use Rattle.pc_implicit.proofs.Agreed.{open_is, open_there}
use Rattle.pc_implicit.proofs.Doing.{told_by_row}
use Rattle.pc_lists.proofs.Each.{each-contains, each-map, each-weaker}
use Rattle.pc_lists.proofs.Lists.{contains_cons, contains_nil}
use Rattle.pc_proto.specs.declared.answer.Answer.{Answer}
use Rattle.pc_proto.specs.declared.answer.Answer.TheVariants as answers
use Rattle.pc_proto.specs.declared.event.Event.{Event}
use Rattle.pc_proto.specs.declared.event.Event.TheVariants as events
use Rattle.pc_proto.specs.declared.fate.Fate.{Fate}
use Rattle.pc_proto.specs.declared.fate.Fate.TheVariants as fates
use Rattle.pc_proto.specs.declared.meta.TxnMeta.{TxnMeta}
use Rattle.pc_proto.specs.declared.request.Request.{Request}
use Rattle.pc_proto.specs.declared.request.Request.TheVariants as requests
use Rattle.pc_proto.specs.declared.why.Why.{Why}
use Rattle.pc_proto.specs.Replies.{is_conflict}
use Rattle.pc_proto.specs.Stamps.{reply_stamps, why_stamps}
use Rattle.pc_serial.proofs.AloneLow.{SettlesOver}
use Rattle.pc_serial.proofs.AloneStanding.{last_of}
use Rattle.pc_serial.proofs.AloneTimes.{HasBegun, IsFirstHigh, IsLowSent, IsLowTxn, blocked_none, clock_rises, fate-low, first_heard-high, first_sent-high, first_told-high, first_told-low, has_begun, has_begun-map, has_begun-told, level, level_map, level_told, low_sent-more, txn_heard-low, txn_sent-low, viewed-low}
use Rattle.pc_serial.proofs.AloneTold.{committed-shown}
use Rattle.pc_serial.specs.QuietWire.{IsEvaluated, the_session}
use Rattle.pc_serial.specs.Tidy.{IsTidy}
use Rattle.pc_world.proofs.Stamps.Within.{AtMost, at_most-more}
use Rattle.pc_world.specs.Known.{Known, known_after, open_txn, told_first, txn_begun, txns_told}
use Rattle.pc_world.specs.Known.Statements.{Statement, begun_after, is_open_told}
use Rattle.pc_world.specs.Known.Traffic.{Heard, Sent, replies_to}
use Rattle.pc_world.specs.Known.Transactions.{Txn, txn_heard, txn_sent}
use Rattle.pc_world.specs.Known.Writes.{Write}
use Rattle.pc_world.specs.Local.{Head}
use Rattle.pc_world.specs.MaySend.{MaySend}
use Rattle.pc_world.specs.MayTell.{MayTell}
use Rattle.pc_world.specs.Send.Abort.{own_cause}
use Rattle.pc_world.specs.Send.Recovery.{WasStaging}

-- If the event evaluates, its reply is at or below the timestamp.
abbrev pub RepliesLow : ℕ → Event → Type 0
RepliesLow n (events.Eval actor number reply) = AtMost n (reply_stamps reply)
RepliesLow n _ = ⊤

-- A read that waits reads no lower than the last begin; a resolve waits to commit the last transaction only once that is over.
abbrev pub MayWait : Known → Request → Type 0
MayWait k (requests.Get id epoch seq ts key) = level k.txns ≤ ts
MayWait k (requests.Scan id epoch seq ts span) = level k.txns ≤ ts
MayWait k (requests.Resolve id key fate) = SettlesOver (last_of k) (k.is_open ≡ false) id fate
MayWait k _ = ⊤

-- What the session knows is at or below the last begin.
pub record LowAs (history : List (Entry Event)) (k : Known) : Type 0 where
  pub txns : Each (IsLowTxn (level k.txns)) k.txns
  pub first : IsFirstHigh k.txns
  pub heard : (h : Heard) → Contains k.heard h → AtMost (level k.txns) (reply_stamps h.reply)
  pub sent : (m : Sent) → Contains k.sent m → IsLowSent (level k.txns) m.request
  pub some : (m : Sent) → Contains k.sent m → HasBegun k.txns
  pub waiting : (m : Sent) → Contains k.sent m → (IsEvaluated m.number history → ⊥) → MayWait k m.request

settles-as : (last other : TxnId) (Over Later : Type 0) → other ≡ last → (Over → Later) → (id : TxnId) (fate : Fate) → SettlesOver last Over id fate → SettlesOver other Later id fate
settles-as last other Over Later same on id (fates.Committed epoch ts) is = λ its. on (is (its ∙ same))
settles-as last other Over Later same on id fate is = tt

-- what waits goes on to wait, where the last begin stays, and what was over is
pub wait_on : (k later : Known) → level later.txns ≡ level k.txns → last_of later ≡ last_of k → (k.is_open ≡ false → later.is_open ≡ false) → (request : Request) → MayWait k request → MayWait later request
wait_on k later same last over (requests.Get id epoch seq ts key) is = omega (arith, same, is)
wait_on k later same last over (requests.Scan id epoch seq ts span) is = omega (arith, same, is)
wait_on k later same last over (requests.Resolve id key fate) is = settles-as (last_of k) (last_of later) (k.is_open ≡ false) (later.is_open ≡ false) last over id fate is
wait_on k later same last over request is = tt

-- the open transaction is the first
pub open-first : (k : Known) (t : Txn) → IsFirstHigh k.txns → open_txn k ≡ Some t → (level k.txns ≡ t.begin) × (t.begin ≤ t.write_ts) × (t.begin ≤ t.read_ts)
open-first k t high opened = by k.txns (open_is k.is_open k.txns t opened) high
  where
    by : (txns : List Txn) → (k.is_open ≡ true) × (others : List Txn) × (txns ≡ t ∷ others) → IsFirstHigh txns → (level txns ≡ t.begin) × (t.begin ≤ t.write_ts) × (t.begin ≤ t.read_ts)
    by txns (is, others, whole) high =
        let h : IsFirstHigh (t ∷ others) = subst IsFirstHigh whole high in
        (ap level whole, h.0, h.1)

module _ (head : Head) (history after : List (Entry Event)) (k : Known) (jobs : List (List Request)) (low : LowAs history k)
    (begins : level k.txns ≤ k.high)
    (still : (number : ℕ) → IsEvaluated number history → IsEvaluated number after)
    (heard_some : (h : Heard) → Contains k.heard h → HasBegun k.txns)
    (clear : (h : Heard) → Contains k.heard_now h → is_conflict h.reply ≡ false)
    (unstaged : (id : TxnId) (epoch ts : ℕ) (writes : List (List ℕ × ℕ)) → WasStaging k.heard id epoch ts writes → ⊥)
    (unpushed : (number range : ℕ) (holder : TxnMeta) (by : _) (level : _) (now : ℕ) (goal : _) → MaySend head.splits the_session k number range (requests.Push holder by level now goal) → ⊥)
    (unsettled : (number range : ℕ) (id : TxnId) (key : List ℕ) (fate : Fate) → MaySend head.splits the_session k number range (requests.Resolve id key fate) → IsTidy k jobs (events.Send number range (requests.Resolve id key fate))
    → SettlesOver (last_of k) (k.is_open ≡ false) id fate) where
  abbrev n : ℕ
  n = level k.txns

  low-txn : (t : Txn) → Contains k.txns t → IsLowTxn n t
  low-txn t there = each-contains (IsLowTxn n) k.txns t low.txns there

  sent-nil : (m : Sent) → Contains (k.sent ++ []) m → Contains k.sent m
  sent-nil m there = subst (λ l. Contains l m) (append-nil k.sent) there

  heard-nil : (h : Heard) → Contains (k.heard ++ []) h → Contains k.heard h
  heard-nil h there = subst (λ l. Contains l h) (append-nil k.heard) there

  -- ---- what goes out is low

  again-low : (t : Txn) (asked : List ℕ) (w : _) → Contains k.txns t → Contains t.writes w → (ts : ℕ) → (ts ≡ t.write_ts) ⊎ Contains (w.asked) ts → ts ≤ n
  again-low t asked w there written ts (inl is) = let l = (low-txn t there).write in omega (arith, l, is)
  again-low t asked w there written ts (inr was) =
      each-contains (λ x. x ≤ n) w.asked ts (each-contains (λ (w : Write). AtMost n w.asked) t.writes w (low-txn t there).asked written) was

  cause-low : (t : Txn) (why : Why) → t.restart ≡ None → why ≡ own_cause t.restart → AtMost n (why_stamps why)
  cause-low t why none is = subst (λ w. AtMost n (why_stamps w)) (sym (is ∙ ap own_cause none)) tt

  new-low : (number range : ℕ) (request : Request) → MaySend head.splits the_session k number range request → IsLowSent n request
  new-low number range (requests.Get id epoch seq ts key) may = let t = may.row.t in let l = (low-txn t (open_there k t may.row.opened)).read in let at = may.row.read.at_read_ts in (omega (arith, l, at), tt)
  new-low number range (requests.Scan id epoch seq ts span) may = let t = may.row.t in let l = (low-txn t (open_there k t may.row.opened)).read in let at = may.row.read.at_read_ts in (omega (arith, l, at), tt)
  new-low number range (requests.Put meta seq ts key value) may = elim may.row [
    | inl f ↦ let l = (low-txn f.t (open_there k f.t f.opened)).write in let at = f.at_write_ts in (omega (arith, l, at), tt)
    | inr a ↦ (again-low a.t a.w.asked a.w a.mine a.written ts a.again_at, tt)
  ]
  new-low number range (requests.Refresh id from to span) may =
      let t = may.row.t in
      let l = (low-txn t (open_there k t may.row.opened)).write in
      let high = open-first k t low.first may.row.opened in
      let lvl = high.0 in
      let read = high.2 in
      let forward = may.row.forward in
      let a = may.row.from_read_ts in
      let b = may.row.to_write_ts in
      absurd (let nothing : ⊥ = omega (arith, l, lvl, read, forward, a, b) in nothing)
  new-low number range (requests.Beat meta ts now) may = let t = may.row.t in let l = (low-txn t (open_there k t may.row.opened)).write in let at = may.row.at_write_ts in (omega (arith, l, at), tt)
  new-low number range (requests.Stage meta ts now writes locks) may = elim may.row [
    | inl new ↦ let l = (low-txn new.t (open_there k new.t new.opened)).write in let at = new.at_write_ts in (omega (arith, l, at), tt)
    | inr again ↦ let (i, m, inside, at, is) = again.before in subst (IsLowSent n) is (low.sent m (i, inside, at))
  ]
  new-low number range (requests.Commit meta ts locks) may = elim may.row.decided [
    | inl decides ↦ let l = (low-txn may.row.t may.row.mine).write in let at = decides.at_write_ts in (omega (arith, l, at), tt)
    | inr heard ↦ let (i, h, inside, at, is) = heard in (committed-shown n may.row.t.id ts h is (low.heard h (i, inside, at)), tt)
  ]
  new-low number range (requests.Abort meta why locks) may = cause-low may.row.t why (low-txn may.row.t (open_there k may.row.t may.row.opened)).unmoved may.row.cause
  new-low number range (requests.Push holder by level now goal) may = absurd (unpushed number range holder by level now goal may)
  new-low number range (requests.Query id epoch seq ts key by) may = elim may.row.why [
    | inl listed ↦ absurd (unstaged id epoch ts listed.writes listed.staging)
    | inr own ↦ absurd (blocked_none id epoch seq k.heard_now clear own.blocked)
  ]
  new-low number range (requests.Recover id epoch ts anchor finding) may = absurd (unstaged id epoch ts may.row.writes may.row.staging)
  new-low number range (requests.Resolve id key fate) may =
      let (i, h, inside, at, shows) = may.row in
      fate-low n shows.view fate shows.fits (viewed-low n h.reply shows.view shows.told (low.heard h (i, inside, at)))
  new-low number range (requests.Remove id anchor) may = tt
  new-low number range requests.Records may = absurd may.row

  new-some : (number range : ℕ) (request : Request) → MaySend head.splits the_session k number range request → HasBegun k.txns
  new-some number range (requests.Get id epoch seq ts key) may = has_begun k.txns may.row.t (open_there k may.row.t may.row.opened)
  new-some number range (requests.Scan id epoch seq ts span) may = has_begun k.txns may.row.t (open_there k may.row.t may.row.opened)
  new-some number range (requests.Put meta seq ts key value) may = elim may.row [ inl f ↦ has_begun k.txns f.t (open_there k f.t f.opened) | inr a ↦ has_begun k.txns a.t a.mine ]
  new-some number range (requests.Refresh id from to span) may = has_begun k.txns may.row.t (open_there k may.row.t may.row.opened)
  new-some number range (requests.Beat meta ts now) may = has_begun k.txns may.row.t (open_there k may.row.t may.row.opened)
  new-some number range (requests.Stage meta ts now writes locks) may = elim may.row [ inl new ↦ has_begun k.txns new.t (open_there k new.t new.opened) | inr again ↦ has_begun k.txns again.t again.mine ]
  new-some number range (requests.Commit meta ts locks) may = has_begun k.txns may.row.t may.row.mine
  new-some number range (requests.Abort meta why locks) may = has_begun k.txns may.row.t (open_there k may.row.t may.row.opened)
  new-some number range (requests.Push holder by level now goal) may = absurd (unpushed number range holder by level now goal may)
  new-some number range (requests.Query id epoch seq ts key by) may = let (t, opened, is) = may.row.own in has_begun k.txns t (open_there k t opened)
  new-some number range (requests.Recover id epoch ts anchor finding) may = absurd (unstaged id epoch ts may.row.writes may.row.staging)
  new-some number range (requests.Resolve id key fate) may = let (i, h, inside, at, shows) = may.row in heard_some h (i, inside, at)
  new-some number range (requests.Remove id anchor) may = let (i, h, inside, at, shows) = may.row.final in heard_some h (i, inside, at)
  new-some number range requests.Records may = absurd may.row

  new-high : (number range : ℕ) (request : Request) (g : Option Heard) (top high : ℕ) → MaySend head.splits the_session k number range request → IsTidy k jobs (events.Send number range request)
      → MayWait (known_after (events.Send number range request) g top high k) request
  new-high number range (requests.Get id epoch seq ts key) g top high may tidy =
      let f = open-first k may.row.t low.first may.row.opened in
      let lvl = f.0 in
      let read = f.2 in
      let at = may.row.read.at_read_ts in
      let same = level_map (txn_sent (requests.Get id epoch seq ts key)) (λ t. refl) k.txns in
      omega (arith, lvl, read, at, same)
  new-high number range (requests.Scan id epoch seq ts span) g top high may tidy =
      let f = open-first k may.row.t low.first may.row.opened in
      let lvl = f.0 in
      let read = f.2 in
      let at = may.row.read.at_read_ts in
      let same = level_map (txn_sent (requests.Scan id epoch seq ts span)) (λ t. refl) k.txns in
      omega (arith, lvl, read, at, same)
  new-high number range (requests.Resolve id key fate) g top high may tidy =
      let later = known_after (events.Send number range (requests.Resolve id key fate)) g top high k in
      settles-as (last_of k) (last_of later) (k.is_open ≡ false) (later.is_open ≡ false) refl (λ over. over) id fate (unsettled number range id key fate may tidy)
  new-high number range request g top high may tidy = tt

  -- ---- over each entry

  pub sends-low : (number range : ℕ) (request : Request) (g : Option Heard) (top high : ℕ) → MaySend head.splits the_session k number range request → IsTidy k jobs (events.Send number range request) → g ≡ None
      → LowAs after (known_after (events.Send number range request) g top high k)
  sends-low number range request g top high may tidy none =
      let later = known_after (events.Send number range request) g top high k in
      let same : level later.txns ≡ n = level_map (txn_sent request) (λ t. refl) k.txns in
      let new : IsLowSent n request = new-low number range request may in
      let m0 : Sent = record { number = number; range = range; request = request } in
      record {
        txns = subst (λ l. Each (IsLowTxn l) later.txns) (sym same) (each-map (IsLowTxn n) (txn_sent request) k.txns (each-weaker (IsLowTxn n) (λ t. IsLowTxn n (txn_sent request t)) (λ t is. txn_sent-low n request t new is) k.txns low.txns));
        first = first_sent-high request k.txns low.first;
        heard = λ h there. subst (λ l. AtMost l (reply_stamps h.reply)) (sym same) (low.heard h (heard-nil h (subst (λ o. Contains (k.heard ++ option_to_list o) h) none there)));
        sent = λ m there. subst (λ l. IsLowSent l m.request) (sym same) (elim (Contains-push_cases k.sent m0 m there) [ inl old ↦ low.sent m old | inr is ↦ subst (λ (x : Sent). IsLowSent n x.request) is new ]);
        some = λ m there. has_begun-map (txn_sent request) k.txns (elim (Contains-push_cases k.sent m0 m there) [ inl old ↦ low.some m old | inr is ↦ new-some number range request may ]);
        waiting = λ m there none_yet. elim (Contains-push_cases k.sent m0 m there) [
          | inl old ↦ wait_on k later same refl (λ over. over) m.request (low.waiting m old (λ done. none_yet (still m.number done)))
          | inr is ↦ subst (λ (x : Sent). MayWait later x.request) is (new-high number range request g top high may tidy)
        ];
      }

  pub hears-low : (number step : ℕ) (g : Option Heard) (top high : ℕ) → IfSome g (λ h. IsLowSent n h.request × AtMost n (reply_stamps h.reply)) → LowAs after (known_after (events.Hear number step) g top high k)
  hears-low number step g top high is =
      let later = known_after (events.Hear number step) g top high k in
      let same : level later.txns ≡ n = level_map (txn_heard k.sent g) (λ t. refl) k.txns in
      record {
        txns = subst (λ l. Each (IsLowTxn l) later.txns) (sym same) (each-map (IsLowTxn n) (txn_heard k.sent g) k.txns (each-weaker (IsLowTxn n) (λ t. IsLowTxn n (txn_heard k.sent g t)) (λ t low_t. txn_heard-low n k.sent g t is low_t) k.txns low.txns));
        first = first_heard-high k.sent g k.txns low.first;
        heard = λ h there. subst (λ l. AtMost l (reply_stamps h.reply)) (sym same) (elim (Contains-append_cases k.heard (option_to_list g) h there) [ inl old ↦ low.heard h old | inr new ↦ by g is h new ]);
        sent = λ m there. subst (λ l. IsLowSent l m.request) (sym same) (low.sent m (sent-nil m there));
        some = λ m there. has_begun-map (txn_heard k.sent g) k.txns (low.some m (sent-nil m there));
        waiting = λ m there none. wait_on k later same refl (λ over. over) m.request (low.waiting m (sent-nil m there) (λ done. none (still m.number done)));
      }
    where
      by : (g : Option Heard) → IfSome g (λ h. IsLowSent n h.request × AtMost n (reply_stamps h.reply)) → (h : Heard) → Contains (option_to_list g) h → AtMost n (reply_stamps h.reply)
      by None is h there = absurd (contains_nil h there)
      by (Some x) is h there = elim (contains_cons x [] h there) [ inl same ↦ subst (λ (y : Heard). AtMost n (reply_stamps y.reply)) same is.1 | inr none ↦ absurd (contains_nil h none) ]

  pub rests-low : (later : Known) → later.txns ≡ k.txns → later.heard ≡ k.heard → later.sent ≡ k.sent → last_of later ≡ last_of k → later.is_open ≡ k.is_open → LowAs after later
  rests-low later txns heard sent last opens = record {
    txns = subst (λ l. Each (IsLowTxn (level l)) l) (sym txns) low.txns;
    first = subst IsFirstHigh (sym txns) low.first;
    heard = λ h there. subst (λ l. AtMost (level l) (reply_stamps h.reply)) (sym txns) (low.heard h (subst (λ l. Contains l h) heard there));
    sent = λ m there. subst (λ l. IsLowSent (level l) m.request) (sym txns) (low.sent m (subst (λ l. Contains l m) sent there));
    some = λ m there. subst HasBegun (sym txns) (low.some m (subst (λ l. Contains l m) sent there));
    waiting = λ m there none. wait_on k later (ap level txns) last (λ over. opens ∙ over) m.request (low.waiting m (subst (λ l. Contains l m) sent there) (λ done. none (still m.number done)));
  }

  -- an answer that begins nothing, and is no restart
  pub tells-low : (answer : Answer) (g : Option Heard) (top high : ℕ) → g ≡ None → ((key : List ℕ) (ts : ℕ) → answer ≡ answers.Restart key ts → ⊥)
      → begun_after (events.Tell answer) k.begun ≡ k.begun → (k.is_open ≡ false → is_open_told answer k.is_open ≡ false)
      → txns_told answer k ≡ cond k.is_open (told_first answer (replies_to k.sent_now k.heard_now) k.txns) k.txns
      → LowAs after (known_after (events.Tell answer) g top high k)
  tells-low answer g top high none never count over is =
      let later = known_after (events.Tell answer) g top high k in
      let replied = replies_to k.sent_now k.heard_now in
      let next = cond k.is_open (told_first answer replied k.txns) k.txns in
      let same : level next ≡ n = level_told answer replied k.is_open k.txns in
      record {
        txns = subst (λ l. Each (IsLowTxn (level l)) l) (sym is) (subst (λ l. Each (IsLowTxn l) next) (sym same) (first_told-low n answer replied k.is_open k.txns never low.txns));
        first = subst IsFirstHigh (sym is) (first_told-high answer replied k.is_open k.txns low.first);
        heard = λ h there. subst (λ l. AtMost (level l) (reply_stamps h.reply)) (sym is) (subst (λ l. AtMost l (reply_stamps h.reply)) (sym same) (low.heard h (heard-nil h (subst (λ o. Contains (k.heard ++ option_to_list o) h) none there))));
        sent = λ m there. subst (λ l. IsLowSent (level l) m.request) (sym is) (subst (λ l. IsLowSent l m.request) (sym same) (low.sent m (sent-nil m there)));
        some = λ m there. subst HasBegun (sym is) (has_begun-told answer replied k.is_open k.txns (low.some m (sent-nil m there)));
        waiting = λ m there none_yet.
            wait_on k later (ap level is ∙ same) (ap (λ (c : ℕ). let i : TxnId = record { session = 1; number = c } in i) count) over m.request (low.waiting m (sent-nil m there) (λ done. none_yet (still m.number done)));
      }

  -- a begin
  pub begins-low : (id : TxnId) (ts : ℕ) (g : Option Heard) (top high : ℕ) → g ≡ None → MayTell head.splits the_session k (answers.Begun id ts) → ((m : Sent) → Contains k.sent m → IsEvaluated m.number after)
      → LowAs after (known_after (events.Tell (answers.Begun id ts)) g top high k) × (k.high < ts) × (level (txns_told (answers.Begun id ts) k) ≡ ts)
  begins-low id ts g top high none may done =
      let row = told_by_row head the_session k (answers.Begun id ts) may (λ h. cc h) (λ h. cc h) in
      let rises = clock_rises may.s.reading k.high in
      let at : ts ≡ clock_now may.s.reading k.high = row.at in
      let above : k.high < ts = omega (arith, rises, at) in
      let more : n ≤ ts = omega (arith, above, begins) in
      by k.statement above more
    where
      more-txn : (m : ℕ) (t : Txn) → n ≤ m → IsLowTxn n t → IsLowTxn m t
      more-txn m t le is = record {
        write = let w = is.write in omega (arith, w, le);
        read = let r = is.read in omega (arith, r, le);
        asked = each-weaker (λ (w : Write). AtMost n w.asked) (λ w. AtMost m w.asked) (λ w a. at_most-more n m w.asked le a) t.writes is.asked;
        unmoved = is.unmoved;
      }

      by : (s : Option Statement) → k.high < ts → n ≤ ts → LowAs after (record (known_after (events.Tell (answers.Begun id ts)) g top high k) { txns = txn_begun s id ts ∷ k.txns }) × (k.high < ts) × (level (txn_begun s id ts ∷ k.txns) ≡ ts)
      by None above more = (
        record {
          txns = (record { write = omega arith; read = omega arith; asked = tt; unmoved = refl }, each-weaker (IsLowTxn n) (IsLowTxn ts) (λ t is. more-txn ts t more is) k.txns low.txns);
          first = (omega arith, omega arith);
          heard = λ h there. at_most-more n ts (reply_stamps h.reply) more (low.heard h (heard-nil h (subst (λ o. Contains (k.heard ++ option_to_list o) h) none there)));
          sent = λ m there. low_sent-more n ts m.request more (low.sent m (sent-nil m there));
          some = λ m there. tt;
          waiting = λ m there waits. absurd (waits (done m (sent-nil m there)));
        },
        above,
        refl,
      )
      by (Some s) above more = (
        record {
          txns = (record { write = omega arith; read = omega arith; asked = tt; unmoved = refl }, each-weaker (IsLowTxn n) (IsLowTxn ts) (λ t is. more-txn ts t more is) k.txns low.txns);
          first = (omega arith, omega arith);
          heard = λ h there. at_most-more n ts (reply_stamps h.reply) more (low.heard h (heard-nil h (subst (λ o. Contains (k.heard ++ option_to_list o) h) none there)));
          sent = λ m there. low_sent-more n ts m.request more (low.sent m (sent-nil m there));
          some = λ m there. tt;
          waiting = λ m there waits. absurd (waits (done m (sent-nil m there)));
        },
        above,
        refl,
      )

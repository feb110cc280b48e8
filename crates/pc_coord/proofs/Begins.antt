-- A call begins by its own messages: what stands aside of it then.
use Rattle.std.proofs.Common.{◌≡◌, ℕ, zero, suc, ◌+◌, ◌≤◌, ◌==◌, Bool, true, false, cond, not, ◌&&◌, ◌||◌, List, [], ◌∷◌, count_by, length, map, Option, None, Some, refl, sym, ap, ◌∙◌, subst, arith, All, Any, Contains}
use Rattle.std.specs.List.{list_any}
use Rattle.std.proofs.lemmas.Bool.{eqb-true, leb-true}
use Rattle.std.proofs.lemmas.List.Elements.{All-cons, All-contains, All-head, All-nil, All-tail, All-weaker}
use Rattle.std.proofs.lemmas.List.Folds.{list_any-append}
use Rattle.std.proofs.lemmas.Option.{same_Some}
use Rattle.pc_base.specs.declared.limits.TheConstants.{MOST_IN_FLIGHT}
use Rattle.pc_base.specs.declared.span.Span.{Span}
use Rattle.pc_base.specs.Span.{same_key}
use Rattle.pc_call.proofs.Facts.{before_is, open_is}
use Rattle.pc_call.specs.declared.call.OpenCall.{OpenCall}
use Rattle.pc_call.specs.declared.later.LaterPut.{LaterPut}
use Rattle.pc_call.specs.declared.purpose.Purpose.{Purpose}
use Rattle.pc_call.specs.declared.purpose.Purpose.TheVariants as purposes
use Rattle.pc_call.specs.Ended.{laying, own_messages}
use Rattle.pc_call.specs.Fresh.{IsFresh}
use Rattle.pc_call.specs.Outbox.{IsApartFrom, OutboxStands, WaitsInOutbox, has_put}
use Rattle.pc_call.specs.Pieces.{scan_messages, spans_in}
use Rattle.pc_call.specs.Serving.{write_call}
use Rattle.pc_call.specs.Stages.{HasOutbox, KeepsOutbox}
use Rattle.pc_call.specs.Suiting.{SuitsFlightIn}
use Rattle.pc_call.specs.Waiting.{depends_on, waits_for_all, waits_for_some, waits_on}
use Rattle.pc_coord.proofs.Aside.{aside_on, free_aside, unsent_all, unsent_aside}
use Rattle.pc_coord.proofs.Lists.{every}
use Rattle.pc_coord.proofs.Outbox.{has_own, left_on, no_put}
use Rattle.pc_coord.proofs.Tells.{before_heard_is}
use Rattle.pc_coord.specs.Aside.{HasAside, HasProofs, IsFreeToLay, KeepsAside, LeavesNoneWaiting}
use Rattle.pc_coord.specs.Coordination.{is_writing}
use Rattle.pc_flight.specs.declared.write.WriteInFlight.{WriteInFlight}
use Rattle.pc_flight.specs.InFlight.{in_flight_as}
use Rattle.pc_follows.specs.Heartbeats.{is_heartbeat}
use Rattle.pc_follows.specs.PipelinedPuts.{IsFull, heard_before, proves, was_in_flight}
use Rattle.pc_lists.proofs.Counts.{count-cons, one_if}
use Rattle.pc_lists.proofs.Lists.{all_from_contains}
use Rattle.pc_proto.specs.declared.call.Call.{Call}
use Rattle.pc_proto.specs.declared.call.Call.TheVariants as calls
use Rattle.pc_proto.specs.declared.request.Request.{Request}
use Rattle.pc_proto.specs.declared.request.Request.TheVariants as requests
use Rattle.pc_proto.specs.declared.why.Why.{Why}
use Rattle.pc_proto.specs.Requests.{is_put, is_put_of}
use Rattle.pc_txn.proofs.Found.{proves_none}
use Rattle.pc_txn.proofs.Laying.{seq_low}
use Rattle.pc_txn.specs.declared.txn.OpenTxn.{OpenTxn}
use Rattle.pc_txn.specs.Opened.{next_put, own_get, own_scan}
use Rattle.pc_txn.specs.Standing.{TxnStands}
use Rattle.pc_txn.specs.Writing.{IsUnwrittenWhereUnproved, WasWriteSent}
use Rattle.pc_wave.specs.declared.message.Message.{Message}
use Rattle.pc_wave.specs.Messages.{is_to_send, message_to_send}
use Rattle.pc_world.specs.Known.{Known, call_in}
use Rattle.pc_world.specs.Known.Statements.{Statement}
use Rattle.pc_world.specs.Known.Traffic.{Heard, Sent}
use Rattle.pc_world.specs.Known.Transactions.{Txn}
use Rattle.pc_world.specs.Known.Writes.{Write, is_proved, unproved}
use Rattle.pc_world.specs.StageFate.{SentCommit, SentStage}
use Rattle.pc_world.specs.Tell.Data.{sent_before}

-- ---- the outbox beside messages that put nothing that waits

pub keeps_with : {l : Bool} (k : Known) (x : OpenTxn) (later : List LaterPut) (o : HasOutbox l k x later) (ms : List Message) → All (IsApartFrom ms) later → KeepsOutbox l k x later ms
keeps_with k x later o ms apart = record {
  has = record {
    t = o.t;
    opened = o.opened;
    stands = o.stands;
    left = λ quiet. left_on o.t o.t refl refl (heard_before k) (heard_before k) k.heard_now k.heard_now later [] ms (λ m is. is) (λ m is. is) (λ m q there on. absurd (omega (arith, there.1))) (sent_before k) (o.left quiet);
  };
  apart = apart;
}

plain_apart : (ms : List Message) → All (λ m. is_put m.request ≡ false) ms → (put : LaterPut) → IsApartFrom ms put
plain_apart ms none put = All-weaker (λ m. is_put m.request ≡ false) (λ m. (seq : ℕ) → has_put seq put.request ≡ true → has_put seq m.request ≡ false) (λ m is seq waits. no_put seq m.request is) ms none

-- messages that put nothing
pub keeps_plain : {l : Bool} (k : Known) (x : OpenTxn) (later : List LaterPut) → HasOutbox l k x later → (ms : List Message) → All (λ m. is_put m.request ≡ false) ms → KeepsOutbox l k x later ms
keeps_plain k x later o ms none = keeps_with k x later o ms (every (IsApartFrom ms) (plain_apart ms none) later)

pub keeps_one : {l : Bool} (k : Known) (x : OpenTxn) (later : List LaterPut) → HasOutbox l k x later → (r : Request) → is_put r ≡ false → KeepsOutbox l k x later (message_to_send r ∷ [])
keeps_one k x later o r none = keeps_plain k x later o (message_to_send r ∷ []) (All-cons (λ (m : Message). is_put m.request ≡ false) (message_to_send r) [] none (All-nil (λ (m : Message). is_put m.request ≡ false)))

pub scans_plain : (x : OpenTxn) (spans : List Span) → All (λ (m : Message). is_put m.request ≡ false) (scan_messages x spans)
scans_plain x [] = All-nil (λ (m : Message). is_put m.request ≡ false)
scans_plain x (span ∷ spans) = All-cons (λ (m : Message). is_put m.request ≡ false) (message_to_send (own_scan x span)) (scan_messages x spans) refl (scans_plain x spans)

module _ {l : Bool} (k : Known) (stages : List SentStage) (commit : Option SentCommit) (t : Txn) (x : OpenTxn) (st : TxnStands k stages commit t x) (later : List LaterPut) (o : HasOutbox l k x later) where
  seq_under : (f : WriteInFlight) → Contains x.in_flight f → f.seq ≤ x.seq
  seq_under f there = let low = seq_low k stages commit t x st f there in omega (arith, low, ap (λ x. x.seq) st.same)

  next_apart : (key : List ℕ) (value : Option (List ℕ)) (put : LaterPut) → WaitsInOutbox k o.t x put → (seq : ℕ) → has_put seq put.request ≡ true → has_put seq (next_put x key value) ≡ false
  next_apart key value put waits seq is = by ((x.seq + 1) == seq) refl
    where
      same : seq ≡ waits.w.seq
      same = one_seq seq waits.w.seq put.request is (has_own x waits.anchor waits.ts waits.w put.request waits.said)
        where
          one_seq : (one other : ℕ) (r : Request) → has_put one r ≡ true → has_put other r ≡ true → one ≡ other
          one_seq one other (requests.Put meta own ts at what) a b = sym (eqb-true own one a) ∙ eqb-true own other b
          one_seq one other r a b = absurd cc

      by : (b : Bool) → ((x.seq + 1) == seq) ≡ b → b ≡ false
      by true e = let n = eqb-true (x.seq + 1) seq e in let low = seq_under waits.w waits.there in absurd (omega (arith, n, low, same))
      by false e = refl

  -- and the next write of the transaction
  pub keeps_write : (key : List ℕ) (value : Option (List ℕ)) → KeepsOutbox l k x later (message_to_send (next_put x key value) ∷ [])
  keeps_write key value =
      let m : Message = message_to_send (next_put x key value) in
      keeps_with k x later o (m ∷ [])
      (All-weaker (WaitsInOutbox k o.t x) (IsApartFrom (m ∷ []))
      (λ put waits. All-cons (λ (m : Message). (seq : ℕ) → has_put seq put.request ≡ true → has_put seq m.request ≡ false) m [] (next_apart key value put waits) (All-nil (λ (m : Message). (seq : ℕ) → has_put seq put.request ≡ true → has_put seq m.request ≡ false)))
      later (each later o.stands))
    where
      each : (later : List LaterPut) → OutboxStands k o.t x later → All (WaitsInOutbox k o.t x) later
      each [] st = All-nil (WaitsInOutbox k o.t x)
      each (put ∷ puts) st = All-cons (WaitsInOutbox k o.t x) put puts st.0 (each puts st.2)

  -- the messages by which a call goes on that waited for proofs
  pub keeps_own : (splits : List (List ℕ)) (call : Call) (made : OpenCall) → own_messages splits call x ≡ Some made → KeepsOutbox l k x later made.wave
  keeps_own splits (calls.Get key) made is = subst (λ (c : OpenCall). KeepsOutbox l k x later c.wave) (same_Some _ made is) (keeps_one k x later o (own_get x key) refl)
  keeps_own splits (calls.Scan span) made is = subst (λ (c : OpenCall). KeepsOutbox l k x later c.wave) (same_Some _ made is) (keeps_plain k x later o (scan_messages x (spans_in splits span)) (scans_plain x (spans_in splits span)))
  keeps_own splits (calls.Put key value) made is = subst (λ (c : OpenCall). KeepsOutbox l k x later c.wave) (same_Some _ made is) (keeps_write key (Some value))
  keeps_own splits (calls.Delete key) made is = subst (λ (c : OpenCall). KeepsOutbox l k x later c.wave) (same_Some _ made is) (keeps_write key None)
  keeps_own splits call made is = absurd cc

-- ---- where a write is laid

any_false : {X : Type 0} (p : X → Bool) (xs : List X) → list_any p xs ≡ false → All (λ x. p x ≡ false) xs
any_false p [] e = All-nil (λ x. p x ≡ false)
any_false p (x ∷ xs) e = by (any_false p xs) (p x) refl e
  where
    by : (list_any p xs ≡ false → All (λ x. p x ≡ false) xs) → (b : Bool) → p x ≡ b → (b || list_any p xs) ≡ false → All (λ x. p x ≡ false) (x ∷ xs)
    by rest true is e = absurd cc
    by rest false is e = All-cons (λ x. p x ≡ false) x xs is (rest e)

or_off : (a b : Bool) → (a || b) ≡ false → b ≡ false
or_off true b e = absurd cc
or_off false b e = e

write_keys : (key at : List ℕ) (value what : Option (List ℕ)) → write_call key value ≡ write_call at what → key ≡ at
write_keys key at None None e = cc
write_keys key at None (Some b) e = absurd cc
write_keys key at (Some a) None e = absurd cc
write_keys key at (Some a) (Some b) e = cc

depends_as : (key : List ℕ) (value : Option (List ℕ)) (place : List ℕ) → depends_on (write_call key value) place ≡ same_key place key
depends_as key None place = refl
depends_as key (Some value) place = refl

-- no write of its key is in flight
pub free_lay : (b : Bool) (k : Known) (x : OpenTxn) (s : Statement) (key : List ℕ) (value : Option (List ℕ)) → k.statement ≡ Some s → s.call ≡ write_call key value → All (λ w. depends_on (write_call key value) w.key ≡ false) x.in_flight → IsFreeToLay b k x
free_lay false k x s key value opened asked none = tt
free_lay true k x s key value opened asked none = λ at what is.
    let same : write_call key value ≡ write_call at what = sym asked ∙ same_Some s.call (write_call at what) (sym (ap call_in opened) ∙ is) in
    All-weaker (λ w. depends_on (write_call key value) w.key ≡ false) (λ w. same_key w.key at ≡ false) (λ w isnt. ap (same_key w.key) (sym (write_keys key at value what same)) ∙ sym (depends_as key value w.key) ∙ isnt) x.in_flight none

pub none_depends : (call : Call) (flight : List WriteInFlight) → waits_for_some call flight ≡ false → All (λ w. depends_on call w.key ≡ false) flight
none_depends call flight none =
    All-weaker (λ w. waits_on call (waits_for_all call flight) w.key ≡ false) (λ w. depends_on call w.key ≡ false) (λ w isnt. or_off (waits_for_all call flight) (depends_on call w.key) isnt) flight
    (any_false (λ w. waits_on call (waits_for_all call flight) w.key) flight none)

-- ---- as many writes are in flight as there may be

count_as : (p q : Write → Bool) (ws : List Write) → All (λ w. p w ≡ true → q w ≡ true) ws → count_by p ws ≤ count_by q ws
count_as p q [] a = omega arith
count_as p q (w ∷ ws) a = by (p w) refl (q w) refl (count_as p q ws (All-tail (λ w. p w ≡ true → q w ≡ true) w ws a))
  where
    on : p w ≡ true → q w ≡ true
    on = All-head (λ w. p w ≡ true → q w ≡ true) w ws a

    by : (b : Bool) → p w ≡ b → (d : Bool) → q w ≡ d → count_by p ws ≤ count_by q ws → count_by p (w ∷ ws) ≤ count_by q (w ∷ ws)
    by true is true so rest = let one = count-cons p w ws in let two = count-cons q w ws in omega (arith, one, two, ap one_if is, ap one_if so, rest)
    by true is false so rest = let e : false ≡ true = sym so ∙ on is in absurd cc
    by false is d so rest = let one = count-cons p w ws in let two = count-cons q w ws in omega (arith, one, two, ap one_if is, rest)

count_unproved : (ws : List Write) → length (map in_flight_as (unproved ws)) ≡ count_by (λ w. not (is_proved w)) ws
count_unproved [] = refl
count_unproved (w ∷ ws) = by (not (is_proved w)) refl (count_unproved ws)
  where
    by : (b : Bool) → not (is_proved w) ≡ b → length (map in_flight_as (unproved ws)) ≡ count_by (λ w. not (is_proved w)) ws → length (map in_flight_as (cond b (w ∷ unproved ws) (unproved ws))) ≡ count_by (λ w. not (is_proved w)) (w ∷ ws)
    by true is rest = let one = count-cons (λ w. not (is_proved w)) w ws in omega (arith, one, ap one_if is, rest)
    by false is rest = let one = count-cons (λ w. not (is_proved w)) w ws in omega (arith, one, ap one_if is, rest)

beat_no_put : (id : _) (epoch seq : ℕ) (r : Request) → is_heartbeat r ≡ true → is_put_of id epoch seq r ≡ false
beat_no_put id epoch seq (requests.Beat meta ts now) is = refl
beat_no_put id epoch seq r is = absurd cc

any_is : {X : Type 0} (p : X → Bool) (xs : List X) → Any (λ x. p x ≡ true) xs → list_any p xs ≡ true
any_is p [] (n, x, low, same, is) = absurd (omega (arith, low))
any_is p (y ∷ xs) (zero, x, low, same, is) = ap (λ b. b || list_any p xs) (ap p same ∙ is)
any_is p (y ∷ xs) (suc n, x, low, same, is) = or_right (p y) (list_any p xs) (any_is p xs (n, x, omega (arith, low), same, is))
  where
    or_right : (a b : Bool) → b ≡ true → (a || b) ≡ true
    or_right true b e = refl
    or_right false b e = e

pub none_any : {X : Type 0} (p : X → Bool) (xs : List X) → All (λ x. p x ≡ false) xs → list_any p xs ≡ false
none_any p [] a = refl
none_any p (x ∷ xs) a = ap (λ b. b || list_any p xs) (All-head (λ x. p x ≡ false) x xs a) ∙ none_any p xs (All-tail (λ x. p x ≡ false) x xs a)

or_no : (a b : Bool) → b ≡ false → (a || b) ≡ true → a ≡ true
or_no true b isnt e = refl
or_no false b isnt e = let f : false ≡ true = sym isnt ∙ e in cc

or_first : (a b : Bool) → (a || b) ≡ false → a ≡ false
or_first true b e = absurd cc
or_first false b e = refl

module _ (loses : Bool) (k : Known) (x : OpenTxn) (s : Statement) (why : Why) (f : IsFresh loses k x s why) where
  was_sent : (w : Write) → Contains f.t.writes w → list_any (λ m. is_put_of f.t.id f.t.epoch w.seq m.request) (sent_before k) ≡ true
  was_sent w there =
      let P : Sent → Bool = λ m. is_put_of f.t.id f.t.epoch w.seq m.request in
      let all : list_any P k.sent ≡ true = any_is P k.sent (All-contains (WasWriteSent f.t k.sent) f.t.writes w f.stands.writes.each_sent there) in
      let none : list_any P k.sent_now ≡ false = none_any P k.sent_now (All-weaker (λ m. is_heartbeat m.request ≡ true) (λ m. P m ≡ false) (λ m is. beat_no_put f.t.id f.t.epoch w.seq m.request is) k.sent_now f.sent) in
      let front : list_any P f.split.sent_first ≡ true = or_no (list_any P f.split.sent_first) (list_any P k.sent_now) none (sym (list_any-append P f.split.sent_first k.sent_now) ∙ ap (list_any P) (sym f.split.sent) ∙ all) in
      ap (list_any P) (before_is k f.split) ∙ front

  unproved_before : (w : Write) → Contains f.t.writes w → not (is_proved w) ≡ true → list_any (proves f.t w) (heard_before k) ≡ false
  unproved_before w there un =
      let P : Heard → Bool = proves f.t w in
      let all : list_any P k.heard ≡ false =
      proves_none f.t w there un k.heard (All-contains (IsUnwrittenWhereUnproved f.t k.heard) f.t.writes w f.stands.writes.unwritten there un) f.stands.found in
      ap (list_any P) (before_heard_is k f.split)
      ∙ or_first (list_any P f.split.heard_first) (list_any P k.heard_now) (sym (list_any-append P f.split.heard_first k.heard_now) ∙ ap (list_any P) (sym f.split.heard) ∙ all)

  flew : (w : Write) → Contains f.t.writes w → not (is_proved w) ≡ true → was_in_flight k f.t w ≡ true
  flew w there un =
      let a = was_sent w there in
      let b = unproved_before w there un in
      ap (λ c. c && not (list_any (proves f.t w) (heard_before k))) a ∙ ap not b

  all_flew : count_by (λ w. not (is_proved w)) f.t.writes ≤ count_by (was_in_flight k f.t) f.t.writes
  all_flew = count_as (λ w. not (is_proved w)) (was_in_flight k f.t) f.t.writes (all_from_contains (λ w. not (is_proved w) ≡ true → was_in_flight k f.t w ≡ true) f.t.writes flew)

  -- where a call waits for all writes in flight, they were in flight when it was asked
  pub is_full : (call : Call) → waits_for_all call x.in_flight ≡ true → IsFull k
  is_full call all =
      let many : MOST_IN_FLIGHT ≤ length x.in_flight = by call all in
      let as_known : length x.in_flight ≡ count_by (λ w. not (is_proved w)) f.t.writes = ap length f.stands.flight.in_flight ∙ count_unproved f.t.writes in
      (f.t, open_is k f.t f.open_in, omega (arith, many, as_known, all_flew))
    where
      by : (call : Call) → waits_for_all call x.in_flight ≡ true → MOST_IN_FLIGHT ≤ length x.in_flight
      by (calls.Put key value) is = leb-true MOST_IN_FLIGHT (length x.in_flight) is
      by (calls.Delete key) is = leb-true MOST_IN_FLIGHT (length x.in_flight) is
      by call is = absurd cc

-- a rollback suits any writes in flight
pub rollback_suits : (b : Bool) (call : Call) (flight : List WriteInFlight) → call ≡ calls.Rollback → SuitsFlightIn b call flight
rollback_suits true call flight is = tt
rollback_suits false call flight is = subst (λ c. SuitsFlightIn false c flight) (sym is) (by flight)
  where
    by : (flight : List WriteInFlight) → SuitsFlightIn false calls.Rollback flight
    by [] = tt
    by (w ∷ []) = tt
    by (w ∷ v ∷ ws) = tt

-- ---- what waits stands aside of a call that begins

module _ {l : Bool} (b : Bool) (k : Known) (x : OpenTxn) (later : List LaterPut) (h : HasAside l k x later) where
  -- which puts nothing
  pub plain_aside : (p : Purpose) (ms : List Message) → All (λ m. is_put m.request ≡ false) ms → LeavesNoneWaiting p later → HasProofs p ms → is_writing p ≡ false → KeepsAside l b k x p later ms
  plain_aside p ms none joined some plain = aside_on b k x p later later ms h (keeps_plain k x later h.outbox ms none) joined some (free_aside b p k x plain) (unsent_aside b p ms plain)

  pub one_aside : (p : Purpose) (ms : List Message) (r : Request) → ms ≡ message_to_send r ∷ [] → is_put r ≡ false → LeavesNoneWaiting p later → HasProofs p ms → is_writing p ≡ false → KeepsAside l b k x p later ms
  one_aside p ms r one none joined some plain =
      plain_aside p ms (subst (λ ms. All (λ (m : Message). is_put m.request ≡ false) ms) (sym one) (All-cons (λ (m : Message). is_put m.request ≡ false) (message_to_send r) [] none (All-nil (λ (m : Message). is_put m.request ≡ false)))) joined some plain

  pub get_aside : (key : List ℕ) (made : OpenCall) → made ≡ record { purpose = purposes.Read; wave = message_to_send (own_get x key) ∷ [] } → KeepsAside l b k x made.purpose later made.wave
  get_aside key made is =
      subst (λ (c : OpenCall). KeepsAside l b k x c.purpose later c.wave) (sym is) (one_aside purposes.Read (message_to_send (own_get x key) ∷ []) (own_get x key) refl refl tt tt refl)

  pub scan_aside : (spans : List Span) (made : OpenCall) → made ≡ record { purpose = purposes.Read; wave = scan_messages x spans } → KeepsAside l b k x made.purpose later made.wave
  scan_aside spans made is = subst (λ (c : OpenCall). KeepsAside l b k x c.purpose later c.wave) (sym is) (plain_aside purposes.Read (scan_messages x spans) (scans_plain x spans) tt tt refl)

  -- or writes
  pub write_aside : (stages : List SentStage) (commit : Option SentCommit) (t : Txn) → TxnStands k stages commit t x → (s : Statement) (key : List ℕ) (value : Option (List ℕ)) → k.statement ≡ Some s → s.call ≡ write_call key value → waits_for_some (write_call key value) x.in_flight ≡ false
      → (made : OpenCall) → made ≡ laying x key value → KeepsAside l b k x made.purpose later made.wave
  write_aside stages commit t st s key value opened asked none made is =
      let ms : List Message = message_to_send (next_put x key value) ∷ [] in
      let S : Message → Type 0 = λ m. is_to_send m ≡ true in
      subst (λ (c : OpenCall). KeepsAside l b k x c.purpose later c.wave) (sym is)
      (aside_on b k x purposes.Write later later ms h (keeps_write k stages commit t x st later h.outbox key value) tt tt
      (free_lay (b && true) k x s key value opened asked (none_depends (write_call key value) x.in_flight none)) (unsent_all (b && true) ms (All-cons S (message_to_send (next_put x key value)) [] refl (All-nil S))))

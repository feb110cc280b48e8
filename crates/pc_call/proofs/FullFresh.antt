-- Where as many writes were in flight as there may be when the call was asked, as many are where it begins.
use Rattle.std.proofs.Common.{◌≡◌, ℕ, ◌-◌, ◌≤◌, Bool, true, false, cond, not, ◌&&◌, ◌||◌, List, [], ◌∷◌, length, map, refl, sym, ap, ◌∙◌, subst, arith, All, Contains, count_by}
use Rattle.std.specs.List.{list_any}
use Rattle.std.proofs.lemmas.List.Elements.{All-contains, All-head, All-tail, All-weaker}
use Rattle.std.proofs.lemmas.List.Folds.{list_any-append}
use Rattle.std.proofs.lemmas.Option.{same_Some}
use Rattle.pc_base.specs.declared.limits.TheConstants.{MOST_IN_FLIGHT}
use Rattle.pc_base.specs.declared.transaction.TxnId.{TxnId}
use Rattle.pc_call.proofs.Facts.{open_is}
use Rattle.pc_call.proofs.Beside.{heard_first_is}
use Rattle.pc_call.specs.Fresh.{IsFresh, ShowsAlive}
use Rattle.pc_flight.specs.InFlight.{in_flight_as}
use Rattle.pc_follows.specs.Heartbeats.{is_heartbeat}
use Rattle.pc_follows.specs.PipelinedPuts.{IsFull, heard_before, proves, was_in_flight}
use Rattle.pc_lists.proofs.Counts.{count-cons, one_if}
use Rattle.pc_lists.proofs.Lists.{all_from_contains}
use Rattle.pc_proto.specs.declared.reply.Reply.{Reply}
use Rattle.pc_proto.specs.declared.request.Request.{Request}
use Rattle.pc_proto.specs.declared.request.Request.TheVariants as requests
use Rattle.pc_proto.specs.declared.why.Why.{Why}
use Rattle.pc_proto.specs.Requests.{is_put_of}
use Rattle.pc_txn.specs.declared.txn.OpenTxn.{OpenTxn}
use Rattle.pc_txn.specs.Writing.{IsProvedByHeard}
use Rattle.pc_world.specs.Known.{Known}
use Rattle.pc_world.specs.Known.Statements.{Statement}
use Rattle.pc_world.specs.Known.Traffic.{Heard}
use Rattle.pc_world.specs.Known.Transactions.{Txn}
use Rattle.pc_world.specs.Known.Writes.{Write, is_proved, unproved, writes_replied}
use Rattle.pc_world.specs.Tell.Data.{sent_before}

count_as : (p q : Write → Bool) (ws : List Write) → All (λ w. p w ≡ true → q w ≡ true) ws → count_by p ws ≤ count_by q ws
count_as p q [] a = omega arith
count_as p q (w ∷ ws) a = by (p w) refl (q w) refl (count_as p q ws (All-tail (λ w. p w ≡ true → q w ≡ true) w ws a))
  where
    on : p w ≡ true → q w ≡ true
    on = All-head (λ w. p w ≡ true → q w ≡ true) w ws a

    by : (b : Bool) → p w ≡ b → (d : Bool) → q w ≡ d → count_by p ws ≤ count_by q ws → count_by p (w ∷ ws) ≤ count_by q (w ∷ ws)
    by true is true so rest = let one = count-cons p w ws in let two = count-cons q w ws in omega (arith, one, two, ap one_if is, ap one_if so, rest)
    by true is false so rest = let e : false ≡ true = sym so ∙ on is in absurd cc
    by false is d so rest = let one = count-cons p w ws in let two = count-cons q w ws in omega (arith, one, two, ap one_if is, rest)

-- as many are in flight as are not proved
count_unproved : (ws : List Write) → length (map in_flight_as (unproved ws)) ≡ count_by (λ w. not (is_proved w)) ws
count_unproved [] = refl
count_unproved (w ∷ ws) = by (not (is_proved w)) refl (count_unproved ws)
  where
    by : (b : Bool) → not (is_proved w) ≡ b → length (map in_flight_as (unproved ws)) ≡ count_by (λ w. not (is_proved w)) ws → length (map in_flight_as (cond b (w ∷ unproved ws) (unproved ws))) ≡ count_by (λ w. not (is_proved w)) (w ∷ ws)
    by true is rest = let one = count-cons (λ w. not (is_proved w)) w ws in omega (arith, one, ap one_if is, rest)
    by false is rest = let one = count-cons (λ w. not (is_proved w)) w ws in omega (arith, one, ap one_if is, rest)

-- a heartbeat's reply proves nothing
beat_proves : (id : TxnId) (epoch : ℕ) (r : Request) (reply : Reply) (w : Write) → is_heartbeat r ≡ true → list_any is_proved (writes_replied id epoch r reply (record w { proofs = [] } ∷ [])) ≡ false
beat_proves id epoch (requests.Beat meta ts now) reply w is = refl
beat_proves id epoch r reply w is = absurd cc

none_any : {X : Type 0} (p : X → Bool) (xs : List X) → All (λ x. p x ≡ false) xs → list_any p xs ≡ false
none_any p [] a = refl
none_any p (x ∷ xs) a = ap (λ b. b || list_any p xs) (All-head (λ x. p x ≡ false) x xs a) ∙ none_any p xs (All-tail (λ x. p x ≡ false) x xs a)

or_no : (a b : Bool) → b ≡ false → (a || b) ≡ true → a ≡ true
or_no true b isnt e = refl
or_no false b isnt e = let f : false ≡ true = sym isnt ∙ e in absurd cc

and_right : (a b : Bool) → (a && b) ≡ true → b ≡ true
and_right true b e = e
and_right false b e = absurd cc

module _ (loses : Bool) (k : Known) (x : OpenTxn) (s : Statement) (why : Why) (f : IsFresh loses k x s why) where
  proved_before : (w : Write) → Contains f.t.writes w → is_proved w ≡ true → list_any (proves f.t w) (heard_before k) ≡ true
  proved_before w there is =
      let P : Heard → Bool = proves f.t w in
      let all : list_any P k.heard ≡ true = All-contains (IsProvedByHeard f.t k.heard) f.t.writes w f.stands.writes.heard_proved there is in
      let none : list_any P k.heard_now ≡ false = none_any P k.heard_now (All-weaker ShowsAlive (λ h. P h ≡ false) (λ h a. beat_proves f.t.id f.t.epoch h.request h.reply w a.beat) k.heard_now f.heard) in
      let front : list_any P f.split.heard_first ≡ true = or_no (list_any P f.split.heard_first) (list_any P k.heard_now) none (sym (list_any-append P f.split.heard_first k.heard_now) ∙ ap (list_any P) (sym f.split.heard) ∙ all) in
      ap (list_any P) (heard_first_is k f.split) ∙ front

  -- what was in flight is not proved
  still_flies : (w : Write) → Contains f.t.writes w → was_in_flight k f.t w ≡ true → not (is_proved w) ≡ true
  still_flies w there was = by (is_proved w) refl
    where
      by : (b : Bool) → is_proved w ≡ b → not b ≡ true
      by false is = refl
      by true is =
          let un : not (list_any (proves f.t w) (heard_before k)) ≡ true = and_right (list_any (λ m. is_put_of f.t.id f.t.epoch w.seq m.request) (sent_before k)) (not (list_any (proves f.t w) (heard_before k))) was in
          let e : not (list_any (proves f.t w) (heard_before k)) ≡ false = ap not (proved_before w there is) in
          absurd cc

  pub full_flies : IsFull k → MOST_IN_FLIGHT ≤ length x.in_flight
  full_flies full =
      let same : full.0 ≡ f.t = same_Some full.0 f.t (sym full.1 ∙ open_is k f.t f.open_in) in
      let many : MOST_IN_FLIGHT ≤ count_by (was_in_flight k f.t) f.t.writes = subst (λ (t : Txn). MOST_IN_FLIGHT ≤ count_by (was_in_flight k t) t.writes) same full.2 in
      let few : count_by (was_in_flight k f.t) f.t.writes ≤ count_by (λ w. not (is_proved w)) f.t.writes =
      count_as (was_in_flight k f.t) (λ w. not (is_proved w)) f.t.writes (all_from_contains (λ w. was_in_flight k f.t w ≡ true → not (is_proved w) ≡ true) f.t.writes still_flies) in
      let flies : length x.in_flight ≡ count_by (λ w. not (is_proved w)) f.t.writes = ap length f.stands.flight.in_flight ∙ count_unproved f.t.writes in
      omega (arith, many, few, flies)
